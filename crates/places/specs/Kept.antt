-- What the code keeps of a memory.
use Rattle.std.specs.Prelude.{◌≡◌, ℕ, List, map, Option}
use Rattle.std.specs.Option.{option_map}
use Rattle.std.specs.Global.{Box}
use Rattle.places.specs.Place.{Place}
use Rattle.places.specs.Memory.{Places, live_size}
use Rattle.places.specs.Standing.{Stands}

-- the places behind their boxes
abbrev pub places_of : List (Option (Box Place)) → Places
places_of boxes = map (λ o. option_map (λ b. b.value) o) boxes

-- The memory stands, and the bytes of its live places are counted.
pub record IsKept (m : Places) (live : ℕ) : Type 0 where
  pub stands : Stands m
  pub counted : live ≡ live_size m
