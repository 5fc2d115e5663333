-- What the strings of a heap are. The arena is counted in blocks of 16 bytes; a string begins at a block, and contracts
-- see a heap as the list of the strings' bytes by the block where they begin: no bytes where none begins.
use Rattle.std.specs.Prelude.{◌≡◌, ◌≢◌, ℕ, ◌+◌, ◌/◌, ◌<◌, ◌==◌, if◌then◌else◌, List, [], ◌∷◌, length, slice_index_or, take, drop}
use Rattle.fb_base.specs.declared.shape.Desc.{Desc}

-- how many blocks so many bytes take
abbrev pub blocks : ℕ → ℕ
blocks n = (n + 15) / 16

-- the strings in an arena, by the block where they begin, from their lengths
abbrev pub contents : List ℕ → List ℕ → List (List ℕ)
contents [] arena = []
contents (n ∷ lengths) arena = take n arena ∷ contents lengths (drop 16 arena)

-- the bytes of the string that begins at a block
abbrev pub bytes_at : List (List ℕ) → ℕ → List ℕ
bytes_at heap place = slice_index_or heap place []

-- The bytes of a descriptor: place is its first block, length counts its bytes, and size the blocks that it takes.
-- The empty string begins nowhere.
abbrev pub bytes_of : List (List ℕ) → Desc → List ℕ
bytes_of heap d = if d.length == 0 then [] else bytes_at heap d.place

-- A descriptor is live where a string of its length begins at its place, or where it is empty.
pub record IsLive (heap : List (List ℕ)) (d : Desc) : Type 0 where
  pub length : d.length ≡ length (bytes_of heap d)
  pub size : d.size ≡ blocks d.length

-- whether a block isn't where a descriptor's string begins
abbrev pub IsElsewhere : Desc → ℕ → Type 0
IsElsewhere d place = 0 < d.length → place ≢ d.place

-- the strings that begin elsewhere stay as they are
abbrev pub KeepsOthers : Desc → List (List ℕ) → List (List ℕ) → Type 0
KeepsOthers d old new = (place : ℕ) → IsElsewhere d place → bytes_at new place ≡ bytes_at old place

-- a string is stored where none was, and all others stay
pub record Stores (old new : List (List ℕ)) (d : Desc) (bytes : List ℕ) : Type 0 where
  pub live : IsLive new d
  pub holds : bytes_of new d ≡ bytes
  pub fresh : 0 < d.length → bytes_at old d.place ≡ []
  pub others : KeepsOthers d old new

-- a string is no more, and all others stay
pub record Releases (old new : List (List ℕ)) (d : Desc) : Type 0 where
  pub gone : 0 < d.length → bytes_at new d.place ≡ []
  pub others : KeepsOthers d old new

-- one string takes the place of another, and all others stay
pub record Assigns (old new : List (List ℕ)) (d e : Desc) (bytes : List ℕ) : Type 0 where
  pub live : IsLive new e
  pub holds : bytes_of new e ≡ bytes
  pub fresh : 0 < e.length → bytes_at old e.place ≡ []
  pub gone : 0 < d.length → bytes_at new d.place ≡ []
  pub others : (place : ℕ) → IsElsewhere d place → IsElsewhere e place → bytes_at new place ≡ bytes_at old place

-- a string has other bytes, as many as before, and all others stay
pub record Changes (old new : List (List ℕ)) (d : Desc) (bytes : List ℕ) : Type 0 where
  pub live : IsLive new d
  pub holds : bytes_of new d ≡ bytes
  pub others : KeepsOthers d old new

-- two descriptors that aren't of one string
abbrev pub IsApart : Desc → Desc → Type 0
IsApart d e = 0 < d.length → 0 < e.length → d.place ≢ e.place

-- a live descriptor stays live, with its bytes
pub record Keeps (old new : List (List ℕ)) (d : Desc) : Type 0 where
  pub live : IsLive new d
  pub same : bytes_of new d ≡ bytes_of old d
