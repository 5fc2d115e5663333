-- First fit: where a string is stored.
use Rattle.std.specs.Prelude.{ℕ, ◌+◌, ◌<◌, ◌≤◌, List, length}
use Rattle.fb_base.specs.declared.shape.Desc.{Desc}
use Rattle.str_heap.specs.Payloads.{blocks, bytes_at}

-- A block is no string's: each string that begins there or before ends before it.
abbrev pub IsNobodys : List (List ℕ) → ℕ → Type 0
IsNobodys heap b = (k : ℕ) → k ≤ b → k + blocks (length (bytes_at heap k)) ≤ b

-- n blocks from a place on are no string's. Behind the arena all are such.
abbrev pub HasRoom : List (List ℕ) → ℕ → ℕ → Type 0
HasRoom heap n place = (b : ℕ) → place ≤ b → b < place + n → IsNobodys heap b

-- A descriptor begins at the first place that has room for its blocks.
pub record IsFirstFit (heap : List (List ℕ)) (d : Desc) : Type 0 where
  pub room : HasRoom heap d.size d.place
  pub first : (place : ℕ) → HasRoom heap d.size place → d.place ≤ place
