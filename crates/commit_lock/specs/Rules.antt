-- The rules of a lock's two tables: what holds between any two steps.
use Rattle.std.specs.Prelude.{◌≡◌, ℕ, ◌+◌, ◌^◌, ◌<◌, ◌≤◌, List, [], ◌∷◌, length, slice_index, Option, Some}
use mathlib.Core.List.{IsPrefix}
use mathlib.Core.Option.{some}
use lib.ListN.{get_elem?}
use Rattle.atomic_table.specs.Seated.{TableId}
use Rattle.atomic_table.specs.Table.{State}
use Rattle.commit_lock.specs.Views.{TurnSeen, BookSeen}
use Rattle.commit_lock.specs.Steps.{AreOld}

abbrev pub total : {A : Type 0} → (A → ℕ) → List A → ℕ
total f [] = 0
total f (x ∷ xs) = f x + total f xs

-- The turn table of a lock with `whole` parts, whose book table is `book`. The parts of the seats add up to the whole.
-- The word is 1 where one seat holds the turn, and 0 where none does. Where it is 0, the slot has a value with its pen.
pub record Turns (book : TableId) (whole : ℕ) {P : Type 0} (Fits : P → Type 0) (s : State (Option P) TurnSeen) : Type 0 where
  pub one_word : length s.words ≡ 1
  pub few : whole < 2 ^ 32
  pub parts : total (λ v. v.parts) s.views ≡ whole
  pub turns : total (λ v. v.turn) s.views ≡ slice_index s.words 0
  pub most : slice_index s.words 0 ≤ 1
  pub each : (j : ℕ) (v : TurnSeen) → get_elem? s.views j ≡ some v → (v.turn ≤ v.parts) × (0 < v.parts → v.book ≡ book)
  pub home : slice_index s.words 0 ≡ 0 → (p : P) × (get_elem? s.homes 0 ≡ some (some (Some p))) × Fits p

-- A seat of the book table whose pen has the history `last`. It has the base unless it is spent; what it has seen begins
-- the pen's history, and is the pen's history where it is the pen; the seats that it took in have the base and began it.
pub record Knows (base last : List ℕ) (v : BookSeen) : Type 0 where
  pub based : 0 < v.live → v.base ≡ base
  pub known : IsPrefix v.seen last
  pub whole : 0 < v.pens → v.seen ≡ last
  pub olds : AreOld v.base v.seen v.olds

-- the book table: one seat is the pen
pub record Book (base : List ℕ) {S : Type 0} (s : State S BookSeen) : Type 0 where
  pub last : List ℕ
  pub one_pen : total (λ v. v.pens) s.views ≡ 1
  pub each : (j : ℕ) (v : BookSeen) → get_elem? s.views j ≡ some v → Knows base last v
