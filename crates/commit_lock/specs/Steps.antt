-- What each step of a lock tells the seat that makes it: `m` is the seat before, and `n` the seat after.
use Rattle.std.specs.Prelude.{◌≡◌, ◌≢◌, ℕ, ◌+◌, ◌-◌, ◌^◌, ◌<◌, Bool, true, false, List, [], ◌∷◌, length, Option, Some, nat_lt}
use mathlib.Core.List.{IsPrefix}
use Rattle.atomic_table.specs.Seated.{TableId}
use Rattle.atomic_table.specs.Table.{Me}
use Rattle.commit_lock.specs.Views.{TurnSeen, share, BookSeen, page}

-- ---- the turn table. P is what the slot holds while the turn is free.

-- the seat has the slot, with something that fits in it
abbrev pub HasPack : {P : Type 0} → (TableId → P → Type 0) → TableId → List (ℕ × Option P) → Type 0
HasPack {P} Fits book slots = (p : P) × (slots ≡ (0, Some p) ∷ []) × Fits book p

-- the seat has the turn, and the slot
abbrev pub HasTurn : {P : Type 0} → (TableId → P → Type 0) → Me (Option P) TurnSeen → Me (Option P) TurnSeen → Type 0
HasTurn Fits m n = (n.0 ≡ share m.0.book m.0.parts 1) × HasPack Fits n.0.book n.1

-- a take that found the turn free has it, and one that found it taken changed nothing
abbrev pub took : {P : Type 0} → (TableId → P → Type 0) → Me (Option P) TurnSeen → ℕ → Me (Option P) TurnSeen → Type 0
took Fits m found n = (found ≡ 0 → HasTurn Fits m n) × (found ≢ 0 → n ≡ m)

-- a look changes nothing, and tells that the parts are a `u32`
abbrev pub counted : {P : Type 0} → Me (Option P) TurnSeen → Me (Option P) TurnSeen → Type 0
counted m n = (n ≡ m) × (m.0.parts < 2 ^ 32)

-- the turn is given back, and the slot with it
abbrev pub gave : {P : Type 0} → Me (Option P) TurnSeen → Me (Option P) TurnSeen → Type 0
gave m n = n ≡ (share m.0.book m.0.parts 0, [])

-- a split gives the second seat one part and no turn
abbrev pub turn_left : TurnSeen → TurnSeen
turn_left v = share v.book (v.parts - 1) v.turn

abbrev pub turn_right : TurnSeen → TurnSeen
turn_right v = share v.book 1 0

-- a join adds the parts
abbrev pub turn_both : TurnSeen → TurnSeen → TurnSeen
turn_both v w = share v.book (v.parts + w.parts) (v.turn + w.turn)

-- ---- the book table. S is what a slot would hold, of which it has none.

-- the pen has written this list
abbrev pub wrote : {S : Type 0} → List ℕ → Me S BookSeen → Me S BookSeen → Type 0
wrote list m n = n ≡ (page m.0.base list m.0.olds m.0.live m.0.pens, m.1)

-- each of these has the base, and a beginning of what was seen
abbrev pub AreOld : List ℕ → List ℕ → List (List ℕ × List ℕ) → Type 0
AreOld base seen [] = Unit {0}
AreOld base seen (old ∷ olds) = ((old.0 ≡ base) × IsPrefix old.1 seen) × AreOld base seen olds

-- a tell changes nothing, and tells of the seats that were taken in
abbrev pub told : {S : Type 0} → Me S BookSeen → Me S BookSeen → Type 0
told m n = (n ≡ m) × AreOld m.0.base m.0.seen m.0.olds

-- a split gives the second seat the same base and history
abbrev pub book_copy : BookSeen → BookSeen
book_copy v = page v.base v.seen [] v.live 0

abbrev pub pick : {A : Type 0} → Bool → A → A → A
pick true a b = a
pick false a b = b

-- the pen keeps its own history, and another seat the longer one
abbrev pub longer : BookSeen → BookSeen → List ℕ
longer v w = pick (nat_lt 0 v.pens) v.seen (pick (nat_lt (length v.seen) (length w.seen)) w.seen v.seen)

-- a join keeps that history, and remembers both seats
abbrev pub book_both : BookSeen → BookSeen → BookSeen
book_both v w = page v.base (longer v w) ((v.base, v.seen) ∷ (w.base, w.seen) ∷ v.olds) v.live v.pens
