use Rattle.std.proofs.Common.{◌≡◌, ℕ, zero, suc, ◌+◌, ◌<◌, ◌≤◌, ◌==◌, Bool, true, false, nat_le, if◌then◌else◌, List, [], ◌∷◌, length, Some, slice_get, refl, ap, sym, ◌∙◌, arith, subst}
use Rattle.std.specs.List.{AllByRecursion}
use Rattle.std.proofs.lemmas.Bool.{eqb-true, ne_eqb, le-leb, lt-leb}
use Rattle.fb_base.specs.declared.shape.LineAt.{LineAt}
use Rattle.fb_image.specs.Format.{AllAlong, IsLine, after_line, AreLines}
use Rattle.fb_image.specs.Lines.{last_line, line_of}
use Rattle.rv_select.specs.declared.lined.LinedInst.{LinedInst}
use Rattle.rv_select.specs.Image.{line_number, lines_from}

-- The line table says each instruction's line.

abbrev entry : ℕ → ℕ → LineAt
entry k l = record { index = k; line = l }

-- an entry at or before an index, and one behind it
taken : (before k l index : ℕ) (ls : List LineAt) → k ≤ index → last_line before (entry k l ∷ ls) index ≡ last_line l ls index
taken before k l index ls le = let e : (if nat_le k index then l else before) ≡ l = rw (le-leb k index le) refl in ap (λ q. last_line q ls index) e

passed : (before k l index : ℕ) (ls : List LineAt) → index < k → last_line before (entry k l ∷ ls) index ≡ last_line before ls index
passed before k l index ls lt = let e : (if nat_le k index then l else before) ≡ before = rw (lt-leb k index lt) refl in ap (λ q. last_line q ls index) e

past_by : (t : Bool) (x : LinedInst) (xs : List LinedInst) (k b before index : ℕ) → index < k → ((c : ℕ) → last_line before (lines_from (suc k) c xs) index ≡ before) → last_line before (if t then lines_from (suc k) b xs else entry k (line_number x) ∷ lines_from (suc k) (line_number x) xs) index ≡ before
past_by true x xs k b before index lt rest = rest b
past_by false x xs k b before index lt rest = passed before k (line_number x) index (lines_from (suc k) (line_number x) xs) lt ∙ rest (line_number x)

-- what stands behind an index says nothing of it
lines_past : (code : List LinedInst) (k b before index : ℕ) → index < k → last_line before (lines_from k b code) index ≡ before
lines_past [] k b before index lt = refl
lines_past (x ∷ xs) k b before index lt = past_by (line_number x == b) x xs k b before index lt (λ c. lines_past xs (suc k) c before index (omega arith))

-- the line of the first instruction, and of one behind it
first_by : (t : Bool) (x : LinedInst) (xs : List LinedInst) (k before : ℕ) → (line_number x == before) ≡ t → last_line before (if t then lines_from (suc k) before xs else entry k (line_number x) ∷ lines_from (suc k) (line_number x) xs) (k + 0) ≡ line_number x
first_by true x xs k before e = lines_past xs (suc k) before before (k + 0) (omega arith) ∙ sym (eqb-true (line_number x) before e)
first_by false x xs k before e = taken before k (line_number x) (k + 0) (lines_from (suc k) (line_number x) xs) (omega arith) ∙ lines_past xs (suc k) (line_number x) (line_number x) (k + 0) (omega arith)

later_by : (t : Bool) (x : LinedInst) (xs : List LinedInst) (k before j line : ℕ) → ((b : ℕ) → last_line b (lines_from (suc k) b xs) (suc k + j) ≡ line) → last_line before (if t then lines_from (suc k) before xs else entry k (line_number x) ∷ lines_from (suc k) (line_number x) xs) (k + suc j) ≡ line
later_by true x xs k before j line rest =
    let e : suc k + j ≡ k + suc j = omega arith in
    rw (← e) (rest before)
later_by false x xs k before j line rest =
    let e : suc k + j ≡ k + suc j = omega arith in
    taken before k (line_number x) (k + suc j) (lines_from (suc k) (line_number x) xs) (omega arith) ∙ rw (← e) (rest (line_number x))

lines_found : (code : List LinedInst) (k before j : ℕ) (i : LinedInst) → slice_get code j ≡ Some i → last_line before (lines_from k before code) (k + j) ≡ line_number i
lines_found [] k before j i is = cc
lines_found (x ∷ xs) k before zero i is = let same : x ≡ i = cc in first_by (line_number x == before) x xs k before refl ∙ ap line_number same
lines_found (x ∷ xs) k before (suc j) i is = later_by (line_number x == before) x xs k before j (line_number i) (λ b. lines_found xs (suc k) b j i is)

abbrev pub AreNumbered : List LinedInst → Type 0
AreNumbered code = AllByRecursion (λ i. 1 ≤ i.line) code

numbered_at : (code : List LinedInst) (k : ℕ) (i : LinedInst) → AreNumbered code → slice_get code k ≡ Some i → 1 ≤ i.line
numbered_at [] k i all is = cc
numbered_at (x ∷ xs) zero i all is = let same : x ≡ i = cc in subst (λ q. 1 ≤ q.line) same all.0
numbered_at (x ∷ xs) (suc k) i all is = numbered_at xs k i all.1 is

-- the line of an instruction
pub line_found : (code : List LinedInst) (k : ℕ) (i : LinedInst) → AreNumbered code → slice_get code k ≡ Some i → line_of (lines_from 0 0 code) k ≡ i.line
line_found code k i all is =
    let e : 0 + k ≡ k = omega arith in
    let some : 1 ≤ i.line = numbered_at code k i all is in
    let n : line_number i ≡ i.line = omega arith in
    rw (← e) (lines_found code 0 0 k i is ∙ n)

-- ---- the rules of the table

rules_by : (t : Bool) (words : ℕ) (x : LinedInst) (xs : List LinedInst) (k b low : ℕ) → 1 ≤ line_number x → 1 ≤ low → low ≤ k → k + suc (length xs) ≤ words
    → ((c low : ℕ) → 1 ≤ low → low ≤ suc k → AllAlong (IsLine words) after_line low (lines_from (suc k) c xs)) → AllAlong (IsLine words) after_line low (if t then lines_from (suc k) b xs else entry k (line_number x) ∷ lines_from (suc k) (line_number x) xs)
rules_by true words x xs k b low number some le within rest = rest b low some (omega arith)
rules_by false words x xs k b low number some le within rest =
    (record { first = λ none. absurd (omega arith); rises = le; within = omega arith; number = number }, rest (line_number x) (k + 1) (omega arith) (omega arith))

rules_behind : (words : ℕ) (code : List LinedInst) (k b low : ℕ) → 1 ≤ low → low ≤ k → k + length code ≤ words → AllAlong (IsLine words) after_line low (lines_from k b code)
rules_behind words [] k b low some le within = tt
rules_behind words (x ∷ xs) k b low some le within =
    rules_by (line_number x == b) words x xs k b low (omega arith) some le within (λ c l some2 le2. rules_behind words xs (suc k) c l some2 le2 (omega arith))

-- the table of code that has some instruction
pub record HasLines (code : List LinedInst) : Type 0 where
  pub some : 1 ≤ length (lines_from 0 0 code)
  pub rules : AreLines (length code) (lines_from 0 0 code)

first_rules : (t : Bool) (x : LinedInst) (xs : List LinedInst) → t ≡ false → (1 ≤ length (if t then lines_from 1 0 xs else entry 0 (line_number x) ∷ lines_from 1 (line_number x) xs)) × AreLines (suc (length xs)) (if t then lines_from 1 0 xs else entry 0 (line_number x) ∷ lines_from 1 (line_number x) xs)
first_rules true x xs e = cc
first_rules false x xs e =
    (omega arith, (record { first = λ none. refl; rises = omega arith; within = omega arith; number = omega arith }, rules_behind (suc (length xs)) xs 1 (line_number x) (0 + 1) (omega arith) (omega arith) (omega arith)))

pub lines_rules : (code : List LinedInst) → 1 ≤ length code → HasLines code
lines_rules [] some = absurd (omega arith)
lines_rules (x ∷ xs) some =
    let w = first_rules (line_number x == 0) x xs (ne_eqb (line_number x) 0 (omega arith)) in
    record { some = w.0; rules = w.1 }
