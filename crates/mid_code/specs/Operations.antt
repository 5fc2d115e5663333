-- What operators give, and a procedure's list of operations.
use Rattle.std.specs.Prelude.{ℕ, zero, suc, ◌+◌, ◌-◌, ◌*◌, ◌%◌, ◌^◌, Bool, not, ◌==◌, if◌then◌else◌, List, [], ◌∷◌, length, Option, option_map, slice_get}
use Rattle.word64.specs.Words.{div_signed, rem_signed, less_signed}
use Rattle.mid_code.specs.declared.op.WordOp.{WordOp}
use Rattle.mid_code.specs.declared.op.WordOp.TheVariants.{Plus, Minus, Times, LessS, AtMostS, Same, Other}
use Rattle.mid_code.specs.declared.op.Division.{Division}
use Rattle.mid_code.specs.declared.op.Division.TheVariants.{DivS, RemS}
use Rattle.mid_code.specs.declared.op.MidOp.{MidOp}
use Rattle.mid_code.specs.declared.op.LinedOp.{LinedOp}

-- the word of a truth value: all ones, or 0
abbrev pub truth_word : Bool → ℕ
truth_word b = if b then 2 ^ 64 - 1 else 0

-- what an operator gives of two words
abbrev pub combined : WordOp → ℕ → ℕ → ℕ
combined Plus a b = (a + b) % 2 ^ 64
combined Minus a b = (a + (2 ^ 64 - b)) % 2 ^ 64
combined Times a b = (a * b) % 2 ^ 64
combined LessS a b = truth_word (less_signed a b)
combined AtMostS a b = truth_word (not (less_signed b a))
combined Same a b = truth_word (a == b)
combined Other a b = truth_word (not (a == b))

-- what a division gives of a word and one that isn't 0
abbrev pub divided : Division → ℕ → ℕ → ℕ
divided DivS a b = div_signed a b
divided RemS a b = rem_signed a b

-- The operation at a position of a list, and the line there. Behind the last operation there is none, and the line is
-- still the last one; the line of an empty list is 1.
abbrev pub op_in : List LinedOp → ℕ → Option MidOp
op_in ops i = option_map (λ o. o.op) (slice_get ops i)

abbrev pub line_from : ℕ → List LinedOp → ℕ → ℕ
line_from before [] i = before
line_from before (o ∷ ops) zero = o.line
line_from before (o ∷ ops) (suc i) = line_from o.line ops i

abbrev pub line_in : List LinedOp → ℕ → ℕ
line_in ops i = line_from 1 ops i

-- A program as its meaning sees it: how many procedures there are, and by procedure and position the operation and
-- the line. Procedure 0 is the main module.
pub record MidCode : Type 0 where
  pub count : ℕ
  pub op_at : ℕ → ℕ → Option MidOp
  pub line_of : ℕ → ℕ → ℕ

abbrev pub ops_of : List (List LinedOp) → ℕ → List LinedOp
ops_of [] p = []
ops_of (ops ∷ others) zero = ops
ops_of (ops ∷ others) (suc p) = ops_of others p

-- the program of these procedures' lists
abbrev pub code_of : List (List LinedOp) → MidCode
code_of procs = record { count = length procs; op_at = λ p i. op_in (ops_of procs p) i; line_of = λ p i. line_in (ops_of procs p) i }
