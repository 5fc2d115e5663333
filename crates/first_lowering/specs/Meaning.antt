-- What a program of the small language does (FreeBASIC Manual: Dim, Let, Print, If, While, Operators): the first kind of
-- thread.
--
-- How this is read: a thread has a list of what it still has to do, the values that wait inside an expression, the
-- last one first, and the values of its variables, all words of 64 bits. A step takes the first piece from the list,
-- and may put pieces in its place. Operands are computed from left to right.
use Rattle.std.specs.Prelude.{ℕ, ◌+◌, ◌-◌, ◌*◌, ◌%◌, ◌^◌, Bool, false, not, ◌==◌, if◌then◌else◌, List, [], ◌∷◌}
use Rattle.thread_system.specs.Effect.{Effect, Silent, Turn, Calls, Traps}
use Rattle.word64.specs.Words.{div_signed, rem_signed, less_signed}
use Rattle.first_language.specs.declared.tree.Operator.{Operator}
use Rattle.first_language.specs.declared.tree.Operator.TheVariants.{Times, Quotient, Remainder, Plus, Minus, Same, Other, Less, AtMost, More, AtLeast}
use Rattle.first_language.specs.Tree.{Tree, Literal, Variable, Parenthesised, Apply, Statement, Declare, DeclareWith, Assign, Print, If, While, Block, End, Then, Program}

-- the kind of the trap at a division by 0
abbrev pub div_zero : ℕ
div_zero = 3

-- the runtime calls that print a signed number, end a line of output, and end the main module
abbrev pub print_signed : ℕ
print_signed = 40

abbrev pub print_line : ℕ
print_line = 45

abbrev pub main_end : ℕ
main_end = 64

-- a truth value as a number: -1 or 0
abbrev pub truth : Bool → ℕ
truth b = if b then 2 ^ 64 - 1 else 0

-- What an operator gives. Numbers are signed and wrap; quotients are rounded toward zero, and the least value by -1
-- gives itself, with remainder 0.
abbrev pub result_of : Operator → ℕ → ℕ → ℕ
result_of Times a b = (a * b) % 2 ^ 64
result_of Quotient a b = div_signed a b
result_of Remainder a b = rem_signed a b
result_of Plus a b = (a + b) % 2 ^ 64
result_of Minus a b = (a + (2 ^ 64 - b)) % 2 ^ 64
result_of Same a b = truth (a == b)
result_of Other a b = truth (not (a == b))
result_of Less a b = truth (less_signed a b)
result_of AtMost a b = truth (not (less_signed b a))
result_of More a b = truth (less_signed b a)
result_of AtLeast a b = truth (not (less_signed a b))

-- whether an operator has no result with this right side
abbrev pub lacks_result : Operator → ℕ → Bool
lacks_result Quotient b = b == 0
lacks_result Remainder b = b == 0
lacks_result op b = false

-- part of a statement
pub data Work : Type 0 where
  -- the value of an expression comes on top of those that wait
  Evaluate : (e : Tree) → Work
  -- the two last values become one
  Combine : (op : Operator) → Work
  -- the last value becomes that of a variable
  Keep : (x : ℕ) → Work
  -- the last value is printed
  Show : Work
  -- a line of output ends
  EndLine : Work

-- What a thread has to do: a statement, statements in a row, part of a statement of some line; and
pub data Piece : Type 0 where
  Do : (s : Statement) → Piece
  Run : (b : Block) → Piece
  Next : (w : Work) (line : ℕ) → Piece
  -- the statements where the last value isn't 0
  Pick : (body : Block) (line : ℕ) → Piece
  -- a block ends
  Joined : Piece
  -- a loop's statements, where the last value isn't 0
  Test : (test : Tree) (body : Block) (line back : ℕ) → Piece
  -- a loop's way back to its test
  Again : (test : Tree) (body : Block) (line back : ℕ) → Piece
  -- the main module ends
  Finish : (line : ℕ) → Piece

pub record State : Type 0 where
  pub todo : List Piece
  pub values : List ℕ
  pub vars : ℕ → ℕ

abbrev pub state : List Piece → List ℕ → (ℕ → ℕ) → State
state todo values vars = record { todo = todo; values = values; vars = vars }

-- the variables with another value of one
abbrev pub with_var : (ℕ → ℕ) → ℕ → ℕ → (ℕ → ℕ)
with_var vars x v = λ y. if y == x then v else vars y

-- All arguments of a runtime call, of which there are four: one that isn't used is 0.
abbrev pub no_argument : List ℕ
no_argument = 0 ∷ 0 ∷ 0 ∷ 0 ∷ []

abbrev pub one_argument : ℕ → List ℕ
one_argument v = v ∷ 0 ∷ 0 ∷ 0 ∷ []

-- The value of an expression, one part after another.
abbrev pub evaluate : Tree → ℕ → List Piece → List ℕ → (ℕ → ℕ) → Effect State
evaluate (Literal n) line todo values vars = Silent (state todo (n % 2 ^ 64 ∷ values) vars)
evaluate (Variable x) line todo values vars = Silent (state todo (vars x ∷ values) vars)
evaluate (Parenthesised e) line todo values vars = Silent (state (Next (Evaluate e) line ∷ todo) values vars)
evaluate (Apply op left right) line todo values vars = Silent (state (Next (Evaluate left) line ∷ Next (Evaluate right) line ∷ Next (Combine op) line ∷ todo) values vars)

-- A part of a statement. There are always as many values as it needs; the last clause says what would be else.
abbrev pub work : Work → ℕ → List Piece → List ℕ → (ℕ → ℕ) → Effect State
work (Evaluate e) line todo values vars = evaluate e line todo values vars
work (Combine op) line todo (b ∷ a ∷ values) vars = if lacks_result op b then Traps div_zero line else Silent (state todo (result_of op a b ∷ values) vars)
work (Keep x) line todo (v ∷ values) vars = Silent (state todo values (with_var vars x v))
work Show line todo (v ∷ values) vars = Calls print_signed (one_argument v) line (λ answer. state todo values vars)
work EndLine line todo values vars = Calls print_line no_argument line (λ answer. state todo values vars)
work w line todo values vars = Silent (state todo values vars)

-- A statement. A variable that is declared without a value is 0.
abbrev pub begin : Statement → List Piece → List ℕ → (ℕ → ℕ) → Effect State
begin (Declare x line) todo values vars = Silent (state todo values (with_var vars x 0))
begin (DeclareWith x e line) todo values vars = Silent (state (Next (Evaluate e) line ∷ Next (Keep x) line ∷ todo) values vars)
begin (Assign x e line) todo values vars = Silent (state (Next (Evaluate e) line ∷ Next (Keep x) line ∷ todo) values vars)
begin (Print e line) todo values vars = Silent (state (Next (Evaluate e) line ∷ Next Show line ∷ Next EndLine line ∷ todo) values vars)
begin (If test body line) todo values vars = Silent (state (Next (Evaluate test) line ∷ Pick body line ∷ todo) values vars)
begin (While test body line back) todo values vars = Silent (state (Next (Evaluate test) line ∷ Test test body line back ∷ todo) values vars)

-- A piece. A condition holds where its value isn't 0. A loop's way back is a turn. After the call that ends the main
-- module the thread does nothing more.
abbrev pub act : List Piece → List ℕ → (ℕ → ℕ) → Effect State
act (Do s ∷ todo) values vars = begin s todo values vars
act (Run End ∷ todo) values vars = Silent (state todo values vars)
act (Run (Then first rest) ∷ todo) values vars = Silent (state (Do first ∷ Run rest ∷ todo) values vars)
act (Next w line ∷ todo) values vars = work w line todo values vars
act (Pick body line ∷ todo) (v ∷ values) vars = Silent (state (if v == 0 then todo else Run body ∷ Joined ∷ todo) values vars)
act (Joined ∷ todo) values vars = Silent (state todo values vars)
act (Test test body line back ∷ todo) (v ∷ values) vars = Silent (state (if v == 0 then todo else Run body ∷ Again test body line back ∷ todo) values vars)
act (Again test body line back ∷ todo) values vars = Turn back (state (Next (Evaluate test) line ∷ Test test body line back ∷ todo) values vars)
act (Finish line ∷ todo) values vars = Calls main_end no_argument line (λ answer. state [] values vars)
act todo values vars = Silent (state todo values vars)

-- One step.
abbrev pub step : State → Effect State
step s = act s.todo s.values s.vars

-- A program as it begins: all variables are 0.
abbrev pub first_of : Program → State
first_of p = state (Run p.statements ∷ Joined ∷ Finish p.last_line ∷ []) [] (λ x. 0)
