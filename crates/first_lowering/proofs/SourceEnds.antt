-- Between two turns or calls a program takes finitely many steps: each takes something off what is still to do.
use Rattle.std.proofs.Common.{◌≡◌, ℕ, zero, suc, ◌+◌, ◌<◌, Bool, true, false, if◌then◌else◌, ◌==◌, List, [], ◌∷◌, length, refl, arith}
use Rattle.thread_system.specs.Effect.{Effect, Silent, Turn, Calls, Traps}
use Rattle.thread_system.proofs.Answering.{Lessens, ComesToAnEnd, always_ends}
use Rattle.first_language.specs.declared.tree.Operator.{Operator}
use Rattle.first_language.specs.Tree.{Tree, Literal, Variable, Parenthesised, Apply, Statement, Declare, DeclareWith, Assign, Print, If, While, Block, End, Then, Program}
use Rattle.first_lowering.specs.Meaning.{Work, Evaluate, Combine, Keep, Show, EndLine, Piece, Do, Run, Next, Pick, Joined, Test, Again, Finish, State, state, with_var, lacks_result, result_of, step, first_of}

-- What is still to do, beside this many waiting values, finds the values that it needs and ends the main module.
abbrev pub IsReady : List Piece → ℕ → Type 0
IsReady [] d = ⊥
IsReady (Do s ∷ todo) d = IsReady todo d
IsReady (Run b ∷ todo) d = IsReady todo d
IsReady (Next (Evaluate e) line ∷ todo) d = IsReady todo (suc d)
IsReady (Next (Combine op) line ∷ todo) zero = ⊥
IsReady (Next (Combine op) line ∷ todo) (suc zero) = ⊥
IsReady (Next (Combine op) line ∷ todo) (suc (suc d)) = IsReady todo (suc d)
IsReady (Next (Keep x) line ∷ todo) zero = ⊥
IsReady (Next (Keep x) line ∷ todo) (suc d) = IsReady todo d
IsReady (Next Show line ∷ todo) zero = ⊥
IsReady (Next Show line ∷ todo) (suc d) = IsReady todo d
IsReady (Next EndLine line ∷ todo) d = IsReady todo d
IsReady (Pick body line ∷ todo) zero = ⊥
IsReady (Pick body line ∷ todo) (suc d) = IsReady todo d
IsReady (Joined ∷ todo) d = IsReady todo d
IsReady (Test test body line back ∷ todo) zero = ⊥
IsReady (Test test body line back ∷ todo) (suc d) = IsReady todo d
IsReady (Again test body line back ∷ todo) d = IsReady todo d
IsReady (Finish line ∷ todo) d = Unit {0}

abbrev pub IsReadyState : State → Type 0
IsReadyState s = IsReady s.todo (length s.values)

-- ---- how much is still to do up to the next turn

abbrev tree_size : Tree → ℕ
tree_size (Literal n) = 1
tree_size (Variable x) = 1
tree_size (Parenthesised inside) = 1 + tree_size inside
tree_size (Apply op left right) = 2 + tree_size left + tree_size right

abbrev mutual
  statement_size : Statement → ℕ
  statement_size (Declare x line) = 1
  statement_size (DeclareWith x value line) = 2 + tree_size value
  statement_size (Assign x value line) = 2 + tree_size value
  statement_size (Print value line) = 3 + tree_size value
  statement_size (If test body line) = 3 + tree_size test + block_size body
  statement_size (While test body line back) = 3 + tree_size test + block_size body

  block_size : Block → ℕ
  block_size End = 1
  block_size (Then first rest) = 1 + statement_size first + block_size rest

abbrev piece_size : Piece → ℕ
piece_size (Do s) = statement_size s
piece_size (Run b) = block_size b
piece_size (Next (Evaluate e) line) = tree_size e
piece_size (Next w line) = 1
piece_size (Pick body line) = 2 + block_size body
piece_size Joined = 1
piece_size (Test test body line back) = 2 + block_size body
piece_size (Again test body line back) = 1
piece_size (Finish line) = 1

abbrev todo_size : List Piece → ℕ
todo_size [] = 0
todo_size (p ∷ todo) = piece_size p + todo_size todo

abbrev state_size : State → ℕ
state_size s = todo_size s.todo

abbrev LessensAt : List Piece → List ℕ → (ℕ → ℕ) → Type 0
LessensAt todo values vars = Lessens IsReadyState state_size (state todo values vars) (step (state todo values vars))

-- ---- each piece

evaluate_lessens : (e : Tree) (line : ℕ) (todo : List Piece) (values : List ℕ) (vars : ℕ → ℕ) → IsReady todo (suc (length values)) → LessensAt (Next (Evaluate e) line ∷ todo) values vars
evaluate_lessens (Literal n) line todo values vars r = (omega arith, r)
evaluate_lessens (Variable x) line todo values vars r = (omega arith, r)
evaluate_lessens (Parenthesised e) line todo values vars r = (omega arith, r)
evaluate_lessens (Apply op left right) line todo values vars r = (omega arith, r)

combine_lessens : (op : Operator) (line : ℕ) (todo : List Piece) (b a : ℕ) (values : List ℕ) (vars : ℕ → ℕ) → IsReady todo (suc (length values)) → LessensAt (Next (Combine op) line ∷ todo) (b ∷ a ∷ values) vars
combine_lessens op line todo b a values vars r = by_test (lacks_result op b) refl where
  by_test : (t : Bool) → lacks_result op b ≡ t → LessensAt (Next (Combine op) line ∷ todo) (b ∷ a ∷ values) vars
  by_test true e = rw e tt
  by_test false e = rw e (omega arith, r)

pick_lessens : (body : Block) (line : ℕ) (todo : List Piece) (v : ℕ) (values : List ℕ) (vars : ℕ → ℕ) → IsReady todo (length values) → LessensAt (Pick body line ∷ todo) (v ∷ values) vars
pick_lessens body line todo v values vars r = by_test (v == 0) refl where
  by_test : (t : Bool) → v == 0 ≡ t → LessensAt (Pick body line ∷ todo) (v ∷ values) vars
  by_test true e = rw e (omega arith, r)
  by_test false e = rw e (omega arith, r)

test_lessens : (test : Tree) (body : Block) (line back : ℕ) (todo : List Piece) (v : ℕ) (values : List ℕ) (vars : ℕ → ℕ) → IsReady todo (length values) → LessensAt (Test test body line back ∷ todo) (v ∷ values) vars
test_lessens test body line back todo v values vars r = by_test (v == 0) refl where
  by_test : (t : Bool) → v == 0 ≡ t → LessensAt (Test test body line back ∷ todo) (v ∷ values) vars
  by_test true e = rw e (omega arith, r)
  by_test false e = rw e (omega arith, r)

begin_lessens : (s : Statement) (todo : List Piece) (values : List ℕ) (vars : ℕ → ℕ) → IsReady todo (length values) → LessensAt (Do s ∷ todo) values vars
begin_lessens (Declare x line) todo values vars r = (omega arith, r)
begin_lessens (DeclareWith x e line) todo values vars r = (omega arith, r)
begin_lessens (Assign x e line) todo values vars r = (omega arith, r)
begin_lessens (Print e line) todo values vars r = (omega arith, r)
begin_lessens (If test body line) todo values vars r = (omega arith, r)
begin_lessens (While test body line back) todo values vars r = (omega arith, r)

work_lessens : (w : Work) (line : ℕ) (todo : List Piece) (values : List ℕ) (vars : ℕ → ℕ) → IsReady (Next w line ∷ todo) (length values) → LessensAt (Next w line ∷ todo) values vars
work_lessens (Evaluate e) line todo values vars r = evaluate_lessens e line todo values vars r
work_lessens (Combine op) line todo [] vars r = elim r [ ]
work_lessens (Combine op) line todo (b ∷ []) vars r = elim r [ ]
work_lessens (Combine op) line todo (b ∷ a ∷ values) vars r = combine_lessens op line todo b a values vars r
work_lessens (Keep x) line todo [] vars r = elim r [ ]
work_lessens (Keep x) line todo (v ∷ values) vars r = (omega arith, r)
work_lessens Show line todo [] vars r = elim r [ ]
work_lessens Show line todo (v ∷ values) vars r = r
work_lessens EndLine line todo values vars r = r

lessens_at : (todo : List Piece) (values : List ℕ) (vars : ℕ → ℕ) → IsReady todo (length values) → LessensAt todo values vars
lessens_at [] values vars r = elim r [ ]
lessens_at (Do s ∷ todo) values vars r = begin_lessens s todo values vars r
lessens_at (Run End ∷ todo) values vars r = (omega arith, r)
lessens_at (Run (Then first rest) ∷ todo) values vars r = (omega arith, r)
lessens_at (Next w line ∷ todo) values vars r = work_lessens w line todo values vars r
lessens_at (Pick body line ∷ todo) [] vars r = elim r [ ]
lessens_at (Pick body line ∷ todo) (v ∷ values) vars r = pick_lessens body line todo v values vars r
lessens_at (Joined ∷ todo) values vars r = (omega arith, r)
lessens_at (Test test body line back ∷ todo) [] vars r = elim r [ ]
lessens_at (Test test body line back ∷ todo) (v ∷ values) vars r = test_lessens test body line back todo v values vars r
lessens_at (Again test body line back ∷ todo) values vars r = r
lessens_at (Finish line ∷ todo) values vars r = tt

-- A program's segments come to an end, and it goes on well.
pub source_ends : (turns : ℕ) (s : State) → IsReadyState s → ComesToAnEnd step IsReadyState turns s
source_ends turns s r = always_ends step IsReadyState state_size (λ t ready. lessens_at t.todo t.values t.vars ready) turns s r

-- A program begins well.
pub begins_well : (p : Program) → IsReadyState (first_of p)
begins_well p = tt
