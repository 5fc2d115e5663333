use Rattle.std.proofs.Common.{◌≡◌, ℕ, zero, suc, ◌-◌, ◌%◌, ◌^◌, ◌==◌, Bool, true, false, if◌then◌else◌, List, [], ◌∷◌, Option, Some, None, refl, ap, ◌∙◌, sym}
use Rattle.thread_system.specs.Effect.{Effect, Silent, Turn, Calls, Traps}
use Rattle.thread_system.specs.Simulation.{Quiets, stays, moves as goes, Matches}
use Rattle.thread_system.proofs.Carrying.{quiets_append}
use Rattle.mid_code.specs.declared.reg.Reg.TheVariants.{Temp, Var}
use Rattle.mid_code.specs.declared.op.MidOp.{MidOp}
use Rattle.mid_code.specs.declared.op.MidOp.TheVariants.{Const, Copy, Runtime, Back, Unless}
use Rattle.mid_code.specs.Registers.{Regs, with_reg}
use Rattle.mid_code.specs.Operations.{MidCode}
use Rattle.mid_code.specs.Step.{MidState, moves, sets, does, mid_step}
use Rattle.mid_flow.specs.Structure as c
use Rattle.mid_flow.specs.Structure.{Code, Broken, When, LeaveUnless, Round, Open, After, Looping}
use Rattle.mid_flow.specs.Standing.{Lies, no_blocks, BlocksLie, Stands}
use Rattle.mid_flow.specs.Values.{Holds, bottom, topped}
use Rattle.mid_flow.proofs.Constructs.{Comes, Arrives, Tests, Returns, next_op, begins_when, begins_loop, tests_loop, goes_round, ends_block}
use Rattle.mid_flow.proofs.Heights.{holds_below, holds_more}
use Rattle.first_language.specs.declared.tree.Operator.{Operator}
use Rattle.first_language.specs.declared.tree.Operator.TheVariants.{Times, Quotient, Remainder, Plus, Minus, Same, Other, Less, AtMost, More, AtLeast}
use Rattle.first_language.specs.Tree.{Tree, Literal, Variable, Parenthesised, Apply, Statement, Declare, DeclareWith, Assign, Print, If, While, Block, End, Then}
use Rattle.first_lowering.specs.Meaning.{div_zero, print_signed, print_line, main_end, result_of, lacks_result, Work, Evaluate, Combine, Keep, Show, EndLine, Piece, Do, Run, Next, Pick, Joined, Test, Again, Finish, State, state, with_var, no_argument, one_argument, evaluate, work, begin, act, step}
use Rattle.first_lowering.specs.Lowering.{operation, expression, statement, block, keep, call, call_with_value}
use Rattle.first_lowering.specs.Relation.{Standing, in_front, loop_body, read_as, Fits, Related}

-- broken code stands nowhere
lies_broken : (ops : ℕ → Option MidOp) (lines : ℕ → ℕ) (ss : _) (k : ℕ) → Lies ops lines ss Broken k → ⊥
lies_broken ops lines ss k l = elim l [ ]

not_broken : (m : MidCode) (proc : ℕ) (os : List Open) (k : ℕ) → Stands m proc Broken os k → ⊥
not_broken m proc os k s = lies_broken (m.op_at proc) (m.line_of proc) s.spots k s.lies

-- what is known where a thread has so much to do
abbrev pub Knows : MidCode → List Piece → ℕ → ℕ → ℕ → Type 0
Knows m todo d proc k = Stands m proc (read_as todo d).now (read_as todo d).open_blocks k

-- the same moment, with the middle code at another position
fits_at : (m : MidCode) (todo : List Piece) (values : List ℕ) (vars : ℕ → ℕ) (b : MidState) (d k : ℕ) → Holds b.here.regs d values → ((x : ℕ) → b.here.regs (Var x) ≡ vars x) → Knows m todo d b.here.proc k → Fits m todo values vars (moves b k)
fits_at m todo values vars b d k h g s = record { d = d; values_are = h; vars_are = g; stands = s }

-- the source takes something apart, and the middle code waits
stay : (m : MidCode) (todo : List Piece) (values : List ℕ) (vars : ℕ → ℕ) (b : MidState) (d : ℕ) → Holds b.here.regs d values → ((x : ℕ) → b.here.regs (Var x) ≡ vars x) → Knows m todo d b.here.proc b.here.pos → Matches (Related m) (mid_step m) (Silent (state todo values vars)) b
stay m todo values vars b d h g s = (b, stays b, record { d = d; values_are = h; vars_are = g; stands = s })

-- both do one silent step
silently : (m : MidCode) (a : State) (b next : MidState) (op : MidOp) (line : ℕ) (Known : ℕ → Type 0) → (w : Comes m b op line Known) → does (moves b w.k) line (Some op) ≡ Silent next → Related m a next → Matches (Related m) (mid_step m) (Silent a) b
silently m a b next op line Known w is r = (next, quiets_append (mid_step m) b (moves b w.k) next w.quiet (goes (moves b w.k) next next (w.done ∙ is) (stays next)), r)

-- a value comes on top of those that wait
valued : (m : MidCode) (todo : List Piece) (vars : ℕ → ℕ) (b : MidState) (d v k : ℕ) (values : List ℕ) → Holds b.here.regs d values → ((x : ℕ) → b.here.regs (Var x) ≡ vars x) → Knows m todo (suc d) b.here.proc (suc k) → Fits m todo (v ∷ values) vars (sets (moves b k) (Temp d) v)
valued m todo vars b d v k values h g s = record { d = suc d; values_are = holds_more b.here.regs d v values h; vars_are = g; stands = s }

-- a variable gets a value, and none waits
kept : (m : MidCode) (todo : List Piece) (vars : ℕ → ℕ) (b : MidState) (x v w k : ℕ) → v ≡ w → ((y : ℕ) → b.here.regs (Var y) ≡ vars y) → Knows m todo 0 b.here.proc (suc k) → Fits m todo [] (with_var vars x w) (sets (moves b k) (Var x) v)
kept m todo vars b x v w k e g s =
    record { d = 0; values_are = bottom; vars_are = λ y. rw (e, g y) refl; stands = s }

-- an expression
evaluates : (m : MidCode) (e : Tree) (line : ℕ) (todo : List Piece) (values : List ℕ) (vars : ℕ → ℕ) (b : MidState) (d : ℕ) → Holds b.here.regs d values → ((x : ℕ) → b.here.regs (Var x) ≡ vars x) → Knows m (Next (Evaluate e) line ∷ todo) d b.here.proc b.here.pos → Matches (Related m) (mid_step m) (evaluate e line todo values vars) b
evaluates m (Literal n) line todo values vars b d h g s =
    let w = next_op m b (read_as todo (suc d)).open_blocks (Const (Temp d) n) line (read_as todo (suc d)).now s in
    silently m (state todo (n % 2 ^ 64 ∷ values) vars) b (sets (moves b w.k) (Temp d) (n % 2 ^ 64)) _ line _ w refl (valued m todo vars b d (n % 2 ^ 64) w.k values h g w.known)
evaluates m (Variable x) line todo values vars b d h g s =
    let w = next_op m b (read_as todo (suc d)).open_blocks (Copy (Temp d) (Var x)) line (read_as todo (suc d)).now s in
    silently m (state todo (vars x ∷ values) vars) b (sets (moves b w.k) (Temp d) (vars x)) _ line _ w (ap (λ v. Silent (sets (moves b w.k) (Temp d) v)) (g x)) (valued m todo vars b d (vars x) w.k values h g w.known)
evaluates m (Parenthesised e) line todo values vars b d h g s = stay m (Next (Evaluate e) line ∷ todo) values vars b d h g s
evaluates m (Apply op left right) line todo values vars b d h g s = stay m (Next (Evaluate left) line ∷ Next (Evaluate right) line ∷ Next (Combine op) line ∷ todo) values vars b d h g s

-- an operator that has a result with every right side
combines : (m : MidCode) (op : MidOp) (result line : ℕ) (todo : List Piece) (values : List ℕ) (vars : ℕ → ℕ) (b : MidState) (d : ℕ) → ((k : ℕ) → does (moves b k) line (Some op) ≡ Silent (sets (moves b k) (Temp d) result)) → Holds b.here.regs d values → ((x : ℕ) → b.here.regs (Var x) ≡ vars x) → Stands m b.here.proc (c.Then op line (read_as todo (suc d)).now) (read_as todo (suc d)).open_blocks b.here.pos → Matches (Related m) (mid_step m) (Silent (state todo (result ∷ values) vars)) b
combines m op result line todo values vars b d is h g s =
    let w = next_op m b (read_as todo (suc d)).open_blocks op line (read_as todo (suc d)).now s in
    silently m (state todo (result ∷ values) vars) b (sets (moves b w.k) (Temp d) result) op line _ w (is w.k) (valued m todo vars b d result w.k values h g w.known)

-- a division: where the right side is 0 both trap
divides : (m : MidCode) (op : MidOp) (result line : ℕ) (todo : List Piece) (values : List ℕ) (vars : ℕ → ℕ) (b : MidState) (d : ℕ) (test : Bool) → ((k : ℕ) → does (moves b k) line (Some op) ≡ (if test then Traps div_zero line else Silent (sets (moves b k) (Temp d) result))) → Holds b.here.regs d values → ((x : ℕ) → b.here.regs (Var x) ≡ vars x) → Stands m b.here.proc (c.Then op line (read_as todo (suc d)).now) (read_as todo (suc d)).open_blocks b.here.pos → Matches (Related m) (mid_step m) (if test then Traps div_zero line else Silent (state todo (result ∷ values) vars)) b
divides m op result line todo values vars b d true is h g s =
    let w = next_op m b (read_as todo (suc d)).open_blocks op line (read_as todo (suc d)).now s in
    (moves b w.k, w.quiet, w.done ∙ is w.k)
divides m op result line todo values vars b d false is h g s = combines m op result line todo values vars b d is h g s

-- each operator, between two values that wait
applies : (m : MidCode) (op : Operator) (line : ℕ) (todo : List Piece) (values : List ℕ) (vars : ℕ → ℕ) (b : MidState) (d u v : ℕ) → b.here.regs (Temp d) ≡ u → b.here.regs (Temp (suc d)) ≡ v → Holds b.here.regs d values → ((x : ℕ) → b.here.regs (Var x) ≡ vars x) → Knows m (Next (Combine op) line ∷ todo) (suc (suc d)) b.here.proc b.here.pos → Matches (Related m) (mid_step m) (work (Combine op) line todo (v ∷ u ∷ values) vars) b
applies m Times line todo values vars b d u v e1 e2 h g s = combines m (operation Times d) (result_of Times u v) line todo values vars b d (λ k. rw (e1, e2) refl) h g s
applies m Quotient line todo values vars b d u v e1 e2 h g s = divides m (operation Quotient d) (result_of Quotient u v) line todo values vars b d (v == 0) (λ k. rw (e1, e2) refl) h g s
applies m Remainder line todo values vars b d u v e1 e2 h g s = divides m (operation Remainder d) (result_of Remainder u v) line todo values vars b d (v == 0) (λ k. rw (e1, e2) refl) h g s
applies m Plus line todo values vars b d u v e1 e2 h g s = combines m (operation Plus d) (result_of Plus u v) line todo values vars b d (λ k. rw (e1, e2) refl) h g s
applies m Minus line todo values vars b d u v e1 e2 h g s = combines m (operation Minus d) (result_of Minus u v) line todo values vars b d (λ k. rw (e1, e2) refl) h g s
applies m Same line todo values vars b d u v e1 e2 h g s = combines m (operation Same d) (result_of Same u v) line todo values vars b d (λ k. rw (e1, e2) refl) h g s
applies m Other line todo values vars b d u v e1 e2 h g s = combines m (operation Other d) (result_of Other u v) line todo values vars b d (λ k. rw (e1, e2) refl) h g s
applies m Less line todo values vars b d u v e1 e2 h g s = combines m (operation Less d) (result_of Less u v) line todo values vars b d (λ k. rw (e1, e2) refl) h g s
applies m AtMost line todo values vars b d u v e1 e2 h g s = combines m (operation AtMost d) (result_of AtMost u v) line todo values vars b d (λ k. rw (e1, e2) refl) h g s
applies m More line todo values vars b d u v e1 e2 h g s = combines m (operation More d) (result_of More u v) line todo values vars b d (λ k. rw (e1, e2) refl) h g s
applies m AtLeast line todo values vars b d u v e1 e2 h g s = combines m (operation AtLeast d) (result_of AtLeast u v) line todo values vars b d (λ k. rw (e1, e2) refl) h g s

-- a part of a statement
works : (m : MidCode) (w : Work) (line : ℕ) (todo : List Piece) (values : List ℕ) (vars : ℕ → ℕ) (b : MidState) (d : ℕ) → Holds b.here.regs d values → ((x : ℕ) → b.here.regs (Var x) ≡ vars x) → Knows m (Next w line ∷ todo) d b.here.proc b.here.pos → Matches (Related m) (mid_step m) (work w line todo values vars) b
works m (Evaluate e) line todo values vars b d h g s = evaluates m e line todo values vars b d h g s
works m (Combine op) line todo _ vars b _ (topped _ v _ e2 (topped d u values e1 h)) g s = applies m op line todo values vars b d u v e1 e2 h g s
works m (Keep x) line todo _ vars b _ (topped _ v _ e bottom) g s =
    let w = next_op m b (read_as todo 0).open_blocks (keep x) line (read_as todo 0).now s in
    silently m (state todo [] (with_var vars x v)) b (sets (moves b w.k) (Var x) (b.here.regs (Temp 0))) (keep x) line _ w refl (kept m todo vars b x (b.here.regs (Temp 0)) v w.k e g w.known)
works m Show line todo _ vars b _ (topped _ v _ e bottom) g s =
    let w = next_op m b (read_as todo 0).open_blocks (call_with_value print_signed) line (read_as todo 0).now s in
    (moves b w.k, (λ answer. moves b (suc w.k)), w.quiet, w.done ∙ ap (λ x. Calls print_signed (one_argument x) line (λ answer. moves b (suc w.k))) e, (λ answer. fits_at m todo [] vars b 0 (suc w.k) bottom g w.known))
works m EndLine line todo _ vars b _ bottom g s =
    let w = next_op m b (read_as todo 0).open_blocks (call print_line) line (read_as todo 0).now s in
    (moves b w.k, (λ answer. moves b (suc w.k)), w.quiet, w.done, (λ answer. fits_at m todo [] vars b 0 (suc w.k) bottom g w.known))
works m w line todo values vars b d h g s = absurd (not_broken m b.here.proc _ b.here.pos s)

-- a statement
begins : (m : MidCode) (st : Statement) (todo : List Piece) (values : List ℕ) (vars : ℕ → ℕ) (b : MidState) (d : ℕ) → Holds b.here.regs d values → ((x : ℕ) → b.here.regs (Var x) ≡ vars x) → Knows m (Do st ∷ todo) d b.here.proc b.here.pos → Matches (Related m) (mid_step m) (begin st todo values vars) b
begins m (Declare x line) todo _ vars b _ bottom g s =
    let w = next_op m b (read_as todo 0).open_blocks (Const (Var x) 0) line (read_as todo 0).now s in
    silently m (state todo [] (with_var vars x 0)) b (sets (moves b w.k) (Var x) 0) _ line _ w refl (kept m todo vars b x 0 0 w.k refl g w.known)
begins m (DeclareWith x e line) todo _ vars b _ bottom g s = stay m (Next (Evaluate e) line ∷ Next (Keep x) line ∷ todo) [] vars b 0 bottom g s
begins m (Assign x e line) todo _ vars b _ bottom g s = stay m (Next (Evaluate e) line ∷ Next (Keep x) line ∷ todo) [] vars b 0 bottom g s
begins m (Print e line) todo _ vars b _ bottom g s = stay m (Next (Evaluate e) line ∷ Next Show line ∷ Next EndLine line ∷ todo) [] vars b 0 bottom g s
begins m (If test body line) todo _ vars b _ bottom g s = stay m (Next (Evaluate test) line ∷ Pick body line ∷ todo) [] vars b 0 bottom g s
begins m (While test body line back) todo _ vars b _ bottom g s =
    let w = begins_loop m b (read_as todo 0).open_blocks (loop_body test body line back) (read_as todo 0).now s in
    (moves b w.k, w.quiet, fits_at m (Next (Evaluate test) line ∷ Test test body line back ∷ todo) [] vars b 0 w.k bottom g w.known)
begins m st todo _ vars b _ (topped d v values e h) g s = absurd (not_broken m b.here.proc _ b.here.pos s)

-- the two ways at a test, whose value is the last one
picks : (m : MidCode) (one two : List Piece) (vars : ℕ → ℕ) (b : MidState) (v k target : ℕ) (test : Bool) → (v == 0) ≡ test → b.here.regs (Temp 0) ≡ v → ((x : ℕ) → b.here.regs (Var x) ≡ vars x) → Knows m two 0 b.here.proc (suc k) → Knows m one 0 b.here.proc target → Fits m (if v == 0 then one else two) [] vars (moves (moves b k) (if b.here.regs (Temp 0) == 0 then target else suc k))
picks m one two vars b v k target true is e g inner after = rw (e, is) (fits_at m one [] vars b 0 target bottom g after)
picks m one two vars b v k target false is e g inner after = rw (e, is) (fits_at m two [] vars b 0 (suc k) bottom g inner)

-- one piece
acts : (m : MidCode) (todo : List Piece) (values : List ℕ) (vars : ℕ → ℕ) (b : MidState) (d : ℕ) → Holds b.here.regs d values → ((x : ℕ) → b.here.regs (Var x) ≡ vars x) → Knows m todo d b.here.proc b.here.pos → Matches (Related m) (mid_step m) (act todo values vars) b
acts m [] values vars b d h g s = stay m [] values vars b d h g s
acts m (Do st ∷ todo) values vars b d h g s = begins m st todo values vars b d h g s
acts m (Run End ∷ todo) _ vars b _ bottom g s = stay m todo [] vars b 0 bottom g s
acts m (Run (Then first rest) ∷ todo) _ vars b _ bottom g s = stay m (Do first ∷ Run rest ∷ todo) [] vars b 0 bottom g s
acts m (Next w line ∷ todo) values vars b d h g s = works m w line todo values vars b d h g s
acts m (Pick body line ∷ todo) _ vars b _ (topped _ v _ e bottom) g s =
    let w = begins_when m b (read_as todo 0).open_blocks (Temp 0) line (block body c.End) (read_as todo 0).now s in
    silently m (state (if v == 0 then todo else Run body ∷ Joined ∷ todo) [] vars) b (moves (moves b w.comes.k) (if b.here.regs (Temp 0) == 0 then w.target else suc w.comes.k)) (Unless (Temp 0) w.target) line _ w.comes refl
    (picks m todo (Run body ∷ Joined ∷ todo) vars b v w.comes.k w.target (v == 0) refl e g w.comes.known.0 w.comes.known.1)
acts m (Joined ∷ todo) _ vars b _ bottom g s =
    let w = ends_block m b (read_as todo 0).open_blocks (read_as todo 0).now s in
    (moves b w.k, w.quiet, fits_at m todo [] vars b 0 w.k bottom g w.known)
acts m (Test test body line back ∷ todo) _ vars b _ (topped _ v _ e bottom) g s =
    let w = tests_loop m b (read_as todo 0).open_blocks (Temp 0) line (block body (Round back)) (loop_body test body line back) (read_as todo 0).now s in
    silently m (state (if v == 0 then todo else Run body ∷ Again test body line back ∷ todo) [] vars) b (moves (moves b w.comes.k) (if b.here.regs (Temp 0) == 0 then w.target else suc w.comes.k)) (Unless (Temp 0) w.target) line _ w.comes refl
    (picks m todo (Run body ∷ Again test body line back ∷ todo) vars b v w.comes.k w.target (v == 0) refl e g w.comes.known.0 w.comes.known.1)
acts m (Again test body line back ∷ todo) _ vars b _ bottom g s =
    let w = goes_round m b (read_as todo 0).open_blocks back (loop_body test body line back) (read_as todo 0).now s in
    (moves b w.comes.k, moves b w.target, w.comes.quiet, w.comes.done, fits_at m (Next (Evaluate test) line ∷ Test test body line back ∷ todo) [] vars b 0 w.target bottom g w.comes.known)
acts m (Finish line ∷ todo) _ vars b _ bottom g s =
    let w = next_op m b [] (call main_end) line c.Nothing s in
    (moves b w.k, (λ answer. moves b (suc w.k)), w.quiet, w.done, (λ answer. fits_at m [] [] vars b 0 (suc w.k) bottom g w.known))
acts m (piece ∷ todo) values vars b d h g s = absurd (not_broken m b.here.proc _ b.here.pos s)

-- Middle code carries out the source.
pub lowering_keeps : (m : MidCode) (a : State) (b : MidState) → Related m a b → Matches (Related m) (mid_step m) (step a) b
lowering_keeps m a b r = acts m a.todo a.values a.vars b r.d r.values_are r.vars_are r.stands
