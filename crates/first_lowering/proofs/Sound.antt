use Rattle.std.proofs.Common.{◌≡◌, ℕ, zero, suc, ◌+◌, ◌<◌, ◌≤◌, ◌==◌, ◌⊎◌, inl, inr, Bool, true, false, if◌then◌else◌, List, [], ◌∷◌, length, Option, Some, None, arith, refl, sym, ◌∙◌, lit<}
use Rattle.std.proofs.lemmas.Bool.{eqb-true}
use Rattle.mid_code.specs.declared.reg.Reg.{Reg}
use Rattle.mid_code.specs.declared.reg.Reg.TheVariants.{Temp, Var}
use Rattle.mid_code.specs.declared.op.MidOp.{MidOp}
use Rattle.mid_code.specs.Registers.{is_same}
use Rattle.mid_code.specs.Operations.{code_of, op_in}
use Rattle.mid_code.specs.Flow.{reads_of, writes_of, target_of, Live, IsSound}
use Rattle.mid_flow.specs.Structure as c
use Rattle.mid_flow.specs.Structure.{Code, spot}
use Rattle.mid_flow.specs.Flat.{end_of}
use Rattle.mid_flow.specs.Laws.{IsStraight, IsWhole}
use Rattle.mid_flow.specs.Written.{Known, with_known, AreKnown, Begins, Inside, Nowhere, IsWritten}
use Rattle.mid_flow.specs.Written as w
use Rattle.mid_flow.proofs.Safety.{Within, within_more, Safe, live_known}
use Rattle.mid_code.proofs.Marks.{found_below}
use Rattle.mid_flow.proofs.Targets.{flat_targets, flat_length, target_below}
use Rattle.first_language.specs.declared.tree.Operator.{Operator}
use Rattle.first_language.specs.declared.tree.Operator.TheVariants.{Times, Quotient, Remainder, Plus, Minus, Same, Other, Less, AtMost, More, AtLeast}
use Rattle.first_language.specs.Tree.{Tree, Literal, Variable, Parenthesised, Apply, Statement, Declare, DeclareWith, Assign, Print, If, While, Block, End, Then, Program}
use Rattle.first_lowering.specs.Variables.{Uses, IsInner, AreInner, AreDeclared, IsDeclared}
use Rattle.first_lowering.specs.Lowering.{operation, expression, statement, block, call, main_block, last_op, main_ops, lowered}
use Rattle.first_lowering.specs.Meaning.{main_end}
use Rattle.first_lowering.specs.Promise.{LoweringIsSound}
use Rattle.first_lowering.proofs.Beginning.{block_whole, main_stands}

-- the first n variables are known
abbrev pub Has : ℕ → Known → Type 0
Has n known = (x : ℕ) → x < n → known (Var x) ≡ true

-- what is to be shown of the rest, wherever more is known
abbrev pub ForMore : Known → (Known → Type 0) → Type 0
ForMore known P = (more : Known) → Within known more → P more

temp_known : (known : Known) (d : ℕ) → with_known (Some (Temp d)) known (Temp d) ≡ true
temp_known known d = let e : (d == d) ≡ true = grind arith in rw e refl

var_known : (known : Known) (x : ℕ) → with_known (Some (Var x)) known (Var x) ≡ true
var_known known x = let e : (x == x) ≡ true = grind arith in rw e refl

-- each operator reads its two sides, and writes the left one's register
operation_written : (known : Known) (inside : Inside) (op : Operator) (d line : ℕ) (rest : Code) → known (Temp d) ≡ true → known (Temp (suc d)) ≡ true → IsWritten (with_known (Some (Temp d)) known) inside rest → IsWritten known inside (c.Then (operation op d) line rest)
operation_written known inside Times d line rest l r h = (tt, (l, (r, tt)), h)
operation_written known inside Quotient d line rest l r h = (tt, (l, (r, tt)), h)
operation_written known inside Remainder d line rest l r h = (tt, (l, (r, tt)), h)
operation_written known inside Plus d line rest l r h = (tt, (l, (r, tt)), h)
operation_written known inside Minus d line rest l r h = (tt, (l, (r, tt)), h)
operation_written known inside Same d line rest l r h = (tt, (l, (r, tt)), h)
operation_written known inside Other d line rest l r h = (tt, (l, (r, tt)), h)
operation_written known inside Less d line rest l r h = (tt, (l, (r, tt)), h)
operation_written known inside AtMost d line rest l r h = (tt, (l, (r, tt)), h)
operation_written known inside More d line rest l r h = (tt, (r, (l, tt)), h)
operation_written known inside AtLeast d line rest l r h = (tt, (r, (l, tt)), h)

expression_written : (known : Known) (inside : Inside) (n line d : ℕ) (e : Tree) (rest : Code) → Has n known → Uses n e
    → ((more : Known) → Within known more → more (Temp d) ≡ true → IsWritten more inside rest) → IsWritten known inside (expression line d e rest)
expression_written known inside n line d (Literal v) rest has uses f =
    (tt, tt, f (with_known (Some (Temp d)) known) (within_more (Some (Temp d)) known) (temp_known known d))
expression_written known inside n line d (Variable x) rest has uses f =
    (tt, (has x uses, tt), f (with_known (Some (Temp d)) known) (within_more (Some (Temp d)) known) (temp_known known d))
expression_written known inside n line d (Parenthesised e) rest has uses f = expression_written known inside n line d e rest has uses f
expression_written known inside n line d (Apply op left right) rest has uses f =
    expression_written known inside n line d left _ has uses.0 (λ one in_one left_is.
    expression_written one inside n line (suc d) right _ (λ x less. in_one (Var x) (has x less)) uses.1 (λ two in_two right_is.
    operation_written two inside op d line rest (in_two (Temp d) left_is) right_is
    (f (with_known (Some (Temp d)) two) (λ r is. within_more (Some (Temp d)) two r (in_two r (in_one r is))) (temp_known two d))))

expression_begins : (line d : ℕ) (e : Tree) (rest : Code) → Begins (expression line d e rest)
expression_begins line d (Literal v) rest = tt
expression_begins line d (Variable x) rest = tt
expression_begins line d (Parenthesised e) rest = expression_begins line d e rest
expression_begins line d (Apply op left right) rest = expression_begins line d left _

-- a value that is put into a variable
kept_written : (known : Known) (inside : Inside) (n line x : ℕ) (e : Tree) (rest : Code) → Has n known → Uses n e
    → ((more : Known) → Within known more → more (Var x) ≡ true → IsWritten more inside rest) → IsWritten known inside (statement (Assign x e line) rest)
kept_written known inside n line x e rest has uses f =
    expression_written known inside n line 0 e _ has uses (λ more wider first_is.
    (tt, (first_is, tt), f (with_known (Some (Var x)) more) (λ r is. within_more (Some (Var x)) more r (wider r is)) (var_known more x)))

mutual
  statement_written : (known : Known) (inside : Inside) (n : ℕ) (s : Statement) (rest : Code) → Has n known → IsInner n s → ForMore known (λ more. IsWritten more inside rest) → IsWritten known inside (statement s rest)
  statement_written known inside n (Declare x line) rest has inner f = absurd inner
  statement_written known inside n (DeclareWith x e line) rest has inner f = absurd inner
  statement_written known inside n (Assign x e line) rest has inner f = kept_written known inside n line x e rest has inner.1 (λ more wider is. f more wider)
  statement_written known inside n (Print e line) rest has inner f =
      expression_written known inside n line 0 e _ has inner (λ more wider first_is. (lit< tt, (first_is, tt), (lit< tt, tt, f more wider)))
  statement_written known inside n (If test body line) rest has inner f =
      expression_written known inside n line 0 test _ has inner.0 (λ more wider first_is.
      (first_is, block_written more w.Block n body c.End (λ x less. wider (Var x) (has x less)) inner.1 (λ other wide. tt), f more wider))
  statement_written known inside n (While test body line back) rest has inner f = (
    expression_begins line 0 test _,
    expression_written known w.Cycle n line 0 test _ has inner.0 (λ more wider first_is.
        (tt, first_is, block_written more w.Cycle n body (c.Round back) (λ x less. wider (Var x) (has x less)) inner.1 (λ other wide. tt))),
    f known (λ r is. is),
  )

  block_written : (known : Known) (inside : Inside) (n : ℕ) (b : Block) (rest : Code) → Has n known → AreInner n b → ForMore known (λ more. IsWritten more inside rest) → IsWritten known inside (block b rest)
  block_written known inside n End rest has inner f = f known (λ r is. is)
  block_written known inside n (Then first others) rest has inner f =
      statement_written known inside n first _ has inner.0 (λ more wider.
      block_written more inside n others rest (λ x less. wider (Var x) (has x less)) inner.1 (λ other wide. f other (λ r is. wide r (wider r is))))

-- one variable more
has_more : (n x : ℕ) (known more : Known) → Has n known → Within known more → x ≡ n → more (Var x) ≡ true → Has (suc n) more
has_more n x known more has wider e is y less = by_test (y == n) refl
  where
    by_test : (test : Bool) → (y == n) ≡ test → more (Var y) ≡ true
    by_test true h = let same : y ≡ x = eqb-true y n h ∙ sym e in rw same is
    by_test false h = let ne : y < n = grind (arith, h) in wider (Var y) (has y ne)

-- statements outside of blocks
main_written : (known : Known) (inside : Inside) (n : ℕ) (b : Block) (rest : Code) → Has n known → AreDeclared n b → ForMore known (λ more. IsWritten more inside rest) → IsWritten known inside (block b rest)
main_written known inside n End rest has declared f = f known (λ r is. is)
main_written known inside n (Then (Declare x line) others) rest has declared f =
    let more = with_known (Some (Var x)) known in
    (tt, tt, main_written more inside (suc n) others rest (has_more n x known more has (within_more (Some (Var x)) known) declared.0 (var_known known x)) declared.1 (λ other wide. f other (λ r is. wide r (within_more (Some (Var x)) known r is))))
main_written known inside n (Then (DeclareWith x e line) others) rest has declared f =
    kept_written known inside n line x e _ has declared.1 (λ more wider is.
    main_written more inside (suc n) others rest (has_more n x known more has wider declared.0 is) declared.2 (λ other wide. f other (λ r is. wide r (wider r is))))
main_written known inside n (Then (Assign x e line) others) rest has declared f = statement_written known inside n (Assign x e line) _ has declared.0 (λ more wider. main_written more inside n others rest (λ y less. wider (Var y) (has y less)) declared.1 (λ other wide. f other (λ r is. wide r (wider r is))))
main_written known inside n (Then (Print e line) others) rest has declared f = statement_written known inside n (Print e line) _ has declared.0 (λ more wider. main_written more inside n others rest (λ y less. wider (Var y) (has y less)) declared.1 (λ other wide. f other (λ r is. wide r (wider r is))))
main_written known inside n (Then (If test body line) others) rest has declared f = statement_written known inside n (If test body line) _ has declared.0 (λ more wider. main_written more inside n others rest (λ y less. wider (Var y) (has y less)) declared.1 (λ other wide. f other (λ r is. wide r (wider r is))))
main_written known inside n (Then (While test body line back) others) rest has declared f = statement_written known inside n (While test body line back) _ has declared.0 (λ more wider. main_written more inside n others rest (λ y less. wider (Var y) (has y less)) declared.1 (λ other wide. f other (λ r is. wide r (wider r is))))

abbrev pub nothing_known : Known
nothing_known r = false

-- the main module as it begins
main_safe : (p : Program) → IsDeclared p → Safe (code_of (lowered p)) 0 nothing_known 0
main_safe p declared = record {
  code = main_block p;
  open_blocks = c.After (c.Then (call main_end) p.last_line c.Nothing) ∷ [];
  stands = main_stands p;
  written = main_written nothing_known w.Block 0 p.statements c.End (λ x less. absurd (omega arith)) declared (λ more wider. tt);
  blocks = (nothing_known, (λ r is. is), (lit< tt, tt, tt), tt);
}

never : (p : Program) → IsDeclared p → (r : Reg) → Live (code_of (lowered p)) 0 0 r → ⊥
never p declared r live = let e : false ≡ true = live_known (code_of (lowered p)) 0 0 r live nothing_known (main_safe p declared) in cc

exist : (p : Program) (i t : ℕ) (op : MidOp) → op_in (main_ops p) i ≡ Some op → target_of op ≡ Some t → (after : MidOp) × (op_in (main_ops p) t ≡ Some after)
exist p i t op is target =
    let code = main_block p in
    let end = end_of code 0 in
    let whole = block_whole p.statements c.End tt in
    let long = flat_length code (spot end 0 ∷ []) 0 (last_op p ∷ []) whole in
    let below = flat_targets code (spot end 0 ∷ []) 0 (last_op p ∷ []) (suc end) whole (omega arith) (omega arith) (omega arith) (tt, tt) in
    found_below (main_ops p) t (omega (arith, long, target_below (main_ops p) (suc end) i t op below is target))

main_sound : (p : Program) → IsDeclared p → IsSound (code_of (lowered p)) 0
main_sound p declared = record { written = never p declared; targets = exist p }

-- Middle code of a program whose variables are declared reads no register before it is written, and its targets exist.
pub lowering_sound : LoweringIsSound
lowering_sound p declared zero less = main_sound p declared
lowering_sound p declared (suc n) less = absurd (omega arith)
