-- Assignments and calls tell no ExtraText themselves.
use Rattle.std.proofs.Common.{◌≡◌, ℕ, zero, suc, ◌+◌, Bool, true, false, if◌then◌else◌, List, [], ◌∷◌, ◌++◌, length, Option, Some, None, Ok, Err, refl, sym, ◌∙◌, subst, inl, inr, arith}
use Rattle.fb_base.specs.declared.fault.Span.{Span}
use Rattle.fb_base.specs.declared.fault.FaultKind.{FaultKind}
use Rattle.fb_base.specs.declared.fault.FaultKind.TheVariants.{DeepNesting, Expected, ExtraText, OutOfProfile}
use Rattle.fb_lexer.specs.declared.token.Token.{Token}
use Rattle.fb_lexer.specs.declared.token.Mark.TheVariants.{At, Minus, Comma}
use Rattle.fb_ast.specs.declared.expr.Expr.{Expr}
use Rattle.fb_ast.specs.declared.expr.Expr.TheVariants as e
use Rattle.fb_ast.specs.declared.operator.Assignment.{Assignment}
use Rattle.fb_ast.specs.declared.operator.CallWord.{CallWord}
use Rattle.fb_ast.specs.declared.part.Name.{Name}
use Rattle.fb_ast.specs.declared.stmt.Stmt.{Stmt}
use Rattle.fb_ast.specs.declared.stmt.Stmt.TheVariants as k
use Rattle.parse_expr.specs.declared.error.ReadErr.TheVariants as read_errs
use Rattle.parse_expr.specs.Reading.{first, next, sees, refusal, Reader, Outcome, and_then, pure, stop}
use Rattle.parse_expr.specs.Expr.{Measured, expr}
use Rattle.parse_expr.proofs.Sound.{Done, by_test}
use Rattle.parse_expr.proofs.Refused.{refusals}
use Rattle.parse_expr.proofs.Fills.{Failed, FaultOf, Next, failed_then, failed_pure, map_failed}
use Rattle.parse_expr.proofs.Completed.{Whole, NoRoom}
use Rattle.parse_expr.proofs.Begun.{begun}
use Rattle.parse_parts.specs.Steps.{sees_value, no_value, pass_by, repeat, comma_behind}
use Rattle.parse_parts.specs.Steps as steps
use Rattle.parse_parts.specs.Simple.{assignment_at, assign, assign_by, must_assign, may_assign, value_turn, values, arguments, call_name, named, is_call, headed, sees_bare, sees_open_behind, valued, called}
use Rattle.parse_stmt.proofs.Heads.{regroup}
use Rattle.parse_stmt.proofs.Smallest.{exact_name}
use Rattle.parse_stmt.proofs.Plain.{bare_is, name_stands}

abbrev pub Plainly : FaultKind → List Token → Type 0
Plainly kind rest = kind ≡ ExtraText → ⊥

pub both_by : {A : Type 0} (F G : FaultKind → List Token → Type 0) (o : Outcome A) → Failed F o → Failed G o → Failed (λ kind rest. F kind rest × G kind rest) o
both_by F G (Ok p) f g = tt
both_by F G (Err (read_errs.NoMemory, rest)) f g = f
both_by F G (Err (read_errs.Fault kind, rest)) f g = (f, g)

whatever_read : {A : Type 0} (o : Outcome A) → Done (λ (a : A) rest. Unit {0}) o
whatever_read (Ok p) = tt
whatever_read (Err e) = tt

refusal_plain : (ts : List Token) → refusal ts ≡ ExtraText → ⊥
unfolding refusal first
refusal_plain [] is = cc
refusal_plain (t ∷ ts) is = elim (refusals t.kind) [ inl same ↦ (let bad : Expected ≡ ExtraText = sym same ∙ is in cc) | inr same ↦ (let bad : OutOfProfile ≡ ExtraText = sym same.0 ∙ is in cc) ]

module _ (deep : ℕ) where
  abbrev most : ℕ
  most = suc deep

  next_plain : (level : ℕ) (front rest : List Token) (kind : FaultKind) → Next (Whole most level) front rest kind → Plainly kind rest
  next_plain level front rest Expected n is = cc
  next_plain level front rest DeepNesting n is = cc
  next_plain level front rest OutOfProfile n is = cc
  next_plain level front rest kind n is = absurd n

  plain_expr : (level : ℕ) (ts : List Token) → Failed (FaultOf (NoRoom most) (Whole most level) ts) (expr most level ts) → Failed Plainly (expr most level ts)
  plain_expr level ts f = map_failed (FaultOf (NoRoom most) (Whole most level) ts) Plainly (expr most level ts) f (λ kind rest d. next_plain level d.front rest kind d.next)

  plain_whole : (ts : List Token) → Failed Plainly (steps.whole most ts)
  unfolding steps.whole
  plain_whole ts = failed_pure Plainly (expr most 1 ts) (λ (x : Measured). x.0) (plain_expr 1 ts (begun most 1 (omega arith) ts))

  plain_place : (ts : List Token) → Failed Plainly (steps.place most ts)
  unfolding steps.place
  plain_place ts =
      by_test (λ (o : Outcome Expr). Failed Plainly o) (sees At ts) _ _ (λ is e. cc)
      (λ apart. by_test (λ (o : Outcome Expr). Failed Plainly o) (sees Minus ts) _ _ (λ is e. cc)
      (λ other. failed_pure Plainly (expr most 14 ts) (λ (x : Measured). x.0) (plain_expr 14 ts (begun most 14 (omega arith) ts))))

  abbrev more_values : ℕ → List Expr × Bool → Reader (List Expr)
  more_values n q = if q.1 then repeat (value_turn most) n q.0 else pure q.0

  plain_values : (n : ℕ) (found : List Expr) (ts : List Token) → Failed Plainly (repeat (value_turn most) n found ts)
  unfolding repeat value_turn comma_behind
  plain_values zero found ts = refusal_plain ts
  plain_values (suc n) found ts =
      subst (λ (o : Outcome (List Expr)). Failed Plainly o) (regroup (steps.whole most ts) (comma_behind found) (more_values n))
      (failed_then (λ (x : Expr) rest. Unit {0}) Plainly (steps.whole most ts) (λ x rest. and_then (comma_behind found x rest) (more_values n)) (whatever_read (steps.whole most ts)) (plain_whole ts)
      (λ x mid read. by_test (λ (o : Outcome (List Expr × Bool)). Failed Plainly (and_then o (more_values n))) (sees Comma mid) _ _ (λ is. plain_values n (found ++ x ∷ []) (next mid)) (λ is. tt)))

  plain_pass : (ts : List Token) (kind : FaultKind) → Failed {A = List Expr} Plainly (and_then (pass_by kind ts) (λ u. pure []))
  plain_pass ts OutOfProfile = λ e. cc
  plain_pass ts kind = tt

  plain_arguments : (ts : List Token) → Failed Plainly (arguments most ts)
  unfolding arguments values no_value
  plain_arguments ts = by_test (λ (o : Outcome (List Expr)). Failed Plainly o) (sees_value ts) _ _ (λ is. plain_values (length ts + 1) [] ts) (λ is. plain_pass ts (refusal ts))

  plain_assign : (at : Span) (left : Expr) (mid : List Token) (other : Reader Stmt) → Failed Plainly (other mid) → (o : Option (Assignment × Span)) → Failed Plainly (assign_by most at left other o mid)
  unfolding assign
  plain_assign at left mid other fails None = fails
  plain_assign at left mid other fails (Some how) = failed_pure Plainly (steps.whole most (next mid)) (λ (x : Expr). k.Assign at left how.0 how.1 x) (plain_whole (next mid))

  plain_headed : (at : Span) (x : Expr) (mid : List Token) (b : Bool) → Failed Plainly ((if b then may_assign most at x else must_assign most at x) mid)
  unfolding may_assign must_assign
  plain_headed at x mid true = plain_assign at x mid (pure (k.Call at x)) tt (assignment_at (first mid))
  plain_headed at x mid false = plain_assign at x mid (stop Expected) (λ e. cc) (assignment_at (first mid))

  plain_named : (at : Span) (n : Name) (mid : List Token) → Failed Plainly (named most at n mid)
  unfolding named call_name
  plain_named at n mid = plain_assign at (e.Name n.at n.text) mid (call_name most at n) (failed_pure Plainly (arguments most mid) (λ (all : List Expr). k.CallName at n all) (plain_arguments mid)) (assignment_at (first mid))

  pub plain_valued : (at : Span) (ts : List Token) → Failed Plainly (valued most at ts)
  unfolding valued headed
  plain_valued at ts =
      by_test (λ (o : Outcome Stmt). Failed Plainly o) (sees_bare ts) _ _
      (λ is. let n = name_stands ts (bare_is ts is).0 in subst (λ (o : Outcome Name). Failed Plainly (and_then o (named most at))) (sym (exact_name.finds ts n.0 (next ts) n.1 refl)) (plain_named at n.0 (next ts)))
      (λ is. failed_then (λ (x : Expr) rest. Unit {0}) Plainly (steps.place most ts) (headed most at) (whatever_read (steps.place most ts)) (plain_place ts) (λ x mid read. plain_headed at x mid (is_call x)))

  pub plain_called : (at : Span) (which : CallWord) (ts : List Token) → Failed Plainly (called most at which ts)
  unfolding called
  plain_called at which ts =
      by_test (λ (o : Outcome Stmt). Failed Plainly o) (sees_open_behind ts) _ _ (λ is. plain_valued at ts) (λ is. failed_pure Plainly (arguments most (next ts)) (λ (all : List Expr). k.CallWord at which all) (plain_arguments (next ts)))
