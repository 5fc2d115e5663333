-- The answer of a reading, against the grammar.
use Rattle.std.proofs.Common.{◌≡◌, ◌≤◌, ℕ, ◌+◌, ◌-◌, List, length, drop, Result, Ok, Err, ap, ◌∙◌, subst, arith, length-append, length-drop}
use Rattle.fb_lexer.specs.declared.token.Token.{Token}
use Rattle.fb_ast.specs.declared.expr.Expr.{Expr}
use Rattle.parse_expr.specs.declared.error.ParseErr.{ParseErr}
use Rattle.parse_expr.specs.Reading.{Outcome}
use Rattle.parse_expr.specs.Expr.{Measured, expr, told, expr_at}
use Rattle.parse_expr.specs.Grammar.{Stands, Expression, Is}
use Rattle.parse_expr.proofs.Sound.{Done, IsRead}
use Rattle.parse_expr.proofs.Climbs.{right}

abbrev ok_or : Expr × ℕ → Result (Expr × ℕ) ParseErr → Expr × ℕ
ok_or other (Ok p) = p
ok_or other (Err e) = other

stands_by : (tokens : List Token) (at end : ℕ) (tree : Expr) → at ≤ length tokens → (o : Outcome Measured) → Done (IsRead 200 1 (drop at tokens)) o
    → told tokens o ≡ Ok (tree, end) → Stands tokens at end tree
stands_by tokens at end tree within (Err e) d is = cc
stands_by tokens at end tree within (Ok x) d is =
    let same : (x.0.0, length tokens - length x.1) ≡ (tree, end) = ap (ok_or (tree, end)) is in
    let whole : length (drop at tokens) ≡ length d.front + length x.1 = ap length d.is ∙ length-append d.front x.1 in
    let left = length-drop at tokens in
    let ends : length tokens - length x.1 ≡ end = ap (λ (p : Expr × ℕ). p.1) same in
    record {
      front = d.front;
      rest = x.1;
      is = d.is;
      behind = omega arith;
      are = subst (λ (e : Expr). (depth : ℕ) × (depth ≤ 200) × Is (Expression 1 depth e) d.front) (ap (λ (p : Expr × ℕ). p.0) same) (x.0.1, d.within, d.are);
    }

pub stands : (tokens : List Token) (at end : ℕ) (tree : Expr) → at ≤ length tokens → expr_at tokens at ≡ Ok (tree, end) → Stands tokens at end tree
stands tokens at end tree within is = stands_by tokens at end tree within (expr 200 1 (drop at tokens)) (right 200 1 (omega arith) (drop at tokens)) is

abbrev rest_or : List Token → Outcome Measured → List Token
rest_or other (Ok p) = p.1
rest_or other (Err e) = other

left_by : (ts : List Token) (x : Measured) (rest : List Token) (o : Outcome Measured) → Done (IsRead 200 1 ts) o → o ≡ Ok (x, rest) → length rest ≤ length ts
left_by ts x rest (Err e) d is = cc
left_by ts x rest (Ok y) d is =
    let same : y.1 ≡ rest = ap (rest_or rest) is in
    let whole : length ts ≡ length d.front + length y.1 = ap length d.is ∙ length-append d.front y.1 in
    let e : length y.1 ≡ length rest = ap length same in
    omega arith

-- no more tokens are left than there were
pub left_within : (ts : List Token) (x : Measured) (rest : List Token) → expr 200 1 ts ≡ Ok (x, rest) → length rest ≤ length ts
left_within ts x rest is = left_by ts x rest (expr 200 1 ts) (right 200 1 (omega arith) ts) is
