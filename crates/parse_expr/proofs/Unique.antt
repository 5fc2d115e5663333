-- Tokens are one tree at most, and each expression is read.
use Rattle.std.proofs.Common.{◌≡◌, ◌≤◌, ℕ, suc, ◌+◌, ◌-◌, List, [], ◌++◌, length, drop, Ok, Err, refl, sym, ap, ◌∙◌, arith, length-append, length-drop}
use Rattle.fb_lexer.specs.declared.token.Token.{Token}
use Rattle.fb_ast.specs.declared.expr.Expr.{Expr}
use Rattle.parse_expr.specs.Reading.{first, Outcome}
use Rattle.parse_expr.specs.Expr.{Measured, expr, told, expr_at}
use Rattle.parse_expr.specs.Grammar.{Expression, Is, IsExpression, EndsBefore}
use Rattle.parse_expr.proofs.Levels.{AtMost, ends_below}
use Rattle.parse_expr.proofs.Turned.{climb_none}
use Rattle.parse_expr.proofs.Complete.{complete}

-- an expression at most so deep is read where nothing goes on with it
pub read_is : (room : ℕ) (front rest : List Token) (tree : Expr) (depth : ℕ) → Is (Expression 1 depth tree) front → depth ≤ suc room → EndsBefore rest
    → expr (suc room) 1 (front ++ rest) ≡ Ok ((tree, depth), rest)
read_is room front rest tree depth is fits ends =
    let below = ends_below 1 rest ends.1 in
    let most : AtMost 1 rest = λ p at. let b = below p at in omega arith in
    (complete is).whole room 1 rest fits (omega arith) (omega arith) ends.0 ends.2 most ∙ climb_none room 1 (tree, depth) rest ends.1

pub nothing_behind : EndsBefore []
unfolding first
nothing_behind = (refl, refl, refl)

tree_or : Expr → Outcome Measured → Expr
tree_or other (Ok x) = x.0.0
tree_or other (Err e) = other

pub one_tree : (ts : List Token) (a b : Expr) → IsExpression ts a → IsExpression ts b → a ≡ b
unfolding tree_or
one_tree ts a b p q =
    let one = read_is 199 ts [] a p.0 p.2 p.1 nothing_behind in
    let other = read_is 199 ts [] b q.0 q.2 q.1 nothing_behind in
    ap (tree_or a) (sym one ∙ other)

-- each expression from a place on is the answer, where nothing goes on with it
pub found : (tokens : List Token) (at : ℕ) (front rest : List Token) (tree : Expr) → at ≤ length tokens → drop at tokens ≡ front ++ rest → IsExpression front tree → EndsBefore rest
    → expr_at tokens at ≡ Ok (tree, at + length front)
found tokens at front rest tree within is e ends =
    let read : expr 200 1 (drop at tokens) ≡ Ok ((tree, e.0), rest) = ap (expr 200 1) is ∙ read_is 199 front rest tree e.0 e.2 e.1 ends in
    let whole : length tokens - at ≡ length front + length rest = sym (length-drop at tokens) ∙ ap length is ∙ length-append front rest in
    let end : length tokens - length rest ≡ at + length front = omega arith in
    ap (told tokens) read ∙ ap (λ (n : ℕ). Ok (tree, n)) end
