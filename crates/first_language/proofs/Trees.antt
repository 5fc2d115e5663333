-- What the code keeps of a larger tree is made of what it keeps of its parts.
use mathlib.Core.Former.{this, list_count, list_put}
use mathlib.Core.List.{map as list_map}
use Rattle.std.proofs.Common.{◌≡◌, ℕ, List, [], ◌∷◌, refl, ap}
use Rattle.first_language.specs.declared.tree.Operator.{Operator}
use Rattle.first_language.specs.declared.tree.Expr.{Expr}
use Rattle.first_language.specs.declared.tree.Expr.TheVariants as e
use Rattle.first_language.specs.declared.tree.Stmt.{Stmt}
use Rattle.first_language.specs.declared.tree.Stmt.TheVariants as s
use Rattle.first_language.specs.Tree.{Parenthesised, Apply, If, While, Then, tree_of, statement_of, row_block, block_of}

pub tree_parenthesised : (inside : Expr) → tree_of (e.Parenthesised inside) ≡ Parenthesised (tree_of inside)
unfolding Rattle.first_language.specs.declared.tree.Expr.TheBlock.hidden-the_row-Expr-0 denote.Hole.Carrier.hidden
tree_parenthesised inside = refl

pub tree_apply : (op : Operator) (left right : Expr) → tree_of (e.Apply op left right) ≡ Apply op (tree_of left) (tree_of right)
unfolding Rattle.first_language.specs.declared.tree.Expr.TheBlock.hidden-the_row-Expr-0 denote.Hole.Carrier.hidden
tree_apply op left right = refl

rows : (body : List Stmt) → row_block (Rattle.first_language.specs.declared.tree.Stmt.TheBlock.back-the_row-Stmt (list_count this (list_map (this.shape Stmt) body) 0) (list_put this Stmt body 0 tt)) ≡ block_of body
unfolding Rattle.first_language.specs.declared.tree.Stmt.TheBlock.hidden-the_row-Stmt-0 denote.Hole.Carrier.hidden
rows [] = refl
rows (first ∷ rest) = ap (Then (statement_of first)) (rows rest)

pub statement_if : (test : Expr) (body : List Stmt) (line : ℕ) → statement_of (s.If test body line) ≡ If (tree_of test) (block_of body) line
unfolding Rattle.first_language.specs.declared.tree.Stmt.TheBlock.hidden-the_row-Stmt-0 denote.Hole.Carrier.hidden
statement_if test body line = ap (λ b. If (tree_of test) b line) (rows body)

pub statement_while : (test : Expr) (body : List Stmt) (line back : ℕ) → statement_of (s.While test body line back) ≡ While (tree_of test) (block_of body) line back
unfolding Rattle.first_language.specs.declared.tree.Stmt.TheBlock.hidden-the_row-Stmt-0 denote.Hole.Carrier.hidden
statement_while test body line back = ap (λ b. While (tree_of test) b line back) (rows body)
