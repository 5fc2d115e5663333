-- What the reader of expressions keeps.
use Rattle.std.proofs.Common.{◌≡◌, ℕ, ◌+◌, ◌<◌, List, [], ◌∷◌, ◌++◌, Some, max, refl}
use Rattle.std.proofs.lemmas.Bool.{lt-ltb}
use Rattle.first_language.specs.declared.tree.Operator.{Operator}
use Rattle.first_language.specs.declared.tree.Expr.{Expr}
use Rattle.first_language.specs.declared.tree.Expr.TheVariants as e
use Rattle.first_language.specs.declared.expression.Waiting.{Waiting as KeptWaiting}
use Rattle.first_language.specs.Tree.{tree_of}
use Rattle.first_language.specs.Reading.{Part, Waiting, enclosed, joined}
use Rattle.first_language.specs.Kept.{waiting_of, piled, pile_of}
use Rattle.first_language.proofs.Trees.{tree_parenthesised, tree_apply}

piled_last : (front : List KeptWaiting) (last : KeptWaiting) (below : List Waiting) → piled (front ++ last ∷ []) below ≡ waiting_of last ∷ piled front below
piled_last [] last below = refl
piled_last (first ∷ rest) last below = piled_last rest last (waiting_of first ∷ below)

-- the last of a list comes first
pub pile_last : (front : List KeptWaiting) (last : KeptWaiting) → pile_of (front ++ last ∷ []) ≡ waiting_of last ∷ pile_of front
pile_last front last = piled_last front last []

pub enclosed_kept : (box inside : Expr) (deep : ℕ) → box ≡ inside → deep < 200
    → let kept : Part = record { tree = tree_of (e.Parenthesised box); deep = 1 + deep } in let part : Part = record { tree = tree_of inside; deep = deep } in Some kept ≡ enclosed part
enclosed_kept box inside deep same small = rw (lt-ltb deep 200 small, tree_parenthesised box, same) refl

pub joined_kept : (op : Operator) (first second left right : Expr) (deep a b : ℕ) → first ≡ left → second ≡ right → deep ≡ max a b → deep < 200
    → let kept : Part = record { tree = tree_of (e.Apply op first second); deep = 1 + deep } in
    let one : Part = record { tree = tree_of left; deep = a } in
    let other : Part = record { tree = tree_of right; deep = b } in
    Some kept ≡ joined one op other
joined_kept op first second left right deep a b same same2 most small =
    let less : max a b < 200 = rw (← most) small in
    rw (lt-ltb (max a b) 200 less, tree_apply op first second, same, same2, most) refl
