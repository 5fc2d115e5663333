-- What the reader of statements keeps.
use Rattle.std.proofs.Common.{◌≡◌, ℕ, suc, ◌+◌, List, [], ◌∷◌, ◌++◌, length, Some, Vec, Global, refl, sym, ◌∙◌, ap, add-one, arith}
use Rattle.first_language.specs.declared.tree.Expr.{Expr}
use Rattle.first_language.specs.declared.tree.Stmt.{Stmt}
use Rattle.first_language.specs.declared.tree.Stmt.TheVariants as s
use Rattle.first_language.specs.declared.line.Line.{Line as KeptLine}
use Rattle.first_language.specs.declared.statements.Opening.{Opening as KeptOpening}
use Rattle.first_language.specs.declared.statements.Opening.TheVariants as o
use Rattle.first_language.specs.declared.statements.Progress.{Progress as KeptProgress}
use Rattle.first_language.specs.Tree.{Then, If, While, tree_of, statement_of, block_of}
use Rattle.first_language.specs.Grammar.{Tokens}
use Rattle.first_language.specs.Reading.{Opening, InIf, InWhile, Progress, with_last, line_of, with_line, with_tokens, without_if, without_while}
use Rattle.first_language.specs.Kept.{said_of, opening_of, stacked, stack_of, progress_of}
use Rattle.first_language.proofs.Trees.{statement_if, statement_while}

stacked_last : (front : List KeptOpening) (last : KeptOpening) (below : List Opening) → stacked (front ++ last ∷ []) below ≡ opening_of last ∷ stacked front below
stacked_last [] last below = refl
stacked_last (first ∷ rest) last below = stacked_last rest last (opening_of first ∷ below)

-- the last of a list comes first
pub stack_last : (front : List KeptOpening) (last : KeptOpening) → stack_of (front ++ last ∷ []) ≡ opening_of last ∷ stack_of front
stack_last front last = stacked_last front last []

stacked_length : (openings : List KeptOpening) (below : List Opening) → length (stacked openings below) ≡ length openings + length below
stacked_length [] below = omega arith
stacked_length (first ∷ rest) below = stacked_length rest (opening_of first ∷ below) ∙ omega arith

pub stack_length : (openings : List KeptOpening) → length (stack_of openings) ≡ length openings
stack_length openings = stacked_length openings [] ∙ omega arith

-- one statement more
pub block_last : (front : List Stmt) (last : Stmt) → block_of (front ++ last ∷ []) ≡ with_last (block_of front) (statement_of last)
block_last [] last = refl
block_last (first ∷ rest) last = ap (Then (statement_of first)) (block_last rest last)

-- an If that ends
pub if_kept : (p : KeptProgress) (front : List KeptOpening) (test : Expr) (line : ℕ) (before : Vec Stmt Global) (pushed body : List Stmt)
    → p.open_blocks.items ≡ front ++ o.InIf test line before ∷ [] → pushed ≡ before.items ++ s.If test body line ∷ [] → body ≡ p.here.items
    → let kept : Progress = record { open_blocks = stack_of front; here = block_of pushed; names = p.names.items; above = p.above + 1 } in Some kept ≡ without_if (progress_of p) (stack_of p.open_blocks.items)
if_kept p front test line before pushed body e f g =
    let h : block_of pushed ≡ with_last (block_of before.items) (If (tree_of test) (block_of p.here.items) line) = ap block_of f ∙ block_last before.items (s.If test body line) ∙ ap (with_last (block_of before.items)) (statement_if test body line ∙ ap (λ x. If (tree_of test) (block_of x) line) g) in
    let stack : stack_of p.open_blocks.items ≡ InIf (tree_of test) line (block_of before.items) ∷ stack_of front = ap stack_of e ∙ stack_last front (o.InIf test line before) in
    rw (stack, h, add-one) refl

-- a While that ends
pub while_kept : (p : KeptProgress) (front : List KeptOpening) (test : Expr) (line : ℕ) (before : Vec Stmt Global) (pushed body : List Stmt)
    → p.open_blocks.items ≡ front ++ o.InWhile test line before ∷ [] → pushed ≡ before.items ++ s.While test body line (p.above + 1) ∷ [] → body ≡ p.here.items
    → let kept : Progress = record { open_blocks = stack_of front; here = block_of pushed; names = p.names.items; above = p.above + 1 } in Some kept ≡ without_while (progress_of p) (stack_of p.open_blocks.items)
while_kept p front test line before pushed body e f g =
    let h : block_of pushed ≡ with_last (block_of before.items) (While (tree_of test) (block_of p.here.items) line (suc p.above)) = ap block_of f ∙ block_last before.items (s.While test body line (p.above + 1)) ∙ ap (with_last (block_of before.items)) (statement_while test body line (p.above + 1) ∙ ap (λ x. While (tree_of test) (block_of x) line (p.above + 1)) g ∙ ap (While (tree_of test) (block_of p.here.items) line) (add-one p.above)) in
    let stack : stack_of p.open_blocks.items ≡ InWhile (tree_of test) line (block_of before.items) ∷ stack_of front = ap stack_of e ∙ stack_last front (o.InWhile test line before) in
    rw (stack, h, add-one) refl

-- a line's tokens say what it says
pub tokens_say : (p : KeptProgress) (tokens : Tokens) (line : KeptLine) → Some (said_of line) ≡ line_of p.names.items (p.above + 1) tokens → with_line (progress_of p) (said_of line) ≡ with_tokens (progress_of p) tokens
tokens_say p tokens line e = let f : line_of p.names.items (suc p.above) tokens ≡ Some (said_of line) = ap (λ n. line_of p.names.items n tokens) (sym (add-one p.above)) ∙ sym e in rw f refl
