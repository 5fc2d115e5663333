-- Each expression is read.
use Rattle.std.proofs.Common.{◌≡◌, ℕ, suc, ◌^◌, ◌<◌, ◌≤◌, List, [], ◌∷◌, ◌++◌, Some, max, refl, ap, sym, ◌∙◌, append_assoc, append-nil, arith}
use Rattle.std.specs.Prelude.{⊤}
use Rattle.std.proofs.lemmas.Bool.{le-leb, lt-ltb, lt-leb}
use Rattle.std.proofs.Math.Nat.{le-max_left, le-max_right}
use Rattle.first_language.specs.declared.tree.Operator.{Operator}
use Rattle.first_language.specs.declared.tree.Operator.TheVariants as o
use Rattle.first_language.specs.declared.token.Token.TheVariants as t
use Rattle.first_language.specs.Tree.{Tree, Parenthesised, Apply, depth}
use Rattle.first_language.specs.Grammar.{Tokens, Names, looseness, IsRow, literal, variable, parenthesised, tighter, apply, IsExpression}
use Rattle.first_language.specs.Reading.{Part, Waiting, Opened, Waits, Wants, Has, joined, enclosed, reduced, read_row, expression_of}

-- a tree with its depth
abbrev pub measured : Tree → Part
measured tree = record { tree = tree; deep = depth tree }

pub loosest : (op : Operator) → looseness op ≤ 4
loosest o.Times = omega arith
loosest o.Quotient = omega arith
loosest o.Remainder = omega arith
loosest o.Plus = omega arith
loosest o.Minus = omega arith
loosest o.Same = omega arith
loosest o.Other = omega arith
loosest o.Less = omega arith
loosest o.AtMost = omega arith
loosest o.More = omega arith
loosest o.AtLeast = omega arith

-- what may stand behind a row: its end, a parenthesis that is closed, or an operator that isn't tighter
data Closes : ℕ → Tokens → Type 0 where
  nothing : (bound : ℕ) → Closes bound []
  close : (bound : ℕ) (rest : Tokens) → Closes bound (t.Close ∷ rest)
  sign : (bound : ℕ) (op : Operator) (rest : Tokens) → bound ≤ suc (looseness op) → Closes bound (t.Sign op ∷ rest)

closes_less : (bound : ℕ) (rest : Tokens) → Closes (suc bound) rest → Closes bound rest
closes_less bound rest (nothing _) = nothing bound
closes_less bound rest (close _ after) = close bound after
closes_less bound rest (sign _ op after h) = sign bound op after (omega arith)

-- what waits takes a row of this bound as a part
abbrev Admits : ℕ → List Waiting → Type 0
Admits bound [] = ⊤
Admits bound (Opened ∷ waiting) = ⊤
Admits bound (Waits left op ∷ waiting) = bound ≤ looseness op

admits_less : (bound : ℕ) (waiting : List Waiting) → Admits (suc bound) waiting → Admits bound waiting
admits_less bound [] h = tt
admits_less bound (Opened ∷ waiting) h = tt
admits_less bound (Waits left op ∷ waiting) h = omega arith

-- nothing is taken in
stays : (bound : ℕ) (part : Part) (waiting : List Waiting) → Admits (suc bound) waiting → reduced bound part waiting ≡ Some (part, waiting)
stays bound part [] h = refl
stays bound part (Opened ∷ waiting) h = refl
stays bound part (Waits left op ∷ waiting) h = rw (lt-leb (looseness op) bound h) refl

both_joined : (op : Operator) (left right : Tree) → depth (Apply op left right) ≤ 200 → joined (measured left) op (measured right) ≡ Some (measured (Apply op left right))
both_joined op left right h = let small : max (depth left) (depth right) < 200 = omega arith in rw (lt-ltb (max (depth left) (depth right)) 200 small) refl

inside_enclosed : (inside : Tree) → depth (Parenthesised inside) ≤ 200 → enclosed (measured inside) ≡ Some (measured (Parenthesised inside))
inside_enclosed inside h = let small : depth inside < 200 = omega arith in rw (lt-ltb (depth inside) 200 small) refl

module _ (names : Names) where
  -- behind a row what waits for it is taken in
  takes_in : (left : Part) (op : Operator) (right part : Part) (waiting : List Waiting) (rest : Tokens) → joined left op right ≡ Some part → Closes (suc (looseness op)) rest
      → read_row names (Has right (Waits left op ∷ waiting)) rest ≡ read_row names (Has part waiting) rest
  takes_in left op right part waiting rest e (nothing _) = rw (le-leb (looseness op) 4 (loosest op), e) refl
  takes_in left op right part waiting rest e (close _ after) = rw (le-leb (looseness op) 4 (loosest op), e) refl
  takes_in left op right part waiting rest e (sign _ other after h) = let less : looseness op ≤ looseness other = omega arith in rw (le-leb (looseness op) (looseness other) less, e) refl

  row_read : (bound : ℕ) (tokens : Tokens) (tree : Tree) (waiting : List Waiting) (rest : Tokens) → IsRow names bound tokens tree → depth tree ≤ 200 → Admits bound waiting → Closes bound rest
      → read_row names (Wants waiting) (tokens ++ rest) ≡ read_row names (Has (measured tree) waiting) rest
  row_read bound tokens tree waiting rest (literal n small) h a c = rw (lt-ltb n (2 ^ 63) small) refl
  row_read bound tokens tree waiting rest (variable name x e) h a c = rw e refl
  row_read bound tokens tree waiting rest (parenthesised inner inside r) h a c =
      ap (read_row names (Wants (Opened ∷ waiting))) (append_assoc inner (t.Close ∷ []) rest)
      ∙ row_read 5 inner inside (Opened ∷ waiting) (t.Close ∷ rest) r (omega arith) tt (close 5 rest)
      ∙ rw (inside_enclosed inside h) refl
  row_read bound tokens tree waiting rest (tighter less _ _ r) h a c = row_read less tokens tree waiting rest r h (admits_less less waiting a) (closes_less less rest c)
  row_read bound tokens tree waiting rest (apply op before after left right r s) h a c =
      ap (read_row names (Wants waiting)) (append_assoc before (t.Sign op ∷ after) rest)
      ∙ row_read (suc (looseness op)) before left waiting (t.Sign op ∷ (after ++ rest)) r (omega (arith, le-max_left (depth left) (depth right))) a (sign _ op (after ++ rest) (omega arith))
      ∙ rw (stays (looseness op) (measured left) waiting a) refl
      ∙ row_read (looseness op) after right (Waits (measured left) op ∷ waiting) rest s (omega (arith, le-max_right (depth left) (depth right))) (omega arith) (closes_less _ rest c)
      ∙ takes_in (measured left) op (measured right) (measured (Apply op left right)) waiting rest (both_joined op left right h) c

  -- Each expression is read, as its tree.
  pub each_expression : (tokens : Tokens) (tree : Tree) → IsExpression names tokens tree → expression_of names tokens ≡ Some tree
  each_expression tokens tree e =
      ap (read_row names (Wants [])) (sym (append-nil tokens))
      ∙ row_read 5 tokens tree [] [] e.row e.shallow tt (nothing 5)
