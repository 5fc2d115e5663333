-- That a program's variables are declared before they are used, outside of blocks, and numbered in that order.
use Rattle.std.specs.Prelude.{◌≡◌, ℕ, suc, ◌<◌}
use Rattle.first_language.specs.Tree.{Tree, Literal, Variable, Parenthesised, Apply, Statement, Declare, DeclareWith, Assign, Print, If, While, Block, End, Then, Program}

-- the expression has no variables but the first n
abbrev pub Uses : ℕ → Tree → Type 0
Uses n (Literal v) = Unit {0}
Uses n (Variable x) = x < n
Uses n (Parenthesised e) = Uses n e
Uses n (Apply op left right) = Uses n left × Uses n right

-- the statements of a block use no other variables, and declare none
abbrev mutual
  pub IsInner : ℕ → Statement → Type 0
  IsInner n (Declare x line) = ⊥
  IsInner n (DeclareWith x e line) = ⊥
  IsInner n (Assign x e line) = (x < n) × Uses n e
  IsInner n (Print e line) = Uses n e
  IsInner n (If test body line) = Uses n test × AreInner n body
  IsInner n (While test body line back) = Uses n test × AreInner n body

  pub AreInner : ℕ → Block → Type 0
  AreInner n End = Unit {0}
  AreInner n (Then first rest) = IsInner n first × AreInner n rest

-- statements outside of blocks, where n variables are declared before them
abbrev pub AreDeclared : ℕ → Block → Type 0
AreDeclared n End = Unit {0}
AreDeclared n (Then (Declare x line) rest) = (x ≡ n) × AreDeclared (suc n) rest
AreDeclared n (Then (DeclareWith x e line) rest) = (x ≡ n) × Uses n e × AreDeclared (suc n) rest
AreDeclared n (Then first rest) = IsInner n first × AreDeclared n rest

abbrev pub IsDeclared : Program → Type 0
IsDeclared p = AreDeclared 0 p.statements
