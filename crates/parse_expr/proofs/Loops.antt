-- One turn of a loop over what goes on with an expression.
use Rattle.std.proofs.Common.{◌≡◌, ◌≤◌, ℕ, suc, List, Option, Some, None, Ok, refl, ap}
use Rattle.fb_lexer.specs.declared.token.Token.{Token}
use Rattle.parse_expr.specs.declared.kinds.Operator.{Operator}
use Rattle.parse_expr.specs.declared.kinds.Suffix.{Suffix}
use Rattle.parse_expr.specs.Reading.{first, Reader, and_then}
use Rattle.parse_expr.specs.Expr.{Measured, suffix_at, suffix_by, suffixed, suffixes_from, operated, climb_by, climb_from, operator_at}
use Rattle.parse_expr.proofs.Levels.{small, comes}

module _ (inner : ℕ → Reader Measured) (room : ℕ) where
  suffix_none_by : (n : ℕ) (x : Measured) (ts : List Token) (o : Option Suffix) → o ≡ None → suffix_by inner room o x (suffixes_from inner room n) ts ≡ Ok (x, ts)
  suffix_none_by n x ts None is = refl
  suffix_none_by n x ts (Some kind) is = cc

  pub suffix_none : (n : ℕ) (x : Measured) (ts : List Token) → suffix_at (first ts) ≡ None → suffixes_from inner room (suc n) x ts ≡ Ok (x, ts)
  unfolding suffixes_from
  suffix_none n x ts is = suffix_none_by n x ts (suffix_at (first ts)) is

  pub suffix_some : (n : ℕ) (x : Measured) (ts : List Token) (kind : Suffix) → suffix_at (first ts) ≡ Some kind → suffixes_from inner room (suc n) x ts ≡ and_then (suffixed inner room x kind ts) (suffixes_from inner room n)
  unfolding suffixes_from
  suffix_some n x ts kind is = ap (λ (o : Option Suffix). suffix_by inner room o x (suffixes_from inner room n) ts) is

  climb_none_by : (least n : ℕ) (x : Measured) (ts : List Token) (o : Option Operator) → o ≡ None → climb_by inner room o x (climb_from inner room least n) ts ≡ Ok (x, ts)
  climb_none_by least n x ts None is = refl
  climb_none_by least n x ts (Some operator) is = cc

  pub climb_none : (least n : ℕ) (x : Measured) (ts : List Token) → operator_at least (first ts) ≡ None → climb_from inner room least (suc n) x ts ≡ Ok (x, ts)
  unfolding climb_from
  climb_none least n x ts is = climb_none_by least n x ts (operator_at least (first ts)) is

  pub climb_some : (least n : ℕ) (x : Measured) (ts : List Token) (operator : Operator) → operator_at least (first ts) ≡ Some operator
      → climb_from inner room least (suc n) x ts ≡ and_then (operated inner room x operator ts) (climb_from inner room least n)
  unfolding climb_from
  climb_some least n x ts operator is = ap (λ (o : Option Operator). climb_by inner room o x (climb_from inner room least n) ts) is

pub level_small : (least : ℕ) (operator : Operator) (ts : List Token) → operator_at least (first ts) ≡ Some operator → operator.level ≤ 13
level_small least operator ts is = let c = comes least operator ts is in small c.token.kind (operator.which, operator.level) c.kind
