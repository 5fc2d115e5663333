-- The loops of a reading need no more turns than there are tokens, so each is a recursion without a count.
use Rattle.std.proofs.Common.{◌≡◌, ◌≤◌, ◌<◌, ℕ, zero, suc, ◌+◌, nat_lt, List, [], ◌∷◌, length, Option, Some, None, Ok, Err, refl, ap, subst, arith}
use Rattle.fb_lexer.specs.declared.token.Token.{Token}
use Rattle.parse_expr.specs.declared.kinds.Operator.{Operator}
use Rattle.parse_expr.specs.declared.kinds.Suffix.{Suffix}
use Rattle.parse_expr.specs.Reading.{first, next, Outcome, Reader, and_then}
use Rattle.parse_expr.specs.Productions.{suffix_production}
use Rattle.parse_expr.specs.Expr.{Measured, expr, suffix_at, suffix_by, suffixed, suffixes_from, suffixes, operated, climb_by, climb_from, climb, operator_at}
use Rattle.parse_expr.proofs.Sound.{Done, bind, by_test, map_done, IsRead, ProductionRead, production_sound}
use Rattle.parse_expr.proofs.Levels.{small, comes}
use Rattle.parse_expr.proofs.Climbs.{right, goes_on, shorter}

pub same_bind : {A B : Type 0} (P : A → List Token → Type 0) (o : Outcome A) (f g : A → Reader B) → Done P o
    → ((a : A) (rest : List Token) → P a rest → f a rest ≡ g a rest) → and_then o f ≡ and_then o g
same_bind P (Ok p) f g s k = k p.0 p.1 s
same_bind P (Err e) f g s k = refl

abbrev kind_or : Suffix → Option Suffix → Suffix
kind_or other None = other
kind_or other (Some kind) = kind

abbrev operator_or : Operator → Option Operator → Operator
operator_or other None = other
operator_or other (Some operator) = operator

module _ (room : ℕ) where
  abbrev Shorter : List Token → Measured → List Token → Type 0
  Shorter ts y rest = length rest < length ts

  suffixed_shorter : (x : Measured) (kind : Suffix) (ts : List Token) → suffix_at (first ts) ≡ Some kind → Done (Shorter ts) (suffixed (expr room) room x kind ts)
  suffixed_shorter x kind ts at =
      let P : Reader Measured → Type 0 = λ p. Done (Shorter ts) (p ts) in
      let g = goes_on ts kind at in
      by_test P (nat_lt room x.1) _ _ (λ is. tt)
      (λ fits. map_done (ProductionRead room (suffix_production x.0 kind) x.1 (next ts)) (Shorter ts) _ (production_sound room (right room) (suffix_production x.0 kind) x.1 (next ts))
      (λ y rest s. shorter ts (next ts) s.front rest g.token g.is s.is))

  suffix_turn : (n m : ℕ) (x : Measured) (ts : List Token) (o : Option Suffix) → suffix_at (first ts) ≡ o → length ts ≤ suc n → length ts ≤ suc m
      → ((y : Measured) (rest : List Token) → length rest ≤ n → length rest ≤ m → suffixes_from (expr room) room n y rest ≡ suffixes_from (expr room) room m y rest)
      → suffix_by (expr room) room o x (suffixes_from (expr room) room n) ts ≡ suffix_by (expr room) room o x (suffixes_from (expr room) room m) ts
  suffix_turn n m x ts None at p q again = refl
  suffix_turn n m x ts (Some kind) at p q again =
      same_bind (Shorter ts) _ _ _ (suffixed_shorter x kind ts at) (λ y rest less. again y rest (omega arith) (omega arith))

  pub suffix_turns : (n m : ℕ) (x : Measured) (ts : List Token) → length ts ≤ n → length ts ≤ m → suffixes_from (expr room) room n x ts ≡ suffixes_from (expr room) room m x ts
  unfolding suffixes_from first
  suffix_turns zero zero x ts p q = refl
  suffix_turns zero (suc m) x [] p q = refl
  suffix_turns zero (suc m) x (t ∷ ts) p q = absurd (omega arith)
  suffix_turns (suc n) zero x [] p q = refl
  suffix_turns (suc n) zero x (t ∷ ts) p q = absurd (omega arith)
  suffix_turns (suc n) (suc m) x ts p q = suffix_turn n m x ts (suffix_at (first ts)) refl p q (λ y rest a b. suffix_turns n m y rest a b)

  suffixes_by : (x : Measured) (t : Token) (ts : List Token) (kind : Suffix) (o : Option Suffix) → suffix_at (Some t) ≡ o → o ≡ Some kind
      → suffix_by (expr room) room o x (suffixes_from (expr room) room (length ts)) (t ∷ ts) ≡ and_then (suffixed (expr room) room x kind (t ∷ ts)) (suffixes (expr room) room)
  unfolding suffixes first
  suffixes_by x t ts kind None at is = cc
  suffixes_by x t ts kind (Some other) at is =
      let same : other ≡ kind = ap (kind_or kind) is in
      subst (λ (k : Suffix). and_then (suffixed (expr room) room x other (t ∷ ts)) (suffixes_from (expr room) room (length ts)) ≡ and_then (suffixed (expr room) room x k (t ∷ ts)) (suffixes (expr room) room)) same
      (same_bind (Shorter (t ∷ ts)) _ _ _ (suffixed_shorter x other (t ∷ ts) at) (λ y rest less. suffix_turns (length ts) (length rest) y rest (omega arith) (omega arith)))

  -- one suffix, and then the others
  pub suffixes_some : (x : Measured) (kind : Suffix) (t : Token) (ts : List Token) → suffix_at (Some t) ≡ Some kind
      → suffixes (expr room) room x (t ∷ ts) ≡ and_then (suffixed (expr room) room x kind (t ∷ ts)) (suffixes (expr room) room)
  unfolding suffixes suffixes_from first
  suffixes_some x kind t ts at = suffixes_by x t ts kind (suffix_at (Some t)) refl at

  suffixes_stop : (x : Measured) (n : ℕ) (ts : List Token) (o : Option Suffix) → o ≡ None → suffix_by (expr room) room o x (suffixes_from (expr room) room n) ts ≡ Ok (x, ts)
  suffixes_stop x n ts None is = refl
  suffixes_stop x n ts (Some kind) is = cc

  pub suffixes_none : (x : Measured) (ts : List Token) → suffix_at (first ts) ≡ None → suffixes (expr room) room x ts ≡ Ok (x, ts)
  unfolding suffixes suffixes_from first
  suffixes_none x [] at = refl
  suffixes_none x (t ∷ ts) at = suffixes_stop x (length ts) (t ∷ ts) (suffix_at (Some t)) at

  -- ---- operators

  operated_shorter : (least : ℕ) (x : Measured) (operator : Operator) (ts : List Token) → operator_at least (first ts) ≡ Some operator → Done (Shorter ts) (operated (expr room) room x operator ts)
  unfolding operated
  operated_shorter least x operator ts at =
      let P : Reader Measured → Type 0 = λ p. Done (Shorter ts) (p ts) in
      let c = comes least operator ts at in
      by_test P (nat_lt room x.1) _ _ (λ is. tt)
      (λ fits. bind (IsRead room (operator.level + 1) (next ts)) (Shorter ts) (expr room (operator.level + 1) (next ts)) _
      (right room (operator.level + 1) (let s = small c.token.kind (operator.which, operator.level) c.kind in omega arith) (next ts))
      (λ y rest s. shorter ts (next ts) s.front rest c.token c.is s.is))

  climb_turn : (least n m : ℕ) (x : Measured) (ts : List Token) (o : Option Operator) → operator_at least (first ts) ≡ o → length ts ≤ suc n → length ts ≤ suc m
      → ((y : Measured) (rest : List Token) → length rest ≤ n → length rest ≤ m → climb_from (expr room) room least n y rest ≡ climb_from (expr room) room least m y rest)
      → climb_by (expr room) room o x (climb_from (expr room) room least n) ts ≡ climb_by (expr room) room o x (climb_from (expr room) room least m) ts
  climb_turn least n m x ts None at p q again = refl
  climb_turn least n m x ts (Some operator) at p q again =
      same_bind (Shorter ts) _ _ _ (operated_shorter least x operator ts at) (λ y rest less. again y rest (omega arith) (omega arith))

  pub climb_turns : (least n m : ℕ) (x : Measured) (ts : List Token) → length ts ≤ n → length ts ≤ m → climb_from (expr room) room least n x ts ≡ climb_from (expr room) room least m x ts
  unfolding climb_from first
  climb_turns least zero zero x ts p q = refl
  climb_turns least zero (suc m) x [] p q = refl
  climb_turns least zero (suc m) x (t ∷ ts) p q = absurd (omega arith)
  climb_turns least (suc n) zero x [] p q = refl
  climb_turns least (suc n) zero x (t ∷ ts) p q = absurd (omega arith)
  climb_turns least (suc n) (suc m) x ts p q = climb_turn least n m x ts (operator_at least (first ts)) refl p q (λ y rest a b. climb_turns least n m y rest a b)

  climb_more : (least : ℕ) (x : Measured) (t : Token) (ts : List Token) (operator : Operator) (o : Option Operator) → operator_at least (Some t) ≡ o → o ≡ Some operator
      → climb_by (expr room) room o x (climb_from (expr room) room least (length ts)) (t ∷ ts) ≡ and_then (operated (expr room) room x operator (t ∷ ts)) (climb (expr room) room least)
  unfolding climb first
  climb_more least x t ts operator None at is = cc
  climb_more least x t ts operator (Some other) at is =
      let same : other ≡ operator = ap (operator_or operator) is in
      subst (λ (k : Operator). and_then (operated (expr room) room x other (t ∷ ts)) (climb_from (expr room) room least (length ts)) ≡ and_then (operated (expr room) room x k (t ∷ ts)) (climb (expr room) room least)) same
      (same_bind (Shorter (t ∷ ts)) _ _ _ (operated_shorter least x other (t ∷ ts) at) (λ y rest less. climb_turns least (length ts) (length rest) y rest (omega arith) (omega arith)))

  -- one operator, and then the others
  pub climb_some : (least : ℕ) (x : Measured) (operator : Operator) (t : Token) (ts : List Token) → operator_at least (Some t) ≡ Some operator
      → climb (expr room) room least x (t ∷ ts) ≡ and_then (operated (expr room) room x operator (t ∷ ts)) (climb (expr room) room least)
  unfolding climb climb_from first
  climb_some least x operator t ts at = climb_more least x t ts operator (operator_at least (Some t)) refl at

  climb_stop : (least : ℕ) (x : Measured) (n : ℕ) (ts : List Token) (o : Option Operator) → o ≡ None → climb_by (expr room) room o x (climb_from (expr room) room least n) ts ≡ Ok (x, ts)
  climb_stop least x n ts None is = refl
  climb_stop least x n ts (Some operator) is = cc

  pub climb_none : (least : ℕ) (x : Measured) (ts : List Token) → operator_at least (first ts) ≡ None → climb (expr room) room least x ts ≡ Ok (x, ts)
  unfolding climb climb_from first
  climb_none least x [] at = refl
  climb_none least x (t ∷ ts) at = climb_stop least x (length ts) (t ∷ ts) (operator_at least (Some t)) at
