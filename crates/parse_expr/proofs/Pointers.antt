-- Ptr and Pointer behind a type, one by one.
use Rattle.std.proofs.Common.{◌≡◌, ◌<◌, ◌+◌, Bool, true, false, List, [], ◌∷◌, length, refl, arith}
use Rattle.fb_lexer.specs.declared.token.Token.{Token}
use Rattle.parse_expr.specs.Words.{is_pointer}
use Rattle.parse_expr.specs.Reading.{first, next}
use Rattle.parse_expr.specs.Types.{sees_pointer, pointers, behind_pointers}

pub one_behind : (ts : List Token) → sees_pointer ts ≡ true → behind_pointers ts ≡ behind_pointers (next ts)
unfolding sees_pointer behind_pointers first next
one_behind [] is = refl
one_behind (t ∷ ts) is = rw is refl

pub one_shorter : (ts : List Token) → sees_pointer ts ≡ true → length (next ts) < length ts
unfolding sees_pointer first next
one_shorter [] is = cc
one_shorter (t ∷ ts) is = omega arith

pub none_behind : (ts : List Token) → sees_pointer ts ≡ false → behind_pointers ts ≡ ts
unfolding sees_pointer behind_pointers first
none_behind [] is = refl
none_behind (t ∷ ts) is = rw is refl

count_if : (t : Token) (ts : List Token) (b : Bool) → is_pointer t.kind ≡ b → length ts ≡ pointers ts + length (behind_pointers ts) → length (t ∷ ts) ≡ pointers (t ∷ ts) + length (behind_pointers (t ∷ ts))
unfolding pointers behind_pointers
count_if t ts true is more = rw is (omega arith)
count_if t ts false is more = rw is (omega arith)

pub count_pointers : (ts : List Token) → length ts ≡ pointers ts + length (behind_pointers ts)
unfolding pointers behind_pointers
count_pointers [] = refl
count_pointers (t ∷ ts) = count_if t ts (is_pointer t.kind) refl (count_pointers ts)
