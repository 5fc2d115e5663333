-- The test for the same type is equality of types, and the code's types are these.
use Rattle.std.proofs.Common.{◌≡◌, ℕ, true, ◌==◌, if◌then◌else◌, refl, sym, ◌∙◌, ap, arith}
use Rattle.std.proofs.lemmas.Bool.Decides.{nat_tests}
use Rattle.word64.specs.declared.kind.Kind.{Kind}
use Rattle.word64.specs.declared.kind.Kind.TheVariants.{Byte, UByte, Short, UShort, Long, ULong, Integer, UInteger, LongInt, ULongInt, Boolean}
use Rattle.overload_pick.specs.Types.{Plain, Number, Text, Object, Pointer, AnyPointer, number_of, same_type}

-- the kind of a number
abbrev kind_at : ℕ → Kind
kind_at n = if n == 0 then Byte else if n == 1 then UByte else if n == 2 then Short else if n == 3 then UShort else if n == 4 then Long
    else if n == 5 then ULong else if n == 6 then Integer else if n == 7 then UInteger else if n == 8 then LongInt else if n == 9 then ULongInt else Boolean

kind_of_number : (k : Kind) → kind_at (number_of k) ≡ k
kind_of_number Byte = refl
kind_of_number UByte = refl
kind_of_number Short = refl
kind_of_number UShort = refl
kind_of_number Long = refl
kind_of_number ULong = refl
kind_of_number Integer = refl
kind_of_number UInteger = refl
kind_of_number LongInt = refl
kind_of_number ULongInt = refl
kind_of_number Boolean = refl

equal_numbers : (m n : ℕ) → (m == n) ≡ true → m ≡ n
equal_numbers m n e = grind (arith, nat_tests)

number_itself : (n : ℕ) → (n == n) ≡ true
number_itself n = grind (arith, nat_tests)

pub same_is : (one other : Plain) → same_type one other ≡ true → one ≡ other
same_is (Number k) (Number l) e = ap Number (sym (kind_of_number k) ∙ (ap kind_at (equal_numbers (number_of k) (number_of l) e) ∙ kind_of_number l))
same_is Text Text e = refl
same_is (Object m) (Object n) e = ap Object (equal_numbers m n e)
same_is (Pointer s) (Pointer t) e = ap Pointer (same_is s t e)
same_is AnyPointer AnyPointer e = refl
same_is one other e = absurd (cc)

pub itself : (one : Plain) → same_type one one ≡ true
itself (Number k) = number_itself (number_of k)
itself Text = refl
itself (Object n) = number_itself n
itself (Pointer t) = itself t
itself AnyPointer = refl

pub is_same : (one other : Plain) → one ≡ other → same_type one other ≡ true
is_same one other e = rw (← e) (itself one)
