-- Types, as plain data.
use Rattle.std.specs.Prelude.{ℕ, Bool, true, false, ◌==◌}
use Rattle.word64.specs.declared.kind.Kind.{Kind}
use Rattle.word64.specs.declared.kind.Kind.TheVariants.{Byte, UByte, Short, UShort, Long, ULong, Integer, UInteger, LongInt, ULongInt, Boolean}
use Rattle.fb_ast.specs.declared.ty.Ty.{Ty, Row_of-Ty, end_of-Ty, more_of-Ty}
use Rattle.fb_ast.specs.declared.ty.Ty.TheVariants as t

-- a type: a whole number or Boolean, String, the Type of a number, a pointer to a type, Any Ptr
pub data Plain : Type 0 where
  Number : (kind : Kind) → Plain
  Text : Plain
  Object : (number : ℕ) → Plain
  Pointer : (target : Plain) → Plain
  AnyPointer : Plain

-- the type that the code keeps
abbrev mutual
  pub type_of : Ty → Plain
  type_of (t.Num kind) = Number kind
  type_of t.Str = Text
  type_of (t.Obj number) = Object number
  type_of (t.Ptr' p target) = Pointer (target_of target)
  type_of t.AnyPtr = AnyPointer

  pub target_of : {m : _} → Row_of-Ty m → Plain
  target_of (more_of-Ty target rest) = type_of target
  -- no box is empty
  target_of end_of-Ty = AnyPointer

-- the numbers of the whole-number types and Boolean, in the order of the Manual's table
abbrev pub number_of : Kind → ℕ
number_of Byte = 0
number_of UByte = 1
number_of Short = 2
number_of UShort = 3
number_of Long = 4
number_of ULong = 5
number_of Integer = 6
number_of UInteger = 7
number_of LongInt = 8
number_of ULongInt = 9
number_of Boolean = 10

-- whether two types are the same
abbrev pub same_type : Plain → Plain → Bool
same_type (Number k) (Number l) = number_of k == number_of l
same_type Text Text = true
same_type (Object m) (Object n) = m == n
same_type (Pointer s) (Pointer t) = same_type s t
same_type AnyPointer AnyPointer = true
same_type one other = false
