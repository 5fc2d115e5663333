-- What the operators give between whole numbers: the type, and the word of 64 bits.
use Rattle.std.specs.Prelude.{ℕ, ◌+◌, ◌-◌, ◌*◌, ◌/◌, ◌%◌, ◌^◌, Bool, true, false, ◌&&◌, ◌||◌, not, nat_lt, ◌==◌, if◌then◌else◌, Option, Some, None, bit_and, bit_or, bit_xor}
use denote.Enum.Bare.{sameb}
use Rattle.word64.specs.contracts.kind.Kind as kind_contracts
use Rattle.word64.specs.declared.kind.Kind.{Kind}
use Rattle.word64.specs.declared.kind.Kind.TheVariants.{Byte, UByte, Short, UShort, Long, ULong, Integer, UInteger, LongInt, ULongInt, Boolean}
use Rattle.word64.specs.Kinds.{has_sign}
use Rattle.word64.specs.Words.{div_signed, rem_signed, less_signed, shift_right_signed}
use Rattle.fb_ast.specs.declared.operator.Binary.{Binary}
use Rattle.fb_ast.specs.declared.operator.Binary.TheVariants.{Multiply, Divide, Mod, Shl, Shr, Add, Subtract, Join, Equal, NotEqual, Less, LessEqual, Greater, GreaterEqual, And, Or, Xor, AndAlso, OrElse}
use Rattle.const_values.specs.declared.outcome.Constant.{Constant}
use Rattle.const_values.specs.declared.outcome.Outcome.{Outcome}
use Rattle.const_values.specs.declared.outcome.Outcome.TheVariants.{Value, NoValue}

-- whether arithmetic with a type is unsigned
abbrev pub is_wide : Kind → Bool
is_wide UInteger = true
is_wide ULongInt = true
is_wide kind = false

-- whether two types are one
unfoldable pub same_kind : Kind → Kind → Bool
same_kind = sameb kind_contracts.the_type

-- the type of what arithmetic gives
abbrev pub common : Kind → Kind → Kind
common k l = if is_wide k || is_wide l then UInteger else Integer

-- the type of an IIf: that of both parts where it is one, else as of arithmetic
abbrev pub merged : Kind → Kind → Kind
merged k l = if same_kind k l then k else common k l

-- True is -1
abbrev pub truth : Bool → ℕ
truth b = if b then 2 ^ 64 - 1 else 0

-- no division by zero has a quotient
abbrev pub quotient : Bool → ℕ → ℕ → Option ℕ
quotient unsigned a b = if b == 0 then None else if unsigned then Some (a / b) else Some (div_signed a b)

abbrev pub remainder : Bool → ℕ → ℕ → Option ℕ
remainder unsigned a b = if b == 0 then None else if unsigned then Some (a % b) else Some (rem_signed a b)

abbrev pub less : Bool → ℕ → ℕ → Bool
less unsigned a b = if unsigned then nat_lt a b else less_signed a b

-- a shift to the right, by the count modulo 64, with the sign or with zeros shifted in
abbrev pub shifted : Bool → ℕ → ℕ → ℕ
shifted with_sign a n = if with_sign then shift_right_signed a (n % 64) else a / 2 ^ (n % 64)

-- the word of an operator between two words, by whether arithmetic is unsigned, and whether the left operand has a sign
abbrev pub word_of : Binary → Bool → Bool → ℕ → ℕ → Option ℕ
word_of Multiply u s a b = Some ((a * b) % 2 ^ 64)
word_of Divide u s a b = quotient u a b
word_of Mod u s a b = remainder u a b
word_of Shl u s a b = Some ((a * 2 ^ (b % 64)) % 2 ^ 64)
word_of Shr u s a b = Some (shifted s a b)
word_of Add u s a b = Some ((a + b) % 2 ^ 64)
word_of Subtract u s a b = Some ((a + (2 ^ 64 - b)) % 2 ^ 64)
-- one text behind another is no whole number
word_of Join u s a b = None
word_of Equal u s a b = Some (truth (a == b))
word_of NotEqual u s a b = Some (truth (not (a == b)))
word_of Less u s a b = Some (truth (less u a b))
word_of LessEqual u s a b = Some (truth (not (less u b a)))
word_of Greater u s a b = Some (truth (less u b a))
word_of GreaterEqual u s a b = Some (truth (not (less u a b)))
word_of And u s a b = Some (bit_and a b)
word_of Or u s a b = Some (bit_or a b)
word_of Xor u s a b = Some (bit_xor a b)
word_of AndAlso u s a b = Some (truth (not (a == 0) && not (b == 0)))
word_of OrElse u s a b = Some (truth (not (a == 0) || not (b == 0)))

-- the type of what an operator gives: comparisons give an Integer
abbrev pub kind_of : Binary → Kind → Kind → Kind
kind_of Equal k l = Integer
kind_of NotEqual k l = Integer
kind_of Less k l = Integer
kind_of LessEqual k l = Integer
kind_of Greater k l = Integer
kind_of GreaterEqual k l = Integer
kind_of AndAlso k l = Integer
kind_of OrElse k l = Integer
kind_of op k l = common k l

abbrev pub valued : Kind → Option ℕ → Outcome
valued k None = NoValue
valued k (Some w) = Value (record { kind = k; word = w })

-- an operator between two values
abbrev pub operated : Binary → Constant → Constant → Outcome
operated op a b = valued (kind_of op a.kind b.kind) (word_of op (is_wide a.kind || is_wide b.kind) (has_sign a.kind) a.word b.word)
