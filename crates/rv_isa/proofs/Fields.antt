use Rattle.std.proofs.Common.{◌≡◌, ℕ, ◌^◌, ◌<◌, arith}
use Rattle.rv_isa.specs.Encoding.{Fields, fields_of, word_at}

-- The six fields of a word and the word are the same thing.

pub record AreFields (f : Fields) : Type 0 where
  pub opcode : f.opcode < 2 ^ 7
  pub rd : f.rd < 32
  pub funct3 : f.funct3 < 8
  pub rs1 : f.rs1 < 32
  pub rs2 : f.rs2 < 32
  pub funct7 : f.funct7 < 2 ^ 7

pub same_fields : (f g : Fields) → f.opcode ≡ g.opcode → f.rd ≡ g.rd → f.funct3 ≡ g.funct3 → f.rs1 ≡ g.rs1 → f.rs2 ≡ g.rs2 → f.funct7 ≡ g.funct7 → f ≡ g
same_fields f g o d n a b m = λ i. record { opcode = o i; rd = d i; funct3 = n i; rs1 = a i; rs2 = b i; funct7 = m i }

pub are_fields : (w : ℕ) → AreFields (fields_of w)
are_fields w = record { opcode = omega arith; rd = omega arith; funct3 = omega arith; rs1 = omega arith; rs2 = omega arith; funct7 = omega arith }

pub word_again : (w : ℕ) → w < 2 ^ 32 → word_at (fields_of w) ≡ w
word_again w h = omega arith

pub fields_again : (f : Fields) → AreFields f → fields_of (word_at f) ≡ f
fields_again f g = same_fields (fields_of (word_at f)) f (omega arith) (omega arith) (omega arith) (omega arith) (omega arith) (omega arith)
