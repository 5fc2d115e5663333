use Rattle.std.specs.Prelude.{◌≡◌, ℕ, ◌+◌, true, List, [], ◌∷◌, Option, Some, None, is_some, Result, Ok, Err}
use Rattle.thread_system.specs.Effect.{Effect, Silent, Reads, Writes, Turn, Calls, Traps}
use Rattle.thread_system.specs.Memory.{Memory, read, write}
use Rattle.rv_isa.specs.Machine.{Cpu, with_reg, is_trap_call}
use Rattle.rv_isa.specs.declared.inst.Inst.{Inst}
use Rattle.rv_isa.specs.declared.inst.Inst.TheVariants.{Lui, Auipc, Jal, Jalr, Beq, Bne, Blt, Bge, Bltu, Bgeu, Lb, Lh, Lw, Ld, Lbu, Lhu, Lwu, Sb, Sh, Sw, Sd, Addi, Slti, Sltiu, Xori, Ori, Andi, Slli, Srli, Srai, Add, Sub, Sll, Slt, Sltu, Xor, Srl, Sra, Or, And, Mul, Mulh, Mulhsu, Mulhu, Div, Divu, Rem, Remu, Addiw, Slliw, Srliw, Sraiw, Addw, Subw, Sllw, Srlw, Sraw, Mulw, Divw, Divuw, Remw, Remuw, Fence, Ecall, Ebreak}
use Rattle.fb_base.specs.declared.fault.TrapKind.{TrapKind}
use Rattle.fb_base.specs.declared.fault.TrapKind.TheVariants as kinds
use Rattle.fb_base.specs.declared.memory.NoMemory.{NoMemory}
use Rattle.rv_step.specs.Access.{Access, Got, Put, Adds}
use Rattle.rv_step.specs.declared.stop.Stop.{Stop}
use Rattle.rv_step.specs.declared.stop.Stop.TheVariants as stops

-- the numbers of the traps
abbrev pub trap_number : TrapKind → ℕ
trap_number kinds.BadPointer = 1
trap_number kinds.BadFree = 2
trap_number kinds.DivZero = 3
trap_number kinds.Bounds = 4
trap_number kinds.StrIndex = 5
trap_number kinds.BadString = 6
trap_number kinds.StrLimit = 7
trap_number kinds.BadHandle = 8
trap_number kinds.Depth = 9
trap_number kinds.PlaceLimit = 10
trap_number kinds.BadCode = 11

-- the same, with pc at the next instruction
abbrev pub passed : Cpu → Cpu
passed c = record { pc = c.pc + 4; regs = c.regs; bytes = c.bytes }

-- the same, with the answer of a call in its register
abbrev pub answered : Cpu → ℕ → Cpu
answered c v = record { pc = c.pc; regs = with_reg c.regs 10 v; bytes = c.bytes }

-- A call of the runtime stands in the registers, and an answer put into register 10 goes on from it.
pub record IsCall (number : ℕ) (args : List ℕ) (next : ℕ → Cpu) (c : Cpu) : Type 0 where
  pub number_is : number ≡ c.regs 17
  pub args_are : args ≡ c.regs 10 ∷ c.regs 11 ∷ c.regs 12 ∷ c.regs 13 ∷ []
  pub goes_on : (v : ℕ) → next v ≡ answered c v

-- A call that asks for a trap stands in the registers.
pub record IsTrapCall (kind : ℕ) (c : Cpu) : Type 0 where
  pub asked : is_trap_call (c.regs 17) (c.regs 10) ≡ true
  pub kind_is : kind ≡ c.regs 10

-- What a step answers, and what thread and which memory it leaves, where the machine's step has an effect. After a
-- trap and after want of memory all is as before.
abbrev pub StepsTo : Effect Cpu → (c next : Cpu) → (m after : Memory) → Result Stop NoMemory → Type 0
StepsTo effect c next m after (Err e) = (next ≡ c) × (after ≡ m)
StepsTo (Silent then) c next m after (Ok stops.Next) = (next ≡ then) × (after ≡ m)
StepsTo (Silent then) c next m after (Ok stops.Turn) = ⊥
StepsTo (Silent then) c next m after (Ok stops.Call) = ⊥
StepsTo (Silent then) c next m after (Ok (stops.Trap kind)) = ⊥
StepsTo (Reads addr width line then) c next m after (Ok stops.Next) = ((v : ℕ) × (read m addr width ≡ Some v) × (next ≡ then v)) × (after ≡ m)
StepsTo (Reads addr width line then) c next m after (Ok stops.Turn) = ⊥
StepsTo (Reads addr width line then) c next m after (Ok stops.Call) = ⊥
StepsTo (Reads addr width line then) c next m after (Ok (stops.Trap kind)) = (read m addr width ≡ None) × (kind ≡ kinds.BadPointer) × (next ≡ c) × (after ≡ m)
StepsTo (Writes addr width value line then) c next m after (Ok stops.Next) = (write m addr width value ≡ Some after) × (next ≡ then)
StepsTo (Writes addr width value line then) c next m after (Ok stops.Turn) = ⊥
StepsTo (Writes addr width value line then) c next m after (Ok stops.Call) = ⊥
StepsTo (Writes addr width value line then) c next m after (Ok (stops.Trap kind)) = (write m addr width value ≡ None) × (kind ≡ kinds.BadPointer) × (next ≡ c) × (after ≡ m)
StepsTo (Turn line then) c next m after (Ok stops.Turn) = (next ≡ then) × (after ≡ m)
StepsTo (Turn line then) c next m after (Ok stops.Next) = ⊥
StepsTo (Turn line then) c next m after (Ok stops.Call) = ⊥
StepsTo (Turn line then) c next m after (Ok (stops.Trap kind)) = ⊥
StepsTo (Calls number args line then) c next m after (Ok stops.Call) = (next ≡ passed c) × IsCall number args then next × (after ≡ m)
StepsTo (Calls number args line then) c next m after (Ok stops.Next) = ⊥
StepsTo (Calls number args line then) c next m after (Ok stops.Turn) = ⊥
StepsTo (Calls number args line then) c next m after (Ok (stops.Trap kind)) = ⊥
StepsTo (Traps number line) c next m after (Ok stops.Call) = (next ≡ passed c) × IsTrapCall number next × (after ≡ m)
StepsTo (Traps number line) c next m after (Ok (stops.Trap kind)) = (number ≡ trap_number kind) × (next ≡ c) × (after ≡ m)
StepsTo (Traps number line) c next m after (Ok stops.Next) = ⊥
StepsTo (Traps number line) c next m after (Ok stops.Turn) = ⊥

-- Whether an answer is a call.
abbrev pub NoCall : Result Stop NoMemory → Type 0
NoCall (Err e) = Unit {0}
NoCall (Ok stops.Next) = Unit {0}
NoCall (Ok stops.Turn) = Unit {0}
NoCall (Ok stops.Call) = ⊥
NoCall (Ok (stops.Trap kind)) = Unit {0}

-- A call is answered exactly where the instruction is ECALL.
abbrev pub CallsFor : Inst → Result Stop NoMemory → Type 0
CallsFor Ecall r = r ≡ Ok stops.Call
CallsFor i r = NoCall r

abbrev pub CallsAt : Option Inst → Result Stop NoMemory → Type 0
CallsAt None r = NoCall r
CallsAt (Some i) r = CallsFor i r

-- Which accesses a step makes, where the machine's step has an effect: the one that this effect is, and none at any
-- other effect. After want of memory an access may stand there or not.
abbrev pub Accesses : Effect Cpu → (at : ℕ) → (before after : Option (List Access)) → Result Stop NoMemory → Type 0
Accesses effect at before after (Err e) = is_some after ≡ is_some before
Accesses (Silent then) at before after (Ok stop) = after ≡ before
Accesses (Reads addr width line then) at before after (Ok stop) = Adds (Got addr width at) before after
Accesses (Writes addr width value line then) at before after (Ok stop) = Adds (Put addr width value at) before after
Accesses (Turn line then) at before after (Ok stop) = after ≡ before
Accesses (Calls number args line then) at before after (Ok stop) = after ≡ before
Accesses (Traps number line) at before after (Ok stop) = after ≡ before
