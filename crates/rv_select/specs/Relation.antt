-- When a thread of the machine carries out one of middle code.
use Rattle.std.specs.Prelude.{◌≡◌, ◌≢◌, ℕ, suc, ◌+◌, ◌*◌, ◌^◌, ◌<◌, ◌≤◌, List, [], ◌∷◌, length, get_or, Option, Some, None, option_and_then}
use Rattle.thread_system.specs.Simulation.{Quiets}
use Rattle.mid_code.specs.declared.reg.Reg.{Reg}
use Rattle.mid_code.specs.declared.op.MidOp.{MidOp}
use Rattle.mid_code.specs.Operations.{MidCode}
use Rattle.mid_code.specs.Flow.{Among, reads_of, writes_of, target_of, nexts_of, IsLawful}
use Rattle.mid_code.specs.Step.{Activation, MidState}
use Rattle.rv_isa.specs.declared.inst.Inst.TheVariants.{Ebreak}
use Rattle.rv_isa.specs.Words.{loaded}
use Rattle.rv_isa.specs.Machine.{Cpu, Machine, machine_step}
use Rattle.rv_select.specs.Places.{Place, Slot, Real, IsPlace, Apart, holds, slot_off, frame_of}
use Rattle.rv_select.specs.Emission.{op_code, answer_code}
use Rattle.rv_select.specs.Standing.{StandsAt}

-- Where selected code stands: by procedure the place of each register, and by position the first code word of the
-- operation there.
pub record Target : Type 0 where
  pub place : ℕ → Reg → Place
  pub start : ℕ → ℕ → ℕ

-- A JAL reaches from one code word to another.
pub record IsNear (from to : ℕ) : Type 0 where
  pub ahead : to < from + 2 ^ 18
  pub behind : from ≤ to + 2 ^ 18

-- the register that an operation at a position writes, if there is one
abbrev pub written_at : MidCode → ℕ → ℕ → Option Reg
written_at m p i = option_and_then writes_of (m.op_at p i)

-- What is known of the values at an operation: known p i r says that register r has its value in its place when
-- position i of procedure p is reached.
pub record Flows (t : Target) (known : ℕ → ℕ → Reg → Type 0) (p i : ℕ) (op : MidOp) : Type 0 where
  -- what is read is known
  pub reads : (r : Reg) → Among r (reads_of op) → known p i r
  -- what is known afterwards was written, or was known before
  pub keeps : (j : ℕ) → Among j (nexts_of i op) → (r : Reg) → (writes_of op ≡ Some r → ⊥) → known p j r → known p i r
  -- what is written stands apart from what else is known afterwards
  pub apart : (d r : Reg) → writes_of op ≡ Some d → known p (suc i) r → r ≢ d → Apart (t.place p r) (t.place p d)
  pub written : (d : Reg) → writes_of op ≡ Some d → IsPlace (t.place p d)

-- The code of the program's operations stands in the machine.
pub record Selected (h : Machine) (m : MidCode) (t : Target) (known : ℕ → ℕ → Reg → Type 0) : Type 0 where
  pub stands : (p i : ℕ) (op : MidOp) → m.op_at p i ≡ Some op → StandsAt h (m.line_of p i) (t.start p i) (op_code (t.place p) (t.start p) i op)
  -- one operation behind the other
  pub next : (p i : ℕ) (op : MidOp) → m.op_at p i ≡ Some op → t.start p (suc i) ≡ t.start p i + length (op_code (t.place p) (t.start p) i op)
  pub rising : (p i j : ℕ) → i ≤ j → t.start p i ≤ t.start p j
  pub within : (p i : ℕ) → t.start p i < 2 ^ 30
  -- behind the last operation of a procedure there is an instruction that no thread may pass
  pub ends : (p i : ℕ) → p < m.count → m.op_at p i ≡ None → StandsAt h (m.line_of p i) (t.start p i) (Ebreak ∷ [])
  -- jumps reach their targets, ahead or behind
  pub lawful : (p i : ℕ) (op : MidOp) → m.op_at p i ≡ Some op → IsLawful i op
  pub near : (p i j : ℕ) (op : MidOp) → m.op_at p i ≡ Some op → target_of op ≡ Some j → IsNear (t.start p i) (t.start p j)
  -- values
  pub places : (p i : ℕ) (r : Reg) → known p i r → IsPlace (t.place p r)
  pub flows : (p i : ℕ) (op : MidOp) → m.op_at p i ≡ Some op → Flows t known p i op
  -- the own stack has its address
  pub end : h.low + 2 ^ 32 ≤ 2 ^ 63

module _ (h : Machine) (m : MidCode) (t : Target) (known : ℕ → ℕ → Reg → Type 0) where
  -- Where the value of a waiting activation stands, while the one that it called has a frame for so much room: a slot in
  -- its own frame, a register among those that the other one keeps for it.
  abbrev pub home : Place → ℕ → (ℕ → ℕ) → ℕ
  home (Slot k) room bytes = loaded bytes (frame_of h (suc room) + slot_off k) 8
  home (Real q) room bytes = loaded bytes (frame_of h room + 8 * q) 8

  -- the arguments of an activation, in the upper half of its frame
  abbrev pub AreArguments : List ℕ → ℕ → (ℕ → ℕ) → Type 0
  AreArguments args room bytes = (i : ℕ) → i < length args → loaded bytes (frame_of h room + (2 ^ 21 + 8 * i)) 8 ≡ get_or args i 0

  -- An activation that waits at its call for the one that has a frame for so much room.
  pub record Suspended (a : Activation) (room : ℕ) (bytes : ℕ → ℕ) : Type 0 where
    -- where its code goes on: it keeps the answer
    pub k : ℕ
    pub back : loaded bytes (frame_of h room) 8 ≡ 4 * k
    pub there : a.proc < m.count
    pub stands : StandsAt h (m.line_of a.proc a.pos) k (answer_code (t.place a.proc) (written_at m a.proc a.pos))
    pub end : t.start a.proc (suc a.pos) ≡ k + length (answer_code (t.place a.proc) (written_at m a.proc a.pos))
    -- the values that are known when it goes on
    pub vals : (r : Reg) → known a.proc a.pos r → home (t.place a.proc r) room bytes ≡ a.regs r
    pub small : (r : Reg) → a.regs r < 2 ^ 64
    pub few : 8 * length a.args ≤ 2 ^ 21
    pub args : AreArguments a.args (suc room) bytes

  abbrev pub Callers : List Activation → ℕ → (ℕ → ℕ) → Type 0
  Callers [] room bytes = Unit {0}
  Callers (a ∷ others) room bytes = Suspended a room bytes × Callers others (suc room) bytes

  -- At the beginning of an operation the thread of the machine is the one of middle code.
  pub record Core (s : MidState) (c : Cpu) : Type 0 where
    pub at : c.pc ≡ 4 * t.start s.here.proc s.here.pos
    pub there : s.here.proc < m.count
    pub frame : c.regs 2 ≡ frame_of h s.room
    pub vals : (r : Reg) → known s.here.proc s.here.pos r → holds (t.place s.here.proc r) (frame_of h s.room) c ≡ s.here.regs r
    pub small : (r : Reg) → s.here.regs r < 2 ^ 64
    pub few : 8 * length s.here.args ≤ 2 ^ 21
    pub args : AreArguments s.here.args s.room c.bytes
    pub callers : Callers s.callers s.room c.bytes
    pub roomy : s.room + length s.callers ≤ 1000

  -- The relation: silent steps lead there.
  abbrev pub CarriesOut : MidState → Cpu → Type 0
  CarriesOut s c = (last : Cpu) × Quiets (machine_step h) c last × Core s last
