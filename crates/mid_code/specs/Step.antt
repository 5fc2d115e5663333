-- What one step of a thread of middle code does: the second kind of thread.
--
-- How this is read: a thread is an activation, which stands at a position of a procedure's list, with the activations
-- that called it. `does` has one clause for each operation; further operations are further clauses. Every value that is
-- put into a register is below 2 ^ 64: it ends in `% 2 ^ 64`, or is what an operator or a register gives.
use Rattle.std.specs.Prelude.{ℕ, suc, ◌%◌, ◌^◌, ◌==◌, if◌then◌else◌, List, [], ◌∷◌, Option, Some, None}
use Rattle.thread_system.specs.Effect.{Effect, Silent, Turn, Calls, Traps}
use Rattle.mid_code.specs.declared.reg.Reg.{Reg}
use Rattle.mid_code.specs.declared.op.MidOp.{MidOp}
use Rattle.mid_code.specs.declared.op.MidOp.TheVariants.{Const, Copy, Both, Divide, Runtime, Skip, Back, Unless}
use Rattle.mid_code.specs.Registers.{Regs, with_reg}
use Rattle.mid_code.specs.Operations.{MidCode, combined, divided}

-- the kinds of the traps at a division by 0, and behind the last operation
abbrev pub div_zero : ℕ
div_zero = 3

abbrev pub bad_code : ℕ
bad_code = 11

-- A procedure that was begun: its number, the position of its next operation, its registers, and its arguments.
pub record Activation : Type 0 where
  pub proc : ℕ
  pub pos : ℕ
  pub regs : Regs
  pub args : List ℕ

-- A thread: the activation that goes on, those that wait for it, the nearest first, and how many more may be begun. One
-- that waits stands at its call.
pub record MidState : Type 0 where
  pub here : Activation
  pub callers : List Activation
  pub room : ℕ

-- The main module as it begins. Its registers are 0, though no program that is sound reads one before it is written.
abbrev pub first_state : MidState
first_state = record { here = record { proc = 0; pos = 0; regs = λ r. 0; args = [] }; callers = []; room = 999 }

-- the thread at another position
abbrev pub moves : MidState → ℕ → MidState
moves s to = record { here = record { proc = s.here.proc; pos = to; regs = s.here.regs; args = s.here.args }; callers = s.callers; room = s.room }

-- the thread at its next operation, with a value in a register
abbrev pub sets : MidState → Reg → ℕ → MidState
sets s to value = record { here = record { proc = s.here.proc; pos = suc s.here.pos; regs = with_reg s.here.regs to value; args = s.here.args }; callers = s.callers; room = s.room }

-- the same with an answer that may not be wanted
abbrev pub takes : MidState → Option Reg → ℕ → MidState
takes s None value = moves s (suc s.here.pos)
takes s (Some to) value = sets s to value

-- an argument of a runtime call: one that is missing is 0
abbrev pub argument : Regs → Option Reg → ℕ
argument regs None = 0
argument regs (Some r) = regs r

-- what the operation does that a thread stands at
abbrev pub does : MidState → ℕ → Option MidOp → Effect MidState
does s line None = Traps bad_code line
does s line (Some (Const to value)) = Silent (sets s to (value % 2 ^ 64))
does s line (Some (Copy to from)) = Silent (sets s to (s.here.regs from))
does s line (Some (Both op to left right)) = Silent (sets s to (combined op (s.here.regs left) (s.here.regs right)))
does s line (Some (Divide op to left right)) = if s.here.regs right == 0 then Traps div_zero line else Silent (sets s to (divided op (s.here.regs left) (s.here.regs right)))
does s line (Some (Runtime number a b c d to)) = Calls number (argument s.here.regs a ∷ argument s.here.regs b ∷ argument s.here.regs c ∷ argument s.here.regs d ∷ []) line (λ v. takes s to (v % 2 ^ 64))
does s line (Some (Skip target)) = Silent (moves s target)
does s line (Some (Back target)) = Turn line (moves s target)
does s line (Some (Unless test target)) = Silent (moves s (if s.here.regs test == 0 then target else suc s.here.pos))

-- One step.
abbrev pub mid_step : MidCode → MidState → Effect MidState
mid_step m s = does s (m.line_of s.here.proc s.here.pos) (m.op_at s.here.proc s.here.pos)
