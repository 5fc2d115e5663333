-- When a state of the source and one of its middle code are the same moment: what the source has to do, read as
-- structured code, stands where the middle code goes on, and the registers hold the values.
use Rattle.std.specs.Prelude.{◌≡◌, ℕ, zero, suc, List, [], ◌∷◌}
use Rattle.mid_code.specs.declared.reg.Reg.TheVariants.{Temp, Var}
use Rattle.mid_code.specs.Operations.{MidCode}
use Rattle.mid_code.specs.Step.{MidState}
use Rattle.mid_flow.specs.Structure as c
use Rattle.mid_flow.specs.Structure.{Code, When, LeaveUnless, Round, Open, After, Looping}
use Rattle.mid_flow.specs.Standing.{Stands}
use Rattle.mid_flow.specs.Values.{Holds}
use Rattle.first_language.specs.Tree.{Tree, Block}
use Rattle.first_lowering.specs.Meaning.{Work, Evaluate, Combine, Keep, Show, EndLine, Piece, Do, Run, Next, Pick, Joined, Test, Again, Finish, State, print_signed, print_line, main_end}
use Rattle.first_lowering.specs.Lowering.{operation, expression, statement, block, keep, call, call_with_value}

-- what stands now, and what goes on behind the blocks that are open
pub record Standing : Type 0 where
  pub now : Code
  pub open_blocks : List Open

abbrev pub in_front : (Code → Code) → Standing → Standing
in_front f s = record { now = f s.now; open_blocks = s.open_blocks }

-- a loop from its test on
abbrev pub loop_body : Tree → Block → ℕ → ℕ → Code
loop_body test body line back = expression line 0 test (LeaveUnless (Temp 0) line (block body (Round back)))

-- What a thread has to do with so many values waiting, as structured code. What can't be so is broken.
abbrev pub read_as : List Piece → ℕ → Standing
read_as [] d = record { now = c.Nothing; open_blocks = [] }
read_as (Do s ∷ todo) zero = in_front (statement s) (read_as todo zero)
read_as (Run b ∷ todo) zero = in_front (block b) (read_as todo zero)
read_as (Next (Evaluate e) line ∷ todo) d = in_front (expression line d e) (read_as todo (suc d))
read_as (Next (Combine op) line ∷ todo) (suc (suc d)) = in_front (c.Then (operation op d) line) (read_as todo (suc d))
read_as (Next (Keep x) line ∷ todo) (suc zero) = in_front (c.Then (keep x) line) (read_as todo zero)
read_as (Next Show line ∷ todo) (suc zero) = in_front (c.Then (call_with_value print_signed) line) (read_as todo zero)
read_as (Next EndLine line ∷ todo) zero = in_front (c.Then (call print_line) line) (read_as todo zero)
read_as (Pick body line ∷ todo) (suc zero) = in_front (When (Temp 0) line (block body c.End)) (read_as todo zero)
read_as (Joined ∷ todo) zero = record { now = c.End; open_blocks = After (read_as todo zero).now ∷ (read_as todo zero).open_blocks }
read_as (Test test body line back ∷ todo) (suc zero) = record { now = LeaveUnless (Temp 0) line (block body (Round back)); open_blocks = Looping (loop_body test body line back) (read_as todo zero).now ∷ (read_as todo zero).open_blocks }
read_as (Again test body line back ∷ todo) zero = record { now = Round back; open_blocks = Looping (loop_body test body line back) (read_as todo zero).now ∷ (read_as todo zero).open_blocks }
read_as (Finish line ∷ todo) zero = record { now = c.Then (call main_end) line c.Nothing; open_blocks = [] }
read_as (piece ∷ todo) d = record { now = c.Broken; open_blocks = [] }

-- the pieces, the values and the variables of the source are those of the middle code's state
pub record Fits (m : MidCode) (todo : List Piece) (values : List ℕ) (vars : ℕ → ℕ) (s : MidState) : Type 0 where
  pub d : ℕ
  pub values_are : Holds s.here.regs d values
  pub vars_are : (x : ℕ) → s.here.regs (Var x) ≡ vars x
  pub stands : Stands m s.here.proc (read_as todo d).now (read_as todo d).open_blocks s.here.pos

abbrev pub Related : MidCode → State → MidState → Type 0
Related m a s = Fits m a.todo a.values a.vars s
