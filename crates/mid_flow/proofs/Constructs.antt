use Rattle.std.proofs.Common.{◌≡◌, ℕ, suc, List, ◌∷◌, Some, ap}
use Rattle.thread_system.specs.Simulation.{Quiets, stays, moves as goes}
use Rattle.mid_code.specs.declared.reg.Reg.{Reg}
use Rattle.mid_code.specs.declared.op.MidOp.{MidOp}
use Rattle.mid_code.specs.declared.op.MidOp.TheVariants.{Skip, Back, Unless}
use Rattle.mid_code.specs.Operations.{MidCode}
use Rattle.mid_code.specs.Step.{MidState, moves, does, mid_step}
use Rattle.mid_flow.specs.Structure.{Code, Then, When, Loop, LeaveUnless, Round, End, Open, After, Looping, Spot, spot}
use Rattle.mid_flow.specs.Standing.{Here, Hops, at, hop, Lies, then_lies, when_lies, loop_lies, leave_lies, round_lies, end_lies, BlocksLie, after_lies, looping_lies, Stands}

-- the operation that a thread stands at is what it does
op_done : (m : MidCode) (s : MidState) (k : ℕ) (op : MidOp) (line : ℕ) → Here (m.op_at s.here.proc) (m.line_of s.here.proc) k op line → mid_step m (moves s k) ≡ does (moves s k) line (Some op)
op_done m s k op line here = rw here.op_is (ap (λ l. does (moves s k) l (Some op)) here.line_is)

-- jumps ahead are quiet
hops_quiet : (m : MidCode) (s : MidState) (j k : ℕ) → Hops (m.op_at s.here.proc) (m.line_of s.here.proc) j k → Quiets (mid_step m) (moves s j) (moves s k)
hops_quiet m s _ _ (at k) = stays (moves s k)
hops_quiet m s _ k (hop i j _ line here rest) = goes (moves s i) (moves s j) (moves s k) (op_done m s i (Skip j) line here) (hops_quiet m s j k rest)

-- Quietly a thread comes to an operation at a position of which something is known.
pub record Comes (m : MidCode) (s : MidState) (op : MidOp) (line : ℕ) (Known : ℕ → Type 0) : Type 0 where
  pub k : ℕ
  pub quiet : Quiets (mid_step m) s (moves s k)
  pub done : mid_step m (moves s k) ≡ does (moves s k) line (Some op)
  pub known : Known k

-- quietly it comes to a position of which something is known
pub record Arrives (m : MidCode) (s : MidState) (Known : ℕ → Type 0) : Type 0 where
  pub k : ℕ
  pub quiet : Quiets (mid_step m) s (moves s k)
  pub known : Known k

comes : (m : MidCode) (s : MidState) (j k : ℕ) (op : MidOp) (line : ℕ) (Known : ℕ → Type 0) → Hops (m.op_at s.here.proc) (m.line_of s.here.proc) j k → Here (m.op_at s.here.proc) (m.line_of s.here.proc) k op line → Known k → Comes m (moves s j) op line Known
comes m s j k op line Known hops here known = record { k = k; quiet = hops_quiet m s j k hops; done = op_done m s k op line here; known = known }

-- the next operation
then_comes : (m : MidCode) (s : MidState) (j : ℕ) (ss : List Spot) (os : List Open) (op : MidOp) (line : ℕ) (rest : Code) → Lies (m.op_at s.here.proc) (m.line_of s.here.proc) ss (Then op line rest) j → BlocksLie (m.op_at s.here.proc) (m.line_of s.here.proc) os ss → Comes m (moves s j) op line (λ k. Stands m s.here.proc rest os (suc k))
then_comes m s j ss os op line rest (then_lies _ _ _ _ _ k hops here more) blocks =
    comes m s j k op line (λ k. Stands m s.here.proc rest os (suc k)) hops here (record { spots = ss; lies = more; blocks = blocks })

pub next_op : (m : MidCode) (s : MidState) (os : List Open) (op : MidOp) (line : ℕ) (rest : Code) → Stands m s.here.proc (Then op line rest) os s.here.pos → Comes m s op line (λ k. Stands m s.here.proc rest os (suc k))
next_op m s os op line rest t = then_comes m s s.here.pos t.spots os op line rest t.lies t.blocks

-- the test in front of a block
abbrev pub WhenGoes : MidCode → ℕ → Code → Code → List Open → ℕ → ℕ → Type 0
WhenGoes m proc body rest os last k = Stands m proc body (After rest ∷ os) (suc k) × Stands m proc rest os last

pub record Tests (m : MidCode) (s : MidState) (test : Reg) (line : ℕ) (Known : ℕ → ℕ → Type 0) : Type 0 where
  pub target : ℕ
  pub comes : Comes m s (Unless test target) line (Known target)

when_tests : (m : MidCode) (s : MidState) (j : ℕ) (ss : List Spot) (os : List Open) (test : Reg) (line : ℕ) (body rest : Code) → Lies (m.op_at s.here.proc) (m.line_of s.here.proc) ss (When test line body rest) j → BlocksLie (m.op_at s.here.proc) (m.line_of s.here.proc) os ss → Tests m (moves s j) test line (WhenGoes m s.here.proc body rest os)
when_tests m s j ss os test line body rest (when_lies _ _ _ _ _ _ k last top hops here inner more) blocks =
    record {
      target = last;
      comes = comes m s j k (Unless test last) line (WhenGoes m s.here.proc body rest os last) hops here
          (record { spots = spot last top ∷ ss; lies = inner; blocks = after_lies rest os (spot last top) ss more blocks }, record { spots = ss; lies = more; blocks = blocks });
    }

pub begins_when : (m : MidCode) (s : MidState) (os : List Open) (test : Reg) (line : ℕ) (body rest : Code) → Stands m s.here.proc (When test line body rest) os s.here.pos → Tests m s test line (WhenGoes m s.here.proc body rest os)
begins_when m s os test line body rest t = when_tests m s s.here.pos t.spots os test line body rest t.lies t.blocks

-- a loop's beginning
loop_arrives : (m : MidCode) (s : MidState) (j : ℕ) (ss : List Spot) (os : List Open) (body rest : Code) → Lies (m.op_at s.here.proc) (m.line_of s.here.proc) ss (Loop body rest) j → BlocksLie (m.op_at s.here.proc) (m.line_of s.here.proc) os ss → Arrives m (moves s j) (λ k. Stands m s.here.proc body (Looping body rest ∷ os) k)
loop_arrives m s j ss os body rest (loop_lies _ _ _ _ k last hops inner more) blocks =
    record { k = k; quiet = hops_quiet m s j k hops; known = record { spots = spot last k ∷ ss; lies = inner; blocks = looping_lies body rest os (spot last k) ss more inner blocks } }

pub begins_loop : (m : MidCode) (s : MidState) (os : List Open) (body rest : Code) → Stands m s.here.proc (Loop body rest) os s.here.pos → Arrives m s (λ k. Stands m s.here.proc body (Looping body rest ∷ os) k)
begins_loop m s os body rest t = loop_arrives m s s.here.pos t.spots os body rest t.lies t.blocks

-- a loop's test
abbrev pub LeaveGoes : MidCode → ℕ → Code → Code → Code → List Open → ℕ → ℕ → Type 0
LeaveGoes m proc now body rest os out k = Stands m proc now (Looping body rest ∷ os) (suc k) × Stands m proc rest os out

leave_tests : (m : MidCode) (s : MidState) (j : ℕ) (ss : List Spot) (os : List Open) (test : Reg) (line : ℕ) (now body rest : Code) → Lies (m.op_at s.here.proc) (m.line_of s.here.proc) ss (LeaveUnless test line now) j → BlocksLie (m.op_at s.here.proc) (m.line_of s.here.proc) (Looping body rest ∷ os) ss → Tests m (moves s j) test line (LeaveGoes m s.here.proc now body rest os)
leave_tests m s j _ os test line now body rest (leave_lies _ _ _ _ _ k hops here more) (looping_lies _ _ _ p ss after inner blocks) =
    record {
      target = p.out;
      comes = comes m s j k (Unless test p.out) line (LeaveGoes m s.here.proc now body rest os p.out) hops here
          (record { spots = p ∷ ss; lies = more; blocks = looping_lies body rest os p ss after inner blocks }, record { spots = ss; lies = after; blocks = blocks });
    }

pub tests_loop : (m : MidCode) (s : MidState) (os : List Open) (test : Reg) (line : ℕ) (now body rest : Code) → Stands m s.here.proc (LeaveUnless test line now) (Looping body rest ∷ os) s.here.pos → Tests m s test line (LeaveGoes m s.here.proc now body rest os)
tests_loop m s os test line now body rest t = leave_tests m s s.here.pos t.spots os test line now body rest t.lies t.blocks

-- a loop's way back
pub record Returns (m : MidCode) (s : MidState) (line : ℕ) (Known : ℕ → Type 0) : Type 0 where
  pub target : ℕ
  pub comes : Comes m s (Back target) line (λ k. Known target)

round_returns : (m : MidCode) (s : MidState) (j : ℕ) (ss : List Spot) (os : List Open) (line : ℕ) (body rest : Code) → Lies (m.op_at s.here.proc) (m.line_of s.here.proc) ss (Round line) j → BlocksLie (m.op_at s.here.proc) (m.line_of s.here.proc) (Looping body rest ∷ os) ss → Returns m (moves s j) line (λ k. Stands m s.here.proc body (Looping body rest ∷ os) k)
round_returns m s j _ os line body rest (round_lies _ _ _ k hops here) (looping_lies _ _ _ p ss after inner blocks) =
    record {
      target = p.top;
      comes = comes m s j k (Back p.top) line (λ k. Stands m s.here.proc body (Looping body rest ∷ os) p.top) hops here
          (record { spots = p ∷ ss; lies = inner; blocks = looping_lies body rest os p ss after inner blocks });
    }

pub goes_round : (m : MidCode) (s : MidState) (os : List Open) (line : ℕ) (body rest : Code) → Stands m s.here.proc (Round line) (Looping body rest ∷ os) s.here.pos → Returns m s line (λ k. Stands m s.here.proc body (Looping body rest ∷ os) k)
goes_round m s os line body rest t = round_returns m s s.here.pos t.spots os line body rest t.lies t.blocks

-- a block's end
end_arrives : (m : MidCode) (s : MidState) (j : ℕ) (ss : List Spot) (os : List Open) (rest : Code) → Lies (m.op_at s.here.proc) (m.line_of s.here.proc) ss End j → BlocksLie (m.op_at s.here.proc) (m.line_of s.here.proc) (After rest ∷ os) ss → Arrives m (moves s j) (λ k. Stands m s.here.proc rest os k)
end_arrives m s j _ os rest (end_lies _ _ hops) (after_lies _ _ p ss more blocks) =
    record { k = p.out; quiet = hops_quiet m s j p.out hops; known = record { spots = ss; lies = more; blocks = blocks } }

pub ends_block : (m : MidCode) (s : MidState) (os : List Open) (rest : Code) → Stands m s.here.proc End (After rest ∷ os) s.here.pos → Arrives m s (λ k. Stands m s.here.proc rest os k)
ends_block m s os rest t = end_arrives m s s.here.pos t.spots os rest t.lies t.blocks
