-- Writes that no path to a position passes by: what spares most registers a search.
use Rattle.std.specs.Prelude.{◌≡◌, ℕ, ◌<◌, ◌≤◌, true, List, [], length, get_or, Some}
use Rattle.mid_code.specs.declared.reg.Reg.{Reg}
use Rattle.mid_code.specs.declared.op.MidOp.{MidOp}
use Rattle.mid_code.specs.declared.op.LinedOp.{LinedOp}
use Rattle.mid_code.specs.declared.cover.Cover.{Cover}
use Rattle.mid_code.specs.Operations.{op_in}
use Rattle.mid_code.specs.declared.search.FourReads.{FourReads}
use Rattle.mid_code.specs.Flow.{Among, in_front, reads_of, writes_of, target_of}
use Rattle.mid_code.specs.Paths.{Unwritten, IsWrittenFirst}

-- No jump from before position w leads over it to one behind it, up to position i.
abbrev pub NoneOver : List LinedOp → (w i : ℕ) → Type 0
NoneOver ops w i = (from to : ℕ) (op : MidOp) → op_in ops from ≡ Some op → target_of op ≡ Some to → from < w → w < to → to ≤ i → ⊥

-- The register is written at position w, before position i, and no jump leads over w on the way.
pub record Covers (ops : List LinedOp) (w i : ℕ) (r : Reg) : Type 0 where
  pub op : MidOp
  pub is : op_in ops w ≡ Some op
  pub writes : writes_of op ≡ Some r
  pub before : w < i
  pub none : NoneOver ops w i

-- Where a jump leads back, no jump from before its target leads to a place between the two.
abbrev pub AreNested : List LinedOp → Type 0
AreNested ops = (i to : ℕ) (op : MidOp) → op_in ops i ≡ Some op → target_of op ≡ Some to → to ≤ i → NoneOver ops to i

-- In a list of positions, for each position the least one from which a jump leads there, or less.
abbrev pub HasSources : List LinedOp → List ℕ → ℕ → Type 0
HasSources ops sources n = (from to : ℕ) (op : MidOp) → from < n → op_in ops from ≡ Some op → target_of op ≡ Some to → to < length ops → get_or sources to 0 ≤ from

-- In a list of positions, for each position one behind which no jump leads over it, of the jumps to positions below n.
abbrev pub HasEnds : List LinedOp → List ℕ → ℕ → Type 0
HasEnds ops ends n = (from w to : ℕ) (op : MidOp) → op_in ops from ≡ Some op → target_of op ≡ Some to → to < n → from < w → w < to → get_or ends w 0 ≤ to

-- each is at most n
abbrev pub AreAtMost : ℕ → List ℕ → Type 0
AreAtMost n xs = (i : ℕ) → get_or xs i 0 ≤ n

-- each is at most what it was
abbrev pub AreLess : List ℕ → List ℕ → Type 0
AreLess new old = (i : ℕ) → get_or new i 0 ≤ get_or old i 0

-- the positions from one on and below another end at the latest there
abbrev pub EndBetween : List ℕ → (from to : ℕ) → Type 0
EndBetween ends from to = (w : ℕ) → from ≤ w → w < to → get_or ends w 0 ≤ to

-- for each position below n a stretch before it that ends there
abbrev pub HaveGaps : List ℕ → List ℕ → ℕ → Type 0
HaveGaps ends gaps n = (s : ℕ) → s < n → EndBetween ends (get_or gaps s 0) s

-- What is known of a procedure's positions.
pub record IsCover (ops : List LinedOp) (cover : Cover) : Type 0 where
  pub long : length cover.ends.items ≡ length ops
  pub most : AreAtMost (length ops) cover.ends.items
  pub ends : HasEnds ops cover.ends.items (length ops)
  pub nested : cover.nested ≡ true → AreNested ops

-- Where a path comes to the position on which the register isn't written, it is still written before each read.
abbrev pub IsSettled : List LinedOp → ℕ → Reg → Type 0
IsSettled ops i r = Unwritten ops r i → IsWrittenFirst ops r

abbrev pub AreSettled : List LinedOp → ℕ → Type 0
AreSettled ops i = (op : MidOp) (r : Reg) → op_in ops i ≡ Some op → Among r (reads_of op) → IsSettled ops i r

-- the registers of four
abbrev pub registers_of : FourReads → List Reg
registers_of four = in_front four.first (in_front four.second (in_front four.third (in_front four.fourth [])))
