use Rattle.std.proofs.Common.{◌+◌, ◌≤◌, length}
use Rattle.first_language.specs.Kept.{progress_of}
use Rattle.first_language.proofs.Texts.{Comes}
use Rattle.first_language.proofs.reader.read_text.Given as goal

-- the rest comes to what the whole comes to, and no more lines are read than bytes
abbrev pub invariant-loop-rest : goal.invariant-loop-rest
invariant-loop-rest l = record { comes : Comes l.text l.rest (progress_of l.progress) l.line.items; few : l.progress.above + length l.rest ≤ length l.text }

abbrev pub decreases-loop-rest : goal.decreases-loop-rest
decreases-loop-rest l = length l.rest
