use Rattle.first_lowering.proofs.Beginning.{lowering_starts, lowering_lawful, segments_kept}
use Rattle.first_lowering.proofs.Declares.{programs_declared}
use Rattle.first_lowering.proofs.Simulation.{lowering_keeps}
use Rattle.first_lowering.proofs.Sound.{lowering_sound}
use Rattle.first_lowering.proofs.law.lowering.Goals as goal

pub returns-clause-steps : goal.returns-clause-steps
returns-clause-steps c = lowering_keeps

pub returns-clause-starts : goal.returns-clause-starts
returns-clause-starts c = lowering_starts

pub returns-clause-segments : goal.returns-clause-segments
returns-clause-segments c = segments_kept

pub returns-clause-lawful : goal.returns-clause-lawful
returns-clause-lawful c = lowering_lawful

pub returns-clause-sound : goal.returns-clause-sound
returns-clause-sound c = lowering_sound

pub returns-clause-declared : goal.returns-clause-declared
returns-clause-declared c = programs_declared
