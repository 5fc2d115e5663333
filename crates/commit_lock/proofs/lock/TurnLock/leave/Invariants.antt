use Rattle.commit_lock.proofs.lock.TurnLock.leave.Given as goal

-- the pen writes the history that the value has
abbrev pub ghosts-write : goal.ghosts-write
ghosts-write g a = record { list = g.V.Kept.hist a._value.now }
