use Rattle.str_heap.proofs.holes.Holes.take.Goals as goal

pub returns-clause-first : goal.returns-clause-first
returns-clause-first c = rw (← c.self.view_is) c.take_first.ensures.first

pub returns-clause-full : goal.returns-clause-full
returns-clause-full c = rw (← c.self.view_is) c.take_first.ensures.full
