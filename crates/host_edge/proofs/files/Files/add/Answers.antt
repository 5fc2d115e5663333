use Rattle.host_edge.proofs.Held.{held_after}
use Rattle.host_edge.proofs.files.Files.add.Goals as goal

pub returns-clause-ok : goal.returns-clause-ok
returns-clause-ok c =
    rw (← c.self.view_is, ← c.in_ok-name.ensures.ok, ← c.in_ok-bytes.ensures)
    (held_after c.self.inside.files c.insert.new.self _ _ c.in_ok-insert.ensures.updates)
