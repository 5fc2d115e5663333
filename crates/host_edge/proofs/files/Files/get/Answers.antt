use Rattle.std.proofs.Common.{sym, ◌∙◌}
use Rattle.host_edge.proofs.Held.{held}
use Rattle.host_edge.proofs.files.Files.get.Goals as goal

pub returns-in-Some : goal.returns-in-Some
returns-in-Some c =
    rw (c.bytes.ensures, ← c.self.view_is) (c.in-Some.ensures.value ∙ sym (held c.self.inside.files c.args.name.now))

pub returns-in-None : goal.returns-in-None
returns-in-None c = rw (← c.self.view_is) (c.in-None.ensures.value ∙ sym (held c.self.inside.files c.args.name.now))
