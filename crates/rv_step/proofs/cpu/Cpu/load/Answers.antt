use Rattle.std.proofs.Common.{◌≡◌, ◌∙◌}
use Rattle.rv_step.proofs.State.{loaded_from}
use Rattle.rv_step.proofs.cpu.Cpu.load.Goals as goal

pub returns : goal.returns
returns c = c.load.ensures ∙ loaded_from c.args.self.now.low c.args.self.now.stack c.args.addr c.args.width c.requires.from c.requires.within
