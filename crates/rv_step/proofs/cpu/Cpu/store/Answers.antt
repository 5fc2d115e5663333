use Rattle.std.proofs.Common.{◌≡◌, ◌∙◌, ap}
use Rattle.rv_step.proofs.State.{put_stored}
use Rattle.rv_step.proofs.cpu.Cpu.store.Goals as goal

pub returns-clause-ok : goal.returns-clause-ok
returns-clause-ok c = put_stored c.args.self.now.pc c.args.self.now.regs c.args.self.now.low c.args.self.now.stack c.store.new.self c.args.addr c.args.width c.args.value c.store.result c.requires.from c.requires.within c.store.ensures.ok
