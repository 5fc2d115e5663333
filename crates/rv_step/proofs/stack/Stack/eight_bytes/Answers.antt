use Rattle.std.proofs.Common.{◌≡◌}
use Rattle.rv_step.specs.Pages.{byte_at}
use Rattle.rv_step.proofs.Bytes.{loaded_eight}
use Rattle.rv_step.proofs.stack.Stack.eight_bytes.Goals as goal

pub returns : goal.returns
returns c = rw (c.four_bytes.ensures.value, c.four_bytes-2.ensures.value) (loaded_eight (byte_at c.args.self.now) c.args.o)
