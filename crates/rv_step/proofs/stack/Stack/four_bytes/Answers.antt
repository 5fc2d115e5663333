use Rattle.std.proofs.Common.{◌≡◌}
use Rattle.rv_step.specs.Pages.{byte_at}
use Rattle.rv_step.proofs.Bytes.{loaded_four}
use Rattle.rv_step.proofs.stack.Stack.four_bytes.Goals as goal

pub returns-clause-value : goal.returns-clause-value
returns-clause-value c = rw (c.two_bytes.ensures.value, c.two_bytes-2.ensures.value) (loaded_four (byte_at c.args.self.now) c.args.o)
