use Rattle.std.proofs.Common.{◌≡◌}
use Rattle.rv_step.specs.Pages.{byte_at}
use Rattle.rv_step.proofs.Bytes.{loaded_two}
use Rattle.rv_step.proofs.stack.Stack.two_bytes.Goals as goal

pub returns-clause-value : goal.returns-clause-value
returns-clause-value c = rw (c.one_byte.ensures.value, c.one_byte-2.ensures.value) (loaded_two (byte_at c.args.self.now) c.args.o)
