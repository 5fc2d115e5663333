use Rattle.std.proofs.Common.{◌≡◌, ◌∙◌}
use Rattle.rv_step.specs.Pages.{byte_at}
use Rattle.rv_step.proofs.Bytes.{loaded_one}
use Rattle.rv_step.proofs.stack.Stack.one_byte.Goals as goal

pub returns-clause-value : goal.returns-clause-value
returns-clause-value c = c.byte.ensures.value ∙ loaded_one (byte_at c.args.self.now) c.args.o
