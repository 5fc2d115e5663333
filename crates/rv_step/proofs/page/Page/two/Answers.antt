use Rattle.std.proofs.Common.{◌≡◌}
use Rattle.rv_step.specs.Pages.{byte_in}
use Rattle.rv_step.proofs.Bytes.{loaded_two}
use Rattle.rv_step.proofs.page.Page.two.Goals as goal

pub returns-clause-value : goal.returns-clause-value
returns-clause-value c = rw (c.one.ensures.value, c.one-2.ensures.value) (loaded_two (byte_in c.args.self.now) c.args.k)
