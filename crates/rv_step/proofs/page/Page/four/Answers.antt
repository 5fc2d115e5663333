use Rattle.std.proofs.Common.{◌≡◌}
use Rattle.rv_step.specs.Pages.{byte_in}
use Rattle.rv_step.proofs.Bytes.{loaded_four}
use Rattle.rv_step.proofs.page.Page.four.Goals as goal

pub returns-clause-value : goal.returns-clause-value
returns-clause-value c = rw (c.two.ensures.value, c.two-2.ensures.value) (loaded_four (byte_in c.args.self.now) c.args.k)
