use Rattle.std.proofs.Common.{◌≡◌, arith}
use Rattle.std.proofs.lemmas.Grind.{common_steps}
use Rattle.rv_step.specs.Pages.{byte_in}
use Rattle.rv_step.proofs.Bytes.{loaded_one}
use Rattle.rv_step.proofs.page.Page.one.Goals as goal

pub returns-clause-value : goal.returns-clause-value
returns-clause-value c = rw (← loaded_one (byte_in c.args.self.now) c.args.k) (grind (arith, common_steps))
