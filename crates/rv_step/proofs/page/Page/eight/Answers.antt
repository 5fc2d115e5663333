use Rattle.std.proofs.Common.{◌≡◌}
use Rattle.rv_step.specs.Pages.{byte_in}
use Rattle.rv_step.proofs.Bytes.{loaded_eight}
use Rattle.rv_step.proofs.page.Page.eight.Goals as goal

pub returns : goal.returns
returns c = rw (c.four.ensures.value, c.four-2.ensures.value) (loaded_eight (byte_in c.args.self.now) c.args.k)
