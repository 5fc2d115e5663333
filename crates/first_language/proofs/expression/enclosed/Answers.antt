use Rattle.first_language.proofs.Parts.{enclosed_kept}
use Rattle.first_language.proofs.expression.enclosed.Goals as goal

pub returns-in_ok-new : goal.returns-in_ok-new
returns-in_ok-new c = enclosed_kept c.in_ok-new.field-0 c.args.inside.tree c.args.inside.deep c.in_ok-new.ensures c.if-inside-lt-DEEPEST.true
