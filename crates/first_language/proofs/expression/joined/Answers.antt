use Rattle.std.proofs.Common.{rules}
use Rattle.first_language.proofs.Parts.{joined_kept}
use Rattle.first_language.proofs.expression.joined.Goals as goal

pub returns-in_ok-right : goal.returns-in_ok-right
returns-in_ok-right c =
    joined_kept c.args.op c.in_ok-left.left c.in_ok-right.right c.args.left.tree c.args.right.tree c.max-deep.result c.args.left.deep c.args.right.deep
    c.in_ok-left.ensures c.in_ok-right.ensures (search rules) c.if-deep-lt-DEEPEST.true
