use Rattle.mid_code.proofs.Marks.{op_here}
use Rattle.mid_code.proofs.Covers.{settled_ok}
use Rattle.mid_code.proofs.search.are_settled.Goals as goal

pub returns-clause-yes : goal.returns-clause-yes
returns-clause-yes c =
    settled_ok c.args.ops.now c.args.i _ c.reads_at-four.result (op_here c.args.ops.now c.args.i _ c.requires.within) c.reads_at-four.ensures (c.in_ok-are_settled_if.ensures.yes c.if-not-branch.false) c.are_settled_if-2.result c.are_settled_if-2.ensures.yes
