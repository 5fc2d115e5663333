use Rattle.std.proofs.Common.{sym, ◌∙◌, subst}
use Rattle.mid_code.specs.Paths.{IsClosedAt}
use Rattle.mid_code.proofs.Marks.{not_false, op_here, marked_here, grows_nexts, closed_nexts}
use Rattle.mid_code.proofs.search.spread_at.Goals as goal

pub returns-else-writes-clause-grows : goal.returns-else-writes-clause-grows
returns-else-writes-clause-grows c =
    let is = op_here c.args.ops.now c.args.i _ c.requires.within in
    let on = marked_here c.args.marks.now.items c.args.i c.index.result.now (rw c.requires.long c.requires.within) c.index.ensures c.if-not-index.false in
    rw (c.mark_nexts.ensures.marks, c.mark_nexts.ensures.changed) (grows_nexts c.args.ops.now c.args.r c.args.i _ c.args.marks.now.items is on (λ e. not_false (sym (c.if-writes.ensures.1 e))))

pub returns-else-writes-clause-closed : goal.returns-else-writes-clause-closed
returns-else-writes-clause-closed c = λ e.
    let is = op_here c.args.ops.now c.args.i _ c.requires.within in
    let same = (returns-else-writes-clause-grows c).same e in
    subst (λ m. IsClosedAt c.args.ops.now c.args.r m c.args.i) (sym same) (closed_nexts c.args.ops.now c.args.r c.args.i _ c.args.marks.now.items is (sym c.mark_nexts.ensures.marks ∙ same))
