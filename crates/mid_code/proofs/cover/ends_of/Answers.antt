use Rattle.std.proofs.Common.{◌<◌, length, arith, ◌∙◌, length-set}
use Rattle.mid_code.proofs.Marks.{inside_op}
use Rattle.mid_code.proofs.Covers.{ends_more, gaps_more, read_here}
use Rattle.mid_code.proofs.cover.ends_of.Goals as goal

pub loop-p-preserved : goal.loop-p-preserved
loop-p-preserved c =
    let p = c.loop-p.p in
    let ops = c.args.ops.now in
    let held = c.loop-p.invariant in
    let sources = c.in_ok-sources.sources.items in
    let old = c.loop-p.ends.items in
    let new = c.end_behind-low.new.ends.items in
    let ensured = c.end_behind-low.ensures in
    let inside : p < length ops = c.loop-p-test.true in
    let source = read_here sources p c.index.result.now (omega (arith, inside, c.in_ok-sources.ensures.long)) c.index.ensures in
    record {
      long = ensured.long ∙ held.long;
      as_long = length-set c.loop-p.gaps.items p c.end_behind-low.result ∙ held.as_long;
      most = λ w. omega (arith, held.most w, ensured.less w);
      gaps = gaps_more old new c.loop-p.gaps.items p c.end_behind-low.result (omega (arith, inside, held.as_long)) held.gaps ensured.less ensured.ends;
      ends = ends_more ops old new sources p c.index.result.now inside c.in_ok-sources.ensures.sources source held.ends ensured.less ensured.far (λ from op at. inside_op ops from op at);
    }

pub returns-clause-ends : goal.returns-clause-ends
returns-clause-ends c = λ from w to op at target within a b. c.loop-p.invariant.ends from w to op at target (omega (arith, within, c.loop-p-test.false)) a b
