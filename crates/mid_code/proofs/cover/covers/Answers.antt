use Rattle.std.proofs.Common.{◌<◌, length, arith}
use Rattle.mid_code.proofs.Marks.{op_here}
use Rattle.mid_code.proofs.Covers.{none_over, read_here}
use Rattle.mid_code.proofs.cover.covers.Goals as goal

pub returns-then-i-index : goal.returns-then-i-index
returns-then-i-index c = λ t.
    let inside : c.args.w < length c.args.cover.now.ends.items = omega (arith, c.requires.long, c.if-w-ops.true) in
    let is = read_here c.args.cover.now.ends.items c.args.w c.index.result.now inside c.index.ensures in
    record {
      op = _;
      is = op_here c.args.ops.now c.args.w _ c.if-w-ops.true;
      writes = c.writes.ensures.0 t;
      before = c.if-w-i.true;
      none = none_over c.args.ops.now c.args.cover.now.ends.items c.args.w c.args.i c.requires.most c.requires.ends (omega (arith, is, c.if-i-index.true));
    }
