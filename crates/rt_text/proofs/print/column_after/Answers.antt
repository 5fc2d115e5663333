use Rattle.std.proofs.Common.{arith, sym}
use Rattle.rt_text.proofs.Columns.{column_none, column_last}
use Rattle.rt_text.proofs.print.column_after.Goals as goal

pub returns-in-Some : goal.returns-in-Some
returns-in-Some c =
    let e = c.in-Some.ensures in
    sym (column_last c.args.column c.args.bytes.now c.in-Some.last e.0.high e.1 (λ k above lt is. e.0.after k (omega arith) lt is))

pub returns-in-None : goal.returns-in-None
returns-in-None c = sym (column_none c.args.column c.args.bytes.now (λ k lt is. c.in-None.ensures k (omega arith) lt is))
