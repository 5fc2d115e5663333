use Rattle.std.proofs.Common.{◌≡◌, ◌≤◌, ◌-◌, length, drop, ap, arith, length-drop}
use Rattle.parse_expr.proofs.Answered.{left_within}
use Rattle.parse_expr.proofs.reading.read.Goals as goal

pub overflow_sub-result : goal.overflow_sub-result
overflow_sub-result c =
    let fewer : length c.expr_in.new.cursor ≤ length c.new-cursor.result = left_within _ _ _ c.in-Ok.ensures.reads in
    let there : length c.new-cursor.result ≡ length (drop c.args.at c.args.tokens.now.items) = ap length c.new-cursor.ensures in
    omega (arith, fewer, there, length-drop c.args.at c.args.tokens.now.items, c.left.ensures.value, c.len.ensures.value)
