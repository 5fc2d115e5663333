use Rattle.std.proofs.Common.{ap, length, arith}
use Rattle.fb_image.proofs.Rules.{fewer_lines}
use Rattle.fb_image.proofs.writing.put_counts.Goals as goal

pub overflow_cast-len : goal.overflow_cast-len
overflow_cast-len c = omega (arith, ap length c.lines.ensures, c.code.ensures.rules.rules.code, fewer_lines _ _ c.code.ensures.rules.rules.each_line)
