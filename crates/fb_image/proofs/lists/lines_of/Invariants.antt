use Rattle.std.proofs.Common.{◌≡◌, ◌-◌}
use Rattle.fb_image.specs.Format.{after_line}
use Rattle.fb_image.specs.Reading.{many_at, line_at}
use Rattle.fb_image.proofs.Loop.{with_front}
use Rattle.fb_image.proofs.lists.lines_of.Given as goal

abbrev pub invariant-loop : goal.invariant-loop
invariant-loop l = with_front l.lines (many_at (line_at l.words) after_line l.low (l.count - l.counter) l.rest) ≡ many_at (line_at l.words) after_line 0 l.count l.bytes
