use Rattle.std.proofs.Common.{◌≡◌, ◌-◌}
use Rattle.fb_image.specs.Reading.{many_at, entry_at, no_more}
use Rattle.fb_image.proofs.Loop.{with_front}
use Rattle.fb_image.proofs.lists.entries_of.Given as goal

abbrev pub invariant-loop : goal.invariant-loop
invariant-loop l = with_front l.entries (many_at (entry_at l.words) no_more 0 (l.count - l.counter) l.rest) ≡ many_at (entry_at l.words) no_more 0 l.count l.bytes
