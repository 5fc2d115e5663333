use Rattle.std.proofs.Common.{◌≡◌, ◌-◌, length}
use Rattle.fb_image.specs.Reading.{many_at, literal_at, no_more}
use Rattle.fb_image.proofs.Loop.{with_front}
use Rattle.fb_image.proofs.lists.literals_of.Given as goal

abbrev pub invariant-loop : goal.invariant-loop
invariant-loop l = record {
  read : with_front l.literals (many_at literal_at no_more 0 (l.count - l.counter) l.rest) ≡ many_at literal_at no_more 0 l.count l.bytes;
  many : length l.literals ≡ l.counter;
}
