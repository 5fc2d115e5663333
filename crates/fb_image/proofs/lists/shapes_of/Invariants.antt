use Rattle.std.proofs.Common.{◌≡◌, ◌-◌}
use Rattle.fb_image.specs.Format.{after_shape}
use Rattle.fb_image.specs.Reading.{many_at, shape_at}
use Rattle.fb_image.proofs.Loop.{with_front}
use Rattle.fb_image.proofs.lists.shapes_of.Given as goal

abbrev pub invariant-loop : goal.invariant-loop
invariant-loop l = with_front l.shapes (many_at shape_at after_shape l.least (l.count - l.counter) l.rest) ≡ many_at shape_at after_shape 0 l.count l.bytes
