use Rattle.std.proofs.Common.{◌≡◌, ◌+◌, ◌-◌, ◌≤◌, length, drop}
use Rattle.std.specs.List.{prefix_len}
use Rattle.fb_lexer.specs.Letters.{is_digit}
use Rattle.fb_lexer.proofs.number.digits_length.Given as goal

abbrev pub invariant-loop-n : goal.invariant-loop-n
invariant-loop-n l = (l.n + prefix_len (is_digit l.base) (drop l.n l.bytes) ≡ prefix_len (is_digit l.base) l.bytes) × (l.n ≤ length l.bytes)

abbrev pub decreases-loop-n : goal.decreases-loop-n
decreases-loop-n l = length l.bytes - l.n
