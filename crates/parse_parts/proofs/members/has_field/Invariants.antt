use Rattle.std.proofs.Common.{◌≡◌, drop}
use Rattle.parse_parts.specs.Members.{has_field}
use Rattle.parse_parts.proofs.members.has_field.Given as goal

abbrev pub invariant-loop-member : goal.invariant-loop-member
invariant-loop-member l = has_field l.members ≡ has_field (drop l.member-index l.members)
