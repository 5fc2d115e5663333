-- Taking one piece after what was taken before takes both.
use Rattle.std.proofs.Common.{ℕ, ◌+◌, ◌≤◌, List, ◌++◌, length, Option, arith, length-append}
use Rattle.std.proofs.KnownBytes.{Consumes-trans}
use Rattle.std.specs.Io.KnownBytes.{Consumes}
use Rattle.host_edge.specs.Within.{TakesAtMost}

pub takes_piece : (old mid new : Option (List ℕ)) (bytes piece : List ℕ) (most : ℕ)
    → Consumes old mid bytes → Consumes mid new piece → length bytes + length piece ≤ most → TakesAtMost old new most
takes_piece old mid new bytes piece most first second fits =
    (bytes ++ piece, omega (arith, length-append bytes piece), Consumes-trans old mid new bytes piece first second)
