-- Appending one part of a list after another appends both.
use Rattle.std.proofs.Common.{ℕ, ◌+◌, List, take, drop, Option, take-add}
use Rattle.std.proofs.KnownBytes.{Appends-trans}
use Rattle.std.specs.Io.KnownBytes.{Appends}

pub appends_next : (old mid new : Option (List ℕ)) (bytes : List ℕ) (m n : ℕ)
    → Appends old mid (take m bytes) → Appends mid new (take n (drop m bytes)) → Appends old new (take (m + n) bytes)
appends_next old mid new bytes m n first second = rw take-add (Appends-trans old mid new _ _ first second)
