-- What is seen of a source in memory.
use Rattle.std.specs.Prelude.{ℕ, List}

-- the bytes that are left, of which a call gives at most `piece`
pub record Pieces : Type 0 where
  pub left : List ℕ
  pub piece : ℕ
