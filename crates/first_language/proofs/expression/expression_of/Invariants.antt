use Rattle.std.proofs.Common.{◌≡◌, drop}
use Rattle.first_language.specs.Reading.{read_row, expression_of}
use Rattle.first_language.specs.Kept.{standing_of}
use Rattle.first_language.proofs.expression.expression_of.Given as goal

-- what is left is read as the whole
abbrev pub invariant-loop-token : goal.invariant-loop-token
invariant-loop-token l = read_row l.names (standing_of l.standing) (drop l.token-index l.tokens) ≡ expression_of l.names l.tokens
