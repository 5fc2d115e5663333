use Rattle.std.proofs.Common.{◌≡◌, ◌==◌, ◌+◌, ◌≤◌, ◌++◌, List, Option, length, count_by}
use Rattle.fb_base.specs.declared.fault.Fault.{Fault}
use Rattle.fb_lexer.specs.declared.token.Token.{Token}
use Rattle.fb_lexer.specs.Pieces.{Reads}
use Rattle.fb_lexer.specs.Rows.{Row, start}
use Rattle.fb_lexer.proofs.lexing.tokens_of.Given as goal

abbrev pub invariant-loop-rest : goal.invariant-loop-rest
invariant-loop-rest l = record {
  row : (tokens : List Token) (fault : Option Fault) → Row Reads l.now l.rest tokens fault
      → Row Reads start l.text (l.tokens.items ++ tokens) fault;
  few : length l.tokens.items ≤ 65536;
  lines : l.now.at.line + count_by (λ b. b == 10) l.rest ≡ 1 + count_by (λ b. b == 10) l.text;
  line : l.now.at.line + length l.rest ≤ 1 + length l.text;
  col : l.now.at.col + length l.rest ≤ 1 + length l.text;
  some : 1 ≤ l.now.at.col;
}

abbrev pub decreases-loop-rest : goal.decreases-loop-rest
decreases-loop-rest l = length l.rest
