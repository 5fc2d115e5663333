use Rattle.std.proofs.Common.{◌∷◌, length, arith}
use Rattle.fb_lexer.specs.Grammar.{Begins}
use Rattle.fb_lexer.specs.Pieces.{piece_of}
use Rattle.fb_lexer.specs.Rows.{start}
use Rattle.fb_lexer.proofs.Begun.{begins_one, read_begins}
use Rattle.fb_lexer.proofs.Moves.{moves}
use Rattle.fb_lexer.proofs.Rows.{has_row}
use Rattle.fb_lexer.proofs.Unique.{unique}
use Rattle.fb_lexer.proofs.lexing.one_row.Goals as goal

pub returns : goal.returns
returns c = record {
  some = λ text. has_row Begins (λ before b bytes. (piece_of before (b ∷ bytes), read_begins before b bytes, moves before b bytes)) (length text) start text (omega arith);
  unique = λ text tokens others fault other row again. unique Begins begins_one row again;
}
