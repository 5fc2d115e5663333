use Rattle.fb_lexer.proofs.Begun.{begins_if_read, begins_read}
use Rattle.fb_lexer.proofs.lexing.one_piece.Goals as goal

pub returns : goal.returns
returns c = record { begins = begins_if_read; only = begins_read }
