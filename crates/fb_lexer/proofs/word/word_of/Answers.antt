use Rattle.std.proofs.Common.{rules}
use Rattle.fb_lexer.specs.Words.{word_of}
use Rattle.fb_lexer.proofs.word.word_of.Goals as goal

pub returns : goal.returns
unfolding word_of
returns c = search rules
