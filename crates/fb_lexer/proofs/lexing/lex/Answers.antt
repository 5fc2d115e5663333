use Rattle.fb_lexer.specs.Grammar.{Begins}
use Rattle.fb_lexer.proofs.Begun.{begins_one, lexed_begins}
use Rattle.fb_lexer.proofs.Unique.{told}
use Rattle.fb_lexer.proofs.lexing.lex.Goals as goal

pub returns : goal.returns
returns c =
    let known = lexed_begins c.args.text.now _ c.tokens_of.ensures in
    record {
      exact = known;
      only = told Begins begins_one c.args.text.now _ known;
    }
