use Rattle.std.proofs.Common.{map, length, sym, ◌∙◌, ap}
use Rattle.fb_lexer.specs.Letters.{lower}
use Rattle.fb_lexer.specs.declared.token.TokenKind.TheVariants as kinds
use Rattle.fb_lexer.specs.declared.piece.Piece.TheVariants.{Token}
use Rattle.fb_lexer.proofs.Named.{word_named, name_named}
use Rattle.fb_lexer.proofs.name.named.Goals as goal

pub returns-in-Some-clause-value : goal.returns-in-Some-clause-value
returns-in-Some-clause-value c =
    word_named (map lower c.args.front.now) (length c.args.front.now) c.args.rest.now c.in-Some.word c.reserved.result (sym c.in-Some.ensures) c.reserved.ensures.rem c.reserved.ensures.token

pub returns-in_ok-lowered-in-None-clause-value : goal.returns-in_ok-lowered-in-None-clause-value
returns-in_ok-lowered-in-None-clause-value c =
    ap (λ text. Token (kinds.Name text) (length c.args.front.now)) c.in_ok-lowered-in-None.ensures ∙ name_named (map lower c.args.front.now) (length c.args.front.now) c.args.rest.now (sym c.in-None.ensures)
