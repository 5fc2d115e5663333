use Rattle.std.proofs.Common.{◌≡◌, ◌==◌, ◌<◌, [], ◌∷◌, ◌++◌, None, length, refl, sym, ◌∙◌, arith, rules, tests, append-nil}
use Rattle.std.proofs.lemmas.Result.{err_from_is_err_and}
use Rattle.fb_lexer.specs.Pieces.{Reads, piece_of}
use Rattle.std.proofs.lemmas.List.Sums.{count_by-le-length}
use Rattle.fb_lexer.proofs.Moves.{moves}
use Rattle.fb_lexer.proofs.Rows.{refused, few_tokens, at_fault, at_end, carries_on, sound, no_lines, lines_append}
use Rattle.fb_lexer.proofs.lexing.tokens_of.Goals as goal

pub returns-in-Fault : goal.returns-in-Fault
returns-in-Fault c =
    let some : 0 < length c.loop-rest.rest.now = search (rules, tests) in
    let row = at_fault Reads c.loop-rest.now c.loop-rest.rest.now c.in-Fault.kind some (sym c.in_ok-piece.ensures.value ∙ c.in-Fault.is) in
    (_, _, c.loop-rest.invariant.row [] _ row, few_tokens (c.loop-rest.tokens.items ++ []) _ (rw append-nil c.loop-rest.invariant.few))

pub returns-in_err-keep : goal.returns-in_err-keep
returns-in_err-keep c =
    let p = err_from_is_err_and c.from_residual-in_err-keep.result c.from_residual-in_err-keep.ensures.1 in
    let some : 0 < length c.loop-rest.rest.now = search (rules, tests) in
    let refused = refused Reads (λ before b bytes. (piece_of before (b ∷ bytes), refl, moves before b bytes))
    c.args.text.now c.loop-rest.tokens.items c.keep.new.tokens.items c.loop-rest.now c.past-next.result c.loop-rest.rest.now c.split_at.result.0.now c.split_at.result.1.now c.in_ok-piece.piece c.token_of.result c.length_of.result
    c.loop-rest.invariant.row some (sym c.in_ok-piece.ensures.value) (sound _ (λ kind is. c.in_default.not-Fault _ is)) c.length_of.ensures c.split_at.ensures.front c.split_at.ensures.back c.past-next.ensures.value c.token_of.ensures
    c.in_err-keep.field-0.0 c.in_err-keep.ensures in
    rw (p.1, p.2) refused

pub loop-rest-preserved : goal.loop-rest-preserved
loop-rest-preserved c =
    let some : 0 < length c.loop-rest.rest.now = search (rules, tests) in
    let lines = rw c.split_at.ensures.by_index.0 at c.loop-rest.invariant.lines in
    record {
      row = carries_on Reads c.args.text.now c.loop-rest.tokens.items c.keep.new.tokens.items c.loop-rest.now c.past-next.result c.loop-rest.rest.now c.split_at.result.0.now c.split_at.result.1.now c.in_ok-piece.piece c.token_of.result c.length_of.result
          c.loop-rest.invariant.row some (sym c.in_ok-piece.ensures.value) (sound _ (λ kind is. c.in_default.not-Fault _ is)) c.length_of.ensures c.split_at.ensures.front c.split_at.ensures.back c.past-next.ensures.value c.token_of.ensures c.in_ok-keep.ensures.0;
      few = c.in_ok-keep.ensures.1;
      lines = omega (arith, lines, lines_append c.split_at.result.0.now c.split_at.result.1.now, c.past-next.ensures.line);
      line = omega (arith, count_by-le-length (λ b. b == 10) c.split_at.result.0.now, c.past-next.ensures.line, c.split_at.ensures.front_len, c.split_at.ensures.back_len);
      col = omega (arith, c.past-next.ensures.col, c.split_at.ensures.front_len, c.split_at.ensures.back_len);
      some = c.past-next.ensures.some;
    }

pub returns : goal.returns
returns c =
    let none : length c.loop-rest.rest.now ≡ 0 = search (rules, tests) in
    (rw append-nil at (c.loop-rest.invariant.row [] None (at_end Reads c.loop-rest.now c.loop-rest.rest.now none)), c.loop-rest.invariant.few, omega (arith, no_lines c.loop-rest.rest.now none))
