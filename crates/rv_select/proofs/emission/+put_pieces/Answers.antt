use Rattle.std.proofs.Common.{arith}
use Rattle.std.proofs.lemmas.Grind.{common_steps}
use Rattle.rv_select.proofs.Pieces.{pieces_more}
use Rattle.rv_select.proofs.emission.+put_pieces.Goals as goal

pub returns : goal.returns
returns t c =
    let code = pieces_more c.args.pieces c.args.r c.args.number (omega arith) (omega arith) in
    grind (arith, common_steps, code)
