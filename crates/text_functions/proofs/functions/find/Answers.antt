use Rattle.std.proofs.Common.{◌≡◌, false, length, eqb}
use Rattle.text_functions.specs.Functions.{is_below_one}
use Rattle.text_functions.proofs.Finds.{find_in}
use Rattle.text_functions.proofs.functions.find.Goals as goal

pub returns : goal.returns
returns c =
    let some : eqb (length c.args.t.now) 0 ≡ false = cc in
    let above : is_below_one c.args.i ≡ false = cc in
    let e = find_in c.args.i c.args.s.now c.args.t.now some above in
    cc
