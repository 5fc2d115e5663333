use Rattle.std.proofs.Common.{◌≡◌, ℕ, [], ◌∷◌, ◌++◌, ◌∙◌, ap}
use Rattle.mid_code.specs.Flow.{AreLawful}
use Rattle.first_language.specs.Tree.{program_of}
use Rattle.first_lowering.specs.Lowering.{main_ops}
use Rattle.first_lowering.proofs.Beginning.{lowering_lawful}
use Rattle.first_lowering.proofs.Emitted.{emitted_main}
use Rattle.first_lowering.proofs.program.lower.Goals as goal

pub of-requires : goal.of-requires
of-requires c =
    let p = program_of c.args.program.now in
    let block = rw (c.as_slice.ensures, c.new-ops.ensures.items) at c.in_ok-put_block.ensures in
    let last = rw (c.call.ensures, c.in_ok-number.ensures.0) at c.in_ok-put.ensures in
    rw (emitted_main p _ _ block last) (lowering_lawful p)
