use Rattle.std.proofs.Common.{◌≡◌, take, map}
use Rattle.rv_isa.specs.Encoding.{inst_of}
use Rattle.rv_step.proofs.program.decoded.Given as goal

abbrev pub invariant-loop-word : goal.invariant-loop-word
invariant-loop-word l = l.insts.items ≡ map inst_of (take l.word-index l.code)
