use Rattle.std.proofs.Common.{refl}
use Rattle.fb_top.proofs.compiler.compile.Goals as goal

pub returns-in-None-clause-refused : goal.returns-in-None-clause-refused
returns-in-None-clause-refused c = (refl, λ program is. let e = rw c.in-None.is at (c.in_ok-read_program.ensures.only program is) in cc)
