use Rattle.std.proofs.Common.{refl, sym, below_more}
use Rattle.mid_code.specs.Operations.{code_of}
use Rattle.mid_code.specs.Flow.{IsSound}
use Rattle.mid_code.proofs.Marks.{not_false, sound_alone, sound_within}
use Rattle.mid_code.proofs.program.MidProgram.check.Goals as goal

pub returns-then-not-is_sound : goal.returns-then-not-is_sound
returns-then-not-is_sound c =
    let less = rw c.len-p-end.ensures at c.loop-p-test.true in
    ((λ f. absurd (not_false (sym f))), (λ all. c.if-not-is_sound.ensures.1 (sound_alone c.args.self.now.procs c.loop-p.p _ c.at.ensures (all c.loop-p.p less))))

pub loop-p-preserved : goal.loop-p-preserved
loop-p-preserved c = below_more (λ k. IsSound (code_of c.args.self.now.procs) k) c.loop-p.p c.loop-p.invariant (sound_within c.args.self.now.procs c.loop-p.p _ c.at.ensures (c.if-not-is_sound.ensures.0 refl))
