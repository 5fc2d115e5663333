use Rattle.std.proofs.Common.{subst, arith}
use Rattle.rv_isa.specs.Machine.{machine_step}
use Rattle.fb_image.specs.declared.image.ImageParts.{ImageParts}
use Rattle.main_run.specs.Solo.{SoloEndsAs, main_cpu, main_machine}
use Rattle.main_run.proofs.Runs.{made_none}
use Rattle.main_run.proofs.run.run_image.Goals as goal

pub returns-in_default-clause-ends : goal.returns-in_default-clause-ends
returns-in_default-clause-ends g c =
    let image = c.args.image in
    record {
      entries = 0;
      within = omega arith;
      goes_on = record {
        state = main_cpu image;
        made = made_none (machine_step (main_machine image)) c.args.turns (main_cpu image) (g.K.Sink.written c.args.out.now) c.args.schedule.now.items c.requires;
      };
    }

pub returns-clause-ends : goal.returns-clause-ends
returns-clause-ends g c =
    subst (λ (k : ImageParts). SoloEndsAs (machine_step (main_machine k)) c.args.turns (main_cpu k) c.args.entries (g.K.Sink.written c.args.out.now) (g.K.Sink.written c.run.new.out) (g.K.Sink.faults c.args.out.now) (g.K.Sink.faults c.run.new.out) c.run.new.schedule.items c.run.result) c.in-Ok.ensures c.run.ensures.ends
