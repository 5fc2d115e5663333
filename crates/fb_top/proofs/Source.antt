-- The run of a thread that carries out another is a run of that other.
use Rattle.std.proofs.Common.{◌≡◌, ℕ, ◌+◌, List, ◌++◌, Option, refl, subst}
use Rattle.fb_base.specs.declared.ending.Ending.{Ending}
use Rattle.fb_base.specs.declared.ending.Ending.TheVariants as endings
use Rattle.fb_base.specs.declared.ending.WhichSink.TheVariants as sinks
use Rattle.thread_system.specs.Effect.{Effect}
use Rattle.thread_system.specs.Simulation.{Simulates}
use Rattle.thread_system.specs.Replay.{Standing, Going, Over, Finish, Ended, Stopped, OutOfTurns, Replays, SameStanding, both_go, both_over}
use Rattle.thread_system.proofs.Answering.{ComesToAnEnd, answers_entry, answers_replay, goes_alike}
use Rattle.rv_step.specs.Step.{trap_number}
use Rattle.main_run.specs.Solo.{HasMade, IsOver, GoesOn, IsUnderWay, IsCut, SoloEndsAs}

-- where the second thread's run is over, so is the first's, in the same way
over_alike : {A B : Type 0} (R : A → B → Type 0) (finish : Finish) (after : Standing A) → SameStanding R after (Over finish) → after ≡ Over finish
over_alike R _ after (both_over finish) = refl

-- what two kinds of threads have to do with each other for the runs of one to be those of the other
pub record Answers {A B : Type 0} (step : A → Effect A) (carried : B → Effect B) (turns : ℕ) (a : A) (b : B) : Type 1 where
  pub R : A → B → Type 0
  pub Good : A → Type 0
  pub simulation : Simulates step carried R
  pub ends : (s : A) → Good s → ComesToAnEnd step Good turns s
  pub related : R a b
  pub good : Good a

over_answers : {A B : Type 0} (step : A → Effect A) (carried : B → Effect B) (turns : ℕ) (a : A) (b : B) → Answers step carried turns a b → (limit : ℕ) (old new : Option (List ℕ)) (schedule : List ℕ) (finish : Finish) → IsOver carried turns b limit old new schedule finish → IsOver step turns a limit old new schedule finish
over_answers step carried turns a b w limit old new schedule finish over =
    let r = answers_replay step carried w.R w.Good w.simulation turns w.ends a b over.entries over.made.bytes (Over finish) w.related w.good over.made.replays in
    record {
      entries = over.entries;
      within = over.within;
      made = record { bytes = over.made.bytes; replays = subst (λ s. Replays step turns a over.entries over.made.bytes s) (over_alike w.R finish r.after r.same) r.replay; written = over.made.written; scheduled = over.made.scheduled };
    }

goes_answers : {A B : Type 0} (step : A → Effect A) (carried : B → Effect B) (turns : ℕ) (a : A) (b : B) → Answers step carried turns a b → (old new : Option (List ℕ)) (schedule : List ℕ) (entries : ℕ) → GoesOn carried turns b old new schedule entries → GoesOn step turns a old new schedule entries
goes_answers step carried turns a b w old new schedule entries goes =
    let r = answers_replay step carried w.R w.Good w.simulation turns w.ends a b entries goes.made.bytes (Going goes.state) w.related w.good goes.made.replays in
    let on = goes_alike w.R w.Good goes.state r.after r.same r.well in
    record {
      state = on.state;
      made = record { bytes = goes.made.bytes; replays = subst (λ s. Replays step turns a entries goes.made.bytes s) on.stands r.replay; written = goes.made.written; scheduled = goes.made.scheduled };
    }

cut_answers : {A B : Type 0} (step : A → Effect A) (carried : B → Effect B) (turns : ℕ) (a : A) (b : B) → Answers step carried turns a b → (limit : ℕ) (old new : Option (List ℕ)) (schedule : List ℕ) → IsCut carried turns b limit old new schedule → IsCut step turns a limit old new schedule
cut_answers step carried turns a b w limit old new schedule cut =
    let r = answers_replay step carried w.R w.Good w.simulation turns w.ends a b cut.before cut.front (Going cut.state) w.related w.good cut.replays in
    let on = goes_alike w.R w.Good cut.state r.after r.same r.well in
    let last = answers_entry step carried w.R w.Good w.simulation turns on.state cut.state cut.bytes cut.standing (w.ends on.state on.good) on.related cut.entry in
    record {
      before = cut.before;
      within = cut.within;
      front = cut.front;
      state = on.state;
      replays = subst (λ s. Replays step turns a cut.before cut.front s) on.stands r.replay;
      bytes = cut.bytes;
      standing = last.after;
      entry = last.entry;
      count = cut.count;
      missing = cut.missing;
      written = cut.written;
      scheduled = cut.scheduled;
    }

-- A lone run of the second kind of thread is one of the first: the same ending, output and schedule.
pub solo_answers : {A B : Type 0} (step : A → Effect A) (carried : B → Effect B) (turns : ℕ) (a : A) (b : B) → Answers step carried turns a b → (limit : ℕ) (old new : Option (List ℕ)) (faults later : ℕ) (schedule : List ℕ) (ending : Ending) → SoloEndsAs carried turns b limit old new faults later schedule ending → SoloEndsAs step turns a limit old new faults later schedule ending
solo_answers step carried turns a b w limit old new faults later schedule (endings.Ended status) e = over_answers step carried turns a b w limit old new schedule (Ended status) e
solo_answers step carried turns a b w limit old new faults later schedule (endings.Trapped kind line thread) e = (e.0, over_answers step carried turns a b w limit old new schedule (Stopped (trap_number kind) line) e.1)
solo_answers step carried turns a b w limit old new faults later schedule (endings.TurnsSpent thread line) e = (e.0, over_answers step carried turns a b w limit old new schedule (OutOfTurns line) e.1)
solo_answers step carried turns a b w limit old new faults later schedule (endings.EntriesSpent given) e = (e.0, goes_answers step carried turns a b w old new schedule limit e.1)
solo_answers step carried turns a b w limit old new faults later schedule (endings.WriteFault sinks.Out) e = (e.0, cut_answers step carried turns a b w limit old new schedule e.1)
solo_answers step carried turns a b w limit old new faults later schedule (endings.WriteFault sinks.Err) e = elim e [ ]
solo_answers step carried turns a b w limit old new faults later schedule endings.NoMemory e = record { entries = e.entries; within = e.within; goes_on = goes_answers step carried turns a b w old new schedule e.entries e.goes_on }
solo_answers step carried turns a b w limit old new faults later schedule (endings.Usage why) e = elim e [ ]
solo_answers step carried turns a b w limit old new faults later schedule (endings.NoFile name) e = elim e [ ]
solo_answers step carried turns a b w limit old new faults later schedule (endings.TooLong name) e = elim e [ ]
solo_answers step carried turns a b w limit old new faults later schedule endings.StoreFault e = elim e [ ]
solo_answers step carried turns a b w limit old new faults later schedule (endings.Refused fault) e = elim e [ ]
