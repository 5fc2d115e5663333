-- Entry by entry: what was made so far, and what a run comes to.
use Rattle.std.proofs.Common.{◌≡◌, ℕ, zero, suc, ◌+◌, ◌<◌, ◌≤◌, List, [], ◌∷◌, ◌++◌, take, replicate, Option, Some, refl, ap, sym, ◌∙◌, subst, arith}
use Rattle.std.specs.Io.KnownBytes.{Appends}
use Rattle.std.proofs.KnownBytes.{Appends-trans, Appends-nil}
use Rattle.fb_base.specs.declared.ending.Ending.{Ending}
use Rattle.fb_base.specs.declared.ending.Ending.TheVariants as endings
use Rattle.fb_base.specs.declared.ending.WhichSink.TheVariants as sinks
use Rattle.host_edge.specs.Faults.{Rose}
use Rattle.thread_system.specs.Effect.{Effect}
use Rattle.thread_system.specs.Replay.{Finish, Standing, Going, Over, Ended, Stopped, OutOfTurns, begins, one_more}
use Rattle.rv_step.specs.Step.{trap_number}
use Rattle.main_run.specs.Entries.{IsMade, WasCut, EntryEndsAs}
use Rattle.main_run.specs.Solo.{HasMade, IsOver, IsCut, SoloEndsAs}

-- nothing was written
pub none_written : (old new : Option (List ℕ)) → new ≡ old → Appends old new []
none_written old new same = subst (λ o. Appends old o []) (sym same) (Appends-nil old)

-- a count that rose later rose since earlier
pub rose_since : (first before now : ℕ) → first ≤ before → Rose before now → Rose first now
rose_since first before now later rose = omega arith

zeros_more : (n : ℕ) → ◌++◌ {A = ℕ} (replicate n 0) (0 ∷ []) ≡ replicate (suc n) 0
zeros_more zero = refl
zeros_more (suc n) = ap (λ (t : List ℕ). 0 ∷ t) (zeros_more n)

scheduled_more : (n : ℕ) (schedule longer : List ℕ) → schedule ≡ replicate n 0 → longer ≡ schedule ++ 0 ∷ [] → longer ≡ replicate (suc n) 0
scheduled_more n schedule longer s l = l ∙ ap (λ (t : List ℕ). t ++ 0 ∷ []) s ∙ zeros_more n

module _ {S : Type 0} (step : S → Effect S) (turns : ℕ) (first : S) where
  -- no entry yet
  pub made_none : (old : Option (List ℕ)) (schedule : List ℕ) → schedule ≡ [] → HasMade step turns first old old schedule 0 (Going first)
  made_none old schedule none = record { bytes = []; replays = begins; written = Appends-nil old; scheduled = none }

  -- one entry more
  pub made_more : (old mid new : Option (List ℕ)) (schedule longer : List ℕ) (made : ℕ) (state : S) (standing : Standing S) → HasMade step turns first old mid schedule made (Going state) → IsMade step turns state mid new schedule longer standing → HasMade step turns first old new longer (suc made) standing
  made_more old mid new schedule longer made state standing h e = record {
    bytes = h.bytes ++ e.bytes;
    replays = one_more made h.bytes e.bytes state standing h.replays e.entry;
    written = Appends-trans old mid new h.bytes e.bytes h.written e.written;
    scheduled = scheduled_more made schedule longer h.scheduled e.scheduled;
  }

  made_over : (limit : ℕ) (old mid new : Option (List ℕ)) (schedule longer : List ℕ) (made : ℕ) (state : S) (finish : Finish) → made < limit → HasMade step turns first old mid schedule made (Going state) → IsMade step turns state mid new schedule longer (Over finish) → IsOver step turns first limit old new longer finish
  made_over limit old mid new schedule longer made state finish few h e = record { entries = suc made; within = omega arith; made = made_more old mid new schedule longer made state (Over finish) h e }

  -- the last entry was cut
  made_cut : (limit : ℕ) (old mid new : Option (List ℕ)) (schedule longer : List ℕ) (made : ℕ) (state : S) → made < limit → HasMade step turns first old mid schedule made (Going state) → WasCut step turns state mid new schedule longer → IsCut step turns first limit old new longer
  made_cut limit old mid new schedule longer made state few h e =
      let one : suc made ≡ made + 1 = omega arith in
      record {
        before = made;
        within = few;
        front = h.bytes;
        state = state;
        replays = h.replays;
        bytes = e.bytes;
        standing = e.standing;
        entry = e.entry;
        count = e.cut.0;
        missing = e.cut.1;
        written = Appends-trans old mid new h.bytes (take e.cut.0 e.bytes) h.written e.cut.2;
        scheduled = scheduled_more made schedule longer h.scheduled e.scheduled ∙ ap (λ n. replicate {A = ℕ} n 0) one;
      }

  -- nothing more was done
  made_still : (old mid new : Option (List ℕ)) (schedule longer : List ℕ) (made : ℕ) (standing : Standing S) → HasMade step turns first old mid schedule made standing → new ≡ mid → longer ≡ schedule → HasMade step turns first old new longer made standing
  made_still old mid new schedule longer made standing h same l = record {
    bytes = h.bytes;
    replays = h.replays;
    written = subst (λ o. Appends old o h.bytes) (sym same) h.written;
    scheduled = l ∙ h.scheduled;
  }

  -- An entry that ends the run, after others.
  pub run_ends : (limit : ℕ) (old mid new : Option (List ℕ)) (faults before later : ℕ) (schedule longer : List ℕ) (made : ℕ) (state next : S) (ending : Ending) → made < limit → faults ≤ before → HasMade step turns first old mid schedule made (Going state) → EntryEndsAs step turns state next mid new before later schedule longer (Some ending) → SoloEndsAs step turns first limit old new faults later longer ending
  run_ends limit old mid new faults before later schedule longer made state next (endings.Ended status) few rose h e = made_over limit old mid new schedule longer made state (Ended status) few h e
  run_ends limit old mid new faults before later schedule longer made state next (endings.Trapped kind line thread) few rose h e = (e.0, made_over limit old mid new schedule longer made state (Stopped (trap_number kind) line) few h e.1)
  run_ends limit old mid new faults before later schedule longer made state next (endings.TurnsSpent thread line) few rose h e = (e.0, made_over limit old mid new schedule longer made state (OutOfTurns line) few h e.1)
  run_ends limit old mid new faults before later schedule longer made state next (endings.EntriesSpent given) few rose h e = absurd e
  run_ends limit old mid new faults before later schedule longer made state next (endings.WriteFault sinks.Out) few rose h e = (rose_since faults before later rose e.0, made_cut limit old mid new schedule longer made state few h e.1)
  run_ends limit old mid new faults before later schedule longer made state next (endings.WriteFault sinks.Err) few rose h e = absurd e
  run_ends limit old mid new faults before later schedule longer made state next endings.NoMemory few rose h e = record { entries = made; within = omega arith; goes_on = record { state = state; made = made_still old mid new schedule longer made (Going state) h e.0 e.1 } }
  run_ends limit old mid new faults before later schedule longer made state next (endings.Usage why) few rose h e = absurd e
  run_ends limit old mid new faults before later schedule longer made state next (endings.NoFile name) few rose h e = absurd e
  run_ends limit old mid new faults before later schedule longer made state next (endings.TooLong name) few rose h e = absurd e
  run_ends limit old mid new faults before later schedule longer made state next endings.StoreFault few rose h e = absurd e
  run_ends limit old mid new faults before later schedule longer made state next (endings.Refused fault) few rose h e = absurd e
