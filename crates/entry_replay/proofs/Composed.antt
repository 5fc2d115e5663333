use Rattle.std.proofs.Common.{ℕ}
use Rattle.thread_system.specs.Effect.{Effect, Silent, Reads, Writes, Turn, Calls, Traps}
use Rattle.thread_system.specs.Simulation.{Matches}
use Rattle.thread_system.proofs.Through.{Through, simulates_through}
use Rattle.entry_replay.specs.World.{System}
use Rattle.entry_replay.specs.Laws.{CarriesOut, Via}

-- an effect that is matched up to a relation is matched up to each that follows from it
matches_more : {A C : Type 0} (R Q : A → C → Type 0) (step : C → Effect C) → ((a : A) (c : C) → R a c → Q a c) → (e : Effect A) (c : C) → Matches R step e c → Matches Q step e c
matches_more R Q step more (Silent next) c w = (w.0, w.1, more next w.0 w.2)
matches_more R Q step more (Reads addr width line next) c w = (w.0, w.1, w.2, w.3, λ v. more (next v) (w.1 v) (w.4 v))
matches_more R Q step more (Writes addr width value line next) c w = (w.0, w.1, w.2, w.3, more next w.1 w.4)
matches_more R Q step more (Turn line next) c w = (w.0, w.1, w.2, w.3, more next w.1 w.4)
matches_more R Q step more (Calls number args line next) c w = (w.0, w.1, w.2, w.3, λ v. more (next v) (w.1 v) (w.4 v))
matches_more R Q step more (Traps kind line) c w = w

-- Two such steps, one after the other, are one.
pub carries_through : {A B C : Type 0} (from : System A) (middle : System B) (to : System C) (R : ℕ → A → B → Type 0) (Q : ℕ → B → C → Type 0) (procs most : ℕ) → CarriesOut from middle R procs most → CarriesOut middle to Q procs most → CarriesOut from to (λ t. Via (R t) (Q t)) procs most
carries_through from middle to R Q procs most one two = record {
  steps = λ t a c via. matches_more (Through (R t) (Q t)) (Via (R t) (Q t)) (to.step t) (λ x z w. (w.between, w.first, w.second)) (from.step t a) c
      (simulates_through (from.step t) (middle.step t) (to.step t) (R t) (Q t) (one.steps t) (two.steps t) a c (record { between = via.0; first = via.1; second = via.2 }));
  starts = λ t proc param few some. (middle.start t proc param, one.starts t proc param few some, two.starts t proc param few some);
}
