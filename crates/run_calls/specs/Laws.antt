use Rattle.std.specs.Prelude.{◌≡◌, ℕ, true, List, length}
use Rattle.rt_threads.specs.Standing.{Stands}
use Rattle.entry_replay.specs.World.{System, Runtime, Common}
use Rattle.entry_replay.specs.Replay.{Replays}
use Rattle.run_calls.specs.Shared.{Program, Shared}
use Rattle.run_calls.specs.Table.{runtime, first_shared}

-- where a runtime says that a thread is ready, there is one
abbrev pub SomeIsReady : {W : Type 0} → Runtime W → W → Type 0
SomeIsReady rt x = rt.any_ready x ≡ true → (t : ℕ) × (rt.is_ready x t ≡ true)

-- where there is one, it says so
abbrev pub AnyIsReady : {W : Type 0} → Runtime W → W → Type 0
AnyIsReady rt x = (t : ℕ) → rt.is_ready x t ≡ true → rt.any_ready x ≡ true

-- At every moment of a replay the table of threads stands.
abbrev pub TableStands : Type 0 → Type 0
TableStands S = (sys : System S) (p : Program) (turns : ℕ) (input schedule : List ℕ) (c : Common Shared) (states : List S) → Replays sys (runtime p) turns (first_shared p input) schedule c states → Stands c.shared.table

-- At every moment of a replay each thread of the table has a state.
abbrev pub EachHasAState : Type 0 → Type 0
EachHasAState S = (sys : System S) (p : Program) (turns : ℕ) (input schedule : List ℕ) (c : Common Shared) (states : List S) → Replays sys (runtime p) turns (first_shared p input) schedule c states → length states ≡ length c.shared.table.threads
