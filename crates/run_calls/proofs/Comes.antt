use Rattle.std.proofs.Common.{◌≡◌, ℕ, List, reverse, Option, Some, None, option_map, ap}
use Rattle.entry_replay.specs.World.{Common, Finish}
use Rattle.entry_replay.specs.Computed.{replay_in}
use Rattle.entry_replay.proofs.Computing.{IsReplay, replay_in_is}
use Rattle.entry_replay.proofs.Pairs.{nothing_there}
use Rattle.entry_replay.proofs.Touched.{same_some}
use Rattle.run_calls.specs.Shared.{Shared}
use Rattle.run_calls.specs.Table.{runtime, first_shared}
use Rattle.run_calls.specs.Example.{Act, Actor, threads_of, program, Comes}

-- what is told of a world
abbrev pub told : Common Shared × List Actor → List ℕ × Option Finish
told world = (world.0.shared.output, world.0.ending)

by_world : (rule : ℕ) (procs : List (List Act)) (input schedule output : List ℕ) (ending : Option Finish) (o : Option (Common Shared × List Actor)) → IsReplay (threads_of procs) (runtime (program rule)) 10 (first_shared (program rule) input) (reverse schedule) o → option_map told o ≡ Some (output, ending) → Comes rule procs input schedule output ending
by_world rule procs input schedule output ending None run e = absurd (nothing_there (output, ending) e)
by_world rule procs input schedule output ending (Some world) run e =
    let same = same_some (told world) (output, ending) e in
    record { common = world.0; states = world.1; replay = run; output_is = ap (λ (w : List ℕ × Option Finish). w.0) same; ending_is = ap (λ (w : List ℕ × Option Finish). w.1) same }

-- what the computed replay comes to
pub comes : (rule : ℕ) (procs : List (List Act)) (input schedule output : List ℕ) (ending : Option Finish) → option_map told (replay_in (threads_of procs) (runtime (program rule)) 30 10 (first_shared (program rule) input) (reverse schedule)) ≡ Some (output, ending) → Comes rule procs input schedule output ending
comes rule procs input schedule output ending e =
    by_world rule procs input schedule output ending
    (replay_in (threads_of procs) (runtime (program rule)) 30 10 (first_shared (program rule) input) (reverse schedule))
    (replay_in_is Actor Shared (threads_of procs) (runtime (program rule)) 30 10 (first_shared (program rule) input) (reverse schedule))
    e
