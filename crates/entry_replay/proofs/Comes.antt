use Rattle.std.proofs.Common.{◌≡◌, ℕ, List, reverse, Option, Some, None, option_map}
use Rattle.entry_replay.specs.World.{Common, Finish}
use Rattle.entry_replay.specs.Computed.{replay_in}
use Rattle.entry_replay.specs.Example.{Act, Shelf, threads_of, shelf, first_shelf, Comes}
use Rattle.entry_replay.proofs.Computing.{IsReplay, replay_in_is}
use Rattle.entry_replay.proofs.Pairs.{nothing_there}
use Rattle.entry_replay.proofs.Touched.{same_some}

by_world : (rule : ℕ) (procs : List (List Act)) (schedule : List ℕ) (ending : Option Finish) (o : Option (Common Shelf × List (List Act))) → IsReplay (threads_of procs) (shelf rule 2) 10 first_shelf (reverse schedule) o → option_map (λ world. world.0.ending) o ≡ Some ending → Comes rule procs schedule ending
by_world rule procs schedule ending None run e = absurd (nothing_there ending e)
by_world rule procs schedule ending (Some world) run e = record { common = world.0; states = world.1; replay = run; ending_is = same_some world.0.ending ending e }

-- what the computed replay comes to
pub comes : (rule : ℕ) (procs : List (List Act)) (schedule : List ℕ) (ending : Option Finish) → option_map (λ world. world.0.ending) (replay_in (threads_of procs) (shelf rule 2) 20 10 first_shelf (reverse schedule)) ≡ Some ending → Comes rule procs schedule ending
comes rule procs schedule ending e = by_world rule procs schedule ending (replay_in (threads_of procs) (shelf rule 2) 20 10 first_shelf (reverse schedule)) (replay_in_is (List Act) Shelf (threads_of procs) (shelf rule 2) 20 10 first_shelf (reverse schedule)) e
