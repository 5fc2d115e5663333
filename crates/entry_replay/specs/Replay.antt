use Rattle.std.specs.Prelude.{◌≡◌, ℕ, true, List, [], ◌∷◌, slice_get, Some, None}
use Rattle.entry_replay.specs.Accesses.{Access, Store, untouched}
use Rattle.entry_replay.specs.Runs.{End, Runs}
use Rattle.entry_replay.specs.World.{System, Runtime, Common, first_common, start_of, since, memory_at, common_after, states_after}

-- One entry of thread t, which is ready, while the run isn't over: its run on the present memory until it makes a call,
-- traps, comes to a turn above the limit, or accesses a byte that was touched since its start; and what comes of that.
pub record Entry {S W : Type 0} (sys : System S) (rt : Runtime W) (turns : ℕ) (c : Common W) (states : List S) (t : ℕ) (after : Common W) (states_then : List S) : Type 0 where
  pub goes_on : c.ending ≡ None
  pub ready : rt.is_ready c.shared t ≡ true
  pub state : S
  pub state_is : slice_get states t ≡ Some state
  pub accesses : List Access
  pub stores : List Store
  pub end : End S
  pub run : Runs (sys.step t) rt.cells (since rt c t) turns (rt.memory c.shared) state accesses stores end
  pub common_is : after ≡ common_after rt c t stores end
  pub states_are : states_then ≡ states_after sys rt c t stores end states

-- The replay of a schedule, whose latest thread stands first, from what is shared at the beginning: the common part of
-- the world that it comes to, and the states of the threads. There is none where the schedule names a thread that isn't
-- ready, or goes on after an ending.
pub data Replays {S W : Type 0} (sys : System S) (rt : Runtime W) (turns : ℕ) (first : W) : List ℕ → Common W → List S → Type 0 where
  begins : Replays sys rt turns first [] (first_common first) (sys.start 0 0 0 ∷ [])
  one_more : (schedule : List ℕ) (c after : Common W) (states states_then : List S) (t : ℕ) → Replays sys rt turns first schedule c states → Entry sys rt turns c states t after states_then → Replays sys rt turns first (t ∷ schedule) after states_then

-- The own segment of a thread in a state: its run on the memory as it stood after the entry of its start, where no byte
-- counts as touched.
pub record Own {S W : Type 0} (sys : System S) (rt : Runtime W) (turns : ℕ) (first : W) (c : Common W) (t : ℕ) (state : S) : Type 0 where
  pub accesses : List Access
  pub stores : List Store
  pub end : End S
  pub run : Runs (sys.step t) rt.cells untouched turns (memory_at (rt.memory first) c.history (start_of rt c t)) state accesses stores end
