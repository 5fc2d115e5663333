use Rattle.std.proofs.Common.{◌≡◌, ℕ, ◌<◌, ◌≤◌, nat_lt, Bool, true, false, ◌&&◌, ◌||◌, if◌then◌else◌, List, [], ◌∷◌, Option, Some, is_some, true≢false, refl, sym, ap, ◌∙◌, subst, arith}
use Rattle.std.proofs.lemmas.Bool.{ltb-true, lt-ltb}
use Rattle.thread_system.specs.Memory.{Memory}
use Rattle.entry_replay.specs.Accesses.{Store, among, untouched}
use Rattle.entry_replay.specs.Runs.{End, Calling, Trapped, Spent, Raced}
use Rattle.entry_replay.specs.World.{System, Applied, Refuses, Does, Runtime, Past, Common, latest, touched_since, memory_at, common_after, called, applied}
use Rattle.entry_replay.specs.Replay.{Replays, begins, one_more}
use Rattle.entry_replay.specs.Laws.{Lawful, Agrees, IsFalling}

-- What a replay keeps of its history.

-- the memory after the latest entry
abbrev pub last_memory : Memory → List Past → Memory
last_memory first [] = first
last_memory first (p ∷ ps) = p.memory

-- each entry leaves the bytes that it didn't touch
abbrev pub Chained : Memory → List Past → Type 0
Chained first [] = Unit {0}
Chained first (p ∷ ps) = ((a : ℕ) → p.touched a ≡ false → last_memory first ps a ≡ p.memory a) × Chained first ps

-- A history stands: the memory is that after the latest entry, each entry leaves what it didn't touch, and the numbers
-- fall.
pub record Stands {W : Type 0} (rt : Runtime W) (first : W) (c : Common W) : Type 0 where
  pub now : rt.memory c.shared ≡ last_memory (rt.memory first) c.history
  pub chained : Chained (rt.memory first) c.history
  pub falls : IsFalling c.history

neither : (a b : Bool) → (a || b) ≡ false → (a ≡ false) × (b ≡ false)
neither true b e = absurd (true≢false e)
neither false b e = (refl, e)

stands_quiet : {W : Type 0} (rt : Runtime W) (first : W) (c : Common W) → Stands rt first c → (a : ℕ) → untouched a ≡ false → last_memory (rt.memory first) c.history a ≡ rt.memory c.shared a
stands_quiet rt first c s a e = ap (λ (m : Memory). m a) (sym s.now)

stands_called : {W : Type 0} (rt : Runtime W) (first : W) → Lawful rt → (c : Common W) (t : ℕ) (w : List Store) (number : ℕ) (args : List ℕ) (line : ℕ) → Stands rt first c → (a : Applied W) → applied rt c t w number args line ≡ a → Stands rt first (called rt c t w number line a)
stands_called rt first lawful c t w number args line s (Refuses kind) is = record { now = refl; chained = (stands_quiet rt first c s, s.chained); falls = (omega arith, s.falls) }
stands_called rt first lawful c t w number args line s (Does d) is = record {
  now = refl;
  chained = (
    λ a quiet.
        let parts = neither (among w a) (d.touched a) quiet in
        ap (λ (m : Memory). m a) (sym s.now) ∙ lawful.stores_keep w c.shared a parts.0 ∙ lawful.calls_touch number args t _ line (rt.stored w c.shared) d is a parts.1,
    s.chained,
  );
  falls = (omega arith, s.falls);
}

stands_after : {W S : Type 0} (rt : Runtime W) (first : W) → Lawful rt → (c : Common W) (t : ℕ) (w : List Store) (e : End S) → Stands rt first c → Stands rt first (common_after rt c t w e)
stands_after rt first lawful c t w (Calling number args line next) s = stands_called rt first lawful c t w number args line s (applied rt c t w number args line) refl
stands_after rt first lawful c t w (Trapped kind line) s = record { now = refl; chained = (stands_quiet rt first c s, s.chained); falls = (omega arith, s.falls) }
stands_after rt first lawful c t w (Spent line) s = record { now = refl; chained = (stands_quiet rt first c s, s.chained); falls = (omega arith, s.falls) }
stands_after rt first lawful c t w (Raced x) s = record { now = refl; chained = (stands_quiet rt first c s, s.chained); falls = (omega arith, s.falls) }

pub stands : {S W : Type 0} (sys : System S) (rt : Runtime W) (turns : ℕ) (first : W) → Lawful rt → (schedule : List ℕ) (c : Common W) (states : List S) → Replays sys rt turns first schedule c states → Stands rt first c
stands sys rt turns first lawful _ c states begins = record { now = refl; chained = tt; falls = tt }
stands sys rt turns first lawful _ c _ (one_more schedule d _ states states_then t run entry) =
    subst (λ k. Stands rt first k) (sym entry.common_is) (stands_after rt first lawful d t entry.stores entry.end (stands sys rt turns first lawful schedule d states run))

-- an entry after a start that comes first in the history didn't touch a byte that no such entry touched
pub not_touched : (b t : Bool) (p : Past) (o : Option Past) → b ≡ true → is_some (if b && t then Some p else o) ≡ false → (t ≡ false) × (is_some o ≡ false)
not_touched true true p o later e = absurd (true≢false e)
not_touched true false p o later e = (refl, e)
not_touched false t p o later e = absurd (true≢false (sym later))

-- The memory after an entry from a start on agrees with the present one outside of what was touched since that start.
pub memory_agrees : (first : Memory) (ps : List Past) (start n : ℕ) → start ≤ n → Chained first ps → Agrees (touched_since start ps) (memory_at first ps n) (last_memory first ps)
memory_agrees first [] start n from chained a quiet = refl
memory_agrees first (p ∷ ps) start n from chained a quiet = by_number (λ rest. memory_agrees first ps start n from chained.1 a rest) (nat_lt n p.number) refl where
  by_number : (is_some (latest start ps a) ≡ false → memory_at first ps n a ≡ last_memory first ps a) → (b : Bool) → nat_lt n p.number ≡ b → (if b then memory_at first ps n else p.memory) a ≡ p.memory a
  by_number rest true e =
      let above : n < p.number = ltb-true n p.number e in
      let after : nat_lt start p.number ≡ true = lt-ltb start p.number (omega arith) in
      let parts = not_touched (nat_lt start p.number) (p.touched a) p (latest start ps a) after quiet in
      rest parts.1 ∙ chained.0 a parts.0
  by_number rest false e = refl
