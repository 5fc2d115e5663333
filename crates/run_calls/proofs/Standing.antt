use Rattle.std.proofs.Common.{◌≡◌, ℕ, List, [], ◌∷◌, length, length-set, set, Option, Some, None, refl, sym, ap, ◌∙◌, subst}
use Rattle.std.proofs.lemmas.List.{length_push}
use Rattle.rt_threads.specs.Table.{Table, IsReady}
use Rattle.rt_threads.specs.Standing.{Stands}
use Rattle.rt_threads.proofs.Grown.{first_kept}
use Rattle.entry_replay.specs.Accesses.{Store}
use Rattle.entry_replay.specs.Runs.{End, Calling, Trapped, Spent, Raced}
use Rattle.entry_replay.specs.World.{System, Start, Applied, Refuses, Does, Common, next_number, applied, called, common_after, with_made, states_by, states_after}
use Rattle.entry_replay.specs.Replay.{Replays, begins, one_more}
use Rattle.run_calls.specs.Shared.{Program, Shared}
use Rattle.run_calls.specs.Table.{runtime, first_shared}
use Rattle.run_calls.proofs.Keeps.{KeepsTo, more_by, table_keeps}

-- The table of threads stands at every moment of a replay, and each of its threads has a state.

pub record Whole {S : Type 0} (shared : Shared) (states : List S) : Type 0 where
  pub stands : Stands shared.table
  pub number : length states ≡ length shared.table.threads

module _ {S : Type 0} (sys : System S) (p : Program) where
  length_made : (made : Option Start) (states : List S) → length (with_made sys made states) ≡ more_by made (length states)
  length_made None states = refl
  length_made (Some s) states = length_push states (sys.start (length states) s.proc s.param)

  by_applied : (c : Common Shared) (states : List S) (t : ℕ) (w : List Store) (x : Shared) (number line : ℕ) (next : ℕ → S) (y : Applied Shared) → x.table ≡ c.shared.table → IsReady c.shared.table t → Whole c.shared states → KeepsTo p.procs t x y → Whole (called (runtime p) c t w number line y).shared (states_by sys t next states y)
  by_applied c states t w x number line next (Refuses kind) same ready whole k = whole
  by_applied c states t w x number line next (Does d) same ready whole k = record {
    stands = k.stands (subst Stands (sym same) whole.stands) (subst (λ table. IsReady table t) (sym same) ready);
    number =
        length_made d.made (set states t (next d.answer))
        ∙ ap (more_by d.made) (length-set states t (next d.answer) ∙ whole.number ∙ ap (λ (table : Table). length table.threads) (sym same))
        ∙ sym k.number;
  }

  by_end : (c : Common Shared) (states : List S) (t : ℕ) (w : List Store) (e : End S) → IsReady c.shared.table t → Whole c.shared states → Whole (common_after (runtime p) c t w e).shared (states_after sys (runtime p) c t w e states)
  by_end c states t w (Calling number args line next) ready whole =
      by_applied c states t w ((runtime p).stored w c.shared) number line next (applied (runtime p) c t w number args line) refl ready whole
      (table_keeps p number args t (next_number c.history) line ((runtime p).stored w c.shared))
  by_end c states t w (Trapped kind line) ready whole = whole
  by_end c states t w (Spent line) ready whole = whole
  by_end c states t w (Raced x) ready whole = whole

  pub whole : (turns : ℕ) (input schedule : List ℕ) (c : Common Shared) (states : List S) → Replays sys (runtime p) turns (first_shared p input) schedule c states → Whole c.shared states
  whole turns input [] c states begins = record { stands = (first_kept 0).stands; number = refl }
  whole turns input (t ∷ schedule) c states (one_more _ before after states_before states_then _ run entry) =
      let then_is = by_end before states_before t entry.stores entry.end entry.ready (whole turns input schedule before states_before run) in
      subst (λ (k : Common Shared). Whole k.shared states_then) (sym entry.common_is) (subst (λ (states : List S). Whole (common_after (runtime p) before t entry.stores entry.end).shared states) (sym entry.states_are) then_is)
