use Rattle.std.proofs.Common.{◌≡◌, List, [], ◌∷◌, ◌++◌, append_assoc, refl, sym, subst, subst₂}
use Rattle.thread_system.specs.Memory.{Memory, with_byte}
use Rattle.entry_replay.specs.Accesses.{Access, Store, addresses, at_line, stores_of, with_stores}
use Rattle.entry_replay.specs.Runs.{Runs, goes_on, reads, writes, takes_turn}
use Rattle.entry_replay.specs.Ahead.{BeginsThere, PastSilent, PastTurn, PastRead, PastWrite}

pub leads_begin : (S : Type 0) → BeginsThere S
leads_begin S step cells touched turns m s = record { leads = λ later w e run. run }

pub leads_silent : (S : Type 0) → PastSilent S
leads_silent S step cells touched turns m s front stored left here next l is = record {
  leads = λ later w e run. l.leads later w e (goes_on left (with_stores stored m) here next later w e is run);
}

pub leads_turn : (S : Type 0) → PastTurn S
leads_turn S step cells touched turns m s front stored left here next line l is = record {
  leads = λ later w e run. l.leads later w e (takes_turn left (with_stores stored m) here line next later w e is run);
}

pub leads_read : (S : Type 0) → PastRead S
leads_read S step cells touched turns m s front stored left here addr width line value next l is finds =
    let looks = at_line line (addresses addr width) in
    record {
      leads = λ later w e run.
          subst (λ (acc : List Access). Runs step cells touched turns m s acc (stored ++ w) e) (sym (append_assoc front looks later))
          (l.leads (looks ++ later) w e (reads left (with_stores stored m) here addr width line value next later w e is finds run));
    }

-- stores in two parts
pub with_stores-append : (w more : List Store) (m : Memory) → with_stores (w ++ more) m ≡ with_stores more (with_stores w m)
with_stores-append [] more m = refl
with_stores-append (x ∷ w) more m = with_stores-append w more (with_byte m x.addr x.byte)

pub leads_write : (S : Type 0) → PastWrite S
leads_write S step cells touched turns m s front stored left here addr width value line old next l is finds =
    let looks = at_line line (addresses addr width) in
    let done = stores_of addr width value in
    record {
      leads = λ later w e run.
          subst₂ (λ (acc : List Access) (ws : List Store). Runs step cells touched turns m s acc ws e) (sym (append_assoc front looks later)) (sym (append_assoc stored done w))
          (l.leads (looks ++ later) (done ++ w) e (writes left (with_stores stored m) here addr width value line old next later w e is finds
          (subst (λ (k : Memory). Runs step cells touched left k next later w e) (with_stores-append stored done m) run)));
    }
