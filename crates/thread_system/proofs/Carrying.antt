use Rattle.std.proofs.Common.{ℕ, zero, suc}
use Rattle.thread_system.specs.Effect.{Effect}
use Rattle.thread_system.specs.Memory.{Memory}
use Rattle.thread_system.specs.Segment.{bad_pointer, End, Calling, Trapped, Spent, Segment, goes_on, reads, reads_badly, writes, writes_badly, takes_turn, lacks_turn, calls, traps}
use Rattle.thread_system.specs.Simulation.{Quiets, stays, moves, Simulates, SameEnd, same_call, same_trap, same_spent}

-- silent steps one after another
pub quiets_append : {S : Type 0} (step : S → Effect S) (a b c : S) → Quiets step a b → Quiets step b c → Quiets step a c
quiets_append step a b c (stays s) more = more
quiets_append step a b c (moves s next last is rest) more = moves a next c is (quiets_append step next b c rest more)

-- silent steps in front of a segment
pub after_quiets : {S : Type 0} (step : S → Effect S) (turns : ℕ) (m after : Memory) (s last : S) (e : End S) → Quiets step s last → Segment step turns m last after e → Segment step turns m s after e
after_quiets step turns m after s last e (stays x) segment = segment
after_quiets step turns m after s last e (moves x next y is rest) segment = goes_on turns m after s next e is (after_quiets step turns m after next last e rest segment)

-- What a segment of the first kind of thread comes to, in the second.
pub record Carried {A B : Type 0} (R : A → B → Type 0) (carried : B → Effect B) (turns : ℕ) (m : Memory) (b : B) (after : Memory) (e : End A) : Type 0 where
  pub end : End B
  pub segment : Segment carried turns m b after end
  pub same : SameEnd R e end

-- A simulation carries segments: the second kind of thread makes the same accesses, turns and calls, and
-- comes to the same memory and the same end.
pub carries : {A B : Type 0} (step : A → Effect A) (carried : B → Effect B) (R : A → B → Type 0) → Simulates step carried R → (turns : ℕ) (m : Memory) (a : A) (b : B) (after : Memory) (e : End A) → R a b → Segment step turns m a after e → Carried R carried turns m b after e
carries step carried R simulation turns m a b after e r (goes_on _ _ _ _ next _ is rest) =
    let w = rw is at (simulation a b r) in
    let c = carries step carried R simulation turns m next w.0 after e w.2 rest in
    record { end = c.end; segment = after_quiets carried turns m after b w.0 c.end w.1 c.segment; same = c.same }
carries step carried R simulation turns m a b after e r (reads _ _ _ _ addr width line value next _ is found rest) =
    let w = rw is at (simulation a b r) in
    let c = carries step carried R simulation turns m (next value) (w.1 value) after e (w.4 value) rest in
    record { end = c.end; segment = after_quiets carried turns m after b w.0 c.end w.2 (reads turns m after w.0 addr width line value w.1 c.end w.3 found c.segment); same = c.same }
carries step carried R simulation turns m a b after e r (reads_badly _ _ _ addr width line next is found) =
    let w = rw is at (simulation a b r) in
    record { end = Trapped bad_pointer line; segment = after_quiets carried turns m m b w.0 (Trapped bad_pointer line) w.2 (reads_badly turns m w.0 addr width line w.1 w.3 found); same = same_trap bad_pointer line }
carries step carried R simulation turns m a b after e r (writes _ _ written _ _ addr width value line next _ is done rest) =
    let w = rw is at (simulation a b r) in
    let c = carries step carried R simulation turns written next w.1 after e w.4 rest in
    record { end = c.end; segment = after_quiets carried turns m after b w.0 c.end w.2 (writes turns m written after w.0 addr width value line w.1 c.end w.3 done c.segment); same = c.same }
carries step carried R simulation turns m a b after e r (writes_badly _ _ _ addr width value line next is done) =
    let w = rw is at (simulation a b r) in
    record { end = Trapped bad_pointer line; segment = after_quiets carried turns m m b w.0 (Trapped bad_pointer line) w.2 (writes_badly turns m w.0 addr width value line w.1 w.3 done); same = same_trap bad_pointer line }
carries step carried R simulation _ m a b after e r (takes_turn turns _ _ _ line next _ is rest) =
    let w = rw is at (simulation a b r) in
    let c = carries step carried R simulation turns m next w.1 after e w.4 rest in
    record { end = c.end; segment = after_quiets carried (suc turns) m after b w.0 c.end w.2 (takes_turn turns m after w.0 line w.1 c.end w.3 c.segment); same = c.same }
carries step carried R simulation _ m a b after e r (lacks_turn _ _ line next is) =
    let w = rw is at (simulation a b r) in
    record { end = Spent line; segment = after_quiets carried zero m m b w.0 (Spent line) w.2 (lacks_turn m w.0 line w.1 w.3); same = same_spent line }
carries step carried R simulation turns m a b after e r (calls _ _ _ number args line next is) =
    let w = rw is at (simulation a b r) in
    record { end = Calling number args line w.1; segment = after_quiets carried turns m m b w.0 (Calling number args line w.1) w.2 (calls turns m w.0 number args line w.1 w.3); same = same_call number args line next w.1 w.4 }
carries step carried R simulation turns m a b after e r (traps _ _ _ kind line is) =
    let w = rw is at (simulation a b r) in
    record { end = Trapped kind line; segment = after_quiets carried turns m m b w.0 (Trapped kind line) w.1 (traps turns m w.0 kind line w.2); same = same_trap kind line }
