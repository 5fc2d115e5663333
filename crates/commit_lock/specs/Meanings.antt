-- What a lock, its seats and its pen mean to callers.
use Rattle.std.specs.Prelude.{◌≡◌, ℕ, List, [], ◌∷◌}
use Rattle.commit_lock.specs.Views.{share}
use Rattle.commit_lock.specs.declared.seat.Seat.{Seat}
use Rattle.commit_lock.specs.declared.seat.Pen.{Pen}
use Rattle.commit_lock.specs.declared.seat.Held.{Held}
use Rattle.commit_lock.specs.declared.lock.TurnLock.{TurnLock}

-- what every value of the lock has
abbrev pub base_of : Seat → List ℕ
base_of s = s.book.me.0.base

-- the history that the seat has seen, with which each later one begins
abbrev pub seen_of : Seat → List ℕ
seen_of s = s.book.me.0.seen

-- how many of the lock's parts the seat has
abbrev pub parts_of : Seat → ℕ
parts_of s = s.parts

abbrev pub pen_base : Pen → List ℕ
pen_base p = p.seat.me.0.base

abbrev pub pen_seen : Pen → List ℕ
pen_seen p = p.seat.me.0.seen

module _ {V : Type 0} where
  -- how many parts the lock has
  abbrev pub whole_of : TurnLock V → ℕ
  whole_of l = l.turn.shared.key.parts

  -- the lock's own seat, which holds no turn
  pub record IsOf (l : TurnLock V) (s : Seat) : Type 0 where
    pub turn : s.badge.table_id ≡ l.turn.shared.table_id
    pub book : s.book.table_id ≡ l.book.shared.table_id
    pub bare : s.book.me.1 ≡ []
    pub view : s.badge.views ≡ share l.book.shared.table_id s.parts 0 ∷ []

  -- the lock's own pen
  pub record IsPenOf (l : TurnLock V) (p : Pen) : Type 0 where
    pub book : p.seat.table_id ≡ l.book.shared.table_id
    pub bare : p.seat.me.1 ≡ []

  -- the lock's own turn: its seat and its pen are the lock's
  pub record IsHeldOf (l : TurnLock V) (h : Held V) : Type 0 where
    pub turn : h.slot.table_id ≡ l.turn.shared.table_id
    pub book : h.seat.book.table_id ≡ l.book.shared.table_id
    pub bare : h.seat.book.me.1 ≡ []
    pub pen : IsPenOf l h.pen
