-- What lies in the slot while the turn is free.
use Rattle.std.specs.Prelude.{◌≡◌, ℕ, List, []}
use Rattle.atomic_table.specs.Seated.{TableId}
use Rattle.commit_lock.specs.declared.seat.Pack.{Pack}

-- A value with its pen. The rule sees the value by its base and its history alone: they are those of the pen.
module _ {V : Type 0} (base hist : V → List ℕ) where
  pub record FitsPack (book : TableId) (p : Pack V) : Type 0 where
    pub of : p.pen.seat.table_id ≡ book
    pub based : p.pen.seat.me.0.base ≡ base p.value
    pub seen : p.pen.seat.me.0.seen ≡ hist p.value
    pub bare : p.pen.seat.me.1 ≡ []
