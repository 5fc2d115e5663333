use Rattle.std.proofs.Common.{◌≡◌, ℕ, zero, suc, Bool, true, false, ◌||◌, List, [], ◌∷◌, true≢false, refl, sym}
use Rattle.std.specs.List.{list_any}
use Rattle.std.specs.Prelude.{slice_index_or}
use Rattle.rt_threads.specs.declared.kinds.Thread.{Thread}
use Rattle.rt_threads.specs.Table.{is_ready, nobody}

-- Which threads are ready.

either : (b c : Bool) → (b || c) ≡ true → b ≡ false → c ≡ true
either true c e f = absurd (true≢false f)
either false c e f = e

or_right : (b c : Bool) → c ≡ true → (b || c) ≡ true
or_right true c e = refl
or_right false c e = e

pub some_ready : (threads : List Thread) → list_any (λ (thread : Thread). is_ready thread.state) threads ≡ true → (t : ℕ) × (is_ready (slice_index_or threads t nobody).state ≡ true)
some_ready [] e = absurd (true≢false (sym e))
some_ready (thread ∷ threads) e = by_first (some_ready threads) (is_ready thread.state) refl where
  by_first : (list_any (λ (thread : Thread). is_ready thread.state) threads ≡ true → (t : ℕ) × (is_ready (slice_index_or threads t nobody).state ≡ true)) → (b : Bool) → is_ready thread.state ≡ b → (t : ℕ) × (is_ready (slice_index_or (thread ∷ threads) t nobody).state ≡ true)
  by_first rest true is = (zero, is)
  by_first rest false is =
      let later = rest (either (is_ready thread.state) (list_any (λ (thread : Thread). is_ready thread.state) threads) e is) in
      (suc later.0, later.1)

pub any_ready : (threads : List Thread) (t : ℕ) → is_ready (slice_index_or threads t nobody).state ≡ true → list_any (λ (thread : Thread). is_ready thread.state) threads ≡ true
any_ready [] t e = absurd (true≢false (sym e))
any_ready (thread ∷ threads) zero e = or_left (is_ready thread.state) e where
  or_left : (b : Bool) → b ≡ true → (b || list_any (λ (thread : Thread). is_ready thread.state) threads) ≡ true
  or_left true is = refl
  or_left false is = absurd (true≢false (sym is))
any_ready (thread ∷ threads) (suc t) e = or_right (is_ready thread.state) (list_any (λ (thread : Thread). is_ready thread.state) threads) (any_ready threads t e)
