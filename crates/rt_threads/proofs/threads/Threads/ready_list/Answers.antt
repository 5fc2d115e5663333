use Rattle.std.proofs.Common.{◌≡◌, ap, ◌∙◌, filter, refl, zero-add, Result, Ok, Err, IfOk, true}
use Rattle.rt_threads.specs.declared.kinds.State.{State}
use Rattle.rt_threads.specs.declared.kinds.State.TheVariants.{Ready, Waits, Listens, Ended}
use Rattle.rt_threads.specs.Table.{nobody, is_ready, state_at}
use Rattle.rt_threads.specs.Rows.{goes_on, ready_numbers}
use Rattle.rt_threads.proofs.Counts.{numbers_filter}
use Rattle.rt_threads.proofs.threads.Threads.ready_list.Goals as goal

ready_goes_on : (s : State) → is_ready s ≡ true → goes_on s ≡ true
ready_goes_on Ready r = refl
ready_goes_on (Waits id) r = refl
ready_goes_on (Listens c m) r = refl
ready_goes_on Ended r = cc

if_ok : {T E : Type 0} (r : Result T E) (P Q : T → Type 0) → ((x : T) → P x → Q x) → IfOk r P → IfOk r Q
if_ok (Ok x) P Q f p = f x p
if_ok (Err e) P Q f p = p

pub returns : goal.returns
returns c =
    let table = c.self.inside.parts in
    let found : filter (λ number. is_ready (state_at table number)) c.deref.result.now ≡ ready_numbers table =
    ap (filter (λ number. is_ready (state_at table number))) (c.deref.ensures.value ∙ c.self.invariant.rising)
    ∙ numbers_filter is_ready goes_on (λ number. is_ready (state_at table number)) 0 table.threads nobody ready_goes_on (λ k _. ap (λ z. is_ready (state_at table z)) (zero-add k)) in
    rw (← c.self.view_is) (if_ok c.ready_of.result _ _ (λ _ e. e ∙ found) c.ready_of.ensures)
