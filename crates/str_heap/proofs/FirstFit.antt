-- A string is stored at the first place that has room for it.
use Rattle.std.proofs.Common.{◌≡◌, ℕ, ◌+◌, ◌≤◌, true, List, length, get_or, sym, subst, ◌∙◌, arith, ◌⊎◌, inl, inr}
use Rattle.std.proofs.lemmas.Bool.{false≢true}
use Rattle.fb_base.specs.declared.shape.Desc.{Desc}
use Rattle.str_heap.specs.Blocks.{Spans, is_free}
use Rattle.str_heap.specs.Payloads.{blocks, contents}
use Rattle.str_heap.specs.FirstFit.{IsNobodys, IsFirstFit}
use Rattle.str_heap.specs.Sound.{end_of, IsSound, Finds}
use Rattle.str_heap.proofs.Runs.{by_test, by_order, within-true, within-here}
use Rattle.str_heap.proofs.Live.{length-bytes_at}

module _ (L A : List ℕ) (H : Spans) (live : ℕ) (s : IsSound L A H live) where
  open_is_nobodys : (b : ℕ) → (is_free H.spans b ≡ true) ⊎ (length L ≤ b) → IsNobodys (contents L A) b
  open_is_nobodys b clear k le =
      subst (λ (m : ℕ). k + blocks m ≤ b) (sym (length-bytes_at L A H live s k))
      (by_order 0 (get_or L k 0)
      (λ begins. by_order b (end_of L k)
      (λ inner. absurd (elim clear [
        | inl free ↦ false≢true (sym (s.unshared k b begins le inner) ∙ free)
        | inr past ↦ omega (arith, s.inside k begins)
      ]))
      (λ out. out))
      (λ none. let z : get_or L k 0 ≡ 0 = omega arith in rw z (omega arith)))

  nobodys_is_open : (b : ℕ) → IsNobodys (contents L A) b → (is_free H.spans b ≡ true) ⊎ (length L ≤ b)
  nobodys_is_open b none =
      by_order b (length L)
      (λ inner. by_test (is_free H.spans b) (λ free. inl free)
      (λ taken. let r = s.covered b inner taken in
      let ends : end_of L r.0 ≤ b = subst (λ (m : ℕ). r.0 + blocks m ≤ b) (length-bytes_at L A H live s r.0) (none r.0 r.2) in
      absurd (omega (arith, r.3))))
      (λ past. inr past)

  pub first_fit : (n p : ℕ) (L' A' : List ℕ) (H' : Spans) → Finds n p L A H L' A' H' → (d : Desc) → d.place ≡ p → d.size ≡ n → IsFirstFit (contents L A) d
  first_fit n p L' A' H' f d at large = record {
    room = λ b above below. open_is_nobodys b (f.here b (within-here p n b (omega arith) (omega arith)));
    first = λ q room. omega (arith, f.first q (λ b w. let v = within-true q n b w in nobodys_is_open b (room b v.0 (omega arith))));
  }
