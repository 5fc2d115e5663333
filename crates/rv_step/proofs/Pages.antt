use Rattle.std.proofs.Common.{◌≡◌, ℕ, zero, suc, ◌+◌, ◌-◌, ◌*◌, ◌/◌, ◌%◌, ◌^◌, ◌<◌, ◌≤◌, ◌≢◌, Bool, true, false, List, [], ◌∷◌, length, get_or, slice_get, slice_set, Option, Some, refl, ap, sym, ◌∙◌, arith, nat_le, MatchBool, subst, ◌==◌, nat_eq}
use Rattle.std.proofs.lemmas.Bool.{leb-true, le-leb, eqb-true, eqb-false}
use Rattle.std.proofs.lemmas.List.{get_or-set_same, get_or-set_other, set-get_or}
use Rattle.std.proofs.lemmas.Option.{get_or_from_slice_get}
use Rattle.rv_isa.specs.Words.{loaded, stored}
use Rattle.rv_step.specs.Pages.{byte_in, page_index, page_of, byte_at, kept, SameBytes, KeepsMore, IsStored}
use Rattle.rv_step.proofs.Bytes.{loaded_same, stored_alike, stored_moved, stored_elsewhere, stored_twice}

-- where an item is, it doesn't matter what stands for none
pub item_of : {A : Type 0} (xs : List A) (i : ℕ) (x d : A) → i < length xs → get_or xs i x ≡ get_or xs i d
item_of [] i x d h = absurd (omega arith)
item_of (y ∷ xs) zero x d h = refl
item_of (y ∷ xs) (suc i) x d h = item_of xs i x d (omega arith)

-- Bytes within a page are the stack's.

pub loaded_there : (pages : List (List ℕ)) (page : List ℕ) (o w : ℕ) → page ≡ page_of pages o → o % 2 ^ 16 + w ≤ 2 ^ 16 → loaded (byte_in page) (o % 2 ^ 16) w ≡ loaded (byte_at pages) o w
loaded_there pages page o w there h = loaded_same (byte_in page) (byte_at pages) (o % 2 ^ 16) o w (λ i l.
    let p : (o + i) / 2 ^ 16 ≡ o / 2 ^ 16 = omega arith in
    let k : (o + i) % 2 ^ 16 ≡ o % 2 ^ 16 + i = omega arith in
    let e : page_of pages (o + i) ≡ page = ap (λ n. get_or pages (65535 - n) []) p ∙ sym there in
    sym (ap (λ (xs : List ℕ). get_or xs ((o + i) % 2 ^ 16) 0) e ∙ ap (λ n. get_or page n 0) k))

module _ (pages : List (List ℕ)) (page : List ℕ) (o w v : ℕ) (there : page_index o < length pages) (at : o < 2 ^ 32) (within : o % 2 ^ 16 + w ≤ 2 ^ 16) (done : (q : ℕ) → byte_in page q ≡ stored (byte_in (page_of pages o)) (o % 2 ^ 16) w v q) where
  same_page : (q : ℕ) → q / 2 ^ 16 ≡ o / 2 ^ 16 → byte_at (slice_set pages (page_index o) page) q ≡ stored (byte_at pages) o w v q
  same_page q e =
      let i : page_index q ≡ page_index o = ap (λ n. 65535 - n) e in
      let p : page_of (slice_set pages (page_index o) page) q ≡ page = ap (λ n. get_or (slice_set pages (page_index o) page) n []) i ∙ get_or-set_same pages (page_index o) page [] there in
      let b : byte_in (page_of pages o) (q % 2 ^ 16) ≡ byte_at pages q = ap (λ n. get_or (get_or pages n []) (q % 2 ^ 16) 0) (sym i) in
      ap (λ (xs : List ℕ). get_or xs (q % 2 ^ 16) 0) p ∙ done (q % 2 ^ 16) ∙ stored_moved (byte_in (page_of pages o)) (byte_at pages) (o % 2 ^ 16) o w v (q % 2 ^ 16) q b (omega arith)

  other_page : (q : ℕ) → q < 2 ^ 32 → q / 2 ^ 16 ≢ o / 2 ^ 16 → byte_at (slice_set pages (page_index o) page) q ≡ stored (byte_at pages) o w v q
  other_page q l n =
      let d : page_index q ≢ page_index o = λ e. n (omega arith) in
      ap (λ (xs : List ℕ). get_or xs (q % 2 ^ 16) 0) (get_or-set_other pages (page_index o) (page_index q) page [] d)
      ∙ sym (stored_elsewhere (byte_at pages) o w v q (λ a b. n (omega arith)))

  put_at : (q : ℕ) → q < 2 ^ 32 → (t : Bool) → (q / 2 ^ 16 == o / 2 ^ 16) ≡ t → byte_at (slice_set pages (page_index o) page) q ≡ stored (byte_at pages) o w v q
  put_at q l true e = same_page q (eqb-true _ _ e)
  put_at q l false e = other_page q l (eqb-false _ _ e)

pub put_there : (pages : List (List ℕ)) (page : List ℕ) (o w v : ℕ) (t : Bool) → page_index o < length pages → o < 2 ^ 32 → t ≡ nat_le (o % 2 ^ 16 + w) (kept pages o) → kept pages o ≤ 2 ^ 16
    → MatchBool t ((q : ℕ) → byte_in page q ≡ stored (byte_in (page_of pages o)) (o % 2 ^ 16) w v q) (page ≡ page_of pages o)
    → MatchBool t (IsStored pages (slice_set pages (page_index o) page) o w v) (slice_set pages (page_index o) page ≡ pages)
put_there pages page o w v true there at e most done =
    let h : o % 2 ^ 16 + w ≤ kept pages o = leb-true _ _ (sym e) in
    λ q l. put_at pages page o w v there at (omega arith) done q l (q / 2 ^ 16 == o / 2 ^ 16) refl
put_there pages page o w v false there at e most done = ap (λ (xs : List ℕ). slice_set pages (page_index o) xs) done ∙ set-get_or pages (page_index o) []

-- a store into bytes that were made room for
pub put_done : (old mid new : List (List ℕ)) (o w v : ℕ) (t : Bool) → SameBytes old mid → o % 2 ^ 16 + w ≤ kept mid o → t ≡ nat_le (o % 2 ^ 16 + w) (kept mid o) → MatchBool t (IsStored mid new o w v) (new ≡ mid) → IsStored old new o w v
put_done old mid new o w v true same room e done = λ q l. done q l ∙ stored_alike (byte_at mid) (byte_at old) o w v q (same q l)
put_done old mid new o w v false same room e done = let h : nat_le (o % 2 ^ 16 + w) (kept mid o) ≡ true = le-leb _ _ room in absurd cc

pub put_both : (old mid new : List (List ℕ)) (o n m v : ℕ) → IsStored old mid o n v → IsStored mid new (o + n) m (v / 2 ^ (8 * n)) → IsStored old new o (n + m) v
put_both old mid new o n m v first second = λ q l.
    second q l ∙ stored_alike (byte_at mid) (stored (byte_at old) o n v) (o + n) m (v / 2 ^ (8 * n)) q (first q l) ∙ stored_twice (byte_at old) o n m v q
