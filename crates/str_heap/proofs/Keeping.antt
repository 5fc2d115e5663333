-- What a heap keeps stays so where a string is stored and where one is released.
use Rattle.std.proofs.Common.{◌≡◌, ◌≢◌, ℕ, ◌+◌, ◌-◌, ◌*◌, ◌<◌, ◌≤◌, Bool, true, false, eqb, eqb-true, not, ◌&&◌, ◌||◌, inl, inr, List, [], ◌++◌, length, take, drop, get_or, set, replicate, refl, sym, ap, subst, ◌∙◌, arith, length-append}
use Rattle.std.proofs.lemmas.List.{length-replicate, append-nil, get_or-set_same, get_or-set_other, length-set}
use Rattle.std.proofs.lemmas.Bool.{false≢true}
use Rattle.fb_base.specs.declared.shape.Desc.{Desc}
use Rattle.str_heap.specs.declared.holes.Hole.{Hole}
use Rattle.str_heap.specs.Blocks.{Spans, is_free, within, AreFree, Adds, Removes}
use Rattle.str_heap.specs.Payloads.{blocks, contents, bytes_at, bytes_of, Stores}
use Rattle.str_heap.specs.Sound.{Begins, end_of, count_of, IsSound, Finds}
use Rattle.str_heap.proofs.Runs.{by_test, by_order, within-true, within-here, within-false}
use Rattle.str_heap.proofs.Arena.{written, length-written, written-here, written-before, written-behind, contents-at, grown-kept, get_or-grown}
use Rattle.str_heap.proofs.Counts.{count-begun, count-ended, count-grown}

and_not : (f w : Bool) → w ≡ false → (f && not w) ≡ f
and_not true w e = rw e refl
and_not false w e = refl

no_and : (f w : Bool) → w ≡ true → (f && not w) ≡ false
no_and true w e = rw e refl
no_and false w e = refl

left_of : (f w : Bool) → (f && not w) ≡ true → f ≡ true
left_of true w e = refl
left_of false w e = absurd (false≢true e)

or_left : (f w : Bool) → (f || w) ≡ false → f ≡ false
or_left true w e = absurd (false≢true (sym e))
or_left false w e = refl

or_right : (f w : Bool) → (f || w) ≡ false → w ≡ false
or_right true w e = absurd (false≢true (sym e))
or_right false w e = e

-- whether two numbers are one
by_same : {X : Type 0} (a b : ℕ) → (a ≡ b → X) → (a ≢ b → X) → X
by_same a b y n = by_order a b (λ lt. n (λ e. omega arith)) (λ le. by_order b a (λ lt. n (λ e. omega arith)) (λ le'. y (omega arith)))

-- free blocks that suffice
pub finds_first : (n p : ℕ) (L A : List ℕ) (H H' : Spans) → 0 < n → length A ≡ 16 * length L → ((b : ℕ) → is_free H.spans b ≡ true → b < length L) → H.room ≡ H'.room → Removes n p H.spans H'.spans → ((q : ℕ) → AreFree n q H.spans → p ≤ q) → Finds n p L A H L A H'
finds_first n p L A H H' some sized known room r early = record {
  more = (0, sym (append-nil L));
  sized = sized;
  kept = λ a m le. refl;
  inside = let last : p + n - 1 < length L = known (p + n - 1) (r.here (p + n - 1) (within-here p n (p + n - 1) (omega arith) (omega arith))) in omega arith;
  fewer = r.shorter;
  room = omega arith;
  here = λ b w. inl (r.here b w);
  first = λ q clear. by_order q p
      (λ before. let last : p + n - 1 < length L = known (p + n - 1) (r.here (p + n - 1) (within-here p n (p + n - 1) (omega arith) (omega arith))) in
      early q (λ b w. let v = within-true q n b w in elim (clear b w) [
        | inl free ↦ free
        | inr past ↦ absurd (omega arith)
      ]))
      (λ le. le);
  free = r.free;
  whole = λ b above below. absurd (omega arith);
}

-- free blocks at the end, and more behind them
pub finds_end : (n p m : ℕ) (L A L' A' : List ℕ) (H H' : Spans) → p ≤ length L → length L - p < n → m ≡ n - (length L - p) → L' ≡ L ++ replicate m 0 → A' ≡ A ++ replicate (16 * m) 0 → length A ≡ 16 * length L → ((b : ℕ) → is_free H.spans b ≡ true → b < length L) → H.room ≡ H'.room → Removes (length L - p) p H.spans H'.spans → ((q : ℕ) → AreFree n q H.spans → ⊥) → ((b : ℕ) → b + 1 ≡ p → is_free H.spans b ≡ false) → Finds n p L A H L' A' H'
finds_end n p m L A L' A' H H' le short is more arena sized known room r full alone =
    let longer : length L' ≡ length L + m = ap length more ∙ length-append L (replicate m 0) ∙ rw length-replicate refl in
    let larger : length A' ≡ length A + 16 * m = ap length arena ∙ length-append A (replicate (16 * m) 0) ∙ rw length-replicate refl in record {
      more = (m, more);
      sized = omega arith;
      kept = λ a k fits. ap (λ (t : List ℕ). take k (drop a t)) arena ∙ grown-kept A (replicate (16 * m) 0) a k fits;
      inside = omega arith;
      fewer = r.shorter;
      room = omega arith;
      here = λ b w. let q = within-true p n b w in by_order b (length L) (λ old. inl (r.here b (within-here p (length L - p) b q.0 (omega arith)))) (λ new. inr new);
      first = λ q clear. by_order q p
          (λ before. absurd (by_order (length L) (q + n)
          (λ past. elim (clear (p - 1) (within-here q n (p - 1) (omega arith) (omega arith))) [
            | inl free ↦ false≢true (sym (alone (p - 1) (omega arith)) ∙ free)
            | inr behind ↦ omega arith
          ])
          (λ fits. full q (λ b w. let v = within-true q n b w in elim (clear b w) [
            | inl free ↦ free
            | inr behind ↦ absurd (omega arith)
          ]))))
          (λ le. le);
      free = λ b. r.free b ∙ by_test (is_free H.spans b)
          (λ t. let lt = known b t in ap (λ (w : Bool). is_free H.spans b && not w)
          (by_order b p (λ out. within-false p (length L - p) b (λ above below. omega arith) ∙ sym (within-false p n b (λ above below. omega arith)))
          (λ above. within-here p (length L - p) b above (omega arith) ∙ sym (within-here p n b above (omega arith)))))
          (λ f. rw f refl);
      whole = λ b above below. within-here p n b (omega arith) (omega arith);
    }

-- more room changes nothing
pub sound_reserved : (L A : List ℕ) (H H' : Spans) (live : ℕ) → H'.spans ≡ H.spans → H.room ≤ H'.room → IsSound L A H live → IsSound L A H' live
sound_reserved L A H H' live e more s = record {
  sized = s.sized;
  apart = s.apart;
  inside = s.inside;
  unshared = λ k b begins above below. ap (λ (t : List Hole). is_free t b) e ∙ s.unshared k b begins above below;
  known = λ b free. s.known b (ap (λ (t : List Hole). is_free t b) (sym e) ∙ free);
  covered = λ b lt taken. s.covered b lt (ap (λ (t : List Hole). is_free t b) (sym e) ∙ taken);
  counted = s.counted;
  roomy = omega (arith, s.roomy, ap length e);
}

-- a string that is stored
module _ (n p : ℕ) (L A : List ℕ) (H : Spans) (L' A' : List ℕ) (H' : Spans) (f : Finds n p L A H L' A' H') (live : ℕ) (s : IsSound L A H live) (bytes : List ℕ) (some : 0 < length bytes) (fits : n ≡ blocks (length bytes)) where
  same : (k : ℕ) → get_or L' k 0 ≡ get_or L k 0
  same k = ap (λ (xs : List ℕ). get_or xs k 0) f.more.1 ∙ get_or-grown L f.more.0 k

  longer : length L ≤ length L'
  longer = let e : length L' ≡ length L + f.more.0 = ap length f.more.1 ∙ length-append L (replicate f.more.0 0) ∙ rw length-replicate refl in omega arith

  inside : p < length L'
  inside = omega (arith, f.inside)

  L'' : List ℕ
  L'' = set L' p (length bytes)

  here : get_or L'' p 0 ≡ length bytes
  unfolding L''
  here = get_or-set_same L' p (length bytes) 0 inside

  elsewhere : (k : ℕ) → k ≢ p → get_or L'' k 0 ≡ get_or L k 0
  unfolding L''
  elsewhere k other = get_or-set_other L' p k (length bytes) 0 other ∙ same k

  -- no block that was a string's is taken
  untaken : (k b : ℕ) → Begins L k → k ≤ b → b < end_of L k → within p n b ≡ true → ⊥
  untaken k b begins above below w =
      elim (f.here b w) [
        | inl free ↦ absurd (false≢true (sym (s.unshared k b begins above below) ∙ free))
        | inr past ↦ omega (arith, s.inside k begins)
      ]

  -- no string began there
  pub was_none : get_or L p 0 ≡ 0
  was_none = by_order 0 (get_or L p 0) (λ begins. absurd (untaken p p begins (omega arith) (omega arith) (within-here p n p (omega arith) (omega arith)))) (λ none. omega arith)

  begun : (k : ℕ) → k ≢ p → Begins L'' k → Begins L k
  begun k other begins = subst (λ (m : ℕ). 0 < m) (elsewhere k other) begins

  still : (k : ℕ) → k ≢ p → Begins L k → Begins L'' k
  still k other begins = subst (λ (m : ℕ). 0 < m) (sym (elsewhere k other)) begins

  ends : (k : ℕ) → k ≢ p → end_of L'' k ≡ end_of L k
  ends k other = ap (λ (m : ℕ). k + blocks m) (elsewhere k other)

  ends_here : end_of L'' p ≡ p + n
  ends_here = ap (λ (m : ℕ). p + blocks m) here ∙ omega arith

  apart : (j k : ℕ) → j < k → Begins L'' j → Begins L'' k → end_of L'' j ≤ k
  apart j k lt a b =
      by_same j p
      (λ e. let other : k ≢ p = (λ e'. omega arith) in let b' = begun k other b in
      let at : end_of L'' j ≡ p + n = ap (end_of L'') e ∙ ends_here in
      by_order k (p + n) (λ inner. absurd (untaken k k b' (omega arith) (omega arith) (within-here p n k (omega arith) inner))) (λ le. omega arith))
      (λ otherj. let a' = begun j otherj a in let at = ends j otherj in
      by_same k p
      (λ e. by_order p (end_of L j) (λ inner. absurd (untaken j p a' (omega arith) inner (within-here p n p (omega arith) (omega arith)))) (λ le. omega arith))
      (λ otherk. omega (arith, s.apart j k lt a' (begun k otherk b))))

  pub stored_sound : length H.spans + live + 1 ≤ H.room → IsSound (set L' p (length bytes)) (written (16 * p) bytes A') H' (live + 1)
  unfolding L''
  stored_sound room = record {
    sized = length-written (16 * p) bytes A' (omega (arith, f.inside, f.sized)) ∙ f.sized ∙ ap (λ (m : ℕ). 16 * m) (sym (length-set L' p (length bytes)));
    apart = apart;
    inside = λ k begins. rw length-set (by_same k p (λ e. let at : end_of L'' k ≡ p + n = ap (end_of L'') e ∙ ends_here in omega (arith, f.inside))
        (λ other. let at = ends k other in omega (arith, longer, s.inside k (begun k other begins))));
    unshared = λ k b begins above below. f.free b ∙
        by_same k p (λ e. let at : end_of L'' k ≡ p + n = ap (end_of L'') e ∙ ends_here in no_and (is_free H.spans b) (within p n b) (within-here p n b (omega arith) (omega arith)))
        (λ other. let at = ends k other in rw (s.unshared k b (begun k other begins) above (omega arith)) refl);
    known = λ b free. rw length-set (omega (arith, longer, s.known b (left_of (is_free H.spans b) (within p n b) (sym (f.free b) ∙ free))));
    covered = λ b lt taken.
        let lt' : b < length L' = rw length-set at lt in
        by_test (within p n b)
        (λ w. let r = within-true p n b w in (p, rw here some, r.0, omega (arith, ends_here)))
        (λ out.
        by_order b (length L)
        (λ old. let r = s.covered b old (sym (and_not (is_free H.spans b) (within p n b) out) ∙ sym (f.free b) ∙ taken) in
        by_same r.0 p
        (λ e. absurd (untaken r.0 r.0 r.1 (omega arith) (omega arith) (within-here p n r.0 (omega arith) (omega arith))))
        (λ other. let end = ends r.0 other in (r.0, still r.0 other r.1, r.2, omega (arith, r.3))))
        (λ new. absurd (false≢true (sym out ∙ f.whole b new lt'))));
    counted =
        let e = count-begun L' p (length bytes) inside (same p ∙ was_none) some in
        let g : count_of L' ≡ count_of L = ap count_of f.more.1 ∙ count-grown L f.more.0 in
        omega (arith, s.counted);
    roomy = omega (arith, f.fewer, f.room);
  }

  pub stored_here : bytes_at (contents (set L' p (length bytes)) (written (16 * p) bytes A')) p ≡ bytes
  unfolding L''
  stored_here =
      contents-at (set L' p (length bytes)) (written (16 * p) bytes A') p ∙ ap (λ (m : ℕ). take m (drop (16 * p) (written (16 * p) bytes A'))) here
      ∙ written-here (16 * p) bytes A' (omega (arith, f.inside, f.sized))

  pub was_fresh : bytes_at (contents L A) p ≡ []
  was_fresh = contents-at L A p ∙ ap (λ (m : ℕ). take m (drop (16 * p) A)) was_none

  pub stored_elsewhere : (k : ℕ) → k ≢ p → bytes_at (contents (set L' p (length bytes)) (written (16 * p) bytes A')) k ≡ bytes_at (contents L A) k
  unfolding L''
  stored_elsewhere k other =
      let A'' = written (16 * p) bytes A' in
      let fit : 16 * p + length bytes ≤ length A' = omega (arith, f.inside, f.sized) in
      let m = get_or L k 0 in
      contents-at (set L' p (length bytes)) A'' k ∙ ap (λ (i : ℕ). take i (drop (16 * k) A'')) (elsewhere k other)
      ∙ by_order 0 m
      (λ begins.
      let within' = s.inside k begins in
      let old : take m (drop (16 * k) A') ≡ take m (drop (16 * k) A) = f.kept (16 * k) m (omega (arith, s.sized)) in
      let e = ends k other in
      let new = still k other begins in
      let new_here : Begins L'' p = rw here some in
      by_order k p
      (λ lt. written-before (16 * p) bytes A' fit (16 * k) m (omega (arith, apart k p lt new new_here)) ∙ old)
      (λ le. let lt : p < k = by_order p k (λ lt. lt) (λ le'. absurd (other (omega arith))) in
      ap (take m) (written-behind (16 * p) bytes A' fit (16 * k) (omega (arith, apart p k lt new_here new, ends_here))) ∙ old))
      (λ none. let z : m ≡ 0 = omega arith in ap (λ (i : ℕ). take i (drop (16 * k) A'')) z ∙ sym (ap (λ (i : ℕ). take i (drop (16 * k) A)) z))
      ∙ sym (contents-at L A k)

  pub stores : (d : Desc) → d.place ≡ p → d.length ≡ length bytes → d.size ≡ n → Stores (contents L A) (contents (set L' p (length bytes)) (written (16 * p) bytes A')) d bytes
  stores d at long large =
      let e : bytes_of (contents (set L' p (length bytes)) (written (16 * p) bytes A')) d ≡ bytes =
      by_test (eqb d.length 0) (λ t. let z : d.length ≡ 0 = eqb-true d.length 0 t in absurd (omega arith)) (λ t. rw (t, at) stored_here)
      in record {
        live = record { length = long ∙ ap length (sym e); size = large ∙ fits ∙ ap blocks (sym long) };
        holds = e;
        fresh = λ some'. ap (bytes_at (contents L A)) at ∙ was_fresh;
        others = λ k out. stored_elsewhere k (λ is. out (omega arith) (is ∙ sym at));
      }

-- a string that is released
module _ (L A : List ℕ) (H : Spans) (live : ℕ) (s : IsSound L A H live) (p : ℕ) (begins : Begins L p) where
  size : ℕ
  size = blocks (get_or L p 0)

  E : List ℕ
  E = set L p 0

  inside' : p < length L
  inside' = omega (arith, s.inside p begins)

  gone : get_or E p 0 ≡ 0
  unfolding E
  gone = get_or-set_same L p 0 0 inside'

  kept : (k : ℕ) → k ≢ p → get_or E k 0 ≡ get_or L k 0
  unfolding E
  kept k other = get_or-set_other L p k 0 0 other

  away : (k : ℕ) → Begins E k → k ≢ p
  away k b e = let none : get_or E k 0 ≡ 0 = ap (λ (m : ℕ). get_or E m 0) e ∙ gone in omega arith

  was : (k : ℕ) → Begins E k → Begins L k
  was k b = subst (λ (m : ℕ). 0 < m) (kept k (away k b)) b

  ends' : (k : ℕ) → k ≢ p → end_of E k ≡ end_of L k
  ends' k other = ap (λ (m : ℕ). k + blocks m) (kept k other)

  pub taken_here : (b : ℕ) → within p (blocks (get_or L p 0)) b ≡ true → is_free H.spans b ≡ false
  taken_here b w = let r = within-true p (blocks (get_or L p 0)) b w in s.unshared p b begins r.0 r.1

  pub has_one : 1 ≤ live
  has_one = omega (arith, s.counted, count-ended L p begins)

  pub released_sound : (H' : Spans) → Adds (blocks (get_or L p 0)) p H.spans H'.spans → H.room ≤ H'.room → IsSound (set L p 0) A H' (live - 1)
  unfolding E
  released_sound H' a room = record {
    sized = s.sized ∙ ap (λ (m : ℕ). 16 * m) (sym (length-set L p 0));
    apart = λ j k lt bj bk. let at = ends' j (away j bj) in omega (arith, s.apart j k lt (was j bj) (was k bk));
    inside = λ k b. rw length-set (let at = ends' k (away k b) in omega (arith, s.inside k (was k b)));
    unshared = λ k b bk above below.
        let at = ends' k (away k bk) in
        let w : within p (blocks (get_or L p 0)) b ≡ false =
        by_test (within p (blocks (get_or L p 0)) b)
        (λ t. let r = within-true p (blocks (get_or L p 0)) b t in
        absurd (by_order k p (λ lt. omega (arith, s.apart k p lt (was k bk) begins))
        (λ le. by_order p k (λ lt. omega (arith, s.apart p k lt begins (was k bk))) (λ le'. away k bk (omega arith)))))
        (λ t. t)
        in
        a.free b ∙ rw (s.unshared k b (was k bk) above (omega arith), w) refl;
    known = λ b free. rw length-set
        (by_test (is_free H.spans b) (s.known b)
        (λ t. by_test (within p (blocks (get_or L p 0)) b) (λ w. let r = within-true p (blocks (get_or L p 0)) b w in omega (arith, s.inside p begins))
        (λ w. absurd (false≢true (sym (a.free b ∙ rw (t, w) refl) ∙ free)))));
    covered = λ b lt taken.
        let both = sym (a.free b) ∙ taken in
        let lt' : b < length L = rw length-set at lt in
        let r = s.covered b lt' (or_left (is_free H.spans b) (within p (blocks (get_or L p 0)) b) both) in
        by_same r.0 p
        (λ e. absurd (false≢true (sym (or_right (is_free H.spans b) (within p (blocks (get_or L p 0)) b) both) ∙ within-here p (blocks (get_or L p 0)) b (omega (arith, r.2)) (let g : end_of L r.0 ≡ end_of L p = ap (end_of L) e in omega (arith, r.3)))))
        (λ other. let end = ends' r.0 other in (r.0, subst (λ (m : ℕ). 0 < m) (sym (kept r.0 other)) r.1, r.2, omega (arith, r.3)));
    counted = omega (arith, s.counted, count-ended L p begins);
    roomy = omega (arith, s.roomy, a.longer, has_one);
  }
