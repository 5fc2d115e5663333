-- What calls on a heap leave of the strings of other descriptors.
use Rattle.std.proofs.Common.{◌≡◌, ◌≢◌, ℕ, zero, suc, ◌-◌, ◌+◌, ◌*◌, ◌<◌, ◌≤◌, eqb, eqb-true, List, [], ◌∷◌, set, length, take, drop, get_or, refl, sym, ap, ◌∙◌, arith, length-take, length-drop}
use Rattle.std.proofs.lemmas.List.{get_or-set_same, get_or-set_other, length-set, drop-set-add, drop-set-lt, take-set-le}
use Rattle.fb_base.specs.declared.shape.Desc.{Desc}
use Rattle.str_heap.specs.Blocks.{Spans}
use Rattle.str_heap.specs.Payloads.{blocks, contents, bytes_at, bytes_of, IsLive, KeepsOthers, IsApart, Keeps, Changes, Stores, Releases, Assigns}
use Rattle.str_heap.specs.Sound.{Begins, IsSound}
use Rattle.str_heap.proofs.Runs.{by_test, by_order}
use Rattle.str_heap.proofs.Arena.{contents-at}

-- the bytes of a descriptor that isn't empty
pub bytes-some : (heap : List (List ℕ)) (d : Desc) → 0 < d.length → bytes_of heap d ≡ bytes_at heap d.place
bytes-some heap d some = by_test (eqb d.length 0) (λ t. let z : d.length ≡ 0 = eqb-true d.length 0 t in absurd (omega arith)) (λ t. rw t refl)

pub bytes-none : (heap : List (List ℕ)) (d : Desc) → d.length ≡ 0 → bytes_of heap d ≡ []
bytes-none heap d none = rw none refl

-- a descriptor whose string begins elsewhere has the bytes that it had
pub bytes-kept : (old new : List (List ℕ)) (d e : Desc) → KeepsOthers e old new → (0 < d.length → 0 < e.length → d.place ≢ e.place) → bytes_of new d ≡ bytes_of old d
bytes-kept old new d e keeps other =
    by_order 0 d.length (λ some. bytes-some new d some ∙ keeps d.place (other some) ∙ sym (bytes-some old d some))
    (λ none. let z : d.length ≡ 0 = omega arith in bytes-none new d z ∙ sym (bytes-none old d z))

pub live-kept : (old new : List (List ℕ)) (d e : Desc) → KeepsOthers e old new → (0 < d.length → 0 < e.length → d.place ≢ e.place) → IsLive old d → IsLive new d
live-kept old new d e keeps other l = record { length = l.length ∙ ap length (sym (bytes-kept old new d e keeps other)); size = l.size }

-- a new string isn't where a live one is
pub fresh-apart : (old new : List (List ℕ)) (d e : Desc) (bytes : List ℕ) → Stores old new e bytes → IsLive old d → 0 < d.length → 0 < e.length → d.place ≢ e.place
fresh-apart old new d e bytes s l some some' same =
    let none : bytes_at old d.place ≡ [] = ap (bytes_at old) same ∙ s.fresh some' in
    let zero : d.length ≡ 0 = l.length ∙ ap length (bytes-some old d some ∙ none) in
    omega arith

-- how long the string is that begins at a block
pub length-bytes_at : (L A : List ℕ) (H : Spans) (live : ℕ) → IsSound L A H live → (k : ℕ) → length (bytes_at (contents L A) k) ≡ get_or L k 0
length-bytes_at L A H live s k =
    let n = get_or L k 0 in
    ap length (contents-at L A k)
    ∙ by_order 0 n
    (λ begins. let i = s.inside k begins in rw (length-take, length-drop) (omega (arith, s.sized)))
    (λ none. rw length-take (omega arith))

-- a live descriptor that isn't empty is that of the string which begins at its place
pub begins_here : (L A : List ℕ) (H : Spans) (live : ℕ) (d : Desc) → IsSound L A H live → IsLive (contents L A) d → 0 < d.length → get_or L d.place 0 ≡ d.length
begins_here L A H live d s l some =
    sym (l.length ∙ ap length (bytes-some (contents L A) d some) ∙ length-bytes_at L A H live s d.place)

-- a live descriptor that isn't empty, in what a heap keeps
module _ (L A : List ℕ) (H : Spans) (live : ℕ) (d : Desc) (s : IsSound L A H live) (l : IsLive (contents L A) d) (some : 0 < d.length) where
  long : get_or L d.place 0 ≡ d.length
  long = begins_here L A H live d s l some

  pub begins : Begins L d.place
  begins = rw long some

  pub size_here : d.size ≡ blocks (get_or L d.place 0)
  size_here = l.size ∙ ap blocks (sym long)

  pub place_within : d.place + d.size ≤ length L
  place_within = omega (arith, s.inside d.place begins, size_here)

  pub bytes_within : 16 * d.place + d.length ≤ length A
  bytes_within = omega (arith, place_within, l.size, s.sized)

  pub bytes_read : take d.length (drop (16 * d.place) A) ≡ bytes_of (contents L A) d
  bytes_read = sym (bytes-some (contents L A) d some ∙ contents-at L A d.place ∙ ap (λ (n : ℕ). take n (drop (16 * d.place) A)) long)

  pub released : Releases (contents L A) (contents (set L d.place 0) A) d
  released = record {
    gone = λ some'.
        contents-at (set L d.place 0) A d.place ∙ ap (λ (n : ℕ). take n (drop (16 * d.place) A)) (get_or-set_same L d.place 0 0 (omega (arith, place_within, size_here, begins)));
    others = λ k away.
        contents-at (set L d.place 0) A k ∙ ap (λ (n : ℕ). take n (drop (16 * k) A)) (get_or-set_other L d.place k 0 0 (away some)) ∙ sym (contents-at L A k);
  }

pub apart_here : (L A : List ℕ) (H : Spans) (live : ℕ) (s : IsSound L A H live) (d e : Desc) → IsLive (contents L A) d → IsLive (contents L A) e → 0 < d.length → 0 < e.length → d.place < e.place → d.place + d.size ≤ e.place
apart_here L A H live s d e l m some some' lt =
    omega (arith, s.apart d.place e.place lt (begins L A H live d s l some) (begins L A H live e s m some'), size_here L A H live d s l some)

pub assigns : (old middle new : List (List ℕ)) (d e : Desc) (bytes : List ℕ) → IsLive old d → Stores old middle e bytes → Releases middle new d → Assigns old new d e bytes
assigns old middle new d e bytes l s r =
    let other : 0 < e.length → 0 < d.length → e.place ≢ d.place = λ some some' same. fresh-apart old middle d e bytes s l some' some (sym same) in record {
      live = live-kept middle new e d r.others other s.live;
      holds = bytes-kept middle new e d r.others other ∙ s.holds;
      fresh = s.fresh;
      gone = r.gone;
      others = λ place away away'. r.others place away ∙ s.others place away';
    }

-- what storing, releasing and assigning leave of the other live descriptors
pub stored_keeps : (old new : List (List ℕ)) (d : Desc) (bytes : List ℕ) → Stores old new d bytes → (e : Desc) → IsLive old e → Keeps old new e × IsApart e d
stored_keeps old new d bytes s e l =
    let apart : IsApart e d = fresh-apart old new e d bytes s l in
    (record { live = live-kept old new e d s.others apart l; same = bytes-kept old new e d s.others apart }, apart)

pub released_keeps : (old new : List (List ℕ)) (d : Desc) → Releases old new d → (e : Desc) → IsLive old e → IsApart e d → Keeps old new e
released_keeps old new d r e l apart = record { live = live-kept old new e d r.others apart l; same = bytes-kept old new e d r.others apart }

pub assigned_keeps : (old middle new : List (List ℕ)) (d f : Desc) (bytes : List ℕ) → Stores old middle f bytes → Releases middle new d → (e : Desc) → IsLive old e → IsApart e d → Keeps old new e × IsApart e f
assigned_keeps old middle new d f bytes s r e l apart =
    let first = stored_keeps old middle f bytes s e l in
    let next = released_keeps middle new d r e first.0.live apart in
    (record { live = next.live; same = next.same ∙ first.0.same }, first.1)

take-set-below : (n i b : ℕ) (xs : List ℕ) → i < n → take n (set xs i b) ≡ set (take n xs) i b
take-set-below zero i b xs lt = absurd (omega arith)
take-set-below (suc n) i b [] lt = refl
take-set-below (suc n) zero b (x ∷ xs) lt = refl
take-set-below (suc n) (suc i) b (x ∷ xs) lt = ap (λ (t : List ℕ). x ∷ t) (take-set-below n i b xs (omega arith))

-- a byte of a live descriptor's string, in what a heap keeps
module _ (L A : List ℕ) (H : Spans) (live : ℕ) (d : Desc) (s : IsSound L A H live) (l : IsLive (contents L A) d) (i b : ℕ) (inner : i < d.length) where
  some' : 0 < d.length
  some' = omega arith

  p : ℕ
  p = d.place

  long' : get_or L d.place 0 ≡ d.length
  long' = begins_here L A H live d s l some'

  here' : bytes_at (contents L (set A (16 * d.place + i) b)) d.place ≡ set (bytes_at (contents L A) d.place) i b
  here' =
      let n = get_or L d.place 0 in
      contents-at L (set A (16 * d.place + i) b) d.place ∙ ap (take n) (drop-set-add (16 * d.place) A i b)
      ∙ take-set-below n i b (drop (16 * d.place) A) (omega (arith, long'))
      ∙ ap (λ (t : List ℕ). set t i b) (sym (contents-at L A d.place))

  away' : (k : ℕ) → k ≢ d.place → bytes_at (contents L (set A (16 * d.place + i) b)) k ≡ bytes_at (contents L A) k
  away' k other =
      let n = get_or L k 0 in
      let at = 16 * d.place + i in
      let size = size_here L A H live d s l some' in
      let here = begins L A H live d s l some' in
      contents-at L (set A at b) k
      ∙ by_order 0 n
      (λ begun.
      by_order k d.place
      (λ lt. let end = s.apart k d.place lt begun here in let e : 16 * k + (at - 16 * k) ≡ at = omega arith in
      ap (λ (j : ℕ). take n (drop (16 * k) (set A j b))) (sym e) ∙ ap (take n) (drop-set-add (16 * k) A (at - 16 * k) b) ∙ take-set-le n (drop (16 * k) A) (at - 16 * k) b (omega arith))
      (λ le. let lt : d.place < k = by_order d.place k (λ lt. lt) (λ le'. absurd (other (omega arith))) in
      ap (take n) (drop-set-lt (16 * k) A at b (omega (arith, s.apart d.place k lt here begun, long')))))
      (λ none. let z : n ≡ 0 = omega arith in ap (λ (j : ℕ). take j (drop (16 * k) (set A at b))) z ∙ sym (ap (λ (j : ℕ). take j (drop (16 * k) A)) z))
      ∙ sym (contents-at L A k)

  pub set_changes : Changes (contents L A) (contents L (set A (16 * d.place + i) b)) d (set (bytes_of (contents L A) d) i b)
  set_changes =
      let new = contents L (set A (16 * d.place + i) b) in
      let e : bytes_of new d ≡ set (bytes_of (contents L A) d) i b = bytes-some new d some' ∙ here' ∙ ap (λ (t : List ℕ). set t i b) (sym (bytes-some (contents L A) d some')) in record {
        live = record { length = l.length ∙ sym (ap length e ∙ length-set (bytes_of (contents L A) d) i b); size = l.size };
        holds = e;
        others = λ k out. away' k (out some');
      }

  pub set_within : 16 * d.place + i < length A
  set_within = omega (arith, bytes_within L A H live d s l some')

  pub set_sound : IsSound L (set A (16 * d.place + i) b) H live
  set_sound = record {
    sized = length-set A (16 * d.place + i) b ∙ s.sized;
    apart = s.apart;
    inside = s.inside;
    unshared = s.unshared;
    known = s.known;
    covered = s.covered;
    counted = s.counted;
    roomy = s.roomy;
  }

pub changed_keeps : (old new : List (List ℕ)) (d : Desc) (bytes : List ℕ) → Changes old new d bytes → (e : Desc) → IsLive old e → IsApart e d → Keeps old new e
changed_keeps old new d bytes c e l apart = record { live = live-kept old new e d c.others apart l; same = bytes-kept old new e d c.others apart }
