-- Two readings of tokens that are alike up to a place and at it: the steps that readers are made of.
use Rattle.std.proofs.Common.{◌≡◌, ◌<◌, ℕ, zero, suc, ◌+◌, ◌-◌, Bool, true, false, if◌then◌else◌, List, [], ◌∷◌, ◌++◌, length, Option, Some, None, Ok, Err, refl, sym, ap, ◌∙◌, subst, ◌⊎◌, inl, inr, arith, length-append, append_assoc}
use Rattle.std.specs.Prelude.{slice_get}
use Rattle.fb_base.specs.declared.fault.FaultKind.TheVariants.{Expected}
use Rattle.fb_base.specs.declared.fault.Span.{Span}
use Rattle.fb_lexer.specs.declared.token.Token.{Token}
use Rattle.fb_lexer.specs.declared.token.TokenKind.{TokenKind}
use Rattle.fb_lexer.specs.declared.token.Mark.{Mark}
use Rattle.fb_lexer.specs.declared.token.Mark.TheVariants.{Comma}
use Rattle.fb_lexer.specs.declared.word.Word.{Word}
use Rattle.fb_base.specs.declared.fault.FaultKind.{FaultKind}
use Rattle.parse_expr.specs.declared.error.ReadErr.{ReadErr}
use Rattle.parse_expr.specs.declared.error.ReadErr.TheVariants as read_errs
use Rattle.parse_expr.specs.Words.{is_refused}
use Rattle.parse_expr.specs.Reading.{first, next, is_mark, is_word, holds, sees, sees_word, expect, expect_word, Outcome, Reader, and_then, pure}
use Rattle.parse_expr.specs.Expr.{place_or}
use Rattle.parse_expr.proofs.Sound.{Done, bind, by_test}
use Rattle.parse_expr.proofs.Ends.{Suffixes, same_end, no_longer, Leaves}
use Rattle.parse_expr.proofs.Turned.{same_bind}
use Rattle.parse_expr.proofs.FirstFault.{meet}
use Rattle.parse_expr.proofs.Twins.{Position, Alike, here, there, Gone, Near, ErrAt, Twin, twin_pure, twin_then, twin_test, twin_if, twin_take, twin_next, twin_refuse, gone_then, eaten}
use Rattle.parse_parts.specs.declared.kinds.InLine.{InLine}
use Rattle.parse_parts.specs.Words.{is_sep}
use Rattle.parse_parts.specs.Simple.{goes_on}
use Rattle.parse_stmt.proofs.Odd.{is_odd_word, by_odd, odd_mark, odd_word, odd_sep, by_refused, refused_mark, refused_word, refused_sep, Ends, Refused, Ended, Odd, Stand, place_in, other_mark, other_word}
use Rattle.parse_parts.specs.Steps.{place_at, origin, here as at_here, last_before, weight_at, words, words_before, extra, sees_sep, sep, Turn, repeat, all_of, comma_behind}

-- ---- turns

-- a turn after which another one follows takes a token
pub record Shortens {S : Type 0} (turn : Turn S) : Type 0 where
  pub less : (found : S) (ts : List Token) → Done (λ p rest. p.1 ≡ true → length rest < length ts) (turn found ts)

module _ {S : Type 0} (turn : Turn S) (shortens : Shortens turn) where
  again : (n m : ℕ) (p : S × Bool) (rest : List Token) (b : Bool) → p.1 ≡ b → (b ≡ true → repeat turn n p.0 rest ≡ repeat turn m p.0 rest)
      → (if b then repeat turn n p.0 else pure p.0) rest ≡ (if b then repeat turn m p.0 else pure p.0) rest
  again n m p rest true is more = more refl
  again n m p rest false is more = refl

  -- more turns than there are tokens are as good as one more than there are
  pub repeat_turns : (n m : ℕ) (found : S) (ts : List Token) → length ts < n → length ts < m → repeat turn n found ts ≡ repeat turn m found ts
  unfolding repeat
  repeat_turns zero m found ts few other = absurd (omega arith)
  repeat_turns (suc n) zero found ts few other = absurd (omega arith)
  repeat_turns (suc n) (suc m) found ts few other =
      same_bind (λ p rest. p.1 ≡ true → length rest < length ts) (turn found ts) _ _ (shortens.less found ts)
      (λ p rest less. again n m p rest p.1 refl (λ is. let l = less is in repeat_turns n m p.0 rest (omega arith) (omega arith)))

comma_less : (ts rest : List Token) → Suffixes rest ts → sees Comma rest ≡ true → length (next rest) < length ts
unfolding sees first next
comma_less ts [] s is = cc
comma_less ts (x ∷ rest) s is = let n = no_longer s in omega arith

-- a turn with a comma behind it
pub shortens_comma : {A : Type 0} (p : Reader A) → ((ts : List Token) → Done (λ (a : A) rest. Suffixes rest ts) (p ts)) → Shortens (λ (found : List A). λ ts. and_then (p ts) (comma_behind found))
unfolding comma_behind
shortens_comma {A = A} p within = record {
  less = λ found ts. bind (λ (a : A) rest. Suffixes rest ts) (λ q rest. q.1 ≡ true → length rest < length ts) (p ts) (comma_behind found) (within ts)
      (λ a rest s. by_test (λ (o : Outcome (List A × Bool)). Done (λ q rest. q.1 ≡ true → length rest < length ts) o) (sees Comma rest) _ _
      (λ is more. comma_less ts rest s is) (λ is more. cc));
}

more_done : {S : Type 0} (turn : Turn S) (P : List Token → Type 0) (n : ℕ) (b : Bool) (x : S) (rest : List Token) → (b ≡ false → P rest) → Done (λ (y : S) r. P r) (repeat turn n x rest) → Done (λ (y : S) r. P r) ((if b then repeat turn n x else pure x) rest)
more_done turn P n true x rest last more = more
more_done turn P n false x rest last more = last refl

-- what holds of the tokens behind the last turn
pub repeat_done : {S : Type 0} (turn : Turn S) (P : List Token → Type 0) → ((found : S) (ts : List Token) → Done (λ p rest. p.1 ≡ false → P rest) (turn found ts)) → (n : ℕ) (found : S) (ts : List Token) → Done (λ (y : S) r. P r) (repeat turn n found ts)
unfolding repeat
repeat_done turn P k zero found ts = tt
repeat_done {S = S} turn P k (suc n) found ts =
    bind (λ (p : S × Bool) rest. p.1 ≡ false → P rest) (λ (y : S) r. P r) (turn found ts) (λ p. if p.1 then repeat turn n p.0 else pure p.0) (k found ts)
    (λ p rest last. more_done turn P n p.1 p.0 rest last (repeat_done turn P k n p.0 rest))

-- ---- what is taken in both readings

module _ (L : FaultKind → Type 0) (t : Token) (s v : List Token) (stand : Stand L t v) where
  abbrev pub at_place : Position L t v
  at_place = place_in L t v stand

  abbrev pub Both : List Token → List Token → Type 0
  Both ts us = Alike L t s v at_place ts us

  abbrev pub T : {A : Type 0} → Reader A → Reader A → Type 0
  T p q = Twin L t s v at_place p q

  -- where the same token stands at the place, or before it, the next token is the same
  pub first_same : first v ≡ Some t → (ts us : List Token) → Both ts us → first us ≡ first ts
  unfolding first
  first_same same ts us here = same
  first_same same ts us (there x a b al) = refl

  record Parted (ts us : List Token) : Type 0 where
    front : List Token
    one : ts ≡ front ++ t ∷ s
    other : us ≡ front ++ v

  parted : (ts us : List Token) → Both ts us → Parted ts us
  parted ts us here = record { front = []; one = refl; other = refl }
  parted ts us (there x a b al) = let p = parted a b al in record { front = x ∷ p.front; one = ap (λ (xs : List Token). x ∷ xs) p.one; other = ap (λ (xs : List Token). x ∷ xs) p.other }

  -- what was taken is the same in both
  pub record Taken (ts us rest r : List Token) : Type 0 where
    pub front : List Token
    pub one : ts ≡ front ++ rest
    pub other : us ≡ front ++ r

  pub taken : (ts us rest r : List Token) → Both ts us → Suffixes rest ts → Both rest r → Taken ts us rest r
  taken ts us rest r al l after =
      let p = parted ts us al in
      let q = parted rest r after in
      let whole : (l.front ++ q.front) ++ t ∷ s ≡ p.front ++ t ∷ s = append_assoc l.front q.front (t ∷ s) ∙ ap (λ (xs : List Token). l.front ++ xs) (sym q.one) ∙ sym l.is ∙ p.one in
      let a = ap length whole ∙ length-append p.front (t ∷ s) in
      let b = length-append (l.front ++ q.front) (t ∷ s) in
      let m = meet (l.front ++ q.front) p.front (t ∷ s) (t ∷ s) whole (λ less. absurd (omega arith)) (λ less. absurd (omega arith)) in
      record {
        front = l.front;
        one = l.is;
        other = p.other ∙ ap (λ (xs : List Token). xs ++ v) (sym m.fronts) ∙ append_assoc l.front q.front v ∙ ap (λ (xs : List Token). l.front ++ xs) (sym q.other);
      }

  -- ---- steps

  pub followed : {A B : Type 0} {p q : Reader A} {f g : A → Reader B} → T p q → ((a : A) → T (f a) (g a)) → T (λ ts. and_then (p ts) f) (λ ts. and_then (q ts) g)
  followed {p = p} {q = q} {f = f} {g = g} h k = twin_then L t s v at_place p q f g h k

  pub made : {A B : Type 0} {p q : Reader A} (f : A → B) → T p q → T (λ ts. and_then (p ts) (λ a. pure (f a))) (λ ts. and_then (q ts) (λ a. pure (f a)))
  made f h = followed h (λ a. twin_pure L t s v at_place (f a))

  pub given : {A : Type 0} (a : A) → T (pure a) (pure a)
  given a = twin_pure L t s v at_place a

  -- Two readings of which the first one takes its first token, whatever that is, or ends there in a fault of such a kind.
  pub record Eats {A : Type 0} (p q : Reader A) : Type 0 where
    pub twin : T p q
    pub gone : Gone L t s v at_place (p (t ∷ s))

  pub took : {A : Type 0} (a : A) → Eats (λ ts. Ok (a, next ts)) (λ ts. Ok (a, next ts))
  unfolding next
  took a = record { twin = twin_take L t s v at_place a; gone = omega arith }

  pub behind : {A : Type 0} {p q : Reader A} → T p q → Eats (λ ts. p (next ts)) (λ ts. q (next ts))
  behind {p = p} {q = q} h = record { twin = twin_next L t s v at_place p q h; gone = eaten L t s v at_place p q h }

  pub eats_then : {A B : Type 0} {p q : Reader A} {f g : A → Reader B} → Eats p q → ((a : A) → T (f a) (g a)) → Eats (λ ts. and_then (p ts) f) (λ ts. and_then (q ts) g)
  eats_then {p = p} {q = q} {f = f} {g = g} h k = record {
    twin = twin_then L t s v at_place p q f g h.twin k;
    gone = gone_then L t s v at_place (p (t ∷ s)) f h.gone (λ a rest. (k a).leaves rest);
  }

  pub stopped : {A : Type 0} (one other : List Token → ReadErr) → T {A = A} (λ ts. Err (one ts, ts)) (λ ts. Err (other ts, ts))
  stopped one other = record { leaves = λ ts. same_end ts; near = λ ts us al. inr (other us, us, refl, al) }

  -- a look at the next token
  see_by : {A : Type 0} (g h : Option Token → Reader A) → Stand L t v → ((o : Option Token) → T (g o) (h o)) → ((odd : Odd L t v) → Near L t s v at_place (g (Some t) (t ∷ s)) (h (Some odd.u) v))
      → Near L t s v at_place (g (Some t) (t ∷ s)) (h (first v) v)
  see_by g h (inl same) k at = subst (λ (o : Option Token). Near L t s v at_place (g (Some t) (t ∷ s)) (h o v)) (sym same) ((k (Some t)).near (t ∷ s) v here)
  see_by g h (inr odd) k at = subst (λ (o : Option Token). Near L t s v at_place (g (Some t) (t ∷ s)) (h o v)) (sym odd.is) (at odd)

  see_alike : {A : Type 0} (g h : Option Token → Reader A) → ((o : Option Token) → T (g o) (h o)) → Near L t s v at_place (g (Some t) (t ∷ s)) (h (first v) v) → (ts us : List Token) → Both ts us → Near L t s v at_place (g (first ts) ts) (h (first us) us)
  unfolding first
  see_alike g h k at ts us here = at
  see_alike g h k at ts us (there x a b al) = (k (Some x)).near (x ∷ a) (x ∷ b) (there x a b al)

  pub seen : {A : Type 0} (g h : Option Token → Reader A) → ((o : Option Token) → T (g o) (h o)) → ((odd : Odd L t v) → Near L t s v at_place (g (Some t) (t ∷ s)) (h (Some odd.u) v)) → T (λ ts. g (first ts) ts) (λ ts. h (first ts) ts)
  seen g h k at = record { leaves = λ ts. (k (first ts)).leaves ts; near = see_alike g h k (see_by g h stand k at) }

  pub odd_test : {A : Type 0} (b c : Bool) (p q p' q' : Reader A) → c ≡ false → Gone L t s v at_place (p (t ∷ s)) → T q q' → Near L t s v at_place (if b then p (t ∷ s) else q (t ∷ s)) (if c then p' v else q' v)
  odd_test true c p q p' q' is gone h = inl gone
  odd_test false c p q p' q' is gone h = rw is (h.near (t ∷ s) v here)

  -- a test that the other token doesn't pass
  pub tested : {A : Type 0} (test : TokenKind → Bool) {p q p' q' : Reader A} → ((odd : Odd L t v) → test odd.u.kind ≡ false) → Eats p p' → T q q' → T (λ ts. if holds test (first ts) then p ts else q ts) (λ ts. if holds test (first ts) then p' ts else q' ts)
  tested test {p = p} {q = q} {p' = p'} {q' = q'} fails g h =
      seen (λ o ts. if holds test o then p ts else q ts) (λ o ts. if holds test o then p' ts else q' ts) (λ o. twin_test L t s v at_place (holds test o) p q p' q' g.twin h)
      (λ odd. odd_test (test t.kind) (test odd.u.kind) p q p' q' (fails odd) g.gone h)

  chosen_by : {A B : Type 0} (g h : Option B → Reader A) → T (g None) (h None) → ((b : B) → Eats (g (Some b)) (h (Some b))) → (o : Option B) → T (g o) (h o)
  chosen_by g h none some None = none
  chosen_by g h none some (Some b) = (some b).twin

  either_test : {A : Type 0} (b c : Bool) (p q p' q' : Reader A) → c ≡ false → (b ≡ true → Near L t s v at_place (p (t ∷ s)) (q' v)) → T q q' → Near L t s v at_place (if b then p (t ∷ s) else q (t ∷ s)) (if c then p' v else q' v)
  either_test true c p q p' q' is at h = rw is (at refl)
  either_test false c p q p' q' is at h = rw is (h.near (t ∷ s) v here)

  -- a test that the other token doesn't pass, where this one isn't taken
  pub tested_alone : {A : Type 0} (test : TokenKind → Bool) {p q p' q' : Reader A} → ((odd : Odd L t v) → test odd.u.kind ≡ false) → (Odd L t v → test t.kind ≡ true → Near L t s v at_place (p (t ∷ s)) (q' v)) → T p p' → T q q'
      → T (λ ts. if holds test (first ts) then p ts else q ts) (λ ts. if holds test (first ts) then p' ts else q' ts)
  tested_alone test {p = p} {q = q} {p' = p'} {q' = q'} fails at g h =
      seen (λ o ts. if holds test o then p ts else q ts) (λ o ts. if holds test o then p' ts else q' ts) (λ o. twin_test L t s v at_place (holds test o) p q p' q' g h)
      (λ odd. either_test (test t.kind) (test odd.u.kind) p q p' q' (fails odd) (at odd) h)

  -- a choice by the next token, where the other token is none to choose, and this one is taken
  choice_near : {A B : Type 0} (g h : Option B → Reader A) (o p : Option B) → p ≡ None → ((b : B) → Gone L t s v at_place (g (Some b) (t ∷ s))) → T (g None) (h None) → Near L t s v at_place (g o (t ∷ s)) (h p v)
  choice_near g h None p is gone k = rw is (k.near (t ∷ s) v here)
  choice_near g h (Some b) p is gone k = inl (gone b)

  pub chosen : {A B : Type 0} (at : Option Token → Option B) (g h : Option B → Reader A) → ((odd : Odd L t v) → at (Some odd.u) ≡ None) → T (g None) (h None) → ((b : B) → Eats (g (Some b)) (h (Some b))) → T (λ ts. g (at (first ts)) ts) (λ ts. h (at (first ts)) ts)
  chosen at g h fails none some = seen (λ o. g (at o)) (λ o. h (at o)) (λ o. chosen_by g h none some (at o)) (λ odd. choice_near g h (at (Some t)) (at (Some odd.u)) (fails odd) (λ b. (some b).gone) none)

  -- ---- marks, words and ends

  pub twin_mark : {A : Type 0} (which : Mark) {p q p' q' : Reader A} → Eats p p' → T q q' → T (λ ts. if sees which ts then p ts else q ts) (λ ts. if sees which ts then p' ts else q' ts)
  unfolding sees
  twin_mark which g h = tested (is_mark which) (λ odd. other_mark which odd) g h

  pub twin_word : {A : Type 0} (which : Word) → is_odd_word which ≡ false → {p q p' q' : Reader A} → Eats p p' → T q q' → T (λ ts. if sees_word which ts then p ts else q ts) (λ ts. if sees_word which ts then p' ts else q' ts)
  unfolding sees_word
  twin_word which plain g h = tested (is_word which) (λ odd. other_word which plain odd) g h

  sep_gone : {A : Type 0} (b : Bool) (p q : Reader A) → Gone L t s v at_place (p (t ∷ s)) → Gone L t s v at_place (q (t ∷ s)) → Gone L t s v at_place (if b then p (t ∷ s) else q (t ∷ s))
  sep_gone true p q g h = g
  sep_gone false p q g h = h

  sep_near : {A : Type 0} (line : InLine) {p q p' q' : Reader A} → Eats p p' → T q q' → (Ends L → Gone L t s v at_place (q (t ∷ s))) → (u : Token) → Refused L t u ⊎ Ended L u
      → Near L t s v at_place (if is_sep line t.kind then p (t ∷ s) else q (t ∷ s)) (if is_sep line u.kind then p' v else q' v)
  sep_near line g h gone u (inl r) = rw (refused_sep line t.kind r.word, odd_sep line u.kind r.odd) (h.near (t ∷ s) v here)
  sep_near line {p = p} {q = q} g h gone u (inr e) = inl (sep_gone (is_sep line t.kind) p q g.gone (gone e.ends))

  -- an end of a statement, or what is told where one would do
  pub twin_at_sep : {A : Type 0} (line : InLine) {p q p' q' : Reader A} → Eats p p' → T q q' → (Ends L → Gone L t s v at_place (q (t ∷ s))) → T (λ ts. if sees_sep line ts then p ts else q ts) (λ ts. if sees_sep line ts then p' ts else q' ts)
  unfolding sees_sep
  twin_at_sep line {p = p} {q = q} {p' = p'} {q' = q'} g h gone =
      seen (λ o ts. if holds (is_sep line) o then p ts else q ts) (λ o ts. if holds (is_sep line) o then p' ts else q' ts) (λ o. twin_test L t s v at_place (holds (is_sep line) o) p q p' q' g.twin h)
      (λ odd. sep_near line g h gone odd.u odd.why)

  pub extra_gone : (A : Type 0) → Ends L → Gone L t s v at_place {A = A} (Err (read_errs.Fault (extra (t ∷ s)), t ∷ s))
  unfolding extra first
  extra_gone A ends = inr ends.extra

  pub twin_expect : (which : Mark) → T (expect which) (expect which)
  unfolding expect
  twin_expect which = twin_mark which (took tt) (stopped (λ ts. read_errs.Fault Expected) (λ ts. read_errs.Fault Expected))

  pub twin_expect_word : (which : Word) → is_odd_word which ≡ false → T (expect_word which) (expect_word which)
  unfolding expect_word
  twin_expect_word which plain = twin_word which plain (took tt) (stopped (λ ts. read_errs.Fault Expected) (λ ts. read_errs.Fault Expected))

  pub twin_sep : (line : InLine) → T (sep line) (sep line)
  unfolding sep
  twin_sep line = twin_at_sep line (took tt) (stopped (λ ts. read_errs.Fault (extra ts)) (λ ts. read_errs.Fault (extra ts))) (extra_gone (Unit {0}))

  -- an end comes next, or that is what is told
  pub ended_gone : (line : InLine) → Ends L → Gone L t s v at_place (sep line (t ∷ s))
  unfolding sep sees_sep first next
  ended_gone line ends = sep_gone (is_sep line t.kind) (λ ts. Ok (tt, next ts)) (λ ts. Err (read_errs.Fault (extra ts), ts)) (omega arith) (extra_gone (Unit {0}) ends)

  -- ---- the place of the next token

  pub twin_here : {A : Type 0} {f g : Span → Reader A} → ((at : Span) → T (f at) (g at)) → ((odd : Odd L t v) → Near L t s v at_place (f t.at (t ∷ s)) (g odd.u.at v)) → T (λ ts. and_then (at_here ts) f) (λ ts. and_then (at_here ts) g)
  unfolding place_at
  twin_here {f = f} {g = g} k at = seen (λ o ts. f (place_or origin o) ts) (λ o ts. g (place_or origin o) ts) (λ o. k (place_or origin o)) at

  pub eats_here : {A : Type 0} {f g : Span → Reader A} → ((at : Span) → Eats (f at) (g at)) → Eats (λ ts. and_then (at_here ts) f) (λ ts. and_then (at_here ts) g)
  unfolding place_at first
  eats_here k = record { twin = twin_here (λ at. (k at).twin) (λ odd. inl (k t.at).gone); gone = (k t.at).gone }

  -- a reading that takes the place's token or ends there in a fault, where the other token is none that may come next
  pub halted : {A : Type 0} (o other : Outcome A) → Gone L t s v at_place o ⊎ ErrAt o (t ∷ s) → ErrAt other v → Near L t s v at_place o other
  halted o other (inl gone) e = inl gone
  halted {A = A} o other (inr f) e = subst (λ (x : Outcome A). Near L t s v at_place x other) (sym f.is) (inr (e.stop, v, e.is, here))

  pub halts_then : {A B : Type 0} (o : Outcome A) (f : A → Reader B) → Gone L t s v at_place o ⊎ ErrAt o (t ∷ s) → ((a : A) (rest : List Token) → Leaves rest (f a rest)) → Gone L t s v at_place (and_then o f) ⊎ ErrAt (and_then o f) (t ∷ s)
  halts_then o f (inl gone) k = inl (gone_then L t s v at_place o f gone k)
  halts_then {A = A} o f (inr e) k = inr (record { stop = e.stop; is = ap (λ (x : Outcome A). and_then x f) e.is })

  pub err_then : {A B : Type 0} (o : Outcome A) (f : A → Reader B) → ErrAt o v → ErrAt (and_then o f) v
  err_then {A = A} o f e = record { stop = e.stop; is = ap (λ (x : Outcome A). and_then x f) e.is }

  halts_if : (b : Bool) → Gone L t s v at_place {A = Unit {0}} (if b then Ok (tt, s) else Err (read_errs.Fault Expected, t ∷ s)) ⊎ ErrAt {A = Unit {0}} (if b then Ok (tt, s) else Err (read_errs.Fault Expected, t ∷ s)) (t ∷ s)
  halts_if true = inl (omega arith)
  halts_if false = inr (record { stop = read_errs.Fault Expected; is = refl })

  pub expect_halts : (which : Word) → Gone L t s v at_place (expect_word which (t ∷ s)) ⊎ ErrAt (expect_word which (t ∷ s)) (t ∷ s)
  unfolding expect_word sees_word first next
  expect_halts which = halts_if (is_word which t.kind)

  pub expect_fails : (which : Word) → is_odd_word which ≡ false → Odd L t v → ErrAt (expect_word which v) v
  unfolding expect_word sees_word
  expect_fails which plain odd = rw (odd.is, other_word which plain odd) (record { stop = read_errs.Fault Expected; is = refl })

  -- this word has to come next, and neither token is it
  pub expect_near : {A : Type 0} (which : Word) → is_odd_word which ≡ false → (f g : Unit {0} → Reader A) → ((u : Unit {0}) (rest : List Token) → Leaves rest (f u rest)) → Odd L t v
      → Near L t s v at_place (and_then (expect_word which (t ∷ s)) f) (and_then (expect_word which v) g)
  expect_near which plain f g l odd = halted _ _ (halts_then (expect_word which (t ∷ s)) f (expect_halts which) l) (err_then (expect_word which v) g (expect_fails which plain odd))

  -- ---- the next token is the same, or an end stands there

  pub record SameNext (ts us : List Token) : Type 0 where
    pub mark : (which : Mark) → holds (is_mark which) (first us) ≡ holds (is_mark which) (first ts)
    pub word : (which : Word) → is_odd_word which ≡ false → is_refused which ≡ false → holds (is_word which) (first us) ≡ holds (is_word which) (first ts)
    pub sep : (line : InLine) → sees_sep line us ≡ sees_sep line ts
    pub goes_on : holds goes_on (first us) ≡ holds goes_on (first ts)

  -- the place is reached, and an end stands there in the second list
  pub record Over (ts us : List Token) : Type 0 where
    pub u : Token
    pub ended : Ended L u
    pub is : first v ≡ Some u
    pub one : ts ≡ t ∷ s
    pub other : us ≡ v

  same_next : (ts us : List Token) → first us ≡ first ts → SameNext ts us
  unfolding sees_sep
  same_next ts us is = record { mark = λ which. ap (holds (is_mark which)) is; word = λ which plain known. ap (holds (is_word which)) is; sep = λ line. ap (holds (is_sep line)) is; goes_on = ap (holds goes_on) is }

  refused_next : (u : Token) → first v ≡ Some u → Refused L t u → SameNext (t ∷ s) v
  unfolding sees_sep first
  refused_next u is r = record {
    mark = λ which. rw (is, odd_mark which u.kind r.odd, refused_mark which t.kind r.word) refl;
    word = λ which plain known. rw (is, odd_word which u.kind r.odd plain, refused_word which t.kind r.word known) refl;
    sep = λ line. rw (is, odd_sep line u.kind r.odd, refused_sep line t.kind r.word) refl;
    goes_on = rw (is, by_odd goes_on false (λ n. refl) refl refl refl u.kind r.odd, by_refused goes_on false (λ word. refl) t.kind r.word) refl;
  }

  next_here : (u : Token) → first v ≡ Some u → Refused L t u ⊎ Ended L u → SameNext (t ∷ s) v ⊎ Over (t ∷ s) v
  next_here u is (inl r) = inl (refused_next u is r)
  next_here u is (inr e) = inr (record { u = u; ended = e; is = is; one = refl; other = refl })

  next_by : Stand L t v → (ts us : List Token) → Both ts us → SameNext ts us ⊎ Over ts us
  unfolding first
  next_by (inl same) ts us al = inl (same_next ts us (first_same same ts us al))
  next_by (inr odd) ts us here = next_here odd.u odd.is odd.why
  next_by (inr odd) ts us (there x a b al) = inl (same_next (x ∷ a) (x ∷ b) refl)

  pub next_same : (ts us : List Token) → Both ts us → SameNext ts us ⊎ Over ts us
  next_same ts us al = next_by stand ts us al

  -- ---- series of things

  pub twin_comma : {A : Type 0} (found : List A) (x : A) → T (comma_behind found x) (comma_behind found x)
  unfolding comma_behind
  twin_comma found x = twin_mark Comma (took (found ++ x ∷ [], true)) (given (found ++ x ∷ [], false))

  pub twin_repeat : {S : Type 0} (turn turn' : Turn S) → ((found : S) → T (turn found) (turn' found)) → (n : ℕ) (found : S) → T (repeat turn n found) (repeat turn' n found)
  unfolding repeat
  twin_repeat turn turn' k zero found = twin_refuse L t s v at_place
  twin_repeat turn turn' k (suc n) found = followed (k found) (λ p. twin_if L t s v at_place p.1 (repeat turn n p.0) (pure p.0) (repeat turn' n p.0) (pure p.0) (twin_repeat turn turn' k n p.0) (given p.0))

  pub twin_all : {S : Type 0} {turn turn' : Turn S} → Shortens turn → Shortens turn' → ((found : S) → T (turn found) (turn' found)) → (found : S) → T (all_of turn found) (all_of turn' found)
  twin_all {turn = turn} {turn' = turn'} one other k found = record {
    leaves = λ ts. (twin_repeat turn turn' k (length ts + 1) found).leaves ts;
    near = λ ts us al.
        let n = length ts + length us + 1 in
        let a = repeat_turns turn one (length ts + 1) n found ts (omega arith) (omega arith) in
        let b = repeat_turns turn' other (length us + 1) n found us (omega arith) (omega arith) in
        rw (a, b) ((twin_repeat turn turn' k n found).near ts us al);
  }

  -- where the first turn takes the place's token
  pub all_gone : {S : Type 0} {turn turn' : Turn S} → ((found : S) → T (turn found) (turn' found)) → (found : S) → Gone L t s v at_place (turn found (t ∷ s)) → Gone L t s v at_place (all_of turn found (t ∷ s))
  unfolding repeat
  all_gone {turn = turn} {turn' = turn'} k found gone =
      let n = length (t ∷ s) in
      let many : length (t ∷ s) + 1 ≡ suc n = omega arith in
      rw many (gone_then L t s v at_place (turn found (t ∷ s)) (λ p. if p.1 then repeat turn n p.0 else pure p.0) gone
      (λ p rest. (twin_if L t s v at_place p.1 (repeat turn n p.0) (pure p.0) (repeat turn' n p.0) (pure p.0) (twin_repeat turn turn' k n p.0) (given p.0)).leaves rest))

  -- things with commas between
  pub twin_list : {A : Type 0} (p q : Reader A) → T p q → ((ts : List Token) → Done (λ (a : A) rest. Suffixes rest ts) (p ts)) → ((ts : List Token) → Done (λ (a : A) rest. Suffixes rest ts) (q ts))
      → T (all_of (λ (found : List A). λ ts. and_then (p ts) (comma_behind found)) []) (all_of (λ (found : List A). λ ts. and_then (q ts) (comma_behind found)) [])
  twin_list p q h one other = twin_all (shortens_comma p one) (shortens_comma q other) (λ found. followed h (λ a. twin_comma found a)) []

  -- ---- what is made of the tokens before and behind, too

  pub alike_long : (ts us : List Token) → Both ts us → length s < length ts
  alike_long ts us here = omega arith
  alike_long ts us (there x a b al) = let n = alike_long a b al in omega arith

  module _ {A B : Type 0} (f : List Token → A → List Token → B) (alike_made : (ts us : List Token) (a : A) (rest r : List Token) → Taken ts us rest r → f us a r ≡ f ts a rest) where
    placed_by : (ts us : List Token) → Both ts us → (o other : Outcome A) → Leaves ts o → Near L t s v at_place o other → Near L t s v at_place {A = B} (and_then o (λ a rest. Ok (f ts a rest, rest))) (and_then other (λ a rest. Ok (f us a rest, rest)))
    placed_by ts us al (Ok p) other l (inl gone) = inl gone
    placed_by ts us al (Err p) other l (inl gone) = inl gone
    placed_by ts us al (Ok p) other l (inr n) =
        let e = alike_made ts us p.0 p.1 n.0 (taken ts us p.1 n.0 al l n.2) in
        inr (n.0, ap (λ (x : Outcome A). and_then x (λ a rest. Ok (f us a rest, rest))) n.1 ∙ ap (λ (b : B). Ok (b, n.0)) e, n.2)
    placed_by ts us al (Err p) other l (inr n) = inr (n.0, n.1, ap (λ (x : Outcome A). and_then x (λ a rest. Ok (f us a rest, rest))) n.2, n.3)

    leaves_placed : (ts : List Token) (o : Outcome A) → Leaves ts o → Leaves {A = B} ts (and_then o (λ a rest. Ok (f ts a rest, rest)))
    leaves_placed ts (Ok p) l = l
    leaves_placed ts (Err p) l = l

    pub twin_placed : {p q : Reader A} → T p q → T (λ ts. and_then (p ts) (λ a rest. Ok (f ts a rest, rest))) (λ ts. and_then (q ts) (λ a rest. Ok (f ts a rest, rest)))
    twin_placed {p = p} {q = q} h = record { leaves = λ ts. leaves_placed ts (p ts) (h.leaves ts); near = λ ts us al. placed_by ts us al (p ts) (q us) (h.leaves ts) (h.near ts us al) }

  -- the token before what is left
  get_last : (x : Token) (front rest r : List Token) → slice_get (x ∷ (front ++ r)) (length front) ≡ slice_get (x ∷ (front ++ rest)) (length front)
  get_last x [] rest r = refl
  get_last x (y ∷ front) rest r = get_last y front rest r

  get_first : (rest r : List Token) → first r ≡ first rest → slice_get r 0 ≡ slice_get rest 0
  unfolding first
  get_first [] [] is = refl
  get_first [] (y ∷ r) is = cc
  get_first (x ∷ rest) [] is = cc
  get_first (x ∷ rest) (y ∷ r) is = is

  get_before : (front rest r : List Token) → (front ≡ [] → first r ≡ first rest) → slice_get (front ++ r) (length front - 1) ≡ slice_get (front ++ rest) (length front - 1)
  get_before [] rest r is = get_first rest r (is refl)
  get_before (x ∷ front) rest r is = let e : length (x ∷ front) - 1 ≡ length front = omega arith in rw e (get_last x front rest r)

  pub last_same : (ts us rest r : List Token) → Taken ts us rest r → (ts ≡ rest → first r ≡ first rest) → last_before us r ≡ last_before ts rest
  unfolding last_before
  last_same ts us rest r k same =
      let a = length-append k.front rest in
      let b = length-append k.front r in
      let one : length (k.front ++ rest) - length rest - 1 ≡ length k.front - 1 = omega arith in
      let other : length (k.front ++ r) - length r - 1 ≡ length k.front - 1 = omega arith in
      rw (k.one, k.other, one, other) (ap (place_or origin) (get_before k.front rest r (λ none. same (k.one ∙ ap (λ (xs : List Token). xs ++ rest) none))))

  words_same : (front rest r : List Token) → words (length front) (front ++ r) ≡ words (length front) (front ++ rest)
  unfolding words first next
  words_same [] rest r = refl
  words_same (x ∷ front) rest r = ap (λ (n : ℕ). weight_at (Some x) + n) (words_same front rest r)

  pub words_before_same : (ts us rest r : List Token) → Taken ts us rest r → words_before us r ≡ words_before ts rest
  unfolding words_before
  words_before_same ts us rest r k =
      let a = length-append k.front rest in
      let b = length-append k.front r in
      let one : length (k.front ++ rest) - length rest ≡ length k.front = omega arith in
      let other : length (k.front ++ r) - length r ≡ length k.front = omega arith in
      rw (k.one, k.other, one, other) (words_same k.front rest r)
