-- Two readings of tokens that are alike up to a place and at it: where blocks end, and what a token there is not.
use Rattle.std.proofs.Common.{◌≡◌, ◌≤◌, ◌<◌, ℕ, zero, suc, ◌+◌, ◌==◌, Bool, true, false, if◌then◌else◌, List, [], ◌∷◌, ◌++◌, length, Option, Some, None, Ok, Err, refl, sym, ap, ◌∙◌, subst, ◌⊎◌, inl, inr, arith}
use Rattle.std.proofs.lemmas.Bool.Decides.{nat_tests}
use Rattle.fb_base.specs.declared.fault.Span.{Span}
use Rattle.fb_base.specs.declared.fault.FaultKind.{FaultKind}
use Rattle.fb_base.specs.declared.fault.FaultKind.TheVariants.{Expected, ExtraText, OutOfProfile, DeepNesting}
use Rattle.fb_lexer.specs.declared.token.Token.{Token}
use Rattle.fb_lexer.specs.declared.token.TokenKind.{TokenKind}
use Rattle.fb_lexer.specs.declared.token.TokenKind.TheVariants as kinds
use Rattle.fb_lexer.specs.declared.token.Mark.{Mark}
use Rattle.fb_lexer.specs.declared.token.Mark.TheVariants.{At, Minus, Open, Star}
use Rattle.fb_lexer.specs.declared.word.Word.{Word}
use Rattle.fb_lexer.specs.declared.word.Word.TheVariants as w
use Rattle.fb_ast.specs.declared.operator.CallWord.{CallWord}
use Rattle.fb_ast.specs.declared.stmt.Stmt.{Stmt}
use Rattle.parse_expr.specs.declared.kinds.OperandWord.{OperandWord}
use Rattle.parse_expr.specs.declared.kinds.OperandWord.TheVariants as operands
use Rattle.parse_expr.specs.Words.{operand_word, prefix_of}
use Rattle.parse_expr.specs.Reading.{first, next, same_mark, same_word, is_mark, is_word, holds, sees_word, refusal_by, Outcome, Reader, and_then, pure}
use Rattle.parse_expr.specs.Productions.{begins_some, begins_operand, word_start}
use Rattle.parse_expr.specs.Expr.{place_or, begins, begins_as}
use Rattle.parse_expr.specs.Faults.{is_refused_kind}
use Rattle.parse_expr.proofs.Sound.{Done, bind, by_test, map_done}
use Rattle.parse_expr.proofs.Ends.{Suffixes, same_end, no_longer, Leaves, further}
use Rattle.parse_expr.proofs.Refused.{nowhere}
use Rattle.parse_expr.proofs.Twins.{Rooms, here, there, Gone, Near, twin_test, gone_then, past}
use Rattle.parse_parts.specs.declared.kinds.Level.{Level}
use Rattle.parse_parts.specs.declared.kinds.Level.TheVariants as levels
use Rattle.parse_parts.specs.declared.kinds.InLine.{InLine}
use Rattle.parse_parts.specs.declared.kinds.InLine.TheVariants as lines
use Rattle.parse_parts.specs.declared.kinds.Spot.{Spot}
use Rattle.parse_parts.specs.declared.kinds.Lead.{Lead}
use Rattle.parse_parts.specs.declared.kinds.Lead.TheVariants as leads
use Rattle.parse_parts.specs.declared.kinds.Closer.{Closer}
use Rattle.parse_parts.specs.declared.kinds.Closer.TheVariants as closers
use Rattle.parse_parts.specs.Words.{lead_of, word_lead, mark_lead, operand_lead, allowed, static_at, gives_nothing, ends_with_end, is_sep}
use Rattle.parse_parts.specs.Steps.{place_at, origin, sees_sep, sep, sees_value, Turn, repeat, all_of}
use Rattle.parse_stmt.specs.Blocks.{sees_end, closed, deep_end, end_is_deep, block_stmt, ended, block_turn, series_turn}
use Rattle.parse_stmt.specs.Phrases.{Phrase}
use Rattle.parse_stmt.proofs.Smallest.{word_is}
use Rattle.parse_stmt.proofs.Bodies.{sep_less}
use Rattle.parse_stmt.proofs.Ended.{Ended}
use Rattle.parse_stmt.proofs.Nested.{word_less}
use Rattle.parse_stmt.proofs.Odd.{is_odd_word, is_end, odd_sep, by_end, refused_sep, Ends, Refused, Ended as EndThere, Odd, Stand, other_word}
use Rattle.parse_stmt.proofs.Alike.{Shortens, repeat_turns, at_place, Both, T, Eats, Taken, taken, SameNext, first_same, alike_long, given, behind, seen, odd_test}

pub ended_leaves : {A : Type 0} {p : Reader A} {P : Phrase A} {C : List Token → Bool} → Ended p P C → (ts : List Token) → Done (λ (a : A) rest. Suffixes rest ts) (p ts)
ended_leaves {A = A} {p = p} {P = P} x ts = map_done (P ts) (λ (a : A) rest. Suffixes rest ts) (p ts) (x.sound ts) (λ a rest r. x.within ts a rest r)

-- ---- where the first reading stops before the place

module _ (L : FaultKind → Type 0) (t : Token) (s v : List Token) (stand : Stand L t v) where
  abbrev pub AtEnd : Type 0
  AtEnd = is_word w.KwEnd t.kind ≡ true

  -- What the first reading may read, and what it leaves then, so that what follows takes the place's token, or ends there
  -- in a fault of such a kind. The second reading may go on in any way.
  abbrev pub Stays : {A : Type 0} → (A → List Token → Type 0) → Outcome A → Type 0
  Stays C (Ok p) = C p.0 p.1
  Stays C (Err p) = ⊥

  abbrev pub GoneOrStays : {A : Type 0} → (A → List Token → Type 0) → Outcome A → Type 0
  GoneOrStays C o = Gone L t s v (at_place L t s v stand) o ⊎ Stays C o

  abbrev pub NearOrStays : {A : Type 0} → (A → List Token → Type 0) → Outcome A → Outcome A → Type 0
  NearOrStays C o other = Near L t s v (at_place L t s v stand) o other ⊎ Stays C o

  -- two readings of which the first may stop so
  pub record E {A : Type 0} (C : A → List Token → Type 0) (p q : Reader A) : Type 0 where
    pub leaves : (ts : List Token) → Leaves ts (p ts)
    pub near : (ts us : List Token) → Both L t s v stand ts us → NearOrStays C (p ts) (q us)

  pub weak : {A : Type 0} (C : A → List Token → Type 0) {p q : Reader A} → T L t s v stand p q → E C p q
  weak C h = record { leaves = h.leaves; near = λ ts us al. inl (h.near ts us al) }

  pub lift : {A : Type 0} (C : A → List Token → Type 0) (o other : Outcome A) → GoneOrStays C o → NearOrStays C o other
  lift C o other (inl gone) = inl (inl gone)
  lift C o other (inr stays) = inr stays

  pub leaves_and : {A B : Type 0} (ts : List Token) (o : Outcome A) (f : A → Reader B) → Leaves ts o → ((a : A) (rest : List Token) → Leaves rest (f a rest)) → Leaves ts (and_then o f)
  leaves_and ts (Ok p) f l k = further p.1 ts (f p.0 p.1) l (k p.0 p.1)
  leaves_and ts (Err p) f l k = l

  pub gone_or : {A B : Type 0} (C : A → List Token → Type 0) (D : B → List Token → Type 0) (o : Outcome A) (f : A → Reader B) → GoneOrStays C o → ((a : A) (rest : List Token) → Leaves rest (f a rest)) → ((a : A) (rest : List Token) → C a rest → GoneOrStays D (f a rest)) → GoneOrStays D (and_then o f)
  gone_or C D o f (inl gone) l st = inl (gone_then L t s v (at_place L t s v stand) o f gone l)
  gone_or C D (Ok p) f (inr d) l st = st p.0 p.1 d
  gone_or C D (Err p) f (inr d) l st = absurd d

  then_by : {A B : Type 0} (C : A → List Token → Type 0) (D : B → List Token → Type 0) (o other : Outcome A) (f g : A → Reader B) → NearOrStays C o other → ((a : A) → E D (f a) (g a)) → ((a : A) (rest : List Token) → C a rest → GoneOrStays D (f a rest)) → NearOrStays D (and_then o f) (and_then other g)
  then_by C D o other f g (inl (inl gone)) k st = inl (inl (gone_then L t s v (at_place L t s v stand) o f gone (λ a rest. (k a).leaves rest)))
  then_by {A = A} C D (Ok p) other f g (inl (inr n)) k st = subst (λ (x : Outcome A). NearOrStays D (f p.0 p.1) (and_then x g)) (sym n.1) ((k p.0).near p.1 n.0 n.2)
  then_by {A = A} C D (Err p) other f g (inl (inr n)) k st = inl (inr (n.0, n.1, ap (λ (x : Outcome A). and_then x g) n.2, n.3))
  then_by C D (Ok p) other f g (inr n) k st = lift D (f p.0 p.1) (and_then other g) (st p.0 p.1 n)
  then_by C D (Err p) other f g (inr n) k st = absurd n

  pub stays_then : {A B : Type 0} (C : A → List Token → Type 0) (D : B → List Token → Type 0) {p q : Reader A} {f g : A → Reader B} → E C p q → ((a : A) → E D (f a) (g a)) → ((a : A) (rest : List Token) → C a rest → GoneOrStays D (f a rest)) → E D (λ ts. and_then (p ts) f) (λ ts. and_then (q ts) g)
  stays_then C D {p = p} {q = q} {f = f} {g = g} h k st = record {
    leaves = λ ts. leaves_and ts (p ts) f (h.leaves ts) (λ a rest. (k a).leaves rest);
    near = λ ts us al. then_by C D (p ts) (q us) f g (h.near ts us al) k st;
  }

  pub stays_made : {A B : Type 0} (C : A → List Token → Type 0) (D : B → List Token → Type 0) {p q : Reader A} (f : A → B) → E C p q → ((a : A) (rest : List Token) → C a rest → D (f a) rest) → E D (λ ts. and_then (p ts) (λ a. pure (f a))) (λ ts. and_then (q ts) (λ a. pure (f a)))
  stays_made C D f h k = stays_then C D h (λ a. weak D (given L t s v stand (f a))) (λ a rest c. inr (k a rest c))

  -- what follows takes the place's token
  close_by : {A B : Type 0} (C : A → List Token → Type 0) (o other : Outcome A) (f g : A → Reader B) → NearOrStays C o other → ((a : A) → T L t s v stand (f a) (g a)) → ((a : A) (rest : List Token) → C a rest → Gone L t s v (at_place L t s v stand) (f a rest)) → Near L t s v (at_place L t s v stand) (and_then o f) (and_then other g)
  close_by C o other f g (inl (inl gone)) k st = inl (gone_then L t s v (at_place L t s v stand) o f gone (λ a rest. (k a).leaves rest))
  close_by {A = A} C (Ok p) other f g (inl (inr n)) k st = subst (λ (x : Outcome A). Near L t s v (at_place L t s v stand) (f p.0 p.1) (and_then x g)) (sym n.1) ((k p.0).near p.1 n.0 n.2)
  close_by {A = A} C (Err p) other f g (inl (inr n)) k st = inr (n.0, n.1, ap (λ (x : Outcome A). and_then x g) n.2, n.3)
  close_by C (Ok p) other f g (inr n) k st = inl (st p.0 p.1 n)
  close_by C (Err p) other f g (inr n) k st = absurd n

  pub closing : {A B : Type 0} (C : A → List Token → Type 0) {p q : Reader A} {f g : A → Reader B} → E C p q → ((a : A) → T L t s v stand (f a) (g a)) → ((a : A) (rest : List Token) → C a rest → Gone L t s v (at_place L t s v stand) (f a rest)) → T L t s v stand (λ ts. and_then (p ts) f) (λ ts. and_then (q ts) g)
  closing C {p = p} {q = q} {f = f} {g = g} h k st = record {
    leaves = λ ts. leaves_and ts (p ts) f (h.leaves ts) (λ a rest. (k a).leaves rest);
    near = λ ts us al. close_by C (p ts) (q us) f g (h.near ts us al) k st;
  }

  -- before a reading that may stop so
  before_by : {A B : Type 0} (D : B → List Token → Type 0) (o other : Outcome A) (f g : A → Reader B) → Near L t s v (at_place L t s v stand) o other → ((a : A) → E D (f a) (g a)) → NearOrStays D (and_then o f) (and_then other g)
  before_by D o other f g (inl gone) k = inl (inl (gone_then L t s v (at_place L t s v stand) o f gone (λ a rest. (k a).leaves rest)))
  before_by {A = A} D (Ok p) other f g (inr n) k = subst (λ (x : Outcome A). NearOrStays D (f p.0 p.1) (and_then x g)) (sym n.1) ((k p.0).near p.1 n.0 n.2)
  before_by {A = A} D (Err p) other f g (inr n) k = inl (inr (n.0, n.1, ap (λ (x : Outcome A). and_then x g) n.2, n.3))

  pub before : {A B : Type 0} (D : B → List Token → Type 0) {p q : Reader A} {f g : A → Reader B} → T L t s v stand p q → ((a : A) → E D (f a) (g a)) → E D (λ ts. and_then (p ts) f) (λ ts. and_then (q ts) g)
  before D {p = p} {q = q} {f = f} {g = g} h k = record {
    leaves = λ ts. leaves_and ts (p ts) f (h.leaves ts) (λ a rest. (k a).leaves rest);
    near = λ ts us al. before_by D (p ts) (q us) f g (h.near ts us al) k;
  }

  pub gone_close : {A B : Type 0} (C : A → List Token → Type 0) (o : Outcome A) (f : A → Reader B) → GoneOrStays C o → ((a : A) (rest : List Token) → Leaves rest (f a rest)) → ((a : A) (rest : List Token) → C a rest → Gone L t s v (at_place L t s v stand) (f a rest)) → Gone L t s v (at_place L t s v stand) (and_then o f)
  gone_close C o f (inl gone) l k = gone_then L t s v (at_place L t s v stand) o f gone l
  gone_close C (Ok p) f (inr d) l k = k p.0 p.1 d
  gone_close C (Err p) f (inr d) l k = absurd d

  next_near : {A : Type 0} (C : A → List Token → Type 0) (p q : Reader A) → E C p q → (ts us : List Token) → Both L t s v stand ts us → NearOrStays C (p (next ts)) (q (next us))
  unfolding next
  next_near C p q h ts us here = inl (inl (past L t s v (at_place L t s v stand) s (p s) (omega arith) (h.leaves s)))
  next_near C p q h ts us (there x a b al) = h.near a b al

  leaves_next : {A : Type 0} (p : Reader A) → ((ts : List Token) → Leaves ts (p ts)) → (ts : List Token) → Leaves ts (p (next ts))
  unfolding next
  leaves_next p l [] = l []
  leaves_next p l (x ∷ ts) = further ts (x ∷ ts) (p ts) (record { front = x ∷ []; is = refl }) (l ts)

  pub stays_behind : {A : Type 0} (C : A → List Token → Type 0) {p q : Reader A} → E C p q → E C (λ ts. p (next ts)) (λ ts. q (next ts))
  stays_behind C {p = p} {q = q} h = record { leaves = leaves_next p h.leaves; near = next_near C p q h }

  pub stays_eaten : {A : Type 0} (C : A → List Token → Type 0) {p q : Reader A} → E C p q → Gone L t s v (at_place L t s v stand) (p (next (t ∷ s)))
  unfolding next
  stays_eaten C {p = p} h = past L t s v (at_place L t s v stand) s (p s) (omega arith) (h.leaves s)

  pub stays_if : {A : Type 0} (C : A → List Token → Type 0) (b : Bool) (p q p' q' : Reader A) → E C p p' → E C q q' → E C (λ ts. if b then p ts else q ts) (λ ts. if b then p' ts else q' ts)
  stays_if C true p q p' q' g h = g
  stays_if C false p q p' q' g h = h

  see_stays : {A : Type 0} (C : A → List Token → Type 0) (g h : Option Token → Reader A) → Stand L t v → ((o : Option Token) → E C (g o) (h o)) → ((odd : Odd L t v) → NearOrStays C (g (Some t) (t ∷ s)) (h (Some odd.u) v)) → (ts us : List Token) → Both L t s v stand ts us → NearOrStays C (g (first ts) ts) (h (first us) us)
  unfolding first
  see_stays C g h (inl same) k at ts us here = subst (λ (o : Option Token). NearOrStays C (g (Some t) (t ∷ s)) (h o v)) (sym same) ((k (Some t)).near (t ∷ s) v here)
  see_stays C g h (inr odd) k at ts us here = subst (λ (o : Option Token). NearOrStays C (g (Some t) (t ∷ s)) (h o v)) (sym odd.is) (at odd)
  see_stays C g h stand k at ts us (there x a b al) = (k (Some x)).near (x ∷ a) (x ∷ b) (there x a b al)

  pub stays_seen : {A : Type 0} (C : A → List Token → Type 0) (g h : Option Token → Reader A) → ((o : Option Token) → E C (g o) (h o)) → ((odd : Odd L t v) → NearOrStays C (g (Some t) (t ∷ s)) (h (Some odd.u) v)) → E C (λ ts. g (first ts) ts) (λ ts. h (first ts) ts)
  stays_seen C g h k at = record { leaves = λ ts. (k (first ts)).leaves ts; near = see_stays C g h stand k at }

  odd_stays : {A : Type 0} (C : A → List Token → Type 0) (b c : Bool) (p q p' q' : Reader A) → c ≡ false → Gone L t s v (at_place L t s v stand) (p (t ∷ s)) → E C q q' → NearOrStays C (if b then p (t ∷ s) else q (t ∷ s)) (if c then p' v else q' v)
  odd_stays C true c p q p' q' is gone h = inl (inl gone)
  odd_stays C false c p q p' q' is gone h = rw is (h.near (t ∷ s) v here)

  word_by : {A : Type 0} (D : A → List Token → Type 0) (b : Bool) (o other : Outcome A) → Gone L t s v (at_place L t s v stand) o → (b ≡ false → GoneOrStays D other) → GoneOrStays D (if b then o else other)
  word_by D true o other gone k = inl gone
  word_by D false o other gone k = k refl

  -- the reading stops right before the place, where an end would do
  abbrev pub Rests : {A : Type 0} → A → List Token → Type 0
  Rests a rest = Ends L × (rest ≡ t ∷ s)

  -- the place comes next, or an End before it
  abbrev pub Left : List Token → Type 0
  Left rest = (rest ≡ t ∷ s) ⊎ ((x : Token) × (rest ≡ x ∷ (t ∷ s)) × (is_word w.KwEnd x.kind ≡ true))

  -- what closes a block comes next
  abbrev pub Closes : Closer → {A : Type 0} → A → List Token → Type 0
  Closes closer a rest = Left rest × (closed closer rest ≡ true)

  -- a word that is taken
  pub stays_test : {A : Type 0} (C : A → List Token → Type 0) (which : Word) → is_odd_word which ≡ false → {p q p' q' : Reader A} → Eats L t s v stand p p' → E C q q' → E C (λ ts. if sees_word which ts then p ts else q ts) (λ ts. if sees_word which ts then p' ts else q' ts)
  unfolding sees_word
  stays_test C which plain {p = p} {q = q} {p' = p'} {q' = q'} g h =
      stays_seen C (λ o ts. if holds (is_word which) o then p ts else q ts) (λ o ts. if holds (is_word which) o then p' ts else q' ts) (λ o. stays_if C (holds (is_word which) o) p q p' q' (weak C g.twin) h)
      (λ odd. odd_stays C (is_word which t.kind) (is_word which odd.u.kind) p q p' q' (other_word which plain odd) g.gone h)

  sep_stays : {A : Type 0} (C : A → List Token → Type 0) (line : InLine) (p q p' q' : Reader A) → Gone L t s v (at_place L t s v stand) (p (t ∷ s)) → E C q q' → (Ends L → GoneOrStays C (q (t ∷ s))) → (u : Token) → Refused L t u ⊎ EndThere L u
      → NearOrStays C (if is_sep line t.kind then p (t ∷ s) else q (t ∷ s)) (if is_sep line u.kind then p' v else q' v)
  sep_stays C line p q p' q' gone h k u (inl r) = rw (refused_sep line t.kind r.word, odd_sep line u.kind r.odd) (h.near (t ∷ s) v here)
  sep_stays C line p q p' q' gone h k u (inr e) = lift C (if is_sep line t.kind then p (t ∷ s) else q (t ∷ s)) (if is_sep line u.kind then p' v else q' v) (word_by C (is_sep line t.kind) (p (t ∷ s)) (q (t ∷ s)) gone (λ is. k e.ends))

  -- an end of a statement, or what is told or read where one would do
  pub stays_at_sep : {A : Type 0} (C : A → List Token → Type 0) (line : InLine) {p q p' q' : Reader A} → E C p p' → Gone L t s v (at_place L t s v stand) (p (t ∷ s)) → E C q q' → (Ends L → GoneOrStays C (q (t ∷ s))) → E C (λ ts. if sees_sep line ts then p ts else q ts) (λ ts. if sees_sep line ts then p' ts else q' ts)
  unfolding sees_sep
  stays_at_sep C line {p = p} {q = q} {p' = p'} {q' = q'} g gone h k =
      stays_seen C (λ o ts. if holds (is_sep line) o then p ts else q ts) (λ o ts. if holds (is_sep line) o then p' ts else q' ts) (λ o. stays_if C (holds (is_sep line) o) p q p' q' g h)
      (λ odd. sep_stays C line p q p' q' gone h k odd.u odd.why)

  -- behind a word, with its place
  pub stays_word : {A : Type 0} (C : A → List Token → Type 0) (which : Word) → is_odd_word which ≡ false → {p p' : Span → Reader A} {q q' : Reader A} → ((at : Span) → E C (p at) (p' at)) → E C q q'
      → E C (λ ts. if sees_word which ts then p (place_at ts) (next ts) else q ts) (λ ts. if sees_word which ts then p' (place_at ts) (next ts) else q' ts)
  unfolding sees_word place_at
  stays_word C which plain {p = p} {p' = p'} {q = q} {q' = q'} h k =
      stays_seen C (λ o ts. if holds (is_word which) o then p (place_or origin o) (next ts) else q ts) (λ o ts. if holds (is_word which) o then p' (place_or origin o) (next ts) else q' ts)
      (λ o. stays_if C (holds (is_word which) o) _ _ _ _ (stays_behind C (h (place_or origin o))) k)
      (λ odd. odd_stays C (is_word which t.kind) (is_word which odd.u.kind) (λ ts. p t.at (next ts)) q (λ ts. p' odd.u.at (next ts)) q' (other_word which plain odd) (stays_eaten C (h t.at)) k)

  -- where the word stands it is taken
  pub word_gone : {A : Type 0} (C : A → List Token → Type 0) (D : A → List Token → Type 0) (which : Word) {p p' : Span → Reader A} (q : Reader A) → ((at : Span) → E C (p at) (p' at)) → (is_word which t.kind ≡ false → GoneOrStays D (q (t ∷ s)))
      → GoneOrStays D (if sees_word which (t ∷ s) then p (place_at (t ∷ s)) (next (t ∷ s)) else q (t ∷ s))
  unfolding sees_word place_at first
  word_gone C D which {p = p} q h other = word_by D (is_word which t.kind) (p t.at (next (t ∷ s))) (q (t ∷ s)) (stays_eaten C (h t.at)) other

  pub twin_at_word : {A : Type 0} (which : Word) → is_odd_word which ≡ false → {p p' : Span → Reader A} {q q' : Reader A} → ((at : Span) → T L t s v stand (p at) (p' at)) → T L t s v stand q q'
      → T L t s v stand (λ ts. if sees_word which ts then p (place_at ts) (next ts) else q ts) (λ ts. if sees_word which ts then p' (place_at ts) (next ts) else q' ts)
  unfolding sees_word place_at
  twin_at_word which plain {p = p} {p' = p'} {q = q} {q' = q'} h k =
      seen L t s v stand (λ o ts. if holds (is_word which) o then p (place_or origin o) (next ts) else q ts) (λ o ts. if holds (is_word which) o then p' (place_or origin o) (next ts) else q' ts)
      (λ o. twin_test L t s v (at_place L t s v stand) (holds (is_word which) o) _ _ _ _ ((behind L t s v stand (h (place_or origin o))).twin) k)
      (λ odd. odd_test L t s v stand (is_word which t.kind) (is_word which odd.u.kind) (λ ts. p t.at (next ts)) q (λ ts. p' odd.u.at (next ts)) q' (other_word which plain odd) ((behind L t s v stand (h t.at)).gone) k)

  -- what follows only where something holds of the tokens
  module _ {A B : Type 0} (C : A → List Token → Type 0) (D : B → List Token → Type 0) (P : List Token → Type 0) (f g : A → Reader B) (l : (a : A) (rest : List Token) → Leaves rest (f a rest))
      (k : (a : A) (rest r : List Token) → P rest → Both L t s v stand rest r → NearOrStays D (f a rest) (g a r)) (st : (a : A) (rest : List Token) → C a rest → GoneOrStays D (f a rest)) where
    where_by : (o other : Outcome A) → NearOrStays C o other → Done (λ (a : A) rest. P rest) o → NearOrStays D (and_then o f) (and_then other g)
    where_by o other (inl (inl gone)) d = inl (inl (gone_then L t s v (at_place L t s v stand) o f gone l))
    where_by (Ok p) other (inl (inr n)) d = subst (λ (x : Outcome A). NearOrStays D (f p.0 p.1) (and_then x g)) (sym n.1) (k p.0 p.1 n.0 d n.2)
    where_by (Err p) other (inl (inr n)) d = inl (inr (n.0, n.1, ap (λ (x : Outcome A). and_then x g) n.2, n.3))
    where_by (Ok p) other (inr n) d = lift D (f p.0 p.1) (and_then other g) (st p.0 p.1 n)
    where_by (Err p) other (inr n) d = absurd n

    pub stays_where : {p q : Reader A} → E C p q → ((ts : List Token) → Done (λ (a : A) rest. P rest) (p ts)) → E D (λ ts. and_then (p ts) f) (λ ts. and_then (q ts) g)
    stays_where {p = p} {q = q} h d = record { leaves = λ ts. leaves_and ts (p ts) f (h.leaves ts) l; near = λ ts us al. where_by (p ts) (q us) (h.near ts us al) (d ts) }

  -- ---- turns

  -- a turn that is the last one, and takes nothing
  abbrev pub Last : {S : Type 0} → (S → List Token → Type 0) → Outcome (S × Bool) → Type 0
  Last C (Ok p) = (p.0.1 ≡ false) × C p.0.0 p.1
  Last C (Err p) = ⊥

  module _ {S : Type 0} (C : S → List Token → Type 0) (D : S × Bool → List Token → Type 0) (turn turn' : Turn S) (one : Shortens turn) (k : (found : S) → E D (turn found) (turn' found))
      (ends : (x : S) (rest : List Token) → D (x, false) rest → C x rest) (st : (x : S) (rest : List Token) → D (x, true) rest → Gone L t s v (at_place L t s v stand) (turn x rest) ⊎ Last C (turn x rest)) where
    abbrev pub more : Turn S → ℕ → S × Bool → Reader S
    more f n p = if p.1 then repeat f n p.0 else pure p.0

    more_leaves : (b : Bool) (n : ℕ) (x : S) (rest : List Token) → Leaves rest (repeat turn n x rest) → Leaves rest ((if b then repeat turn n x else pure x) rest)
    more_leaves true n x rest l = l
    more_leaves false n x rest l = same_end rest

    repeat_leaves : (n : ℕ) (found : S) (ts : List Token) → Leaves ts (repeat turn n found ts)
    unfolding repeat
    repeat_leaves zero found ts = same_end ts
    repeat_leaves (suc n) found ts = leaves_and ts (turn found ts) (more turn n) ((k found).leaves ts) (λ p rest. more_leaves p.1 n p.0 rest (repeat_leaves n p.0 rest))

    last_by : (n : ℕ) (rest : List Token) (o : Outcome (S × Bool)) → Gone L t s v (at_place L t s v stand) o ⊎ Last C o → GoneOrStays C (and_then o (more turn n))
    last_by n rest o (inl gone) = inl (gone_then L t s v (at_place L t s v stand) o (more turn n) gone (λ p r. more_leaves p.1 n p.0 r (repeat_leaves n p.0 r)))
    last_by n rest (Ok p) (inr d) = rw d.0 (inr d.1)
    last_by n rest (Err p) (inr d) = absurd d

    pub repeat_stays : (n : ℕ) (found : S) (rest : List Token) → length rest < n → Gone L t s v (at_place L t s v stand) (turn found rest) ⊎ Last C (turn found rest) → GoneOrStays C (repeat turn n found rest)
    unfolding repeat
    repeat_stays zero found rest few d = absurd (omega arith)
    repeat_stays (suc n) found rest few d = last_by n rest (turn found rest) d

    stays_more : (n : ℕ) (b : Bool) (x : S) (rest : List Token) (other : Outcome S) → D (x, b) rest → (b ≡ true → length rest < n) → NearOrStays C ((if b then repeat turn n x else pure x) rest) other
    stays_more n true x rest other d few = lift C (repeat turn n x rest) other (repeat_stays n x rest (few refl) (st x rest d))
    stays_more n false x rest other d few = inr (ends x rest d)

    same_more : (n : ℕ) (b : Bool) (x : S) (rest r : List Token) → Both L t s v stand rest r → (b ≡ true → NearOrStays C (repeat turn n x rest) (repeat turn' n x r)) → NearOrStays C ((if b then repeat turn n x else pure x) rest) ((if b then repeat turn' n x else pure x) r)
    same_more n true x rest r al again = again refl
    same_more n false x rest r al again = inl (inr (r, refl, al))

    turn_by : (n : ℕ) (ts us : List Token) (o other : Outcome (S × Bool)) → NearOrStays D o other → Done (λ p rest. p.1 ≡ true → length rest < length ts) o → length ts < suc n
        → ((x : S) (rest r : List Token) → length rest < n → Both L t s v stand rest r → NearOrStays C (repeat turn n x rest) (repeat turn' n x r))
        → NearOrStays C (and_then o (more turn n)) (and_then other (more turn' n))
    turn_by n ts us o other (inl (inl gone)) less few again = inl (inl (gone_then L t s v (at_place L t s v stand) o (more turn n) gone (λ p rest. more_leaves p.1 n p.0 rest (repeat_leaves n p.0 rest))))
    turn_by n ts us (Ok p) other (inl (inr m)) less few again =
        subst (λ (x : Outcome (S × Bool)). NearOrStays C (more turn n p.0 p.1) (and_then x (more turn' n))) (sym m.1)
        (same_more n p.0.1 p.0.0 p.1 m.0 m.2 (λ is. let l = less is in again p.0.0 p.1 m.0 (omega arith) m.2))
    turn_by n ts us (Err p) other (inl (inr m)) less few again = inl (inr (m.0, m.1, ap (λ (x : Outcome (S × Bool)). and_then x (more turn' n)) m.2, m.3))
    turn_by n ts us (Ok p) other (inr d) less few again = stays_more n p.0.1 p.0.0 p.1 (and_then other (more turn' n)) d (λ is. let l = less is in omega arith)
    turn_by n ts us (Err p) other (inr d) less few again = absurd d

    repeat_near : (n : ℕ) (found : S) (ts us : List Token) → length ts < n → Both L t s v stand ts us → NearOrStays C (repeat turn n found ts) (repeat turn' n found us)
    unfolding repeat
    repeat_near zero found ts us few al = absurd (omega arith)
    repeat_near (suc n) found ts us few al = turn_by n ts us (turn found ts) (turn' found us) ((k found).near ts us al) (one.less found ts) few (λ x rest r less after. repeat_near n x rest r less after)

    pub stays_all : Shortens turn' → (found : S) → E C (all_of turn found) (all_of turn' found)
    stays_all other found = record {
      leaves = λ ts. repeat_leaves (length ts + 1) found ts;
      near = λ ts us al.
          let n = length ts + length us + 1 in
          let a = repeat_turns turn one (length ts + 1) n found ts (omega arith) (omega arith) in
          let b = repeat_turns turn' other (length us + 1) n found us (omega arith) (omega arith) in
          rw (a, b) (repeat_near n found ts us (omega arith) al);
    }

    pub all_stays : (found : S) (rest : List Token) → Gone L t s v (at_place L t s v stand) (turn found rest) ⊎ Last C (turn found rest) → GoneOrStays C (all_of turn found rest)
    all_stays found rest d = repeat_stays (length rest + 1) found rest (omega arith) d

  -- ---- what is made of the tokens before and behind, too

  -- the list begins with the same token as the other one, or before the place, or an end stands at the place
  abbrev pub Apart : List Token → Type 0
  Apart ts = (first v ≡ Some t) ⊎ (suc (length s) < length ts) ⊎ Ends L

  first_long : (rest r : List Token) → suc (length s) < length rest → Both L t s v stand rest r → first r ≡ first rest
  unfolding first
  first_long rest r long here = absurd (omega arith)
  first_long rest r long (there x a b al) = refl

  first_ends : (rest r : List Token) → Ends L → Both L t s v stand rest r → (first r ≡ first rest) ⊎ Ends L × (rest ≡ t ∷ s)
  unfolding first
  first_ends rest r ends here = inr (ends, refl)
  first_ends rest r ends (there x a b al) = inl refl

  -- where nothing was taken, the next token is the same
  pub first_apart : (ts rest r : List Token) → Apart ts → Both L t s v stand rest r → (ts ≡ rest → first r ≡ first rest) ⊎ Ends L × (rest ≡ t ∷ s)
  first_apart ts rest r (inl same) al = inl (λ is. first_same L t s v stand same rest r al)
  first_apart ts rest r (inr (inl long)) al = inl (λ is. first_long rest r (subst (λ (xs : List Token). suc (length s) < length xs) is long) al)
  first_apart ts rest r (inr (inr ends)) al = elim (first_ends rest r ends al) [ inl is ↦ inl (λ none. is) | inr over ↦ inr over ]

  module _ {A B : Type 0} (f : List Token → A → List Token → B)
      (alike_made : (ts us : List Token) (a : A) (rest r : List Token) → Apart ts → Taken L t s v stand ts us rest r → Both L t s v stand rest r → (f us a r ≡ f ts a rest) ⊎ Ends L × (rest ≡ t ∷ s)) where
    placed_by : (ts us : List Token) → Apart ts → Both L t s v stand ts us → (o other : Outcome A) → Leaves ts o → NearOrStays Rests o other → NearOrStays Rests (and_then o (λ a rest. Ok (f ts a rest, rest))) (and_then other (λ a rest. Ok (f us a rest, rest)))
    placed_by ts us apart al (Ok p) other l (inl (inl gone)) = inl (inl gone)
    placed_by ts us apart al (Err p) other l (inl (inl gone)) = inl (inl gone)
    placed_by ts us apart al (Ok p) other l (inl (inr n)) = elim (alike_made ts us p.0 p.1 n.0 apart (taken L t s v stand ts us p.1 n.0 al l n.2) n.2) [
      | inl e ↦ inl (inr (n.0, ap (λ (x : Outcome A). and_then x (λ a rest. Ok (f us a rest, rest))) n.1 ∙ ap (λ (b : B). Ok (b, n.0)) e, n.2))
      | inr d ↦ inr d
    ]
    placed_by ts us apart al (Err p) other l (inl (inr n)) = inl (inr (n.0, n.1, ap (λ (x : Outcome A). and_then x (λ a rest. Ok (f us a rest, rest))) n.2, n.3))
    placed_by ts us apart al (Ok p) other l (inr c) = inr c
    placed_by ts us apart al (Err p) other l (inr c) = absurd c

    leaves_placed : (ts : List Token) (o : Outcome A) → Leaves ts o → Leaves {A = B} ts (and_then o (λ a rest. Ok (f ts a rest, rest)))
    leaves_placed ts (Ok p) l = l
    leaves_placed ts (Err p) l = l

    placed_odd : (p q : Reader A) → E Rests p q → (u : Token) → Refused L t u ⊎ EndThere L u → (Refused L t u → Gone L t s v (at_place L t s v stand) (p (t ∷ s)))
        → NearOrStays Rests (and_then (p (t ∷ s)) (λ a rest. Ok (f (t ∷ s) a rest, rest))) (and_then (q v) (λ a rest. Ok (f v a rest, rest)))
    placed_odd p q h u (inl r) gone = inl (inl (gone_then L t s v (at_place L t s v stand) (p (t ∷ s)) (λ a rest. Ok (f (t ∷ s) a rest, rest)) (gone r) (λ a rest. same_end rest)))
    placed_odd p q h u (inr e) gone = placed_by (t ∷ s) v (inr (inr e.ends)) here (p (t ∷ s)) (q v) (h.leaves (t ∷ s)) (h.near (t ∷ s) v here)

    placed_near : (p q : Reader A) → Stand L t v → E Rests p q → ((u : Token) → Refused L t u → Gone L t s v (at_place L t s v stand) (p (t ∷ s))) → (ts us : List Token) → Both L t s v stand ts us
        → NearOrStays Rests (and_then (p ts) (λ a rest. Ok (f ts a rest, rest))) (and_then (q us) (λ a rest. Ok (f us a rest, rest)))
    placed_near p q (inl same) h gone ts us al = placed_by ts us (inl same) al (p ts) (q us) (h.leaves ts) (h.near ts us al)
    placed_near p q (inr odd) h gone ts us here = placed_odd p q h odd.u odd.why (gone odd.u)
    placed_near p q (inr odd) h gone ts us (there x a b al) =
        let n = alike_long L t s v stand a b al in
        placed_by (x ∷ a) (x ∷ b) (inr (inl (omega arith))) (there x a b al) (p (x ∷ a)) (q (x ∷ b)) (h.leaves (x ∷ a)) (h.near (x ∷ a) (x ∷ b) (there x a b al))

    pub stays_placed : {p q : Reader A} → E Rests p q → ((u : Token) → Refused L t u → Gone L t s v (at_place L t s v stand) (p (t ∷ s))) → E Rests (λ ts. and_then (p ts) (λ a rest. Ok (f ts a rest, rest))) (λ ts. and_then (q ts) (λ a rest. Ok (f ts a rest, rest)))
    stays_placed {p = p} {q = q} h gone = record { leaves = λ ts. leaves_placed ts (p ts) (h.leaves ts); near = placed_near p q stand h gone }

  -- ---- what comes next where a block may end

  abbrev end_two : Word → Option Token → Option Token → Bool
  end_two which o p = if holds (is_word w.KwEnd) o then holds (is_word which) p else false

  abbrev pub closed_two : Closer → Option Token → Option Token → Bool
  closed_two closers.Next o p = holds (is_word w.KwNext) o
  closed_two closers.Wend o p = holds (is_word w.KwWend) o
  closed_two closers.Loop o p = holds (is_word w.KwLoop) o
  closed_two closers.Scope o p = end_two w.KwScope o p
  closed_two closers.Cases o p = if holds (is_word w.KwCase) o then true else end_two w.KwSelect o p
  closed_two closers.Branches o p = if holds (is_word w.KwElseIf) o then true else if holds (is_word w.KwElse) o then true else end_two w.KwIf o p
  closed_two closers.Else o p = end_two w.KwIf o p
  closed_two closers.Sub o p = end_two w.KwSub o p
  closed_two closers.Function o p = end_two w.KwFunction o p
  closed_two closers.Constructor o p = end_two w.KwConstructor o p
  closed_two closers.Destructor o p = end_two w.KwDestructor o p
  closed_two closers.Operator o p = end_two w.KwOperator o p

  pub closed_is : (closer : Closer) (ts : List Token) → closed closer ts ≡ closed_two closer (first ts) (first (next ts))
  unfolding sees_end sees_word
  closed_is closers.Next ts = refl
  closed_is closers.Wend ts = refl
  closed_is closers.Loop ts = refl
  closed_is closers.Scope ts = refl
  closed_is closers.Cases ts = refl
  closed_is closers.Branches ts = refl
  closed_is closers.Else ts = refl
  closed_is closers.Sub ts = refl
  closed_is closers.Function ts = refl
  closed_is closers.Constructor ts = refl
  closed_is closers.Destructor ts = refl
  closed_is closers.Operator ts = refl

  -- where no End comes next one token decides
  pub no_end_two : (closer : Closer) (o p q : Option Token) → holds (is_word w.KwEnd) o ≡ false → closed_two closer o p ≡ closed_two closer o q
  no_end_two closers.Next o p q apart = refl
  no_end_two closers.Wend o p q apart = refl
  no_end_two closers.Loop o p q apart = refl
  no_end_two closers.Scope o p q apart = rw apart refl
  no_end_two closers.Cases o p q apart = rw apart refl
  no_end_two closers.Branches o p q apart = rw apart refl
  no_end_two closers.Else o p q apart = rw apart refl
  no_end_two closers.Sub o p q apart = rw apart refl
  no_end_two closers.Function o p q apart = rw apart refl
  no_end_two closers.Constructor o p q apart = rw apart refl
  no_end_two closers.Destructor o p q apart = rw apart refl
  no_end_two closers.Operator o p q apart = rw apart refl

  -- and where the block isn't ended by End
  pub one_decides : (closer : Closer) (o p q : Option Token) → ends_with_end closer ≡ false → closed_two closer o p ≡ closed_two closer o q
  one_decides closers.Next o p q apart = refl
  one_decides closers.Wend o p q apart = refl
  one_decides closers.Loop o p q apart = refl
  one_decides closer o p q apart = cc

  -- an End, and then an end of a statement
  pub end_unclosed : (closer : Closer) (x u : Token) → is_word w.KwEnd x.kind ≡ true → is_end u.kind ≡ true → closed_two closer (Some x) (Some u) ≡ false
  unfolding same_word
  end_unclosed closers.Next x u is e = ap (is_word w.KwNext) (word_is w.KwEnd x.kind is)
  end_unclosed closers.Wend x u is e = ap (is_word w.KwWend) (word_is w.KwEnd x.kind is)
  end_unclosed closers.Loop x u is e = ap (is_word w.KwLoop) (word_is w.KwEnd x.kind is)
  end_unclosed closers.Scope x u is e = rw (is, by_end (is_word w.KwScope) false refl refl u.kind e) refl
  end_unclosed closers.Cases x u is e = rw (ap (is_word w.KwCase) (word_is w.KwEnd x.kind is), is, by_end (is_word w.KwSelect) false refl refl u.kind e) refl
  end_unclosed closers.Branches x u is e = rw (ap (is_word w.KwElseIf) (word_is w.KwEnd x.kind is), ap (is_word w.KwElse) (word_is w.KwEnd x.kind is), is, by_end (is_word w.KwIf) false refl refl u.kind e) refl
  end_unclosed closers.Else x u is e = rw (is, by_end (is_word w.KwIf) false refl refl u.kind e) refl
  end_unclosed closers.Sub x u is e = rw (is, by_end (is_word w.KwSub) false refl refl u.kind e) refl
  end_unclosed closers.Function x u is e = rw (is, by_end (is_word w.KwFunction) false refl refl u.kind e) refl
  end_unclosed closers.Constructor x u is e = rw (is, by_end (is_word w.KwConstructor) false refl refl u.kind e) refl
  end_unclosed closers.Destructor x u is e = rw (is, by_end (is_word w.KwDestructor) false refl refl u.kind e) refl
  end_unclosed closers.Operator x u is e = rw (is, by_end (is_word w.KwOperator) false refl refl u.kind e) refl

  -- the token behind an End
  pub closed_second : (closer : Closer) (o : Option Token) (a b : List Token) → SameNext L t s v stand a b → closed_two closer o (first b) ≡ closed_two closer o (first a)
  closed_second closers.Next o a b n = refl
  closed_second closers.Wend o a b n = refl
  closed_second closers.Loop o a b n = refl
  closed_second closers.Scope o a b n = rw (n.word w.KwScope refl refl) refl
  closed_second closers.Cases o a b n = rw (n.word w.KwSelect refl refl) refl
  closed_second closers.Branches o a b n = rw (n.word w.KwIf refl refl) refl
  closed_second closers.Else o a b n = rw (n.word w.KwIf refl refl) refl
  closed_second closers.Sub o a b n = rw (n.word w.KwSub refl refl) refl
  closed_second closers.Function o a b n = rw (n.word w.KwFunction refl refl) refl
  closed_second closers.Constructor o a b n = rw (n.word w.KwConstructor refl refl) refl
  closed_second closers.Destructor o a b n = rw (n.word w.KwDestructor refl refl) refl
  closed_second closers.Operator o a b n = rw (n.word w.KwOperator refl refl) refl

-- ---- what a token that stands there is not

zero_later : (room other : ℕ) → room ≤ other → (room == 0) ≡ false → (other == 0) ≡ false
zero_later room other less is = grind (arith, nat_tests)

pub zero_guards : (L : FaultKind → Type 0) (room other : ℕ) → Rooms L room other → ((room == 0) ≡ (other == 0)) ⊎ (L DeepNesting × ((room == 0) ≡ false → (other == 0) ≡ false))
zero_guards L room other (inl is) = inl (ap (λ (n : ℕ). n == 0) is)
zero_guards L room other (inr more) = inr (more.0, zero_later room other more.1)

pub plain_by : (x : Token) → (refusal_by x.kind ≡ Expected) ⊎ ((refusal_by x.kind ≡ OutOfProfile) × (is_refused_kind x.kind ≡ true)) → begins 1 (Some x) ≡ true → refusal_by x.kind ≡ Expected
plain_by x (inl e) is = e
plain_by x (inr r) is =
    let n = nowhere x.kind r.1 in
    let none : begins_operand x.kind ≡ false = ap begins_some (n.start (record { line = 1; col = 1 })) in
    let bad : true ≡ false = sym is ∙ ap (begins_as 1 x) n.prefix ∙ none in
    cc

pub value_too : (us ts : List Token) → first us ≡ first ts → sees_value us ≡ sees_value ts
unfolding sees_value
value_too us ts is = ap (begins 1) is

pub sep_too : (line : InLine) (us ts : List Token) → first us ≡ first ts → sees_sep line us ≡ sees_sep line ts
unfolding sees_sep
sep_too line us ts is = ap (holds (is_sep line)) is

pub end_no_sep : (line : InLine) (kind : TokenKind) → is_word w.KwEnd kind ≡ true → is_sep line kind ≡ false
end_no_sep line kind is = ap (is_sep line) (word_is w.KwEnd kind is)

-- ---- what a word begins that is called

abbrev word_in : CallWord → Lead → CallWord
word_in other (leads.Call which) = which
word_in other lead = other

called_by : (word which : CallWord) (b : Bool) → (if b then leads.Call word else leads.Value) ≡ leads.Call which → word ≡ which
called_by word which true is = ap (word_in word) is
called_by word which false is = cc

call_operand : (o : OperandWord) (which : CallWord) → operand_lead o ≡ leads.Call which → o ≡ operands.Call which
call_operand (operands.Call word) which is = ap operands.Call (called_by word which (gives_nothing word) is)
call_operand o which is = cc

call_word : (word : Word) (which : CallWord) → word_lead word ≡ leads.Call which → operand_word word ≡ operands.Call which
call_word w.KwDim which is = cc
call_word w.KwStatic which is = cc
call_word w.KwConst which is = cc
call_word w.KwFunction which is = cc
call_word w.KwPrint which is = cc
call_word w.KwLine which is = cc
call_word w.KwIf which is = cc
call_word w.KwFor which is = cc
call_word w.KwWhile which is = cc
call_word w.KwDo which is = cc
call_word w.KwSelect which is = cc
call_word w.KwScope which is = cc
call_word w.KwExit which is = cc
call_word w.KwContinue which is = cc
call_word w.KwReturn which is = cc
call_word w.KwDelete which is = cc
call_word w.KwEnd which is = cc
call_word word which is = call_operand (operand_word word) which is

mark_is_none : (mark : Mark) (which : CallWord) → mark_lead mark ≡ leads.Call which → ⊥
mark_is_none Open which is = cc
mark_is_none Star which is = cc
mark_is_none mark which is = cc

static_is : (level : Level) (which : CallWord) → static_at level ≡ leads.Call which → leads.Static ≡ leads.Call which
static_is levels.Procedure which is = cc
static_is levels.Main which is = cc
static_is levels.Module which is = cc

call_allowed : (level : Level) (lead : Lead) (which : CallWord) → allowed level lead ≡ leads.Call which → lead ≡ leads.Call which
call_allowed level leads.Static which is = static_is level which is
call_allowed level lead which is = is

pub call_kind : (level : Level) (kind : TokenKind) (which : CallWord) → lead_of level kind ≡ leads.Call which → (word : Word) × (kind ≡ kinds.Word word) × (operand_word word ≡ operands.Call which)
call_kind level (kinds.Word word) which is = (word, refl, call_word word which (call_allowed level (word_lead word) which is))
call_kind level (kinds.Mark mark) which is = absurd (mark_is_none mark which is)
call_kind level kind which is = cc

-- ---- what a value begins with

abbrev Begun : Token → Type 0
Begun x = (begins 14 (Some x) ≡ true) × (is_mark At x.kind ≡ false) × (is_mark Minus x.kind ≡ false)

operand_begins : (at : Span) (o : OperandWord) → operand_lead o ≡ leads.Value → begins_some (word_start at o) ≡ true
operand_begins at operands.Nothing is = cc
operand_begins at o is = refl

word_begins : (at : Span) (word : Word) → word_lead word ≡ leads.Value → (prefix_of (kinds.Word word) ≡ None) × (begins_some (word_start at (operand_word word)) ≡ true)
word_begins at w.KwDim is = cc
word_begins at w.KwStatic is = cc
word_begins at w.KwConst is = cc
word_begins at w.KwFunction is = cc
word_begins at w.KwPrint is = cc
word_begins at w.KwLine is = cc
word_begins at w.KwIf is = cc
word_begins at w.KwFor is = cc
word_begins at w.KwWhile is = cc
word_begins at w.KwDo is = cc
word_begins at w.KwSelect is = cc
word_begins at w.KwScope is = cc
word_begins at w.KwExit is = cc
word_begins at w.KwContinue is = cc
word_begins at w.KwReturn is = cc
word_begins at w.KwDelete is = cc
word_begins at w.KwEnd is = cc
word_begins at w.KwNot is = cc
word_begins at word is = (refl, operand_begins at (operand_word word) is)

static_no_value : (level : Level) → static_at level ≡ leads.Value → ⊥
static_no_value levels.Procedure is = cc
static_no_value levels.Main is = cc
static_no_value levels.Module is = cc

value_allowed : (level : Level) (lead : Lead) → allowed level lead ≡ leads.Value → lead ≡ leads.Value
value_allowed level leads.Static is = absurd (static_no_value level is)
value_allowed level lead is = is

word_begun : (x : Token) (word : Word) → x.kind ≡ kinds.Word word → word_lead word ≡ leads.Value → Begun x
word_begun x word kind is =
    let b = word_begins (record { line = 1; col = 1 }) word is in
    (rw (kind, b.0) b.1, ap (is_mark At) kind, ap (is_mark Minus) kind)

mark_begun : (x : Token) (mark : Mark) → x.kind ≡ kinds.Mark mark → mark_lead mark ≡ leads.Value → Begun x
unfolding same_mark
mark_begun x Open kind is = (rw kind refl, ap (is_mark At) kind, ap (is_mark Minus) kind)
mark_begun x Star kind is = (rw kind refl, ap (is_mark At) kind, ap (is_mark Minus) kind)
mark_begun x mark kind is = cc

begun_by : (level : Level) (x : Token) (kind : TokenKind) → x.kind ≡ kind → lead_of level kind ≡ leads.Value → Begun x
begun_by level x (kinds.Name text) e is = (rw e refl, ap (is_mark At) e, ap (is_mark Minus) e)
begun_by level x (kinds.Number value) e is = (rw e refl, ap (is_mark At) e, ap (is_mark Minus) e)
begun_by level x (kinds.Str text) e is = (rw e refl, ap (is_mark At) e, ap (is_mark Minus) e)
begun_by level x (kinds.Mark mark) e is = mark_begun x mark e is
begun_by level x (kinds.Word word) e is = word_begun x word e (value_allowed level (word_lead word) is)
begun_by level x kinds.Colon e is = cc
begun_by level x kinds.LineEnd e is = cc

pub value_begins : (level : Level) (x : Token) → lead_of level x.kind ≡ leads.Value → Begun x
value_begins level x is = begun_by level x x.kind refl is

-- ---- turns that take a token

abbrev pub Less : {S : Type 0} → List Token → S × Bool → List Token → Type 0
Less ts q rest = q.1 ≡ true → length rest < length ts

pub shortens_block : (most : ℕ) (inner : Spot → Reader Stmt) (room : ℕ) → ((spot : Spot) (ts : List Token) → Done (λ (x : Stmt) rest. Suffixes rest ts) (inner spot ts)) → (level : Level) (line : InLine) (closer : Closer)
    → Shortens (block_turn most inner room level line closer)
unfolding block_turn block_stmt ended sep deep_end
shortens_block most inner room leaves level line closer = record {
  less = λ found ts.
      by_test (λ (o : Outcome (List Stmt × Bool)). Done (Less ts) o) (sees_sep line ts) _ _ (λ is more. sep_less line ts is)
      (λ apart. by_test (λ (o : Outcome (List Stmt × Bool)). Done (Less ts) o) (closed closer ts) _ _ (λ is more. cc)
      (λ open_. bind (λ (x : Stmt) rest. Suffixes rest ts) (Less ts) (block_stmt most inner room level line closer ts) (ended most inner room line found)
      (by_test (λ (o : Outcome Stmt). Done (λ (x : Stmt) rest. Suffixes rest ts) o) (end_is_deep most inner room closer ts) (deep_end line ts) (inner (record { level = level; line = line; other = ExtraText }) ts) (λ is. tt) (λ is. leaves (record { level = level; line = line; other = ExtraText }) ts))
      (λ x rest l. by_test (λ (o : Outcome (Unit {0})). Done (Less ts) (and_then o (λ u. pure (found ++ x ∷ [], true)))) (sees_sep line rest) _ _
      (λ is more. let n = no_longer l in let m = sep_less line rest is in omega arith) (λ is. tt))));
}

pub shortens_series : (most : ℕ) (inner : Spot → Reader Stmt) (room : ℕ) → ((spot : Spot) (ts : List Token) → Done (λ (x : Stmt) rest. Suffixes rest ts) (inner spot ts)) → (level : Level) → Shortens (series_turn most inner room level)
unfolding series_turn
shortens_series most inner room leaves level = record {
  less = λ found ts.
      by_test (λ (o : Outcome (List Stmt × Bool)). Done (Less ts) o) (sees_sep lines.Series ts) _ _
      (λ is. bind (λ (x : Stmt) rest. Suffixes rest (next ts)) (Less ts) (inner (record { level = level; line = lines.Series; other = Expected }) (next ts)) _ (leaves (record { level = level; line = lines.Series; other = Expected }) (next ts))
      (λ x rest l more. let n = no_longer l in let m = sep_less lines.Series ts is in omega arith))
      (λ is more. cc);
}

pub shortens_word : {A : Type 0} (which : Word) (p : Span → Reader A) → ((at : Span) (ts : List Token) → Done (λ (a : A) rest. Suffixes rest ts) (p at ts))
    → Shortens (λ (found : List A). λ ts. if sees_word which ts then and_then (p (place_at ts) (next ts)) (λ b. pure (found ++ b ∷ [], true)) else Ok ((found, false), ts))
shortens_word {A = A} which p leaves = record {
  less = λ found ts.
      by_test (λ (o : Outcome (List A × Bool)). Done (Less ts) o) (sees_word which ts) _ _
      (λ is. bind (λ (a : A) rest. Suffixes rest (next ts)) (Less ts) (p (place_at ts) (next ts)) _ (leaves (place_at ts) (next ts))
      (λ a rest l more. let n = no_longer l in let m = word_less which ts is in omega arith))
      (λ is more. cc);
}
