-- Readers that read exactly what a phrase says, where what comes next ends it.
use Rattle.std.proofs.Common.{◌≡◌, Bool, true, false, if◌then◌else◌, List, [], ◌∷◌, Option, Some, None, Ok, refl, sym, ap, ◌∙◌, subst, inl, inr}
use Rattle.fb_lexer.specs.declared.token.Token.{Token}
use Rattle.fb_lexer.specs.declared.token.TokenKind.{TokenKind}
use Rattle.parse_expr.specs.Reading.{next, Reader, Outcome, and_then, pure}
use Rattle.parse_expr.proofs.Sound.{Done, bind, by_test, map_done}
pub use Rattle.parse_expr.proofs.Ends.{Suffixes, same_end, end_of_end}
use Rattle.parse_stmt.specs.Phrases.{Phrase, gives, Then, either, taken}

-- what comes next
abbrev pub next_kind : List Token → Option TokenKind
next_kind [] = None
next_kind (t ∷ ts) = Some t.kind

-- a test of what comes next
abbrev pub Follow : Type 0
Follow = Option TokenKind → Bool

abbrev pub always : Follow
always o = true

-- ---- ends of lists of tokens

pub leave_next : (ts : List Token) → Suffixes (next ts) ts
unfolding next
leave_next [] = same_end []
leave_next (t ∷ ts) = record { front = t ∷ []; is = refl }

-- ---- exact readers

-- What is read is the phrase; and where the phrase stands and what comes behind it ends it, it is read. A phrase leaves
-- an end of the tokens.
pub record Exact {A : Type 0} (p : Reader A) (P : Phrase A) (F : Follow) : Type 0 where
  pub sound : (ts : List Token) → Done (P ts) (p ts)
  pub finds : (ts : List Token) (a : A) (rest : List Token) → P ts a rest → F (next_kind rest) ≡ true → p ts ≡ Ok (a, rest)
  pub within : (ts : List Token) (a : A) (rest : List Token) → P ts a rest → Suffixes rest ts

-- If G holds of what comes behind the phrase, F holds of what the phrase begins with, or of what comes behind it.
abbrev pub Starts : {A : Type 0} → Phrase A → Follow → Follow → Type 0
Starts {A = A} P G F = (ts : List Token) (a : A) (rest : List Token) → P ts a rest → G (next_kind rest) ≡ true → F (next_kind ts) ≡ true

pub exact_pure : {A : Type 0} (a : A) → Exact (pure a) (gives a) always
exact_pure a = record {
  sound = λ ts. (refl, refl);
  finds = λ ts b rest p f. ap Ok (rw (sym p.0, sym p.1) refl);
  within = λ ts b rest p. rw p.1 (same_end ts);
}

pub exact_then : {A B : Type 0} {p : Reader A} {P : Phrase A} {F : Follow} {k : A → Reader B} {K : A → Phrase B} {G : Follow}
    → Exact p P F → ((a : A) → Exact (k a) (K a) G) → ((a : A) → Starts (K a) G F) → Exact (λ ts. and_then (p ts) k) (Then P K) G
exact_then {A = A} {B = B} {p = p} {P = P} {k = k} {K = K} one other starts = record {
  sound = λ ts. bind (P ts) (Then P K ts) (p ts) k (one.sound ts) (λ a rest s. map_done (K a rest) (Then P K ts) (k a rest) ((other a).sound rest)
      (λ b end t. record { given = a; between = rest; front = s; back = t }));
  finds = λ ts b rest t f.
      let read = one.finds ts t.given t.between t.front (starts t.given t.between b rest t.back f) in
      ap (λ (o : Outcome A). and_then o k) read ∙ (other t.given).finds t.between b rest t.back f;
  within = λ ts b rest t. end_of_end ((other t.given).within t.between b rest t.back) (one.within ts t.given t.between t.front);
}

pub exact_weaker : {A : Type 0} {p : Reader A} {P : Phrase A} {F G : Follow} → Exact p P F → ((o : Option TokenKind) → G o ≡ true → F o ≡ true) → Exact p P G
exact_weaker e less = record { sound = e.sound; finds = λ ts a rest t f. e.finds ts a rest t (less (next_kind rest) f); within = e.within }

-- a reader that takes a token where it is such
pub exact_taken : (test : List Token → Bool) (other : Reader (Unit {0})) → ((ts : List Token) → Done (taken test ts) (other ts))
    → Exact (λ ts. if test ts then Ok (tt, next ts) else other ts) (taken test) always
exact_taken test other never = record {
  sound = λ ts. by_test (λ (o : Outcome (Unit {0})). Done (taken test ts) o) (test ts) _ _ (λ is. (is, refl)) (λ is. never ts);
  finds = λ ts u rest t f. rw t.0 (ap (λ (r : List Token). Ok (tt, r)) (sym t.1));
  within = λ ts u rest t. rw t.1 (leave_next ts);
}

-- where such a token comes next, one phrase behind it, else another
abbrev pub Behind : {A : Type 0} → (List Token → Bool) → Phrase A → Phrase A → Phrase A
Behind test P Q = either (Then (taken test) (λ (u : Unit {0}). P)) Q

behind_finds : {A : Type 0} (test : List Token → Bool) (p q : Reader A) (P Q : Phrase A) (F : Follow)
    → Exact p P F → Exact q Q F → ((ts : List Token) (a : A) (rest : List Token) → Q ts a rest → F (next_kind rest) ≡ true → test ts ≡ false)
    → (ts : List Token) (a : A) (rest : List Token) → Behind test P Q ts a rest → F (next_kind rest) ≡ true → (if test ts then p (next ts) else q ts) ≡ Ok (a, rest)
behind_finds test p q P Q F one other apart ts a rest (inl t) f = rw t.front.0 (subst (λ (r : List Token). p r ≡ Ok (a, rest)) t.front.1 (one.finds t.between a rest t.back f))
behind_finds test p q P Q F one other apart ts a rest (inr t) f = rw (apart ts a rest t f) (other.finds ts a rest t f)

behind_within : {A : Type 0} (test : List Token → Bool) (p q : Reader A) (P Q : Phrase A) (F : Follow) → Exact p P F → Exact q Q F
    → (ts : List Token) (a : A) (rest : List Token) → Behind test P Q ts a rest → Suffixes rest ts
behind_within test p q P Q F one other ts a rest (inl t) = end_of_end (one.within t.between a rest t.back) (rw t.front.1 (leave_next ts))
behind_within test p q P Q F one other ts a rest (inr t) = other.within ts a rest t

pub exact_behind : {A : Type 0} (test : List Token → Bool) {p q : Reader A} {P Q : Phrase A} {F : Follow}
    → Exact p P F → Exact q Q F → ((ts : List Token) (a : A) (rest : List Token) → Q ts a rest → F (next_kind rest) ≡ true → test ts ≡ false)
    → Exact (λ ts. if test ts then p (next ts) else q ts) (Behind test P Q) F
exact_behind {A = A} test {p = p} {q = q} {P = P} {Q = Q} {F = F} one other apart = record {
  sound = λ ts. by_test (λ (o : Outcome A). Done (Behind test P Q ts) o) (test ts) (p (next ts)) (q ts)
      (λ is. map_done (P (next ts)) (Behind test P Q ts) (p (next ts)) (one.sound (next ts))
      (λ a rest s. inl (record { given = tt; between = next ts; front = (is, refl); back = s })))
      (λ is. map_done (Q ts) (Behind test P Q ts) (q ts) (other.sound ts) (λ a rest s. inr s));
  finds = behind_finds test p q P Q F one other apart;
  within = behind_within test p q P Q F one other;
}

-- where a test holds, one reader, else another
choose_finds : {A : Type 0} (test : List Token → Bool) (p q : Reader A) (P Q : Phrase A) (F : Follow)
    → Exact p P F → Exact q Q F
    → ((ts : List Token) (a : A) (rest : List Token) → P ts a rest → F (next_kind rest) ≡ true → test ts ≡ true)
    → ((ts : List Token) (a : A) (rest : List Token) → Q ts a rest → F (next_kind rest) ≡ true → test ts ≡ false)
    → (ts : List Token) (a : A) (rest : List Token) → either P Q ts a rest → F (next_kind rest) ≡ true → (if test ts then p ts else q ts) ≡ Ok (a, rest)
choose_finds test p q P Q F one other holds apart ts a rest (inl t) f = rw (holds ts a rest t f) (one.finds ts a rest t f)
choose_finds test p q P Q F one other holds apart ts a rest (inr t) f = rw (apart ts a rest t f) (other.finds ts a rest t f)

choose_within : {A : Type 0} (p q : Reader A) (P Q : Phrase A) (F : Follow) → Exact p P F → Exact q Q F
    → (ts : List Token) (a : A) (rest : List Token) → either P Q ts a rest → Suffixes rest ts
choose_within p q P Q F one other ts a rest (inl t) = one.within ts a rest t
choose_within p q P Q F one other ts a rest (inr t) = other.within ts a rest t

pub exact_choose : {A : Type 0} (test : List Token → Bool) {p q : Reader A} {P Q : Phrase A} {F : Follow}
    → Exact p P F → Exact q Q F
    → ((ts : List Token) (a : A) (rest : List Token) → P ts a rest → F (next_kind rest) ≡ true → test ts ≡ true)
    → ((ts : List Token) (a : A) (rest : List Token) → Q ts a rest → F (next_kind rest) ≡ true → test ts ≡ false)
    → Exact (λ ts. if test ts then p ts else q ts) (either P Q) F
exact_choose {A = A} test {p = p} {q = q} {P = P} {Q = Q} {F = F} one other holds apart = record {
  sound = λ ts. by_test (λ (o : Outcome A). Done (either P Q ts) o) (test ts) (p ts) (q ts)
      (λ is. map_done (P ts) (either P Q ts) (p ts) (one.sound ts) (λ a rest s. inl s))
      (λ is. map_done (Q ts) (either P Q ts) (q ts) (other.sound ts) (λ a rest s. inr s));
  finds = choose_finds test p q P Q F one other holds apart;
  within = choose_within p q P Q F one other;
}
