-- Readers that read exactly what a phrase says, where the tokens behind it end it.
use Rattle.std.proofs.Common.{◌≡◌, ◌<◌, ℕ, zero, suc, ◌+◌, Bool, true, false, if◌then◌else◌, List, [], ◌∷◌, ◌++◌, length, Ok, refl, sym, ap, ◌∙◌, subst, inl, inr, arith, append_assoc, append-nil}
use Rattle.fb_base.specs.declared.fault.Span.{Span}
use Rattle.fb_lexer.specs.declared.token.Token.{Token}
use Rattle.parse_expr.specs.Reading.{next, Reader, Outcome, and_then, pure}
use Rattle.parse_expr.proofs.Sound.{Done, bind, by_test, map_done}
use Rattle.parse_expr.proofs.Ends.{Suffixes, no_longer}
use Rattle.parse_parts.specs.Steps.{place_at, Turn, repeat, all_of}
use Rattle.parse_stmt.specs.Phrases.{Phrase, gives, Then, either, taken, here}
use Rattle.parse_stmt.specs.Statements.{Many, none, some}
use Rattle.parse_stmt.proofs.Exact.{next_kind, Follow, Exact, same_end, end_of_end, leave_next}

-- What is read is the phrase; and where the phrase stands and the tokens behind it are such, it is read.
pub record Ended {A : Type 0} (p : Reader A) (P : Phrase A) (C : List Token → Bool) : Type 0 where
  pub sound : (ts : List Token) → Done (P ts) (p ts)
  pub finds : (ts : List Token) (a : A) (rest : List Token) → P ts a rest → C rest ≡ true → p ts ≡ Ok (a, rest)
  pub within : (ts : List Token) (a : A) (rest : List Token) → P ts a rest → Suffixes rest ts

abbrev pub coming : Follow → List Token → Bool
coming F ts = F (next_kind ts)

pub as_ended : {A : Type 0} {p : Reader A} {P : Phrase A} {F : Follow} → Exact p P F → Ended p P (coming F)
as_ended x = record { sound = x.sound; finds = x.finds; within = x.within }

pub as_exact : {A : Type 0} {p : Reader A} {P : Phrase A} {F : Follow} → Ended p P (coming F) → Exact p P F
as_exact x = record { sound = x.sound; finds = x.finds; within = x.within }

pub ended_weaker : {A : Type 0} {p : Reader A} {P : Phrase A} {C D : List Token → Bool} → Ended p P C → ((ts : List Token) → D ts ≡ true → C ts ≡ true) → Ended p P D
ended_weaker x less = record { sound = x.sound; finds = λ ts a rest t d. x.finds ts a rest t (less rest d); within = x.within }

pub ended_then : {A B : Type 0} {p : Reader A} {P : Phrase A} {C : List Token → Bool} {k : A → Reader B} {K : A → Phrase B} {D : List Token → Bool}
    → Ended p P C → ((a : A) → Ended (k a) (K a) D) → ((a : A) (ts : List Token) (b : B) (rest : List Token) → K a ts b rest → D rest ≡ true → C ts ≡ true)
    → Ended (λ ts. and_then (p ts) k) (Then P K) D
ended_then {A = A} {B = B} {p = p} {P = P} {k = k} {K = K} one other starts = record {
  sound = λ ts. bind (P ts) (Then P K ts) (p ts) k (one.sound ts) (λ a rest s. map_done (K a rest) (Then P K ts) (k a rest) ((other a).sound rest)
      (λ b end t. record { given = a; between = rest; front = s; back = t }));
  finds = λ ts b rest t d.
      ap (λ (o : Outcome A). and_then o k) (one.finds ts t.given t.between t.front (starts t.given t.between b rest t.back d)) ∙ (other t.given).finds t.between b rest t.back d;
  within = λ ts b rest t. end_of_end ((other t.given).within t.between b rest t.back) (one.within ts t.given t.between t.front);
}

pub ended_gives : {A : Type 0} (a : A) (C : List Token → Bool) → Ended (pure a) (gives a) C
ended_gives a C = record {
  sound = λ ts. (refl, refl);
  finds = λ ts b rest p f. ap Ok (rw (sym p.0, sym p.1) refl);
  within = λ ts b rest p. rw p.1 (same_end ts);
}

pub ended_made : {A B : Type 0} {p : Reader A} {P : Phrase A} {C : List Token → Bool} (f : A → B) → Ended p P C → Ended (λ ts. and_then (p ts) (λ a. pure (f a))) (Then P (λ a. gives (f a))) C
ended_made {C = C} f x = ended_then x (λ a. ended_gives (f a) C) (λ a ts b rest t d. ap C (sym t.1) ∙ d)

-- ---- behind a token, and its place

abbrev pub AtToken : {A : Type 0} → (List Token → Bool) → (Span → Phrase A) → Phrase A
AtToken test P = Then here (λ at. Then (taken test) (λ (u : Unit {0}). P at))

pub at_token : {A : Type 0} (test : List Token → Bool) (P : Span → Phrase A) (ts : List Token) (a : A) (rest : List Token) → test ts ≡ true → P (place_at ts) (next ts) a rest → AtToken test P ts a rest
at_token test P ts a rest is t = record { given = place_at ts; between = ts; front = (refl, refl); back = record { given = tt; between = next ts; front = (is, refl); back = t } }

pub record TokenThen {A : Type 0} (test : List Token → Bool) (P : Span → Phrase A) (ts : List Token) (a : A) (rest : List Token) : Type 0 where
  pub is : test ts ≡ true
  pub stands : P (place_at ts) (next ts) a rest

pub token_then : {A : Type 0} (test : List Token → Bool) (P : Span → Phrase A) (ts : List Token) (a : A) (rest : List Token) → AtToken test P ts a rest → TokenThen test P ts a rest
token_then test P ts a rest t =
    let same : t.between ≡ ts = t.front.1 in
    let is : test ts ≡ true = ap test (sym same) ∙ t.back.front.0 in
    let behind : t.back.between ≡ next ts = t.back.front.1 ∙ ap next same in
    record { is = is; stands = subst (λ (at : Span). P at (next ts) a rest) t.front.0 (subst (λ (m : List Token). P t.given m a rest) behind t.back.back) }

behind_finds : {A : Type 0} (test : List Token → Bool) (p : Span → Reader A) (q : Reader A) (P : Span → Phrase A) (Q : Phrase A) (C : List Token → Bool)
    → ((at : Span) → Ended (p at) (P at) C) → Ended q Q C → ((ts : List Token) (a : A) (rest : List Token) → Q ts a rest → C rest ≡ true → test ts ≡ false)
    → (ts : List Token) (a : A) (rest : List Token) → either (AtToken test P) Q ts a rest → C rest ≡ true → (if test ts then p (place_at ts) (next ts) else q ts) ≡ Ok (a, rest)
behind_finds test p q P Q C one other apart ts a rest (inl t) d = let b = token_then test P ts a rest t in rw (b.is) ((one (place_at ts)).finds (next ts) a rest b.stands d)
behind_finds test p q P Q C one other apart ts a rest (inr t) d = rw (apart ts a rest t d) (other.finds ts a rest t d)

behind_within : {A : Type 0} (test : List Token → Bool) (p : Span → Reader A) (q : Reader A) (P : Span → Phrase A) (Q : Phrase A) (C : List Token → Bool)
    → ((at : Span) → Ended (p at) (P at) C) → Ended q Q C
    → (ts : List Token) (a : A) (rest : List Token) → either (AtToken test P) Q ts a rest → Suffixes rest ts
behind_within test p q P Q C one other ts a rest (inl t) = let b = token_then test P ts a rest t in end_of_end ((one (place_at ts)).within (next ts) a rest b.stands) (leave_next ts)
behind_within test p q P Q C one other ts a rest (inr t) = other.within ts a rest t

pub ended_behind : {A : Type 0} (test : List Token → Bool) {p : Span → Reader A} {q : Reader A} {P : Span → Phrase A} {Q : Phrase A} {C : List Token → Bool}
    → ((at : Span) → Ended (p at) (P at) C) → Ended q Q C → ((ts : List Token) (a : A) (rest : List Token) → Q ts a rest → C rest ≡ true → test ts ≡ false)
    → Ended (λ ts. if test ts then p (place_at ts) (next ts) else q ts) (either (AtToken test P) Q) C
ended_behind {A = A} test {p = p} {q = q} {P = P} {Q = Q} {C = C} one other apart = record {
  sound = λ ts. by_test (λ (o : Outcome A). Done (either (AtToken test P) Q ts) o) (test ts) (p (place_at ts) (next ts)) (q ts)
      (λ is. map_done (P (place_at ts) (next ts)) (either (AtToken test P) Q ts) (p (place_at ts) (next ts)) ((one (place_at ts)).sound (next ts)) (λ a rest s. inl (at_token test P ts a rest is s)))
      (λ is. map_done (Q ts) (either (AtToken test P) Q ts) (q ts) (other.sound ts) (λ a rest s. inr s));
  finds = behind_finds test p q P Q C one other apart;
  within = behind_within test p q P Q C one other;
}

-- ---- any number of times, each behind a token

module _ {A : Type 0} (test : List Token → Bool) (p : Span → Reader A) (P : Span → Phrase A) where
  abbrev pub token_turn : Turn (List A)
  token_turn found = λ ts. if test ts then and_then (p (place_at ts) (next ts)) (λ b. pure (found ++ b ∷ [], true)) else Ok ((found, false), ts)

  abbrev turns_from : ℕ → List A × Bool → Reader (List A)
  turns_from n q = if q.1 then repeat token_turn n q.0 else pure q.0

  abbrev pub AllRead : List A → List Token → List A → List Token → Type 0
  AllRead found ts all rest = (behind : List A) × (all ≡ found ++ behind) × Many (AtToken test P) ts behind rest

  abbrev one_more : List A → A → List A × Bool
  one_more found a = (found ++ a ∷ [], true)

  -- what comes behind one of them ends it
  pub many_starts : (C D : List Token → Bool) → ((ts : List Token) → test ts ≡ true → C ts ≡ true) → ((ts : List Token) → D ts ≡ true → C ts ≡ true)
      → (ts : List Token) (all : List A) (rest : List Token) → Many (AtToken test P) ts all rest → D rest ≡ true → C ts ≡ true
  many_starts C D goes last ts all rest (none a) d = last rest d
  many_starts C D goes last ts all rest (some a between c y behind t m) d = goes ts (token_then test P ts y between t).is

  many_sound : ((at : Span) (ts : List Token) → Done (P at ts) (p at ts)) → (n : ℕ) (found : List A) (ts : List Token) → Done (AllRead found ts) (repeat token_turn n found ts)
  unfolding repeat
  many_sound sound zero found ts = tt
  many_sound sound (suc n) found ts =
      by_test (λ (o : Outcome (List A × Bool)). Done (AllRead found ts) (and_then o (turns_from n))) (test ts) _ _
      (λ is. bind (λ q rest. (a : A) × P (place_at ts) (next ts) a rest × (q ≡ one_more found a)) (AllRead found ts) (and_then (p (place_at ts) (next ts)) (λ b. pure (one_more found b))) (turns_from n)
      (bind (P (place_at ts) (next ts)) (λ q rest. (a : A) × P (place_at ts) (next ts) a rest × (q ≡ one_more found a)) (p (place_at ts) (next ts)) (λ b. pure (one_more found b)) (sound (place_at ts) (next ts)) (λ a rest t. (a, t, refl)))
      (λ q rest t. rw (t.2) (map_done (AllRead (found ++ t.0 ∷ []) rest) (AllRead found ts) _ (many_sound sound n (found ++ t.0 ∷ []) rest)
      (λ all left r. (t.0 ∷ r.0, r.1 ∙ append_assoc found (t.0 ∷ []) r.0, some ts rest left t.0 r.0 (at_token test P ts t.0 rest is t.1) r.2)))))
      (λ is. ([], sym (append-nil found), none ts))

  many_finds : (C D : List Token → Bool) → ((at : Span) → Ended (p at) (P at) C) → ((ts : List Token) → test ts ≡ true → C ts ≡ true) → ((ts : List Token) → D ts ≡ true → C ts ≡ true)
      → ((ts : List Token) → D ts ≡ true → test ts ≡ false) → ((ts : List Token) → test ts ≡ true → length (next ts) < length ts)
      → (n : ℕ) (found : List A) (ts : List Token) (all : List A) (rest : List Token) → Many (AtToken test P) ts all rest → D rest ≡ true → length ts < n
      → repeat token_turn n found ts ≡ Ok (found ++ all, rest)
  unfolding repeat
  many_finds C D x goes last apart less zero found ts all rest m d few = absurd (omega arith)
  many_finds C D x goes last apart less (suc n) found ts all rest (none a) d few = rw (apart rest d, append-nil found) refl
  many_finds C D x goes last apart less (suc n) found ts all rest (some a between b y behind t m) d few =
      let b = token_then test P ts y between t in
      let within = no_longer ((x (place_at ts)).within (next ts) y between b.stands) in
      let shorter = less ts b.is in
      rw (b.is, (x (place_at ts)).finds (next ts) y between b.stands (many_starts C D goes last between behind rest m d))
      (many_finds C D x goes last apart less n (found ++ y ∷ []) between behind rest m d (omega arith) ∙ ap (λ (xs : List A). Ok (xs, rest)) (append_assoc found (y ∷ []) behind))

  many_within : ((at : Span) (ts : List Token) (a : A) (rest : List Token) → P at ts a rest → Suffixes rest ts) → (ts : List Token) (all : List A) (rest : List Token) → Many (AtToken test P) ts all rest → Suffixes rest ts
  many_within within ts all rest (none a) = same_end rest
  many_within within ts all rest (some a between c y behind t m) =
      let b = token_then test P ts y between t in
      end_of_end (many_within within between behind rest m) (end_of_end (within (place_at ts) (next ts) y between b.stands) (leave_next ts))

  pub ended_many : (C D : List Token → Bool) → ((at : Span) → Ended (p at) (P at) C) → ((ts : List Token) → test ts ≡ true → C ts ≡ true) → ((ts : List Token) → D ts ≡ true → C ts ≡ true)
      → ((ts : List Token) → D ts ≡ true → test ts ≡ false) → ((ts : List Token) → test ts ≡ true → length (next ts) < length ts)
      → (found : List A) → Ended (all_of token_turn found) (AllRead found) D
  ended_many C D x goes last apart less found = record {
    sound = λ ts. many_sound (λ at. (x at).sound) (length ts + 1) found ts;
    finds = λ ts all rest t d. many_finds C D x goes last apart less (length ts + 1) found ts t.0 rest t.2 d (omega arith) ∙ ap (λ (xs : List A). Ok (xs, rest)) (sym t.1);
    within = λ ts all rest t. many_within (λ at. (x at).within) ts t.0 rest t.2;
  }
