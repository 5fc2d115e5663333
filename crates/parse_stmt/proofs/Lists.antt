-- Phrases in a series, and phrases that may be missing.
use Rattle.std.proofs.Common.{◌≡◌, ◌<◌, ℕ, zero, suc, ◌+◌, Bool, true, false, if◌then◌else◌, List, [], ◌∷◌, ◌++◌, length, Option, Some, None, Ok, refl, sym, ap, ◌∙◌, subst, ◌⊎◌, inl, inr, arith, append_assoc}
use Rattle.fb_lexer.specs.declared.token.Token.{Token}
use Rattle.fb_lexer.specs.declared.token.TokenKind.{TokenKind}
use Rattle.fb_lexer.specs.declared.token.TokenKind.TheVariants as kinds
use Rattle.fb_lexer.specs.declared.token.Mark.{Mark}
use Rattle.fb_lexer.specs.declared.token.Mark.TheVariants.{Comma}
use Rattle.fb_lexer.specs.declared.word.Word.{Word}
use Rattle.parse_expr.specs.Reading.{first, next, sees, sees_word, Reader, Outcome, and_then, pure}
use Rattle.parse_expr.proofs.Sound.{Done, bind, by_test, map_done}
use Rattle.parse_expr.proofs.Ends.{Suffixes, no_longer}
use Rattle.parse_parts.specs.Steps.{Turn, repeat, all_of, comma_behind}
use Rattle.parse_stmt.specs.Phrases.{Phrase, gives, Then, either, behind_mark, behind_word, Listed, last, another}
use Rattle.parse_stmt.proofs.Exact.{next_kind, Follow, Exact, Starts, exact_pure, exact_then, exact_weaker, exact_behind, end_of_end, leave_next}
use Rattle.parse_stmt.proofs.Smallest.{next_word, next_mark}

-- whatever the one holds of, the other does
abbrev pub Under : Follow → Follow → Type 0
Under G F = (o : Option TokenKind) → G o ≡ true → F o ≡ true

pub starts_gives : {A : Type 0} (a : A) (G F : Follow) → Under G F → Starts (gives a) G F
starts_gives a G F under ts b rest t f = ap (λ (r : List Token). F (next_kind r)) (sym t.1) ∙ under (next_kind rest) f

pub exact_gives : {A : Type 0} (a : A) (G : Follow) → Exact (pure a) (gives a) G
exact_gives a G = exact_weaker (exact_pure a) (λ o f. refl)

-- a phrase, and what is made of it
pub exact_made : {A B : Type 0} {p : Reader A} {P : Phrase A} {F : Follow} (f : A → B) → Exact p P F → Exact (λ ts. and_then (p ts) (λ a. pure (f a))) (Then P (λ a. gives (f a))) F
exact_made {F = F} f e = exact_then e (λ a. exact_gives (f a) F) (λ a. starts_gives (f a) F F (λ o is. is))

-- ---- what may be missing

pub no_word : (which : Word) (G : Follow) (ts : List Token) → G (Some (kinds.Word which)) ≡ false → G (next_kind ts) ≡ true → (b : Bool) → sees_word which ts ≡ b → b ≡ false
no_word which G ts not f true is = let e : true ≡ false = sym f ∙ ap G (next_word which ts is) ∙ not in cc
no_word which G ts not f false is = refl

pub no_mark : (which : Mark) (G : Follow) (ts : List Token) → G (Some (kinds.Mark which)) ≡ false → G (next_kind ts) ≡ true → (b : Bool) → sees which ts ≡ b → b ≡ false
no_mark which G ts not f true is = let e : true ≡ false = sym f ∙ ap G (next_mark which ts is) ∙ not in cc
no_mark which G ts not f false is = refl

pub word_none : {A : Type 0} (a : A) (which : Word) (G : Follow) → G (Some (kinds.Word which)) ≡ false
    → (ts : List Token) (b : A) (rest : List Token) → gives a ts b rest → G (next_kind rest) ≡ true → sees_word which ts ≡ false
word_none a which G not ts b rest t f = no_word which G ts not (ap (λ (r : List Token). G (next_kind r)) (sym t.1) ∙ f) (sees_word which ts) refl

pub mark_none : {A : Type 0} (a : A) (which : Mark) (G : Follow) → G (Some (kinds.Mark which)) ≡ false
    → (ts : List Token) (b : A) (rest : List Token) → gives a ts b rest → G (next_kind rest) ≡ true → sees which ts ≡ false
mark_none a which G not ts b rest t f = no_mark which G ts not (ap (λ (r : List Token). G (next_kind r)) (sym t.1) ∙ f) (sees which ts) refl

pub exact_behind_word : {A : Type 0} {p : Reader A} {P : Phrase A} {F : Follow} (which : Word) (G : Follow) → Under G F → G (Some (kinds.Word which)) ≡ false → Exact p P F
    → Exact (λ ts. if sees_word which ts then and_then (p (next ts)) (λ a. pure (Some a)) else Ok (None, ts)) (behind_word which P) G
exact_behind_word {A = A} which G under not e =
    exact_behind (sees_word which) (exact_weaker (exact_made (λ (a : A). Some a) e) under) (exact_gives None G) (word_none None which G not)

pub exact_behind_mark : {A : Type 0} {p : Reader A} {P : Phrase A} {F : Follow} (which : Mark) (G : Follow) → Under G F → G (Some (kinds.Mark which)) ≡ false → Exact p P F
    → Exact (λ ts. if sees which ts then and_then (p (next ts)) (λ a. pure (Some a)) else Ok (None, ts)) (behind_mark which P) G
exact_behind_mark {A = A} which G under not e =
    exact_behind (sees which) (exact_weaker (exact_made (λ (a : A). Some a) e) under) (exact_gives None G) (mark_none None which G not)

pub starts_either : {A : Type 0} {P Q : Phrase A} (G F : Follow) → Starts P G F → Starts Q G F → Starts (either P Q) G F
starts_either G F one other ts a rest (inl t) f = one ts a rest t f
starts_either G F one other ts a rest (inr t) f = other ts a rest t f

pub starts_then : {A B : Type 0} {P : Phrase A} {K : A → Phrase B} (G H F : Follow) → Starts P H F → ((a : A) → Starts (K a) G H) → Starts (Then P K) G F
starts_then G H F one other ts b rest t f = one ts t.given t.between t.front (other t.given t.between b rest t.back f)

-- ---- with commas between

module _ {A : Type 0} (p : Reader A) (P : Phrase A) where
  abbrev comma_turn : Turn (List A)
  comma_turn found = λ ts. and_then (p ts) (comma_behind found)

  abbrev TurnRead : List A → List Token → List A × Bool → List Token → Type 0
  TurnRead found ts q rest = (a : A) × (between : List Token) × P ts a between
      × (((q ≡ (found ++ a ∷ [], true)) × (sees Comma between ≡ true) × (rest ≡ next between)) ⊎ ((q ≡ (found ++ a ∷ [], false)) × (rest ≡ between)))

  comma_sound : (found : List A) (ts : List Token) (a : A) (between : List Token) → P ts a between → Done (TurnRead found ts) (comma_behind found a between)
  unfolding comma_behind
  comma_sound found ts a between s = by_test (λ (o : Outcome (List A × Bool)). Done (TurnRead found ts) o) (sees Comma between) _ _
      (λ is. (a, between, s, inl (refl, is, refl))) (λ is. (a, between, s, inr (refl, refl)))

  abbrev AllRead : List A → List Token → List A → List Token → Type 0
  AllRead found ts all rest = (behind : List A) × (all ≡ found ++ behind) × Listed P ts behind rest

  turned : (found : List A) (ts : List Token) (q : List A × Bool) (rest : List Token) → TurnRead found ts q rest → (again : (List A) → Reader (List A))
      → ((a : A) → Done (AllRead (found ++ a ∷ []) rest) (again (found ++ a ∷ []) rest))
      → Done (AllRead found ts) ((if q.1 then again q.0 else pure q.0) rest)
  turned found ts q rest (a, between, s, inl t) again k =
      rw (t.0) (map_done (AllRead (found ++ a ∷ []) rest) (AllRead found ts) (again (found ++ a ∷ []) rest) (k a)
      (λ all left r. (a ∷ r.0, r.1 ∙ append_assoc found (a ∷ []) r.0, another ts between left a r.0 s t.1 (subst (λ (m : List Token). Listed P m r.0 left) t.2 r.2))))
  turned found ts q rest (a, between, s, inr t) again k =
      rw (t.0) (a ∷ [], refl, last ts rest a (subst (λ (m : List Token). P ts a m) (sym t.1) s))

  all_sound : ((ts : List Token) → Done (P ts) (p ts)) → (n : ℕ) (found : List A) (ts : List Token) → Done (AllRead found ts) (repeat comma_turn n found ts)
  unfolding repeat
  all_sound sound zero found ts = tt
  all_sound sound (suc n) found ts =
      bind (TurnRead found ts) (AllRead found ts) (and_then (p ts) (comma_behind found)) _
      (bind (P ts) (TurnRead found ts) (p ts) (comma_behind found) (sound ts) (λ a between s. comma_sound found ts a between s))
      (λ q rest r. turned found ts q rest r (repeat comma_turn n) (λ a. all_sound sound n (found ++ a ∷ []) rest))

  next_less : (ts : List Token) → sees Comma ts ≡ true → length (next ts) < length ts
  unfolding sees first next
  next_less [] is = cc
  next_less (t ∷ ts) is = omega arith

  all_finds : (F G : Follow) → Exact p P F → Under G F → F (Some (kinds.Mark Comma)) ≡ true → G (Some (kinds.Mark Comma)) ≡ false
      → (n : ℕ) (found : List A) (ts : List Token) (all : List A) (rest : List Token) → Listed P ts all rest → G (next_kind rest) ≡ true → length ts < n
      → repeat comma_turn n found ts ≡ Ok (found ++ all, rest)
  unfolding repeat comma_behind
  all_finds F G e under goes not zero found ts all rest l f few = absurd (omega arith)
  all_finds F G e under goes not (suc n) found ts all rest (last a b x t) f few =
      rw (e.finds ts x rest t (under (next_kind rest) f), no_mark Comma G rest not f (sees Comma rest) refl) refl
  all_finds F G e under goes not (suc n) found ts all rest (another a between b x behind t comma l) f few =
      let within = no_longer (e.within ts x between t) in
      let less = next_less between comma in
      rw (e.finds ts x between t (ap F (next_mark Comma between comma) ∙ goes), comma)
      (all_finds F G e under goes not n (found ++ x ∷ []) (next between) behind rest l f (omega arith) ∙ ap (λ (xs : List A). Ok (xs, rest)) (append_assoc found (x ∷ []) behind))

  all_within : ((ts : List Token) (a : A) (rest : List Token) → P ts a rest → Suffixes rest ts) → (ts : List Token) (all : List A) (rest : List Token) → Listed P ts all rest → Suffixes rest ts
  all_within within ts all rest (last a b x t) = within ts x rest t
  all_within within ts all rest (another a between b x behind t comma l) =
      end_of_end (all_within within (next between) behind rest l) (end_of_end (leave_next between) (within ts x between t))

  pub exact_list : (F G : Follow) → Exact p P F → Under G F → F (Some (kinds.Mark Comma)) ≡ true → G (Some (kinds.Mark Comma)) ≡ false
      → Exact (all_of comma_turn []) (Listed P) G
  exact_list F G e under goes not = record {
    sound = λ ts. map_done (AllRead [] ts) (Listed P ts) (repeat comma_turn (length ts + 1) [] ts) (all_sound e.sound (length ts + 1) [] ts)
        (λ all rest r. rw r.1 r.2);
    finds = λ ts all rest l f. all_finds F G e under goes not (length ts + 1) [] ts all rest l f (omega arith);
    within = λ ts all rest l. all_within e.within ts all rest l;
  }
