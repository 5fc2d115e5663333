-- Phrases that stand before other tokens, too: what they stand for is alike but for places.
use Rattle.std.proofs.Common.{◌≡◌, ℕ, Bool, true, false, List, [], ◌∷◌, ◌++◌, length, Option, Some, None, refl, sym, ap, ◌∙◌, subst, ◌⊎◌, inl, inr, arith, length-append, append_assoc}
use Rattle.fb_lexer.specs.declared.token.Token.{Token}
use Rattle.fb_lexer.specs.declared.token.Mark.{Mark}
use Rattle.fb_lexer.specs.declared.token.Mark.TheVariants.{At, Minus, Comma}
use Rattle.fb_lexer.specs.declared.word.Word.{Word}
use Rattle.parse_expr.specs.Reading.{first, next, holds, is_mark, sees, sees_word}
use Rattle.parse_expr.proofs.Ends.{Suffixes, same_end, end_of_end}
use Rattle.parse_expr.proofs.FirstFault.{meet}
use Rattle.parse_parts.specs.declared.kinds.InLine.{InLine}
use Rattle.parse_parts.specs.Steps.{place_at, sees_sep}
use Rattle.parse_stmt.specs.Phrases.{Phrase, gives, Then, either, taken, mark, word, sep, here, IsName, Listed, last, another, IsWithin, expression, place, ty}
use Rattle.parse_stmt.specs.Phrases as phrases
use Rattle.parse_stmt.specs.Statements.{Chosen}
use Rattle.parse_stmt.proofs.Exact.{leave_next}
use Rattle.parse_stmt.proofs.Values.{begun}

-- ---- ends of lists

pub same_front : (f g r : List Token) → f ++ r ≡ g ++ r → f ≡ g
same_front f g r is =
    let a = ap length is ∙ length-append g r in
    let b = length-append f r in
    (meet f g r r is (λ less. absurd (omega arith)) (λ less. absurd (omega arith))).fronts

pub none_taken : (front mid : List Token) → mid ≡ front ++ mid → front ≡ []
none_taken front mid is = sym (same_front [] front mid is)

pub one_taken : (front mid : List Token) (t : Token) → front ++ mid ≡ t ∷ mid → front ≡ t ∷ []
one_taken front mid t is = same_front front (t ∷ []) mid is

-- a list that lies between two others
pub record Lies (front mid between : List Token) : Type 0 where
  pub before : List Token
  pub behind : List Token
  pub is : front ≡ before ++ behind
  pub between_is : between ≡ behind ++ mid

abbrev pub lies : (front mid between : List Token) → Suffixes between (front ++ mid) → Suffixes mid between → Lies front mid between
lies front mid between s m = record {
  before = s.front;
  behind = m.front;
  is = same_front front (s.front ++ m.front) mid (s.is ∙ ap (λ (xs : List Token). s.front ++ xs) m.is ∙ sym (append_assoc s.front m.front mid));
  between_is = m.is;
}

-- ---- phrases before other tokens

-- the same token comes next, or one that may
abbrev pub Fits : (List Token → Bool) → List Token → List Token → Type 0
Fits C mid new = (first new ≡ first mid) ⊎ (C new ≡ true)

-- Where the one phrase stands the other one stands too, with other tokens behind it.
pub record Like {A B : Type 0} (P : Phrase A) (Q : Phrase B) (R : A → B → Type 0) (C : List Token → Bool) : Type 0 where
  pub within : (ts : List Token) (a : A) (rest : List Token) → P ts a rest → Suffixes rest ts
  pub moves : (front mid new : List Token) (a : A) → P (front ++ mid) a mid → Fits C mid new → (b : B) × Q (front ++ new) b new × R a b

abbrev pub any : List Token → Bool
any ts = true

abbrev pub Whatever : {A B : Type 0} → A → B → Type 0
Whatever a b = Unit {0}

abbrev pub Same : {A : Type 0} → A → A → Type 0
Same a b = a ≡ b

-- tokens of the phrase, moved
moved : {A B : Type 0} {P : Phrase A} {Q : Phrase B} {R : A → B → Type 0} {C : List Token → Bool} → Like P Q R C → (ts front mid new : List Token) (a : A) → ts ≡ front ++ mid → P ts a mid → Fits C mid new → (b : B) × Q (front ++ new) b new × R a b
moved {P = P} l ts front mid new a is p f = l.moves front mid new a (subst (λ (xs : List Token). P xs a mid) is p) f

module _ {A A' B B' : Type 0} {P : Phrase A} {Q : Phrase A'} {R : A → A' → Type 0} {K : A → Phrase B} {M : A' → Phrase B'} {S : B → B' → Type 0} {C : List Token → Bool}
    (l : Like P Q R any) (k : (a : A) (b : A') → R a b → Like (K a) (M b) S C) where
  then_within : (ts : List Token) (y : B) (rest : List Token) → Then P K ts y rest → Suffixes rest ts
  then_within ts y rest t =
      let s = l.within ts t.given t.between t.front in
      let m = moved l ts s.front t.between t.between t.given s.is t.front (inr refl) in
      end_of_end ((k t.given m.0 m.2).within t.between y rest t.back) s

  then_moves : (front mid new : List Token) (y : B) → Then P K (front ++ mid) y mid → Fits C mid new → (z : B') × Then Q M (front ++ new) z new × S y z
  then_moves front mid new y t f =
      let s = l.within (front ++ mid) t.given t.between t.front in
      let m = moved l (front ++ mid) s.front t.between t.between t.given s.is t.front (inr refl) in
      let b = lies front mid t.between s ((k t.given m.0 m.2).within t.between y mid t.back) in
      let n = moved l (front ++ mid) b.before t.between (b.behind ++ new) t.given s.is t.front (inr refl) in
      let o = moved (k t.given n.0 n.2) t.between b.behind mid new y b.between_is t.back f in
      let whole : b.before ++ (b.behind ++ new) ≡ front ++ new = sym (append_assoc b.before b.behind new) ∙ ap (λ (xs : List Token). xs ++ new) (sym b.is) in
      (o.0, record { given = n.0; between = b.behind ++ new; front = subst (λ (xs : List Token). Q xs n.0 (b.behind ++ new)) whole n.1; back = o.1 }, o.2)

  pub like_then : Like (Then P K) (Then Q M) S C
  like_then = record { within = then_within; moves = then_moves }

pub like_less : {A B : Type 0} {P : Phrase A} {Q : Phrase B} {R : A → B → Type 0} (C : List Token → Bool) → Like P Q R any → Like P Q R C
like_less C l = record { within = l.within; moves = λ front mid new a p f. l.moves front mid new a p (inr refl) }

pub like_loose : {A B : Type 0} {P : Phrase A} {Q : Phrase B} {R : A → B → Type 0} {C : List Token → Bool} → Like P Q R C → Like P Q (λ a b. Unit {0}) C
like_loose l = record { within = l.within; moves = λ front mid new a p f. let m = l.moves front mid new a p f in (m.0, m.1, tt) }

pub like_gives : {A B : Type 0} (R : A → B → Type 0) (C : List Token → Bool) (a : A) (b : B) → R a b → Like (gives a) (gives b) R C
like_gives R C a b r = record {
  within = λ ts x rest p. rw p.1 (same_end ts);
  moves = λ front mid new x p f.
      let e = none_taken front mid p.1 in
      (b, (refl, ap (λ (xs : List Token). xs ++ new) (sym e)), subst (λ (y : _). R y b) (sym p.0) r);
}

-- anything that is made of the phrase
pub like_made : {A A' B B' : Type 0} {P : Phrase A} {Q : Phrase A'} {R : A → A' → Type 0} (S : B → B' → Type 0) (g : A → B) (h : A' → B') → ((a : A) (b : A') → R a b → S (g a) (h b)) → Like P Q R any → Like (Then P (λ a. gives (g a))) (Then Q (λ b. gives (h b))) S any
like_made S g h r l = like_then l (λ a b q. like_gives S any (g a) (h b) (r a b q))

either_within : {A B : Type 0} {P P' : Phrase A} {Q Q' : Phrase B} {R : A → B → Type 0} {C : List Token → Bool} → Like P Q R C → Like P' Q' R C → (ts : List Token) (a : A) (rest : List Token) → either P P' ts a rest → Suffixes rest ts
either_within l m ts a rest (inl p) = l.within ts a rest p
either_within l m ts a rest (inr p) = m.within ts a rest p

either_moves : {A B : Type 0} {P P' : Phrase A} {Q Q' : Phrase B} {R : A → B → Type 0} {C : List Token → Bool} → Like P Q R C → Like P' Q' R C
    → (front mid new : List Token) (a : A) → either P P' (front ++ mid) a mid → Fits C mid new → (b : B) × either Q Q' (front ++ new) b new × R a b
either_moves l m front mid new a (inl p) f = let n = l.moves front mid new a p f in (n.0, inl n.1, n.2)
either_moves l m front mid new a (inr p) f = let n = m.moves front mid new a p f in (n.0, inr n.1, n.2)

pub like_either : {A B : Type 0} {P P' : Phrase A} {Q Q' : Phrase B} {R : A → B → Type 0} {C : List Token → Bool} → Like P Q R C → Like P' Q' R C → Like (either P P') (either Q Q') R C
like_either {P = P} {P' = P'} {Q = Q} {Q' = Q'} {R = R} {C = C} l m = record { within = either_within l m; moves = either_moves l m }

-- ---- tokens

-- a test of the next token
pub record Looks (test : List Token → Bool) : Type 0 where
  pub nothing : test [] ≡ false
  pub alone : (t : Token) (a b : List Token) → test (t ∷ a) ≡ test (t ∷ b)

taken_moves : (test : List Token → Bool) → Looks test → (front mid new : List Token) (u : Unit {0}) → taken test (front ++ mid) u mid → (b : Unit {0}) × taken test (front ++ new) b new × Unit {0}
unfolding next
taken_moves test looks [] [] new u p = let bad : true ≡ false = sym p.0 ∙ looks.nothing in cc
taken_moves test looks [] (t ∷ mid) new u p = let e = ap length p.1 in absurd (omega arith)
taken_moves test looks (t ∷ front) mid new u p =
    let e = none_taken front mid p.1 in
    (tt, (looks.alone t (front ++ new) (front ++ mid) ∙ p.0, ap (λ (xs : List Token). xs ++ new) (sym e)), tt)

pub like_taken : (test : List Token → Bool) → Looks test → Like (taken test) (taken test) Whatever any
like_taken test looks = record { within = λ ts u rest p. rw p.1 (leave_next ts); moves = λ front mid new u p f. taken_moves test looks front mid new u p }

pub looks_mark : (which : Mark) → Looks (sees which)
unfolding sees first
looks_mark which = record { nothing = refl; alone = λ t a b. refl }

pub looks_word : (which : Word) → Looks (sees_word which)
unfolding sees_word first
looks_word which = record { nothing = refl; alone = λ t a b. refl }

pub looks_sep : (line : InLine) → Looks (sees_sep line)
unfolding sees_sep first
looks_sep line = record { nothing = refl; alone = λ t a b. refl }

pub like_mark : (which : Mark) → Like (mark which) (mark which) Whatever any
like_mark which = like_taken (sees which) (looks_mark which)

pub like_word : (which : Word) → Like (word which) (word which) Whatever any
like_word which = like_taken (sees_word which) (looks_word which)

pub like_sep : (line : InLine) → Like (sep line) (sep line) Whatever any
like_sep line = like_taken (sees_sep line) (looks_sep line)

-- a token, whichever
abbrev pub is_some_token : List Token → Bool
is_some_token [] = false
is_some_token (t ∷ ts) = true

pub like_token : Like (taken is_some_token) (taken is_some_token) Whatever any
like_token = like_taken is_some_token (record { nothing = refl; alone = λ t a b. refl })

pub like_here : Like here here Whatever any
like_here = record {
  within = λ ts at rest p. rw p.1 (same_end ts);
  moves = λ front mid new at p f. let e = none_taken front mid p.1 in (place_at (front ++ new), (refl, ap (λ (xs : List Token). xs ++ new) (sym e)), tt);
}

chosen_moves : {A : Type 0} (table : Option Token → Option A) → table None ≡ None → (front mid new : List Token) (a : A) → Chosen table (front ++ mid) a mid → (b : A) × Chosen table (front ++ new) b new × (a ≡ b)
unfolding first next
chosen_moves {A = A} table none [] [] new a p = let bad : ◌≡◌ {A = Option A} (Some a) None = sym p.is ∙ none in cc
chosen_moves table none [] (t ∷ mid) new a p = let e = ap length p.behind in absurd (omega arith)
chosen_moves table none (t ∷ front) mid new a p = let e = none_taken front mid p.behind in (a, record { is = p.is; behind = ap (λ (xs : List Token). xs ++ new) (sym e) }, refl)

pub like_chosen : {A : Type 0} (table : Option Token → Option A) → table None ≡ None → Like (Chosen table) (Chosen table) (λ a b. a ≡ b) any
like_chosen table none = record { within = λ ts a rest p. rw (p.behind) (leave_next ts); moves = λ front mid new a p f. chosen_moves table none front mid new a p }

-- ---- names, types and expressions

pub like_name : Like phrases.name phrases.name (λ a b. a ≡ b) any
like_name = record {
  within = λ ts n rest p. rw p.is (record { front = p.token ∷ []; is = refl });
  moves = λ front mid new n p f.
      let e = one_taken front mid p.token p.is in
      (n, record { token = p.token; text = p.text; is = ap (λ (xs : List Token). xs ++ new) e; kind = p.kind; named = p.named }, refl);
}

pub like_type : Like ty ty (λ a b. a ≡ b) any
like_type = record {
  within = λ ts x rest p. record { front = p.0; is = p.1 };
  moves = λ front mid new x p f. let e = same_front front p.0 mid p.1 in (x, (p.0, ap (λ (xs : List Token). xs ++ new) e, p.2), refl);
}

pub like_expression : (most : ℕ) → Like (expression most) (expression most) (λ a b. a ≡ b) any
like_expression most = record {
  within = λ ts x rest p. record { front = p.0; is = p.1 };
  moves = λ front mid new x p f. let e = same_front front p.0 mid p.1 in (x, (p.0, ap (λ (xs : List Token). xs ++ new) e, p.2), refl);
}

-- the first token of tokens that begin with others
pub first_in : (front mid new : List Token) (t : Token) (more : List Token) → front ≡ t ∷ more → first (front ++ mid) ≡ first (front ++ new)
unfolding first
first_in front mid new t more is = rw is refl

pub like_place : (most : ℕ) → Like (place most) (place most) (λ a b. a ≡ b) any
unfolding sees
like_place most = record {
  within = λ ts x rest p. record { front = p.0; is = p.2 };
  moves = λ front mid new x p f.
      let e = same_front front p.0 mid p.2 in
      let b = begun p.4 in
      let same = first_in front new mid b.token b.more (e ∙ b.is) in
      (x, (p.0, p.1, ap (λ (xs : List Token). xs ++ new) e, p.3, p.4, ap (holds (is_mark At)) same ∙ p.5, ap (holds (is_mark Minus)) same ∙ p.6), refl);
}

-- ---- things with commas between

module _ {A B : Type 0} {P : Phrase A} {Q : Phrase B} {R : A → B → Type 0} (l : Like P Q R any) where
  listed_within : (ts : List Token) (all : List A) (rest : List Token) → Listed P ts all rest → Suffixes rest ts
  listed_within ts all rest (last a b x p) = l.within ts x rest p
  listed_within ts all rest (another a between b x more p comma q) = end_of_end (listed_within (next between) more rest q) (end_of_end (leave_next between) (l.within ts x between p))

  comma_behind_it : (between mid : List Token) → sees Comma between ≡ true → Suffixes mid (next between) → (w : List Token) × (c : Token) × (between ≡ c ∷ (w ++ mid)) × (next between ≡ w ++ mid)
  unfolding sees first next
  comma_behind_it [] mid is s = cc
  comma_behind_it (c ∷ between) mid is s = (s.front, c, ap (λ (xs : List Token). c ∷ xs) s.is, s.is)

  listed_moves : (ts front mid new : List Token) (all : List A) → ts ≡ front ++ mid → Listed P ts all mid → (bs : List B) × Listed Q (front ++ new) bs new
  unfolding next
  listed_moves ts front mid new all is (last a b x p) = let m = moved l ts front mid new x is p (inr refl) in (m.0 ∷ [], last (front ++ new) new m.0 m.1)
  listed_moves ts front mid new all is (another a between b x more p comma q) =
      let c = comma_behind_it between mid comma (listed_within (next between) more mid q) in
      let s = l.within ts x between p in
      let b = lies front mid between (record { front = s.front; is = sym is ∙ s.is }) (record { front = c.1 ∷ c.0; is = c.2 }) in
      let other = listed_moves (next between) c.0 mid new more c.3 q in
      let tail : b.behind ≡ c.1 ∷ c.0 = same_front b.behind (c.1 ∷ c.0) mid (sym b.between_is ∙ c.2) in
      let m = moved l ts b.before between (c.1 ∷ (c.0 ++ new)) x (s.is) p (inr refl) in
      let whole : b.before ++ (c.1 ∷ (c.0 ++ new)) ≡ front ++ new = ap (λ (xs : List Token). b.before ++ (xs ++ new)) (sym tail) ∙ sym (append_assoc b.before b.behind new) ∙ ap (λ (xs : List Token). xs ++ new) (sym b.is) in
      let is_comma : sees Comma (c.1 ∷ (c.0 ++ new)) ≡ true = (looks_mark Comma).alone c.1 (c.0 ++ new) (c.0 ++ mid) ∙ ap (sees Comma) (sym c.2) ∙ comma in
      (m.0 ∷ other.0, another (front ++ new) (c.1 ∷ (c.0 ++ new)) new m.0 other.0 (subst (λ (xs : List Token). Q xs m.0 (c.1 ∷ (c.0 ++ new))) whole m.1) is_comma other.1)

  pub like_listed : Like (Listed P) (Listed Q) Whatever any
  like_listed = record { within = listed_within; moves = λ front mid new all p f. let m = listed_moves (front ++ mid) front mid new all refl p in (m.0, m.1, tt) }
