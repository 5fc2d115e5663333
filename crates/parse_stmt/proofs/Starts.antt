-- What the tokens begin with by which those before a fault are completed, by the kind of the fault.
use Rattle.std.proofs.Common.{◌≡◌, ◌≤◌, ℕ, zero, suc, ◌+◌, true, false, List, [], ◌∷◌, ◌++◌, Option, Some, None, refl, sym, ap, ◌∙◌, subst, ◌⊎◌, inl, inr, arith}
use Rattle.fb_base.specs.declared.fault.FaultKind.{FaultKind}
use Rattle.fb_base.specs.declared.fault.FaultKind.TheVariants.{DeepNesting, Expected, ExtraText, OutOfProfile}
use Rattle.fb_lexer.specs.declared.token.Token.{Token}
use Rattle.fb_lexer.specs.declared.token.TokenKind.TheVariants as kinds
use Rattle.fb_lexer.specs.declared.token.Mark.{Mark}
use Rattle.parse_expr.specs.Reading.{first, is_mark, refusal}
use Rattle.parse_expr.specs.Faults.{is_refused_kind}
use Rattle.parse_expr.proofs.Refused.{refusals}
use Rattle.parse_expr.proofs.Firsts.{head_or}
use Rattle.parse_parts.specs.Steps.{kind_or, astray, extra_at, extra}
use Rattle.parse_stmt.specs.Faults.{IsSample}

-- ---- how deep a completion may be

-- Tokens before a fault are completed to phrases as deep as they may be, or to deeper ones.
pub data Reach : Type 0 where
  near : Reach
  far : Reach

abbrev more_depth : Reach → ℕ
more_depth near = 0
more_depth far = 2

abbrev more_room : Reach → ℕ
more_room near = 0
more_room far = 1

-- how deep expressions may be then
abbrev pub over : Reach → ℕ → ℕ
over reach zero = more_depth reach
over reach (suc n) = suc (over reach n)

-- and statements
abbrev pub above : Reach → ℕ → ℕ
above reach zero = more_room reach
above reach (suc n) = suc (above reach n)

pub over_fits : (reach : Reach) (n : ℕ) → n ≤ over reach n
over_fits reach zero = omega arith
over_fits reach (suc n) = let e = over_fits reach n in omega arith

pub over_near : (n : ℕ) → over near n ≡ n
over_near zero = refl
over_near (suc n) = ap suc (over_near n)

pub over_far : (n : ℕ) → over far n ≡ n + 2
over_far zero = refl
over_far (suc n) = let e = over_far n in omega arith

pub above_near : (n : ℕ) → above near n ≡ n
above_near zero = refl
above_near (suc n) = ap suc (above_near n)

pub above_far : (n : ℕ) → above far n ≡ n + 1
above_far zero = refl
above_far (suc n) = let e = above_far n in omega arith

-- what is asked of deeper completions alone
abbrev pub OnFar : Reach → Type 0 → Type 0
OnFar near T = Unit {0}
OnFar far T = T

pub on_far : (reach : Reach) {T : Type 0} → T → OnFar reach T
on_far near t = tt
on_far far t = t

map_far : (reach : Reach) {T S : Type 0} → (T → S) → OnFar reach T → OnFar reach S
map_far near f t = tt
map_far far f t = f t

-- ---- what a completion begins with

pub record Starting (S : Token → Type 0) (more : List Token) : Type 0 where
  pub token : Token
  pub behind : List Token
  pub is : more ≡ token ∷ behind
  pub such : S token

-- an end of a statement
abbrev pub IsEnd : Token → Type 0
IsEnd t = (t.kind ≡ kinds.Colon) ⊎ (t.kind ≡ kinds.LineEnd)

-- the token that comes next
abbrev pub Comes : List Token → Token → Type 0
Comes rest t = (behind : List Token) × (rest ≡ t ∷ behind)

-- a word comes next that this profile doesn't have
abbrev pub IsRefused : Token → Type 0
IsRefused t = is_refused_kind t.kind ≡ true

-- At the fault's place an end would do; or, in a deeper phrase, a number, a type, a statement or a member in place of a
-- word that is refused; or, in a deeper phrase, the token itself.
abbrev pub Starts : Reach → FaultKind → List Token → List Token → Type 0
Starts reach Expected rest more = Unit {0}
Starts reach ExtraText rest more = Starting IsEnd more
Starts reach OutOfProfile rest more = OnFar reach (Starting IsRefused rest × Starting IsSample more)
Starts reach DeepNesting rest more = OnFar reach (Starting (Comes rest) more)
Starts reach kind rest more = ⊥

starting_more : {S : Token → Type 0} (more m : List Token) → Starting S more → Starting S (more ++ m)
starting_more more m s = record { token = s.token; behind = s.behind ++ m; is = ap (λ (xs : List Token). xs ++ m) s.is; such = s.such }

pub starting : {S : Token → Type 0} (t : Token) (m : List Token) → S t → Starting S (t ∷ m)
starting t m s = record { token = t; behind = m; is = refl; such = s }

pub starts_more : (reach : Reach) (kind : FaultKind) (rest more m : List Token) → Starts reach kind rest more → Starts reach kind rest (more ++ m)
starts_more reach Expected rest more m s = tt
starts_more reach ExtraText rest more m s = starting_more more m s
starts_more reach OutOfProfile rest more m s = map_far reach (λ p. (p.0, starting_more more m p.1)) s
starts_more reach DeepNesting rest more m s = map_far reach (λ p. starting_more more m p) s
starts_more reach kind rest more m s = absurd s

-- where an end is missing
starts_extra_by : (reach : Reach) (o : Option Token) (rest : List Token) (t : Token) (m : List Token) → IsEnd t → Starts reach (extra_at o) rest (t ∷ m)
starts_extra_by reach None rest t m end = tt
starts_extra_by reach (Some u) rest t m end = starting t m end

pub starts_extra : (reach : Reach) (ts : List Token) (t : Token) (m : List Token) → IsEnd t → Starts reach (extra ts) ts (t ∷ m)
unfolding extra
starts_extra reach ts t m end = starts_extra_by reach (first ts) ts t m end

-- where a number, a type, a statement or a member may begin
pub starts_out : (reach : Reach) (rest : List Token) (other : Token) (m : List Token) → Starting IsRefused rest → IsSample other → Starts reach OutOfProfile rest (other ∷ m)
starts_out reach rest other m refused free = on_far reach (refused, starting other m free)

pub starts_refusal : (reach : Reach) (ts : List Token) (other : Token) (m : List Token) → IsSample other → Starts reach (refusal ts) ts (other ∷ m)
unfolding refusal first
starts_refusal reach [] other m free = tt
starts_refusal reach (t ∷ ts) other m free = elim (refusals t.kind) [ inl is ↦ subst (λ (k : FaultKind). Starts reach k (t ∷ ts) (other ∷ m)) (sym is) tt | inr is ↦ subst (λ (k : FaultKind). Starts reach k (t ∷ ts) (other ∷ m)) (sym is.0) (starts_out reach (t ∷ ts) other m (starting t ts is.1) free) ]

-- ---- what is astray

pub data Astray (other : FaultKind) (ts : List Token) : FaultKind → Type 0 where
  short : ts ≡ [] → Astray other ts Expected
  out : Starting IsRefused ts → Astray other ts OutOfProfile
  wrong : Astray other ts other

pub astray_as : (other : FaultKind) (ts : List Token) → Astray other ts (astray other ts)
unfolding astray refusal first
astray_as other [] = short refl
astray_as other (t ∷ ts) = elim (refusals t.kind) [ inl is ↦ subst (λ (k : FaultKind). Astray other (t ∷ ts) (kind_or other k)) (sym is) wrong | inr is ↦ subst (λ (k : FaultKind). Astray other (t ∷ ts) (kind_or other k)) (sym is.0) (out (starting t ts is.1)) ]

-- ---- the first token of a completion

-- no mark
abbrev pub Unmarked : Token → Type 0
Unmarked t = (which : Mark) → is_mark which t.kind ≡ false

unmarked_free : (t : Token) → IsSample t → Unmarked t
unmarked_free t (inl p) which = ap (is_mark which) p.1
unmarked_free t (inr (inl p)) which = ap (is_mark which) p
unmarked_free t (inr (inr (inl p))) which = ap (is_mark which) p
unmarked_free t (inr (inr (inr p))) which = ap (is_mark which) p

unmarked_end : (t : Token) → IsEnd t → Unmarked t
unmarked_end t (inl p) which = ap (is_mark which) p
unmarked_end t (inr p) which = ap (is_mark which) p

-- A completion may be any other one, too, or it begins with no mark, or with the token that comes next.
abbrev pub FirstOf : Reach → FaultKind → List Token → List Token → Type 0
FirstOf reach kind rest more = ((m : List Token) → Starts reach kind rest m) ⊎ Starting (λ t. Unmarked t ⊎ Comes rest t) more

marked : {S : Token → Type 0} (rest more : List Token) → Starting S more → ((t : Token) → S t → Unmarked t ⊎ Comes rest t) → Starting (λ t. Unmarked t ⊎ Comes rest t) more
marked rest more s f = record { token = s.token; behind = s.behind; is = s.is; such = f s.token s.such }

first_out : (reach : Reach) (rest more : List Token) → Starts reach OutOfProfile rest more → FirstOf reach OutOfProfile rest more
first_out near rest more s = inl (λ m. tt)
first_out far rest more s = inr (marked rest more s.1 (λ t free. inl (unmarked_free t free)))

first_deep : (reach : Reach) (rest more : List Token) → Starts reach DeepNesting rest more → FirstOf reach DeepNesting rest more
first_deep near rest more s = inl (λ m. tt)
first_deep far rest more s = inr (marked rest more s (λ t comes. inr comes))

pub first_of : (reach : Reach) (kind : FaultKind) (rest more : List Token) → Starts reach kind rest more → FirstOf reach kind rest more
first_of reach Expected rest more s = inl (λ m. tt)
first_of reach ExtraText rest more s = inr (marked rest more s (λ t end. inl (unmarked_end t end)))
first_of reach OutOfProfile rest more s = first_out reach rest more s
first_of reach DeepNesting rest more s = first_deep reach rest more s
first_of reach kind rest more s = absurd s

-- ---- the fault's own token

pub same_head : (t u : Token) (a b : List Token) → t ∷ a ≡ u ∷ b → t ≡ u
same_head t u a b is = ap (head_or t) is

itself_out : (reach : Reach) (rest more : List Token) → Starts reach OutOfProfile rest more → (t : Token) (behind : List Token) → rest ≡ t ∷ behind → (is_refused_kind t.kind ≡ true → ⊥) → (m : List Token) → Starts reach OutOfProfile rest m
itself_out near rest more s t behind is plain m = tt
itself_out far rest more s t behind is plain m = let same = same_head s.0.token t s.0.behind behind (sym s.0.is ∙ is) in absurd (plain (ap (λ (u : Token). is_refused_kind u.kind) (sym same) ∙ s.0.such))

-- where the token that comes next goes on, and is no word that is refused
pub starts_itself : (reach : Reach) (kind : FaultKind) (rest more : List Token) → Starts reach kind rest more → (kind ≡ ExtraText → ⊥) → (t : Token) (behind : List Token) → rest ≡ t ∷ behind → (is_refused_kind t.kind ≡ true → ⊥) → (m : List Token) → Starts reach kind rest (t ∷ m)
starts_itself reach Expected rest more s other t behind is plain m = tt
starts_itself reach ExtraText rest more s other t behind is plain m = absurd (other refl)
starts_itself reach OutOfProfile rest more s other t behind is plain m = itself_out reach rest more s t behind is plain (t ∷ m)
starts_itself reach DeepNesting rest more s other t behind is plain m = on_far reach (starting t m (behind, is))
starts_itself reach kind rest more s other t behind is plain m = absurd s

-- another token in place of the word that is refused
pub starts_instead : (reach : Reach) (rest more : List Token) → Starts reach OutOfProfile rest more → (other : Token) (m : List Token) → IsSample other → Starts reach OutOfProfile rest (other ∷ m)
starts_instead reach rest more s other m free = map_far reach (λ p. (p.0, starting other m free)) s

-- ---- the two reaches

pub reach_is : (reach : Reach) → (reach ≡ near) ⊎ (reach ≡ far)
reach_is near = inl refl
reach_is far = inr refl

pub far_has : (reach : Reach) {T : Type 0} → reach ≡ far → OnFar reach T → T
far_has near is t = cc
far_has far is t = t

pub near_any : (reach : Reach) (T : Type 0) → reach ≡ near → OnFar reach T
near_any near T is = tt
near_any far T is = cc

pub over_two : (reach : Reach) (n : ℕ) → reach ≡ far → 2 ≤ over reach n
over_two near n is = cc
over_two far n is = let e = over_far n in omega arith
