-- Where the tokens end too early, something is Expected; and DeepNesting is told of no word that this profile doesn't have.
use Rattle.std.proofs.Common.{◌≡◌, ◌≤◌, ℕ, zero, suc, ◌+◌, Bool, true, false, if◌then◌else◌, List, [], ◌∷◌, length, Option, Some, None, Ok, Err, refl, sym, ap, subst, ◌∙◌, inl, inr, arith}
use Rattle.fb_base.specs.declared.fault.Span.{Span}
use Rattle.fb_base.specs.declared.fault.FaultKind.{FaultKind}
use Rattle.fb_base.specs.declared.fault.FaultKind.TheVariants.{Expected, DeepNesting, OutOfProfile}
use Rattle.fb_lexer.specs.declared.token.Token.{Token}
use Rattle.fb_lexer.specs.declared.token.TokenKind.{TokenKind}
use Rattle.fb_lexer.specs.declared.token.TokenKind.TheVariants as kinds
use Rattle.fb_lexer.specs.declared.token.Mark.{Mark}
use Rattle.fb_lexer.specs.declared.token.Mark.TheVariants.{At, Minus, Equal, Comma}
use Rattle.fb_lexer.specs.declared.word.Word.{Word}
use Rattle.fb_lexer.specs.declared.word.Word.TheVariants as w
use Rattle.fb_ast.specs.declared.ty.Base.{Base}
use Rattle.parse_expr.specs.declared.error.ReadErr.TheVariants as read_errs
use Rattle.parse_expr.specs.Reading.{first, next, holds, sees, sees_word, expect, expect_word, refusal, Outcome, Reader, and_then, pure, stop, take_token}
use Rattle.parse_expr.specs.Types.{type_from, type_at, type_name, name_by, name_at, name}
use Rattle.parse_expr.specs.Expr.{expr, Measured}
use Rattle.parse_expr.specs.Faults.{is_refused_kind}
use Rattle.parse_expr.proofs.Refused.{nowhere, refusals}
use Rattle.parse_expr.proofs.Fills.{Failed, FaultOf, Next, failed_pure, map_failed}
use Rattle.parse_expr.proofs.Begun.{begun}
use Rattle.parse_expr.proofs.Completed.{NoRoom, Whole}
use Rattle.parse_parts.specs.declared.kinds.InLine.{InLine}
use Rattle.parse_parts.specs.Steps.{here, kind_or, astray, extra, sees_sep, sep, whole, place, pass_by, no_value, sees_value, any_value, value_behind, initial, sees_name, any_name, any_type, Turn, repeat, all_of, comma_behind}

-- the next token isn't a word that this profile doesn't have
abbrev pub IsPlain : List Token → Type 0
IsPlain ts = holds is_refused_kind (first ts) ≡ false

abbrev pub AtEnd : FaultKind → List Token → Type 0
AtEnd kind rest = (rest ≡ [] → kind ≡ Expected) × (kind ≡ DeepNesting → IsPlain rest)

-- What a reader tells is such a fault.
pub record Early {A : Type 0} (p : Reader A) : Type 0 where
  pub at : (ts : List Token) → Failed AtEnd (p ts)

-- ---- faults

pub expected_end : (ts : List Token) → AtEnd Expected ts
expected_end ts = (λ is. refl, λ deep. cc)

refusal_deep : (ts : List Token) → refusal ts ≡ DeepNesting → IsPlain ts
unfolding refusal first
refusal_deep [] deep = cc
refusal_deep (t ∷ ts) deep = elim (refusals t.kind) [
  | inl e ↦ (let bad : Expected ≡ DeepNesting = sym e ∙ deep in cc)
  | inr e ↦ (let bad : OutOfProfile ≡ DeepNesting = sym e.0 ∙ deep in cc)
]

refusal_early : (ts : List Token) → ts ≡ [] → refusal ts ≡ Expected
unfolding refusal first
refusal_early [] is = refl
refusal_early (t ∷ ts) is = cc

refusal_end : (ts : List Token) → AtEnd (refusal ts) ts
refusal_end ts = (refusal_early ts, refusal_deep ts)

astray_by : (kind : FaultKind) (t : Token) (ts : List Token) (b : Bool) → is_refused_kind t.kind ≡ b → astray kind (t ∷ ts) ≡ DeepNesting → b ≡ false
unfolding astray refusal first
astray_by kind t ts false word deep = refl
astray_by kind t ts true word deep = let bad : OutOfProfile ≡ DeepNesting = sym (ap (kind_or kind) (nowhere t.kind word).refusal) ∙ deep in cc

astray_deep : (kind : FaultKind) (ts : List Token) → astray kind ts ≡ DeepNesting → IsPlain ts
unfolding astray first
astray_deep kind [] deep = refl
astray_deep kind (t ∷ ts) deep = astray_by kind t ts (is_refused_kind t.kind) refl deep

astray_early : (kind : FaultKind) (ts : List Token) → ts ≡ [] → astray kind ts ≡ Expected
unfolding astray first
astray_early kind [] is = refl
astray_early kind (t ∷ ts) is = cc

pub astray_end : (kind : FaultKind) (ts : List Token) → AtEnd (astray kind ts) ts
astray_end kind ts = (astray_early kind ts, astray_deep kind ts)

extra_early : (ts : List Token) → ts ≡ [] → extra ts ≡ Expected
unfolding extra first
extra_early [] is = refl
extra_early (t ∷ ts) is = cc

extra_deep : (ts : List Token) → extra ts ≡ DeepNesting → IsPlain ts
unfolding extra first
extra_deep [] deep = refl
extra_deep (t ∷ ts) deep = cc

pub extra_end : (ts : List Token) → AtEnd (extra ts) ts
extra_end ts = (extra_early ts, extra_deep ts)

-- ---- the steps that readers are made of

pub test_end : {A : Type 0} (b : Bool) (x y : Outcome A) → Failed AtEnd x → Failed AtEnd y → Failed AtEnd (if b then x else y)
test_end true x y e f = e
test_end false x y e f = f

then_by : {A B : Type 0} (o : Outcome A) (k : A → Reader B) → Failed AtEnd o → ((a : A) → Early (k a)) → Failed AtEnd (and_then o k)
then_by (Ok p) k f y = (y p.0).at p.1
then_by (Err p) k f y = f

pub e_then : {A B : Type 0} {p : Reader A} {k : A → Reader B} → Early p → ((a : A) → Early (k a)) → Early (λ ts. and_then (p ts) k)
e_then {p = p} {k = k} x y = record { at = λ ts. then_by (p ts) k (x.at ts) y }

-- where nothing of the first one is used
pub e_must : {A : Type 0} {p : Reader (Unit {0})} {q : Reader A} → Early p → Early q → Early (λ ts. and_then (p ts) (λ u. q))
e_must x y = e_then x (λ u. y)

pub e_next : {A : Type 0} {q : Reader A} → Early q → Early (λ ts. and_then (take_token ts) (λ u. q))
e_next y = record { at = λ ts. y.at (next ts) }

pub e_pure : {A : Type 0} (a : A) → Early (pure a)
e_pure a = record { at = λ ts. tt }

pub e_made : {A B : Type 0} {p : Reader A} (f : A → B) → Early p → Early (λ ts. and_then (p ts) (λ a. pure (f a)))
e_made f x = e_then x (λ a. e_pure (f a))

pub e_take : Early take_token
e_take = record { at = λ ts. tt }

pub e_here : Early here
e_here = record { at = λ ts. tt }

pub e_stop : {A : Type 0} → Early {A = A} (stop Expected)
e_stop = record { at = λ ts. expected_end ts }

pub e_refuse : {A : Type 0} → Early {A = A} (λ ts. Err (read_errs.Fault (refusal ts), ts))
e_refuse = record { at = λ ts. refusal_end ts }

pub e_choose : {A : Type 0} (test : List Token → Bool) {p q : Reader A} → Early p → Early q → Early (λ ts. if test ts then p ts else q ts)
e_choose test x y = record { at = λ ts. test_end (test ts) _ _ (x.at ts) (y.at ts) }

pub e_behind : {A : Type 0} (test : List Token → Bool) {p q : Reader A} → Early p → Early q → Early (λ ts. if test ts then p (next ts) else q ts)
e_behind test x y = record { at = λ ts. test_end (test ts) _ _ (x.at (next ts)) (y.at ts) }

-- the place of the token that is seen
pub e_placed : {A : Type 0} (test : List Token → Bool) (at : List Token → Span) {p : Span → Reader A} {q : Reader A} → ((place : Span) → Early (p place)) → Early q → Early (λ ts. if test ts then p (at ts) (next ts) else q ts)
e_placed test at x y = record { at = λ ts. test_end (test ts) _ _ ((x (at ts)).at (next ts)) (y.at ts) }

pub e_expect : (mark : Mark) → Early (expect mark)
unfolding expect
e_expect mark = record { at = λ ts. test_end (sees mark ts) _ _ (tt) (expected_end ts) }

pub e_expect_word : (word : Word) → Early (expect_word word)
unfolding expect_word
e_expect_word word = record { at = λ ts. test_end (sees_word word ts) _ _ (tt) (expected_end ts) }

pub e_sep : (line : InLine) → Early (sep line)
unfolding sep
e_sep line = record { at = λ ts. test_end (sees_sep line ts) _ _ (tt) (extra_end ts) }

-- ---- series of things

pub more_end : {A : Type 0} (b : Bool) {p q : Reader A} → Early p → Early q → Early (if b then p else q)
more_end true x y = x
more_end false x y = y

pub e_repeat : {S : Type 0} (turn : Turn S) → ((found : S) → Early (turn found)) → (n : ℕ) (found : S) → Early (repeat turn n found)
unfolding repeat
e_repeat turn x zero found = e_refuse
e_repeat turn x (suc n) found = e_then (x found) (λ p. more_end p.1 (e_repeat turn x n p.0) (e_pure p.0))

pub e_all : {S : Type 0} (turn : Turn S) → ((found : S) → Early (turn found)) → (found : S) → Early (all_of turn found)
e_all turn x found = record { at = λ ts. (e_repeat turn x (length ts + 1) found).at ts }

pub e_comma : {A : Type 0} (found : List A) (x : A) → Early (comma_behind found x)
unfolding comma_behind
e_comma found x = record { at = λ ts. test_end (sees Comma ts) _ _ (tt) (tt) }

-- ---- names and types

name_kind_end : (at : Span) (kind : TokenKind) → Early (name_by at kind)
name_kind_end at (kinds.Name text) = e_then e_take (λ u. e_pure (record { at = at; text = text }))
name_kind_end at kind = e_stop

name_end : (o : Option Token) → Early (name_at o)
name_end None = e_stop
name_end (Some t) = name_kind_end t.at t.kind

pub e_name : Early name
unfolding name
e_name = record { at = λ ts. (name_end (first ts)).at ts }

type_base_end : (at : Span) (o : Option Base) → Early (type_from at o)
type_base_end at None = e_refuse
type_base_end at (Some base) = record { at = λ ts. tt }

type_end : (o : Option Token) → Early (type_at o)
type_end None = e_refuse
type_end (Some t) = type_base_end t.at _

pub e_type : Early type_name
unfolding type_name
e_type = record { at = λ ts. (type_end (first ts)).at ts }

pub e_any_name : Early any_name
unfolding any_name
e_any_name = e_choose sees_name (e_made _ e_name) (e_pure None)

pub e_any_type : Early any_type
unfolding any_type
e_any_type = e_behind (sees_word w.KwAs) (e_made _ e_type) (e_pure None)

-- ---- expressions

next_early : (P : ℕ → List Token → Type 0) (front rest : List Token) (kind : FaultKind) → rest ≡ [] → Next P front rest kind → kind ≡ Expected
next_early P front rest Expected is n = refl
next_early P front rest DeepNesting is n = let bad : [] ≡ n.token ∷ n.behind = sym is ∙ n.is in cc
next_early P front rest OutOfProfile is n = let bad : [] ≡ n.token ∷ n.behind = sym is ∙ n.is in cc
next_early P front rest kind is n = absurd n

plain_first : (t : Token) (ts : List Token) → is_refused_kind t.kind ≡ false → IsPlain (t ∷ ts)
unfolding first
plain_first t ts plain = plain

next_deep : (P : ℕ → List Token → Type 0) (front rest : List Token) → Next P front rest DeepNesting → IsPlain rest
next_deep P front rest n = subst IsPlain (sym n.is) (plain_first n.token n.behind n.plain)

next_end : (P : ℕ → List Token → Type 0) (front rest : List Token) (kind : FaultKind) → Next P front rest kind → AtEnd kind rest
next_end P front rest kind n = (λ is. next_early P front rest kind is n, λ deep. next_deep P front rest (subst (Next P front rest) deep n))

expr_end : (most level : ℕ) → level ≤ 14 → (ts : List Token) → Failed AtEnd (expr most level ts)
expr_end most level low ts = map_failed (FaultOf (NoRoom most) (Whole most level) ts) AtEnd (expr most level ts) (begun most level low ts) (λ kind rest f. next_end (Whole most level) f.front rest kind f.next)

pub e_whole : (most : ℕ) → Early (whole most)
unfolding whole
e_whole most = record { at = λ ts. failed_pure AtEnd (expr most 1 ts) (λ (x : Measured). x.0) (expr_end most 1 (omega arith) ts) }

pub e_place : (most : ℕ) → Early (place most)
unfolding place
e_place most = e_choose (sees At) e_stop (e_choose (sees Minus) e_stop (record { at = λ ts. failed_pure AtEnd (expr most 14 ts) (λ (x : Measured). x.0) (expr_end most 14 (omega arith) ts) }))

pass_end : (kind : FaultKind) (ts : List Token) → refusal ts ≡ kind → Failed AtEnd (pass_by kind ts)
pass_end OutOfProfile ts is = (λ e. sym is ∙ refusal_early ts e, λ deep. cc)
pass_end kind ts is = tt

pub e_no_value : Early no_value
unfolding no_value
e_no_value = record { at = λ ts. pass_end (refusal ts) ts refl }

pub e_any_value : (most : ℕ) → Early (any_value most)
unfolding any_value
e_any_value most = e_choose sees_value (e_made _ (e_whole most)) (e_then e_no_value (λ u. e_pure None))

pub e_value_behind : (most : ℕ) (word : Word) → Early (value_behind most word)
unfolding value_behind
e_value_behind most word = e_behind (sees_word word) (e_made _ (e_whole most)) (e_pure None)

pub e_initial : (most : ℕ) → Early (initial most)
unfolding initial
e_initial most = e_behind (sees Equal) (e_made _ (e_whole most)) (e_pure None)
