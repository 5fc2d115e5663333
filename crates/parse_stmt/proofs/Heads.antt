-- Parameters and heads are read exactly.
use Rattle.std.proofs.Common.{◌≡◌, Bool, true, false, List, [], ◌∷◌, Option, Some, None, Ok, Err, refl, sym, ap, ◌∙◌, subst, inl, inr}
use Rattle.fb_base.specs.declared.fault.Span.{Span}
use Rattle.fb_lexer.specs.declared.token.Token.{Token}
use Rattle.fb_lexer.specs.declared.token.TokenKind.{TokenKind}
use Rattle.fb_lexer.specs.declared.token.TokenKind.TheVariants as kinds
use Rattle.fb_lexer.specs.declared.token.Mark.TheVariants.{Open, Close, Comma}
use Rattle.fb_lexer.specs.declared.word.Word.{Word}
use Rattle.fb_lexer.specs.declared.word.Word.TheVariants as w
use Rattle.fb_ast.specs.declared.operator.Binary.{Binary}
use Rattle.fb_ast.specs.declared.part.Name.{Name}
use Rattle.fb_ast.specs.declared.part.Mode.{Mode}
use Rattle.fb_ast.specs.declared.part.Mode.TheVariants as mode
use Rattle.fb_ast.specs.declared.part.Param.{Param}
use Rattle.fb_ast.specs.declared.part.Head.{Head}
use Rattle.fb_ast.specs.declared.part.Head.TheVariants as head
use Rattle.fb_ast.specs.declared.part.Item.TheVariants as item
use Rattle.parse_expr.specs.Reading.{first, sees, sees_word, expect_word, Reader, Outcome, and_then}
use Rattle.parse_expr.specs.Types.{name}
use Rattle.parse_expr.proofs.Sound.{Done}
use Rattle.parse_parts.specs.Steps.{sees_name, is_name, any_name}
use Rattle.parse_parts.specs.Heads.{operator_at, mark_by}
use Rattle.parse_parts.specs.Heads as reading
use Rattle.parse_stmt.specs.Phrases.{Phrase, gives, Then, ◌>>◌, either, maybe, word, mark, IsName, Listed, here, ty, last, another}
use Rattle.parse_stmt.specs.Phrases as phrases
use Rattle.parse_stmt.specs.Statements.{Chosen}
use Rattle.parse_stmt.specs.Texts as grammar
use Rattle.parse_stmt.proofs.Exact.{next_kind, Follow, always, Exact, Starts, exact_then, exact_weaker, exact_behind, exact_choose, leave_next}
use Rattle.parse_stmt.proofs.Smallest.{exact_word, exact_mark, exact_name, exact_type, exact_here, no_pointer, next_word, starts_word, starts_mark}
use Rattle.parse_stmt.proofs.Lists.{Under, starts_gives, exact_gives, exact_made, word_none, mark_none, no_word, no_mark, starts_either, starts_then, exact_list}
use Rattle.parse_stmt.proofs.Dims.{closes, closing, under_closing, under_closes, same_under, next_name}
use Rattle.parse_stmt.proofs.Parts.{name_seen}

-- ---- readers that do the same

pub exact_same : {A : Type 0} {p q : Reader A} {P : Phrase A} {F : Follow} → ((ts : List Token) → p ts ≡ q ts) → Exact p P F → Exact q P F
exact_same {A = A} {P = P} same x = record {
  sound = λ ts. subst (λ (o : Outcome A). Done (P ts) o) (same ts) (x.sound ts);
  finds = λ ts a rest t f. sym (same ts) ∙ x.finds ts a rest t f;
  within = x.within;
}

pub regroup : {A B C : Type 0} (o : Outcome A) (f : A → Reader B) (g : B → Reader C) → and_then o (λ a r. and_then (f a r) g) ≡ and_then (and_then o f) g
regroup (Ok p) f g = refl
regroup (Err e) f g = refl

-- ---- parameters

-- a name, or As
abbrev pub name_or_as : Follow
name_or_as (Some (kinds.Name text)) = true
name_or_as (Some (kinds.Word w.KwAs)) = true
name_or_as other = false

abbrev pub as_only : Follow
as_only (Some (kinds.Word w.KwAs)) = true
as_only other = false

as_or_name : Under as_only name_or_as
as_or_name (Some (kinds.Word w.KwAs)) is = refl
as_or_name other is = cc

-- ByRef alone
abbrev by_ref : Follow
by_ref (Some (kinds.Word w.KwByRef)) = true
by_ref other = false

no_val : (ts : List Token) (a : Option Mode) (rest : List Token) → either (word w.KwByRef >> gives (Some mode.ByRef)) (gives None) ts a rest → name_or_as (next_kind rest) ≡ true → sees_word w.KwByVal ts ≡ false
no_val ts a rest (inl t) f = no_word w.KwByVal by_ref ts refl (ap by_ref (next_word w.KwByRef ts t.front.0)) (sees_word w.KwByVal ts) refl
no_val ts a rest (inr t) f = word_none None w.KwByVal name_or_as refl ts a rest t f

as_no_name_by : (kind : TokenKind) → as_only (Some kind) ≡ true → is_name kind ≡ false
as_no_name_by (kinds.Word w.KwAs) is = refl
as_no_name_by kind is = cc

as_no_name : (ts : List Token) → as_only (next_kind ts) ≡ true → sees_name ts ≡ false
unfolding sees_name first
as_no_name [] is = cc
as_no_name (t ∷ ts) is = as_no_name_by t.kind is

exact_mode : Exact reading.any_mode grammar.any_mode name_or_as
unfolding reading.any_mode
exact_mode = exact_behind (sees_word w.KwByVal) (exact_gives (Some mode.ByVal) name_or_as)
    (exact_behind (sees_word w.KwByRef) (exact_gives (Some mode.ByRef) name_or_as) (exact_gives None name_or_as) (word_none None w.KwByRef name_or_as refl))
    no_val

exact_param_name : (nameless : Bool) → Exact (reading.param_name nameless) (grammar.param_name nameless) as_only
unfolding any_name
exact_param_name true = exact_choose sees_name (exact_weaker (exact_made (λ (n : Name). Some n) exact_name) (λ o f. refl)) (exact_gives None as_only)
    (λ ts a rest t f. name_seen ts t.given t.between t.front) (λ ts a rest t f. as_no_name ts (ap (λ (r : List Token). as_only (next_kind r)) (sym t.1) ∙ f))
exact_param_name false = exact_weaker (exact_made (λ (n : Name). Some n) exact_name) (λ o f. refl)

param_name_starts : (nameless : Bool) → Starts (grammar.param_name nameless) as_only name_or_as
param_name_starts true ts a rest (inl t) f = ap name_or_as (next_name ts t.given t.between t.front)
param_name_starts true ts a rest (inr t) f = ap (λ (r : List Token). name_or_as (next_kind r)) (sym t.1) ∙ as_or_name (next_kind rest) f
param_name_starts false ts a rest t f = ap name_or_as (next_name ts t.given t.between t.front)

-- a comma or the closing parenthesis
abbrev pub in_params : Follow
in_params (Some (kinds.Mark Comma)) = true
in_params (Some (kinds.Mark Close)) = true
in_params other = false

params_pointer : Under in_params no_pointer
params_pointer (Some (kinds.Mark Comma)) is = refl
params_pointer (Some (kinds.Mark Close)) is = refl
params_pointer other is = cc

pub exact_param : (nameless : Bool) → Exact (reading.param nameless) (grammar.param nameless) in_params
unfolding reading.param
exact_param nameless = exact_then exact_here (λ at. exact_then exact_mode (λ m. exact_then (exact_param_name nameless) (λ n. exact_then (exact_word w.KwAs)
    (λ u. exact_weaker (exact_made (λ t. record { at = at; mode = m; name = n; ty = t }) exact_type) params_pointer)
    (λ u ts a rest t f. refl))
    (λ n. starts_word w.KwAs _ in_params as_only refl))
    (λ m ts a rest t f. param_name_starts nameless ts t.given t.between t.front (ap as_only (next_word w.KwAs t.between t.back.front.0))))
    (λ at ts a rest t f. refl)

-- what a parameter begins with is no mark
abbrev not_mark : Follow
not_mark (Some (kinds.Mark which)) = false
not_mark other = true

name_unmarked : (nameless : Bool) (ts : List Token) (n : Option Name) (rest : List Token) → grammar.param_name nameless ts n rest → sees_word w.KwAs rest ≡ true → not_mark (next_kind ts) ≡ true
name_unmarked true ts n rest (inl t) next_as = ap not_mark (next_name ts t.given t.between t.front)
name_unmarked true ts n rest (inr t) next_as = ap (λ (r : List Token). not_mark (next_kind r)) (sym t.1) ∙ ap not_mark (next_word w.KwAs rest next_as)
name_unmarked false ts n rest t next_as = ap not_mark (next_name ts t.given t.between t.front)

mode_unmarked : (nameless : Bool) (ts : List Token) (m : Option Mode) (between : List Token) (n : Option Name) (behind : List Token) → grammar.any_mode ts m between → grammar.param_name nameless between n behind
    → sees_word w.KwAs behind ≡ true → not_mark (next_kind ts) ≡ true
mode_unmarked nameless ts m between n behind (inl t) p next_as = ap not_mark (next_word w.KwByVal ts t.front.0)
mode_unmarked nameless ts m between n behind (inr (inl t)) p next_as = ap not_mark (next_word w.KwByRef ts t.front.0)
mode_unmarked nameless ts m between n behind (inr (inr t)) p next_as = ap (λ (r : List Token). not_mark (next_kind r)) (sym t.1) ∙ name_unmarked nameless between n behind p next_as

pub param_unmarked : (nameless : Bool) (ts : List Token) (x : Param) (rest : List Token) → grammar.param nameless ts x rest → not_mark (next_kind ts) ≡ true
param_unmarked nameless ts x rest t =
    ap (λ (r : List Token). not_mark (next_kind r)) (sym t.front.1)
    ∙ mode_unmarked nameless t.between t.back.given t.back.between t.back.back.given t.back.back.between t.back.front t.back.back.front t.back.back.back.front.0

params_unmarked : (nameless : Bool) (ts : List Token) (all : List Param) (rest : List Token) → Listed (grammar.param nameless) ts all rest → not_mark (next_kind ts) ≡ true
params_unmarked nameless ts all rest (last a b x t) = param_unmarked nameless ts x rest t
params_unmarked nameless ts all rest (another a between b x behind t comma l) = param_unmarked nameless ts x between t

pub exact_params : (nameless : Bool) → Exact (reading.param_list nameless) (Listed (grammar.param nameless)) closing
unfolding reading.param_list reading.param_turn
exact_params nameless = exact_list (reading.param nameless) (grammar.param nameless) in_params closing (exact_param nameless) (under_closing in_params refl) refl refl

pub exact_some_params : (nameless : Bool) → Exact (reading.some_params nameless) (grammar.some_params nameless) always
unfolding reading.some_params
exact_some_params nameless = exact_then (exact_params nameless) (λ all. exact_then (exact_mark Close) (λ u. exact_gives all always) (λ u ts a rest t f. refl)) (λ all. starts_mark Close (gives all) always closing refl)

pub exact_any_params : (nameless : Bool) (G : Follow) → G (Some (kinds.Mark Open)) ≡ false → Exact (reading.any_params nameless) (grammar.any_params nameless) G
unfolding reading.any_params reading.params_behind
exact_any_params nameless G not = exact_behind (sees Open)
    (exact_weaker (exact_behind (sees Close) (exact_gives [] always) (exact_some_params nameless)
    (λ ts a rest t f. no_mark Close not_mark ts refl (params_unmarked nameless ts t.given t.between t.front) (sees Close ts) refl)) (λ o f. refl))
    (exact_gives [] G) (mark_none [] Open G not)

pub exact_one_param : (nameless : Bool) → Exact (reading.one_param nameless) (grammar.one_param nameless) always
unfolding reading.one_param
exact_one_param nameless = exact_then (exact_mark Open) (λ u. exact_then (exact_param nameless) (λ p. exact_then (exact_mark Close) (λ v. exact_gives p always) (λ v ts a rest t f. refl))
    (λ p. starts_mark Close (gives p) always in_params refl)) (λ u ts a rest t f. refl)

pub exact_no_params : (G : Follow) → G (Some (kinds.Mark Open)) ≡ false → Exact reading.no_params grammar.no_params G
unfolding reading.no_params
exact_no_params G not = exact_behind (sees Open) (exact_weaker (exact_mark Close) (λ o f. refl)) (exact_gives tt G) (mark_none tt Open G not)

-- ---- heads

-- what may come behind the name of a head
abbrev pub head_next : Follow
head_next (Some (kinds.Mark Open)) = true
head_next (Some (kinds.Word w.KwAs)) = true
head_next other = closes other

closes_head : Under closes head_next
closes_head (Some (kinds.Mark Open)) is = refl
closes_head (Some (kinds.Word w.KwAs)) is = refl
closes_head other is = is

exact_overload : Exact reading.overload grammar.overload head_next
unfolding reading.overload
exact_overload = exact_behind (sees_word w.KwOverload) (exact_gives true head_next) (exact_gives false head_next) (word_none false w.KwOverload head_next refl)

params_start : (nameless : Bool) (G : Follow) → Under G head_next → Starts (grammar.any_params nameless) G head_next
params_start nameless G under = starts_either G head_next (starts_mark Open _ G head_next refl) (starts_gives [] G head_next under)

as_head : Under as_only head_next
as_head (Some (kinds.Word w.KwAs)) is = refl
as_head other is = cc

pub exact_sub_head : (at : Span) (n : Name) (nameless : Bool) → Exact (reading.sub_head at n nameless) (grammar.sub_head at n nameless) closes
unfolding reading.sub_head
exact_sub_head at n nameless = exact_then exact_overload (λ more. exact_made (λ all. head.Sub at n more all) (exact_any_params nameless closes refl))
    (λ more. starts_then closes closes head_next (params_start nameless closes closes_head) (λ all. starts_gives _ closes closes (same_under closes)))

pub closes_pointer : Under closes no_pointer
closes_pointer = under_closes no_pointer refl refl refl refl

pub exact_function_head : (at : Span) (n : Name) (nameless : Bool) → Exact (reading.function_head at n nameless) (grammar.function_head at n nameless) closes
unfolding reading.function_head
exact_function_head at n nameless = exact_then exact_overload (λ more. exact_then (exact_any_params nameless as_only refl) (λ all. exact_then (exact_word w.KwAs)
    (λ u. exact_weaker (exact_made (λ t. head.Function at n more all t) exact_type) closes_pointer) (λ u ts a rest t f. refl))
    (λ all. starts_word w.KwAs _ closes as_only refl))
    (λ more. starts_then closes as_only head_next (params_start nameless as_only as_head) (λ all. starts_word w.KwAs _ closes as_only refl))

function_or : (at : Span) → Exact (λ ts. and_then (and_then (expect_word w.KwFunction ts) (λ u. name)) (λ n. reading.function_head at n true)) (word w.KwFunction >> Then phrases.name (λ n. grammar.function_head at n true)) closes
function_or at = exact_same (λ ts. regroup (expect_word w.KwFunction ts) (λ u. name) (λ n. reading.function_head at n true))
    (exact_then (exact_word w.KwFunction) (λ u. exact_then exact_name (λ n. exact_function_head at n true) (λ n ts a rest t f. refl)) (λ u ts a rest t f. refl))

-- Function alone, and Sub alone
abbrev pub is_function : Follow
is_function (Some (kinds.Word w.KwFunction)) = true
is_function other = false

abbrev pub only_sub : Follow
only_sub (Some (kinds.Word w.KwSub)) = true
only_sub other = false

pub exact_declared_head : Exact reading.declared_head grammar.declared_head closes
unfolding reading.declared_head
exact_declared_head = exact_then exact_here (λ at. exact_behind (sees_word w.KwSub) (exact_then exact_name (λ n. exact_sub_head at n true) (λ n ts a rest t f. refl)) (function_or at)
    (λ ts a rest t f. no_word w.KwSub is_function ts refl (ap is_function (next_word w.KwFunction ts t.front.0)) (sees_word w.KwSub ts) refl))
    (λ at ts a rest t f. refl)

-- ---- operators

pub operator_sound : (ts : List Token) (o : Option Binary) → operator_at (first ts) ≡ o → Done (Chosen operator_at ts) (mark_by o ts)
operator_sound ts None is = tt
operator_sound ts (Some which) is = record { is = is; behind = refl }

pub exact_operator : Exact reading.operator_mark grammar.operator_mark always
unfolding reading.operator_mark
exact_operator = record {
  sound = λ ts. operator_sound ts (operator_at (first ts)) refl;
  finds = λ ts a rest t f. rw (t.is, t.behind) refl;
  within = λ ts a rest t. rw (t.behind) (leave_next ts);
}

pub exact_declared_operator : (at : Span) → Exact (reading.declared_operator at) (grammar.declared_operator at) closes
unfolding reading.declared_operator
exact_declared_operator at = exact_then exact_here (λ mark_at. exact_then exact_operator (λ which. exact_then (exact_mark Open) (λ u. exact_then (exact_some_params true) (λ all. exact_then (exact_word w.KwAs)
    (λ v. exact_weaker (exact_made (λ t. item.DeclareOperator at which mark_at all t) exact_type) closes_pointer) (λ v ts a rest t f. refl))
    (λ all ts a rest t f. refl)) (λ u ts a rest t f. refl)) (λ which ts a rest t f. refl)) (λ mark_at ts a rest t f. refl)

head_by : (ts between : List Token) (h : Head) (rest : List Token) → between ≡ ts
    → (at : Span) → either (word w.KwSub >> Then phrases.name (λ n. grammar.sub_head at n true)) (word w.KwFunction >> Then phrases.name (λ n. grammar.function_head at n true)) between h rest
    → (other : Word) → is_function (Some (kinds.Word other)) ≡ false → only_sub (Some (kinds.Word other)) ≡ false → sees_word other ts ≡ false
head_by ts between h rest same at (inl t) other a b = no_word other only_sub ts b (ap (λ (m : List Token). only_sub (next_kind m)) (sym same) ∙ ap only_sub (next_word w.KwSub between t.front.0)) (sees_word other ts) refl
head_by ts between h rest same at (inr t) other a b = no_word other is_function ts a (ap (λ (m : List Token). is_function (next_kind m)) (sym same) ∙ ap is_function (next_word w.KwFunction between t.front.0)) (sees_word other ts) refl

pub head_starts : (ts : List Token) (h : Head) (rest : List Token) → grammar.declared_head ts h rest → (other : Word) → is_function (Some (kinds.Word other)) ≡ false → only_sub (Some (kinds.Word other)) ≡ false → sees_word other ts ≡ false
head_starts ts h rest t other a b = head_by ts t.between h rest t.front.1 t.given t.back other a b

pub exact_declared : (at : Span) → Exact (reading.declared at) (either (word w.KwOperator >> grammar.declared_operator at) (Then grammar.declared_head (λ h. gives (item.Declare at h)))) closes
unfolding reading.declared
exact_declared at = exact_behind (sees_word w.KwOperator) (exact_declared_operator at) (exact_made (λ h. item.Declare at h) exact_declared_head)
    (λ ts a rest t f. head_starts ts t.given t.between t.front w.KwOperator refl refl)
