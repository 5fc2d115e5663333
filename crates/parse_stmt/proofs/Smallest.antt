-- The smallest readers read exactly their phrases.
use Rattle.std.proofs.Common.{◌≡◌, ◌≤◌, ℕ, suc, Bool, true, false, if◌then◌else◌, List, [], ◌∷◌, ◌++◌, Option, Some, None, is_some, Ok, refl, sym, ap, ◌∙◌, arith, rules}
use denote.Enum.Bare.{same_true}
use Rattle.fb_lexer.specs.declared.token.Token.{Token}
use Rattle.fb_lexer.specs.declared.token.TokenKind.{TokenKind}
use Rattle.fb_lexer.specs.declared.token.TokenKind.TheVariants as kinds
use Rattle.fb_lexer.specs.declared.token.Mark.{Mark}
use Rattle.fb_lexer.specs.declared.token.Mark.TheVariants as marks
use Rattle.fb_lexer.specs.declared.word.Word.{Word}
use Rattle.fb_lexer.specs.contracts.word.Word as word_contracts
use Rattle.fb_ast.specs.declared.expr.Expr.{Expr}
use Rattle.fb_ast.specs.declared.part.Name.{Name}
use Rattle.fb_ast.specs.declared.operator.Binary.{Binary}
use Rattle.parse_expr.specs.declared.kinds.Suffix.{Suffix}
use Rattle.parse_expr.specs.Words.{suffix_of, binary_of, is_pointer}
use Rattle.parse_expr.specs.Reading.{first, next, same_word, is_mark, is_word, holds, sees, sees_word, expect, expect_word, Outcome, and_then, take_token}
use Rattle.parse_expr.specs.Types.{type_name, name}
use Rattle.parse_expr.specs.Expr.{Measured, expr, suffix_at, operator_at, at_level}
use Rattle.parse_expr.specs.Grammar.{IsType, Is, Expression, EndsBefore}
use Rattle.parse_expr.proofs.Sound.{Done, bind, by_test, map_done, Splits, NamedBy, name_sound, type_sound, mark_is, IsRead}
use Rattle.parse_expr.proofs.Climbs.{right}
use Rattle.parse_expr.proofs.Unique.{read_is}
use Rattle.parse_expr.proofs.Levels as levels
use Rattle.parse_expr.proofs.Levels.{none_comes}
use Rattle.parse_expr.proofs.Turned.{climb_none}
use Rattle.parse_expr.proofs.Complete.{complete, type_is}
use Rattle.parse_parts.specs.declared.kinds.InLine.{InLine}
use Rattle.parse_parts.specs.Steps.{place_at, sees_sep, extra, whole}
use Rattle.parse_parts.specs.Steps as reading
use Rattle.parse_stmt.specs.Phrases as grammar
use Rattle.parse_stmt.specs.Phrases.{Phrase, gives, Then, either, taken, IsName, mark, word, any_token}
use Rattle.parse_stmt.proofs.Exact.{next_kind, Follow, always, Exact, Starts, exact_taken, same_end, leave_next}

-- ---- marks, words and ends

pub exact_mark : (which : Mark) → Exact (expect which) (mark which) always
unfolding expect
exact_mark which = exact_taken (sees which) _ (λ ts. tt)

pub exact_word : (which : Word) → Exact (expect_word which) (word which) always
unfolding expect_word
exact_word which = exact_taken (sees_word which) _ (λ ts. tt)

pub exact_sep : (line : InLine) → Exact (reading.sep line) (grammar.sep line) always
unfolding reading.sep
exact_sep line = exact_taken (sees_sep line) _ (λ ts. tt)

pub exact_any : Exact take_token any_token always
exact_any = record {
  sound = λ ts. refl;
  finds = λ ts u rest t f. ap (λ (r : List Token). Ok (tt, r)) (sym t);
  within = λ ts u rest t. rw t (leave_next ts);
}

pub exact_here : Exact reading.here grammar.here always
exact_here = record {
  sound = λ ts. (refl, refl);
  finds = λ ts at rest t f. rw (t.0, t.1) refl;
  within = λ ts at rest t. rw t.1 (same_end ts);
}

-- ---- what comes next

pub holds_next : (test : TokenKind → Bool) (ts : List Token) → holds test (first ts) ≡ true → (t : Token) × (ts ≡ t ∷ next ts) × (test t.kind ≡ true)
unfolding first next
holds_next test [] is = cc
holds_next test (t ∷ ts) is = (t, refl, is)

pub word_is : (which : Word) (kind : TokenKind) → is_word which kind ≡ true → kind ≡ kinds.Word which
unfolding same_word
word_is which (kinds.Word found) is = ap kinds.Word (same_true word_contracts.the_type (search rules) found which is)
word_is which (kinds.Mark found) is = cc
word_is which (kinds.Name text) is = cc
word_is which (kinds.Number value) is = cc
word_is which (kinds.Str text) is = cc
word_is which kinds.Colon is = cc
word_is which kinds.LineEnd is = cc

-- what comes next where this word does
pub next_word : (which : Word) (ts : List Token) → sees_word which ts ≡ true → next_kind ts ≡ Some (kinds.Word which)
unfolding sees_word
next_word which ts is =
    let t = holds_next (is_word which) ts is in
    ap next_kind t.1 ∙ ap Some (word_is which t.0.kind t.2)

pub next_mark : (which : Mark) (ts : List Token) → sees which ts ≡ true → next_kind ts ≡ Some (kinds.Mark which)
unfolding sees
next_mark which ts is =
    let t = holds_next (is_mark which) ts is in
    ap next_kind t.1 ∙ ap Some (mark_is which t.0.kind t.2)

pub starts_word : {A : Type 0} (which : Word) (P : Phrase A) (G F : Follow) → F (Some (kinds.Word which)) ≡ true → Starts (Then (word which) (λ (u : Unit {0}). P)) G F
starts_word which P G F is ts a rest t f = ap F (next_word which ts t.front.0) ∙ is

pub starts_mark : {A : Type 0} (which : Mark) (P : Phrase A) (G F : Follow) → F (Some (kinds.Mark which)) ≡ true → Starts (Then (mark which) (λ (u : Unit {0}). P)) G F
starts_mark which P G F is ts a rest t f = ap F (next_mark which ts t.front.0) ∙ is

-- ---- names

opposite : (b : Bool) → (if b then false else true) ≡ true → b ≡ false
opposite true is = cc
opposite false is = refl

name_is : (t : Token) (ts : List Token) (text : List ℕ) → t.kind ≡ kinds.Name text → name (t ∷ ts) ≡ Ok (record { at = t.at; text = text }, ts)
unfolding name first next
name_is t ts text kind = rw kind refl

pub exact_name : Exact name grammar.name always
exact_name = record {
  sound = λ ts. map_done (λ n rest. NamedBy n ts rest) (IsName ts) (name ts) (name_sound ts)
      (λ n rest s. record { token = s.token; text = s.text; is = s.is; kind = s.kind; named = s.name });
  finds = λ ts n rest t f. ap name t.is ∙ name_is t.token rest t.text t.kind ∙ ap (λ (x : Name). Ok (x, rest)) (sym t.named);
  within = λ ts n rest t. rw t.is (record { front = t.token ∷ []; is = refl });
}

-- ---- types

abbrev pub no_pointer : Follow
no_pointer None = true
no_pointer (Some kind) = if is_pointer kind then false else true

unpointed : (ts : List Token) → no_pointer (next_kind ts) ≡ true → holds is_pointer (first ts) ≡ false
unfolding first
unpointed [] is = refl
unpointed (t ∷ ts) is = opposite (is_pointer t.kind) is

pub exact_type : Exact type_name grammar.ty no_pointer
exact_type = record {
  sound = λ ts. map_done (λ x rest. Splits (λ front. IsType front x) ts rest) (grammar.ty ts) (type_name ts) (type_sound ts) (λ x rest s. (s.front, s.is, s.are));
  finds = λ ts x rest t f. ap type_name t.1 ∙ type_is t.2 rest (unpointed rest f);
  within = λ ts x rest t. record { front = t.0; is = t.1 };
}

-- ---- expressions

-- nothing goes on with an expression
abbrev pub ends_expression : Follow
ends_expression None = true
ends_expression (Some kind) = if is_pointer kind then false else (if is_some (suffix_of kind) then false else (if is_some (binary_of kind) then false else true))

ends_by : (t : Token) (ts : List Token) (p : Bool) (s : Option Suffix) (b : Option (Binary × ℕ)) → is_pointer t.kind ≡ p → suffix_of t.kind ≡ s → binary_of t.kind ≡ b
    → (if p then false else (if is_some s then false else (if is_some b then false else true))) ≡ true → EndsBefore (t ∷ ts)
unfolding first
ends_by t ts true s b p x y is = cc
ends_by t ts false (Some suffix) b p x y is = cc
ends_by t ts false None (Some operator) p x y is = cc
ends_by t ts false None None p x y is = (x, ap (at_level 1 t.at) y, p)

pub behind_is : (rest : List Token) → ends_expression (next_kind rest) ≡ true → EndsBefore rest
unfolding first
behind_is [] is = (refl, refl, refl)
behind_is (t ∷ ts) is = ends_by t ts (is_pointer t.kind) (suffix_of t.kind) (binary_of t.kind) refl refl refl is

pub exact_whole : (deep : ℕ) → Exact (whole (suc deep)) (grammar.expression (suc deep)) ends_expression
unfolding whole
exact_whole deep = record {
  sound = λ ts. bind (IsRead (suc deep) 1 ts) (grammar.expression (suc deep) ts) (expr (suc deep) 1 ts) _ (right (suc deep) 1 (omega arith) ts) (λ x rest s. (s.front, s.is, (x.1, s.within, s.are)));
  finds = λ ts x rest t f. ap (λ (o : Outcome Measured). and_then o (λ m r. Ok (m.0, r))) (ap (expr (suc deep) 1) t.1 ∙ read_is deep t.0 rest x t.2.0 t.2.2 t.2.1 (behind_is rest f));
  within = λ ts x rest t. record { front = t.0; is = t.1 };
}

-- ---- places

-- nothing goes on with a place
abbrev pub ends_place : Follow
ends_place None = true
ends_place (Some kind) = if is_pointer kind then false else (if is_some (suffix_of kind) then false else true)

place_ends_by : (t : Token) (ts : List Token) (p : Bool) (s : Option Suffix) → is_pointer t.kind ≡ p → suffix_of t.kind ≡ s
    → (if p then false else (if is_some s then false else true)) ≡ true → (suffix_at (first (t ∷ ts)) ≡ None) × (holds is_pointer (first (t ∷ ts)) ≡ false)
unfolding first
place_ends_by t ts true s p x is = cc
place_ends_by t ts false (Some suffix) p x is = cc
place_ends_by t ts false None p x is = (x, p)

pub place_ends : (rest : List Token) → ends_place (next_kind rest) ≡ true → (suffix_at (first rest) ≡ None) × (holds is_pointer (first rest) ≡ false)
unfolding first
place_ends [] is = (refl, refl)
place_ends (t ∷ ts) is = place_ends_by t ts (is_pointer t.kind) (suffix_of t.kind) refl refl is

pub no_operator : (rest : List Token) → operator_at 14 (first rest) ≡ None
no_operator rest = none_comes 14 rest (λ p comes. let most = levels.always 13 rest (omega arith) p comes in omega arith)

pub place_read : (deep : ℕ) → (front rest : List Token) (tree : Expr) (depth : ℕ) → Is (Expression 14 depth tree) front → depth ≤ suc deep → ends_place (next_kind rest) ≡ true
    → expr (suc deep) 14 (front ++ rest) ≡ Ok ((tree, depth), rest)
place_read deep front rest tree depth is fits ends =
    let e = place_ends rest ends in
    (complete is).whole deep 14 rest fits (omega arith) (omega arith) e.0 e.1 (levels.always 14 rest (omega arith)) ∙ climb_none deep 14 (tree, depth) rest (no_operator rest)

pub exact_place : (deep : ℕ) → Exact (reading.place (suc deep)) (grammar.place (suc deep)) ends_place
unfolding reading.place
exact_place deep = record {
  sound = λ ts. by_test (λ (o : Outcome Expr). Done (grammar.place (suc deep) ts) o) (sees marks.At ts) _ _ (λ is. tt)
      (λ not_at. by_test (λ (o : Outcome Expr). Done (grammar.place (suc deep) ts) o) (sees marks.Minus ts) _ _ (λ is. tt)
      (λ not_minus. bind (IsRead (suc deep) 14 ts) (grammar.place (suc deep) ts) (expr (suc deep) 14 ts) _ (right (suc deep) 14 (omega arith) ts)
      (λ x rest s. (s.front, x.1, s.is, s.within, s.are, not_at, not_minus))));
  finds = λ ts x rest t f. rw (t.5, t.6) (ap (λ (o : Outcome Measured). and_then o (λ m r. Ok (m.0, r))) (ap (expr (suc deep) 14) t.2 ∙ place_read deep t.0 rest x t.1 t.4 t.3 f));
  within = λ ts x rest t. record { front = t.0; is = t.2 };
}
