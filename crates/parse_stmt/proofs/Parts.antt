-- Parts of loops and of Select are read exactly.
use Rattle.std.proofs.Common.{◌≡◌, suc, ℕ, true, false, List, [], ◌∷◌, Option, Some, None, is_some, Ok, refl, sym, ap, ◌∙◌, subst, inl, inr}
use Rattle.fb_base.specs.declared.fault.Span.{Span}
use Rattle.fb_lexer.specs.declared.token.Token.{Token}
use Rattle.fb_lexer.specs.declared.token.TokenKind.{TokenKind}
use Rattle.fb_lexer.specs.declared.token.TokenKind.TheVariants as kinds
use Rattle.fb_lexer.specs.declared.word.Word.TheVariants as w
use Rattle.fb_ast.specs.declared.expr.Expr.{Expr}
use Rattle.fb_ast.specs.declared.part.Name.{Name}
use Rattle.fb_ast.specs.declared.stmt.Until.{Until}
use Rattle.fb_ast.specs.declared.stmt.Test.{Test}
use Rattle.fb_ast.specs.declared.stmt.Case.{Case}
use Rattle.fb_ast.specs.declared.stmt.Case.TheVariants as case
use Rattle.fb_ast.specs.declared.stmt.Cases.TheVariants as cases
use Rattle.parse_expr.specs.Reading.{first, next, same_word, is_word, sees_word, Outcome, and_then, pure}
use Rattle.parse_expr.proofs.Sound.{Done, bind}
use Rattle.parse_expr.proofs.Ends.{Suffixes}
use Rattle.parse_parts.specs.Words.{until_of}
use Rattle.parse_parts.specs.Steps.{place_at, whole, sees_value, sees_name, is_name, any_name, value_behind}
use Rattle.parse_parts.specs.Cases.{until_at, comparison_at}
use Rattle.parse_parts.specs.Cases as cases_read
use Rattle.parse_stmt.specs.Blocks as reading
use Rattle.parse_stmt.specs.Phrases.{Phrase, gives, Then, ◌>>◌, either, word, here, IsName, Listed, maybe, behind_word, expression, last, another}
use Rattle.parse_stmt.specs.Phrases as phrases
use Rattle.parse_stmt.specs.Statements.{Chosen}
use Rattle.parse_stmt.specs.Statements as grammar
use Rattle.parse_stmt.proofs.Exact.{next_kind, Follow, Exact, exact_then, exact_weaker, exact_behind, exact_choose, same_end, end_of_end, leave_next}
use Rattle.parse_stmt.proofs.Smallest.{exact_word, exact_name, exact_whole, ends_expression, next_word, starts_word}
use Rattle.parse_stmt.proofs.Lists.{starts_gives, exact_gives, exact_made, exact_behind_word, word_none, no_word, starts_either, starts_then, exact_list}
use Rattle.parse_stmt.proofs.Dims.{closes, comma_or_end, comma_expression, closes_comma, closes_expression}
use Rattle.parse_stmt.proofs.Values.{value_seen, kind_of_value, begins_kind, same_answer}
use Rattle.parse_stmt.proofs.Plain.{exact_chosen}
use Rattle.parse_stmt.proofs.Ended.{as_ended, as_exact, ended_behind, token_then}

-- ---- words that begin no expression

value_no_word_by : (kind : TokenKind) → begins_kind kind ≡ true → (is_word w.KwIs kind ≡ false) × (is_word w.KwElse kind ≡ false)
unfolding same_word
value_no_word_by (kinds.Word w.KwIs) is = cc
value_no_word_by (kinds.Word w.KwElse) is = cc
value_no_word_by kind is = (refl, refl)

value_no_word : (ts : List Token) → sees_value ts ≡ true → (sees_word w.KwIs ts ≡ false) × (sees_word w.KwElse ts ≡ false)
unfolding sees_word first
value_no_word [] is = (refl, refl)
value_no_word (t ∷ ts) is = value_no_word_by t.kind (sym (kind_of_value (t ∷ ts)) ∙ is)

-- ---- names that may be missing

closes_no_name : (kind : TokenKind) → closes (Some kind) ≡ true → is_name kind ≡ false
closes_no_name kinds.Colon is = refl
closes_no_name kinds.LineEnd is = refl
closes_no_name (kinds.Word w.KwElse) is = refl
closes_no_name kind is = cc

closed_no_name : (ts : List Token) → closes (next_kind ts) ≡ true → sees_name ts ≡ false
unfolding sees_name first
closed_no_name [] is = refl
closed_no_name (t ∷ ts) is = closes_no_name t.kind is

pub name_seen : (ts : List Token) (n : Name) (rest : List Token) → IsName ts n rest → sees_name ts ≡ true
unfolding sees_name first
name_seen ts n rest t = rw (t.is, t.kind) refl

pub exact_any_name : Exact any_name (maybe phrases.name) closes
unfolding any_name
exact_any_name = exact_choose sees_name (exact_weaker (exact_made (λ (n : Name). Some n) exact_name) (λ o f. refl)) (exact_gives None closes)
    (λ ts a rest t f. name_seen ts t.given t.between t.front) (λ ts a rest t f. closed_no_name ts (ap (λ (r : List Token). closes (next_kind r)) (sym t.1) ∙ f))

-- ---- counters

abbrev pub step_or_end : Follow
step_or_end (Some (kinds.Word w.KwStep)) = true
step_or_end other = closes other

step_expression : (o : Option TokenKind) → step_or_end o ≡ true → ends_expression o ≡ true
step_expression (Some (kinds.Word w.KwStep)) is = refl
step_expression other is = closes_expression other is

pub exact_range : (deep : ℕ) → (inner : _) (room : ℕ) → Exact (reading.range (suc deep) inner room) (grammar.range (suc deep)) closes
unfolding reading.range value_behind
exact_range deep inner room = exact_then (exact_whole deep) (λ start. exact_then (exact_word w.KwTo) (λ u. exact_then (exact_whole deep)
    (λ end. exact_made (λ step. (start, end, step)) (exact_behind_word w.KwStep closes closes_expression refl (exact_whole deep)))
    (λ end. starts_then closes closes ends_expression
    (starts_either closes ends_expression (starts_word w.KwStep _ closes ends_expression refl) (starts_gives None closes ends_expression closes_expression)) (λ step. starts_gives _ closes closes (λ o is. is))))
    (λ u ts b rest t f. refl))
    (λ start. starts_word w.KwTo _ closes ends_expression refl)

-- ---- tests

no_until : (kind : TokenKind) → closes (Some kind) ≡ true → until_of kind ≡ None
no_until kinds.Colon is = refl
no_until kinds.LineEnd is = refl
no_until (kinds.Word w.KwElse) is = refl
no_until kind is = cc

none_until : (ts : List Token) → closes (next_kind ts) ≡ true → until_at (first ts) ≡ None
unfolding first
none_until [] is = refl
none_until (t ∷ ts) is = no_until t.kind is

test_sound : (deep : ℕ) → (ts : List Token) (o : Option Until) → until_at (first ts) ≡ o → Done (maybe (grammar.test (suc deep)) ts) (cases_read.test_by (suc deep) (place_at ts) o ts)
test_sound deep ts None is = inr (refl, refl)
test_sound deep ts (Some which) is =
    bind (expression (suc deep) (next ts)) (maybe (grammar.test (suc deep)) ts) (whole (suc deep) (next ts)) _ ((exact_whole deep).sound (next ts))
    (λ x rest t. inl (record {
      given = record { at = place_at ts; word = which; condition = x };
      between = rest;
      front = record { given = place_at ts; between = ts; front = (refl, refl); back = record { given = which; between = next ts; front = record { is = is; behind = refl }; back = record { given = x; between = rest; front = t; back = (refl, refl) } } };
      back = (refl, refl);
    }))

test_read : (deep : ℕ) → (ts : List Token) (which : Until) (between : List Token) (x : Expr) (rest : List Token) → Chosen until_at ts which between → expression (suc deep) between x rest → closes (next_kind rest) ≡ true
    → cases_read.test_by (suc deep) (place_at ts) (until_at (first ts)) ts ≡ Ok (Some (record { at = place_at ts; word = which; condition = x }), rest)
test_read deep ts which between x rest c t f =
    rw (c.is) (ap (λ (o : Outcome Expr). and_then o (λ y r. Ok (Some (record { at = place_at ts; word = which; condition = y }), r)))
    ((exact_whole deep).finds (next ts) x rest (subst (λ (m : List Token). expression (suc deep) m x rest) c.behind t) (closes_expression (next_kind rest) f)))

test_finds : (deep : ℕ) → (ts : List Token) (a : Option Test) (rest : List Token) → maybe (grammar.test (suc deep)) ts a rest → closes (next_kind rest) ≡ true → cases_read.test_by (suc deep) (place_at ts) (until_at (first ts)) ts ≡ Ok (a, rest)
test_finds deep ts a rest (inl t) f =
    let h = t.front in let c = h.back in let v = c.back in
    let whole_is : rest ≡ v.between = t.back.1 ∙ v.back.1 in
    let told : a ≡ Some (record { at = place_at ts; word = c.given; condition = v.given }) =
    t.back.0 ∙ ap (λ (y : Test). Some y) (v.back.0 ∙ ap (λ (at : Span). record { at = at; word = c.given; condition = v.given }) h.front.0) in
    test_read deep ts c.given c.between v.given v.between (subst (λ (m : List Token). Chosen until_at m c.given c.between) h.front.1 c.front) v.front (ap (λ (r : List Token). closes (next_kind r)) (sym whole_is) ∙ f)
    ∙ same_answer _ a v.between rest told whole_is
test_finds deep ts a rest (inr t) f = rw (t.0, t.1, none_until ts (ap (λ (r : List Token). closes (next_kind r)) (sym t.1) ∙ f)) refl

test_within : (deep : ℕ) → (ts : List Token) (a : Option Test) (rest : List Token) → maybe (grammar.test (suc deep)) ts a rest → Suffixes rest ts
test_within deep ts a rest (inl t) =
    let h = t.front in let c = h.back in let v = c.back in
    rw (t.back.1 ∙ v.back.1) (end_of_end ((exact_whole deep).within c.between v.given v.between v.front) (rw (c.front.behind, h.front.1) (leave_next ts)))
test_within deep ts a rest (inr t) = rw (t.1) (same_end ts)

pub exact_any_test : (deep : ℕ) → Exact (cases_read.any_test (suc deep)) (maybe (grammar.test (suc deep))) closes
unfolding cases_read.any_test
exact_any_test deep = record { sound = λ ts. test_sound deep ts (until_at (first ts)) refl; finds = test_finds deep; within = test_within deep }

pub exact_last_test : (deep : ℕ) → (one : Option Test) → Exact (cases_read.last_test (suc deep) (is_some one)) (grammar.last_test (suc deep) one) closes
unfolding cases_read.last_test
exact_last_test deep None = exact_any_test deep
exact_last_test deep (Some other) = exact_gives None closes

-- ---- cases

-- Is alone
abbrev only_is : Follow
only_is (Some (kinds.Word w.KwIs)) = true
only_is other = false

exact_is : (deep : ℕ) → (at : Span) → Exact (cases_read.is_case (suc deep) at) (Then (Chosen comparison_at) (λ which. Then (expression (suc deep)) (λ x. gives (case.Is at which x)))) comma_or_end
unfolding cases_read.is_case
exact_is deep at = exact_chosen comparison_at (cases_read.is_by (suc deep) at) (λ which ts. and_then (whole (suc deep) ts) (λ x. pure (case.Is at which x))) (λ which. Then (expression (suc deep)) (λ x. gives (case.Is at which x))) comma_or_end
    (λ ts P. tt) (λ which ts. refl) (λ which. exact_weaker (exact_made (λ x. case.Is at which x) (exact_whole deep)) comma_expression)

exact_from : (deep : ℕ) → (low : Expr) → Exact (cases_read.case_from (suc deep) low) (either (word w.KwTo >> Then (expression (suc deep)) (λ high. gives (case.Range low high))) (gives (case.Value low))) comma_or_end
unfolding cases_read.case_from
exact_from deep low = exact_behind (sees_word w.KwTo) (exact_weaker (exact_made (λ high. case.Range low high) (exact_whole deep)) comma_expression) (exact_gives (case.Value low) comma_or_end)
    (word_none (case.Value low) w.KwTo comma_or_end refl)

pub exact_case : (deep : ℕ) → Exact (cases_read.one_case (suc deep)) (grammar.one_case (suc deep)) comma_or_end
unfolding cases_read.one_case
exact_case deep = as_exact (ended_behind (sees_word w.KwIs) (λ at. as_ended (exact_is deep at))
    (as_ended (exact_then (exact_whole deep) (λ low. exact_from deep low) (λ low. starts_either comma_or_end ends_expression (starts_word w.KwTo _ comma_or_end ends_expression refl) (starts_gives (case.Value low) comma_or_end ends_expression comma_expression))))
    (λ ts a rest t f. (value_no_word ts (value_seen deep ts t.given t.between t.front)).0))

pub exact_cases_list : (deep : ℕ) → Exact (cases_read.case_list (suc deep)) (Listed (grammar.one_case (suc deep))) closes
unfolding cases_read.case_list cases_read.case_turn
exact_cases_list deep = exact_list (cases_read.one_case (suc deep)) (grammar.one_case (suc deep)) comma_or_end closes (exact_case deep) closes_comma refl refl

is_not_else : (ts : List Token) → sees_word w.KwIs ts ≡ true → sees_word w.KwElse ts ≡ false
is_not_else ts is = no_word w.KwElse only_is ts refl (ap only_is (next_word w.KwIs ts is)) (sees_word w.KwElse ts) refl

case_no_else : (deep : ℕ) → (ts : List Token) (x : Case) (rest : List Token) → grammar.one_case (suc deep) ts x rest → sees_word w.KwElse ts ≡ false
case_no_else deep ts x rest (inl t) = is_not_else ts (token_then (sees_word w.KwIs) _ ts x rest t).is
case_no_else deep ts x rest (inr t) = (value_no_word ts (value_seen deep ts t.given t.between t.front)).1

cases_no_else : (deep : ℕ) → (ts : List Token) (all : List Case) (rest : List Token) → Listed (grammar.one_case (suc deep)) ts all rest → sees_word w.KwElse ts ≡ false
cases_no_else deep ts all rest (last a b x t) = case_no_else deep ts x rest t
cases_no_else deep ts all rest (another a between b x behind t comma l) = case_no_else deep ts x between t

pub exact_cases : (deep : ℕ) → Exact (cases_read.cases_ (suc deep)) (grammar.all_cases (suc deep)) closes
unfolding cases_read.cases_
exact_cases deep = exact_behind (sees_word w.KwElse) (exact_gives cases.Else closes) (exact_made (λ all. cases.List all) (exact_cases_list deep)) (λ ts a rest t f. cases_no_else deep ts t.given t.between t.front)
