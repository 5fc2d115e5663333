-- Statements without statements inside are read exactly.
use Rattle.std.proofs.Common.{◌≡◌, ℕ, suc, Bool, true, false, if◌then◌else◌, List, [], ◌∷◌, Option, Some, None, Ok, Err, refl, sym, ap, ◌∙◌, subst, ◌⊎◌, inl, inr, arith}
use Rattle.fb_base.specs.declared.fault.Span.{Span}
use Rattle.fb_lexer.specs.declared.token.Token.{Token}
use Rattle.fb_lexer.specs.declared.token.TokenKind.{TokenKind}
use Rattle.fb_lexer.specs.declared.token.TokenKind.TheVariants as kinds
use Rattle.fb_lexer.specs.declared.token.Mark.TheVariants as marks
use Rattle.fb_lexer.specs.declared.token.Mark.TheVariants.{Open, OpenBracket, CloseBracket, Equal, Semicolon, Comma}
use Rattle.fb_lexer.specs.declared.word.Word.TheVariants as w
use Rattle.fb_ast.specs.declared.expr.Expr.{Expr, out-Expr}
use Rattle.fb_ast.specs.declared.expr.Expr.TheVariants as e
use Rattle.fb_ast.specs.declared.operator.Assignment.{Assignment}
use Rattle.fb_ast.specs.declared.operator.CallWord.{CallWord}
use Rattle.fb_ast.specs.declared.part.Name.{Name}
use Rattle.fb_ast.specs.declared.stmt.Stmt.{Stmt}
use Rattle.fb_ast.specs.declared.stmt.Stmt.TheVariants as s
use Rattle.parse_expr.specs.Words.{suffix_of}
use Rattle.parse_expr.specs.Reading.{first, next, same_mark, is_mark, holds, sees, Reader, Outcome, and_then, pure, take_token}
use Rattle.parse_expr.specs.Productions.{gives as gives_series}
use Rattle.parse_expr.specs.Expr.{Measured, suffix_at, expr, level, operand, primary, climb}
use Rattle.parse_expr.specs.Grammar.{primary as a_primary, nothing as nothing_behind}
use Rattle.parse_expr.proofs.Sound.{Done, bind, by_test, map_done}
use Rattle.parse_expr.proofs.Turned.{suffixes_none, climb_none}
use Rattle.parse_parts.specs.Words.{assignment_of}
use Rattle.parse_parts.specs.Steps.{whole, sees_value, sees_name, is_name, no_value, any_value}
use Rattle.parse_parts.specs.Steps as steps
use Rattle.parse_parts.specs.Simple.{assignment_at, assign, assign_by, must_assign, may_assign, values, value_turn, arguments, call_name, named, is_call, headed, goes_on, sees_bare, valued, sees_open_behind, called, with_place}
use Rattle.parse_parts.specs.Simple as reading
use Rattle.parse_stmt.specs.Phrases.{Phrase, gives, Then, ◌>>◌, either, any_token, mark, word, IsName, Listed, maybe, expression, place, last, another}
use Rattle.parse_stmt.specs.Statements.{Chosen, is_alone, call_only}
use Rattle.parse_stmt.specs.Statements as grammar
use Rattle.parse_expr.proofs.Ends.{Suffixes}
use Rattle.parse_stmt.proofs.Exact.{next_kind, Follow, Exact, exact_then, exact_weaker, exact_behind, exact_choose, end_of_end, leave_next}
use Rattle.parse_stmt.proofs.Smallest.{exact_mark, exact_word, exact_any, exact_name, exact_whole, exact_place, ends_expression, ends_place, no_operator, holds_next}
use Rattle.parse_stmt.proofs.Lists.{Under, exact_gives, exact_made, exact_list}
use Rattle.parse_stmt.proofs.Dims.{closes, closes_expression, under_closes}
use Rattle.parse_stmt.proofs.Values.{value_seen, value_kind, begins_kind, kind_of_value, exact_any_value, exact_passed, same_answer, none_seen, begins_no_assignment, begins_goes_on}

-- ---- arguments without parentheses

pub exact_values : (deep : ℕ) → Exact (values (suc deep)) (Listed (expression (suc deep))) closes
unfolding values value_turn
exact_values deep = exact_list (whole (suc deep)) (expression (suc deep)) ends_expression closes (exact_whole deep) closes_expression refl refl

listed_seen : (deep : ℕ) → (ts : List Token) (all : List Expr) (rest : List Token) → Listed (expression (suc deep)) ts all rest → sees_value ts ≡ true
listed_seen deep ts all rest (last a b x t) = value_seen deep ts x rest t
listed_seen deep ts all rest (another a between b x behind t comma l) = value_seen deep ts x between t

pub exact_arguments : (deep : ℕ) → Exact (arguments (suc deep)) (grammar.values (suc deep)) closes
unfolding arguments
exact_arguments deep = exact_choose sees_value (exact_values deep) (exact_passed []) (λ ts all rest l f. listed_seen deep ts all rest l) (none_seen [])

-- ---- a bare name

record Bare (ts : List Token) : Type 0 where
  name_is : Name
  is : IsName ts name_is (next ts)
  alone : (b : Bool) → holds goes_on (first (next ts)) ≡ b → b ≡ false

pub name_kind : (kind : TokenKind) → is_name kind ≡ true → (text : List ℕ) × (kind ≡ kinds.Name text)
name_kind (kinds.Name text) is = (text, refl)
name_kind (kinds.Mark which) is = cc
name_kind (kinds.Word which) is = cc
name_kind (kinds.Number value) is = cc
name_kind (kinds.Str text) is = cc
name_kind kinds.Colon is = cc
name_kind kinds.LineEnd is = cc

bare_by : (ts : List Token) (a b : Bool) → sees_name ts ≡ a → holds goes_on (first (next ts)) ≡ b → (if a then (if b then false else true) else false) ≡ true → (sees_name ts ≡ true) × (holds goes_on (first (next ts)) ≡ false)
bare_by ts true true p q is = cc
bare_by ts true false p q is = (p, q)
bare_by ts false b p q is = cc

pub bare_is : (ts : List Token) → sees_bare ts ≡ true → (sees_name ts ≡ true) × (holds goes_on (first (next ts)) ≡ false)
unfolding sees_bare
bare_is ts is = bare_by ts (sees_name ts) (holds goes_on (first (next ts))) refl refl is

pub name_stands : (ts : List Token) → sees_name ts ≡ true → (n : Name) × IsName ts n (next ts)
unfolding sees_name
name_stands ts is =
    let t = holds_next is_name ts is in
    let k = name_kind t.0.kind t.2 in
    (record { at = t.0.at; text = k.0 }, record { token = t.0; text = k.0; is = t.1; kind = k.1; named = refl })

-- a name is a place
pub place_of_name : (deep : ℕ) → (ts : List Token) (n : Name) (rest : List Token) → IsName ts n rest → place (suc deep) ts (e.Name n.at n.text) rest
unfolding sees first
place_of_name deep ts n rest t = (
  t.token ∷ [],
  1,
  t.is,
  omega arith,
  rw (t.named) (a_primary t.token (gives_series (e.Name t.token.at t.text)) [] 14 1 (e.Name t.token.at t.text) (rw (t.kind) refl) (rw (t.kind) refl) (omega arith) (nothing_behind 0 (e.Name t.token.at t.text))),
  rw (t.is, t.kind) refl,
  rw (t.is, t.kind) refl,
)

no_suffix : (kind : TokenKind) → goes_on kind ≡ false → suffix_of kind ≡ None
no_suffix (kinds.Mark marks.Open) is = cc
no_suffix (kinds.Mark marks.OpenBracket) is = cc
no_suffix (kinds.Mark marks.Dot) is = cc
no_suffix (kinds.Mark marks.Arrow) is = cc
no_suffix kind is = refl

no_suffix_next : (ts : List Token) → holds goes_on (first ts) ≡ false → suffix_at (first ts) ≡ None
unfolding first
no_suffix_next [] is = refl
no_suffix_next (t ∷ ts) is = no_suffix t.kind is

-- a name with which nothing goes on is the whole place
bare_read : (deep : ℕ) → (ts : List Token) (n : Name) (rest : List Token) → IsName ts n rest → holds goes_on (first rest) ≡ false → expr (suc deep) 14 ts ≡ Ok ((e.Name n.at n.text, 1), rest)
unfolding expr level operand primary first next
bare_read deep ts n rest t off =
    rw (t.is, t.kind, t.named) (ap (λ (o : Outcome Measured). and_then o (climb (expr deep) deep 14)) (suffixes_none deep (e.Name t.token.at t.text, 1) rest (no_suffix_next rest off)) ∙ climb_none deep 14 (e.Name t.token.at t.text, 1) rest (no_operator rest))

tree_in : Expr → Outcome Expr → Expr
tree_in other (Ok p) = p.0
tree_in other (Err p) = other

rest_in : {A : Type 0} → Outcome A → List Token
rest_in (Ok p) = p.1
rest_in (Err p) = p.1

record SamePlace (x y : Expr) (one other : List Token) : Type 0 where
  tree : x ≡ y
  behind : one ≡ other

place_alone : (deep : ℕ) → (ts : List Token) (n : Name) (rest : List Token) → IsName ts n rest → holds goes_on (first rest) ≡ false → steps.place (suc deep) ts ≡ Ok (e.Name n.at n.text, rest)
unfolding steps.place sees first
place_alone deep ts n rest t off =
    let p = place_of_name deep ts n rest t in
    rw (p.5, p.6) (ap (λ (o : Outcome Measured). and_then o (λ m r. Ok (m.0, r))) (bare_read deep ts n rest t off))

-- ... so a place that begins with it is it
same_place : (deep : ℕ) → (ts : List Token) (n : Name) (rest : List Token) → IsName ts n rest → holds goes_on (first rest) ≡ false
    → (x : Expr) (left : List Token) → place (suc deep) ts x left → ends_place (next_kind left) ≡ true → SamePlace x (e.Name n.at n.text) left rest
unfolding tree_in rest_in
same_place deep ts n rest t off x left p f =
    let both = sym ((exact_place deep).finds ts x left p f) ∙ place_alone deep ts n rest t off in
    record { tree = ap (tree_in x) both; behind = ap rest_in both }

-- ---- assignments and calls

closes_place : Under closes ends_place
closes_place = under_closes ends_place refl refl refl refl

-- what an assignment's mark is followed by
chosen_found : (deep : ℕ) → (at : Span) (left : Expr) (other : Reader Stmt) (ts : List Token) (how : Assignment × Span) (between : List Token) (x : Expr) (rest : List Token)
    → Chosen assignment_at ts how between → expression (suc deep) between x rest → closes (next_kind rest) ≡ true
    → assign_by (suc deep) at left other (assignment_at (first ts)) ts ≡ Ok (s.Assign at left how.0 how.1 x, rest)
unfolding assign
chosen_found deep at left other ts how between x rest c t f =
    rw (c.is) (ap (λ (o : Outcome Expr). and_then o (λ y r. Ok (s.Assign at left how.0 how.1 y, r))) ((exact_whole deep).finds (next ts) x rest (subst (λ (m : List Token). expression (suc deep) m x rest) c.behind t) (closes_expression (next_kind rest) f)))

abbrev MoreAssigned : (deep : ℕ) → Span → Expr → List Token → Stmt → List Token → Type 0
MoreAssigned deep at left ts x rest = Then (Chosen assignment_at) (λ how. Then (expression (suc deep)) (λ y. gives (s.Assign at left how.0 how.1 y))) ts x rest

assign_sound : (deep : ℕ) → (at : Span) (left : Expr) (other : Reader Stmt) (Q : Stmt → List Token → Type 0) (ts : List Token)
    → Done Q (other ts) → ((x : Stmt) (rest : List Token) → MoreAssigned deep at left ts x rest → Q x rest)
    → (o : Option (Assignment × Span)) → assignment_at (first ts) ≡ o → Done Q (assign_by (suc deep) at left other o ts)
unfolding assign
assign_sound deep at left other Q ts one more None is = one
assign_sound deep at left other Q ts one more (Some how) is =
    bind (expression (suc deep) (next ts)) Q (whole (suc deep) (next ts)) _ ((exact_whole deep).sound (next ts))
    (λ y rest t. more (s.Assign at left how.0 how.1 y) rest (record { given = how; between = next ts; front = record { is = is; behind = refl }; back = record { given = y; between = rest; front = t; back = (refl, refl) } }))

call_name_sound : (deep : ℕ) → (at : Span) (ts : List Token) (n : Name) (rest : List Token) → IsName ts n rest → is_alone rest ≡ true → Done (grammar.valued (suc deep) at ts) (call_name (suc deep) at n rest)
unfolding call_name
call_name_sound deep at ts n rest t alone =
    bind (grammar.values (suc deep) rest) (grammar.valued (suc deep) at ts) (arguments (suc deep) rest) _ ((exact_arguments deep).sound rest)
    (λ all left r. inr (inr (record { given = n; between = rest; front = (t, alone); back = record { given = all; between = left; front = r; back = (refl, refl) } })))

alone_if : (kind : TokenKind) → goes_on kind ≡ false → is_mark Open kind ≡ false
unfolding same_mark
alone_if (kinds.Mark marks.Open) is = cc
alone_if kind is = refl

alone_next : (ts : List Token) → holds goes_on (first ts) ≡ false → is_alone ts ≡ true
unfolding sees first
alone_next [] is = refl
alone_next (t ∷ ts) is = rw (alone_if t.kind is) refl

named_sound : (deep : ℕ) → (at : Span) (ts : List Token) (n : Name) (rest : List Token) → IsName ts n rest → holds goes_on (first rest) ≡ false → Done (grammar.valued (suc deep) at ts) (named (suc deep) at n rest)
unfolding named
named_sound deep at ts n rest t off =
    assign_sound deep at (e.Name n.at n.text) (call_name (suc deep) at n) (grammar.valued (suc deep) at ts) rest (call_name_sound deep at ts n rest t (alone_next rest off))
    (λ x left r. inl (record { given = e.Name n.at n.text; between = rest; front = place_of_name deep ts n rest t; back = r })) (assignment_at (first rest)) refl

headed_sound : (deep : ℕ) → (at : Span) (ts : List Token) (x : Expr) (rest : List Token) → place (suc deep) ts x rest → (b : Bool) → is_call x ≡ b
    → Done (grammar.valued (suc deep) at ts) ((if b then may_assign (suc deep) at x else must_assign (suc deep) at x) rest)
unfolding may_assign must_assign
headed_sound deep at ts x rest p true is =
    assign_sound deep at x (pure (s.Call at x)) (grammar.valued (suc deep) at ts) rest
    (inr (inl (record { given = x; between = rest; front = p; back = record { given = x; between = rest; front = (is, refl, refl); back = (refl, refl) } })))
    (λ y left r. inl (record { given = x; between = rest; front = p; back = r })) (assignment_at (first rest)) refl
headed_sound deep at ts x rest p false is =
    assign_sound deep at x _ (grammar.valued (suc deep) at ts) rest tt
    (λ y left r. inl (record { given = x; between = rest; front = p; back = r })) (assignment_at (first rest)) refl

pub valued_sound : (deep : ℕ) → (at : Span) (ts : List Token) → Done (grammar.valued (suc deep) at ts) (valued (suc deep) at ts)
unfolding valued headed
valued_sound deep at ts =
    by_test (λ (o : Outcome Stmt). Done (grammar.valued (suc deep) at ts) o) (sees_bare ts) _ _
    (λ is. let b = bare_is ts is in let n = name_stands ts b.0 in
    subst (λ (o : Outcome Name). Done (grammar.valued (suc deep) at ts) (and_then o (named (suc deep) at))) (sym (exact_name.finds ts n.0 (next ts) n.1 refl)) (named_sound deep at ts n.0 (next ts) n.1 b.1))
    (λ is. bind (place (suc deep) ts) (grammar.valued (suc deep) at ts) (steps.place (suc deep) ts) _ ((exact_place deep).sound ts) (λ x rest p. headed_sound deep at ts x rest p (is_call x) refl))

bare_now : (ts : List Token) (n : Name) (rest : List Token) → IsName ts n rest → holds goes_on (first rest) ≡ false → sees_bare ts ≡ true
unfolding sees_bare sees_name first next
bare_now ts n rest t off = rw (t.is, t.kind, off) refl

named_read : (deep : ℕ) → (at : Span) (ts : List Token) (n : Name) (rest : List Token) → IsName ts n rest → holds goes_on (first rest) ≡ false → valued (suc deep) at ts ≡ named (suc deep) at n rest
unfolding valued
named_read deep at ts n rest t off = rw (bare_now ts n rest t off, exact_name.finds ts n rest t refl) refl

headed_assign : (deep : ℕ) → (at : Span) (left : Expr) (ts : List Token) (how : Assignment × Span) (between : List Token) (x : Expr) (rest : List Token)
    → Chosen assignment_at ts how between → expression (suc deep) between x rest → closes (next_kind rest) ≡ true
    → (b : Bool) → is_call left ≡ b → (if b then may_assign (suc deep) at left else must_assign (suc deep) at left) ts ≡ Ok (s.Assign at left how.0 how.1 x, rest)
unfolding may_assign must_assign
headed_assign deep at left ts how between x rest c t f true is = chosen_found deep at left _ ts how between x rest c t f
headed_assign deep at left ts how between x rest c t f false is = chosen_found deep at left _ ts how between x rest c t f

assigned_by : (deep : ℕ) → (at : Span) (ts : List Token) (left : Expr) (how : Assignment × Span) (before_it between : List Token) (x : Expr) (rest : List Token)
    → place (suc deep) ts left before_it → Chosen assignment_at before_it how between → expression (suc deep) between x rest → closes (next_kind rest) ≡ true
    → ends_place (next_kind before_it) ≡ true → (b : Bool) → sees_bare ts ≡ b → valued (suc deep) at ts ≡ Ok (s.Assign at left how.0 how.1 x, rest)
unfolding valued headed named may_assign must_assign
assigned_by deep at ts left how before_it between x rest p c t f ends true is =
    let b = bare_is ts is in let n = name_stands ts b.0 in
    let same = same_place deep ts n.0 (next ts) n.1 b.1 left before_it p ends in
    named_read deep at ts n.0 (next ts) n.1 b.1
    ∙ subst (λ (m : List Token). assign_by (suc deep) at (e.Name n.0.at n.0.text) (call_name (suc deep) at n.0) (assignment_at (first m)) m ≡ Ok (s.Assign at left how.0 how.1 x, rest)) same.behind
    (subst (λ (l : Expr). assign_by (suc deep) at l (call_name (suc deep) at n.0) (assignment_at (first before_it)) before_it ≡ Ok (s.Assign at left how.0 how.1 x, rest)) same.tree
    (chosen_found deep at left (call_name (suc deep) at n.0) before_it how between x rest c t f))
assigned_by deep at ts left how before_it between x rest p c t f ends false is =
    rw (is, (exact_place deep).finds ts left before_it p ends) (headed_assign deep at left before_it how between x rest c t f (is_call left) refl)

place_before : (kind : TokenKind) (how : Assignment) → assignment_of kind ≡ Some how → ends_place (Some kind) ≡ true
place_before (kinds.Mark marks.Equal) how is = refl
place_before (kinds.Mark marks.PlusEqual) how is = refl
place_before (kinds.Mark marks.MinusEqual) how is = refl
place_before (kinds.Mark marks.StarEqual) how is = refl
place_before (kinds.Mark marks.BackslashEqual) how is = refl
place_before (kinds.Mark marks.AmpersandEqual) how is = refl
place_before kind how is = cc

place_before_by : (at : Span) (kind : TokenKind) (o : Option Assignment) → assignment_of kind ≡ o → (how : Assignment × Span) → with_place at o ≡ Some how → ends_place (Some kind) ≡ true
place_before_by at kind None is how c = cc
place_before_by at kind (Some which) is how c = place_before kind which is

chosen_ends : (ts : List Token) (how : Assignment × Span) → assignment_at (first ts) ≡ Some how → ends_place (next_kind ts) ≡ true
unfolding first
chosen_ends [] how is = cc
chosen_ends (t ∷ ts) how is = place_before_by t.at t.kind (assignment_of t.kind) refl how is

no_assignment : (kind : TokenKind) → closes (Some kind) ≡ true → assignment_of kind ≡ None
no_assignment kinds.Colon is = refl
no_assignment kinds.LineEnd is = refl
no_assignment (kinds.Word w.KwElse) is = refl
no_assignment kind is = cc

none_assigned : (ts : List Token) → closes (next_kind ts) ≡ true → assignment_at (first ts) ≡ None
unfolding first
none_assigned [] is = refl
none_assigned (t ∷ ts) is = rw (no_assignment t.kind is) refl

name_no_call : (at : Span) (text : List ℕ) → is_call (e.Name at text) ≡ false
unfolding out-Expr denote.Hole.Carrier.out
name_no_call at text = refl

called_by : (deep : ℕ) → (at : Span) (ts : List Token) (x : Expr) (rest : List Token) → place (suc deep) ts x rest → is_call x ≡ true → closes (next_kind rest) ≡ true → (b : Bool) → sees_bare ts ≡ b → valued (suc deep) at ts ≡ Ok (s.Call at x, rest)
unfolding valued headed may_assign
called_by deep at ts x rest p call f true is =
    let b = bare_is ts is in let n = name_stands ts b.0 in
    let same = same_place deep ts n.0 (next ts) n.1 b.1 x rest p (closes_place (next_kind rest) f) in
    let not : true ≡ false = sym call ∙ ap is_call same.tree ∙ name_no_call n.0.at n.0.text in cc
called_by deep at ts x rest p call f false is = rw (is, (exact_place deep).finds ts x rest p (closes_place (next_kind rest) f), call, none_assigned rest f) refl

-- what comes behind a name that is called without parentheses
open_self : is_mark Open (kinds.Mark Open) ≡ true
unfolding same_mark
open_self = refl

apart : (kind : TokenKind) (b : Bool) → goes_on kind ≡ b → begins_kind kind ≡ true → (if is_mark Open kind then false else true) ≡ true → b ≡ false
apart kind true on v alone =
    let open_ : is_mark Open kind ≡ true = ap (is_mark Open) (begins_goes_on kind v on) ∙ open_self in
    let not : false ≡ true = subst (λ (b : Bool). (if b then false else true) ≡ true) open_ alone in cc
apart kind false on v alone = refl

value_no_mark : (ts : List Token) → sees_value ts ≡ true → is_alone ts ≡ true → holds goes_on (first ts) ≡ false
unfolding sees first
value_no_mark [] v alone = refl
value_no_mark (t ∷ ts) v alone = apart t.kind (goes_on t.kind) refl (sym (kind_of_value (t ∷ ts)) ∙ v) alone

closes_no_mark : (kind : TokenKind) → closes (Some kind) ≡ true → goes_on kind ≡ false
closes_no_mark kinds.Colon is = refl
closes_no_mark kinds.LineEnd is = refl
closes_no_mark (kinds.Word w.KwElse) is = refl
closes_no_mark kind is = cc

closed_no_mark : (ts : List Token) → closes (next_kind ts) ≡ true → holds goes_on (first ts) ≡ false
unfolding first
closed_no_mark [] is = refl
closed_no_mark (t ∷ ts) is = closes_no_mark t.kind is

value_unassigned : (ts : List Token) → sees_value ts ≡ true → assignment_at (first ts) ≡ None
unfolding first
value_unassigned [] v = refl
value_unassigned (t ∷ ts) v = rw (begins_no_assignment t.kind (sym (kind_of_value (t ∷ ts)) ∙ v)) refl

record Apart (ts : List Token) : Type 0 where
  off : holds goes_on (first ts) ≡ false
  unassigned : assignment_at (first ts) ≡ None

values_apart : (deep : ℕ) → (ts : List Token) (all : List Expr) (rest : List Token) → grammar.values (suc deep) ts all rest → is_alone ts ≡ true → closes (next_kind rest) ≡ true → Apart ts
values_apart deep ts all rest (inl l) alone f = let v = listed_seen deep ts all rest l in record { off = value_no_mark ts v alone; unassigned = value_unassigned ts v }
values_apart deep ts all rest (inr g) alone f =
    let c : closes (next_kind ts) ≡ true = ap (λ (r : List Token). closes (next_kind r)) (sym g.1) ∙ f in
    record { off = closed_no_mark ts c; unassigned = none_assigned ts c }

name_called : (deep : ℕ) → (at : Span) (ts : List Token) (n : Name) (between : List Token) (all : List Expr) (rest : List Token) → IsName ts n between → is_alone between ≡ true
    → grammar.values (suc deep) between all rest → closes (next_kind rest) ≡ true → valued (suc deep) at ts ≡ Ok (s.CallName at n all, rest)
unfolding named call_name
name_called deep at ts n between all rest t alone v f =
    let a = values_apart deep between all rest v alone f in
    named_read deep at ts n between t a.off ∙ rw (a.unassigned, (exact_arguments deep).finds between all rest v f) refl

valued_finds : (deep : ℕ) → (at : Span) (ts : List Token) (x : Stmt) (rest : List Token) → grammar.valued (suc deep) at ts x rest → closes (next_kind rest) ≡ true → valued (suc deep) at ts ≡ Ok (x, rest)
valued_finds deep at ts x rest (inl t) f =
    let c = t.back in let g = c.back in
    assigned_by deep at ts t.given c.given t.between c.between g.given g.between t.front c.front g.front
    (ap (λ (r : List Token). closes (next_kind r)) (sym g.back.1) ∙ f) (chosen_ends t.between c.given c.front.is) (sees_bare ts) refl
    ∙ same_answer _ x _ rest g.back.0 g.back.1
valued_finds deep at ts x rest (inr (inl t)) f =
    let c = t.back in
    let r : rest ≡ t.between = c.back.1 ∙ c.front.2 in
    called_by deep at ts t.given t.between t.front c.front.0 (ap (λ (m : List Token). closes (next_kind m)) (sym r) ∙ f) (sees_bare ts) refl
    ∙ same_answer _ x _ rest c.back.0 r
valued_finds deep at ts x rest (inr (inr t)) f =
    let v = t.back in
    name_called deep at ts t.given t.between v.given v.between t.front.0 t.front.1 v.front (ap (λ (r : List Token). closes (next_kind r)) (sym v.back.1) ∙ f)
    ∙ same_answer _ x _ rest v.back.0 v.back.1

assignment_within : (deep : ℕ) → (at : Span) → (ts : List Token) (x : Stmt) (rest : List Token) → grammar.valued (suc deep) at ts x rest → Suffixes rest ts
assignment_within deep at ts x rest (inl t) =
    let c = t.back in let g = c.back in
    rw (g.back.1) (end_of_end ((exact_whole deep).within c.between g.given g.between g.front) (rw (c.front.behind) (end_of_end (leave_next t.between) ((exact_place deep).within ts t.given t.between t.front))))
assignment_within deep at ts x rest (inr (inl t)) = rw (t.back.back.1 ∙ t.back.front.2) ((exact_place deep).within ts t.given t.between t.front)
assignment_within deep at ts x rest (inr (inr t)) =
    let v = t.back in
    rw (v.back.1) (end_of_end ((exact_arguments deep).within t.between v.given v.between v.front) (exact_name.within ts t.given t.between t.front.0))

pub exact_valued : (deep : ℕ) → (at : Span) → Exact (valued (suc deep) at) (grammar.valued (suc deep) at) closes
exact_valued deep at = record { sound = valued_sound deep at; finds = valued_finds deep at; within = assignment_within deep at }

-- ---- words that are called

abbrev Tested : {A : Type 0} → (List Token → Bool) → Bool → Phrase A → Phrase A
Tested test b P = λ ts a rest. (test ts ≡ b) × P ts a rest

tested_sound : {A : Type 0} (test : List Token → Bool) (b : Bool) (p : Reader A) (P : Phrase A) (ts : List Token) → Done (P ts) (p ts) → test ts ≡ b → Done (Tested test b P ts) (p ts)
tested_sound test b p P ts s is = map_done (P ts) (Tested test b P ts) (p ts) s (λ a rest t. (is, t))

tested_finds : {A : Type 0} (test : List Token → Bool) (p q : Reader A) (P Q : Phrase A) (F : Follow) → Exact p P F → Exact q Q F
    → (ts : List Token) (a : A) (rest : List Token) → (Tested test true P ts a rest ⊎ Tested test false Q ts a rest) → F (next_kind rest) ≡ true
    → (if test ts then p ts else q ts) ≡ Ok (a, rest)
tested_finds test p q P Q F one other ts a rest (inl t) f = rw (t.0) (one.finds ts a rest t.1 f)
tested_finds test p q P Q F one other ts a rest (inr t) f = rw (t.0) (other.finds ts a rest t.1 f)

tested_within : {A : Type 0} (test : List Token → Bool) (p q : Reader A) (P Q : Phrase A) (F : Follow) → Exact p P F → Exact q Q F
    → (ts : List Token) (a : A) (rest : List Token) → (Tested test true P ts a rest ⊎ Tested test false Q ts a rest) → Suffixes rest ts
tested_within test p q P Q F one other ts a rest (inl t) = one.within ts a rest t.1
tested_within test p q P Q F one other ts a rest (inr t) = other.within ts a rest t.1

pub exact_tested : {A : Type 0} (test : List Token → Bool) {p q : Reader A} {P Q : Phrase A} {F : Follow} → Exact p P F → Exact q Q F
    → Exact (λ ts. if test ts then p ts else q ts) (λ ts a rest. Tested test true P ts a rest ⊎ Tested test false Q ts a rest) F
exact_tested {A = A} test {p = p} {q = q} {P = P} {Q = Q} {F = F} one other = record {
  sound = λ ts. by_test (λ (o : Outcome A). Done (λ a rest. Tested test true P ts a rest ⊎ Tested test false Q ts a rest) o) (test ts) (p ts) (q ts)
      (λ is. map_done (P ts) (λ a rest. Tested test true P ts a rest ⊎ Tested test false Q ts a rest) (p ts) (one.sound ts) (λ a rest t. inl (is, t)))
      (λ is. map_done (Q ts) (λ a rest. Tested test true P ts a rest ⊎ Tested test false Q ts a rest) (q ts) (other.sound ts) (λ a rest t. inr (is, t)));
  finds = tested_finds test p q P Q F one other;
  within = tested_within test p q P Q F one other;
}

-- after the first token, whatever that is
pub exact_taking : {A : Type 0} {p : Reader A} {P : Phrase A} {F : Follow} → Exact p P F → Exact (λ ts. and_then (take_token ts) (λ u. p)) (Then any_token (λ u. P)) F
exact_taking x = exact_then exact_any (λ u. x) (λ u ts a rest t f. refl)

pub exact_called : (deep : ℕ) → (at : Span) (which : CallWord) → Exact (called (suc deep) at which) (grammar.call_word (suc deep) at which) closes
unfolding called
exact_called deep at which = exact_tested sees_open_behind (exact_valued deep at) (exact_taking (exact_made (λ all. s.CallWord at which all) (exact_arguments deep)))

-- ---- marks and words of tables

abbrev ChosenThen : {A B : Type 0} → (Option Token → Option A) → (A → Phrase B) → Phrase B
ChosenThen table K = Then (Chosen table) K

chosen_sound : {A B : Type 0} (table : Option Token → Option A) (by : Option A → Reader B) (k : A → Reader B) (K : A → Phrase B)
    → ((ts : List Token) (P : B → List Token → Type 0) → Done P (by None ts)) → ((a : A) (ts : List Token) → by (Some a) ts ≡ k a (next ts)) → ((a : A) (ts : List Token) → Done (K a ts) (k a ts))
    → (ts : List Token) (o : Option A) → table (first ts) ≡ o → Done (ChosenThen table K ts) (by o ts)
chosen_sound table by k K fails takes sound ts None is = fails ts (ChosenThen table K ts)
chosen_sound {B = B} table by k K fails takes sound ts (Some a) is =
    subst (λ (o : Outcome B). Done (ChosenThen table K ts) o) (sym (takes a ts))
    (map_done (K a (next ts)) (ChosenThen table K ts) (k a (next ts)) (sound a (next ts)) (λ b rest t. record { given = a; between = next ts; front = record { is = is; behind = refl }; back = t }))

pub exact_chosen : {A B : Type 0} (table : Option Token → Option A) (by : Option A → Reader B) (k : A → Reader B) (K : A → Phrase B) (F : Follow)
    → ((ts : List Token) (P : B → List Token → Type 0) → Done P (by None ts)) → ((a : A) (ts : List Token) → by (Some a) ts ≡ k a (next ts)) → ((a : A) → Exact (k a) (K a) F)
    → Exact (λ ts. by (table (first ts)) ts) (ChosenThen table K) F
exact_chosen {B = B} table by k K F fails takes x = record {
  sound = λ ts. chosen_sound table by k K fails takes (λ a. (x a).sound) ts (table (first ts)) refl;
  finds = λ ts b rest t f. rw (t.front.is) (takes t.given ts ∙ (x t.given).finds (next ts) b rest (subst (λ (m : List Token). K t.given m b rest) t.front.behind t.back) f);
  within = λ ts b rest t. end_of_end ((x t.given).within t.between b rest t.back) (rw (t.front.behind) (leave_next ts));
}

pub exact_exit : (at : Span) → Exact (reading.exit at) (any_token >> (λ ts x rest. Then (Chosen reading.exit_at) (λ which. gives (s.Exit at which)) ts x rest)) closes
unfolding reading.exit
exact_exit at = exact_taking (exact_chosen reading.exit_at (reading.exit_by at) (λ which. pure (s.Exit at which)) (λ which. gives (s.Exit at which)) closes
    (λ ts P. tt) (λ which ts. refl) (λ which. exact_gives (s.Exit at which) closes))

pub exact_continue : (at : Span) → Exact (reading.continue_ at) (any_token >> (λ ts x rest. Then (Chosen reading.continue_at) (λ which. gives (s.Continue at which)) ts x rest)) closes
unfolding reading.continue_
exact_continue at = exact_taking (exact_chosen reading.continue_at (reading.continue_by at) (λ which. pure (s.Continue at which)) (λ which. gives (s.Continue at which)) closes
    (λ ts P. tt) (λ which ts. refl) (λ which. exact_gives (s.Continue at which) closes))

-- ---- the others

pub exact_result : (deep : ℕ) → (at : Span) → Exact (reading.result_ (suc deep) at) (any_token >> (mark Equal >> Then (expression (suc deep)) (λ x. gives (s.Result at x)))) closes
unfolding reading.result_
exact_result deep at = exact_taking (exact_then (exact_mark Equal) (λ u. exact_weaker (exact_made (λ x. s.Result at x) (exact_whole deep)) closes_expression) (λ u ts a rest t f. refl))

pub exact_line_input : (deep : ℕ) → (at : Span) → Exact (reading.line_input (suc deep) at) (any_token >> (word w.KwInput >> Then (place (suc deep)) (λ x. gives (s.LineInput at x)))) closes
unfolding reading.line_input
exact_line_input deep at = exact_taking (exact_then (exact_word w.KwInput) (λ u. exact_weaker (exact_made (λ x. s.LineInput at x) (exact_place deep)) closes_place) (λ u ts a rest t f. refl))

pub exact_return : (deep : ℕ) → (at : Span) → Exact (reading.return_ (suc deep) at) (any_token >> Then (maybe (expression (suc deep))) (λ x. gives (s.Return at x))) closes
unfolding reading.return_
exact_return deep at = exact_taking (exact_made (λ x. s.Return at x) (exact_any_value deep))

pub exact_end : (deep : ℕ) → (at : Span) → Exact (reading.end_ (suc deep) at) (any_token >> Then (maybe (expression (suc deep))) (λ x. gives (s.End at x))) closes
unfolding reading.end_
exact_end deep at = exact_taking (exact_made (λ x. s.End at x) (exact_any_value deep))

value_no_bracket : (kind : TokenKind) → begins_kind kind ≡ true → is_mark OpenBracket kind ≡ false
unfolding same_mark
value_no_bracket (kinds.Mark marks.OpenBracket) is = cc
value_no_bracket kind is = refl

bracket_apart : (ts : List Token) → value_kind (next_kind ts) ≡ true → sees OpenBracket ts ≡ false
unfolding sees first
bracket_apart [] is = refl
bracket_apart (t ∷ ts) is = value_no_bracket t.kind is

exact_brackets : Exact reading.brackets (either (mark OpenBracket >> (mark CloseBracket >> gives true)) (gives false)) value_kind
unfolding reading.brackets
exact_brackets = exact_behind (sees OpenBracket) (exact_then (exact_mark CloseBracket) (λ u. exact_gives true value_kind) (λ u ts a rest t f. refl)) (exact_gives false value_kind)
    (λ ts a rest t f. bracket_apart ts (ap (λ (r : List Token). value_kind (next_kind r)) (sym t.1) ∙ f))

pub exact_delete : (deep : ℕ) → (at : Span) → Exact (reading.delete (suc deep) at) (any_token >> Then (either (mark OpenBracket >> (mark CloseBracket >> gives true)) (gives false)) (λ all. Then (expression (suc deep)) (λ x. gives (s.Delete at all x)))) closes
unfolding reading.delete
exact_delete deep at = exact_taking (exact_then exact_brackets (λ all. exact_weaker (exact_made (λ x. s.Delete at all x) (exact_whole deep)) closes_expression)
    (λ all ts x rest t f. sym (kind_of_value ts) ∙ value_seen deep ts t.given t.between t.front))
