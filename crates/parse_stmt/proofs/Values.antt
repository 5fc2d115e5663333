-- What an expression begins with.
use Rattle.std.proofs.Common.{◌≡◌, ◌≤◌, suc, ℕ, nat_le, Bool, true, false, List, [], ◌∷◌, ◌++◌, Option, Some, None, Ok, refl, sym, ap, ◌∙◌, arith}
use Rattle.std.proofs.lemmas.Bool.Decides.{nat_tests}
use Rattle.fb_base.specs.declared.fault.Span.{Span}
use Rattle.fb_base.specs.declared.fault.FaultKind.{FaultKind}
use Rattle.fb_base.specs.declared.fault.FaultKind.TheVariants.{Expected, OutOfProfile}
use Rattle.fb_lexer.specs.declared.token.Token.{Token}
use Rattle.fb_lexer.specs.declared.token.TokenKind.{TokenKind}
use Rattle.fb_lexer.specs.declared.token.TokenKind.TheVariants as kinds
use Rattle.fb_lexer.specs.declared.token.Mark.{Mark}
use Rattle.fb_lexer.specs.declared.token.Mark.TheVariants as marks
use Rattle.fb_lexer.specs.declared.word.Word.TheVariants as w
use Rattle.fb_ast.specs.declared.expr.Expr.{Expr}
use Rattle.fb_ast.specs.declared.operator.Unary.{Unary}
use Rattle.parse_expr.specs.declared.kinds.OperandWord.{OperandWord}
use Rattle.parse_expr.specs.declared.kinds.OperandWord.TheVariants as operands
use Rattle.parse_expr.specs.Words.{prefix_of, operand_word}
use Rattle.parse_expr.specs.Reading.{first, Outcome, and_then, pure, refusal, refusal_by}
use Rattle.parse_expr.specs.Productions.{Production, start_of, word_start, mark_start, begins_some, begins_operand}
use Rattle.parse_expr.specs.Expr.{begins, begins_as}
use Rattle.parse_expr.specs.Grammar.{production_of, Is, Expression, primary, suffix, prefix, binary}
use Rattle.parse_expr.proofs.Sound.{Done}
use Rattle.parse_parts.specs.Words.{assignment_of}
use Rattle.parse_parts.specs.Steps.{sees_value, no_value, pass_by, any_value}
use Rattle.parse_parts.specs.Simple.{goes_on}
use Rattle.parse_stmt.specs.Phrases.{gives, Then, maybe, expression}
use Rattle.parse_stmt.proofs.Exact.{next_kind, Follow, Exact, Starts, exact_weaker, exact_choose, same_end}
use Rattle.parse_stmt.proofs.Smallest.{exact_whole}
use Rattle.parse_stmt.proofs.Lists.{Under, exact_made}
use Rattle.parse_stmt.proofs.Dims.{closes, closes_expression}

-- ---- the first token of an expression

pub le_is : (a b : ℕ) → a ≤ b → nat_le a b ≡ true
le_is a b is = grind (arith, nat_tests)

pub is_le : (a b : ℕ) → nat_le a b ≡ true → a ≤ b
is_le a b is = grind (arith, nat_tests)

word_some : (at origin : Span) (o : OperandWord) (production : Production) → production_of (word_start at o) ≡ Some production → begins_some (word_start origin o) ≡ true
word_some at origin operands.Nothing production is = cc
word_some at origin o production is = refl

mark_some : (at origin : Span) (which : Mark) (production : Production) → production_of (mark_start at which) ≡ Some production → begins_some (mark_start origin which) ≡ true
mark_some at origin marks.Open production is = refl
mark_some at origin which production is = cc

start_some : (at origin : Span) (kind : TokenKind) (production : Production) → production_of (start_of at kind) ≡ Some production → begins_some (start_of origin kind) ≡ true
start_some at origin (kinds.Number value) production is = refl
start_some at origin (kinds.Str text) production is = refl
start_some at origin (kinds.Name text) production is = refl
start_some at origin (kinds.Mark which) production is = mark_some at origin which production is
start_some at origin (kinds.Word word) production is = word_some at origin (operand_word word) production is
start_some at origin kinds.Colon production is = cc
start_some at origin kinds.LineEnd production is = cc

pub record Begun (level : ℕ) (front : List Token) : Type 0 where
  pub token : Token
  pub more : List Token
  pub is : front ≡ token ∷ more
  pub may : begins_as level token (prefix_of token.kind) ≡ true

lower_as : (level m : ℕ) (t : Token) (o : Option (Unary × ℕ)) → level ≤ m → begins_as m t o ≡ true → begins_as level t o ≡ true
lower_as level m t None low is = is
lower_as level m t (Some p) low is = let e = is_le m p.1 is in le_is level p.1 (omega arith)

pub begun : {level depth : ℕ} {tree : Expr} {front : List Token} → Is (Expression level depth tree) front → Begun level front
begun (primary t production ts level depth tree none begins low r) =
    record { token = t; more = ts; is = refl; may = rw none (start_some t.at (record { line = 1; col = 1 }) t.kind production begins) }
begun (suffix front t back kind left d level depth tree a b low l r) =
    let f = begun l in record { token = f.token; more = f.more ++ t ∷ back; is = ap (λ xs. xs ++ t ∷ back) f.is; may = lower_as level 15 f.token (prefix_of f.token.kind) low f.may }
begun (prefix t ts operator k d level operand a low r) =
    record { token = t; more = ts; is = refl; may = rw a (le_is level k low) }
begun (binary front t back operator k c d level left right a low l r) =
    let f = begun l in record { token = f.token; more = f.more ++ t ∷ back; is = ap (λ xs. xs ++ t ∷ back) f.is; may = lower_as level k f.token (prefix_of f.token.kind) low f.may }

pub sees_begun : (level : ℕ) (front rest ts : List Token) → ts ≡ front ++ rest → Begun level front → begins level (first ts) ≡ true
unfolding first
sees_begun level front rest ts is b = ap (λ (xs : List Token). begins level (first xs)) (is ∙ ap (λ (xs : List Token). xs ++ rest) b.is) ∙ b.may

pub value_seen : (deep : ℕ) → (ts : List Token) (x : Expr) (rest : List Token) → expression (suc deep) ts x rest → sees_value ts ≡ true
unfolding sees_value
value_seen deep ts x rest t = sees_begun 1 t.0 rest ts t.1 (begun t.2.2)

-- ---- what a kind of token begins

abbrev begins_by : TokenKind → Option (Unary × ℕ) → Bool
begins_by kind (Some p) = nat_le 1 p.1
begins_by kind None = begins_operand kind

abbrev pub begins_kind : TokenKind → Bool
begins_kind kind = begins_by kind (prefix_of kind)

same_begins : (t : Token) (o : Option (Unary × ℕ)) → begins_as 1 t o ≡ begins_by t.kind o
same_begins t (Some p) = refl
same_begins t None = refl

abbrev pub value_kind : Follow
value_kind None = false
value_kind (Some kind) = begins_kind kind

pub kind_of_value : (ts : List Token) → sees_value ts ≡ value_kind (next_kind ts)
unfolding sees_value first
kind_of_value [] = refl
kind_of_value (t ∷ ts) = same_begins t (prefix_of t.kind)

pub starts_value : (deep : ℕ) → (F : Follow) → Under value_kind F → (G : Follow) → Starts (expression (suc deep)) G F
starts_value deep F under G ts x rest t f = under (next_kind ts) (sym (kind_of_value ts) ∙ value_seen deep ts x rest t)

no_value_by : (kind : TokenKind) → closes (Some kind) ≡ true → begins_kind kind ≡ false
no_value_by kinds.Colon is = refl
no_value_by kinds.LineEnd is = refl
no_value_by (kinds.Word w.KwElse) is = refl
no_value_by kind is = cc

none_if_closed : (o : Option TokenKind) → closes o ≡ true → value_kind o ≡ false
none_if_closed None is = refl
none_if_closed (Some kind) is = no_value_by kind is

pub closed_no_value : (ts : List Token) → closes (next_kind ts) ≡ true → sees_value ts ≡ false
closed_no_value ts is = kind_of_value ts ∙ none_if_closed (next_kind ts) is

-- ---- an expression that may be missing

refusal_closed : (kind : TokenKind) → closes (Some kind) ≡ true → refusal_by kind ≡ Expected
refusal_closed kinds.Colon is = refl
refusal_closed kinds.LineEnd is = refl
refusal_closed (kinds.Word w.KwElse) is = refl
refusal_closed kind is = cc

pub passes : (ts : List Token) → closes (next_kind ts) ≡ true → no_value ts ≡ Ok (tt, ts)
unfolding no_value refusal first
passes [] is = refl
passes (t ∷ ts) is = rw (refusal_closed t.kind is) refl

pass_sound : {A : Type 0} (a : A) (ts : List Token) (kind : FaultKind) → Done (gives a ts) (and_then (pass_by kind ts) (λ u. pure a))
pass_sound a ts OutOfProfile = tt
pass_sound a ts kind = (refl, refl)

abbrev pub read_as : {A : Type 0} → A → List Token → Outcome A
read_as a ts = Ok (a, ts)

pub same_answer : {A : Type 0} (a b : A) (ts rest : List Token) → b ≡ a → rest ≡ ts → read_as a ts ≡ read_as b rest
same_answer a b ts rest p q = ap Ok (rw (p, q) refl)

-- nothing, where no expression may begin
pub exact_passed : {A : Type 0} (a : A) → Exact (λ ts. and_then (no_value ts) (λ u. pure a)) (gives a) closes
unfolding no_value
exact_passed {A = A} a = record {
  sound = λ ts. pass_sound a ts (refusal ts);
  finds = λ ts b rest t f. ap (λ (o : Outcome (Unit {0})). and_then o (λ u. pure a)) (passes ts (ap (λ (r : List Token). closes (next_kind r)) (sym t.1) ∙ f)) ∙ same_answer a b ts rest t.0 t.1;
  within = λ ts b rest t. rw t.1 (same_end ts);
}

made_seen : (deep : ℕ) → (ts : List Token) (a : Option Expr) (rest : List Token) → Then (expression (suc deep)) (λ x. gives (Some x)) ts a rest → closes (next_kind rest) ≡ true → sees_value ts ≡ true
made_seen deep ts a rest t f = value_seen deep ts t.given t.between t.front

pub none_seen : {A : Type 0} (b : A) (ts : List Token) (a : A) (rest : List Token) → gives b ts a rest → closes (next_kind rest) ≡ true → sees_value ts ≡ false
none_seen b ts a rest t f = closed_no_value ts (ap (λ (r : List Token). closes (next_kind r)) (sym t.1) ∙ f)

pub exact_any_value : (deep : ℕ) → Exact (any_value (suc deep)) (maybe (expression (suc deep))) closes
unfolding any_value
exact_any_value deep = exact_choose sees_value (exact_weaker (exact_made (λ (x : Expr). Some x) (exact_whole deep)) closes_expression) (exact_passed None) (made_seen deep) (none_seen None)

-- ---- what doesn't begin an expression

pub begins_no_assignment : (kind : TokenKind) → begins_kind kind ≡ true → assignment_of kind ≡ None
begins_no_assignment (kinds.Mark marks.Equal) is = cc
begins_no_assignment (kinds.Mark marks.PlusEqual) is = cc
begins_no_assignment (kinds.Mark marks.MinusEqual) is = cc
begins_no_assignment (kinds.Mark marks.StarEqual) is = cc
begins_no_assignment (kinds.Mark marks.BackslashEqual) is = cc
begins_no_assignment (kinds.Mark marks.AmpersandEqual) is = cc
begins_no_assignment kind is = refl

pub begins_goes_on : (kind : TokenKind) → begins_kind kind ≡ true → goes_on kind ≡ true → kind ≡ kinds.Mark marks.Open
begins_goes_on (kinds.Mark marks.Open) is on = refl
begins_goes_on (kinds.Mark marks.OpenBracket) is on = cc
begins_goes_on (kinds.Mark marks.Dot) is on = cc
begins_goes_on (kinds.Mark marks.Arrow) is on = cc
begins_goes_on kind is on = cc
