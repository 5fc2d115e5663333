-- Dim, Static and Const are read exactly.
use Rattle.std.proofs.Common.{◌≡◌, suc, ℕ, Bool, true, false, List, Some, None, refl, ap, ◌∙◌, inl, inr}
use Rattle.fb_base.specs.declared.fault.Span.{Span}
use Rattle.fb_lexer.specs.declared.token.Token.{Token}
use Rattle.fb_lexer.specs.declared.token.TokenKind.TheVariants as kinds
use Rattle.fb_lexer.specs.declared.token.Mark.TheVariants.{Open, Close, Equal, Comma}
use Rattle.fb_lexer.specs.declared.word.Word.{Word}
use Rattle.fb_lexer.specs.declared.word.Word.TheVariants as w
use Rattle.fb_ast.specs.declared.expr.Expr.{Expr}
use Rattle.fb_ast.specs.declared.part.Name.{Name}
use Rattle.fb_ast.specs.declared.stmt.Storage.{Storage}
use Rattle.fb_ast.specs.declared.stmt.Storage.TheVariants as storage
use Rattle.fb_ast.specs.declared.stmt.Var.{Var}
use Rattle.fb_ast.specs.declared.stmt.Listed.{Listed as SharedVar}
use Rattle.fb_ast.specs.declared.stmt.Stmt.{Stmt}
use Rattle.fb_ast.specs.declared.stmt.Stmt.TheVariants as s
use Rattle.parse_expr.specs.Reading.{first, sees_word}
use Rattle.parse_parts.specs.Steps.{initial, any_type}
use Rattle.parse_parts.specs.Variables as reading
use Rattle.parse_parts.specs.declared.kinds.Level.{Level}
use Rattle.parse_parts.specs.Variables.{may_share}
use Rattle.parse_stmt.specs.Phrases.{Phrase, gives, Then, ◌>>◌, any_token, IsName, last, another, behind_mark, behind_word, Listed, ty, expression}
use Rattle.parse_stmt.specs.Statements as grammar
use Rattle.parse_stmt.proofs.Exact.{next_kind, Follow, always, Exact, Starts, exact_then, exact_weaker, exact_behind}
use Rattle.parse_stmt.proofs.Smallest.{exact_mark, exact_word, exact_any, next_word, exact_name, exact_type, exact_whole, no_pointer, ends_expression, starts_word, starts_mark}
use Rattle.parse_stmt.proofs.Lists.{Under, starts_gives, exact_gives, exact_made, exact_behind_word, exact_behind_mark, no_word, word_none, starts_either, starts_then, exact_list}

-- ---- what may come behind parts of statements

-- the end of a statement: of the line, of the text, a colon, or the Else of a one-line If
abbrev pub closes : Follow
closes None = true
closes (Some kinds.Colon) = true
closes (Some kinds.LineEnd) = true
closes (Some (kinds.Word w.KwElse)) = true
closes (Some kind) = false

-- that, or a comma
abbrev pub comma_or_end : Follow
comma_or_end (Some (kinds.Mark Comma)) = true
comma_or_end other = closes other

pub under_closes : (F : Follow) → F None ≡ true → F (Some kinds.Colon) ≡ true → F (Some kinds.LineEnd) ≡ true → F (Some (kinds.Word w.KwElse)) ≡ true → Under closes F
under_closes F a b c d None is = a
under_closes F a b c d (Some kinds.Colon) is = b
under_closes F a b c d (Some kinds.LineEnd) is = c
under_closes F a b c d (Some (kinds.Word w.KwElse)) is = d
under_closes F a b c d (Some kind) is = cc

pub under_comma : (F : Follow) → F (Some (kinds.Mark Comma)) ≡ true → Under closes F → Under comma_or_end F
under_comma F a under (Some (kinds.Mark Comma)) is = a
under_comma F a under other is = under other is

pub always_under : (G : Follow) → Under G always
always_under G o is = refl

-- that, or an equals sign
abbrev pub initial_or_end : Follow
initial_or_end (Some (kinds.Mark Equal)) = true
initial_or_end other = comma_or_end other

pub under_initial : Under comma_or_end initial_or_end
under_initial (Some (kinds.Mark Equal)) is = refl
under_initial other is = is

pub closes_comma : Under closes comma_or_end
closes_comma (Some (kinds.Mark Comma)) is = cc
closes_comma other is = is

-- an equals sign alone
abbrev pub equals : Follow
equals (Some (kinds.Mark Equal)) = true
equals other = false

pub closes_expression : Under closes ends_expression
closes_expression = under_closes ends_expression refl refl refl refl

pub comma_expression : Under comma_or_end ends_expression
comma_expression = under_comma ends_expression refl closes_expression

pub same_under : (G : Follow) → Under G G
same_under G o is = is

-- ---- variables

-- a closing parenthesis alone
abbrev pub closing : Follow
closing (Some (kinds.Mark Close)) = true
closing other = false

pub under_closing : (F : Follow) → F (Some (kinds.Mark Close)) ≡ true → Under closing F
under_closing F a (Some (kinds.Mark Close)) is = a
under_closing F a other is = cc

pub bounds_exact : (deep : ℕ) → Exact (reading.bounds (suc deep)) (grammar.bounds (suc deep)) always
unfolding reading.bounds reading.bounds_from
bounds_exact deep = exact_then (exact_whole deep)
    (λ one. exact_then {F = closing}
    (exact_behind (sees_word w.KwTo) (exact_weaker (exact_made (λ (high : Expr). record { low = Some one; high = high }) (exact_whole deep)) (under_closing ends_expression refl))
    (exact_gives (record { low = None; high = one }) closing) (word_none (record { low = None; high = one }) w.KwTo closing refl))
    (λ b. exact_then (exact_mark Close) (λ u. exact_gives b always) (λ u. starts_gives b always always (always_under always)))
    (λ b. starts_mark Close (gives b) always closing refl))
    (λ one. starts_then always closing ends_expression
    (starts_either closing ends_expression (starts_word w.KwTo _ closing ends_expression refl) (starts_gives (record { low = None; high = one }) closing ends_expression (under_closing ends_expression refl)))
    (λ b. starts_mark Close (gives b) always closing refl))

pub any_bounds_exact : (deep : ℕ) → (G : Follow) → G (Some (kinds.Mark Open)) ≡ false → Exact (reading.any_bounds (suc deep)) (behind_mark Open (grammar.bounds (suc deep))) G
unfolding reading.any_bounds
any_bounds_exact deep G not = exact_behind_mark Open G (always_under G) not (bounds_exact deep)

pub any_type_exact : (G : Follow) → Under G no_pointer → G (Some (kinds.Word w.KwAs)) ≡ false → Exact any_type (behind_word w.KwAs ty) G
unfolding any_type
any_type_exact G under not = exact_behind_word w.KwAs G under not exact_type

pub initial_exact : (deep : ℕ) → Exact (initial (suc deep)) (behind_mark Equal (expression (suc deep))) comma_or_end
unfolding initial
initial_exact deep = exact_behind_mark Equal comma_or_end comma_expression refl (exact_whole deep)

initial_starts : (deep : ℕ) → (F : Follow) → F (Some (kinds.Mark Equal)) ≡ true → Under comma_or_end F → Starts (behind_mark Equal (expression (suc deep))) comma_or_end F
initial_starts deep F is under = starts_either comma_or_end F (starts_mark Equal _ comma_or_end F is) (starts_gives None comma_or_end F under)

comma_pointer : Under comma_or_end no_pointer
comma_pointer = under_comma no_pointer refl (under_closes no_pointer refl refl refl refl)

pub under_equals : (F : Follow) → F (Some (kinds.Mark Equal)) ≡ true → Under equals F
under_equals F a (Some (kinds.Mark Equal)) is = a
under_equals F a other is = cc

-- As alone
abbrev as_next : Follow
as_next (Some (kinds.Word w.KwAs)) = true
as_next other = false

pub var_exact : (deep : ℕ) → Exact (reading.var (suc deep)) (grammar.var (suc deep)) comma_or_end
unfolding reading.var reading.var_behind
var_exact deep = exact_then exact_name (λ n. exact_then (any_bounds_exact deep as_next refl) (λ b. exact_then (exact_word w.KwAs) (λ u. exact_then exact_type
    (λ t. exact_made (λ init. record { name = n; bounds = b; ty = t; init = init }) (initial_exact deep))
    (λ t. starts_then comma_or_end comma_or_end no_pointer (initial_starts deep no_pointer refl comma_pointer) (λ init. starts_gives _ comma_or_end comma_or_end (same_under comma_or_end))))
    (λ u ts a rest t f. refl))
    (λ b. starts_word w.KwAs _ comma_or_end as_next refl))
    (λ n ts a rest t f. refl)

pub shared_var_exact : (deep : ℕ) → Exact (reading.listed (suc deep)) (grammar.shared_var (suc deep)) comma_or_end
unfolding reading.listed
shared_var_exact deep = exact_then exact_name (λ n. exact_then (any_bounds_exact deep (λ o. initial_or_end o) refl)
    (λ b. exact_made (λ init. record { name = n; bounds = b; init = init }) (initial_exact deep))
    (λ b. starts_then comma_or_end comma_or_end (λ o. initial_or_end o) (initial_starts deep (λ o. initial_or_end o) refl under_initial) (λ init. starts_gives _ comma_or_end comma_or_end (same_under comma_or_end))))
    (λ n ts a rest t f. refl)

pub vars_exact : (deep : ℕ) → Exact (reading.vars (suc deep)) (Listed (grammar.var (suc deep))) closes
unfolding reading.vars reading.var_turn
vars_exact deep = exact_list (reading.var (suc deep)) (grammar.var (suc deep)) comma_or_end closes (var_exact deep) closes_comma refl refl

pub all_listed_exact : (deep : ℕ) → Exact (reading.all_listed (suc deep)) (Listed (grammar.shared_var (suc deep))) closes
unfolding reading.all_listed reading.listed_turn
all_listed_exact deep = exact_list (reading.listed (suc deep)) (grammar.shared_var (suc deep)) comma_or_end closes (shared_var_exact deep) closes_comma refl refl

-- ---- Dim and Static

pub name_no_word : (which : Word) (ts : List Token) (n : Name) (rest : List Token) → IsName ts n rest → sees_word which ts ≡ false
unfolding sees_word first
name_no_word which ts n rest t = rw (t.is, t.kind) refl

var_no_word : (deep : ℕ) → (which : Word) (ts : List Token) (all : List Var) (rest : List Token) → Listed (grammar.var (suc deep)) ts all rest → sees_word which ts ≡ false
var_no_word deep which ts all rest (last a b x t) = name_no_word which ts t.given t.between t.front
var_no_word deep which ts all rest (another a between b x behind t comma l) = name_no_word which ts t.given t.between t.front

pub next_name : (ts : List Token) (n : Name) (rest : List Token) (t : IsName ts n rest) → next_kind ts ≡ Some (kinds.Name t.text)
next_name ts n rest t = ap next_kind t.is ∙ ap Some t.kind

names_first : (deep : ℕ) → (F : Follow) → ((text : List ℕ) → F (Some (kinds.Name text)) ≡ true) → (ts : List Token) (all : List SharedVar) (rest : List Token) → Listed (grammar.shared_var (suc deep)) ts all rest → F (next_kind ts) ≡ true
names_first deep F names ts all rest (last a b x t) = ap F (next_name ts t.given t.between t.front) ∙ names t.front.text
names_first deep F names ts all rest (another a between b x behind t comma l) = ap F (next_name ts t.given t.between t.front) ∙ names t.front.text

listed_starts : (deep : ℕ) → (F : Follow) → ((text : List ℕ) → F (Some (kinds.Name text)) ≡ true) → (K : List SharedVar → Phrase Stmt) → Starts (Then (Listed (grammar.shared_var (suc deep))) K) closes F
listed_starts deep F names K ts x rest t f = names_first deep F names ts t.given t.between t.front

variables_exact : (deep : ℕ) → (at : Span) (where_ : Storage) → Exact (reading.dim_behind (suc deep) at where_) (grammar.variables (suc deep) at where_) closes
unfolding reading.dim_behind reading.dim_as reading.dim_vars
variables_exact deep at where_ = exact_behind (sees_word w.KwAs)
    (exact_then exact_type (λ t. exact_made (λ all. s.DimAs at where_ t all) (all_listed_exact deep)) (λ t. listed_starts deep no_pointer (λ text. refl) _))
    (exact_made (λ all. s.Dim at where_ all) (vars_exact deep)) (λ ts x rest t f. var_no_word deep w.KwAs ts t.given t.between t.front)

pub static_exact : (deep : ℕ) → (at : Span) → Exact (reading.static_ (suc deep) at) (any_token >> grammar.variables (suc deep) at storage.Static) closes
unfolding reading.static_
static_exact deep at = exact_then exact_any (λ u. variables_exact deep at storage.Static) (λ u ts a rest t f. refl)

variables_no_shared : (deep : ℕ) → (at : Span) (where_ : Storage) (ts : List Token) (x : Stmt) (rest : List Token) → grammar.variables (suc deep) at where_ ts x rest → sees_word w.KwShared ts ≡ false
variables_no_shared deep at where_ ts x rest (inl t) = no_word w.KwShared as_next ts refl (ap as_next (next_word w.KwAs ts t.front.0)) (sees_word w.KwShared ts) refl
variables_no_shared deep at where_ ts x rest (inr t) = var_no_word deep w.KwShared ts t.given t.between t.front

dim_with_exact : (deep : ℕ) → (b : Bool) (at : Span) → Exact (reading.dim_by (suc deep) b at) (grammar.dim_with (suc deep) b at) closes
dim_with_exact deep true at = exact_behind (sees_word w.KwShared) (variables_exact deep at storage.Shared) (variables_exact deep at storage.Scope) (λ ts x rest t f. variables_no_shared deep at storage.Scope ts x rest t)
dim_with_exact deep false at = variables_exact deep at storage.Scope

pub dim_exact : (deep : ℕ) → (at : Span) (level : Level) → Exact (reading.dim (suc deep) at level) (any_token >> grammar.dim_with (suc deep) (may_share level) at) closes
unfolding reading.dim
dim_exact deep at level = exact_then exact_any (λ u. dim_with_exact deep (may_share level) at) (λ u ts a rest t f. refl)

pub constant_exact : (deep : ℕ) → (at : Span) → Exact (reading.constant (suc deep) at) (any_token >> grammar.constant (suc deep) at) closes
unfolding reading.constant
constant_exact deep at = exact_then exact_any (λ u. exact_then exact_name (λ n. exact_then (any_type_exact equals (under_equals no_pointer refl) refl) (λ t. exact_then (exact_mark Equal)
    (λ u. exact_weaker (exact_made (λ x. s.Const at n t x) (exact_whole deep)) closes_expression) (λ u ts a rest t f. refl))
    (λ t. starts_mark Equal _ closes equals refl))
    (λ n ts a rest t f. refl))
    (λ u ts a rest t f. refl)
