-- Statements are read exactly.
use Rattle.std.proofs.Common.{◌≡◌, ℕ, zero, suc, ◌==◌, Bool, true, false, if◌then◌else◌, List, [], ◌∷◌, Option, Some, Ok, refl, sym, ap, ◌∙◌, subst, inl, inr, arith}
use Rattle.std.proofs.lemmas.Bool.Decides.{nat_tests}
use Rattle.fb_base.specs.declared.fault.Span.{Span}
use Rattle.fb_base.specs.declared.fault.FaultKind.{FaultKind}
use Rattle.fb_lexer.specs.declared.token.Token.{Token}
use Rattle.fb_lexer.specs.declared.token.TokenKind.{TokenKind}
use Rattle.fb_lexer.specs.declared.token.TokenKind.TheVariants as kinds
use Rattle.fb_lexer.specs.declared.word.Word.{Word}
use Rattle.fb_lexer.specs.declared.word.Word.TheVariants as w
use Rattle.fb_ast.specs.declared.expr.Expr.{Expr}
use Rattle.fb_ast.specs.declared.stmt.Stmt.{Stmt}
use Rattle.fb_ast.specs.declared.stmt.Stmt.TheVariants as s
use Rattle.parse_expr.specs.Reading.{first, next, is_word, sees_word, Reader, Outcome}
use Rattle.parse_expr.proofs.Sound.{Done, map_done}
use Rattle.parse_parts.specs.declared.kinds.Level.{Level}
use Rattle.parse_parts.specs.declared.kinds.InLine.{InLine}
use Rattle.parse_parts.specs.declared.kinds.Spot.{Spot}
use Rattle.parse_parts.specs.declared.kinds.Lead.{Lead}
use Rattle.parse_parts.specs.declared.kinds.Lead.TheVariants as leads
use Rattle.parse_parts.specs.declared.kinds.Closer.{Closer}
use Rattle.parse_parts.specs.declared.kinds.Closer.TheVariants as closers
use Rattle.parse_parts.specs.Words.{level_within, line_within, lead_of, is_sep}
use Rattle.parse_parts.specs.Steps.{sees_sep, sees_value}
use Rattle.parse_stmt.specs.Blocks.{sees_end, closed}
use Rattle.parse_stmt.specs.Blocks as reading
use Rattle.parse_stmt.specs.Phrases.{Phrase, Then, gives, maybe, any_token, expression}
use Rattle.parse_stmt.specs.Statements as grammar
use Rattle.parse_stmt.proofs.Exact.{next_kind, Exact}
use Rattle.parse_stmt.proofs.Smallest.{word_is, next_word}
use Rattle.parse_stmt.proofs.Dims.{closes, dim_exact, static_exact, constant_exact}
use Rattle.parse_stmt.proofs.Values.{value_seen, value_kind, kind_of_value, begins_kind}
use Rattle.parse_stmt.proofs.Plain.{exact_valued, exact_called, exact_result, exact_line_input, exact_exit, exact_continue, exact_return, exact_delete, exact_end}
use Rattle.parse_stmt.proofs.Printing.{exact_print}
use Rattle.parse_stmt.proofs.Bodies.{Inside, Opens}
use Rattle.parse_stmt.proofs.Nested.{exact_if, exact_for, exact_while, exact_do, exact_select, exact_scope}

module _ (deep : ℕ) (inner : Spot → Reader Stmt) (room : ℕ) (Inner : Level → InLine → Phrase Stmt) (inside : Inside inner room Inner) where
  exact_led : (at : Span) (level : Level) (line : InLine) (other : FaultKind) (lead : Lead)
      → Exact (reading.led (suc deep) inner room at (record { level = level; line = line; other = other }) lead) (grammar.led (suc deep) Inner at level line lead) closes
  exact_led at level line other leads.Dim = dim_exact deep at level
  exact_led at level line other leads.Static = static_exact deep at
  exact_led at level line other leads.Const = constant_exact deep at
  exact_led at level line other leads.Function = exact_result deep at
  exact_led at level line other leads.Print = exact_print deep at
  exact_led at level line other leads.Line = exact_line_input deep at
  exact_led at level line other leads.If = exact_if deep inner room Inner inside at level line
  exact_led at level line other leads.For = exact_for deep inner room Inner inside at (level_within level) (line_within line)
  exact_led at level line other leads.While = exact_while deep inner room Inner inside at (level_within level) (line_within line)
  exact_led at level line other leads.Do = exact_do deep inner room Inner inside at (level_within level) (line_within line)
  exact_led at level line other leads.Select = exact_select deep inner room Inner inside (level_within level) (line_within line) at
  exact_led at level line other leads.Scope = exact_scope deep inner room Inner inside (level_within level) (line_within line) at
  exact_led at level line other leads.Exit = exact_exit at
  exact_led at level line other leads.Continue = exact_continue at
  exact_led at level line other leads.Return = exact_return deep at
  exact_led at level line other leads.Delete = exact_delete deep at
  exact_led at level line other leads.End = exact_end deep at
  exact_led at level line other (leads.Call which) = exact_called deep at which
  exact_led at level line other leads.Value = exact_valued deep at
  exact_led at level line other leads.Nothing = record { sound = λ ts. tt; finds = λ ts x rest t f. absurd t; within = λ ts x rest t. absurd t }

  statement_sound : (level : Level) (line : InLine) (other : FaultKind) (ts : List Token) → Done (grammar.statement (suc deep) Inner level line ts) (reading.statement (suc deep) inner room (record { level = level; line = line; other = other }) ts)
  unfolding reading.statement first
  statement_sound level line other [] = tt
  statement_sound level line other (t ∷ ts) =
      map_done (grammar.led (suc deep) Inner t.at level line (lead_of level t.kind) (t ∷ ts)) (grammar.statement (suc deep) Inner level line (t ∷ ts)) _ ((exact_led t.at level line other (lead_of level t.kind)).sound (t ∷ ts))
      (λ x rest l. (t, ts, refl, l))

  statement_finds : (level : Level) (line : InLine) (other : FaultKind) (ts : List Token) (x : Stmt) (rest : List Token) → grammar.statement (suc deep) Inner level line ts x rest → closes (next_kind rest) ≡ true
      → reading.statement (suc deep) inner room (record { level = level; line = line; other = other }) ts ≡ Ok (x, rest)
  unfolding reading.statement first
  statement_finds level line other ts x rest l f =
      ap (λ (m : List Token). reading.statement_at (suc deep) inner room (record { level = level; line = line; other = other }) (first m) m) l.2
      ∙ (exact_led l.0.at level line other (lead_of level l.0.kind)).finds (l.0 ∷ l.1) x rest (subst (λ (m : List Token). grammar.led (suc deep) Inner l.0.at level line (lead_of level l.0.kind) m x rest) l.2 l.3) f

  pub exact_statement : (level : Level) (line : InLine) (other : FaultKind) → Exact (reading.statement (suc deep) inner room (record { level = level; line = line; other = other })) (grammar.statement (suc deep) Inner level line) closes
  exact_statement level line other = record {
    sound = statement_sound level line other;
    finds = statement_finds level line other;
    within = λ ts x rest l. (exact_led l.0.at level line other (lead_of level l.0.kind)).within ts x rest l.3;
  }

  -- ---- what a statement doesn't begin with

  sep_apart : (at : Span) (level : Level) (line : InLine) (kind : TokenKind) (ts : List Token) (x : Stmt) (rest : List Token) → grammar.led (suc deep) Inner at level line (lead_of level kind) ts x rest → (other : InLine) → is_sep other kind ≡ false
  sep_apart at level line kinds.Colon ts x rest l other = absurd l
  sep_apart at level line kinds.LineEnd ts x rest l other = absurd l
  sep_apart at level line kind ts x rest l other = refl

  word_by : (which : Word) (at : Span) (level : Level) (line : InLine) (kind : TokenKind) (ts : List Token) (x : Stmt) (rest : List Token) → lead_of level (kinds.Word which) ≡ leads.Nothing
      → grammar.led (suc deep) Inner at level line (lead_of level kind) ts x rest → (b : Bool) → is_word which kind ≡ b → b ≡ false
  word_by which at level line kind ts x rest none l true is =
      absurd (subst (λ (lead : Lead). grammar.led (suc deep) Inner at level line lead ts x rest) (ap (lead_of level) (word_is which kind is) ∙ none) l)
  word_by which at level line kind ts x rest none l false is = refl

  pub word_apart : (which : Word) (level : Level) (line : InLine) (ts : List Token) (x : Stmt) (rest : List Token) → lead_of level (kinds.Word which) ≡ leads.Nothing
      → grammar.statement (suc deep) Inner level line ts x rest → sees_word which ts ≡ false
  unfolding sees_word first
  word_apart which level line ts x rest none l =
      ap (sees_word which) l.2 ∙ word_by which l.0.at level line l.0.kind ts x rest none l.3 (is_word which l.0.kind) refl

  -- behind End no word comes that would end a block
  EndedBy : Span → List Token → Stmt → List Token → Type 0
  EndedBy at ts x rest = Then any_token (λ u. Then (maybe (expression (suc deep))) (λ y. gives (s.End at y))) ts x rest

  value_no_word : (which : Word) → begins_kind (kinds.Word which) ≡ false → (ts : List Token) → sees_value ts ≡ true → (b : Bool) → sees_word which ts ≡ b → b ≡ false
  value_no_word which not ts v true is = let e : false ≡ true = sym not ∙ sym (ap value_kind (next_word which ts is)) ∙ sym (kind_of_value ts) ∙ v in cc
  value_no_word which not ts v false is = refl

  closed_no_word : (which : Word) → closes (Some (kinds.Word which)) ≡ false → (ts : List Token) → closes (next_kind ts) ≡ true → (b : Bool) → sees_word which ts ≡ b → b ≡ false
  closed_no_word which not ts f true is = let e : false ≡ true = sym not ∙ sym (ap closes (next_word which ts is)) ∙ f in cc
  closed_no_word which not ts f false is = refl

  behind_end : (which : Word) → begins_kind (kinds.Word which) ≡ false → closes (Some (kinds.Word which)) ≡ false → (ts : List Token) (y : Option Expr) (rest : List Token) → maybe (expression (suc deep)) ts y rest → closes (next_kind rest) ≡ true
      → sees_word which ts ≡ false
  behind_end which a b ts y rest (inl t) f = value_no_word which a ts (value_seen deep ts t.given t.between t.front) (sees_word which ts) refl
  behind_end which a b ts y rest (inr t) f = closed_no_word which b ts (ap (λ (r : List Token). closes (next_kind r)) (sym t.1) ∙ f) (sees_word which ts) refl

  end_by : (which : Word) → begins_kind (kinds.Word which) ≡ false → closes (Some (kinds.Word which)) ≡ false
      → (at : Span) (level : Level) (line : InLine) (kind : TokenKind) (ts : List Token) (x : Stmt) (rest : List Token) → grammar.led (suc deep) Inner at level line (lead_of level kind) ts x rest → closes (next_kind rest) ≡ true
      → (b : Bool) → is_word w.KwEnd kind ≡ b → (if b then sees_word which (next ts) else false) ≡ false
  end_by which a b at level line kind ts x rest l f true is =
      let t : Then any_token (λ u. Then (maybe (expression (suc deep))) (λ y. gives (s.End at y))) ts x rest =
      subst (λ (lead : Lead). grammar.led (suc deep) Inner at level line lead ts x rest) (ap (lead_of level) (word_is w.KwEnd kind is)) l in
      behind_end which a b (next ts) t.back.given t.back.between (subst (λ (m : List Token). maybe (expression (suc deep)) m t.back.given t.back.between) t.front t.back.front)
      (ap (λ (r : List Token). closes (next_kind r)) (sym t.back.back.1) ∙ f)
  end_by which a b at level line kind ts x rest l f false is = refl

  end_apart : (which : Word) → begins_kind (kinds.Word which) ≡ false → closes (Some (kinds.Word which)) ≡ false
      → (level : Level) (line : InLine) (ts : List Token) (x : Stmt) (rest : List Token) → grammar.statement (suc deep) Inner level line ts x rest → closes (next_kind rest) ≡ true → sees_end which ts ≡ false
  unfolding sees_end sees_word first
  end_apart which a b level line ts x rest l f =
      ap (λ (m : List Token). if sees_word w.KwEnd m then sees_word which (next ts) else false) l.2
      ∙ end_by which a b l.0.at level line l.0.kind ts x rest l.3 f (is_word w.KwEnd l.0.kind) refl

  apart : (level : Level) (line : InLine) (ts : List Token) (x : Stmt) (rest : List Token) → grammar.statement (suc deep) Inner level line ts x rest → closes (next_kind rest) ≡ true → (closer : Closer) → closed closer ts ≡ false
  apart level line ts x rest l f closers.Next = word_apart w.KwNext level line ts x rest refl l
  apart level line ts x rest l f closers.Wend = word_apart w.KwWend level line ts x rest refl l
  apart level line ts x rest l f closers.Loop = word_apart w.KwLoop level line ts x rest refl l
  apart level line ts x rest l f closers.Scope = end_apart w.KwScope refl refl level line ts x rest l f
  apart level line ts x rest l f closers.Cases = rw (word_apart w.KwCase level line ts x rest refl l) (end_apart w.KwSelect refl refl level line ts x rest l f)
  apart level line ts x rest l f closers.Branches =
      rw (word_apart w.KwElseIf level line ts x rest refl l, word_apart w.KwElse level line ts x rest refl l) (end_apart w.KwIf refl refl level line ts x rest l f)
  apart level line ts x rest l f closers.Else = end_apart w.KwIf refl refl level line ts x rest l f
  apart level line ts x rest l f closers.Sub = end_apart w.KwSub refl refl level line ts x rest l f
  apart level line ts x rest l f closers.Function = end_apart w.KwFunction refl refl level line ts x rest l f
  apart level line ts x rest l f closers.Constructor = end_apart w.KwConstructor refl refl level line ts x rest l f
  apart level line ts x rest l f closers.Destructor = end_apart w.KwDestructor refl refl level line ts x rest l f
  apart level line ts x rest l f closers.Operator = end_apart w.KwOperator refl refl level line ts x rest l f

  pub statement_opens : (level : Level) (line : InLine) (ts : List Token) (x : Stmt) (rest : List Token) → grammar.statement (suc deep) Inner level line ts x rest → closes (next_kind rest) ≡ true → Opens ts
  unfolding sees_sep first
  statement_opens level line ts x rest l f = record {
    no_sep = λ other. ap (sees_sep other) l.2 ∙ sep_apart l.0.at level line l.0.kind ts x rest l.3 other;
    not_closed = apart level line ts x rest l f;
  }

pub suc_not : (n : ℕ) → (suc n == 0) ≡ false
suc_not n = grind (arith, nat_tests)

-- statements of each depth are read exactly
pub inside_of : (deep room : ℕ) → Inside (reading.stmt (suc deep) room) room (grammar.stmt (suc deep) room)
unfolding reading.stmt reading.no_room
inside_of deep zero = record {
  exact = λ level line other. record { sound = λ ts. tt; finds = λ ts x rest t f. absurd t; within = λ ts x rest t. absurd t };
  opens = λ level line ts x rest t f. absurd t;
  deep = λ level line ts x rest t. absurd t;
}
inside_of deep (suc room) = record {
  exact = λ level line other. exact_statement deep (reading.stmt (suc deep) room) room (grammar.stmt (suc deep) room) (inside_of deep room) level line other;
  opens = λ level line ts x rest t f. statement_opens deep (reading.stmt (suc deep) room) room (grammar.stmt (suc deep) room) (inside_of deep room) level line ts x rest t f;
  deep = λ level line ts x rest t. suc_not room;
}

read_by : {A : Type 0} (P : A → List Token → Type 0) (o : Outcome A) (a : A) (rest : List Token) → Done P o → o ≡ Ok (a, rest) → P a rest
read_by P o a rest d is = subst (λ (x : Outcome _). Done P x) is d

pub statements_read : (deep : ℕ) → (room : ℕ) (spot : Spot) (ts rest : List Token) (x : Stmt) → reading.stmt (suc deep) room spot ts ≡ Ok (x, rest) → grammar.stmt (suc deep) room spot.level spot.line ts x rest
statements_read deep room spot ts rest x is =
    read_by (grammar.stmt (suc deep) room spot.level spot.line ts) (reading.stmt (suc deep) room spot ts) x rest (((inside_of deep room).exact spot.level spot.line spot.other).sound ts) is

pub statements_found : (deep : ℕ) → (room : ℕ) (spot : Spot) (ts rest : List Token) (x : Stmt) → grammar.stmt (suc deep) room spot.level spot.line ts x rest → closes (next_kind rest) ≡ true → reading.stmt (suc deep) room spot ts ≡ Ok (x, rest)
statements_found deep room spot ts rest x t f = ((inside_of deep room).exact spot.level spot.line spot.other).finds ts x rest t f
