-- A phrase is one of a greater depth, too.
use Rattle.std.proofs.Common.{◌≤◌, ℕ, zero, suc, Bool, true, false, List, Option, Some, None, inl, inr, arith}
use Rattle.fb_base.specs.declared.fault.Span.{Span}
use Rattle.fb_lexer.specs.declared.token.Token.{Token}
use Rattle.fb_lexer.specs.declared.token.Mark.{Mark}
use Rattle.fb_lexer.specs.declared.word.Word.{Word}
use Rattle.fb_ast.specs.declared.expr.Expr.{Expr}
use Rattle.fb_ast.specs.declared.operator.CallWord.{CallWord}
use Rattle.fb_ast.specs.declared.part.Member.{Member}
use Rattle.fb_ast.specs.declared.stmt.Printed.{Printed}
use Rattle.fb_ast.specs.declared.stmt.Stmt.{Stmt}
use Rattle.fb_ast.specs.declared.stmt.Storage.{Storage}
use Rattle.fb_ast.specs.declared.stmt.Test.{Test}
use Rattle.parse_expr.specs.Reading.{Outcome}
use Rattle.parse_expr.proofs.Sound.{Done, map_done}
use Rattle.parse_parts.specs.declared.kinds.Level.{Level}
use Rattle.parse_parts.specs.declared.kinds.Level.TheVariants as levels
use Rattle.parse_parts.specs.declared.kinds.InLine.{InLine}
use Rattle.parse_parts.specs.declared.kinds.InLine.TheVariants as lines
use Rattle.parse_parts.specs.declared.kinds.Lead.{Lead}
use Rattle.parse_parts.specs.declared.kinds.Lead.TheVariants as leads
use Rattle.parse_parts.specs.declared.kinds.Closer.{Closer}
use Rattle.parse_parts.specs.Heads.{Opening}
use Rattle.parse_parts.specs.Words.{level_within, line_within, lead_of}
use Rattle.parse_parts.specs.Variables.{may_share}
use Rattle.parse_stmt.specs.Phrases.{Phrase, Then, either, maybe, behind_mark, behind_word, Listed, last, another, sep, expression, place}
use Rattle.parse_stmt.specs.Statements.{AllPrinted, nothing, semicolon, comma, value, Many, none, some, Statements, blank, Series}
use Rattle.parse_stmt.specs.Statements as g
use Rattle.parse_stmt.specs.Texts.{Members}
use Rattle.parse_stmt.specs.Texts as texts
use Rattle.parse_stmt.proofs.Starts.{Reach, above}

pub record Wider {A : Type 0} (P Q : Phrase A) : Type 0 where
  pub to : (ts : List Token) (a : A) (rest : List Token) → P ts a rest → Q ts a rest

pub widened : {A : Type 0} {P Q : Phrase A} → Wider P Q → (ts : List Token) (o : Outcome A) → Done (P ts) o → Done (Q ts) o
widened {P = P} {Q = Q} w ts o d = map_done (P ts) (Q ts) o d (λ a rest p. w.to ts a rest p)

wide_same : {A : Type 0} {P : Phrase A} → Wider P P
wide_same = record { to = λ ts a rest p. p }

wide_then : {A B : Type 0} {P Q : Phrase A} {K M : A → Phrase B} → Wider P Q → ((a : A) → Wider (K a) (M a)) → Wider (Then P K) (Then Q M)
wide_then w k = record { to = λ ts b rest t. record { given = t.given; between = t.between; front = w.to ts t.given t.between t.front; back = (k t.given).to t.between b rest t.back } }

either_to : {A : Type 0} {P P' Q Q' : Phrase A} → Wider P Q → Wider P' Q' → (ts : List Token) (a : A) (rest : List Token) → either P P' ts a rest → either Q Q' ts a rest
either_to w v ts a rest (inl p) = inl (w.to ts a rest p)
either_to w v ts a rest (inr p) = inr (v.to ts a rest p)

wide_either : {A : Type 0} {P P' Q Q' : Phrase A} → Wider P Q → Wider P' Q' → Wider (either P P') (either Q Q')
wide_either w v = record { to = either_to w v }

wide_maybe : {A : Type 0} {P Q : Phrase A} → Wider P Q → Wider (maybe P) (maybe Q)
wide_maybe w = wide_either (wide_then w (λ a. wide_same)) wide_same

wide_behind_mark : {A : Type 0} {P Q : Phrase A} (which : Mark) → Wider P Q → Wider (behind_mark which P) (behind_mark which Q)
wide_behind_mark which w = wide_either (wide_then wide_same (λ u. wide_then w (λ a. wide_same))) wide_same

wide_behind_word : {A : Type 0} {P Q : Phrase A} (which : Word) → Wider P Q → Wider (behind_word which P) (behind_word which Q)
wide_behind_word which w = wide_either (wide_then wide_same (λ u. wide_then w (λ a. wide_same))) wide_same

listed_to : {A : Type 0} {P Q : Phrase A} → Wider P Q → (ts : List Token) (all : List A) (rest : List Token) → Listed P ts all rest → Listed Q ts all rest
listed_to w ts all rest (last a b x p) = last ts rest x (w.to ts x rest p)
listed_to w ts all rest (another a between b x more p is q) = another ts between rest x more (w.to ts x between p) is (listed_to w _ more rest q)

pub wide_listed : {A : Type 0} {P Q : Phrase A} → Wider P Q → Wider (Listed P) (Listed Q)
wide_listed w = record { to = listed_to w }

many_to : {A : Type 0} {P Q : Phrase A} → Wider P Q → (ts : List Token) (all : List A) (rest : List Token) → Many P ts all rest → Many Q ts all rest
many_to w ts all rest (none a) = none ts
many_to w ts all rest (some a between b x more p q) = some ts between rest x more (w.to ts x between p) (many_to w between more rest q)

pub wide_many : {A : Type 0} {P Q : Phrase A} → Wider P Q → Wider (Many P) (Many Q)
wide_many w = record { to = many_to w }

module _ (most more : ℕ) (fits : most ≤ more) where
  pub wide_expression : Wider (expression most) (expression more)
  wide_expression = record { to = λ ts x rest p. let small = p.2.1 in (p.0, p.1, (p.2.0, omega arith, p.2.2)) }

  pub wide_place : Wider (place most) (place more)
  wide_place = record { to = λ ts x rest p. let small = p.3 in (p.0, p.1, p.2, omega arith, p.4, p.5, p.6) }

  wide_bounds : Wider (g.bounds most) (g.bounds more)
  wide_bounds = wide_then wide_expression (λ one. wide_then (wide_either (wide_then wide_same (λ u. wide_then wide_expression (λ x. wide_same))) wide_same) (λ b. wide_same))

  pub wide_var : Wider (g.var most) (g.var more)
  wide_var = wide_then wide_same (λ n. wide_then (wide_behind_mark _ wide_bounds) (λ b. wide_then wide_same (λ u. wide_then wide_same (λ t. wide_then (wide_behind_mark _ wide_expression) (λ x. wide_same)))))

  pub wide_shared_var : Wider (g.shared_var most) (g.shared_var more)
  wide_shared_var = wide_then wide_same (λ n. wide_then (wide_behind_mark _ wide_bounds) (λ b. wide_then (wide_behind_mark _ wide_expression) (λ x. wide_same)))

  wide_variables : (at : Span) (where_ : Storage) → Wider (g.variables most at where_) (g.variables more at where_)
  wide_variables at where_ = wide_either (wide_then wide_same (λ u. wide_then wide_same (λ t. wide_then (wide_listed wide_shared_var) (λ all. wide_same)))) (wide_then (wide_listed wide_var) (λ all. wide_same))

  wide_dim_with : (b : Bool) (at : Span) → Wider (g.dim_with most b at) (g.dim_with more b at)
  wide_dim_with true at = wide_either (wide_then wide_same (λ u. wide_variables at _)) (wide_variables at _)
  wide_dim_with false at = wide_variables at _

  wide_constant : (at : Span) → Wider (g.constant most at) (g.constant more at)
  wide_constant at = wide_then wide_same (λ n. wide_then wide_same (λ t. wide_then wide_same (λ u. wide_then wide_expression (λ x. wide_same))))

  pub wide_values : Wider (g.values most) (g.values more)
  wide_values = wide_either (wide_listed wide_expression) wide_same

  wide_valued : (at : Span) → Wider (g.valued most at) (g.valued more at)
  wide_valued at = wide_either (wide_then wide_place (λ left. wide_then wide_same (λ how. wide_then wide_expression (λ x. wide_same))))
      (wide_either (wide_then wide_place (λ x. wide_same)) (wide_then wide_same (λ n. wide_then wide_values (λ all. wide_same))))

  call_word_to : (at : Span) (which : CallWord) (ts : List Token) (x : Stmt) (rest : List Token) → g.call_word most at which ts x rest → g.call_word more at which ts x rest
  call_word_to at which ts x rest (inl p) = inl (p.0, (wide_valued at).to ts x rest p.1)
  call_word_to at which ts x rest (inr p) = let t = p.1 in inr (p.0, record { given = t.given; between = t.between; front = t.front; back = record { given = t.back.given; between = t.back.between; front = wide_values.to t.between t.back.given t.back.between t.back.front; back = t.back.back } })

  printed_to : (fresh : Bool) (ts : List Token) (all : List Printed) (rest : List Token) → AllPrinted most fresh ts all rest → AllPrinted more fresh ts all rest
  printed_to fresh ts all rest (nothing a b) = nothing fresh ts
  printed_to fresh ts all rest (semicolon a b c later is p) = semicolon fresh ts rest later is (printed_to true _ later rest p)
  printed_to fresh ts all rest (comma a b c later is p) = comma fresh ts rest later is (printed_to true _ later rest p)
  printed_to fresh ts all rest (value a between b x later p q) = value ts between rest x later (wide_expression.to ts x between p) (printed_to false between later rest q)

  pub wide_printed : (fresh : Bool) → Wider (AllPrinted most fresh) (AllPrinted more fresh)
  wide_printed fresh = record { to = printed_to fresh }

  wide_range : Wider (g.range most) (g.range more)
  wide_range = wide_then wide_expression (λ start. wide_then wide_same (λ u. wide_then wide_expression (λ end. wide_then (wide_behind_word _ wide_expression) (λ step. wide_same))))

  wide_for_head : Wider (g.for_head most) (g.for_head more)
  wide_for_head = wide_then wide_same (λ n. wide_then wide_same (λ t. wide_then wide_same (λ u. wide_then wide_range (λ all. wide_same))))

  wide_test : Wider (g.test most) (g.test more)
  wide_test = wide_then wide_same (λ at. wide_then wide_same (λ which. wide_then wide_expression (λ x. wide_same)))

  pub wide_any_test : Wider (maybe (g.test most)) (maybe (g.test more))
  wide_any_test = wide_maybe wide_test

  wide_last_test : (one : Option Test) → Wider (g.last_test most one) (g.last_test more one)
  wide_last_test None = wide_any_test
  wide_last_test (Some other) = wide_same

  pub wide_case : Wider (g.one_case most) (g.one_case more)
  wide_case = wide_either (wide_then wide_same (λ at. wide_then wide_same (λ u. wide_then wide_same (λ which. wide_then wide_expression (λ x. wide_same)))))
      (wide_then wide_expression (λ low. wide_either (wide_then wide_same (λ u. wide_then wide_expression (λ high. wide_same))) wide_same))

  wide_cases : Wider (g.all_cases most) (g.all_cases more)
  wide_cases = wide_either wide_same (wide_then (wide_listed wide_case) (λ all. wide_same))

  -- ---- statements with statements inside

  module _ (one other : Level → InLine → Phrase Stmt) (inside : (level : Level) (line : InLine) → Wider (one level line) (other level line)) where
    statements_to : (level : Level) (line : InLine) (ts : List Token) (all : List Stmt) (rest : List Token) → Statements (one level line) line ts all rest → Statements (other level line) line ts all rest
    statements_to level line ts all rest (none a) = none ts
    statements_to level line ts all rest (blank a b later is p) = blank ts rest later is (statements_to level line _ later rest p)
    statements_to level line ts all rest (some a between b x later p is q) = some ts between rest x later ((inside level line).to ts x between p) is (statements_to level line _ later rest q)

    series_to : (level : Level) (ts : List Token) (all : List Stmt) (rest : List Token) → Series (one level lines.Series) ts all rest → Series (other level lines.Series) ts all rest
    series_to level ts all rest (g.last a b x p is) = g.last ts rest x ((inside level lines.Series).to ts x rest p) is
    series_to level ts all rest (g.another a between b x later p is q) = g.another ts between rest x later ((inside level lines.Series).to ts x between p) is (series_to level _ later rest q)

    pub wide_series : (level : Level) → Wider (Series (one level lines.Series)) (Series (other level lines.Series))
    wide_series level = record { to = series_to level }

    pub wide_body : (level : Level) (line : InLine) → Wider (g.body most one level line) (g.body more other level line)
    wide_body level line = wide_then (record { to = statements_to level line }) (λ all. wide_same)

    pub wide_then_series : (level : Level) → Wider (g.then_series most one level) (g.then_series more other level)
    wide_then_series level = record { to = λ ts b rest p. (p.0, series_to level ts p.0 rest p.1, p.2) }

    wide_else_series : (level : Level) → Wider (g.else_series most one level) (g.else_series more other level)
    wide_else_series level = record { to = λ ts b rest p. (p.0, series_to level ts p.0 rest p.1, p.2) }

    wide_series_other : (level : Level) → Wider (g.series_other most one level) (g.series_other more other level)
    wide_series_other level = wide_either (wide_then wide_same (λ at. wide_then wide_same (λ u. wide_then (wide_else_series level) (λ b. wide_same)))) wide_same

    wide_if_series : (at : Span) (condition : Expr) (level : Level) → Wider (g.if_series most one at condition level) (g.if_series more other at condition level)
    wide_if_series at condition level = wide_then (wide_then_series level) (λ b. wide_then (wide_series_other level) (λ o. wide_same))

    pub wide_branch : (at : Span) (condition : Expr) (level : Level) (line : InLine) → Wider (g.branch most one at condition level line) (g.branch more other at condition level line)
    wide_branch at condition level line = wide_then (wide_body level line) (λ b. wide_same)

    pub wide_else_if : (level : Level) (line : InLine) → Wider (g.else_if most one level line) (g.else_if more other level line)
    wide_else_if level line = wide_then wide_same (λ at. wide_then wide_same (λ u. wide_then wide_expression (λ condition. wide_then wide_same (λ v. wide_then wide_same (λ x. wide_branch at condition level line)))))

    pub wide_last_else : (level : Level) (line : InLine) → Wider (g.last_else most one level line) (g.last_else more other level line)
    wide_last_else level line = wide_either (wide_then wide_same (λ at. wide_then wide_same (λ u. wide_then (wide_then wide_same (λ v. wide_body level line)) (λ b. wide_same)))) wide_same

    wide_if_block : (at : Span) (condition : Expr) (level : Level) (line : InLine) → Wider (g.if_block most one at condition level line) (g.if_block more other at condition level line)
    wide_if_block at condition level line = wide_then (wide_branch at condition level line) (λ b. wide_then (wide_many (wide_else_if level line)) (λ all. wide_then (wide_last_else level line) (λ o. wide_same)))

    wide_if_line : (line : InLine) (at : Span) (condition : Expr) (level : Level) → Wider (g.if_line most one line at condition level) (g.if_line more other line at condition level)
    wide_if_line lines.Free at condition level = wide_if_series at condition level
    wide_if_line lines.Series at condition level = wide_if_series at condition level
    wide_if_line lines.Inner at condition level = wide_same

    pub wide_if_behind : (at : Span) (condition : Expr) (level : Level) (line : InLine)
        → Wider (either (Then (sep line) (λ (u : Unit {0}). g.if_block most one at condition (level_within level) (line_within line))) (g.if_line most one line at condition (level_within level)))
        (either (Then (sep line) (λ (u : Unit {0}). g.if_block more other at condition (level_within level) (line_within line))) (g.if_line more other line at condition (level_within level)))
    wide_if_behind at condition level line = wide_either (wide_then wide_same (λ u. wide_if_block at condition (level_within level) (line_within line))) (wide_if_line line at condition (level_within level))

    wide_if : (at : Span) (level : Level) (line : InLine) → Wider (g.if_ most one at level line) (g.if_ more other at level line)
    wide_if at level line = wide_then wide_same (λ u. wide_then wide_expression (λ condition. wide_then wide_same (λ v. wide_if_behind at condition level line)))

    wide_for_tail : (level : Level) (line : InLine) → Wider (g.for_tail most one level line) (g.for_tail more other level line)
    wide_for_tail level line = wide_then wide_same (λ u. wide_then (wide_body level line) (λ b. wide_same))

    wide_for : (at : Span) (level : Level) (line : InLine) → Wider (g.for_ most one at level line) (g.for_ more other at level line)
    wide_for at level line = wide_then wide_same (λ u. wide_then wide_for_head (λ head. wide_then (wide_for_tail level line) (λ tail. wide_same)))

    wide_while : (at : Span) (level : Level) (line : InLine) → Wider (g.while_ most one at level line) (g.while_ more other at level line)
    wide_while at level line = wide_then wide_same (λ u. wide_then wide_expression (λ condition. wide_then wide_same (λ v. wide_then (wide_body level line) (λ b. wide_same))))

    wide_do : (at : Span) (level : Level) (line : InLine) → Wider (g.do_ most one at level line) (g.do_ more other at level line)
    wide_do at level line = wide_then wide_same (λ u. wide_then wide_any_test (λ test. wide_then wide_same (λ v. wide_then (wide_body level line) (λ b. wide_then wide_same (λ x. wide_then (wide_last_test test) (λ o. wide_same))))))

    pub wide_case_branch : (level : Level) (line : InLine) → Wider (g.case_branch most one level line) (g.case_branch more other level line)
    wide_case_branch level line = wide_then wide_same (λ at. wide_then wide_same (λ u. wide_then wide_cases (λ all. wide_then wide_same (λ v. wide_then (wide_body level line) (λ b. wide_same)))))

    wide_select : (at : Span) (level : Level) (line : InLine) → Wider (g.select most one at level line) (g.select more other at level line)
    wide_select at level line = wide_then wide_same (λ u. wide_then wide_same (λ v. wide_then wide_expression (λ x. wide_then wide_same (λ y. wide_then (wide_many (wide_case_branch level line)) (λ all. wide_same)))))

    wide_scope : (at : Span) (level : Level) (line : InLine) → Wider (g.scope most one at level line) (g.scope more other at level line)
    wide_scope at level line = wide_then wide_same (λ u. wide_then wide_same (λ v. wide_then (wide_body level line) (λ b. wide_same)))

    wide_led : (at : Span) (level : Level) (line : InLine) (lead : Lead) → Wider (g.led most one at level line lead) (g.led more other at level line lead)
    wide_led at level line leads.Dim = wide_then wide_same (λ u. wide_dim_with (may_share level) at)
    wide_led at level line leads.Static = wide_then wide_same (λ u. wide_variables at _)
    wide_led at level line leads.Const = wide_then wide_same (λ u. wide_constant at)
    wide_led at level line leads.Function = wide_then wide_same (λ u. wide_then wide_same (λ v. wide_then wide_expression (λ x. wide_same)))
    wide_led at level line leads.Print = wide_then wide_same (λ u. wide_then (wide_printed true) (λ all. wide_same))
    wide_led at level line leads.Line = wide_then wide_same (λ u. wide_then wide_same (λ v. wide_then wide_place (λ x. wide_same)))
    wide_led at level line leads.If = wide_if at level line
    wide_led at level line leads.For = wide_for at (level_within level) (line_within line)
    wide_led at level line leads.While = wide_while at (level_within level) (line_within line)
    wide_led at level line leads.Do = wide_do at (level_within level) (line_within line)
    wide_led at level line leads.Select = wide_select at (level_within level) (line_within line)
    wide_led at level line leads.Scope = wide_scope at (level_within level) (line_within line)
    wide_led at level line leads.Exit = wide_same
    wide_led at level line leads.Continue = wide_same
    wide_led at level line leads.Return = wide_then wide_same (λ u. wide_then (wide_maybe wide_expression) (λ x. wide_same))
    wide_led at level line leads.Delete = wide_then wide_same (λ u. wide_then wide_same (λ all. wide_then wide_expression (λ x. wide_same)))
    wide_led at level line leads.End = wide_then wide_same (λ u. wide_then (wide_maybe wide_expression) (λ x. wide_same))
    wide_led at level line (leads.Call which) = record { to = call_word_to at which }
    wide_led at level line leads.Value = wide_valued at
    wide_led at level line leads.Nothing = wide_same

    pub wide_statement : (level : Level) (line : InLine) → Wider (g.statement most one level line) (g.statement more other level line)
    wide_statement level line = record { to = λ ts x rest p. (p.0, p.1, p.2, (wide_led p.0.at level line (lead_of level p.0.kind)).to ts x rest p.3) }

  -- statements, some levels of them deeper
  pub wide_stmt : (reach : Reach) (room : ℕ) (level : Level) (line : InLine) → Wider (g.stmt most room level line) (g.stmt more (above reach room) level line)
  wide_stmt reach zero level line = record { to = λ ts x rest p. absurd p }
  wide_stmt reach (suc room) level line = wide_statement (g.stmt most room) (g.stmt more (above reach room)) (wide_stmt reach room) level line

  -- ---- procedures and Types

  module _ (reach : Reach) (room : ℕ) where
    wide_ended_by : (closer : Closer) → Wider (texts.ended_by most room closer) (texts.ended_by more (above reach room) closer)
    wide_ended_by closer = wide_then wide_same (λ u. wide_then (wide_body (g.stmt most room) (g.stmt more (above reach room)) (wide_stmt reach room) levels.Procedure lines.Free) (λ b. wide_same))

    wide_procedure_with : (which : Word) (opened : Span → Phrase Opening) → Wider (texts.procedure_with most room which opened) (texts.procedure_with more (above reach room) which opened)
    wide_procedure_with which opened = wide_then wide_same (λ at. wide_then wide_same (λ u. wide_then wide_same (λ o. wide_then (wide_ended_by o.1) (λ b. wide_same))))

    wide_parts : Wider (texts.procedure_parts most room) (texts.procedure_parts more (above reach room))
    wide_parts = wide_either (wide_procedure_with _ _) (wide_either (wide_procedure_with _ _) (wide_either (wide_procedure_with _ _) (wide_either (wide_procedure_with _ _) (wide_procedure_with _ _))))

    pub wide_procedure : Wider (texts.procedure most room) (texts.procedure more (above reach room))
    wide_procedure = record { to = λ ts x rest p. (p.0, wide_parts.to ts p.0 rest p.1, p.2) }

  wide_field : Wider (texts.field most) (texts.field more)
  wide_field = wide_then wide_same (λ n. wide_then (wide_behind_mark _ wide_bounds) (λ b. wide_same))

  wide_member : Wider (texts.one_member most) (texts.one_member more)
  wide_member = wide_either wide_same wide_field

  members_to : (ts : List Token) (all : List Member) (rest : List Token) → Members most ts all rest → Members more ts all rest
  members_to ts all rest (texts.none a) = texts.none ts
  members_to ts all rest (texts.some a between b x later p is q) = texts.some ts between rest x later (wide_member.to ts x between p) is (members_to _ later rest q)

  pub wide_members : Wider (Members most) (Members more)
  wide_members = record { to = members_to }

  pub wide_type_def : Wider (texts.type_def most) (texts.type_def more)
  wide_type_def = wide_then wide_same (λ at. wide_then wide_same (λ u. wide_then wide_same (λ n. wide_then wide_same (λ v. wide_then wide_members (λ all. wide_same)))))
