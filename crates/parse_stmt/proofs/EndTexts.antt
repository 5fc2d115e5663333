-- Where a text ends too early, something is Expected; and DeepNesting is told of no word that this profile doesn't have.
use Rattle.std.proofs.Common.{◌≡◌, ℕ, zero, suc, Bool, true, false, List, [], ◌∷◌, ◌++◌, Option, Some, None, is_some, Ok, Err, refl, sym, ◌∙◌}
use Rattle.fb_base.specs.declared.fault.Span.{Span}
use Rattle.fb_base.specs.declared.fault.FaultKind.{FaultKind}
use Rattle.fb_base.specs.declared.fault.FaultKind.TheVariants.{Expected, ExtraText, DeepNesting}
use Rattle.fb_lexer.specs.declared.token.Token.{Token}
use Rattle.fb_lexer.specs.declared.token.TokenKind.{TokenKind}
use Rattle.fb_lexer.specs.declared.token.Mark.TheVariants.{Equal, Open, Close, Comma, Dot, Semicolon, OpenBracket, CloseBracket}
use Rattle.fb_lexer.specs.declared.word.Word.{Word}
use Rattle.fb_lexer.specs.declared.word.Word.TheVariants as w
use Rattle.fb_ast.specs.declared.expr.Expr.{Expr}
use Rattle.fb_ast.specs.declared.expr.Expr.TheVariants as e
use Rattle.fb_ast.specs.declared.operator.Assignment.{Assignment}
use Rattle.fb_ast.specs.declared.operator.Binary.{Binary}
use Rattle.fb_ast.specs.declared.operator.CallWord.{CallWord}
use Rattle.fb_ast.specs.declared.operator.Comparison.{Comparison}
use Rattle.fb_ast.specs.declared.part.Name.{Name}
use Rattle.fb_ast.specs.declared.part.Member.{Member}
use Rattle.fb_ast.specs.declared.part.Item.{Item}
use Rattle.fb_ast.specs.declared.part.Item.TheVariants as item
use Rattle.fb_ast.specs.declared.part.Member.TheVariants as member
use Rattle.fb_ast.specs.declared.part.ProcedureKind.TheVariants as kind
use Rattle.fb_ast.specs.declared.part.Param.{Param}
use Rattle.fb_ast.specs.declared.part.Head.{Head}
use Rattle.fb_ast.specs.declared.ty.TypeName.{TypeName}
use Rattle.fb_ast.specs.declared.stmt.Block.{Block, roll-Block}
use Rattle.fb_ast.specs.declared.stmt.CaseBranch.{CaseBranch}
use Rattle.parse_expr.specs.declared.error.ReadErr.TheVariants as read_errs
use Rattle.fb_ast.specs.declared.stmt.Branch.{Branch}
use Rattle.fb_ast.specs.declared.stmt.End.{End}
use Rattle.fb_ast.specs.declared.stmt.Printed.{Printed}
use Rattle.fb_ast.specs.declared.stmt.Stmt.{Stmt}
use Rattle.fb_ast.specs.declared.stmt.Stmt.TheVariants as s
use Rattle.fb_ast.specs.declared.stmt.Storage.{Storage}
use Rattle.fb_ast.specs.declared.stmt.Storage.TheVariants as storage
use Rattle.fb_ast.specs.declared.stmt.Until.{Until}
use Rattle.parse_expr.specs.Reading.{first, next, sees, sees_word, Reader, pure}
use Rattle.parse_expr.specs.Reading as reading
use Rattle.parse_expr.specs.Faults.{is_refused_kind}
use Rattle.parse_parts.specs.declared.kinds.Level.{Level}
use Rattle.parse_parts.specs.declared.kinds.Level.TheVariants as levels
use Rattle.parse_parts.specs.declared.kinds.InLine.{InLine}
use Rattle.parse_parts.specs.declared.kinds.InLine.TheVariants as lines
use Rattle.parse_parts.specs.declared.kinds.Spot.{Spot}
use Rattle.parse_parts.specs.declared.kinds.Lead.{Lead}
use Rattle.parse_parts.specs.declared.kinds.Lead.TheVariants as leads
use Rattle.parse_parts.specs.declared.kinds.Closer.{Closer}
use Rattle.parse_parts.specs.declared.kinds.Closer.TheVariants as closers
use Rattle.parse_parts.specs.declared.kinds.ProcedureWord.{ProcedureWord}
use Rattle.parse_parts.specs.declared.kinds.ProcedureWord.TheVariants as words
use Rattle.parse_stmt.specs.declared.module.Found.{Found}
use Rattle.parse_parts.specs.Words.{level_within, line_within, lead_of}
use Rattle.parse_parts.specs.Steps.{place_at, sees_sep, sees_value, sees_name}
use Rattle.parse_parts.specs.Variables as v
use Rattle.parse_parts.specs.Simple as m
use Rattle.parse_parts.specs.Cases as cases_read
use Rattle.parse_stmt.specs.Blocks as b
use Rattle.parse_parts.specs.Heads as heads
use Rattle.parse_stmt.specs.Procedures as p
use Rattle.parse_parts.specs.Members as members_read
use Rattle.parse_stmt.specs.Module as t
use Rattle.parse_stmt.proofs.Odd.{refused_lead}
use Rattle.parse_stmt.proofs.AtEnds.{Early, IsPlain, expected_end, astray_end, extra_end, test_end, more_end, e_then, e_must, e_next, e_pure, e_made, e_here, e_stop, e_refuse, e_choose, e_behind, e_placed, e_expect, e_expect_word, e_sep, e_all, e_comma, e_name, e_type, e_any_name, e_any_type, e_whole, e_place, e_no_value, e_any_value, e_value_behind, e_initial}

module _ (most : ℕ) where
  -- ---- variables

  e_bounds_from : (one : Expr) → Early (v.bounds_from most one)
  unfolding v.bounds_from
  e_bounds_from one = e_behind (sees_word w.KwTo) (e_made _ (e_whole most)) (e_pure _)

  e_any_bounds : Early (v.any_bounds most)
  unfolding v.any_bounds v.bounds
  e_any_bounds = e_behind (sees Open) (e_made _ (e_then (e_whole most) (λ one. e_then (e_bounds_from one) (λ all. e_must (e_expect Close) (e_pure all))))) (e_pure None)

  e_vars : Early (v.vars most)
  unfolding v.vars v.var_turn v.var v.var_behind
  e_vars = e_all (v.var_turn most) (λ found. e_then (e_then e_name (λ n. e_then e_any_bounds (λ a. e_must (e_expect_word w.KwAs) (e_then e_type (λ ty. e_made _ (e_initial most)))))) (λ x. e_comma found x)) []

  e_all_listed : Early (v.all_listed most)
  unfolding v.all_listed v.listed_turn v.listed
  e_all_listed = e_all (v.listed_turn most) (λ found. e_then (e_then e_name (λ n. e_then e_any_bounds (λ a. e_made _ (e_initial most)))) (λ x. e_comma found x)) []

  e_dim_behind : (at : Span) (where_ : Storage) → Early (v.dim_behind most at where_)
  unfolding v.dim_behind v.dim_as v.dim_vars
  e_dim_behind at where_ = e_behind (sees_word w.KwAs) (e_then e_type (λ ty. e_made _ e_all_listed)) (e_made _ e_vars)

  e_dim_by : (share : Bool) (at : Span) → Early (v.dim_by most share at)
  e_dim_by true at = e_behind (sees_word w.KwShared) (e_dim_behind at storage.Shared) (e_dim_behind at storage.Scope)
  e_dim_by false at = e_dim_behind at storage.Scope

  e_dim : (at : Span) (level : Level) → Early (v.dim most at level)
  unfolding v.dim
  e_dim at level = e_next (e_dim_by (v.may_share level) at)

  e_static : (at : Span) → Early (v.static_ most at)
  unfolding v.static_
  e_static at = e_next (e_dim_behind at storage.Static)

  e_constant : (at : Span) → Early (v.constant most at)
  unfolding v.constant
  e_constant at = e_next (e_then e_name (λ n. e_then e_any_type (λ ty. e_must (e_expect Equal) (e_made _ (e_whole most)))))

  -- ---- assignments and calls

  e_assign : (at : Span) (left : Expr) (other : Reader Stmt) → Early other → (o : Option (Assignment × Span)) → Early (m.assign_by most at left other o)
  unfolding m.assign
  e_assign at left other x None = x
  e_assign at left other x (Some q) = e_next (e_made _ (e_whole most))

  e_arguments : Early (m.arguments most)
  unfolding m.arguments m.values m.value_turn
  e_arguments = e_choose sees_value (e_all (m.value_turn most) (λ found. e_then (e_whole most) (λ x. e_comma found x)) []) (e_must e_no_value (e_pure []))

  e_call_name : (at : Span) (n : Name) → Early (m.call_name most at n)
  unfolding m.call_name
  e_call_name at n = e_made _ e_arguments

  e_named : (at : Span) (n : Name) → Early (m.named most at n)
  unfolding m.named
  e_named at n = record { at = λ ts. (e_assign at (e.Name n.at n.text) (m.call_name most at n) (e_call_name at n) (m.assignment_at (first ts))).at ts }

  e_headed : (at : Span) (x : Expr) → Early (m.headed most at x)
  unfolding m.headed m.may_assign m.must_assign
  e_headed at x = more_end (m.is_call x) (record { at = λ ts. (e_assign at x (pure (s.Call at x)) (e_pure _) (m.assignment_at (first ts))).at ts })
      (record { at = λ ts. (e_assign at x (reading.stop Expected) e_stop (m.assignment_at (first ts))).at ts })

  e_valued : (at : Span) → Early (m.valued most at)
  unfolding m.valued
  e_valued at = e_choose m.sees_bare (e_then e_name (e_named at)) (e_then (e_place most) (e_headed at))

  e_called : (at : Span) (word : CallWord) → Early (m.called most at word)
  unfolding m.called
  e_called at word = e_choose m.sees_open_behind (e_valued at) (e_next (e_made _ e_arguments))

  e_result : (at : Span) → Early (m.result_ most at)
  unfolding m.result_
  e_result at = e_next (e_must (e_expect Equal) (e_made _ (e_whole most)))

  -- ---- input, output and leaving

  e_print_turn : (found : List Printed) → Early (m.print_turn most found)
  unfolding m.print_turn m.printed_value
  e_print_turn found = record {
    at = λ ts. test_end (sees Semicolon ts) _ _ tt (test_end (sees Comma ts) _ _ tt ((e_choose sees_value (e_then (e_whole most) (λ x. record { at = λ us. tt })) (e_must e_no_value (e_pure (found, false)))).at ts));
  }

  e_print : (at : Span) → Early (m.print most at)
  unfolding m.print m.all_printed
  e_print at = e_next (e_made _ (e_all (m.print_turn most) e_print_turn []))

  e_line_input : (at : Span) → Early (m.line_input most at)
  unfolding m.line_input
  e_line_input at = e_next (e_must (e_expect_word w.KwInput) (e_made _ (e_place most)))

  e_exit_by : (at : Span) (o : Option End) → Early (m.exit_by at o)
  e_exit_by at None = e_stop
  e_exit_by at (Some which) = e_next (e_pure _)

  e_exit : (at : Span) → Early (m.exit at)
  unfolding m.exit
  e_exit at = e_next (record { at = λ ts. (e_exit_by at (m.exit_at (first ts))).at ts })

  e_continue_by : (at : Span) (o : Option End) → Early (m.continue_by at o)
  e_continue_by at None = e_stop
  e_continue_by at (Some which) = e_next (e_pure _)

  e_continue : (at : Span) → Early (m.continue_ at)
  unfolding m.continue_
  e_continue at = e_next (record { at = λ ts. (e_continue_by at (m.continue_at (first ts))).at ts })

  e_return : (at : Span) → Early (m.return_ most at)
  unfolding m.return_
  e_return at = e_next (e_made _ (e_any_value most))

  e_brackets : Early m.brackets
  unfolding m.brackets
  e_brackets = e_behind (sees OpenBracket) (e_must (e_expect CloseBracket) (e_pure true)) (e_pure false)

  e_delete : (at : Span) → Early (m.delete most at)
  unfolding m.delete
  e_delete at = e_next (e_then e_brackets (λ all. e_made _ (e_whole most)))

  e_end : (at : Span) → Early (m.end_ most at)
  unfolding m.end_
  e_end at = e_next (e_made _ (e_any_value most))

  -- ---- tests and cases

  e_end_of : (word : Word) → Early (b.end_of word)
  unfolding b.end_of
  e_end_of word = e_then e_here (λ at. e_must (e_expect_word w.KwEnd) (e_must (e_expect_word word) (e_pure at)))

  e_test_by : (at : Span) (o : Option Until) → Early (cases_read.test_by most at o)
  e_test_by at None = e_pure None
  e_test_by at (Some word) = e_next (e_made _ (e_whole most))

  e_any_test : Early (cases_read.any_test most)
  unfolding cases_read.any_test
  e_any_test = record { at = λ ts. (e_test_by (place_at ts) (cases_read.until_at (first ts))).at ts }

  e_last_test : (tested : Bool) → Early (cases_read.last_test most tested)
  unfolding cases_read.last_test
  e_last_test tested = more_end tested (e_pure None) e_any_test

  e_is_by : (at : Span) (o : Option Comparison) → Early (cases_read.is_by most at o)
  e_is_by at None = e_stop
  e_is_by at (Some which) = e_next (e_made _ (e_whole most))

  e_is_case : (at : Span) → Early (cases_read.is_case most at)
  unfolding cases_read.is_case
  e_is_case at = record { at = λ ts. (e_is_by at (cases_read.comparison_at (first ts))).at ts }

  e_one_case : Early (cases_read.one_case most)
  unfolding cases_read.one_case cases_read.case_from
  e_one_case = e_placed (sees_word w.KwIs) place_at e_is_case (e_then (e_whole most) (λ low. e_behind (sees_word w.KwTo) (e_made _ (e_whole most)) (e_pure _)))

  e_cases : Early (cases_read.cases_ most)
  unfolding cases_read.cases_ cases_read.case_list cases_read.case_turn
  e_cases = record { at = λ ts. test_end (sees_word w.KwElse ts) _ _ tt ((e_made _ (e_all (cases_read.case_turn most) (λ found. e_then e_one_case (λ x. e_comma found x)) [])).at ts) }

  -- ---- statements with statements inside

  module _ (inner : Spot → Reader Stmt) (room : ℕ) (i : (spot : Spot) → Early (inner spot)) where
    e_deep_end : (line : InLine) → Early (b.deep_end line)
    unfolding b.deep_end b.behind_end
    e_deep_end line = e_next {q = λ ts. Err (read_errs.Fault (b.behind_end line ts), ts)} (record { at = λ ts. astray_end _ ts })

    e_block_turn : (level : Level) (line : InLine) (closer : Closer) (found : List Stmt) → Early (b.block_turn most inner room level line closer found)
    unfolding b.block_turn b.block_stmt b.ended
    e_block_turn level line closer found = record {
      at = λ ts. test_end (sees_sep line ts) _ _ tt (test_end (b.closed closer ts) _ _ tt ((e_then (e_choose (b.end_is_deep most inner room closer) (e_deep_end line) (i (record { level = level; line = line; other = ExtraText }))) (λ x. e_must (e_sep line) (e_pure (found ++ x ∷ [], true)))).at ts));
    }

    e_body : (level : Level) (line : InLine) (closer : Closer) → Early (b.body most inner room level line closer)
    unfolding b.body b.block
    e_body level line closer = e_then (e_all (b.block_turn most inner room level line closer) (e_block_turn level line closer) []) (λ all. e_then e_here (λ end. e_pure (roll-Block (record { stmts = all; end = end }))))

    e_series : (level : Level) (other : FaultKind) → Early (b.series most inner room level other)
    unfolding b.series b.series_from b.series_turn
    e_series level other = e_then (i (record { level = level; line = lines.Series; other = other })) (λ x. e_all (b.series_turn most inner room level) (λ found. e_behind (sees_sep lines.Series) (e_made _ (i (record { level = level; line = lines.Series; other = Expected }))) (e_pure (found, false))) (x ∷ []))

    e_series_then : (level : Level) → Early (b.series_then most inner room level)
    unfolding b.series_then
    e_series_then level = record { at = λ ts. (e_then (e_series level ExtraText) (λ all. record { at = λ rest. tt })).at ts }

    e_series_else : (level : Level) → Early (b.series_else most inner room level)
    unfolding b.series_else
    e_series_else level = record { at = λ ts. (e_then (e_series level Expected) (λ all. record { at = λ rest. tt })).at ts }

    e_series_other : (level : Level) → Early (b.series_other most inner room level)
    unfolding b.series_other
    e_series_other level = e_placed (sees_word w.KwElse) place_at (λ at. e_made (λ (a : Block). Some (at, a)) (e_series_else level)) (e_pure None)

    e_if_series : (at : Span) (condition : Expr) (level : Level) → Early (b.if_series most inner room at condition level)
    unfolding b.if_series
    e_if_series at condition level = e_then (e_series_then level) (λ one. e_made _ (e_series_other level))

    e_branch : (at : Span) (condition : Expr) (level : Level) (line : InLine) → Early (b.branch most inner room at condition level line)
    unfolding b.branch
    e_branch at condition level line = e_made _ (e_body level line closers.Branches)

    e_branches : (level : Level) (line : InLine) (one : Branch) → Early (b.branches most inner room level line one)
    unfolding b.branches b.branch_turn b.else_if
    e_branches level line one = e_all (b.branch_turn most inner room level line)
        (λ found. e_placed (sees_word w.KwElseIf) place_at (λ at. e_made (λ (x : Branch). (found ++ x ∷ [], true)) (e_then (e_whole most) (λ condition. e_must (e_expect_word w.KwThen) (e_must (e_sep line) (e_branch at condition level line))))) (e_pure (found, false))) (one ∷ [])

    e_any_else : (level : Level) (line : InLine) → Early (b.any_else most inner room level line)
    unfolding b.any_else b.else_body
    e_any_else level line = e_placed (sees_word w.KwElse) place_at (λ at. e_made (λ (a : Block). Some (at, a)) (e_must (e_sep line) (e_body level line closers.Else))) (e_pure None)

    e_if_block : (at : Span) (condition : Expr) (level : Level) (line : InLine) → Early (b.if_block most inner room at condition level line)
    unfolding b.if_block
    e_if_block at condition level line = e_then (e_branch at condition level line) (λ one. e_then (e_branches level line one) (λ all. e_then (e_any_else level line) (λ other. e_made _ (e_end_of w.KwIf))))

    e_if_by : (line : InLine) (at : Span) (condition : Expr) (level : Level) → Early (b.if_by most inner room line at condition level)
    e_if_by lines.Free at condition level = e_if_series at condition level
    e_if_by lines.Series at condition level = e_if_series at condition level
    e_if_by lines.Inner at condition level = record { at = λ ts. extra_end ts }

    e_if : (at : Span) (level : Level) (line : InLine) → Early (b.if_ most inner room at level line)
    unfolding b.if_ b.if_behind
    e_if at level line = e_next (e_then (e_whole most) (λ condition. e_must (e_expect_word w.KwThen) (e_behind (sees_sep line) (e_if_block at condition (level_within level) (line_within line)) (e_if_by line at condition (level_within level)))))

    e_for : (at : Span) (level : Level) (line : InLine) → Early (b.for_ most inner room at level line)
    unfolding b.for_ b.for_head b.range b.for_tail
    e_for at level line = e_next (e_then
        (e_then e_name (λ n. e_then e_any_type (λ ty. e_must (e_expect Equal) (e_made _ (e_then (e_whole most) (λ start. e_must (e_expect_word w.KwTo) (e_then (e_whole most) (λ end. e_made _ (e_value_behind most w.KwStep)))))))))
        (λ head. e_made _ (e_must (e_sep line) (e_then (e_body level line closers.Next) (λ a. e_next (e_made _ e_any_name))))))

    e_while : (at : Span) (level : Level) (line : InLine) → Early (b.while_ most inner room at level line)
    unfolding b.while_
    e_while at level line = e_next (e_then (e_whole most) (λ condition. e_must (e_sep line) (e_then (e_body level line closers.Wend) (λ a. e_next (e_pure _)))))

    e_do : (at : Span) (level : Level) (line : InLine) → Early (b.do_ most inner room at level line)
    unfolding b.do_
    e_do at level line = e_next (e_then e_any_test (λ test. e_must (e_sep line) (e_then (e_body level line closers.Loop) (λ a. e_next (e_made _ (e_last_test (is_some test)))))))

    e_case_branch : (at : Span) (level : Level) (line : InLine) → Early (b.case_branch most inner room at level line)
    unfolding b.case_branch
    e_case_branch at level line = e_then e_cases (λ all. e_must (e_sep line) (e_made _ (e_body level line closers.Cases)))

    e_select : (at : Span) (level : Level) (line : InLine) → Early (b.select most inner room at level line)
    unfolding b.select b.case_branches b.select_turn
    e_select at level line = e_next (e_must (e_expect_word w.KwCase) (e_then (e_whole most) (λ value. e_must (e_sep line) (e_then
        (e_all (b.select_turn most inner room level line) (λ found. e_placed (sees_word w.KwCase) place_at (λ place. e_made (λ (x : CaseBranch). (found ++ x ∷ [], true)) (e_case_branch place level line)) (e_pure (found, false))) [])
        (λ all. e_made _ (e_end_of w.KwSelect))))))

    e_scope : (at : Span) (level : Level) (line : InLine) → Early (b.scope most inner room at level line)
    unfolding b.scope
    e_scope at level line = e_next (e_must (e_sep line) (e_then (e_body level line closers.Scope) (λ a. e_made _ (e_end_of w.KwScope))))

    e_led : (at : Span) (spot : Spot) (lead : Lead) → Early (b.led most inner room at spot lead)
    e_led at spot leads.Dim = e_dim at spot.level
    e_led at spot leads.Static = e_static at
    e_led at spot leads.Const = e_constant at
    e_led at spot leads.Function = e_result at
    e_led at spot leads.Print = e_print at
    e_led at spot leads.Line = e_line_input at
    e_led at spot leads.If = e_if at spot.level spot.line
    e_led at spot leads.For = e_for at (level_within spot.level) (line_within spot.line)
    e_led at spot leads.While = e_while at (level_within spot.level) (line_within spot.line)
    e_led at spot leads.Do = e_do at (level_within spot.level) (line_within spot.line)
    e_led at spot leads.Select = e_select at (level_within spot.level) (line_within spot.line)
    e_led at spot leads.Scope = e_scope at (level_within spot.level) (line_within spot.line)
    e_led at spot leads.Exit = e_exit at
    e_led at spot leads.Continue = e_continue at
    e_led at spot leads.Return = e_return at
    e_led at spot leads.Delete = e_delete at
    e_led at spot leads.End = e_end at
    e_led at spot (leads.Call word) = e_called at word
    e_led at spot leads.Value = e_valued at
    e_led at spot leads.Nothing = record { at = λ ts. astray_end spot.other ts }

    e_statement_at : (spot : Spot) (o : Option Token) → Early (b.statement_at most inner room spot o)
    e_statement_at spot None = e_stop
    e_statement_at spot (Some x) = e_led x.at spot (lead_of spot.level x.kind)

    e_statement : (spot : Spot) → Early (b.statement most inner room spot)
    unfolding b.statement
    e_statement spot = record { at = λ ts. (e_statement_at spot (first ts)).at ts }

  deep_early : (spot : Spot) (ts : List Token) → ts ≡ [] → b.deep_at spot ts (first ts) ≡ Expected
  unfolding first
  deep_early spot [] is = refl
  deep_early spot (x ∷ ts) is = cc

  -- a word that the profile doesn't have begins no statement
  lead_plain : (level : Level) (kind : TokenKind) (b : Bool) → is_refused_kind kind ≡ b → (lead_of level kind ≡ leads.Nothing → ⊥) → b ≡ false
  lead_plain level kind true is never = absurd (never (refused_lead level kind is))
  lead_plain level kind false is never = refl

  deep_lead : (spot : Spot) (x : Token) (ts : List Token) (lead : Lead) → lead_of spot.level x.kind ≡ lead → b.deep_by spot (x ∷ ts) lead ≡ DeepNesting → IsPlain (x ∷ ts)
  unfolding first
  deep_lead spot x ts leads.Nothing is deep = (astray_end spot.other (x ∷ ts)).1 deep
  deep_lead spot x ts lead is deep = lead_plain spot.level x.kind (is_refused_kind x.kind) refl (λ none. let bad : leads.Nothing ≡ lead = sym none ∙ is in cc)

  deep_plain : (spot : Spot) (ts : List Token) → b.deep_at spot ts (first ts) ≡ DeepNesting → IsPlain ts
  unfolding first
  deep_plain spot [] deep = refl
  deep_plain spot (x ∷ ts) deep = deep_lead spot x ts (lead_of spot.level x.kind) refl deep

  e_stmt : (room : ℕ) (spot : Spot) → Early (b.stmt most room spot)
  unfolding b.stmt b.no_room
  e_stmt zero spot = record { at = λ ts. (deep_early spot ts, deep_plain spot ts) }
  e_stmt (suc room) spot = e_statement (b.stmt most room) room (e_stmt room) spot

  -- ---- heads and Declares

  e_mode : Early heads.any_mode
  unfolding heads.any_mode
  e_mode = record { at = λ ts. test_end (sees_word w.KwByVal ts) _ _ tt (test_end (sees_word w.KwByRef ts) _ _ tt tt) }

  e_param_name : (nameless : Bool) → Early (heads.param_name nameless)
  e_param_name true = e_any_name
  e_param_name false = e_made _ e_name

  e_param : (nameless : Bool) → Early (heads.param nameless)
  unfolding heads.param
  e_param nameless = e_then e_here (λ at. e_then e_mode (λ x. e_then (e_param_name nameless) (λ n. e_must (e_expect_word w.KwAs) (e_made (λ (t : TypeName). record { at = at; mode = x; name = n; ty = t }) e_type))))

  e_some_params : (nameless : Bool) → Early (heads.some_params nameless)
  unfolding heads.some_params heads.param_list heads.param_turn
  e_some_params nameless = e_then (e_all (heads.param_turn nameless) (λ found. e_then (e_param nameless) (λ x. e_comma found x)) []) (λ all. e_must (e_expect Close) (e_pure all))

  e_any_params : (nameless : Bool) → Early (heads.any_params nameless)
  unfolding heads.any_params heads.params_behind
  e_any_params nameless = e_behind (sees Open) (record { at = λ ts. test_end (sees Close ts) (Ok ([], next ts)) _ tt ((e_some_params nameless).at ts) }) (e_pure [])

  e_one_param : (nameless : Bool) → Early (heads.one_param nameless)
  unfolding heads.one_param
  e_one_param nameless = e_must (e_expect Open) (e_then (e_param nameless) (λ q. e_must (e_expect Close) (e_pure q)))

  e_no_params : Early heads.no_params
  unfolding heads.no_params
  e_no_params = e_behind (sees Open) (e_expect Close) (e_pure tt)

  e_overload : Early heads.overload
  unfolding heads.overload
  e_overload = record { at = λ ts. test_end (sees_word w.KwOverload ts) _ _ tt tt }

  e_sub_head : (at : Span) (n : Name) (nameless : Bool) → Early (heads.sub_head at n nameless)
  unfolding heads.sub_head
  e_sub_head at n nameless = e_then e_overload (λ more. e_made _ (e_any_params nameless))

  e_function_head : (at : Span) (n : Name) (nameless : Bool) → Early (heads.function_head at n nameless)
  unfolding heads.function_head
  e_function_head at n nameless = e_then e_overload (λ more. e_then (e_any_params nameless) (λ all. e_must (e_expect_word w.KwAs) (e_made _ e_type)))

  e_declared_head : Early heads.declared_head
  unfolding heads.declared_head
  e_declared_head = e_then e_here (λ at. e_choose (sees_word w.KwSub) (e_then (e_next (e_name)) (λ n. e_sub_head at n true)) (e_then (e_must (e_expect_word w.KwFunction) (e_name)) (λ n. e_function_head at n true)))

  e_mark_by : (o : Option Binary) → Early (heads.mark_by o)
  e_mark_by None = e_stop
  e_mark_by (Some which) = e_next (e_pure which)

  e_operator_mark : Early heads.operator_mark
  unfolding heads.operator_mark
  e_operator_mark = record { at = λ ts. (e_mark_by (heads.operator_at (first ts))).at ts }

  e_declared : (at : Span) → Early (heads.declared at)
  unfolding heads.declared heads.declared_operator
  e_declared at = e_behind (sees_word w.KwOperator)
      (e_then e_here (λ mark_at. e_then e_operator_mark (λ which. e_must (e_expect Open) (e_then (e_some_params true) (λ all. e_must (e_expect_word w.KwAs) (e_made (λ (t : TypeName). item.DeclareOperator at which mark_at all t) e_type))))))
      (e_made _ e_declared_head)

  -- ---- procedures

  e_two_params : Early heads.two_params
  unfolding heads.two_params
  e_two_params = e_must (e_expect Open) (e_then (e_param false) (λ one. e_must (e_expect Comma) (e_then (e_param false) (λ other. e_must (e_expect Close) (e_pure (one, other))))))

  e_opened : (which : ProcedureWord) (at : Span) → Early (heads.opened which at)
  unfolding heads.sub_opened heads.function_opened heads.sub_behind heads.function_behind heads.member_sub heads.member_function heads.module_sub heads.module_function heads.constructor heads.destructor heads.operator_behind heads.let_operator heads.mark_operator
  e_opened words.Sub at = e_then e_name (λ n. e_behind (sees Dot) (e_then e_name (λ m. e_then (e_any_params false) (λ all. e_made _ e_any_type))) (e_made _ (e_sub_head at n false)))
  e_opened words.Function at = e_then e_name (λ n. e_behind (sees Dot) (e_then e_name (λ m. e_then (e_any_params false) (λ all. e_made _ e_any_type))) (e_made _ (e_function_head at n false)))
  e_opened words.Constructor at = e_then e_name (λ n. e_made _ (e_any_params false))
  e_opened words.Destructor at = e_then e_name (λ n. e_made _ e_no_params)
  e_opened words.Operator at = e_choose sees_name
      (e_then e_name (λ n. e_must (e_expect Dot) (e_then e_here (λ let_at. e_must (e_expect_word w.KwLet) (e_made (λ (q : Param). (kind.Let at n let_at q, closers.Operator)) (e_one_param false))))))
      (e_then e_here (λ mark_at. e_then e_operator_mark (λ which. e_then e_two_params
      (λ both. e_must (e_expect_word w.KwAs) (e_made (λ (t : TypeName). (kind.Operator at which mark_at both.0 both.1 t, closers.Operator)) e_type)))))

  e_procedure : (room : ℕ) (which : ProcedureWord) → Early (p.procedure most room which)
  unfolding p.procedure p.procedure_parts p.procedure_body p.statements
  e_procedure room which = record {
    at = λ ts. (e_then (e_then e_here (λ at. e_next (e_then (e_opened which at) (λ o. e_made (λ (a : Block). (o.0, a)) (e_must (e_sep lines.Free) (e_then (e_body (b.stmt most room) room (e_stmt room) levels.Procedure lines.Free o.1) (λ a. e_next (e_next (e_pure a)))))))))
        (λ q. record { at = λ rest. tt })).at ts;
  }

  -- ---- Types

  e_member : Early (members_read.one_member most)
  unfolding members_read.one_member members_read.declared_member members_read.constructor_member members_read.destructor_member members_read.let_member members_read.head_member members_read.field
  e_member = e_placed (sees_word w.KwDeclare) place_at
      (λ at. e_choose (sees_word w.KwConstructor) (e_then e_here (λ word_at. e_next (e_made (λ (all : List Param). member.Constructor at word_at all) (e_any_params true))))
      (e_choose (sees_word w.KwDestructor) (e_then e_here (λ word_at. e_next (e_must e_no_params (e_pure (member.Destructor at word_at)))))
      (e_behind (sees_word w.KwOperator) (e_then e_here (λ let_at. e_must (e_expect_word w.KwLet) (e_made (λ (q : Param). member.Let at let_at q) (e_one_param true)))) (e_made (λ (h : Head). member.Declare at h) e_declared_head))))
      (e_choose sees_name (e_then e_name (λ n. e_then e_any_bounds (λ a. e_must (e_expect_word w.KwAs) (e_made _ e_type)))) e_refuse)

  e_member_turn : (found : List Member) → Early (members_read.member_turn most found)
  unfolding members_read.member_turn members_read.ended_member
  e_member_turn found = record {
    at = λ ts. test_end (sees_word w.KwEnd ts) _ _ (test_end (members_read.has_field found) _ _ tt (expected_end ts)) ((e_then e_member (λ x. e_must (e_sep lines.Free) (e_pure (found ++ x ∷ [], true)))).at ts);
  }

  e_type_def : Early (members_read.type_def most)
  unfolding members_read.type_def members_read.members
  e_type_def = e_then e_here (λ at. e_next (e_then e_name (λ n. e_must (e_sep lines.Free) (e_then (e_all (members_read.member_turn most) e_member_turn []) (λ all. e_must (e_expect_word w.KwEnd) (e_must (e_expect_word w.KwType) (e_pure (item.Type at n all))))))))

  -- ---- the module

  e_ended_by : (o : Option Token) → Early (t.ended_by o)
  e_ended_by None = e_pure tt
  e_ended_by (Some x) = e_sep lines.Free

  e_ended : Early (λ ts. t.ended_by (first ts) ts)
  e_ended = record { at = λ ts. (e_ended_by (first ts)).at ts }

  e_ended_item : (found : Found) (x : Item) → Early (t.ended_item found x)
  unfolding t.ended_item
  e_ended_item found x = e_must e_ended (e_pure _)

  e_item_by : (room : ℕ) (found : Found) (o : Option ProcedureWord) → Early (t.item_by most room found o)
  unfolding t.main_stmt t.ended_stmt
  e_item_by room found None = e_then (record { at = λ ts. (e_then (e_stmt (suc room) (record { level = levels.Module; line = lines.Free; other = ExtraText })) (λ x. record { at = λ rest. tt })).at ts }) (λ q. e_must e_ended (e_pure _))
  e_item_by room found (Some which) = e_then (e_procedure room which) (e_ended_item found)

  e_one_item : (room : ℕ) (found : Found) → Early (t.one_item most room found)
  unfolding t.one_item t.declare
  e_one_item room found = e_choose (sees_word w.KwDeclare) (e_then (e_then e_here (λ at. e_next (e_declared at))) (e_ended_item found))
      (e_choose (sees_word w.KwType) (e_then e_type_def (e_ended_item found)) (record { at = λ ts. (e_item_by room found (t.procedure_word ts)).at ts }))

  e_item_at : (room : ℕ) (found : Found) (o : Option Token) → Early (t.item_at most room found o)
  unfolding t.more_items
  e_item_at room found None = e_pure (found, false)
  e_item_at room found (Some x) = record { at = λ ts. test_end (sees_sep lines.Free ts) _ _ tt ((e_one_item room found).at ts) }

  pub e_module : (room : ℕ) → Early (t.module_ most room)
  unfolding t.module_ t.item_turn
  e_module room = e_all (t.item_turn most room) (λ found. record { at = λ ts. (e_item_at room found (first ts)).at ts }) (record { items = []; tokens = 0 })
