-- Two readings of statements with statements inside, of tokens that are alike up to a place and at it, the second
-- perhaps at a greater depth.
use Rattle.std.proofs.Common.{◌≡◌, ℕ, zero, suc, Bool, true, false, if◌then◌else◌, List, [], ◌∷◌, ◌++◌, Option, Some, None, is_some, Ok, Err, refl, sym, ap, ◌∙◌, subst, ◌⊎◌, inl, inr, arith}
use Rattle.fb_base.specs.declared.fault.Span.{Span}
use Rattle.fb_base.specs.declared.fault.FaultKind.{FaultKind}
use Rattle.fb_base.specs.declared.fault.FaultKind.TheVariants.{Expected, ExtraText, DeepNesting}
use Rattle.fb_lexer.specs.declared.token.Token.{Token}
use Rattle.fb_lexer.specs.declared.token.TokenKind.{TokenKind}
use Rattle.fb_lexer.specs.declared.token.TokenKind.TheVariants as kinds
use Rattle.fb_lexer.specs.declared.token.Mark.TheVariants.{Equal}
use Rattle.fb_lexer.specs.declared.word.Word.{Word}
use Rattle.fb_lexer.specs.declared.word.Word.TheVariants as w
use Rattle.fb_ast.specs.declared.expr.Expr.{Expr}
use Rattle.fb_ast.specs.declared.operator.Comparison.{Comparison}
use Rattle.fb_ast.specs.declared.stmt.Block.{Block, roll-Block}
use Rattle.fb_ast.specs.declared.stmt.Branch.{Branch, roll-Branch}
use Rattle.fb_ast.specs.declared.stmt.Case.{Case}
use Rattle.fb_ast.specs.declared.stmt.Case.TheVariants as case
use Rattle.fb_ast.specs.declared.stmt.CaseBranch.{CaseBranch, roll-CaseBranch}
use Rattle.fb_ast.specs.declared.stmt.Cases.TheVariants as cases
use Rattle.fb_ast.specs.declared.stmt.Stmt.{Stmt}
use Rattle.fb_ast.specs.declared.stmt.Stmt.TheVariants as k
use Rattle.fb_ast.specs.declared.stmt.Test.{Test}
use Rattle.fb_ast.specs.declared.stmt.Until.{Until}
use Rattle.fb_ast.specs.declared.part.Name.{Name}
use Rattle.parse_expr.specs.declared.error.ReadErr.TheVariants as read_errs
use Rattle.parse_expr.specs.Reading.{first, next, is_word, holds, same_word, sees_word, expect_word, Outcome, Reader, and_then, pure, take_token}
use Rattle.parse_expr.specs.Expr.{place_or}
use Rattle.parse_expr.proofs.Sound.{Done}
use Rattle.parse_expr.proofs.Ends.{Suffixes, same_end, Leaves}
use Rattle.parse_expr.proofs.Twins.{Rooms, here, there, Gone, Near, gone_then, past, eaten}
use Rattle.parse_parts.specs.declared.kinds.Level.{Level}
use Rattle.parse_parts.specs.declared.kinds.InLine.{InLine}
use Rattle.parse_parts.specs.declared.kinds.InLine.TheVariants as lines
use Rattle.parse_parts.specs.declared.kinds.Spot.{Spot}
use Rattle.parse_parts.specs.declared.kinds.Lead.{Lead}
use Rattle.parse_parts.specs.declared.kinds.Lead.TheVariants as leads
use Rattle.parse_parts.specs.declared.kinds.Closer.{Closer}
use Rattle.parse_parts.specs.declared.kinds.Closer.TheVariants as closers
use Rattle.parse_parts.specs.Words.{level_within, line_within, lead_of, ends_with_end, until_of, comparison_of}
use Rattle.parse_parts.specs.Steps.{whole, any_name, place_at, origin, last_before, astray, extra, sees_sep, any_value}
use Rattle.parse_parts.specs.Simple.{end_}
use Rattle.parse_parts.specs.Cases.{until_at, test_by, any_test, last_test, comparison_at, is_by, is_case, case_from, one_case, case_turn, case_list, cases_}
use Rattle.parse_stmt.specs.Blocks.{sees_end, closed, end_of, body, series_turn, series_from, series, series_end, series_then, series_else, series_other, if_series, branch, else_if, branch_turn, branches, else_body, any_else, if_block, if_by, if_behind, if_, range, for_head, for_tail, for_, while_, do_, case_branch, select_turn, case_branches, select, scope, led, statement_at, statement, deep_by, deep_at, no_room, stmt}
use Rattle.parse_stmt.specs.Statements as grammar
use Rattle.parse_stmt.proofs.Smallest.{word_is}
use Rattle.parse_stmt.proofs.Parts.{exact_case}
use Rattle.parse_stmt.proofs.Nested.{ended_else_if, ended_case}
use Rattle.parse_stmt.proofs.Stmts.{inside_of}
use Rattle.parse_stmt.proofs.Odd.{is_odd_word, by_end, fails_by, refused_word, refused_lead, Ends, Refused, Ended, Stand}
use Rattle.parse_stmt.proofs.Alike.{Shortens, at_place, Both, T, Eats, Taken, SameNext, Over, next_same, first_same, followed, made, given, took, behind, stopped, seen, chosen, expect_near, extra_gone, twin_word, twin_expect, twin_expect_word, twin_sep, twin_here, twin_list, last_same}
use Rattle.parse_stmt.proofs.AlikeParts.{exact_leaves, twin_whole, twin_any_value, twin_value_behind, twin_any_name, twin_any_type, twin_a_name, twin_taking, twin_dim, twin_static, twin_constant, twin_valued, valued_taken, called_here, called_near, called_leaves, twin_result, twin_line_input, twin_exit, twin_continue, twin_return, twin_delete, twin_end}
use Rattle.parse_stmt.proofs.AlikeEnds.{ended_leaves, AtEnd, GoneOrStays, NearOrStays, E, Rests, Left, Closes, Last, Apart, weak, gone_or, stays_then, stays_made, closing, before, gone_close, stays_behind, stays_eaten, stays_at_sep, stays_word, word_gone, twin_at_word, stays_all, all_stays, first_apart, stays_placed, call_kind, value_begins, shortens_series, shortens_word}
use Rattle.parse_stmt.proofs.AlikePrint.{stays_print, print_gone}
use Rattle.parse_stmt.proofs.AlikeBlocks.{Inner, astray_gone, extra_astray, inner_leaves, other_leaves, stays_body, left_alone}

module _ (L : FaultKind → Type 0) (t : Token) (s v : List Token) (stand : Stand L t v) (deep deeper : ℕ) (rooms : Rooms L (suc deep) (suc deeper)) where
  module _ (inner inner' : Spot → Reader Stmt) (room room' : ℕ) (i : Inner L t s v stand deep deeper rooms inner inner' room room') where
    abbrev leave_inner : (spot : Spot) (ts : List Token) → Done (λ (x : Stmt) rest. Suffixes rest ts) (inner spot ts)
    leave_inner = inner_leaves L t s v stand deep deeper rooms inner inner' room room' i

    abbrev leave_other : (spot : Spot) (ts : List Token) → Done (λ (x : Stmt) rest. Suffixes rest ts) (inner' spot ts)
    leave_other = other_leaves L t s v stand deep deeper rooms inner inner' room room' i

    body_stays : (level : Level) (line : InLine) (closer : Closer) → E L t s v stand (Closes L t s v stand closer) (body (suc deep) inner room level line closer) (body (suc deeper) inner' room' level line closer)
    body_stays = stays_body L t s v stand deep deeper rooms inner inner' room room' i

    -- ---- the one-line If

    abbrev next_one : (Spot → Reader Stmt) → Level → List Stmt → Reader (List Stmt × Bool)
    next_one reader level found = λ ts. and_then (reader (record { level = level; line = lines.Series; other = Expected }) ts) (λ x. pure (found ++ x ∷ [], true))

    stays_next : (level : Level) (found : List Stmt) → E L t s v stand (Rests L t s v stand) (next_one inner level found) (next_one inner' level found)
    stays_next level found = stays_made L t s v stand (Rests L t s v stand) (Rests L t s v stand) (λ (x : Stmt). (found ++ x ∷ [], true)) (i.twin (record { level = level; line = lines.Series; other = Expected })) (λ x rest d. d)

    stays_series_turn : (level : Level) (found : List Stmt) → E L t s v stand (Rests L t s v stand) (series_turn (suc deep) inner room level found) (series_turn (suc deeper) inner' room' level found)
    unfolding series_turn
    stays_series_turn level found =
        stays_at_sep L t s v stand (Rests L t s v stand) lines.Series (stays_behind L t s v stand (Rests L t s v stand) (stays_next level found)) (stays_eaten L t s v stand (Rests L t s v stand) (stays_next level found)) (weak L t s v stand (Rests L t s v stand) (given L t s v stand (found, false))) (λ ends. inr (ends, refl))

    series_last_by : (level : Level) (found : List Stmt) → Ends L → (b : Bool) → sees_sep lines.Series (t ∷ s) ≡ b → Gone L t s v (at_place L t s v stand) (series_turn (suc deep) inner room level found (t ∷ s)) ⊎ Last L t s v stand (Rests L t s v stand) (series_turn (suc deep) inner room level found (t ∷ s))
    unfolding series_turn
    series_last_by level found ends true is = rw is (inl (stays_eaten L t s v stand (Rests L t s v stand) (stays_next level found)))
    series_last_by level found ends false is = rw is (inr (refl, (ends, refl)))

    series_last : (level : Level) (found : List Stmt) (rest : List Token) → Ends L × (rest ≡ t ∷ s) → Gone L t s v (at_place L t s v stand) (series_turn (suc deep) inner room level found rest) ⊎ Last L t s v stand (Rests L t s v stand) (series_turn (suc deep) inner room level found rest)
    series_last level found rest d = subst (λ (ts : List Token). Gone L t s v (at_place L t s v stand) (series_turn (suc deep) inner room level found ts) ⊎ Last L t s v stand (Rests L t s v stand) (series_turn (suc deep) inner room level found ts)) (sym d.1) (series_last_by level found d.0 (sees_sep lines.Series (t ∷ s)) refl)

    stays_series_from : (level : Level) (x : Stmt) → E L t s v stand (Rests L t s v stand) (series_from (suc deep) inner room level x) (series_from (suc deeper) inner' room' level x)
    unfolding series_from
    stays_series_from level x = stays_all L t s v stand (Rests L t s v stand) (Rests L t s v stand) (series_turn (suc deep) inner room level) (series_turn (suc deeper) inner' room' level) (shortens_series (suc deep) inner room leave_inner level) (stays_series_turn level) (λ y rest d. d) (series_last level) (shortens_series (suc deeper) inner' room' leave_other level) (x ∷ [])

    series_from_rests : (level : Level) (x : Stmt) (rest : List Token) → Ends L × (rest ≡ t ∷ s) → GoneOrStays L t s v stand (Rests L t s v stand) (series_from (suc deep) inner room level x rest)
    unfolding series_from
    series_from_rests level x rest d = all_stays L t s v stand (Rests L t s v stand) (Rests L t s v stand) (series_turn (suc deep) inner room level) (series_turn (suc deeper) inner' room' level) (shortens_series (suc deep) inner room leave_inner level) (stays_series_turn level) (λ y rest d. d) (series_last level) (x ∷ []) rest (series_last level (x ∷ []) rest d)

    stays_series : (level : Level) (other : FaultKind) → E L t s v stand (Rests L t s v stand) (series (suc deep) inner room level other) (series (suc deeper) inner' room' level other)
    unfolding series
    stays_series level other = stays_then L t s v stand (Rests L t s v stand) (Rests L t s v stand) (i.twin (record { level = level; line = lines.Series; other = other })) (stays_series_from level) (series_from_rests level)

    series_gone : (level : Level) (other : FaultKind) (u : Token) → Refused L t u ⊎ Ends L × (other ≡ ExtraText) → Gone L t s v (at_place L t s v stand) (series (suc deep) inner room level other (t ∷ s))
    unfolding series
    series_gone level other u why = gone_then L t s v (at_place L t s v stand) (inner (record { level = level; line = lines.Series; other = other }) (t ∷ s)) (series_from (suc deep) inner room level) (i.odd_gone (record { level = level; line = lines.Series; other = other }) u why) (λ x rest. (stays_series_from level x).leaves rest)

    -- where an Else comes next
    else_there : (rest r : List Token) → first r ≡ first rest → sees_word w.KwElse r ≡ sees_word w.KwElse rest
    unfolding sees_word
    else_there rest r is = ap (holds (is_word w.KwElse)) is

    abbrev series_block : List Token → List Stmt → List Token → Block
    series_block ts all rest = roll-Block (record { stmts = all; end = if sees_word w.KwElse rest then place_at rest else last_before ts rest })

    abbrev else_block : List Token → List Stmt → List Token → Block
    else_block ts all rest = roll-Block (record { stmts = all; end = last_before ts rest })

    series_end_first : (ts us : List Token) (all : List Stmt) (rest r : List Token) → first r ≡ first rest → last_before us r ≡ last_before ts rest → series_block us all r ≡ series_block ts all rest
    unfolding place_at
    series_end_first ts us all rest r is last = rw (else_there rest r is, last, is) refl

    series_end_refused : (ts us : List Token) (all : List Stmt) (rest r : List Token) → SameNext L t s v stand rest r → sees_word w.KwElse rest ≡ false → last_before us r ≡ last_before ts rest → series_block us all r ≡ series_block ts all rest
    unfolding sees_word
    series_end_refused ts us all rest r n none last = rw (n.word w.KwElse refl refl, none, last) refl

    else_refused : (u : Token) → Refused L t u → sees_word w.KwElse (t ∷ s) ≡ false
    unfolding sees_word first
    else_refused u r = refused_word w.KwElse t.kind r.word refl

    series_end_here : (ts us : List Token) (all : List Stmt) → SameNext L t s v stand (t ∷ s) v ⊎ Over L t s v stand (t ∷ s) v → last_before us v ≡ last_before ts (t ∷ s) → (u : Token) → Refused L t u ⊎ Ended L u → (series_block us all v ≡ series_block ts all (t ∷ s)) ⊎ Ends L × (t ∷ s ≡ t ∷ s)
    series_end_here ts us all next last u (inr e) = inr (e.ends, refl)
    series_end_here ts us all (inl n) last u (inl r) = inl (series_end_refused ts us all (t ∷ s) v n (else_refused u r) last)
    series_end_here ts us all (inr o) last u (inl r) = inr (o.ended.ends, refl)

    series_end_by : (ts us : List Token) (all : List Stmt) → Stand L t v → (rest r : List Token) → Both L t s v stand rest r → last_before us r ≡ last_before ts rest → (series_block us all r ≡ series_block ts all rest) ⊎ Ends L × (rest ≡ t ∷ s)
    unfolding first
    series_end_by ts us all (inl same) rest r al last = inl (series_end_first ts us all rest r (first_same L t s v stand same rest r al) last)
    series_end_by ts us all (inr odd) rest r here last = series_end_here ts us all (next_same L t s v stand (t ∷ s) v here) last odd.u odd.why
    series_end_by ts us all (inr odd) rest r (there x a b al) last = inl (series_end_first ts us all (x ∷ a) (x ∷ b) refl last)

    last_by : (ts us rest r : List Token) → Taken L t s v stand ts us rest r → (ts ≡ rest → first r ≡ first rest) ⊎ Ends L × (rest ≡ t ∷ s) → (last_before us r ≡ last_before ts rest) ⊎ Ends L × (rest ≡ t ∷ s)
    last_by ts us rest r k (inl same) = inl (last_same L t s v stand ts us rest r k same)
    last_by ts us rest r k (inr over) = inr over

    series_end_same : (ts us : List Token) (all : List Stmt) (rest r : List Token) → Apart L t s v stand ts → Taken L t s v stand ts us rest r → Both L t s v stand rest r → (series_block us all r ≡ series_block ts all rest) ⊎ Ends L × (rest ≡ t ∷ s)
    series_end_same ts us all rest r apart k al = elim (last_by ts us rest r k (first_apart L t s v stand ts rest r apart al)) [ inl last ↦ series_end_by ts us all stand rest r al last | inr over ↦ inr over ]

    else_end_same : (ts us : List Token) (all : List Stmt) (rest r : List Token) → Apart L t s v stand ts → Taken L t s v stand ts us rest r → Both L t s v stand rest r → (else_block us all r ≡ else_block ts all rest) ⊎ Ends L × (rest ≡ t ∷ s)
    else_end_same ts us all rest r apart k al = elim (last_by ts us rest r k (first_apart L t s v stand ts rest r apart al)) [ inl last ↦ inl (ap (λ (end : Span). roll-Block (record { stmts = all; end = end })) last) | inr over ↦ inr over ]

    stays_series_then : (level : Level) → E L t s v stand (Rests L t s v stand) (series_then (suc deep) inner room level) (series_then (suc deeper) inner' room' level)
    unfolding series_then series_end
    stays_series_then level = stays_placed L t s v stand series_block series_end_same (stays_series level ExtraText) (λ u r. series_gone level ExtraText u (inl r))

    series_then_gone : (level : Level) → Ends L → Gone L t s v (at_place L t s v stand) (series_then (suc deep) inner room level (t ∷ s))
    unfolding series_then series_end
    series_then_gone level ends = gone_then L t s v (at_place L t s v stand) (series (suc deep) inner room level ExtraText (t ∷ s)) (λ all rest. Ok (series_block (t ∷ s) all rest, rest)) (series_gone level ExtraText t (inr (ends, refl))) (λ all rest. same_end rest)

    stays_series_else : (level : Level) → E L t s v stand (Rests L t s v stand) (series_else (suc deep) inner room level) (series_else (suc deeper) inner' room' level)
    unfolding series_else
    stays_series_else level = stays_placed L t s v stand else_block else_end_same (stays_series level Expected) (λ u r. series_gone level Expected u (inl r))

    else_at : (level : Level) (at : Span) → E L t s v stand {A = Option (Span × Block)} (Rests L t s v stand) (λ ts. and_then (series_else (suc deep) inner room level ts) (λ b. pure (Some (at, b)))) (λ ts. and_then (series_else (suc deeper) inner' room' level ts) (λ b. pure (Some (at, b))))
    else_at level at = stays_made L t s v stand (Rests L t s v stand) (Rests L t s v stand) (λ (b : Block). Some (at, b)) (stays_series_else level) (λ b rest d. d)

    stays_series_other : (level : Level) → E L t s v stand (Rests L t s v stand) (series_other (suc deep) inner room level) (series_other (suc deeper) inner' room' level)
    unfolding series_other
    stays_series_other level = stays_word L t s v stand (Rests L t s v stand) w.KwElse refl (else_at level) (weak L t s v stand (Rests L t s v stand) (given L t s v stand None))

    series_other_here : (level : Level) → Ends L → GoneOrStays L t s v stand (Rests L t s v stand) (series_other (suc deep) inner room level (t ∷ s))
    unfolding series_other
    series_other_here level ends = word_gone L t s v stand (Rests L t s v stand) (Rests L t s v stand) w.KwElse (λ ts. Ok (None, ts)) (else_at level) (λ is. inr (ends, refl))

    abbrev line_if : ℕ → (Spot → Reader Stmt) → ℕ → Span → Expr → Level → Block → Reader Stmt
    line_if most reader depth at condition level one = λ ts. and_then (series_other most reader depth level ts) (λ other. pure (k.IfLine at condition one other))

    stays_line_if : (at : Span) (condition : Expr) (level : Level) (one : Block) → E L t s v stand (Rests L t s v stand) (line_if (suc deep) inner room at condition level one) (line_if (suc deeper) inner' room' at condition level one)
    stays_line_if at condition level one = stays_made L t s v stand (Rests L t s v stand) (Rests L t s v stand) (λ other. k.IfLine at condition one other) (stays_series_other level) (λ other rest d. d)

    line_if_rests : (at : Span) (condition : Expr) (level : Level) (one : Block) (rest : List Token) → Ends L × (rest ≡ t ∷ s) → GoneOrStays L t s v stand (Rests L t s v stand) (line_if (suc deep) inner room at condition level one rest)
    line_if_rests at condition level one rest d =
        subst (λ (ts : List Token). GoneOrStays L t s v stand (Rests L t s v stand) (line_if (suc deep) inner room at condition level one ts)) (sym d.1)
        (gone_or L t s v stand (Rests L t s v stand) (Rests L t s v stand) (series_other (suc deep) inner room level (t ∷ s)) (λ other. pure (k.IfLine at condition one other)) (series_other_here level d.0) (λ other r. same_end r) (λ other r e. inr e))

    stays_if_series : (at : Span) (condition : Expr) (level : Level) → E L t s v stand (Rests L t s v stand) (if_series (suc deep) inner room at condition level) (if_series (suc deeper) inner' room' at condition level)
    unfolding if_series
    stays_if_series at condition level = stays_then L t s v stand (Rests L t s v stand) (Rests L t s v stand) (stays_series_then level) (stays_line_if at condition level) (line_if_rests at condition level)

    if_series_gone : (at : Span) (condition : Expr) (level : Level) → Ends L → Gone L t s v (at_place L t s v stand) (if_series (suc deep) inner room at condition level (t ∷ s))
    unfolding if_series
    if_series_gone at condition level ends = gone_then L t s v (at_place L t s v stand) (series_then (suc deep) inner room level (t ∷ s)) (line_if (suc deep) inner room at condition level) (series_then_gone level ends) (λ one rest. (stays_line_if at condition level one).leaves rest)

    -- ---- what takes an End

    abbrev word_behind : Word → Span → Unit {0} → Reader Span
    word_behind which at u = λ ts. and_then (expect_word which ts) (λ x. pure at)

    twin_end_of : (which : Word) → is_odd_word which ≡ false → T L t s v stand (end_of which) (end_of which)
    unfolding end_of
    twin_end_of which plain = twin_here L t s v stand (λ at. followed L t s v stand (twin_expect_word L t s v stand w.KwEnd refl) (λ u. followed L t s v stand (twin_expect_word L t s v stand which plain) (λ x. given L t s v stand at)))
        (λ odd. expect_near L t s v stand w.KwEnd refl (word_behind which t.at) (word_behind which odd.u.at) (λ u. (followed L t s v stand (twin_expect_word L t s v stand which plain) (λ x. given L t s v stand t.at)).leaves) odd)

    both_of : (b c : Bool) → (if b then c else false) ≡ true → (b ≡ true) × (c ≡ true)
    both_of true c is = (refl, is)
    both_of false c is = cc

    -- End and the word that follow a block
    end_of_gone : {A : Type 0} (which : Word) → is_odd_word which ≡ false → (f : Span → A) (rest : List Token) → Left L t s v stand rest → sees_end which rest ≡ true → Gone L t s v (at_place L t s v stand) (and_then (end_of which rest) (λ at. pure (f at)))
    unfolding end_of expect_word sees_end sees_word first next
    end_of_gone which plain f rest (inl is) sees =
        let here_too : (if is_word w.KwEnd t.kind then holds (is_word which) (first s) else false) ≡ true = sym (ap (λ (ts : List Token). if holds (is_word w.KwEnd) (first ts) then holds (is_word which) (first (next ts)) else false) is) ∙ sees in
        let both = both_of (is_word w.KwEnd t.kind) (holds (is_word which) (first s)) here_too in
        rw (is, both.0) (past L t s v (at_place L t s v stand) s (and_then (and_then (expect_word which s) (λ x. pure (place_at (t ∷ s)))) (λ at. pure (f at))) (omega arith)
        ((followed L t s v stand (followed L t s v stand (twin_expect_word L t s v stand which plain) (λ x. given L t s v stand (place_at (t ∷ s)))) (λ at. given L t s v stand (f at))).leaves s))
    end_of_gone which plain f rest (inr left) sees =
        let there_too : (if is_word w.KwEnd left.0.kind then is_word which t.kind else false) ≡ true = sym (ap (λ (ts : List Token). if holds (is_word w.KwEnd) (first ts) then holds (is_word which) (first (next ts)) else false) left.1) ∙ sees in
        let both = both_of (is_word w.KwEnd left.0.kind) (is_word which t.kind) there_too in
        rw (left.1, both.0, both.1) (omega arith)

    -- a word that isn't End doesn't stand before the place
    left_word : (which : Word) → is_word which (kinds.Word w.KwEnd) ≡ false → (rest : List Token) → Left L t s v stand rest → sees_word which rest ≡ true → (rest ≡ t ∷ s) × (is_word which t.kind ≡ true)
    unfolding sees_word first
    left_word which apart rest (inl is) sees = (is, ap (λ (ts : List Token). holds (is_word which) (first ts)) (sym is) ∙ sees)
    left_word which apart rest (inr left) sees =
        let bad : true ≡ false = sym sees ∙ ap (λ (ts : List Token). holds (is_word which) (first ts)) left.1 ∙ ap (is_word which) (word_is w.KwEnd left.0.kind left.2) ∙ apart in cc

    -- ---- the If of several lines

    stays_branch : (at : Span) (condition : Expr) (level : Level) (line : InLine) → E L t s v stand (Closes L t s v stand closers.Branches) (branch (suc deep) inner room at condition level line) (branch (suc deeper) inner' room' at condition level line)
    unfolding branch
    stays_branch at condition level line = stays_made L t s v stand (Closes L t s v stand closers.Branches) (Closes L t s v stand closers.Branches) (λ b. roll-Branch (record { at = at; condition = condition; body = b })) (body_stays level line closers.Branches) (λ b rest d. d)

    stays_else_if : (at : Span) (level : Level) (line : InLine) → E L t s v stand (Closes L t s v stand closers.Branches) (else_if (suc deep) inner room at level line) (else_if (suc deeper) inner' room' at level line)
    unfolding else_if
    stays_else_if at level line = before L t s v stand (Closes L t s v stand closers.Branches) (twin_whole L t s v stand deep deeper rooms) (λ condition. before L t s v stand (Closes L t s v stand closers.Branches) (twin_expect_word L t s v stand w.KwThen refl) (λ u. before L t s v stand (Closes L t s v stand closers.Branches) (twin_sep L t s v stand line) (λ x. stays_branch at condition level line)))

    abbrev AnotherBranch : List Branch × Bool → List Token → Type 0
    AnotherBranch p rest = (p.1 ≡ true) × Closes L t s v stand closers.Branches p.0 rest

    abbrev else_or_end : List Token → Bool
    else_or_end ts = if sees_word w.KwElse ts then true else sees_end w.KwIf ts

    abbrev AfterBranches : List Branch → List Token → Type 0
    AfterBranches x rest = Left L t s v stand rest × (else_or_end rest ≡ true)

    abbrev found_branch : ℕ → (Spot → Reader Stmt) → ℕ → Level → InLine → List Branch → Span → Reader (List Branch × Bool)
    found_branch most reader depth level line found at = λ ts. and_then (else_if most reader depth at level line ts) (λ b. pure (found ++ b ∷ [], true))

    stays_found_branch : (level : Level) (line : InLine) (found : List Branch) (at : Span) → E L t s v stand AnotherBranch (found_branch (suc deep) inner room level line found at) (found_branch (suc deeper) inner' room' level line found at)
    stays_found_branch level line found at = stays_made L t s v stand (Closes L t s v stand closers.Branches) AnotherBranch (λ (b : Branch). (found ++ b ∷ [], true)) (stays_else_if at level line) (λ b rest d. (refl, d))

    stays_branch_turn : (level : Level) (line : InLine) (found : List Branch) → E L t s v stand AnotherBranch (branch_turn (suc deep) inner room level line found) (branch_turn (suc deeper) inner' room' level line found)
    unfolding branch_turn
    stays_branch_turn level line found = stays_word L t s v stand AnotherBranch w.KwElseIf refl (stays_found_branch level line found) (weak L t s v stand AnotherBranch (given L t s v stand (found, false)))

    branch_last_by : (level : Level) (line : InLine) (found : List Branch) (rest : List Token) → Left L t s v stand rest → (b : Bool) → sees_word w.KwElseIf rest ≡ b → (if b then true else else_or_end rest) ≡ true
        → Gone L t s v (at_place L t s v stand) (branch_turn (suc deep) inner room level line found rest) ⊎ Last L t s v stand AfterBranches (branch_turn (suc deep) inner room level line found rest)
    unfolding branch_turn same_word
    branch_last_by level line found rest left true is closes =
        let l = left_word w.KwElseIf refl rest left is in
        inl (rw is (subst (λ (ts : List Token). Gone L t s v (at_place L t s v stand) (found_branch (suc deep) inner room level line found (place_at ts) (next ts))) (sym l.0) (stays_eaten L t s v stand AnotherBranch (stays_found_branch level line found (place_at (t ∷ s))))))
    branch_last_by level line found rest left false is closes = rw is (inr (refl, (left, closes)))

    branch_last : (level : Level) (line : InLine) (found : List Branch) (rest : List Token) → Left L t s v stand rest × (closed closers.Branches rest ≡ true) → Gone L t s v (at_place L t s v stand) (branch_turn (suc deep) inner room level line found rest) ⊎ Last L t s v stand AfterBranches (branch_turn (suc deep) inner room level line found rest)
    branch_last level line found rest d = branch_last_by level line found rest d.0 (sees_word w.KwElseIf rest) refl d.1

    shortens_branch : (level : Level) (line : InLine) → Shortens (branch_turn (suc deep) inner room level line)
    unfolding branch_turn
    shortens_branch level line = shortens_word w.KwElseIf (λ at. else_if (suc deep) inner room at level line) (λ at. ended_leaves (ended_else_if deep inner room i.Phrases i.inside level line at))

    other_branch : (level : Level) (line : InLine) → Shortens (branch_turn (suc deeper) inner' room' level line)
    unfolding branch_turn
    other_branch level line = shortens_word w.KwElseIf (λ at. else_if (suc deeper) inner' room' at level line) (λ at. ended_leaves (ended_else_if deeper inner' room' i.OtherPhrases i.other_inside level line at))

    not_last : (x : List Branch) (rest : List Token) → AnotherBranch (x, false) rest → AfterBranches x rest
    not_last x rest d = let bad : false ≡ true = d.0 in cc

    stays_branches : (level : Level) (line : InLine) (one : Branch) → E L t s v stand AfterBranches (branches (suc deep) inner room level line one) (branches (suc deeper) inner' room' level line one)
    unfolding branches
    stays_branches level line one = stays_all L t s v stand AfterBranches AnotherBranch (branch_turn (suc deep) inner room level line) (branch_turn (suc deeper) inner' room' level line) (shortens_branch level line) (stays_branch_turn level line) not_last (λ x rest d. branch_last level line x rest d.1) (other_branch level line) (one ∷ [])

    branches_stay : (level : Level) (line : InLine) (one : Branch) (rest : List Token) → Left L t s v stand rest × (closed closers.Branches rest ≡ true) → GoneOrStays L t s v stand AfterBranches (branches (suc deep) inner room level line one rest)
    unfolding branches
    branches_stay level line one rest d = all_stays L t s v stand AfterBranches AnotherBranch (branch_turn (suc deep) inner room level line) (branch_turn (suc deeper) inner' room' level line) (shortens_branch level line) (stays_branch_turn level line) not_last (λ x rest d. branch_last level line x rest d.1) (one ∷ []) rest (branch_last level line (one ∷ []) rest d)

    abbrev OtherOne : Type 0
    OtherOne = Option (Span × Block)

    abbrev else_part : ℕ → (Spot → Reader Stmt) → ℕ → Level → InLine → Span → Reader OtherOne
    else_part most reader depth level line at = λ ts. and_then (else_body most reader depth level line ts) (λ b. pure (Some (at, b)))

    stays_else_part : (level : Level) (line : InLine) (at : Span) → E L t s v stand (Closes L t s v stand closers.Else) (else_part (suc deep) inner room level line at) (else_part (suc deeper) inner' room' level line at)
    unfolding else_body
    stays_else_part level line at = stays_made L t s v stand (Closes L t s v stand closers.Else) (Closes L t s v stand closers.Else) (λ (b : Block). Some (at, b)) (before L t s v stand (Closes L t s v stand closers.Else) (twin_sep L t s v stand line) (λ u. body_stays level line closers.Else)) (λ b rest d. d)

    stays_any_else : (level : Level) (line : InLine) → E L t s v stand (Closes L t s v stand closers.Else) (any_else (suc deep) inner room level line) (any_else (suc deeper) inner' room' level line)
    unfolding any_else
    stays_any_else level line = stays_word L t s v stand (Closes L t s v stand closers.Else) w.KwElse refl (stays_else_part level line) (weak L t s v stand (Closes L t s v stand closers.Else) (given L t s v stand None))

    else_stays_by : (level : Level) (line : InLine) (rest : List Token) → Left L t s v stand rest → (b : Bool) → sees_word w.KwElse rest ≡ b → (if b then true else sees_end w.KwIf rest) ≡ true → GoneOrStays L t s v stand (Closes L t s v stand closers.Else) (any_else (suc deep) inner room level line rest)
    unfolding any_else same_word
    else_stays_by level line rest left true is closes =
        let l = left_word w.KwElse refl rest left is in
        rw is (inl (subst (λ (ts : List Token). Gone L t s v (at_place L t s v stand) (else_part (suc deep) inner room level line (place_at ts) (next ts))) (sym l.0) (stays_eaten L t s v stand (Closes L t s v stand closers.Else) (stays_else_part level line (place_at (t ∷ s))))))
    else_stays_by level line rest left false is closes = rw is (inr (left, closes))

    abbrev last_part : Span → List Branch → OtherOne → Reader Stmt
    last_part at all other = λ ts. and_then (end_of w.KwIf ts) (λ end. pure (k.If at all other end))

    twin_last_part : (at : Span) (all : List Branch) (other : OtherOne) → T L t s v stand (last_part at all other) (last_part at all other)
    twin_last_part at all other = made L t s v stand (λ end. k.If at all other end) (twin_end_of w.KwIf refl)

    last_part_gone : (at : Span) (all : List Branch) (other : OtherOne) (rest : List Token) → Left L t s v stand rest × (closed closers.Else rest ≡ true) → Gone L t s v (at_place L t s v stand) (last_part at all other rest)
    last_part_gone at all other rest d = end_of_gone w.KwIf refl (λ x. k.If at all other x) rest d.0 d.1

    twin_from_else : (at : Span) (all : List Branch) (level : Level) (line : InLine) → T L t s v stand (λ ts. and_then (any_else (suc deep) inner room level line ts) (last_part at all)) (λ ts. and_then (any_else (suc deeper) inner' room' level line ts) (last_part at all))
    twin_from_else at all level line = closing L t s v stand (Closes L t s v stand closers.Else) (stays_any_else level line) (twin_last_part at all) (last_part_gone at all)

    else_gone : (at : Span) (all : List Branch) (level : Level) (line : InLine) (rest : List Token) → Left L t s v stand rest × (else_or_end rest ≡ true) → Gone L t s v (at_place L t s v stand) (and_then (any_else (suc deep) inner room level line rest) (last_part at all))
    else_gone at all level line rest d = gone_close L t s v stand (Closes L t s v stand closers.Else) (any_else (suc deep) inner room level line rest) (last_part at all) (else_stays_by level line rest d.0 (sees_word w.KwElse rest) refl d.1) (λ other r. (twin_last_part at all other).leaves r) (last_part_gone at all)

    abbrev from_branches : ℕ → (Spot → Reader Stmt) → ℕ → Span → Level → InLine → Branch → Reader Stmt
    from_branches most reader depth at level line one = λ ts. and_then (branches most reader depth level line one ts) (λ all us. and_then (any_else most reader depth level line us) (last_part at all))

    branches_gone : (at : Span) (level : Level) (line : InLine) (one : Branch) (rest : List Token) → Left L t s v stand rest × (closed closers.Branches rest ≡ true) → Gone L t s v (at_place L t s v stand) (from_branches (suc deep) inner room at level line one rest)
    branches_gone at level line one rest d = gone_close L t s v stand AfterBranches (branches (suc deep) inner room level line one rest) (λ all us. and_then (any_else (suc deep) inner room level line us) (last_part at all)) (branches_stay level line one rest d)
        (λ all r. (twin_from_else at all level line).leaves r) (λ all r e. else_gone at all level line r e)

    twin_if_block : (at : Span) (condition : Expr) (level : Level) (line : InLine) → T L t s v stand (if_block (suc deep) inner room at condition level line) (if_block (suc deeper) inner' room' at condition level line)
    unfolding if_block
    twin_if_block at condition level line =
        closing L t s v stand (Closes L t s v stand closers.Branches) (stays_branch at condition level line) (λ one. closing L t s v stand AfterBranches (stays_branches level line one) (λ all. twin_from_else at all level line) (λ all rest d. else_gone at all level line rest d))
        (λ one rest d. branches_gone at level line one rest d)

    stays_if_by : (line : InLine) (at : Span) (condition : Expr) (level : Level) → E L t s v stand (Rests L t s v stand) (if_by (suc deep) inner room line at condition level) (if_by (suc deeper) inner' room' line at condition level)
    stays_if_by lines.Free at condition level = stays_if_series at condition level
    stays_if_by lines.Series at condition level = stays_if_series at condition level
    stays_if_by lines.Inner at condition level = weak L t s v stand (Rests L t s v stand) (stopped L t s v stand (λ ts. read_errs.Fault (extra ts)) (λ ts. read_errs.Fault (extra ts)))

    if_by_gone : (line : InLine) (at : Span) (condition : Expr) (level : Level) → Ends L → Gone L t s v (at_place L t s v stand) (if_by (suc deep) inner room line at condition level (t ∷ s))
    if_by_gone lines.Free at condition level ends = if_series_gone at condition level ends
    if_by_gone lines.Series at condition level ends = if_series_gone at condition level ends
    if_by_gone lines.Inner at condition level ends = extra_gone L t s v stand Stmt ends

    stays_if_behind : (at : Span) (condition : Expr) (level : Level) (line : InLine) → E L t s v stand (Rests L t s v stand) (if_behind (suc deep) inner room at condition level line) (if_behind (suc deeper) inner' room' at condition level line)
    unfolding if_behind
    stays_if_behind at condition level line =
        let block = behind L t s v stand (twin_if_block at condition (level_within level) (line_within line)) in
        stays_at_sep L t s v stand (Rests L t s v stand) line (weak L t s v stand (Rests L t s v stand) block.twin) block.gone (stays_if_by line at condition (level_within level)) (λ ends. inl (if_by_gone line at condition (level_within level) ends))

    abbrev if_parts : ℕ → (Spot → Reader Stmt) → ℕ → Span → Level → InLine → Reader Stmt
    if_parts most reader depth at level line = λ ts. and_then (whole most ts) (λ condition us. and_then (expect_word w.KwThen us) (λ u. if_behind most reader depth at condition level line))

    stays_if_parts : (at : Span) (level : Level) (line : InLine) → E L t s v stand (Rests L t s v stand) (if_parts (suc deep) inner room at level line) (if_parts (suc deeper) inner' room' at level line)
    stays_if_parts at level line = before L t s v stand (Rests L t s v stand) (twin_whole L t s v stand deep deeper rooms) (λ condition. before L t s v stand (Rests L t s v stand) (twin_expect_word L t s v stand w.KwThen refl) (λ u. stays_if_behind at condition level line))

    stays_if_ : (at : Span) (level : Level) (line : InLine) → E L t s v stand (Rests L t s v stand) (if_ (suc deep) inner room at level line) (if_ (suc deeper) inner' room' at level line)
    unfolding if_
    stays_if_ at level line = stays_behind L t s v stand (Rests L t s v stand) (stays_if_parts at level line)

    if_gone : (at : Span) (level : Level) (line : InLine) → Gone L t s v (at_place L t s v stand) (if_ (suc deep) inner room at level line (t ∷ s))
    unfolding if_
    if_gone at level line = stays_eaten L t s v stand (Rests L t s v stand) (stays_if_parts at level line)

    -- ---- loops

    twin_for_head : T L t s v stand (for_head (suc deep) inner room) (for_head (suc deeper) inner' room')
    unfolding for_head range
    twin_for_head = followed L t s v stand (twin_a_name L t s v stand deep deeper rooms) (λ n. followed L t s v stand (twin_any_type L t s v stand deep deeper rooms) (λ ty. followed L t s v stand (twin_expect L t s v stand Equal) (λ u. made L t s v stand (λ values. (n, ty, values))
        (followed L t s v stand (twin_whole L t s v stand deep deeper rooms) (λ start. followed L t s v stand (twin_expect_word L t s v stand w.KwTo refl) (λ x. followed L t s v stand (twin_whole L t s v stand deep deeper rooms) (λ end. made L t s v stand (λ step. (start, end, step)) (twin_value_behind L t s v stand deep deeper rooms w.KwStep refl))))))))

    abbrev next_word : Block → Reader (Block × Option Name)
    next_word b = λ ts. and_then (take_token ts) (λ u us. and_then (any_name us) (λ again. pure (b, again)))

    twin_next_word : (b : Block) → Eats L t s v stand (next_word b) (next_word b)
    twin_next_word b = twin_taking L t s v stand deep deeper rooms (made L t s v stand (λ again. (b, again)) (twin_any_name L t s v stand deep deeper rooms))

    -- the word that closes a block is taken
    word_taken : {A : Type 0} (closer : Closer) → ends_with_end closer ≡ false → {f : Block → Reader A} → ((b : Block) → Eats L t s v stand (f b) (f b)) → (b : Block) (rest : List Token) → Left L t s v stand rest × (closed closer rest ≡ true) → Gone L t s v (at_place L t s v stand) (f b rest)
    word_taken closer apart {f = f} k b rest d = subst (λ (ts : List Token). Gone L t s v (at_place L t s v stand) (f b ts)) (sym (left_alone L t s v stand deep deeper rooms inner inner' room room' i closer apart b rest d)) (k b).gone

    twin_for_tail : (level : Level) (line : InLine) → T L t s v stand (for_tail (suc deep) inner room level line) (for_tail (suc deeper) inner' room' level line)
    unfolding for_tail
    twin_for_tail level line = followed L t s v stand (twin_sep L t s v stand line) (λ u. closing L t s v stand (Closes L t s v stand closers.Next) (body_stays level line closers.Next) (λ b. (twin_next_word b).twin) (word_taken closers.Next refl twin_next_word))

    twin_for : (at : Span) (level : Level) (line : InLine) → Eats L t s v stand (for_ (suc deep) inner room at level line) (for_ (suc deeper) inner' room' at level line)
    unfolding for_
    twin_for at level line = twin_taking L t s v stand deep deeper rooms (followed L t s v stand twin_for_head (λ head. made L t s v stand (λ tail. k.For at head.0 head.1 head.2.0 head.2.1 head.2.2 tail.0 tail.1) (twin_for_tail level line)))

    twin_wend : (at : Span) (condition : Expr) (b : Block) → Eats L t s v stand (λ ts. and_then (take_token ts) (λ u. pure (k.While at condition b))) (λ ts. and_then (take_token ts) (λ u. pure (k.While at condition b)))
    twin_wend at condition b = twin_taking L t s v stand deep deeper rooms (given L t s v stand (k.While at condition b))

    twin_while : (at : Span) (level : Level) (line : InLine) → Eats L t s v stand (while_ (suc deep) inner room at level line) (while_ (suc deeper) inner' room' at level line)
    unfolding while_
    twin_while at level line = twin_taking L t s v stand deep deeper rooms (followed L t s v stand (twin_whole L t s v stand deep deeper rooms) (λ condition. followed L t s v stand (twin_sep L t s v stand line) (λ u. closing L t s v stand (Closes L t s v stand closers.Wend) (body_stays level line closers.Wend) (λ b. (twin_wend at condition b).twin) (word_taken closers.Wend refl (twin_wend at condition)))))

    eats_test : (at : Span) (word : Until) → Eats L t s v stand (test_by (suc deep) at (Some word)) (test_by (suc deeper) at (Some word))
    eats_test at word = twin_taking L t s v stand deep deeper rooms (made L t s v stand (λ condition. Some (record { at = at; word = word; condition = condition })) (twin_whole L t s v stand deep deeper rooms))

    twin_test_by : (at : Span) (o : Option Until) → T L t s v stand (test_by (suc deep) at o) (test_by (suc deeper) at o)
    twin_test_by at None = given L t s v stand None
    twin_test_by at (Some word) = (eats_test at word).twin

    test_near : (at other : Span) (o p : Option Until) → p ≡ None → Near L t s v (at_place L t s v stand) (test_by (suc deep) at o (t ∷ s)) (test_by (suc deeper) other p v)
    test_near at other None p is = rw is (inr (v, refl, here))
    test_near at other (Some word) p is = inl (eats_test at word).gone

    twin_any_test : T L t s v stand (any_test (suc deep)) (any_test (suc deeper))
    unfolding any_test place_at
    twin_any_test = seen L t s v stand (λ o. test_by (suc deep) (place_or origin o) (until_at o)) (λ o. test_by (suc deeper) (place_or origin o) (until_at o)) (λ o. twin_test_by (place_or origin o) (until_at o))
        (λ odd. test_near t.at odd.u.at (until_of t.kind) (until_of odd.u.kind) (fails_by until_of None (λ n. refl) refl refl refl refl refl odd.u odd.why))

    twin_last_test : (b : Bool) → T L t s v stand (last_test (suc deep) b) (last_test (suc deeper) b)
    unfolding last_test
    twin_last_test true = given L t s v stand None
    twin_last_test false = twin_any_test

    abbrev loop_word : ℕ → Span → Option Test → Block → Reader Stmt
    loop_word most at one b = λ ts. and_then (take_token ts) (λ u us. and_then (last_test most (is_some one) us) (λ other. pure (k.Do at one b other)))

    loop_eats : (at : Span) (one : Option Test) (b : Block) → Eats L t s v stand (loop_word (suc deep) at one b) (loop_word (suc deeper) at one b)
    loop_eats at one b = twin_taking L t s v stand deep deeper rooms (made L t s v stand (λ other. k.Do at one b other) (twin_last_test (is_some one)))

    loop_gone : (at : Span) (one : Option Test) (b : Block) (rest : List Token) → Left L t s v stand rest × (closed closers.Loop rest ≡ true) → Gone L t s v (at_place L t s v stand) (loop_word (suc deep) at one b rest)
    loop_gone at one b rest d = subst (λ (ts : List Token). Gone L t s v (at_place L t s v stand) (loop_word (suc deep) at one b ts)) (sym (left_alone L t s v stand deep deeper rooms inner inner' room room' i closers.Loop refl b rest d)) (loop_eats at one b).gone

    twin_do : (at : Span) (level : Level) (line : InLine) → Eats L t s v stand (do_ (suc deep) inner room at level line) (do_ (suc deeper) inner' room' at level line)
    unfolding do_
    twin_do at level line = twin_taking L t s v stand deep deeper rooms (followed L t s v stand twin_any_test (λ one. followed L t s v stand (twin_sep L t s v stand line) (λ u. closing L t s v stand (Closes L t s v stand closers.Loop) (body_stays level line closers.Loop) (λ b. (loop_eats at one b).twin) (loop_gone at one))))

    -- ---- Select and Scope

    eats_is : (at : Span) (which : Comparison) → Eats L t s v stand (is_by (suc deep) at (Some which)) (is_by (suc deeper) at (Some which))
    eats_is at which = twin_taking L t s v stand deep deeper rooms (made L t s v stand (λ x. case.Is at which x) (twin_whole L t s v stand deep deeper rooms))

    twin_is_case : (at : Span) → T L t s v stand (is_case (suc deep) at) (is_case (suc deeper) at)
    unfolding is_case
    twin_is_case at = chosen L t s v stand comparison_at (is_by (suc deep) at) (is_by (suc deeper) at) (λ odd. fails_by comparison_of None (λ n. refl) refl refl refl refl refl odd.u odd.why)
        (stopped L t s v stand (λ ts. read_errs.Fault Expected) (λ ts. read_errs.Fault Expected)) (eats_is at)

    twin_case_from : (low : Expr) → T L t s v stand (case_from (suc deep) low) (case_from (suc deeper) low)
    unfolding case_from
    twin_case_from low = twin_word L t s v stand w.KwTo refl (behind L t s v stand (made L t s v stand (λ high. case.Range low high) (twin_whole L t s v stand deep deeper rooms))) (given L t s v stand (case.Value low))

    twin_one_case : T L t s v stand (one_case (suc deep)) (one_case (suc deeper))
    unfolding one_case
    twin_one_case = twin_at_word L t s v stand w.KwIs refl (λ at. twin_is_case at) (followed L t s v stand (twin_whole L t s v stand deep deeper rooms) (λ low. twin_case_from low))

    twin_cases : T L t s v stand (cases_ (suc deep)) (cases_ (suc deeper))
    unfolding cases_ case_list case_turn
    twin_cases = twin_word L t s v stand w.KwElse refl (took L t s v stand cases.Else) (made L t s v stand (λ (all : List Case). cases.List all) (twin_list L t s v stand (one_case (suc deep)) (one_case (suc deeper)) twin_one_case (exact_leaves (exact_case deep)) (exact_leaves (exact_case deeper))))

    stays_case_branch : (at : Span) (level : Level) (line : InLine) → E L t s v stand (Closes L t s v stand closers.Cases) (case_branch (suc deep) inner room at level line) (case_branch (suc deeper) inner' room' at level line)
    unfolding case_branch
    stays_case_branch at level line = before L t s v stand (Closes L t s v stand closers.Cases) twin_cases (λ all. before L t s v stand (Closes L t s v stand closers.Cases) (twin_sep L t s v stand line) (λ u. stays_made L t s v stand (Closes L t s v stand closers.Cases) (Closes L t s v stand closers.Cases) (λ b. roll-CaseBranch (record { at = at; cases = all; body = b })) (body_stays level line closers.Cases) (λ b rest d. d)))

    abbrev AnotherCase : List CaseBranch × Bool → List Token → Type 0
    AnotherCase p rest = (p.1 ≡ true) × Closes L t s v stand closers.Cases p.0 rest

    abbrev AfterCases : List CaseBranch → List Token → Type 0
    AfterCases x rest = Left L t s v stand rest × (sees_end w.KwSelect rest ≡ true)

    abbrev found_case : ℕ → (Spot → Reader Stmt) → ℕ → Level → InLine → List CaseBranch → Span → Reader (List CaseBranch × Bool)
    found_case most reader depth level line found at = λ ts. and_then (case_branch most reader depth at level line ts) (λ b. pure (found ++ b ∷ [], true))

    stays_found_case : (level : Level) (line : InLine) (found : List CaseBranch) (at : Span) → E L t s v stand AnotherCase (found_case (suc deep) inner room level line found at) (found_case (suc deeper) inner' room' level line found at)
    stays_found_case level line found at = stays_made L t s v stand (Closes L t s v stand closers.Cases) AnotherCase (λ (b : CaseBranch). (found ++ b ∷ [], true)) (stays_case_branch at level line) (λ b rest d. (refl, d))

    stays_select_turn : (level : Level) (line : InLine) (found : List CaseBranch) → E L t s v stand AnotherCase (select_turn (suc deep) inner room level line found) (select_turn (suc deeper) inner' room' level line found)
    unfolding select_turn
    stays_select_turn level line found = stays_word L t s v stand AnotherCase w.KwCase refl (stays_found_case level line found) (weak L t s v stand AnotherCase (given L t s v stand (found, false)))

    case_last_by : (level : Level) (line : InLine) (found : List CaseBranch) (rest : List Token) → Left L t s v stand rest → (b : Bool) → sees_word w.KwCase rest ≡ b → (if b then true else sees_end w.KwSelect rest) ≡ true
        → Gone L t s v (at_place L t s v stand) (select_turn (suc deep) inner room level line found rest) ⊎ Last L t s v stand AfterCases (select_turn (suc deep) inner room level line found rest)
    unfolding select_turn same_word
    case_last_by level line found rest left true is closes =
        let l = left_word w.KwCase refl rest left is in
        inl (rw is (subst (λ (ts : List Token). Gone L t s v (at_place L t s v stand) (found_case (suc deep) inner room level line found (place_at ts) (next ts))) (sym l.0) (stays_eaten L t s v stand AnotherCase (stays_found_case level line found (place_at (t ∷ s))))))
    case_last_by level line found rest left false is closes = rw is (inr (refl, (left, closes)))

    shortens_case : (level : Level) (line : InLine) → Shortens (select_turn (suc deep) inner room level line)
    unfolding select_turn
    shortens_case level line = shortens_word w.KwCase (λ at. case_branch (suc deep) inner room at level line) (λ at. ended_leaves (ended_case deep inner room i.Phrases i.inside level line at))

    other_case : (level : Level) (line : InLine) → Shortens (select_turn (suc deeper) inner' room' level line)
    unfolding select_turn
    other_case level line = shortens_word w.KwCase (λ at. case_branch (suc deeper) inner' room' at level line) (λ at. ended_leaves (ended_case deeper inner' room' i.OtherPhrases i.other_inside level line at))

    no_last : (x : List CaseBranch) (rest : List Token) → AnotherCase (x, false) rest → AfterCases x rest
    no_last x rest d = let bad : false ≡ true = d.0 in cc

    stays_cases : (level : Level) (line : InLine) → E L t s v stand AfterCases (case_branches (suc deep) inner room level line) (case_branches (suc deeper) inner' room' level line)
    unfolding case_branches
    stays_cases level line = stays_all L t s v stand AfterCases AnotherCase (select_turn (suc deep) inner room level line) (select_turn (suc deeper) inner' room' level line) (shortens_case level line) (stays_select_turn level line) no_last
        (λ x rest d. case_last_by level line x rest d.1.0 (sees_word w.KwCase rest) refl d.1.1) (other_case level line) []

    twin_select : (at : Span) (level : Level) (line : InLine) → Eats L t s v stand (select (suc deep) inner room at level line) (select (suc deeper) inner' room' at level line)
    unfolding select
    twin_select at level line = twin_taking L t s v stand deep deeper rooms (followed L t s v stand (twin_expect_word L t s v stand w.KwCase refl) (λ u. followed L t s v stand (twin_whole L t s v stand deep deeper rooms) (λ value. followed L t s v stand (twin_sep L t s v stand line)
        (λ x. closing L t s v stand AfterCases (stays_cases level line) (λ all. made L t s v stand (λ end. k.Select at value all end) (twin_end_of w.KwSelect refl)) (λ all rest d. end_of_gone w.KwSelect refl (λ y. k.Select at value all y) rest d.0 d.1)))))

    twin_scope : (at : Span) (level : Level) (line : InLine) → Eats L t s v stand (scope (suc deep) inner room at level line) (scope (suc deeper) inner' room' at level line)
    unfolding scope
    twin_scope at level line = twin_taking L t s v stand deep deeper rooms (followed L t s v stand (twin_sep L t s v stand line)
        (λ u. closing L t s v stand (Closes L t s v stand closers.Scope) (body_stays level line closers.Scope) (λ b. made L t s v stand (λ x. k.Scope at b) (twin_end_of w.KwScope refl)) (λ b rest d. end_of_gone w.KwScope refl (λ y. k.Scope at b) rest d.0 d.1)))

    -- ---- statements

    led_leaves : (at : Span) (spot : Spot) (lead : Lead) (ts : List Token) → Leaves ts (led (suc deep) inner room at spot lead ts)
    led_leaves at spot leads.Dim ts = (twin_dim L t s v stand deep deeper rooms at spot.level).twin.leaves ts
    led_leaves at spot leads.Static ts = (twin_static L t s v stand deep deeper rooms at).twin.leaves ts
    led_leaves at spot leads.Const ts = (twin_constant L t s v stand deep deeper rooms at).twin.leaves ts
    led_leaves at spot leads.Function ts = (twin_result L t s v stand deep deeper rooms at).twin.leaves ts
    led_leaves at spot leads.Line ts = (twin_line_input L t s v stand deep deeper rooms at).twin.leaves ts
    led_leaves at spot leads.For ts = (twin_for at (level_within spot.level) (line_within spot.line)).twin.leaves ts
    led_leaves at spot leads.While ts = (twin_while at (level_within spot.level) (line_within spot.line)).twin.leaves ts
    led_leaves at spot leads.Do ts = (twin_do at (level_within spot.level) (line_within spot.line)).twin.leaves ts
    led_leaves at spot leads.Select ts = (twin_select at (level_within spot.level) (line_within spot.line)).twin.leaves ts
    led_leaves at spot leads.Scope ts = (twin_scope at (level_within spot.level) (line_within spot.line)).twin.leaves ts
    led_leaves at spot leads.Exit ts = (twin_exit L t s v stand deep deeper rooms at).twin.leaves ts
    led_leaves at spot leads.Continue ts = (twin_continue L t s v stand deep deeper rooms at).twin.leaves ts
    led_leaves at spot leads.Return ts = (twin_return L t s v stand deep deeper rooms at).twin.leaves ts
    led_leaves at spot leads.Delete ts = (twin_delete L t s v stand deep deeper rooms at).twin.leaves ts
    led_leaves at spot leads.End ts = (twin_end L t s v stand deep deeper rooms at).twin.leaves ts
    led_leaves at spot leads.Print ts = (stays_print L t s v stand deep deeper rooms at).leaves ts
    led_leaves at spot leads.If ts = (stays_if_ at spot.level spot.line).leaves ts
    led_leaves at spot (leads.Call which) ts = called_leaves L t s v stand deep deeper rooms at which ts
    led_leaves at spot leads.Value ts = (twin_valued L t s v stand deep deeper rooms at).leaves ts
    led_leaves at spot leads.Nothing ts = same_end ts

    led_near : (x : Token) (spot : Spot) (lead : Lead) → lead_of spot.level x.kind ≡ lead → (ts us : List Token) → first ts ≡ Some x → Both L t s v stand ts us
        → NearOrStays L t s v stand (Rests L t s v stand) (led (suc deep) inner room x.at spot lead ts) (led (suc deeper) inner' room' x.at spot lead us)
    led_near x spot leads.Dim is ts us f al = inl ((twin_dim L t s v stand deep deeper rooms x.at spot.level).twin.near ts us al)
    led_near x spot leads.Static is ts us f al = inl ((twin_static L t s v stand deep deeper rooms x.at).twin.near ts us al)
    led_near x spot leads.Const is ts us f al = inl ((twin_constant L t s v stand deep deeper rooms x.at).twin.near ts us al)
    led_near x spot leads.Function is ts us f al = inl ((twin_result L t s v stand deep deeper rooms x.at).twin.near ts us al)
    led_near x spot leads.Line is ts us f al = inl ((twin_line_input L t s v stand deep deeper rooms x.at).twin.near ts us al)
    led_near x spot leads.For is ts us f al = inl ((twin_for x.at (level_within spot.level) (line_within spot.line)).twin.near ts us al)
    led_near x spot leads.While is ts us f al = inl ((twin_while x.at (level_within spot.level) (line_within spot.line)).twin.near ts us al)
    led_near x spot leads.Do is ts us f al = inl ((twin_do x.at (level_within spot.level) (line_within spot.line)).twin.near ts us al)
    led_near x spot leads.Select is ts us f al = inl ((twin_select x.at (level_within spot.level) (line_within spot.line)).twin.near ts us al)
    led_near x spot leads.Scope is ts us f al = inl ((twin_scope x.at (level_within spot.level) (line_within spot.line)).twin.near ts us al)
    led_near x spot leads.Exit is ts us f al = inl ((twin_exit L t s v stand deep deeper rooms x.at).twin.near ts us al)
    led_near x spot leads.Continue is ts us f al = inl ((twin_continue L t s v stand deep deeper rooms x.at).twin.near ts us al)
    led_near x spot leads.Return is ts us f al = inl ((twin_return L t s v stand deep deeper rooms x.at).twin.near ts us al)
    led_near x spot leads.Delete is ts us f al = inl ((twin_delete L t s v stand deep deeper rooms x.at).twin.near ts us al)
    led_near x spot leads.End is ts us f al = inl ((twin_end L t s v stand deep deeper rooms x.at).twin.near ts us al)
    led_near x spot leads.Print is ts us f al = (stays_print L t s v stand deep deeper rooms x.at).near ts us al
    led_near x spot leads.If is ts us f al = (stays_if_ x.at spot.level spot.line).near ts us al
    led_near x spot (leads.Call which) is ts us f al = let c = call_kind spot.level x.kind which is in inl (called_near L t s v stand deep deeper rooms x.at x c.0 which c.1 c.2 ts us f al)
    led_near x spot leads.Value is ts us f al = inl ((twin_valued L t s v stand deep deeper rooms x.at).near ts us al)
    led_near x spot leads.Nothing is ts us f al = inl (inr (read_errs.Fault (astray spot.other us), us, refl, al))

    -- a token that a statement begins with is taken
    led_gone : (spot : Spot) (lead : Lead) → lead_of spot.level t.kind ≡ lead → L DeepNesting → Gone L t s v (at_place L t s v stand) (led (suc deep) inner room t.at spot lead (t ∷ s)) ⊎ (lead ≡ leads.Nothing)
    led_gone spot leads.Dim is loose = inl (twin_dim L t s v stand deep deeper rooms t.at spot.level).gone
    led_gone spot leads.Static is loose = inl (twin_static L t s v stand deep deeper rooms t.at).gone
    led_gone spot leads.Const is loose = inl (twin_constant L t s v stand deep deeper rooms t.at).gone
    led_gone spot leads.Function is loose = inl (twin_result L t s v stand deep deeper rooms t.at).gone
    led_gone spot leads.Line is loose = inl (twin_line_input L t s v stand deep deeper rooms t.at).gone
    led_gone spot leads.For is loose = inl (twin_for t.at (level_within spot.level) (line_within spot.line)).gone
    led_gone spot leads.While is loose = inl (twin_while t.at (level_within spot.level) (line_within spot.line)).gone
    led_gone spot leads.Do is loose = inl (twin_do t.at (level_within spot.level) (line_within spot.line)).gone
    led_gone spot leads.Select is loose = inl (twin_select t.at (level_within spot.level) (line_within spot.line)).gone
    led_gone spot leads.Scope is loose = inl (twin_scope t.at (level_within spot.level) (line_within spot.line)).gone
    led_gone spot leads.Exit is loose = inl (twin_exit L t s v stand deep deeper rooms t.at).gone
    led_gone spot leads.Continue is loose = inl (twin_continue L t s v stand deep deeper rooms t.at).gone
    led_gone spot leads.Return is loose = inl (twin_return L t s v stand deep deeper rooms t.at).gone
    led_gone spot leads.Delete is loose = inl (twin_delete L t s v stand deep deeper rooms t.at).gone
    led_gone spot leads.End is loose = inl (twin_end L t s v stand deep deeper rooms t.at).gone
    led_gone spot leads.Print is loose = inl (print_gone L t s v stand deep deeper rooms t.at)
    led_gone spot leads.If is loose = inl (if_gone t.at spot.level spot.line)
    led_gone spot (leads.Call which) is loose = let c = call_kind spot.level t.kind which is in inl (called_here L t s v stand deep deeper rooms t.at c.0 which c.1 c.2)
    led_gone spot leads.Value is loose = inl (valued_taken L t s v stand deep deeper rooms t.at loose (value_begins spot.level t is))
    led_gone spot leads.Nothing is loose = inr refl

    statement_near : (spot : Spot) (ts us : List Token) → Both L t s v stand ts us → (o : Option Token) → first ts ≡ o → NearOrStays L t s v stand (Rests L t s v stand) (statement_at (suc deep) inner room spot o ts) (statement_at (suc deeper) inner' room' spot o us)
    statement_near spot ts us al None is = inl (inr (read_errs.Fault Expected, us, refl, al))
    statement_near spot ts us al (Some x) is = led_near x spot (lead_of spot.level x.kind) refl ts us is al

    statement_leaves : (spot : Spot) (ts : List Token) (o : Option Token) → Leaves ts (statement_at (suc deep) inner room spot o ts)
    statement_leaves spot ts None = same_end ts
    statement_leaves spot ts (Some x) = led_leaves x.at spot (lead_of spot.level x.kind) ts

    refused_gone : (spot : Spot) (u : Token) → Refused L t u → Gone L t s v (at_place L t s v stand) (statement (suc deep) inner room spot (t ∷ s))
    unfolding statement first
    refused_gone spot u r = rw (refused_lead spot.level t.kind r.word) (astray_gone L t s v stand deep deeper rooms Stmt spot.other u r)

    extra_by : (spot : Spot) → Ends L → spot.other ≡ ExtraText → (lead : Lead) → Gone L t s v (at_place L t s v stand) (led (suc deep) inner room t.at spot lead (t ∷ s)) ⊎ (lead ≡ leads.Nothing) → Gone L t s v (at_place L t s v stand) (led (suc deep) inner room t.at spot lead (t ∷ s))
    extra_by spot ends other lead (inl gone) = gone
    extra_by spot ends other lead (inr none) = rw none (extra_astray L t s v stand deep deeper rooms Stmt spot.other ends other)

    extra_statement : (spot : Spot) → Ends L → spot.other ≡ ExtraText → Gone L t s v (at_place L t s v stand) (statement (suc deep) inner room spot (t ∷ s))
    unfolding statement first
    extra_statement spot ends other = extra_by spot ends other (lead_of spot.level t.kind) (led_gone spot (lead_of spot.level t.kind) refl ends.deep)

    pub statement_gone : (spot : Spot) (u : Token) → Refused L t u ⊎ Ends L × (spot.other ≡ ExtraText) → Gone L t s v (at_place L t s v stand) (statement (suc deep) inner room spot (t ∷ s))
    statement_gone spot u (inl r) = refused_gone spot u r
    statement_gone spot u (inr e) = extra_statement spot e.0 e.1

    -- where an end stands in the second list no statement begins
    ended_near : (spot : Spot) (lead other : Lead) (at : Span) → other ≡ leads.Nothing → Gone L t s v (at_place L t s v stand) (led (suc deep) inner room t.at spot lead (t ∷ s)) ⊎ (lead ≡ leads.Nothing)
        → Near L t s v (at_place L t s v stand) (led (suc deep) inner room t.at spot lead (t ∷ s)) (led (suc deeper) inner' room' at spot other v)
    ended_near spot lead other at is (inl gone) = inl gone
    ended_near spot lead other at is (inr none) = rw (none, is) (inr (read_errs.Fault (astray spot.other v), v, refl, here))

    statement_odd : (spot : Spot) (u : Token) → first v ≡ Some u → Refused L t u ⊎ Ended L u → Near L t s v (at_place L t s v stand) (statement (suc deep) inner room spot (t ∷ s)) (statement (suc deeper) inner' room' spot v)
    unfolding statement first
    statement_odd spot u its (inl r) = inl (refused_gone spot u r)
    statement_odd spot u its (inr e) = rw its (ended_near spot (lead_of spot.level t.kind) (lead_of spot.level u.kind) u.at (by_end (lead_of spot.level) leads.Nothing refl refl u.kind e.end) (led_gone spot (lead_of spot.level t.kind) refl e.ends.deep))

    statement_by : (spot : Spot) → Stand L t v → (ts us : List Token) → Both L t s v stand ts us → NearOrStays L t s v stand (Rests L t s v stand) (statement (suc deep) inner room spot ts) (statement (suc deeper) inner' room' spot us)
    unfolding statement first
    statement_by spot (inl same) ts us al = rw (first_same L t s v stand same ts us al) (statement_near spot ts us al (first ts) refl)
    statement_by spot (inr odd) ts us here = inl (statement_odd spot odd.u odd.is odd.why)
    statement_by spot (inr odd) ts us (there x a b al) = statement_near spot (x ∷ a) (x ∷ b) (there x a b al) (Some x) refl

    pub stays_statement : (spot : Spot) → E L t s v stand (Rests L t s v stand) (statement (suc deep) inner room spot) (statement (suc deeper) inner' room' spot)
    unfolding statement
    stays_statement spot = record { leaves = λ ts. statement_leaves spot ts (first ts); near = statement_by spot stand }

  -- ---- statements of each depth

  no_room_near : (spot : Spot) (ts us : List Token) (other : Outcome Stmt) → L DeepNesting → (lead : Lead) → (lead ≡ leads.Nothing → Near L t s v (at_place L t s v stand) {A = Stmt} (Err (read_errs.Fault (astray spot.other ts), ts)) other)
      → Near L t s v (at_place L t s v stand) (Err (read_errs.Fault (deep_by spot ts lead), ts)) other
  no_room_near spot ts us other loose leads.Nothing none = none refl
  no_room_near spot ts us other loose lead none = inl (inr loose)

  astray_near : (spot : Spot) (ts us : List Token) (q : ℕ) (at : Span) (lead : Lead) → Both L t s v stand ts us → lead ≡ leads.Nothing → Near L t s v (at_place L t s v stand) {A = Stmt} (Err (read_errs.Fault (astray spot.other ts), ts)) (led (suc deeper) (stmt (suc deeper) q) q at spot lead us)
  astray_near spot ts us q at lead al is = rw is (inr (read_errs.Fault (astray spot.other us), us, refl, al))

  no_room_by : (spot : Spot) (ts us : List Token) (q : ℕ) → Both L t s v stand ts us → L DeepNesting → (o : Option Token) → Near L t s v (at_place L t s v stand) (Err (read_errs.Fault (deep_at spot ts o), ts)) (statement_at (suc deeper) (stmt (suc deeper) q) q spot o us)
  no_room_by spot ts us q al loose None = inr (read_errs.Fault Expected, us, refl, al)
  no_room_by spot ts us q al loose (Some x) =
      no_room_near spot ts us (led (suc deeper) (stmt (suc deeper) q) q x.at spot (lead_of spot.level x.kind) us) loose (lead_of spot.level x.kind) (λ is. astray_near spot ts us q x.at (lead_of spot.level x.kind) al is)

  deep_extra : (spot : Spot) (lead : Lead) → Ends L → spot.other ≡ ExtraText → Gone L t s v (at_place L t s v stand) {A = Stmt} (Err (read_errs.Fault (deep_by spot (t ∷ s) lead), t ∷ s))
  deep_extra spot leads.Nothing ends other = extra_astray L t s v stand deep deeper rooms Stmt spot.other ends other
  deep_extra spot lead ends other = inr ends.deep

  no_room_gone : (spot : Spot) (u : Token) → Refused L t u ⊎ Ends L × (spot.other ≡ ExtraText) → Gone L t s v (at_place L t s v stand) (stmt (suc deep) zero spot (t ∷ s))
  unfolding stmt no_room first
  no_room_gone spot u (inl r) = rw (refused_lead spot.level t.kind r.word) (astray_gone L t s v stand deep deeper rooms Stmt spot.other u r)
  no_room_gone spot u (inr e) = deep_extra spot (lead_of spot.level t.kind) e.0 e.1

  deeper_odd : (spot : Spot) (q : ℕ) (u : Token) → (Ended L u → zero ≡ suc q) → Refused L t u ⊎ Ended L u → (other : Outcome Stmt) → Near L t s v (at_place L t s v stand) (stmt (suc deep) zero spot (t ∷ s)) other
  deeper_odd spot q u even (inl r) other = inl (no_room_gone spot u (inl r))
  deeper_odd spot q u even (inr e) other = let bad = even e in absurd (omega arith)

  deeper_near : (spot : Spot) (q : ℕ) → ((u : Token) → Ended L u → zero ≡ suc q) → L DeepNesting → Stand L t v → (ts us : List Token) → Both L t s v stand ts us → Near L t s v (at_place L t s v stand) (stmt (suc deep) zero spot ts) (stmt (suc deeper) (suc q) spot us)
  unfolding stmt no_room statement first
  deeper_near spot q even loose (inl same) ts us al = rw (first_same L t s v stand same ts us al) (no_room_by spot ts us q al loose (first ts))
  deeper_near spot q even loose (inr odd) ts us here = deeper_odd spot q odd.u (even odd.u) odd.why (statement_at (suc deeper) (stmt (suc deeper) q) q spot (first v) v)
  deeper_near spot q even loose (inr odd) ts us (there x a b al) = no_room_by spot (x ∷ a) (x ∷ b) q (there x a b al) loose (Some x)

  twin_no_room : (spot : Spot) (q : ℕ) → ((u : Token) → Ended L u → zero ≡ suc q) → L DeepNesting → T L t s v stand (stmt (suc deep) zero spot) (stmt (suc deeper) (suc q) spot)
  unfolding stmt no_room statement
  twin_no_room spot q even loose = record { leaves = λ ts. same_end ts; near = deeper_near spot q even loose stand }

  both_no_room : (spot : Spot) → T L t s v stand (stmt (suc deep) zero spot) (stmt (suc deeper) zero spot)
  unfolding stmt no_room
  both_no_room spot = stopped L t s v stand (λ ts. read_errs.Fault (deep_at spot ts (first ts))) (λ ts. read_errs.Fault (deep_at spot ts (first ts)))

  end_lead : (level : Level) (kind : TokenKind) → is_word w.KwEnd kind ≡ true → lead_of level kind ≡ leads.End
  end_lead level kind is = ap (lead_of level) (word_is w.KwEnd kind is)

  takes_an_end : (room : ℕ) (spot : Spot) → AtEnd L t s v stand → Gone L t s v (at_place L t s v stand) (stmt (suc deep) (suc room) spot (t ∷ s))
  unfolding stmt statement first end_
  takes_an_end room spot end =
      rw (end_lead spot.level t.kind end)
      (eaten L t s v (at_place L t s v stand) (λ ts. and_then (any_value (suc deep) ts) (λ y. pure (k.End t.at y))) (λ ts. and_then (any_value (suc deeper) ts) (λ y. pure (k.End t.at y))) (made L t s v stand (λ y. k.End t.at y) (twin_any_value L t s v stand deep deeper rooms)))

  reads_an_end : (room : ℕ) (spot : Spot) (us : List Token) → sees_word w.KwEnd us ≡ true → stmt (suc deeper) (suc room) spot us ≡ end_ (suc deeper) (place_at us) us
  unfolding stmt statement sees_word first place_at
  reads_an_end room spot [] is = cc
  reads_an_end room spot (x ∷ us) is = rw (end_lead spot.level x.kind is) refl

  fewer : (room other : ℕ) → Rooms L (suc room) (suc other) → Rooms L room other
  fewer room other (inl is) = inl (omega arith)
  fewer room other (inr more) = let less = more.1 in inr (more.0, omega arith)

  stays_deeper : (r q : ℕ) → Inner L t s v stand deep deeper rooms (stmt (suc deep) r) (stmt (suc deeper) q) r q → (spot : Spot) → E L t s v stand (Rests L t s v stand) (stmt (suc deep) (suc r) spot) (stmt (suc deeper) (suc q) spot)
  unfolding stmt
  stays_deeper r q i spot = stays_statement (stmt (suc deep) r) (stmt (suc deeper) q) r q i spot

  some_room_gone : (r q : ℕ) → Inner L t s v stand deep deeper rooms (stmt (suc deep) r) (stmt (suc deeper) q) r q → (spot : Spot) (u : Token) → Refused L t u ⊎ Ends L × (spot.other ≡ ExtraText) → Gone L t s v (at_place L t s v stand) (stmt (suc deep) (suc r) spot (t ∷ s))
  unfolding stmt
  some_room_gone r q i spot u why = statement_gone (stmt (suc deep) r) (stmt (suc deeper) q) r q i spot u why

  less_even : (r q : ℕ) → ((u : Token) → Ended L u → suc r ≡ suc q) → (u : Token) → Ended L u → r ≡ q
  less_even r q even u e = let n = even u e in omega arith

  pub inner_of : (room room' : ℕ) → Rooms L room room' → ((u : Token) → Ended L u → room ≡ room') → Inner L t s v stand deep deeper rooms (stmt (suc deep) room) (stmt (suc deeper) room') room room'
  inner_of zero zero depths even = record {
    Phrases = grammar.stmt (suc deep) zero;
    OtherPhrases = grammar.stmt (suc deeper) zero;
    inside = inside_of deep zero;
    other_inside = inside_of deeper zero;
    twin = λ spot. weak L t s v stand (Rests L t s v stand) (both_no_room spot);
    odd_gone = no_room_gone;
    deeper_by = depths;
    even = even;
    takes_end = λ spot some end. cc;
    end_is = λ spot us some is. cc;
  }
  inner_of zero (suc q) (inl is) even = absurd (omega arith)
  inner_of zero (suc q) (inr more) even = record {
    Phrases = grammar.stmt (suc deep) zero;
    OtherPhrases = grammar.stmt (suc deeper) (suc q);
    inside = inside_of deep zero;
    other_inside = inside_of deeper (suc q);
    twin = λ spot. weak L t s v stand (Rests L t s v stand) (twin_no_room spot q even more.0);
    odd_gone = no_room_gone;
    deeper_by = inr more;
    even = even;
    takes_end = λ spot some end. cc;
    end_is = λ spot us some is. reads_an_end q spot us is;
  }
  inner_of (suc r) zero (inl is) even = absurd (omega arith)
  inner_of (suc r) zero (inr more) even = let less = more.1 in absurd (omega arith)
  inner_of (suc r) (suc q) depths even = record {
    Phrases = grammar.stmt (suc deep) (suc r);
    OtherPhrases = grammar.stmt (suc deeper) (suc q);
    inside = inside_of deep (suc r);
    other_inside = inside_of deeper (suc q);
    twin = stays_deeper r q (inner_of r q (fewer r q depths) (less_even r q even));
    odd_gone = some_room_gone r q (inner_of r q (fewer r q depths) (less_even r q even));
    deeper_by = depths;
    even = even;
    takes_end = λ spot some end. takes_an_end r spot end;
    end_is = λ spot us some is. reads_an_end q spot us is;
  }
