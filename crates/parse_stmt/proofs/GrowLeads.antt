-- What is read of any statement before a fault can be completed.
use Rattle.std.proofs.Common.{◌≡◌, ◌≤◌, ℕ, zero, suc, Bool, true, List, [], ◌∷◌, ◌++◌, Option, refl, sym, ap, ◌∙◌, subst, ◌⊎◌, inl, inr}
use Rattle.fb_base.specs.declared.fault.FaultKind.{FaultKind}
use Rattle.fb_base.specs.declared.fault.FaultKind.TheVariants.{DeepNesting, Expected, ExtraText, OutOfProfile}
use Rattle.fb_lexer.specs.declared.token.Token.{Token}
use Rattle.fb_lexer.specs.declared.token.Mark.TheVariants.{Open, Close}
use Rattle.fb_lexer.specs.declared.token.TokenKind.TheVariants as kinds
use Rattle.fb_lexer.specs.declared.word.Word.TheVariants as w
use Rattle.fb_ast.specs.declared.expr.Expr.{Expr}
use Rattle.fb_ast.specs.declared.stmt.Stmt.{Stmt}
use Rattle.fb_ast.specs.declared.stmt.Stmt.TheVariants as k
use Rattle.parse_expr.specs.Reading.{first, next, Reader, Outcome}
use Rattle.parse_expr.proofs.Fills.{Failed, map_failed}
use Rattle.parse_expr.proofs.Completed.{here as at_start, mark_token}
use Rattle.parse_parts.specs.declared.kinds.Level.{Level}
use Rattle.parse_parts.specs.declared.kinds.InLine.{InLine}
use Rattle.parse_parts.specs.declared.kinds.Spot.{Spot}
use Rattle.parse_parts.specs.declared.kinds.Lead.{Lead}
use Rattle.parse_parts.specs.declared.kinds.Lead.TheVariants as leads
use Rattle.parse_parts.specs.Words.{level_within, line_within, lead_of}
use Rattle.parse_parts.specs.Steps.{astray}
use Rattle.parse_stmt.specs.Blocks as b
use Rattle.parse_stmt.specs.Phrases.{Phrase, maybe, expression}
use Rattle.parse_stmt.specs.Statements.{is_alone, nothing}
use Rattle.parse_stmt.specs.Statements as g
use Rattle.parse_stmt.proofs.Bodies.{Inside}
use Rattle.parse_stmt.proofs.Stmts.{inside_of}
use Rattle.parse_stmt.proofs.AlikeEnds.{call_kind}
use Rattle.parse_stmt.proofs.Starts.{Reach, near, far, over, above, over_fits, over_near, over_two, starting, Starts, starts_out, starts_instead, Astray, short, out, wrong, astray_as, reach_is, far_has, near_any, same_head}
use Rattle.parse_stmt.proofs.Wides.{Wider, wide_stmt}
use Rattle.parse_stmt.proofs.Plainly.{Plainly, both_by, plain_valued, plain_called}
use Rattle.parse_stmt.proofs.Leads.{expected_or, begins_value}
use Rattle.parse_stmt.proofs.Likes.{Like, any, Whatever}
use Rattle.parse_stmt.proofs.LikeStmts.{stops, stop_alone, like_stmt}
use Rattle.parse_stmt.proofs.Grows.{Begun, at_once}
use Rattle.parse_stmt.proofs.GrowParts.{word_token}
use Rattle.parse_stmt.proofs.GrowSimple.{Going, Goes, goes_dim, goes_static, goes_constant, goes_result, goes_print, goes_line_input, goes_exit, goes_continue, goes_return, goes_delete, goes_end}
use Rattle.parse_stmt.proofs.GrowCalls.{valued_fails, valued_least, called_fails, shut_call}
use Rattle.parse_stmt.proofs.GrowBlocks.{end_within, Elsewhere, StmtFault, EndStands}
use Rattle.parse_stmt.proofs.GrowStmts.{goes_for, goes_while, goes_do, goes_scope, goes_select, goes_if}

-- ---- statements that stand everywhere

module _ (wide : ℕ) (Outer : Level → InLine → Phrase Stmt) where
  -- `Exit For`
  an_exit : (level : Level) (line : InLine) (r : List Token) → (x : Stmt) × g.statement wide Outer level line ((word_token w.KwExit ∷ word_token w.KwFor ∷ []) ++ r) x r
  unfolding first next
  an_exit level line r = (k.Exit at_start _, (word_token w.KwExit, word_token w.KwFor ∷ r, refl, record { given = tt; between = word_token w.KwFor ∷ r; front = refl; back = record { given = _; between = r; front = record { is = refl; behind = refl }; back = (refl, refl) } }))

  -- Print
  a_print : (level : Level) (line : InLine) (r : List Token) → (x : Stmt) × g.statement wide Outer level line ((word_token w.KwPrint ∷ []) ++ r) x r
  unfolding next
  a_print level line r = (k.Print at_start [], (word_token w.KwPrint, r, refl, record { given = tt; between = r; front = refl; back = record { given = []; between = r; front = nothing true r; back = (refl, refl) } }))

  -- End, perhaps with a value
  pub ending : (level : Level) (line : InLine) (t : Token) → t.kind ≡ kinds.Word w.KwEnd → (ts rest : List Token) (x : Option Expr) → maybe (expression wide) ts x rest → (s : Stmt) × g.statement wide Outer level line (t ∷ ts) s rest
  unfolding next
  ending level line t is ts rest x v =
      let lead : lead_of level t.kind ≡ leads.End = ap (lead_of level) is in
      let led : g.led wide Outer t.at level line leads.End (t ∷ ts) (k.End t.at x) rest = record { given = tt; between = ts; front = refl; back = record { given = x; between = rest; front = v; back = (refl, refl) } } in
      (k.End t.at x, (t, ts, refl, subst (λ (l : Lead). g.led wide Outer t.at level line l (t ∷ ts) (k.End t.at x) rest) (sym lead) led))

module _ (reach : Reach) (deep : ℕ) (inner : Spot → Reader Stmt) (room : ℕ) (Inner : Level → InLine → Phrase Stmt) (inside : Inside inner room Inner)
    (Outer : Level → InLine → Phrase Stmt) (widens : (level : Level) (line : InLine) → Wider (Inner level line) (Outer level line)) (l : (level : Level) (line : InLine) → Like (Outer level line) (Outer level line) Whatever (stops line))
    (inner_fails : (spot : Spot) (ts : List Token) → Failed (StmtFault reach (Outer spot.level spot.line) spot.line room spot.other ts) (inner spot ts)) (ends : EndStands reach (over reach (suc deep)) Outer) where
  abbrev most : ℕ
  most = suc deep

  abbrev wide : ℕ
  wide = over reach most

  abbrev Statement : Level → InLine → Phrase Stmt
  Statement level line = g.statement wide Outer level line

  -- ---- at the first token

  abbrev FirstBegun : Level → InLine → List Token → FaultKind → Type 0
  FirstBegun level line ts kind = Begun reach (Statement level line) (stops line) ts kind ts

  exit_at_once : (level : Level) (line : InLine) (ts : List Token) (kind : FaultKind) → Starts reach kind ts (word_token w.KwExit ∷ word_token w.KwFor ∷ []) → FirstBegun level line ts kind
  exit_at_once level line ts kind starts = at_once (Statement level line) (stops line) ts kind (word_token w.KwExit ∷ word_token w.KwFor ∷ []) (λ r c. an_exit wide Outer level line r) starts

  print_at_once : (level : Level) (line : InLine) (ts : List Token) (kind : FaultKind) → Starts reach kind ts (word_token w.KwPrint ∷ []) → FirstBegun level line ts kind
  print_at_once level line ts kind starts = at_once (Statement level line) (stops line) ts kind (word_token w.KwPrint ∷ []) (λ r c. a_print wide Outer level line r) starts

  -- ---- from a token on

  abbrev Led : Token → Level → InLine → Phrase Stmt
  Led t level line = g.led wide Outer t.at level line (lead_of level t.kind)

  deep_first : (t : Token) (level : Level) (line : InLine) (us more : List Token) → ((r : List Token) → stops line r ≡ true → (x : Stmt) × Led t level line (more ++ r) x r) → Starts reach DeepNesting (t ∷ us) more → FirstBegun level line (t ∷ us) DeepNesting
  deep_first t level line us more stands starts = elim (reach_is reach) [
    | inl it ↦ exit_at_once level line (t ∷ us) DeepNesting (near_any reach _ it)
    | inr it ↦ (
        let s = far_has reach it starts in
        let same : s.token ≡ t = sym (same_head t s.token us s.such.0 s.such.1) in
        at_once (Statement level line) (stops line) (t ∷ us) DeepNesting more
        (λ r c. let y = stands r c in (y.0, (t, s.behind ++ r, ap (λ (xs : List Token). xs ++ r) s.is ∙ ap (λ (u : Token). u ∷ (s.behind ++ r)) same, y.1))) starts
        )
  ]

  led_first : (t : Token) (level : Level) (line : InLine) (us : List Token) (kind : FaultKind) (more : List Token) → ((r : List Token) → stops line r ≡ true → (x : Stmt) × Led t level line (more ++ r) x r) → Starts reach kind (t ∷ us) more → Plainly kind (t ∷ us) → FirstBegun level line (t ∷ us) kind
  led_first t level line us Expected more stands starts plainly = exit_at_once level line (t ∷ us) Expected tt
  led_first t level line us ExtraText more stands starts plainly = absurd (plainly refl)
  led_first t level line us OutOfProfile more stands starts plainly = print_at_once level line (t ∷ us) OutOfProfile (starts_instead reach (t ∷ us) more starts (word_token w.KwPrint) [] (inr (inr (inl refl))))
  led_first t level line us DeepNesting more stands starts plainly = deep_first t level line us more stands starts
  led_first t level line us kind more stands starts plainly = absurd starts

  led_begun : (t : Token) (level : Level) (line : InLine) (us : List Token) (kind : FaultKind) (rest front more : List Token) → t ∷ us ≡ front ++ rest → ((r : List Token) → stops line r ≡ true → (x : Stmt) × Led t level line ((front ++ more) ++ r) x r) → Starts reach kind rest more → Plainly kind rest
      → Begun reach (Statement level line) (stops line) (t ∷ us) kind rest
  led_begun t level line us kind rest [] more is stands starts plainly =
      subst (λ (xs : List Token). Begun reach (Statement level line) (stops line) (t ∷ us) kind xs) is (led_first t level line us kind more stands (subst (λ (xs : List Token). Starts reach kind xs more) (sym is) starts) plainly)
  led_begun t level line us kind rest (u ∷ front) more is stands starts plainly = record {
    front = u ∷ front;
    more = more;
    is = is;
    stands = λ r c.
        let y = stands r c in
        let head : t ≡ u = same_head t u us (front ++ rest) is in
        (y.0, (t, (front ++ more) ++ r, ap (λ (x : Token). x ∷ ((front ++ more) ++ r)) (sym head), y.1));
    starts = starts;
  }

  module _ (t : Token) (level : Level) (line : InLine) (lead : Lead) (is : lead_of level t.kind ≡ lead) where
    abbrev LedBy : Phrase Stmt
    LedBy = g.led wide Outer t.at level line lead

    led_is : (ts : List Token) (x : Stmt) (rest : List Token) → LedBy ts x rest → Led t level line ts x rest
    led_is ts x rest p = subst (λ (y : Lead). g.led wide Outer t.at level line y ts x rest) (sym is) p

    -- behind a token that is taken unseen
    from_goes : {C : List Token → Bool} (us : List Token) (o : Outcome Stmt) → ((r : List Token) → stops line r ≡ true → C r ≡ true) → Failed (Going reach LedBy t C us) o → Failed (Begun reach (Statement level line) (stops line) (t ∷ us)) o
    from_goes {C = C} us o stop f =
        map_failed (Going reach LedBy t C us) (Begun reach (Statement level line) (stops line) (t ∷ us)) o f
        (λ kind rest d. record {
          front = t ∷ d.front;
          more = d.more;
          is = ap (λ (xs : List Token). t ∷ xs) d.is;
          stands = λ r c. let y = d.stands r (stop r c) in let z = (d.front ++ d.more) ++ r in (y.0, (t, z, refl, led_is (t ∷ z) y.0 r y.1));
          starts = d.starts;
        })

    from_alone : (us : List Token) (o : Outcome Stmt) → Failed (Begun reach LedBy is_alone (t ∷ us)) o → Failed Plainly o → Failed (Begun reach (Statement level line) (stops line) (t ∷ us)) o
    from_alone us o f plain =
        map_failed (λ kind rest. Begun reach LedBy is_alone (t ∷ us) kind rest × Plainly kind rest) (Begun reach (Statement level line) (stops line) (t ∷ us)) o (both_by (Begun reach LedBy is_alone (t ∷ us)) Plainly o f plain)
        (λ kind rest d. led_begun t level line us kind rest d.0.front d.0.more d.0.is (λ r c. let y = d.0.stands r (stop_alone line r c) in (y.0, led_is ((d.0.front ++ d.0.more) ++ r) y.0 r y.1)) d.0.starts d.1)

  -- ---- statements

  abbrev StatementFault : Spot → List Token → FaultKind → List Token → Type 0
  StatementFault z ts kind rest = Begun reach (Statement z.level z.line) (stops z.line) ts kind rest ⊎ Elsewhere z.other ts kind rest

  -- no statement begins there
  astray_fault : (z : Spot) (ts : List Token) (kind : FaultKind) → Astray z.other ts kind → StatementFault z ts kind ts
  astray_fault z ts kind (short is) = inl (exit_at_once z.level z.line ts Expected tt)
  astray_fault z ts kind (out refused) = inl (print_at_once z.level z.line ts OutOfProfile (starts_out reach ts (word_token w.KwPrint) [] refused (inr (inr (inl refl)))))
  astray_fault z ts kind wrong = elim (expected_or z.other) [ inl is ↦ inl (subst (λ (x : FaultKind). FirstBegun z.level z.line ts x) (sym is) (exit_at_once z.level z.line ts Expected tt)) | inr other ↦ inr (refl, refl, other) ]

  any_stop : (line : InLine) (r : List Token) → stops line r ≡ true → any r ≡ true
  any_stop line r c = refl

  begun_fault : (z : Spot) (ts : List Token) (o : Outcome Stmt) → Failed (Begun reach (Statement z.level z.line) (stops z.line) ts) o → Failed (StatementFault z ts) o
  begun_fault z ts o f = map_failed (Begun reach (Statement z.level z.line) (stops z.line) ts) (StatementFault z ts) o f (λ kind rest d. inl d)

  goes_fault : {p : Reader Stmt} (t : Token) (z : Spot) (us : List Token) (lead : Lead) → lead_of z.level t.kind ≡ lead → Goes reach p (g.led wide Outer t.at z.level z.line lead) t any → Failed (StatementFault z (t ∷ us)) (p (t ∷ us))
  goes_fault {p = p} t z us lead is x = begun_fault z (t ∷ us) (p (t ∷ us)) (from_goes t z.level z.line lead is us (p (t ∷ us)) (any_stop z.line) (x.fails us))

  led_fails : (t : Token) (z : Spot) (us : List Token) (lead : Lead) → lead_of z.level t.kind ≡ lead → Failed (StatementFault z (t ∷ us)) (b.led most inner room t.at z lead (t ∷ us))
  led_fails t z us leads.Dim is = goes_fault t z us leads.Dim is (goes_dim reach deep t z.level)
  led_fails t z us leads.Static is = goes_fault t z us leads.Static is (goes_static reach deep t)
  led_fails t z us leads.Const is = goes_fault t z us leads.Const is (goes_constant reach deep t)
  led_fails t z us leads.Function is = goes_fault t z us leads.Function is (goes_result reach deep t)
  led_fails t z us leads.Print is = goes_fault t z us leads.Print is (goes_print reach deep t)
  led_fails t z us leads.Line is = goes_fault t z us leads.Line is (goes_line_input reach deep t)
  led_fails t z us leads.If is =
      begun_fault z (t ∷ us) _ (from_goes t z.level z.line leads.If is us _ (λ r c. c) ((goes_if reach deep inner room Inner inside Outer widens l inner_fails ends t z.level z.line).fails us))
  led_fails t z us leads.For is = goes_fault t z us leads.For is (goes_for reach deep inner room Inner inside Outer widens l inner_fails ends (level_within z.level) (line_within z.line) (end_within z.line) t)
  led_fails t z us leads.While is = goes_fault t z us leads.While is (goes_while reach deep inner room Inner inside Outer widens l inner_fails ends (level_within z.level) (line_within z.line) (end_within z.line) t)
  led_fails t z us leads.Do is = goes_fault t z us leads.Do is (goes_do reach deep inner room Inner inside Outer widens l inner_fails ends (level_within z.level) (line_within z.line) (end_within z.line) t)
  led_fails t z us leads.Select is = goes_fault t z us leads.Select is (goes_select reach deep inner room Inner inside Outer widens l inner_fails ends (level_within z.level) (line_within z.line) (end_within z.line) t)
  led_fails t z us leads.Scope is = goes_fault t z us leads.Scope is (goes_scope reach deep inner room Inner inside Outer widens l inner_fails ends (level_within z.level) (line_within z.line) (end_within z.line) t)
  led_fails t z us leads.Exit is = goes_fault t z us leads.Exit is (goes_exit reach deep t)
  led_fails t z us leads.Continue is = goes_fault t z us leads.Continue is (goes_continue reach deep t)
  led_fails t z us leads.Return is = goes_fault t z us leads.Return is (goes_return reach deep t)
  led_fails t z us leads.Delete is = goes_fault t z us leads.Delete is (goes_delete reach deep t)
  led_fails t z us leads.End is = goes_fault t z us leads.End is (goes_end reach deep t)
  led_fails t z us (leads.Call which) is =
      let c = call_kind z.level t.kind which is in
      begun_fault z (t ∷ us) _ (from_alone t z.level z.line (leads.Call which) is us _ (called_fails reach deep t.at t c.0 which c.1 c.2 us) (plain_called deep t.at which (t ∷ us)))
  led_fails t z us leads.Value is = begun_fault z (t ∷ us) _ (from_alone t z.level z.line leads.Value is us _ (valued_fails reach deep t.at (t ∷ us)) (plain_valued deep t.at (t ∷ us)))
  led_fails t z us leads.Nothing is = astray_fault z (t ∷ us) (astray z.other (t ∷ us)) (astray_as z.other (t ∷ us))

  pub statement_fails : (z : Spot) (ts : List Token) → Failed (StatementFault z ts) (b.statement most inner room z ts)
  unfolding b.statement first
  statement_fails z [] = inl (exit_at_once z.level z.line [] Expected tt)
  statement_fails z (t ∷ us) = led_fails t z us (lead_of z.level t.kind) refl

  -- ---- a statement from its first token on

  abbrev pub FromToken : Token → Level → InLine → Type 0
  FromToken t level line = (m : List Token) × ((r : List Token) → stops line r ≡ true → (x : Stmt) × Statement level line ((t ∷ m) ++ r) x r)

  goes_from : {p : Reader Stmt} {C : List Token → Bool} (t : Token) (level : Level) (line : InLine) (lead : Lead) → lead_of level t.kind ≡ lead → ((r : List Token) → stops line r ≡ true → C r ≡ true) → Goes reach p (g.led wide Outer t.at level line lead) t C → FromToken t level line
  goes_from t level line lead is stop x = (x.least, λ r c. let y = x.stands r (stop r c) in (y.0, (t, x.least ++ r, refl, led_is t level line lead is ((t ∷ x.least) ++ r) y.0 r y.1)))

  pub from_token : 2 ≤ wide → (t : Token) (level : Level) (line : InLine) (lead : Lead) → lead_of level t.kind ≡ lead → (lead ≡ leads.Nothing → ⊥) → FromToken t level line
  from_token two t level line leads.Dim is some = goes_from t level line leads.Dim is (any_stop line) (goes_dim reach deep t level)
  from_token two t level line leads.Static is some = goes_from t level line leads.Static is (any_stop line) (goes_static reach deep t)
  from_token two t level line leads.Const is some = goes_from t level line leads.Const is (any_stop line) (goes_constant reach deep t)
  from_token two t level line leads.Function is some = goes_from t level line leads.Function is (any_stop line) (goes_result reach deep t)
  from_token two t level line leads.Print is some = goes_from t level line leads.Print is (any_stop line) (goes_print reach deep t)
  from_token two t level line leads.Line is some = goes_from t level line leads.Line is (any_stop line) (goes_line_input reach deep t)
  from_token two t level line leads.If is some = goes_from t level line leads.If is (λ r c. c) (goes_if reach deep inner room Inner inside Outer widens l inner_fails ends t level line)
  from_token two t level line leads.For is some = goes_from t level line leads.For is (any_stop line) (goes_for reach deep inner room Inner inside Outer widens l inner_fails ends (level_within level) (line_within line) (end_within line) t)
  from_token two t level line leads.While is some = goes_from t level line leads.While is (any_stop line) (goes_while reach deep inner room Inner inside Outer widens l inner_fails ends (level_within level) (line_within line) (end_within line) t)
  from_token two t level line leads.Do is some = goes_from t level line leads.Do is (any_stop line) (goes_do reach deep inner room Inner inside Outer widens l inner_fails ends (level_within level) (line_within line) (end_within line) t)
  from_token two t level line leads.Select is some = goes_from t level line leads.Select is (any_stop line) (goes_select reach deep inner room Inner inside Outer widens l inner_fails ends (level_within level) (line_within line) (end_within line) t)
  from_token two t level line leads.Scope is some = goes_from t level line leads.Scope is (any_stop line) (goes_scope reach deep inner room Inner inside Outer widens l inner_fails ends (level_within level) (line_within line) (end_within line) t)
  from_token two t level line leads.Exit is some = goes_from t level line leads.Exit is (any_stop line) (goes_exit reach deep t)
  from_token two t level line leads.Continue is some = goes_from t level line leads.Continue is (any_stop line) (goes_continue reach deep t)
  from_token two t level line leads.Return is some = goes_from t level line leads.Return is (any_stop line) (goes_return reach deep t)
  from_token two t level line leads.Delete is some = goes_from t level line leads.Delete is (any_stop line) (goes_delete reach deep t)
  from_token two t level line leads.End is some = goes_from t level line leads.End is (any_stop line) (goes_end reach deep t)
  from_token two t level line (leads.Call which) is some =
      let c = call_kind level t.kind which is in
      let m = mark_token Open ∷ mark_token Close ∷ [] in
      (m, λ r stop. let y = shut_call reach deep t.at t c.0 which (mark_token Open) c.1 c.2 refl r in (y.0, (t, m ++ r, refl, led_is t level line (leads.Call which) is ((t ∷ m) ++ r) y.0 r y.1)))
  from_token two t level line leads.Value is some =
      let v = valued_least reach deep t.at t (begins_value level t is) two in
      (v.0, λ r stop. let y = v.1 r in (y.0, (t, v.0 ++ r, refl, led_is t level line leads.Value is ((t ∷ v.0) ++ r) y.0 r y.1)))
  from_token two t level line leads.Nothing is some = absurd (some refl)

-- ---- statements of each depth

abbrev DeepFault : Reach → ℕ → ℕ → Spot → List Token → FaultKind → List Token → Type 0
DeepFault reach deep room z ts kind rest = StmtFault reach (g.stmt (over reach (suc deep)) (above reach room) z.level z.line) z.line room z.other ts kind rest

-- where none can be deep enough, as deep as they may be
near_astray : (deep : ℕ) (z : Spot) (ts : List Token) (kind : FaultKind) → Astray z.other ts kind → DeepFault near deep zero z ts kind ts
near_astray deep z ts kind (short is) = inr (inl (refl, refl, λ m. tt))
near_astray deep z ts kind (out refused) = inr (inl (refl, refl, λ m. tt))
near_astray deep z ts kind wrong = elim (expected_or z.other) [ inl is ↦ inr (inl (refl, refl, λ m. subst (λ (x : FaultKind). Starts near x ts m) (sym is) tt)) | inr other ↦ inr (inr (refl, refl, other)) ]

near_by : (deep : ℕ) (z : Spot) (ts : List Token) (lead : Lead) → DeepFault near deep zero z ts (b.deep_by z ts lead) ts
near_by deep z ts leads.Nothing = near_astray deep z ts (astray z.other ts) (astray_as z.other ts)
near_by deep z ts lead = inr (inl (refl, refl, λ m. tt))

near_none : (deep : ℕ) (z : Spot) (ts : List Token) → Failed (DeepFault near deep zero z ts) (b.stmt (suc deep) zero z ts)
unfolding b.stmt b.no_room first
near_none deep z [] = inr (inl (refl, refl, λ m. tt))
near_none deep z (t ∷ ts) = near_by deep z (t ∷ ts) (lead_of z.level t.kind)

-- a statement without statements inside from its first token on
abbrev Shallow : ℕ → Token → Level → InLine → Type 0
Shallow wide t level line = (m : List Token) × ((r : List Token) → stops line r ≡ true → (x : Stmt) × g.stmt wide (suc zero) level line ((t ∷ m) ++ r) x r)

shallow : (deep : ℕ) → 2 ≤ suc deep → (t : Token) (level : Level) (line : InLine) (lead : Lead) → lead_of level t.kind ≡ lead → (lead ≡ leads.Nothing → ⊥) → Shallow (suc deep) t level line
shallow deep two t level line lead is some =
    let same = over_near (suc deep) in
    subst (λ (n : ℕ). Shallow n t level line) same
    (from_token near deep (b.stmt (suc deep) zero) zero (g.stmt (suc deep) zero) (inside_of deep zero) (g.stmt (over near (suc deep)) zero) (wide_stmt (suc deep) (over near (suc deep)) (over_fits near (suc deep)) near zero) (like_stmt (over near (suc deep)) zero) (near_none deep) tt
    (subst (λ (n : ℕ). 2 ≤ n) (sym same) two) t level line lead is some)

-- and deeper ones
module _ (deep : ℕ) (z : Spot) where
  abbrev deep_wide : ℕ
  deep_wide = over far (suc deep)

  far_exit : (ts : List Token) → Begun far (g.stmt deep_wide (suc zero) z.level z.line) (stops z.line) ts Expected ts
  far_exit ts = at_once (g.stmt deep_wide (suc zero) z.level z.line) (stops z.line) ts Expected (word_token w.KwExit ∷ word_token w.KwFor ∷ []) (λ r c. an_exit deep_wide (g.stmt deep_wide zero) z.level z.line r) tt

  far_astray : (ts : List Token) (kind : FaultKind) → Astray z.other ts kind → DeepFault far deep zero z ts kind ts
  far_astray ts kind (short is) = inl (far_exit ts)
  far_astray ts kind (out refused) =
      inl (at_once (g.stmt deep_wide (suc zero) z.level z.line) (stops z.line) ts OutOfProfile (word_token w.KwPrint ∷ []) (λ r c. a_print deep_wide (g.stmt deep_wide zero) z.level z.line r) (starts_out far ts (word_token w.KwPrint) [] refused (inr (inr (inl refl)))))
  far_astray ts kind wrong = elim (expected_or z.other) [ inl is ↦ inl (subst (λ (x : FaultKind). Begun far (g.stmt deep_wide (suc zero) z.level z.line) (stops z.line) ts x ts) (sym is) (far_exit ts)) | inr other ↦ inr (inr (refl, refl, other)) ]

  two_there : 2 ≤ suc (over far deep)
  two_there = over_two far (suc deep) refl

  far_token : (t : Token) (ts : List Token) (lead : Lead) → lead_of z.level t.kind ≡ lead → (lead ≡ leads.Nothing → ⊥) → DeepFault far deep zero z (t ∷ ts) DeepNesting (t ∷ ts)
  far_token t ts lead is some =
      let m = shallow (over far deep) two_there t z.level z.line lead is some in
      inl (at_once (g.stmt deep_wide (suc zero) z.level z.line) (stops z.line) (t ∷ ts) DeepNesting (t ∷ m.0) m.1 (starting t m.0 (ts, refl)))

  far_by : (t : Token) (ts : List Token) (lead : Lead) → lead_of z.level t.kind ≡ lead → DeepFault far deep zero z (t ∷ ts) (b.deep_by z (t ∷ ts) lead) (t ∷ ts)
  far_by t ts leads.Nothing is = far_astray (t ∷ ts) (astray z.other (t ∷ ts)) (astray_as z.other (t ∷ ts))
  far_by t ts lead is = far_token t ts lead is (λ none. cc)

  far_none : (ts : List Token) → Failed (DeepFault far deep zero z ts) (b.stmt (suc deep) zero z ts)
  unfolding b.stmt b.no_room first
  far_none [] = inl (far_exit [])
  far_none (t ∷ ts) = far_by t ts (lead_of z.level t.kind) refl

pub stmt_ends : (reach : Reach) (deepest room : ℕ) → EndStands reach deepest (g.stmt deepest (above reach room))
stmt_ends near deepest room = tt
stmt_ends far deepest zero = ending deepest (g.stmt deepest zero)
stmt_ends far deepest (suc room) = ending deepest (g.stmt deepest (above far room))

of_statement : (reach : Reach) (deep room : ℕ) (z : Spot) (ts : List Token) (kind : FaultKind) (rest : List Token)
    → Begun reach (g.stmt (over reach (suc deep)) (above reach (suc room)) z.level z.line) (stops z.line) ts kind rest ⊎ Elsewhere z.other ts kind rest → DeepFault reach deep (suc room) z ts kind rest
of_statement reach deep room z ts kind rest (inl f) = inl f
of_statement reach deep room z ts kind rest (inr e) = inr (inr e)

pub stmt_fails : (reach : Reach) (deep room : ℕ) (z : Spot) (ts : List Token) → Failed (DeepFault reach deep room z ts) (b.stmt (suc deep) room z ts)
unfolding b.stmt
stmt_fails near deep zero z ts = near_none deep z ts
stmt_fails far deep zero z ts = far_none deep z ts
stmt_fails reach deep (suc room) z ts =
    map_failed (λ kind rest. Begun reach (g.stmt (over reach (suc deep)) (above reach (suc room)) z.level z.line) (stops z.line) ts kind rest ⊎ Elsewhere z.other ts kind rest) (DeepFault reach deep (suc room) z ts) _
    (statement_fails reach deep (b.stmt (suc deep) room) room (g.stmt (suc deep) room) (inside_of deep room) (g.stmt (over reach (suc deep)) (above reach room)) (wide_stmt (suc deep) (over reach (suc deep)) (over_fits reach (suc deep)) reach room)
    (like_stmt (over reach (suc deep)) (above reach room)) (stmt_fails reach deep room) (stmt_ends reach (over reach (suc deep)) room) z ts) (of_statement reach deep room z ts)
