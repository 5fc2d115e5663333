-- Print is read exactly.
use Rattle.std.proofs.Common.{◌≡◌, ◌<◌, ℕ, zero, suc, ◌+◌, Bool, true, false, if◌then◌else◌, List, [], ◌∷◌, ◌++◌, length, Ok, refl, sym, ap, ◌∙◌, subst, ◌⊎◌, inl, inr, arith, append_assoc, append-nil, length-append}
use Rattle.fb_base.specs.declared.fault.Span.{Span}
use Rattle.fb_base.specs.declared.fault.FaultKind.{FaultKind}
use Rattle.fb_base.specs.declared.fault.FaultKind.TheVariants.{OutOfProfile}
use Rattle.fb_lexer.specs.declared.token.Token.{Token}
use Rattle.fb_lexer.specs.declared.token.TokenKind.{TokenKind}
use Rattle.fb_lexer.specs.declared.token.TokenKind.TheVariants as kinds
use Rattle.fb_lexer.specs.declared.token.Mark.{Mark}
use Rattle.fb_lexer.specs.declared.token.Mark.TheVariants as marks
use Rattle.fb_lexer.specs.declared.token.Mark.TheVariants.{Semicolon, Comma}
use Rattle.fb_ast.specs.declared.expr.Expr.{Expr}
use Rattle.fb_ast.specs.declared.stmt.Printed.{Printed}
use Rattle.fb_ast.specs.declared.stmt.Printed.TheVariants as printed
use Rattle.fb_ast.specs.declared.stmt.Stmt.TheVariants as s
use Rattle.parse_expr.specs.Reading.{first, next, same_mark, is_mark, sees, Reader, Outcome, and_then, pure, refusal}
use Rattle.parse_expr.proofs.Sound.{Done, bind, by_test, map_done}
use Rattle.parse_expr.proofs.Ends.{Suffixes}
use Rattle.parse_parts.specs.Steps.{place_at, whole, sees_value, no_value, pass_by, repeat}
use Rattle.parse_parts.specs.Simple.{sees_between, printed_value, print_turn, all_printed}
use Rattle.parse_parts.specs.Simple as reading
use Rattle.parse_stmt.specs.Phrases.{gives, Then, ◌>>◌, any_token, expression}
use Rattle.parse_stmt.specs.Statements.{AllPrinted, nothing, semicolon, comma, value}
use Rattle.parse_stmt.proofs.Exact.{next_kind, Exact, same_end, end_of_end, leave_next}
use Rattle.parse_stmt.proofs.Smallest.{exact_whole, ends_expression, next_mark}
use Rattle.parse_stmt.proofs.Lists.{exact_made, no_mark}
use Rattle.parse_stmt.proofs.Dims.{closes, closes_expression}
use Rattle.parse_stmt.proofs.Values.{value_seen, kind_of_value, begins_kind, begun, passes, closed_no_value}
use Rattle.parse_stmt.proofs.Plain.{exact_taking}

abbrev again : (deep : ℕ) → ℕ → List Printed × Bool → Reader (List Printed)
again deep n p = if p.1 then repeat (print_turn (suc deep)) n p.0 else pure p.0

abbrev AllRead : (deep : ℕ) → List Printed → Bool → List Token → List Printed → List Token → Type 0
AllRead deep found fresh ts all rest = (behind : List Printed) × (all ≡ found ++ behind) × AllPrinted (suc deep) fresh ts behind rest

fresh_here : (fresh : Bool) (ts : List Token) → (fresh ≡ false → sees_between ts ≡ true) → sees Semicolon ts ≡ false → sees Comma ts ≡ false → fresh ≡ true
unfolding sees_between
fresh_here true ts may a b = refl
fresh_here false ts may a b = let u : sees Comma ts ≡ true = subst (λ (x : Bool). (if x then true else sees Comma ts) ≡ true) a (may refl) in let v : false ≡ true = sym b ∙ u in cc

put_one : (found : List Printed) (p : Printed) (behind all : List Printed) → all ≡ (found ++ p ∷ []) ++ behind → all ≡ found ++ p ∷ behind
put_one found p behind all is = is ∙ append_assoc found (p ∷ []) behind

stopped : (deep : ℕ) → (found : List Printed) (fresh : Bool) (n : ℕ) (ts : List Token) (kind : FaultKind) → Done (AllRead deep found fresh ts) (and_then (and_then (pass_by kind ts) (λ u. pure (found, false))) (again deep n))
stopped deep found fresh n ts OutOfProfile = tt
stopped deep found fresh n ts kind = ([], sym (append-nil found), nothing fresh ts)

record ValueRead (deep : ℕ) (found : List Printed) (ts : List Token) (q : List Printed × Bool) (rest : List Token) : Type 0 where
  x : Expr
  stands : expression (suc deep) ts x rest
  is : q ≡ (found ++ printed.Expr x ∷ [], sees_between rest)

after_value : (deep : ℕ) → (n : ℕ) (found : List Printed) (ts : List Token) (x : Expr) (rest : List Token) → expression (suc deep) ts x rest
    → ((more : List Printed) (between : List Token) → sees_between between ≡ true → Done (AllRead deep more false between) (repeat (print_turn (suc deep)) n more between))
    → (b : Bool) → sees_between rest ≡ b → Done (AllRead deep found true ts) (again deep n (found ++ printed.Expr x ∷ [], b) rest)
after_value deep n found ts x rest t goes_on true is =
    map_done (AllRead deep (found ++ printed.Expr x ∷ []) false rest) (AllRead deep found true ts) _ (goes_on (found ++ printed.Expr x ∷ []) rest is)
    (λ all left r. (printed.Expr x ∷ r.0, put_one found (printed.Expr x) r.0 all r.1, value ts rest left x r.0 t r.2))
after_value deep n found ts x rest t goes_on false is = (printed.Expr x ∷ [], refl, value ts rest rest x [] t (nothing false rest))

value_sound : (deep : ℕ) → (n : ℕ) (found : List Printed) (fresh : Bool) (ts : List Token) → fresh ≡ true
    → ((more : List Printed) (between : List Token) → sees_between between ≡ true → Done (AllRead deep more false between) (repeat (print_turn (suc deep)) n more between))
    → Done (AllRead deep found fresh ts) (and_then (and_then (whole (suc deep) ts) (printed_value found)) (again deep n))
unfolding printed_value
value_sound deep n found fresh ts is goes_on =
    bind (ValueRead deep found ts) (AllRead deep found fresh ts) (and_then (whole (suc deep) ts) (printed_value found)) (again deep n)
    (bind (expression (suc deep) ts) (ValueRead deep found ts) (whole (suc deep) ts) (printed_value found) ((exact_whole deep).sound ts) (λ x rest t. record { x = x; stands = t; is = refl }))
    (λ q rest t. rw (is, t.is) (after_value deep n found ts t.x rest t.stands goes_on (sees_between rest) refl))

printed_sound : (deep : ℕ) → (n : ℕ) (found : List Printed) (fresh : Bool) (ts : List Token) → (fresh ≡ false → sees_between ts ≡ true) → Done (AllRead deep found fresh ts) (repeat (print_turn (suc deep)) n found ts)
unfolding repeat print_turn printed_value no_value
printed_sound deep zero found fresh ts may = tt
printed_sound deep (suc n) found fresh ts may =
    by_test (λ (o : Outcome (List Printed × Bool)). Done (AllRead deep found fresh ts) (and_then o (again deep n))) (sees Semicolon ts) _ _
    (λ is. map_done (AllRead deep (found ++ printed.Semicolon (place_at ts) ∷ []) true (next ts)) (AllRead deep found fresh ts) _ (printed_sound deep n (found ++ printed.Semicolon (place_at ts) ∷ []) true (next ts) (λ e. cc))
    (λ all rest r. (printed.Semicolon (place_at ts) ∷ r.0, put_one found (printed.Semicolon (place_at ts)) r.0 all r.1, semicolon fresh ts rest r.0 is r.2)))
    (λ no_semicolon. by_test (λ (o : Outcome (List Printed × Bool)). Done (AllRead deep found fresh ts) (and_then o (again deep n))) (sees Comma ts) _ _
    (λ is. map_done (AllRead deep (found ++ printed.Comma (place_at ts) ∷ []) true (next ts)) (AllRead deep found fresh ts) _ (printed_sound deep n (found ++ printed.Comma (place_at ts) ∷ []) true (next ts) (λ e. cc))
    (λ all rest r. (printed.Comma (place_at ts) ∷ r.0, put_one found (printed.Comma (place_at ts)) r.0 all r.1, comma fresh ts rest r.0 is r.2)))
    (λ no_comma. by_test (λ (o : Outcome (List Printed × Bool)). Done (AllRead deep found fresh ts) (and_then o (again deep n))) (sees_value ts) _ _
    (λ is. value_sound deep n found fresh ts (fresh_here fresh ts may no_semicolon no_comma) (λ more between b. printed_sound deep n more false between (λ e. b)))
    (λ is. stopped deep found fresh n ts (refusal ts))))

-- ---- what Print prints is found

comma_not_semicolon : (kind : TokenKind) → is_mark Comma kind ≡ true → is_mark Semicolon kind ≡ false
unfolding same_mark
comma_not_semicolon (kinds.Mark marks.Semicolon) is = cc
comma_not_semicolon kind is = refl

value_not_mark : (kind : TokenKind) → begins_kind kind ≡ true → (is_mark Comma kind ≡ false) × (is_mark Semicolon kind ≡ false)
unfolding same_mark
value_not_mark (kinds.Mark marks.Semicolon) is = cc
value_not_mark (kinds.Mark marks.Comma) is = cc
value_not_mark kind is = (refl, refl)

only_comma : (ts : List Token) → sees Comma ts ≡ true → sees Semicolon ts ≡ false
unfolding sees first
only_comma [] is = cc
only_comma (t ∷ ts) is = comma_not_semicolon t.kind is

only_value : (ts : List Token) → sees_value ts ≡ true → (sees Comma ts ≡ false) × (sees Semicolon ts ≡ false)
unfolding sees first
only_value [] is = (refl, refl)
only_value (t ∷ ts) is = value_not_mark t.kind (sym (kind_of_value (t ∷ ts)) ∙ is)

pub mark_less : (which : Mark) (ts : List Token) → sees which ts ≡ true → length (next ts) < length ts
unfolding sees first next
mark_less which [] is = cc
mark_less which (t ∷ ts) is = omega arith

pub value_less : (deep : ℕ) → (ts : List Token) (x : Expr) (rest : List Token) → expression (suc deep) ts x rest → length rest < length ts
value_less deep ts x rest t =
    let b = begun t.2.2 in
    let l = ap length t.1 ∙ ap (λ (f : List Token). length (f ++ rest)) b.is in
    let m = length-append b.more rest in
    omega arith

-- whether a turn follows an expression
follows : (deep : ℕ) → (ts : List Token) (all : List Printed) (rest : List Token) → AllPrinted (suc deep) false ts all rest → closes (next_kind rest) ≡ true
    → ((sees_between ts ≡ true) ⊎ ((sees_between ts ≡ false) × (all ≡ []) × (rest ≡ ts))) × (ends_expression (next_kind ts) ≡ true)
unfolding sees_between
follows deep ts all rest (nothing a b) f = (inr (rw (no_mark Semicolon closes rest refl f (sees Semicolon rest) refl) (no_mark Comma closes rest refl f (sees Comma rest) refl), refl, refl), closes_expression (next_kind rest) f)
follows deep ts all rest (semicolon a b c more is p) f = (inl (rw is refl), ap ends_expression (next_mark Semicolon ts is))
follows deep ts all rest (comma a b c more is p) f = (inl (rw (only_comma ts is) is), ap ends_expression (next_mark Comma ts is))

goes_or_stops : (deep : ℕ) → (n : ℕ) (found : List Printed) (x : Expr) (between : List Token) (more : List Printed) (rest : List Token)
    → ((sees_between between ≡ true) ⊎ ((sees_between between ≡ false) × (more ≡ []) × (rest ≡ between)))
    → repeat (print_turn (suc deep)) n (found ++ printed.Expr x ∷ []) between ≡ Ok ((found ++ printed.Expr x ∷ []) ++ more, rest)
    → (if sees_between between then repeat (print_turn (suc deep)) n (found ++ printed.Expr x ∷ []) else pure (found ++ printed.Expr x ∷ [])) between ≡ Ok (found ++ printed.Expr x ∷ more, rest)
goes_or_stops deep n found x between more rest (inl is) read = rw is (read ∙ ap (λ (xs : List Printed). Ok (xs, rest)) (append_assoc found (printed.Expr x ∷ []) more))
goes_or_stops deep n found x between more rest (inr is) read = rw (is.0, is.1, is.2) refl

printed_finds : (deep : ℕ) → (n : ℕ) (found : List Printed) (fresh : Bool) (ts : List Token) (all : List Printed) (rest : List Token) → AllPrinted (suc deep) fresh ts all rest → closes (next_kind rest) ≡ true → length ts < n
    → repeat (print_turn (suc deep)) n found ts ≡ Ok (found ++ all, rest)
unfolding repeat print_turn printed_value
printed_finds deep zero found fresh ts all rest p f few = absurd (omega arith)
printed_finds deep (suc n) found fresh ts all rest (nothing a b) f few =
    rw (no_mark Semicolon closes rest refl f (sees Semicolon rest) refl, no_mark Comma closes rest refl f (sees Comma rest) refl, closed_no_value rest f, passes rest f, append-nil found) refl
printed_finds deep (suc n) found fresh ts all rest (semicolon a b c more is p) f few =
    let less = mark_less Semicolon ts is in
    rw is (printed_finds deep n (found ++ printed.Semicolon (place_at ts) ∷ []) true (next ts) more rest p f (omega arith) ∙ ap (λ (xs : List Printed). Ok (xs, rest)) (append_assoc found (printed.Semicolon (place_at ts) ∷ []) more))
printed_finds deep (suc n) found fresh ts all rest (comma a b c more is p) f few =
    let less = mark_less Comma ts is in
    rw (only_comma ts is, is) (printed_finds deep n (found ++ printed.Comma (place_at ts) ∷ []) true (next ts) more rest p f (omega arith) ∙ ap (λ (xs : List Printed). Ok (xs, rest)) (append_assoc found (printed.Comma (place_at ts) ∷ []) more))
printed_finds deep (suc n) found fresh ts all rest (value a between c x more t p) f few =
    let seen = value_seen deep ts x between t in
    let only = only_value ts seen in
    let g = follows deep between more rest p f in
    let less = value_less deep ts x between t in
    rw (only.1, only.0, seen, (exact_whole deep).finds ts x between t g.1)
    (goes_or_stops deep n found x between more rest g.0 (printed_finds deep n (found ++ printed.Expr x ∷ []) false between more rest p f (omega arith)))

printed_within : (deep : ℕ) → (fresh : Bool) (ts : List Token) (all : List Printed) (rest : List Token) → AllPrinted (suc deep) fresh ts all rest → Suffixes rest ts
printed_within deep fresh ts all rest (nothing a b) = same_end rest
printed_within deep fresh ts all rest (semicolon a b c more is p) = end_of_end (printed_within deep true (next ts) more rest p) (leave_next ts)
printed_within deep fresh ts all rest (comma a b c more is p) = end_of_end (printed_within deep true (next ts) more rest p) (leave_next ts)
printed_within deep fresh ts all rest (value a between c x more t p) = end_of_end (printed_within deep false between more rest p) ((exact_whole deep).within ts x between t)

pub exact_printed : (deep : ℕ) → Exact (all_printed (suc deep)) (AllPrinted (suc deep) true) closes
unfolding all_printed
exact_printed deep = record {
  sound = λ ts. map_done (AllRead deep [] true ts) (AllPrinted (suc deep) true ts) (repeat (print_turn (suc deep)) (length ts + 1) [] ts) (printed_sound deep (length ts + 1) [] true ts (λ e. cc)) (λ all rest r. rw (r.1) (r.2));
  finds = λ ts all rest p f. printed_finds deep (length ts + 1) [] true ts all rest p f (omega arith);
  within = printed_within deep true;
}

pub exact_print : (deep : ℕ) → (at : Span) → Exact (reading.print (suc deep) at) (any_token >> Then (AllPrinted (suc deep) true) (λ all. gives (s.Print at all))) closes
unfolding reading.print
exact_print deep at = exact_taking (exact_made (λ all. s.Print at all) (exact_printed deep))
