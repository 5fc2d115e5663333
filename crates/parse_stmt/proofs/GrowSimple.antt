-- What is read of variables and of simple statements before a fault can be completed.
use Rattle.std.proofs.Common.{◌≡◌, ◌≤◌, ℕ, zero, suc, ◌+◌, Bool, true, false, if◌then◌else◌, List, [], ◌∷◌, ◌++◌, length, Option, Some, None, is_some, Ok, Err, refl, sym, ap, ◌∙◌, subst, inl, inr, append_assoc}
use Rattle.fb_base.specs.declared.fault.Span.{Span}
use Rattle.fb_base.specs.declared.fault.FaultKind.{FaultKind}
use Rattle.fb_base.specs.declared.fault.FaultKind.TheVariants.{Expected, OutOfProfile}
use Rattle.fb_lexer.specs.declared.token.Token.{Token}
use Rattle.fb_lexer.specs.declared.token.TokenKind.{TokenKind}
use Rattle.fb_lexer.specs.declared.token.TokenKind.TheVariants as kinds
use Rattle.fb_lexer.specs.declared.token.Mark.TheVariants.{Open, Close, OpenBracket, CloseBracket, Equal, Semicolon, Comma}
use Rattle.fb_lexer.specs.declared.word.Word.TheVariants as w
use Rattle.fb_ast.specs.declared.expr.Expr.{Expr}
use Rattle.fb_ast.specs.declared.stmt.Case.TheVariants as case
use Rattle.fb_ast.specs.declared.stmt.Cases.TheVariants as cases
use Rattle.fb_ast.specs.declared.stmt.Printed.{Printed}
use Rattle.fb_ast.specs.declared.stmt.Printed.TheVariants as printed
use Rattle.fb_ast.specs.declared.stmt.Stmt.TheVariants as k
use Rattle.fb_ast.specs.declared.stmt.Storage.{Storage}
use Rattle.fb_ast.specs.declared.stmt.Storage.TheVariants as storage
use Rattle.fb_ast.specs.declared.stmt.Test.{Test}
use Rattle.fb_ast.specs.declared.stmt.Until.{Until}
use Rattle.parse_expr.specs.declared.error.ReadErr.TheVariants as read_errs
use Rattle.parse_expr.specs.Reading.{first, next, is_mark, same_mark, same_word, sees, sees_word, refusal, refusal_by, Reader, Outcome, and_then, pure, take_token}
use Rattle.parse_expr.proofs.Sound.{Done, by_test, map_done}
use Rattle.parse_expr.proofs.Fills.{Failed, failed_then, failed_pure, map_failed}
use Rattle.parse_expr.proofs.Completed.{a_number, mark_token}
use Rattle.parse_parts.specs.declared.kinds.Level.{Level}
use Rattle.parse_parts.specs.Steps.{place_at, sees_value, no_value, pass_by, repeat}
use Rattle.parse_parts.specs.Steps as steps
use Rattle.parse_parts.specs.Variables as v
use Rattle.parse_parts.specs.Simple as s
use Rattle.parse_parts.specs.Simple.{sees_between, printed_value, print_turn}
use Rattle.parse_parts.specs.Cases as cases_read
use Rattle.parse_stmt.specs.Blocks as b
use Rattle.parse_stmt.specs.Phrases.{Phrase, gives, Then, ◌>>◌, either, maybe, behind_mark, behind_word, taken, mark, word, any_token, here, Listed, last, ty, expression, place}
use Rattle.parse_stmt.specs.Statements.{Chosen, AllPrinted, nothing, semicolon, comma, value}
use Rattle.parse_stmt.specs.Statements as g
use Rattle.parse_stmt.proofs.Dims.{vars_exact, all_listed_exact}
use Rattle.parse_stmt.proofs.Plain.{exact_values}
use Rattle.parse_stmt.proofs.Parts.{exact_cases_list, exact_any_test}
use Rattle.parse_stmt.proofs.Printing.{exact_printed}
use Rattle.parse_stmt.proofs.Heads.{regroup}
use Rattle.parse_stmt.proofs.Starts.{Reach, over, over_fits, Starts, starts_refusal}
use Rattle.parse_stmt.proofs.Wides.{widened, wide_listed, wide_expression, wide_var, wide_shared_var, wide_printed, wide_any_test, wide_case}
use Rattle.parse_stmt.proofs.Likes.{Like, any, Looks, looks_mark, looks_word, like_then, like_either, like_mark, like_word, like_name, like_type, like_expression, like_place, like_listed}
use Rattle.parse_stmt.proofs.LikeParts.{done, like_behind_mark, like_behind_word, like_maybe, like_bounds, like_var, like_shared_var, like_printed, like_range, like_case}
use Rattle.parse_stmt.proofs.Grows.{Begun, Grows, grows_gives, grows_then, grows_made, grows_behind, grows_list, at_once, other_begun}
use Rattle.parse_stmt.proofs.GrowParts.{word_token, grows_mark, grows_word, grows_name, grows_type, value_stands, grows_whole, grows_place, grows_or_none, grows_any_value, grows_optional_mark, grows_optional_word}

-- ---- from a token on

-- Tokens up to a fault, behind one that is given: with that one they can be completed to the phrase.
pub record Going (reach : Reach) {A : Type 0} (P : Phrase A) (t : Token) (C : List Token → Bool) (ts : List Token) (kind : FaultKind) (rest : List Token) : Type 0 where
  pub front : List Token
  pub more : List Token
  pub is : ts ≡ front ++ rest
  pub stands : (r : List Token) → C r ≡ true → (a : A) × P (t ∷ ((front ++ more) ++ r)) a r
  pub starts : Starts reach kind rest more

-- What begins with a token can be completed, up to where its reading finds a fault, and from that token on.
pub record Goes (reach : Reach) {A : Type 0} (p : Reader A) (P : Phrase A) (t : Token) (C : List Token → Bool) : Type 0 where
  pub fails : (more : List Token) → Failed (Going reach P t C more) (p (t ∷ more))
  pub least : List Token
  pub stands : (r : List Token) → C r ≡ true → (a : A) × P ((t ∷ least) ++ r) a r

module _ {reach : Reach} where
  goes_begun : {A : Type 0} (K : Phrase A) (C : List Token → Bool) (t : Token) (more : List Token) (kind : FaultKind) (rest : List Token) → Begun reach K C more kind rest → Going reach (Then any_token (λ (u : Unit {0}). K)) t C more kind rest
  unfolding next
  goes_begun K C t more kind rest b = record {
    front = b.front;
    more = b.more;
    is = b.is;
    stands = λ r c. let y = b.stands r c in (y.0, record { given = tt; between = (b.front ++ b.more) ++ r; front = refl; back = y.1 });
    starts = b.starts;
  }

  pub goes : {A : Type 0} {q : Reader A} {K : Phrase A} {C : List Token → Bool} (t : Token) → Grows reach q K C → Goes reach (λ ts. and_then (take_token ts) (λ u. q)) (Then any_token (λ (u : Unit {0}). K)) t C
  unfolding next
  goes {q = q} {K = K} {C = C} t x = record { fails = λ more. map_failed (Begun reach K C more) (Going reach (Then any_token (λ (u : Unit {0}). K)) t C more) (q more) (x.fails more) (goes_begun K C t more); least = x.least; stands = λ r c. let y = x.stands r c in (y.0, record { given = tt; between = x.least ++ r; front = refl; back = y.1 }) }

  -- a table of tokens
  chosen_fails : {A B : Type 0} (table : Option Token → Option A) (by : Option A → Reader B) (k : A → Reader B) (K : A → Phrase B) (t : Token) (a : A)
      → table (Some t) ≡ Some a → ((ts : List Token) → by None ts ≡ Err (read_errs.Fault Expected, ts)) → ((x : A) (ts : List Token) → by (Some x) ts ≡ k x (next ts))
      → table None ≡ None → ((x : A) → Grows reach (k x) (K x) any)
      → (ts : List Token) (o : Option A) → table (first ts) ≡ o → Failed (Begun reach (Then (Chosen table) K) any ts) (by o ts)
  unfolding first next
  chosen_fails {B = B} table by k K t a is none some nothing_there g ts None at =
      let y = g a in
      subst (λ (o : Outcome B). Failed (Begun reach (Then (Chosen table) K) any ts) o) (sym (none ts))
      (at_once (Then (Chosen table) K) any ts Expected (t ∷ y.least) (λ r c. let z = y.stands r c in (z.0, record { given = a; between = y.least ++ r; front = record { is = is; behind = refl }; back = z.1 })) tt)
  chosen_fails {A = A} table by k K t a is none some nothing_there g [] (Some x) at = let bad : ◌≡◌ {A = Option A} None (Some x) = sym nothing_there ∙ at in cc
  chosen_fails {B = B} table by k K t a is none some nothing_there g (u ∷ ts) (Some x) at =
      subst (λ (o : Outcome B). Failed (Begun reach (Then (Chosen table) K) any (u ∷ ts)) o) (sym (some x (u ∷ ts)))
      (map_failed (Begun reach (K x) any ts) (Begun reach (Then (Chosen table) K) any (u ∷ ts)) (k x ts) ((g x).fails ts)
      (λ kind rest b. record {
        front = u ∷ b.front;
        more = b.more;
        is = ap (λ (xs : List Token). u ∷ xs) b.is;
        stands = λ r c. let z = b.stands r c in (z.0, record { given = x; between = (b.front ++ b.more) ++ r; front = record { is = at; behind = refl }; back = z.1 });
        starts = b.starts;
      }))

  chosen_least : {A B : Type 0} (table : Option Token → Option A) (k : A → Reader B) (K : A → Phrase B) (t : Token) (a : A) → table (Some t) ≡ Some a → (y : Grows reach (k a) (K a) any) → (r : List Token) → any r ≡ true → (x : B) × Then (Chosen table) K ((t ∷ y.least) ++ r) x r
  unfolding first next
  chosen_least table k K t a is y r c = let z = y.stands r c in (z.0, record { given = a; between = y.least ++ r; front = record { is = is; behind = refl }; back = z.1 })

  chosen_sound : {A B : Type 0} (table : Option Token → Option A) (by : Option A → Reader B) (k : A → Reader B) (K : A → Phrase B)
      → ((ts : List Token) → by None ts ≡ Err (read_errs.Fault Expected, ts)) → ((x : A) (ts : List Token) → by (Some x) ts ≡ k x (next ts)) → ((x : A) → Grows reach (k x) (K x) any)
      → (ts : List Token) (o : Option A) → table (first ts) ≡ o → Done (Then (Chosen table) K ts) (by o ts)
  chosen_sound {B = B} table by k K none some g ts None at = subst (λ (o : Outcome B). Done (Then (Chosen table) K ts) o) (sym (none ts)) tt
  chosen_sound {B = B} table by k K none some g ts (Some x) at =
      subst (λ (o : Outcome B). Done (Then (Chosen table) K ts) o) (sym (some x ts))
      (map_done (K x (next ts)) (Then (Chosen table) K ts) (k x (next ts)) ((g x).sound (next ts)) (λ y rest z. record { given = x; between = next ts; front = record { is = at; behind = refl }; back = z }))

  pub grows_chosen : {A B : Type 0} (table : Option Token → Option A) (by : Option A → Reader B) (k : A → Reader B) (K : A → Phrase B) (t : Token) (a : A)
      → table (Some t) ≡ Some a → ((ts : List Token) → by None ts ≡ Err (read_errs.Fault Expected, ts)) → ((x : A) (ts : List Token) → by (Some x) ts ≡ k x (next ts))
      → table None ≡ None → ((x : A) → Grows reach (k x) (K x) any) → Grows reach (λ ts. by (table (first ts)) ts) (Then (Chosen table) K) any
  grows_chosen table by k K t a is none some nothing_there g = record {
    least = t ∷ (g a).least;
    stands = chosen_least table k K t a is (g a);
    fails = λ ts. chosen_fails table by k K t a is none some nothing_there g ts (table (first ts)) refl;
    sound = λ ts. chosen_sound table by k K none some g ts (table (first ts)) refl;
  }

  -- such a token and one phrase behind it, which has its place, or else another
  pub at_begun : {A : Type 0} (test : List Token → Bool) (P : Span → Phrase A) (Q : Phrase A) → Looks test → (ts : List Token) → test ts ≡ true → (kind : FaultKind) (rest : List Token) → Begun reach (P (place_at ts)) any (next ts) kind rest
      → Begun reach (either (Then here (λ at. Then (taken test) (λ (u : Unit {0}). P at))) Q) any ts kind rest
  unfolding next place_at first
  at_begun test P Q looks [] is kind rest b = let bad : true ≡ false = sym is ∙ looks.nothing in cc
  at_begun test P Q looks (t ∷ ts) is kind rest b = record {
    front = t ∷ b.front;
    more = b.more;
    is = ap (λ (xs : List Token). t ∷ xs) b.is;
    stands = λ r c.
        let y = b.stands r c in
        let x = (b.front ++ b.more) ++ r in
        (y.0, inl (record { given = t.at; between = t ∷ x; front = (refl, refl); back = record { given = tt; between = x; front = (looks.alone t x ts ∙ is, refl); back = y.1 } }));
    starts = b.starts;
  }

  pub grows_behind_at : {A : Type 0} (test : List Token → Bool) {p : Span → Reader A} {q : Reader A} {P : Span → Phrase A} {Q : Phrase A} → Looks test → ((at : Span) → Grows reach (p at) (P at) any) → Grows reach q Q any
      → Grows reach (λ ts. if test ts then p (place_at ts) (next ts) else q ts) (either (Then here (λ at. Then (taken test) (λ (u : Unit {0}). P at))) Q) any
  grows_behind_at {A = A} test {p = p} {q = q} {P = P} {Q = Q} looks g h =
      let E : Phrase A = either (Then here (λ at. Then (taken test) (λ (u : Unit {0}). P at))) Q in
      record {
        least = h.least;
        stands = λ r c. let y = h.stands r c in (y.0, inr y.1);
        fails = λ ts. by_test (λ (o : Outcome A). Failed (Begun reach E any ts) o) (test ts) (p (place_at ts) (next ts)) (q ts)
            (λ is. map_failed (Begun reach (P (place_at ts)) any (next ts)) (Begun reach E any ts) (p (place_at ts) (next ts)) ((g (place_at ts)).fails (next ts)) (at_begun test P Q looks ts is))
            (λ is. map_failed (Begun reach Q any ts) (Begun reach E any ts) (q ts) (h.fails ts) (other_begun (Then here (λ at. Then (taken test) (λ (u : Unit {0}). P at))) Q any ts));
        sound = λ ts. by_test (λ (o : Outcome A). Done (E ts) o) (test ts) (p (place_at ts) (next ts)) (q ts)
            (λ is. map_done (P (place_at ts) (next ts)) (E ts) (p (place_at ts) (next ts)) ((g (place_at ts)).sound (next ts))
            (λ a rest s. inl (record { given = place_at ts; between = ts; front = (refl, refl); back = record { given = tt; between = next ts; front = (is, refl); back = s } })))
            (λ is. map_done (Q ts) (E ts) (q ts) (h.sound ts) (λ a rest s. inr s));
      }

module _ (reach : Reach) (deep : ℕ) where
  abbrev most : ℕ
  most = suc deep

  abbrev wide : ℕ
  wide = over reach most

  fits : most ≤ wide
  fits = over_fits reach most

  whole : Grows reach (steps.whole most) (expression wide) any
  whole = grows_whole reach deep

  like_whole : Like (expression wide) (expression wide) (λ a b. a ≡ b) any
  like_whole = like_expression wide

  -- ---- variables

  grows_bounds : Grows reach (v.bounds most) (g.bounds wide) any
  unfolding v.bounds v.bounds_from same_mark
  grows_bounds = grows_then whole like_whole
      (λ one. grows_then (grows_behind (sees_word w.KwTo) (looks_word w.KwTo) (grows_made (λ (high : Expr). record { low = Some one; high = high }) whole like_whole) (grows_gives (record { low = None; high = one }) any))
      (like_either (like_then (like_word w.KwTo) (λ u x q. like_then like_whole (λ a c r. done))) done)
      (λ b. grows_then (grows_mark Close refl) (like_mark Close) (λ u. grows_gives b any) (λ u x r. done))
      (λ a c r. like_then (like_mark Close) (λ u x q. done)))
      (λ one other r. like_then (like_either (like_then (like_word w.KwTo) (λ u x q. like_then like_whole (λ a c e. done))) done) (λ a c q. like_then (like_mark Close) (λ u x e. done)))

  pub grows_any_bounds : Grows reach (v.any_bounds most) (behind_mark Open (g.bounds wide)) any
  unfolding v.any_bounds
  grows_any_bounds = grows_optional_mark Open grows_bounds (like_bounds wide)

  grows_initial : Grows reach (steps.initial most) (behind_mark Equal (expression wide)) any
  unfolding steps.initial
  grows_initial = grows_optional_mark Equal whole like_whole

  grows_var : Grows reach (v.var most) (g.var wide) any
  unfolding v.var v.var_behind same_word
  grows_var = (grows_then grows_name like_name
      (λ n. grows_then grows_any_bounds (like_behind_mark Open (like_bounds wide))
      (λ b. grows_then (grows_word w.KwAs refl) (like_word w.KwAs)
      (λ u. grows_then grows_type like_type
      (λ t. grows_then grows_initial (like_behind_mark Equal like_whole)
      (λ init. grows_gives _ any)
      (λ x5 y5 r5. done))
      (λ x4 y4 r4. like_then (like_behind_mark Equal like_whole) (λ x6 y6 r6. done)))
      (λ x3 y3 r3. like_then like_type (λ x7 y7 r7. like_then (like_behind_mark Equal like_whole) (λ x8 y8 r8. done))))
      (λ x2 y2 r2. like_then (like_word w.KwAs) (λ x9 y9 r9. like_then like_type (λ x10 y10 r10. like_then (like_behind_mark Equal like_whole) (λ x11 y11 r11. done)))))
      (λ x1 y1 r1. like_then (like_behind_mark Open (like_bounds wide)) (λ x12 y12 r12. like_then (like_word w.KwAs) (λ x13 y13 r13. like_then like_type (λ x14 y14 r14. like_then (like_behind_mark Equal like_whole) (λ x15 y15 r15. done))))))

  grows_shared_var : Grows reach (v.listed most) (g.shared_var wide) any
  unfolding v.listed
  grows_shared_var = (grows_then grows_name like_name
      (λ n. grows_then grows_any_bounds (like_behind_mark Open (like_bounds wide))
      (λ b. grows_then grows_initial (like_behind_mark Equal like_whole)
      (λ init. grows_gives _ any)
      (λ x18 y18 r18. done))
      (λ x17 y17 r17. like_then (like_behind_mark Equal like_whole) (λ x19 y19 r19. done)))
      (λ x16 y16 r16. like_then (like_behind_mark Open (like_bounds wide)) (λ x20 y20 r20. like_then (like_behind_mark Equal like_whole) (λ x21 y21 r21. done))))

  grows_vars : Grows reach (v.vars most) (Listed (g.var wide)) any
  unfolding v.vars v.var_turn
  grows_vars = grows_list grows_var (like_var wide) (λ ts. widened (wide_listed (wide_var most wide fits)) ts (v.vars most ts) ((vars_exact deep).sound ts))

  grows_all_listed : Grows reach (v.all_listed most) (Listed (g.shared_var wide)) any
  unfolding v.all_listed v.listed_turn
  grows_all_listed = grows_list grows_shared_var (like_shared_var wide) (λ ts. widened (wide_listed (wide_shared_var most wide fits)) ts (v.all_listed most ts) ((all_listed_exact deep).sound ts))

  grows_variables : (at : Span) (where_ : Storage) → Grows reach (v.dim_behind most at where_) (g.variables wide at where_) any
  unfolding v.dim_behind v.dim_as v.dim_vars
  grows_variables at where_ = grows_behind (sees_word w.KwAs) (looks_word w.KwAs) (grows_then grows_type like_type
      (λ t. grows_then grows_all_listed (like_listed (like_shared_var wide))
      (λ all. grows_gives _ any)
      (λ x23 y23 r23. done))
      (λ x22 y22 r22. like_then (like_listed (like_shared_var wide)) (λ x24 y24 r24. done))) (grows_then grows_vars (like_listed (like_var wide))
      (λ all. grows_gives _ any)
      (λ x25 y25 r25. done))

  pub goes_static : (t : Token) → Goes reach (v.static_ most t.at) (any_token >> g.variables wide t.at storage.Static) t any
  unfolding v.static_
  goes_static t = goes t (grows_variables t.at storage.Static)

  grows_dim_by : (shared : Bool) (at : Span) → Grows reach (v.dim_by most shared at) (g.dim_with wide shared at) any
  grows_dim_by true at = grows_behind (sees_word w.KwShared) (looks_word w.KwShared) (grows_variables at storage.Shared) (grows_variables at storage.Scope)
  grows_dim_by false at = grows_variables at storage.Scope

  pub goes_dim : (t : Token) (level : Level) → Goes reach (v.dim most t.at level) (any_token >> g.dim_with wide (v.may_share level) t.at) t any
  unfolding v.dim
  goes_dim t level = goes t (grows_dim_by (v.may_share level) t.at)

  grows_any_type : Grows reach steps.any_type (behind_word w.KwAs ty) any
  unfolding steps.any_type
  grows_any_type = grows_optional_word w.KwAs grows_type like_type

  pub goes_constant : (t : Token) → Goes reach (v.constant most t.at) (any_token >> g.constant wide t.at) t any
  unfolding v.constant same_mark
  goes_constant t = goes t (grows_then grows_name like_name
      (λ n. grows_then grows_any_type (like_behind_word w.KwAs like_type)
      (λ ty. grows_then (grows_mark Equal refl) (like_mark Equal)
      (λ u. grows_then whole like_whole
      (λ x. grows_gives _ any)
      (λ x29 y29 r29. done))
      (λ x28 y28 r28. like_then like_whole (λ x30 y30 r30. done)))
      (λ x27 y27 r27. like_then (like_mark Equal) (λ x31 y31 r31. like_then like_whole (λ x32 y32 r32. done))))
      (λ x26 y26 r26. like_then (like_behind_word w.KwAs like_type) (λ x33 y33 r33. like_then (like_mark Equal) (λ x34 y34 r34. like_then like_whole (λ x35 y35 r35. done)))))

  -- ---- simple statements

  grows_values_list : Grows reach (s.values most) (Listed (expression wide)) any
  unfolding s.values s.value_turn
  grows_values_list = grows_list whole like_whole (λ ts. widened (wide_listed (wide_expression most wide fits)) ts (s.values most ts) ((exact_values deep).sound ts))

  pub grows_arguments : Grows reach (s.arguments most) (g.values wide) any
  unfolding s.arguments
  grows_arguments = grows_or_none [] grows_values_list (λ r. let y = value_stands reach deep r refl in (y.0 ∷ [], last (a_number ∷ r) r y.0 y.1))

  pub goes_result : (t : Token) → Goes reach (s.result_ most t.at) (any_token >> (mark Equal >> Then (expression wide) (λ x. gives (k.Result t.at x)))) t any
  unfolding s.result_ same_mark
  goes_result t = goes t (grows_then (grows_mark Equal refl) (like_mark Equal)
      (λ u. grows_then whole like_whole
      (λ x. grows_gives _ any)
      (λ x37 y37 r37. done))
      (λ x36 y36 r36. like_then like_whole (λ x38 y38 r38. done)))

  pub goes_line_input : (t : Token) → Goes reach (s.line_input most t.at) (any_token >> (word w.KwInput >> Then (place wide) (λ x. gives (k.LineInput t.at x)))) t any
  unfolding s.line_input same_word
  goes_line_input t = goes t (grows_then (grows_word w.KwInput refl) (like_word w.KwInput)
      (λ u. grows_then (grows_place reach deep) (like_place wide)
      (λ x. grows_gives _ any)
      (λ x40 y40 r40. done))
      (λ x39 y39 r39. like_then (like_place wide) (λ x41 y41 r41. done)))

  pub goes_return : (t : Token) → Goes reach (s.return_ most t.at) (any_token >> Then (maybe (expression wide)) (λ x. gives (k.Return t.at x))) t any
  unfolding s.return_
  goes_return t = goes t (grows_then (grows_any_value deep) (like_maybe like_whole)
      (λ x. grows_gives _ any)
      (λ x42 y42 r42. done))

  pub goes_end : (t : Token) → Goes reach (s.end_ most t.at) (any_token >> Then (maybe (expression wide)) (λ x. gives (k.End t.at x))) t any
  unfolding s.end_
  goes_end t = goes t (grows_then (grows_any_value deep) (like_maybe like_whole)
      (λ x. grows_gives _ any)
      (λ x43 y43 r43. done))

  grows_brackets : Grows reach s.brackets (either (mark OpenBracket >> (mark CloseBracket >> gives true)) (gives false)) any
  unfolding s.brackets same_mark
  grows_brackets = grows_behind (sees OpenBracket) (looks_mark OpenBracket) (grows_then (grows_mark CloseBracket refl) (like_mark CloseBracket)
      (λ u. grows_gives _ any)
      (λ x44 y44 r44. done)) (grows_gives false any)

  pub goes_delete : (t : Token) → Goes reach (s.delete most t.at) (any_token >> Then (either (mark OpenBracket >> (mark CloseBracket >> gives true)) (gives false)) (λ all. Then (expression wide) (λ x. gives (k.Delete t.at all x)))) t any
  unfolding s.delete
  goes_delete t = goes t (grows_then grows_brackets (like_either (like_then (like_mark OpenBracket) (λ u x q. like_then (like_mark CloseBracket) (λ a c r. done))) done)
      (λ all. grows_then whole like_whole
      (λ x. grows_gives _ any)
      (λ x46 y46 r46. done))
      (λ x45 y45 r45. like_then like_whole (λ x47 y47 r47. done)))

  grows_exit : (at : Span) → Grows reach (λ ts. s.exit_by at (s.exit_at (first ts)) ts) (Then (Chosen s.exit_at) (λ which. gives (k.Exit at which))) any
  grows_exit at = grows_chosen s.exit_at (s.exit_by at) (λ which. pure (k.Exit at which)) (λ which. gives (k.Exit at which)) (word_token w.KwFor) _ refl (λ ts. refl) (λ which ts. refl) refl (λ which. grows_gives _ any)

  pub goes_exit : (t : Token) → Goes reach (s.exit t.at) (any_token >> Then (Chosen s.exit_at) (λ which. gives (k.Exit t.at which))) t any
  unfolding s.exit
  goes_exit t = goes t (grows_exit t.at)

  grows_continue : (at : Span) → Grows reach (λ ts. s.continue_by at (s.continue_at (first ts)) ts) (Then (Chosen s.continue_at) (λ which. gives (k.Continue at which))) any
  grows_continue at = grows_chosen s.continue_at (s.continue_by at) (λ which. pure (k.Continue at which)) (λ which. gives (k.Continue at which)) (word_token w.KwFor) _ refl (λ ts. refl) (λ which ts. refl) refl (λ which. grows_gives _ any)

  pub goes_continue : (t : Token) → Goes reach (s.continue_ t.at) (any_token >> Then (Chosen s.continue_at) (λ which. gives (k.Continue t.at which))) t any
  unfolding s.continue_
  goes_continue t = goes t (grows_continue t.at)

  -- ---- parts of loops and of Select

  grows_step : Grows reach (steps.value_behind most w.KwStep) (behind_word w.KwStep (expression wide)) any
  unfolding steps.value_behind
  grows_step = grows_optional_word w.KwStep whole like_whole

  pub grows_for_head : (inner : _) (room : ℕ) → Grows reach (b.for_head most inner room) (g.for_head wide) any
  unfolding b.for_head b.range same_mark same_word
  grows_for_head inner room = (grows_then grows_name like_name
      (λ n. grows_then grows_any_type (like_behind_word w.KwAs like_type)
      (λ t. grows_then (grows_mark Equal refl) (like_mark Equal)
      (λ u. grows_then (grows_then whole like_whole
      (λ start. grows_then (grows_word w.KwTo refl) (like_word w.KwTo)
      (λ x. grows_then whole like_whole
      (λ end. grows_then grows_step (like_behind_word w.KwStep like_whole)
      (λ step. grows_gives _ any)
      (λ x51 y51 r51. done))
      (λ x50 y50 r50. like_then (like_behind_word w.KwStep like_whole) (λ x52 y52 r52. done)))
      (λ x49 y49 r49. like_then like_whole (λ x53 y53 r53. like_then (like_behind_word w.KwStep like_whole) (λ x54 y54 r54. done))))
      (λ x48 y48 r48. like_then (like_word w.KwTo) (λ x55 y55 r55. like_then like_whole (λ x56 y56 r56. like_then (like_behind_word w.KwStep like_whole) (λ x57 y57 r57. done))))) (like_range wide)
      (λ all. grows_gives _ any)
      (λ x61 y61 r61. done))
      (λ x60 y60 r60. like_then (like_range wide) (λ x62 y62 r62. done)))
      (λ x59 y59 r59. like_then (like_mark Equal) (λ x63 y63 r63. like_then (like_range wide) (λ x64 y64 r64. done))))
      (λ x58 y58 r58. like_then (like_behind_word w.KwAs like_type) (λ x65 y65 r65. like_then (like_mark Equal) (λ x66 y66 r66. like_then (like_range wide) (λ x67 y67 r67. done)))))

  -- ---- tests and cases

  test_begun : (ts : List Token) (which : Until) → cases_read.until_at (first ts) ≡ Some which → (kind : FaultKind) (rest : List Token) → Begun reach (expression wide) any (next ts) kind rest → Begun reach (maybe (g.test wide)) any ts kind rest
  unfolding first next place_at
  test_begun [] which is kind rest f = let bad : ◌≡◌ {A = Option Until} None (Some which) = is in cc
  test_begun (t ∷ ts) which is kind rest f = record {
    front = t ∷ f.front;
    more = f.more;
    is = ap (λ (xs : List Token). t ∷ xs) f.is;
    stands = λ r c.
        let y = f.stands r c in
        let x = (f.front ++ f.more) ++ r in
        let it : Test = record { at = t.at; word = which; condition = y.0 } in (
          Some it,
          inl (record {
            given = it;
            between = r;
            front = record { given = t.at; between = t ∷ x; front = (refl, refl); back = record { given = which; between = x; front = record { is = is; behind = refl }; back = record { given = y.0; between = r; front = y.1; back = (refl, refl) } } };
            back = (refl, refl);
          }),
        );
    starts = f.starts;
  }

  test_fails : (ts : List Token) (o : Option Until) → cases_read.until_at (first ts) ≡ o → Failed (Begun reach (maybe (g.test wide)) any ts) (cases_read.test_by most (place_at ts) o ts)
  test_fails ts None is = tt
  test_fails ts (Some which) is =
      failed_pure (Begun reach (maybe (g.test wide)) any ts) (steps.whole most (next ts)) (λ (x : Expr). Some (record { at = place_at ts; word = which; condition = x }))
      (map_failed (Begun reach (expression wide) any (next ts)) (Begun reach (maybe (g.test wide)) any ts) (steps.whole most (next ts)) (whole.fails (next ts)) (test_begun ts which is))

  pub grows_any_test : Grows reach (cases_read.any_test most) (maybe (g.test wide)) any
  unfolding cases_read.any_test
  grows_any_test = record { least = []; stands = λ r c. (None, inr (refl, refl)); fails = λ ts. test_fails ts (cases_read.until_at (first ts)) refl; sound = λ ts. widened (wide_any_test most wide fits) ts (cases_read.any_test most ts) ((exact_any_test deep).sound ts) }

  pub grows_last_test : (one : Option Test) → Grows reach (cases_read.last_test most (is_some one)) (g.last_test wide one) any
  unfolding cases_read.last_test
  grows_last_test None = grows_any_test
  grows_last_test (Some other) = grows_gives None any

  grows_is : (at : Span) → Grows reach (cases_read.is_case most at) (Then (Chosen cases_read.comparison_at) (λ which. Then (expression wide) (λ x. gives (case.Is at which x)))) any
  unfolding cases_read.is_case
  grows_is at = grows_chosen cases_read.comparison_at (cases_read.is_by most at) (λ which ts. and_then (steps.whole most ts) (λ x. pure (case.Is at which x))) (λ which. Then (expression wide) (λ x. gives (case.Is at which x)))
      (mark_token Equal) _ refl (λ ts. refl) (λ which ts. refl) refl (λ which. (grows_then whole like_whole
      (λ x. grows_gives _ any)
      (λ x68 y68 r68. done)))

  grows_from : (low : Expr) → Grows reach (cases_read.case_from most low) (either (word w.KwTo >> Then (expression wide) (λ high. gives (case.Range low high))) (gives (case.Value low))) any
  unfolding cases_read.case_from
  grows_from low = grows_behind (sees_word w.KwTo) (looks_word w.KwTo) (grows_then whole like_whole
      (λ high. grows_gives _ any)
      (λ x69 y69 r69. done)) (grows_gives (case.Value low) any)

  grows_case : Grows reach (cases_read.one_case most) (g.one_case wide) any
  unfolding cases_read.one_case
  grows_case = grows_behind_at (sees_word w.KwIs) (looks_word w.KwIs) grows_is
      (grows_then whole like_whole grows_from (λ low other r. like_either (like_then (like_word w.KwTo) (λ u x q. like_then like_whole (λ a c h. done))) done))

  pub grows_cases : Grows reach (cases_read.cases_ most) (g.all_cases wide) any
  unfolding cases_read.cases_ cases_read.case_list cases_read.case_turn
  grows_cases = grows_behind (sees_word w.KwElse) (looks_word w.KwElse) (grows_gives cases.Else any) (grows_then (grows_list grows_case (like_case wide) (λ ts. widened (wide_listed (wide_case most wide fits)) ts (cases_read.case_list most ts) ((exact_cases_list deep).sound ts))) (like_listed (like_case wide))
      (λ all. grows_gives _ any)
      (λ x70 y70 r70. done))

  -- ---- what is printed

  abbrev more_printed : ℕ → List Printed × Bool → Reader (List Printed)
  more_printed n q = if q.1 then repeat (print_turn most) n q.0 else pure q.0

  abbrev PrintBegun : Bool → List Token → FaultKind → List Token → Type 0
  PrintBegun fresh ts kind rest = Begun reach (AllPrinted wide fresh) any ts kind rest

  -- a number is printed
  number_begun : (ts : List Token) (kind : FaultKind) → Starts reach kind ts (a_number ∷ []) → PrintBegun true ts kind ts
  number_begun ts kind starts = at_once (AllPrinted wide true) any ts kind (a_number ∷ []) (λ r c. let y = value_stands reach deep r refl in (printed.Expr y.0 ∷ [], value (a_number ∷ r) r r y.0 [] y.1 (nothing false r))) starts

  between_plain : (kind : TokenKind) → (if is_mark Semicolon kind then true else is_mark Comma kind) ≡ true → refusal_by kind ≡ Expected
  between_plain (kinds.Word which) is = cc
  between_plain kind is = refl

  between_expected : (ts : List Token) → sees_between ts ≡ true → refusal ts ≡ Expected
  unfolding sees_between sees first refusal
  between_expected [] is = refl
  between_expected (t ∷ ts) is = between_plain t.kind is

  -- no more turns
  print_out : (fresh : Bool) (ts : List Token) → (fresh ≡ false → sees_between ts ≡ true) → PrintBegun fresh ts (refusal ts) ts
  print_out true ts inv = number_begun ts (refusal ts) (starts_refusal reach ts a_number [] (inl (0, refl)))
  print_out false ts inv = at_once (AllPrinted wide false) any ts (refusal ts) [] (λ r c. ([], nothing false r)) (subst (λ (k : FaultKind). Starts reach k ts []) (sym (between_expected ts (inv refl))) tt)

  semicolon_begun : (fresh : Bool) (ts : List Token) → sees Semicolon ts ≡ true → (kind : FaultKind) (rest : List Token) → PrintBegun true (next ts) kind rest → PrintBegun fresh ts kind rest
  unfolding next
  semicolon_begun fresh [] is kind rest f = let bad : true ≡ false = sym is ∙ (looks_mark Semicolon).nothing in cc
  semicolon_begun fresh (t ∷ ts) is kind rest f = record {
    front = t ∷ f.front;
    more = f.more;
    is = ap (λ (xs : List Token). t ∷ xs) f.is;
    stands = λ r c.
        let y = f.stands r c in
        let x = (f.front ++ f.more) ++ r in
        (printed.Semicolon (place_at (t ∷ x)) ∷ y.0, semicolon fresh (t ∷ x) r y.0 ((looks_mark Semicolon).alone t x ts ∙ is) y.1);
    starts = f.starts;
  }

  comma_begun : (fresh : Bool) (ts : List Token) → sees Comma ts ≡ true → (kind : FaultKind) (rest : List Token) → PrintBegun true (next ts) kind rest → PrintBegun fresh ts kind rest
  unfolding next
  comma_begun fresh [] is kind rest f = let bad : true ≡ false = sym is ∙ (looks_mark Comma).nothing in cc
  comma_begun fresh (t ∷ ts) is kind rest f = record {
    front = t ∷ f.front;
    more = f.more;
    is = ap (λ (xs : List Token). t ∷ xs) f.is;
    stands = λ r c.
        let y = f.stands r c in
        let x = (f.front ++ f.more) ++ r in
        (printed.Comma (place_at (t ∷ x)) ∷ y.0, comma fresh (t ∷ x) r y.0 ((looks_mark Comma).alone t x ts ∙ is) y.1);
    starts = f.starts;
  }

  value_begun : (ts : List Token) (kind : FaultKind) (rest : List Token) → Begun reach (expression wide) any ts kind rest → PrintBegun true ts kind rest
  value_begun ts kind rest f = record {
    front = f.front;
    more = f.more;
    is = f.is;
    stands = λ r c. let y = f.stands r c in (printed.Expr y.0 ∷ [], value ((f.front ++ f.more) ++ r) r r y.0 [] y.1 (nothing false r));
    starts = f.starts;
  }

  later_begun : (ts : List Token) (x : Expr) (mid : List Token) → expression wide ts x mid → (kind : FaultKind) (rest : List Token) → PrintBegun false mid kind rest → PrintBegun true ts kind rest
  later_begun ts x mid is kind rest f =
      let u = like_whole.within ts x mid is in
      record {
        front = u.front ++ f.front;
        more = f.more;
        is = u.is ∙ ap (λ (xs : List Token). u.front ++ xs) f.is ∙ sym (append_assoc u.front f.front rest);
        stands = λ r c.
            let y = f.stands r c in
            let z = (f.front ++ f.more) ++ r in
            let n = like_whole.moves u.front mid z x (subst (λ (xs : List Token). expression wide xs x mid) u.is is) (inr refl) in
            let same : u.front ++ z ≡ ((u.front ++ f.front) ++ f.more) ++ r = sym (append_assoc u.front (f.front ++ f.more) r) ∙ ap (λ (xs : List Token). xs ++ r) (sym (append_assoc u.front f.front f.more)) in
            (printed.Expr n.0 ∷ y.0, value (((u.front ++ f.front) ++ f.more) ++ r) z r n.0 y.0 (subst (λ (xs : List Token). expression wide xs n.0 z) same n.1) y.1);
        starts = f.starts;
      }

  stop_printing : (found : List Printed) (fresh : Bool) (n : ℕ) (ts : List Token) → fresh ≡ true → (kind : FaultKind) → refusal ts ≡ kind → Failed (PrintBegun fresh ts) (and_then (and_then (pass_by kind ts) (λ u. pure (found, false))) (more_printed n))
  stop_printing found fresh n ts new OutOfProfile is =
      subst (λ (x : Bool). PrintBegun x ts OutOfProfile ts) (sym new) (number_begun ts OutOfProfile (subst (λ (k : FaultKind). Starts reach k ts (a_number ∷ [])) is (starts_refusal reach ts a_number [] (inl (0, refl)))))
  stop_printing found fresh n ts new kind is = tt

  between_none : (ts : List Token) → sees Semicolon ts ≡ false → sees Comma ts ≡ false → sees_between ts ≡ false
  unfolding sees_between
  between_none ts a c = rw (a, c) refl

  fresh_by : (fresh : Bool) (ts : List Token) → (fresh ≡ false → sees_between ts ≡ true) → sees_between ts ≡ false → fresh ≡ true
  fresh_by true ts more none = refl
  fresh_by false ts more none = let bad : true ≡ false = sym (more refl) ∙ none in cc

  print_fails : (n : ℕ) (found : List Printed) (fresh : Bool) (ts : List Token) → (fresh ≡ false → sees_between ts ≡ true) → Failed (PrintBegun fresh ts) (repeat (print_turn most) n found ts)
  unfolding repeat print_turn printed_value no_value
  print_fails zero found fresh ts inv = print_out fresh ts inv
  print_fails (suc n) found fresh ts inv =
      by_test (λ (o : Outcome (List Printed × Bool)). Failed (PrintBegun fresh ts) (and_then o (more_printed n))) (sees Semicolon ts) _ _
      (λ is. map_failed (PrintBegun true (next ts)) (PrintBegun fresh ts) (repeat (print_turn most) n (found ++ printed.Semicolon (place_at ts) ∷ []) (next ts)) (print_fails n (found ++ printed.Semicolon (place_at ts) ∷ []) true (next ts) (λ bad. cc)) (semicolon_begun fresh ts is))
      (λ no_semicolon. by_test (λ (o : Outcome (List Printed × Bool)). Failed (PrintBegun fresh ts) (and_then o (more_printed n))) (sees Comma ts) _ _
      (λ is. map_failed (PrintBegun true (next ts)) (PrintBegun fresh ts) (repeat (print_turn most) n (found ++ printed.Comma (place_at ts) ∷ []) (next ts)) (print_fails n (found ++ printed.Comma (place_at ts) ∷ []) true (next ts) (λ bad. cc)) (comma_begun fresh ts is))
      (λ no_comma. by_test (λ (o : Outcome (List Printed × Bool)). Failed (PrintBegun fresh ts) (and_then o (more_printed n))) (sees_value ts) _ _
      (λ is.
      let new : fresh ≡ true = fresh_by fresh ts inv (between_none ts no_semicolon no_comma) in
      subst (λ (x : Bool). Failed (PrintBegun x ts) (and_then (and_then (steps.whole most ts) (λ y rest. Ok ((found ++ printed.Expr y ∷ [], sees_between rest), rest))) (more_printed n))) (sym new)
      (subst (λ (o : Outcome (List Printed)). Failed (PrintBegun true ts) o) (regroup (steps.whole most ts) (λ y rest. Ok ((found ++ printed.Expr y ∷ [], sees_between rest), rest)) (more_printed n))
      (failed_then (expression wide ts) (PrintBegun true ts) (steps.whole most ts) (λ y rest. more_printed n (found ++ printed.Expr y ∷ [], sees_between rest) rest) (whole.sound ts)
      (map_failed (Begun reach (expression wide) any ts) (PrintBegun true ts) (steps.whole most ts) (whole.fails ts) (value_begun ts))
      (λ y mid read. by_test (λ (o : Reader (List Printed)). Failed (PrintBegun true ts) (o mid)) (sees_between mid) (repeat (print_turn most) n (found ++ printed.Expr y ∷ [])) (pure (found ++ printed.Expr y ∷ []))
      (λ goes_on. map_failed (PrintBegun false mid) (PrintBegun true ts) (repeat (print_turn most) n (found ++ printed.Expr y ∷ []) mid) (print_fails n (found ++ printed.Expr y ∷ []) false mid (λ x. goes_on)) (later_begun ts y mid read))
      (λ stops. tt)))))
      (λ no_value_there. stop_printing found fresh n ts (fresh_by fresh ts inv (between_none ts no_semicolon no_comma)) (refusal ts) refl)))

  grows_printed : Grows reach (s.all_printed most) (AllPrinted wide true) any
  unfolding s.all_printed
  grows_printed = record { least = []; stands = λ r c. ([], nothing true r); fails = λ ts. print_fails (length ts + 1) [] true ts (λ bad. cc); sound = λ ts. widened (wide_printed most wide fits true) ts (s.all_printed most ts) ((exact_printed deep).sound ts) }

  pub goes_print : (t : Token) → Goes reach (s.print most t.at) (any_token >> Then (AllPrinted wide true) (λ all. gives (k.Print t.at all))) t any
  unfolding s.print
  goes_print t = goes t (grows_then grows_printed (like_printed wide)
      (λ all. grows_gives _ any)
      (λ x71 y71 r71. done))
