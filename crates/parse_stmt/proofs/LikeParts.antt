-- Phrases of statements without statements inside, and of heads and Types, that stand before other tokens, too.
use Rattle.std.proofs.Common.{◌≡◌, ℕ, Bool, true, false, if◌then◌else◌, List, [], ◌∷◌, ◌++◌, length, Option, Some, None, is_some, refl, sym, ap, ◌∙◌, subst, inl, inr, arith, append_assoc, length-append}
use Rattle.fb_base.specs.declared.fault.Span.{Span}
use Rattle.fb_lexer.specs.declared.token.Token.{Token}
use Rattle.fb_lexer.specs.declared.token.Mark.{Mark}
use Rattle.fb_lexer.specs.declared.token.Mark.TheVariants.{Open, Close, Equal, Semicolon, Comma, Dot}
use Rattle.fb_lexer.specs.declared.word.Word.{Word}
use Rattle.fb_lexer.specs.declared.word.Word.TheVariants as w
use Rattle.fb_ast.specs.declared.expr.Expr.{Expr}
use Rattle.fb_ast.specs.declared.part.Member.{Member}
use Rattle.fb_ast.specs.declared.part.Name.{Name}
use Rattle.fb_ast.specs.declared.stmt.Printed.{Printed}
use Rattle.fb_ast.specs.declared.stmt.Stmt.{Stmt}
use Rattle.fb_ast.specs.declared.stmt.Stmt.TheVariants as k
use Rattle.fb_ast.specs.declared.stmt.Printed.TheVariants as printed
use Rattle.fb_ast.specs.declared.stmt.Storage.{Storage}
use Rattle.fb_ast.specs.declared.stmt.Test.{Test}
use Rattle.parse_expr.specs.Reading.{first, next, holds, is_mark, sees}
use Rattle.parse_expr.proofs.Ends.{Suffixes, same_end, end_of_end}
use Rattle.parse_parts.specs.Steps.{place_at}
use Rattle.parse_parts.specs.Simple.{assignment_at}
use Rattle.parse_parts.specs.Cases.{until_at, comparison_at}
use Rattle.parse_parts.specs.Heads.{operator_at, Opening}
use Rattle.parse_parts.specs.Members.{is_field}
use Rattle.parse_stmt.specs.Phrases.{Phrase, gives, Then, maybe, behind_mark, behind_word, IsName, expression}
use Rattle.parse_stmt.specs.Statements.{bounds, var, shared_var, variables, dim_with, constant, values, is_alone, assignment, call_only, call, call_name, valued, AllPrinted, nothing, semicolon, comma, value, range, for_head, test, last_test, one_case, all_cases, end_of}
use Rattle.parse_stmt.specs.Texts.{any_mode, param_name, param, some_params, any_params, one_param, no_params, overload, sub_head, function_head, declared_head, operator_mark, declared_operator, declare, sub_behind, function_behind, constructor, destructor, let_operator, two_params, mark_operator, field, declared_member, one_member}
use Rattle.parse_stmt.proofs.Exact.{leave_next}
use Rattle.parse_stmt.proofs.Likes.{Like, Fits, any, Whatever, lies, none_taken, like_then, like_less, like_loose, like_gives, like_either, like_mark, like_word, like_here, like_chosen, like_name, like_type, like_expression, like_place, like_listed}

pub done : {A B : Type 0} {a : A} {b : B} → Like (gives a) (gives b) Whatever any
done {a = a} {b = b} = like_gives Whatever any a b tt

pub like_behind_mark : {A B : Type 0} {P : Phrase A} {Q : Phrase B} {R : A → B → Type 0} (which : Mark) → Like P Q R any → Like (behind_mark which P) (behind_mark which Q) Whatever any
like_behind_mark which l = like_either (like_then (like_mark which) (λ u v q. like_then l (λ a b r. done))) done

pub like_behind_word : {A B : Type 0} {P : Phrase A} {Q : Phrase B} {R : A → B → Type 0} (which : Word) → Like P Q R any → Like (behind_word which P) (behind_word which Q) Whatever any
like_behind_word which l = like_either (like_then (like_word which) (λ u v q. like_then l (λ a b r. done))) done

-- what is there or not is the same
abbrev pub SameOption : {A B : Type 0} → Option A → Option B → Type 0
SameOption a b = is_some a ≡ is_some b

pub like_maybe : {A B : Type 0} {P : Phrase A} {Q : Phrase B} {R : A → B → Type 0} → Like P Q R any → Like (maybe P) (maybe Q) SameOption any
like_maybe l = like_either (like_then l (λ a b r. like_gives SameOption any (Some a) (Some b) refl)) (like_gives SameOption any None None refl)

module _ (most : ℕ) where
  -- ---- variables

  pub like_bounds : Like (bounds most) (bounds most) Whatever any
  like_bounds = like_then (like_expression most) (λ one other r. like_then (like_either (like_then (like_word w.KwTo) (λ u v q. like_then (like_expression most) (λ a b e. done))) done) (λ a b q. like_then (like_mark Close) (λ u v e. done)))

  pub like_var : Like (var most) (var most) Whatever any
  like_var = like_then like_name (λ n m r. like_then (like_behind_mark Open like_bounds) (λ a b q. like_then (like_word w.KwAs) (λ u v e. like_then like_type (λ t s f. like_then (like_behind_mark Equal (like_expression most)) (λ x y g. done)))))

  pub like_shared_var : Like (shared_var most) (shared_var most) Whatever any
  like_shared_var = like_then like_name (λ n m r. like_then (like_behind_mark Open like_bounds) (λ a b q. like_then (like_behind_mark Equal (like_expression most)) (λ x y g. done)))

  pub like_variables : (at : Span) (where_ : Storage) → Like (variables most at where_) (variables most at where_) Whatever any
  like_variables at where_ = like_either (like_then (like_word w.KwAs) (λ u v q. like_then like_type (λ t s r. like_then (like_listed like_shared_var) (λ a b e. done)))) (like_then (like_listed like_var) (λ a b e. done))

  pub like_dim_with : (b : Bool) (at : Span) → Like (dim_with most b at) (dim_with most b at) Whatever any
  like_dim_with true at = like_either (like_then (like_word w.KwShared) (λ u v q. like_variables at _)) (like_variables at _)
  like_dim_with false at = like_variables at _

  pub like_constant : (at : Span) → Like (constant most at) (constant most at) Whatever any
  like_constant at = like_then like_name (λ n m r. like_then (like_behind_word w.KwAs like_type) (λ t s q. like_then (like_mark Equal) (λ u v e. like_then (like_expression most) (λ x y f. done))))

  -- ---- assignments and calls

  pub like_values : Like (values most) (values most) Whatever any
  like_values = like_either (like_listed (like_expression most)) done

  pub like_assignment : (at : Span) → Like (assignment most at) (assignment most at) Whatever any
  like_assignment at = like_then (like_place most) (λ x y r. like_then (like_chosen assignment_at refl) (λ h i q. like_then (like_expression most) (λ a b e. done)))

  like_call_only : (x : Expr) → Like (call_only x) (call_only x) Whatever any
  like_call_only x = record {
    within = λ ts y rest p. rw (p.2) (same_end ts);
    moves = λ front mid new y p f. let e = none_taken front mid p.2 in (x, (p.0, refl, ap (λ (xs : List Token). xs ++ new) (sym e)), tt);
  }

  pub like_call : (at : Span) → Like (call most at) (call most at) Whatever any
  like_call at = like_then (like_place most) (λ x y r. subst (λ (z : Expr). Like (Then (call_only x) (λ u. gives (k.Call at x))) (Then (call_only z) (λ u. gives (k.Call at z))) Whatever any) r (like_then (like_call_only x) (λ a b q. done)))

  -- no parenthesis comes next
  alone_first : (a b : List Token) → first a ≡ first b → is_alone a ≡ is_alone b
  unfolding sees
  alone_first a b is = ap (λ (o : Option Token). if holds (is_mark Open) o then false else true) is

  alone_fits : (w mid new : List Token) → is_alone (w ++ mid) ≡ true → Fits is_alone mid new → is_alone (w ++ new) ≡ true
  unfolding first
  alone_fits [] mid new is (inl same) = alone_first new mid same ∙ is
  alone_fits [] mid new is (inr it) = it
  alone_fits (t ∷ w) mid new is f = alone_first (t ∷ (w ++ new)) (t ∷ (w ++ mid)) refl ∙ is

  abbrev Rest : Span → Name → Phrase Stmt
  Rest at n = Then (values most) (λ all. gives (k.CallName at n all))

  like_rest : (at : Span) (n : Name) → Like (Rest at n) (Rest at n) Whatever any
  like_rest at n = like_then like_values (λ a b q. done)

  name_moves : (at : Span) (front mid new : List Token) (y : Stmt) → call_name most at (front ++ mid) y mid → Fits is_alone mid new → (z : Stmt) × call_name most at (front ++ new) z new × Unit {0}
  name_moves at front mid new y t f =
      let s = like_name.within (front ++ mid) t.given t.between t.front.0 in
      let b = lies front mid t.between s ((like_rest at t.given).within t.between y mid t.back) in
      let m = like_name.moves b.before t.between (b.behind ++ new) t.given (subst (λ (xs : List Token). IsName xs t.given t.between) s.is t.front.0) (inr refl) in
      let o = (like_rest at t.given).moves b.behind mid new y (subst (λ (xs : List Token). Rest at t.given xs y mid) b.between_is t.back) (inr refl) in
      let o' = subst (λ (n : Name). (z : Stmt) × Rest at n (b.behind ++ new) z new × Unit {0}) m.2 o in
      let whole : b.before ++ (b.behind ++ new) ≡ front ++ new = sym (append_assoc b.before b.behind new) ∙ ap (λ (xs : List Token). xs ++ new) (sym b.is) in
      let is_it : is_alone (b.behind ++ new) ≡ true = alone_fits b.behind mid new (ap is_alone (sym b.between_is) ∙ t.front.1) f in
      (o'.0, record { given = m.0; between = b.behind ++ new; front = (subst (λ (xs : List Token). IsName xs m.0 (b.behind ++ new)) whole m.1, is_it); back = o'.1 }, tt)

  pub like_call_name : (at : Span) → Like (call_name most at) (call_name most at) Whatever is_alone
  like_call_name at = record {
    within = λ ts y rest t. end_of_end ((like_rest at t.given).within t.between y rest t.back) (like_name.within ts t.given t.between t.front.0);
    moves = name_moves at;
  }

  pub like_valued : (at : Span) → Like (valued most at) (valued most at) Whatever is_alone
  like_valued at = like_either (like_less is_alone (like_assignment at)) (like_either (like_less is_alone (like_call at)) (like_call_name at))

  -- ---- what is printed

  printed_within : (fresh : Bool) (ts : List Token) (all : List Printed) (rest : List Token) → AllPrinted most fresh ts all rest → Suffixes rest ts
  printed_within fresh ts all rest (nothing a b) = same_end rest
  printed_within fresh ts all rest (semicolon a b c more is p) = end_of_end (printed_within true (next ts) more rest p) (leave_next ts)
  printed_within fresh ts all rest (comma a b c more is p) = end_of_end (printed_within true (next ts) more rest p) (leave_next ts)
  printed_within fresh ts all rest (value a between c x more e p) = end_of_end (printed_within false between more rest p) ((like_expression most).within ts x between e)

  abbrev Printing : Bool → List Token → List Token → Type 0
  Printing fresh ts rest = (all : List Printed) × AllPrinted most fresh ts all rest

  -- behind a mark
  mark_moves : (which : Mark) (front mid new : List Token) → sees which (front ++ mid) ≡ true → Suffixes mid (next (front ++ mid)) → (t : Token) × (f : List Token) × (front ≡ t ∷ f) × (sees which (front ++ new) ≡ true)
  unfolding sees first next
  mark_moves which [] [] new is s = cc
  mark_moves which [] (t ∷ mid) new is s = let e = ap length s.is ∙ length-append s.front (t ∷ mid) in absurd (omega arith)
  mark_moves which (t ∷ front) mid new is s = (t, front, refl, is)

  printed_moves : (fresh : Bool) (ts front mid new : List Token) (all : List Printed) → ts ≡ front ++ mid → AllPrinted most fresh ts all mid → Printing fresh (front ++ new) new
  unfolding next
  printed_moves fresh ts front mid new all is (nothing a b) =
      let e = none_taken front mid is in subst (λ (xs : List Token). Printing fresh (xs ++ new) new) (sym e) ([], nothing fresh new)
  printed_moves fresh ts front mid new all is (semicolon a b c more it p) =
      let m = mark_moves Semicolon front mid new (ap (sees Semicolon) (sym is) ∙ it) (subst (λ (xs : List Token). Suffixes mid (next xs)) is (printed_within true (next ts) more mid p)) in
      let tail : next ts ≡ m.1 ++ mid = ap next is ∙ ap (λ (xs : List Token). next (xs ++ mid)) m.2 in
      let r = printed_moves true (next ts) m.1 mid new more tail p in
      let back : next (front ++ new) ≡ m.1 ++ new = ap (λ (xs : List Token). next (xs ++ new)) m.2 in
      (printed.Semicolon (place_at (front ++ new)) ∷ r.0, semicolon fresh (front ++ new) new r.0 m.3 (subst (λ (xs : List Token). AllPrinted most true xs r.0 new) (sym back) r.1))
  printed_moves fresh ts front mid new all is (comma a b c more it p) =
      let m = mark_moves Comma front mid new (ap (sees Comma) (sym is) ∙ it) (subst (λ (xs : List Token). Suffixes mid (next xs)) is (printed_within true (next ts) more mid p)) in
      let tail : next ts ≡ m.1 ++ mid = ap next is ∙ ap (λ (xs : List Token). next (xs ++ mid)) m.2 in
      let r = printed_moves true (next ts) m.1 mid new more tail p in
      let back : next (front ++ new) ≡ m.1 ++ new = ap (λ (xs : List Token). next (xs ++ new)) m.2 in
      (printed.Comma (place_at (front ++ new)) ∷ r.0, comma fresh (front ++ new) new r.0 m.3 (subst (λ (xs : List Token). AllPrinted most true xs r.0 new) (sym back) r.1))
  printed_moves fresh ts front mid new all is (value a between c x more e p) =
      let s = (like_expression most).within ts x between e in
      let b = lies front mid between (record { front = s.front; is = sym is ∙ s.is }) (printed_within false between more mid p) in
      let r = printed_moves false between b.behind mid new more b.between_is p in
      let m = (like_expression most).moves b.before between (b.behind ++ new) x (subst (λ (xs : List Token). expression most xs x between) s.is e) (inr refl) in
      let whole : b.before ++ (b.behind ++ new) ≡ front ++ new = sym (append_assoc b.before b.behind new) ∙ ap (λ (xs : List Token). xs ++ new) (sym b.is) in
      (printed.Expr m.0 ∷ r.0, value (front ++ new) (b.behind ++ new) new m.0 r.0 (subst (λ (xs : List Token). expression most xs m.0 (b.behind ++ new)) whole m.1) r.1)

  pub like_printed : Like (AllPrinted most true) (AllPrinted most true) Whatever any
  like_printed = record { within = printed_within true; moves = λ front mid new all p f. let m = printed_moves true (front ++ mid) front mid new all refl p in (m.0, m.1, tt) }

  -- ---- parts of loops and of Select

  pub like_range : Like (range most) (range most) Whatever any
  like_range = like_then (like_expression most) (λ a b r. like_then (like_word w.KwTo) (λ u v q. like_then (like_expression most) (λ c d e. like_then (like_behind_word w.KwStep (like_expression most)) (λ f g h. done))))

  pub like_for_head : Like (for_head most) (for_head most) Whatever any
  like_for_head = like_then like_name (λ n m r. like_then (like_behind_word w.KwAs like_type) (λ t s q. like_then (like_mark Equal) (λ u v e. like_then like_range (λ a b f. done))))

  pub like_test : Like (test most) (test most) Whatever any
  like_test = like_then like_here (λ at bt r. like_then (like_chosen until_at refl) (λ a b q. like_then (like_expression most) (λ x y e. done)))

  pub like_last_test : (one other : Option Test) → is_some one ≡ is_some other → Like (last_test most one) (last_test most other) Whatever any
  like_last_test None None is = like_loose (like_maybe like_test)
  like_last_test None (Some b) is = cc
  like_last_test (Some a) None is = cc
  like_last_test (Some a) (Some b) is = done

  pub like_case : Like (one_case most) (one_case most) Whatever any
  like_case = like_either (like_then like_here (λ at bt r. like_then (like_word w.KwIs) (λ u v q. like_then (like_chosen comparison_at refl) (λ a b e. like_then (like_expression most) (λ x y f. done)))))
      (like_then (like_expression most) (λ low low' r. like_either (like_then (like_word w.KwTo) (λ u v q. like_then (like_expression most) (λ x y e. done))) done))

  pub like_cases : Like (all_cases most) (all_cases most) Whatever any
  like_cases = like_either (like_then (like_word w.KwElse) (λ u v q. done)) (like_then (like_listed like_case) (λ a b q. done))

pub like_end_of : (which : Word) → Like (end_of which) (end_of which) Whatever any
like_end_of which = like_then like_here (λ at bt r. like_then (like_word w.KwEnd) (λ u v q. like_then (like_word which) (λ x y e. done)))

-- ---- parameters and heads

pub like_mode : Like any_mode any_mode Whatever any
like_mode = like_either (like_then (like_word w.KwByVal) (λ u v q. done)) (like_either (like_then (like_word w.KwByRef) (λ u v q. done)) done)

pub like_param_name : (nameless : Bool) → Like (param_name nameless) (param_name nameless) Whatever any
like_param_name true = like_loose (like_maybe like_name)
like_param_name false = like_then like_name (λ n m r. done)

pub like_param : (nameless : Bool) → Like (param nameless) (param nameless) Whatever any
like_param nameless = like_then like_here (λ at bt r. like_then like_mode (λ m n q. like_then (like_param_name nameless) (λ a b e. like_then (like_word w.KwAs) (λ u v f. like_then like_type (λ t s g. done)))))

pub like_some_params : (nameless : Bool) → Like (some_params nameless) (some_params nameless) Whatever any
like_some_params nameless = like_then (like_listed (like_param nameless)) (λ a b r. like_then (like_mark Close) (λ u v q. done))

pub like_any_params : (nameless : Bool) → Like (any_params nameless) (any_params nameless) Whatever any
like_any_params nameless = like_either (like_then (like_mark Open) (λ u v q. like_either (like_then (like_mark Close) (λ x y e. done)) (like_some_params nameless))) done

pub like_one_param : (nameless : Bool) → Like (one_param nameless) (one_param nameless) Whatever any
like_one_param nameless = like_then (like_mark Open) (λ u v q. like_then (like_param nameless) (λ a b r. like_then (like_mark Close) (λ x y e. done)))

pub like_no_params : Like no_params no_params Whatever any
like_no_params = like_either (like_then (like_mark Open) (λ u v q. like_mark Close)) done

pub like_overload : Like overload overload Whatever any
like_overload = like_either (like_then (like_word w.KwOverload) (λ u v q. done)) done

pub like_sub_head : (at bt : Span) (n m : Name) (nameless : Bool) → Like (sub_head at n nameless) (sub_head bt m nameless) Whatever any
like_sub_head at bt n m nameless = like_then like_overload (λ a b r. like_then (like_any_params nameless) (λ x y q. done))

pub like_function_head : (at bt : Span) (n m : Name) (nameless : Bool) → Like (function_head at n nameless) (function_head bt m nameless) Whatever any
like_function_head at bt n m nameless = like_then like_overload (λ a b r. like_then (like_any_params nameless) (λ x y q. like_then (like_word w.KwAs) (λ u v e. like_then like_type (λ t s f. done))))

pub like_declared_head : Like declared_head declared_head Whatever any
like_declared_head = like_then like_here (λ at bt r. like_either (like_then (like_word w.KwSub) (λ u v q. like_then like_name (λ n m e. like_sub_head at bt n m true)))
    (like_then (like_word w.KwFunction) (λ u v q. like_then like_name (λ n m e. like_function_head at bt n m true))))

pub like_operator_mark : Like operator_mark operator_mark Whatever any
like_operator_mark = like_loose (like_chosen operator_at refl)

pub like_declared_operator : (at bt : Span) → Like (declared_operator at) (declared_operator bt) Whatever any
like_declared_operator at bt = like_then like_here (λ ct dt r. like_then like_operator_mark (λ a b q. like_then (like_mark Open) (λ u v e. like_then (like_some_params true) (λ x y f. like_then (like_word w.KwAs) (λ c d g. like_then like_type (λ t s h. done))))))

pub like_declare : Like declare declare Whatever any
like_declare = like_then like_here (λ at bt r. like_then (like_word w.KwDeclare) (λ u v q. like_either (like_then (like_word w.KwOperator) (λ x y e. like_declared_operator at bt)) (like_then like_declared_head (λ a b e. done))))

-- ---- openings of procedures: what ends them is the same

abbrev pub SameCloser : Opening → Opening → Type 0
SameCloser o p = o.1 ≡ p.1

pub like_sub_behind : (at bt : Span) (n m : Name) → Like (sub_behind at n) (sub_behind bt m) SameCloser any
like_sub_behind at bt n m = like_either
    (like_then (like_mark Dot) (λ u v q. like_then like_name (λ a b r. like_then (like_any_params false) (λ x y e. like_then (like_behind_word w.KwAs like_type) (λ t s f. like_gives SameCloser any _ _ refl)))))
    (like_then (like_sub_head at bt n m false) (λ a b r. like_gives SameCloser any _ _ refl))

pub like_function_behind : (at bt : Span) (n m : Name) → Like (function_behind at n) (function_behind bt m) SameCloser any
like_function_behind at bt n m = like_either
    (like_then (like_mark Dot) (λ u v q. like_then like_name (λ a b r. like_then (like_any_params false) (λ x y e. like_then (like_behind_word w.KwAs like_type) (λ t s f. like_gives SameCloser any _ _ refl)))))
    (like_then (like_function_head at bt n m false) (λ a b r. like_gives SameCloser any _ _ refl))

pub like_constructor : (at bt : Span) → Like (constructor at) (constructor bt) SameCloser any
like_constructor at bt = like_then like_name (λ n m r. like_then (like_any_params false) (λ a b q. like_gives SameCloser any _ _ refl))

pub like_destructor : (at bt : Span) → Like (destructor at) (destructor bt) SameCloser any
like_destructor at bt = like_then like_name (λ n m r. like_then like_no_params (λ a b q. like_gives SameCloser any _ _ refl))

pub like_let : (at bt : Span) → Like (let_operator at) (let_operator bt) SameCloser any
like_let at bt = like_then like_name (λ n m r. like_then (like_mark Dot) (λ u v q. like_then like_here (λ ct dt e. like_then (like_word w.KwLet) (λ x y f. like_then (like_one_param false) (λ a b g. like_gives SameCloser any _ _ refl)))))

pub like_two_params : Like two_params two_params Whatever any
like_two_params = like_then (like_mark Open) (λ u v q. like_then (like_param false) (λ a b r. like_then (like_mark Comma) (λ x y e. like_then (like_param false) (λ c d f. like_then (like_mark Close) (λ g h i. done)))))

pub like_mark_operator : (at bt : Span) → Like (mark_operator at) (mark_operator bt) SameCloser any
like_mark_operator at bt = like_then like_here (λ ct dt r. like_then like_operator_mark (λ a b q. like_then like_two_params (λ x y e. like_then (like_word w.KwAs) (λ u v f. like_then like_type (λ t s g. like_gives SameCloser any _ _ refl)))))

-- ---- Types: what is a field is the same

abbrev pub SameField : Member → Member → Type 0
SameField a b = is_field a ≡ is_field b

pub like_field : (most : ℕ) → Like (field most) (field most) SameField any
like_field most = like_then like_name (λ n m r. like_then (like_behind_mark Open (like_bounds most)) (λ a b q. like_then (like_word w.KwAs) (λ u v e. like_then like_type (λ t s f. like_gives SameField any _ _ refl))))

pub like_declared_member : (at bt : Span) → Like (declared_member at) (declared_member bt) SameField any
like_declared_member at bt = like_either (like_then like_here (λ ct dt r. like_then (like_word w.KwConstructor) (λ u v q. like_then (like_any_params true) (λ a b e. like_gives SameField any _ _ refl))))
    (like_either (like_then like_here (λ ct dt r. like_then (like_word w.KwDestructor) (λ u v q. like_then like_no_params (λ a b e. like_gives SameField any _ _ refl))))
    (like_either (like_then (like_word w.KwOperator) (λ u v q. like_then like_here (λ ct dt r. like_then (like_word w.KwLet) (λ x y e. like_then (like_one_param true) (λ a b f. like_gives SameField any _ _ refl)))))
    (like_then like_declared_head (λ a b r. like_gives SameField any _ _ refl))))

pub like_member : (most : ℕ) → Like (one_member most) (one_member most) SameField any
like_member most = like_either (like_then like_here (λ at bt r. like_then (like_word w.KwDeclare) (λ u v q. like_declared_member at bt))) (like_field most)
