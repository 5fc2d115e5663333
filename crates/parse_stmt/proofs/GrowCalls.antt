-- What is read of statements before a fault can be completed.
use Rattle.std.proofs.Common.{◌≡◌, ◌≤◌, ℕ, suc, Bool, true, false, if◌then◌else◌, List, [], ◌∷◌, ◌++◌, Option, Some, None, refl, sym, ap, ◌∙◌, subst, inl, inr, arith, append_assoc}
use Rattle.fb_base.specs.declared.fault.Span.{Span}
use Rattle.fb_base.specs.declared.fault.FaultKind.{FaultKind}
use Rattle.fb_base.specs.declared.fault.FaultKind.TheVariants.{Expected}
use Rattle.fb_lexer.specs.declared.token.Token.{Token}
use Rattle.fb_lexer.specs.declared.token.TokenKind.{TokenKind}
use Rattle.fb_lexer.specs.declared.token.TokenKind.TheVariants as kinds
use Rattle.fb_lexer.specs.declared.token.Mark.TheVariants.{At, Minus, Open, Close, Equal}
use Rattle.fb_lexer.specs.declared.word.Word.{Word}
use Rattle.fb_lexer.specs.declared.word.Word.TheVariants as w
use Rattle.fb_ast.specs.declared.expr.Expr.{Expr, out-Expr}
use Rattle.fb_ast.specs.declared.expr.Expr.TheVariants as e
use Rattle.fb_ast.specs.declared.operator.Assignment.{Assignment}
use Rattle.fb_ast.specs.declared.operator.CallWord.{CallWord}
use Rattle.fb_ast.specs.declared.part.Name.{Name}
use Rattle.fb_ast.specs.declared.stmt.Stmt.{Stmt}
use Rattle.fb_ast.specs.declared.stmt.Stmt.TheVariants as k
use Rattle.parse_expr.specs.declared.kinds.OperandWord.TheVariants as operands
use Rattle.parse_expr.specs.Words.{operand_word, prefix_of}
use Rattle.parse_expr.specs.Reading.{first, next, is_mark, same_mark, holds, sees, Reader, Outcome, and_then, pure, stop}
use Rattle.parse_expr.specs.Faults.{is_refused_kind}
use Rattle.parse_expr.specs.Productions.{gives as gives_series, call_word_production, Nothing, start_of, word_start}
use Rattle.parse_expr.specs.Grammar.{Is, Expression, primary as a_primary, nothing as nothing_behind, a_mark, no_arguments}
use Rattle.parse_expr.proofs.Sound.{by_test, seen}
use Rattle.parse_expr.proofs.Refused.{nowhere}
use Rattle.parse_expr.proofs.Fills.{Failed, failed_then, failed_pure, map_failed}
use Rattle.parse_expr.proofs.Completed.{here as at_start, a_number, mark_token, number_is}
use Rattle.parse_parts.specs.Steps as steps
use Rattle.parse_parts.specs.Simple.{assignment_at, assign, assign_by, must_assign, may_assign, arguments, call_name, named, is_call, headed, goes_on, sees_bare, valued, called}
use Rattle.parse_stmt.specs.Phrases.{Phrase, gives, Then, IsName, expression, place}
use Rattle.parse_stmt.specs.Statements.{values, is_alone, call_word}
use Rattle.parse_stmt.specs.Statements as g
use Rattle.parse_stmt.proofs.Smallest.{exact_name}
use Rattle.parse_stmt.proofs.Plain.{bare_is, name_stands, place_of_name}
use Rattle.parse_stmt.proofs.Likes.{any, looks_mark, like_place}
use Rattle.parse_stmt.proofs.Starts.{Reach, over, Starts, starts_more, starts_itself, FirstOf, first_of}
use Rattle.parse_stmt.proofs.Plainly.{Plainly, both_by, plain_valued}
use Rattle.parse_stmt.proofs.Leads.{BeginsValue}
use Rattle.parse_stmt.proofs.Grows.{Begun}
use Rattle.parse_stmt.proofs.GrowParts.{not_marked, value_from, grows_whole, grows_place}
use Rattle.parse_stmt.proofs.GrowSimple.{grows_arguments}

abbrev token_of : Token → List Token → Token
token_of other [] = other
token_of other (t ∷ ts) = t

abbrev rest_in : List Token → List Token
rest_in [] = []
rest_in (t ∷ ts) = ts

not_open : (b : Bool) → (if b then false else true) ≡ true → b ≡ false
not_open true is = cc
not_open false is = refl

module _ (reach : Reach) (deep : ℕ) where
  abbrev most : ℕ
  most = suc deep

  abbrev wide : ℕ
  wide = over reach most

  -- ---- assignments

  abbrev Assigned : Span → Expr → Phrase Stmt
  Assigned at left = Then g.assigns (λ how. Then (expression wide) (λ x. gives (k.Assign at left how.0 how.1 x)))

  abbrev ValuedBegun : Span → List Token → FaultKind → List Token → Type 0
  ValuedBegun at ts kind rest = Begun reach (g.valued wide at) is_alone ts kind rest

  -- a place, and behind it what is assigned
  assigned_begun : (at : Span) (ts : List Token) (left : Expr) (mid : List Token) → place wide ts left mid → (kind : FaultKind) (rest front more : List Token) → mid ≡ front ++ rest
      → ((r : List Token) → (x : Stmt) × Assigned at left ((front ++ more) ++ r) x r) → Starts reach kind rest more → ValuedBegun at ts kind rest
  assigned_begun at ts left mid is kind rest front more same stands starts =
      let u = (like_place wide).within ts left mid is in
      record {
        front = u.front ++ front;
        more = more;
        is = u.is ∙ ap (λ (xs : List Token). u.front ++ xs) same ∙ sym (append_assoc u.front front rest);
        stands = λ r c.
            let x = front ++ more in
            let y = stands r in
            let n = (like_place wide).moves u.front mid (x ++ r) left (subst (λ (xs : List Token). place wide xs left mid) u.is is) (inr refl) in
            let whole : u.front ++ (x ++ r) ≡ ((u.front ++ front) ++ more) ++ r = sym (append_assoc u.front x r) ∙ ap (λ (xs : List Token). xs ++ r) (sym (append_assoc u.front front more)) in
            let stood : place wide (u.front ++ (x ++ r)) left (x ++ r) = subst (λ (l : Expr). place wide (u.front ++ (x ++ r)) l (x ++ r)) (sym n.2) n.1 in
            (y.0, inl (record { given = left; between = x ++ r; front = subst (λ (xs : List Token). place wide xs left (x ++ r)) whole stood; back = y.1 }));
        starts = starts;
      }

  -- `= 0` behind a place
  equal_zero : (at : Span) (left : Expr) (r : List Token) → (x : Stmt) × Assigned at left ((mark_token Equal ∷ a_number ∷ []) ++ r) x r
  unfolding first next
  equal_zero at left r = (
    k.Assign at left _ at_start (e.Number at_start 0),
    record {
      given = (_, at_start);
      between = a_number ∷ r;
      front = record { is = refl; behind = refl };
      back = record { given = e.Number at_start 0; between = r; front = (a_number ∷ [], refl, (1, omega arith, number_is 1 (omega arith))); back = (refl, refl) };
    },
  )

  -- a place that is to be assigned to
  unassigned : (at : Span) (ts : List Token) (left : Expr) (mid : List Token) → place wide ts left mid → ValuedBegun at ts Expected mid
  unassigned at ts left mid is = assigned_begun at ts left mid is Expected mid [] (mark_token Equal ∷ a_number ∷ []) refl (equal_zero at left) tt

  -- behind a mark of an assignment
  how_begun : (at : Span) (left : Expr) (mid : List Token) (how : Assignment × Span) → assignment_at (first mid) ≡ Some how → (kind : FaultKind) (rest : List Token) → Begun reach (expression wide) any (next mid) kind rest
      → (f : List Token) × (m : List Token) × (mid ≡ f ++ rest) × Starts reach kind rest m × ((r : List Token) → (x : Stmt) × Assigned at left ((f ++ m) ++ r) x r)
  unfolding first next
  how_begun at left [] how is kind rest b = let bad : ◌≡◌ {A = Option (Assignment × Span)} None (Some how) = is in cc
  how_begun at left (t ∷ mid) how is kind rest b = (
    t ∷ b.front,
    b.more,
    ap (λ (xs : List Token). t ∷ xs) b.is,
    b.starts,
    λ r. let y = b.stands r refl in (k.Assign at left how.0 how.1 y.0, record { given = how; between = (b.front ++ b.more) ++ r; front = record { is = is; behind = refl }; back = record { given = y.0; between = r; front = y.1; back = (refl, refl) } }),
  )

  assign_fails : (at : Span) (ts : List Token) (left : Expr) (mid : List Token) → place wide ts left mid → (other : Reader Stmt) → Failed (ValuedBegun at ts) (other mid) → (o : Option (Assignment × Span)) → assignment_at (first mid) ≡ o
      → Failed (ValuedBegun at ts) (assign_by most at left other o mid)
  unfolding assign
  assign_fails at ts left mid is other fails None same = fails
  assign_fails at ts left mid is other fails (Some how) same =
      failed_pure (ValuedBegun at ts) (steps.whole most (next mid)) (λ (x : Expr). k.Assign at left how.0 how.1 x)
      (map_failed (Begun reach (expression wide) any (next mid)) (ValuedBegun at ts) (steps.whole most (next mid)) ((grows_whole reach deep).fails (next mid))
      (λ kind rest b. let h = how_begun at left mid how same kind rest b in assigned_begun at ts left mid is kind rest h.0 h.1 h.2 h.4 h.3))

  -- ---- calls without parentheses

  -- arguments that no parenthesis begins
  record ArgumentsBegun (ts : List Token) (kind : FaultKind) (rest : List Token) : Type 0 where
    front : List Token
    more : List Token
    is : ts ≡ front ++ rest
    stands : (r : List Token) → is_alone r ≡ true → (all : List Expr) × values wide ((front ++ more) ++ r) all r
    alone : (r : List Token) → is_alone r ≡ true → is_alone ((front ++ more) ++ r) ≡ true
    starts : Starts reach kind rest more

  alone_first : (a b : List Token) → first a ≡ first b → is_alone a ≡ is_alone b
  unfolding sees
  alone_first a b is = ap (λ (o : Option Token). if holds (is_mark Open) o then false else true) is

  -- the fault stands at the first token
  arguments_first : (ts : List Token) (kind : FaultKind) (rest more : List Token) → ts ≡ rest → ((r : List Token) → any r ≡ true → (all : List Expr) × values wide (more ++ r) all r) → is_alone ts ≡ true → Starts reach kind rest more → FirstOf reach kind rest more → ArgumentsBegun ts kind rest
  unfolding sees first
  arguments_first ts kind rest more is stands alone starts (inl every) = record { front = []; more = []; is = is; stands = λ r c. ([], inr (refl, refl)); alone = λ r c. c; starts = every [] }
  arguments_first ts kind rest more is stands alone starts (inr s) = record {
    front = [];
    more = more;
    is = is;
    stands = λ r c. stands r refl;
    alone = λ r c. ap (λ (xs : List Token). is_alone (xs ++ r)) s.is ∙ ap (λ (b : Bool). if b then false else true) (not_marked Open ts rest s.token is (not_open (sees Open ts) alone) s.such);
    starts = starts;
  }

  arguments_by : (ts : List Token) (kind : FaultKind) (rest front more : List Token) → ts ≡ front ++ rest → ((r : List Token) → any r ≡ true → (all : List Expr) × values wide ((front ++ more) ++ r) all r) → is_alone ts ≡ true → Starts reach kind rest more → ArgumentsBegun ts kind rest
  unfolding first
  arguments_by ts kind rest [] more is stands alone starts = arguments_first ts kind rest more is stands alone starts (first_of reach kind rest more starts)
  arguments_by ts kind rest (t ∷ front) more is stands alone starts = record {
    front = t ∷ front;
    more = more;
    is = is;
    stands = λ r c. stands r refl;
    alone = λ r c. alone_first (t ∷ ((front ++ more) ++ r)) (t ∷ (front ++ rest)) refl ∙ ap is_alone (sym is) ∙ alone;
    starts = starts;
  }

  arguments_fail : (ts : List Token) → is_alone ts ≡ true → Failed (ArgumentsBegun ts) (arguments most ts)
  arguments_fail ts alone = map_failed (Begun reach (values wide) any ts) (ArgumentsBegun ts) (arguments most ts) ((grows_arguments reach deep).fails ts) (λ kind rest b. arguments_by ts kind rest b.front b.more b.is b.stands alone b.starts)

  goes_on_not : (kind : TokenKind) → goes_on kind ≡ false → is_mark Open kind ≡ false
  unfolding same_mark
  goes_on_not (kinds.Mark Open) is = cc
  goes_on_not kind is = refl

  alone_there : (ts : List Token) → holds goes_on (first ts) ≡ false → is_alone ts ≡ true
  unfolding sees first
  alone_there [] is = refl
  alone_there (t ∷ ts) is = rw (goes_on_not t.kind is) refl

  name_begun : (at : Span) (ts : List Token) (n : Name) (mid : List Token) → IsName ts n mid → (kind : FaultKind) (rest : List Token) → ArgumentsBegun mid kind rest → ValuedBegun at ts kind rest
  name_begun at ts n mid is kind rest a = record {
    front = is.token ∷ a.front;
    more = a.more;
    is = is.is ∙ ap (λ (xs : List Token). is.token ∷ xs) a.is;
    stands = λ r c.
        let y = a.stands r c in
        let x = (a.front ++ a.more) ++ r in (
          k.CallName at n y.0,
          inr (inr (record {
            given = n;
            between = x;
            front = (record { token = is.token; text = is.text; is = refl; kind = is.kind; named = is.named }, a.alone r c);
            back = record { given = y.0; between = r; front = y.1; back = (refl, refl) };
          })),
        );
    starts = a.starts;
  }

  named_fails : (at : Span) (ts : List Token) (n : Name) (mid : List Token) → IsName ts n mid → holds goes_on (first mid) ≡ false → Failed (ValuedBegun at ts) (named most at n mid)
  unfolding named call_name
  named_fails at ts n mid is off =
      assign_fails at ts (e.Name n.at n.text) mid (place_of_name (over reach deep) ts n mid is) (call_name most at n)
      (failed_pure (ValuedBegun at ts) (arguments most mid) (λ (all : List Expr). k.CallName at n all)
      (map_failed (ArgumentsBegun mid) (ValuedBegun at ts) (arguments most mid) (arguments_fail mid (alone_there mid off)) (name_begun at ts n mid is)))
      (assignment_at (first mid)) refl

  headed_fails : (at : Span) (ts : List Token) (x : Expr) (mid : List Token) → place wide ts x mid → (b : Bool) → Failed (ValuedBegun at ts) ((if b then may_assign most at x else must_assign most at x) mid)
  unfolding may_assign must_assign
  headed_fails at ts x mid is true = assign_fails at ts x mid is (pure (k.Call at x)) tt (assignment_at (first mid)) refl
  headed_fails at ts x mid is false = assign_fails at ts x mid is (stop Expected) (unassigned at ts x mid is) (assignment_at (first mid)) refl

  place_begun : (at : Span) (ts : List Token) (kind : FaultKind) (rest : List Token) → Begun reach (place wide) any ts kind rest → ValuedBegun at ts kind rest
  place_begun at ts kind rest b = record {
    front = b.front;
    more = b.more ++ (mark_token Equal ∷ a_number ∷ []);
    is = b.is;
    stands = λ r c.
        let z = (mark_token Equal ∷ a_number ∷ []) ++ r in
        let y = b.stands z refl in
        let a = equal_zero at y.0 r in
        let whole : (b.front ++ b.more) ++ z ≡ (b.front ++ (b.more ++ (mark_token Equal ∷ a_number ∷ []))) ++ r =
        sym (append_assoc (b.front ++ b.more) (mark_token Equal ∷ a_number ∷ []) r) ∙ ap (λ (xs : List Token). xs ++ r) (append_assoc b.front b.more (mark_token Equal ∷ a_number ∷ [])) in
        (a.0, inl (record { given = y.0; between = z; front = subst (λ (xs : List Token). place wide xs y.0 z) whole y.1; back = a.1 }));
    starts = starts_more reach kind rest b.more (mark_token Equal ∷ a_number ∷ []) b.starts;
  }

  pub valued_fails : (at : Span) (ts : List Token) → Failed (ValuedBegun at ts) (valued most at ts)
  unfolding valued headed
  valued_fails at ts =
      by_test (λ (o : Outcome Stmt). Failed (ValuedBegun at ts) o) (sees_bare ts) _ _
      (λ is. let b = bare_is ts is in let n = name_stands ts b.0 in
      subst (λ (o : Outcome Name). Failed (ValuedBegun at ts) (and_then o (named most at))) (sym (exact_name.finds ts n.0 (next ts) n.1 refl)) (named_fails at ts n.0 (next ts) n.1 b.1))
      (λ is. failed_then (place wide ts) (ValuedBegun at ts) (steps.place most ts) (headed most at) ((grows_place reach deep).sound ts)
      (map_failed (Begun reach (place wide) any ts) (ValuedBegun at ts) (steps.place most ts) ((grows_place reach deep).fails ts) (place_begun at ts))
      (λ x mid s. headed_fails at ts x mid s (is_call x)))

  -- an assignment from its first token on
  pub valued_least : (at : Span) (t : Token) → BeginsValue t → 2 ≤ wide → (m : List Token) × ((r : List Token) → (x : Stmt) × g.valued wide at ((t ∷ m) ++ r) x r)
  unfolding sees first
  valued_least at t b two =
      let v = value_from 14 (omega arith) (t ∷ []) b.begins_it in
      let small = v.within in
      let tail = mark_token Equal ∷ a_number ∷ [] in
      let head : v.token ≡ t = ap (token_of t) (sym v.is) in (
        v.more ++ tail,
        λ r.
            let a = equal_zero at v.tree r in
            let x = tail ++ r in
            let same : (t ∷ v.more) ++ x ≡ (t ∷ (v.more ++ tail)) ++ r = ap (λ (xs : List Token). t ∷ xs) (sym (append_assoc v.more tail r)) in
            let are = subst (λ (u : Token). Is (Expression 14 v.depth v.tree) (u ∷ v.more)) head v.are in
            let left : place wide ((t ∷ v.more) ++ x) v.tree x = (t ∷ v.more, v.depth, refl, omega arith, are, b.no_at, b.no_minus) in
            (a.0, inl (record { given = v.tree; between = x; front = subst (λ (xs : List Token). place wide xs v.tree x) same left; back = a.1 })),
      )

  -- ---- a word that is called

  abbrev CallBegun : Span → CallWord → List Token → FaultKind → List Token → Type 0
  CallBegun at which ts kind rest = Begun reach (call_word wide at which) is_alone ts kind rest

  no_prefix : (word : Word) (which : CallWord) → operand_word word ≡ operands.Call which → prefix_of (kinds.Word word) ≡ None
  no_prefix w.KwNot which is = cc
  no_prefix word which is = refl

  call_is_call : (at : Span) (which : CallWord) → is_call (e.CallWord at which []) ≡ true
  unfolding out-Expr denote.Hole.Carrier.out
  call_is_call at which = refl

  -- the word and empty parentheses
  pub shut_call : (at : Span) (t : Token) (word : Word) (which : CallWord) (o : Token) → t.kind ≡ kinds.Word word → operand_word word ≡ operands.Call which → o.kind ≡ kinds.Mark Open → (r : List Token) → (x : Stmt) × call_word wide at which (t ∷ o ∷ mark_token Close ∷ r) x r
  unfolding sees first next same_mark
  shut_call at t word which o kind is open_ r =
      let tree = e.CallWord t.at which [] in
      let behind_series = λ (all : List Expr). gives_series (e.CallWord t.at which all) in
      let it : Is (Expression 14 1 tree) (t ∷ o ∷ mark_token Close ∷ []) =
      a_primary t (call_word_production t.at which) (o ∷ mark_token Close ∷ []) 14 1 tree (ap prefix_of kind ∙ no_prefix word which is) (rw (kind, is) refl) (omega arith)
      (a_mark o (mark_token Close ∷ []) Open _ 0 1 tree open_ (no_arguments (mark_token Close) [] behind_series 0 1 tree refl (nothing_behind 0 tree))) in (
        k.Call at tree,
        inl (
          ap (is_mark Open) open_,
          inr (inl (record {
            given = tree;
            between = r;
            front = (t ∷ o ∷ mark_token Close ∷ [], 1, refl, omega arith, it, ap (is_mark At) kind, ap (is_mark Minus) kind);
            back = record { given = tree; between = r; front = (call_is_call t.at which, refl, refl); back = (refl, refl) };
          })),
        ),
      )

  call_plain : (t : Token) (word : Word) (which : CallWord) → t.kind ≡ kinds.Word word → operand_word word ≡ operands.Call which → is_refused_kind t.kind ≡ true → ⊥
  call_plain t word which kind is refused =
      let none = (nowhere t.kind refused).start t.at in
      let bad : word_start t.at (operands.Call which) ≡ Nothing = ap (word_start t.at) (sym is) ∙ ap (start_of t.at) (sym kind) ∙ none in
      cc

  open_plain : (o : Token) → o.kind ≡ kinds.Mark Open → is_refused_kind o.kind ≡ true → ⊥
  open_plain o kind refused = let bad : false ≡ true = sym (ap is_refused_kind kind) ∙ refused in cc

  open_begun : (at : Span) (t : Token) (word : Word) (which : CallWord) → t.kind ≡ kinds.Word word → operand_word word ≡ operands.Call which → (ts : List Token) → sees Open ts ≡ true
      → (kind : FaultKind) (rest front more : List Token) → t ∷ ts ≡ front ++ rest → ((r : List Token) → is_alone r ≡ true → (x : Stmt) × g.valued wide at ((front ++ more) ++ r) x r) → Starts reach kind rest more → Plainly kind rest → CallBegun at which (t ∷ ts) kind rest
  unfolding next
  open_begun at t word which kind is ts open_ fault rest [] more same stands starts plainly = record {
    front = [];
    more = t ∷ mark_token Open ∷ mark_token Close ∷ [];
    is = same;
    stands = λ r c. shut_call at t word which (mark_token Open) kind is refl r;
    starts = starts_itself reach fault rest more starts plainly t ts (sym same) (call_plain t word which kind is) (mark_token Open ∷ mark_token Close ∷ []);
  }
  open_begun at t word which kind is ts open_ fault rest (u ∷ []) more same stands starts plainly =
      let head : t ≡ u = ap (token_of t) same in
      let o = seen Open ts open_ in
      let tail : ts ≡ rest = ap rest_in same in
      record {
        front = u ∷ [];
        more = o.token ∷ mark_token Close ∷ [];
        is = same;
        stands = λ r c. shut_call at u word which o.token (ap (λ (y : Token). y.kind) (sym head) ∙ kind) is o.kind r;
        starts = starts_itself reach fault rest more starts plainly o.token (next ts) (sym tail ∙ o.is) (open_plain o.token o.kind) (mark_token Close ∷ []);
      }
  open_begun at t word which kind is ts open_ fault rest (u ∷ x ∷ front) more same stands starts plainly = record {
    front = u ∷ x ∷ front;
    more = more;
    is = same;
    stands = λ r c.
        let y = stands r c in
        let tail : ts ≡ x ∷ (front ++ rest) = ap rest_in same in
        let is_open : sees Open (x ∷ ((front ++ more) ++ r)) ≡ true = (looks_mark Open).alone x ((front ++ more) ++ r) (front ++ rest) ∙ ap (sees Open) (sym tail) ∙ open_ in
        (y.0, inl (is_open, y.1));
    starts = starts;
  }

  closed_begun : (at : Span) (t : Token) (which : CallWord) (ts : List Token) → (kind : FaultKind) (rest : List Token) → ArgumentsBegun ts kind rest → CallBegun at which (t ∷ ts) kind rest
  unfolding next
  closed_begun at t which ts kind rest a = record {
    front = t ∷ a.front;
    more = a.more;
    is = ap (λ (xs : List Token). t ∷ xs) a.is;
    stands = λ r c.
        let y = a.stands r c in
        let x = (a.front ++ a.more) ++ r in
        (k.CallWord at which y.0, inr (not_open (sees Open x) (a.alone r c), record { given = tt; between = x; front = refl; back = record { given = y.0; between = r; front = y.1; back = (refl, refl) } }));
    starts = a.starts;
  }

  pub called_fails : (at : Span) (t : Token) (word : Word) (which : CallWord) → t.kind ≡ kinds.Word word → operand_word word ≡ operands.Call which → (ts : List Token) → Failed (CallBegun at which (t ∷ ts)) (called most at which (t ∷ ts))
  unfolding called next
  called_fails at t word which kind is ts =
      by_test (λ (o : Outcome Stmt). Failed (CallBegun at which (t ∷ ts)) o) (sees Open ts) _ _
      (λ open_. map_failed (λ fault rest. ValuedBegun at (t ∷ ts) fault rest × Plainly fault rest) (CallBegun at which (t ∷ ts)) (valued most at (t ∷ ts)) (both_by (ValuedBegun at (t ∷ ts)) Plainly (valued most at (t ∷ ts)) (valued_fails at (t ∷ ts)) (plain_valued deep at (t ∷ ts)))
      (λ fault rest b. open_begun at t word which kind is ts open_ fault rest b.0.front b.0.more b.0.is b.0.stands b.0.starts b.1))
      (λ shut. failed_pure (CallBegun at which (t ∷ ts)) (arguments most ts) (λ (all : List Expr). k.CallWord at which all)
      (map_failed (ArgumentsBegun ts) (CallBegun at which (t ∷ ts)) (arguments most ts) (arguments_fail ts (rw shut refl)) (closed_begun at t which ts)))
