-- Two readings of statements without statements inside, of tokens that are alike up to a place and at it.
use Rattle.std.proofs.Common.{◌≡◌, ◌≤◌, ℕ, suc, Bool, true, false, if◌then◌else◌, List, [], ◌∷◌, Option, Some, None, Ok, Err, refl, sym, ap, ◌∙◌, subst, ◌⊎◌, inl, inr, arith, append-nil}
use Rattle.fb_base.specs.declared.fault.Span.{Span}
use Rattle.fb_base.specs.declared.fault.FaultKind.{FaultKind}
use Rattle.fb_base.specs.declared.fault.FaultKind.TheVariants.{Expected, DeepNesting, OutOfProfile}
use Rattle.fb_lexer.specs.declared.token.Token.{Token}
use Rattle.fb_lexer.specs.declared.token.TokenKind.{TokenKind}
use Rattle.fb_lexer.specs.declared.token.TokenKind.TheVariants as kinds
use Rattle.fb_lexer.specs.declared.token.Mark.{Mark}
use Rattle.fb_lexer.specs.declared.token.Mark.TheVariants.{At, Minus, Equal, Open, Close, OpenBracket, CloseBracket, Dot, Arrow}
use Rattle.fb_lexer.specs.declared.word.Word.{Word}
use Rattle.fb_lexer.specs.declared.word.Word.TheVariants as w
use Rattle.fb_ast.specs.declared.expr.Expr.{Expr}
use Rattle.fb_ast.specs.declared.expr.Expr.TheVariants as e
use Rattle.fb_ast.specs.declared.operator.Assignment.{Assignment}
use Rattle.fb_ast.specs.declared.operator.CallWord.{CallWord}
use Rattle.fb_ast.specs.declared.part.Bounds.{Bounds}
use Rattle.fb_ast.specs.declared.part.Name.{Name}
use Rattle.fb_ast.specs.declared.stmt.Stmt.{Stmt}
use Rattle.fb_ast.specs.declared.stmt.Stmt.TheVariants as k
use Rattle.fb_ast.specs.declared.stmt.Storage.{Storage}
use Rattle.fb_ast.specs.declared.stmt.Storage.TheVariants as storage
use Rattle.parse_expr.specs.declared.kinds.OperandWord.TheVariants as operands
use Rattle.parse_expr.specs.declared.kinds.Suffix.{Suffix}
use Rattle.parse_expr.specs.declared.kinds.Suffix.TheVariants as suffixes
use Rattle.parse_expr.specs.declared.error.ReadErr.TheVariants as read_errs
use Rattle.parse_expr.specs.Words.{operand_word, prefix_of, suffix_of}
use Rattle.parse_expr.specs.Reading.{first, next, is_mark, holds, sees, refusal, refusal_by, refusal_at, Outcome, Reader, and_then, pure, stop, take_token}
use Rattle.parse_expr.specs.Types.{type_name, name, name_by}
use Rattle.parse_expr.specs.Productions.{gives as gives_series, arguments as arguments_production, call_word_production, Leaf, start_of, word_start}
use Rattle.parse_expr.specs.Expr.{Measured, expr, begins}
use Rattle.parse_expr.specs.Grammar.{Is, Expression, primary as a_primary, nothing as nothing_behind, a_mark, no_arguments}
use Rattle.parse_expr.proofs.Sound.{Done, map_done}
use Rattle.parse_expr.proofs.Ends.{Suffixes, same_end, Leaves}
use Rattle.parse_expr.proofs.Refused.{nowhere}
use Rattle.parse_expr.proofs.Firsts.{none_alike}
use Rattle.parse_expr.proofs.Completed.{mark_token}
use Rattle.parse_expr.proofs.Twins.{Rooms, here, there, Loose, Gone, Near, ErrAt, twins, twin_name, twin_type, twin_test, gone_then, gone_if, past, eaten, not_begun, begun_gone, suffix_gone, open_gone, leaf_gone}
use Rattle.parse_parts.specs.Steps.{whole, place, pass_by, no_value, sees_value, any_value, value_behind, initial, is_name, sees_name, any_name, any_type, comma_behind}
use Rattle.parse_parts.specs.Variables.{bounds_from, bounds, any_bounds, var_behind, var, var_turn, vars, listed, listed_turn, all_listed, dim_as, dim_vars, dim_behind, may_share, dim_by, dim, static_, constant}
use Rattle.parse_parts.specs.Simple.{with_place, assignment_at, assign, assign_by, must_assign, may_assign, value_turn, values, arguments, call_name, named, is_call, headed, goes_on, sees_bare, valued, sees_open_behind, called, result_, line_input, exit_at, exit_by, exit, continue_at, continue_by, continue_, return_, brackets, delete, end_}
use Rattle.parse_parts.specs.declared.kinds.Level.{Level}
use Rattle.parse_parts.specs.Words.{assignment_of, exit_of, continue_of}
use Rattle.parse_stmt.specs.Phrases.{Phrase}
use Rattle.parse_stmt.proofs.Exact.{Follow, Exact}
use Rattle.parse_stmt.proofs.Smallest.{exact_name, exact_whole, place_read}
use Rattle.parse_stmt.proofs.Dims.{var_exact, shared_var_exact}
use Rattle.parse_stmt.proofs.Plain.{name_kind}
use Rattle.parse_stmt.proofs.Odd.{is_odd_word, by_end, fails_by, end_empty, other_mark, refused_mark, refused_value, Ends, Refused, Ended, Odd, Stand}
use Rattle.parse_stmt.proofs.Alike.{at_place, Both, T, Eats, SameNext, Over, next_same, followed, made, given, took, behind, stopped, seen, tested_alone, chosen, err_then, twin_mark, twin_word, twin_expect, twin_expect_word, twin_comma, twin_list, all_gone}

-- a reader that reads a phrase leaves an end of its tokens
pub exact_leaves : {A : Type 0} {p : Reader A} {P : Phrase A} {F : Follow} → Exact p P F → (ts : List Token) → Done (λ (a : A) rest. Suffixes rest ts) (p ts)
exact_leaves {A = A} {p = p} {P = P} x ts = map_done (P ts) (λ (a : A) rest. Suffixes rest ts) (p ts) (x.sound ts) (λ a rest r. x.within ts a rest r)

abbrev pub rest_of : {A : Type 0} → Outcome A → List Token
rest_of (Ok p) = p.1
rest_of (Err p) = p.1

abbrev pub token_or : Token → Option Token → Token
token_or other None = other
token_or other (Some x) = x

pub any_done : {A : Type 0} (o : Outcome A) → Done (λ (a : A) rest. Unit {0}) o
any_done (Ok p) = tt
any_done (Err p) = tt

-- ---- a look at two tokens

module _ (L : FaultKind → Type 0) (t : Token) (s v : List Token) (stand : Stand L t v) where
  pair_by : {A : Type 0} (b c : Bool) (p q p' q' : Reader A) (ts us : List Token) → Both L t s v stand ts us → T L t s v stand p p' → T L t s v stand q q' → c ≡ b
      → Near L t s v (at_place L t s v stand) (if b then p ts else q ts) (if c then p' us else q' us)
  pair_by true c p q p' q' ts us al g h is = rw is (g.near ts us al)
  pair_by false c p q p' q' ts us al g h is = rw is (h.near ts us al)

  leaves_if : {A : Type 0} (b : Bool) (p q : Reader A) (ts : List Token) → Leaves ts (p ts) → Leaves ts (q ts) → Leaves ts (if b then p ts else q ts)
  leaves_if true p q ts g h = g
  leaves_if false p q ts g h = h

  module _ {A : Type 0} (test : Option Token → Option Token → Bool) (p q p' q' : Reader A) (g : T L t s v stand p p') (h : T L t s v stand q q')
      (at_it : Gone L t s v (at_place L t s v stand) (if test (Some t) (first s) then p (t ∷ s) else q (t ∷ s)) ⊎ ((o : Option Token) → test (Some t) o ≡ false))
      (odd_first : (odd : Odd L t v) (o : Option Token) → test (Some odd.u) o ≡ false)
      (second : (x : Token) (a b : List Token) → Both L t s v stand a b → (test (Some x) (first b) ≡ test (Some x) (first a)) ⊎ Gone L t s v (at_place L t s v stand) (if test (Some x) (first a) then p (x ∷ a) else q (x ∷ a))) where
    first_test : Stand L t v → (o : Option Token) → ((o : Option Token) → test (Some t) o ≡ false) → test (first v) o ≡ false
    first_test (inl same) o alone = ap (λ (x : Option Token). test x o) same ∙ alone o
    first_test (inr odd) o alone = ap (λ (x : Option Token). test x o) odd.is ∙ odd_first odd o

    pair_here : Gone L t s v (at_place L t s v stand) (if test (Some t) (first s) then p (t ∷ s) else q (t ∷ s)) ⊎ ((o : Option Token) → test (Some t) o ≡ false)
        → Near L t s v (at_place L t s v stand) (if test (Some t) (first s) then p (t ∷ s) else q (t ∷ s)) (if test (first v) (first (next v)) then p' v else q' v)
    pair_here (inl gone) = inl gone
    pair_here (inr alone) = pair_by (test (Some t) (first s)) (test (first v) (first (next v))) p q p' q' (t ∷ s) v here g h (first_test stand (first (next v)) alone ∙ sym (alone (first s)))

    pair_there : (x : Token) (a b : List Token) → Both L t s v stand a b → (test (Some x) (first b) ≡ test (Some x) (first a)) ⊎ Gone L t s v (at_place L t s v stand) (if test (Some x) (first a) then p (x ∷ a) else q (x ∷ a))
        → Near L t s v (at_place L t s v stand) (if test (Some x) (first a) then p (x ∷ a) else q (x ∷ a)) (if test (Some x) (first b) then p' (x ∷ b) else q' (x ∷ b))
    pair_there x a b al (inl is) = pair_by (test (Some x) (first a)) (test (Some x) (first b)) p q p' q' (x ∷ a) (x ∷ b) (there x a b al) g h is
    pair_there x a b al (inr gone) = inl gone

    pair_alike : (ts us : List Token) → Both L t s v stand ts us → Near L t s v (at_place L t s v stand) (if test (first ts) (first (next ts)) then p ts else q ts) (if test (first us) (first (next us)) then p' us else q' us)
    unfolding first next
    pair_alike ts us here = pair_here at_it
    pair_alike ts us (there x a b al) = pair_there x a b al (second x a b al)

    pub seen_two : T L t s v stand (λ ts. if test (first ts) (first (next ts)) then p ts else q ts) (λ ts. if test (first ts) (first (next ts)) then p' ts else q' ts)
    seen_two = record { leaves = λ ts. leaves_if (test (first ts) (first (next ts))) p q ts (g.leaves ts) (h.leaves ts); near = pair_alike }

-- ---- expressions

module _ (L : FaultKind → Type 0) (t : Token) (s v : List Token) (stand : Stand L t v) (deep deeper : ℕ) (rooms : Rooms L (suc deep) (suc deeper)) where
  pub twin_whole : T L t s v stand (whole (suc deep)) (whole (suc deeper))
  unfolding whole
  twin_whole = followed L t s v stand (twins L t s v (at_place L t s v stand) (suc deep) (suc deeper) rooms 1) (λ x. given L t s v stand x.0)

  -- ---- expressions that begin at the place

  expr_leaves : (least : ℕ) (ts : List Token) → Leaves ts (expr (suc deep) least ts)
  expr_leaves least ts = (twins L t s v (at_place L t s v stand) (suc deep) (suc deeper) rooms least).leaves ts

  pub whole_gone : L DeepNesting → begins 1 (Some t) ≡ true → Gone L t s v (at_place L t s v stand) (whole (suc deep) (t ∷ s))
  unfolding whole
  whole_gone loose is = gone_then L t s v (at_place L t s v stand) (expr (suc deep) 1 (t ∷ s)) (λ x ts. Ok (x.0, ts)) (begun_gone L t s v (at_place L t s v stand) (suc deep) 1 is loose) (λ x rest. same_end rest)

  ended_by : (which : Mark) → is_mark which t.kind ≡ true → (u : Token) → Refused L t u ⊎ Ended L u → Ended L u
  ended_by which is u (inl r) = let bad : true ≡ false = sym is ∙ refused_mark which t.kind r.word in cc
  ended_by which is u (inr e) = e

  -- where an end stands no expression begins
  no_expr : (u : Token) → first v ≡ Some u → Ended L u → ErrAt (and_then (expr (suc deeper) 14 v) (λ x ts. Ok (x.0, ts))) v
  no_expr u is e = err_then L t s v stand (expr (suc deeper) 14 v) (λ x ts. Ok (x.0, ts)) (not_begun L t s v (at_place L t s v stand) deeper 14 v (ap (begins 14) is ∙ (end_empty u e.end).no_begin 14))

  no_minus : (u : Token) → first v ≡ Some u → Ended L u → ErrAt (if sees Minus v then Err (read_errs.Fault Expected, v) else and_then (expr (suc deeper) 14 v) (λ x ts. Ok (x.0, ts))) v
  unfolding sees
  no_minus u is e = rw (is, by_end (is_mark Minus) false refl refl u.kind e.end) (no_expr u is e)

  both_stop : {A : Type 0} (other : Outcome A) → ErrAt other v → Near L t s v (at_place L t s v stand) (Err (read_errs.Fault Expected, t ∷ s)) other
  both_stop other e = inr (e.stop, v, e.is, here)

  mark_alone : {A : Type 0} (which : Mark) {p q p' q' : Reader A} → (Odd L t v → is_mark which t.kind ≡ true → Near L t s v (at_place L t s v stand) (p (t ∷ s)) (q' v)) → T L t s v stand p p' → T L t s v stand q q'
      → T L t s v stand (λ ts. if sees which ts then p ts else q ts) (λ ts. if sees which ts then p' ts else q' ts)
  unfolding sees
  mark_alone which at g h = tested_alone L t s v stand (is_mark which) (λ odd. other_mark which odd) at g h

  pub twin_place : T L t s v stand (place (suc deep)) (place (suc deeper))
  unfolding place
  twin_place = mark_alone At (λ odd is. both_stop _ (no_minus odd.u odd.is (ended_by At is odd.u odd.why))) (stopped L t s v stand (λ ts. read_errs.Fault Expected) (λ ts. read_errs.Fault Expected))
      (mark_alone Minus (λ odd is. both_stop _ (no_expr odd.u odd.is (ended_by Minus is odd.u odd.why))) (stopped L t s v stand (λ ts. read_errs.Fault Expected) (λ ts. read_errs.Fault Expected))
      (followed L t s v stand (twins L t s v (at_place L t s v stand) (suc deep) (suc deeper) rooms 14) (λ x. given L t s v stand x.0)))

  twin_pass_by : (kind : FaultKind) → T L t s v stand (pass_by kind) (pass_by kind)
  twin_pass_by OutOfProfile = stopped L t s v stand (λ ts. read_errs.Fault OutOfProfile) (λ ts. read_errs.Fault OutOfProfile)
  twin_pass_by kind = given L t s v stand tt

  pass_ended : Ends L → (kind : FaultKind) → Near L t s v (at_place L t s v stand) (pass_by kind (t ∷ s)) (Ok (tt, v))
  pass_ended ends OutOfProfile = inl (inr ends.out)
  pass_ended ends kind = inr (v, refl, here)

  pass_near : (u : Token) → Refused L t u ⊎ Ended L u → Near L t s v (at_place L t s v stand) (pass_by (refusal_by t.kind) (t ∷ s)) (pass_by (refusal_by u.kind) v)
  pass_near u (inl r) = rw (nowhere t.kind r.word).refusal (inl (inr r.out))
  pass_near u (inr e) = rw (by_end refusal_by Expected refl refl u.kind e.end) (pass_ended e.ends (refusal_by t.kind))

  pub twin_no_value : T L t s v stand no_value no_value
  unfolding no_value refusal
  twin_no_value = seen L t s v stand (λ o. pass_by (refusal_at o)) (λ o. pass_by (refusal_at o)) (λ o. twin_pass_by (refusal_at o)) (λ odd. pass_near odd.u odd.why)

  no_value_gone : (u : Token) → Refused L t u → Gone L t s v (at_place L t s v stand) (no_value (t ∷ s))
  unfolding no_value refusal first
  no_value_gone u r = rw (nowhere t.kind r.word).refusal (inr r.out)

  -- where no value comes next a word that this profile doesn't have is refused
  pub none_gone : {A : Type 0} (f : Unit {0} → Reader A) → ((u : Unit {0}) (rest : List Token) → Leaves rest (f u rest)) → (u : Token) → Refused L t u → Gone L t s v (at_place L t s v stand) (and_then (no_value (t ∷ s)) f)
  none_gone f l u r = gone_then L t s v (at_place L t s v stand) (no_value (t ∷ s)) f (no_value_gone u r) l

  value_by : {A : Type 0} (b c : Bool) (p q p' q' : Reader A) → c ≡ false → (b ≡ true → Gone L t s v (at_place L t s v stand) (p (t ∷ s))) → T L t s v stand q q' → Near L t s v (at_place L t s v stand) (if b then p (t ∷ s) else q (t ∷ s)) (if c then p' v else q' v)
  value_by true c p q p' q' is gone h = inl (gone refl)
  value_by false c p q p' q' is gone h = rw is (h.near (t ∷ s) v here)

  value_near : {A : Type 0} (p q p' q' : Reader A) → T L t s v stand q q' → (L DeepNesting → begins 1 (Some t) ≡ true → Gone L t s v (at_place L t s v stand) (p (t ∷ s))) → ((u : Token) → Refused L t u → Gone L t s v (at_place L t s v stand) (q (t ∷ s)))
      → (u : Token) → Refused L t u ⊎ Ended L u → Near L t s v (at_place L t s v stand) (if begins 1 (Some t) then p (t ∷ s) else q (t ∷ s)) (if begins 1 (Some u) then p' v else q' v)
  value_near p q p' q' h gone none u (inl r) = rw (refused_value t r.word) (inl (none u r))
  value_near p q p' q' h gone none u (inr e) = value_by (begins 1 (Some t)) (begins 1 (Some u)) p q p' q' ((end_empty u e.end).no_begin 1) (gone e.ends.deep) h

  pub twin_value : {A : Type 0} {p q p' q' : Reader A} → T L t s v stand p p' → T L t s v stand q q' → (L DeepNesting → begins 1 (Some t) ≡ true → Gone L t s v (at_place L t s v stand) (p (t ∷ s))) → ((u : Token) → Refused L t u → Gone L t s v (at_place L t s v stand) (q (t ∷ s)))
      → T L t s v stand (λ ts. if sees_value ts then p ts else q ts) (λ ts. if sees_value ts then p' ts else q' ts)
  unfolding sees_value
  twin_value {p = p} {q = q} {p' = p'} {q' = q'} g h gone none =
      seen L t s v stand (λ o ts. if begins 1 o then p ts else q ts) (λ o ts. if begins 1 o then p' ts else q' ts) (λ o. twin_test L t s v (at_place L t s v stand) (begins 1 o) p q p' q' g h)
      (λ odd. value_near p q p' q' h gone none odd.u odd.why)

  pub twin_any_value : T L t s v stand (any_value (suc deep)) (any_value (suc deeper))
  unfolding any_value
  twin_any_value = twin_value (made L t s v stand (λ (x : Expr). Some x) twin_whole) (followed L t s v stand twin_no_value (λ u. given L t s v stand None))
      (λ loose is. gone_then L t s v (at_place L t s v stand) (whole (suc deep) (t ∷ s)) (λ x. pure (Some x)) (whole_gone loose is) (λ x rest. same_end rest)) (none_gone (λ u. pure None) (λ u rest. same_end rest))

  pub twin_value_behind : (which : Word) → is_odd_word which ≡ false → T L t s v stand (value_behind (suc deep) which) (value_behind (suc deeper) which)
  unfolding value_behind
  twin_value_behind which plain = twin_word L t s v stand which plain (behind L t s v stand (made L t s v stand (λ (x : Expr). Some x) twin_whole)) (given L t s v stand None)

  pub twin_initial : T L t s v stand (initial (suc deep)) (initial (suc deeper))
  unfolding initial
  twin_initial = twin_mark L t s v stand Equal (behind L t s v stand (made L t s v stand (λ (x : Expr). Some x) twin_whole)) (given L t s v stand None)

  -- ---- names and types

  pub twin_a_name : T L t s v stand name name
  twin_a_name = twin_name L t s v (at_place L t s v stand)

  pub twin_a_type : T L t s v stand type_name type_name
  twin_a_type = twin_type L t s v (at_place L t s v stand)

  name_by_taken : (at : Span) (kind : TokenKind) → is_name kind ≡ true → Gone L t s v (at_place L t s v stand) (name_by at kind (t ∷ s))
  unfolding next
  name_by_taken at (kinds.Name text) is = omega arith
  name_by_taken at kind is = cc

  pub name_taken : is_name t.kind ≡ true → Gone L t s v (at_place L t s v stand) (name (t ∷ s))
  unfolding name first
  name_taken is = name_by_taken t.at t.kind is

  -- a name is taken by what is read where one comes next
  pub twin_at_name : {A : Type 0} {p q p' q' : Reader A} → T L t s v stand p p' → T L t s v stand q q' → (is_name t.kind ≡ true → Gone L t s v (at_place L t s v stand) (p (t ∷ s))) → T L t s v stand (λ ts. if sees_name ts then p ts else q ts) (λ ts. if sees_name ts then p' ts else q' ts)
  unfolding sees_name
  twin_at_name g h gone = tested_alone L t s v stand is_name (λ odd. fails_by is_name false (λ n. refl) refl refl refl refl refl odd.u odd.why) (λ odd is. inl (gone is)) g h

  pub twin_any_name : T L t s v stand any_name any_name
  unfolding any_name
  twin_any_name = twin_at_name (made L t s v stand (λ (n : Name). Some n) twin_a_name) (given L t s v stand None) (λ is. gone_then L t s v (at_place L t s v stand) (name (t ∷ s)) (λ n. pure (Some n)) (name_taken is) (λ n rest. same_end rest))

  pub twin_any_type : T L t s v stand any_type any_type
  unfolding any_type
  twin_any_type = twin_word L t s v stand w.KwAs refl (behind L t s v stand (made L t s v stand (λ x. Some x) twin_a_type)) (given L t s v stand None)

  -- ---- variables

  twin_bounds_from : (one : Expr) → T L t s v stand (bounds_from (suc deep) one) (bounds_from (suc deeper) one)
  unfolding bounds_from
  twin_bounds_from one = twin_word L t s v stand w.KwTo refl (behind L t s v stand (made L t s v stand (λ (high : Expr). record { low = Some one; high = high }) twin_whole)) (given L t s v stand (record { low = None; high = one }))

  twin_bounds : T L t s v stand (bounds (suc deep)) (bounds (suc deeper))
  unfolding bounds
  twin_bounds = followed L t s v stand twin_whole (λ one. followed L t s v stand (twin_bounds_from one) (λ all. followed L t s v stand (twin_expect L t s v stand Close) (λ u. given L t s v stand all)))

  pub twin_any_bounds : T L t s v stand (any_bounds (suc deep)) (any_bounds (suc deeper))
  unfolding any_bounds
  twin_any_bounds = twin_mark L t s v stand Open (behind L t s v stand (made L t s v stand (λ (b : Bounds). Some b) twin_bounds)) (given L t s v stand None)

  twin_var : T L t s v stand (var (suc deep)) (var (suc deeper))
  unfolding var var_behind
  twin_var = followed L t s v stand twin_a_name (λ n. followed L t s v stand twin_any_bounds (λ b. followed L t s v stand (twin_expect_word L t s v stand w.KwAs refl) (λ u. followed L t s v stand twin_a_type (λ ty. made L t s v stand (λ init. record { name = n; bounds = b; ty = ty; init = init }) twin_initial))))

  twin_vars : T L t s v stand (vars (suc deep)) (vars (suc deeper))
  unfolding vars var_turn
  twin_vars = twin_list L t s v stand (var (suc deep)) (var (suc deeper)) twin_var (exact_leaves (var_exact deep)) (exact_leaves (var_exact deeper))

  twin_listed : T L t s v stand (listed (suc deep)) (listed (suc deeper))
  unfolding listed
  twin_listed = followed L t s v stand twin_a_name (λ n. followed L t s v stand twin_any_bounds (λ b. made L t s v stand (λ init. record { name = n; bounds = b; init = init }) twin_initial))

  twin_all_listed : T L t s v stand (all_listed (suc deep)) (all_listed (suc deeper))
  unfolding all_listed listed_turn
  twin_all_listed = twin_list L t s v stand (listed (suc deep)) (listed (suc deeper)) twin_listed (exact_leaves (shared_var_exact deep)) (exact_leaves (shared_var_exact deeper))

  twin_dim_behind : (at : Span) (where_ : Storage) → T L t s v stand (dim_behind (suc deep) at where_) (dim_behind (suc deeper) at where_)
  unfolding dim_behind dim_as dim_vars
  twin_dim_behind at where_ = twin_word L t s v stand w.KwAs refl (behind L t s v stand (followed L t s v stand twin_a_type (λ ty. made L t s v stand (λ all. k.DimAs at where_ ty all) twin_all_listed))) (made L t s v stand (λ all. k.Dim at where_ all) twin_vars)

  twin_dim_by : (b : Bool) (at : Span) → T L t s v stand (dim_by (suc deep) b at) (dim_by (suc deeper) b at)
  twin_dim_by true at = twin_word L t s v stand w.KwShared refl (behind L t s v stand (twin_dim_behind at storage.Shared)) (twin_dim_behind at storage.Scope)
  twin_dim_by false at = twin_dim_behind at storage.Scope

  -- the first token, and then
  pub twin_taking : {A : Type 0} {p q : Reader A} → T L t s v stand p q → Eats L t s v stand (λ ts. and_then (take_token ts) (λ u. p)) (λ ts. and_then (take_token ts) (λ u. q))
  twin_taking h = behind L t s v stand h

  pub twin_dim : (at : Span) (level : Level) → Eats L t s v stand (dim (suc deep) at level) (dim (suc deeper) at level)
  unfolding dim
  twin_dim at level = twin_taking (twin_dim_by (may_share level) at)

  pub twin_static : (at : Span) → Eats L t s v stand (static_ (suc deep) at) (static_ (suc deeper) at)
  unfolding static_
  twin_static at = twin_taking (twin_dim_behind at storage.Static)

  pub twin_constant : (at : Span) → Eats L t s v stand (constant (suc deep) at) (constant (suc deeper) at)
  unfolding constant
  twin_constant at = twin_taking (followed L t s v stand twin_a_name (λ n. followed L t s v stand twin_any_type (λ ty. followed L t s v stand (twin_expect L t s v stand Equal) (λ u. made L t s v stand (λ x. k.Const at n ty x) twin_whole))))

  -- ---- assignments and calls

  eats_assign : (at : Span) (left : Expr) (p : Assignment × Span) → Eats L t s v stand (assign (suc deep) at left p.0 p.1) (assign (suc deeper) at left p.0 p.1)
  unfolding assign
  eats_assign at left p = twin_taking (made L t s v stand (λ x. k.Assign at left p.0 p.1 x) twin_whole)

  twin_assigned : (at : Span) (left : Expr) (one other : Reader Stmt) → T L t s v stand one other → T L t s v stand (λ ts. assign_by (suc deep) at left one (assignment_at (first ts)) ts) (λ ts. assign_by (suc deeper) at left other (assignment_at (first ts)) ts)
  twin_assigned at left one other h = chosen L t s v stand assignment_at (λ o. assign_by (suc deep) at left one o) (λ o. assign_by (suc deeper) at left other o)
      (λ odd. ap (with_place odd.u.at) (fails_by assignment_of None (λ n. refl) refl refl refl refl refl odd.u odd.why)) h (eats_assign at left)

  twin_values : T L t s v stand (values (suc deep)) (values (suc deeper))
  unfolding values value_turn
  twin_values = twin_list L t s v stand (whole (suc deep)) (whole (suc deeper)) twin_whole (exact_leaves (exact_whole deep)) (exact_leaves (exact_whole deeper))

  values_gone : L DeepNesting → begins 1 (Some t) ≡ true → Gone L t s v (at_place L t s v stand) (values (suc deep) (t ∷ s))
  unfolding values value_turn
  values_gone loose is = all_gone L t s v stand (λ (found : List Expr). followed L t s v stand twin_whole (λ x. twin_comma L t s v stand found x)) []
      (gone_then L t s v (at_place L t s v stand) (whole (suc deep) (t ∷ s)) (comma_behind []) (whole_gone loose is) (λ x rest. (twin_comma L t s v stand [] x).leaves rest))

  twin_arguments : T L t s v stand (arguments (suc deep)) (arguments (suc deeper))
  unfolding arguments
  twin_arguments = twin_value twin_values (followed L t s v stand twin_no_value (λ u. given L t s v stand [])) values_gone (none_gone (λ u. pure []) (λ u rest. same_end rest))

  twin_named : (at : Span) (n : Name) → T L t s v stand (named (suc deep) at n) (named (suc deeper) at n)
  unfolding named call_name
  twin_named at n = twin_assigned at (e.Name n.at n.text) (call_name (suc deep) at n) (call_name (suc deeper) at n) (made L t s v stand (λ all. k.CallName at n all) twin_arguments)

  twin_headed_by : (b : Bool) (at : Span) (x : Expr) → T L t s v stand (if b then may_assign (suc deep) at x else must_assign (suc deep) at x) (if b then may_assign (suc deeper) at x else must_assign (suc deeper) at x)
  unfolding may_assign must_assign
  twin_headed_by true at x = twin_assigned at x (pure (k.Call at x)) (pure (k.Call at x)) (given L t s v stand (k.Call at x))
  twin_headed_by false at x = twin_assigned at x (stop Expected) (stop Expected) (stopped L t s v stand (λ ts. read_errs.Fault Expected) (λ ts. read_errs.Fault Expected))

  twin_headed : (at : Span) (x : Expr) → T L t s v stand (headed (suc deep) at x) (headed (suc deeper) at x)
  unfolding headed
  twin_headed at x = twin_headed_by (is_call x) at x

  -- ---- a token that an expression begins with is taken

  loose_too : (us : List Token) (its : first us ≡ Some t) (stop : _) → Loose L t s us (at_place L t s us (inl its)) stop → Loose L t s v (at_place L t s v stand) stop
  loose_too us its read_errs.NoMemory l = l
  loose_too us its (read_errs.Fault kind) l = l

  gone_too : (us : List Token) (its : first us ≡ Some t) (some : us ≡ [] → ⊥) (o other : Outcome Measured) (x : Measured) → Near L t s us (at_place L t s us (inl its)) o other → other ≡ Ok (x, []) → Gone L t s v (at_place L t s v stand) o
  gone_too us its some (Ok p) other x (inl gone) is = gone
  gone_too us its some (Err p) other x (inl (inl small)) is = inl small
  gone_too us its some (Err p) other x (inl (inr loose)) is = inr (loose_too us its p.0 loose)
  gone_too us its some (Ok p) other x (inr n) is =
      let both : ◌≡◌ {A = Outcome Measured} (Ok (p.0, n.0)) (Ok (x, [])) = sym n.1 ∙ is in
      absurd (none_alike L t s us (at_place L t s us (inl its)) p.1 n.0 (ap rest_of both) some n.2)
  gone_too us its some (Err p) other x (inr n) is = let both : ◌≡◌ {A = Outcome Measured} (Err (n.0, n.1)) (Ok (x, [])) = sym n.2 ∙ is in cc

  first_is : (more : List Token) → first (t ∷ more) ≡ Some t
  unfolding first
  first_is more = refl

  expr_gone : (more : List Token) (tree : Expr) (depth : ℕ) → Is (Expression 14 depth tree) (t ∷ more) → depth ≤ suc deep → Gone L t s v (at_place L t s v stand) (expr (suc deep) 14 (t ∷ s))
  expr_gone more tree depth is fits =
      gone_too (t ∷ more) (first_is more) (λ none. cc) (expr (suc deep) 14 (t ∷ s)) (expr (suc deep) 14 (t ∷ more)) (tree, depth)
      ((twins L t s (t ∷ more) (at_place L t s (t ∷ more) (inl (first_is more))) (suc deep) (suc deep) (inl refl) 14).near (t ∷ s) (t ∷ more) here)
      (subst (λ (xs : List Token). expr (suc deep) 14 xs ≡ Ok ((tree, depth), [])) (append-nil (t ∷ more)) (place_read deep (t ∷ more) [] tree depth is fits refl))

  place_gone : is_mark At t.kind ≡ false → is_mark Minus t.kind ≡ false → Gone L t s v (at_place L t s v stand) (expr (suc deep) 14 (t ∷ s)) → Gone L t s v (at_place L t s v stand) (place (suc deep) (t ∷ s))
  unfolding place sees first
  place_gone a b gone = rw (a, b) (gone_then L t s v (at_place L t s v stand) (expr (suc deep) 14 (t ∷ s)) (λ x ts. Ok (x.0, ts)) gone (λ x rest. same_end rest))

  headed_gone : (at : Span) → Gone L t s v (at_place L t s v stand) (place (suc deep) (t ∷ s)) → Gone L t s v (at_place L t s v stand) (and_then (place (suc deep) (t ∷ s)) (headed (suc deep) at))
  headed_gone at gone = gone_then L t s v (at_place L t s v stand) (place (suc deep) (t ∷ s)) (headed (suc deep) at) gone (λ x rest. (twin_headed at x).leaves rest)

  -- ---- a name, or a place

  bare_gone : (at : Span) (text : List ℕ) → t.kind ≡ kinds.Name text → Gone L t s v (at_place L t s v stand) (and_then (name (t ∷ s)) (named (suc deep) at))
  bare_gone at text kind =
      let n : Name = record { at = t.at; text = text } in
      subst (λ (o : Outcome Name). Gone L t s v (at_place L t s v stand) (and_then o (named (suc deep) at)))
      (sym (exact_name.finds (t ∷ s) n s (record { token = t; text = text; is = refl; kind = kind; named = refl }) refl))
      (past L t s v (at_place L t s v stand) s (named (suc deep) at n s) (omega arith) ((twin_named at n).leaves s))

  name_gone : (text : List ℕ) → t.kind ≡ kinds.Name text → Gone L t s v (at_place L t s v stand) (place (suc deep) (t ∷ s))
  name_gone text kind =
      place_gone (ap (is_mark At) kind) (ap (is_mark Minus) kind)
      (expr_gone [] (e.Name t.at text) 1 (a_primary t (gives_series (e.Name t.at text)) [] 14 1 (e.Name t.at text) (rw kind refl) (rw kind refl) (omega arith) (nothing_behind 0 (e.Name t.at text))) (omega arith))

  abbrev pub bare_test : Option Token → Option Token → Bool
  bare_test o p = if holds is_name o then (if holds goes_on p then false else true) else false

  at_name : (at : Span) (b : Bool) → is_name t.kind ≡ b
      → Gone L t s v (at_place L t s v stand) (if bare_test (Some t) (first s) then and_then (name (t ∷ s)) (named (suc deep) at) else and_then (place (suc deep) (t ∷ s)) (headed (suc deep) at))
      ⊎ ((o : Option Token) → bare_test (Some t) o ≡ false)
  at_name at true is =
      let k = name_kind t.kind is in
      inl (gone_if L t s v (at_place L t s v stand) (bare_test (Some t) (first s)) (and_then (name (t ∷ s)) (named (suc deep) at)) (and_then (place (suc deep) (t ∷ s)) (headed (suc deep) at)) (bare_gone at k.0 k.1) (headed_gone at (name_gone k.0 k.1)))
  at_name at false is = inr (λ o. rw is refl)

  suffix_by_mark : (mark : Mark) → goes_on (kinds.Mark mark) ≡ true → (kind : Suffix) × (suffix_of (kinds.Mark mark) ≡ Some kind)
  suffix_by_mark Open is = (suffixes.Call, refl)
  suffix_by_mark OpenBracket is = (suffixes.Index, refl)
  suffix_by_mark Dot is = (suffixes.Field, refl)
  suffix_by_mark Arrow is = (suffixes.Arrow, refl)
  suffix_by_mark mark is = cc

  suffix_kind : (kind : TokenKind) → goes_on kind ≡ true → (which : Suffix) × (suffix_of kind ≡ Some which)
  suffix_kind (kinds.Mark mark) is = suffix_by_mark mark is
  suffix_kind kind is = cc

  place_behind : (x : Token) (a : List Token) → is_mark At x.kind ≡ false → is_mark Minus x.kind ≡ false → Gone L t s v (at_place L t s v stand) (expr (suc deep) 14 (x ∷ a)) → Gone L t s v (at_place L t s v stand) (place (suc deep) (x ∷ a))
  unfolding place sees first
  place_behind x a one other gone = rw (one, other) (gone_then L t s v (at_place L t s v stand) (expr (suc deep) 14 (x ∷ a)) (λ y ts. Ok (y.0, ts)) gone (λ y rest. same_end rest))

  -- behind a name, a mark that goes on with it
  name_goes : (at : Span) (x : Token) → L DeepNesting → is_name x.kind ≡ true → goes_on t.kind ≡ true → Gone L t s v (at_place L t s v stand) (and_then (place (suc deep) (x ∷ (t ∷ s))) (headed (suc deep) at))
  name_goes at x loose named goes =
      let n = name_kind x.kind named in
      let k = suffix_kind t.kind goes in
      gone_then L t s v (at_place L t s v stand) (place (suc deep) (x ∷ (t ∷ s))) (headed (suc deep) at)
      (place_behind x (t ∷ s) (ap (is_mark At) n.1) (ap (is_mark Minus) n.1)
      (leaf_gone L t s v (at_place L t s v stand) deep 14 x (gives_series (e.Name x.at n.0)) (ap prefix_of n.1) (ap (start_of x.at) n.1) (suffix_gone L t s v (at_place L t s v stand) deep (e.Name x.at n.0, 1) k.0 k.1 loose)))
      (λ y rest. (twin_headed at y).leaves rest)

  bare_over : (at : Span) (x u : Token) → first v ≡ Some u → Ended L u → (b c : Bool) → is_name x.kind ≡ b → goes_on t.kind ≡ c
      → (bare_test (Some x) (first v) ≡ bare_test (Some x) (Some t)) ⊎ Gone L t s v (at_place L t s v stand) (if bare_test (Some x) (Some t) then and_then (name (x ∷ (t ∷ s))) (named (suc deep) at) else and_then (place (suc deep) (x ∷ (t ∷ s))) (headed (suc deep) at))
  bare_over at x u is e false c name_is goes = inl (rw name_is refl)
  bare_over at x u is e true false name_is goes = inl (rw (is, name_is, goes, by_end goes_on false refl refl u.kind e.end) refl)
  bare_over at x u is e true true name_is goes = inr (rw (name_is, goes) (name_goes at x e.ends.deep name_is goes))

  bare_second_by : (at : Span) (x : Token) (a b : List Token) → SameNext L t s v stand a b ⊎ Over L t s v stand a b
      → (bare_test (Some x) (first b) ≡ bare_test (Some x) (first a)) ⊎ Gone L t s v (at_place L t s v stand) (if bare_test (Some x) (first a) then and_then (name (x ∷ a)) (named (suc deep) at) else and_then (place (suc deep) (x ∷ a)) (headed (suc deep) at))
  unfolding first
  bare_second_by at x a b (inl n) = inl (rw n.goes_on refl)
  bare_second_by at x a b (inr o) = rw (o.one, o.other) (bare_over at x o.u o.is o.ended (is_name x.kind) (goes_on t.kind) refl refl)

  bare_second : (at : Span) (x : Token) (a b : List Token) → Both L t s v stand a b
      → (bare_test (Some x) (first b) ≡ bare_test (Some x) (first a)) ⊎ Gone L t s v (at_place L t s v stand) (if bare_test (Some x) (first a) then and_then (name (x ∷ a)) (named (suc deep) at) else and_then (place (suc deep) (x ∷ a)) (headed (suc deep) at))
  bare_second at x a b al = bare_second_by at x a b (next_same L t s v stand a b al)

  pub twin_valued : (at : Span) → T L t s v stand (valued (suc deep) at) (valued (suc deeper) at)
  unfolding valued sees_bare sees_name
  twin_valued at = seen_two L t s v stand bare_test (λ ts. and_then (name ts) (named (suc deep) at)) (λ ts. and_then (place (suc deep) ts) (headed (suc deep) at)) (λ ts. and_then (name ts) (named (suc deeper) at)) (λ ts. and_then (place (suc deeper) ts) (headed (suc deeper) at))
      (followed L t s v stand twin_a_name (λ n. twin_named at n)) (followed L t s v stand twin_place (λ x. twin_headed at x)) (at_name at (is_name t.kind) refl)
      (λ odd o. let none = fails_by is_name false (λ n. refl) refl refl refl refl refl odd.u odd.why in rw none refl)
      (bare_second at)

  value_taken : (at : Span) → L DeepNesting → (begins 14 (Some t) ≡ true) × (is_mark At t.kind ≡ false) × (is_mark Minus t.kind ≡ false)
      → Gone L t s v (at_place L t s v stand) (if bare_test (Some t) (first s) then and_then (name (t ∷ s)) (named (suc deep) at) else and_then (place (suc deep) (t ∷ s)) (headed (suc deep) at))
      ⊎ ((o : Option Token) → bare_test (Some t) o ≡ false) → Gone L t s v (at_place L t s v stand) (if bare_test (Some t) (first s) then and_then (name (t ∷ s)) (named (suc deep) at) else and_then (place (suc deep) (t ∷ s)) (headed (suc deep) at))
  value_taken at loose begun (inl gone) = gone
  value_taken at loose begun (inr alone) = rw (alone (first s)) (headed_gone at (place_gone begun.1 begun.2 (begun_gone L t s v (at_place L t s v stand) (suc deep) 14 begun.0 loose)))

  -- a token that an assignment or a call begins with
  pub valued_taken : (at : Span) → L DeepNesting → (begins 14 (Some t) ≡ true) × (is_mark At t.kind ≡ false) × (is_mark Minus t.kind ≡ false) → Gone L t s v (at_place L t s v stand) (valued (suc deep) at (t ∷ s))
  unfolding valued sees_bare sees_name first next
  valued_taken at loose begun = value_taken at loose begun (at_name at (is_name t.kind) refl)

  -- ---- a word that is called

  no_prefix : (word : Word) (which : CallWord) → operand_word word ≡ operands.Call which → prefix_of (kinds.Word word) ≡ None
  no_prefix w.KwNot which is = cc
  no_prefix word which is = refl

  word_gone : (word : Word) (which : CallWord) → t.kind ≡ kinds.Word word → operand_word word ≡ operands.Call which → Gone L t s v (at_place L t s v stand) (place (suc deep) (t ∷ s))
  word_gone word which kind is =
      let tree = e.CallWord t.at which [] in
      let series = call_word_production t.at which in
      let behind_series = λ (all : List Expr). gives_series (e.CallWord t.at which all) in
      place_gone (ap (is_mark At) kind) (ap (is_mark Minus) kind)
      (expr_gone (mark_token Open ∷ mark_token Close ∷ []) tree 1
      (a_primary t series (mark_token Open ∷ mark_token Close ∷ []) 14 1 tree (ap prefix_of kind ∙ no_prefix word which is) (rw (kind, is) refl) (omega arith)
      (a_mark (mark_token Open) (mark_token Close ∷ []) Open _ 0 1 tree refl (no_arguments (mark_token Close) [] behind_series 0 1 tree refl (nothing_behind 0 tree))))
      (omega arith))

  valued_gone : (at : Span) (word : Word) (which : CallWord) → t.kind ≡ kinds.Word word → operand_word word ≡ operands.Call which → Gone L t s v (at_place L t s v stand) (valued (suc deep) at (t ∷ s))
  unfolding valued sees_bare sees_name first
  valued_gone at word which kind is =
      let no_name : is_name t.kind ≡ false = ap is_name kind in
      rw no_name (headed_gone at (word_gone word which kind is))

  abbrev open_test : Option Token → Option Token → Bool
  open_test o p = holds (is_mark Open) p

  abbrev call_read : ℕ → Span → CallWord → Reader Stmt
  call_read most at which = λ ts. and_then (take_token ts) (λ u. λ us. and_then (arguments most us) (λ all. pure (k.CallWord at which all)))

  twin_call_read : (at : Span) (which : CallWord) → T L t s v stand (call_read (suc deep) at which) (call_read (suc deeper) at which)
  twin_call_read at which = (twin_taking (made L t s v stand (λ all. k.CallWord at which all) twin_arguments)).twin

  pub called_here : (at : Span) (word : Word) (which : CallWord) → t.kind ≡ kinds.Word word → operand_word word ≡ operands.Call which → Gone L t s v (at_place L t s v stand) (called (suc deep) at which (t ∷ s))
  unfolding called
  called_here at word which kind is =
      gone_if L t s v (at_place L t s v stand) (sees_open_behind (t ∷ s)) (valued (suc deep) at (t ∷ s)) (call_read (suc deep) at which (t ∷ s)) (valued_gone at word which kind is)
      (eaten L t s v (at_place L t s v stand) (λ us. and_then (arguments (suc deep) us) (λ all. pure (k.CallWord at which all))) (λ us. and_then (arguments (suc deeper) us) (λ all. pure (k.CallWord at which all))) (made L t s v stand (λ all. k.CallWord at which all) twin_arguments))

  -- behind a word that is called, the parenthesis
  word_goes : (at : Span) (x : Token) (word : Word) (which : CallWord) → x.kind ≡ kinds.Word word → operand_word word ≡ operands.Call which → is_mark Open t.kind ≡ true → Gone L t s v (at_place L t s v stand) (valued (suc deep) at (x ∷ (t ∷ s)))
  unfolding valued sees_bare sees_name first
  word_goes at x word which kind is open_ =
      let series : start_of x.at x.kind ≡ Leaf (call_word_production x.at which) = ap (start_of x.at) kind ∙ ap (word_start x.at) is in
      let no_name : is_name x.kind ≡ false = ap is_name kind in
      rw no_name (gone_then L t s v (at_place L t s v stand) (place (suc deep) (x ∷ (t ∷ s))) (headed (suc deep) at)
      (place_behind x (t ∷ s) (ap (is_mark At) kind) (ap (is_mark Minus) kind)
      (leaf_gone L t s v (at_place L t s v stand) deep 14 x (call_word_production x.at which) (ap prefix_of kind ∙ no_prefix word which is) series (open_gone L t s v (at_place L t s v stand) deep Open (arguments_production (λ (all : List Expr). gives_series (e.CallWord x.at which all))) open_)))
      (λ y rest. (twin_headed at y).leaves rest))

  called_over : (at : Span) (x u : Token) (word : Word) (which : CallWord) → x.kind ≡ kinds.Word word → operand_word word ≡ operands.Call which → first v ≡ Some u → Ended L u → (b : Bool) → is_mark Open t.kind ≡ b
      → Near L t s v (at_place L t s v stand) (if is_mark Open t.kind then valued (suc deep) at (x ∷ (t ∷ s)) else call_read (suc deep) at which (x ∷ (t ∷ s))) (if holds (is_mark Open) (first v) then valued (suc deeper) at (x ∷ v) else call_read (suc deeper) at which (x ∷ v))
  called_over at x u word which kind is its e true open_ = rw open_ (inl (word_goes at x word which kind is open_))
  called_over at x u word which kind is its e false open_ = rw (open_, its, by_end (is_mark Open) false refl refl u.kind e.end) ((twin_call_read at which).near (x ∷ (t ∷ s)) (x ∷ v) (there x (t ∷ s) v here))

  called_there : (at : Span) (x : Token) (word : Word) (which : CallWord) → x.kind ≡ kinds.Word word → operand_word word ≡ operands.Call which → (a b : List Token) → Both L t s v stand a b → SameNext L t s v stand a b ⊎ Over L t s v stand a b
      → Near L t s v (at_place L t s v stand) (if holds (is_mark Open) (first a) then valued (suc deep) at (x ∷ a) else call_read (suc deep) at which (x ∷ a)) (if holds (is_mark Open) (first b) then valued (suc deeper) at (x ∷ b) else call_read (suc deeper) at which (x ∷ b))
  unfolding first
  called_there at x word which kind is a b al (inl n) =
      pair_by L t s v stand (holds (is_mark Open) (first a)) (holds (is_mark Open) (first b)) (valued (suc deep) at) (call_read (suc deep) at which) (valued (suc deeper) at) (call_read (suc deeper) at which) (x ∷ a) (x ∷ b) (there x a b al)
      (twin_valued at) (twin_call_read at which) (n.mark Open)
  called_there at x word which kind is a b al (inr o) = rw (o.one, o.other) (called_over at x o.u word which kind is o.is o.ended (is_mark Open t.kind) refl)

  pub called_near : (at : Span) (x : Token) (word : Word) (which : CallWord) → x.kind ≡ kinds.Word word → operand_word word ≡ operands.Call which → (ts us : List Token) → first ts ≡ Some x → Both L t s v stand ts us
      → Near L t s v (at_place L t s v stand) (called (suc deep) at which ts) (called (suc deeper) at which us)
  unfolding called sees first next
  called_near at x word which kind is ts us its here =
      let same_token : x ≡ t = ap (token_or t) (sym its) in
      inl (called_here at word which (ap (λ (y : Token). y.kind) (sym same_token) ∙ kind) is)
  called_near at x word which kind is ts us its (there y a b al) =
      let same_token : x ≡ y = ap (token_or x) (sym its) in
      called_there at y word which (ap (λ (z : Token). z.kind) (sym same_token) ∙ kind) is a b al (next_same L t s v stand a b al)

  pub called_leaves : (at : Span) (which : CallWord) (ts : List Token) → Leaves ts (called (suc deep) at which ts)
  unfolding called
  called_leaves at which ts = leaves_if L t s v stand (sees_open_behind ts) (valued (suc deep) at) (call_read (suc deep) at which) ts ((twin_valued at).leaves ts) ((twin_call_read at which).leaves ts)

  pub twin_result : (at : Span) → Eats L t s v stand (result_ (suc deep) at) (result_ (suc deeper) at)
  unfolding result_
  twin_result at = twin_taking (followed L t s v stand (twin_expect L t s v stand Equal) (λ u. made L t s v stand (λ x. k.Result at x) twin_whole))

  -- ---- input and output

  pub twin_line_input : (at : Span) → Eats L t s v stand (line_input (suc deep) at) (line_input (suc deeper) at)
  unfolding line_input
  twin_line_input at = twin_taking (followed L t s v stand (twin_expect_word L t s v stand w.KwInput refl) (λ u. made L t s v stand (λ x. k.LineInput at x) twin_place))

  -- ---- leaving

  pub twin_exit : (at : Span) → Eats L t s v stand (exit at) (exit at)
  unfolding exit
  twin_exit at = twin_taking (chosen L t s v stand exit_at (exit_by at) (exit_by at) (λ odd. fails_by exit_of None (λ n. refl) refl refl refl refl refl odd.u odd.why)
      (stopped L t s v stand (λ ts. read_errs.Fault Expected) (λ ts. read_errs.Fault Expected)) (λ which. took L t s v stand (k.Exit at which)))

  pub twin_continue : (at : Span) → Eats L t s v stand (continue_ at) (continue_ at)
  unfolding continue_
  twin_continue at = twin_taking (chosen L t s v stand continue_at (continue_by at) (continue_by at) (λ odd. fails_by continue_of None (λ n. refl) refl refl refl refl refl odd.u odd.why)
      (stopped L t s v stand (λ ts. read_errs.Fault Expected) (λ ts. read_errs.Fault Expected)) (λ which. took L t s v stand (k.Continue at which)))

  pub twin_return : (at : Span) → Eats L t s v stand (return_ (suc deep) at) (return_ (suc deeper) at)
  unfolding return_
  twin_return at = twin_taking (made L t s v stand (λ x. k.Return at x) twin_any_value)

  twin_brackets : T L t s v stand brackets brackets
  unfolding brackets
  twin_brackets = twin_mark L t s v stand OpenBracket (behind L t s v stand (followed L t s v stand (twin_expect L t s v stand CloseBracket) (λ u. given L t s v stand true))) (given L t s v stand false)

  pub twin_delete : (at : Span) → Eats L t s v stand (delete (suc deep) at) (delete (suc deeper) at)
  unfolding delete
  twin_delete at = twin_taking (followed L t s v stand twin_brackets (λ all. made L t s v stand (λ x. k.Delete at all x) twin_whole))

  pub twin_end : (at : Span) → Eats L t s v stand (end_ (suc deep) at) (end_ (suc deeper) at)
  unfolding end_
  twin_end at = twin_taking (made L t s v stand (λ x. k.End at x) twin_any_value)
