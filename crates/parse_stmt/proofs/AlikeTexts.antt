-- Two readings of whole texts, of tokens that are alike up to a place and at it, the second perhaps at a greater depth.
use Rattle.std.proofs.Common.{◌≡◌, ◌<◌, ℕ, suc, ◌+◌, Bool, true, false, if◌then◌else◌, List, [], ◌∷◌, ◌++◌, length, Option, Some, None, Ok, Err, refl, sym, ap, ◌∙◌, subst, ◌⊎◌, inl, inr, arith}
use Rattle.fb_base.specs.declared.fault.Span.{Span}
use Rattle.fb_base.specs.declared.fault.FaultKind.{FaultKind}
use Rattle.fb_base.specs.declared.fault.FaultKind.TheVariants.{Expected, ExtraText}
use Rattle.fb_lexer.specs.declared.token.Token.{Token}
use Rattle.fb_lexer.specs.declared.token.Mark.TheVariants.{Equal, Open, Close, Comma, Dot}
use Rattle.fb_lexer.specs.declared.token.TokenKind.{TokenKind}
use Rattle.fb_lexer.specs.declared.token.TokenKind.TheVariants as kinds
use Rattle.fb_lexer.specs.declared.word.Word.{Word}
use Rattle.fb_lexer.specs.declared.word.Word.TheVariants as w
use Rattle.fb_ast.specs.declared.operator.Binary.{Binary}
use Rattle.fb_ast.specs.declared.part.Head.TheVariants as head
use Rattle.fb_ast.specs.declared.part.Item.{Item}
use Rattle.fb_ast.specs.declared.part.Item.TheVariants as item
use Rattle.fb_ast.specs.declared.part.Member.{Member}
use Rattle.fb_ast.specs.declared.part.Member.TheVariants as member
use Rattle.fb_ast.specs.declared.part.Mode.{Mode}
use Rattle.fb_ast.specs.declared.part.Mode.TheVariants as mode
use Rattle.fb_ast.specs.declared.part.Name.{Name}
use Rattle.fb_ast.specs.declared.part.Param.{Param}
use Rattle.fb_ast.specs.declared.part.ProcedureKind.{ProcedureKind}
use Rattle.fb_ast.specs.declared.part.ProcedureKind.TheVariants as kind
use Rattle.fb_ast.specs.declared.stmt.Block.{Block}
use Rattle.fb_ast.specs.declared.stmt.Stmt.{Stmt}
use Rattle.fb_ast.specs.declared.stmt.Stmt.TheVariants as k
use Rattle.parse_expr.specs.declared.error.ReadErr.TheVariants as read_errs
use Rattle.parse_expr.specs.Expr.{place_or}
use Rattle.parse_expr.specs.Reading.{first, next, same_word, is_mark, is_word, holds, sees, sees_word, expect, expect_word, refusal, Outcome, Reader, and_then, pure, take_token}
use Rattle.parse_expr.specs.Types.{type_name, name, name_by}
use Rattle.parse_expr.proofs.Sound.{Done, bind, by_test, map_done}
use Rattle.parse_expr.proofs.Ends.{Suffixes, same_end, no_longer, Leaves}
use Rattle.parse_expr.proofs.Refused.{nowhere}
use Rattle.parse_expr.proofs.Twins.{Rooms, here, there, Gone, Near, ErrAt, twin_test, gone_then, past, eaten}
use Rattle.parse_parts.specs.declared.kinds.Level.TheVariants as levels
use Rattle.parse_parts.specs.declared.kinds.InLine.TheVariants as lines
use Rattle.parse_parts.specs.declared.kinds.Spot.{Spot}
use Rattle.parse_parts.specs.declared.kinds.Lead.TheVariants as leads
use Rattle.parse_parts.specs.declared.kinds.Closer.{Closer}
use Rattle.parse_parts.specs.declared.kinds.Closer.TheVariants as closers
use Rattle.parse_parts.specs.declared.kinds.ProcedureWord.{ProcedureWord}
use Rattle.parse_parts.specs.declared.kinds.ProcedureWord.TheVariants as words
use Rattle.parse_stmt.specs.declared.module.Found.{Found}
use Rattle.parse_parts.specs.Words.{lead_of, operator_of}
use Rattle.parse_parts.specs.Steps.{place_at, origin, here as at_here, words_before, sees_sep, sep, whole, is_name, sees_name, any_name}
use Rattle.parse_parts.specs.Variables.{any_bounds}
use Rattle.parse_parts.specs.Simple.{result_}
use Rattle.parse_stmt.specs.Blocks.{closed, stmt, statement}
use Rattle.parse_parts.specs.Heads.{any_mode, param_name, param, param_turn, param_list, some_params, params_behind, any_params, one_param, no_params, overload, sub_head, function_head, head_at, declared_head, operator_at, mark_by, operator_mark, declared_operator, declared, Opening, member_sub, member_function, module_sub, module_function, sub_behind, function_behind, constructor, destructor, let_operator, two_params, mark_operator, operator_behind, sub_opened, function_opened, opened}
use Rattle.parse_stmt.specs.Procedures.{statements, procedure_body, procedure_parts, procedure}
use Rattle.parse_parts.specs.Members.{field, let_member, constructor_member, destructor_member, head_member, declared_member, one_member, ended_member, has_field, member_turn, members, type_def}
use Rattle.parse_stmt.specs.Module.{declare, ended_by, ended_item, main_stmt, ended_stmt, function_begins, procedure_word, item_by, one_item, more_items, item_at, item_turn, module_}
use Rattle.parse_stmt.proofs.Smallest.{word_is}
use Rattle.parse_stmt.proofs.Bodies.{sep_less}
use Rattle.parse_stmt.proofs.Heads.{exact_param}
use Rattle.parse_stmt.proofs.Types.{member_exact}
use Rattle.parse_stmt.proofs.Whole.{ItemRead, item_sound, item_within, item_some, rest_less}
use Rattle.parse_stmt.proofs.Odd.{is_odd_word, odd_word, by_end, fails_by, by_refused, refused_word, Ends, Refused, Ended, Odd, Stand, other_word}
use Rattle.parse_stmt.proofs.Alike.{Shortens, at_place, Both, T, Eats, SameNext, Over, next_same, followed, made, given, took, behind, eats_then, eats_here, halted, halts_then, expect_halts, expect_near, stopped, seen, chosen, twin_mark, twin_word, twin_at_sep, twin_expect, twin_expect_word, twin_sep, ended_gone, twin_here, twin_all, twin_list, twin_placed, words_before_same}
use Rattle.parse_stmt.proofs.AlikeParts.{exact_leaves, name_taken, twin_whole, twin_at_name, twin_any_name, twin_any_type, twin_a_name, twin_a_type, twin_any_bounds, twin_taking}
use Rattle.parse_stmt.proofs.AlikeEnds.{Less, AtEnd, NearOrStays, E, Rests, Left, Closes, weak, closing, stays_if, stays_seen, stays_all, stays_placed}
use Rattle.parse_stmt.proofs.AlikeBlocks.{Inner, stays_body}
use Rattle.parse_stmt.proofs.AlikeStmts.{inner_of}

-- a Type's turn takes a token
shortens_members : (deep : ℕ) → Shortens (member_turn (suc deep))
unfolding member_turn ended_member sep
shortens_members deep = record {
  less = λ found ts.
      by_test (λ (o : Outcome (List Member × Bool)). Done (Less ts) o) (sees_word w.KwEnd ts) _ _
      (λ is. by_test (λ (o : Outcome (List Member × Bool)). Done (Less ts) o) (has_field found) _ _ (λ has more. cc) (λ has_none. tt))
      (λ is. bind (λ (x : Member) rest. Suffixes rest ts) (Less ts) (one_member (suc deep) ts) (ended_member found) (exact_leaves (member_exact deep) ts)
      (λ x rest l. by_test (λ (o : Outcome (Unit {0})). Done (Less ts) (and_then o (λ u. pure (found ++ x ∷ [], true)))) (sees_sep lines.Free rest) _ _
      (λ is more. let n = no_longer l in let m = sep_less lines.Free rest is in omega arith) (λ is. tt)));
}

item_less : (deep room : ℕ) (found : Found) (ts : List Token) (q : Found × Bool) (rest : List Token) → ItemRead deep room found ts q rest → length rest < length ts
item_less deep room found ts q rest r =
    let t = item_some deep room ts r.p r.between r.stands in
    rest_less ts r.between rest (item_within deep room ts r.p r.between r.stands) r.end t.token t.more t.is

item_turn_by : (deep room : ℕ) (found : Found) (ts : List Token) (o : Option Token) → Done (Less ts) (item_at (suc deep) room found o ts)
unfolding more_items
item_turn_by deep room found ts None = λ more. cc
item_turn_by deep room found ts (Some t) =
    by_test (λ (o : Outcome (Found × Bool)). Done (Less ts) o) (sees_sep lines.Free ts) _ _ (λ is more. sep_less lines.Free ts is)
    (λ is. map_done (ItemRead deep room found ts) (Less ts) (one_item (suc deep) room found ts) (item_sound deep room found ts) (λ q rest r more. item_less deep room found ts q rest r))

shortens_items : (deep room : ℕ) → Shortens (item_turn (suc deep) room)
unfolding item_turn
shortens_items deep room = record { less = λ found ts. item_turn_by deep room found ts (first ts) }

module _ (L : FaultKind → Type 0) (t : Token) (s v : List Token) (stand : Stand L t v) (deep deeper : ℕ) (rooms : Rooms L (suc deep) (suc deeper)) where
  abbrev name_ : T L t s v stand name name
  name_ = twin_a_name L t s v stand deep deeper rooms

  abbrev type_ : T L t s v stand type_name type_name
  type_ = twin_a_type L t s v stand deep deeper rooms

  -- ---- where the other token may not stand

  -- a token that isn't looked for
  record Idle (ts : List Token) : Type 0 where
    token : Token
    is : first ts ≡ Some token
    name : is_name token.kind ≡ false
    operator : operator_of token.kind ≡ None
    word : (which : Word) → is_odd_word which ≡ false → is_word which token.kind ≡ false

  idle_other : Odd L t v → Idle v
  idle_other odd = record {
    token = odd.u;
    is = odd.is;
    name = fails_by is_name false (λ n. refl) refl refl refl refl refl odd.u odd.why;
    operator = fails_by operator_of None (λ n. refl) refl refl refl refl refl odd.u odd.why;
    word = λ which plain. other_word which plain odd;
  }

  name_by_fails : (at : Span) (kind : TokenKind) (ts : List Token) → is_name kind ≡ false → ErrAt (name_by at kind ts) ts
  name_by_fails at (kinds.Name text) ts is = cc
  name_by_fails at kind ts is = record { stop = read_errs.Fault Expected; is = refl }

  word_fails : (ts : List Token) → Idle ts → (which : Word) → is_odd_word which ≡ false → ErrAt (expect_word which ts) ts
  unfolding expect_word sees_word
  word_fails ts i which plain = rw (i.is, i.word which plain) (record { stop = read_errs.Fault Expected; is = refl })

  mark_fails : (ts : List Token) → Idle ts → ErrAt (operator_mark ts) ts
  unfolding operator_mark
  mark_fails ts i = rw (i.is, i.operator) (record { stop = read_errs.Fault Expected; is = refl })

  name_fails : (ts : List Token) → Idle ts → ErrAt (name ts) ts
  unfolding name
  name_fails ts i = rw i.is (name_by_fails i.token.at i.token.kind ts i.name)

  no_mode : (ts : List Token) → Idle ts → any_mode ts ≡ Ok (None, ts)
  unfolding any_mode sees_word
  no_mode ts i = rw (i.is, i.word w.KwByVal refl, i.word w.KwByRef refl) refl

  no_name : (ts : List Token) → Idle ts → any_name ts ≡ Ok (None, ts)
  unfolding any_name sees_name
  no_name ts i = rw (i.is, i.name) refl

  err_on : {A B : Type 0} (ts : List Token) (o : Outcome A) (f : A → Reader B) → ErrAt o ts → ErrAt (and_then o f) ts
  err_on {A = A} ts o f e = record { stop = e.stop; is = ap (λ (x : Outcome A). and_then x f) e.is }

  param_name_fails : {A : Type 0} (nameless : Bool) (f : Option Name → Unit {0} → Reader A) (ts : List Token) → Idle ts → ErrAt (and_then (param_name nameless ts) (λ n us. and_then (expect_word w.KwAs us) (f n))) ts
  param_name_fails true f ts i = rw (no_name ts i) (err_on ts (expect_word w.KwAs ts) (f None) (word_fails ts i w.KwAs refl))
  param_name_fails false f ts i = err_on ts (and_then (name ts) (λ n. pure (Some n))) (λ n us. and_then (expect_word w.KwAs us) (f n)) (err_on ts (name ts) (λ n. pure (Some n)) (name_fails ts i))

  param_fails : {A : Type 0} (nameless : Bool) (f : Option Mode → Option Name → Unit {0} → Reader A) (ts : List Token) → Idle ts → ErrAt (and_then (any_mode ts) (λ m us. and_then (param_name nameless us) (λ n vs. and_then (expect_word w.KwAs vs) (f m n)))) ts
  param_fails nameless f ts i = rw (no_mode ts i) (param_name_fails nameless (f None) ts i)

  -- ---- and the first reading takes the place's token there, or fails

  abbrev Stopped : {A : Type 0} → Outcome A → Type 0
  Stopped o = Gone L t s v (at_place L t s v stand) o ⊎ ErrAt o (t ∷ s)

  name_by_stops : (at : Span) (kind : TokenKind) → Stopped (name_by at kind (t ∷ s))
  unfolding next
  name_by_stops at (kinds.Name text) = inl (omega arith)
  name_by_stops at kind = inr (record { stop = read_errs.Fault Expected; is = refl })

  name_stops : Stopped (name (t ∷ s))
  unfolding name first
  name_stops = name_by_stops t.at t.kind

  mark_by_stops : (o : Option Binary) → Stopped (mark_by o (t ∷ s))
  unfolding next
  mark_by_stops None = inr (record { stop = read_errs.Fault Expected; is = refl })
  mark_by_stops (Some which) = inl (omega arith)

  mark_stops : Stopped (operator_mark (t ∷ s))
  unfolding operator_mark first
  mark_stops = mark_by_stops (operator_of t.kind)

  word_stops : (which : Word) → Stopped (expect_word which (t ∷ s))
  word_stops which = expect_halts L t s v stand which

  -- perhaps a name, and then As
  named_stops : {A : Type 0} (f : Option Name → Unit {0} → Reader A) → ((n : Option Name) (u : Unit {0}) (rest : List Token) → Leaves rest (f n u rest)) → ((n : Option Name) (rest : List Token) → Leaves rest (and_then (expect_word w.KwAs rest) (f n)))
      → (b : Bool) → is_name t.kind ≡ b → Stopped (and_then (any_name (t ∷ s)) (λ n us. and_then (expect_word w.KwAs us) (f n)))
  unfolding any_name sees_name first
  named_stops f l m true is = rw is (inl (gone_then L t s v (at_place L t s v stand) (and_then (name (t ∷ s)) (λ n. pure (Some n))) (λ n us. and_then (expect_word w.KwAs us) (f n)) (gone_then L t s v (at_place L t s v stand) (name (t ∷ s)) (λ n. pure (Some n)) (name_taken L t s v stand deep deeper rooms is) (λ n rest. same_end rest)) m))
  named_stops f l m false is = rw is (halts_then L t s v stand (expect_word w.KwAs (t ∷ s)) (f None) (word_stops w.KwAs) (l None))

  param_name_stops : {A : Type 0} (nameless : Bool) (f : Option Name → Unit {0} → Reader A) → ((n : Option Name) (u : Unit {0}) (rest : List Token) → Leaves rest (f n u rest)) → ((n : Option Name) (rest : List Token) → Leaves rest (and_then (expect_word w.KwAs rest) (f n)))
      → Stopped (and_then (param_name nameless (t ∷ s)) (λ n us. and_then (expect_word w.KwAs us) (f n)))
  param_name_stops true f l m = named_stops f l m (is_name t.kind) refl
  param_name_stops false f l m = halts_then L t s v stand (and_then (name (t ∷ s)) (λ n. pure (Some n))) (λ n us. and_then (expect_word w.KwAs us) (f n)) (halts_then L t s v stand (name (t ∷ s)) (λ n. pure (Some n)) name_stops (λ n rest. same_end rest)) m

  mode_stops : {A : Type 0} (g : Option Mode → Reader A) → ((m : Option Mode) (rest : List Token) → Leaves rest (g m rest)) → Stopped (g None (t ∷ s)) → (b c : Bool) → is_word w.KwByVal t.kind ≡ b → is_word w.KwByRef t.kind ≡ c → Stopped (and_then (any_mode (t ∷ s)) g)
  unfolding any_mode sees_word first next
  mode_stops g l k true c p q = rw p (inl (past L t s v (at_place L t s v stand) s (g (Some mode.ByVal) s) (omega arith) (l (Some mode.ByVal) s)))
  mode_stops g l k false true p q = rw (p, q) (inl (past L t s v (at_place L t s v stand) s (g (Some mode.ByRef) s) (omega arith) (l (Some mode.ByRef) s)))
  mode_stops g l k false false p q = rw (p, q) k

  -- ---- parameters

  twin_mode : T L t s v stand any_mode any_mode
  unfolding any_mode
  twin_mode = twin_word L t s v stand w.KwByVal refl (took L t s v stand (Some mode.ByVal)) (twin_word L t s v stand w.KwByRef refl (took L t s v stand (Some mode.ByRef)) (given L t s v stand None))

  twin_param_name : (nameless : Bool) → T L t s v stand (param_name nameless) (param_name nameless)
  twin_param_name true = twin_any_name L t s v stand deep deeper rooms
  twin_param_name false = made L t s v stand (λ n. Some n) name_

  abbrev typed_param : Span → Option Mode → Option Name → Unit {0} → Reader Param
  typed_param at m n u = λ us. and_then (type_name us) (λ ty. pure (record { at = at; mode = m; name = n; ty = ty }))

  twin_typed : (at : Span) (m : Option Mode) (n : Option Name) (u : Unit {0}) → T L t s v stand (typed_param at m n u) (typed_param at m n u)
  twin_typed at m n u = made L t s v stand (λ ty. record { at = at; mode = m; name = n; ty = ty }) type_

  twin_named_param : (at : Span) (m : Option Mode) (n : Option Name) → T L t s v stand (λ ts. and_then (expect_word w.KwAs ts) (typed_param at m n)) (λ ts. and_then (expect_word w.KwAs ts) (typed_param at m n))
  twin_named_param at m n = followed L t s v stand (twin_expect_word L t s v stand w.KwAs refl) (twin_typed at m n)

  twin_param_behind : (nameless : Bool) (at : Span) (m : Option Mode) → T L t s v stand (λ ts. and_then (param_name nameless ts) (λ n us. and_then (expect_word w.KwAs us) (typed_param at m n))) (λ ts. and_then (param_name nameless ts) (λ n us. and_then (expect_word w.KwAs us) (typed_param at m n)))
  twin_param_behind nameless at m = followed L t s v stand (twin_param_name nameless) (twin_named_param at m)

  twin_param : (nameless : Bool) → T L t s v stand (param nameless) (param nameless)
  unfolding param
  twin_param nameless = twin_here L t s v stand (λ at. followed L t s v stand twin_mode (twin_param_behind nameless at))
      (λ odd. halted L t s v stand _ _
      (mode_stops (λ m ts. and_then (param_name nameless ts) (λ n us. and_then (expect_word w.KwAs us) (typed_param t.at m n))) (λ m. (twin_param_behind nameless t.at m).leaves)
      (param_name_stops nameless (typed_param t.at None) (λ n u. (twin_typed t.at None n u).leaves) (λ n. (twin_named_param t.at None n).leaves)) (is_word w.KwByVal t.kind) (is_word w.KwByRef t.kind) refl refl)
      (param_fails nameless (typed_param odd.u.at) v (idle_other odd)))

  twin_some_params : (nameless : Bool) → T L t s v stand (some_params nameless) (some_params nameless)
  unfolding some_params param_list param_turn
  twin_some_params nameless = followed L t s v stand (twin_list L t s v stand (param nameless) (param nameless) (twin_param nameless) (exact_leaves (exact_param nameless)) (exact_leaves (exact_param nameless)))
      (λ all. followed L t s v stand (twin_expect L t s v stand Close) (λ u. given L t s v stand all))

  twin_any_params : (nameless : Bool) → T L t s v stand (any_params nameless) (any_params nameless)
  unfolding any_params params_behind
  twin_any_params nameless = twin_mark L t s v stand Open (behind L t s v stand (twin_mark L t s v stand Close (took L t s v stand []) (twin_some_params nameless))) (given L t s v stand [])

  twin_one_param : (nameless : Bool) → T L t s v stand (one_param nameless) (one_param nameless)
  unfolding one_param
  twin_one_param nameless = followed L t s v stand (twin_expect L t s v stand Open) (λ u. followed L t s v stand (twin_param nameless) (λ p. followed L t s v stand (twin_expect L t s v stand Close) (λ x. given L t s v stand p)))

  twin_no_params : T L t s v stand no_params no_params
  unfolding no_params
  twin_no_params = twin_mark L t s v stand Open (behind L t s v stand (twin_expect L t s v stand Close)) (given L t s v stand tt)

  -- ---- heads

  twin_overload : T L t s v stand overload overload
  unfolding overload
  twin_overload = twin_word L t s v stand w.KwOverload refl (took L t s v stand true) (given L t s v stand false)

  twin_sub_head : (at : Span) (n : Name) (nameless : Bool) → T L t s v stand (sub_head at n nameless) (sub_head at n nameless)
  unfolding sub_head
  twin_sub_head at n nameless = followed L t s v stand twin_overload (λ more. made L t s v stand (λ all. head.Sub at n more all) (twin_any_params nameless))

  twin_function_head : (at : Span) (n : Name) (nameless : Bool) → T L t s v stand (function_head at n nameless) (function_head at n nameless)
  unfolding function_head
  twin_function_head at n nameless = followed L t s v stand twin_overload (λ more. followed L t s v stand (twin_any_params nameless) (λ all. followed L t s v stand (twin_expect_word L t s v stand w.KwAs refl) (λ u. made L t s v stand (λ ty. head.Function at n more all ty) type_)))

  head_fails : (at : Span) (ts : List Token) → Idle ts → ErrAt (head_at at ts) ts
  unfolding sees_word
  head_fails at ts i = rw (i.is, i.word w.KwSub refl) (err_on ts (and_then (expect_word w.KwFunction ts) (λ u. name)) (λ n. function_head at n true) (err_on ts (expect_word w.KwFunction ts) (λ u. name) (word_fails ts i w.KwFunction refl)))

  eats_sub : (at : Span) → Eats L t s v stand (λ ts. and_then (and_then (take_token ts) (λ u. name)) (λ n. sub_head at n true)) (λ ts. and_then (and_then (take_token ts) (λ u. name)) (λ n. sub_head at n true))
  eats_sub at = eats_then L t s v stand (behind L t s v stand name_) (λ n. twin_sub_head at n true)

  twin_function : (at : Span) → T L t s v stand (λ ts. and_then (and_then (expect_word w.KwFunction ts) (λ u. name)) (λ n. function_head at n true)) (λ ts. and_then (and_then (expect_word w.KwFunction ts) (λ u. name)) (λ n. function_head at n true))
  twin_function at = followed L t s v stand (followed L t s v stand (twin_expect_word L t s v stand w.KwFunction refl) (λ u. name_)) (λ n. twin_function_head at n true)

  head_stops : (at : Span) (b : Bool) → is_word w.KwSub t.kind ≡ b → Stopped (head_at at (t ∷ s))
  unfolding sees_word first
  head_stops at true is = rw is (inl (eats_sub at).gone)
  head_stops at false is =
      rw is (halts_then L t s v stand (and_then (expect_word w.KwFunction (t ∷ s)) (λ u. name)) (λ n. function_head at n true) (halts_then L t s v stand (expect_word w.KwFunction (t ∷ s)) (λ u. name) (word_stops w.KwFunction) (λ u. name_.leaves)) (λ n. (twin_function_head at n true).leaves))

  twin_head : T L t s v stand declared_head declared_head
  unfolding declared_head
  twin_head = twin_here L t s v stand (λ at. twin_word L t s v stand w.KwSub refl (eats_sub at) (twin_function at))
      (λ odd. halted L t s v stand _ _ (head_stops t.at (is_word w.KwSub t.kind) refl) (head_fails odd.u.at v (idle_other odd)))

  twin_operator_mark : T L t s v stand operator_mark operator_mark
  unfolding operator_mark
  twin_operator_mark = chosen L t s v stand operator_at mark_by mark_by (λ odd. fails_by operator_of None (λ n. refl) refl refl refl refl refl odd.u odd.why) (stopped L t s v stand (λ ts. read_errs.Fault Expected) (λ ts. read_errs.Fault Expected)) (λ which. took L t s v stand which)

  mark_near : {A : Type 0} (f g : Binary → Reader A) → ((which : Binary) (rest : List Token) → Leaves rest (f which rest)) → Odd L t v → Near L t s v (at_place L t s v stand) (and_then (operator_mark (t ∷ s)) f) (and_then (operator_mark v) g)
  mark_near f g l odd = halted L t s v stand _ _ (halts_then L t s v stand (operator_mark (t ∷ s)) f mark_stops l) (err_on v (operator_mark v) g (mark_fails v (idle_other odd)))

  abbrev operator_parts : Span → Span → Binary → Reader Item
  operator_parts at mark_at which = λ ts. and_then (expect Open ts) (λ u us. and_then (some_params true us) (λ all vs. and_then (expect_word w.KwAs vs) (λ x ws. and_then (type_name ws) (λ ty. pure (item.DeclareOperator at which mark_at all ty)))))

  twin_operator_parts : (at mark_at : Span) (which : Binary) → T L t s v stand (operator_parts at mark_at which) (operator_parts at mark_at which)
  twin_operator_parts at mark_at which = followed L t s v stand (twin_expect L t s v stand Open) (λ u. followed L t s v stand (twin_some_params true) (λ all. followed L t s v stand (twin_expect_word L t s v stand w.KwAs refl) (λ x. made L t s v stand (λ ty. item.DeclareOperator at which mark_at all ty) type_)))

  twin_declared_operator : (at : Span) → T L t s v stand (declared_operator at) (declared_operator at)
  unfolding declared_operator
  twin_declared_operator at = twin_here L t s v stand (λ mark_at. followed L t s v stand twin_operator_mark (twin_operator_parts at mark_at)) (λ odd. mark_near (operator_parts at t.at) (operator_parts at odd.u.at) (λ which. (twin_operator_parts at t.at which).leaves) odd)

  twin_declare : Eats L t s v stand declare declare
  unfolding declare declared
  twin_declare = eats_here L t s v stand (λ at. behind L t s v stand (twin_word L t s v stand w.KwOperator refl (behind L t s v stand (twin_declared_operator at)) (made L t s v stand (λ h. item.Declare at h) twin_head)))

  -- ---- procedures

  abbrev OpenTwin : (Span → Reader Opening) → Type 0
  OpenTwin p = (at : Span) → T L t s v stand (p at) (p at)

  twin_member_sub : (at : Span) (ty : Name) → T L t s v stand (member_sub at ty) (member_sub at ty)
  unfolding member_sub
  twin_member_sub at ty = followed L t s v stand name_ (λ n. followed L t s v stand (twin_any_params false) (λ all. made L t s v stand (λ result. (kind.MemberSub at ty n all result, closers.Sub)) (twin_any_type L t s v stand deep deeper rooms)))

  twin_member_function : (at : Span) (ty : Name) → T L t s v stand (member_function at ty) (member_function at ty)
  unfolding member_function
  twin_member_function at ty = followed L t s v stand name_ (λ n. followed L t s v stand (twin_any_params false) (λ all. made L t s v stand (λ result. (kind.MemberFunction at ty n all result, closers.Function)) (twin_any_type L t s v stand deep deeper rooms)))

  twin_sub_behind : (at : Span) (n : Name) → T L t s v stand (sub_behind at n) (sub_behind at n)
  unfolding sub_behind module_sub
  twin_sub_behind at n = twin_mark L t s v stand Dot (behind L t s v stand (twin_member_sub at n)) (made L t s v stand (λ h. (kind.Module h, closers.Sub)) (twin_sub_head at n false))

  twin_function_behind : (at : Span) (n : Name) → T L t s v stand (function_behind at n) (function_behind at n)
  unfolding function_behind module_function
  twin_function_behind at n = twin_mark L t s v stand Dot (behind L t s v stand (twin_member_function at n)) (made L t s v stand (λ h. (kind.Module h, closers.Function)) (twin_function_head at n false))

  abbrev let_param : Span → Name → Span → Unit {0} → Reader Opening
  let_param at n let_at x = λ us. and_then (one_param false us) (λ p. pure (kind.Let at n let_at p, closers.Operator))

  abbrev let_parts : Span → Name → Span → Reader Opening
  let_parts at n let_at = λ ts. and_then (expect_word w.KwLet ts) (let_param at n let_at)

  twin_let_parts : (at : Span) (n : Name) (let_at : Span) → T L t s v stand (let_parts at n let_at) (let_parts at n let_at)
  twin_let_parts at n let_at = followed L t s v stand (twin_expect_word L t s v stand w.KwLet refl) (λ x. made L t s v stand (λ p. (kind.Let at n let_at p, closers.Operator)) (twin_one_param false))

  abbrev let_behind : Span → Name → Reader Opening
  let_behind at n = λ ts. and_then (expect Dot ts) (λ u us. and_then (at_here us) (let_parts at n))

  twin_let_behind : (at : Span) (n : Name) → T L t s v stand (let_behind at n) (let_behind at n)
  twin_let_behind at n = followed L t s v stand (twin_expect L t s v stand Dot) (λ u. twin_here L t s v stand (twin_let_parts at n)
      (λ odd. expect_near L t s v stand w.KwLet refl (let_param at n t.at) (let_param at n odd.u.at) (λ x. (made L t s v stand (λ p. (kind.Let at n t.at p, closers.Operator)) (twin_one_param false)).leaves) odd))

  twin_let : OpenTwin let_operator
  unfolding let_operator
  twin_let at = followed L t s v stand name_ (twin_let_behind at)

  twin_two_params : T L t s v stand two_params two_params
  unfolding two_params
  twin_two_params = followed L t s v stand (twin_expect L t s v stand Open) (λ u. followed L t s v stand (twin_param false) (λ one. followed L t s v stand (twin_expect L t s v stand Comma) (λ x. followed L t s v stand (twin_param false) (λ other. followed L t s v stand (twin_expect L t s v stand Close) (λ y. given L t s v stand (one, other))))))

  abbrev opening_parts : Span → Span → Binary → Reader Opening
  opening_parts at mark_at which = λ ts. and_then (two_params ts) (λ both us. and_then (expect_word w.KwAs us) (λ u vs. and_then (type_name vs) (λ ty. pure (kind.Operator at which mark_at both.0 both.1 ty, closers.Operator))))

  twin_opening_parts : (at mark_at : Span) (which : Binary) → T L t s v stand (opening_parts at mark_at which) (opening_parts at mark_at which)
  twin_opening_parts at mark_at which = followed L t s v stand twin_two_params (λ both. followed L t s v stand (twin_expect_word L t s v stand w.KwAs refl) (λ u. made L t s v stand (λ ty. (kind.Operator at which mark_at both.0 both.1 ty, closers.Operator)) type_))

  twin_mark_operator : OpenTwin mark_operator
  unfolding mark_operator
  twin_mark_operator at = twin_here L t s v stand (λ mark_at. followed L t s v stand twin_operator_mark (twin_opening_parts at mark_at)) (λ odd. mark_near (opening_parts at t.at) (opening_parts at odd.u.at) (λ which. (twin_opening_parts at t.at which).leaves) odd)

  let_gone : (at : Span) → is_name t.kind ≡ true → Gone L t s v (at_place L t s v stand) (let_operator at (t ∷ s))
  unfolding let_operator
  let_gone at is = gone_then L t s v (at_place L t s v stand) (name (t ∷ s)) _ (name_taken L t s v stand deep deeper rooms is) (λ n. (twin_let_behind at n).leaves)

  twin_opened : (which : ProcedureWord) → OpenTwin (opened which)
  unfolding sub_opened function_opened constructor destructor operator_behind
  twin_opened words.Sub at = followed L t s v stand name_ (λ n. twin_sub_behind at n)
  twin_opened words.Function at = followed L t s v stand name_ (λ n. twin_function_behind at n)
  twin_opened words.Constructor at = followed L t s v stand name_ (λ n. made L t s v stand (λ all. (kind.Constructor at n all, closers.Constructor)) (twin_any_params false))
  twin_opened words.Destructor at = followed L t s v stand name_ (λ n. followed L t s v stand twin_no_params (λ u. given L t s v stand (kind.Destructor at n, closers.Destructor)))
  twin_opened words.Operator at = twin_at_name L t s v stand deep deeper rooms (twin_let at) (twin_mark_operator at) (let_gone at)

  module _ (room room' : ℕ) (depths : Rooms L room room') (even : (u : Token) → Ended L u → room ≡ room') where
    abbrev behind_block : Block → Reader Block
    behind_block b = λ ts. and_then (take_token ts) (λ u. λ us. and_then (take_token us) (λ x. pure b))

    twin_behind : (b : Block) → Eats L t s v stand (behind_block b) (behind_block b)
    twin_behind b = twin_taking L t s v stand deep deeper rooms ((twin_taking L t s v stand deep deeper rooms (given L t s v stand b)).twin)

    behind_gone : (closer : Closer) (b : Block) (rest : List Token) → Left L t s v stand rest × (closed closer rest ≡ true) → Gone L t s v (at_place L t s v stand) (behind_block b rest)
    unfolding next
    behind_gone closer b rest (inl is, d) = subst (λ (ts : List Token). Gone L t s v (at_place L t s v stand) (behind_block b ts)) (sym is) (twin_behind b).gone
    behind_gone closer b rest (inr left, d) = subst (λ (ts : List Token). Gone L t s v (at_place L t s v stand) (behind_block b ts)) (sym left.1) (omega arith)

    abbrev inner : Inner L t s v stand deep deeper rooms (stmt (suc deep) room) (stmt (suc deeper) room') room room'
    inner = inner_of L t s v stand deep deeper rooms room room' depths even

    twin_statements : (closer : Closer) → T L t s v stand (λ ts. and_then (statements (suc deep) room closer ts) behind_block) (λ ts. and_then (statements (suc deeper) room' closer ts) behind_block)
    unfolding statements
    twin_statements closer = closing L t s v stand (Closes L t s v stand closer) (stays_body L t s v stand deep deeper rooms (stmt (suc deep) room) (stmt (suc deeper) room') room room' inner levels.Procedure lines.Free closer) (λ b. (twin_behind b).twin) (behind_gone closer)

    twin_procedure_body : (closer : Closer) → T L t s v stand (procedure_body (suc deep) room closer) (procedure_body (suc deeper) room' closer)
    unfolding procedure_body
    twin_procedure_body closer = followed L t s v stand (twin_sep L t s v stand lines.Free) (λ u. twin_statements closer)

    abbrev parts_behind : ℕ → ℕ → ProcedureWord → Span → Reader (ProcedureKind × Block)
    parts_behind most depth which at = λ ts. and_then (opened which at ts) (λ o. λ us. and_then (procedure_body most depth o.1 us) (λ b. pure (o.0, b)))

    twin_parts_behind : (which : ProcedureWord) (at : Span) → T L t s v stand (parts_behind (suc deep) room which at) (parts_behind (suc deeper) room' which at)
    twin_parts_behind which at = followed L t s v stand (twin_opened which at) (λ o. made L t s v stand (λ b. (o.0, b)) (twin_procedure_body o.1))

    twin_procedure_parts : (which : ProcedureWord) → Eats L t s v stand (procedure_parts (suc deep) room which) (procedure_parts (suc deeper) room' which)
    unfolding procedure_parts
    twin_procedure_parts which = eats_here L t s v stand (λ at. behind L t s v stand (twin_parts_behind which at))

    twin_procedure : (which : ProcedureWord) → T L t s v stand (procedure (suc deep) room which) (procedure (suc deeper) room' which)
    unfolding procedure
    twin_procedure which = twin_placed L t s v stand (λ (ts : List Token) (p : ProcedureKind × Block) (rest : List Token). item.Procedure (record { kind = p.0; body = p.1; tokens = words_before ts rest }))
        (λ ts us p rest r k. ap (λ (n : ℕ). item.Procedure (record { kind = p.0; body = p.1; tokens = n })) (words_before_same L t s v stand ts us rest r k)) (twin_procedure_parts which).twin

    procedure_gone : (which : ProcedureWord) → Gone L t s v (at_place L t s v stand) (procedure (suc deep) room which (t ∷ s))
    unfolding procedure procedure_parts next
    procedure_gone which =
        gone_then L t s v (at_place L t s v stand) (parts_behind (suc deep) room which (place_at (t ∷ s)) s) (λ p rest. Ok (item.Procedure (record { kind = p.0; body = p.1; tokens = words_before (t ∷ s) rest }), rest))
        (past L t s v (at_place L t s v stand) s (parts_behind (suc deep) room which (place_at (t ∷ s)) s) (omega arith) ((twin_parts_behind which (place_at (t ∷ s))).leaves s)) (λ p rest. same_end rest)

    -- ---- Types

    abbrev other_member : ℕ → Reader Member
    other_member most = λ ts. if sees_name ts then field most ts else Err (read_errs.Fault (refusal ts), ts)

    abbrev field_behind : ℕ → Name → Reader Member
    field_behind most n = λ ts. and_then (any_bounds most ts) (λ b us. and_then (expect_word w.KwAs us) (λ u vs. and_then (type_name vs) (λ ty. pure (member.Field n b ty))))

    twin_field_behind : (n : Name) → T L t s v stand (field_behind (suc deep) n) (field_behind (suc deeper) n)
    twin_field_behind n = followed L t s v stand (twin_any_bounds L t s v stand deep deeper rooms) (λ b. followed L t s v stand (twin_expect_word L t s v stand w.KwAs refl) (λ u. made L t s v stand (λ ty. member.Field n b ty) type_))

    twin_field : T L t s v stand (field (suc deep)) (field (suc deeper))
    unfolding field
    twin_field = followed L t s v stand name_ twin_field_behind

    abbrev member_let : Span → Span → Unit {0} → Reader Member
    member_let at let_at u = λ us. and_then (one_param true us) (λ p. pure (member.Let at let_at p))

    twin_declared_member : (at : Span) → T L t s v stand (declared_member at) (declared_member at)
    unfolding declared_member constructor_member destructor_member let_member head_member
    twin_declared_member at =
        twin_word L t s v stand w.KwConstructor refl (eats_here L t s v stand (λ word_at. behind L t s v stand (made L t s v stand (λ all. member.Constructor at word_at all) (twin_any_params true))))
        (twin_word L t s v stand w.KwDestructor refl (eats_here L t s v stand (λ word_at. behind L t s v stand (followed L t s v stand twin_no_params (λ u. given L t s v stand (member.Destructor at word_at)))))
        (twin_word L t s v stand w.KwOperator refl (behind L t s v stand (twin_here L t s v stand (λ let_at. followed L t s v stand (twin_expect_word L t s v stand w.KwLet refl) (λ u. made L t s v stand (λ p. member.Let at let_at p) (twin_one_param true)))
        (λ odd. expect_near L t s v stand w.KwLet refl (member_let at t.at) (member_let at odd.u.at) (λ u. (made L t s v stand (λ p. member.Let at t.at p) (twin_one_param true)).leaves) odd)))
        (made L t s v stand (λ h. member.Declare at h) twin_head)))

    field_gone : is_name t.kind ≡ true → Gone L t s v (at_place L t s v stand) (field (suc deep) (t ∷ s))
    unfolding field
    field_gone is = gone_then L t s v (at_place L t s v stand) (name (t ∷ s)) (field_behind (suc deep)) (name_taken L t s v stand deep deeper rooms is) (λ n. (twin_field_behind n).leaves)

    twin_other_member : T L t s v stand (other_member (suc deep)) (other_member (suc deeper))
    twin_other_member = twin_at_name L t s v stand deep deeper rooms twin_field (stopped L t s v stand (λ ts. read_errs.Fault (refusal ts)) (λ ts. read_errs.Fault (refusal ts))) field_gone

    abbrev member_by : ℕ → Option Token → Reader Member
    member_by most o = λ ts. if holds (is_word w.KwDeclare) o then declared_member (place_or origin o) (next ts) else other_member most ts

    member_refused : (u : Token) → Refused L t u → Gone L t s v (at_place L t s v stand) (member_by (suc deep) (Some t) (t ∷ s))
    unfolding sees_name refusal first
    member_refused u r = rw (refused_word w.KwDeclare t.kind r.word refl, by_refused is_name false (λ word. refl) t.kind r.word, (nowhere t.kind r.word).refusal) (inr r.out)

    member_ended : (b c : Bool) (at : Span) → c ≡ false → Near L t s v (at_place L t s v stand) (if b then declared_member t.at (next (t ∷ s)) else other_member (suc deep) (t ∷ s)) (if c then declared_member at (next v) else other_member (suc deeper) v)
    member_ended true c at is = inl (behind L t s v stand (twin_declared_member t.at)).gone
    member_ended false c at is = rw is (twin_other_member.near (t ∷ s) v here)

    member_odd : (u : Token) → Refused L t u ⊎ Ended L u → Near L t s v (at_place L t s v stand) (member_by (suc deep) (Some t) (t ∷ s)) (member_by (suc deeper) (Some u) v)
    member_odd u (inl r) = inl (member_refused u r)
    member_odd u (inr e) = member_ended (is_word w.KwDeclare t.kind) (is_word w.KwDeclare u.kind) u.at (by_end (is_word w.KwDeclare) false refl refl u.kind e.end)

    twin_member : T L t s v stand (one_member (suc deep)) (one_member (suc deeper))
    unfolding one_member sees_word place_at
    twin_member = seen L t s v stand (member_by (suc deep)) (member_by (suc deeper))
        (λ o. twin_test L t s v (at_place L t s v stand) (holds (is_word w.KwDeclare) o) _ _ _ _ ((behind L t s v stand (twin_declared_member (place_or origin o))).twin) twin_other_member)
        (λ odd. member_odd odd.u odd.why)

    abbrev has_one : List Member → Reader (List Member × Bool)
    has_one found = λ ts. if has_field found then Ok ((found, false), ts) else Err (read_errs.Fault Expected, ts)

    twin_has_field : (found : List Member) (b : Bool) → T L t s v stand {A = List Member × Bool} (λ ts. if b then Ok ((found, false), ts) else Err (read_errs.Fault Expected, ts)) (λ ts. if b then Ok ((found, false), ts) else Err (read_errs.Fault Expected, ts))
    twin_has_field found true = given L t s v stand (found, false)
    twin_has_field found false = stopped L t s v stand (λ ts. read_errs.Fault Expected) (λ ts. read_errs.Fault Expected)

    abbrev another : ℕ → List Member → Reader (List Member × Bool)
    another most found = λ ts. and_then (one_member most ts) (ended_member found)

    twin_another : (found : List Member) → T L t s v stand (another (suc deep) found) (another (suc deeper) found)
    unfolding ended_member
    twin_another found = followed L t s v stand twin_member (λ x. followed L t s v stand (twin_sep L t s v stand lines.Free) (λ u. given L t s v stand (found ++ x ∷ [], true)))

    -- an End at the place, where an end would do
    abbrev AtEndThere : List Member → List Token → Type 0
    AtEndThere x rest = Ends L × (rest ≡ t ∷ s) × AtEnd L t s v stand

    abbrev LastMember : List Member × Bool → List Token → Type 0
    LastMember p rest = (p.1 ≡ false) × AtEndThere p.0 rest

    other_fails : (u : Token) → first v ≡ Some u → Ended L u → ErrAt (other_member (suc deeper) v) v
    unfolding sees_name
    other_fails u is e = rw (is, by_end is_name false refl refl u.kind e.end) (record { stop = read_errs.Fault (refusal v); is = refl })

    member_fails : (u : Token) → first v ≡ Some u → Ended L u → ErrAt (one_member (suc deeper) v) v
    unfolding one_member sees_word
    member_fails u is e = rw (is, by_end (is_word w.KwDeclare) false refl refl u.kind e.end) (other_fails u is e)

    another_fails : (found : List Member) (u : Token) → first v ≡ Some u → Ended L u → ErrAt (another (suc deeper) found v) v
    another_fails found u is e = err_on v (one_member (suc deeper) v) (ended_member found) (member_fails u is e)

    has_by : (found : List Member) (b : Bool) → Ends L → AtEnd L t s v stand → (other : Outcome (List Member × Bool)) → ErrAt other v
        → NearOrStays L t s v stand LastMember (if b then Ok ((found, false), t ∷ s) else Err (read_errs.Fault Expected, t ∷ s)) other
    has_by found true ends end other e = inr (refl, (ends, refl, end))
    has_by found false ends end other e = inl (inr (e.stop, v, e.is, here))

    turn_ended : (found : List Member) (b c : Bool) → is_word w.KwEnd t.kind ≡ b → c ≡ false → Ends L → ErrAt (another (suc deeper) found v) v
        → NearOrStays L t s v stand LastMember (if b then has_one found (t ∷ s) else another (suc deep) found (t ∷ s)) (if c then has_one found v else another (suc deeper) found v)
    turn_ended found true c end is ends e = rw is (has_by found (has_field found) ends end (another (suc deeper) found v) e)
    turn_ended found false c end is ends e = rw is (inl ((twin_another found).near (t ∷ s) v here))

    turn_odd : (found : List Member) (u : Token) → first v ≡ Some u → Refused L t u ⊎ Ended L u
        → NearOrStays L t s v stand LastMember (if is_word w.KwEnd t.kind then has_one found (t ∷ s) else another (suc deep) found (t ∷ s)) (if is_word w.KwEnd u.kind then has_one found v else another (suc deeper) found v)
    turn_odd found u is (inl r) = rw (refused_word w.KwEnd t.kind r.word refl, odd_word w.KwEnd u.kind r.odd refl) (inl ((twin_another found).near (t ∷ s) v here))
    turn_odd found u is (inr e) = turn_ended found (is_word w.KwEnd t.kind) (is_word w.KwEnd u.kind) refl (by_end (is_word w.KwEnd) false refl refl u.kind e.end) e.ends (another_fails found u is e)

    stays_member_turn : (found : List Member) → E L t s v stand LastMember (member_turn (suc deep) found) (member_turn (suc deeper) found)
    unfolding member_turn sees_word
    stays_member_turn found = stays_seen L t s v stand LastMember (λ o ts. if holds (is_word w.KwEnd) o then has_one found ts else another (suc deep) found ts) (λ o ts. if holds (is_word w.KwEnd) o then has_one found ts else another (suc deeper) found ts)
        (λ o. stays_if L t s v stand LastMember (holds (is_word w.KwEnd) o) _ _ _ _ (weak L t s v stand LastMember (twin_has_field found (has_field found))) (weak L t s v stand LastMember (twin_another found)))
        (λ odd. turn_odd found odd.u odd.is odd.why)

    no_other : (x : List Member) (rest : List Token) → LastMember (x, true) rest → ⊥
    no_other x rest d = let bad : true ≡ false = d.0 in cc

    stays_members : E L t s v stand AtEndThere (members (suc deep)) (members (suc deeper))
    unfolding members
    stays_members = stays_all L t s v stand AtEndThere LastMember (member_turn (suc deep)) (member_turn (suc deeper)) (shortens_members deep) stays_member_turn (λ x rest d. d.1) (λ x rest d. absurd (no_other x rest d)) (shortens_members deeper) []

    abbrev type_end : Span → Name → List Member → Reader Item
    type_end at n all = λ ts. and_then (expect_word w.KwEnd ts) (λ x us. and_then (expect_word w.KwType us) (λ y. pure (item.Type at n all)))

    twin_type_end : (at : Span) (n : Name) (all : List Member) → T L t s v stand (type_end at n all) (type_end at n all)
    twin_type_end at n all = followed L t s v stand (twin_expect_word L t s v stand w.KwEnd refl) (λ x. followed L t s v stand (twin_expect_word L t s v stand w.KwType refl) (λ y. given L t s v stand (item.Type at n all)))

    end_taken : (at : Span) (n : Name) (all : List Member) → AtEnd L t s v stand → Gone L t s v (at_place L t s v stand) (type_end at n all (t ∷ s))
    unfolding expect_word sees_word first next
    end_taken at n all end = rw end (past L t s v (at_place L t s v stand) s (and_then (expect_word w.KwType s) (λ y. pure (item.Type at n all))) (omega arith) ((followed L t s v stand (twin_expect_word L t s v stand w.KwType refl) (λ y. given L t s v stand (item.Type at n all))).leaves s))

    type_end_gone : (at : Span) (n : Name) (all : List Member) (rest : List Token) → Ends L × (rest ≡ t ∷ s) × AtEnd L t s v stand → Gone L t s v (at_place L t s v stand) (type_end at n all rest)
    type_end_gone at n all rest d = subst (λ (ts : List Token). Gone L t s v (at_place L t s v stand) (type_end at n all ts)) (sym d.1) (end_taken at n all d.2)

    twin_type_def : Eats L t s v stand (type_def (suc deep)) (type_def (suc deeper))
    unfolding type_def
    twin_type_def = eats_here L t s v stand (λ at. behind L t s v stand (followed L t s v stand name_ (λ n. followed L t s v stand (twin_sep L t s v stand lines.Free) (λ u. closing L t s v stand AtEndThere stays_members (twin_type_end at n) (type_end_gone at n)))))

    -- ---- the module

    twin_ended_by : (o : Option Token) → T L t s v stand (ended_by o) (ended_by o)
    twin_ended_by None = given L t s v stand tt
    twin_ended_by (Some x) = twin_sep L t s v stand lines.Free

    twin_item_end : {A : Type 0} (a : A) → T L t s v stand (λ ts. and_then (ended_by (first ts) ts) (λ u. pure a)) (λ ts. and_then (ended_by (first ts) ts) (λ u. pure a))
    twin_item_end a = followed L t s v stand (seen L t s v stand ended_by ended_by twin_ended_by (λ odd. (twin_sep L t s v stand lines.Free).near (t ∷ s) v here)) (λ u. given L t s v stand a)

    end_by_gone : {A : Type 0} (a : A) → Ends L → Gone L t s v (at_place L t s v stand) (and_then (ended_by (first (t ∷ s)) (t ∷ s)) (λ u. pure a))
    unfolding first
    end_by_gone a ends = gone_then L t s v (at_place L t s v stand) (sep lines.Free (t ∷ s)) (λ u. pure a) (ended_gone L t s v stand lines.Free ends) (λ u rest. same_end rest)

    twin_ended_item : (found : Found) (x : Item) → T L t s v stand (ended_item found x) (ended_item found x)
    unfolding ended_item
    twin_ended_item found x = twin_item_end (record { items = found.items ++ x ∷ []; tokens = found.tokens }, true)

    twin_ended_stmt : (found : Found) (x : Stmt × ℕ) → T L t s v stand (ended_stmt found x) (ended_stmt found x)
    unfolding ended_stmt
    twin_ended_stmt found x = twin_item_end (record { items = found.items ++ item.Stmt x.0 ∷ []; tokens = found.tokens + x.1 }, true)

    abbrev main_spot : Spot
    main_spot = record { level = levels.Module; line = lines.Free; other = ExtraText }

    more_depths : Rooms L room room' → Rooms L (suc room) (suc room')
    more_depths (inl is) = inl (ap suc is)
    more_depths (inr more) = let less = more.1 in inr (more.0, omega arith)

    more_even : (u : Token) → Ended L u → suc room ≡ suc room'
    more_even u e = ap suc (even u e)

    main : Inner L t s v stand deep deeper rooms (stmt (suc deep) (suc room)) (stmt (suc deeper) (suc room')) (suc room) (suc room')
    main = inner_of L t s v stand deep deeper rooms (suc room) (suc room') (more_depths depths) more_even

    stays_main_stmt : E L t s v stand (Rests L t s v stand) (main_stmt (suc deep) room) (main_stmt (suc deeper) room')
    unfolding main_stmt
    stays_main_stmt = stays_placed L t s v stand (λ (ts : List Token) (x : Stmt) (rest : List Token). (x, words_before ts rest)) (λ ts us x rest r apart k al. inl (ap (λ (n : ℕ). (x, n)) (words_before_same L t s v stand ts us rest r k))) (main.twin main_spot) (λ u r. main.odd_gone main_spot u (inl r))

    rested_gone : (found : Found) (x : Stmt × ℕ) (rest : List Token) → Ends L × (rest ≡ t ∷ s) → Gone L t s v (at_place L t s v stand) (ended_stmt found x rest)
    unfolding ended_stmt
    rested_gone found x rest d = subst (λ (ts : List Token). Gone L t s v (at_place L t s v stand) {A = Found × Bool} (and_then (ended_by (first ts) ts) (λ u. pure (record { items = found.items ++ item.Stmt x.0 ∷ []; tokens = found.tokens + x.1 }, true)))) (sym d.1) (end_by_gone (record { items = found.items ++ item.Stmt x.0 ∷ []; tokens = found.tokens + x.1 }, true) d.0)

    twin_main : (found : Found) → T L t s v stand (λ ts. and_then (main_stmt (suc deep) room ts) (ended_stmt found)) (λ ts. and_then (main_stmt (suc deeper) room' ts) (ended_stmt found))
    twin_main found = closing L t s v stand (Rests L t s v stand) stays_main_stmt (λ x. twin_ended_stmt found x) (rested_gone found)

    abbrev result_parts : ℕ → Span → Reader Stmt
    result_parts most at = λ ts. and_then (expect Equal ts) (λ u us. and_then (whole most us) (λ x. pure (k.Result at x)))

    twin_result_parts : (at : Span) → T L t s v stand (result_parts (suc deep) at) (result_parts (suc deeper) at)
    twin_result_parts at = followed L t s v stand (twin_expect L t s v stand Equal) (λ u. made L t s v stand (λ x. k.Result at x) (twin_whole L t s v stand deep deeper rooms))

    equal_gone : (at : Span) → is_mark Equal t.kind ≡ true → Gone L t s v (at_place L t s v stand) (result_parts (suc deep) at (t ∷ s))
    unfolding expect sees first next
    equal_gone at equal = rw equal (past L t s v (at_place L t s v stand) s (and_then (whole (suc deep) s) (λ x. pure (k.Result at x))) (omega arith) ((made L t s v stand (λ x. k.Result at x) (twin_whole L t s v stand deep deeper rooms)).leaves s))

    result_main : (x : Token) → is_word w.KwFunction x.kind ≡ true → is_mark Equal t.kind ≡ true → Gone L t s v (at_place L t s v stand) (main_stmt (suc deep) room (x ∷ (t ∷ s)))
    unfolding main_stmt stmt statement first result_ next
    result_main x is equal =
        let lead : lead_of levels.Module x.kind ≡ leads.Function = ap (lead_of levels.Module) (word_is w.KwFunction x.kind is) in
        rw lead (gone_then L t s v (at_place L t s v stand) (result_parts (suc deep) x.at (t ∷ s)) (λ y rest. Ok ((y, words_before (x ∷ (t ∷ s)) rest), rest)) (equal_gone x.at equal) (λ y rest. same_end rest))

    function_gone : is_word w.KwFunction t.kind ≡ true → Gone L t s v (at_place L t s v stand) (main_stmt (suc deep) room (t ∷ s))
    unfolding main_stmt stmt statement first result_
    function_gone is =
        let lead : lead_of levels.Module t.kind ≡ leads.Function = ap (lead_of levels.Module) (word_is w.KwFunction t.kind is) in
        rw lead (gone_then L t s v (at_place L t s v stand) (result_ (suc deep) t.at (t ∷ s)) (λ x rest. Ok ((x, words_before (t ∷ s) rest), rest))
        (eaten L t s v (at_place L t s v stand) (result_parts (suc deep) t.at) (result_parts (suc deeper) t.at) (twin_result_parts t.at)) (λ x rest. same_end rest))

    twin_item_by : (found : Found) (o : Option ProcedureWord) → T L t s v stand (item_by (suc deep) room found o) (item_by (suc deeper) room' found o)
    twin_item_by found None = twin_main found
    twin_item_by found (Some which) = followed L t s v stand (twin_procedure which) (λ x. twin_ended_item found x)

    item_gone : (found : Found) (o : Option ProcedureWord) → is_word w.KwFunction t.kind ≡ true → Gone L t s v (at_place L t s v stand) (item_by (suc deep) room found o (t ∷ s))
    item_gone found None is = gone_then L t s v (at_place L t s v stand) (main_stmt (suc deep) room (t ∷ s)) (ended_stmt found) (function_gone is) (λ x rest. (twin_ended_stmt found x).leaves rest)
    item_gone found (Some which) is = gone_then L t s v (at_place L t s v stand) (procedure (suc deep) room which (t ∷ s)) (ended_item found) (procedure_gone which) (λ x rest. (twin_ended_item found x).leaves rest)

    -- the word that a procedure begins with, by the next two tokens
    abbrev word_by : Option Token → Bool → Option ProcedureWord
    word_by o equal =
        if holds (is_word w.KwSub) o then Some words.Sub
        else if (if holds (is_word w.KwFunction) o then (if equal then false else true) else false) then Some words.Function
        else if holds (is_word w.KwConstructor) o then Some words.Constructor
        else if holds (is_word w.KwDestructor) o then Some words.Destructor
        else if holds (is_word w.KwOperator) o then Some words.Operator
        else None

    abbrev word_two : Option Token → Option Token → Option ProcedureWord
    word_two o p = word_by o (holds (is_mark Equal) p)

    word_is_two : (ts : List Token) → procedure_word ts ≡ word_two (first ts) (first (next ts))
    unfolding procedure_word function_begins sees_word sees
    word_is_two ts = refl

    -- Function, where the mark stands behind it
    result_word : (x : Token) → is_word w.KwFunction x.kind ≡ true → is_mark Equal t.kind ≡ true → procedure_word (x ∷ (t ∷ s)) ≡ None
    unfolding procedure_word function_begins sees_word sees first next same_word
    result_word x is equal =
        let kind = word_is w.KwFunction x.kind is in
        rw (ap (is_word w.KwSub) kind, is, equal, ap (is_word w.KwConstructor) kind, ap (is_word w.KwDestructor) kind, ap (is_word w.KwOperator) kind) refl

    with_extra : (u : Token) → Refused L t u ⊎ Ends L → Refused L t u ⊎ Ends L × (main_spot.other ≡ ExtraText)
    with_extra u (inl r) = inl r
    with_extra u (inr ends) = inr (ends, refl)

    word_alone : (o p q : Option Token) → holds (is_word w.KwFunction) o ≡ false → word_two o p ≡ word_two o q
    word_alone o p q is = rw is refl

    alone_word : (x : Token) (a b : List Token) → is_word w.KwFunction x.kind ≡ false → procedure_word (x ∷ b) ≡ procedure_word (x ∷ a)
    unfolding first next
    alone_word x a b is = word_is_two (x ∷ b) ∙ word_alone (Some x) (first b) (first a) is ∙ sym (word_is_two (x ∷ a))

    same_item : (found : Found) (ts us : List Token) → Both L t s v stand ts us → procedure_word us ≡ procedure_word ts → Near L t s v (at_place L t s v stand) (item_by (suc deep) room found (procedure_word ts) ts) (item_by (suc deeper) room' found (procedure_word us) us)
    same_item found ts us al is = rw is ((twin_item_by found (procedure_word ts)).near ts us al)

    here_word : first v ≡ Some t → is_word w.KwFunction t.kind ≡ false → procedure_word v ≡ procedure_word (t ∷ s)
    unfolding first next
    here_word same is = word_is_two v ∙ ap (λ (o : Option Token). word_two o (first (next v))) same ∙ word_alone (Some t) (first (next v)) (first s) is ∙ sym (word_is_two (t ∷ s))

    -- at the place a word of a procedure or of a statement is taken
    main_gone : (found : Found) (u : Token) → Refused L t u ⊎ Ends L → Gone L t s v (at_place L t s v stand) (and_then (main_stmt (suc deep) room (t ∷ s)) (ended_stmt found))
    unfolding main_stmt
    main_gone found u why = gone_then L t s v (at_place L t s v stand) (main_stmt (suc deep) room (t ∷ s)) (ended_stmt found)
        (gone_then L t s v (at_place L t s v stand) (stmt (suc deep) (suc room) main_spot (t ∷ s)) (λ x rest. Ok ((x, words_before (t ∷ s) rest), rest)) (main.odd_gone main_spot u (with_extra u why)) (λ x rest. same_end rest)) (λ x rest. (twin_ended_stmt found x).leaves rest)

    item_by_gone : (found : Found) (u : Token) → Refused L t u ⊎ Ends L → (o : Option ProcedureWord) → Gone L t s v (at_place L t s v stand) (item_by (suc deep) room found o (t ∷ s))
    item_by_gone found u why None = main_gone found u why
    item_by_gone found u why (Some which) = gone_then L t s v (at_place L t s v stand) (procedure (suc deep) room which (t ∷ s)) (ended_item found) (procedure_gone which) (λ x rest. (twin_ended_item found x).leaves rest)

    without_end : (u : Token) → Refused L t u ⊎ Ended L u → Refused L t u ⊎ Ends L
    without_end u (inl r) = inl r
    without_end u (inr e) = inr e.ends

    item_here : (found : Found) → first v ≡ Some t → (b : Bool) → is_word w.KwFunction t.kind ≡ b → Near L t s v (at_place L t s v stand) (item_by (suc deep) room found (procedure_word (t ∷ s)) (t ∷ s)) (item_by (suc deeper) room' found (procedure_word v) v)
    item_here found same true is = inl (item_gone found (procedure_word (t ∷ s)) is)
    item_here found same false is = same_item found (t ∷ s) v here (here_word same is)

    at_here_item : (found : Found) → Stand L t v → Near L t s v (at_place L t s v stand) (item_by (suc deep) room found (procedure_word (t ∷ s)) (t ∷ s)) (item_by (suc deeper) room' found (procedure_word v) v)
    at_here_item found (inl same) = item_here found same (is_word w.KwFunction t.kind) refl
    at_here_item found (inr odd) = inl (item_by_gone found odd.u (without_end odd.u odd.why) (procedure_word (t ∷ s)))

    there_word : (x : Token) (a b : List Token) → holds (is_mark Equal) (first b) ≡ holds (is_mark Equal) (first a) → procedure_word (x ∷ b) ≡ procedure_word (x ∷ a)
    unfolding first next
    there_word x a b is = word_is_two (x ∷ b) ∙ ap (word_by (Some x)) is ∙ sym (word_is_two (x ∷ a))

    -- Function and then the mark
    result_gone : (found : Found) (x : Token) → is_word w.KwFunction x.kind ≡ true → is_mark Equal t.kind ≡ true → Gone L t s v (at_place L t s v stand) (item_by (suc deep) room found (procedure_word (x ∷ (t ∷ s))) (x ∷ (t ∷ s)))
    result_gone found x is equal = rw (result_word x is equal) (gone_then L t s v (at_place L t s v stand) (main_stmt (suc deep) room (x ∷ (t ∷ s))) (ended_stmt found) (result_main x is equal) (λ y rest. (twin_ended_stmt found y).leaves rest))

    over_by : (found : Found) (x u : Token) → first v ≡ Some u → Ended L u → (b c : Bool) → is_word w.KwFunction x.kind ≡ b → is_mark Equal t.kind ≡ c
        → Near L t s v (at_place L t s v stand) (item_by (suc deep) room found (procedure_word (x ∷ (t ∷ s))) (x ∷ (t ∷ s))) (item_by (suc deeper) room' found (procedure_word (x ∷ v)) (x ∷ v))
    unfolding first
    over_by found x u is e true true p q = inl (result_gone found x p q)
    over_by found x u is e true false p q = same_item found (x ∷ (t ∷ s)) (x ∷ v) (there x (t ∷ s) v here) (there_word x (t ∷ s) v (ap (holds (is_mark Equal)) is ∙ by_end (is_mark Equal) false refl refl u.kind e.end ∙ sym q))
    over_by found x u is e false c p q = same_item found (x ∷ (t ∷ s)) (x ∷ v) (there x (t ∷ s) v here) (alone_word x (t ∷ s) v p)

    there_item : (found : Found) (x : Token) (a b : List Token) → Both L t s v stand a b → SameNext L t s v stand a b ⊎ Over L t s v stand a b → Near L t s v (at_place L t s v stand) (item_by (suc deep) room found (procedure_word (x ∷ a)) (x ∷ a)) (item_by (suc deeper) room' found (procedure_word (x ∷ b)) (x ∷ b))
    there_item found x a b al (inl n) = same_item found (x ∷ a) (x ∷ b) (there x a b al) (there_word x a b (n.mark Equal))
    there_item found x a b al (inr o) = rw (o.one, o.other) (over_by found x o.u o.is o.ended (is_word w.KwFunction x.kind) (is_mark Equal t.kind) refl refl)

    item_alike : (found : Found) (ts us : List Token) → Both L t s v stand ts us → Near L t s v (at_place L t s v stand) (item_by (suc deep) room found (procedure_word ts) ts) (item_by (suc deeper) room' found (procedure_word us) us)
    item_alike found ts us here = at_here_item found stand
    item_alike found ts us (there x a b al) = there_item found x a b al (next_same L t s v stand a b al)

    twin_by_word : (found : Found) → T L t s v stand (λ ts. item_by (suc deep) room found (procedure_word ts) ts) (λ ts. item_by (suc deeper) room' found (procedure_word ts) ts)
    twin_by_word found = record { leaves = λ ts. (twin_item_by found (procedure_word ts)).leaves ts; near = item_alike found }

    abbrev other_item : ℕ → ℕ → Found → Reader (Found × Bool)
    other_item most depth found = λ ts. if sees_word w.KwType ts then and_then (type_def most ts) (ended_item found) else item_by most depth found (procedure_word ts) ts

    twin_other_item : (found : Found) → T L t s v stand (other_item (suc deep) room found) (other_item (suc deeper) room' found)
    twin_other_item found = twin_word L t s v stand w.KwType refl (eats_then L t s v stand twin_type_def (λ x. twin_ended_item found x)) (twin_by_word found)

    eats_declare : (found : Found) → Eats L t s v stand (λ ts. and_then (declare ts) (ended_item found)) (λ ts. and_then (declare ts) (ended_item found))
    eats_declare found = eats_then L t s v stand twin_declare (λ x. twin_ended_item found x)

    eats_type : (found : Found) → Eats L t s v stand (λ ts. and_then (type_def (suc deep) ts) (ended_item found)) (λ ts. and_then (type_def (suc deeper) ts) (ended_item found))
    eats_type found = eats_then L t s v stand twin_type_def (λ x. twin_ended_item found x)

    one_item_by : (found : Found) (u : Token) → Refused L t u ⊎ Ends L → (b c : Bool)
        → Gone L t s v (at_place L t s v stand) (if b then and_then (declare (t ∷ s)) (ended_item found) else if c then and_then (type_def (suc deep) (t ∷ s)) (ended_item found) else item_by (suc deep) room found (procedure_word (t ∷ s)) (t ∷ s))
    one_item_by found u why true c = (eats_declare found).gone
    one_item_by found u why false true = (eats_type found).gone
    one_item_by found u why false false = item_by_gone found u why (procedure_word (t ∷ s))

    one_item_gone : (found : Found) (u : Token) → Refused L t u ⊎ Ends L → Gone L t s v (at_place L t s v stand) (one_item (suc deep) room found (t ∷ s))
    unfolding one_item
    one_item_gone found u why = one_item_by found u why (sees_word w.KwDeclare (t ∷ s)) (sees_word w.KwType (t ∷ s))

    abbrev item_first : ℕ → ℕ → Found → Option Token → Reader (Found × Bool)
    item_first most depth found o = λ ts. if holds (is_word w.KwDeclare) o then and_then (declare ts) (ended_item found) else other_item most depth found ts

    one_item_odd : (found : Found) (u : Token) → Refused L t u ⊎ Ends L → Gone L t s v (at_place L t s v stand) (item_first (suc deep) room found (Some t) (t ∷ s))
    unfolding sees_word first
    one_item_odd found u why = one_item_by found u why (is_word w.KwDeclare t.kind) (is_word w.KwType t.kind)

    twin_one_item : (found : Found) → T L t s v stand (one_item (suc deep) room found) (one_item (suc deeper) room' found)
    unfolding one_item sees_word
    twin_one_item found = seen L t s v stand (item_first (suc deep) room found) (item_first (suc deeper) room' found)
        (λ o. twin_test L t s v (at_place L t s v stand) (holds (is_word w.KwDeclare) o) _ _ _ _ (eats_declare found).twin (twin_other_item found))
        (λ odd. inl (one_item_odd found odd.u (without_end odd.u odd.why)))

    twin_more_items : (found : Found) → T L t s v stand (more_items (suc deep) room found) (more_items (suc deeper) room' found)
    unfolding more_items
    twin_more_items found = twin_at_sep L t s v stand lines.Free (took L t s v stand (found, true)) (twin_one_item found) (λ ends. one_item_gone found t (inr ends))

    twin_item_at : (found : Found) (o : Option Token) → T L t s v stand (item_at (suc deep) room found o) (item_at (suc deeper) room' found o)
    twin_item_at found None = given L t s v stand (found, false)
    twin_item_at found (Some x) = twin_more_items found

    twin_item_turn : (found : Found) → T L t s v stand (item_turn (suc deep) room found) (item_turn (suc deeper) room' found)
    unfolding item_turn
    twin_item_turn found = seen L t s v stand (item_at (suc deep) room found) (item_at (suc deeper) room' found) (twin_item_at found) (λ odd. (twin_more_items found).near (t ∷ s) v here)

    pub twin_module : T L t s v stand (module_ (suc deep) room) (module_ (suc deeper) room')
    unfolding module_
    twin_module = twin_all L t s v stand (shortens_items deep room) (shortens_items deeper room') twin_item_turn (record { items = []; tokens = 0 })
