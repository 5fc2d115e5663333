-- Types are read exactly.
use Rattle.std.proofs.Common.{◌≡◌, ◌<◌, ℕ, zero, suc, ◌+◌, Bool, true, false, if◌then◌else◌, List, [], ◌∷◌, ◌++◌, length, Some, Ok, refl, sym, ap, ◌∙◌, subst, inl, inr, arith, append_assoc, append-nil}
use Rattle.fb_base.specs.declared.fault.Span.{Span}
use Rattle.fb_lexer.specs.declared.token.Token.{Token}
use Rattle.fb_lexer.specs.declared.token.TokenKind.TheVariants as kinds
use Rattle.fb_lexer.specs.declared.word.Word.{Word}
use Rattle.fb_lexer.specs.declared.word.Word.TheVariants as w
use Rattle.fb_ast.specs.declared.part.Name.{Name}
use Rattle.fb_ast.specs.declared.part.Member.{Member}
use Rattle.fb_ast.specs.declared.part.Member.TheVariants as member
use Rattle.fb_ast.specs.declared.part.Item.{Item}
use Rattle.fb_ast.specs.declared.part.Item.TheVariants as item
use Rattle.parse_expr.specs.Reading.{next, sees_word, expect_word, refuse, Reader, Outcome, and_then, pure}
use Rattle.parse_expr.proofs.Sound.{Done, bind, by_test, map_done}
use Rattle.parse_expr.proofs.Ends.{Suffixes, no_longer}
use Rattle.parse_parts.specs.declared.kinds.InLine.TheVariants as lines
use Rattle.parse_parts.specs.Steps.{place_at, sees_sep, sees_name, repeat, all_of}
use Rattle.parse_parts.specs.Steps as steps
use Rattle.parse_parts.specs.Members.{one_member, ended_member, has_field, member_turn, members}
use Rattle.parse_parts.specs.Members as reading
use Rattle.parse_stmt.specs.Phrases.{Phrase, gives, Then, ◌>>◌, either, word, here}
use Rattle.parse_stmt.specs.Texts.{Members, none, some}
use Rattle.parse_stmt.specs.Texts as grammar
use Rattle.parse_stmt.proofs.Exact.{next_kind, Follow, always, Exact, exact_then, exact_weaker, exact_behind, same_end, end_of_end, leave_next}
use Rattle.parse_stmt.proofs.Smallest.{exact_word, exact_sep, exact_name, exact_type, exact_here, next_word, starts_word}
use Rattle.parse_stmt.proofs.Lists.{exact_gives, exact_made, no_word}
use Rattle.parse_stmt.proofs.Dims.{closes, name_no_word, any_bounds_exact}
use Rattle.parse_stmt.proofs.Parts.{name_seen}
use Rattle.parse_stmt.proofs.Bodies.{sep_closes, sep_less}
use Rattle.parse_stmt.proofs.Ended.{as_ended, as_exact, ended_behind, AtToken, token_then}
use Rattle.parse_stmt.proofs.Heads.{exact_any_params, exact_one_param, exact_no_params, exact_declared_head, closes_pointer, head_starts, as_only, is_function, only_sub}
use Rattle.parse_stmt.proofs.Procs.{Given, given_token}

given_finds : {A : Type 0} (test : List Token → Bool) (p q : Reader A) (P Q : Phrase A) (F : Follow) → Given test p P F → Exact q Q F
    → ((ts : List Token) (a : A) (rest : List Token) → Q ts a rest → test ts ≡ false)
    → (ts : List Token) (a : A) (rest : List Token) → either P Q ts a rest → F (next_kind rest) ≡ true → (if test ts then p ts else q ts) ≡ Ok (a, rest)
given_finds test p q P Q F one other apart ts a rest (inl t) f = rw (one.holds_there ts a rest t) (one.finds ts a rest t f)
given_finds test p q P Q F one other apart ts a rest (inr t) f = rw (apart ts a rest t) (other.finds ts a rest t f)

given_within : {A : Type 0} (test : List Token → Bool) (p q : Reader A) (P Q : Phrase A) (F : Follow) → Given test p P F → Exact q Q F
    → (ts : List Token) (a : A) (rest : List Token) → either P Q ts a rest → Suffixes rest ts
given_within test p q P Q F one other ts a rest (inl t) = one.within ts a rest t
given_within test p q P Q F one other ts a rest (inr t) = other.within ts a rest t

-- where a token is seen what is read there, else something else
pub exact_given : {A : Type 0} {test : List Token → Bool} {p q : Reader A} {P Q : Phrase A} {F : Follow} → Given test p P F → Exact q Q F
    → ((ts : List Token) (a : A) (rest : List Token) → Q ts a rest → test ts ≡ false) → Exact (λ ts. if test ts then p ts else q ts) (either P Q) F
exact_given {A = A} {test = test} {p = p} {q = q} {P = P} {Q = Q} {F = F} one other apart = record {
  sound = λ ts. by_test (λ (o : Outcome A). Done (either P Q ts) o) (test ts) (p ts) (q ts)
      (λ is. map_done (P ts) (either P Q ts) (p ts) (one.sound ts is) (λ a rest t. inl t))
      (λ is. map_done (Q ts) (either P Q ts) (q ts) (other.sound ts) (λ a rest t. inr t));
  finds = given_finds test p q P Q F one other apart;
  within = given_within test p q P Q F one other;
}

field_exact : (deep : ℕ) → Exact (reading.field (suc deep)) (grammar.field (suc deep)) closes
unfolding reading.field
field_exact deep = exact_then exact_name (λ n. exact_then (any_bounds_exact deep as_only refl) (λ b. exact_then (exact_word w.KwAs) (λ u. exact_weaker (exact_made (λ t. member.Field n b t) exact_type) closes_pointer) (λ u ts a rest t f. refl))
    (λ b. starts_word w.KwAs _ closes as_only refl)) (λ n ts a rest t f. refl)

field_or : (deep : ℕ) → Exact (λ ts. if sees_name ts then reading.field (suc deep) ts else refuse ts) (grammar.field (suc deep)) closes
field_or deep = record {
  sound = λ ts. by_test (λ (o : Outcome Member). Done (grammar.field (suc deep) ts) o) (sees_name ts) _ _ (λ is. (field_exact deep).sound ts) (λ is. tt);
  finds = λ ts a rest t f. rw (name_seen ts t.given t.between t.front) ((field_exact deep).finds ts a rest t f);
  within = (field_exact deep).within;
}

-- ---- Declares of a Type

-- one word alone
abbrev only_operator : Follow
only_operator (Some (kinds.Word w.KwOperator)) = true
only_operator other = false

abbrev only_destructor : Follow
only_destructor (Some (kinds.Word w.KwDestructor)) = true
only_destructor other = false

abbrev only_declare : Follow
only_declare (Some (kinds.Word w.KwDeclare)) = true
only_declare other = false

constructor_given : (at : Span) → Given (sees_word w.KwConstructor) (reading.constructor_member at) (AtToken (sees_word w.KwConstructor) (λ word_at. Then (grammar.any_params true) (λ all. gives (member.Constructor at word_at all)))) closes
unfolding reading.constructor_member
constructor_given at = given_token (sees_word w.KwConstructor) (λ word_at. exact_made (λ all. member.Constructor at word_at all) (exact_any_params true closes refl))

destructor_given : (at : Span) → Given (sees_word w.KwDestructor) (reading.destructor_member at) (AtToken (sees_word w.KwDestructor) (λ word_at. Then grammar.no_params (λ u. gives (member.Destructor at word_at)))) closes
unfolding reading.destructor_member
destructor_given at = given_token (sees_word w.KwDestructor) (λ word_at. exact_made (λ u. member.Destructor at word_at) (exact_no_params closes refl))

let_exact : (at : Span) → Exact (reading.let_member at) (Then here (λ let_at. Then (word w.KwLet) (λ u. Then (grammar.one_param true) (λ p. gives (member.Let at let_at p))))) closes
unfolding reading.let_member
let_exact at = exact_then exact_here (λ let_at. exact_then (exact_word w.KwLet) (λ u. exact_weaker (exact_made (λ p. member.Let at let_at p) (exact_one_param true)) (λ o f. refl)) (λ u ts a rest t f. refl)) (λ let_at ts a rest t f. refl)

head_exact : (at : Span) → Exact (reading.head_member at) (Then grammar.declared_head (λ h. gives (member.Declare at h))) closes
unfolding reading.head_member
head_exact at = exact_made (λ h. member.Declare at h) exact_declared_head

operator_or_head : (at : Span) → Exact (λ ts. if sees_word w.KwOperator ts then reading.let_member at (next ts) else reading.head_member at ts)
    (either (word w.KwOperator >> Then here (λ let_at. Then (word w.KwLet) (λ u. Then (grammar.one_param true) (λ p. gives (member.Let at let_at p))))) (Then grammar.declared_head (λ h. gives (member.Declare at h)))) closes
operator_or_head at = exact_behind (sees_word w.KwOperator) (let_exact at) (head_exact at) (λ ts a rest t f. head_starts ts t.given t.between t.front w.KwOperator refl refl)

head_behind : (ts : List Token) (a : Member) (rest : List Token) (at : Span) → Then grammar.declared_head (λ h. gives (member.Declare at h)) ts a rest → (other : Word)
    → is_function (Some (kinds.Word other)) ≡ false → only_sub (Some (kinds.Word other)) ≡ false → sees_word other ts ≡ false
head_behind ts a rest at t other f g = head_starts ts t.given t.between t.front other f g

no_destructor : (at : Span) (ts : List Token) (a : Member) (rest : List Token)
    → either (word w.KwOperator >> Then here (λ let_at. Then (word w.KwLet) (λ u. Then (grammar.one_param true) (λ p. gives (member.Let at let_at p))))) (Then grammar.declared_head (λ h. gives (member.Declare at h))) ts a rest
    → sees_word w.KwDestructor ts ≡ false
no_destructor at ts a rest (inl t) = no_word w.KwDestructor only_operator ts refl (ap only_operator (next_word w.KwOperator ts t.front.0)) (sees_word w.KwDestructor ts) refl
no_destructor at ts a rest (inr t) = head_behind ts a rest at t w.KwDestructor refl refl

no_constructor : (at : Span) (ts : List Token) (a : Member) (rest : List Token)
    → either (AtToken (sees_word w.KwDestructor) (λ word_at. Then grammar.no_params (λ u. gives (member.Destructor at word_at))))
    (either (word w.KwOperator >> Then here (λ let_at. Then (word w.KwLet) (λ u. Then (grammar.one_param true) (λ p. gives (member.Let at let_at p))))) (Then grammar.declared_head (λ h. gives (member.Declare at h)))) ts a rest
    → sees_word w.KwConstructor ts ≡ false
no_constructor at ts a rest (inl t) = no_word w.KwConstructor only_destructor ts refl (ap only_destructor (next_word w.KwDestructor ts ((destructor_given at).holds_there ts a rest t))) (sees_word w.KwConstructor ts) refl
no_constructor at ts a rest (inr (inl t)) = no_word w.KwConstructor only_operator ts refl (ap only_operator (next_word w.KwOperator ts t.front.0)) (sees_word w.KwConstructor ts) refl
no_constructor at ts a rest (inr (inr t)) = head_behind ts a rest at t w.KwConstructor refl refl

declared_exact : (at : Span) → Exact (reading.declared_member at) (grammar.declared_member at) closes
unfolding reading.declared_member
declared_exact at = exact_given (constructor_given at) (exact_given (destructor_given at) (operator_or_head at) (λ ts a rest t. no_destructor at ts a rest t)) (λ ts a rest t. no_constructor at ts a rest t)

-- ---- members

pub member_exact : (deep : ℕ) → Exact (one_member (suc deep)) (grammar.one_member (suc deep)) closes
unfolding one_member
member_exact deep = as_exact (ended_behind (sees_word w.KwDeclare) (λ at. as_ended (declared_exact at)) (as_ended (field_or deep)) (λ ts a rest t d. name_no_word w.KwDeclare ts t.given t.between t.front))

member_no_end : (deep : ℕ) → (ts : List Token) (x : Member) (rest : List Token) → grammar.one_member (suc deep) ts x rest → sees_word w.KwEnd ts ≡ false
member_no_end deep ts x rest (inl t) = no_word w.KwEnd only_declare ts refl (ap only_declare (next_word w.KwDeclare ts (token_then (sees_word w.KwDeclare) (λ at. grammar.declared_member at) ts x rest t).is)) (sees_word w.KwEnd ts) refl
member_no_end deep ts x rest (inr t) = name_no_word w.KwEnd ts t.given t.between t.front

abbrev turns_from : (deep : ℕ) → ℕ → List Member × Bool → Reader (List Member)
turns_from deep n q = if q.1 then repeat (member_turn (suc deep)) n q.0 else pure q.0

pub record MembersRead (deep : ℕ) (found : List Member) (ts : List Token) (all : List Member) (rest : List Token) : Type 0 where
  pub behind : List Member
  pub is : all ≡ found ++ behind
  pub are : Members (suc deep) ts behind rest
  pub field : has_field all ≡ true
  pub ends : sees_word w.KwEnd rest ≡ true

record MemberRead (deep : ℕ) (found : List Member) (ts : List Token) (q : List Member × Bool) (rest : List Token) : Type 0 where
  x : Member
  between : List Token
  stands : grammar.one_member (suc deep) ts x between
  end : sees_sep lines.Free between ≡ true
  behind : rest ≡ next between
  is : q ≡ (found ++ x ∷ [], true)

one_sound : (deep : ℕ) → (found : List Member) (ts : List Token) → Done (MemberRead deep found ts) (and_then (one_member (suc deep) ts) (ended_member found))
unfolding ended_member steps.sep
one_sound deep found ts = bind (grammar.one_member (suc deep) ts) (MemberRead deep found ts) (one_member (suc deep) ts) (ended_member found) ((member_exact deep).sound ts)
    (λ x between t. by_test (λ (o : Outcome (Unit {0})). Done (MemberRead deep found ts) (and_then o (λ u. pure (found ++ x ∷ [], true)))) (sees_sep lines.Free between) _ _
    (λ end. record { x = x; between = between; stands = t; end = end; behind = refl; is = refl }) (λ none_there. tt))

pub members_sound : (deep : ℕ) → (n : ℕ) (found : List Member) (ts : List Token) → Done (MembersRead deep found ts) (repeat (member_turn (suc deep)) n found ts)
unfolding repeat member_turn
members_sound deep zero found ts = tt
members_sound deep (suc n) found ts =
    by_test (λ (o : Outcome (List Member × Bool)). Done (MembersRead deep found ts) (and_then o (turns_from deep n))) (sees_word w.KwEnd ts) _ _
    (λ is. by_test (λ (o : Outcome (List Member × Bool)). Done (MembersRead deep found ts) (and_then o (turns_from deep n))) (has_field found) _ _
    (λ field. record { behind = []; is = sym (append-nil found); are = none ts; field = field; ends = is }) (λ no_field. tt))
    (λ open_. bind (MemberRead deep found ts) (MembersRead deep found ts) (and_then (one_member (suc deep) ts) (ended_member found)) (turns_from deep n) (one_sound deep found ts)
    (λ q rest r. rw (r.is, r.behind) (map_done (MembersRead deep (found ++ r.x ∷ []) (next r.between)) (MembersRead deep found ts) _ (members_sound deep n (found ++ r.x ∷ []) (next r.between))
    (λ all left b. record { behind = r.x ∷ b.behind; is = b.is ∙ append_assoc found (r.x ∷ []) b.behind; are = some ts r.between left r.x b.behind r.stands r.end b.are; field = b.field; ends = b.ends }))))

members_finds : (deep : ℕ) → (n : ℕ) (found : List Member) (ts : List Token) (all : List Member) (rest : List Token) → Members (suc deep) ts all rest → sees_word w.KwEnd rest ≡ true → has_field (found ++ all) ≡ true → length ts < n
    → repeat (member_turn (suc deep)) n found ts ≡ Ok (found ++ all, rest)
unfolding repeat member_turn ended_member steps.sep
members_finds deep zero found ts all rest m ends field few = absurd (omega arith)
members_finds deep (suc n) found ts all rest (none a) ends field few =
    let f : has_field found ≡ true = ap has_field (sym (append-nil found)) ∙ field in
    rw (ends, f, append-nil found) refl
members_finds deep (suc n) found ts all rest (some a between b x more t is m) ends field few =
    let f = sep_closes lines.Free between is in
    let within = no_longer ((member_exact deep).within ts x between t) in
    let less = sep_less lines.Free between is in
    rw (member_no_end deep ts x between t, (member_exact deep).finds ts x between t f, is)
    (members_finds deep n (found ++ x ∷ []) (next between) more rest m ends (ap has_field (append_assoc found (x ∷ []) more) ∙ field) (omega arith) ∙ ap (λ (xs : List Member). Ok (xs, rest)) (append_assoc found (x ∷ []) more))

members_within : (deep : ℕ) → (ts : List Token) (all : List Member) (rest : List Token) → Members (suc deep) ts all rest → Suffixes rest ts
members_within deep ts all rest (none a) = same_end rest
members_within deep ts all rest (some a between b x more t is m) = end_of_end (members_within deep (next between) more rest m) (end_of_end (leave_next between) ((member_exact deep).within ts x between t))

-- ---- a Type

abbrev Rest : (deep : ℕ) → Span → Name → Phrase Item
Rest deep at n = Then (Members (suc deep)) (λ all. Then (grammar.with_field all) (λ u. Then (word w.KwEnd) (λ v. Then (word w.KwType) (λ x. gives (item.Type at n all)))))

abbrev rest_read : (deep : ℕ) → Span → Name → Reader Item
rest_read deep at n = λ ts. and_then (members (suc deep) ts) (λ all. λ us. and_then (expect_word w.KwEnd us) (λ v. λ vs. and_then (expect_word w.KwType vs) (λ x. pure (item.Type at n all))))

closing_exact : (at : Span) (n : Name) (all : List Member) → Exact (λ us. and_then (expect_word w.KwEnd us) (λ v. λ vs. and_then (expect_word w.KwType vs) (λ x. pure (item.Type at n all)))) (Then (word w.KwEnd) (λ v. Then (word w.KwType) (λ x. gives (item.Type at n all)))) always
closing_exact at n all = exact_then (exact_word w.KwEnd) (λ v. exact_then (exact_word w.KwType) (λ x. exact_gives (item.Type at n all) always) (λ x ts a rest t f. refl)) (λ v ts a rest t f. refl)

rest_exact : (deep : ℕ) → (at : Span) (n : Name) → Exact (rest_read deep at n) (Rest deep at n) always
unfolding members
rest_exact deep at n = record {
  sound = λ ts. bind (MembersRead deep [] ts) (Rest deep at n ts) (repeat (member_turn (suc deep)) (length ts + 1) [] ts) _ (members_sound deep (length ts + 1) [] ts)
      (λ all between r. map_done (Then (word w.KwEnd) (λ v. Then (word w.KwType) (λ x. gives (item.Type at n all))) between) (Rest deep at n ts) _ ((closing_exact at n all).sound between)
      (λ y rest t. record { given = all; between = between; front = subst (λ (xs : List Member). Members (suc deep) ts xs between) (sym r.is) r.are; back = record { given = tt; between = between; front = (r.field, refl); back = t } }));
  finds = λ ts y rest t f.
      let same = t.back.front.1 in
      let close : Then (word w.KwEnd) (λ v. Then (word w.KwType) (λ x. gives (item.Type at n t.given))) t.between y rest =
      subst (λ (m : List Token). Then (word w.KwEnd) (λ v. Then (word w.KwType) (λ x. gives (item.Type at n t.given))) m y rest) same t.back.back in
      ap (λ (o : Outcome (List Member)). and_then o (λ all. λ us. and_then (expect_word w.KwEnd us) (λ v. λ vs. and_then (expect_word w.KwType vs) (λ x. pure (item.Type at n all)))))
      (members_finds deep (length ts + 1) [] ts t.given t.between t.front close.front.0 t.back.front.0 (omega arith))
      ∙ (closing_exact at n t.given).finds t.between y rest close refl;
  within = λ ts y rest t. end_of_end ((closing_exact at n t.given).within t.back.between y rest t.back.back) (rw (t.back.front.1) (members_within deep ts t.given t.between t.front));
}

pub given_type : (deep : ℕ) → Given (sees_word w.KwType) (reading.type_def (suc deep)) (grammar.type_def (suc deep)) always
unfolding reading.type_def
given_type deep = given_token (sees_word w.KwType) (λ at. exact_then exact_name (λ n. exact_then (exact_sep lines.Free) (λ u. rest_exact deep at n) (λ u ts a rest t f. refl)) (λ n ts a rest t f. refl))
