-- What is read of a whole text before a fault can be completed to a text.
use Rattle.std.proofs.Common.{◌≡◌, ◌≤◌, ◌<◌, ℕ, zero, suc, ◌+◌, Bool, true, false, if◌then◌else◌, List, [], ◌∷◌, ◌++◌, length, Option, Some, None, Ok, Err, refl, sym, ap, ◌∙◌, subst, inl, inr, arith, append_assoc, append-nil}
use Rattle.fb_base.specs.declared.fault.Span.{Span}
use Rattle.fb_base.specs.declared.fault.FaultKind.{FaultKind}
use Rattle.fb_base.specs.declared.fault.FaultKind.TheVariants.{Expected, ExtraText}
use Rattle.fb_lexer.specs.declared.token.Token.{Token}
use Rattle.fb_lexer.specs.declared.token.TokenKind.TheVariants as kinds
use Rattle.fb_lexer.specs.declared.word.Word.{Word}
use Rattle.fb_lexer.specs.declared.word.Word.TheVariants as w
use Rattle.fb_ast.specs.declared.part.Item.{Item}
use Rattle.fb_ast.specs.declared.part.Item.TheVariants as item
use Rattle.fb_ast.specs.declared.part.Member.{Member}
use Rattle.fb_ast.specs.declared.part.Member.TheVariants as member
use Rattle.fb_ast.specs.declared.ty.Base.TheVariants as base
use Rattle.fb_ast.specs.declared.ty.TypeName.{TypeName}
use Rattle.word64.specs.declared.kind.Kind.TheVariants.{Integer}
use Rattle.parse_expr.specs.Grammar.{written}
use Rattle.parse_expr.proofs.Completed.{here as at_start}
use Rattle.fb_ast.specs.declared.part.Name.{Name}
use Rattle.fb_ast.specs.declared.part.ProcedureKind.{ProcedureKind}
use Rattle.fb_ast.specs.declared.stmt.Block.{Block}
use Rattle.fb_ast.specs.declared.stmt.Stmt.{Stmt}
use Rattle.parse_expr.specs.Reading.{first, next, is_word, same_word, sees_word, expect_word, Reader, Outcome, and_then, pure, take_token}
use Rattle.parse_expr.proofs.Sound.{Done, bind, by_test}
use Rattle.parse_expr.proofs.Ends.{Suffixes, no_longer}
use Rattle.parse_expr.proofs.Fills.{Failed, failed_then, failed_pure, map_failed}
use Rattle.parse_parts.specs.declared.kinds.Level.TheVariants as levels
use Rattle.parse_parts.specs.declared.kinds.InLine.TheVariants as lines
use Rattle.parse_parts.specs.declared.kinds.Spot.{Spot}
use Rattle.parse_parts.specs.declared.kinds.Closer.{Closer}
use Rattle.parse_parts.specs.declared.kinds.Closer.TheVariants as closers
use Rattle.parse_parts.specs.declared.kinds.ProcedureWord.{ProcedureWord}
use Rattle.parse_parts.specs.declared.kinds.ProcedureWord.TheVariants as words
use Rattle.parse_stmt.specs.declared.module.Found.{Found}
use Rattle.parse_parts.specs.Steps.{place_at, words_before, extra, sees_sep, repeat}
use Rattle.parse_parts.specs.Steps as steps
use Rattle.parse_stmt.specs.Blocks as b
use Rattle.parse_parts.specs.Heads as heads
use Rattle.parse_stmt.specs.Procedures as p
use Rattle.parse_expr.specs.Types as types
use Rattle.parse_parts.specs.Heads.{Opening}
use Rattle.parse_parts.specs.Members.{has_field, is_field, one_member, ended_member, member_turn, members, type_def}
use Rattle.parse_stmt.specs.Module.{declare, ended_by, ended_item, main_stmt, ended_stmt, procedure_word, item_by, one_item, more_items, item_turn, item_at, module_}
use Rattle.parse_stmt.specs.Phrases.{Phrase, gives, Then, either, word, sep}
use Rattle.parse_stmt.specs.Phrases as phrases
use Rattle.parse_stmt.specs.Statements as g
use Rattle.parse_stmt.specs.Statements.{end_of}
use Rattle.parse_stmt.specs.Texts.{Members, none, some, Items, blank, last}
use Rattle.parse_stmt.specs.Texts as texts
use Rattle.parse_stmt.proofs.Types.{MembersRead, members_sound}
use Rattle.parse_stmt.proofs.Procs.{given_declare, given_parts, begin_word, OpenedPhrase, PartsFrom, of_parts}
use Rattle.parse_stmt.proofs.Types.{given_type}
use Rattle.parse_stmt.proofs.Whole.{word_seen, item_within}
use Rattle.parse_stmt.proofs.Heads.{regroup}
use Rattle.parse_stmt.proofs.Stmts.{inside_of, suc_not}
use Rattle.parse_stmt.proofs.Ended.{AtToken}
use Rattle.parse_stmt.proofs.Bodies.{sep_less}
use Rattle.parse_stmt.proofs.Starts.{Reach, over, above, over_fits, starting, Starts, starts_more, starts_extra}
use Rattle.parse_stmt.proofs.Wides.{widened, wide_stmt, wide_procedure, wide_members, wide_type_def}
use Rattle.parse_stmt.proofs.Likes.{Like, Fits, any, Whatever, looks_sep, looks_word, like_then, like_either, like_sep, like_word, like_name}
use Rattle.parse_stmt.proofs.LikeParts.{done, like_end_of, SameCloser, like_sub_behind, like_function_behind, like_constructor, like_destructor, like_let, like_mark_operator, like_declare, like_member}
use Rattle.parse_stmt.proofs.LikeStmts.{stops, like_stmt, like_body, like_ended_by, like_procedure, like_members, like_with_field, like_type_def}
use Rattle.parse_stmt.proofs.Grows.{Begun, Grows, grows_gives, grows_then}
use Rattle.parse_stmt.proofs.GrowParts.{word_token, colon, a_name, grows_word, grows_sep, grows_name}
use Rattle.parse_stmt.proofs.GrowHeads.{grows_declared, grows_sub_behind, grows_function_behind, grows_constructor, grows_destructor, grows_operator_behind, grows_member}
use Rattle.parse_stmt.proofs.GrowBlocks.{OrCut, whole_begun, Closes, Least, first_least, failed_with, line_end, end_free, body_fails_or_cut, StmtFault, close_first, closing_made, body_stands}
use Rattle.parse_stmt.proofs.GrowLeads.{stmt_ends, stmt_fails}

any_read : {A : Type 0} (o : Outcome A) → Done (λ (a : A) rest. Unit {0}) o
any_read (Ok p) = tt
any_read (Err e) = tt

has_moved_by : (a b c : Bool) → (if a then true else b) ≡ true → (b ≡ true → c ≡ true) → (if a then true else c) ≡ true
has_moved_by true b c is more = refl
has_moved_by false b c is more = more is

has_by : (a b : Bool) → b ≡ true → (if a then true else b) ≡ true
has_by true b is = refl
has_by false b is = is

items_none : {most room : ℕ} → Items most room [] [] 0
items_none = texts.none

items_some : {most room : ℕ} (ts between : List Token) (q : Item × ℕ) (all : List Item) (n : ℕ) → texts.one_item most room ts q between → sees_sep lines.Free between ≡ true → Items most room (next between) all n → Items most room ts (q.0 ∷ all) (q.1 + n)
items_some ts between q all n is ends are = some ts between q all n is ends are

module _ {reach : Reach} where
  -- a token that is seen, and a phrase behind it with its place
  at_token_begun : {A : Type 0} (which : Word) (P : Span → Phrase A) (ts : List Token) → sees_word which ts ≡ true → (kind : FaultKind) (rest : List Token) → Begun reach (P (place_at ts)) any (next ts) kind rest → Begun reach (AtToken (sees_word which) P) any ts kind rest
  unfolding next place_at first
  at_token_begun which P [] is kind rest f = let bad : true ≡ false = sym is ∙ (looks_word which).nothing in cc
  at_token_begun which P (t ∷ ts) is kind rest f = record {
    front = t ∷ f.front;
    more = f.more;
    is = ap (λ (xs : List Token). t ∷ xs) f.is;
    stands = λ r c. let y = f.stands r c in let x = (f.front ++ f.more) ++ r in (y.0, record { given = t.at; between = t ∷ x; front = (refl, refl); back = record { given = tt; between = x; front = ((looks_word which).alone t x ts ∙ is, refl); back = y.1 } });
    starts = f.starts;
  }

  -- a phrase, and behind it one that has least tokens by what the first one stands for
  least_first : {A B : Type 0} {P : Phrase A} {R : A → A → Type 0} {K : A → Phrase B} {S : B → B → Type 0} → Like P P R any → ((a b : A) → R a b → Like (K a) (K b) S any) → ((a : A) → (m : List Token) × Least m (K a))
      → (ts : List Token) (kind : FaultKind) (rest : List Token) → Begun reach P any ts kind rest → Begun reach (Then P K) any ts kind rest
  least_first {P = P} {K = K} l m least ts kind rest f =
      let o = f.stands [] refl in
      let x = least o.0 in
      record {
        front = f.front;
        more = f.more ++ x.0;
        is = f.is;
        stands = λ r c.
            let n = l.moves (f.front ++ f.more) [] (x.0 ++ r) o.0 o.1 (inr refl) in
            let y = x.1 r in
            let z = (m o.0 n.0 n.2).moves x.0 r r y.0 y.1 (inl refl) in
            let same : (f.front ++ f.more) ++ (x.0 ++ r) ≡ (f.front ++ (f.more ++ x.0)) ++ r = sym (append_assoc (f.front ++ f.more) x.0 r) ∙ ap (λ (xs : List Token). xs ++ r) (append_assoc f.front f.more x.0) in
            (z.0, record { given = n.0; between = x.0 ++ r; front = subst (λ (xs : List Token). P xs n.0 (x.0 ++ r)) same n.1; back = z.1 });
        starts = starts_more reach kind rest f.more x.0 f.starts;
      }

module _ (reach : Reach) (deep room : ℕ) where
  abbrev most : ℕ
  most = suc deep

  abbrev wide : ℕ
  wide = over reach most

  abbrev high : ℕ
  high = above reach room

  fits : most ≤ wide
  fits = over_fits reach most

  -- ---- procedures

  abbrev Body : Phrase Block
  Body = g.body wide (g.stmt wide high) levels.Procedure lines.Free

  abbrev Ended : Closer → Phrase Block
  Ended closer = texts.ended_by wide high closer

  abbrev BodyEnd : Closer → Block → Phrase Block
  BodyEnd closer a = Then (end_of (texts.end_word closer)) (λ at. gives a)

  like_the_body : Like Body Body Whatever any
  like_the_body = like_body wide (g.stmt wide high) (like_stmt wide high) levels.Procedure lines.Free

  end_self : (closer : Closer) → is_word (texts.end_word closer) (kinds.Word (texts.end_word closer)) ≡ true
  unfolding same_word
  end_self closers.Sub = refl
  end_self closers.Function = refl
  end_self closers.Constructor = refl
  end_self closers.Destructor = refl
  end_self closer = refl

  body_end_closes : (closer : Closer) (a : Block) → Closes (word_token (texts.end_word closer) ∷ []) (BodyEnd closer a)
  body_end_closes closer a = closing_made (texts.end_word closer) (end_self closer) (λ at. a)

  -- the statements, and the End behind them
  body_fails : (closer : Closer) (ts : List Token) → Failed (Begun reach (Then Body (BodyEnd closer)) any ts) (and_then (p.statements most room closer ts) (λ a. λ us. and_then (take_token us) (λ u. λ vs. and_then (take_token vs) (λ x. pure a))))
  unfolding p.statements
  body_fails closer ts =
      failed_then (λ (a : Block) rest. Unit {0}) (Begun reach (Then Body (BodyEnd closer)) any ts) (b.body most (b.stmt most room) room levels.Procedure lines.Free closer ts) _ (any_read (b.body most (b.stmt most room) room levels.Procedure lines.Free closer ts))
      (map_failed (OrCut reach Body ts) (Begun reach (Then Body (BodyEnd closer)) any ts) (b.body most (b.stmt most room) room levels.Procedure lines.Free closer ts)
      (body_fails_or_cut reach deep (b.stmt most room) room (g.stmt most room) (inside_of deep room) (g.stmt wide high) (wide_stmt most wide fits reach room) (like_stmt wide high) (stmt_fails reach deep room) (stmt_ends reach wide room) levels.Procedure lines.Free closer end_free ts)
      (close_first (word_token (texts.end_word closer) ∷ []) (body_end_closes closer) ts))
      (λ a mid read. tt)

  -- the shortest body
  ended_least : (closer : Closer) → Least (colon ∷ word_token w.KwEnd ∷ word_token (texts.end_word closer) ∷ []) (Ended closer)
  unfolding sees_sep first next
  ended_least closer r =
      let z = word_token w.KwEnd ∷ word_token (texts.end_word closer) ∷ r in
      let y = body_stands wide (g.stmt wide high) levels.Procedure lines.Free z in
      let x = body_end_closes closer y.0 (word_token w.KwEnd) refl r in
      (x.0, record { given = tt; between = z; front = (refl, refl); back = record { given = y.0; between = z; front = y.1; back = x.1 } })

  behind_sep : (closer : Closer) → Least (word_token w.KwEnd ∷ word_token (texts.end_word closer) ∷ []) (Then Body (BodyEnd closer))
  behind_sep closer r =
      let z = word_token w.KwEnd ∷ word_token (texts.end_word closer) ∷ r in
      let y = body_stands wide (g.stmt wide high) levels.Procedure lines.Free z in
      let x = body_end_closes closer y.0 (word_token w.KwEnd) refl r in
      (x.0, record { given = y.0; between = z; front = y.1; back = x.1 })

  ended_fails : (closer : Closer) (ts : List Token) → Failed (Begun reach (Ended closer) any ts) (p.procedure_body most room closer ts)
  unfolding p.procedure_body
  ended_fails closer ts =
      failed_then (sep lines.Free ts) (Begun reach (Ended closer) any ts) (steps.sep lines.Free ts) _ ((grows_sep {reach = reach} lines.Free).sound ts)
      (map_failed (Begun reach (sep lines.Free) any ts) (Begun reach (Ended closer) any ts) (steps.sep lines.Free ts) ((grows_sep {reach = reach} lines.Free).fails ts)
      (first_least (word_token w.KwEnd ∷ word_token (texts.end_word closer) ∷ []) (λ u. behind_sep closer) ts))
      (λ u mid read. map_failed (Begun reach (Then Body (BodyEnd closer)) any mid) (Begun reach (Ended closer) any ts) _ (body_fails closer mid)
      (whole_begun (like_sep lines.Free) (λ x y r. like_then like_the_body (λ a c q. like_then (like_end_of (texts.end_word closer)) (λ h i j. done))) ts u mid read))

  -- a head, and its body
  abbrev Rest : Opening → Phrase (ProcedureKind × Block)
  Rest o = Then (Ended o.1) (λ a. gives (o.0, a))

  like_rest : (o q : Opening) → SameCloser o q → Like (Rest o) (Rest q) Whatever any
  like_rest o q same = like_then (subst (λ (c : Closer). Like (Ended o.1) (Ended c) Whatever any) same (like_ended_by wide high o.1)) (λ a c r. done)

  rest_least : (o : Opening) → (m : List Token) × Least m (Rest o)
  rest_least o = (colon ∷ word_token w.KwEnd ∷ word_token (texts.end_word o.1) ∷ [], λ r. let y = ended_least o.1 r in ((o.0, y.0), record { given = y.0; between = r; front = y.1; back = (refl, refl) }))

  rest_fails : (o : Opening) (ts : List Token) → Failed {A = ProcedureKind × Block} (Begun reach (Rest o) any ts) (and_then (p.procedure_body most room o.1 ts) (λ a. pure (o.0, a)))
  rest_fails o ts = failed_pure (Begun reach (Rest o) any ts) (p.procedure_body most room o.1 ts) (λ (a : Block). (o.0, a))
      (map_failed (Begun reach (Ended o.1) any ts) (Begun reach (Rest o) any ts) (p.procedure_body most room o.1 ts) (ended_fails o.1 ts)
      (λ kind rest f. record { front = f.front; more = f.more; is = f.is; stands = λ r c. let y = f.stands r c in ((o.0, y.0), record { given = y.0; between = r; front = y.1; back = (refl, refl) }); starts = f.starts }))

  grows_opened : (which : ProcedureWord) (at : Span) → Grows reach (heads.opened which at) (OpenedPhrase which at) any
  unfolding heads.sub_opened heads.function_opened
  grows_opened words.Sub at = grows_then grows_name like_name (λ n. grows_sub_behind at n) (λ n x r. like_sub_behind at at n x)
  grows_opened words.Function at = grows_then grows_name like_name (λ n. grows_function_behind at n) (λ n x r. like_function_behind at at n x)
  grows_opened words.Constructor at = grows_constructor at
  grows_opened words.Destructor at = grows_destructor at
  grows_opened words.Operator at = grows_operator_behind at

  like_opened : (which : ProcedureWord) (at bt : Span) → Like (OpenedPhrase which at) (OpenedPhrase which bt) SameCloser any
  like_opened words.Sub at bt = like_then like_name (λ n x r. like_sub_behind at bt n x)
  like_opened words.Function at bt = like_then like_name (λ n x r. like_function_behind at bt n x)
  like_opened words.Constructor at bt = like_constructor at bt
  like_opened words.Destructor at bt = like_destructor at bt
  like_opened words.Operator at bt = like_either (like_let at bt) (like_mark_operator at bt)

  abbrev Parts : ProcedureWord → Span → Phrase (ProcedureKind × Block)
  Parts which at = Then (OpenedPhrase which at) Rest

  parts_fail : (which : ProcedureWord) (at : Span) (ts : List Token) → Failed {A = ProcedureKind × Block} (Begun reach (Parts which at) any ts) (and_then (heads.opened which at ts) (λ o. λ us. and_then (p.procedure_body most room o.1 us) (λ a. pure (o.0, a))))
  parts_fail which at ts =
      failed_then (OpenedPhrase which at ts) (Begun reach (Parts which at) any ts) (heads.opened which at ts) _ ((grows_opened which at).sound ts)
      (map_failed (Begun reach (OpenedPhrase which at) any ts) (Begun reach (Parts which at) any ts) (heads.opened which at ts) ((grows_opened which at).fails ts) (least_first (like_opened which at at) like_rest rest_least ts))
      (λ o mid read. map_failed (Begun reach (Rest o) any mid) (Begun reach (Parts which at) any ts) _ (rest_fails o mid) (whole_begun (like_opened which at at) like_rest ts o mid read))

  procedure_fails : (which : ProcedureWord) (ts : List Token) → sees_word (begin_word which) ts ≡ true → Failed (Begun reach (texts.procedure wide high) any ts) (p.procedure most room which ts)
  unfolding p.procedure p.procedure_parts
  procedure_fails which ts is =
      failed_with (Begun reach (texts.procedure wide high) any ts) _ (λ (q : ProcedureKind × Block) (rest : List Token). item.Procedure (record { kind = q.0; body = q.1; tokens = words_before ts rest }))
      (map_failed (Begun reach (Parts which (place_at ts)) any (next ts)) (Begun reach (texts.procedure wide high) any ts) _ (parts_fail which (place_at ts) (next ts))
      (λ kind rest f.
      let d = at_token_begun (begin_word which) (Parts which) ts is kind rest f in
      record {
        front = d.front;
        more = d.more;
        is = d.is;
        stands = λ r c. let y = d.stands r c in (item.Procedure (record { kind = y.0.0; body = y.0.1; tokens = words_before ((d.front ++ d.more) ++ r) r }), (y.0, of_parts (over reach deep) high which ((d.front ++ d.more) ++ r) y.0 r y.1, refl));
        starts = d.starts;
      }))

  -- ---- Types

  abbrev a_field : List Token
  a_field = a_name ∷ word_token w.KwAs ∷ word_token w.KwInteger ∷ colon ∷ []

  -- members up to a fault, which can be completed to the members of a Type
  record MembersBegun (found : List Member) (ts : List Token) (kind : FaultKind) (rest : List Token) : Type 0 where
    front : List Token
    more : List Token
    is : ts ≡ front ++ rest
    starts : Starts reach kind rest more
    stands : (r : List Token) → (all : List Member) × Members wide ((front ++ more) ++ r) all r × (has_field (found ++ all) ≡ true)

  has_last : (found : List Member) (x : Member) (all : List Member) → has_field (x ∷ all) ≡ true → has_field (found ++ x ∷ all) ≡ true
  unfolding has_field
  has_last [] x all is = is
  has_last (y ∷ found) x all is = has_by (is_field y) (has_field (found ++ x ∷ all)) (has_last found x all is)

  has_field_behind : (x : Member) (all : List Member) → has_field all ≡ true → has_field (x ∷ all) ≡ true
  unfolding has_field
  has_field_behind x all is = has_by (is_field x) (has_field all) is

  -- the shortest field
  field_stands : (r : List Token) → (x : Member) × Members wide (a_field ++ r) (x ∷ []) r × (has_field (x ∷ []) ≡ true)
  unfolding sees_sep sees_word first next same_word has_field
  field_stands r =
      let n : Name = record { at = at_start; text = [] } in
      let t : TypeName = record { at = at_start; base = base.Num Integer; pointers = 0 } in
      let x : Member = member.Field n None t in
      let at_sep = colon ∷ r in
      let at_type = word_token w.KwInteger ∷ at_sep in
      let at_as = word_token w.KwAs ∷ at_type in (
        x,
        some (a_name ∷ at_as) at_sep r x []
            (inr (record {
              given = n;
              between = at_as;
              front = record { token = a_name; text = []; is = refl; kind = refl; named = refl };
              back = record {
                given = None;
                between = at_as;
                front = inr (refl, refl);
                back = record {
                  given = tt;
                  between = at_type;
                  front = (refl, refl);
                  back = record { given = t; between = at_sep; front = (word_token w.KwInteger ∷ [], refl, written (word_token w.KwInteger) (base.Num Integer) [] refl tt); back = (refl, refl) };
                };
              };
            }))
            refl (none r),
        refl,
      )

  members_at_once : (found : List Member) (ts : List Token) → MembersBegun found ts Expected ts
  members_at_once found ts = record { front = []; more = a_field; is = refl; starts = tt; stands = λ r. let y = field_stands r in (y.0 ∷ [], y.1, has_last found y.0 [] y.2) }

  -- a member up to a fault
  member_begun : (found : List Member) (ts : List Token) (kind : FaultKind) (rest : List Token) → Begun reach (texts.one_member wide) any ts kind rest → MembersBegun found ts kind rest
  unfolding sees_sep first next
  member_begun found ts kind rest f = record {
    front = f.front;
    more = f.more ++ (colon ∷ a_field);
    is = f.is;
    starts = starts_more reach kind rest f.more (colon ∷ a_field) f.starts;
    stands = λ r.
        let z = colon ∷ (a_field ++ r) in
        let y = f.stands z refl in
        let x = field_stands r in
        let same : (f.front ++ f.more) ++ z ≡ (f.front ++ (f.more ++ (colon ∷ a_field))) ++ r = sym (append_assoc (f.front ++ f.more) (colon ∷ a_field) r) ∙ ap (λ (xs : List Token). xs ++ r) (append_assoc f.front f.more (colon ∷ a_field)) in
        (y.0 ∷ x.0 ∷ [], some ((f.front ++ (f.more ++ (colon ∷ a_field))) ++ r) z r y.0 (x.0 ∷ []) (subst (λ (xs : List Token). texts.one_member wide xs y.0 z) same y.1) refl x.1, has_last found y.0 (x.0 ∷ []) (has_field_behind y.0 (x.0 ∷ []) x.2));
  }

  -- a member without its end
  member_unended : (found : List Member) (ts : List Token) (x : Member) (mid : List Token) → texts.one_member wide ts x mid → MembersBegun found ts (extra mid) mid
  unfolding sees_sep first next
  member_unended found ts x mid is =
      let s = (like_member wide).within ts x mid is in
      record {
        front = s.front;
        more = colon ∷ a_field;
        is = s.is;
        starts = starts_extra reach mid colon a_field (inl refl);
        stands = λ r.
            let z = colon ∷ (a_field ++ r) in
            let n = (like_member wide).moves s.front mid z x (subst (λ (xs : List Token). texts.one_member wide xs x mid) s.is is) (inr refl) in
            let y = field_stands r in
            let same : s.front ++ z ≡ (s.front ++ (colon ∷ a_field)) ++ r = sym (append_assoc s.front (colon ∷ a_field) r) in
            (n.0 ∷ y.0 ∷ [], some ((s.front ++ (colon ∷ a_field)) ++ r) z r n.0 (y.0 ∷ []) (subst (λ (xs : List Token). texts.one_member wide xs n.0 z) same n.1) refl y.1, has_last found n.0 (y.0 ∷ []) (has_field_behind n.0 (y.0 ∷ []) y.2));
      }

  has_moved : (found : List Member) (x y : Member) (all : List Member) → is_field x ≡ is_field y → has_field ((found ++ x ∷ []) ++ all) ≡ true → has_field (found ++ y ∷ all) ≡ true
  unfolding has_field
  has_moved [] x y all same is = ap (λ (b : Bool). if b then true else has_field all) (sym same) ∙ is
  has_moved (z ∷ found) x y all same is = has_moved_by (is_field z) (has_field ((found ++ x ∷ []) ++ all)) (has_field (found ++ y ∷ all)) is (λ tail. has_moved found x y all same tail)

  member_behind : (found : List Member) (ts : List Token) (x : Member) (mid : List Token) → texts.one_member wide ts x mid → sees_sep lines.Free mid ≡ true → (kind : FaultKind) (rest : List Token) → MembersBegun (found ++ x ∷ []) (next mid) kind rest → MembersBegun found ts kind rest
  unfolding next first
  member_behind found ts x [] is it kind rest f = let bad : true ≡ false = sym it ∙ (looks_sep lines.Free).nothing in cc
  member_behind found ts x (c ∷ mid) is it kind rest f =
      let s = (like_member wide).within ts x (c ∷ mid) is in
      record {
        front = s.front ++ c ∷ f.front;
        more = f.more;
        is = s.is ∙ ap (λ (xs : List Token). s.front ++ c ∷ xs) f.is ∙ sym (append_assoc s.front (c ∷ f.front) rest);
        starts = f.starts;
        stands = λ r.
            let y = f.stands r in
            let z = (f.front ++ f.more) ++ r in
            let n = (like_member wide).moves s.front (c ∷ mid) (c ∷ z) x (subst (λ (xs : List Token). texts.one_member wide xs x (c ∷ mid)) s.is is) (inl refl) in
            let same : s.front ++ (c ∷ z) ≡ ((s.front ++ c ∷ f.front) ++ f.more) ++ r = sym (append_assoc s.front (c ∷ (f.front ++ f.more)) r) ∙ ap (λ (xs : List Token). xs ++ r) (sym (append_assoc s.front (c ∷ f.front) f.more)) in
            (n.0 ∷ y.0, some (((s.front ++ c ∷ f.front) ++ f.more) ++ r) (c ∷ z) r n.0 y.0 (subst (λ (xs : List Token). texts.one_member wide xs n.0 (c ∷ z)) same n.1) ((looks_sep lines.Free).alone c z mid ∙ it) y.1, has_moved found x n.0 y.0 n.2 y.2);
      }

  abbrev more_members : ℕ → List Member × Bool → Reader (List Member)
  more_members n q = if q.1 then repeat (member_turn most) n q.0 else pure q.0

  members_fail : (n : ℕ) (found : List Member) (ts : List Token) → length ts < n → Failed (MembersBegun found ts) (repeat (member_turn most) n found ts)
  unfolding repeat member_turn ended_member steps.sep
  members_fail zero found ts less = absurd (omega arith)
  members_fail (suc n) found ts less =
      by_test (λ (o : Outcome (List Member × Bool)). Failed (MembersBegun found ts) (and_then o (more_members n))) (sees_word w.KwEnd ts) _ _
      (λ is. by_test (λ (o : Outcome (List Member × Bool)). Failed (MembersBegun found ts) (and_then o (more_members n))) (has_field found) _ _ (λ has. tt) (λ has_none. members_at_once found ts))
      (λ is. subst (λ (o : Outcome (List Member)). Failed (MembersBegun found ts) o) (regroup (one_member most ts) (ended_member found) (more_members n))
      (failed_then (texts.one_member wide ts) (MembersBegun found ts) (one_member most ts) (λ x mid. and_then (ended_member found x mid) (more_members n)) ((grows_member reach deep).sound ts)
      (map_failed (Begun reach (texts.one_member wide) any ts) (MembersBegun found ts) (one_member most ts) ((grows_member reach deep).fails ts) (member_begun found ts))
      (λ x mid read. by_test (λ (o : Outcome (Unit {0})). Failed (MembersBegun found ts) (and_then (and_then o (λ u. pure (found ++ x ∷ [], true))) (more_members n))) (sees_sep lines.Free mid) _ _
      (λ it.
      let within = no_longer ((like_member wide).within ts x mid read) in
      let shorter = sep_less lines.Free mid it in
      map_failed (MembersBegun (found ++ x ∷ []) (next mid)) (MembersBegun found ts) (repeat (member_turn most) n (found ++ x ∷ []) (next mid)) (members_fail n (found ++ x ∷ []) (next mid) (omega arith)) (member_behind found ts x mid read it))
      (λ it. member_unended found ts x mid read))))

  -- what is behind the members
  abbrev TypeEnd : Span → Name → List Member → Phrase Item
  TypeEnd at n all = Then (texts.with_field all) (λ u. Then (word w.KwEnd) (λ v. Then (word w.KwType) (λ x. gives (item.Type at n all))))

  abbrev TypeRest : Span → Name → Phrase Item
  TypeRest at n = Then (Members wide) (TypeEnd at n)

  abbrev end_reader : Span → Name → List Member → Reader Item
  end_reader at n all = λ us. and_then (expect_word w.KwEnd us) (λ v. λ vs. and_then (expect_word w.KwType vs) (λ x. pure (item.Type at n all)))

  like_type_end : (at bt : Span) (n m : Name) (a c : List Member) → has_field a ≡ has_field c → Like (TypeEnd at n a) (TypeEnd bt m c) Whatever any
  like_type_end at bt n m a c same = like_then (like_with_field wide a c same) (λ u v r. like_then (like_word w.KwEnd) (λ x y q. like_then (like_word w.KwType) (λ h i j. done)))

  like_type_rest : (at bt : Span) (n m : Name) → Like (TypeRest at n) (TypeRest bt m) Whatever any
  like_type_rest at bt n m = like_then (like_members wide) (λ a c same. like_type_end at bt n m a c same)

  abbrev type_closed : List Token
  type_closed = word_token w.KwEnd ∷ word_token w.KwType ∷ []

  type_end_stands : (at : Span) (n : Name) (all : List Member) → has_field all ≡ true → (r : List Token) → (x : Item) × TypeEnd at n all (type_closed ++ r) x r
  unfolding sees_word first next same_word
  type_end_stands at n all has r = (
    item.Type at n all,
    record {
      given = tt;
      between = type_closed ++ r;
      front = (has, refl);
      back = record { given = tt; between = word_token w.KwType ∷ r; front = (refl, refl); back = record { given = tt; between = r; front = (refl, refl); back = (refl, refl) } };
    },
  )

  members_first : (at : Span) (n : Name) (ts : List Token) (kind : FaultKind) (rest : List Token) → MembersBegun [] ts kind rest → Begun reach (TypeRest at n) any ts kind rest
  members_first at n ts kind rest f = record {
    front = f.front;
    more = f.more ++ type_closed;
    is = f.is;
    stands = λ r c.
        let z = type_closed ++ r in
        let y = f.stands z in
        let x = type_end_stands at n y.0 y.2 r in
        let same : (f.front ++ f.more) ++ z ≡ (f.front ++ (f.more ++ type_closed)) ++ r = sym (append_assoc (f.front ++ f.more) type_closed r) ∙ ap (λ (xs : List Token). xs ++ r) (append_assoc f.front f.more type_closed) in
        (x.0, record { given = y.0; between = z; front = subst (λ (xs : List Token). Members wide xs y.0 z) same y.1; back = x.1 });
    starts = starts_more reach kind rest f.more type_closed f.starts;
  }

  -- End and Type, behind members of which one is a field
  abbrev Closing : Span → Name → List Member → Phrase Item
  Closing at n all = Then (word w.KwEnd) (λ v. Then (word w.KwType) (λ x. gives (item.Type at n all)))

  grows_closing : (at : Span) (n : Name) (all : List Member) → Grows reach (end_reader at n all) (Closing at n all) any
  unfolding same_word
  grows_closing at n all = (grows_then (grows_word w.KwEnd refl) (like_word w.KwEnd)
      (λ v. grows_then (grows_word w.KwType refl) (like_word w.KwType)
      (λ x. grows_gives _ any)
      (λ x2 y2 r2. done))
      (λ x1 y1 r1. like_then (like_word w.KwType) (λ x3 y3 r3. done)))

  with_field_begun : (at : Span) (n : Name) (all : List Member) → has_field all ≡ true → (ts : List Token) (kind : FaultKind) (rest : List Token) → Begun reach (Closing at n all) any ts kind rest → Begun reach (TypeEnd at n all) any ts kind rest
  with_field_begun at n all has ts kind rest f = record { front = f.front; more = f.more; is = f.is; stands = λ r c. let y = f.stands r c in (y.0, record { given = tt; between = (f.front ++ f.more) ++ r; front = (has, refl); back = y.1 }); starts = f.starts }

  all_read : (ts : List Token) (all : List Member) (mid : List Token) → MembersRead deep [] ts all mid → Members most ts all mid
  all_read ts all mid read = rw (read.is) (read.are)

  type_rest_fails : (at : Span) (n : Name) (ts : List Token) → Failed (Begun reach (TypeRest at n) any ts) (and_then (members most ts) (end_reader at n))
  unfolding members
  type_rest_fails at n ts =
      failed_then (MembersRead deep [] ts) (Begun reach (TypeRest at n) any ts) (repeat (member_turn most) (length ts + 1) [] ts) (end_reader at n) (members_sound deep (length ts + 1) [] ts)
      (map_failed (MembersBegun [] ts) (Begun reach (TypeRest at n) any ts) (repeat (member_turn most) (length ts + 1) [] ts) (members_fail (length ts + 1) [] ts (omega arith)) (members_first at n ts))
      (λ all mid read. map_failed (Begun reach (Closing at n all) any mid) (Begun reach (TypeRest at n) any ts) (end_reader at n all mid) ((grows_closing at n all).fails mid)
      (λ kind rest f. whole_begun (like_members wide) (λ a c same. like_type_end at at n n a c same) ts all mid ((wide_members most wide fits).to ts all mid (all_read ts all mid read)) kind rest (with_field_begun at n all read.field mid kind rest f)))

  type_least : (at : Span) (n : Name) (r : List Token) → (x : Item) × TypeRest at n ((a_field ++ type_closed) ++ r) x r
  type_least at n r = let z = type_closed ++ r in let y = field_stands z in let x = type_end_stands at n (y.0 ∷ []) y.2 r in (x.0, record { given = y.0 ∷ []; between = z; front = y.1; back = x.1 })

  abbrev TypeBehind : Span → Phrase Item
  TypeBehind at = Then phrases.name (λ n. Then (sep lines.Free) (λ u. TypeRest at n))

  sep_rest_least : (at : Span) (n : Name) → Least (colon ∷ (a_field ++ type_closed)) (Then (sep lines.Free) (λ (u : Unit {0}). TypeRest at n))
  unfolding sees_sep first next
  sep_rest_least at n r = let y = type_least at n r in (y.0, record { given = tt; between = (a_field ++ type_closed) ++ r; front = (refl, refl); back = y.1 })

  type_behind_fails : (at : Span) (ts : List Token) → Failed (Begun reach (TypeBehind at) any ts) (and_then (types.name ts) (λ n. λ us. and_then (steps.sep lines.Free us) (λ u. λ vs. and_then (members most vs) (end_reader at n))))
  type_behind_fails at ts =
      failed_then (phrases.name ts) (Begun reach (TypeBehind at) any ts) (types.name ts) _ ((grows_name {reach = reach}).sound ts)
      (map_failed (Begun reach phrases.name any ts) (Begun reach (TypeBehind at) any ts) (types.name ts) ((grows_name {reach = reach}).fails ts) (first_least (colon ∷ (a_field ++ type_closed)) (λ n. sep_rest_least at n) ts))
      (λ n mid read. map_failed (Begun reach (Then (sep lines.Free) (λ u. TypeRest at n)) any mid) (Begun reach (TypeBehind at) any ts) _
      (failed_then (sep lines.Free mid) (Begun reach (Then (sep lines.Free) (λ u. TypeRest at n)) any mid) (steps.sep lines.Free mid) _ ((grows_sep {reach = reach} lines.Free).sound mid)
      (map_failed (Begun reach (sep lines.Free) any mid) (Begun reach (Then (sep lines.Free) (λ u. TypeRest at n)) any mid) (steps.sep lines.Free mid) ((grows_sep {reach = reach} lines.Free).fails mid) (first_least (a_field ++ type_closed) (λ u. type_least at n) mid))
      (λ u m2 ended. map_failed (Begun reach (TypeRest at n) any m2) (Begun reach (Then (sep lines.Free) (λ x. TypeRest at n)) any mid) _ (type_rest_fails at n m2) (whole_begun (like_sep lines.Free) (λ x y r. like_type_rest at at n n) mid u m2 ended)))
      (whole_begun like_name (λ n m r. like_then (like_sep lines.Free) (λ u v q. like_type_rest at at n m)) ts n mid read))

  type_fails : (ts : List Token) → sees_word w.KwType ts ≡ true → Failed (Begun reach (texts.type_def wide) any ts) (type_def most ts)
  unfolding type_def
  type_fails ts is = map_failed (Begun reach (TypeBehind (place_at ts)) any (next ts)) (Begun reach (texts.type_def wide) any ts) _ (type_behind_fails (place_at ts) (next ts)) (at_token_begun w.KwType TypeBehind ts is)

  -- ---- Declares

  abbrev DeclareBehind : Span → Phrase Item
  DeclareBehind at = either (Then (word w.KwOperator) (λ (u : Unit {0}). texts.declared_operator at)) (Then texts.declared_head (λ h. gives (item.Declare at h)))

  declare_fails : (ts : List Token) → sees_word w.KwDeclare ts ≡ true → Failed (Begun reach texts.declare any ts) (declare ts)
  unfolding declare
  declare_fails ts is = map_failed (Begun reach (DeclareBehind (place_at ts)) any (next ts)) (Begun reach texts.declare any ts) _ ((grows_declared (place_at ts)).fails (next ts)) (at_token_begun w.KwDeclare DeclareBehind ts is)

  -- ---- the text

  -- tokens up to a fault, which can be completed to a text
  pub record TextBegun (ts : List Token) (kind : FaultKind) (rest : List Token) : Type 0 where
    pub front : List Token
    pub more : List Token
    pub is : ts ≡ front ++ rest
    pub all : List Item
    pub count : ℕ
    pub are : Items wide high (front ++ more) all count
    pub starts : Starts reach kind rest more

  abbrev One : Phrase (Item × ℕ)
  One = texts.one_item wide high

  one_within : (ts : List Token) (q : Item × ℕ) (rest : List Token) → One ts q rest → Suffixes rest ts
  one_within ts q rest o = item_within (over reach deep) high ts q rest o

  one_moves : (front mid new : List Token) (q : Item × ℕ) → One (front ++ mid) q mid → Fits (stops lines.Free) mid new → (z : Item × ℕ) × One (front ++ new) z new × Unit {0}
  one_moves front mid new q (inl (is, inl t)) f = let m = like_declare.moves front mid new q.0 t (inr refl) in ((m.0, 0), inl (refl, inl m.1), tt)
  one_moves front mid new q (inl (is, inr (inl t))) f = let m = (like_type_def wide).moves front mid new q.0 t (inr refl) in ((m.0, 0), inl (refl, inr (inl m.1)), tt)
  one_moves front mid new q (inl (is, inr (inr t))) f = let m = (like_procedure wide high).moves front mid new q.0 t (inr refl) in ((m.0, 0), inl (refl, inr (inr m.1)), tt)
  one_moves front mid new q (inr (x, t, is)) f = let m = (like_stmt wide (suc high) levels.Module lines.Free).moves front mid new x t f in ((item.Stmt m.0, words_before (front ++ new) new), inr (m.0, m.1, refl), tt)

  like_one : Like One One Whatever (stops lines.Free)
  like_one = record { within = one_within; moves = one_moves }

  -- an item up to a fault ends the text
  item_begun : (ts : List Token) (kind : FaultKind) (rest : List Token) → Begun reach One (stops lines.Free) ts kind rest → TextBegun ts kind rest
  item_begun ts kind rest f =
      let y = f.stands [] refl in
      record { front = f.front; more = f.more; is = f.is; all = y.0.0 ∷ []; count = y.0.1; are = last (f.front ++ f.more) y.0 (subst (λ (xs : List Token). One xs y.0 []) (append-nil (f.front ++ f.more)) y.1); starts = f.starts }

  -- an item without its end
  item_unended : (ts : List Token) (q : Item × ℕ) (mid : List Token) → One ts q mid → TextBegun ts (extra mid) mid
  unfolding sees_sep first next
  item_unended ts q mid is =
      let s = one_within ts q mid is in
      let z = line_end ∷ [] in
      let n = one_moves s.front mid z q (subst (λ (xs : List Token). One xs q mid) s.is is) (inr refl) in
      record { front = s.front; more = z; is = s.is; all = n.0.0 ∷ []; count = n.0.1 + 0; are = items_some (s.front ++ z) z n.0 [] 0 n.1 refl items_none; starts = starts_extra reach mid line_end [] (inr refl) }

  item_behind : (ts : List Token) (q : Item × ℕ) (mid : List Token) → One ts q mid → sees_sep lines.Free mid ≡ true → (kind : FaultKind) (rest : List Token) → TextBegun (next mid) kind rest → TextBegun ts kind rest
  unfolding next first
  item_behind ts q [] is it kind rest f = let bad : true ≡ false = sym it ∙ (looks_sep lines.Free).nothing in cc
  item_behind ts q (c ∷ mid) is it kind rest f =
      let s = one_within ts q (c ∷ mid) is in
      let z = f.front ++ f.more in
      let n = one_moves s.front (c ∷ mid) (c ∷ z) q (subst (λ (xs : List Token). One xs q (c ∷ mid)) s.is is) (inl refl) in
      let same : s.front ++ (c ∷ z) ≡ (s.front ++ c ∷ f.front) ++ f.more = sym (append_assoc s.front (c ∷ f.front) f.more) in
      record {
        front = s.front ++ c ∷ f.front;
        more = f.more;
        is = s.is ∙ ap (λ (xs : List Token). s.front ++ c ∷ xs) f.is ∙ sym (append_assoc s.front (c ∷ f.front) rest);
        all = n.0.0 ∷ f.all;
        count = n.0.1 + f.count;
        are = items_some ((s.front ++ c ∷ f.front) ++ f.more) (c ∷ z) n.0 f.all f.count (subst (λ (xs : List Token). One xs n.0 (c ∷ z)) same n.1) ((looks_sep lines.Free).alone c z mid ∙ it) f.are;
        starts = f.starts;
      }

  blank_behind : (ts : List Token) → sees_sep lines.Free ts ≡ true → (kind : FaultKind) (rest : List Token) → TextBegun (next ts) kind rest → TextBegun ts kind rest
  unfolding next
  blank_behind [] is kind rest f = let bad : true ≡ false = sym is ∙ (looks_sep lines.Free).nothing in cc
  blank_behind (t ∷ ts) is kind rest f = record {
    front = t ∷ f.front;
    more = f.more;
    is = ap (λ (xs : List Token). t ∷ xs) f.is;
    all = f.all;
    count = f.count;
    are = blank (t ∷ (f.front ++ f.more)) f.all f.count ((looks_sep lines.Free).alone t (f.front ++ f.more) ts ∙ is) f.are;
    starts = f.starts;
  }

  abbrev more_items_on : ℕ → Found × Bool → Reader Found
  more_items_on n q = if q.1 then repeat (item_turn most room) n q.0 else pure q.0

  -- what follows an item that is read
  abbrev Again : ℕ → Type 0
  Again n = (found : Found) (ts : List Token) → length ts < n → Failed (TextBegun ts) (repeat (item_turn most room) n found ts)

  -- nothing follows at the end of the text
  at_text_end : (n : ℕ) → 1 ≤ n → (ts mid : List Token) → first mid ≡ None → (found : Found) → Failed (TextBegun ts) (repeat (item_turn most room) n found mid)
  unfolding repeat item_turn first
  at_text_end zero any_left ts mid e found = absurd (omega arith)
  at_text_end (suc n) any_left ts [] e found = tt
  at_text_end (suc n) any_left ts (t ∷ mid) e found = cc

  ended_on : (n : ℕ) → Again n → (ts : List Token) → length ts ≤ n → 1 ≤ n → (q : Item × ℕ) (mid : List Token) → One ts q mid → (found : Found) → (o : Option Token) → first mid ≡ o → Failed (TextBegun ts) (and_then (and_then (ended_by o mid) (λ u. pure (found, true))) (more_items_on n))
  unfolding steps.sep
  ended_on n again ts less any_left q mid is found None none_there = at_text_end n any_left ts mid none_there found
  ended_on n again ts less any_left q mid is found (Some t) it =
      by_test (λ (o : Outcome (Unit {0})). Failed (TextBegun ts) (and_then (and_then o (λ u. pure (found, true))) (more_items_on n))) (sees_sep lines.Free mid) _ _
      (λ sep_there.
      let within = no_longer (one_within ts q mid is) in
      let shorter = sep_less lines.Free mid sep_there in
      map_failed (TextBegun (next mid)) (TextBegun ts) (repeat (item_turn most room) n found (next mid)) (again found (next mid) (omega arith)) (item_behind ts q mid is sep_there))
      (λ apart. item_unended ts q mid is)

  -- what is read of an item, and its end
  kept : {A : Type 0} (n : ℕ) → Again n → (ts : List Token) → length ts ≤ n → 1 ≤ n → (read : Outcome A) (Q : A → List Token → Type 0) (adds : A → Found) → Done Q read → ((x : A) (mid : List Token) → Q x mid → (q : Item × ℕ) × One ts q mid) → Failed (TextBegun ts) read
      → Failed (TextBegun ts) (and_then (and_then read (λ x. λ mid. and_then (ended_by (first mid) mid) (λ u. pure (adds x, true)))) (more_items_on n))
  kept n again ts less any_left read Q adds done_there to_one fails =
      subst (λ (o : Outcome Found). Failed (TextBegun ts) o) (regroup read (λ x. λ mid. and_then (ended_by (first mid) mid) (λ u. pure (adds x, true))) (more_items_on n))
      (failed_then Q (TextBegun ts) read (λ x mid. and_then (and_then (ended_by (first mid) mid) (λ u. pure (adds x, true))) (more_items_on n)) done_there fails
      (λ x mid t. let o = to_one x mid t in ended_on n again ts less any_left o.0 mid o.1 (adds x) (first mid) refl))

  declare_begun : (ts : List Token) (kind : FaultKind) (rest : List Token) → Begun reach texts.declare any ts kind rest → TextBegun ts kind rest
  declare_begun ts kind rest f = item_begun ts kind rest (record { front = f.front; more = f.more; is = f.is; stands = λ r c. let y = f.stands r refl in ((y.0, 0), inl (refl, inl y.1)); starts = f.starts })

  type_begun : (ts : List Token) (kind : FaultKind) (rest : List Token) → Begun reach (texts.type_def wide) any ts kind rest → TextBegun ts kind rest
  type_begun ts kind rest f = item_begun ts kind rest (record { front = f.front; more = f.more; is = f.is; stands = λ r c. let y = f.stands r refl in ((y.0, 0), inl (refl, inr (inl y.1))); starts = f.starts })

  procedure_begun : (ts : List Token) (kind : FaultKind) (rest : List Token) → Begun reach (texts.procedure wide high) any ts kind rest → TextBegun ts kind rest
  procedure_begun ts kind rest f = item_begun ts kind rest (record { front = f.front; more = f.more; is = f.is; stands = λ r c. let y = f.stands r refl in ((y.0, 0), inl (refl, inr (inr y.1))); starts = f.starts })

  abbrev main_phrase : Phrase Stmt
  main_phrase = g.stmt wide (suc high) levels.Module lines.Free

  abbrev main_spot : Spot
  main_spot = record { level = levels.Module; line = lines.Free; other = ExtraText }

  -- a line end in place of what begins nothing
  blank_begun : (ts : List Token) → TextBegun ts ExtraText ts
  unfolding sees_sep first next
  blank_begun ts = record { front = []; more = line_end ∷ []; is = refl; all = []; count = 0; are = blank (line_end ∷ []) [] 0 refl items_none; starts = starting line_end [] (inr refl) }

  stmt_begun : (ts : List Token) (kind : FaultKind) (rest : List Token) → StmtFault reach main_phrase lines.Free (suc room) ExtraText ts kind rest → TextBegun ts kind rest
  stmt_begun ts kind rest (inl f) = item_begun ts kind rest (record { front = f.front; more = f.more; is = f.is; stands = λ r c. let y = f.stands r c in let whole = (f.front ++ f.more) ++ r in ((item.Stmt y.0, words_before whole r), inr (y.0, y.1, refl)); starts = f.starts })
  stmt_begun ts kind rest (inr (inl n)) = let bad : true ≡ false = sym n.0 ∙ suc_not room in cc
  stmt_begun ts kind rest (inr (inr e)) = subst (λ (xs : List Token). TextBegun ts kind xs) (sym e.0) (subst (λ (k : FaultKind). TextBegun ts k ts) (sym e.1) (blank_begun ts))

  main_fails : (ts : List Token) → Failed (TextBegun ts) (main_stmt most room ts)
  unfolding main_stmt
  main_fails ts =
      failed_with (TextBegun ts) (b.stmt most (suc room) main_spot ts) (λ (x : Stmt) (rest : List Token). (x, words_before ts rest))
      (map_failed (StmtFault reach main_phrase lines.Free (suc room) ExtraText ts) (TextBegun ts) (b.stmt most (suc room) main_spot ts) (stmt_fails reach deep (suc room) main_spot ts) (stmt_begun ts))

  main_sound : (ts : List Token) → Done (λ (q : Stmt × ℕ) rest. main_phrase ts q.0 rest × (q.1 ≡ words_before ts rest)) (main_stmt most room ts)
  unfolding main_stmt
  main_sound ts = bind (main_phrase ts) (λ (q : Stmt × ℕ) rest. main_phrase ts q.0 rest × (q.1 ≡ words_before ts rest)) (b.stmt most (suc room) main_spot ts) _ (widened (wide_stmt most wide fits reach (suc room) levels.Module lines.Free) ts (b.stmt most (suc room) main_spot ts) (((inside_of deep (suc room)).exact levels.Module lines.Free ExtraText).sound ts)) (λ x rest t. (t, refl))

  procedure_sound : (which : ProcedureWord) (ts : List Token) → procedure_word ts ≡ Some which → Done (texts.procedure wide high ts) (p.procedure most room which ts)
  unfolding p.procedure
  procedure_sound which ts is =
      widened (wide_procedure most wide fits reach room) ts (p.procedure most room which ts)
      (bind (PartsFrom deep room which ts) (λ (x : Item) rest. texts.procedure most room ts x rest) (p.procedure_parts most room which ts) _ ((given_parts deep room which).sound ts (word_seen ts which is)) (λ q rest t. (q, of_parts deep room which ts q rest t, refl)))

  abbrev adds_item : Found → Item → Found
  adds_item found x = record { items = found.items ++ x ∷ []; tokens = found.tokens }

  abbrev adds_stmt : Found → Stmt × ℕ → Found
  adds_stmt found x = record { items = found.items ++ item.Stmt x.0 ∷ []; tokens = found.tokens + x.1 }

  by_word : (n : ℕ) → Again n → (found : Found) (ts : List Token) → length ts ≤ n → 1 ≤ n → (o : Option ProcedureWord) → procedure_word ts ≡ o → Failed (TextBegun ts) (and_then (item_by most room found o ts) (more_items_on n))
  unfolding ended_stmt ended_item
  by_word n again found ts less any_left None is =
      kept n again ts less any_left (main_stmt most room ts) (λ (q : Stmt × ℕ) rest. main_phrase ts q.0 rest × (q.1 ≡ words_before ts rest)) (adds_stmt found) (main_sound ts)
      (λ q mid t. ((item.Stmt q.0, words_before ts mid), inr (q.0, t.0, refl))) (main_fails ts)
  by_word n again found ts less any_left (Some which) is =
      kept n again ts less any_left (p.procedure most room which ts) (texts.procedure wide high ts) (adds_item found) (procedure_sound which ts is)
      (λ x mid t. ((x, 0), inl (refl, inr (inr t))))
      (map_failed (Begun reach (texts.procedure wide high) any ts) (TextBegun ts) (p.procedure most room which ts) (procedure_fails which ts (word_seen ts which is)) (procedure_begun ts))

  one_fails : (n : ℕ) → Again n → (found : Found) (ts : List Token) → length ts ≤ n → 1 ≤ n → Failed (TextBegun ts) (and_then (one_item most room found ts) (more_items_on n))
  unfolding one_item ended_item
  one_fails n again found ts less any_left =
      by_test (λ (o : Outcome (Found × Bool)). Failed (TextBegun ts) (and_then o (more_items_on n))) (sees_word w.KwDeclare ts) _ _
      (λ is. kept n again ts less any_left (declare ts) (texts.declare ts) (adds_item found) (given_declare.sound ts is) (λ x mid t. ((x, 0), inl (refl, inl t)))
      (map_failed (Begun reach texts.declare any ts) (TextBegun ts) (declare ts) (declare_fails ts is) (declare_begun ts)))
      (λ apart. by_test (λ (o : Outcome (Found × Bool)). Failed (TextBegun ts) (and_then o (more_items_on n))) (sees_word w.KwType ts) _ _
      (λ is. kept n again ts less any_left (type_def most ts) (texts.type_def wide ts) (adds_item found) (widened (wide_type_def most wide fits) ts (type_def most ts) ((given_type deep).sound ts is)) (λ x mid t. ((x, 0), inl (refl, inr (inl t))))
      (map_failed (Begun reach (texts.type_def wide) any ts) (TextBegun ts) (type_def most ts) (type_fails ts is) (type_begun ts)))
      (λ other. by_word n again found ts less any_left (procedure_word ts) refl))

  some_there : (ts : List Token) (t : Token) → first ts ≡ Some t → 1 ≤ length ts
  unfolding first
  some_there [] t is = cc
  some_there (u ∷ ts) t is = omega arith

  at_first : (n : ℕ) → Again n → (found : Found) (ts : List Token) → length ts ≤ n → (o : Option Token) → first ts ≡ o → Failed (TextBegun ts) (and_then (item_at most room found o ts) (more_items_on n))
  unfolding more_items
  at_first n again found ts less None e = tt
  at_first n again found ts less (Some t) e =
      let any_left = some_there ts t e in
      by_test (λ (o : Outcome (Found × Bool)). Failed (TextBegun ts) (and_then o (more_items_on n))) (sees_sep lines.Free ts) _ _
      (λ is.
      let shorter = sep_less lines.Free ts is in
      map_failed (TextBegun (next ts)) (TextBegun ts) (repeat (item_turn most room) n found (next ts)) (again found (next ts) (omega arith)) (blank_behind ts is))
      (λ apart. one_fails n again found ts less (omega arith))

  pub items_fail : (n : ℕ) → Again n
  unfolding repeat item_turn
  items_fail zero found ts less = absurd (omega arith)
  items_fail (suc n) found ts less = at_first n (items_fail n) found ts (omega arith) (first ts) refl

  pub module_fails : (ts : List Token) → Failed (TextBegun ts) (module_ most room ts)
  unfolding module_
  module_fails ts = items_fail (length ts + 1) (record { items = []; tokens = 0 }) ts (omega arith)
