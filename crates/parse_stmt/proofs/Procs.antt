-- Procedures and Types are read exactly.
use Rattle.std.proofs.Common.{◌≡◌, ℕ, suc, Bool, true, false, if◌then◌else◌, List, [], ◌∷◌, Some, None, Ok, refl, sym, ap, ◌∙◌, subst, inl, inr}
use Rattle.fb_base.specs.declared.fault.Span.{Span}
use Rattle.fb_lexer.specs.declared.token.Token.{Token}
use Rattle.fb_lexer.specs.declared.token.TokenKind.{TokenKind}
use Rattle.fb_lexer.specs.declared.token.TokenKind.TheVariants as kinds
use Rattle.fb_lexer.specs.declared.token.Mark.TheVariants.{Open, Close, Comma, Dot}
use Rattle.fb_lexer.specs.declared.word.Word.{Word}
use Rattle.fb_lexer.specs.declared.word.Word.TheVariants as w
use Rattle.fb_ast.specs.declared.operator.Binary.{Binary}
use Rattle.fb_ast.specs.declared.part.Name.{Name}
use Rattle.fb_ast.specs.declared.part.ProcedureKind.{ProcedureKind}
use Rattle.fb_ast.specs.declared.part.ProcedureKind.TheVariants as kind
use Rattle.fb_ast.specs.declared.stmt.Block.{Block}
use Rattle.parse_expr.specs.Reading.{first, next, sees, sees_word, Reader, Outcome, and_then, pure, take_token}
use Rattle.parse_expr.proofs.Sound.{Done, bind, map_done}
use Rattle.parse_expr.proofs.Ends.{Suffixes}
use Rattle.parse_parts.specs.declared.kinds.Level.TheVariants as levels
use Rattle.parse_parts.specs.declared.kinds.InLine.TheVariants as lines
use Rattle.parse_parts.specs.declared.kinds.Closer.{Closer}
use Rattle.parse_parts.specs.declared.kinds.Closer.TheVariants as closers
use Rattle.parse_parts.specs.declared.kinds.ProcedureWord.{ProcedureWord}
use Rattle.parse_parts.specs.declared.kinds.ProcedureWord.TheVariants as words
use Rattle.parse_parts.specs.Steps.{place_at, sees_name, is_name}
use Rattle.parse_parts.specs.Words.{operator_of}
use Rattle.parse_stmt.specs.Blocks.{sees_end, closed}
use Rattle.parse_stmt.specs.Blocks as blocks
use Rattle.parse_parts.specs.Heads.{Opening, operator_at}
use Rattle.parse_parts.specs.Heads as heads
use Rattle.parse_stmt.specs.Procedures as reading
use Rattle.parse_stmt.specs.Module as types
use Rattle.parse_stmt.specs.Phrases.{Phrase, gives, Then, ◌>>◌, either, word, mark, sep, IsName, taken, here, ty, behind_word}
use Rattle.parse_stmt.specs.Phrases as phrases
use Rattle.parse_stmt.specs.Statements.{end_of, Chosen}
use Rattle.parse_stmt.specs.Statements as statements
use Rattle.parse_stmt.specs.Texts as grammar
use Rattle.parse_stmt.proofs.Exact.{next_kind, Follow, always, Exact, Starts, exact_then, exact_weaker, exact_behind, exact_choose, end_of_end, leave_next}
use Rattle.parse_stmt.proofs.Smallest.{exact_word, exact_mark, exact_sep, exact_name, exact_type, exact_here, starts_word, starts_mark}
use Rattle.parse_stmt.proofs.Lists.{Under, starts_gives, exact_gives, exact_made, no_mark, starts_either, starts_then}
use Rattle.parse_stmt.proofs.Dims.{closes, same_under, any_type_exact}
use Rattle.parse_stmt.proofs.Parts.{name_seen}
use Rattle.parse_stmt.proofs.Bodies.{ended_body, body_ends, sep_closes}
use Rattle.parse_stmt.proofs.Stmts.{inside_of}
use Rattle.parse_stmt.proofs.Ended.{AtToken, at_token, token_then}
use Rattle.parse_stmt.proofs.Nested.{both}
use Rattle.parse_stmt.proofs.Heads.{exact_param, exact_any_params, exact_one_param, exact_no_params, exact_sub_head, exact_function_head, exact_operator, exact_declared, closes_pointer, as_only, in_params}

-- ---- readers that are asked where a token is seen

-- Where the test holds what is read is the phrase; and where the phrase stands, the test holds, and it is read.
pub record Given {A : Type 0} (test : List Token → Bool) (p : Reader A) (P : Phrase A) (F : Follow) : Type 0 where
  pub sound : (ts : List Token) → test ts ≡ true → Done (P ts) (p ts)
  pub finds : (ts : List Token) (a : A) (rest : List Token) → P ts a rest → F (next_kind rest) ≡ true → p ts ≡ Ok (a, rest)
  pub within : (ts : List Token) (a : A) (rest : List Token) → P ts a rest → Suffixes rest ts
  pub holds_there : (ts : List Token) (a : A) (rest : List Token) → P ts a rest → test ts ≡ true

pub given_token : {A : Type 0} (test : List Token → Bool) {p : Span → Reader A} {P : Span → Phrase A} {F : Follow} → ((at : Span) → Exact (p at) (P at) F)
    → Given test (λ ts. p (place_at ts) (next ts)) (AtToken test P) F
given_token test {p = p} {P = P} x = record {
  sound = λ ts is. map_done (P (place_at ts) (next ts)) (AtToken test P ts) (p (place_at ts) (next ts)) ((x (place_at ts)).sound (next ts)) (λ a rest t. at_token test P ts a rest is t);
  finds = λ ts a rest t f. (x (place_at ts)).finds (next ts) a rest (token_then test P ts a rest t).stands f;
  within = λ ts a rest t. end_of_end ((x (place_at ts)).within (next ts) a rest (token_then test P ts a rest t).stands) (leave_next ts);
  holds_there = λ ts a rest t. (token_then test P ts a rest t).is;
}

pub given_declare : Given (sees_word w.KwDeclare) types.declare grammar.declare closes
unfolding types.declare
given_declare = given_token (sees_word w.KwDeclare) exact_declared

-- ---- procedures

end_both : (which : Word) (ts : List Token) (b : Bool) → sees_word w.KwEnd ts ≡ b → (if b then sees_word which (next ts) else false) ≡ true → (sees_word w.KwEnd ts ≡ true) × (sees_word which (next ts) ≡ true)
end_both which ts true is e = (is, e)
end_both which ts false is e = cc

end_two : (which : Word) (ts : List Token) → sees_end which ts ≡ true → (sees_word w.KwEnd ts ≡ true) × (sees_word which (next ts) ≡ true)
unfolding sees_end
end_two which ts e = end_both which ts (sees_word w.KwEnd ts) refl e

-- the closers of procedures
abbrev ends_by_word : Closer → Type 0
ends_by_word closer = (ts : List Token) → closed closer ts ≡ sees_end (grammar.end_word closer) ts

abbrev proc_body : (deep room : ℕ) → Closer → Reader Block
proc_body deep room closer = blocks.body (suc deep) (blocks.stmt (suc deep) room) room levels.Procedure lines.Free closer

body_closed : (deep room : ℕ) → (closer : Closer) (ts : List Token) → Done (λ b rest. statements.body (suc deep) (statements.stmt (suc deep) room) levels.Procedure lines.Free ts b rest × (closed closer rest ≡ true)) (proc_body deep room closer ts)
body_closed deep room closer ts =
    both (statements.body (suc deep) (statements.stmt (suc deep) room) levels.Procedure lines.Free ts) (λ b rest. closed closer rest ≡ true) (proc_body deep room closer ts)
    ((ended_body deep (blocks.stmt (suc deep) room) room (statements.stmt (suc deep) room) (inside_of deep room) levels.Procedure lines.Free closer).sound ts) (body_ends deep (blocks.stmt (suc deep) room) room (statements.stmt (suc deep) room) (inside_of deep room) levels.Procedure lines.Free closer ts)

abbrev two_more : Block → Reader Block
two_more b = λ us. and_then (take_token us) (λ u. λ vs. and_then (take_token vs) (λ v. pure b))

abbrev BodyEnd : (deep room : ℕ) → Closer → Phrase Block
BodyEnd deep room closer = Then (statements.body (suc deep) (statements.stmt (suc deep) room) levels.Procedure lines.Free) (λ b. Then (end_of (grammar.end_word closer)) (λ at. gives b))

end_stands : (which : Word) (ts : List Token) → (sees_word w.KwEnd ts ≡ true) × (sees_word which (next ts) ≡ true) → end_of which ts (place_at ts) (next (next ts))
end_stands which ts e = record { given = place_at ts; between = ts; front = (refl, refl); back = record { given = tt; between = next ts; front = (e.0, refl); back = record { given = tt; between = next (next ts); front = (e.1, refl); back = (refl, refl) } } }

end_is : (which : Word) (ts : List Token) (at : Span) (rest : List Token) → end_of which ts at rest → (sees_end which ts ≡ true) × (rest ≡ next (next ts))
unfolding sees_end
end_is which ts at rest t =
    let same = t.front.1 in
    let e : sees_word w.KwEnd ts ≡ true = ap (sees_word w.KwEnd) (sym same) ∙ t.back.front.0 in
    let n : sees_word which (next ts) ≡ true = ap (λ (m : List Token). sees_word which (next m)) (sym same) ∙ ap (sees_word which) (sym t.back.front.1) ∙ t.back.back.front.0 in
    (rw e n, t.back.back.back.1 ∙ t.back.back.front.1 ∙ ap next (t.back.front.1) ∙ ap (λ (m : List Token). next (next m)) same)

exact_body_end : (deep room : ℕ) → (closer : Closer) → ends_by_word closer → (F : Follow) → Exact (λ ts. and_then (proc_body deep room closer ts) two_more) (BodyEnd deep room closer) F
exact_body_end deep room closer same F = record {
  sound = λ ts. bind (λ b rest. statements.body (suc deep) (statements.stmt (suc deep) room) levels.Procedure lines.Free ts b rest × (closed closer rest ≡ true)) (BodyEnd deep room closer ts) (proc_body deep room closer ts) two_more (body_closed deep room closer ts)
      (λ b rest t. record { given = b; between = rest; front = t.0; back = record { given = place_at rest; between = next (next rest); front = end_stands (grammar.end_word closer) rest (end_two (grammar.end_word closer) rest (sym (same rest) ∙ t.1)); back = (refl, refl) } });
  finds = λ ts b rest t f.
      let e = end_is (grammar.end_word closer) t.between t.back.given t.back.between t.back.front in
      ap (λ (o : Outcome Block). and_then o two_more) ((ended_body deep (blocks.stmt (suc deep) room) room (statements.stmt (suc deep) room) (inside_of deep room) levels.Procedure lines.Free closer).finds ts t.given t.between t.front (same t.between ∙ e.0))
      ∙ ap Ok (rw (sym t.back.back.0, sym (t.back.back.1 ∙ e.1)) refl);
  within = λ ts b rest t.
      let e = end_is (grammar.end_word closer) t.between t.back.given t.back.between t.back.front in
      rw (t.back.back.1 ∙ e.1) (end_of_end (leave_next (next t.between)) (end_of_end (leave_next t.between) ((ended_body deep (blocks.stmt (suc deep) room) room (statements.stmt (suc deep) room) (inside_of deep room) levels.Procedure lines.Free closer).within ts t.given t.between t.front)));
}

pub exact_ended : (deep room : ℕ) → (closer : Closer) → ends_by_word closer → (F : Follow) → Exact (reading.procedure_body (suc deep) room closer) (grammar.ended_by (suc deep) room closer) F
unfolding reading.procedure_body reading.statements
exact_ended deep room closer same F = exact_then (exact_sep lines.Free) (λ u. exact_body_end deep room closer same F) (λ u ts a rest t f. refl)

-- an opening whose closer is one of a procedure
abbrev Openings : (Span → Phrase Opening) → Type 0
Openings P = (at : Span) (ts : List Token) (o : Opening) (rest : List Token) → P at ts o rest → ends_by_word o.1

sub_same : ends_by_word closers.Sub
sub_same ts = refl

function_same : ends_by_word closers.Function
function_same ts = refl

constructor_same : ends_by_word closers.Constructor
constructor_same ts = refl

destructor_same : ends_by_word closers.Destructor
destructor_same ts = refl

operator_same : ends_by_word closers.Operator
operator_same ts = refl

-- As, or the end
abbrev as_or_end : Follow
as_or_end (Some (kinds.Word w.KwAs)) = true
as_or_end other = closes other

closes_as : Under closes as_or_end
closes_as (Some (kinds.Word w.KwAs)) is = refl
closes_as other is = is

type_starts : (G : Follow) → Under G as_or_end → Starts (behind_word w.KwAs ty) G as_or_end
type_starts G under = starts_either G as_or_end (starts_word w.KwAs _ G as_or_end refl) (starts_gives None G as_or_end under)

-- what comes behind the name of a head of the module
abbrev head_first : Follow
head_first (Some (kinds.Mark Open)) = true
head_first (Some (kinds.Word w.KwOverload)) = true
head_first (Some (kinds.Word w.KwAs)) = true
head_first other = closes other

closes_first : Under closes head_first
closes_first (Some (kinds.Mark Open)) is = refl
closes_first (Some (kinds.Word w.KwOverload)) is = refl
closes_first (Some (kinds.Word w.KwAs)) is = refl
closes_first other is = is

as_first : Under as_only head_first
as_first (Some (kinds.Word w.KwAs)) is = refl
as_first other is = cc

overload_starts : (G : Follow) → Under G head_first → Starts grammar.overload G head_first
overload_starts G under = starts_either G head_first (starts_word w.KwOverload _ G head_first refl) (starts_gives false G head_first under)

params_first : (G : Follow) → Under G head_first → Starts (grammar.any_params false) G head_first
params_first G under = starts_either G head_first (starts_mark Open _ G head_first refl) (starts_gives [] G head_first under)

head_start : (at : Span) (n : Name) → Starts (grammar.sub_head at n false) closes head_first
head_start at n = starts_then closes head_first head_first (overload_starts head_first (same_under head_first))
    (λ more. starts_then closes closes head_first (params_first closes closes_first) (λ all. starts_gives _ closes closes (same_under closes)))

function_start : (at : Span) (n : Name) → Starts (grammar.function_head at n false) closes head_first
function_start at n = starts_then closes head_first head_first (overload_starts head_first (same_under head_first))
    (λ more. starts_then closes as_only head_first (params_first as_only as_first) (λ all. starts_word w.KwAs _ closes as_only refl))

-- a member of a Type, behind the dot
exact_member_sub : (at : Span) (n : Name) → Exact (heads.member_sub at n) (Then phrases.name (λ m. Then (grammar.any_params false) (λ all. Then (behind_word w.KwAs ty) (λ t. gives (kind.MemberSub at n m all t, closers.Sub))))) closes
unfolding heads.member_sub
exact_member_sub at n = exact_then exact_name (λ m. exact_then (exact_any_params false as_or_end refl) (λ all. exact_made (λ t. (kind.MemberSub at n m all t, closers.Sub)) (any_type_exact closes closes_pointer refl))
    (λ all. starts_then closes closes as_or_end (type_starts closes closes_as) (λ t. starts_gives _ closes closes (same_under closes)))) (λ m ts a rest t f. refl)

exact_member_function : (at : Span) (n : Name) → Exact (heads.member_function at n) (Then phrases.name (λ m. Then (grammar.any_params false) (λ all. Then (behind_word w.KwAs ty) (λ t. gives (kind.MemberFunction at n m all t, closers.Function))))) closes
unfolding heads.member_function
exact_member_function at n = exact_then exact_name (λ m. exact_then (exact_any_params false as_or_end refl) (λ all. exact_made (λ t. (kind.MemberFunction at n m all t, closers.Function)) (any_type_exact closes closes_pointer refl))
    (λ all. starts_then closes closes as_or_end (type_starts closes closes_as) (λ t. starts_gives _ closes closes (same_under closes)))) (λ m ts a rest t f. refl)

-- behind a head's name: no dot comes where a head of the module stands
sub_undotted : (n : Name) (at : Span) (ts : List Token) (o : Opening) (rest : List Token) → Then (grammar.sub_head at n false) (λ h. gives (kind.Module h, closers.Sub)) ts o rest → closes (next_kind rest) ≡ true → sees Dot ts ≡ false
sub_undotted n at ts o rest t f = no_mark Dot head_first ts refl (head_start at n ts t.given t.between t.front (ap (λ (r : List Token). closes (next_kind r)) (sym t.back.1) ∙ f)) (sees Dot ts) refl

exact_sub_behind : (at : Span) (n : Name) → Exact (heads.sub_behind at n) (grammar.sub_behind at n) closes
unfolding heads.sub_behind heads.module_sub
exact_sub_behind at n = exact_behind (sees Dot) (exact_member_sub at n) (exact_made (λ h. (kind.Module h, closers.Sub)) (exact_sub_head at n false)) (sub_undotted n at)

function_undotted : (n : Name) (at : Span) (ts : List Token) (o : Opening) (rest : List Token) → Then (grammar.function_head at n false) (λ h. gives (kind.Module h, closers.Function)) ts o rest → closes (next_kind rest) ≡ true → sees Dot ts ≡ false
function_undotted n at ts o rest t f = no_mark Dot head_first ts refl (function_start at n ts t.given t.between t.front (ap (λ (r : List Token). closes (next_kind r)) (sym t.back.1) ∙ f)) (sees Dot ts) refl

exact_function_behind : (at : Span) (n : Name) → Exact (heads.function_behind at n) (grammar.function_behind at n) closes
unfolding heads.function_behind heads.module_function
exact_function_behind at n = exact_behind (sees Dot) (exact_member_function at n) (exact_made (λ h. (kind.Module h, closers.Function)) (exact_function_head at n false)) (function_undotted n at)

exact_sub_opened : (at : Span) → Exact (heads.opened words.Sub at) (Then phrases.name (λ n. grammar.sub_behind at n)) closes
unfolding heads.sub_opened
exact_sub_opened at = exact_then exact_name (λ n. exact_sub_behind at n) (λ n ts a rest t f. refl)

exact_function_opened : (at : Span) → Exact (heads.opened words.Function at) (Then phrases.name (λ n. grammar.function_behind at n)) closes
unfolding heads.function_opened
exact_function_opened at = exact_then exact_name (λ n. exact_function_behind at n) (λ n ts a rest t f. refl)

exact_constructor : (at : Span) → Exact (heads.opened words.Constructor at) (grammar.constructor at) closes
unfolding heads.constructor
exact_constructor at = exact_then exact_name (λ n. exact_made (λ all. (kind.Constructor at n all, closers.Constructor)) (exact_any_params false closes refl)) (λ n ts a rest t f. refl)

exact_destructor : (at : Span) → Exact (heads.opened words.Destructor at) (grammar.destructor at) closes
unfolding heads.destructor
exact_destructor at = exact_then exact_name (λ n. exact_then (exact_no_params closes refl) (λ u. exact_gives (kind.Destructor at n, closers.Destructor) closes) (λ u. starts_gives _ closes closes (same_under closes))) (λ n ts a rest t f. refl)

exact_let : (at : Span) → Exact (heads.let_operator at) (grammar.let_operator at) closes
unfolding heads.let_operator
exact_let at = exact_then exact_name (λ n. exact_then (exact_mark Dot) (λ u. exact_then exact_here (λ let_at. exact_then (exact_word w.KwLet)
    (λ v. exact_weaker (exact_made (λ p. (kind.Let at n let_at p, closers.Operator)) (exact_one_param false)) (λ o f. refl)) (λ v ts a rest t f. refl))
    (λ let_at ts a rest t f. refl)) (λ u ts a rest t f. refl)) (λ n ts a rest t f. refl)

exact_two_params : Exact heads.two_params grammar.two_params always
unfolding heads.two_params
exact_two_params = exact_then (exact_mark Open) (λ u. exact_then (exact_param false) (λ one. exact_then (exact_mark Comma) (λ v. exact_then (exact_param false) (λ other. exact_then (exact_mark Close)
    (λ x. exact_gives (one, other) always) (λ x ts a rest t f. refl)) (λ other. starts_mark Close _ always in_params refl)) (λ v ts a rest t f. refl)) (λ one. starts_mark Comma _ always in_params refl)) (λ u ts a rest t f. refl)

exact_mark_operator : (at : Span) → Exact (heads.mark_operator at) (grammar.mark_operator at) closes
unfolding heads.mark_operator
exact_mark_operator at = exact_then exact_here (λ mark_at. exact_then exact_operator (λ which. exact_then exact_two_params (λ both. exact_then (exact_word w.KwAs)
    (λ u. exact_weaker (exact_made (λ t. (kind.Operator at which mark_at both.0 both.1 t, closers.Operator)) exact_type) closes_pointer)
    (λ u ts a rest t f. refl)) (λ both ts a rest t f. refl)) (λ which ts a rest t f. refl)) (λ mark_at ts a rest t f. refl)

named_by : (kind : TokenKind) (o : Binary) → is_name kind ≡ true → operator_of kind ≡ Some o → ⊥
named_by (kinds.Name text) o is table = cc
named_by kind o is table = cc

named_operator : (ts : List Token) → sees_name ts ≡ true → (o : Binary) → operator_at (first ts) ≡ Some o → true ≡ false
unfolding sees_name first
named_operator [] is o table = cc
named_operator (t ∷ ts) is o table = absurd (named_by t.kind o is table)

operator_unnamed : (ts : List Token) → (b : Bool) → sees_name ts ≡ b → (o : Binary) → operator_at (first ts) ≡ Some o → b ≡ false
operator_unnamed ts false is o table = refl
operator_unnamed ts true is o table = named_operator ts is o table

mark_unnamed : (at : Span) (ts : List Token) (o : Opening) (rest : List Token) → grammar.mark_operator at ts o rest → sees_name ts ≡ false
mark_unnamed at ts o rest t = operator_unnamed ts (sees_name ts) refl t.back.given (ap (λ (m : List Token). operator_at (first m)) (sym t.front.1) ∙ t.back.front.is)

pub exact_operator_opened : (at : Span) → Exact (heads.opened words.Operator at) (either (grammar.let_operator at) (grammar.mark_operator at)) closes
unfolding heads.operator_behind
exact_operator_opened at = exact_choose sees_name (exact_let at) (exact_mark_operator at) (λ ts o rest t f. name_seen ts t.given t.between t.front) (λ ts o rest t f. mark_unnamed at ts o rest t)

-- ---- whole procedures

abbrev Parts : (deep room : ℕ) → (Span → Phrase Opening) → Span → Phrase (ProcedureKind × Block)
Parts deep room P at = Then (P at) (λ o. Then (grammar.ended_by (suc deep) room o.1) (λ b. gives (o.0, b)))

abbrev parts_read : (deep room : ℕ) → (Span → Reader Opening) → Span → Reader (ProcedureKind × Block)
parts_read deep room p at = λ ts. and_then (p at ts) (λ o. λ us. and_then (reading.procedure_body (suc deep) room o.1 us) (λ b. pure (o.0, b)))

module _ (deep room : ℕ) (p : Span → Reader Opening) (P : Span → Phrase Opening) (x : (at : Span) → Exact (p at) (P at) closes) (are : (at : Span) (ts : List Token) (o : Opening) (rest : List Token) → P at ts o rest → ends_by_word o.1) where
  parts_sound : (at : Span) (ts : List Token) → Done (Parts deep room P at ts) (parts_read deep room p at ts)
  parts_sound at ts = bind (P at ts) (Parts deep room P at ts) (p at ts) _ ((x at).sound ts)
      (λ o between t. bind (grammar.ended_by (suc deep) room o.1 between) (Parts deep room P at ts) (reading.procedure_body (suc deep) room o.1 between) _ ((exact_ended deep room o.1 (are at ts o between t) closes).sound between)
      (λ b rest r. record { given = o; between = between; front = t; back = record { given = b; between = rest; front = r; back = (refl, refl) } }))

  parts_finds : (at : Span) (ts : List Token) (a : ProcedureKind × Block) (rest : List Token) → Parts deep room P at ts a rest → closes (next_kind rest) ≡ true → parts_read deep room p at ts ≡ Ok (a, rest)
  parts_finds at ts a rest t f =
      let b = t.back in
      let e = exact_ended deep room t.given.1 (are at ts t.given t.between t.front) closes in
      ap (λ (o : Outcome Opening). and_then o (λ o us. and_then (reading.procedure_body (suc deep) room o.1 us) (λ b. pure (o.0, b)))) ((x at).finds ts t.given t.between t.front (sep_closes lines.Free t.between b.front.front.0))
      ∙ ap (λ (o : Outcome Block). and_then o (λ b. pure (t.given.0, b))) (e.finds t.between b.given b.between b.front (ap (λ (r : List Token). closes (next_kind r)) (sym b.back.1) ∙ f))
      ∙ ap Ok (rw (sym b.back.0, sym b.back.1) refl)

  exact_parts : (at : Span) → Exact (parts_read deep room p at) (Parts deep room P at) closes
  exact_parts at = record {
    sound = parts_sound at;
    finds = parts_finds at;
    within = λ ts a rest t. rw (t.back.back.1) (end_of_end ((exact_ended deep room t.given.1 (are at ts t.given t.between t.front) closes).within t.between t.back.given t.back.between t.back.front) ((x at).within ts t.given t.between t.front));
  }

closer_is : {closer : Closer} (o : Opening) → o.1 ≡ closer → ends_by_word closer → ends_by_word o.1
closer_is o is same = subst (λ (c : Closer). ends_by_word c) (sym is) same

closer_of : (o : Opening) (k : ProcedureKind) (closer : Closer) → o ≡ (k, closer) → o.1 ≡ closer
closer_of o k closer is = ap (λ (p : Opening). p.1) is

sub_by : (at : Span) (n : Name) (ts : List Token) (o : Opening) (rest : List Token) → grammar.sub_behind at n ts o rest → ends_by_word o.1
sub_by at n ts o rest (inl t) = closer_is o (closer_of o _ closers.Sub t.back.back.back.back.0) sub_same
sub_by at n ts o rest (inr t) = closer_is o (closer_of o _ closers.Sub t.back.0) sub_same

function_by : (at : Span) (n : Name) (ts : List Token) (o : Opening) (rest : List Token) → grammar.function_behind at n ts o rest → ends_by_word o.1
function_by at n ts o rest (inl t) = closer_is o (closer_of o _ closers.Function t.back.back.back.back.0) function_same
function_by at n ts o rest (inr t) = closer_is o (closer_of o _ closers.Function t.back.0) function_same

operator_by : (at : Span) (ts : List Token) (o : Opening) (rest : List Token) → either (grammar.let_operator at) (grammar.mark_operator at) ts o rest → ends_by_word o.1
operator_by at ts o rest (inl t) = closer_is o (closer_of o _ closers.Operator t.back.back.back.back.back.0) operator_same
operator_by at ts o rest (inr t) = closer_is o (closer_of o _ closers.Operator t.back.back.back.back.back.0) operator_same

exact_sub_parts : (deep room : ℕ) → (at : Span) → Exact (parts_read deep room (heads.opened words.Sub) at) (Parts deep room (λ at. Then phrases.name (λ n. grammar.sub_behind at n)) at) closes
exact_sub_parts deep room = exact_parts deep room (heads.opened words.Sub) (λ at. Then phrases.name (λ n. grammar.sub_behind at n)) exact_sub_opened (λ at ts o rest t. sub_by at t.given t.between o rest t.back)

exact_function_parts : (deep room : ℕ) → (at : Span) → Exact (parts_read deep room (heads.opened words.Function) at) (Parts deep room (λ at. Then phrases.name (λ n. grammar.function_behind at n)) at) closes
exact_function_parts deep room = exact_parts deep room (heads.opened words.Function) (λ at. Then phrases.name (λ n. grammar.function_behind at n)) exact_function_opened (λ at ts o rest t. function_by at t.given t.between o rest t.back)

exact_constructor_parts : (deep room : ℕ) → (at : Span) → Exact (parts_read deep room (heads.opened words.Constructor) at) (Parts deep room grammar.constructor at) closes
exact_constructor_parts deep room = exact_parts deep room (heads.opened words.Constructor) grammar.constructor exact_constructor (λ at ts o rest t. closer_is o (closer_of o _ closers.Constructor t.back.back.0) constructor_same)

exact_destructor_parts : (deep room : ℕ) → (at : Span) → Exact (parts_read deep room (heads.opened words.Destructor) at) (Parts deep room grammar.destructor at) closes
exact_destructor_parts deep room = exact_parts deep room (heads.opened words.Destructor) grammar.destructor exact_destructor (λ at ts o rest t. closer_is o (closer_of o _ closers.Destructor t.back.back.0) destructor_same)

exact_operator_parts : (deep room : ℕ) → (at : Span) → Exact (parts_read deep room (heads.opened words.Operator) at) (Parts deep room (λ at. either (grammar.let_operator at) (grammar.mark_operator at)) at) closes
exact_operator_parts deep room = exact_parts deep room (heads.opened words.Operator) (λ at. either (grammar.let_operator at) (grammar.mark_operator at)) exact_operator_opened operator_by

abbrev pub OpenedPhrase : ProcedureWord → Span → Phrase Opening
OpenedPhrase words.Sub at = Then phrases.name (λ n. grammar.sub_behind at n)
OpenedPhrase words.Function at = Then phrases.name (λ n. grammar.function_behind at n)
OpenedPhrase words.Constructor at = grammar.constructor at
OpenedPhrase words.Destructor at = grammar.destructor at
OpenedPhrase words.Operator at = either (grammar.let_operator at) (grammar.mark_operator at)

-- the word that a procedure begins with
abbrev pub begin_word : ProcedureWord → Word
begin_word words.Sub = w.KwSub
begin_word words.Function = w.KwFunction
begin_word words.Constructor = w.KwConstructor
begin_word words.Destructor = w.KwDestructor
begin_word words.Operator = w.KwOperator

exact_all_parts : (deep room : ℕ) → (which : ProcedureWord) (at : Span) → Exact (parts_read deep room (heads.opened which) at) (Parts deep room (OpenedPhrase which) at) closes
exact_all_parts deep room words.Sub at = exact_sub_parts deep room at
exact_all_parts deep room words.Function at = exact_function_parts deep room at
exact_all_parts deep room words.Constructor at = exact_constructor_parts deep room at
exact_all_parts deep room words.Destructor at = exact_destructor_parts deep room at
exact_all_parts deep room words.Operator at = exact_operator_parts deep room at

abbrev pub PartsFrom : (deep room : ℕ) → ProcedureWord → Phrase (ProcedureKind × Block)
PartsFrom deep room which = AtToken (sees_word (begin_word which)) (λ at. Parts deep room (OpenedPhrase which) at)

pub given_parts : (deep room : ℕ) → (which : ProcedureWord) → Given (sees_word (begin_word which)) (reading.procedure_parts (suc deep) room which) (PartsFrom deep room which) closes
unfolding reading.procedure_parts
given_parts deep room which = given_token (sees_word (begin_word which)) (λ at. exact_all_parts deep room which at)

-- which of them a procedure is
pub parts_of : (deep room : ℕ) → (ts : List Token) (p : ProcedureKind × Block) (rest : List Token) → grammar.procedure_parts (suc deep) room ts p rest → (which : ProcedureWord) × PartsFrom deep room which ts p rest
parts_of deep room ts p rest (inl t) = (words.Sub, t)
parts_of deep room ts p rest (inr (inl t)) = (words.Function, t)
parts_of deep room ts p rest (inr (inr (inl t))) = (words.Constructor, t)
parts_of deep room ts p rest (inr (inr (inr (inl t)))) = (words.Destructor, t)
parts_of deep room ts p rest (inr (inr (inr (inr t)))) = (words.Operator, t)

pub of_parts : (deep room : ℕ) → (which : ProcedureWord) (ts : List Token) (p : ProcedureKind × Block) (rest : List Token) → PartsFrom deep room which ts p rest → grammar.procedure_parts (suc deep) room ts p rest
of_parts deep room words.Sub ts p rest t = inl t
of_parts deep room words.Function ts p rest t = inr (inl t)
of_parts deep room words.Constructor ts p rest t = inr (inr (inl t))
of_parts deep room words.Destructor ts p rest t = inr (inr (inr (inl t)))
of_parts deep room words.Operator ts p rest t = inr (inr (inr (inr t)))
