-- The grammar of procedures and Types, and of a whole text (FreeBASIC Manual, Procedures and Types).
use Rattle.std.specs.Prelude.{◌≡◌, suc, ℕ, ◌+◌, Bool, true, false, List, [], ◌∷◌, Option, Some, None, ◌⊎◌}
use Rattle.fb_base.specs.declared.fault.Span.{Span}
use Rattle.fb_lexer.specs.declared.token.Token.{Token}
use Rattle.fb_lexer.specs.declared.token.Mark.TheVariants.{Open, Close, Comma, Dot}
use Rattle.fb_lexer.specs.declared.word.Word.{Word}
use Rattle.fb_lexer.specs.declared.word.Word.TheVariants as w
use Rattle.fb_ast.specs.declared.operator.Binary.{Binary}
use Rattle.fb_ast.specs.declared.part.Name.{Name}
use Rattle.fb_ast.specs.declared.part.Mode.{Mode}
use Rattle.fb_ast.specs.declared.part.Mode.TheVariants as mode
use Rattle.fb_ast.specs.declared.part.Param.{Param}
use Rattle.fb_ast.specs.declared.part.Head.{Head}
use Rattle.fb_ast.specs.declared.part.Head.TheVariants as head
use Rattle.fb_ast.specs.declared.part.Member.{Member}
use Rattle.fb_ast.specs.declared.part.Member.TheVariants as member
use Rattle.fb_ast.specs.declared.part.ProcedureKind.{ProcedureKind}
use Rattle.fb_ast.specs.declared.part.ProcedureKind.TheVariants as kind
use Rattle.fb_ast.specs.declared.part.Item.{Item}
use Rattle.fb_ast.specs.declared.part.Item.TheVariants as item
use Rattle.fb_ast.specs.declared.stmt.Block.{Block}
use Rattle.fb_ast.specs.declared.stmt.Stmt.{Stmt}
use Rattle.fb_ast.specs.declared.tree.Tree.{Tree}
use Rattle.parse_expr.specs.Reading.{next}
use Rattle.parse_parts.specs.declared.kinds.Level.TheVariants as levels
use Rattle.parse_parts.specs.declared.kinds.InLine.TheVariants as lines
use Rattle.parse_parts.specs.declared.kinds.Closer.{Closer}
use Rattle.parse_parts.specs.declared.kinds.Closer.TheVariants as closers
use Rattle.parse_parts.specs.Steps.{words_before, sees_sep}
use Rattle.parse_parts.specs.Heads.{operator_at, Opening}
use Rattle.parse_parts.specs.Members.{has_field}
use Rattle.parse_stmt.specs.Phrases.{Phrase, gives, ◌>>=◌, ◌>>◌, either, maybe, behind_mark, behind_word, mark, word, Listed, here, sep, name, ty}
use Rattle.parse_stmt.specs.Statements.{Chosen, end_of, body, stmt, bounds}

-- ---- parameters

abbrev pub any_mode : Phrase (Option Mode)
any_mode = either (word w.KwByVal >> gives (Some mode.ByVal)) (either (word w.KwByRef >> gives (Some mode.ByRef)) (gives None))

-- A parameter's name may be missing only in a Declare and in a Type.
abbrev pub param_name : Bool → Phrase (Option Name)
param_name true = maybe name
param_name false = do n ← name; gives (Some n)

abbrev pub param : Bool → Phrase Param
param nameless = do
  at ← here
  m ← any_mode
  n ← param_name nameless
  word w.KwAs
  t ← ty
  gives (record { at = at; mode = m; name = n; ty = t })

-- parameters and the closing parenthesis
abbrev pub some_params : Bool → Phrase (List Param)
some_params nameless = do
  all ← Listed (param nameless)
  mark Close
  gives all

-- parameters in parentheses, or nothing
abbrev pub any_params : Bool → Phrase (List Param)
any_params nameless = either (mark Open >> either (mark Close >> gives []) (some_params nameless)) (gives [])

-- one parameter in parentheses
abbrev pub one_param : Bool → Phrase Param
one_param nameless = do
  mark Open
  p ← param nameless
  mark Close
  gives p

-- empty parentheses, or nothing
abbrev pub no_params : Phrase (Unit {0})
no_params = either (mark Open >> mark Close) (gives tt)

-- ---- heads

abbrev pub overload : Phrase Bool
overload = either (word w.KwOverload >> gives true) (gives false)

-- behind Sub and its name
abbrev pub sub_head : Span → Name → Bool → Phrase Head
sub_head at n nameless = do
  more ← overload
  all ← any_params nameless
  gives (head.Sub at n more all)

-- behind Function and its name
abbrev pub function_head : Span → Name → Bool → Phrase Head
function_head at n nameless = do
  more ← overload
  all ← any_params nameless
  word w.KwAs
  t ← ty
  gives (head.Function at n more all t)

abbrev pub declared_head : Phrase Head
declared_head = do
  at ← here
  either (do word w.KwSub; n ← name; sub_head at n true) (do word w.KwFunction; n ← name; function_head at n true)

-- the mark of an operator that a text may declare
abbrev pub operator_mark : Phrase Binary
operator_mark = Chosen operator_at

abbrev pub declared_operator : Span → Phrase Item
declared_operator at = do
  mark_at ← here
  which ← operator_mark
  mark Open
  all ← some_params true
  word w.KwAs
  t ← ty
  gives (item.DeclareOperator at which mark_at all t)

-- a Declare of the module
abbrev pub declare : Phrase Item
declare = do
  at ← here
  word w.KwDeclare
  either (word w.KwOperator >> declared_operator at) (do h ← declared_head; gives (item.Declare at h))

-- ---- procedures

-- The head of a procedure with a body, and what ends that: End and this word.
abbrev pub end_word : Closer → Word
end_word closers.Sub = w.KwSub
end_word closers.Function = w.KwFunction
end_word closers.Constructor = w.KwConstructor
end_word closers.Destructor = w.KwDestructor
end_word other = w.KwOperator

-- from behind the head to the word behind End
abbrev pub ended_by : ℕ → ℕ → Closer → Phrase Block
ended_by most room closer = do
  sep lines.Free
  b ← body most (stmt most room) levels.Procedure lines.Free
  end_of (end_word closer)
  gives b

-- behind Sub and its name: a Sub of a Type, or one of the module
abbrev pub sub_behind : Span → Name → Phrase Opening
sub_behind at n = either (do mark Dot; m ← name; all ← any_params false; t ← behind_word w.KwAs ty; gives (kind.MemberSub at n m all t, closers.Sub))
    (do h ← sub_head at n false; gives (kind.Module h, closers.Sub))

abbrev pub function_behind : Span → Name → Phrase Opening
function_behind at n = either (do mark Dot; m ← name; all ← any_params false; t ← behind_word w.KwAs ty; gives (kind.MemberFunction at n m all t, closers.Function))
    (do h ← function_head at n false; gives (kind.Module h, closers.Function))

abbrev pub constructor : Span → Phrase Opening
constructor at = do n ← name; all ← any_params false; gives (kind.Constructor at n all, closers.Constructor)

abbrev pub destructor : Span → Phrase Opening
destructor at = do n ← name; no_params; gives (kind.Destructor at n, closers.Destructor)

-- behind Operator: the Let of a Type, or an operator of the module
abbrev pub let_operator : Span → Phrase Opening
let_operator at = do
  n ← name
  mark Dot
  let_at ← here
  word w.KwLet
  p ← one_param false
  gives (kind.Let at n let_at p, closers.Operator)

abbrev pub two_params : Phrase (Param × Param)
two_params = do
  mark Open
  one ← param false
  mark Comma
  other ← param false
  mark Close
  gives (one, other)

abbrev pub mark_operator : Span → Phrase Opening
mark_operator at = do
  mark_at ← here
  which ← operator_mark
  both ← two_params
  word w.KwAs
  t ← ty
  gives (kind.Operator at which mark_at both.0 both.1 t, closers.Operator)

-- a procedure that begins with this word
abbrev pub procedure_with : ℕ → ℕ → Word → (Span → Phrase Opening) → Phrase (ProcedureKind × Block)
procedure_with most room which opened = do
  at ← here
  word which
  o ← opened at
  b ← ended_by most room o.1
  gives (o.0, b)

abbrev pub procedure_parts : ℕ → ℕ → Phrase (ProcedureKind × Block)
procedure_parts most room = either (procedure_with most room w.KwSub (λ at. do n ← name; sub_behind at n))
    (either (procedure_with most room w.KwFunction (λ at. do n ← name; function_behind at n))
    (either (procedure_with most room w.KwConstructor constructor)
    (either (procedure_with most room w.KwDestructor destructor)
    (procedure_with most room w.KwOperator (λ at. either (let_operator at) (mark_operator at))))))

-- a procedure, and how many tokens it has
abbrev pub procedure : ℕ → ℕ → Phrase Item
procedure most room = λ ts x rest. (p : ProcedureKind × Block) × procedure_parts most room ts p rest × (x ≡ item.Procedure (record { kind = p.0; body = p.1; tokens = words_before ts rest }))

-- ---- Types

abbrev pub field : ℕ → Phrase Member
field most = do
  n ← name
  b ← behind_mark Open (bounds most)
  word w.KwAs
  t ← ty
  gives (member.Field n b t)

-- behind Declare in a Type
abbrev pub declared_member : Span → Phrase Member
declared_member at = either (do word_at ← here; word w.KwConstructor; all ← any_params true; gives (member.Constructor at word_at all))
    (either (do word_at ← here; word w.KwDestructor; no_params; gives (member.Destructor at word_at))
    (either (do word w.KwOperator; let_at ← here; word w.KwLet; p ← one_param true; gives (member.Let at let_at p))
    (do h ← declared_head; gives (member.Declare at h))))

abbrev pub one_member : ℕ → Phrase Member
one_member most = either (do at ← here; word w.KwDeclare; declared_member at) (field most)

-- members, each with an end
pub data Members (most : ℕ) : List Token → List Member → List Token → Type 0 where
  none : (ts : List Token) → Members most ts [] ts
  some : (ts between rest : List Token) (x : Member) (all : List Member) → one_member most ts x between → sees_sep lines.Free between ≡ true
      → Members most (next between) all rest → Members most ts (x ∷ all) rest

-- a Type has a field at least
abbrev pub with_field : List Member → Phrase (Unit {0})
with_field all = λ ts u rest. (has_field all ≡ true) × (rest ≡ ts)

abbrev pub type_def : ℕ → Phrase Item
type_def most = do
  at ← here
  word w.KwType
  n ← name
  sep lines.Free
  all ← Members most
  with_field all
  word w.KwEnd
  word w.KwType
  gives (item.Type at n all)

-- ---- the text

-- What stands at the module's level, and how many tokens of it are the main module's.
abbrev pub one_item : ℕ → ℕ → Phrase (Item × ℕ)
one_item most room = λ ts p rest.
    ((p.1 ≡ 0) × (declare ts p.0 rest ⊎ type_def most ts p.0 rest ⊎ procedure most room ts p.0 rest))
    ⊎ ((x : Stmt) × stmt most (suc room) levels.Module lines.Free ts x rest × (p ≡ (item.Stmt x, words_before ts rest)))

-- Items of a text, each with an end, which the text's end is, too; the number is what they add to the main module's tokens.
pub data Items (most room : ℕ) : List Token → List Item → ℕ → Type 0 where
  none : Items most room [] [] 0
  blank : (ts : List Token) (all : List Item) (n : ℕ) → sees_sep lines.Free ts ≡ true → Items most room (next ts) all n → Items most room ts all n
  last : (ts : List Token) (p : Item × ℕ) → one_item most room ts p [] → Items most room ts (p.0 ∷ []) p.1
  some : (ts between : List Token) (p : Item × ℕ) (all : List Item) (n : ℕ) → one_item most room ts p between → sees_sep lines.Free between ≡ true
      → Items most room (next between) all n → Items most room ts (p.0 ∷ all) (p.1 + n)

-- A list of tokens is a text, with its tree: expressions are at most so deep, and statements in procedures.
abbrev pub IsTextWithin : ℕ → ℕ → List Token → ℕ → Tree → Type 0
IsTextWithin most room ts last_line tree = Items most room ts tree.items tree.tokens × (tree.last_line ≡ last_line)

-- Each expression, statement and procedure is at most 200 deep; a procedure is one deeper than its statements.
abbrev pub IsText : List Token → ℕ → Tree → Type 0
IsText ts last_line tree = IsTextWithin 200 199 ts last_line tree
