-- The productions of expressions, each as the production of what follows its first token.
use Rattle.std.specs.Prelude.{Bool, true, false, List}
use Rattle.fb_base.specs.declared.fault.Span.{Span}
use Rattle.fb_lexer.specs.declared.token.TokenKind.{TokenKind}
use Rattle.fb_lexer.specs.declared.token.TokenKind.TheVariants as kinds
use Rattle.fb_lexer.specs.declared.token.Mark.{Mark}
use Rattle.fb_lexer.specs.declared.token.Mark.TheVariants.{Open, Close, OpenBracket, CloseBracket, Comma}
use Rattle.fb_ast.specs.declared.operator.CallWord.{CallWord}
use Rattle.fb_ast.specs.declared.expr.Expr.{Expr}
use Rattle.fb_ast.specs.declared.expr.Expr.TheVariants as e
use Rattle.fb_ast.specs.declared.ty.TypeName.{TypeName}
use Rattle.fb_ast.specs.declared.part.Name.{Name}
use Rattle.fb_ast.specs.Places.{place_of}
use Rattle.parse_expr.specs.declared.kinds.OperandWord.{OperandWord}
use Rattle.parse_expr.specs.declared.kinds.OperandWord.TheVariants as begins
use Rattle.parse_expr.specs.declared.kinds.Suffix.{Suffix}
use Rattle.parse_expr.specs.declared.kinds.Suffix.TheVariants as suffixes
use Rattle.parse_expr.specs.Words.{operand_word}

-- What follows, part by part, and the tree that it gives.
pub data Production : Type 0 where
  -- nothing more: the tree
  gives : (tree : Expr) → Production
  -- a mark
  mark : (which : Mark) → (rest : Production) → Production
  -- a type
  typed : (rest : TypeName → Production) → Production
  -- a name
  named : (rest : Name → Production) → Production
  -- an expression, one level deeper
  part : (rest : Expr → Production) → Production
  -- expressions with commas between, perhaps none, and the closing parenthesis
  arguments : (rest : List Expr → Production) → Production
  -- where this mark comes next, it and the first production, else the second
  choice : (which : Mark) → (one other : Production) → Production

-- How a production begins: with no expression among its parts, perhaps, or with one at least.
pub data Start : Type 0 where
  Leaf : Production → Start
  Inner : Production → Start
  Nothing : Start

abbrev pub paren_production : Span → Production
paren_production at = part (λ inner. mark Close (gives (e.Paren at inner)))

abbrev pub new_array_production : Span → TypeName → Production
new_array_production at ty = part (λ count. mark CloseBracket (gives (e.NewArray at ty count)))

abbrev pub new_with_production : Span → TypeName → Production
new_with_production at ty = arguments (λ all. gives (e.NewWith at ty all))

-- parentheses and brackets right behind the type of a New belong to it
abbrev pub new_production : Span → Production
new_production at = typed (λ ty. choice Open (new_with_production at ty) (choice OpenBracket (new_array_production at ty) (gives (e.New at ty))))

abbrev pub cast_production : Span → Production
cast_production at = mark Open (typed (λ ty. mark Comma (part (λ value. mark Close (gives (e.Cast at ty value))))))

abbrev pub cptr_production : Span → Production
cptr_production at = mark Open (typed (λ ty. mark Comma (part (λ value. mark Close (gives (e.CPtr at ty value))))))

abbrev pub size_production : Span → Production
size_production at = mark Open (typed (λ ty. mark Close (gives (e.SizeOf at ty))))

abbrev pub iif_production : Span → Production
iif_production at = mark Open (part (λ condition. mark Comma (part (λ one. mark Comma (part (λ other. mark Close (gives (e.IIf at condition one other))))))))

abbrev pub call_word_production : Span → CallWord → Production
call_word_production at word = mark Open (arguments (λ all. gives (e.CallWord at word all)))

abbrev pub word_start : Span → OperandWord → Start
word_start at begins.True = Leaf (gives (e.True at))
word_start at begins.False = Leaf (gives (e.False at))
word_start at begins.This = Leaf (gives (e.This at))
word_start at begins.New = Leaf (new_production at)
word_start at begins.Cast = Inner (cast_production at)
word_start at begins.CPtr = Inner (cptr_production at)
word_start at begins.SizeOf = Leaf (size_production at)
word_start at begins.IIf = Inner (iif_production at)
word_start at (begins.Call word) = Leaf (call_word_production at word)
word_start at begins.Nothing = Nothing

abbrev pub mark_start : Span → Mark → Start
mark_start at Open = Inner (paren_production at)
mark_start at which = Nothing

-- the production that a token begins
abbrev pub start_of : Span → TokenKind → Start
start_of at (kinds.Number value) = Leaf (gives (e.Number at value))
start_of at (kinds.Str text) = Leaf (gives (e.Str at text))
start_of at (kinds.Name text) = Leaf (gives (e.Name at text))
start_of at (kinds.Mark which) = mark_start at which
start_of at (kinds.Word word) = word_start at (operand_word word)
start_of at kinds.Colon = Nothing
start_of at kinds.LineEnd = Nothing

-- whether a token begins an operand, operators before one aside
abbrev pub begins_some : Start → Bool
begins_some (Leaf production) = true
begins_some (Inner production) = true
begins_some Nothing = false

abbrev pub begins_operand : TokenKind → Bool
begins_operand kind = begins_some (start_of (record { line = 1; col = 1 }) kind)

-- the production that a mark goes on with behind an expression
abbrev pub call_production : Expr → Production
call_production left = arguments (λ all. gives (e.Call (place_of left) left all))

abbrev pub index_production : Expr → Production
index_production left = part (λ at. mark CloseBracket (gives (e.Index (place_of left) left at)))

abbrev pub field_production : Expr → Production
field_production left = named (λ name. gives (e.Field (place_of left) left name))

abbrev pub arrow_production : Expr → Production
arrow_production left = named (λ name. gives (e.Arrow (place_of left) left name))

abbrev pub suffix_production : Expr → Suffix → Production
suffix_production left suffixes.Call = call_production left
suffix_production left suffixes.Index = index_production left
suffix_production left suffixes.Field = field_production left
suffix_production left suffixes.Arrow = arrow_production left
