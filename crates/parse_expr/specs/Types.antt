-- Types as they are written: the word of a type or a name, and then Ptr or Pointer any number of times.
use Rattle.std.specs.Prelude.{ℕ, suc, Bool, if◌then◌else◌, List, [], ◌∷◌, Option, Some, None, Ok}
use Rattle.fb_base.specs.declared.fault.Span.{Span}
use Rattle.fb_base.specs.declared.fault.FaultKind.TheVariants.{Expected}
use Rattle.fb_lexer.specs.declared.token.Token.{Token}
use Rattle.fb_lexer.specs.declared.token.TokenKind.{TokenKind}
use Rattle.fb_lexer.specs.declared.token.TokenKind.TheVariants as kinds
use Rattle.fb_ast.specs.declared.ty.Base.{Base}
use Rattle.fb_ast.specs.declared.ty.TypeName.{TypeName}
use Rattle.fb_ast.specs.declared.part.Name.{Name}
use Rattle.parse_expr.specs.Words.{base_of, is_pointer}
use Rattle.parse_expr.specs.Reading.{Reader, first, next, holds, refuse, pure, stop, ◌>>◌, take_token}

unfoldable pub sees_pointer : List Token → Bool
sees_pointer ts = holds is_pointer (first ts)

-- how often Ptr or Pointer comes next, and the tokens behind
unfoldable pub pointers : List Token → ℕ
pointers [] = 0
pointers (t ∷ ts) = if is_pointer t.kind then suc (pointers ts) else 0

unfoldable pub behind_pointers : List Token → List Token
behind_pointers [] = []
behind_pointers (t ∷ ts) = if is_pointer t.kind then behind_pointers ts else t ∷ ts

abbrev pub type_from : Span → Option Base → Reader TypeName
type_from at None = refuse
type_from at (Some base) = λ ts. Ok (record { at = at; base = base; pointers = pointers (next ts) }, behind_pointers (next ts))

abbrev pub type_at : Option Token → Reader TypeName
type_at None = refuse
type_at (Some t) = type_from t.at (base_of t.kind)

unfoldable pub type_name : Reader TypeName
type_name = λ ts. type_at (first ts) ts

-- a name
abbrev pub name_by : Span → TokenKind → Reader Name
name_by at (kinds.Name text) = take_token >> pure (record { at = at; text = text })
name_by at kind = stop Expected

abbrev pub name_at : Option Token → Reader Name
name_at None = stop Expected
name_at (Some t) = name_by t.at t.kind

unfoldable pub name : Reader Name
name = λ ts. name_at (first ts) ts
