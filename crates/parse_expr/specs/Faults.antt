-- The first fault: the first token up to which no expression agrees with the tokens, and its kind.
use Rattle.std.specs.Prelude.{◌≡◌, ◌≤◌, ℕ, Bool, true, false, List, [], ◌∷◌, ◌++◌, drop, ◌⊎◌}
use Rattle.fb_base.specs.declared.fault.Fault.{Fault}
use Rattle.fb_base.specs.declared.fault.FaultKind.{FaultKind}
use Rattle.fb_base.specs.declared.fault.FaultKind.TheVariants.{Expected, DeepNesting, OutOfProfile}
use Rattle.fb_lexer.specs.declared.token.Token.{Token}
use Rattle.fb_lexer.specs.declared.token.TokenKind.{TokenKind}
use Rattle.fb_lexer.specs.declared.token.TokenKind.TheVariants as kinds
use Rattle.fb_lexer.specs.declared.word.Word.TheVariants as w
use Rattle.fb_ast.specs.declared.expr.Expr.{Expr}
use Rattle.parse_expr.specs.declared.error.ParseErr.{ParseErr}
use Rattle.parse_expr.specs.declared.error.ParseErr.TheVariants as errors
use Rattle.parse_expr.specs.Words.{is_refused}
use Rattle.parse_expr.specs.Expr.{fault_place}
use Rattle.parse_expr.specs.Grammar.{IsExpression, Begins, BeginsAtAnyDepth, Stands}

-- Behind these tokens an operand may begin: a number may stand there, which is nothing but an operand.
pub record TakesOperand (front : List Token) : Type 0 where
  pub token : Token
  pub value : ℕ
  pub kind : token.kind ≡ kinds.Number value
  pub begins : BeginsAtAnyDepth (front ++ token ∷ [])

-- And here a type: the word Integer may stand there, which is nothing but a type.
pub record TakesType (front : List Token) : Type 0 where
  pub token : Token
  pub kind : token.kind ≡ kinds.Word w.KwInteger
  pub begins : BeginsAtAnyDepth (front ++ token ∷ [])

abbrev pub is_refused_kind : TokenKind → Bool
is_refused_kind (kinds.Word word) = is_refused word
is_refused_kind kind = false

-- a word that this profile doesn't have, where an operand or a type may begin
pub record RefusedThere (front : List Token) (t : Token) : Type 0 where
  pub word : is_refused_kind t.kind ≡ true
  pub here : TakesOperand front ⊎ TakesType front

-- What is wrong with a token: it is such a word; or else only the depth forbids it; or else another one is required.
abbrev pub HasKind : List Token → Token → FaultKind → Type 0
HasKind front t OutOfProfile = RefusedThere front t
HasKind front t DeepNesting = (RefusedThere front t → ⊥) × BeginsAtAnyDepth (front ++ t ∷ [])
HasKind front t Expected = (RefusedThere front t → ⊥) × (BeginsAtAnyDepth (front ++ t ∷ []) → ⊥)
HasKind front t kind = ⊥

-- No expression begins with the front and the next token, and it is wrong in this way. The front is no whole
-- expression, but where only the depth forbids to go on with it. Without a next token the front is no expression.
abbrev pub StopsAt : List Token → List Token → FaultKind → Type 0
StopsAt front [] kind = (kind ≡ Expected) × ((tree : Expr) → IsExpression front tree → ⊥)
StopsAt front (t ∷ behind) kind = (Begins (front ++ t ∷ []) → ⊥) × HasKind front t kind × ((tree : Expr) → IsExpression front tree → kind ≡ DeepNesting)

-- The first fault from a place on: some expression begins with the tokens before it, and none with its token too. It
-- stands at that token, or at the last one of all where there is none.
pub record FirstFault (tokens : List Token) (at : ℕ) (fault : Fault) : Type 0 where
  pub front : List Token
  pub rest : List Token
  pub is : drop at tokens ≡ front ++ rest
  pub agrees : Begins front
  pub stops : StopsAt front rest fault.kind
  pub place_is : fault.at ≡ fault_place tokens rest

-- want of memory, or the first fault
abbrev pub Fails : List Token → ℕ → ParseErr → Type 0
Fails tokens at errors.NoMemory = Unit {0}
Fails tokens at (errors.Fault fault) = FirstFault tokens at fault

-- an expression that stands at a place, and no longer one does
pub record Longest (tokens : List Token) (at end : ℕ) (tree : Expr) : Type 0 where
  pub stands : Stands tokens at end tree
  pub longest : (other : ℕ) (another : Expr) → Stands tokens at other another → other ≤ end
