-- The tokens up to which some text agrees, and where a fault stands.
use Rattle.std.specs.Prelude.{◌≡◌, ◌≢◌, ℕ, ◌+◌, true, List, [], ◌∷◌, ◌++◌, ◌⊎◌}
use Rattle.fb_base.specs.declared.fault.Fault.{Fault}
use Rattle.fb_base.specs.declared.fault.FaultKind.{FaultKind}
use Rattle.fb_base.specs.declared.fault.FaultKind.TheVariants.{DeepNesting, Expected, ExtraText, OutOfProfile}
use Rattle.fb_lexer.specs.TokenList.{TokenList}
use Rattle.fb_lexer.specs.declared.token.Token.{Token}
use Rattle.fb_lexer.specs.declared.token.TokenKind.TheVariants as kinds
use Rattle.fb_lexer.specs.declared.word.Word.TheVariants as w
use Rattle.fb_ast.specs.declared.tree.Tree.{Tree}
use Rattle.parse_expr.specs.declared.error.ParseErr.{ParseErr}
use Rattle.parse_expr.specs.declared.error.ParseErr.TheVariants as errors
use Rattle.parse_expr.specs.Expr.{fault_place}
use Rattle.parse_expr.specs.Faults.{is_refused_kind}
use Rattle.parse_stmt.specs.Texts.{IsText, IsTextWithin}

-- tokens that some text begins with
pub record Begins (ts : List Token) : Type 0 where
  pub more : List Token
  pub last_line : ℕ
  pub tree : Tree
  pub are : IsText (ts ++ more) last_line tree

-- tokens that some text begins with whose expressions and statements may be so much deeper
pub record BeginsDeeper (more_deep more_room : ℕ) (ts : List Token) : Type 0 where
  pub more : List Token
  pub last_line : ℕ
  pub tree : Tree
  pub are : IsTextWithin (200 + more_deep) (199 + more_room) (ts ++ more) last_line tree

-- ---- the kind of a fault

-- tokens that some text begins with, however deep
pub record BeginsAtAnyDepth (ts : List Token) : Type 0 where
  pub more_deep : ℕ
  pub more_room : ℕ
  pub begins : BeginsDeeper more_deep more_room ts

-- what stands for all operands, all types, all statements and all fields where one of them may begin: a number, Integer, Print,
-- and Declare, which may stand where a field may, and at the module's level, where a statement may begin, too
abbrev pub IsSample : Token → Type 0
IsSample t = ((value : ℕ) × (t.kind ≡ kinds.Number value)) ⊎ ((t.kind ≡ kinds.Word w.KwInteger) ⊎ ((t.kind ≡ kinds.Word w.KwPrint) ⊎ (t.kind ≡ kinds.Word w.KwDeclare)))

-- a word that this profile doesn't have, where an operand, a type, a statement or a field may begin
pub record RefusedThere (front : List Token) (t : Token) : Type 0 where
  pub word : is_refused_kind t.kind ≡ true
  pub sample : Token
  pub such : IsSample sample
  pub begins : BeginsAtAnyDepth (front ++ sample ∷ [])

-- Behind these tokens a statement, a member or an item may end: a colon or a line's end may stand there.
pub record TakesEnd (front : List Token) : Type 0 where
  pub token : Token
  pub kind : (token.kind ≡ kinds.Colon) ⊎ (token.kind ≡ kinds.LineEnd)
  pub begins : Begins (front ++ token ∷ [])

-- What is wrong with a token: it is such a word; or else only the depth forbids it; or else an end would do in its place;
-- or else another token is required.
abbrev pub HasKind : List Token → Token → FaultKind → Type 0
HasKind front t OutOfProfile = RefusedThere front t
HasKind front t DeepNesting = (RefusedThere front t → ⊥) × BeginsAtAnyDepth (front ++ t ∷ [])
HasKind front t ExtraText = (RefusedThere front t → ⊥) × (BeginsAtAnyDepth (front ++ t ∷ []) → ⊥) × TakesEnd front
HasKind front t Expected = (RefusedThere front t → ⊥) × (BeginsAtAnyDepth (front ++ t ∷ []) → ⊥) × (TakesEnd front → ⊥)
HasKind front t kind = ⊥

-- The first token up to which no text agrees with the tokens: some text begins with those before it, and none with its
-- token too, not even a deeper one, unless only the depth is wrong. It is wrong in the way that the fault's kind says. Where
-- there is no such token those before it are no text, and something more is Expected. The fault stands at that token, or at
-- the last one of all.
pub record FirstAt (tokens : List Token) (fault : Fault) : Type 0 where
  pub front : List Token
  pub rest : List Token
  pub is : tokens ≡ front ++ rest
  pub agrees : Begins front
  pub none : (t : Token) (behind : List Token) → rest ≡ t ∷ behind → Begins (front ++ t ∷ []) → ⊥
  pub no_deeper : (t : Token) (behind : List Token) → rest ≡ t ∷ behind → fault.kind ≢ DeepNesting → (more_deep more_room : ℕ) → BeginsDeeper more_deep more_room (front ++ t ∷ []) → ⊥
  pub kind_is : (t : Token) (behind : List Token) → rest ≡ t ∷ behind → HasKind front t fault.kind
  pub short : (last_line : ℕ) (tree : Tree) → rest ≡ [] → IsText front last_line tree → ⊥
  pub ends : rest ≡ [] → fault.kind ≡ Expected
  pub place_is : fault.at ≡ fault_place tokens rest

-- Why tokens have no tree: want of memory; or they are no text, and this is the first fault.
abbrev pub Fails : TokenList → ParseErr → Type 0
Fails tokens errors.NoMemory = Unit {0}
Fails tokens (errors.Fault fault) = FirstAt tokens.items fault × ((tree : Tree) → IsText tokens.items tokens.last_line tree → ⊥)
