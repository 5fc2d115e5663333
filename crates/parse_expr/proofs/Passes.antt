-- What the productions of the productions have in common: behind a part comes a mark that goes on with no expression.
use Rattle.std.proofs.Common.{◌≡◌, ℕ, Bool, true, false, List, [], ◌∷◌, ◌++◌, Some, None, refl, sym, ap, ◌∙◌, rules}
use Rattle.fb_base.specs.declared.fault.Span.{Span}
use Rattle.fb_lexer.specs.declared.token.Token.{Token}
use Rattle.fb_lexer.specs.declared.token.TokenKind.{TokenKind}
use Rattle.fb_lexer.specs.declared.token.TokenKind.TheVariants as kinds
use Rattle.fb_lexer.specs.declared.token.Mark.{Mark}
use Rattle.fb_lexer.specs.declared.token.Mark.TheVariants.{Open, OpenBracket}
use Rattle.fb_ast.specs.declared.expr.Expr.{Expr, the_lemmas}
use Rattle.fb_ast.specs.declared.expr.Expr.TheVariants as e
use Rattle.fb_ast.specs.declared.ty.TypeName.{TypeName}
use Rattle.fb_ast.specs.declared.part.Name.{Name}
use Rattle.parse_expr.specs.declared.kinds.Suffix.{Suffix}
use Rattle.parse_expr.specs.declared.kinds.Suffix.TheVariants as suffix_kinds
use Rattle.parse_expr.specs.declared.kinds.OperandWord.{OperandWord}
use Rattle.parse_expr.specs.declared.kinds.OperandWord.TheVariants as begins_word
use Rattle.parse_expr.specs.Words.{suffix_of, suffix_mark, binary_of, binary_mark, is_pointer, operand_word}
use Rattle.parse_expr.specs.Reading.{first, same_mark, is_mark, holds, sees}
use Rattle.parse_expr.specs.Productions.{Production, gives, mark, typed, named, part, arguments, choice, Start, Leaf, Inner, Nothing, start_of, word_start, mark_start, suffix_production, new_production, new_array_production}
use Rattle.parse_expr.specs.Expr.{opens}
use Rattle.parse_expr.specs.Grammar.{may_follow, Behind, Is, nothing, a_mark, with_choice, without_choice}
use Rattle.parse_expr.proofs.Sound.{mark_is}
use Rattle.parse_expr.proofs.Climbs.{MayGo}
use Rattle.parse_expr.proofs.Depths.{Deep}

-- a mark behind which no expression goes on
abbrev pub Stops : Mark → Type 0
Stops which = (suffix_mark which ≡ None) × (binary_mark which ≡ None)

abbrev pub Stopped : Production → Type 0
Stopped (mark which production) = Stops which
Stopped production = ⊥

-- behind a type comes a mark, or nothing
abbrev pub Unpointed : Production → Type 0
Unpointed (gives tree) = Unit {0}
Unpointed (mark which production) = Unit {0}
Unpointed (choice which one other) = Unpointed other
Unpointed production = ⊥

-- no pointer word comes next, and no mark that goes on with the tree
pub record Ends (tree : Expr) (rest : List Token) : Type 0 where
  pub goes : MayGo tree rest
  pub no_pointer : holds is_pointer (first rest) ≡ false

-- where the mark of a choice comes next it is the first production's
pub record Chosen (which : Mark) (one other : Production) : Type 0 where
  pub apart : (ts : List Token) (deepest depth : ℕ) (tree : Expr) (rest : List Token) → Is (Behind other deepest depth tree) ts → MayGo tree rest → sees which (ts ++ rest) ≡ false
  pub inside : opens one ≡ true → Deep one

abbrev pub Passes : Production → Type 0
Passes (gives tree) = Unit {0}
Passes (mark which production) = Passes production
Passes (typed production) = (ty : TypeName) → Unpointed (production ty) × Passes (production ty)
Passes (named production) = (name : Name) → Passes (production name)
Passes (part production) = (inner : Expr) → Stopped (production inner) × Passes (production inner)
Passes (arguments production) = (all : List Expr) → Passes (production all)
Passes (choice which one other) = Chosen which one other × Passes one × Passes other

-- ---- the choices behind the type of a New

unseen_if : (which : Mark) (kind : Suffix) (at : Span) (ty : TypeName) (t : Token) (ts : List Token) (b : Bool) → is_mark which t.kind ≡ b
    → suffix_mark which ≡ Some kind → may_follow (e.New at ty) kind ≡ false → MayGo (e.New at ty) (t ∷ ts) → b ≡ false
unfolding first
unseen_if which kind at ty t ts false eq is never goes = refl
unseen_if which kind at ty t ts true eq is never goes =
    let k : t.kind ≡ kinds.Mark which = mark_is which t.kind eq in
    let s : suffix_of t.kind ≡ Some kind = ap suffix_of k ∙ is in
    let g : may_follow (e.New at ty) kind ≡ true = goes kind s in
    sym g ∙ never

-- neither comes behind a New that has none
unseen : (which : Mark) (kind : Suffix) (at : Span) (ty : TypeName) (rest : List Token) → suffix_mark which ≡ Some kind → may_follow (e.New at ty) kind ≡ false → MayGo (e.New at ty) rest → sees which rest ≡ false
unfolding sees first
unseen which kind at ty [] is never goes = refl
unseen which kind at ty (t ∷ ts) is never goes = unseen_if which kind at ty t ts (is_mark which t.kind) refl is never goes

other_mark : (which found : Mark) (kind : TokenKind) → kind ≡ kinds.Mark found → same_mark found which ≡ false → is_mark which kind ≡ false
other_mark which found kind is not_same = ap (is_mark which) is ∙ not_same

plain_apart : (at : Span) (ty : TypeName) (ts : List Token) (deepest depth : ℕ) (tree : Expr) (rest : List Token) → Is (Behind (gives (e.New at ty)) deepest depth tree) ts → MayGo tree rest → sees OpenBracket (ts ++ rest) ≡ false
plain_apart at ty ts deepest depth tree rest (nothing c d) goes = unseen OpenBracket suffix_kinds.Index at ty rest refl (search (rules, the_lemmas)) goes

open_apart : (at : Span) (ty : TypeName) (ts : List Token) (deepest depth : ℕ) (tree : Expr) (rest : List Token)
    → Is (Behind (choice OpenBracket (new_array_production at ty) (gives (e.New at ty))) deepest depth tree) ts → MayGo tree rest → sees Open (ts ++ rest) ≡ false
unfolding sees first same_mark
open_apart at ty ts deepest depth tree rest (with_choice t more which one other c d x kind r) goes = other_mark Open OpenBracket t.kind kind refl
open_apart at ty ts deepest depth tree rest (without_choice more which one other c d x (nothing f g)) goes = unseen Open suffix_kinds.Call at ty rest refl (search (rules, the_lemmas)) goes

new_passes : (at : Span) → Passes (new_production at)
new_passes at ty = (
  tt,
  (
    record { apart = open_apart at ty; inside = λ is. cc },
    (λ all. tt),
    (record { apart = plain_apart at ty; inside = λ is. tt }, (λ count. ((refl, refl), tt)), tt),
  ),
)

abbrev pub StartPasses : Start → Type 0
StartPasses (Leaf production) = Passes production
StartPasses (Inner production) = Passes production × Deep production
StartPasses Nothing = Unit {0}

word_passes : (at : Span) (word : OperandWord) → StartPasses (word_start at word)
word_passes at begins_word.True = tt
word_passes at begins_word.False = tt
word_passes at begins_word.This = tt
word_passes at begins_word.New = new_passes at
word_passes at begins_word.Cast = ((λ ty. (tt, (λ value. ((refl, refl), tt)))), (λ ty. tt))
word_passes at begins_word.CPtr = ((λ ty. (tt, (λ value. ((refl, refl), tt)))), (λ ty. tt))
word_passes at begins_word.SizeOf = λ ty. (tt, tt)
word_passes at begins_word.IIf = ((λ a. ((refl, refl), (λ b. ((refl, refl), (λ c. ((refl, refl), tt)))))), tt)
word_passes at (begins_word.Call word) = λ all. tt
word_passes at begins_word.Nothing = tt

mark_passes : (at : Span) (which : Mark) → StartPasses (mark_start at which)
mark_passes at Open = ((λ inner. ((refl, refl), tt)), tt)
mark_passes at which = tt

pub start_passes : (at : Span) (kind : TokenKind) → StartPasses (start_of at kind)
start_passes at (kinds.Number value) = tt
start_passes at (kinds.Str text) = tt
start_passes at (kinds.Name text) = tt
start_passes at (kinds.Mark which) = mark_passes at which
start_passes at (kinds.Word word) = word_passes at (operand_word word)
start_passes at kinds.Colon = tt
start_passes at kinds.LineEnd = tt

pub suffix_passes : (left : Expr) (kind : Suffix) → Passes (suffix_production left kind)
suffix_passes left suffix_kinds.Call = λ all. tt
suffix_passes left suffix_kinds.Index = λ inner. ((refl, refl), tt)
suffix_passes left suffix_kinds.Field = λ name. tt
suffix_passes left suffix_kinds.Arrow = λ name. tt

-- ---- what comes behind a part and behind a type

pub record Stopping (ts : List Token) : Type 0 where
  pub token : Token
  pub more : List Token
  pub is : ts ≡ token ∷ more
  pub suffix : suffix_of token.kind ≡ None
  pub operator : binary_of token.kind ≡ None
  pub pointer : is_pointer token.kind ≡ false

pub by_mark : (t : Token) (ts : List Token) (which : Mark) → t.kind ≡ kinds.Mark which → Stops which → Stopping (t ∷ ts)
by_mark t ts which kind s = record { token = t; more = ts; is = refl; suffix = ap suffix_of kind ∙ s.0; operator = ap binary_of kind ∙ s.1; pointer = ap is_pointer kind }

pub stopping : (production : Production) (deepest depth : ℕ) (tree : Expr) (ts : List Token) → Stopped production → Is (Behind production deepest depth tree) ts → Stopping ts
stopping (mark which production) deepest depth tree ts s (a_mark t more w r c d x kind i) = by_mark t more which kind s
stopping (gives tree) deepest depth x ts s i = absurd s
stopping (typed production) deepest depth x ts s i = absurd s
stopping (named production) deepest depth x ts s i = absurd s
stopping (part production) deepest depth x ts s i = absurd s
stopping (arguments production) deepest depth x ts s i = absurd s
stopping (choice which one other) deepest depth x ts s i = absurd s

pub unpointed : (production : Production) (deepest depth : ℕ) (tree : Expr) (ts rest : List Token) → Unpointed production → Is (Behind production deepest depth tree) ts → holds is_pointer (first rest) ≡ false → holds is_pointer (first (ts ++ rest)) ≡ false
unfolding first
unpointed (mark which production) deepest depth tree ts rest u (a_mark t more w r c d x kind i) none = ap is_pointer kind
unpointed (gives tree) deepest depth x ts rest u (nothing c d) none = none
unpointed (choice which one other) deepest depth x ts rest u (with_choice t more w a b c d y kind i) none = ap is_pointer kind
unpointed (choice which one other) deepest depth x ts rest u (without_choice more w a b c d y i) none = unpointed other deepest depth x ts rest u i none
unpointed (typed production) deepest depth x ts rest u i none = absurd u
unpointed (named production) deepest depth x ts rest u i none = absurd u
unpointed (part production) deepest depth x ts rest u i none = absurd u
unpointed (arguments production) deepest depth x ts rest u i none = absurd u
