-- What the grammar says is an expression is read as it.
use Rattle.std.proofs.Common.{◌≡◌, ◌≤◌, ◌<◌, ℕ, zero, suc, ◌+◌, ◌==◌, max, nat_lt, Bool, true, false, if◌then◌else◌, List, [], ◌∷◌, ◌++◌, length, Option, Some, None, Ok, refl, sym, ap, ◌∙◌, subst, inl, inr, arith, append_assoc, length-append}
use Rattle.std.proofs.lemmas.Bool.Decides.{nat_tests}
use Rattle.fb_lexer.specs.declared.token.Token.{Token}
use Rattle.fb_lexer.specs.declared.token.TokenKind.{TokenKind}
use Rattle.fb_lexer.specs.declared.token.TokenKind.TheVariants as kinds
use Rattle.fb_lexer.specs.declared.token.Mark.{Mark}
use Rattle.fb_lexer.specs.declared.token.Mark.TheVariants as marks
use Rattle.fb_lexer.specs.declared.token.Mark.TheVariants.{Open, Close, Comma}
use Rattle.fb_lexer.specs.declared.word.Word.{Word}
use Rattle.fb_lexer.specs.declared.word.Word.TheVariants as w
use Rattle.fb_ast.specs.declared.expr.Expr.{Expr}
use Rattle.fb_ast.specs.declared.expr.Expr.TheVariants as e
use Rattle.fb_ast.specs.declared.ty.Base.{Base}
use Rattle.fb_ast.specs.declared.ty.TypeName.{TypeName}
use Rattle.fb_ast.specs.declared.part.Name.{Name}
use Rattle.fb_ast.specs.declared.operator.Unary.{Unary}
use Rattle.fb_ast.specs.declared.operator.Binary.{Binary}
use Rattle.fb_ast.specs.Places.{place_of}
use Rattle.parse_expr.specs.declared.kinds.Operator.{Operator}
use Rattle.parse_expr.specs.declared.kinds.Suffix.{Suffix}
use Rattle.parse_expr.specs.Words.{suffix_of, suffix_mark, prefix_of, binary_of, binary_mark, binary_word, base_of, is_pointer}
use Rattle.parse_expr.specs.Reading.{first, next, same_mark, is_mark, holds, sees, expect, Outcome, and_then}
use Rattle.parse_expr.specs.Types.{pointers, behind_pointers, type_name, name}
use Rattle.parse_expr.specs.Productions.{Production, mark, typed, named, part, arguments, choice, Start, Leaf, Inner, Nothing, start_of, suffix_production}
use Rattle.parse_expr.specs.Expr.{Measured, expr, part_in, arguments_from, arguments_in, read_production, opens, started, primary, suffix_at, suffixed, suffixes, prefixed, operand, operated, climb, level}
use Rattle.parse_expr.specs.Grammar.{ArePointers, IsType, written, production_of, may_follow, Symbol, Expression, Behind, Arguments, Is, primary as a_primary, suffix as a_suffix, prefix as a_prefix, binary as a_binary, nothing, a_mark, a_type, a_name, a_part, no_arguments, some_arguments, with_choice, without_choice, last_argument, one_argument}
use Rattle.parse_expr.proofs.Sound.{mark_is}
use Rattle.parse_expr.proofs.Levels.{small, small_not, prefix_level, prefix_small, coming, AtMost, not_lt, none_comes, some_comes}
use Rattle.parse_expr.proofs.Climbs.{MayGo}
use Rattle.parse_expr.proofs.Turned.{suffixes_some, suffixes_none, climb_some, climb_none}
use Rattle.parse_expr.proofs.Depths.{args_grow, grows, positive, Deep, deep}
use Rattle.parse_expr.proofs.Passes.{Stopping, by_mark, stopping, unpointed, Passes, StartPasses, start_passes, suffix_passes}

-- ---- steps

same_self : (which : Mark) → same_mark which which ≡ true
unfolding same_mark
same_self marks.Plus = refl
same_self marks.Minus = refl
same_self marks.Star = refl
same_self marks.Backslash = refl
same_self marks.Ampersand = refl
same_self marks.Equal = refl
same_self marks.NotEqual = refl
same_self marks.Less = refl
same_self marks.LessEqual = refl
same_self marks.Greater = refl
same_self marks.GreaterEqual = refl
same_self marks.Open = refl
same_self marks.Close = refl
same_self marks.OpenBracket = refl
same_self marks.CloseBracket = refl
same_self marks.Comma = refl
same_self marks.Semicolon = refl
same_self marks.Dot = refl
same_self marks.Arrow = refl
same_self marks.At = refl
same_self marks.PlusEqual = refl
same_self marks.MinusEqual = refl
same_self marks.StarEqual = refl
same_self marks.BackslashEqual = refl
same_self marks.AmpersandEqual = refl

close_comma : same_mark Close Comma ≡ false
unfolding same_mark
close_comma = refl

pub sees_it : (which : Mark) (t : Token) (ts : List Token) → t.kind ≡ kinds.Mark which → sees which (t ∷ ts) ≡ true
unfolding sees first
sees_it which t ts kind = ap (is_mark which) kind ∙ same_self which

pub expect_is : (which : Mark) (t : Token) (ts : List Token) → t.kind ≡ kinds.Mark which → expect which (t ∷ ts) ≡ Ok (tt, ts)
unfolding expect next
expect_is which t ts kind = let e : sees which (t ∷ ts) ≡ true = sees_it which t ts kind in rw e refl

sees_other : (which found : Mark) (t : Token) (ts : List Token) → t.kind ≡ kinds.Mark found → same_mark found which ≡ false → sees which (t ∷ ts) ≡ false
unfolding sees first
sees_other which found t ts kind other = ap (is_mark which) kind ∙ other

name_is : (t : Token) (ts : List Token) (text : List ℕ) → t.kind ≡ kinds.Name text → name (t ∷ ts) ≡ Ok (record { at = t.at; text = text }, ts)
unfolding name first next
name_is t ts text kind = rw kind refl

pub no_pointers : (ts : List Token) → holds is_pointer (first ts) ≡ false → (pointers ts ≡ 0) × (behind_pointers ts ≡ ts)
unfolding pointers behind_pointers first
no_pointers [] none = (refl, refl)
no_pointers (t ∷ ts) none = (rw none refl, rw none refl)

all_pointers : (ps ts : List Token) → ArePointers ps → holds is_pointer (first ts) ≡ false → (pointers (ps ++ ts) ≡ length ps) × (behind_pointers (ps ++ ts) ≡ ts)
unfolding pointers behind_pointers
all_pointers [] ts are none = no_pointers ts none
all_pointers (t ∷ ps) ts are none =
    let is : is_pointer t.kind ≡ true = are.0 in
    let more = all_pointers ps ts are.1 none in
    (rw is (ap suc more.0), rw is more.1)

written_is : (t : Token) (base : Base) (ps : List Token) → base_of t.kind ≡ Some base → ArePointers ps → (ts : List Token) → holds is_pointer (first ts) ≡ false
    → type_name (t ∷ (ps ++ ts)) ≡ Ok (record { at = t.at; base = base; pointers = length ps }, ts)
unfolding type_name first next
written_is t base ps is are ts none = let p = all_pointers ps ts are none in rw (is, p.0, p.1) refl

pub type_is : {front : List Token} {ty : TypeName} → IsType front ty → (ts : List Token) → holds is_pointer (first ts) ≡ false → type_name (front ++ ts) ≡ Ok (ty, ts)
type_is (written t base ps is are) ts none = written_is t base ps is are ts none

suffix_is_mark : (kind : TokenKind) (s : Suffix) → suffix_of kind ≡ Some s → is_pointer kind ≡ false
suffix_is_mark (kinds.Mark which) s is = refl
suffix_is_mark (kinds.Word word) s is = cc
suffix_is_mark (kinds.Name text) s is = refl
suffix_is_mark (kinds.Number value) s is = refl
suffix_is_mark (kinds.Str text) s is = refl
suffix_is_mark kinds.Colon s is = refl
suffix_is_mark kinds.LineEnd s is = refl

binary_mark_ends : (which : Mark) (p : Binary × ℕ) → binary_mark which ≡ Some p → suffix_mark which ≡ None
binary_mark_ends marks.Open p is = cc
binary_mark_ends marks.OpenBracket p is = cc
binary_mark_ends marks.Dot p is = cc
binary_mark_ends marks.Arrow p is = cc
binary_mark_ends which p is = refl

binary_word_ends : (word : Word) (p : Binary × ℕ) → binary_word word ≡ Some p → is_pointer (kinds.Word word) ≡ false
binary_word_ends w.KwPtr p is = cc
binary_word_ends w.KwPointer p is = cc
binary_word_ends word p is = refl

binary_ends : (kind : TokenKind) (p : Binary × ℕ) → binary_of kind ≡ Some p → (suffix_of kind ≡ None) × (is_pointer kind ≡ false)
binary_ends (kinds.Mark which) p is = (binary_mark_ends which p is, refl)
binary_ends (kinds.Word word) p is = (refl, binary_word_ends word p is)
binary_ends (kinds.Name text) p is = (refl, refl)
binary_ends (kinds.Number value) p is = (refl, refl)
binary_ends (kinds.Str text) p is = (refl, refl)
binary_ends kinds.Colon p is = (refl, refl)
binary_ends kinds.LineEnd p is = (refl, refl)

-- ---- what is claimed of each symbol

abbrev pub NoPointer : List Token → Type 0
NoPointer ts = holds is_pointer (first ts) ≡ false

pub record ExprClaim (lev depth : ℕ) (tree : Expr) (ts : List Token) : Type 0 where
  pub whole : (room least : ℕ) (rest : List Token) → depth ≤ suc room → least ≤ lev → least ≤ 14 → suffix_at (first rest) ≡ None → NoPointer rest → AtMost lev rest
      → expr (suc room) least (ts ++ rest) ≡ climb (expr room) room least (tree, depth) rest
  pub alone : 15 ≤ lev → (room least : ℕ) (rest : List Token) → depth ≤ suc room → MayGo tree rest → NoPointer rest
      → operand (expr room) room least (ts ++ rest) ≡ suffixes (expr room) room (tree, depth) rest

abbrev pub ProductionClaim : Production → ℕ → ℕ → Expr → List Token → Type 0
ProductionClaim production deepest depth tree ts = (room : ℕ) (rest : List Token) → depth ≤ suc room → Passes production → MayGo tree rest → NoPointer rest
    → read_production (expr room) room deepest production (ts ++ rest) ≡ Ok ((tree, depth), rest)

abbrev pub ArgumentsClaim : ℕ → ℕ → List Expr → List Token → Type 0
ArgumentsClaim deepest deeper all ts = (room n : ℕ) (found : List Expr) (rest : List Token) → deeper ≤ room → length (ts ++ rest) ≤ n
    → arguments_from (expr room) room n found deepest (ts ++ rest) ≡ Ok ((found ++ all, deeper), rest)

abbrev pub Claim : Symbol → List Token → Type 0
Claim (Expression lev depth tree) ts = ExprClaim lev depth tree ts
Claim (Behind production deepest depth tree) ts = ProductionClaim production deepest depth tree ts
Claim (Arguments deepest deeper all) ts = ArgumentsClaim deepest deeper all ts

-- ---- parts

part_at : (room : ℕ) (inner : Expr) (d deepest : ℕ) (front more : List Token) → 1 ≤ d → ExprClaim 1 d inner front → d ≤ room → Stopping more
    → part_in (expr room) room deepest (front ++ more) ≡ Ok ((inner, max deepest d), more)
unfolding part_in first
part_at zero inner d deepest front more some claim fits s = absurd (omega arith)
part_at (suc room) inner d deepest front more some claim fits s =
    let suffix : suffix_at (first more) ≡ None = ap (λ (ts : List Token). suffix_at (first ts)) s.is ∙ s.suffix in
    let pointer : NoPointer more = ap (λ (ts : List Token). holds is_pointer (first ts)) s.is ∙ s.pointer in
    let operator : coming (first more) ≡ None = ap (λ (ts : List Token). coming (first ts)) s.is ∙ s.operator in
    let below : (p : Binary × ℕ) → coming (first more) ≡ Some p → p.1 < 1 = λ p is. cc in
    let most : AtMost 1 more = λ p is. cc in
    let read = claim.whole room 1 more fits (omega arith) (omega arith) suffix pointer most ∙ climb_none room 1 (inner, d) more (none_comes 1 more below) in
    ap (λ (o : Outcome Measured). and_then o (λ x ts. Ok ((x.0, max deepest x.1), ts))) read

-- ---- arguments

-- an expression doesn't begin with a closing parenthesis
begins_open : (t : Token) (production : Production) → prefix_of t.kind ≡ None → production_of (start_of t.at t.kind) ≡ Some production → (b : Bool) → is_mark Close t.kind ≡ b → b ≡ false
begins_open t production none begins false is = refl
begins_open t production none begins true is =
    let kind : t.kind ≡ kinds.Mark Close = mark_is Close t.kind is in
    let none_there : production_of (start_of t.at (kinds.Mark Close)) ≡ Some production = subst (λ (k : TokenKind). production_of (start_of t.at k) ≡ Some production) kind begins in
    cc

prefix_open : (kind : TokenKind) (p : Unary × ℕ) → prefix_of kind ≡ Some p → (b : Bool) → is_mark Close kind ≡ b → b ≡ false
prefix_open kind p is false e = refl
prefix_open kind p is true e =
    let close : kind ≡ kinds.Mark Close = mark_is Close kind e in
    let none_there : prefix_of (kinds.Mark Close) ≡ Some p = subst (λ (k : TokenKind). prefix_of k ≡ Some p) close is in
    cc

not_closed : {lev depth : ℕ} {tree : Expr} {ts : List Token} → Is (Expression lev depth tree) ts → (rest : List Token) → sees Close (ts ++ rest) ≡ false
unfolding sees first
not_closed (a_primary t production ts lev depth tree none begins low r) rest = begins_open t production none begins (is_mark Close t.kind) refl
not_closed (a_suffix front t back kind left d lev depth tree k may low l r) rest = rw (append_assoc front (t ∷ back) rest) (not_closed l (t ∷ (back ++ rest)))
not_closed (a_prefix t ts operator k d lev operand kind low i) rest = prefix_open t.kind (operator, k) kind (is_mark Close t.kind) refl
not_closed (a_binary front t back operator k c d lev left right kind low l r) rest = rw (append_assoc front (t ∷ back) rest) (not_closed l (t ∷ (back ++ rest)))

args_not_closed : {deepest deeper : ℕ} {all : List Expr} {ts : List Token} → Is (Arguments deepest deeper all) ts → (rest : List Token) → sees Close (ts ++ rest) ≡ false
args_not_closed (last_argument front t inner d deepest i kind) rest = rw (append_assoc front (t ∷ []) rest) (not_closed i (t ∷ rest))
args_not_closed (one_argument front t back inner all d deepest deeper i kind more) rest = rw (append_assoc front (t ∷ back) rest) (not_closed i (t ∷ (back ++ rest)))

module _ (room n : ℕ) (found : List Expr) (deepest : ℕ) (inner : Expr) (d : ℕ) (front : List Token) (t : Token) (more : List Token) (some : 1 ≤ d) (claim : ExprClaim 1 d inner front) (fits : d ≤ room) where
  last_is : t.kind ≡ kinds.Mark Close → arguments_from (expr room) room (suc n) found deepest (front ++ t ∷ more) ≡ Ok ((found ++ inner ∷ [], max deepest d), more)
  unfolding arguments_from expect next
  last_is kind =
      let read = part_at room inner d deepest front (t ∷ more) some claim fits (by_mark t more Close kind (refl, refl)) in
      let no_comma : sees Comma (t ∷ more) ≡ false = sees_other Comma Close t more kind close_comma in
      let close : sees Close (t ∷ more) ≡ true = sees_it Close t more kind in
      rw (read, no_comma, close) refl

  next_is : (all : List Expr) (deeper : ℕ) (rest : List Token) → t.kind ≡ kinds.Mark Comma
      → arguments_from (expr room) room n (found ++ inner ∷ []) (max deepest d) more ≡ Ok (((found ++ inner ∷ []) ++ all, deeper), rest)
      → arguments_from (expr room) room (suc n) found deepest (front ++ t ∷ more) ≡ Ok ((found ++ inner ∷ all, deeper), rest)
  unfolding arguments_from next
  next_is all deeper rest kind again =
      let read = part_at room inner d deepest front (t ∷ more) some claim fits (by_mark t more Comma kind (refl, refl)) in
      let comma : sees Comma (t ∷ more) ≡ true = sees_it Comma t more kind in
      let same : (found ++ inner ∷ []) ++ all ≡ found ++ inner ∷ all = append_assoc found (inner ∷ []) all in
      rw (read, comma) (again ∙ ap (λ (xs : List Expr). Ok ((xs, deeper), rest)) same)

-- ---- productions

some_room : (room : ℕ) → 1 ≤ room → (room == 0) ≡ false
some_room room some = grind (arith, nat_tests)

with_room : (room : ℕ) (deep_production : Bool) (fault o done : Outcome Measured) → (deep_production ≡ true → 1 ≤ room) → o ≡ done → (if deep_production then (if room == 0 then fault else o) else o) ≡ done
with_room zero true fault o done some is = let one : 1 ≤ 0 = some refl in absurd (omega arith)
with_room (suc room) true fault o done some is = rw (some_room (suc room) (omega arith)) is
with_room room false fault o done some is = is

module _ (room : ℕ) (rest : List Token) where
  mark_production : (t : Token) (ts : List Token) (which : Mark) (production : Production) (deepest depth : ℕ) (tree : Expr) → t.kind ≡ kinds.Mark which
      → read_production (expr room) room deepest production (ts ++ rest) ≡ Ok ((tree, depth), rest)
      → read_production (expr room) room deepest (mark which production) (t ∷ (ts ++ rest)) ≡ Ok ((tree, depth), rest)
  mark_production t ts which production deepest depth tree kind again = rw (expect_is which t (ts ++ rest) kind) again

  type_production : (front back : List Token) (ty : TypeName) (production : TypeName → Production) (deepest depth : ℕ) (tree : Expr) → IsType front ty → NoPointer (back ++ rest)
      → read_production (expr room) room deepest (production ty) (back ++ rest) ≡ Ok ((tree, depth), rest)
      → read_production (expr room) room deepest (typed production) ((front ++ back) ++ rest) ≡ Ok ((tree, depth), rest)
  type_production front back ty production deepest depth tree is none again = rw (append_assoc front back rest, type_is is (back ++ rest) none) again

  name_production : (t : Token) (ts : List Token) (text : List ℕ) (production : Name → Production) (deepest depth : ℕ) (tree : Expr) → t.kind ≡ kinds.Name text
      → read_production (expr room) room deepest (production (record { at = t.at; text = text })) (ts ++ rest) ≡ Ok ((tree, depth), rest)
      → read_production (expr room) room deepest (named production) (t ∷ (ts ++ rest)) ≡ Ok ((tree, depth), rest)
  name_production t ts text production deepest depth tree kind again = rw (name_is t (ts ++ rest) text kind) again

  part_production : (front back : List Token) (inner : Expr) (production : Expr → Production) (d deepest depth : ℕ) (tree : Expr) → 1 ≤ d → ExprClaim 1 d inner front → d ≤ room → Stopping (back ++ rest)
      → read_production (expr room) room (max deepest d) (production inner) (back ++ rest) ≡ Ok ((tree, depth), rest)
      → read_production (expr room) room deepest (part production) ((front ++ back) ++ rest) ≡ Ok ((tree, depth), rest)
  part_production front back inner production d deepest depth tree some claim fits s again = rw (append_assoc front back rest, part_at room inner d deepest front (back ++ rest) some claim fits s) again

  no_arguments_production : (t : Token) (ts : List Token) (production : List Expr → Production) (deepest depth : ℕ) (tree : Expr) → t.kind ≡ kinds.Mark Close
      → read_production (expr room) room deepest (production []) (ts ++ rest) ≡ Ok ((tree, depth), rest)
      → read_production (expr room) room deepest (arguments production) (t ∷ (ts ++ rest)) ≡ Ok ((tree, depth), rest)
  unfolding arguments_in next
  no_arguments_production t ts production deepest depth tree kind again = rw (sees_it Close t (ts ++ rest) kind) again

  arguments_production : (front back : List Token) (all : List Expr) (production : List Expr → Production) (deepest deeper depth : ℕ) (tree : Expr) → Is (Arguments deepest deeper all) front
      → ArgumentsClaim deepest deeper all front → deeper ≤ room
      → read_production (expr room) room deeper (production all) (back ++ rest) ≡ Ok ((tree, depth), rest)
      → read_production (expr room) room deepest (arguments production) ((front ++ back) ++ rest) ≡ Ok ((tree, depth), rest)
  unfolding arguments_in
  arguments_production front back all production deepest deeper depth tree is claim fits again =
      let open_ : sees Close (front ++ (back ++ rest)) ≡ false = args_not_closed is (back ++ rest) in
      let read = claim room (length (front ++ (back ++ rest))) [] (back ++ rest) fits (omega arith) in
      rw (append_assoc front back rest, open_, read) again

  choice_production : (t : Token) (ts : List Token) (which : Mark) (one other : Production) (deepest depth : ℕ) (tree : Expr) → t.kind ≡ kinds.Mark which → (opens one ≡ true → 1 ≤ room)
      → read_production (expr room) room deepest one (ts ++ rest) ≡ Ok ((tree, depth), rest)
      → read_production (expr room) room deepest (choice which one other) (t ∷ (ts ++ rest)) ≡ Ok ((tree, depth), rest)
  unfolding next
  choice_production t ts which one other deepest depth tree kind room_for again = rw (sees_it which t (ts ++ rest) kind) (with_room room (opens one) _ _ _ room_for again)

  pass_production : (ts : List Token) (which : Mark) (one other : Production) (deepest depth : ℕ) (tree : Expr) → sees which (ts ++ rest) ≡ false
      → read_production (expr room) room deepest other (ts ++ rest) ≡ Ok ((tree, depth), rest)
      → read_production (expr room) room deepest (choice which one other) (ts ++ rest) ≡ Ok ((tree, depth), rest)
  pass_production ts which one other deepest depth tree other_comes again = rw other_comes again

-- ---- expressions

abbrev suffix_or : Suffix → Option Suffix → Suffix
suffix_or other None = other
suffix_or other (Some kind) = kind

-- the operators and suffixes behind what is read
whole_by : (room least : ℕ) (all rest : List Token) (x : Measured) → operand (expr room) room least all ≡ suffixes (expr room) room x rest → suffix_at (first rest) ≡ None
    → expr (suc room) least all ≡ climb (expr room) room least x rest
unfolding expr level
whole_by room least all rest x read none = ap (λ (o : Outcome Measured). and_then o (climb (expr room) room least)) (read ∙ suffixes_none room x rest none)

no_suffix : (tree : Expr) (rest : List Token) → suffix_at (first rest) ≡ None → MayGo tree rest
no_suffix tree rest none kind is = cc

abbrev production_or : Production → Option Production → Production
production_or other None = other
production_or other (Some production) = production

started_is : (room depth : ℕ) (tree : Expr) (t : Token) (ts rest : List Token) (production : Production) (o : Start) → production_of o ≡ Some production → StartPasses o → depth ≤ suc room → Is (Behind production 0 depth tree) ts
    → (Passes production → read_production (expr room) room 0 production (ts ++ rest) ≡ Ok ((tree, depth), rest))
    → started (expr room) room o (t ∷ (ts ++ rest)) ≡ Ok ((tree, depth), rest)
unfolding next
started_is room depth tree t ts rest production (Leaf r) is passes fits are again =
    let same : production ≡ r = sym (ap (production_or production) is) in
    subst (λ (q : Production). read_production (expr room) room 0 q (ts ++ rest) ≡ Ok ((tree, depth), rest)) same (again (subst Passes (sym same) passes))
started_is zero depth tree t ts rest production (Inner r) is passes fits are again =
    let same : production ≡ r = sym (ap (production_or production) is) in
    let two : 2 ≤ depth = deep (subst Deep (sym same) passes.1) are in
    absurd (omega arith)
started_is (suc room) depth tree t ts rest production (Inner r) is passes fits are again =
    let same : production ≡ r = sym (ap (production_or production) is) in
    rw (some_room (suc room) (omega arith)) (subst (λ (q : Production). read_production (expr (suc room)) (suc room) 0 q (ts ++ rest) ≡ Ok ((tree, depth), rest)) same (again (subst Passes (sym same) passes.0)))
started_is room depth tree t ts rest production Nothing is passes fits are again = cc

primary_claim : (t : Token) (production : Production) (ts : List Token) (lev depth : ℕ) (tree : Expr) → prefix_of t.kind ≡ None → production_of (start_of t.at t.kind) ≡ Some production
    → Is (Behind production 0 depth tree) ts → ProductionClaim production 0 depth tree ts
    → (room least : ℕ) (rest : List Token) → depth ≤ suc room → MayGo tree rest → NoPointer rest → operand (expr room) room least (t ∷ (ts ++ rest)) ≡ suffixes (expr room) room (tree, depth) rest
unfolding operand first primary
primary_claim t production ts lev depth tree none begins are claim room least rest fits goes pointer =
    let read = started_is room depth tree t ts rest production (start_of t.at t.kind) begins (start_passes t.at t.kind) fits are (λ passes. claim room rest fits passes goes pointer) in
    rw (none, read) refl

suffixed_is : (room d depth : ℕ) (left tree : Expr) (kind : Suffix) (t : Token) (ts rest : List Token) → d ≤ room → read_production (expr room) room d (suffix_production left kind) ts ≡ Ok ((tree, depth), rest)
    → suffixed (expr room) room (left, d) kind (t ∷ ts) ≡ Ok ((tree, depth), rest)
unfolding next
suffixed_is room d depth left tree kind t ts rest fits is = let e : nat_lt room d ≡ false = not_lt room d fits in rw e is

suffix_claim : (front : List Token) (t : Token) (back : List Token) (kind : Suffix) (left : Expr) (d depth : ℕ) (tree : Expr) → suffix_of t.kind ≡ Some kind → may_follow left kind ≡ true
    → Is (Behind (suffix_production left kind) d depth tree) back → ExprClaim 15 d left front → ProductionClaim (suffix_production left kind) d depth tree back
    → (room least : ℕ) (rest : List Token) → depth ≤ suc room → MayGo tree rest → NoPointer rest → operand (expr room) room least ((front ++ t ∷ back) ++ rest) ≡ suffixes (expr room) room (tree, depth) rest
unfolding first
suffix_claim front t back kind left d depth tree is may are claim production_claim room least rest fits goes pointer =
    let grown = grows are in
    let follows : MayGo left (t ∷ (back ++ rest)) = λ other at. let same : kind ≡ other = ap (suffix_or kind) (sym is ∙ at) in subst (λ (k : Suffix). may_follow left k ≡ true) same may in
    let one = claim.alone (omega arith) room least (t ∷ (back ++ rest)) (omega arith) follows (suffix_is_mark t.kind kind is) in
    let production = production_claim room rest fits (suffix_passes left kind) goes pointer in
    let two = suffixed_is room d depth left tree kind t (back ++ rest) rest (omega arith) production in
    ap (operand (expr room) room least) (append_assoc front (t ∷ back) rest) ∙ one ∙ suffixes_some room (left, d) kind t (back ++ rest) is ∙ ap (λ (o : Outcome Measured). and_then o (suffixes (expr room) room)) two

prefixed_is : (room d k least : ℕ) (operator : Unary) (tree : Expr) (t : Token) (ts rest : List Token) → 1 ≤ room → least ≤ k → prefix_of t.kind ≡ Some (operator, k) → expr room k ts ≡ Ok ((tree, d), rest)
    → operand (expr room) room least (t ∷ ts) ≡ Ok ((e.Unary t.at operator tree, d + 1), rest)
unfolding operand first prefixed next
prefixed_is zero d k least operator tree t ts rest some low kind read = absurd (omega arith)
prefixed_is (suc room) d k least operator tree t ts rest some low kind read = let e : nat_lt k least ≡ false = not_lt k least low in rw (kind, e, some_room (suc room) some, read) refl

strictly : (k lev : ℕ) (t : Token) (operator : Unary) → prefix_of t.kind ≡ Some (operator, k) → lev ≤ k → (rest : List Token) (p : Binary × ℕ) → coming (first rest) ≡ Some p → p.1 ≤ lev → p.1 < k
unfolding first
strictly k lev t operator kind low [] p is most = cc
strictly k lev t operator kind low (u ∷ rest) p is most =
    let b = small_not u.kind p is in
    let high = b.0 in
    let six = b.1 in
    elim (prefix_level t.kind (operator, k) kind) [ inl e ↦ omega arith | inr e ↦ omega arith ]

-- where nothing goes on behind an operand
whole_ok : (room least : ℕ) (all rest : List Token) (x : Measured) → operand (expr room) room least all ≡ Ok (x, rest) → expr (suc room) least all ≡ climb (expr room) room least x rest
unfolding expr level
whole_ok room least all rest x read = ap (λ (o : Outcome Measured). and_then o (climb (expr room) room least)) read

abbrev level_or : ℕ → Option (Binary × ℕ) → ℕ
level_or other None = other
level_or other (Some p) = p.1

level_same : (k : ℕ) (operator : Binary) (p : Binary × ℕ) (t : Token) → binary_of t.kind ≡ Some (operator, k) → binary_of t.kind ≡ Some p → p.1 ≤ k
level_same k operator p t kind is = let same : k ≡ p.1 = ap (level_or k) (sym kind ∙ is) in omega arith

operated_is : (room c d : ℕ) (left right : Expr) (operator : Operator) (t : Token) (ts rest : List Token) → c ≤ room → expr room (operator.level + 1) ts ≡ Ok ((right, d), rest)
    → operated (expr room) room (left, c) operator (t ∷ ts) ≡ Ok ((e.Binary (place_of left) left operator.which operator.at right, max c d + 1), rest)
unfolding operated next
operated_is room c d left right operator t ts rest fits read = let e : nat_lt room c ≡ false = not_lt room c fits in rw (e, read) refl

prefix_whole : (t : Token) (ts : List Token) (operator : Unary) (k d lev : ℕ) (inner : Expr) → prefix_of t.kind ≡ Some (operator, k) → lev ≤ k → 1 ≤ d → ExprClaim k d inner ts
    → (room least : ℕ) (rest : List Token) → d + 1 ≤ suc room → least ≤ lev → suffix_at (first rest) ≡ None → NoPointer rest → AtMost lev rest
    → expr (suc room) least (t ∷ (ts ++ rest)) ≡ climb (expr room) room least (e.Unary t.at operator inner, d + 1) rest
prefix_whole t ts operator k d lev inner kind low some claim zero least rest fits high suffix pointer most = absurd (omega arith)
prefix_whole t ts operator k d lev inner kind low some claim (suc room) least rest fits high suffix pointer most =
    let below : (p : Binary × ℕ) → coming (first rest) ≡ Some p → p.1 < k = λ p is. strictly k lev t operator kind low rest p is (most p is) in
    let wide : AtMost k rest = λ p is. let b = below p is in omega arith in
    let fourteen = prefix_small t.kind (operator, k) kind in
    let read = claim.whole room k rest (omega arith) (omega arith) fourteen suffix pointer wide ∙ climb_none room k (inner, d) rest (none_comes k rest below) in
    let all = prefixed_is (suc room) d k least operator inner t (ts ++ rest) rest (omega arith) (omega arith) kind read in
    whole_ok (suc room) least (t ∷ (ts ++ rest)) rest (e.Unary t.at operator inner, d + 1) all

binary_whole : (front : List Token) (t : Token) (back : List Token) (operator : Binary) (k c d lev : ℕ) (left right : Expr) → binary_of t.kind ≡ Some (operator, k) → lev ≤ k → 1 ≤ d
    → ExprClaim k c left front → ExprClaim (k + 1) d right back
    → (room least : ℕ) (rest : List Token) → max c d + 1 ≤ suc room → least ≤ lev → least ≤ 14 → suffix_at (first rest) ≡ None → NoPointer rest → AtMost lev rest
    → expr (suc room) least ((front ++ t ∷ back) ++ rest) ≡ climb (expr room) room least (e.Binary (place_of left) left operator t.at right, max c d + 1) rest
unfolding first
binary_whole front t back operator k c d lev left right kind low some lefts rights zero least rest fits high small_least suffix pointer most = absurd (omega arith)
binary_whole front t back operator k c d lev left right kind low some lefts rights (suc room) least rest fits high small_least suffix pointer most =
    let thirteen = small t.kind (operator, k) kind in
    let ends = binary_ends t.kind (operator, k) kind in
    let here : AtMost k (t ∷ (back ++ rest)) = λ p is. level_same k operator p t kind is in
    let one = lefts.whole (suc room) least (t ∷ (back ++ rest)) (omega arith) (omega arith) small_least ends.0 ends.1 here in
    let comes = some_comes least t (operator, k) kind (omega arith) in
    let two = climb_some (suc room) least (left, c) (record { which = operator; level = k; at = t.at }) t (back ++ rest) comes in
    let below : (p : Binary × ℕ) → coming (first rest) ≡ Some p → p.1 < k + 1 = λ p is. let m = most p is in omega arith in
    let wide : AtMost (k + 1) rest = λ p is. let m = most p is in omega arith in
    let read = rights.whole room (k + 1) rest (omega arith) (omega arith) (omega arith) suffix pointer wide ∙ climb_none room (k + 1) (right, d) rest (none_comes (k + 1) rest below) in
    let three = operated_is (suc room) c d left right (record { which = operator; level = k; at = t.at }) t (back ++ rest) rest (omega arith) read in
    ap (expr (suc (suc room)) least) (append_assoc front (t ∷ back) rest) ∙ one ∙ two ∙ ap (λ (o : Outcome Measured). and_then o (climb (expr (suc room)) (suc room) least)) three

-- ---- all of them

stopping_then : {ts : List Token} (rest : List Token) → Stopping ts → Stopping (ts ++ rest)
stopping_then rest s = record { token = s.token; more = s.more ++ rest; is = ap (λ (xs : List Token). xs ++ rest) s.is; suffix = s.suffix; operator = s.operator; pointer = s.pointer }

lengths : (front : List Token) (t : Token) (back rest : List Token) → length ((front ++ t ∷ back) ++ rest) ≡ length front + suc (length (back ++ rest))
lengths front t back rest = ap length (append_assoc front (t ∷ back) rest) ∙ length-append front (t ∷ (back ++ rest))

longer : (front : List Token) (t : Token) (back rest : List Token) (n : ℕ) → length ((front ++ t ∷ back) ++ rest) ≤ suc n → length (back ++ rest) ≤ n
longer front t back rest n few = let e = lengths front t back rest in omega arith

longer_not : (front : List Token) (t : Token) (back rest : List Token) → length ((front ++ t ∷ back) ++ rest) ≤ 0 → ⊥
longer_not front t back rest few = let e = lengths front t back rest in omega arith

last_claim : (room n : ℕ) (found : List Expr) (deepest : ℕ) (inner : Expr) (d : ℕ) (front : List Token) (t : Token) (rest : List Token) → 1 ≤ d → ExprClaim 1 d inner front → t.kind ≡ kinds.Mark Close
    → max deepest d ≤ room → length ((front ++ t ∷ []) ++ rest) ≤ n
    → arguments_from (expr room) room n found deepest ((front ++ t ∷ []) ++ rest) ≡ Ok ((found ++ inner ∷ [], max deepest d), rest)
last_claim room zero found deepest inner d front t rest some claim kind fits few = absurd (longer_not front t [] rest few)
last_claim room (suc n) found deepest inner d front t rest some claim kind fits few =
    ap (arguments_from (expr room) room (suc n) found deepest) (append_assoc front (t ∷ []) rest) ∙ last_is room n found deepest inner d front t rest some claim (omega arith) kind

next_claim : (room n : ℕ) (found : List Expr) (deepest : ℕ) (inner : Expr) (d : ℕ) (front : List Token) (t : Token) (back : List Token) (all : List Expr) (deeper : ℕ) (rest : List Token) → 1 ≤ d
    → ExprClaim 1 d inner front → d ≤ room → t.kind ≡ kinds.Mark Comma → length ((front ++ t ∷ back) ++ rest) ≤ n
    → ((m : ℕ) → length (back ++ rest) ≤ m → arguments_from (expr room) room m (found ++ inner ∷ []) (max deepest d) (back ++ rest) ≡ Ok (((found ++ inner ∷ []) ++ all, deeper), rest))
    → arguments_from (expr room) room n found deepest ((front ++ t ∷ back) ++ rest) ≡ Ok ((found ++ inner ∷ all, deeper), rest)
next_claim room zero found deepest inner d front t back all deeper rest some claim fits kind few again = absurd (longer_not front t back rest few)
next_claim room (suc n) found deepest inner d front t back all deeper rest some claim fits kind few again =
    let less : length (back ++ rest) ≤ n = longer front t back rest n few in
    ap (arguments_from (expr room) room (suc n) found deepest) (append_assoc front (t ∷ back) rest) ∙ next_is room n found deepest inner d front t (back ++ rest) some claim fits all deeper rest kind (again n less)

pub complete : {p : Symbol} {ts : List Token} → Is p ts → Claim p ts
complete (a_primary t production ts lev depth tree none begins low r) =
    let claim = complete r in
    let alone = primary_claim t production ts lev depth tree none begins r claim in
    record {
      whole = λ room least rest fits high fourteen suffix pointer most. whole_by room least (t ∷ (ts ++ rest)) rest (tree, depth) (alone room least rest fits (no_suffix tree rest suffix) pointer) suffix;
      alone = λ high. alone;
    }
complete (a_suffix front t back kind left d lev depth tree is may low l r) =
    let alone = suffix_claim front t back kind left d depth tree is may r (complete l) (complete r) in
    record {
      whole = λ room least rest fits high fourteen suffix pointer most. whole_by room least ((front ++ t ∷ back) ++ rest) rest (tree, depth) (alone room least rest fits (no_suffix tree rest suffix) pointer) suffix;
      alone = λ high. alone;
    }
complete (a_prefix t ts operator k d lev inner kind low i) = record {
  whole = λ room least rest fits high fourteen suffix pointer most. prefix_whole t ts operator k d lev inner kind low (positive i) (complete i) room least rest fits high suffix pointer most;
  alone = λ high. let k_small = prefix_small t.kind (operator, k) kind in absurd (omega arith);
}
complete (a_binary front t back operator k c d lev left right kind low l r) = record {
  whole = λ room least rest fits high fourteen suffix pointer most. binary_whole front t back operator k c d lev left right kind low (positive r) (complete l) (complete r) room least rest fits high fourteen suffix pointer most;
  alone = λ high. let k_small = small t.kind (operator, k) kind in absurd (omega arith);
}
complete (nothing deepest tree) = λ room rest fits passes goes pointer. refl
complete (a_mark t ts which production deepest depth tree kind r) = λ room rest fits passes goes pointer.
    mark_production room rest t ts which production deepest depth tree kind (complete r room rest fits passes goes pointer)
complete (a_type front back ty production deepest depth tree is r) = λ room rest fits passes goes pointer.
    type_production room rest front back ty production deepest depth tree is (unpointed (production ty) deepest depth tree back rest (passes ty).0 r pointer) (complete r room rest fits (passes ty).1 goes pointer)
complete (a_name t ts text production deepest depth tree kind r) = λ room rest fits passes goes pointer.
    name_production room rest t ts text production deepest depth tree kind (complete r room rest fits (passes (record { at = t.at; text = text })) goes pointer)
complete (a_part front back inner production d deepest depth tree i r) = λ room rest fits passes goes pointer.
    let grown = grows r in
    part_production room rest front back inner production d deepest depth tree (positive i) (complete i) (omega arith) (stopping_then rest (stopping (production inner) (max deepest d) depth tree back (passes inner).0 r)) (complete r room rest fits (passes inner).1 goes pointer)
complete (no_arguments t ts production deepest depth tree kind r) = λ room rest fits passes goes pointer.
    no_arguments_production room rest t ts production deepest depth tree kind (complete r room rest fits (passes []) goes pointer)
complete (some_arguments front back all production deepest deeper depth tree a r) = λ room rest fits passes goes pointer.
    let grown = grows r in
    arguments_production room rest front back all production deepest deeper depth tree a (complete a) (omega arith) (complete r room rest fits (passes all) goes pointer)
complete (with_choice t ts which one other deepest depth tree kind r) = λ room rest fits passes goes pointer.
    choice_production room rest t ts which one other deepest depth tree kind (λ is. let two = deep (passes.0.inside is) r in omega arith) (complete r room rest fits passes.1 goes pointer)
complete (without_choice ts which one other deepest depth tree r) = λ room rest fits passes goes pointer.
    pass_production room rest ts which one other deepest depth tree (passes.0.apart ts deepest depth tree rest r goes) (complete r room rest fits passes.2 goes pointer)
complete (last_argument front t inner d deepest i kind) = λ room n found rest fits few.
    last_claim room n found deepest inner d front t rest (positive i) (complete i) kind fits few
complete (one_argument front t back inner all d deepest deeper i kind more) = λ room n found rest fits few.
    let grown = args_grow more in
    next_claim room n found deepest inner d front t back all deeper rest (positive i) (complete i) (omega arith) kind few (λ m less. complete more room m (found ++ inner ∷ []) rest fits less)
