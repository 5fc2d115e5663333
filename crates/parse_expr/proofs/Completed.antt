-- What a production begins with can be completed, up to where its reading finds a fault.
use Rattle.std.proofs.Common.{◌≡◌, ◌≤◌, ℕ, zero, suc, ◌+◌, ◌==◌, max, Bool, true, false, if◌then◌else◌, List, [], ◌∷◌, ◌++◌, length, Option, Some, None, Ok, refl, sym, ap, ◌∙◌, subst, ◌⊎◌, inl, inr, arith, append_assoc, length-append}
use Rattle.std.proofs.lemmas.Bool.Decides.{nat_tests}
use Rattle.fb_base.specs.declared.fault.Span.{Span}
use Rattle.fb_base.specs.declared.fault.FaultKind.{FaultKind}
use Rattle.fb_base.specs.declared.fault.FaultKind.TheVariants.{Expected, DeepNesting}
use Rattle.word64.specs.declared.kind.Kind.TheVariants as k
use Rattle.fb_lexer.specs.declared.token.Token.{Token}
use Rattle.fb_lexer.specs.declared.token.TokenKind.{TokenKind}
use Rattle.fb_lexer.specs.declared.token.TokenKind.TheVariants as kinds
use Rattle.fb_lexer.specs.declared.token.Mark.{Mark}
use Rattle.fb_lexer.specs.declared.token.Mark.TheVariants.{Close, Comma}
use Rattle.fb_lexer.specs.declared.word.Word.TheVariants as w
use Rattle.fb_ast.specs.declared.expr.Expr.{Expr}
use Rattle.fb_ast.specs.declared.expr.Expr.TheVariants as e
use Rattle.fb_ast.specs.declared.ty.Base.{Base}
use Rattle.fb_ast.specs.declared.ty.Base.TheVariants as base
use Rattle.fb_ast.specs.declared.ty.TypeName.{TypeName}
use Rattle.fb_ast.specs.declared.part.Name.{Name}
use Rattle.parse_expr.specs.Words.{base_of}
use Rattle.parse_expr.specs.Reading.{first, next, sees, expect, refusal, Outcome, and_then}
use Rattle.parse_expr.specs.Types.{type_name, type_from, name, name_by}
use Rattle.parse_expr.specs.Productions.{Production, gives, mark, typed, named, part, arguments, choice}
use Rattle.parse_expr.specs.Expr.{Measured, expr, part_in, arguments_from, arguments_in, read_production, opens}
use Rattle.parse_expr.specs.Grammar.{IsType, written, Expression, Behind, Arguments, Is, primary as a_primary, nothing, a_mark, a_type, a_name, a_part, no_arguments, some_arguments, with_choice, without_choice, last_argument, one_argument}
use Rattle.parse_expr.specs.Faults.{is_refused_kind}
use Rattle.parse_expr.proofs.Sound.{by_test, joined, Splits, seen, Takes, expect_sound, NamedBy, name_sound, type_sound, PartRead, part_sound, ArgumentsOrNone, arguments_sound}
use Rattle.parse_expr.proofs.Climbs.{right}
use Rattle.parse_expr.proofs.Depths.{positive}
use Rattle.parse_expr.proofs.Fills.{Failed, failed_then, map_failed, failed_pure, Fills, full, FaultOf, at_once, extend, refused}

-- ---- tokens to complete with

abbrev pub here : Span
here = record { line = 1; col = 1 }

abbrev pub a_number : Token
a_number = record { kind = kinds.Number 0; at = here }

abbrev pub an_integer : Token
an_integer = record { kind = kinds.Word w.KwInteger; at = here }

abbrev pub a_name_token : Token
a_name_token = record { kind = kinds.Name []; at = here }

abbrev pub mark_token : Mark → Token
mark_token which = record { kind = kinds.Mark which; at = here }

pub number_is : (level : ℕ) → level ≤ 15 → Is (Expression level 1 (e.Number here 0)) (a_number ∷ [])
number_is level low = a_primary a_number (gives (e.Number here 0)) [] level 1 (e.Number here 0) refl refl low (nothing 0 (e.Number here 0))

integer_is : IsType (an_integer ∷ []) (record { at = here; base = base.Num k.Integer; pointers = 0 })
integer_is = written an_integer (base.Num k.Integer) [] refl tt

-- ---- tokens that are a symbol of some depth

pub record OfDepth (level most : ℕ) (ts : List Token) : Type 0 where
  pub depth : ℕ
  pub tree : Expr
  pub within : depth ≤ most
  pub are : Is (Expression level depth tree) ts

pub record ProductionOf (production : Production) (deepest most : ℕ) (ts : List Token) : Type 0 where
  pub depth : ℕ
  pub tree : Expr
  pub within : depth ≤ most
  pub are : Is (Behind production deepest depth tree) ts

pub record ListOf (deepest most : ℕ) (ts : List Token) : Type 0 where
  pub deeper : ℕ
  pub all : List Expr
  pub within : deeper ≤ most
  pub are : Is (Arguments deepest deeper all) ts

-- arguments, or the closing parenthesis alone
pub record AnyListOf (deepest most : ℕ) (ts : List Token) : Type 0 where
  pub deeper : ℕ
  pub all : List Expr
  pub within : deeper ≤ most
  pub put : (production : List Expr → Production) (depth : ℕ) (tree : Expr) (back : List Token) → Is (Behind (production all) deeper depth tree) back → Is (Behind (arguments production) deepest depth tree) (ts ++ back)

abbrev pub Whole : ℕ → ℕ → ℕ → List Token → Type 0
Whole room level over ts = OfDepth level (room + over) ts

abbrev pub ProductionFilled : ℕ → Production → ℕ → ℕ → List Token → Type 0
ProductionFilled room production deepest over ts = ProductionOf production deepest (suc (room + over)) ts

abbrev Listing : ℕ → ℕ → ℕ → List Token → Type 0
Listing room deepest over ts = ListOf deepest (room + over) ts

abbrev AnyListing : ℕ → ℕ → ℕ → List Token → Type 0
AnyListing room deepest over ts = AnyListOf deepest (room + over) ts

-- ---- each production can be completed

-- no part is asked for without a look at the depth
abbrev pub Flat : Production → Type 0
Flat (gives tree) = Unit {0}
Flat (mark which production) = Flat production
Flat (typed production) = (ty : TypeName) → Flat (production ty)
Flat (named production) = (n : Name) → Flat (production n)
Flat (part production) = ⊥
Flat (arguments production) = (all : List Expr) → Flat (production all)
Flat (choice which one other) = (opens one ≡ false → Flat one) × Flat other

abbrev pub Fit : ℕ → Production → Type 0
Fit most production = (1 ≤ most) ⊎ Flat production

fit_to : {A B : Type 0} (most less : ℕ) → less ≤ most → (A → B) → (1 ≤ less) ⊎ A → (1 ≤ most) ⊎ B
fit_to most less more f (inl some) = inl (omega arith)
fit_to most less more f (inr a) = inr (f a)

pub record ProductionMore (most : ℕ) (production : Production) (deepest : ℕ) : Type 0 where
  pub more : List Token
  pub whole : ProductionOf production deepest (suc most) more

pub production_fills : (most : ℕ) (production : Production) (deepest : ℕ) → deepest ≤ most → Fit most production → ProductionMore most production deepest
production_fills most (gives tree) deepest fits fit = record { more = []; whole = record { depth = deepest + 1; tree = tree; within = omega arith; are = nothing deepest tree } }
production_fills most (mark which production) deepest fits fit =
    let r = production_fills most production deepest fits fit in
    record { more = mark_token which ∷ r.more; whole = record { depth = r.whole.depth; tree = r.whole.tree; within = r.whole.within; are = a_mark (mark_token which) r.more which production deepest r.whole.depth r.whole.tree refl r.whole.are } }
production_fills most (typed production) deepest fits fit =
    let ty : TypeName = record { at = here; base = base.Num k.Integer; pointers = 0 } in
    let r = production_fills most (production ty) deepest fits (fit_to most most (omega arith) (λ (f : Flat (typed production)). f ty) fit) in
    record { more = an_integer ∷ r.more; whole = record { depth = r.whole.depth; tree = r.whole.tree; within = r.whole.within; are = a_type (an_integer ∷ []) r.more ty production deepest r.whole.depth r.whole.tree integer_is r.whole.are } }
production_fills most (named production) deepest fits fit =
    let n : Name = record { at = here; text = [] } in
    let r = production_fills most (production n) deepest fits (fit_to most most (omega arith) (λ (f : Flat (named production)). f n) fit) in
    record { more = a_name_token ∷ r.more; whole = record { depth = r.whole.depth; tree = r.whole.tree; within = r.whole.within; are = a_name a_name_token r.more [] production deepest r.whole.depth r.whole.tree refl r.whole.are } }
production_fills most (part production) deepest fits (inl some) =
    let r = production_fills most (production (e.Number here 0)) (max deepest 1) (omega arith) (inl some) in
    record { more = a_number ∷ r.more; whole = record { depth = r.whole.depth; tree = r.whole.tree; within = r.whole.within; are = a_part (a_number ∷ []) r.more (e.Number here 0) production 1 deepest r.whole.depth r.whole.tree (number_is 1 (omega arith)) r.whole.are } }
production_fills most (part production) deepest fits (inr never) = absurd never
production_fills most (arguments production) deepest fits fit =
    let r = production_fills most (production []) deepest fits (fit_to most most (omega arith) (λ (f : Flat (arguments production)). f []) fit) in
    record { more = mark_token Close ∷ r.more; whole = record { depth = r.whole.depth; tree = r.whole.tree; within = r.whole.within; are = no_arguments (mark_token Close) r.more production deepest r.whole.depth r.whole.tree refl r.whole.are } }
production_fills most (choice which one other) deepest fits fit =
    let r = production_fills most other deepest fits (fit_to most most (omega arith) (λ (f : Flat (choice which one other)). f.1) fit) in
    record { more = r.more; whole = record { depth = r.whole.depth; tree = r.whole.tree; within = r.whole.within; are = without_choice r.more which one other deepest r.whole.depth r.whole.tree r.whole.are } }

-- ---- marks, names and types

pub expect_fault : (F : FaultKind → List Token → Type 0) (which : Mark) (ts : List Token) → F Expected ts → Failed F (expect which ts)
unfolding expect
expect_fault F which ts f = by_test (λ (o : Outcome (Unit {0})). Failed F o) (sees which ts) _ _ (λ is. tt) (λ is. f)

name_fault_by : (F : FaultKind → List Token → Type 0) (at : Span) (kind : TokenKind) (ts : List Token) → F Expected ts → Failed F (name_by at kind ts)
name_fault_by F at (kinds.Name text) ts f = tt
name_fault_by F at (kinds.Mark which) ts f = f
name_fault_by F at (kinds.Word word) ts f = f
name_fault_by F at (kinds.Number value) ts f = f
name_fault_by F at (kinds.Str text) ts f = f
name_fault_by F at kinds.Colon ts f = f
name_fault_by F at kinds.LineEnd ts f = f

pub name_fault : (F : FaultKind → List Token → Type 0) (ts : List Token) → F Expected ts → Failed F (name ts)
unfolding name first
name_fault F [] f = f
name_fault F (t ∷ ts) f = name_fault_by F t.at t.kind (t ∷ ts) f

type_fault_by : (F : FaultKind → List Token → Type 0) (at : Span) (base : Option Base) (ts : List Token) → F (refusal ts) ts → Failed F (type_from at base ts)
type_fault_by F at None ts f = f
type_fault_by F at (Some base) ts f = tt

pub type_fault : (F : FaultKind → List Token → Type 0) (ts : List Token) → F (refusal ts) ts → Failed F (type_name ts)
unfolding type_name first
type_fault F [] f = f
type_fault F (t ∷ ts) f = type_fault_by F t.at (base_of t.kind) (t ∷ ts) f

-- ---- arguments

abbrev pub NoRoom : ℕ → Type 0
NoRoom room = room ≡ 0

-- What is read of a part can be completed. Where no part can be deep enough nothing is read of it.
abbrev pub PartFaults : ℕ → Type 0
PartFaults room = (level : ℕ) → level ≤ 14 → (ts : List Token) → Failed (FaultOf (NoRoom room) (Whole room level) ts) (expr room level ts)

pub not_zero : (room : ℕ) → (room == 0) ≡ false → 1 ≤ room
not_zero room is = grind (arith, nat_tests)

module _ (room : ℕ) (claims : PartFaults room) where
  part_fault : (deepest : ℕ) (ts : List Token) → Failed (FaultOf (NoRoom room) (Whole room 1) ts) (part_in (expr room) room deepest ts)
  unfolding part_in
  part_fault deepest ts =
      let f : Measured → Measured = λ x. (x.0, max deepest x.1) in
      failed_pure (FaultOf (NoRoom room) (Whole room 1) ts) (expr room 1 ts) f (claims 1 (omega arith) ts)

  last_in : (deepest : ℕ) → deepest ≤ room → (over : ℕ) (xs : List Token) → Whole room 1 over xs → Fills (Listing room deepest) over xs
  last_in deepest fits over xs p =
      let small = p.within in
      record { more = mark_token Close ∷ []; are = record { deeper = max deepest p.depth; all = p.tree ∷ []; within = omega arith; are = last_argument xs (mark_token Close) p.tree p.depth deepest p.are refl } }

  list_begins : (deepest : ℕ) → deepest ≤ room → (r : ℕ) → room ≡ r → Fills (Listing room deepest) 0 [] ⊎ NoRoom room
  list_begins deepest fits zero is = inr is
  list_begins deepest fits (suc r) is = inl (record {
    more = a_number ∷ mark_token Close ∷ [];
    are = record { deeper = max deepest 1; all = e.Number here 0 ∷ []; within = omega arith; are = last_argument (a_number ∷ []) (mark_token Close) (e.Number here 0) 1 deepest (number_is 1 (omega arith)) refl };
  })

  module _ (deepest : ℕ) (ts : List Token) (fits : deepest ≤ room) (found : List Expr) (a : Measured) (rest : List Token) (s : PartRead room deepest ts a rest) where
    another_in : (t : Token) → t.kind ≡ kinds.Mark Comma → (over : ℕ) (xs : List Token) → Listing room a.1 over xs → Fills (Listing room deepest) over ((s.front ++ t ∷ []) ++ xs)
    another_in t kind over xs p =
        let made = one_argument s.front t xs a.0 p.all s.depth deepest p.deeper s.part kind (subst (λ (n : ℕ). Is (Arguments n p.deeper p.all) xs) s.deeper p.are) in
        full (Listing room deepest) over ((s.front ++ t ∷ []) ++ xs)
        (record { deeper = p.deeper; all = a.0 ∷ p.all; within = p.within; are = subst (λ (ys : List Token). Is (Arguments deepest p.deeper (a.0 ∷ p.all)) ys) (sym (append_assoc s.front (t ∷ []) xs)) made })

    comma_fault : (n : ℕ) (b : Bool) → sees Comma rest ≡ b
        → (b ≡ true → Failed (FaultOf (NoRoom room) (Listing room a.1) (next rest)) (arguments_from (expr room) room n (found ++ a.0 ∷ []) a.1 (next rest)))
        → Failed (FaultOf (NoRoom room) (Listing room deepest) ts)
        ((if b then arguments_from (expr room) room n (found ++ a.0 ∷ []) a.1 else (λ left. and_then (expect Close left) (λ (u : Unit {0}) (more : List Token). Ok ((found ++ a.0 ∷ [], a.1), more)))) (if b then next rest else rest))
    comma_fault n true is again =
        let t = seen Comma rest is in
        let some = positive s.part in
        let small = s.within in
        map_failed (FaultOf (NoRoom room) (Listing room a.1) (next rest)) (FaultOf (NoRoom room) (Listing room deepest) ts) _ (again refl)
        (extend (Listing room a.1) (Listing room deepest) (s.front ++ t.token ∷ []) (another_in t.token t.kind) (NoRoom room) (NoRoom room) (next rest) ts
        (joined ts s.front rest t.token (next rest) [] (next rest) s.is t.is refl) (λ none. absurd (omega arith)))
    comma_fault n false is again =
        let small = s.within in
        let F : FaultKind → List Token → Type 0 = FaultOf (NoRoom room) (Listing room deepest) ts in
        let at_close : F Expected rest = record {
          front = s.front;
          is = s.is;
          bare = inl (record { more = mark_token Close ∷ []; are = record { deeper = max deepest s.depth; all = a.0 ∷ []; within = omega arith; are = last_argument s.front (mark_token Close) a.0 s.depth deepest s.part refl } });
          next = tt;
        } in
        let f : Unit {0} → List Expr × ℕ = λ u. (found ++ a.0 ∷ [], a.1) in
        failed_pure F (expect Close rest) f (expect_fault F Close rest at_close)

  less_behind : (rest : List Token) (n : ℕ) → sees Comma rest ≡ true → length rest ≤ suc n → length (next rest) ≤ n
  less_behind rest n is few = let t = seen Comma rest is in let same = ap length t.is in omega arith

  split_length : (deepest : ℕ) (ts : List Token) (a : Measured) (rest : List Token) → PartRead room deepest ts a rest → length rest ≤ length ts
  split_length deepest ts a rest s = let same = ap length s.is ∙ length-append s.front rest in omega arith

  arguments_from_fault : (n : ℕ) (found : List Expr) (deepest : ℕ) (ts : List Token) → deepest ≤ room → length ts ≤ n
      → Failed (FaultOf (NoRoom room) (Listing room deepest) ts) (arguments_from (expr room) room n found deepest ts)
  unfolding arguments_from refusal first
  arguments_from_fault zero found deepest [] fits few = at_once (NoRoom room) (Listing room deepest) [] Expected (list_begins deepest fits room refl) tt
  arguments_from_fault zero found deepest (t ∷ ts) fits few = absurd (omega arith)
  arguments_from_fault (suc n) found deepest ts fits few =
      let F : FaultKind → List Token → Type 0 = FaultOf (NoRoom room) (Listing room deepest) ts in
      failed_then (PartRead room deepest ts) F (part_in (expr room) room deepest ts) _ (part_sound room (right room) deepest ts)
      (map_failed (FaultOf (NoRoom room) (Whole room 1) ts) F _ (part_fault deepest ts) (extend (Whole room 1) (Listing room deepest) [] (last_in deepest fits) (NoRoom room) (NoRoom room) ts ts refl (λ none. inr (none, refl))))
      (λ a rest s. comma_fault deepest ts fits found a rest s n (sees Comma rest) refl
      (λ is. let less = split_length deepest ts a rest s in let small = s.within in let same = s.deeper in
      arguments_from_fault n (found ++ a.0 ∷ []) a.1 (next rest) (omega arith) (less_behind rest n is (omega arith))))

  any_in : (deepest : ℕ) (over : ℕ) (xs : List Token) → Listing room deepest over xs → Fills (AnyListing room deepest) over xs
  any_in deepest over xs p =
      full (AnyListing room deepest) over xs (record { deeper = p.deeper; all = p.all; within = p.within; put = λ production depth tree back r. some_arguments xs back p.all production deepest p.deeper depth tree p.are r })

  close_in : (deepest : ℕ) → deepest ≤ room → Fills (AnyListing room deepest) 0 []
  close_in deepest fits = record { more = mark_token Close ∷ []; are = record { deeper = deepest; all = []; within = omega arith; put = λ production depth tree back r. no_arguments (mark_token Close) back production deepest depth tree refl r } }

  arguments_fault : (deepest : ℕ) (ts : List Token) → deepest ≤ room → Failed (FaultOf ⊥ (AnyListing room deepest) ts) (arguments_in (expr room) room deepest ts)
  unfolding arguments_in
  arguments_fault deepest ts fits =
      let F : FaultKind → List Token → Type 0 = FaultOf ⊥ (AnyListing room deepest) ts in
      by_test (λ (o : Outcome (List Expr × ℕ)). Failed F o) (sees Close ts) _ _ (λ is. tt)
      (λ is. map_failed (FaultOf (NoRoom room) (Listing room deepest) ts) F _ (arguments_from_fault (length ts) [] deepest ts fits (omega arith))
      (extend (Listing room deepest) (AnyListing room deepest) [] (any_in deepest) (NoRoom room) ⊥ ts ts refl (λ none. inl (close_in deepest fits))))

  -- ---- productions

  production_begins : (production : Production) (deepest over : ℕ) → deepest ≤ room → Fit room production → Fills (ProductionFilled room production deepest) over []
  production_begins production deepest over fits fit =
      let r = production_fills (room + over) production deepest (omega arith) (fit_to (room + over) room (omega arith) (λ (f : Flat production). f) fit) in
      record { more = r.more; are = r.whole }

  mark_in : (which : Mark) (production : Production) (deepest : ℕ) (t : Token) → t.kind ≡ kinds.Mark which → (over : ℕ) (xs : List Token) → ProductionFilled room production deepest over xs → Fills (ProductionFilled room (mark which production) deepest) over (t ∷ xs)
  mark_in which production deepest t kind over xs p =
      full (ProductionFilled room (mark which production) deepest) over (t ∷ xs) (record { depth = p.depth; tree = p.tree; within = p.within; are = a_mark t xs which production deepest p.depth p.tree kind p.are })

  type_in : (front : List Token) (ty : TypeName) (production : TypeName → Production) (deepest : ℕ) → IsType front ty → (over : ℕ) (xs : List Token) → ProductionFilled room (production ty) deepest over xs → Fills (ProductionFilled room (typed production) deepest) over (front ++ xs)
  type_in front ty production deepest is over xs p =
      full (ProductionFilled room (typed production) deepest) over (front ++ xs) (record { depth = p.depth; tree = p.tree; within = p.within; are = a_type front xs ty production deepest p.depth p.tree is p.are })

  name_in : (x : Name) (t : Token) (text : List ℕ) (production : Name → Production) (deepest : ℕ) → t.kind ≡ kinds.Name text → x ≡ record { at = t.at; text = text }
      → (over : ℕ) (xs : List Token) → ProductionFilled room (production x) deepest over xs → Fills (ProductionFilled room (named production) deepest) over (t ∷ xs)
  name_in x t text production deepest kind is over xs p =
      full (ProductionFilled room (named production) deepest) over (t ∷ xs)
      (record { depth = p.depth; tree = p.tree; within = p.within; are = a_name t xs text production deepest p.depth p.tree kind (subst (λ (m : Name). Is (Behind (production m) deepest p.depth p.tree) xs) is p.are) })

  -- a part that can be completed, and the production behind it
  part_in_production : (production : Expr → Production) (deepest : ℕ) → deepest ≤ room → (over : ℕ) (xs : List Token) → Whole room 1 over xs → Fills (ProductionFilled room (part production) deepest) over xs
  part_in_production production deepest fits over xs p =
      let small = p.within in
      let some = positive p.are in
      let r = production_fills (room + over) (production p.tree) (max deepest p.depth) (omega arith) (inl (omega arith)) in
      record { more = r.more; are = record { depth = r.whole.depth; tree = r.whole.tree; within = r.whole.within; are = a_part xs r.more p.tree production p.depth deepest r.whole.depth r.whole.tree p.are r.whole.are } }

  behind_part : (production : Expr → Production) (deepest : ℕ) (ts : List Token) (a : Measured) (rest : List Token) (s : PartRead room deepest ts a rest)
      → (over : ℕ) (xs : List Token) → ProductionFilled room (production a.0) a.1 over xs → Fills (ProductionFilled room (part production) deepest) over (s.front ++ xs)
  behind_part production deepest ts a rest s over xs p =
      full (ProductionFilled room (part production) deepest) over (s.front ++ xs)
      (record { depth = p.depth; tree = p.tree; within = p.within; are = a_part s.front xs a.0 production s.depth deepest p.depth p.tree s.part (subst (λ (n : ℕ). Is (Behind (production a.0) n p.depth p.tree) xs) s.deeper p.are) })

  arguments_in_production : (production : List Expr → Production) (deepest : ℕ) → Fit room (arguments production) → (over : ℕ) (xs : List Token) → AnyListing room deepest over xs → Fills (ProductionFilled room (arguments production) deepest) over xs
  arguments_in_production production deepest fit over xs p =
      let r = production_fills (room + over) (production p.all) p.deeper p.within (fit_to (room + over) room (omega arith) (λ (f : Flat (arguments production)). f p.all) fit) in
      record { more = r.more; are = record { depth = r.whole.depth; tree = r.whole.tree; within = r.whole.within; are = p.put production r.whole.depth r.whole.tree r.more r.whole.are } }

  -- what is read of arguments, and the production behind them
  pub record ListRead (production : List Expr → Production) (deepest : ℕ) (ts : List Token) (a : List Expr × ℕ) (rest : List Token) : Type 0 where
    pub front : List Token
    pub is : ts ≡ front ++ rest
    pub within : deepest ≤ room → a.1 ≤ room
    pub put : (depth : ℕ) (tree : Expr) (back : List Token) → Is (Behind (production a.0) a.1 depth tree) back → Is (Behind (arguments production) deepest depth tree) (front ++ back)

  list_read : (production : List Expr → Production) (deepest : ℕ) (ts : List Token) (a : List Expr × ℕ) (rest : List Token) → ArgumentsOrNone room deepest ts a rest → ListRead production deepest ts a rest
  list_read production deepest ts a rest (inl s) = record {
    front = s.0.token ∷ [];
    is = s.0.is;
    within = λ small. let same = s.2 in omega arith;
    put = λ depth tree back r. no_arguments s.0.token back production deepest depth tree s.0.kind (subst (λ (n : ℕ). Is (Behind (production []) n depth tree) back) s.2 (subst (λ (all : List Expr). Is (Behind (production all) a.1 depth tree) back) s.1 r));
  }
  list_read production deepest ts a rest (inr s) = record {
    front = s.front;
    is = s.is;
    within = s.within;
    put = λ depth tree back r. some_arguments s.front back s.all production deepest a.1 depth tree s.are (subst (λ (all : List Expr). Is (Behind (production all) a.1 depth tree) back) s.found_all r);
  }

  behind_arguments : (production : List Expr → Production) (deepest : ℕ) (ts : List Token) (a : List Expr × ℕ) (rest : List Token) (s : ListRead production deepest ts a rest)
      → (over : ℕ) (xs : List Token) → ProductionFilled room (production a.0) a.1 over xs → Fills (ProductionFilled room (arguments production) deepest) over (s.front ++ xs)
  behind_arguments production deepest ts a rest s over xs p =
      full (ProductionFilled room (arguments production) deepest) over (s.front ++ xs) (record { depth = p.depth; tree = p.tree; within = p.within; are = s.put p.depth p.tree xs p.are })

  chosen_in : (which : Mark) (one other : Production) (deepest : ℕ) (t : Token) → t.kind ≡ kinds.Mark which → (over : ℕ) (xs : List Token) → ProductionFilled room one deepest over xs → Fills (ProductionFilled room (choice which one other) deepest) over (t ∷ xs)
  chosen_in which one other deepest t kind over xs p =
      full (ProductionFilled room (choice which one other) deepest) over (t ∷ xs) (record { depth = p.depth; tree = p.tree; within = p.within; are = with_choice t xs which one other deepest p.depth p.tree kind p.are })

  passed_in : (which : Mark) (one other : Production) (deepest over : ℕ) (xs : List Token) → ProductionFilled room other deepest over xs → Fills (ProductionFilled room (choice which one other) deepest) over xs
  passed_in which one other deepest over xs p =
      full (ProductionFilled room (choice which one other) deepest) over xs (record { depth = p.depth; tree = p.tree; within = p.within; are = without_choice xs which one other deepest p.depth p.tree p.are })

  -- the first production of a choice is too deep
  too_deep_choice : (which : Mark) (one other : Production) (deepest : ℕ) (ts : List Token) → deepest ≤ room → Fit room (choice which one other) → sees which ts ≡ true → FaultOf ⊥ (ProductionFilled room (choice which one other) deepest) ts DeepNesting ts
  too_deep_choice which one other deepest ts fits fit is =
      let t = seen which ts is in
      let r = production_fills (room + 2) one deepest (omega arith) (inl (omega arith)) in
      let whole : ProductionFilled room (choice which one other) deepest 2 (t.token ∷ r.more) = record { depth = r.whole.depth; tree = r.whole.tree; within = r.whole.within; are = with_choice t.token r.more which one other deepest r.whole.depth r.whole.tree t.kind r.whole.are } in
      at_once ⊥ (ProductionFilled room (choice which one other) deepest) ts DeepNesting (inl (production_begins (choice which one other) deepest 0 fits fit))
      (record { token = t.token; behind = next ts; is = t.is; plain = ap is_refused_kind t.kind; fills = record { more = r.more; are = whole } })

  choice_fault : (which : Mark) (one other : Production) (deepest : ℕ) (ts : List Token) → deepest ≤ room → Fit room (choice which one other)
      → (Fit room one → Failed (FaultOf ⊥ (ProductionFilled room one deepest) (next ts)) (read_production (expr room) room deepest one (next ts)))
      → Failed (FaultOf ⊥ (ProductionFilled room other deepest) ts) (read_production (expr room) room deepest other ts)
      → Failed (FaultOf ⊥ (ProductionFilled room (choice which one other) deepest) ts) (read_production (expr room) room deepest (choice which one other) ts)
  choice_fault which one other deepest ts fits fit first_production second_production =
      let F : FaultKind → List Token → Type 0 = FaultOf ⊥ (ProductionFilled room (choice which one other) deepest) ts in
      let P : Outcome Measured → Type 0 = λ o. Failed F o in
      by_test P (sees which ts) _ _
      (λ is.
      let t = seen which ts is in
      let inside : Fit room one → P (read_production (expr room) room deepest one (next ts)) = λ (f : Fit room one). map_failed (FaultOf ⊥ (ProductionFilled room one deepest) (next ts)) F (read_production (expr room) room deepest one (next ts)) (first_production f)
      (extend (ProductionFilled room one deepest) (ProductionFilled room (choice which one other) deepest) (t.token ∷ []) (chosen_in which one other deepest t.token t.kind) ⊥ ⊥ (next ts) ts t.is (λ none. absurd none)) in
      by_test P (opens one) _ _
      (λ deep. by_test P (room == 0) _ _ (λ none. too_deep_choice which one other deepest ts fits fit is) (λ some. inside (inl (not_zero room some))))
      (λ flat. inside (fit_to room room (omega arith) (λ (f : Flat (choice which one other)). f.0 flat) fit)))
      (λ is. map_failed (FaultOf ⊥ (ProductionFilled room other deepest) ts) F (read_production (expr room) room deepest other ts) second_production
      (extend (ProductionFilled room other deepest) (ProductionFilled room (choice which one other) deepest) [] (passed_in which one other deepest) ⊥ ⊥ ts ts refl (λ none. absurd none)))

  pub production_fault : (production : Production) (deepest : ℕ) (ts : List Token) → deepest ≤ room → Fit room production → Failed (FaultOf ⊥ (ProductionFilled room production deepest) ts) (read_production (expr room) room deepest production ts)
  production_fault (gives tree) deepest ts fits fit = tt
  production_fault (mark which production) deepest ts fits fit =
      let F : FaultKind → List Token → Type 0 = FaultOf ⊥ (ProductionFilled room (mark which production) deepest) ts in
      failed_then (λ (u : Unit {0}) rest. Takes which ts rest) F (expect which ts) _ (expect_sound which ts)
      (expect_fault F which ts (at_once ⊥ (ProductionFilled room (mark which production) deepest) ts Expected (inl (production_begins (mark which production) deepest 0 fits fit)) tt))
      (λ u rest s. map_failed (FaultOf ⊥ (ProductionFilled room production deepest) rest) F (read_production (expr room) room deepest production rest) (production_fault production deepest rest fits fit)
      (extend (ProductionFilled room production deepest) (ProductionFilled room (mark which production) deepest) (s.token ∷ []) (mark_in which production deepest s.token s.kind) ⊥ ⊥ rest ts s.is (λ none. absurd none)))
  production_fault (typed production) deepest ts fits fit =
      let P : ℕ → List Token → Type 0 = ProductionFilled room (typed production) deepest in
      let F : FaultKind → List Token → Type 0 = FaultOf ⊥ P ts in
      let ty : TypeName = record { at = here; base = base.Num k.Integer; pointers = 0 } in
      let r = production_fills (room + 2) (production ty) deepest (omega arith) (inl (omega arith)) in
      let whole : P 2 (an_integer ∷ r.more) = record { depth = r.whole.depth; tree = r.whole.tree; within = r.whole.within; are = a_type (an_integer ∷ []) r.more ty production deepest r.whole.depth r.whole.tree integer_is r.whole.are } in
      failed_then (λ x rest. Splits (λ front. IsType front x) ts rest) F (type_name ts) _ (type_sound ts)
      (type_fault F ts (refused ⊥ P (inl (production_begins (typed production) deepest 0 fits fit)) an_integer (inr refl) (record { more = r.more; are = whole }) ts))
      (λ x rest s. map_failed (FaultOf ⊥ (ProductionFilled room (production x) deepest) rest) F (read_production (expr room) room deepest (production x) rest)
      (production_fault (production x) deepest rest fits (fit_to room room (omega arith) (λ (f : Flat (typed production)). f x) fit))
      (extend (ProductionFilled room (production x) deepest) P s.front (type_in s.front x production deepest s.are) ⊥ ⊥ rest ts s.is (λ none. absurd none)))
  production_fault (named production) deepest ts fits fit =
      let P : ℕ → List Token → Type 0 = ProductionFilled room (named production) deepest in
      let F : FaultKind → List Token → Type 0 = FaultOf ⊥ P ts in
      failed_then (λ x rest. NamedBy x ts rest) F (name ts) _ (name_sound ts)
      (name_fault F ts (at_once ⊥ P ts Expected (inl (production_begins (named production) deepest 0 fits fit)) tt))
      (λ x rest s. map_failed (FaultOf ⊥ (ProductionFilled room (production x) deepest) rest) F (read_production (expr room) room deepest (production x) rest)
      (production_fault (production x) deepest rest fits (fit_to room room (omega arith) (λ (f : Flat (named production)). f x) fit))
      (extend (ProductionFilled room (production x) deepest) P (s.token ∷ []) (name_in x s.token s.text production deepest s.kind s.name) ⊥ ⊥ rest ts s.is (λ none. absurd none)))
  production_fault (part production) deepest ts fits (inr never) = absurd never
  production_fault (part production) deepest ts fits (inl some) =
      let P : ℕ → List Token → Type 0 = ProductionFilled room (part production) deepest in
      let F : FaultKind → List Token → Type 0 = FaultOf ⊥ P ts in
      failed_then (PartRead room deepest ts) F (part_in (expr room) room deepest ts) _ (part_sound room (right room) deepest ts)
      (map_failed (FaultOf (NoRoom room) (Whole room 1) ts) F _ (part_fault deepest ts) (extend (Whole room 1) P [] (part_in_production production deepest fits) (NoRoom room) ⊥ ts ts refl (λ none. absurd (omega arith))))
      (λ a rest s. let small = s.within in let same = s.deeper in
      map_failed (FaultOf ⊥ (ProductionFilled room (production a.0) a.1) rest) F (read_production (expr room) room a.1 (production a.0) rest)
      (production_fault (production a.0) a.1 rest (omega arith) (inl some))
      (extend (ProductionFilled room (production a.0) a.1) P s.front (behind_part production deepest ts a rest s) ⊥ ⊥ rest ts s.is (λ none. absurd none)))
  production_fault (arguments production) deepest ts fits fit =
      let P : ℕ → List Token → Type 0 = ProductionFilled room (arguments production) deepest in
      let F : FaultKind → List Token → Type 0 = FaultOf ⊥ P ts in
      failed_then (ArgumentsOrNone room deepest ts) F (arguments_in (expr room) room deepest ts) _ (arguments_sound room (right room) deepest ts)
      (map_failed (FaultOf ⊥ (AnyListing room deepest) ts) F _ (arguments_fault deepest ts fits) (extend (AnyListing room deepest) P [] (arguments_in_production production deepest fit) ⊥ ⊥ ts ts refl (λ none. absurd none)))
      (λ a rest s. let r = list_read production deepest ts a rest s in
      map_failed (FaultOf ⊥ (ProductionFilled room (production a.0) a.1) rest) F (read_production (expr room) room a.1 (production a.0) rest)
      (production_fault (production a.0) a.1 rest (r.within fits) (fit_to room room (omega arith) (λ (f : Flat (arguments production)). f a.0) fit))
      (extend (ProductionFilled room (production a.0) a.1) P r.front (behind_arguments production deepest ts a rest r) ⊥ ⊥ rest ts r.is (λ none. absurd none)))
  production_fault (choice which one other) deepest ts fits fit =
      choice_fault which one other deepest ts fits fit (λ f. production_fault one deepest (next ts) fits f) (production_fault other deepest ts fits (fit_to room room (omega arith) (λ (f : Flat (choice which one other)). f.1) fit))
