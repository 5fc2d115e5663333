-- What is read is what the grammar says it is.
use Rattle.std.proofs.Common.{◌≡◌, ◌≤◌, ℕ, zero, suc, ◌==◌, max, Bool, true, false, if◌then◌else◌, List, [], ◌∷◌, ◌++◌, length, Option, Some, None, Ok, Err, refl, sym, ap, ◌∙◌, subst, ◌⊎◌, inl, inr, arith, rules, append_assoc}
use denote.Enum.Bare.{same_true}
use Rattle.fb_lexer.specs.declared.token.Token.{Token}
use Rattle.fb_lexer.specs.declared.token.TokenKind.{TokenKind}
use Rattle.fb_lexer.specs.declared.token.TokenKind.TheVariants as kinds
use Rattle.fb_lexer.specs.declared.token.Mark.{Mark}
use Rattle.fb_lexer.specs.declared.token.Mark.TheVariants.{Close, Comma}
use Rattle.fb_lexer.specs.contracts.token.Mark as mark_contracts
use Rattle.fb_ast.specs.declared.expr.Expr.{Expr}
use Rattle.fb_ast.specs.declared.ty.Base.{Base}
use Rattle.fb_ast.specs.declared.part.Name.{Name}
use Rattle.parse_expr.specs.Words.{is_pointer, base_of}
use Rattle.parse_expr.specs.Reading.{first, next, same_mark, is_mark, sees, expect, Outcome, Reader, and_then}
use Rattle.parse_expr.specs.Types.{pointers, behind_pointers, type_name, type_from, name, name_by}
use Rattle.parse_expr.specs.Productions.{Production, gives, mark, typed, named, part, arguments, choice}
use Rattle.parse_expr.specs.Expr.{Measured, expr, part_in, arguments_from, arguments_in, read_production, opens, operator_at}
use Rattle.parse_expr.specs.Grammar.{ArePointers, IsType, written, Expression, Behind, Arguments, Is, nothing, a_mark, a_type, a_name, a_part, no_arguments, some_arguments, with_choice, without_choice, last_argument, one_argument}

-- ---- steps of a reading

-- what holds of an outcome where something is read
abbrev pub Done : {A : Type 0} → (A → List Token → Type 0) → Outcome A → Type 0
Done P (Ok p) = P p.0 p.1
Done P (Err e) = Unit {0}

pub bind : {A B : Type 0} (P : A → List Token → Type 0) (Q : B → List Token → Type 0) (o : Outcome A) (f : A → Reader B)
    → Done P o → ((a : A) (rest : List Token) → P a rest → Done Q (f a rest)) → Done Q (and_then o f)
bind P Q (Ok p) f s k = k p.0 p.1 s
bind P Q (Err e) f s k = tt

pub by_test : {X : Type 0} (Q : X → Type 0) (b : Bool) (x y : X) → (b ≡ true → Q x) → (b ≡ false → Q y) → Q (if b then x else y)
by_test Q true x y f g = f refl
by_test Q false x y f g = g refl

-- the front of the tokens is such, and the rest is left
pub record Splits (P : List Token → Type 0) (ts rest : List Token) : Type 0 where
  pub front : List Token
  pub is : ts ≡ front ++ rest
  pub are : P front

-- ---- marks, names and types

pub mark_is : (which : Mark) (kind : TokenKind) → is_mark which kind ≡ true → kind ≡ kinds.Mark which
unfolding same_mark
mark_is which (kinds.Mark found) is = ap kinds.Mark (same_true mark_contracts.the_type (search rules) found which is)
mark_is which (kinds.Name text) is = cc
mark_is which (kinds.Word word) is = cc
mark_is which (kinds.Number value) is = cc
mark_is which (kinds.Str text) is = cc
mark_is which kinds.Colon is = cc
mark_is which kinds.LineEnd is = cc

pub record Takes (which : Mark) (ts rest : List Token) : Type 0 where
  pub token : Token
  pub is : ts ≡ token ∷ rest
  pub kind : token.kind ≡ kinds.Mark which

pub seen : (which : Mark) (ts : List Token) → sees which ts ≡ true → Takes which ts (next ts)
unfolding sees first next
seen which [] is = cc
seen which (t ∷ ts) is = record { token = t; is = refl; kind = mark_is which t.kind is }

pub expect_sound : (which : Mark) (ts : List Token) → Done (λ (u : Unit {0}) rest. Takes which ts rest) (expect which ts)
unfolding expect
expect_sound which ts = by_test (λ (o : Outcome (Unit {0})). Done (λ (u : Unit {0}) rest. Takes which ts rest) o) (sees which ts) _ _ (λ is. seen which ts is) (λ is. tt)

pub record NamedBy (x : Name) (ts rest : List Token) : Type 0 where
  pub token : Token
  pub text : List ℕ
  pub is : ts ≡ token ∷ rest
  pub kind : token.kind ≡ kinds.Name text
  pub name : x ≡ record { at = token.at; text = text }

pub named_by : (t : Token) (ts : List Token) (kind : TokenKind) → t.kind ≡ kind → Done (λ x rest. NamedBy x (t ∷ ts) rest) (name_by t.at kind (t ∷ ts))
unfolding next
named_by t ts (kinds.Name text) is = record { token = t; text = text; is = refl; kind = is; name = refl }
named_by t ts (kinds.Mark which) is = tt
named_by t ts (kinds.Word word) is = tt
named_by t ts (kinds.Number value) is = tt
named_by t ts (kinds.Str text) is = tt
named_by t ts kinds.Colon is = tt
named_by t ts kinds.LineEnd is = tt

pub name_sound : (ts : List Token) → Done (λ x rest. NamedBy x ts rest) (name ts)
unfolding name first
name_sound [] = tt
name_sound (t ∷ ts) = named_by t ts t.kind refl

pub record Points (ts : List Token) : Type 0 where
  pub front : List Token
  pub is : ts ≡ front ++ behind_pointers ts
  pub are : ArePointers front
  pub count : pointers ts ≡ length front

points_if : (t : Token) (ts : List Token) (b : Bool) → is_pointer t.kind ≡ b → Points ts → Points (t ∷ ts)
unfolding pointers behind_pointers
points_if t ts true is p = record { front = t ∷ p.front; is = rw is (ap (λ xs. t ∷ xs) p.is); are = (is, p.are); count = rw is (ap suc p.count) }
points_if t ts false is p = record { front = []; is = rw is refl; are = tt; count = rw is refl }

pub points : (ts : List Token) → Points ts
unfolding pointers behind_pointers
points [] = record { front = []; is = refl; are = tt; count = refl }
points (t ∷ ts) = points_if t ts (is_pointer t.kind) refl (points ts)

type_by : (t : Token) (ts : List Token) (base : Option Base) → base_of t.kind ≡ base → Done (λ x rest. Splits (λ front. IsType front x) (t ∷ ts) rest) (type_from t.at base (t ∷ ts))
unfolding next
type_by t ts None is = tt
type_by t ts (Some base) is =
    let p = points ts in
    let w = written t base p.front is p.are in
    record { front = t ∷ p.front; is = ap (λ xs. t ∷ xs) p.is; are = rw p.count w }

pub type_sound : (ts : List Token) → Done (λ x rest. Splits (λ front. IsType front x) ts rest) (type_name ts)
unfolding type_name first
type_sound [] = tt
type_sound (t ∷ ts) = type_by t ts (base_of t.kind) refl

-- ---- productions

-- An expression of this level at most so deep, behind which comes no operator of the level.
pub record IsRead (room level : ℕ) (ts : List Token) (x : Measured) (rest : List Token) : Type 0 where
  pub front : List Token
  pub is : ts ≡ front ++ rest
  pub are : Is (Expression level x.1 x.0) front
  pub within : x.1 ≤ room
  pub ends : operator_at level (first rest) ≡ None

-- the reader of parts reads what the grammar says
abbrev pub Right : ℕ → Type 0
Right room = (level : ℕ) → level ≤ 14 → (ts : List Token) → Done (IsRead room level ts) (expr room level ts)

pub record PartRead (room deepest : ℕ) (ts : List Token) (x : Measured) (rest : List Token) : Type 0 where
  pub depth : ℕ
  pub front : List Token
  pub is : ts ≡ front ++ rest
  pub part : Is (Expression 1 depth x.0) front
  pub within : depth ≤ room
  pub deeper : x.1 ≡ max deepest depth

pub part_sound : (room : ℕ) → Right room → (deepest : ℕ) (ts : List Token) → Done (PartRead room deepest ts) (part_in (expr room) room deepest ts)
unfolding part_in
part_sound room right deepest ts =
    bind (IsRead room 1 ts) (PartRead room deepest ts) (expr room 1 ts) _ (right 1 (omega arith) ts)
    (λ a rest s. record { depth = a.1; front = s.front; is = s.is; part = s.are; within = s.within; deeper = refl })

pub map_done : {A : Type 0} (P Q : A → List Token → Type 0) (o : Outcome A) → Done P o → ((a : A) (rest : List Token) → P a rest → Q a rest) → Done Q o
map_done P Q (Ok p) s k = k p.0 p.1 s
map_done P Q (Err e) s k = tt

pub joined : (ts a rest : List Token) (t : Token) (more b c : List Token) → ts ≡ a ++ rest → rest ≡ t ∷ more → more ≡ b ++ c → ts ≡ (a ++ t ∷ b) ++ c
joined ts a rest t more b c p q r = p ∙ ap (λ xs. a ++ xs) (q ∙ ap (λ xs. t ∷ xs) r) ∙ sym (append_assoc a (t ∷ b) c)

pub both : (ts a rest b c : List Token) → ts ≡ a ++ rest → rest ≡ b ++ c → ts ≡ (a ++ b) ++ c
both ts a rest b c p r = p ∙ ap (λ xs. a ++ xs) r ∙ sym (append_assoc a b c)

pub record ArgumentsRead (room deepest : ℕ) (found : List Expr) (ts : List Token) (x : List Expr × ℕ) (rest : List Token) : Type 0 where
  pub all : List Expr
  pub front : List Token
  pub is : ts ≡ front ++ rest
  pub are : Is (Arguments deepest x.1 all) front
  pub found_all : x.0 ≡ found ++ all
  pub within : deepest ≤ room → x.1 ≤ room

module _ (room deepest : ℕ) (found : List Expr) (ts : List Token) (a : Measured) (rest : List Token) (s : PartRead room deepest ts a rest) where
  another : (t : Token) (more : List Token) → rest ≡ t ∷ more → t.kind ≡ kinds.Mark Comma
      → (x : List Expr × ℕ) (left : List Token) → ArgumentsRead room a.1 (found ++ a.0 ∷ []) more x left → ArgumentsRead room deepest found ts x left
  another t more is kind x left r = record {
    all = a.0 ∷ r.all;
    front = s.front ++ t ∷ r.front;
    is = joined ts s.front rest t more r.front left s.is is r.is;
    are = one_argument s.front t r.front a.0 r.all s.depth deepest x.1 s.part kind (subst (λ (n : ℕ). Is (Arguments n x.1 r.all) r.front) s.deeper r.are);
    found_all = r.found_all ∙ append_assoc found (a.0 ∷ []) r.all;
    within = λ small. let w = s.within in let e = s.deeper in r.within (omega arith);
  }

  last_one : (left : List Token) → Takes Close rest left → ArgumentsRead room deepest found ts (found ++ a.0 ∷ [], a.1) left
  last_one left r = record {
    all = a.0 ∷ [];
    front = s.front ++ r.token ∷ [];
    is = joined ts s.front rest r.token left [] left s.is r.is refl;
    are = subst (λ (n : ℕ). Is (Arguments deepest n (a.0 ∷ [])) (s.front ++ r.token ∷ [])) (sym s.deeper) (last_argument s.front r.token a.0 s.depth deepest s.part r.kind);
    found_all = refl;
    within = λ small. let w = s.within in let e = s.deeper in omega arith;
  }

  comma : (n : ℕ) (b : Bool) → sees Comma rest ≡ b
      → Done (ArgumentsRead room a.1 (found ++ a.0 ∷ []) (next rest)) (arguments_from (expr room) room n (found ++ a.0 ∷ []) a.1 (next rest))
      → Done (ArgumentsRead room deepest found ts)
      ((if b then arguments_from (expr room) room n (found ++ a.0 ∷ []) a.1 else (λ left. and_then (expect Close left) (λ (u : Unit {0}) (more : List Token). Ok ((found ++ a.0 ∷ [], a.1), more)))) (if b then next rest else rest))
  comma n true is again =
      let t = seen Comma rest is in
      map_done (ArgumentsRead room a.1 (found ++ a.0 ∷ []) (next rest)) (ArgumentsRead room deepest found ts) _ again (another t.token (next rest) t.is t.kind)
  comma n false is again =
      bind (λ (u : Unit {0}) left. Takes Close rest left) (ArgumentsRead room deepest found ts) (expect Close rest) _ (expect_sound Close rest) (λ u left r. last_one left r)

arguments_from_sound : (room : ℕ) → Right room → (n : ℕ) (found : List Expr) (deepest : ℕ) (ts : List Token)
    → Done (ArgumentsRead room deepest found ts) (arguments_from (expr room) room n found deepest ts)
unfolding arguments_from
arguments_from_sound room right zero found deepest ts = tt
arguments_from_sound room right (suc n) found deepest ts =
    bind (PartRead room deepest ts) (ArgumentsRead room deepest found ts) (part_in (expr room) room deepest ts) _ (part_sound room right deepest ts)
    (λ a rest s. comma room deepest found ts a rest s n (sees Comma rest) refl (arguments_from_sound room right n (found ++ a.0 ∷ []) a.1 (next rest)))

-- what is read behind the first token of a production
pub record ProductionRead (room : ℕ) (production : Production) (deepest : ℕ) (ts : List Token) (x : Measured) (rest : List Token) : Type 0 where
  pub front : List Token
  pub is : ts ≡ front ++ rest
  pub are : Is (Behind production deepest x.1 x.0) front
  pub within : deepest ≤ room → x.1 ≤ suc room

-- arguments, or the closing parenthesis alone
abbrev pub ArgumentsOrNone : ℕ → ℕ → List Token → List Expr × ℕ → List Token → Type 0
ArgumentsOrNone room deepest ts x rest = ((Takes Close ts rest) × (x.0 ≡ []) × (x.1 ≡ deepest)) ⊎ ArgumentsRead room deepest [] ts x rest

pub arguments_sound : (room : ℕ) → Right room → (deepest : ℕ) (ts : List Token) → Done (ArgumentsOrNone room deepest ts) (arguments_in (expr room) room deepest ts)
unfolding arguments_in
arguments_sound room right deepest ts =
    by_test (λ (o : Outcome (List Expr × ℕ)). Done (ArgumentsOrNone room deepest ts) o) (sees Close ts) _ _
    (λ is. inl (seen Close ts is, refl, refl))
    (λ is. map_done (ArgumentsRead room deepest [] ts) (ArgumentsOrNone room deepest ts) _ (arguments_from_sound room right (length ts) [] deepest ts) (λ x left r. inr r))

with_arguments : (room deepest : ℕ) (ts : List Token) (production : List Expr → Production) (a : List Expr × ℕ) (rest : List Token) → ArgumentsOrNone room deepest ts a rest
    → (x : Measured) (left : List Token) → ProductionRead room (production a.0) a.1 rest x left → ProductionRead room (arguments production) deepest ts x left
with_arguments room deepest ts production a rest (inl s) x left r =
    let t = s.0 in
    let same : Is (Behind (production []) deepest x.1 x.0) r.front = subst (λ (n : ℕ). Is (Behind (production []) n x.1 x.0) r.front) s.2 (subst (λ (all : List Expr). Is (Behind (production all) a.1 x.1 x.0) r.front) s.1 r.are) in
    record {
      front = t.token ∷ r.front;
      is = joined ts [] ts t.token rest r.front left refl t.is r.is;
      are = no_arguments t.token r.front production deepest x.1 x.0 t.kind same;
      within = λ small. let e = s.2 in r.within (omega arith);
    }
with_arguments room deepest ts production a rest (inr s) x left r =
    let same : Is (Behind (production s.all) a.1 x.1 x.0) r.front = subst (λ (all : List Expr). Is (Behind (production all) a.1 x.1 x.0) r.front) s.found_all r.are in
    record {
      front = s.front ++ r.front;
      is = both ts s.front rest r.front left s.is r.is;
      are = some_arguments s.front r.front s.all production deepest a.1 x.1 x.0 s.are same;
      within = λ small. r.within (s.within small);
    }

module _ (room : ℕ) (which : Mark) (one other : Production) (deepest : ℕ) (ts : List Token) where
  taken : sees which ts ≡ true → (x : Measured) (left : List Token) → ProductionRead room one deepest (next ts) x left → ProductionRead room (choice which one other) deepest ts x left
  taken is x left r =
      let t = seen which ts is in
      record { front = t.token ∷ r.front; is = joined ts [] ts t.token (next ts) r.front left refl t.is r.is; are = with_choice t.token r.front which one other deepest x.1 x.0 t.kind r.are; within = r.within }

  passed : (x : Measured) (left : List Token) → ProductionRead room other deepest ts x left → ProductionRead room (choice which one other) deepest ts x left
  passed x left r = record { front = r.front; is = r.is; are = without_choice r.front which one other deepest x.1 x.0 r.are; within = r.within }

  choice_sound : Done (ProductionRead room one deepest (next ts)) (read_production (expr room) room deepest one (next ts)) → Done (ProductionRead room other deepest ts) (read_production (expr room) room deepest other ts)
      → Done (ProductionRead room (choice which one other) deepest ts) (read_production (expr room) room deepest (choice which one other) ts)
  choice_sound s r =
      let P : Outcome Measured → Type 0 = λ o. Done (ProductionRead room (choice which one other) deepest ts) o in
      by_test P (sees which ts) _ _
      (λ is. by_test P (opens one) _ _
      (λ deep. by_test P (room == 0) _ _ (λ none. tt) (λ some. map_done (ProductionRead room one deepest (next ts)) (ProductionRead room (choice which one other) deepest ts) _ s (taken is)))
      (λ flat. map_done (ProductionRead room one deepest (next ts)) (ProductionRead room (choice which one other) deepest ts) _ s (taken is)))
      (λ is. map_done (ProductionRead room other deepest ts) (ProductionRead room (choice which one other) deepest ts) _ r passed)

pub production_sound : (room : ℕ) → Right room → (production : Production) (deepest : ℕ) (ts : List Token) → Done (ProductionRead room production deepest ts) (read_production (expr room) room deepest production ts)
unfolding arguments_in
production_sound room right (gives tree) deepest ts = record { front = []; is = refl; are = nothing deepest tree; within = λ small. omega arith }
production_sound room right (mark which production) deepest ts =
    bind (λ (u : Unit {0}) rest. Takes which ts rest) (ProductionRead room (mark which production) deepest ts) (expect which ts) _ (expect_sound which ts)
    (λ u rest s. map_done (ProductionRead room production deepest rest) (ProductionRead room (mark which production) deepest ts) (read_production (expr room) room deepest production rest) (production_sound room right production deepest rest)
    (λ x left r. record { front = s.token ∷ r.front; is = joined ts [] ts s.token rest r.front left refl s.is r.is; are = a_mark s.token r.front which production deepest x.1 x.0 s.kind r.are; within = r.within }))
production_sound room right (typed production) deepest ts =
    bind (λ ty rest. Splits (λ front. IsType front ty) ts rest) (ProductionRead room (typed production) deepest ts) (type_name ts) _ (type_sound ts)
    (λ ty rest s. map_done (ProductionRead room (production ty) deepest rest) (ProductionRead room (typed production) deepest ts) (read_production (expr room) room deepest (production ty) rest) (production_sound room right (production ty) deepest rest)
    (λ x left r. record { front = s.front ++ r.front; is = both ts s.front rest r.front left s.is r.is; are = a_type s.front r.front ty production deepest x.1 x.0 s.are r.are; within = r.within }))
production_sound room right (named production) deepest ts =
    bind (λ n rest. NamedBy n ts rest) (ProductionRead room (named production) deepest ts) (name ts) _ (name_sound ts)
    (λ n rest s. map_done (ProductionRead room (production n) deepest rest) (ProductionRead room (named production) deepest ts) (read_production (expr room) room deepest (production n) rest) (production_sound room right (production n) deepest rest)
    (λ x left r. record {
      front = s.token ∷ r.front;
      is = joined ts [] ts s.token rest r.front left refl s.is r.is;
      are = a_name s.token r.front s.text production deepest x.1 x.0 s.kind (subst (λ (m : Name). Is (Behind (production m) deepest x.1 x.0) r.front) s.name r.are);
      within = r.within;
    }))
production_sound room right (part production) deepest ts =
    bind (PartRead room deepest ts) (ProductionRead room (part production) deepest ts) (part_in (expr room) room deepest ts) _ (part_sound room right deepest ts)
    (λ a rest s. map_done (ProductionRead room (production a.0) a.1 rest) (ProductionRead room (part production) deepest ts) (read_production (expr room) room a.1 (production a.0) rest) (production_sound room right (production a.0) a.1 rest)
    (λ x left r. record {
      front = s.front ++ r.front;
      is = both ts s.front rest r.front left s.is r.is;
      are = a_part s.front r.front a.0 production s.depth deepest x.1 x.0 s.part (subst (λ (n : ℕ). Is (Behind (production a.0) n x.1 x.0) r.front) s.deeper r.are);
      within = λ small. let w = s.within in let e = s.deeper in r.within (omega arith);
    }))
production_sound room right (arguments production) deepest ts =
    bind (ArgumentsOrNone room deepest ts) (ProductionRead room (arguments production) deepest ts) (arguments_in (expr room) room deepest ts) _ (arguments_sound room right deepest ts)
    (λ a rest s. map_done (ProductionRead room (production a.0) a.1 rest) (ProductionRead room (arguments production) deepest ts) (read_production (expr room) room a.1 (production a.0) rest) (production_sound room right (production a.0) a.1 rest)
    (λ x left r. with_arguments room deepest ts production a rest s x left r))
production_sound room right (choice which one other) deepest ts = choice_sound room which one other deepest ts (production_sound room right one deepest (next ts)) (production_sound room right other deepest ts)
