-- Suffixes, operators and whole expressions are read as the grammar says.
use Rattle.std.proofs.Common.{◌≡◌, ◌≤◌, ◌<◌, ℕ, zero, suc, ◌+◌, ◌==◌, max, nat_lt, true, false, List, [], ◌∷◌, ◌++◌, length, Option, Some, None, Ok, Err, refl, sym, ap, ◌∙◌, subst, arith, rules, length-append}
use Rattle.fb_base.specs.declared.fault.Span.{Span}
use Rattle.fb_lexer.specs.declared.token.Token.{Token}
use Rattle.fb_lexer.specs.declared.token.TokenKind.{TokenKind}
use Rattle.fb_lexer.specs.declared.token.TokenKind.TheVariants as kinds
use Rattle.fb_lexer.specs.declared.token.Mark.{Mark}
use Rattle.fb_lexer.specs.declared.token.Mark.TheVariants as marks
use Rattle.fb_lexer.specs.declared.token.Mark.TheVariants.{Open, OpenBracket}
use Rattle.fb_ast.specs.declared.expr.Expr.{Expr, the_lemmas}
use Rattle.fb_ast.specs.declared.expr.Expr.TheVariants as e
use Rattle.fb_ast.specs.declared.ty.TypeName.{TypeName}
use Rattle.fb_ast.specs.declared.part.Name.{Name}
use Rattle.fb_ast.specs.declared.operator.Unary.{Unary}
use Rattle.fb_ast.specs.Places.{place_of}
use Rattle.parse_expr.specs.declared.kinds.Operator.{Operator}
use Rattle.parse_expr.specs.declared.kinds.Suffix.{Suffix}
use Rattle.parse_expr.specs.declared.kinds.Suffix.TheVariants as suffix_kinds
use Rattle.parse_expr.specs.declared.kinds.OperandWord.{OperandWord}
use Rattle.parse_expr.specs.declared.kinds.OperandWord.TheVariants as begins_word
use Rattle.parse_expr.specs.Words.{suffix_of, suffix_mark, prefix_of, operand_word}
use Rattle.parse_expr.specs.Reading.{first, next, same_mark, is_mark, sees, expect, Outcome, Reader}
use Rattle.parse_expr.specs.Types.{type_name, name}
use Rattle.parse_expr.specs.Productions.{Production, gives, mark, typed, named, part, arguments, choice, Start, Leaf, Inner, Nothing, start_of, word_start, mark_start, suffix_production}
use Rattle.parse_expr.specs.Expr.{Measured, expr, part_in, arguments_in, read_production, opens, started, primary, suffix_at, suffix_by, suffixed, suffixes_from, suffixes, prefixed, operand, operand_by, operated, climb_by, climb_from, climb, level, no_room, operator_at, begins}
use Rattle.parse_expr.specs.Grammar.{production_of, may_follow, may_follow_new, Expression, Is, primary as a_primary, suffix as a_suffix, prefix as a_prefix, binary as a_binary}
use Rattle.parse_expr.proofs.Sound.{Done, bind, by_test, map_done, joined, IsRead, Right, ProductionRead, production_sound}
use Rattle.parse_expr.proofs.Levels.{lower, small, prefix_small, AtMost, always, lt_not, ends_below, Comes, comes}

-- ---- what may follow a tree

abbrev pub MayGo : Expr → List Token → Type 0
MayGo tree ts = (kind : Suffix) → suffix_at (first ts) ≡ Some kind → may_follow tree kind ≡ true

-- where a production is over, its tree may be followed by what comes next
abbrev pub Lasts : Production → List Token → Type 0
Lasts (gives tree) ts = MayGo tree ts
Lasts (mark which production) ts = (more : List Token) → Lasts production more
Lasts (typed production) ts = (ty : TypeName) (more : List Token) → Lasts (production ty) more
Lasts (named production) ts = (name : Name) (more : List Token) → Lasts (production name) more
Lasts (part production) ts = (inner : Expr) (more : List Token) → Lasts (production inner) more
Lasts (arguments production) ts = (all : List Expr) (more : List Token) → Lasts (production all) more
Lasts (choice which one other) ts = ((more : List Token) → Lasts one more) × (sees which ts ≡ false → Lasts other ts)

any : {A : Type 0} (o : Outcome A) → Done (λ (a : A) (rest : List Token). Unit {0}) o
any (Ok p) = tt
any (Err e) = tt

module _ (room : ℕ) where
  abbrev After : Measured → List Token → Type 0
  After x rest = MayGo x.0 rest

  pub lasts : (production : Production) (deepest : ℕ) (ts : List Token) → Lasts production ts → Done After (read_production (expr room) room deepest production ts)
  lasts (gives tree) deepest ts l = l
  lasts (mark which production) deepest ts l =
      bind (λ (u : Unit {0}) (rest : List Token). Unit {0}) After (expect which ts) _ (any (expect which ts)) (λ u rest s. lasts production deepest rest (l rest))
  lasts (typed production) deepest ts l =
      bind (λ (ty : TypeName) (rest : List Token). Unit {0}) After (type_name ts) _ (any (type_name ts)) (λ ty rest s. lasts (production ty) deepest rest (l ty rest))
  lasts (named production) deepest ts l =
      bind (λ (n : Name) (rest : List Token). Unit {0}) After (name ts) _ (any (name ts)) (λ n rest s. lasts (production n) deepest rest (l n rest))
  lasts (part production) deepest ts l =
      bind (λ (x : Measured) (rest : List Token). Unit {0}) After (part_in (expr room) room deepest ts) _ (any (part_in (expr room) room deepest ts)) (λ x rest s. lasts (production x.0) x.1 rest (l x.0 rest))
  lasts (arguments production) deepest ts l =
      bind (λ (x : List Expr × ℕ) (rest : List Token). Unit {0}) After (arguments_in (expr room) room deepest ts) _ (any (arguments_in (expr room) room deepest ts)) (λ x rest s. lasts (production x.0) x.1 rest (l x.0 rest))
  lasts (choice which one other) deepest ts l =
      let P : Outcome Measured → Type 0 = λ o. Done After o in
      by_test P (sees which ts) _ _
      (λ is. by_test P (opens one) _ _ (λ deep. by_test P (room == 0) _ _ (λ none. tt) (λ some. lasts one deepest (next ts) (l.0 (next ts)))) (λ flat. lasts one deepest (next ts) (l.0 (next ts))))
      (λ is. lasts other deepest ts (l.1 is))

abbrev suffix_or : Suffix → Option Suffix → Suffix
suffix_or other None = other
suffix_or other (Some kind) = kind

-- every suffix may follow a tree that is no New without parentheses
new_mark : (which : Mark) (kind : Suffix) → same_mark which Open ≡ false → same_mark which OpenBracket ≡ false → suffix_mark which ≡ Some kind → may_follow_new kind ≡ true
unfolding same_mark
new_mark Open kind a b is = cc
new_mark OpenBracket kind a b is = cc
new_mark marks.Dot kind a b is = let k : suffix_kinds.Field ≡ kind = ap (suffix_or kind) is in subst (λ (x : Suffix). may_follow_new x ≡ true) k refl
new_mark marks.Arrow kind a b is = let k : suffix_kinds.Arrow ≡ kind = ap (suffix_or kind) is in subst (λ (x : Suffix). may_follow_new x ≡ true) k refl
new_mark which kind a b is = cc

new_kind : (k : TokenKind) (kind : Suffix) → is_mark Open k ≡ false → is_mark OpenBracket k ≡ false → suffix_of k ≡ Some kind → may_follow_new kind ≡ true
new_kind (kinds.Mark which) kind a b is = new_mark which kind a b is
new_kind (kinds.Name text) kind a b is = cc
new_kind (kinds.Word word) kind a b is = cc
new_kind (kinds.Number value) kind a b is = cc
new_kind (kinds.Str text) kind a b is = cc
new_kind kinds.Colon kind a b is = cc
new_kind kinds.LineEnd kind a b is = cc

new_goes : (at : Span) (ty : TypeName) (ts : List Token) → sees Open ts ≡ false → sees OpenBracket ts ≡ false → MayGo (e.New at ty) ts
unfolding sees first
new_goes at ty [] a b kind is = cc
new_goes at ty (t ∷ ts) a b kind is =
    let may : may_follow_new kind ≡ true = new_kind t.kind kind a b is in
    search (rules, the_lemmas, may)

abbrev pub StartLasts : Start → Type 0
StartLasts (Leaf production) = (ts : List Token) → Lasts production ts
StartLasts (Inner production) = (ts : List Token) → Lasts production ts
StartLasts Nothing = Unit {0}

word_lasts : (at : Span) (word : OperandWord) → StartLasts (word_start at word)
word_lasts at begins_word.True = λ ts kind is. search (rules, the_lemmas)
word_lasts at begins_word.False = λ ts kind is. search (rules, the_lemmas)
word_lasts at begins_word.This = λ ts kind is. search (rules, the_lemmas)
word_lasts at begins_word.New = λ ts ty more. (λ after all rest kind is. search (rules, the_lemmas), λ a. (λ after inner rest last kind is. search (rules, the_lemmas), λ b. new_goes at ty more a b))
word_lasts at begins_word.Cast = λ ts m1 ty m2 m3 inner m4 m5 kind is. search (rules, the_lemmas)
word_lasts at begins_word.CPtr = λ ts m1 ty m2 m3 inner m4 m5 kind is. search (rules, the_lemmas)
word_lasts at begins_word.SizeOf = λ ts m1 ty m2 m3 kind is. search (rules, the_lemmas)
word_lasts at begins_word.IIf = λ ts m1 a m2 m3 b m4 m5 c m6 m7 kind is. search (rules, the_lemmas)
word_lasts at (begins_word.Call word) = λ ts m1 all m2 kind is. search (rules, the_lemmas)
word_lasts at begins_word.Nothing = tt

mark_lasts : (at : Span) (which : Mark) → StartLasts (mark_start at which)
mark_lasts at Open = λ ts inner m1 m2 kind is. search (rules, the_lemmas)
mark_lasts at which = tt

start_lasts : (at : Span) (kind : TokenKind) → StartLasts (start_of at kind)
start_lasts at (kinds.Number value) = λ ts kind is. search (rules, the_lemmas)
start_lasts at (kinds.Str text) = λ ts kind is. search (rules, the_lemmas)
start_lasts at (kinds.Name text) = λ ts kind is. search (rules, the_lemmas)
start_lasts at (kinds.Mark which) = mark_lasts at which
start_lasts at (kinds.Word word) = word_lasts at (operand_word word)
start_lasts at kinds.Colon = tt
start_lasts at kinds.LineEnd = tt

suffix_lasts : (left : Expr) (kind : Suffix) (ts : List Token) → Lasts (suffix_production left kind) ts
suffix_lasts left suffix_kinds.Call ts = λ all more kind is. search (rules, the_lemmas)
suffix_lasts left suffix_kinds.Index ts = λ inner m1 m2 kind is. search (rules, the_lemmas)
suffix_lasts left suffix_kinds.Field ts = λ name more kind is. search (rules, the_lemmas)
suffix_lasts left suffix_kinds.Arrow ts = λ name more kind is. search (rules, the_lemmas)

-- ---- operands

both_done : {A : Type 0} (P Q : A → List Token → Type 0) (o : Outcome A) → Done P o → Done Q o → Done (λ a rest. P a rest × Q a rest) o
both_done P Q (Ok p) a b = (a, b)
both_done P Q (Err e) a b = tt

-- an operand or what goes on with one: of level 15
pub record OperandRead (room : ℕ) (ts : List Token) (x : Measured) (rest : List Token) : Type 0 where
  pub front : List Token
  pub is : ts ≡ front ++ rest
  pub are : Is (Expression 15 x.1 x.0) front
  pub within : x.1 ≤ suc room
  pub goes : MayGo x.0 rest

-- what an operator may go on with: an expression of this level, and no operator of a higher one comes next
pub record LeftRead (room level : ℕ) (ts : List Token) (x : Measured) (rest : List Token) : Type 0 where
  pub front : List Token
  pub is : ts ≡ front ++ rest
  pub are : Is (Expression level x.1 x.0) front
  pub within : x.1 ≤ suc room
  pub next : AtMost level rest

pub record GoesOn (kind : Suffix) (ts : List Token) : Type 0 where
  pub token : Token
  pub is : ts ≡ token ∷ next ts
  pub kind_is : suffix_of token.kind ≡ Some kind

pub goes_on : (ts : List Token) (kind : Suffix) → suffix_at (first ts) ≡ Some kind → GoesOn kind ts
unfolding first next
goes_on [] kind is = cc
goes_on (t ∷ ts) kind is = record { token = t; is = refl; kind_is = is }

pub shorter : (ts more front rest : List Token) (t : Token) → ts ≡ t ∷ more → more ≡ front ++ rest → length rest < length ts
shorter ts more front rest t p q =
    let a : length ts ≡ suc (length more) = ap length p in
    let b : length more ≡ length front + length rest = ap length q ∙ length-append front rest in
    omega arith

operated_left : (room : ℕ) (x : Measured) (operator : Operator) (all ts : List Token) (m least : ℕ) → LeftRead room m all x ts → Comes least operator ts → x.1 ≤ room
    → (y : Measured) (rest : List Token) → IsRead room (operator.level + 1) (next ts) y rest
    → LeftRead room operator.level all (e.Binary (place_of x.0) x.0 operator.which operator.at y.0, max x.1 y.1 + 1) rest × (length rest < length ts)
operated_left room x operator all ts m least l c fits y rest s =
    let k = operator.level in
    let under : k ≤ m = l.next (operator.which, k) c.coming_is in
    let tree = a_binary l.front c.token s.front operator.which k x.1 y.1 k x.0 y.0 c.kind (omega arith) (lower k under l.are) s.are in
    let at : Is (Expression k (max x.1 y.1 + 1) (e.Binary (place_of x.0) x.0 operator.which operator.at y.0)) (l.front ++ c.token ∷ s.front) =
    subst (λ (a : Span). Is (Expression k (max x.1 y.1 + 1) (e.Binary (place_of x.0) x.0 operator.which a y.0)) (l.front ++ c.token ∷ s.front)) (sym c.at) tree in
    let w = s.within in (
      record {
        front = l.front ++ c.token ∷ s.front;
        is = joined all l.front ts c.token (next ts) s.front rest l.is c.is s.is;
        are = at;
        within = omega arith;
        next = λ q is. let below = ends_below (k + 1) rest s.ends q is in omega arith;
      },
      shorter ts (next ts) s.front rest c.token c.is s.is,
    )

module _ (room : ℕ) (right : Right room) where
  production_begins : (t : Token) (ts : List Token) (production : Production) → prefix_of t.kind ≡ None → production_of (start_of t.at t.kind) ≡ Some production → ((more : List Token) → Lasts production more)
      → Done (OperandRead room (t ∷ ts)) (read_production (expr room) room 0 production ts)
  production_begins t ts production none begins l =
      map_done (λ x rest. ProductionRead room production 0 ts x rest × MayGo x.0 rest) (OperandRead room (t ∷ ts)) _
      (both_done (ProductionRead room production 0 ts) (λ x rest. MayGo x.0 rest) _ (production_sound room right production 0 ts) (lasts room production 0 ts (l ts)))
      (λ x rest s. let r = s.0 in record { front = t ∷ r.front; is = ap (λ xs. t ∷ xs) r.is; are = a_primary t production r.front 15 x.1 x.0 none begins (omega arith) r.are; within = r.within (omega arith); goes = s.1 })

  started_sound : (t : Token) (ts : List Token) (start : Start) → prefix_of t.kind ≡ None → start_of t.at t.kind ≡ start → StartLasts start
      → Done (OperandRead room (t ∷ ts)) (started (expr room) room start (t ∷ ts))
  unfolding next
  started_sound t ts (Leaf production) none begins l = production_begins t ts production none (ap production_of begins) l
  started_sound t ts (Inner production) none begins l =
      let P : Reader Measured → Type 0 = λ p. Done (OperandRead room (t ∷ ts)) (p (t ∷ ts)) in
      by_test P (room == 0) _ _ (λ none_left. tt) (λ some. production_begins t ts production none (ap production_of begins) l)
  started_sound t ts Nothing none begins l = tt

  pub primary_sound : (t : Token) (ts : List Token) → prefix_of t.kind ≡ None → Done (OperandRead room (t ∷ ts)) (primary (expr room) room t (t ∷ ts))
  unfolding primary
  primary_sound t ts none = started_sound t ts (start_of t.at t.kind) none refl (start_lasts t.at t.kind)

  pub suffixed_sound : (x : Measured) (kind : Suffix) (all ts : List Token) → OperandRead room all x ts → suffix_at (first ts) ≡ Some kind → Done (OperandRead room all) (suffixed (expr room) room x kind ts)
  suffixed_sound x kind all ts r at =
      let P : Reader Measured → Type 0 = λ p. Done (OperandRead room all) (p ts) in
      by_test P (nat_lt room x.1) _ _ (λ is. tt)
      (λ fits. map_done (λ y rest. ProductionRead room (suffix_production x.0 kind) x.1 (next ts) y rest × MayGo y.0 rest) (OperandRead room all) _
      (both_done (ProductionRead room (suffix_production x.0 kind) x.1 (next ts)) (λ y rest. MayGo y.0 rest) _ (production_sound room right (suffix_production x.0 kind) x.1 (next ts)) (lasts room (suffix_production x.0 kind) x.1 (next ts) (suffix_lasts x.0 kind (next ts))))
      (λ y rest s. let g = goes_on ts kind at in let b = s.0 in record {
        front = r.front ++ g.token ∷ b.front;
        is = joined all r.front ts g.token (next ts) b.front rest r.is g.is b.is;
        are = a_suffix r.front g.token b.front kind x.0 x.1 15 y.1 y.0 g.kind_is (r.goes kind at) (omega arith) r.are b.are;
        within = b.within (lt_not room x.1 fits);
        goes = s.1;
      }))

  suffix_step : (n : ℕ) (x : Measured) (all ts : List Token) (o : Option Suffix) → OperandRead room all x ts → suffix_at (first ts) ≡ o
      → ((y : Measured) (rest : List Token) → OperandRead room all y rest → Done (OperandRead room all) (suffixes_from (expr room) room n y rest))
      → Done (OperandRead room all) (suffix_by (expr room) room o x (suffixes_from (expr room) room n) ts)
  suffix_step n x all ts None r at again = r
  suffix_step n x all ts (Some kind) r at again = bind (OperandRead room all) (OperandRead room all) _ _ (suffixed_sound x kind all ts r at) again

  suffixes_sound : (n : ℕ) (x : Measured) (all ts : List Token) → OperandRead room all x ts → Done (OperandRead room all) (suffixes_from (expr room) room n x ts)
  unfolding suffixes_from
  suffixes_sound zero x all ts r = r
  suffixes_sound (suc n) x all ts r = suffix_step n x all ts (suffix_at (first ts)) r refl (λ y rest s. suffixes_sound n y all rest s)

  -- ---- operators

  pub operated_sound : (x : Measured) (operator : Operator) (all ts : List Token) (m least : ℕ) → LeftRead room m all x ts → Comes least operator ts
      → Done (λ y rest. LeftRead room operator.level all y rest × (length rest < length ts)) (operated (expr room) room x operator ts)
  unfolding operated
  operated_sound x operator all ts m least l c =
      let Q : Measured → List Token → Type 0 = λ y rest. LeftRead room operator.level all y rest × (length rest < length ts) in
      let P : Reader Measured → Type 0 = λ p. Done Q (p ts) in
      by_test P (nat_lt room x.1) _ _ (λ is. tt)
      (λ fits. bind (IsRead room (operator.level + 1) (next ts)) Q (expr room (operator.level + 1) (next ts)) _
      (right (operator.level + 1) (let s = small c.token.kind (operator.which, operator.level) c.kind in omega arith) (next ts))
      (λ y rest s. operated_left room x operator all ts m least l c (lt_not room x.1 fits) y rest s))

  climb_step : (least n : ℕ) (x : Measured) (all ts : List Token) (m : ℕ) (o : Option Operator) → least ≤ m → LeftRead room m all x ts → length ts ≤ suc n → operator_at least (first ts) ≡ o
      → ((y : Measured) (rest : List Token) (k : ℕ) → least ≤ k → LeftRead room k all y rest → length rest ≤ n → Done (IsRead (suc room) least all) (climb_from (expr room) room least n y rest))
      → Done (IsRead (suc room) least all) (climb_by (expr room) room o x (climb_from (expr room) room least n) ts)
  climb_step least n x all ts m None high l few at again = record { front = l.front; is = l.is; are = lower least high l.are; within = l.within; ends = at }
  climb_step least n x all ts m (Some operator) high l few at again =
      let c = comes least operator ts at in
      bind (λ y rest. LeftRead room operator.level all y rest × (length rest < length ts)) (IsRead (suc room) least all) _ _ (operated_sound x operator all ts m least l c)
      (λ y rest s. let shorter = s.1 in again y rest operator.level c.high s.0 (omega arith))

  climb_sound : (least n : ℕ) (x : Measured) (all ts : List Token) (m : ℕ) → least ≤ m → LeftRead room m all x ts → length ts ≤ n → Done (IsRead (suc room) least all) (climb_from (expr room) room least n x ts)
  unfolding climb_from first
  climb_sound least zero x all [] m high l few = record { front = l.front; is = l.is; are = lower least high l.are; within = l.within; ends = refl }
  climb_sound least zero x all (t ∷ ts) m high l few = absurd (omega arith)
  climb_sound least (suc n) x all ts m high l few = climb_step least n x all ts m (operator_at least (first ts)) high l few refl (λ y rest k above left shorter. climb_sound least n y all rest k above left shorter)

  -- ---- operands with the operators before them

  abbrev pub Operand : ℕ → List Token → Measured → List Token → Type 0
  Operand least ts x rest = (m : ℕ) × (least ≤ m) × LeftRead room m ts x rest

  prefixed_sound : (least : ℕ) (t : Token) (ts : List Token) (p : Unary × ℕ) → least ≤ p.1 → prefix_of t.kind ≡ Some p → Done (Operand least (t ∷ ts)) (prefixed (expr room) room t.at p.0 p.1 (t ∷ ts))
  unfolding prefixed next
  prefixed_sound least t ts p high kind =
      let P : Reader Measured → Type 0 = λ r. Done (Operand least (t ∷ ts)) (r (t ∷ ts)) in
      by_test P (room == 0) _ _ (λ none. tt)
      (λ some. bind (IsRead room p.1 ts) (Operand least (t ∷ ts)) (expr room p.1 ts) _ (right p.1 (prefix_small t.kind p kind) ts)
      (λ y rest s. (
        p.1,
        high,
        record {
          front = t ∷ s.front;
          is = ap (λ xs. t ∷ xs) s.is;
          are = a_prefix t s.front p.0 p.1 y.1 p.1 y.0 kind (omega arith) s.are;
          within = let w = s.within in omega arith;
          next = λ q is. let below = ends_below p.1 rest s.ends q is in omega arith;
        },
      )))

  operand_step : (least : ℕ) → least ≤ 15 → (t : Token) (ts : List Token) (o : Option (Unary × ℕ)) → prefix_of t.kind ≡ o → Done (Operand least (t ∷ ts)) (operand_by (expr room) room least t o (t ∷ ts))
  unfolding suffixes
  operand_step least low t ts (Some p) kind =
      let P : Reader Measured → Type 0 = λ r. Done (Operand least (t ∷ ts)) (r (t ∷ ts)) in
      by_test P (nat_lt p.1 least) _ _ (λ is. tt) (λ fits. prefixed_sound least t ts p (lt_not p.1 least fits) kind)
  operand_step least low t ts None kind =
      bind (OperandRead room (t ∷ ts)) (Operand least (t ∷ ts)) _ _ (primary_sound t ts kind)
      (λ x rest s. map_done (OperandRead room (t ∷ ts)) (Operand least (t ∷ ts)) _ (suffixes_sound (length rest) x (t ∷ ts) rest s)
      (λ y left r. (15, low, record { front = r.front; is = r.is; are = r.are; within = r.within; next = always 15 left (omega arith) })))

  pub operand_sound : (least : ℕ) → least ≤ 15 → (ts : List Token) → Done (Operand least ts) (operand (expr room) room least ts)
  unfolding operand first
  operand_sound least low [] = tt
  operand_sound least low (t ∷ ts) = operand_step least low t ts (prefix_of t.kind) refl

  level_sound : (least : ℕ) → least ≤ 14 → (ts : List Token) → Done (IsRead (suc room) least ts) (level (expr room) room least ts)
  unfolding level climb
  level_sound least low ts =
      bind (Operand least ts) (IsRead (suc room) least ts) _ _ (operand_sound least (omega arith) ts)
      (λ x rest s. climb_sound least (length rest) x ts rest s.0 s.1 s.2 (omega arith))

-- what is read is an expression of the level, at most so deep
pub right : (room : ℕ) → Right room
unfolding expr no_room
right zero level low ts =
    let P : Outcome Measured → Type 0 = λ o. Done (IsRead 0 level ts) o in
    by_test P (begins level (first ts)) _ _ (λ is. tt) (λ is. tt)
right (suc room) level low ts = level_sound room (right room) level low ts
