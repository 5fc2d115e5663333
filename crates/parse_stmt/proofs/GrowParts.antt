-- What is read of the smallest phrases, of variables and of simple statements before a fault can be completed.
use Rattle.std.proofs.Common.{◌≡◌, ◌≤◌, ℕ, suc, Bool, true, false, if◌then◌else◌, List, [], ◌∷◌, ◌++◌, Option, Some, None, Ok, Err, refl, sym, ap, ◌∙◌, subst, ◌⊎◌, inl, inr, arith, append_assoc}
use Rattle.fb_base.specs.declared.fault.Span.{Span}
use Rattle.fb_base.specs.declared.fault.FaultKind.{FaultKind}
use Rattle.fb_base.specs.declared.fault.FaultKind.TheVariants.{DeepNesting, Expected, OutOfProfile}
use Rattle.fb_lexer.specs.declared.token.Token.{Token}
use Rattle.fb_lexer.specs.declared.token.TokenKind.{TokenKind}
use Rattle.fb_lexer.specs.declared.token.TokenKind.TheVariants as kinds
use Rattle.fb_lexer.specs.declared.token.Mark.{Mark}
use Rattle.fb_lexer.specs.declared.token.Mark.TheVariants.{At, Minus}
use Rattle.fb_lexer.specs.declared.word.Word.{Word}
use Rattle.fb_lexer.specs.declared.word.Word.TheVariants as w
use Rattle.word64.specs.declared.kind.Kind.TheVariants.{Integer}
use Rattle.fb_ast.specs.declared.expr.Expr.{Expr}
use Rattle.fb_ast.specs.declared.expr.Expr.TheVariants as e
use Rattle.fb_ast.specs.declared.part.Name.{Name}
use Rattle.fb_ast.specs.declared.ty.Base.{Base}
use Rattle.fb_ast.specs.declared.ty.Base.TheVariants as base
use Rattle.fb_ast.specs.declared.ty.TypeName.{TypeName}
use Rattle.parse_expr.specs.declared.error.ReadErr.TheVariants as read_errs
use Rattle.parse_expr.specs.Words.{base_of}
use Rattle.parse_expr.specs.Reading.{first, next, is_mark, is_word, holds, sees, sees_word, expect, expect_word, refusal, refuse, Reader, Outcome, and_then, pure}
use Rattle.parse_expr.specs.Types.{type_name, type_at, type_from, name, name_at, name_by}
use Rattle.parse_expr.specs.Expr.{Measured, begins, no_room, expr}
use Rattle.parse_expr.specs.Grammar.{Is, Expression, written}
use Rattle.parse_expr.proofs.Sound.{Done, by_test, map_done}
use Rattle.parse_expr.proofs.Fills.{Failed, FaultOf, Fills, Next, IsFree as FreeOperand, map_failed, failed_pure}
use Rattle.parse_expr.proofs.Completed.{here as at_start, a_number, number_is, mark_token, Whole, NoRoom}
use Rattle.parse_expr.proofs.Begun.{begun}
use Rattle.parse_parts.specs.declared.kinds.InLine.{InLine}
use Rattle.parse_parts.specs.Steps as reading
use Rattle.parse_parts.specs.Steps.{place_at, extra, sees_sep, sees_value, no_value, pass_by}
use Rattle.parse_stmt.specs.Phrases.{Phrase, gives, Then, either, maybe, mark, word, IsName, ty, expression, place}
use Rattle.parse_stmt.specs.Phrases as phrases
use Rattle.parse_stmt.specs.Faults.{IsSample}
use Rattle.parse_stmt.proofs.Smallest.{exact_name, exact_type, exact_whole, exact_place}
use Rattle.parse_stmt.proofs.Values.{exact_passed}
use Rattle.parse_stmt.proofs.Starts.{Reach, near, far, over, over_fits, over_far, starting, Comes, Starts, starts_extra, starts_refusal, Unmarked, FirstOf, first_of}
use Rattle.parse_stmt.proofs.Wides.{widened, wide_expression, wide_place}
use Rattle.parse_stmt.proofs.Likes.{Like, any, looks_mark, looks_word, like_expression, like_name, first_in, none_taken}
use Rattle.parse_stmt.proofs.Grows.{Begun, Grows, grows_gives, grows_taken, grows_made, grows_behind, grows_choose, at_once, one_begun}

-- ---- tokens

abbrev pub word_token : Word → Token
word_token which = record { kind = kinds.Word which; at = at_start }

abbrev pub colon : Token
colon = record { kind = kinds.Colon; at = at_start }

abbrev pub a_name : Token
a_name = record { kind = kinds.Name []; at = at_start }

-- ---- expressions at a fault

-- Tokens before a fault that are completed to an expression of this level.
pub record Filled (reach : Reach) (deep level : ℕ) (ts : List Token) (kind : FaultKind) (rest : List Token) : Type 0 where
  pub front : List Token
  pub more : List Token
  pub is : ts ≡ front ++ rest
  pub depth : ℕ
  pub tree : Expr
  pub within : depth ≤ over reach (suc deep)
  pub are : Is (Expression level depth tree) (front ++ more)
  pub starts : Starts reach kind rest more

module _ (deep level : ℕ) (ts rest front : List Token) (is : ts ≡ front ++ rest) where
  filled_bare : (reach : Reach) (kind : FaultKind) (f : Fills (Whole (suc deep) level) 0 front) → Starts reach kind rest f.more → Filled reach deep level ts kind rest
  filled_bare reach kind f starts =
      let small = f.are.within in
      let fits = over_fits reach (suc deep) in
      record { front = front; more = f.more; is = is; depth = f.are.depth; tree = f.are.tree; within = omega arith; are = f.are.are; starts = starts }

  -- with this token they are, two deeper
  filled_with : (kind : FaultKind) (t : Token) (f : Fills (Whole (suc deep) level) 2 (front ++ t ∷ [])) → Starts far kind rest (t ∷ f.more) → Filled far deep level ts kind rest
  filled_with kind t f starts =
      let small = f.are.within in
      let fits = over_far (suc deep) in
      record {
        front = front;
        more = t ∷ f.more;
        is = is;
        depth = f.are.depth;
        tree = f.are.tree;
        within = omega arith;
        are = subst (λ (xs : List Token). Is (Expression level f.are.depth f.are.tree) xs) (append_assoc front (t ∷ []) f.more) f.are.are;
        starts = starts;
      }

  next_near : (kind : FaultKind) (more : List Token) → Next (Whole (suc deep) level) front rest kind → Starts near kind rest more
  next_near Expected more n = tt
  next_near DeepNesting more n = tt
  next_near OutOfProfile more n = tt
  next_near kind more n = absurd n

  any_free : (t : Token) → FreeOperand t → IsSample t
  any_free t (inl value) = inl value
  any_free t (inr type_word) = inr (inl type_word)

  filled_far : (kind : FaultKind) → Fills (Whole (suc deep) level) 0 front → Next (Whole (suc deep) level) front rest kind → Filled far deep level ts kind rest
  filled_far Expected f n = filled_bare far Expected f tt
  filled_far DeepNesting f n = filled_with DeepNesting n.token n.fills (starting n.token n.fills.more (n.behind, n.is))
  filled_far OutOfProfile f n = filled_with OutOfProfile n.other n.fills (record { token = n.token; behind = n.behind; is = n.is; such = n.word }, starting n.other n.fills.more (any_free n.other n.free))
  filled_far kind f n = absurd n

  filled_by : (reach : Reach) (kind : FaultKind) → Fills (Whole (suc deep) level) 0 front ⊎ (NoRoom (suc deep) × (front ≡ [])) → Next (Whole (suc deep) level) front rest kind → Filled reach deep level ts kind rest
  filled_by near kind (inl f) n = filled_bare near kind f (next_near kind f.more n)
  filled_by far kind (inl f) n = filled_far kind f n
  filled_by reach kind (inr none) n = absurd (omega arith)

filled : (reach : Reach) (deep level : ℕ) (ts : List Token) (kind : FaultKind) (rest : List Token) → FaultOf (NoRoom (suc deep)) (Whole (suc deep) level) ts kind rest → Filled reach deep level ts kind rest
filled reach deep level ts kind rest f = filled_by deep level ts rest f.front f.is reach kind f.bare f.next

pub not_marked : (which : Mark) (ts rest : List Token) (t : Token) → ts ≡ rest → sees which ts ≡ false → Unmarked t ⊎ Comes rest t → is_mark which t.kind ≡ false
unfolding sees first
not_marked which ts rest t is apart (inl unmarked) = unmarked which
not_marked which ts rest t is apart (inr comes) = sym (ap (λ (xs : List Token). holds (is_mark which) (first xs)) (is ∙ comes.1)) ∙ apart

-- the tokens of an expression from the token on that may begin one
pub record ValueFrom (level : ℕ) (ts : List Token) : Type 0 where
  pub token : Token
  pub behind : List Token
  pub is : ts ≡ token ∷ behind
  pub more : List Token
  pub depth : ℕ
  pub tree : Expr
  pub within : depth ≤ 2
  pub are : Is (Expression level depth tree) (token ∷ more)

from_deep : (level : ℕ) (ts : List Token) → FaultOf (NoRoom 0) (Whole 0 level) ts DeepNesting ts → ValueFrom level ts
from_deep level ts f =
    let n = f.next in
    let d = n.fills.are in
    let small = d.within in
    let none_before : f.front ≡ [] = none_taken f.front ts f.is in
    record {
      token = n.token;
      behind = n.behind;
      is = n.is;
      more = n.fills.more;
      depth = d.depth;
      tree = d.tree;
      within = omega arith;
      are = subst (λ (xs : List Token). Is (Expression level d.depth d.tree) ((xs ++ n.token ∷ []) ++ n.fills.more)) none_before d.are;
    }

pub value_from : (level : ℕ) → level ≤ 14 → (ts : List Token) → begins level (first ts) ≡ true → ValueFrom level ts
unfolding expr no_room
value_from level low ts is = from_deep level ts (subst (λ (b : Bool). Failed {A = Measured} (FaultOf (NoRoom 0) (Whole 0 level) ts) (if b then Err (read_errs.Fault DeepNesting, ts) else refuse ts)) is (begun 0 level low ts))

name_stands : (r : List Token) → any r ≡ true → (n : Name) × IsName (a_name ∷ r) n r
name_stands r c = (record { at = at_start; text = [] }, record { token = a_name; text = []; is = refl; kind = refl; named = refl })

type_stands : (r : List Token) → any r ≡ true → (x : TypeName) × ty (word_token w.KwInteger ∷ r) x r
type_stands r c = (record { at = at_start; base = base.Num Integer; pointers = 0 }, (word_token w.KwInteger ∷ [], refl, written (word_token w.KwInteger) (base.Num Integer) [] refl tt))

name_kind_fails : (reach : Reach) (ts : List Token) (at : Span) (kind : TokenKind) → Failed (Begun reach phrases.name any ts) (name_by at kind ts)
name_kind_fails reach ts at (kinds.Name text) = tt
name_kind_fails reach ts at kind = at_once phrases.name any ts Expected (a_name ∷ []) name_stands tt

name_fails : (reach : Reach) (ts : List Token) (o : Option Token) → Failed (Begun reach phrases.name any ts) (name_at o ts)
name_fails reach ts None = at_once phrases.name any ts Expected (a_name ∷ []) name_stands tt
name_fails reach ts (Some t) = name_kind_fails reach ts t.at t.kind

type_base_fails : (reach : Reach) (ts : List Token) (at : Span) (o : Option Base) → Failed (Begun reach ty any ts) (type_from at o ts)
type_base_fails reach ts at None = at_once ty any ts (refusal ts) (word_token w.KwInteger ∷ []) type_stands (starts_refusal reach ts (word_token w.KwInteger) [] (inr (inl refl)))
type_base_fails reach ts at (Some b) = tt

type_fails : (reach : Reach) (ts : List Token) (o : Option Token) → Failed (Begun reach ty any ts) (type_at o ts)
type_fails reach ts None = at_once ty any ts (refusal ts) (word_token w.KwInteger ∷ []) type_stands (starts_refusal reach ts (word_token w.KwInteger) [] (inr (inl refl)))
type_fails reach ts (Some t) = type_base_fails reach ts t.at (base_of t.kind)

module _ {reach : Reach} where
  pub grows_mark : (which : Mark) → is_mark which (kinds.Mark which) ≡ true → Grows reach (expect which) (mark which) any
  unfolding expect sees first
  grows_mark which self = grows_taken (sees which) (λ ts. Expected) (mark_token which) (λ r. self) (λ ts. tt)

  pub grows_word : (which : Word) → is_word which (kinds.Word which) ≡ true → Grows reach (expect_word which) (word which) any
  unfolding expect_word sees_word first
  grows_word which self = grows_taken (sees_word which) (λ ts. Expected) (word_token which) (λ r. self) (λ ts. tt)

  pub grows_sep : (line : InLine) → Grows reach (reading.sep line) (phrases.sep line) any
  unfolding reading.sep sees_sep first
  grows_sep line = grows_taken (sees_sep line) extra colon (λ r. refl) (λ ts. starts_extra reach ts colon [] (inl refl))

  pub grows_here : Grows reach reading.here phrases.here any
  grows_here = record { least = []; stands = λ r c. (place_at r, (refl, refl)); fails = λ ts. tt; sound = λ ts. (refl, refl) }

  -- ---- names

  pub grows_name : Grows reach name phrases.name any
  unfolding name
  grows_name = record { least = a_name ∷ []; stands = name_stands; fails = λ ts. name_fails reach ts (first ts); sound = exact_name.sound }

  -- ---- types

  pub grows_type : Grows reach type_name ty any
  unfolding type_name
  grows_type = record { least = word_token w.KwInteger ∷ []; stands = type_stands; fails = λ ts. type_fails reach ts (first ts); sound = exact_type.sound }

-- ---- expressions

module _ (reach : Reach) (deep : ℕ) where
  abbrev wide : ℕ
  wide = over reach (suc deep)

  pub value_stands : (r : List Token) → any r ≡ true → (x : Expr) × expression wide (a_number ∷ r) x r
  value_stands r c = (e.Number at_start 0, (a_number ∷ [], refl, (1, omega arith, number_is 1 (omega arith))))

  whole_begun : (ts : List Token) (kind : FaultKind) (rest : List Token) → Filled reach deep 1 ts kind rest → Begun reach (expression wide) any ts kind rest
  whole_begun ts kind rest f = record { front = f.front; more = f.more; is = f.is; stands = λ r c. (f.tree, (f.front ++ f.more, refl, (f.depth, f.within, f.are))); starts = f.starts }

  pub grows_whole : Grows reach (reading.whole (suc deep)) (expression wide) any
  unfolding reading.whole
  grows_whole = record {
    least = a_number ∷ [];
    stands = value_stands;
    fails = λ ts. failed_pure (Begun reach (expression wide) any ts) (expr (suc deep) 1 ts) (λ (x : Measured). x.0)
        (map_failed (FaultOf (NoRoom (suc deep)) (Whole (suc deep) 1) ts) (Begun reach (expression wide) any ts) (expr (suc deep) 1 ts) (begun (suc deep) 1 (omega arith) ts)
        (λ kind rest f. whole_begun ts kind rest (filled reach deep 1 ts kind rest f)));
    sound = λ ts. widened (wide_expression (suc deep) wide (over_fits reach (suc deep))) ts (reading.whole (suc deep) ts) ((exact_whole deep).sound ts);
  }

  place_stands : (r : List Token) → any r ≡ true → (x : Expr) × place wide (a_number ∷ r) x r
  unfolding sees first
  place_stands r c = (e.Number at_start 0, (a_number ∷ [], 1, refl, omega arith, number_is 14 (omega arith), refl, refl))

  -- the fault stands at the first token
  place_first : (ts : List Token) (kind : FaultKind) (rest more : List Token) → ts ≡ rest → sees At ts ≡ false → sees Minus ts ≡ false → (depth : ℕ) (tree : Expr) → depth ≤ wide → Is (Expression 14 depth tree) more → Starts reach kind rest more
      → FirstOf reach kind rest more → Begun reach (place wide) any ts kind rest
  unfolding sees first
  place_first ts kind rest more is a b depth tree within are starts (inl every) = record { front = []; more = a_number ∷ []; is = is; stands = place_stands; starts = every (a_number ∷ []) }
  place_first ts kind rest more is a b depth tree within are starts (inr s) = record {
    front = [];
    more = more;
    is = is;
    stands = λ r c.
        let head : first (more ++ r) ≡ Some s.token = ap (λ (xs : List Token). first (xs ++ r)) s.is in
        (tree, (more, depth, refl, within, are, ap (holds (is_mark At)) head ∙ not_marked At ts rest s.token is a s.such, ap (holds (is_mark Minus)) head ∙ not_marked Minus ts rest s.token is b s.such));
    starts = starts;
  }

  place_begun_by : (ts : List Token) (kind : FaultKind) (rest front more : List Token) → ts ≡ front ++ rest → sees At ts ≡ false → sees Minus ts ≡ false → (depth : ℕ) (tree : Expr) → depth ≤ wide → Is (Expression 14 depth tree) (front ++ more) → Starts reach kind rest more
      → Begun reach (place wide) any ts kind rest
  unfolding sees first
  place_begun_by ts kind rest [] more is a b depth tree within are starts = place_first ts kind rest more is a b depth tree within are starts (first_of reach kind rest more starts)
  place_begun_by ts kind rest (t ∷ front) more is a b depth tree within are starts = record {
    front = t ∷ front;
    more = more;
    is = is;
    stands = λ r c.
        let same : first (((t ∷ front) ++ more) ++ r) ≡ first ts = first_in ((t ∷ front) ++ more) r [] t (front ++ more) refl ∙ sym (ap first is ∙ first_in (t ∷ front) rest [] t front refl) in
        (tree, ((t ∷ front) ++ more, depth, refl, within, are, ap (holds (is_mark At)) same ∙ a, ap (holds (is_mark Minus)) same ∙ b));
    starts = starts;
  }

  place_begun : (ts : List Token) → sees At ts ≡ false → sees Minus ts ≡ false → (kind : FaultKind) (rest : List Token) → Filled reach deep 14 ts kind rest → Begun reach (place wide) any ts kind rest
  place_begun ts a b kind rest f = place_begun_by ts kind rest f.front f.more f.is a b f.depth f.tree f.within f.are f.starts

  place_at_once : (ts : List Token) → Failed {A = Expr} (Begun reach (place wide) any ts) (Err (read_errs.Fault Expected, ts))
  place_at_once ts = at_once (place wide) any ts Expected (a_number ∷ []) place_stands tt

  pub grows_place : Grows reach (reading.place (suc deep)) (place wide) any
  unfolding reading.place
  grows_place = record {
    least = a_number ∷ [];
    stands = place_stands;
    fails = λ ts. by_test (λ (o : Outcome Expr). Failed (Begun reach (place wide) any ts) o) (sees At ts) _ _ (λ is. place_at_once ts)
        (λ no_at. by_test (λ (o : Outcome Expr). Failed (Begun reach (place wide) any ts) o) (sees Minus ts) _ _ (λ is. place_at_once ts)
        (λ no_minus. failed_pure (Begun reach (place wide) any ts) (expr (suc deep) 14 ts) (λ (x : Measured). x.0)
        (map_failed (FaultOf (NoRoom (suc deep)) (Whole (suc deep) 14) ts) (Begun reach (place wide) any ts) (expr (suc deep) 14 ts) (begun (suc deep) 14 (omega arith) ts)
        (λ kind rest f. place_begun ts no_at no_minus kind rest (filled reach deep 14 ts kind rest f)))));
    sound = λ ts. widened (wide_place (suc deep) wide (over_fits reach (suc deep))) ts (reading.place (suc deep) ts) ((exact_place deep).sound ts);
  }

some_value : (reach : Reach) (deep : ℕ) (r : List Token) → (a : Option Expr) × Then (expression (over reach (suc deep))) (λ x. gives (Some x)) (a_number ∷ r) a r
some_value reach deep r = let y = value_stands reach deep r refl in (Some y.0, record { given = y.0; between = r; front = y.1; back = (refl, refl) })

module _ {reach : Reach} where
  -- what an expression may begin, or nothing
  module _ {A : Type 0} {q : Reader A} {P : Phrase A} (b : A) (g : Grows reach q P any) (number : (r : List Token) → (a : A) × P (a_number ∷ r) a r) where
    none_fails : (ts : List Token) (kind : FaultKind) → refusal ts ≡ kind → Failed (Begun reach (either P (gives b)) any ts) (and_then (pass_by kind ts) (λ u. pure b))
    none_fails ts OutOfProfile is =
        at_once (either P (gives b)) any ts OutOfProfile (a_number ∷ []) (λ r c. let y = number r in (y.0, inl y.1)) (subst (λ (k : FaultKind). Starts reach k ts (a_number ∷ [])) is (starts_refusal reach ts a_number [] (inl (0, refl))))
    none_fails ts kind is = tt

    pub grows_or_none : Grows reach (λ ts. if sees_value ts then q ts else and_then (no_value ts) (λ u. pure b)) (either P (gives b)) any
    unfolding no_value
    grows_or_none = record {
      least = [];
      stands = λ r c. (b, inr (refl, refl));
      fails = λ ts. by_test (λ (o : Outcome A). Failed (Begun reach (either P (gives b)) any ts) o) (sees_value ts) (q ts) (and_then (no_value ts) (λ u. pure b))
          (λ is. map_failed (Begun reach P any ts) (Begun reach (either P (gives b)) any ts) (q ts) (g.fails ts) (one_begun P (gives b) any ts))
          (λ is. none_fails ts (refusal ts) refl);
      sound = λ ts. by_test (λ (o : Outcome A). Done (either P (gives b) ts) o) (sees_value ts) (q ts) (and_then (no_value ts) (λ u. pure b))
          (λ is. map_done (P ts) (either P (gives b) ts) (q ts) (g.sound ts) (λ a rest s. inl s))
          (λ is. map_done (gives b ts) (either P (gives b) ts) (and_then (no_value ts) (λ u. pure b)) ((exact_passed b).sound ts) (λ a rest s. inr s));
    }

  pub grows_any_value : (deep : ℕ) → Grows reach (reading.any_value (suc deep)) (maybe (expression (over reach (suc deep)))) any
  unfolding reading.any_value
  grows_any_value deep = grows_or_none None (grows_made (λ (x : Expr). Some x) (grows_whole reach deep) (like_expression (over reach (suc deep)))) (some_value reach deep)

  -- ---- what may be missing

  pub grows_optional_mark : {A : Type 0} {p : Reader A} {P : Phrase A} {R : A → A → Type 0} (which : Mark) → Grows reach p P any → Like P P R any → Grows reach (λ ts. if sees which ts then and_then (p (next ts)) (λ a. pure (Some a)) else Ok (None, ts)) (phrases.behind_mark which P) any
  grows_optional_mark {A = A} which g l = grows_behind (sees which) (looks_mark which) (grows_made (λ (a : A). Some a) g l) (grows_gives None any)

  pub grows_optional_word : {A : Type 0} {p : Reader A} {P : Phrase A} {R : A → A → Type 0} (which : Word) → Grows reach p P any → Like P P R any → Grows reach (λ ts. if sees_word which ts then and_then (p (next ts)) (λ a. pure (Some a)) else Ok (None, ts)) (phrases.behind_word which P) any
  grows_optional_word {A = A} which g l = grows_behind (sees_word which) (looks_word which) (grows_made (λ (a : A). Some a) g l) (grows_gives None any)

  pub grows_any_name : Grows reach reading.any_name (maybe phrases.name) any
  unfolding reading.any_name reading.sees_name
  grows_any_name = grows_choose reading.sees_name (grows_made (λ (n : Name). Some n) grows_name like_name) (grows_gives None any)
