-- The fault that a reading tells is the first one by the grammar, and the other way round.
use Rattle.std.proofs.Common.{◌≡◌, ◌≢◌, ◌≤◌, ◌<◌, ℕ, suc, ◌+◌, nat_lt, Bool, true, false, List, [], ◌∷◌, ◌++◌, length, drop, Result, Ok, Err, refl, sym, ap, ◌∙◌, subst, ◌⊎◌, inl, inr, arith, append-nil, append_assoc}
use Rattle.std.specs.Prelude.{IfOk, IfErr}
use Rattle.fb_base.specs.declared.fault.Span.{Span}
use Rattle.fb_base.specs.declared.fault.Fault.{Fault}
use Rattle.fb_base.specs.declared.fault.FaultKind.{FaultKind}
use Rattle.fb_base.specs.declared.fault.FaultKind.TheVariants.{Expected, DeepNesting, OutOfProfile}
use Rattle.fb_lexer.specs.declared.token.Token.{Token}
use Rattle.fb_ast.specs.declared.expr.Expr.{Expr}
use Rattle.parse_expr.specs.declared.error.ReadErr.{ReadErr}
use Rattle.parse_expr.specs.declared.error.ReadErr.TheVariants as read_errs
use Rattle.parse_expr.specs.declared.error.ParseErr.{ParseErr}
use Rattle.parse_expr.specs.declared.error.ParseErr.TheVariants as errors
use Rattle.parse_expr.specs.Reading.{Outcome}
use Rattle.parse_expr.specs.Expr.{Measured, expr, told, expr_at, error_of, fault_place, Answers}
use Rattle.parse_expr.specs.Grammar.{Expression, Is, IsExpression, Begins, BeginsAtAnyDepth}
use Rattle.parse_expr.specs.Faults.{TakesOperand, TakesType, is_refused_kind, RefusedThere, HasKind, StopsAt, FirstFault, Fails, Longest}
use Rattle.parse_expr.proofs.Sound.{Done, IsRead}
use Rattle.parse_expr.proofs.Climbs.{right}
use Rattle.parse_expr.proofs.Levels.{lt_is, lt_not}
use Rattle.parse_expr.proofs.Unique.{read_is, nothing_behind}
use Rattle.parse_expr.proofs.Answered.{stands}
use Rattle.parse_expr.proofs.Firsts.{alike, none_alike, not_ok, left, none_begins, head_or, tail_of, further, longest}
use Rattle.parse_expr.proofs.Fills.{Failed, FailedBy, FaultOf, Fills, Next, IsFree}
use Rattle.parse_expr.proofs.Completed.{Whole, NoRoom}
use Rattle.parse_expr.proofs.Begun.{begun}
use Rattle.parse_expr.proofs.Twins.{Position, same_place, cut_place, other_place, Near, twins}

-- ---- what a reading at a fault says of another one

-- a fault of no such kind at the place, where the second reading ends at the end of its tokens
pub clash : {A : Type 0} (L : FaultKind → Type 0) (t : Token) (s v : List Token) (place : Position L t v) (kind : FaultKind) (other : Outcome A) (x : A)
    → Near L t s v place {A = A} (Err (read_errs.Fault kind, t ∷ s)) other → (L kind → ⊥) → other ≡ Ok (x, []) → ⊥
clash L t s v place kind other x (inl (inl small)) never is = absurd (omega arith)
clash L t s v place kind other x (inl (inr loose)) never is = never loose
clash {A = A} L t s v place kind other x (inr l) never is = let both : ◌≡◌ {A = Outcome A} (Err (l.0, l.1)) (Ok (x, [])) = sym l.2 ∙ is in cc

-- a reading that ends before the place's token, where the second one ends at the end of its tokens
pub goes_further : {A : Type 0} (L : FaultKind → Type 0) (t : Token) (s v : List Token) (place : Position L t v) (other : Outcome A) (x y : A) → (v ≡ [] → ⊥)
    → Near L t s v place {A = A} (Ok (y, t ∷ s)) other → other ≡ Ok (x, []) → ⊥
goes_further L t s v place other x y some (inl small) is = absurd (omega arith)
goes_further {A = A} L t s v place other x y some (inr l) is =
    let both : ◌≡◌ {A = Outcome A} (Ok (y, l.0)) (Ok (x, [])) = sym l.1 ∙ is in
    none_alike L t s v place (t ∷ s) l.0 (ap left both) some l.2

-- an expression is read at a depth that is enough
deep_read : (ts : List Token) (tree : Expr) (depth room : ℕ) → Is (Expression 1 depth tree) ts → depth ≤ suc room → expr (suc room) 1 ts ≡ Ok ((tree, depth), [])
deep_read ts tree depth room is fits = subst (λ (xs : List Token). expr (suc room) 1 xs ≡ Ok ((tree, depth), [])) (append-nil ts) (read_is room ts [] tree depth is fits nothing_behind)

abbrev OnlyDeep : FaultKind → Type 0
OnlyDeep kind = kind ≡ DeepNesting

abbrev DeepOrOut : FaultKind → Type 0
DeepOrOut kind = (kind ≡ DeepNesting) ⊎ (kind ≡ OutOfProfile)

module _ (front s : List Token) (t : Token) where
  -- the tokens of an expression that begins with the front and one more
  begun_read : (u : Token) (b : BeginsAtAnyDepth (front ++ u ∷ [])) → expr (suc (199 + b.2)) 1 (front ++ u ∷ b.0) ≡ Ok ((b.1, b.2), [])
  begun_read u b = deep_read (front ++ u ∷ b.0) b.1 b.2 (199 + b.2) (subst (λ (xs : List Token). Is (Expression 1 b.2 b.1) xs) (append_assoc front (u ∷ []) b.0) b.3) (omega arith)

  -- where another token is required none of any depth begins with this one
  no_deeper : expr 200 1 (front ++ t ∷ s) ≡ Err (read_errs.Fault Expected, t ∷ s) → BeginsAtAnyDepth (front ++ t ∷ []) → ⊥
  no_deeper is b =
      let place = same_place OnlyDeep t b.0 in
      let near = (twins OnlyDeep t s (t ∷ b.0) place 200 (suc (199 + b.2)) (inr (refl, omega arith)) 1).near (front ++ t ∷ s) (front ++ t ∷ b.0) (alike OnlyDeep t s (t ∷ b.0) place front) in
      clash OnlyDeep t s (t ∷ b.0) place Expected (expr (suc (199 + b.2)) 1 (front ++ t ∷ b.0)) (b.1, b.2)
      (subst (λ (o : Outcome Measured). Near OnlyDeep t s (t ∷ b.0) place o (expr (suc (199 + b.2)) 1 (front ++ t ∷ b.0))) is near) (λ never. cc) (begun_read t b)

  -- and where this is a word that the profile doesn't have, no operand and no type may stand there
  no_other : expr 200 1 (front ++ t ∷ s) ≡ Err (read_errs.Fault Expected, t ∷ s) → is_refused_kind t.kind ≡ true → (u : Token) → IsFree u → BeginsAtAnyDepth (front ++ u ∷ []) → ⊥
  no_other is word u free b =
      let place = other_place DeepOrOut t u b.0 (inl refl) (inr refl) word free in
      let near = (twins DeepOrOut t s (u ∷ b.0) place 200 (suc (199 + b.2)) (inr (inl refl, omega arith)) 1).near (front ++ t ∷ s) (front ++ u ∷ b.0) (alike DeepOrOut t s (u ∷ b.0) place front) in
      clash DeepOrOut t s (u ∷ b.0) place Expected (expr (suc (199 + b.2)) 1 (front ++ u ∷ b.0)) (b.1, b.2)
      (subst (λ (o : Outcome Measured). Near DeepOrOut t s (u ∷ b.0) place o (expr (suc (199 + b.2)) 1 (front ++ u ∷ b.0))) is near) (λ never. elim never [ inl e ↦ cc | inr e ↦ cc ]) (begun_read u b)

  -- where not the depth alone forbids to go on, the front is no whole expression
  not_whole : (kind : FaultKind) → expr 200 1 (front ++ t ∷ s) ≡ Err (read_errs.Fault kind, t ∷ s) → (kind ≡ DeepNesting → ⊥) → (tree : Expr) → IsExpression front tree → ⊥
  not_whole kind is other tree e =
      let place = cut_place OnlyDeep t refl in
      let near = (twins OnlyDeep t s [] place 200 200 (inl refl) 1).near (front ++ t ∷ s) (front ++ []) (alike OnlyDeep t s [] place front) in
      clash OnlyDeep t s [] place kind (expr 200 1 (front ++ [])) (tree, e.0)
      (subst (λ (o : Outcome Measured). Near OnlyDeep t s [] place o (expr 200 1 (front ++ []))) is near) other (read_is 199 front [] tree e.0 e.2 e.1 nothing_behind)

  -- where the front is read, no expression of any depth goes on with the next token
  no_longer_one : (y : Measured) → expr 200 1 (front ++ t ∷ s) ≡ Ok (y, t ∷ s) → BeginsAtAnyDepth (front ++ t ∷ []) → ⊥
  no_longer_one y is b =
      let place = same_place OnlyDeep t b.0 in
      let near = (twins OnlyDeep t s (t ∷ b.0) place 200 (suc (199 + b.2)) (inr (refl, omega arith)) 1).near (front ++ t ∷ s) (front ++ t ∷ b.0) (alike OnlyDeep t s (t ∷ b.0) place front) in
      goes_further OnlyDeep t s (t ∷ b.0) place (expr (suc (199 + b.2)) 1 (front ++ t ∷ b.0)) (b.1, b.2) y (λ none. cc)
      (subst (λ (o : Outcome Measured). Near OnlyDeep t s (t ∷ b.0) place o (expr (suc (199 + b.2)) 1 (front ++ t ∷ b.0))) is near) (begun_read t b)

-- ---- the kind of a fault

refused_apart : (t : Token) (front : List Token) → is_refused_kind t.kind ≡ false → RefusedThere front t → ⊥
refused_apart t front plain r = let both : true ≡ false = sym r.word ∙ plain in cc

taken_there : (front s : List Token) (t : Token) → expr 200 1 (front ++ t ∷ s) ≡ Err (read_errs.Fault Expected, t ∷ s) → RefusedThere front t → ⊥
taken_there front s t is r = elim r.here [
  | inl a ↦ no_other front s t is r.word a.token (inl (a.value, a.kind)) a.begins
  | inr a ↦ no_other front s t is r.word a.token (inr a.kind) a.begins
]

begins_deeper : (front : List Token) (t : Token) → Fills (Whole 200 1) 2 (front ++ t ∷ []) → BeginsAtAnyDepth (front ++ t ∷ [])
begins_deeper front t f = (f.more, f.are.tree, f.are.depth, f.are.are)

other_here : (front : List Token) (u : Token) → IsFree u → Fills (Whole 200 1) 2 (front ++ u ∷ []) → TakesOperand front ⊎ TakesType front
other_here front u (inl n) f = inl (record { token = u; value = n.0; kind = n.1; begins = begins_deeper front u f })
other_here front u (inr n) f = inr (record { token = u; kind = n; begins = begins_deeper front u f })

abbrev WholeOnlyDeep : List Token → FaultKind → Type 0
WholeOnlyDeep front kind = (tree : Expr) → IsExpression front tree → kind ≡ DeepNesting

kind_is : (front s : List Token) (t : Token) (kind : FaultKind) → expr 200 1 (front ++ t ∷ s) ≡ Err (read_errs.Fault kind, t ∷ s) → Next (Whole 200 1) front (t ∷ s) kind → HasKind front t kind × WholeOnlyDeep front kind
kind_is front s t Expected is n = ((taken_there front s t is, no_deeper front s t is), λ tree e. absurd (not_whole front s t Expected is (λ never. cc) tree e))
kind_is front s t DeepNesting is n =
    let same : t ≡ n.token = ap (head_or t) n.is in
    let plain : is_refused_kind t.kind ≡ false = subst (λ (x : Token). is_refused_kind x.kind ≡ false) (sym same) n.plain in
    ((refused_apart t front plain, subst (λ (x : Token). BeginsAtAnyDepth (front ++ x ∷ [])) (sym same) (begins_deeper front n.token n.fills)), λ tree e. refl)
kind_is front s t OutOfProfile is n =
    let same : t ≡ n.token = ap (head_or t) n.is in
    let word : is_refused_kind t.kind ≡ true = subst (λ (x : Token). is_refused_kind x.kind ≡ true) (sym same) n.word in
    (record { word = word; here = other_here front n.other n.free n.fills }, λ tree e. absurd (not_whole front s t OutOfProfile is (λ never. cc) tree e))
kind_is front s t kind is n = absurd n

end_is : (front : List Token) (kind : FaultKind) → Next (Whole 200 1) front [] kind → kind ≡ Expected
end_is front Expected n = refl
end_is front DeepNesting n = let is : [] ≡ n.token ∷ n.behind = n.is in cc
end_is front OutOfProfile n = let is : [] ≡ n.token ∷ n.behind = n.is in cc
end_is front kind n = absurd n

stops_at : (front rest : List Token) (kind : FaultKind) → expr 200 1 (front ++ rest) ≡ Err (read_errs.Fault kind, rest) → Next (Whole 200 1) front rest kind → StopsAt front rest kind
stops_at front [] kind is n = (end_is front kind n, λ tree e. not_ok (read_errs.Fault kind, []) (tree, e.0) [] (sym is ∙ read_is 199 front [] tree e.0 e.2 e.1 nothing_behind))
stops_at front (t ∷ s) kind is n = let k = kind_is front s t kind is n in (none_begins front s t (ap left is), k.0, k.1)

begins_by : (N : Type 0) (front : List Token) → (N → ⊥) → Fills (Whole 200 1) 0 front ⊎ (N × (front ≡ [])) → Begins front
begins_by N front never (inl f) = let small = f.are.within in (f.more, f.are.tree, (f.are.depth, omega arith, f.are.are))
begins_by N front never (inr n) = absurd (never n.0)

first_there : (tokens : List Token) (at : ℕ) (kind : FaultKind) (rest : List Token) → expr 200 1 (drop at tokens) ≡ Err (read_errs.Fault kind, rest) → FaultOf (NoRoom 200) (Whole 200 1) (drop at tokens) kind rest
    → FirstFault tokens at (record { kind = kind; at = fault_place tokens rest })
first_there tokens at kind rest is f = record {
  front = f.front;
  rest = rest;
  is = f.is;
  agrees = begins_by (NoRoom 200) f.front (λ none. absurd (omega arith)) f.bare;
  stops = stops_at f.front rest kind (ap (expr 200 1) (sym f.is) ∙ is) f.next;
  place_is = refl;
}

abbrev fault_in : Fault → ParseErr → Fault
fault_in other errors.NoMemory = other
fault_in other (errors.Fault fault) = fault

abbrev error_in : ParseErr → Result (Expr × ℕ) ParseErr → ParseErr
error_in other (Ok p) = other
error_in other (Err e) = e

first_by : (tokens : List Token) (at : ℕ) (fault : Fault) (stop : ReadErr) (rest : List Token) → expr 200 1 (drop at tokens) ≡ Err (stop, rest) → FailedBy (FaultOf (NoRoom 200) (Whole 200 1) (drop at tokens)) stop rest
    → error_of tokens stop rest ≡ errors.Fault fault → FirstFault tokens at fault
first_by tokens at fault read_errs.NoMemory rest is f answer = absurd f
first_by tokens at fault (read_errs.Fault kind) rest is f answer = subst (FirstFault tokens at) (ap (fault_in fault) answer) (first_there tokens at kind rest is f)

first_of_answer : (tokens : List Token) (at : ℕ) (fault : Fault) (o : Outcome Measured) → expr 200 1 (drop at tokens) ≡ o → Failed (FaultOf (NoRoom 200) (Whole 200 1) (drop at tokens)) o
    → told tokens o ≡ Err (errors.Fault fault) → FirstFault tokens at fault
first_of_answer tokens at fault (Ok p) is f answer = cc
first_of_answer tokens at fault (Err p) is f answer = first_by tokens at fault p.0 p.1 is f (ap (error_in (errors.Fault fault)) answer)

-- what is told is the first fault
pub first_fault : (tokens : List Token) (at : ℕ) (fault : Fault) → expr_at tokens at ≡ Err (errors.Fault fault) → FirstFault tokens at fault
first_fault tokens at fault answer = first_of_answer tokens at fault (expr 200 1 (drop at tokens)) refl (begun 200 1 (omega arith) (drop at tokens)) answer

-- ---- the first fault is told

pub record SameSplit (f g r q : List Token) : Type 0 where
  pub fronts : f ≡ g
  pub rests : r ≡ q

same_split : (f g r q : List Token) → f ++ r ≡ g ++ q → length f ≡ length g → SameSplit f g r q
same_split [] [] r q is same = record { fronts = refl; rests = is }
same_split [] (x ∷ g) r q is same = absurd (omega arith)
same_split (x ∷ f) [] r q is same = absurd (omega arith)
same_split (x ∷ f) (y ∷ g) r q is same =
    let tails : f ++ r ≡ g ++ q = ap tail_of is in
    let head : x ≡ y = ap (head_or x) is in
    let s = same_split f g r q tails (omega arith) in
    record { fronts = ap (λ (z : Token). z ∷ f) head ∙ ap (λ (zs : List Token). y ∷ zs) s.fronts; rests = s.rests }

equal_by : (a b : ℕ) (c d : Bool) → nat_lt a b ≡ c → nat_lt b a ≡ d → (a < b → ⊥) → (b < a → ⊥) → a ≡ b
equal_by a b true d p q below above = absurd (below (lt_is a b p))
equal_by a b false true p q below above = absurd (above (lt_is b a q))
equal_by a b false false p q below above = let m = lt_not a b p in let n = lt_not b a q in omega arith

-- two fronts of one list of which neither is longer
pub meet : (f g r q : List Token) → f ++ r ≡ g ++ q → (length f < length g → ⊥) → (length g < length f → ⊥) → SameSplit f g r q
meet f g r q is below above = same_split f g r q is (equal_by (length f) (length g) (nat_lt (length f) (length g)) (nat_lt (length g) (length f)) refl refl below above)

begins_less : (front : List Token) (t : Token) (behind : List Token) → Begins (front ++ t ∷ behind) → Begins (front ++ t ∷ [])
begins_less front t behind b =
    let same : (front ++ t ∷ behind) ++ b.0 ≡ (front ++ t ∷ []) ++ (behind ++ b.0) = append_assoc front (t ∷ behind) b.0 ∙ sym (append_assoc front (t ∷ []) (behind ++ b.0)) in
    (behind ++ b.0, b.1, subst (λ (xs : List Token). IsExpression xs b.1) same b.2)

none_goes : (front rest : List Token) (kind : FaultKind) (t : Token) (behind : List Token) → rest ≡ t ∷ behind → StopsAt front rest kind → Begins (front ++ t ∷ []) → ⊥
none_goes front [] kind t behind is s b = cc
none_goes front (x ∷ r) kind t behind is s b = let head : t ≡ x = ap (head_or t) (sym is) in s.0 (subst (λ (y : Token). Begins (front ++ y ∷ [])) head b)

-- a front at which a fault stands is no shorter than one that some expression begins with
no_shorter : (f g r q : List Token) (kind : FaultKind) → f ++ r ≡ g ++ q → StopsAt f r kind → Begins g → length f < length g → ⊥
no_shorter f g r q kind is s b less =
    let more = further f g r q is less in
    none_goes f r kind more.token (more.behind ++ q) more.is s (begins_less f more.token more.behind (subst Begins more.longer b))

same_expected : (front : List Token) (t : Token) (kind : FaultKind) → HasKind front t Expected → HasKind front t kind → kind ≡ Expected
same_expected front t Expected a b = refl
same_expected front t DeepNesting a b = absurd (a.1 b.1)
same_expected front t OutOfProfile a b = absurd (a.0 b)
same_expected front t kind a b = absurd b

same_deep : (front : List Token) (t : Token) (kind : FaultKind) → HasKind front t DeepNesting → HasKind front t kind → kind ≡ DeepNesting
same_deep front t Expected a b = absurd (b.1 a.1)
same_deep front t DeepNesting a b = refl
same_deep front t OutOfProfile a b = absurd (a.0 b)
same_deep front t kind a b = absurd b

same_out : (front : List Token) (t : Token) (kind : FaultKind) → HasKind front t OutOfProfile → HasKind front t kind → kind ≡ OutOfProfile
same_out front t Expected a b = absurd (b.0 a)
same_out front t DeepNesting a b = absurd (b.0 a)
same_out front t OutOfProfile a b = refl
same_out front t kind a b = absurd b

same_kind : (front : List Token) (t : Token) (one other : FaultKind) → HasKind front t one → HasKind front t other → one ≡ other
same_kind front t Expected other a b = sym (same_expected front t other a b)
same_kind front t DeepNesting other a b = sym (same_deep front t other a b)
same_kind front t OutOfProfile other a b = sym (same_out front t other a b)
same_kind front t kind other a b = absurd a

stops_once : (front rest : List Token) (one other : FaultKind) → StopsAt front rest one → StopsAt front rest other → one ≡ other
stops_once front [] one other a b = a.0 ∙ sym b.0
stops_once front (t ∷ s) one other a b = same_kind front t one other a.1 b.1

pub one_fault : (tokens : List Token) (at : ℕ) (f g : Fault) → FirstFault tokens at f → FirstFault tokens at g → f ≡ g
one_fault tokens at f g a b =
    let is : a.front ++ a.rest ≡ b.front ++ b.rest = sym a.is ∙ b.is in
    let m = meet a.front b.front a.rest b.rest is (no_shorter a.front b.front a.rest b.rest f.kind is a.stops b.agrees) (no_shorter b.front a.front b.rest a.rest g.kind (sym is) b.stops a.agrees) in
    let stops : StopsAt b.front b.rest f.kind = subst (λ (xs : List Token). StopsAt xs b.rest f.kind) m.fronts (subst (λ (xs : List Token). StopsAt a.front xs f.kind) m.rests a.stops) in
    let kinds_same : f.kind ≡ g.kind = stops_once b.front b.rest f.kind g.kind stops b.stops in
    let places_same : f.at ≡ g.at = a.place_is ∙ ap (fault_place tokens) m.rests ∙ sym b.place_is in
    ap (λ (k : FaultKind). record { kind = k; at = f.at }) kinds_same ∙ ap (λ (place : Span). record { kind = g.kind; at = place }) places_same

not_read : (front rest : List Token) (kind : FaultKind) (y : Measured) (tree : Expr) → StopsAt front rest kind → IsExpression front tree → expr 200 1 (front ++ rest) ≡ Ok (y, rest) → ⊥
not_read front [] kind y tree s e is = s.1 tree e
not_read front (t ∷ r) kind y tree s e is =
    let deep : HasKind front t DeepNesting = subst (HasKind front t) (s.2 tree e) s.1 in
    no_longer_one front r t y is deep.1

-- where there is a first fault nothing is read
faulty : (tokens : List Token) (at : ℕ) (fault : Fault) (p : Measured × List Token) → FirstFault tokens at fault → expr 200 1 (drop at tokens) ≡ Ok p → IsRead 200 1 (drop at tokens) p.0 p.1 → ⊥
faulty tokens at fault p f is d =
    let whole : f.front ++ f.rest ≡ d.front ++ p.1 = sym f.is ∙ d.is in
    let e : IsExpression d.front p.0.0 = (p.0.1, d.within, d.are) in
    let begun_with : Begins d.front = ([], p.0.0, subst (λ (xs : List Token). IsExpression xs p.0.0) (sym (append-nil d.front)) e) in
    let m = meet f.front d.front f.rest p.1 whole (no_shorter f.front d.front f.rest p.1 fault.kind whole f.stops begun_with)
    (λ less.
    let more = further d.front f.front p.1 f.rest (sym whole) less in
    let all : drop at tokens ≡ d.front ++ more.token ∷ (more.behind ++ f.rest) = d.is ∙ ap (λ (xs : List Token). d.front ++ xs) more.is in
    let ends : left (expr 200 1 (d.front ++ more.token ∷ (more.behind ++ f.rest))) ≡ more.token ∷ (more.behind ++ f.rest) = ap (λ (xs : List Token). left (expr 200 1 xs)) (sym all) ∙ ap left is ∙ more.is in
    none_begins d.front (more.behind ++ f.rest) more.token ends (begins_less d.front more.token more.behind (subst Begins more.longer f.agrees))) in
    let read : expr 200 1 (f.front ++ f.rest) ≡ Ok (p.0, f.rest) = ap (expr 200 1) (sym f.is) ∙ is ∙ ap (λ (xs : List Token). Ok (p.0, xs)) (sym m.rests) in
    not_read f.front f.rest fault.kind p.0 p.0.0 f.stops (subst (λ (xs : List Token). IsExpression xs p.0.0) (sym m.fronts) e) read

told_by : (tokens : List Token) (at : ℕ) (fault : Fault) (stop : ReadErr) (rest : List Token) → FirstFault tokens at fault → expr 200 1 (drop at tokens) ≡ Err (stop, rest)
    → FailedBy (FaultOf (NoRoom 200) (Whole 200 1) (drop at tokens)) stop rest → error_of tokens stop rest ≡ errors.Fault fault
told_by tokens at fault read_errs.NoMemory rest f is failed = absurd failed
told_by tokens at fault (read_errs.Fault kind) rest f is failed = ap errors.Fault (one_fault tokens at (record { kind = kind; at = fault_place tokens rest }) fault (first_there tokens at kind rest is failed) f)

told_if : (tokens : List Token) (at : ℕ) (fault : Fault) (o : Outcome Measured) → FirstFault tokens at fault → expr 200 1 (drop at tokens) ≡ o → Done (IsRead 200 1 (drop at tokens)) o
    → Failed (FaultOf (NoRoom 200) (Whole 200 1) (drop at tokens)) o → told tokens o ≡ Err (errors.Fault fault)
told_if tokens at fault (Ok p) f is d failed = absurd (faulty tokens at fault p f is d)
told_if tokens at fault (Err p) f is d failed = ap Err (told_by tokens at fault p.0 p.1 f is failed)

-- the first fault is what is told
pub fault_found : (tokens : List Token) (at : ℕ) (fault : Fault) → FirstFault tokens at fault → expr_at tokens at ≡ Err (errors.Fault fault)
fault_found tokens at fault f = told_if tokens at fault (expr 200 1 (drop at tokens)) f refl (right 200 1 (omega arith) (drop at tokens)) (begun 200 1 (omega arith) (drop at tokens))

-- ---- what the public call says

pub fails : (tokens : List Token) (at : ℕ) (e : ParseErr) → (e ≢ errors.NoMemory → expr_at tokens at ≡ Err e) → Fails tokens at e
fails tokens at errors.NoMemory answer = tt
fails tokens at (errors.Fault fault) answer = first_fault tokens at fault (answer (λ same. cc))

pub longest_tree : (tokens : List Token) (at : ℕ) (x : Expr × ℕ) → at ≤ length tokens → expr_at tokens at ≡ Ok x → Longest tokens at x.1 x.0
longest_tree tokens at x within answer = record { stands = stands tokens at x.1 x.0 within answer; longest = λ other another s. longest tokens at x.1 other x.0 another within answer s }

pub fails_if : (tokens : List Token) (at : ℕ) (r : Result (Expr × ℕ) ParseErr) → Answers (expr_at tokens at) r → IfErr r (λ e. Fails tokens at e)
fails_if tokens at (Ok x) answer = tt
fails_if tokens at (Err e) answer = fails tokens at e answer

pub longest_if : (tokens : List Token) (at : ℕ) (r : Result (Expr × ℕ) ParseErr) → at ≤ length tokens → Answers (expr_at tokens at) r → IfOk r (λ x. Longest tokens at x.1 x.0)
longest_if tokens at (Ok x) within answer = longest_tree tokens at x within answer
longest_if tokens at (Err e) within answer = tt
