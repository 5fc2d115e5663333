-- What is read of an expression can be completed, up to where its reading finds a fault.
use Rattle.std.proofs.Common.{◌≡◌, ◌≤◌, ◌<◌, ℕ, zero, suc, ◌+◌, ◌==◌, max, nat_lt, true, List, [], ◌∷◌, ◌++◌, length, Option, Some, None, refl, sym, ap, ◌∙◌, subst, ◌⊎◌, inl, inr, arith, append_assoc}
use Rattle.std.proofs.lemmas.Bool.Decides.{nat_tests}
use Rattle.fb_base.specs.declared.fault.Span.{Span}
use Rattle.fb_base.specs.declared.fault.FaultKind.{FaultKind}
use Rattle.fb_base.specs.declared.fault.FaultKind.TheVariants.{DeepNesting}
use Rattle.fb_lexer.specs.declared.token.Token.{Token}
use Rattle.fb_lexer.specs.declared.token.TokenKind.{TokenKind}
use Rattle.fb_lexer.specs.declared.token.TokenKind.TheVariants as kinds
use Rattle.fb_lexer.specs.declared.token.Mark.{Mark}
use Rattle.fb_lexer.specs.declared.token.Mark.TheVariants.{Open}
use Rattle.fb_ast.specs.declared.expr.Expr.TheVariants as e
use Rattle.fb_ast.specs.declared.operator.Unary.{Unary}
use Rattle.fb_ast.specs.Places.{place_of}
use Rattle.parse_expr.specs.declared.kinds.Operator.{Operator}
use Rattle.parse_expr.specs.declared.kinds.Suffix.{Suffix}
use Rattle.parse_expr.specs.declared.kinds.OperandWord.{OperandWord}
use Rattle.parse_expr.specs.declared.kinds.OperandWord.TheVariants as begins_word
use Rattle.parse_expr.specs.Words.{prefix_of, operand_word}
use Rattle.parse_expr.specs.Reading.{first, next, refusal, Outcome, Reader}
use Rattle.parse_expr.specs.Productions.{Production, Start, Leaf, Inner, Nothing, start_of, word_start, mark_start, suffix_production, begins_some}
use Rattle.parse_expr.specs.Expr.{Measured, expr, read_production, started, primary, suffix_at, suffix_by, suffixed, suffixes_from, suffixes, prefixed, operand, operand_by, operated, climb_by, climb_from, climb, level, operator_at, begins, begins_as, no_room}
use Rattle.parse_expr.specs.Grammar.{production_of, Expression, Is, primary as a_primary, suffix as a_suffix, prefix as a_prefix, binary as a_binary}
use Rattle.parse_expr.proofs.Sound.{by_test, joined}
use Rattle.parse_expr.proofs.Levels.{lower, small, prefix_small, lt_not, Comes, comes}
use Rattle.parse_expr.proofs.Climbs.{right, goes_on, OperandRead, LeftRead, Operand, primary_sound, suffixed_sound, operated_sound, operand_sound}
use Rattle.parse_expr.proofs.Depths.{positive}
use Rattle.parse_expr.proofs.Refused.{prefix_plain, binary_plain, suffix_plain, start_plain}
use Rattle.parse_expr.proofs.Fills.{Failed, failed_then, map_failed, failed_pure, Fills, full, joined_fills, FaultOf, at_once, extend, refused}
use Rattle.parse_expr.proofs.Completed.{here, a_number, number_is, OfDepth, Whole, ProductionFilled, Flat, production_fills, NoRoom, PartFaults, production_fault, not_zero}

-- ---- the productions of operands and suffixes

abbrev StartFlat : Start → Type 0
StartFlat (Leaf production) = Flat production
StartFlat (Inner production) = Unit {0}
StartFlat Nothing = Unit {0}

word_flat : (at : Span) (word : OperandWord) → StartFlat (word_start at word)
word_flat at begins_word.True = tt
word_flat at begins_word.False = tt
word_flat at begins_word.This = tt
word_flat at begins_word.New = λ ty. (λ closed all. tt, (λ shut. cc, tt))
word_flat at begins_word.Cast = tt
word_flat at begins_word.CPtr = tt
word_flat at begins_word.SizeOf = λ ty. tt
word_flat at begins_word.IIf = tt
word_flat at (begins_word.Call word) = λ all. tt
word_flat at begins_word.Nothing = tt

mark_flat : (at : Span) (which : Mark) → StartFlat (mark_start at which)
mark_flat at Open = tt
mark_flat at which = tt

start_flat : (at : Span) (kind : TokenKind) → StartFlat (start_of at kind)
start_flat at (kinds.Number value) = tt
start_flat at (kinds.Str text) = tt
start_flat at (kinds.Name text) = tt
start_flat at (kinds.Mark which) = mark_flat at which
start_flat at (kinds.Word word) = word_flat at (operand_word word)
start_flat at kinds.Colon = tt
start_flat at kinds.LineEnd = tt

-- ---- a number in place of what is missing

number_fills : (room level over : ℕ) → level ≤ 15 → 1 ≤ room + over → Fills (Whole room level) over []
number_fills room level over low some = record { more = a_number ∷ []; are = record { depth = 1; tree = e.Number here 0; within = some; are = number_is level low } }

number_stands : (room level over : ℕ) → level ≤ 15 → 1 ≤ room + over → Fills (Whole room level) over (a_number ∷ [])
number_stands room level over low some = full (Whole room level) over (a_number ∷ []) (record { depth = 1; tree = e.Number here 0; within = some; are = number_is level low })

-- where an operand is refused
operand_refused : (room level : ℕ) → level ≤ 15 → (ts : List Token) → FaultOf ⊥ (Whole (suc room) level) ts (refusal ts) ts
operand_refused room level low ts = refused ⊥ (Whole (suc room) level) (inl (number_fills (suc room) level 0 low (omega arith))) a_number (inl (0, refl)) (number_stands (suc room) level 2 low (omega arith)) ts

-- a production from its first token on
begun_production : (most : ℕ) (t : Token) (production : Production) (level over : ℕ) → prefix_of t.kind ≡ None → production_of (start_of t.at t.kind) ≡ Some production → level ≤ 15
    → (xs : List Token) → ProductionFilled most production 0 over xs → Fills (Whole (suc most) level) over (t ∷ xs)
begun_production most t production level over none begins low xs p =
    let small = p.within in
    full (Whole (suc most) level) over (t ∷ xs) (record { depth = p.depth; tree = p.tree; within = omega arith; are = a_primary t production xs level p.depth p.tree none begins low p.are })

-- a production from its first token on, with any parts
pub record ProductionStands (t : Token) (level most : ℕ) : Type 0 where
  pub more : List Token
  pub whole : OfDepth level most (t ∷ more)

production_stands : (most : ℕ) (t : Token) (production : Production) (level : ℕ) → 1 ≤ most → prefix_of t.kind ≡ None → production_of (start_of t.at t.kind) ≡ Some production → level ≤ 15 → ProductionStands t level (suc most)
production_stands most t production level some none begins low =
    let r = production_fills most production 0 (omega arith) (inl some) in
    record { more = r.more; whole = record { depth = r.whole.depth; tree = r.whole.tree; within = r.whole.within; are = a_primary t production r.more level r.whole.depth r.whole.tree none begins low r.whole.are } }

widen : {level most : ℕ} {ts : List Token} (more : ℕ) → most ≤ more → OfDepth level most ts → OfDepth level more ts
widen more less p = let small = p.within in record { depth = p.depth; tree = p.tree; within = omega arith; are = p.are }

-- an operator before its operand
prefix_in : (room : ℕ) (t : Token) (p : Unary × ℕ) (least : ℕ) → prefix_of t.kind ≡ Some p → least ≤ p.1
    → (over : ℕ) (xs : List Token) → Whole room p.1 over xs → Fills (Whole (suc room) least) over (t ∷ xs)
prefix_in room t p least kind high over xs q =
    let small = q.within in
    full (Whole (suc room) least) over (t ∷ xs) (record { depth = q.depth + 1; tree = e.Unary t.at p.0 q.tree; within = omega arith; are = a_prefix t xs p.0 p.1 q.depth least q.tree kind high q.are })

prefix_number : (room : ℕ) (t : Token) (p : Unary × ℕ) (least over : ℕ) → prefix_of t.kind ≡ Some p → least ≤ p.1 → 2 ≤ room + over → Fills (Whole room least) over (t ∷ [])
prefix_number room t p least over kind high some =
    let k = prefix_small t.kind p kind in
    record { more = a_number ∷ []; are = record { depth = 2; tree = e.Unary t.at p.0 (e.Number here 0); within = some; are = a_prefix t (a_number ∷ []) p.0 p.1 1 least (e.Number here 0) kind high (number_is p.1 (omega arith)) } }

weaker : (room m least : ℕ) → least ≤ m → (over : ℕ) (xs : List Token) → Whole room m over xs → Fills (Whole room least) over xs
weaker room m least low over xs p = full (Whole room least) over xs (record { depth = p.depth; tree = p.tree; within = p.within; are = lower least low p.are })

module _ (room : ℕ) (claims : PartFaults room) where
  -- ---- operands

  begun_fault : (t : Token) (ts : List Token) (production : Production) → prefix_of t.kind ≡ None → production_of (start_of t.at t.kind) ≡ Some production → (1 ≤ room) ⊎ Flat production
      → Failed (FaultOf ⊥ (Whole (suc room) 15) (t ∷ ts)) (read_production (expr room) room 0 production ts)
  begun_fault t ts production none begins fit =
      map_failed (FaultOf ⊥ (ProductionFilled room production 0) ts) (FaultOf ⊥ (Whole (suc room) 15) (t ∷ ts)) (read_production (expr room) room 0 production ts) (production_fault room claims production 0 ts (omega arith) fit)
      (extend (ProductionFilled room production 0) (Whole (suc room) 15) (t ∷ []) (λ over xs p. begun_production room t production 15 over none begins (omega arith) xs p) ⊥ ⊥ ts (t ∷ ts) refl (λ never. absurd never))

  too_deep_start : (t : Token) (ts : List Token) (production : Production) → prefix_of t.kind ≡ None → production_of (start_of t.at t.kind) ≡ Some production → FaultOf ⊥ (Whole (suc room) 15) (t ∷ ts) DeepNesting (t ∷ ts)
  too_deep_start t ts production none begins =
      let r = production_stands (room + 2) t production 15 (omega arith) none begins (omega arith) in
      at_once ⊥ (Whole (suc room) 15) (t ∷ ts) DeepNesting (inl (number_fills (suc room) 15 0 (omega arith) (omega arith)))
      (record { token = t; behind = ts; is = refl; plain = start_plain t.at t.kind production begins; fills = record { more = r.more; are = widen (suc room + 2) (omega arith) r.whole } })

  started_fault : (t : Token) (ts : List Token) (start : Start) → prefix_of t.kind ≡ None → start_of t.at t.kind ≡ start → StartFlat start
      → Failed (FaultOf ⊥ (Whole (suc room) 15) (t ∷ ts)) (started (expr room) room start (t ∷ ts))
  unfolding next
  started_fault t ts (Leaf production) none begins flat = begun_fault t ts production none (ap production_of begins) (inr flat)
  started_fault t ts (Inner production) none begins flat =
      let P : Reader Measured → Type 0 = λ p. Failed (FaultOf ⊥ (Whole (suc room) 15) (t ∷ ts)) (p (t ∷ ts)) in
      by_test P (room == 0) _ _ (λ none_left. too_deep_start t ts production none (ap production_of begins)) (λ some. begun_fault t ts production none (ap production_of begins) (inl (not_zero room some)))
  started_fault t ts Nothing none begins flat = operand_refused room 15 (omega arith) (t ∷ ts)

  primary_fault : (t : Token) (ts : List Token) → prefix_of t.kind ≡ None → Failed (FaultOf ⊥ (Whole (suc room) 15) (t ∷ ts)) (primary (expr room) room t (t ∷ ts))
  unfolding primary
  primary_fault t ts none = started_fault t ts (start_of t.at t.kind) none refl (start_flat t.at t.kind)

  module _ (all ts : List Token) (x : Measured) (r : OperandRead room all x ts) (kind : Suffix) (at : suffix_at (first ts) ≡ Some kind) where
    -- what goes on with an operand, completed
    suffix_in : (t : Token) → suffix_at (Some t) ≡ Some kind → (over : ℕ) (xs : List Token) → ProductionFilled room (suffix_production x.0 kind) x.1 over xs → Fills (Whole (suc room) 15) over ((r.front ++ t ∷ []) ++ xs)
    suffix_in t sees over xs p =
        let small = p.within in
        let made = a_suffix r.front t xs kind x.0 x.1 15 p.depth p.tree sees (r.goes kind at) (omega arith) r.are p.are in
        full (Whole (suc room) 15) over ((r.front ++ t ∷ []) ++ xs)
        (record { depth = p.depth; tree = p.tree; within = omega arith; are = subst (λ (ys : List Token). Is (Expression 15 p.depth p.tree) ys) (sym (append_assoc r.front (t ∷ []) xs)) made })

    too_deep_suffix : FaultOf ⊥ (Whole (suc room) 15) all DeepNesting ts
    too_deep_suffix =
        let g = goes_on ts kind at in
        let small = r.within in
        let more = production_fills (room + 2) (suffix_production x.0 kind) x.1 (omega arith) (inl (omega arith)) in
        let made = suffix_in g.token g.kind_is 2 more.more more.whole in
        record {
          front = r.front;
          is = r.is;
          bare = inl (full (Whole (suc room) 15) 0 r.front (record { depth = x.1; tree = x.0; within = omega arith; are = r.are }));
          next = record { token = g.token; behind = next ts; is = g.is; plain = suffix_plain g.token.kind kind g.kind_is; fills = joined_fills (r.front ++ g.token ∷ []) more.more made };
        }

    suffixed_fault : Failed (FaultOf ⊥ (Whole (suc room) 15) all) (suffixed (expr room) room x kind ts)
    suffixed_fault =
        let g = goes_on ts kind at in
        let P : Reader Measured → Type 0 = λ p. Failed (FaultOf ⊥ (Whole (suc room) 15) all) (p ts) in
        by_test P (nat_lt room x.1) _ _ (λ is. too_deep_suffix)
        (λ fits. let fewer = lt_not room x.1 fits in let some = positive r.are in
        map_failed (FaultOf ⊥ (ProductionFilled room (suffix_production x.0 kind) x.1) (next ts)) (FaultOf ⊥ (Whole (suc room) 15) all) (read_production (expr room) room x.1 (suffix_production x.0 kind) (next ts))
        (production_fault room claims (suffix_production x.0 kind) x.1 (next ts) fewer (inl (omega arith)))
        (extend (ProductionFilled room (suffix_production x.0 kind) x.1) (Whole (suc room) 15) (r.front ++ g.token ∷ []) (suffix_in g.token g.kind_is) ⊥ ⊥ (next ts) all (joined all r.front ts g.token (next ts) [] (next ts) r.is g.is refl) (λ never. absurd never)))

  suffix_step : (n : ℕ) (x : Measured) (all ts : List Token) (o : Option Suffix) → OperandRead room all x ts → suffix_at (first ts) ≡ o
      → ((y : Measured) (rest : List Token) → OperandRead room all y rest → Failed (FaultOf ⊥ (Whole (suc room) 15) all) (suffixes_from (expr room) room n y rest))
      → Failed (FaultOf ⊥ (Whole (suc room) 15) all) (suffix_by (expr room) room o x (suffixes_from (expr room) room n) ts)
  suffix_step n x all ts None r at again = tt
  suffix_step n x all ts (Some kind) r at again =
      failed_then (OperandRead room all) (FaultOf ⊥ (Whole (suc room) 15) all) (suffixed (expr room) room x kind ts) (suffixes_from (expr room) room n) (suffixed_sound room (right room) x kind all ts r at) (suffixed_fault all ts x r kind at) again

  suffixes_fault : (n : ℕ) (x : Measured) (all ts : List Token) → OperandRead room all x ts → Failed (FaultOf ⊥ (Whole (suc room) 15) all) (suffixes_from (expr room) room n x ts)
  unfolding suffixes_from
  suffixes_fault zero x all ts r = tt
  suffixes_fault (suc n) x all ts r = suffix_step n x all ts (suffix_at (first ts)) r refl (λ y rest s. suffixes_fault n y all rest s)

  -- ---- operators

  module _ (least m : ℕ) (all ts : List Token) (x : Measured) (operator : Operator) (high : least ≤ operator.level) (l : LeftRead room m all x ts) (c : Comes least operator ts) where
    -- an operator behind what is on its left, and what is on its right, completed
    operator_in : (over : ℕ) (xs : List Token) → Whole room (operator.level + 1) over xs → x.1 ≤ room + over → Fills (Whole (suc room) least) over ((l.front ++ c.token ∷ []) ++ xs)
    operator_in over xs p fits =
        let under = l.next (operator.which, operator.level) c.coming_is in
        let small = p.within in
        let made = a_binary l.front c.token xs operator.which operator.level x.1 p.depth least x.0 p.tree c.kind high (lower operator.level under l.are) p.are in
        full (Whole (suc room) least) over ((l.front ++ c.token ∷ []) ++ xs)
        (record { depth = max x.1 p.depth + 1; tree = e.Binary (place_of x.0) x.0 operator.which c.token.at p.tree; within = omega arith; are = subst (λ (ys : List Token). Is (Expression least (max x.1 p.depth + 1) (e.Binary (place_of x.0) x.0 operator.which c.token.at p.tree)) ys) (sym (append_assoc l.front (c.token ∷ []) xs)) made })

    too_deep_operator : FaultOf ⊥ (Whole (suc room) least) all DeepNesting ts
    too_deep_operator =
        let under = l.next (operator.which, operator.level) c.coming_is in
        let small_level = small c.token.kind (operator.which, operator.level) c.kind in
        let small = l.within in
        let made = operator_in 2 (a_number ∷ []) (record { depth = 1; tree = e.Number here 0; within = omega arith; are = number_is (operator.level + 1) (omega arith) }) (omega arith) in
        record {
          front = l.front;
          is = l.is;
          bare = inl (full (Whole (suc room) least) 0 l.front (record { depth = x.1; tree = x.0; within = omega arith; are = lower least (omega arith) l.are }));
          next = record { token = c.token; behind = next ts; is = c.is; plain = binary_plain c.token.kind (operator.which, operator.level) c.kind; fills = joined_fills (l.front ++ c.token ∷ []) (a_number ∷ []) made };
        }

    operated_fault : Failed (FaultOf ⊥ (Whole (suc room) least) all) (operated (expr room) room x operator ts)
    unfolding operated
    operated_fault =
        let F : FaultKind → List Token → Type 0 = FaultOf ⊥ (Whole (suc room) least) all in
        let P : Reader Measured → Type 0 = λ p. Failed F (p ts) in
        by_test P (nat_lt room x.1) _ _ (λ is. too_deep_operator)
        (λ fits. let fewer = lt_not room x.1 fits in let some = positive l.are in
        let small_level = small c.token.kind (operator.which, operator.level) c.kind in
        let f : Measured → Measured = λ y. (e.Binary (place_of x.0) x.0 operator.which operator.at y.0, max x.1 y.1 + 1) in
        failed_pure F (expr room (operator.level + 1) (next ts)) f
        (map_failed (FaultOf (NoRoom room) (Whole room (operator.level + 1)) (next ts)) F (expr room (operator.level + 1) (next ts)) (claims (operator.level + 1) (omega arith) (next ts))
        (extend (Whole room (operator.level + 1)) (Whole (suc room) least) (l.front ++ c.token ∷ []) (λ over xs p. operator_in over xs p (omega arith)) (NoRoom room) ⊥ (next ts) all (joined all l.front ts c.token (next ts) [] (next ts) l.is c.is refl) (λ none. absurd (omega arith)))))

  climb_step : (least n : ℕ) (x : Measured) (all ts : List Token) (m : ℕ) (o : Option Operator) → LeftRead room m all x ts → operator_at least (first ts) ≡ o
      → ((y : Measured) (rest : List Token) (k : ℕ) → LeftRead room k all y rest → Failed (FaultOf ⊥ (Whole (suc room) least) all) (climb_from (expr room) room least n y rest))
      → Failed (FaultOf ⊥ (Whole (suc room) least) all) (climb_by (expr room) room o x (climb_from (expr room) room least n) ts)
  climb_step least n x all ts m None l at again = tt
  climb_step least n x all ts m (Some operator) l at again =
      let c = comes least operator ts at in
      failed_then (λ y rest. LeftRead room operator.level all y rest × (length rest < length ts)) (FaultOf ⊥ (Whole (suc room) least) all) (operated (expr room) room x operator ts) (climb_from (expr room) room least n)
      (operated_sound room (right room) x operator all ts m least l c) (operated_fault least m all ts x operator c.high l c) (λ y rest s. again y rest operator.level s.0)

  climb_fault : (least n : ℕ) (x : Measured) (all ts : List Token) (m : ℕ) → LeftRead room m all x ts → Failed (FaultOf ⊥ (Whole (suc room) least) all) (climb_from (expr room) room least n x ts)
  unfolding climb_from
  climb_fault least zero x all ts m l = tt
  climb_fault least (suc n) x all ts m l = climb_step least n x all ts m (operator_at least (first ts)) l refl (λ y rest k left. climb_fault least n y all rest k left)

  -- ---- operands with the operators before them

  too_deep_prefix : (least : ℕ) (t : Token) (ts : List Token) (p : Unary × ℕ) → least ≤ p.1 → prefix_of t.kind ≡ Some p → FaultOf ⊥ (Whole (suc room) least) (t ∷ ts) DeepNesting (t ∷ ts)
  too_deep_prefix least t ts p high kind =
      let k = prefix_small t.kind p kind in
      at_once ⊥ (Whole (suc room) least) (t ∷ ts) DeepNesting (inl (number_fills (suc room) least 0 (omega arith) (omega arith)))
      (record { token = t; behind = ts; is = refl; plain = prefix_plain t.kind p kind; fills = prefix_number (suc room) t p least 2 kind high (omega arith) })

  prefixed_fault : (least : ℕ) (t : Token) (ts : List Token) (p : Unary × ℕ) → least ≤ p.1 → prefix_of t.kind ≡ Some p → Failed (FaultOf ⊥ (Whole (suc room) least) (t ∷ ts)) (prefixed (expr room) room t.at p.0 p.1 (t ∷ ts))
  unfolding prefixed next
  prefixed_fault least t ts p high kind =
      let F : FaultKind → List Token → Type 0 = FaultOf ⊥ (Whole (suc room) least) (t ∷ ts) in
      let P : Reader Measured → Type 0 = λ r. Failed F (r (t ∷ ts)) in
      by_test P (room == 0) _ _ (λ none. too_deep_prefix least t ts p high kind)
      (λ is. let some = not_zero room is in
      let f : Measured → Measured = λ y. (e.Unary t.at p.0 y.0, y.1 + 1) in
      failed_pure F (expr room p.1 ts) f
      (map_failed (FaultOf (NoRoom room) (Whole room p.1) ts) F (expr room p.1 ts) (claims p.1 (prefix_small t.kind p kind) ts)
      (extend (Whole room p.1) (Whole (suc room) least) (t ∷ []) (prefix_in room t p least kind high) (NoRoom room) ⊥ ts (t ∷ ts) refl (λ none. absurd (omega arith)))))

  operand_step : (least : ℕ) → least ≤ 15 → (t : Token) (ts : List Token) (o : Option (Unary × ℕ)) → prefix_of t.kind ≡ o → Failed (FaultOf ⊥ (Whole (suc room) least) (t ∷ ts)) (operand_by (expr room) room least t o (t ∷ ts))
  unfolding suffixes
  operand_step least low t ts (Some p) kind =
      let P : Reader Measured → Type 0 = λ r. Failed (FaultOf ⊥ (Whole (suc room) least) (t ∷ ts)) (r (t ∷ ts)) in
      by_test P (nat_lt p.1 least) _ _ (λ is. operand_refused room least low (t ∷ ts)) (λ fits. prefixed_fault least t ts p (lt_not p.1 least fits) kind)
  operand_step least low t ts None kind =
      let G : FaultKind → List Token → Type 0 = FaultOf ⊥ (Whole (suc room) 15) (t ∷ ts) in
      map_failed G (FaultOf ⊥ (Whole (suc room) least) (t ∷ ts)) _
      (failed_then (OperandRead room (t ∷ ts)) G (primary (expr room) room t (t ∷ ts)) (suffixes (expr room) room) (primary_sound room (right room) t ts kind) (primary_fault t ts kind)
      (λ x rest s. suffixes_fault (length rest) x (t ∷ ts) rest s))
      (extend (Whole (suc room) 15) (Whole (suc room) least) [] (weaker (suc room) 15 least low) ⊥ ⊥ (t ∷ ts) (t ∷ ts) refl (λ never. absurd never))

  operand_fault : (least : ℕ) → least ≤ 15 → (ts : List Token) → Failed (FaultOf ⊥ (Whole (suc room) least) ts) (operand (expr room) room least ts)
  unfolding operand first
  operand_fault least low [] = operand_refused room least low []
  operand_fault least low (t ∷ ts) = operand_step least low t ts (prefix_of t.kind) refl

  level_fault : (least : ℕ) → least ≤ 14 → (ts : List Token) → Failed (FaultOf ⊥ (Whole (suc room) least) ts) (level (expr room) room least ts)
  unfolding level climb
  level_fault least low ts =
      failed_then (Operand room (right room) least ts) (FaultOf ⊥ (Whole (suc room) least) ts) (operand (expr room) room least ts) (climb (expr room) room least) (operand_sound room (right room) least (omega arith) ts)
      (operand_fault least (omega arith) ts) (λ x rest s. climb_fault least (length rest) x ts rest s.0 s.2)

-- ---- where no expression can be deep enough

abbrev pub opened : Start → Start → Type 0
opened a b = begins_some a ≡ begins_some b

word_opened : (a b : Span) (word : OperandWord) → opened (word_start a word) (word_start b word)
word_opened a b begins_word.Nothing = refl
word_opened a b word = refl

mark_opened : (a b : Span) (which : Mark) → opened (mark_start a which) (mark_start b which)
mark_opened a b Open = refl
mark_opened a b which = refl

pub start_opened : (a b : Span) (kind : TokenKind) → opened (start_of a kind) (start_of b kind)
start_opened a b (kinds.Number value) = refl
start_opened a b (kinds.Str text) = refl
start_opened a b (kinds.Name text) = refl
start_opened a b (kinds.Mark which) = mark_opened a b which
start_opened a b (kinds.Word word) = word_opened a b (operand_word word)
start_opened a b kinds.Colon = refl
start_opened a b kinds.LineEnd = refl

pub record HasProduction (start : Start) : Type 0 where
  pub production : Production
  pub is : production_of start ≡ Some production

has_production : (start : Start) → begins_some start ≡ true → HasProduction start
has_production (Leaf production) is = record { production = production; is = refl }
has_production (Inner production) is = record { production = production; is = refl }
has_production Nothing is = cc

begun_deep_by : (least : ℕ) (t : Token) (ts : List Token) (o : Option (Unary × ℕ)) → least ≤ 15 → prefix_of t.kind ≡ o → begins_as least t o ≡ true → FaultOf (NoRoom 0) (Whole 0 least) (t ∷ ts) DeepNesting (t ∷ ts)
begun_deep_by least t ts (Some p) low kind is =
    let high : least ≤ p.1 = grind (arith, nat_tests) in
    at_once (NoRoom 0) (Whole 0 least) (t ∷ ts) DeepNesting (inr refl) (record { token = t; behind = ts; is = refl; plain = prefix_plain t.kind p kind; fills = prefix_number 0 t p least 2 kind high (omega arith) })
begun_deep_by least t ts None low kind is =
    let h = has_production (start_of t.at t.kind) (start_opened t.at here t.kind ∙ is) in
    let r = production_stands 1 t h.production least (omega arith) kind h.is low in
    at_once (NoRoom 0) (Whole 0 least) (t ∷ ts) DeepNesting (inr refl) (record { token = t; behind = ts; is = refl; plain = start_plain t.at t.kind h.production h.is; fills = record { more = r.more; are = widen 2 (omega arith) r.whole } })

begun_deep : (least : ℕ) → least ≤ 15 → (ts : List Token) → begins least (first ts) ≡ true → FaultOf (NoRoom 0) (Whole 0 least) ts DeepNesting ts
unfolding first
begun_deep least low [] is = cc
begun_deep least low (t ∷ ts) is = begun_deep_by least t ts (prefix_of t.kind) low refl is

no_room_fault : (least : ℕ) → least ≤ 15 → (ts : List Token) → Failed (FaultOf (NoRoom 0) (Whole 0 least) ts) (no_room least ts)
unfolding no_room
no_room_fault least low ts =
    let P : Outcome Measured → Type 0 = λ o. Failed (FaultOf (NoRoom 0) (Whole 0 least) ts) o in
    by_test P (begins least (first ts)) _ _ (λ is. begun_deep least low ts is)
    (λ is. refused (NoRoom 0) (Whole 0 least) (inr refl) a_number (inl (0, refl)) (number_stands 0 least 2 low (omega arith)) ts)

some_read : (room level : ℕ) (ts : List Token) (kind : FaultKind) (rest : List Token) → FaultOf ⊥ (Whole (suc room) level) ts kind rest → FaultOf (NoRoom (suc room)) (Whole (suc room) level) ts kind rest
some_read room level ts kind rest f = record { front = f.front; is = f.is; bare = elim f.bare [ inl a ↦ inl a | inr n ↦ absurd n.0 ]; next = f.next }

-- What is read of an expression up to a fault can be completed to an expression of this level, at most so deep. Where
-- the fault is DeepNesting it goes on with the next token too, but is deeper; where it is OutOfProfile, with an operand
-- or a type in place of that.
pub begun : (room level : ℕ) → level ≤ 14 → (ts : List Token) → Failed (FaultOf (NoRoom room) (Whole room level) ts) (expr room level ts)
unfolding expr
begun zero level low ts = no_room_fault level (omega arith) ts
begun (suc room) least low ts = map_failed (FaultOf ⊥ (Whole (suc room) least) ts) (FaultOf (NoRoom (suc room)) (Whole (suc room) least) ts) (level (expr room) room least ts) (level_fault room (begun room) least low ts) (some_read room least ts)
