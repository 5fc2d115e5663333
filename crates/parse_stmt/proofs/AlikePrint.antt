-- Two readings of a Print, of tokens that are alike up to a place.
use Rattle.std.proofs.Common.{◌≡◌, ◌<◌, ℕ, suc, Bool, true, false, if◌then◌else◌, List, [], ◌∷◌, ◌++◌, length, Option, Some, Ok, refl, ◌⊎◌, inl, inr, subst, sym, arith}
use Rattle.fb_base.specs.declared.fault.Span.{Span}
use Rattle.fb_base.specs.declared.fault.FaultKind.{FaultKind}
use Rattle.fb_base.specs.declared.fault.FaultKind.TheVariants.{DeepNesting, OutOfProfile}
use Rattle.fb_lexer.specs.declared.token.Token.{Token}
use Rattle.fb_lexer.specs.declared.token.Mark.TheVariants.{Comma, Semicolon}
use Rattle.fb_ast.specs.declared.expr.Expr.{Expr}
use Rattle.fb_ast.specs.declared.stmt.Printed.{Printed}
use Rattle.fb_ast.specs.declared.stmt.Printed.TheVariants as printed
use Rattle.fb_ast.specs.declared.stmt.Stmt.TheVariants as k
use Rattle.parse_expr.specs.Reading.{first, next, is_mark, holds, sees, refusal, refusal_by, Outcome, Reader, and_then, pure}
use Rattle.parse_expr.specs.Expr.{begins, place_or}
use Rattle.parse_expr.proofs.Sound.{Done, bind, by_test}
use Rattle.parse_expr.proofs.Ends.{same_end}
use Rattle.parse_expr.proofs.Twins.{Rooms, here, Gone, gone_then}
use Rattle.parse_parts.specs.Steps.{place_at, origin, whole, pass_by, no_value, sees_value}
use Rattle.parse_parts.specs.Simple.{sees_between, printed_value, print_turn, all_printed, print}
use Rattle.parse_stmt.proofs.Smallest.{exact_whole}
use Rattle.parse_stmt.proofs.Printing.{mark_less, value_less}
use Rattle.parse_stmt.proofs.Odd.{odd_mark, refused_mark, refused_value, end_empty, other_mark, Ends, Refused, Ended, Stand}
use Rattle.parse_stmt.proofs.Alike.{Shortens, at_place, T, followed, given, took}
use Rattle.parse_stmt.proofs.AlikeParts.{any_done, twin_whole, twin_no_value, whole_gone, none_gone}
use Rattle.parse_stmt.proofs.AlikeEnds.{NearOrStays, E, Rests, Last, weak, before, stays_if, stays_seen, stays_made, stays_behind, stays_eaten, stays_all}

shortens_print : (deep : ℕ) → Shortens (print_turn (suc deep))
unfolding print_turn printed_value
shortens_print deep = record {
  less = λ found ts.
      by_test (λ (o : Outcome (List Printed × Bool)). Done (λ q rest. q.1 ≡ true → length rest < length ts) o) (sees Semicolon ts) _ _ (λ is more. mark_less Semicolon ts is)
      (λ no. by_test (λ (o : Outcome (List Printed × Bool)). Done (λ q rest. q.1 ≡ true → length rest < length ts) o) (sees Comma ts) _ _ (λ is more. mark_less Comma ts is)
      (λ nor. by_test (λ (o : Outcome (List Printed × Bool)). Done (λ q rest. q.1 ≡ true → length rest < length ts) o) (sees_value ts) _ _
      (λ is. bind _ (λ q rest. q.1 ≡ true → length rest < length ts) (whole (suc deep) ts) (printed_value found) ((exact_whole deep).sound ts) (λ x rest r more. value_less deep ts x rest r))
      (λ not. bind (λ (u : Unit {0}) rest. Unit {0}) (λ q rest. q.1 ≡ true → length rest < length ts) (no_value ts) (λ u. pure (found, false)) (any_done (no_value ts)) (λ u rest d more. cc))));
}

module _ (L : FaultKind → Type 0) (t : Token) (s v : List Token) (stand : Stand L t v) (deep deeper : ℕ) (rooms : Rooms L (suc deep) (suc deeper)) where
  between_by : (found : List Printed) (x : Expr) (u : Token) → Refused L t u ⊎ Ended L u
      → NearOrStays L t s v stand {A = List Printed × Bool} (Rests L t s v stand) (Ok ((found ++ printed.Expr x ∷ [], if is_mark Semicolon t.kind then true else is_mark Comma t.kind), t ∷ s)) (Ok ((found ++ printed.Expr x ∷ [], if is_mark Semicolon u.kind then true else is_mark Comma u.kind), v))
  between_by found x u (inl r) = rw (refused_mark Semicolon t.kind r.word, refused_mark Comma t.kind r.word, odd_mark Semicolon u.kind r.odd, odd_mark Comma u.kind r.odd) (inl (inr (v, refl, here)))
  between_by found x u (inr e) = inr (e.ends, refl)

  stays_printed_value : (found : List Printed) (x : Expr) → E L t s v stand (Rests L t s v stand) (printed_value found x) (printed_value found x)
  unfolding printed_value sees_between sees
  stays_printed_value found x = stays_seen L t s v stand (Rests L t s v stand) (λ o ts. Ok ((found ++ printed.Expr x ∷ [], if holds (is_mark Semicolon) o then true else holds (is_mark Comma) o), ts)) (λ o ts. Ok ((found ++ printed.Expr x ∷ [], if holds (is_mark Semicolon) o then true else holds (is_mark Comma) o), ts))
      (λ o. weak L t s v stand (Rests L t s v stand) (given L t s v stand (found ++ printed.Expr x ∷ [], if holds (is_mark Semicolon) o then true else holds (is_mark Comma) o)))
      (λ odd. between_by found x odd.u odd.why)

  abbrev printed_there : ℕ → List Printed → Reader (List Printed × Bool)
  printed_there most found = λ ts. and_then (whole most ts) (printed_value found)

  abbrev none_there : List Printed → Reader (List Printed × Bool)
  none_there found = λ ts. and_then (no_value ts) (λ u. pure (found, false))

  abbrev value_or_none : ℕ → List Printed → Reader (List Printed × Bool)
  value_or_none most found = λ ts. if sees_value ts then printed_there most found ts else none_there found ts

  stays_printed : (found : List Printed) → E L t s v stand (Rests L t s v stand) (printed_there (suc deep) found) (printed_there (suc deeper) found)
  stays_printed found = before L t s v stand (Rests L t s v stand) (twin_whole L t s v stand deep deeper rooms) (λ x. stays_printed_value found x)

  twin_none : (found : List Printed) → T L t s v stand (none_there found) (none_there found)
  twin_none found = followed L t s v stand (twin_no_value L t s v stand deep deeper rooms) (λ u. given L t s v stand (found, false))

  printed_gone : (found : List Printed) → L DeepNesting → begins 1 (Some t) ≡ true → Gone L t s v (at_place L t s v stand) (printed_there (suc deep) found (t ∷ s))
  unfolding printed_value
  printed_gone found loose is = gone_then L t s v (at_place L t s v stand) (whole (suc deep) (t ∷ s)) (printed_value found) (whole_gone L t s v stand deep deeper rooms loose is) (λ x rest. same_end rest)

  value_ended : (found : List Printed) (b c : Bool) → begins 1 (Some t) ≡ b → c ≡ false → Ends L
      → NearOrStays L t s v stand (Rests L t s v stand) (if b then printed_there (suc deep) found (t ∷ s) else none_there found (t ∷ s)) (if c then printed_there (suc deeper) found v else none_there found v)
  value_ended found true c is no_begin ends = inl (inl (printed_gone found ends.deep is))
  value_ended found false c is no_begin ends = rw no_begin (inl ((twin_none found).near (t ∷ s) v here))

  value_odd : (found : List Printed) (u : Token) → Refused L t u ⊎ Ended L u
      → NearOrStays L t s v stand (Rests L t s v stand) (if begins 1 (Some t) then printed_there (suc deep) found (t ∷ s) else none_there found (t ∷ s)) (if begins 1 (Some u) then printed_there (suc deeper) found v else none_there found v)
  value_odd found u (inl r) = rw (refused_value t r.word) (inl (inl (none_gone L t s v stand deep deeper rooms (λ x. pure (found, false)) (λ x rest. same_end rest) u r)))
  value_odd found u (inr e) = value_ended found (begins 1 (Some t)) (begins 1 (Some u)) refl ((end_empty u e.end).no_begin 1) e.ends

  stays_value_or_none : (found : List Printed) → E L t s v stand (Rests L t s v stand) (value_or_none (suc deep) found) (value_or_none (suc deeper) found)
  unfolding sees_value
  stays_value_or_none found = stays_seen L t s v stand (Rests L t s v stand) (λ o ts. if begins 1 o then printed_there (suc deep) found ts else none_there found ts) (λ o ts. if begins 1 o then printed_there (suc deeper) found ts else none_there found ts)
      (λ o. stays_if L t s v stand (Rests L t s v stand) (begins 1 o) _ _ _ _ (stays_printed found) (weak L t s v stand (Rests L t s v stand) (twin_none found)))
      (λ odd. value_odd found odd.u odd.why)

  abbrev print_by : ℕ → List Printed → Option Token → Reader (List Printed × Bool)
  print_by most found o = λ ts. if holds (is_mark Semicolon) o then Ok ((found ++ printed.Semicolon (place_or origin o) ∷ [], true), next ts)
      else (if holds (is_mark Comma) o then Ok ((found ++ printed.Comma (place_or origin o) ∷ [], true), next ts) else value_or_none most found ts)

  stays_print_by : (found : List Printed) (o : Option Token) → E L t s v stand (Rests L t s v stand) (print_by (suc deep) found o) (print_by (suc deeper) found o)
  stays_print_by found o =
      stays_if L t s v stand (Rests L t s v stand) (holds (is_mark Semicolon) o) _ _ _ _ (weak L t s v stand (Rests L t s v stand) ((took L t s v stand (found ++ printed.Semicolon (place_or origin o) ∷ [], true)).twin))
      (stays_if L t s v stand (Rests L t s v stand) (holds (is_mark Comma) o) _ _ _ _ (weak L t s v stand (Rests L t s v stand) ((took L t s v stand (found ++ printed.Comma (place_or origin o) ∷ [], true)).twin)) (stays_value_or_none found))

  -- a mark between is taken
  mark_or : (found : List Printed) (other : Outcome (List Printed × Bool)) (b c : Bool) → (b ≡ false → c ≡ false → NearOrStays L t s v stand (Rests L t s v stand) (value_or_none (suc deep) found (t ∷ s)) other)
      → NearOrStays L t s v stand (Rests L t s v stand) (if b then Ok ((found ++ printed.Semicolon t.at ∷ [], true), next (t ∷ s)) else if c then Ok ((found ++ printed.Comma t.at ∷ [], true), next (t ∷ s)) else value_or_none (suc deep) found (t ∷ s)) other
  unfolding next
  mark_or found other true c k = inl (inl (omega arith))
  mark_or found other false true k = inl (inl (omega arith))
  mark_or found other false false k = k refl refl

  stays_print_turn : (found : List Printed) → E L t s v stand (Rests L t s v stand) (print_turn (suc deep) found) (print_turn (suc deeper) found)
  unfolding print_turn sees place_at
  stays_print_turn found = stays_seen L t s v stand (Rests L t s v stand) (print_by (suc deep) found) (print_by (suc deeper) found) (stays_print_by found)
      (λ odd. rw (other_mark Semicolon odd, other_mark Comma odd) (mark_or found (value_or_none (suc deeper) found v) (is_mark Semicolon t.kind) (is_mark Comma t.kind) (λ a b. (stays_value_or_none found).near (t ∷ s) v here)))

  -- a turn at the place, where an end would do
  pass_last : (found : List Printed) → Ends L → (kind : FaultKind) → Gone L t s v (at_place L t s v stand) {A = List Printed × Bool} (and_then (pass_by kind (t ∷ s)) (λ u. pure (found, false))) ⊎ Last L t s v stand {S = List Printed} (Rests L t s v stand) (and_then (pass_by kind (t ∷ s)) (λ u. pure (found, false)))
  pass_last found ends OutOfProfile = inl (inr ends.out)
  pass_last found ends kind = inr (refl, (ends, refl))

  value_last : (found : List Printed) → Ends L → (b : Bool) → begins 1 (Some t) ≡ b
      → Gone L t s v (at_place L t s v stand) (if b then printed_there (suc deep) found (t ∷ s) else none_there found (t ∷ s)) ⊎ Last L t s v stand (Rests L t s v stand) (if b then printed_there (suc deep) found (t ∷ s) else none_there found (t ∷ s))
  unfolding no_value refusal first
  value_last found ends true is = inl (printed_gone found ends.deep is)
  value_last found ends false is = pass_last found ends (refusal_by t.kind)

  marks_last : (found : List Printed) → Ends L → (b c : Bool)
      → Gone L t s v (at_place L t s v stand) (if b then Ok ((found ++ printed.Semicolon t.at ∷ [], true), next (t ∷ s)) else if c then Ok ((found ++ printed.Comma t.at ∷ [], true), next (t ∷ s)) else (if begins 1 (Some t) then printed_there (suc deep) found (t ∷ s) else none_there found (t ∷ s)))
      ⊎ Last L t s v stand (Rests L t s v stand) (if b then Ok ((found ++ printed.Semicolon t.at ∷ [], true), next (t ∷ s)) else if c then Ok ((found ++ printed.Comma t.at ∷ [], true), next (t ∷ s)) else (if begins 1 (Some t) then printed_there (suc deep) found (t ∷ s) else none_there found (t ∷ s)))
  unfolding next
  marks_last found ends true c = inl (omega arith)
  marks_last found ends false true = inl (omega arith)
  marks_last found ends false false = value_last found ends (begins 1 (Some t)) refl

  print_last : (found : List Printed) → Ends L → Gone L t s v (at_place L t s v stand) (print_turn (suc deep) found (t ∷ s)) ⊎ Last L t s v stand (Rests L t s v stand) (print_turn (suc deep) found (t ∷ s))
  unfolding print_turn sees place_at sees_value first
  print_last found ends = marks_last found ends (is_mark Semicolon t.kind) (is_mark Comma t.kind)

  print_ends : (found : List Printed) (rest : List Token) → Ends L × (rest ≡ t ∷ s) → Gone L t s v (at_place L t s v stand) (print_turn (suc deep) found rest) ⊎ Last L t s v stand (Rests L t s v stand) (print_turn (suc deep) found rest)
  print_ends found rest d = subst (λ (xs : List Token). Gone L t s v (at_place L t s v stand) (print_turn (suc deep) found xs) ⊎ Last L t s v stand (Rests L t s v stand) (print_turn (suc deep) found xs)) (sym d.1) (print_last found d.0)

  stays_all_printed : E L t s v stand (Rests L t s v stand) (all_printed (suc deep)) (all_printed (suc deeper))
  unfolding all_printed
  stays_all_printed = stays_all L t s v stand (Rests L t s v stand) (Rests L t s v stand) (print_turn (suc deep)) (print_turn (suc deeper)) (shortens_print deep) stays_print_turn (λ x rest d. d) (λ x rest d. print_ends x rest d) (shortens_print deeper) []

  stays_items : (at : Span) → E L t s v stand (Rests L t s v stand) (λ ts. and_then (all_printed (suc deep) ts) (λ all. pure (k.Print at all))) (λ ts. and_then (all_printed (suc deeper) ts) (λ all. pure (k.Print at all)))
  stays_items at = stays_made L t s v stand (Rests L t s v stand) (Rests L t s v stand) (λ all. k.Print at all) stays_all_printed (λ all rest d. d)

  pub stays_print : (at : Span) → E L t s v stand (Rests L t s v stand) (print (suc deep) at) (print (suc deeper) at)
  unfolding print
  stays_print at = stays_behind L t s v stand (Rests L t s v stand) (stays_items at)

  pub print_gone : (at : Span) → Gone L t s v (at_place L t s v stand) (print (suc deep) at (t ∷ s))
  unfolding print
  print_gone at = stays_eaten L t s v stand (Rests L t s v stand) (stays_items at)
