-- What a reading leaves is an end of its tokens.
use Rattle.std.proofs.Common.{◌≡◌, ◌≤◌, ℕ, zero, suc, ◌+◌, max, Bool, true, false, if◌then◌else◌, List, [], ◌∷◌, ◌++◌, length, Ok, Err, refl, sym, ap, ◌∙◌, arith, append_assoc, length-append}
use Rattle.fb_base.specs.declared.fault.Span.{Span}
use Rattle.fb_base.specs.declared.fault.FaultKind.TheVariants.{Expected}
use Rattle.fb_lexer.specs.declared.token.Token.{Token}
use Rattle.fb_lexer.specs.declared.token.Mark.TheVariants.{Comma}
use Rattle.fb_ast.specs.declared.expr.Expr.{Expr}
use Rattle.fb_ast.specs.declared.expr.Expr.TheVariants as e
use Rattle.fb_ast.specs.Places.{place_of}
use Rattle.fb_ast.specs.declared.operator.Unary.{Unary}
use Rattle.parse_expr.specs.declared.kinds.Operator.{Operator}
use Rattle.parse_expr.specs.declared.error.ReadErr.TheVariants as read_errs
use Rattle.parse_expr.specs.Reading.{first, next, sees, refusal, Outcome, Reader}
use Rattle.parse_expr.specs.Expr.{Measured, expr, part_in, arguments_from, operand, level, no_room}
use Rattle.parse_expr.proofs.Sound.{Done, map_done, PartRead, part_sound, seen}
use Rattle.parse_expr.proofs.Climbs.{right}
use Rattle.parse_expr.proofs.Turned.{same_bind}

-- a list that the tokens end with
pub record Suffixes (rest ts : List Token) : Type 0 where
  pub front : List Token
  pub is : ts ≡ front ++ rest

pub same_end : (ts : List Token) → Suffixes ts ts
same_end ts = record { front = []; is = refl }

pub end_of_end : {a b c : List Token} → Suffixes a b → Suffixes b c → Suffixes a c
end_of_end p q = record { front = q.front ++ p.front; is = q.is ∙ ap (λ xs. q.front ++ xs) p.is ∙ sym (append_assoc q.front p.front _) }

pub no_longer : {a b : List Token} → Suffixes a b → length a ≤ length b
no_longer {a = a} p = let e = ap length p.is ∙ length-append p.front a in omega arith

-- what an outcome leaves is an end of these tokens
abbrev pub Leaves : {A : Type 0} → List Token → Outcome A → Type 0
Leaves ts (Ok p) = Suffixes p.1 ts
Leaves ts (Err p) = Suffixes p.1 ts

pub further : {A : Type 0} (a b : List Token) (o : Outcome A) → Suffixes a b → Leaves a o → Leaves b o
further a b (Ok p) s l = end_of_end l s
further a b (Err p) s l = end_of_end l s

-- ---- the turns of arguments

empty_expr : (room l : ℕ) → expr room l [] ≡ Err (read_errs.Fault Expected, [])
unfolding expr no_room level operand first refusal
empty_expr zero l = refl
empty_expr (suc room) l = refl

module _ (room : ℕ) where
  abbrev ShorterPart : List Token → Measured → List Token → Type 0
  ShorterPart ts x rest = (length rest ≤ length ts)

  part_shorter : (deepest : ℕ) (ts : List Token) → Done (ShorterPart ts) (part_in (expr room) room deepest ts)
  part_shorter deepest ts = map_done (PartRead room deepest ts) (ShorterPart ts) _ (part_sound room (right room) deepest ts) (λ x rest r. no_longer (record { front = r.front; is = r.is }))

  comma_turn : (n m : ℕ) (found : List Expr) (deepest : ℕ) (rest : List Token) (b : Bool) → sees Comma rest ≡ b
      → (b ≡ true → arguments_from (expr room) room n found deepest (next rest) ≡ arguments_from (expr room) room m found deepest (next rest))
      → (p : Reader (List Expr × ℕ))
      → (if b then arguments_from (expr room) room n found deepest else p) (if b then next rest else rest) ≡ (if b then arguments_from (expr room) room m found deepest else p) (if b then next rest else rest)
  comma_turn n m found deepest rest true is again p = again refl
  comma_turn n m found deepest rest false is again p = refl

  pub argument_turns : (n m : ℕ) (found : List Expr) (deepest : ℕ) (ts : List Token) → length ts ≤ n → length ts ≤ m
      → arguments_from (expr room) room n found deepest ts ≡ arguments_from (expr room) room m found deepest ts
  unfolding arguments_from part_in refusal first
  argument_turns zero zero found deepest ts p q = refl
  argument_turns zero (suc m) found deepest [] p q = rw (empty_expr room 1) refl
  argument_turns zero (suc m) found deepest (t ∷ ts) p q = absurd (omega arith)
  argument_turns (suc n) zero found deepest [] p q = rw (empty_expr room 1) refl
  argument_turns (suc n) zero found deepest (t ∷ ts) p q = absurd (omega arith)
  argument_turns (suc n) (suc m) found deepest ts p q =
      same_bind (ShorterPart ts) (part_in (expr room) room deepest ts) _ _ (part_shorter deepest ts)
      (λ x rest less. comma_turn n m (found ++ x.0 ∷ []) x.1 rest (sees Comma rest) refl
      (λ is. let t = seen Comma rest is in let e = ap length t.is in argument_turns n m (found ++ x.0 ∷ []) x.1 (next rest) (omega arith) (omega arith)) _)

abbrev pub with_right : Measured → Operator → Measured → Measured
with_right x operator y = (e.Binary (place_of x.0) x.0 operator.which operator.at y.0, max x.1 y.1 + 1)

abbrev pub with_prefix : Span → Unary → Measured → Measured
with_prefix at operator y = (e.Unary at operator y.0, y.1 + 1)
