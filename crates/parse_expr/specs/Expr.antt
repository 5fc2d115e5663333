-- How expressions are read: by their levels, each part with one level less of depth.
use Rattle.std.specs.Prelude.{ℕ, zero, suc, ◌+◌, ◌-◌, ◌≡◌, ◌≢◌, max, nat_lt, nat_le, ◌==◌, Bool, true, false, if◌then◌else◌, List, [], ◌∷◌, ◌++◌, length, drop, slice_get, Option, Some, None, Result, Ok, Err}
use Rattle.fb_base.specs.declared.fault.Span.{Span}
use Rattle.fb_base.specs.declared.fault.FaultKind.TheVariants.{DeepNesting}
use Rattle.fb_lexer.specs.declared.token.Token.{Token}
use Rattle.fb_lexer.specs.declared.token.Mark.TheVariants.{Close, Comma}
use Rattle.fb_ast.specs.declared.operator.Unary.{Unary}
use Rattle.fb_ast.specs.declared.operator.Binary.{Binary}
use Rattle.fb_ast.specs.declared.expr.Expr.{Expr}
use Rattle.fb_ast.specs.declared.expr.Expr.TheVariants as e
use Rattle.fb_ast.specs.Places.{place_of}
use Rattle.parse_expr.specs.declared.kinds.Suffix.{Suffix}
use Rattle.parse_expr.specs.declared.kinds.Operator.{Operator}
use Rattle.parse_expr.specs.declared.error.ReadErr.{ReadErr}
use Rattle.parse_expr.specs.declared.error.ReadErr.TheVariants as read_errs
use Rattle.parse_expr.specs.declared.error.ParseErr.{ParseErr}
use Rattle.parse_expr.specs.declared.error.ParseErr.TheVariants as errors
use Rattle.parse_expr.specs.Words.{prefix_of, binary_of, suffix_of}
use Rattle.parse_expr.specs.Reading.{Reader, Outcome, first, next, sees, expect, refuse, pure, stop, ◌>>=◌, ◌>>◌, take_token, turns}
use Rattle.parse_expr.specs.Types.{type_name, name}
use Rattle.parse_expr.specs.Productions.{Production, gives, mark, typed, named, part, arguments, choice, Start, Leaf, Inner, Nothing, start_of, suffix_production, begins_operand}

-- an expression and how deep it is
abbrev pub Measured : Type 0
Measured = Expr × ℕ

-- an operator between its operands, its level, and its place
abbrev pub at_level : ℕ → Span → Option (Binary × ℕ) → Option Operator
at_level least at None = None
at_level least at (Some p) = if nat_lt p.1 least then None else Some (record { which = p.0; level = p.1; at = at })

-- the operator that comes next, if it is of at least this level
abbrev pub operator_at : ℕ → Option Token → Option Operator
operator_at least None = None
operator_at least (Some t) = at_level least t.at (binary_of t.kind)

abbrev pub suffix_at : Option Token → Option Suffix
suffix_at None = None
suffix_at (Some t) = suffix_of t.kind

-- a production that has a part expression from here on
abbrev pub opens : Production → Bool
opens (part rest) = true
opens production = false

abbrev pub too_deep : {A : Type 0} → Reader A
too_deep = stop DeepNesting

-- The parts are read by the reader for a level, and may be so many levels deep; what they are parts of may be one
-- deeper.
module _ (inner : ℕ → Reader Measured) (room : ℕ) where
  -- a part, and the greatest depth with it
  unfoldable pub part_in : ℕ → Reader Measured
  part_in deepest = inner 1 >>= (λ x. pure (x.0, max deepest x.1))

  -- expressions with commas between, up to the closing parenthesis. The first number bounds the turns.
  unfoldable pub arguments_from : ℕ → List Expr → ℕ → Reader (List Expr × ℕ)
  arguments_from zero found deepest = refuse
  arguments_from (suc n) found deepest = do
    x ← part_in deepest
    more ← (λ ts. Ok (sees Comma ts, if sees Comma ts then next ts else ts))
    if more then arguments_from n (found ++ x.0 ∷ []) x.1 else expect Close >> pure (found ++ x.0 ∷ [], x.1)

  unfoldable pub arguments_in : ℕ → Reader (List Expr × ℕ)
  arguments_in deepest = λ ts. if sees Close ts then Ok (([], deepest), next ts) else arguments_from (turns ts) [] deepest ts

  abbrev pub read_production : ℕ → Production → Reader Measured
  read_production deepest (gives tree) = pure (tree, deepest + 1)
  read_production deepest (mark which rest) = expect which >> read_production deepest rest
  read_production deepest (typed rest) = type_name >>= (λ ty. read_production deepest (rest ty))
  read_production deepest (named rest) = name >>= (λ n. read_production deepest (rest n))
  read_production deepest (part rest) = part_in deepest >>= (λ x. read_production x.1 (rest x.0))
  read_production deepest (arguments rest) = arguments_in deepest >>= (λ x. read_production x.1 (rest x.0))
  read_production deepest (choice which one other) = λ ts.
      if sees which ts then (if opens one then (if room == 0 then Err (read_errs.Fault DeepNesting, ts) else read_production deepest one (next ts)) else read_production deepest one (next ts))
      else read_production deepest other ts

  abbrev pub started : Start → Reader Measured
  started (Leaf production) = take_token >> read_production 0 production
  started (Inner production) = if room == 0 then too_deep else take_token >> read_production 0 production
  started Nothing = refuse

  unfoldable pub primary : Token → Reader Measured
  primary t = started (start_of t.at t.kind)

  -- what goes on behind an expression
  abbrev pub suffixed : Measured → Suffix → Reader Measured
  suffixed x suffix = if nat_lt room x.1 then too_deep else take_token >> read_production x.1 (suffix_production x.0 suffix)

  abbrev pub suffix_by : Option Suffix → Measured → (Measured → Reader Measured) → Reader Measured
  suffix_by None x again = pure x
  suffix_by (Some suffix) x again = suffixed x suffix >>= again

  unfoldable pub suffixes_from : ℕ → Measured → Reader Measured
  suffixes_from zero x = pure x
  suffixes_from (suc n) x = λ ts. suffix_by (suffix_at (first ts)) x (suffixes_from n) ts

  unfoldable pub suffixes : Measured → Reader Measured
  suffixes x = λ ts. suffixes_from (turns ts) x ts

  -- an operator before its operand
  unfoldable pub prefixed : Span → Unary → ℕ → Reader Measured
  prefixed at operator level = if room == 0 then too_deep else (do
    take_token
    x ← inner level
    pure (e.Unary at operator x.0, x.1 + 1))

  abbrev pub operand_by : ℕ → Token → Option (Unary × ℕ) → Reader Measured
  operand_by least t (Some p) = if nat_lt p.1 least then refuse else prefixed t.at p.0 p.1
  operand_by least t None = primary t >>= suffixes

  abbrev pub operand_at : ℕ → Option Token → Reader Measured
  operand_at least None = refuse
  operand_at least (Some t) = operand_by least t (prefix_of t.kind)

  unfoldable pub operand : ℕ → Reader Measured
  operand least = λ ts. operand_at least (first ts) ts

  -- an operator and what is on its right, behind its left operand
  unfoldable pub operated : Measured → Operator → Reader Measured
  operated x operator = if nat_lt room x.1 then too_deep else (do
    take_token
    y ← inner (operator.level + 1)
    pure (e.Binary (place_of x.0) x.0 operator.which operator.at y.0, max x.1 y.1 + 1))

  abbrev pub climb_by : Option Operator → Measured → (Measured → Reader Measured) → Reader Measured
  climb_by None x again = pure x
  climb_by (Some operator) x again = operated x operator >>= again

  -- operators of at least this level, which group from the left. The second number bounds the turns.
  unfoldable pub climb_from : ℕ → ℕ → Measured → Reader Measured
  climb_from least zero x = pure x
  climb_from least (suc n) x = λ ts. climb_by (operator_at least (first ts)) x (climb_from least n) ts

  unfoldable pub climb : ℕ → Measured → Reader Measured
  climb least x = λ ts. climb_from least (turns ts) x ts

  -- an expression whose operators are of at least this level
  unfoldable pub level : ℕ → Reader Measured
  level least = operand least >>= climb least

-- whether a token begins an expression of at least this level
abbrev pub begins_as : ℕ → Token → Option (Unary × ℕ) → Bool
begins_as least t (Some p) = nat_le least p.1
begins_as least t None = begins_operand t.kind

abbrev pub begins : ℕ → Option Token → Bool
begins least None = false
begins least (Some t) = begins_as least t (prefix_of t.kind)

-- where no expression can be deep enough
unfoldable pub no_room : ℕ → Reader Measured
no_room least = λ ts. if begins least (first ts) then Err (read_errs.Fault DeepNesting, ts) else refuse ts

-- An expression that is at most so deep, whose operators outside parentheses are of at least this level.
unfoldable pub expr : ℕ → ℕ → Reader Measured
expr zero least = no_room least
expr (suc room) least = level (expr room) room least

-- ---- from a place of a list of tokens on

-- the place of the last token
abbrev pub place_or : Span → Option Token → Span
place_or other None = other
place_or other (Some t) = t.at

abbrev pub last_place : List Token → Span
last_place tokens = place_or (record { line = 1; col = 1 }) (slice_get tokens (length tokens - 1))

-- the place of a fault: its token's, or the last token's where the text ends too early
abbrev pub fault_place : List Token → List Token → Span
fault_place tokens rest = place_or (last_place tokens) (first rest)

abbrev pub error_of : List Token → ReadErr → List Token → ParseErr
error_of tokens read_errs.NoMemory rest = errors.NoMemory
error_of tokens (read_errs.Fault kind) rest = errors.Fault (record { kind = kind; at = fault_place tokens rest })

abbrev pub told : List Token → Outcome Measured → Result (Expr × ℕ) ParseErr
told tokens (Ok x) = Ok (x.0.0, length tokens - length x.1)
told tokens (Err e) = Err (error_of tokens e.0 e.1)

-- The longest expression from a place on and the place behind it, or the first fault.
abbrev pub expr_at : List Token → ℕ → Result (Expr × ℕ) ParseErr
expr_at tokens at = told tokens (expr 200 1 (drop at tokens))

-- what is answered, unless memory fails
abbrev pub Answers : {A : Type 0} → Result A ParseErr → Result A ParseErr → Type 0
Answers answer (Ok a) = answer ≡ Ok a
Answers answer (Err e) = e ≢ errors.NoMemory → answer ≡ Err e
