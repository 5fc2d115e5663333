-- A function value that reads expressions which are at most so deep.
use Rattle.std.specs.Prelude.{ℕ, ◌≤◌, Result, IfOk}
use Rattle.std.specs.declared.alloc.Global.{Global}
use denote.Ref.{MutBor}
use Rattle.fb_lexer.specs.declared.token.Token.{Token}
use Rattle.parse_expr.specs.declared.error.ReadErr.{ReadErr}
use Rattle.parse_expr.specs.Reading.{Reads}
use Rattle.parse_expr.specs.Expr.{expr, Measured}
use Rattle.std.specs.Prelude.{List}

pub record Nests (room : ℕ) (pre : Global → MutBor (List Token) → ℕ → ℕ → Type 0)
    (post : Global → MutBor (List Token) → ℕ → ℕ → Result Measured ReadErr → MutBor (List Token) → Type 0) : Type 0 where
  pub small : room ≤ 199
  pub callable : (alloc : Global) (old : MutBor (List Token)) (least : ℕ) → pre alloc old room least
  pub reads : (alloc : Global) (old new : MutBor (List Token)) (least : ℕ) (r : Result Measured ReadErr) → post alloc old room least r new
      → Reads (expr room least old.now) r new.now
  pub within : (alloc : Global) (old new : MutBor (List Token)) (least : ℕ) (r : Result Measured ReadErr) → post alloc old room least r new
      → IfOk r (λ x. x.1 ≤ room)
