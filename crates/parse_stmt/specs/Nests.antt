-- A function value that reads statements which are at most so deep.
use Rattle.std.specs.Prelude.{ℕ, ◌≤◌, List, Result}
use Rattle.std.specs.declared.alloc.Global.{Global}
use denote.Ref.{MutBor}
use Rattle.fb_lexer.specs.declared.token.Token.{Token}
use Rattle.fb_ast.specs.declared.stmt.Stmt.{Stmt}
use Rattle.parse_expr.specs.declared.error.ReadErr.{ReadErr}
use Rattle.parse_expr.specs.Reading.{Reads}
use Rattle.parse_parts.specs.declared.kinds.Spot.{Spot}
use Rattle.parse_stmt.specs.Blocks.{stmt}

pub record Nests (room : ℕ) (pre : Global → MutBor (List Token) → ℕ → Spot → Type 0)
    (post : Global → MutBor (List Token) → ℕ → Spot → Result Stmt ReadErr → MutBor (List Token) → Type 0) : Type 0 where
  pub small : room ≤ 199
  pub callable : (alloc : Global) (old : MutBor (List Token)) (spot : Spot) → pre alloc old room spot
  pub reads : (alloc : Global) (old new : MutBor (List Token)) (spot : Spot) (r : Result Stmt ReadErr) → post alloc old room spot r new
      → Reads (stmt 200 room spot old.now) r new.now
