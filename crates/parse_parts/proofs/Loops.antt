-- Loops over things one after another, beside the recursion on a count of turns that they carry out.
use Rattle.std.proofs.Common.{◌≡◌, ℕ, ◌+◌, ◌-◌, ◌<◌, ◌≤◌, Bool, true, false, if◌then◌else◌, List, Ok, Err, refl}
use Rattle.fb_lexer.specs.declared.token.Token.{Token}
use Rattle.parse_expr.specs.declared.error.ReadErr.{ReadErr}
use Rattle.parse_expr.specs.declared.error.ReadErr.TheVariants.{Fault}
use Rattle.parse_expr.specs.Reading.{Outcome, first, next, refusal, and_then, pure}
use Rattle.parse_expr.proofs.Turns.{one_more, no_more}
use Rattle.parse_parts.specs.Steps.{Turn, repeat, words, weight_at}

-- ---- words

pub words_on : (n at : ℕ) (ts : List Token) → at < n → words (n - at) ts ≡ weight_at (first ts) + words (n - (at + 1)) (next ts)
unfolding words
words_on n at ts below = one_more (λ (k : ℕ). words k ts) n at below refl

pub words_out : (n at : ℕ) (ts : List Token) → n ≤ at → words (n - at) ts ≡ 0
unfolding words
words_out n at ts done = no_more (λ (k : ℕ). words k ts) n at done refl

-- ---- series of things

module _ {S : Type 0} (turn : Turn S) {x : Outcome S} (n at : ℕ) (found : S) (ts : List Token) (is : x ≡ repeat turn (n - at) found ts) where
  pub one : at < n → x ≡ and_then (turn found ts) (λ p. if p.1 then repeat turn (n - (at + 1)) p.0 else pure p.0)
  unfolding repeat
  one below = one_more (λ (k : ℕ). repeat turn k found ts) n at below is

  -- a turn that goes on
  pub on : (all : S) (more : Bool) (rest : List Token) → at < n → turn found ts ≡ Ok ((all, more), rest) → more ≡ true → x ≡ repeat turn (n - (at + 1)) all rest
  on all more rest below turned goes = let e = one below in rw (turned, goes) at e

  -- the last turn
  pub last : (all : S) (more : Bool) (rest : List Token) → at < n → turn found ts ≡ Ok ((all, more), rest) → more ≡ false → x ≡ Ok (all, rest)
  last all more rest below turned stops = let e = one below in rw (turned, stops) at e

  -- a turn with a fault
  pub failed : (stop : ReadErr) (rest : List Token) → at < n → turn found ts ≡ Err (stop, rest) → x ≡ Err (stop, rest)
  failed stop rest below turned = let e = one below in rw turned at e

  -- no turn is left
  pub out : n ≤ at → x ≡ Err (Fault (refusal ts), ts)
  unfolding repeat
  out done = no_more (λ (k : ℕ). repeat turn k found ts) n at done is
