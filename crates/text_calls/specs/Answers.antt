-- How a call answers.
use Rattle.std.specs.Prelude.{◌≡◌, ℕ, false, List, Result, Ok, Err}
use Rattle.places.specs.Memory.{Places, byte_at, is_live, head_at, next_number}
use Rattle.text_calls.specs.declared.outcome.Outcome.{Outcome}
use Rattle.text_calls.specs.declared.outcome.Outcome.TheVariants.{Trapped}
use Rattle.text_calls.specs.declared.outcome.TextErr.{TextErr}
use Rattle.text_calls.specs.declared.outcome.TextErr.TheVariants.{NoMemory, Trap}
use Rattle.text_calls.specs.Strings.{strings_of}
use Rattle.text_calls.specs.Outcomes.{is_trap, result_of, after}

-- An outcome is told, unless memory fails; and it doesn't where the outcome is a trap.
abbrev pub Tells : {E : Type 0} → Outcome → Result Outcome E → Type 0
Tells outcome (Ok told) = told ≡ outcome
Tells outcome (Err e) = is_trap outcome ≡ false

-- everything but the cells stays: bytes, live bytes, places and the next number
pub record KeepsRest (old new : Places) : Type 0 where
  pub bytes : (q : ℕ) → byte_at new q ≡ byte_at old q
  pub live : (q : ℕ) → is_live new q ≡ is_live old q
  pub heads : (n : ℕ) → head_at new n ≡ head_at old n
  pub next : next_number new ≡ next_number old

-- the strings are those after the outcome, and everything else stays
pub record Leaves (outcome : Outcome) (old : Places) (heap : List (List ℕ)) (new : Places) (heap' : List (List ℕ)) : Type 0 where
  pub strings : (a : ℕ) → strings_of new heap' a ≡ after outcome (strings_of old heap) a
  pub rest : KeepsRest old new

-- A trap is answered exactly where the outcome is one, and changes nothing; want of memory changes nothing.
abbrev pub Answers : Outcome → (old : Places) → (heap : List (List ℕ)) → (new : Places) → (heap' : List (List ℕ)) → Result ℕ TextErr → Type 0
Answers outcome old heap new heap' (Ok number) = (is_trap outcome ≡ false) × (number ≡ result_of outcome) × Leaves outcome old heap new heap'
Answers outcome old heap new heap' (Err (Trap kind)) = (outcome ≡ Trapped kind) × (new ≡ old) × (heap' ≡ heap)
Answers outcome old heap new heap' (Err NoMemory) = (is_trap outcome ≡ false) × (new ≡ old) × (heap' ≡ heap)
