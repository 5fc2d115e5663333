use Rattle.std.proofs.Common.{◌≡◌, ℕ, List, ap}
use Rattle.places.specs.Memory.{Places}
use Rattle.text_calls.specs.declared.outcome.Outcome.{Outcome}
use Rattle.text_calls.specs.Outcomes.{after}
use Rattle.text_calls.specs.Answers.{Leaves}
use Rattle.run_calls.specs.Seen.{seen_of, with_strings}
use Rattle.run_calls.proofs.Tied.{same_seen, size_by_head, same_used}

-- String calls, as they are seen.

pub text_as_seen : (outcome : Outcome) (old new : Places) (heap heap' : List (List ℕ)) → Leaves outcome old heap new heap' → seen_of new heap' ≡ with_strings (after outcome (seen_of old heap).strings) (seen_of old heap)
text_as_seen outcome old new heap heap' leaves = same_seen (seen_of new heap') (with_strings (after outcome (seen_of old heap).strings) (seen_of old heap))
    leaves.rest.next
    (same_used old new leaves.rest.next (λ n. ap size_by_head (leaves.rest.heads n)))
    leaves.rest.heads
    leaves.rest.live
    leaves.rest.bytes
    leaves.strings
