use Rattle.std.proofs.Common.{arith, ◌≡◌, ◌+◌, ◌*◌, ◌++◌, ◌∷◌, [], ap, ◌∙◌, replicate, ℕ, List}
use Rattle.std.proofs.lemmas.List.{append_assoc, replicate_more, replicate-append-replicate}
use Rattle.str_heap.proofs.heap.grow.Goals as goal

pub loop-i-preserved : goal.loop-i-preserved
loop-i-preserved c =
    let i = c.loop-i._i in
    let e : 16 * i + 16 ≡ 16 * (i + 1) = omega arith in record {
      lengths =
          c.in-Ok.ensures.items ∙ ap (λ (t : List ℕ). t ++ 0 ∷ []) c.loop-i.invariant.lengths
          ∙ append_assoc c.args.lengths.now.items (replicate i 0) (0 ∷ []) ∙ ap (λ (t : List ℕ). c.args.lengths.now.items ++ t) (replicate_more i 0);
      arena =
          c.in-Ok-extend_from_slice.ensures.items ∙ ap (λ (t : List ℕ). t ++ replicate 16 0) c.loop-i.invariant.arena
          ∙ append_assoc c.args.arena.now.items (replicate (16 * i) 0) (replicate 16 0)
          ∙ ap (λ (t : List ℕ). c.args.arena.now.items ++ t) (replicate-append-replicate (16 * i) 16 0 ∙ ap (λ (n : ℕ). replicate n 0) e);
      room = omega (arith, c.in-Ok.ensures.len, c.in-Ok.ensures.capacity);
      space = omega (arith, c.in-Ok-extend_from_slice.ensures.len, c.in-Ok-extend_from_slice.ensures.capacity);
    }
