use Rattle.std.proofs.Common.{◌≡◌, ◌++◌, ◌+◌, ◌*◌, ◌-◌, ◌≤◌, replicate}
use Rattle.std.specs.Prelude.{vec_len, vec_capacity}
use Rattle.str_heap.proofs.heap.grow.Given as goal

abbrev pub invariant-loop-i : goal.invariant-loop-i
invariant-loop-i l = record {
  lengths : l.lengths.items ≡ l.fn.lengths.items ++ replicate l._i 0;
  arena : l.arena.items ≡ l.fn.arena.items ++ replicate (16 * l._i) 0;
  room : vec_len l.lengths + (l.n - l._i) ≤ vec_capacity l.lengths;
  space : vec_len l.arena + 16 * (l.n - l._i) ≤ vec_capacity l.arena;
}
