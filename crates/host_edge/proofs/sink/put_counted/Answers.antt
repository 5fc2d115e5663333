use Rattle.std.proofs.Common.{◌≡◌, ◌+◌, ◌<◌, length, arith, ◌∙◌}
use Rattle.host_edge.proofs.Appending.{appends_next}
use Rattle.host_edge.proofs.sink.put_counted.Goals as goal

pub loop-done-preserved : goal.loop-done-preserved
loop-done-preserved g c =
    let rest : length c.split_at.result.1.now + c.loop-done.done ≡ length c.args.bytes.now = c.split_at.ensures.back_len in
    let some : 0 < c.in-Ok.taken = c.in-Ok.ensures.puts.some (omega arith) in
    record {
      written = appends_next _ _ _ c.args.bytes.now _ _ c.loop-done.invariant.written (rw (← c.split_at.ensures.back) c.in-Ok.ensures.puts.bytes);
      told = c.loop-done.invariant.told ∙ c.in-Ok.ensures.told;
      faults = omega (arith, c.in-Ok.ensures.cause.later);
      room = omega (arith, c.in-Ok.ensures.spare, c.loop-done.invariant.room);
      within = omega (arith, c.in-Ok.ensures.puts.within);
      calls = omega (arith, c.loop-done.invariant.calls);
    }
