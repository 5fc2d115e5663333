use Rattle.std.proofs.Common.{◌+◌, ◌-◌, ◌≤◌, length, take}
use Rattle.std.specs.Io.KnownBytes.{Appends}
use Rattle.host_edge.specs.Streams.{SameTelling}
use Rattle.host_edge.proofs.sink.put_counted.Given as goal

-- the first bytes, as many as are done, were appended, in at most as many calls
abbrev pub invariant-loop-done : goal.invariant-loop-done
invariant-loop-done g l =
    let sink = g.K.Sink in
    record {
      written : Appends (sink.written l.fn.sink) (sink.written l.sink) (take l.done l.bytes);
      told : SameTelling (sink.written l.fn.sink) (sink.written l.sink);
      faults : sink.faults l.fn.sink ≤ sink.faults l.sink;
      room : length l.bytes ≤ sink.spare l.sink + l.done;
      within : l.done ≤ length l.bytes;
      calls : l.calls ≤ l.done;
    }

abbrev pub decreases-loop-done : goal.decreases-loop-done
decreases-loop-done g l = length l.bytes - l.done
