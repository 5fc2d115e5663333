use Rattle.std.proofs.Common.{◌≡◌}
use Rattle.std.specs.Io.KnownBytes.{Keeps}
use Rattle.host_edge.proofs.host_streams.WriterSinkSink.put.Given as goal

-- interrupted writes appended nothing, and are no faults
abbrev pub invariant-loop : goal.invariant-loop
invariant-loop g l =
    let writer = g.W.Write in
    record {
      kept : Keeps (writer.contents l.fn.self.writer) (writer.contents l.self.writer);
      faults : l.self.faults ≡ l.fn.self.faults;
    }
