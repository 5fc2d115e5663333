use Rattle.std.proofs.Common.{◌≡◌}
use Rattle.std.specs.Io.KnownBytes.{Keeps}
use Rattle.host_edge.proofs.host_streams.ReaderSourceSource.read.Given as goal

-- interrupted reads took nothing, and are no faults
abbrev pub invariant-loop : goal.invariant-loop
invariant-loop g l =
    let reader = g.R.Read in
    record {
      kept : Keeps (reader.remaining l.fn.self.reader) (reader.remaining l.self.reader);
      faults : l.self.faults ≡ l.fn.self.faults;
    }
