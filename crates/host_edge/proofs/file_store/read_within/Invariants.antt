use Rattle.std.proofs.Common.{◌≤◌, vec_len}
use Rattle.std.specs.Io.KnownBytes.{Consumes}
use Rattle.host_edge.proofs.file_store.read_within.Given as goal

-- what was taken so far is kept, within the limit
abbrev pub invariant-loop : goal.invariant-loop
invariant-loop g l =
    let file = g.F.Read in
    record {
      taken : Consumes (file.remaining l.fn.file) (file.remaining l.file) l.bytes.items;
      within : vec_len l.bytes ≤ l.limit;
    }
