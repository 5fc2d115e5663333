use Rattle.std.proofs.Common.{◌≡◌, ◌++◌, drop, length}
use Rattle.rv_select.specs.Layout.{code_from, entries_from, FitFrom}
use Rattle.rv_select.proofs.layout.selected_code.Given as goal

-- the code so far, with that of the procedures that are left
abbrev pub invariant-loop-proc : goal.invariant-loop-proc
invariant-loop-proc l = record {
  place : l.p ≡ l.proc-index;
  code : l.code.items ++ code_from (length l.code.items) l.p (drop l.proc-index l.procs) ≡ code_from 0 0 l.procs;
  entries : l.entries ++ entries_from (length l.code.items) l.p (drop l.proc-index l.procs) ≡ entries_from 0 0 l.procs;
  fits : FitFrom (length l.code.items) l.p (drop l.proc-index l.procs) → FitFrom 0 0 l.procs;
}
