use Rattle.std.proofs.Common.{◌≡◌, drop}
use Rattle.type_table.specs.Walks.{put_vars}
use Rattle.type_table.proofs.walk.put_vars.Given as goal

abbrev pub invariant-loop-var : goal.invariant-loop-var
invariant-loop-var l = put_vars l.walk (drop l.var-index l.vars) ≡ put_vars l.initial.walk l.vars
