use Rattle.std.proofs.Common.{◌≡◌, drop}
use Rattle.type_table.specs.Walks.{put_listed}
use Rattle.type_table.proofs.walk.put_listed.Given as goal

abbrev pub invariant-loop-var : goal.invariant-loop-var
invariant-loop-var l = put_listed l.walk (drop l.var-index l.vars) ≡ put_listed l.initial.walk l.vars
