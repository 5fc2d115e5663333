use Rattle.std.proofs.Common.{◌≡◌, ◌++◌, drop}
use Rattle.rv_select.specs.Layout.{placed}
use Rattle.rv_select.proofs.layout.put_lined.Given as goal

-- the code so far, with what is left
abbrev pub invariant-loop-inst : goal.invariant-loop-inst
invariant-loop-inst l = l.code.items ++ placed l.line (drop l.inst-index l.insts) ≡ l.initial.code.items ++ placed l.line l.insts
