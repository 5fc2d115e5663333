use Rattle.std.proofs.Common.{◌≡◌, ◌++◌, drop}
use Rattle.rv_select.specs.Slots.{place_of}
use Rattle.rv_select.specs.Layout.{body_code, reaches}
use Rattle.rv_select.specs.Starts.{start_at}
use Rattle.rv_select.proofs.layout.put_body.Given as goal

-- the code so far, with that of what is left
abbrev pub invariant-loop-one : goal.invariant-loop-one
invariant-loop-one l = record {
  place : l.at ≡ l.one-index;
  code : l.code.items ++ body_code (place_of l.slots) (start_at l.starts) l.at l.line (drop l.one-index l.ops) ≡ l.initial.code.items ++ body_code (place_of l.slots) (start_at l.starts) 0 1 l.ops;
  jumps : reaches (start_at l.starts) l.at (drop l.one-index l.ops) ≡ reaches (start_at l.starts) 0 l.ops;
}
