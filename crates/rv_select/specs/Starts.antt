-- Where the operations of a procedure begin, as a list.
use Rattle.std.specs.Prelude.{ℕ, ◌+◌, List, [], ◌∷◌, get_or}
use Rattle.mid_code.specs.declared.reg.Reg.{Reg}
use Rattle.mid_code.specs.declared.op.LinedOp.{LinedOp}
use Rattle.rv_select.specs.declared.starts.Starts.{Starts}
use Rattle.rv_select.specs.Places.{Place}
use Rattle.rv_select.specs.Sizes.{size_of}

-- the first code word of the operation at a position; where there is none, the end
abbrev pub start_at : Starts → ℕ → ℕ
start_at s i = get_or s.places.items i s.end

abbrev pub starts_from : (Reg → Place) → ℕ → List LinedOp → List ℕ
starts_from place k [] = []
starts_from place k (o ∷ ops) = k ∷ starts_from place (k + size_of place o.op) ops

abbrev pub end_from : (Reg → Place) → ℕ → List LinedOp → ℕ
end_from place k [] = k
end_from place k (o ∷ ops) = end_from place (k + size_of place o.op) ops
