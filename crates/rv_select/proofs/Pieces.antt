use Rattle.std.proofs.Common.{◌≡◌, ℕ, zero, suc, ◌-◌, ◌/◌, ◌%◌, ◌<◌, ◌≤◌, [], ◌∷◌, ◌++◌, refl, arith, sub-one}
use Rattle.std.proofs.lemmas.Bool.{le-ltb}
use Rattle.rv_isa.specs.declared.inst.Inst.TheVariants.{Addi, Slli}
use Rattle.rv_select.specs.Emission.{pieces_code}

-- eleven bits more
pub pieces_more : (pieces r n : ℕ) → 0 < pieces → 2048 ≤ n → pieces_code pieces r n ≡ pieces_code (pieces - 1) r (n / 2048) ++ (Slli r r 11 ∷ (Addi r r (n % 2048) ∷ []))
pieces_more zero r n some large = absurd (omega arith)
pieces_more (suc pieces) r n some large = rw (le-ltb n 2048 large, sub-one) refl
