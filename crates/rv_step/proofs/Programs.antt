use Rattle.std.proofs.Common.{◌≡◌, ℕ, zero, suc, ◌/◌, ◌%◌, Bool, true, false, ◌==◌, if◌then◌else◌, List, [], ◌∷◌, map, Option, Some, None, IfSome, slice_get, option_map, option_and_then, refl, sym, ◌∙◌}
use Rattle.std.proofs.lemmas.Option.{slice_get-map}
use Rattle.std.specs.List.{AllByRecursion}
use Rattle.fb_image.specs.Format.{IsWord}
use Rattle.rv_isa.specs.Encoding.{inst_of, IsInst}
use Rattle.rv_isa.specs.declared.inst.Inst.{Inst}
use Rattle.rv_isa.proofs.Spelt.{spelt}

-- What a list of decoded words has.

none_by : (o : Option ℕ) → option_map inst_of o ≡ None → option_and_then inst_of o ≡ None
none_by None e = refl
none_by (Some w) e = absurd cc

whole : (t : Bool) (found : Option Inst) → found ≡ None → (if t then found else None) ≡ None
whole true found e = e
whole false found e = refl

pub nothing_there : (code : List ℕ) (pc : ℕ) → slice_get (map inst_of code) (pc / 4) ≡ None → (if pc % 4 == 0 then option_and_then inst_of (slice_get code (pc / 4)) else None) ≡ None
nothing_there code pc e = whole (pc % 4 == 0) (option_and_then inst_of (slice_get code (pc / 4))) (none_by (slice_get code (pc / 4)) (sym (slice_get-map inst_of code (pc / 4)) ∙ e))

pub in_range : (code : List ℕ) (k : ℕ) (found : Option Inst) → AllByRecursion IsWord code → slice_get (map inst_of code) k ≡ Some found → IfSome found (λ i. IsInst i)
in_range [] k found words e = absurd cc
in_range (w ∷ ws) zero (Some i) words e = (spelt w i words.0 cc).1
in_range (w ∷ ws) zero None words e = tt
in_range (w ∷ ws) (suc k) found words e = in_range ws k found words.1 e
