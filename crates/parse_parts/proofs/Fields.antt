-- The first field among the members of a Type.
use Rattle.std.proofs.Common.{◌≡◌, ◌<◌, ℕ, ◌+◌, true, false, List, ◌∷◌, length, drop, get_or, refl, sym, ap, ◌∙◌}
use Rattle.std.proofs.lemmas.List.{at_drop_more}
use Rattle.fb_ast.specs.declared.part.Member.{Member}
use Rattle.parse_parts.specs.Members.{is_field, has_field}

-- the members from a place on begin with the one that stands there
from_here : (ms : List Member) (i : ℕ) (m : Member) → i < length ms → m ≡ get_or ms i m → has_field (drop i ms) ≡ has_field (m ∷ drop (i + 1) ms)
from_here ms i m within is = at_drop_more has_field ms i m within ∙ ap (λ (x : Member). has_field (x ∷ drop (i + 1) ms)) (sym is)

pub field_here : (ms : List Member) (i : ℕ) (m : Member) → i < length ms → m ≡ get_or ms i m → is_field m ≡ true → has_field (drop i ms) ≡ true
unfolding has_field
field_here ms i m within is field = from_here ms i m within is ∙ rw field refl

pub field_later : (ms : List Member) (i : ℕ) (m : Member) → i < length ms → m ≡ get_or ms i m → is_field m ≡ false → has_field (drop i ms) ≡ has_field (drop (i + 1) ms)
unfolding has_field
field_later ms i m within is none = from_here ms i m within is ∙ rw none refl
