-- The type of a pointer is made of its target's.
use Rattle.std.proofs.Common.{◌≡◌, refl}
use Rattle.fb_ast.specs.declared.ty.Ty.{Ty}
use Rattle.fb_ast.specs.declared.ty.Ty.TheVariants as t
use Rattle.overload_pick.specs.Types.{Pointer, type_of}

pub type_pointer : (target : Ty) → type_of (t.Ptr target) ≡ Pointer (type_of target)
unfolding Rattle.fb_ast.specs.declared.ty.Ty.TheBlock.hidden-the_row-Ty-0 denote.Hole.Carrier.hidden
type_pointer target = refl
