use Rattle.std.proofs.Common.{arith}
use Rattle.fb_image.proofs.Exact.{parts_take}
use Rattle.fb_image.proofs.reading.image_in.Goals as goal

pub build-requires : goal.build-requires
build-requires c = (parts_take c.args.bytes.now c.in-Ok.parts (λ i. omega (arith, c.type_inv.bytes i)) c.in-Ok.ensures).0.rules
