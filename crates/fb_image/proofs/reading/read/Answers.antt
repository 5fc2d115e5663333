use Rattle.std.proofs.Common.{arith}
use Rattle.fb_image.proofs.Readings.{is_found, is_only}
use Rattle.fb_image.proofs.reading.read.Goals as goal

pub returns-clause-found : goal.returns-clause-found
returns-clause-found c = is_found c.args.bytes.now c.image_in.result (λ i. omega (arith, c.type_inv.bytes i)) c.image_in.ensures

pub returns-clause-only : goal.returns-clause-only
returns-clause-only c p image e = is_only c.args.bytes.now c.image_in.result p image e c.image_in.ensures
