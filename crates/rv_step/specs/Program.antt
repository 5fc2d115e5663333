use Rattle.std.specs.Prelude.{◌≡◌, List, map, Option}
use Rattle.fb_image.specs.Format.{IsImage}
use Rattle.fb_image.specs.declared.image.ImageParts.{ImageParts}
use Rattle.rv_isa.specs.Encoding.{inst_of}
use Rattle.rv_isa.specs.declared.inst.Inst.{Inst}

-- A list has the instruction of each code word of an image, in their order, and nothing where a word has none.
pub record IsDecoded (image : ImageParts) (insts : List (Option Inst)) : Type 0 where
  pub rules : IsImage image
  pub each : insts ≡ map inst_of image.code
