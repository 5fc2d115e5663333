use Rattle.std.specs.Prelude.{◌≡◌, ℕ, List, ⊤}
use Rattle.fb_base.specs.declared.fault.Fault.{Fault}
use Rattle.fb_base.specs.declared.fault.FaultKind.TheVariants.{OutOfProfile}
use Rattle.fb_image.specs.declared.image.ImageParts.{ImageParts}
use Rattle.first_language.specs.Tree.{Program}
use Rattle.first_language.specs.Grammar.{IsProgram}
use Rattle.first_lowering.specs.Lowering.{lowered}
use Rattle.rv_select.specs.Layout.{Fits}
use Rattle.rv_select.specs.Image.{parts_of}
use Rattle.fb_top.specs.declared.compiler.CompileErr.{CompileErr}
use Rattle.fb_top.specs.declared.compiler.CompileErr.TheVariants as errors

-- a text that isn't one of the language has its fault at its beginning
abbrev pub no_program : Fault
no_program = record { kind = OutOfProfile; at = record { line = 1; col = 1 } }

-- The image is that of the text's program.
pub record IsCompiled (text : List ℕ) (image : ImageParts) : Type 0 where
  pub program : Program
  pub is : IsProgram text program
  pub fits : Fits (lowered program)
  pub image_is : image ≡ parts_of (lowered program)

-- A text is refused exactly where it isn't one of the language; want of memory has no cause.
abbrev pub IsRefusal : List ℕ → CompileErr → Type 0
IsRefusal text errors.NoMemory = ⊤
IsRefusal text (errors.Fault fault) = (fault ≡ no_program) × ((program : Program) → IsProgram text program → ⊥)
