-- What a reader of the program answers, beside what reading gives.
use Rattle.std.specs.Prelude.{◌≡◌, ℕ, ◌-◌, List, length, Result, Ok, Err}
use Rattle.fb_base.specs.declared.ending.ImageWhy.{ImageWhy}
use Rattle.fb_image.specs.declared.fault.ReadErr.{ReadErr}
use Rattle.fb_image.specs.declared.fault.ReadErr.TheVariants as read_errs
use Rattle.fb_image.specs.declared.fault.ImageErr.{ImageErr}
use Rattle.fb_image.specs.declared.fault.ImageErr.TheVariants as errors
use Rattle.fb_image.specs.declared.image.ImageParts.{ImageParts}
use Rattle.fb_image.specs.Reading.{Fault, parts_of}

abbrev pub Fails : {Y : Type 0} → ReadErr → Result Y Fault → Type 0
Fails read_errs.NoMemory read = Unit {0}
Fails (read_errs.At left why) read = read ≡ Err (record { left = left; why = why })

-- what a reader returned, seen by view, is what reading gives, unless memory ran out
abbrev pub Gives : {X Y : Type 0} → (X → Y) → Result X ReadErr → Result Y Fault → Type 0
Gives view (Ok x) read = read ≡ Ok (view x)
Gives view (Err e) read = Fails e read

-- where in so many bytes a fault stands, counted from 0, and why
pub record FaultAt : Type 0 where
  pub at : ℕ
  pub why : ImageWhy

abbrev pub placed : ℕ → Result ImageParts Fault → Result ImageParts FaultAt
placed size (Ok parts) = Ok parts
placed size (Err f) = Err (record { at = size - f.left; why = f.why })

-- the image that the bytes spell, or their first fault and where it stands
abbrev pub image_of : List ℕ → Result ImageParts FaultAt
image_of bytes = placed (length bytes) (parts_of bytes)

-- what is answered is what reading gives, unless memory ran out
abbrev pub Reads : Result ImageParts ImageErr → Result ImageParts FaultAt → Type 0
Reads (Ok image) read = read ≡ Ok image
Reads (Err errors.NoMemory) read = Unit {0}
Reads (Err (errors.At at why)) read = read ≡ Err (record { at = at; why = why })
