-- Where the values of middle code's registers stand while a procedure runs.
use Rattle.std.specs.Prelude.{◌≢◌, ℕ, ◌+◌, ◌*◌, ◌/◌, ◌%◌, ◌^◌, ◌<◌, ◌≤◌, ◌⊎◌, nat_lt, if◌then◌else◌, List, [], ◌∷◌}
use Rattle.rv_isa.specs.Words.{loaded}
use Rattle.rv_isa.specs.Machine.{Cpu, Machine}
use Rattle.rv_isa.specs.declared.inst.Inst.{Inst}
use Rattle.rv_isa.specs.declared.inst.Inst.TheVariants.{Ld, Sd, Lui, Add, Addi}

-- A value stands in a slot of the procedure's frame, or in a register of the machine.
pub data Place : Type 0 where
  Slot : (k : ℕ) → Place
  Real : (q : ℕ) → Place

-- The registers that values may stand in. The others are 0, the return's address (1), the stack's pointer (2), two
-- that are left alone (3 and 4), those of runtime calls (10 to 13 and 17), and the scratch registers 5 to 7.
pub record IsReal (q : ℕ) : Type 0 where
  pub from : 8 ≤ q
  pub below : q < 32
  pub no_argument : (q < 10) ⊎ (13 < q)
  pub no_number : q ≢ 17

-- Every frame has 2 ^ 22 bytes. In it stand the return's address, the caller's registers by number, the slots, and
-- from its middle on the arguments.
abbrev pub frame_size : ℕ
frame_size = 2 ^ 22

-- The frame's address says how many activations may still be opened below it: so many frames are left, and 23 that
-- no activation gets.
abbrev pub frame_of : Machine → ℕ → ℕ
frame_of h room = h.low + frame_size * (room + 23)

abbrev pub slot_off : ℕ → ℕ
slot_off k = 8 * (k + 32)

-- the slots end where the arguments begin
abbrev pub IsPlace : Place → Type 0
IsPlace (Slot k) = k + 33 ≤ 2 ^ 18
IsPlace (Real q) = IsReal q

-- Two places that can't be confused.
abbrev pub Apart : Place → Place → Type 0
Apart (Slot k) (Slot l) = k ≢ l
Apart (Slot k) (Real q) = Unit {0}
Apart (Real q) (Slot k) = Unit {0}
Apart (Real q) (Real r) = q ≢ r

-- What a place has, in a frame of this address.
abbrev pub holds : Place → ℕ → Cpu → ℕ
holds (Slot k) f c = loaded c.bytes (f + slot_off k) 8
holds (Real q) f c = c.regs q

-- ---- the code

-- A register gets a word of the frame: one that is near its address by one instruction, else by three.
abbrev pub load_code : (r off : ℕ) → List Inst
load_code r off =
    if nat_lt off 2048 then Ld r 2 off ∷ []
    else Lui r ((off + 2048) / 4096) ∷ (Add r r 2 ∷ (Ld r r (off % 4096) ∷ []))

-- A word of the frame gets a register. Register 7 takes the address of one that is far.
abbrev pub store_code : (r off : ℕ) → List Inst
store_code r off =
    if nat_lt off 2048 then Sd 2 r off ∷ []
    else Lui 7 ((off + 2048) / 4096) ∷ (Add 7 7 2 ∷ (Sd 7 r (off % 4096) ∷ []))

-- A scratch register gets what a place has.
abbrev pub fetch_code : ℕ → Place → List Inst
fetch_code r (Slot k) = load_code r (slot_off k)
fetch_code r (Real q) = Addi r q 0 ∷ []

-- A place gets what a scratch register has.
abbrev pub keep_code : Place → ℕ → List Inst
keep_code (Slot k) r = store_code r (slot_off k)
keep_code (Real q) r = Addi q r 0 ∷ []
