use Rattle.std.specs.Prelude.{ℕ, ◌+◌, ◌-◌, ◌*◌, ◌^◌, Bool, not, ◌&&◌, nat_lt, if◌then◌else◌, List, get_or, slice_get, option_and_then}
use Rattle.rv_isa.specs.Encoding.{inst_of}
use Rattle.rv_isa.specs.Machine as isa
use Rattle.fb_image.specs.Lines.{line_of}
use Rattle.fb_image.specs.declared.image.ImageParts.{ImageParts}
use Rattle.rv_step.specs.Pages.{byte_at}
use Rattle.rv_step.specs.declared.cpu.Cpu.{Cpu}

-- The first address of the own stack of a thread.
abbrev pub stack_of : ℕ → ℕ
stack_of thread = 2 ^ 62 + thread * 2 ^ 32

-- the bytes of a stack by address
abbrev pub bytes_from : ℕ → List (List ℕ) → ℕ → ℕ
bytes_from low pages a = if not (nat_lt a low) && nat_lt a (low + 2 ^ 32) then byte_at pages (a - low) else 0

-- the registers by number
abbrev pub regs_of : List ℕ → ℕ → ℕ
regs_of regs r = get_or regs r 0

-- What a thread of the code is as one of the machine.
abbrev pub cpu_of : Cpu → isa.Cpu
cpu_of c = record { pc = c.pc; regs = regs_of c.regs; bytes = bytes_from c.low c.stack }

-- The machine of an image for a thread whose stack begins at an address: the instruction of each code word, and its
-- line.
abbrev pub machine_of : ImageParts → ℕ → isa.Machine
machine_of image low = record { fetch = λ k. option_and_then inst_of (slice_get image.code k); line = λ k. line_of image.lines k; low = low }

-- A thread at its start: register 2 has its stack's end and register 10 its parameter, and all else is zero.
abbrev pub first_cpu : (thread pc param : ℕ) → isa.Cpu
first_cpu thread pc param = record { pc = pc; regs = isa.with_reg (isa.with_reg (λ r. 0) 2 (stack_of thread + 2 ^ 32)) 10 param; bytes = λ a. 0 }
