use Rattle.std.proofs.Common.{◌≡◌, ℕ, length}
use Rattle.rv_isa.specs.Words.{stored}
use Rattle.rv_step.specs.Pages.{byte_in}
use Rattle.rv_step.proofs.page.Page.store.Given as goal

abbrev pub invariant-loop-i : goal.invariant-loop-i
invariant-loop-i l = record { kept : length l.self-inside.bytes.items ≡ length l.initial.self-inside.bytes.items; bytes : (q : ℕ) → byte_in l.self-inside.bytes.items q ≡ stored (byte_in l.initial.self-inside.bytes.items) l.k l.i l.value q }
