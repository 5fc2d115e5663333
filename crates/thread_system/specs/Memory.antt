use Rattle.std.specs.Prelude.{ℕ, zero, suc, ◌+◌, ◌*◌, ◌/◌, ◌%◌, ◌^◌, ◌==◌, if◌then◌else◌, Option, Some, option_map, option_and_then}

-- What a thread sees of the memory that all threads share: the byte at each address, where it may be accessed.
abbrev pub Memory : Type 0
Memory = ℕ → Option ℕ

-- The address that follows another: after the last one comes address 0.
abbrev pub next_address : ℕ → ℕ
next_address a = (a + 1) % 2 ^ 64

-- The number that so many bytes from an address on spell, the lowest first; none where one may not be accessed.
abbrev pub read : Memory → ℕ → ℕ → Option ℕ
read m a zero = Some 0
read m a (suc width) = option_and_then (λ low. option_map (λ high. low + 256 * high) (read m (next_address a) width)) (m a)

-- The memory with another byte at one address.
abbrev pub with_byte : Memory → ℕ → ℕ → Memory
with_byte m a byte = λ q. if q == a then Some byte else m q

-- The memory after a value was written in so many bytes from an address on; none where one may not be accessed.
abbrev pub write : Memory → ℕ → ℕ → ℕ → Option Memory
write m a zero value = Some m
write m a (suc width) value = option_and_then (λ _. option_map (λ rest. with_byte rest a (value % 256)) (write m (next_address a) width (value / 256))) (m a)
