use Rattle.std.proofs.Common.{◌≡◌, ℕ, zero, suc, ◌+◌, ◌-◌, ◌*◌, ◌/◌, ◌%◌, ◌^◌, ◌<◌, ◌≤◌, Bool, true, false, List, length, get_or, set, Option, Some, None, is_some, refl, ap, sym, ◌∙◌, arith, length-set}
use Rattle.std.specs.Option.{option_map, option_and_then}
use Rattle.thread_system.specs.Memory.{Memory, next_address, read}
use Rattle.places.specs.Place.{with_flags, with_number, number_in}
use Rattle.places.proofs.Bytes.{next_below}

-- Flags that are set, and numbers in bytes.

pub flags_next : (flags : List Bool) (all : List Bool) (i end : ℕ) → i < end → with_flags i (end - i) flags ≡ all → with_flags (i + 1) (end - (i + 1)) (set flags i true) ≡ all
flags_next flags all i end h e =
    let n : suc (end - (i + 1)) ≡ end - i = omega arith in
    ap (λ k. with_flags i k flags) n ∙ e

pub flags_end : (flags : List Bool) (all : List Bool) (i end : ℕ) → end ≤ i → with_flags i (end - i) flags ≡ all → flags ≡ all
flags_end flags all i end h e =
    let n : 0 ≡ end - i = omega arith in
    ap (λ k. with_flags i k flags) n ∙ e

pub length_flags : (i n : ℕ) (flags : List Bool) → length (with_flags i n flags) ≡ length flags
length_flags i zero flags = refl
length_flags i (suc n) flags = length_flags (i + 1) n (set flags i true) ∙ length-set flags i true

pub length_number : (o width value : ℕ) (bytes : List ℕ) → length (with_number o width value bytes) ≡ length bytes
length_number o zero value bytes = refl
length_number o (suc width) value bytes = length-set (with_number (o + 1) width (value / 256) bytes) o (value % 256) ∙ length_number (o + 1) width (value / 256) bytes

-- the number of bytes that may all be read
pub read_open : (m : Memory) (bytes : List ℕ) → ((q : ℕ) → is_some (m q) ≡ true → m q ≡ Some (get_or bytes q 0)) → (width o : ℕ) → o + width < 2 ^ 64 → is_some (read m o width) ≡ true → read m o width ≡ Some (number_in bytes o width)
read_open m bytes same zero o low allowed = refl
read_open m bytes same (suc width) o low allowed = by_byte (m o) refl (λ r. read_open m bytes same width (o + 1) (omega arith) r) where
  next : next_address o ≡ o + 1
  next = next_below o (omega arith)

  by_rest : (low_byte : ℕ) → Some low_byte ≡ Some (get_or bytes o 0) → (rest : Option ℕ) → rest ≡ read m (next_address o) width → is_some (option_map (λ high. low_byte + 256 * high) rest) ≡ true → (is_some (read m (o + 1) width) ≡ true → read m (o + 1) width ≡ Some (number_in bytes (o + 1) width)) → option_map (λ high. low_byte + 256 * high) rest ≡ Some (number_in bytes o (suc width))
  by_rest low_byte here None is some rest_is = cc
  by_rest low_byte here (Some high) is some rest_is =
      let e : read m (o + 1) width ≡ Some high = ap (λ a. read m a width) (sym next) ∙ sym is in
      let s : is_some (read m (o + 1) width) ≡ true = ap is_some e in
      let f : Some high ≡ Some (number_in bytes (o + 1) width) = sym e ∙ rest_is s in
      let g : high ≡ number_in bytes (o + 1) width = cc in
      let k : low_byte ≡ get_or bytes o 0 = cc in
      ap (λ h. Some (low_byte + 256 * h)) g ∙ ap (λ b. Some (b + 256 * number_in bytes (o + 1) width)) k

  by_byte : (byte : Option ℕ) → m o ≡ byte → (is_some (read m (o + 1) width) ≡ true → read m (o + 1) width ≡ Some (number_in bytes (o + 1) width)) → read m o (suc width) ≡ Some (number_in bytes o (suc width))
  by_byte None is rest = absurd (closed (sym (ap (λ x. is_some (option_and_then (λ b. option_map (λ high. b + 256 * high) (read m (next_address o) width)) x)) is) ∙ allowed)) where
    closed : false ≡ true → ⊥
    closed e = cc
  by_byte (Some b) is rest =
      let some : is_some (m o) ≡ true = ap is_some is in
      let here : Some b ≡ Some (get_or bytes o 0) = sym is ∙ same o some in
      ap (λ x. option_and_then (λ c. option_map (λ high. c + 256 * high) (read m (next_address o) width)) x) is
      ∙ by_rest b here (read m (next_address o) width) refl (sym (ap (λ x. is_some (option_and_then (λ c. option_map (λ high. c + 256 * high) (read m (next_address o) width)) x)) is) ∙ allowed) rest
