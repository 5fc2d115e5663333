-- Bytes in an arena: what writing at a place leaves, and the strings that it holds.
use Rattle.std.proofs.Common.{◌≡◌, ℕ, zero, suc, ◌+◌, ◌-◌, ◌*◌, ◌≤◌, List, [], ◌∷◌, ◌++◌, length, take, drop, get_or, replicate, refl, sym, ap, ◌∙◌, arith, length-append, length-take, length-drop}
use Rattle.std.proofs.lemmas.List.{drop_at, take_at, take-append-le, drop-append-le, drop-drop, drop-take, take-take}
use Rattle.str_heap.specs.Payloads.{contents}

-- the string at a block, in the arena
pub contents-at : (lengths arena : List ℕ) (k : ℕ) → get_or (contents lengths arena) k [] ≡ take (get_or lengths k 0) (drop (16 * k) arena)
contents-at [] arena k = refl
contents-at (n ∷ lengths) arena zero = refl
contents-at (n ∷ lengths) arena (suc k) =
    let e : 16 + 16 * k ≡ 16 * suc k = omega arith in
    contents-at lengths (drop 16 arena) k ∙ ap (take (get_or lengths k 0)) (drop-drop (16 * k) 16 arena ∙ ap (λ (m : ℕ). drop m arena) e)

-- these bytes from a place on, and all others as they were
abbrev pub written : ℕ → List ℕ → List ℕ → List ℕ
written s bytes arena = take s arena ++ (bytes ++ drop (s + length bytes) arena)

module _ (s : ℕ) (bytes arena : List ℕ) (fits : s + length bytes ≤ length arena) where
  front : length (take s arena) ≡ s
  front = length-take s arena ∙ omega arith

  pub length-written : length (written s bytes arena) ≡ length arena
  length-written = rw (length-append, length-append, length-take, length-drop) (omega arith)

  from_place : drop s (written s bytes arena) ≡ bytes ++ drop (s + length bytes) arena
  from_place = drop_at (take s arena) (bytes ++ drop (s + length bytes) arena) s front

  pub written-here : take (length bytes) (drop s (written s bytes arena)) ≡ bytes
  written-here = ap (take (length bytes)) from_place ∙ take_at bytes (drop (s + length bytes) arena) (length bytes) refl

  pub written-behind : (a : ℕ) → s + length bytes ≤ a → drop a (written s bytes arena) ≡ drop a arena
  written-behind a le =
      let r = a - (s + length bytes) in
      let e : s + length bytes + r ≡ a = omega arith in
      let end : drop (s + length bytes) (written s bytes arena) ≡ drop (s + length bytes) arena =
      sym (drop-drop (length bytes) s (written s bytes arena)) ∙ ap (drop (length bytes)) from_place ∙ drop_at bytes (drop (s + length bytes) arena) (length bytes) refl
      in
      ap (λ (m : ℕ). drop m (written s bytes arena)) (sym e) ∙ sym (drop-drop r (s + length bytes) (written s bytes arena)) ∙ ap (drop r) end
      ∙ drop-drop r (s + length bytes) arena ∙ ap (λ (m : ℕ). drop m arena) e

  pub written-before : (a m : ℕ) → a + m ≤ s → take m (drop a (written s bytes arena)) ≡ take m (drop a arena)
  written-before a m le =
      let tail = bytes ++ drop (s + length bytes) arena in
      let e : a + (s - a) ≡ s = omega arith in
      let cut : drop a (take s arena) ≡ take (s - a) (drop a arena) = ap (λ (k : ℕ). drop a (take k arena)) (sym e) ∙ drop-take a (s - a) arena in
      ap (take m) (drop-append-le a (take s arena) tail (rw front (omega arith)))
      ∙ take-append-le m (drop a (take s arena)) tail (rw (length-drop, front) (omega arith))
      ∙ ap (take m) cut ∙ take-take m (s - a) (drop a arena) (omega arith)

-- an arena that has grown
pub grown-kept : (arena more : List ℕ) (a m : ℕ) → a + m ≤ length arena → take m (drop a (arena ++ more)) ≡ take m (drop a arena)
grown-kept arena more a m le =
    ap (take m) (drop-append-le a arena more (omega arith)) ∙ take-append-le m (drop a arena) more (rw length-drop (omega arith))

pub get_or-grown : (xs : List ℕ) (m k : ℕ) → get_or (xs ++ replicate m 0) k 0 ≡ get_or xs k 0
get_or-grown [] zero k = refl
get_or-grown [] (suc m) zero = refl
get_or-grown [] (suc m) (suc k) = get_or-grown [] m k
get_or-grown (x ∷ xs) m zero = refl
get_or-grown (x ∷ xs) m (suc k) = get_or-grown xs m k
