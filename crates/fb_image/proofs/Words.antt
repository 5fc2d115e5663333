-- A field that is read is the field that was written, and what was written is read again.
use Rattle.std.proofs.Common.{◌≡◌, ℕ, ◌+◌, ◌^◌, ◌<◌, ◌≤◌, Bool, true, false, cond, ltb, List, ◌++◌, length, get_or, take, drop, Result, Ok, Err, refl, sym, ap, subst, ◌∙◌, append_assoc, arith, inl, inr}
use Rattle.std.specs.Int.{w32, from_le_bytes}
use Rattle.std.proofs.lemmas.Bool.{cases_lt, ltb-false, le-ltb}
use Rattle.std.proofs.lemmas.List.{take_at, drop_at, take-append-drop, length-append, length-take, get_or-drop, get_or-take, get_or_past}
use Rattle.std.proofs.lemmas.Nat.{le_bytes_4, from_le_bytes-to_le_bytes_4}
use Rattle.fb_base.specs.declared.ending.ImageWhy.{ImageWhy}
use Rattle.fb_image.specs.Reading.{Fault, ◌>>=◌, broken, word_at, word_such}
use Rattle.fb_image.specs.Spelling.{word}

abbrev pub IsBytes : List ℕ → Type 0
IsBytes bytes = (i : ℕ) → get_or bytes i 0 < 256

pub IsBytes-drop : (n : ℕ) (bytes : List ℕ) → IsBytes bytes → IsBytes (drop n bytes)
IsBytes-drop n bytes h i = rw get_or-drop (h (n + i))

IsBytes-take : (n : ℕ) (bytes : List ℕ) → IsBytes bytes → IsBytes (take n bytes)
IsBytes-take n bytes h i =
    elim (cases_lt i n) [
      | inl lt ↦ rw (get_or-take n bytes i 0 lt) (h i)
      | inr le ↦ rw (get_or_past (take n bytes) i 0 (omega (arith, length-take n bytes))) (omega arith)
    ]

-- the value of a step that did not fail
pub bind_ok : {A B : Type 0} (r : Result A Fault) (f : A → Result B Fault) (y : B) → (r >>= f) ≡ Ok y → (x : A) × (r ≡ Ok x) × (f x ≡ Ok y)
bind_ok (Ok x) f y e = (x, refl, e)
bind_ok (Err d) f y e = absurd cc

abbrev done : {A : Type 0} → A → Result A Fault
done x = Ok x

pub ok_is : {A : Type 0} (x y : A) → done x ≡ done y → x ≡ y
ok_is x y e = cc

-- a test that was passed, by which another way ends
pub passed : {A : Type 0} (b : Bool) (d : Fault) (x y : A) → cond b (Ok x) (Err d) ≡ Ok y → (b ≡ true) × (x ≡ y)
passed true d x y e = (refl, cc)
passed false d x y e = absurd cc

-- a test that was not passed, likewise
pub not_passed : {A : Type 0} (b : Bool) (d : Fault) (x y : A) → cond b (Err d) (Ok x) ≡ Ok y → (b ≡ false) × (x ≡ y)
not_passed true d x y e = absurd cc
not_passed false d x y e = (refl, cc)

-- what a reader took from the front
pub record Takes (bytes text rest : List ℕ) : Type 0 where
  pub parts : bytes ≡ text ++ rest
  pub rest_fits : IsBytes rest

pub Takes-then : (a x b y c : List ℕ) → Takes a x b → Takes b y c → Takes a (x ++ y) c
Takes-then a x b y c p q = record { parts = p.parts ∙ ap (λ (t : List ℕ). x ++ t) q.parts ∙ sym (append_assoc x y c); rest_fits = q.rest_fits }

-- ---- words

pub word_length : (n : ℕ) → length (word n) ≡ 4
unfolding word
word_length n = refl

word_back : (bytes : List ℕ) → length bytes ≡ 4 → IsBytes bytes → word (from_le_bytes w32 bytes) ≡ bytes
unfolding word
word_back bytes len fits = le_bytes_4 bytes _ len fits refl

word_number : (n : ℕ) → n < 2 ^ 32 → from_le_bytes w32 (word n) ≡ n
unfolding word
word_number n lt = from_le_bytes-to_le_bytes_4 n lt

pub word_takes : (bytes : List ℕ) (x : ℕ × List ℕ) → IsBytes bytes → word_at bytes ≡ Ok x → Takes bytes (word x.0) x.1 × (x.0 < 2 ^ 32)
unfolding word_at
word_takes bytes x fits e =
    let g = not_passed (ltb (length bytes) 4) _ (from_le_bytes w32 (take 4 bytes), drop 4 bytes) x e in
    let long : 4 ≤ length bytes = ltb-false _ _ g.0 in
    let front-fits = IsBytes-take 4 bytes fits in
    let front : word (from_le_bytes w32 (take 4 bytes)) ≡ take 4 bytes = word_back (take 4 bytes) (omega (arith, length-take 4 bytes)) front-fits in
    let below : from_le_bytes w32 (take 4 bytes) < 2 ^ 32 = omega (arith, front-fits 0, front-fits 1, front-fits 2, front-fits 3) in
    let made : ℕ × List ℕ = (from_le_bytes w32 (take 4 bytes), drop 4 bytes) in
    subst (λ (y : ℕ × List ℕ). Takes bytes (word y.0) y.1 × (y.0 < 2 ^ 32)) g.1 (record { parts = rw front (sym (take-append-drop 4 bytes)); rest_fits = IsBytes-drop 4 bytes fits }, below)

pub word_again : (n : ℕ) (rest : List ℕ) → n < 2 ^ 32 → word_at (word n ++ rest) ≡ Ok (n, rest)
unfolding word_at
word_again n rest lt =
    let len = word_length n in
    let long : ltb (length (word n ++ rest)) 4 ≡ false = le-ltb _ _ (omega (arith, length-append (word n) rest)) in
    rw (long, take_at (word n) rest 4 len, drop_at (word n) rest 4 len, word_number n lt) refl

-- what a word that passes a test is, once it is read
pub record TakesSuch (test : ℕ → Bool) (bytes : List ℕ) (n : ℕ) (rest : List ℕ) : Type 0 where
  pub takes : Takes bytes (word n) rest
  pub is_word : n < 2 ^ 32
  pub passes : test n ≡ true

pub such_takes : (test : ℕ → Bool) (why : ImageWhy) (bytes : List ℕ) (x : ℕ × List ℕ) → IsBytes bytes → word_such test why bytes ≡ Ok x → TakesSuch test bytes x.0 x.1
such_takes test why bytes x fits e =
    let a = bind_ok (word_at bytes) (λ n. cond (test n.0) (Ok n) (broken why bytes)) x e in
    let g = passed (test a.0.0) _ a.0 x a.2 in
    let t = word_takes bytes a.0 fits a.1 in
    subst (λ (y : ℕ × List ℕ). TakesSuch test bytes y.0 y.1) g.1 (record { takes = t.0; is_word = t.1; passes = g.0 })

pub such_again : (test : ℕ → Bool) (why : ImageWhy) (n : ℕ) (rest : List ℕ) → n < 2 ^ 32 → test n ≡ true → word_such test why (word n ++ rest) ≡ Ok (n, rest)
such_again test why n rest lt passes = rw (word_again n rest lt, passes) refl
