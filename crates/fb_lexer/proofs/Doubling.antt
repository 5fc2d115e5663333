-- A string literal, as it is read.
use Rattle.std.proofs.Common.{◌≡◌, ◌≢◌, ◌==◌, ℕ, suc, ◌≤◌, ◌+◌, List, [], ◌∷◌, ◌++◌, length, take, Bool, true, false, not, cond, Option, Some, None, refl, sym, ◌∙◌, ap, subst, arith, length-append}
use Rattle.std.specs.Prelude.{slice_index, ⊤}
use Rattle.std.proofs.lemmas.Bool.Decides.{nat_tests}
use Rattle.fb_lexer.specs.Letters.{is_in_line}
use Rattle.fb_lexer.specs.Pieces.{front_byte, with_front, rest_of_literal}
use Rattle.fb_lexer.specs.Grammar.{Each, doubled}

pub that_byte : (b k : ℕ) → (b == k) ≡ true → b ≡ k
that_byte b k h = grind (arith, nat_tests)

pub in_line : (b : ℕ) → (b == 10) ≡ false → is_in_line b ≡ true
in_line b h = ap not h

pub not_that : (b k : ℕ) → (b == k) ≡ false → b ≢ k
not_that b k h is = grind (arith, nat_tests)

not_true : (t : Bool) → not t ≡ true → t ≡ false
not_true true h = absurd (cc)
not_true false h = refl

pub not_end : (b : ℕ) → is_in_line b ≡ true → (b == 10) ≡ false
not_end b h = not_true (b == 10) h

-- ---- what is read is a literal's rest

pub record IsRest (bytes text : List ℕ) (n : ℕ) : Type 0 where
  pub front : take n bytes ≡ doubled text ++ 34 ∷ []
  pub line : Each is_in_line text
  pub within : n ≤ length bytes
  pub closed : slice_index bytes n ≢ 34

abbrev pub Right : List ℕ → Option (List ℕ × ℕ) → Type 0
Right bytes None = ⊤
Right bytes (Some r) = IsRest bytes r.0 r.1

right_by : (bytes : List ℕ) (t : Bool) (r s : Option (List ℕ × ℕ)) → (t ≡ true → Right bytes r) → (t ≡ false → Right bytes s) → Right bytes (cond t r s)
right_by bytes true r s h k = h refl
right_by bytes false r s h k = k refl

pub doubled_other : (b : ℕ) (text : List ℕ) → (b == 34) ≡ false → doubled (b ∷ text) ≡ b ∷ doubled text
doubled_other b text h = ap (λ t. cond t (34 ∷ 34 ∷ doubled text) (b ∷ doubled text)) h

two_more : (n : ℕ) → 2 + n ≡ suc (suc n)
two_more n = omega arith

one_more : (n : ℕ) → 1 + n ≡ suc n
one_more n = omega arith

right_quote : (bytes : List ℕ) (r : Option (List ℕ × ℕ)) → Right bytes r → Right (34 ∷ 34 ∷ bytes) (with_front (34 ∷ []) 2 r)
right_quote bytes None h = tt
right_quote bytes (Some r) h = subst (λ n. IsRest (34 ∷ 34 ∷ bytes) (34 ∷ r.0) n) (sym (two_more r.1)) (record {
  front = ap (λ x. 34 ∷ 34 ∷ x) h.front;
  line = (refl, h.line);
  within = omega (arith, h.within);
  closed = h.closed;
})

right_byte : (b : ℕ) (bytes : List ℕ) (r : Option (List ℕ × ℕ)) → (b == 34) ≡ false → (b == 10) ≡ false → Right bytes r → Right (b ∷ bytes) (with_front (b ∷ []) 1 r)
right_byte b bytes None q l h = tt
right_byte b bytes (Some r) q l h = subst (λ n. IsRest (b ∷ bytes) (b ∷ r.0) n) (sym (one_more r.1)) (record {
  front = ap (λ x. b ∷ x) h.front ∙ ap (λ x. x ++ 34 ∷ []) (sym (doubled_other b r.0 q));
  line = (in_line b l, h.line);
  within = omega (arith, h.within);
  closed = h.closed;
})

ends_here : (more : List ℕ) → (front_byte more == 34) ≡ false → Right (34 ∷ more) (Some ([], 1))
ends_here more h = record { front = refl; line = tt; within = omega arith; closed = not_that (front_byte more) 34 h }

-- what a quote gives that this byte follows
abbrev if_quote : ℕ → List ℕ → Option (List ℕ × ℕ)
if_quote c bytes = cond (c == 34) (with_front (34 ∷ []) 2 (rest_of_literal bytes)) (Some ([], 1))

at_quote : (c : ℕ) (bytes : List ℕ) → Right bytes (rest_of_literal bytes) → Right (34 ∷ c ∷ bytes) (if_quote c bytes)
at_quote c bytes h = right_by (34 ∷ c ∷ bytes) (c == 34) _ _ (λ q. subst (λ x. Right (34 ∷ x ∷ bytes) (with_front (34 ∷ []) 2 (rest_of_literal bytes))) (sym (that_byte c 34 q)) (right_quote bytes _ h)) (λ q. ends_here (c ∷ bytes) q)

pub rest_right : (bytes : List ℕ) → Right bytes (rest_of_literal bytes)
rest_right [] = tt
rest_right (b ∷ []) = right_by (b ∷ []) (b == 34) _ _ (λ q. subst (λ x. Right (x ∷ []) (Some ([], 1))) (sym (that_byte b 34 q)) (ends_here [] refl)) (λ _. tt)
rest_right (b ∷ c ∷ bytes) =
    right_by (b ∷ c ∷ bytes) (b == 10) _ _ (λ _. tt)
    (λ l. right_by (b ∷ c ∷ bytes) (b == 34) _ _
    (λ q. subst (λ x. Right (x ∷ c ∷ bytes) (if_quote c bytes)) (sym (that_byte b 34 q)) (at_quote c bytes (rest_right bytes)))
    (λ q. right_byte b (c ∷ bytes) _ q l (rest_right (c ∷ bytes))))

-- ---- a literal's rest is read, at least so far

abbrev pub Reached : Option (List ℕ × ℕ) → List ℕ → List ℕ → Type 0
Reached None text more = front_byte more ≡ 34
Reached (Some r) text more = suc (length (doubled text)) ≤ r.1

abbrev Reaches : List ℕ → Option (List ℕ × ℕ) → Type 0
Reaches bytes r = (text more : List ℕ) → bytes ≡ doubled text ++ 34 ∷ more → Each is_in_line text → Reached r text more

reached_quote : (r : Option (List ℕ × ℕ)) (text more : List ℕ) → Reached r text more → Reached (with_front (34 ∷ []) 2 r) (34 ∷ text) more
reached_quote None text more h = h
reached_quote (Some r) text more h = omega (arith, h)

reached_byte : (b : ℕ) (r : Option (List ℕ × ℕ)) (text more : List ℕ) → (b == 34) ≡ false → Reached r text more → Reached (with_front (b ∷ []) 1 r) (b ∷ text) more
reached_byte b None text more q h = h
reached_byte b (Some r) text more q h = omega (arith, h, ap length (doubled_other b text q))

-- at the quote that ends it
reached_end : (t : Bool) (c : ℕ) (r : Option (List ℕ × ℕ)) (more : List ℕ) → (c == 34) ≡ t → front_byte more ≡ c → Reached (cond t (with_front (34 ∷ []) 2 r) (Some ([], 1))) [] more
reached_end true c None more is next = next ∙ that_byte c 34 is
reached_end true c (Some r) more is next = omega arith
reached_end false c r more is next = omega arith

too_short : (text more : List ℕ) → length (doubled text ++ 34 ∷ more) ≡ suc (length (doubled text) + length more)
too_short text more = length-append (doubled text) (34 ∷ more) ∙ omega arith

some_doubled : (b : ℕ) (text : List ℕ) (t : Bool) → (b == 34) ≡ t → 1 ≤ length (doubled (b ∷ text))
some_doubled b text true h = rw h (omega arith)
some_doubled b text false h = rw h (omega arith)

reads_more : (b c : ℕ) (bytes : List ℕ) → Reaches bytes (rest_of_literal bytes) → Reaches (c ∷ bytes) (rest_of_literal (c ∷ bytes))
    → (x : ℕ) (text more : List ℕ) (t : Bool) → (x == 34) ≡ t → b ∷ c ∷ bytes ≡ doubled (x ∷ text) ++ 34 ∷ more → is_in_line x ≡ true → Each is_in_line text
    → Reached (rest_of_literal (b ∷ c ∷ bytes)) (x ∷ text) more
reads_more b c bytes far near x text more true q e line each =
    let x_is = that_byte x 34 q in
    let shape : b ∷ c ∷ bytes ≡ 34 ∷ 34 ∷ (doubled text ++ 34 ∷ more) = e ∙ ap (λ y. doubled (y ∷ text) ++ 34 ∷ more) x_is in
    let b_is : b ≡ 34 = cc in
    let c_is : c ≡ 34 = cc in
    let rest_is : bytes ≡ doubled text ++ 34 ∷ more = cc in
    rw (b_is, c_is, x_is) (reached_quote (rest_of_literal bytes) text more (far text more rest_is each))
reads_more b c bytes far near x text more false q e line each =
    let shape : b ∷ c ∷ bytes ≡ x ∷ (doubled text ++ 34 ∷ more) = e ∙ ap (λ y. y ++ 34 ∷ more) (doubled_other x text q) in
    let b_is : b ≡ x = cc in
    let rest_is : c ∷ bytes ≡ doubled text ++ 34 ∷ more = cc in
    rw (b_is, not_end x line, q) (reached_byte x (rest_of_literal (c ∷ bytes)) text more q (near text more rest_is each))

pub rest_reaches : (bytes : List ℕ) → Reaches bytes (rest_of_literal bytes)
rest_reaches [] text more e each = absurd (omega (arith, ap length e, too_short text more))
rest_reaches (b ∷ []) [] more e each =
    let b_is : b ≡ 34 = cc in
    rw b_is (omega arith)
rest_reaches (b ∷ []) (x ∷ text) more e each = absurd (omega (arith, ap length e, too_short (x ∷ text) more, some_doubled x text (x == 34) refl))
rest_reaches (b ∷ c ∷ bytes) [] more e each =
    let b_is : b ≡ 34 = cc in
    let rest_is : c ∷ bytes ≡ more = cc in
    rw b_is (reached_end (c == 34) c (rest_of_literal bytes) more refl (ap front_byte (sym rest_is)))
rest_reaches (b ∷ c ∷ bytes) (x ∷ text) more e each = reads_more b c bytes (rest_reaches bytes) (rest_reaches (c ∷ bytes)) x text more (x == 34) refl e each.0 each.1
