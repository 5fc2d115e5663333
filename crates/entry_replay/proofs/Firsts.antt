use Rattle.std.proofs.Common.{◌≡◌, ℕ, ◌==◌, ◌<◌, ◌≤◌, nat_lt, Bool, true, false, ◌&&◌, if◌then◌else◌, List, [], ◌∷◌, Some, None, refl, sym, ap, ◌∙◌, arith}
use Rattle.std.proofs.lemmas.Bool.{eqb-true, ltb-true, ltb-false, lt-ltb}
use Rattle.entry_replay.specs.Accesses.{Access, raced_in}
use Rattle.entry_replay.specs.World.{Past, last_number, latest}
use Rattle.entry_replay.specs.Laws.{IsFalling, after_start, without, firsts}

-- ---- a record that has each byte once

raced_without : (touched : ℕ → Bool) (a : ℕ) (xs : List Access) → touched a ≡ false → raced_in touched (without a xs) ≡ raced_in touched xs
raced_without touched a [] quiet = refl
raced_without touched a (x ∷ xs) quiet = by_test (raced_without touched a xs quiet) (x.addr == a) refl where
  by_test : raced_in touched (without a xs) ≡ raced_in touched xs → (b : Bool) → (x.addr == a) ≡ b → raced_in touched (if b then without a xs else x ∷ without a xs) ≡ (if touched x.addr then Some x else raced_in touched xs)
  by_test rest true is = rest ∙ sym (ap (λ b. if b then Some x else raced_in touched xs) (ap touched (eqb-true x.addr a is) ∙ quiet))
  by_test rest false is = ap (λ o. if touched x.addr then Some x else o) rest

-- The first access to a touched byte is that of the list which has each byte once.
pub raced_firsts : (touched : ℕ → Bool) (xs : List Access) → raced_in touched (firsts xs) ≡ raced_in touched xs
raced_firsts touched [] = refl
raced_firsts touched (x ∷ xs) = by_test (raced_firsts touched xs) (touched x.addr) refl where
  by_test : raced_in touched (firsts xs) ≡ raced_in touched xs → (b : Bool) → touched x.addr ≡ b → (if b then Some x else raced_in touched (without x.addr (firsts xs))) ≡ (if b then Some x else raced_in touched xs)
  by_test rest true is = refl
  by_test rest false is = raced_without touched x.addr (firsts xs) is ∙ rest

-- ---- one number a byte

none_latest : (start : ℕ) (ps : List Past) (a : ℕ) → IsFalling ps → last_number ps ≤ start → latest start ps a ≡ None
none_latest start [] a falls few = refl
none_latest start (p ∷ ps) a falls few =
    let less : last_number ps < p.number = falls.0 in
    let e : nat_lt start p.number ≡ false = by_test (nat_lt start p.number) refl in
    ap (λ b. if b && p.touched a then Some p else latest start ps a) e ∙ none_latest start ps a falls.1 (omega arith) where
      by_test : (b : Bool) → nat_lt start p.number ≡ b → b ≡ false
      by_test true e = let lower : start < p.number = ltb-true start p.number e in absurd (omega arith)
      by_test false e = refl

-- Where the numbers of a history fall, the latest entry that touched a byte tells the latest one after any start.
pub stamp_is : (start : ℕ) (ps : List Past) (a : ℕ) → IsFalling ps → latest start ps a ≡ after_start start (latest 0 ps a)
stamp_is start [] a falls = refl
stamp_is start (p ∷ ps) a falls =
    let less : last_number ps < p.number = falls.0 in
    let some : nat_lt 0 p.number ≡ true = lt-ltb 0 p.number (omega arith) in
    by_touch (stamp_is start ps a falls.1) (p.touched a) (nat_lt start p.number) refl ∙ sym (ap (λ b. after_start start (if b && p.touched a then Some p else latest 0 ps a)) some) where
      by_touch : latest start ps a ≡ after_start start (latest 0 ps a) → (t b : Bool) → nat_lt start p.number ≡ b → (if b && t then Some p else latest start ps a) ≡ after_start start (if t then Some p else latest 0 ps a)
      by_touch rest true true e = sym (ap (λ c. if c then Some p else None) e)
      by_touch rest true false e =
          let few : p.number ≤ start = ltb-false start p.number e in
          let less : last_number ps < p.number = falls.0 in
          none_latest start ps a falls.1 (omega arith) ∙ sym (ap (λ c. if c then Some p else None) e)
      by_touch rest false true e = rest
      by_touch rest false false e = rest
