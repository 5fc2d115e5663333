-- The next token of the tokens from a place on.
use Rattle.std.proofs.Common.{◌≡◌, ℕ, zero, suc, ◌+◌, ◌<◌, ◌≤◌, List, [], ◌∷◌, length, drop, Option, Some, None, slice_get, refl, ◌∙◌, sym, ap, add-one, arith, length-drop}
use Rattle.std.proofs.Math.Seq.{drop-cons}
use Rattle.std.proofs.lemmas.List.{drop_all, get_or-drop}
use Rattle.std.proofs.lemmas.Option.{slice_get_within, slice_get_past, slice_get_read, get_or_from_slice_get}
use Rattle.fb_lexer.specs.declared.token.Token.{Token}
use Rattle.parse_expr.specs.Reading.{first, next}

pub first_some : (ts : List Token) (i : ℕ) (t : Token) → slice_get ts i ≡ Some t → first (drop i ts) ≡ Some t
unfolding first
first_some ts i t is =
    let e = drop-cons ts i t (slice_get_within ts i t is) in
    ap first e ∙ ap Some (get_or_from_slice_get ts i t t is)

pub first_none : (ts : List Token) (i : ℕ) → length ts ≤ i → first (drop i ts) ≡ None
unfolding first
first_none ts i none = ap first (drop_all i ts none)

next_suc : (i : ℕ) (ts : List Token) → next (drop i ts) ≡ drop (suc i) ts
unfolding next
next_suc zero [] = refl
next_suc zero (t ∷ ts) = refl
next_suc (suc i) [] = refl
next_suc (suc i) (t ∷ ts) = next_suc i ts

pub next_some : (i : ℕ) (ts : List Token) → next (drop i ts) ≡ drop (i + 1) ts
next_some i ts = rw add-one (next_suc i ts)

pub next_none : (ts : List Token) (i : ℕ) → length ts ≤ i → next (drop i ts) ≡ drop i ts
unfolding next
next_none ts i none = ap next (drop_all i ts none) ∙ sym (drop_all i ts none)

pub get_some : (ts : List Token) (i k : ℕ) (t : Token) → slice_get ts (i + k) ≡ Some t → slice_get (drop i ts) k ≡ Some t
get_some ts i k t is =
    let within = slice_get_within ts (i + k) t is in
    let left = length-drop i ts in
    slice_get_read (drop i ts) (length (drop i ts)) k t refl (omega arith) (sym (get_or-drop i ts k t ∙ get_or_from_slice_get ts (i + k) t t is))

pub get_none : (ts : List Token) (i k : ℕ) → length (drop i ts) ≤ k → slice_get (drop i ts) k ≡ None
get_none ts i k past = slice_get_past (drop i ts) k past
