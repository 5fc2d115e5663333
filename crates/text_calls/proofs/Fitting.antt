-- What a call comes to fits the strings.
use Rattle.std.proofs.Common.{◌≡◌, ℕ, ◌+◌, ◌%◌, ◌<◌, Bool, true, false, cond, eqb, ltb, List, [], ◌++◌, length, get_or, replicate, Option, Some, None, refl}
use Rattle.std.specs.Prelude.{decimal}
use Rattle.std.specs.List.{slice_get}
use Rattle.std.proofs.lemmas.Bool.{ltb-true}
use Rattle.fb_base.specs.declared.fault.TrapKind.TheVariants.{BadString, StrIndex, StrLimit, BadCode}
use Rattle.thread_system.specs.Printing.{signed_text}
use Rattle.text_functions.specs.Functions.{is_below_one, left, right, mid, chr, asc, find, left_trimmed, right_trimmed, val, compared, upper, lower}
use Rattle.text_calls.specs.declared.outcome.Outcome.{Outcome}
use Rattle.text_calls.specs.declared.outcome.Outcome.TheVariants.{Trapped, Gives, Makes, Sets, Puts, Drops}
use Rattle.text_calls.specs.Strings.{CellState, no_cell, dead, holds, is_dead, text_of}
use Rattle.text_calls.specs.Outcomes.{Fits}
use Rattle.text_calls.specs.Rows.{Strings, longest, into, on_text, from, limited, from_literal, at, str_init, str_drop, str_lit, str_copy, str_cat, str_set, str_cmp, str_len, str_left, str_right, str_mid, str_chr, str_asc, str_signed, str_unsigned, str_val, str_find, str_upper, str_lower, str_space, str_ltrim, str_rtrim, str_get, str_put, from_10, from_16, from_22, from_28, outcome_of}

into_fits : (strings : Strings) (d : ℕ) (next : Outcome) → (strings d ≡ dead → Fits strings next) → Fits strings (into strings d next)
into_fits strings d next fits = by_state (strings d) refl where
  by_state : (state : CellState) → strings d ≡ state → Fits strings (cond (is_dead state) next (Trapped BadString))
  by_state no_cell is = tt
  by_state dead is = fits is
  by_state (holds s) is = tt

from_fits : (strings : Strings) (s : ℕ) (next : List ℕ → Outcome) → ((x : List ℕ) → strings s ≡ holds x → Fits strings (next x)) → Fits strings (from strings s next)
from_fits strings s next fits = by_state (strings s) refl where
  by_state : (state : CellState) → strings s ≡ state → Fits strings (on_text (text_of state) next)
  by_state no_cell is = tt
  by_state dead is = tt
  by_state (holds x) is = fits x is

if_fits : (strings : Strings) (b : Bool) (x y : Outcome) → Fits strings x → Fits strings y → Fits strings (cond b x y)
if_fits strings true x y f g = f
if_fits strings false x y f g = g

limited_fits : (strings : Strings) (n : ℕ) (next : Outcome) → Fits strings next → Fits strings (limited n next)
limited_fits strings n next f = if_fits strings (ltb longest n) (Trapped StrLimit) next tt f

at_fits : (strings : Strings) (i : ℕ) (s : List ℕ) (next : Outcome) → (i < length s → Fits strings next) → Fits strings (at i s next)
at_fits strings i s next f = by_test (ltb i (length s)) refl where
  by_test : (b : Bool) → ltb i (length s) ≡ b → Fits strings (cond b next (Trapped StrIndex))
  by_test true is = f (ltb-true i (length s) is)
  by_test false is = tt

-- a copy of a string's bytes, or of what is made of them
copies : (strings : Strings) (d s : ℕ) (f : List ℕ → List ℕ) → Fits strings (into strings d (from strings s (λ x. Makes d (f x))))
copies strings d s f = into_fits strings d (from strings s (λ x. Makes d (f x))) (λ e. from_fits strings s (λ x. Makes d (f x)) (λ x is. e))

makes : (strings : Strings) (d : ℕ) (bytes : List ℕ) → Fits strings (into strings d (Makes d bytes))
makes strings d bytes = into_fits strings d (Makes d bytes) (λ e. e)

gives : (strings : Strings) (s : ℕ) (f : List ℕ → ℕ) → Fits strings (from strings s (λ x. Gives (f x)))
gives strings s f = from_fits strings s (λ x. Gives (f x)) (λ x is. tt)

gives_both : (strings : Strings) (s t : ℕ) (f : List ℕ → List ℕ → ℕ) → Fits strings (from strings s (λ x. from strings t (λ y. Gives (f x y))))
gives_both strings s t f = from_fits strings s (λ x. from strings t (λ y. Gives (f x y))) (λ x is. gives strings t (f x))

literal_fits : (strings : Strings) (d : ℕ) (s : Option (List ℕ)) → strings d ≡ dead → Fits strings (from_literal d s)
literal_fits strings d None e = tt
literal_fits strings d (Some s) e = e

cat : (strings : Strings) (d a b : ℕ) → Fits strings (into strings d (from strings a (λ x. from strings b (λ y. limited (length x + length y) (Makes d (x ++ y))))))
cat strings d a b =
    into_fits strings d (from strings a (λ x. from strings b (λ y. limited (length x + length y) (Makes d (x ++ y)))))
    (λ e. from_fits strings a (λ x. from strings b (λ y. limited (length x + length y) (Makes d (x ++ y))))
    (λ x is. from_fits strings b (λ y. limited (length x + length y) (Makes d (x ++ y))) (λ y is'. limited_fits strings (length x + length y) (Makes d (x ++ y)) e)))

set : (strings : Strings) (c s : ℕ) → Fits strings (from strings c (λ old. from strings s (λ x. Sets c x)))
set strings c s = from_fits strings c (λ old. from strings s (λ x. Sets c x)) (λ old is. from_fits strings s (λ x. Sets c x) (λ x is'. (old, is)))

spaces : (strings : Strings) (d n : ℕ) → Fits strings (into strings d (cond (is_below_one n) (Makes d []) (limited n (Makes d (replicate n 32)))))
spaces strings d n =
    into_fits strings d (cond (is_below_one n) (Makes d []) (limited n (Makes d (replicate n 32))))
    (λ e. if_fits strings (is_below_one n) (Makes d []) (limited n (Makes d (replicate n 32))) e (limited_fits strings n (Makes d (replicate n 32)) e))

get : (strings : Strings) (s i : ℕ) → Fits strings (from strings s (λ x. at i x (Gives (get_or x i 0))))
get strings s i = from_fits strings s (λ x. at i x (Gives (get_or x i 0))) (λ x is. at_fits strings i x (Gives (get_or x i 0)) (λ h. tt))

put : (strings : Strings) (s i v : ℕ) → Fits strings (from strings s (λ x. at i x (Puts s i (v % 256))))
put strings s i v = from_fits strings s (λ x. at i x (Puts s i (v % 256))) (λ x is. at_fits strings i x (Puts s i (v % 256)) (λ h. (x, is, h)))

first_fit : (strings : Strings) (literals : List (List ℕ)) (number a b c : ℕ) → Fits strings (from_10 strings literals number a b c)
unfolding from_10 str_init str_drop str_lit str_copy str_cat str_set
first_fit strings literals number a b c =
    let rest_15 : Outcome = cond (eqb number 15) (str_set strings a b) (Trapped BadCode) in
    let fits_15 : Fits strings rest_15 = if_fits strings (eqb number 15) (str_set strings a b) (Trapped BadCode) (set strings a b) tt in
    let rest_14 : Outcome = cond (eqb number 14) (str_cat strings a b c) rest_15 in
    let fits_14 : Fits strings rest_14 = if_fits strings (eqb number 14) (str_cat strings a b c) rest_15 (cat strings a b c) fits_15 in
    let rest_13 : Outcome = cond (eqb number 13) (str_copy strings a b) rest_14 in
    let fits_13 : Fits strings rest_13 = if_fits strings (eqb number 13) (str_copy strings a b) rest_14 (copies strings a b (λ x. x)) fits_14 in
    let rest_12 : Outcome = cond (eqb number 12) (str_lit strings literals a b) rest_13 in
    let fits_12 : Fits strings rest_12 = if_fits strings (eqb number 12) (str_lit strings literals a b) rest_13 (into_fits strings a (from_literal a (slice_get literals b)) (literal_fits strings a (slice_get literals b))) fits_13 in
    let rest_11 : Outcome = cond (eqb number 11) (str_drop strings a) rest_12 in
    let fits_11 : Fits strings rest_11 = if_fits strings (eqb number 11) (str_drop strings a) rest_12 (from_fits strings a (λ s. Drops a) (λ s is. (s, is))) fits_12 in
    if_fits strings (eqb number 10) (str_init strings a) rest_11 (makes strings a []) fits_11

second_fit : (strings : Strings) (number a b c d : ℕ) → Fits strings (from_16 strings number a b c d)
unfolding from_16 str_cmp str_len str_left str_right str_mid str_chr
second_fit strings number a b c d =
    let rest_21 : Outcome = cond (eqb number 21) (str_chr strings a b) (Trapped BadCode) in
    let fits_21 : Fits strings rest_21 = if_fits strings (eqb number 21) (str_chr strings a b) (Trapped BadCode) (makes strings a (chr b)) tt in
    let rest_20 : Outcome = cond (eqb number 20) (str_mid strings a b c d) rest_21 in
    let fits_20 : Fits strings rest_20 = if_fits strings (eqb number 20) (str_mid strings a b c d) rest_21 (copies strings a b (λ x. mid x c d)) fits_21 in
    let rest_19 : Outcome = cond (eqb number 19) (str_right strings a b c) rest_20 in
    let fits_19 : Fits strings rest_19 = if_fits strings (eqb number 19) (str_right strings a b c) rest_20 (copies strings a b (λ x. right x c)) fits_20 in
    let rest_18 : Outcome = cond (eqb number 18) (str_left strings a b c) rest_19 in
    let fits_18 : Fits strings rest_18 = if_fits strings (eqb number 18) (str_left strings a b c) rest_19 (copies strings a b (λ x. left x c)) fits_19 in
    let rest_17 : Outcome = cond (eqb number 17) (str_len strings a) rest_18 in
    let fits_17 : Fits strings rest_17 = if_fits strings (eqb number 17) (str_len strings a) rest_18 (gives strings a length) fits_18 in
    if_fits strings (eqb number 16) (str_cmp strings a b) rest_17 (gives_both strings a b compared) fits_17

third_fit : (strings : Strings) (number a b c : ℕ) → Fits strings (from_22 strings number a b c)
unfolding from_22 str_asc str_signed str_unsigned str_val str_find str_upper
third_fit strings number a b c =
    let rest_27 : Outcome = cond (eqb number 27) (str_upper strings a b) (Trapped BadCode) in
    let fits_27 : Fits strings rest_27 = if_fits strings (eqb number 27) (str_upper strings a b) (Trapped BadCode) (copies strings a b upper) tt in
    let rest_26 : Outcome = cond (eqb number 26) (str_find strings a b c) rest_27 in
    let fits_26 : Fits strings rest_26 = if_fits strings (eqb number 26) (str_find strings a b c) rest_27 (gives_both strings b c (find a)) fits_27 in
    let rest_25 : Outcome = cond (eqb number 25) (str_val strings a) rest_26 in
    let fits_25 : Fits strings rest_25 = if_fits strings (eqb number 25) (str_val strings a) rest_26 (gives strings a val) fits_26 in
    let rest_24 : Outcome = cond (eqb number 24) (str_unsigned strings a b) rest_25 in
    let fits_24 : Fits strings rest_24 = if_fits strings (eqb number 24) (str_unsigned strings a b) rest_25 (makes strings a (decimal b)) fits_25 in
    let rest_23 : Outcome = cond (eqb number 23) (str_signed strings a b) rest_24 in
    let fits_23 : Fits strings rest_23 = if_fits strings (eqb number 23) (str_signed strings a b) rest_24 (makes strings a (signed_text b)) fits_24 in
    if_fits strings (eqb number 22) (str_asc strings a b) rest_23 (gives strings a (λ x. asc x b)) fits_23

last_fit : (strings : Strings) (number a b c : ℕ) → Fits strings (from_28 strings number a b c)
unfolding from_28 str_lower str_space str_ltrim str_rtrim str_get str_put
last_fit strings number a b c =
    let rest_33 : Outcome = cond (eqb number 33) (str_put strings a b c) (Trapped BadCode) in
    let fits_33 : Fits strings rest_33 = if_fits strings (eqb number 33) (str_put strings a b c) (Trapped BadCode) (put strings a b c) tt in
    let rest_32 : Outcome = cond (eqb number 32) (str_get strings a b) rest_33 in
    let fits_32 : Fits strings rest_32 = if_fits strings (eqb number 32) (str_get strings a b) rest_33 (get strings a b) fits_33 in
    let rest_31 : Outcome = cond (eqb number 31) (str_rtrim strings a b) rest_32 in
    let fits_31 : Fits strings rest_31 = if_fits strings (eqb number 31) (str_rtrim strings a b) rest_32 (copies strings a b right_trimmed) fits_32 in
    let rest_30 : Outcome = cond (eqb number 30) (str_ltrim strings a b) rest_31 in
    let fits_30 : Fits strings rest_30 = if_fits strings (eqb number 30) (str_ltrim strings a b) rest_31 (copies strings a b left_trimmed) fits_31 in
    let rest_29 : Outcome = cond (eqb number 29) (str_space strings a b) rest_30 in
    let fits_29 : Fits strings rest_29 = if_fits strings (eqb number 29) (str_space strings a b) rest_30 (spaces strings a b) fits_30 in
    if_fits strings (eqb number 28) (str_lower strings a b) rest_29 (copies strings a b lower) fits_29

pub outcome_fits : (strings : Strings) (literals : List (List ℕ)) (number : ℕ) (args : List ℕ) → Fits strings (outcome_of strings literals number args)
unfolding outcome_of
outcome_fits strings literals number args =
    let a : ℕ = get_or args 0 0 in
    let b : ℕ = get_or args 1 0 in
    let c : ℕ = get_or args 2 0 in
    let d : ℕ = get_or args 3 0 in
    let rest_22 : Outcome = cond (ltb number 28) (from_22 strings number a b c) (from_28 strings number a b c) in
    let fits_22 : Fits strings rest_22 = if_fits strings (ltb number 28) (from_22 strings number a b c) (from_28 strings number a b c) (third_fit strings number a b c) (last_fit strings number a b c) in
    let rest_16 : Outcome = cond (ltb number 22) (from_16 strings number a b c d) rest_22 in
    let fits_16 : Fits strings rest_16 = if_fits strings (ltb number 22) (from_16 strings number a b c d) rest_22 (second_fit strings number a b c d) fits_22 in
    if_fits strings (ltb number 16) (from_10 strings literals number a b c) rest_16 (first_fit strings literals number a b c) fits_16
