-- A binary search in a table of words finds what its first row with the bytes has.
use Rattle.std.proofs.Common.{◌≡◌, ℕ, zero, suc, ◌<◌, ◌≤◌, List, [], ◌∷◌, length, get_or, map, Bool, true, false, ◌&&◌, Some, None, refl, sym, ◌∙◌, ap, arith, Ordering, add-one, inl, inr, ◌⊎◌}
use Rattle.std.specs.declared.cmp.Ordering.TheVariants.{Less, Equal, Greater}
use Rattle.std.specs.Str.{bytes_eq}
use Rattle.std.specs.Ordering.{nat_cmp, is_lt, is_eq, ordering_index, ordering_reverse}
use Rattle.std.specs.Cmp.{IsTotalOrder, nat_cmp_total, unsigned_ties}
use Rattle.std.proofs.lemmas.Cmp.{alike_right}
use Rattle.std.specs.Cmp.Lexicographic.{slice_cmp, lists_total, lists_ties}
use Rattle.std.specs.List.Sorted.{IsNonDecreasingBy, IsPartitionPoint}
use Rattle.std.proofs.lemmas.List.Sorted.{searchable_from_sorted}
use Rattle.std.proofs.lemmas.Bool.{cases_lt}
use Rattle.fb_lexer.specs.declared.word.Word.{Word}
use Rattle.fb_lexer.specs.Words.{Rows, row_of, is_before, are_sorted}

total : IsTotalOrder (slice_cmp nat_cmp)
total = lists_total nat_cmp_total

ties : (a b : List ℕ) → bytes_eq a b ≡ is_eq (slice_cmp nat_cmp a b)
ties a b = lists_ties nat_cmp unsigned_ties a b

both : (a b : Bool) → (a && b) ≡ true → (a ≡ true) × (b ≡ true)
both true b h = (refl, h)
both false b h = (h, absurd (cc))

is_less : (o : Ordering) → is_lt o ≡ true → o ≡ Less
is_less Less h = refl
is_less Equal h = cc
is_less Greater h = cc

before_chains : (a b c : List ℕ) → is_before a b ≡ true → is_before b c ≡ true → is_before a c ≡ true
before_chains a b c h k = ap is_lt (total.trans a b c (is_less _ h) (is_less _ k))

differs : (a b : List ℕ) → is_before a b ≡ true → bytes_eq a b ≡ false
differs a b h = ties a b ∙ ap is_eq (is_less _ h)

not_after : (a b : List ℕ) → is_before a b ≡ true → is_before b a ≡ false
not_after a b h = ap is_lt (total.antisymm b a ∙ ap ordering_reverse (is_less _ h))

apart_from : (a b c : List ℕ) → is_before a b ≡ true → slice_cmp nat_cmp b c ≡ Equal → is_eq (slice_cmp nat_cmp a c) ≡ false
apart_from a b c h k = ap is_eq (sym (alike_right total b c a k) ∙ is_less _ h)

abbrev pub rows_by : {R : Type 0} → (R → List ℕ) → (R → Word) → List R → Rows
rows_by key word table = map (λ r. (key r, word r)) table

module _ {R : Type 0} (key : R → List ℕ) (word : R → Word) where
  sorted_tail : (r : R) (table : List R) → are_sorted (rows_by key word (r ∷ table)) ≡ true → are_sorted (rows_by key word table) ≡ true
  sorted_tail r [] h = refl
  sorted_tail r (s ∷ table) h = (both _ _ h).1

  first_before : (r : R) (table : List R) (i : ℕ) (d : R) → are_sorted (rows_by key word (r ∷ table)) ≡ true → i < length table → is_before (key r) (key (get_or table i d)) ≡ true
  first_before r [] i d h within = absurd (omega arith)
  first_before r (s ∷ table) zero d h within = (both _ _ h).0
  first_before r (s ∷ table) (suc i) d h within =
      before_chains _ (key s) _ (both _ _ h).0 (first_before s table i d (both _ _ h).1 (omega arith))

  adjacent : (table : List R) (i : ℕ) (d : R) → are_sorted (rows_by key word table) ≡ true → suc i < length table → is_before (key (get_or table i d)) (key (get_or table (suc i) d)) ≡ true
  adjacent [] i d h within = absurd (omega arith)
  adjacent (r ∷ table) zero d h within = first_before r table zero d h (omega arith)
  adjacent (r ∷ table) (suc i) d h within = adjacent table i d (sorted_tail r table h) (omega arith)

  pub found : (table : List R) (name : List ℕ) (i : ℕ) (d : R) → are_sorted (rows_by key word table) ≡ true → i < length table → slice_cmp nat_cmp (key (get_or table i d)) name ≡ Equal → row_of (rows_by key word table) name ≡ Some (word (get_or table i d))
  found [] name i d h within equal = absurd (omega arith)
  found (r ∷ table) name zero d h within equal = rw (ties (key r) name ∙ ap is_eq equal) refl
  found (r ∷ table) name (suc i) d h within equal =
      rw (ties (key r) name ∙ apart_from (key r) (key (get_or table i d)) name (first_before r table i d h (omega arith)) equal) (found table name i d (sorted_tail r table h) (omega arith) equal)

  missing_in : (table : List R) (name : List ℕ) → ((i : ℕ) (d : R) → i < length table → is_eq (slice_cmp nat_cmp (key (get_or table i d)) name) ≡ false) → row_of (rows_by key word table) name ≡ None
  missing_in [] name apart = refl
  missing_in (r ∷ table) name apart =
      rw (ties (key r) name ∙ apart zero r (omega arith)) (missing_in table name (λ i d within. apart (suc i) d (omega arith)))

  searchable : (table : List R) (name : List ℕ) → are_sorted (rows_by key word table) ≡ true → IsNonDecreasingBy (λ r. ordering_index (slice_cmp nat_cmp (key r) name)) table
  searchable table name h = searchable_from_sorted total key table name (λ i d low high. rw add-one (not_after (key (get_or table i d)) (key (get_or table (suc i) d)) (adjacent table i d h (omega arith))))

  by_side : (table : List R) (name : List ℕ) (i : ℕ) → IsPartitionPoint (λ r. slice_cmp nat_cmp (key r) name ≡ Less) (λ r. slice_cmp nat_cmp (key r) name ≡ Greater) table i
      → (j : ℕ) (d : R) → j < length table → (j < i) ⊎ (i ≤ j) → is_eq (slice_cmp nat_cmp (key (get_or table j d)) name) ≡ false
  by_side table name i parts j d within (inl low) = ap is_eq (parts.0 j d (omega arith) low)
  by_side table name i parts j d within (inr high) = ap is_eq (parts.1 j d high within)

  pub missing : (table : List R) (name : List ℕ) (i : ℕ) → are_sorted (rows_by key word table) ≡ true
      → (IsNonDecreasingBy (λ r. ordering_index (slice_cmp nat_cmp (key r) name)) table → IsPartitionPoint (λ r. slice_cmp nat_cmp (key r) name ≡ Less) (λ r. slice_cmp nat_cmp (key r) name ≡ Greater) table i)
      → row_of (rows_by key word table) name ≡ None
  missing table name i h point =
      let parts = point (searchable table name h) in
      missing_in table name (λ j d within. by_side table name i parts j d within (cases_lt j i))
