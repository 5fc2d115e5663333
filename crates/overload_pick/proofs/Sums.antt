-- Adding costs from the first on.
use Rattle.std.proofs.Common.{◌≡◌, ℕ, ◌+◌, ◌<◌, ◌≤◌, Option, None, Some, List, [], ◌∷◌, ◌++◌, length, take, drop, get_or, refl, sym, ◌∙◌, ap, arith}
use Rattle.std.proofs.lemmas.List.{drop_more, drop_all, take_more, map-append, length-map, length-take-le}
use Rattle.overload_pick.specs.declared.sig.Param.{Param}
use Rattle.overload_pick.specs.declared.sig.Arg.{Arg}
use Rattle.overload_pick.specs.Costs.{add_costs, cost_of, sum_of, sums_of}

pub add_first : (total one : ℕ) (rest : Option ℕ) → add_costs (Some total) (add_costs (Some one) rest) ≡ add_costs (Some (total + one)) rest
add_first total one None = refl
add_first total one (Some other) = ap Some (omega arith)

pub add_nothing : (o : Option ℕ) → add_costs (Some 0) o ≡ o
add_nothing None = refl
add_nothing (Some n) = ap Some (omega arith)

none_added : (o : Option ℕ) → add_costs o None ≡ None
none_added None = refl
none_added (Some n) = refl

-- lists of different lengths have no sum
pub no_sum_between : (args : List Arg) (params : List Param) → (length args ≡ length params → ⊥) → sum_of args params ≡ None
no_sum_between [] [] h = absurd (h refl)
no_sum_between [] (p ∷ ps) h = refl
no_sum_between (a ∷ rest) [] h = refl
no_sum_between (a ∷ rest) (p ∷ ps) h = rw (no_sum_between rest ps (λ e. h (omega (arith, e)))) (none_added (cost_of a p))

module _ (args : List Arg) (params : List Param) (i total : ℕ) (arg : Arg) (param : Param) where
  at_args : i < length args → arg ≡ get_or args i arg → drop i args ≡ arg ∷ drop (i + 1) args
  at_args h e = drop_more args i arg h ∙ ap (λ x. x ∷ drop (i + 1) args) (sym e)

  at_params : i < length params → param ≡ get_or params i param → drop i params ≡ param ∷ drop (i + 1) params
  at_params h e = drop_more params i param h ∙ ap (λ x. x ∷ drop (i + 1) params) (sym e)

  opened : i < length args → arg ≡ get_or args i arg → i < length params → param ≡ get_or params i param → (cost : Option ℕ) → cost_of arg param ≡ cost
      → add_costs (Some total) (sum_of (drop i args) (drop i params)) ≡ add_costs (Some total) (add_costs cost (sum_of (drop (i + 1) args) (drop (i + 1) params)))
  opened h e k f cost is =
      ap (λ xs. add_costs (Some total) (sum_of xs (drop i params))) (at_args h e)
      ∙ (ap (λ ys. add_costs (Some total) (sum_of (arg ∷ drop (i + 1) args) ys)) (at_params k f)
      ∙ ap (λ c. add_costs (Some total) (add_costs c (sum_of (drop (i + 1) args) (drop (i + 1) params)))) is)

  -- one cost more is added
  pub sum_step : (one : ℕ) → i < length args → arg ≡ get_or args i arg → i < length params → param ≡ get_or params i param → cost_of arg param ≡ Some one
      → add_costs (Some total) (sum_of (drop i args) (drop i params)) ≡ sum_of args params
      → add_costs (Some (total + one)) (sum_of (drop (i + 1) args) (drop (i + 1) params)) ≡ sum_of args params
  sum_step one h e k f is so_far = sym (add_first total one (sum_of (drop (i + 1) args) (drop (i + 1) params))) ∙ (sym (opened h e k f (Some one) is) ∙ so_far)

  -- one that doesn't fit leaves no sum
  pub sum_none : i < length args → arg ≡ get_or args i arg → i < length params → param ≡ get_or params i param → cost_of arg param ≡ None
      → add_costs (Some total) (sum_of (drop i args) (drop i params)) ≡ sum_of args params → None ≡ sum_of args params
  sum_none h e k f is so_far = sym (opened h e k f None is) ∙ so_far

-- all are added
pub sum_end : (args : List Arg) (params : List Param) (i total : ℕ) → length args ≤ i → length params ≤ i
    → add_costs (Some total) (sum_of (drop i args) (drop i params)) ≡ sum_of args params → Some total ≡ sum_of args params
sum_end args params i total h k so_far =
    ap Some (omega arith)
    ∙ (sym (ap (λ xs. add_costs (Some total) (sum_of xs (drop i params))) (drop_all i args h) ∙ ap (λ ys. add_costs (Some total) (sum_of [] ys)) (drop_all i params k))
    ∙ so_far)

-- one candidate more has one sum more
pub sums_more : (args : List Arg) (cands : List (List Param)) (i : ℕ) (cand : List Param) → i < length cands → cand ≡ get_or cands i cand
    → sums_of args (take (i + 1) cands) ≡ sums_of args (take i cands) ++ sum_of args cand ∷ []
sums_more args cands i cand h e =
    ap (sums_of args) (take_more cands i cand h ∙ ap (λ x. take i cands ++ x ∷ []) (sym e)) ∙ map-append (sum_of args) (take i cands) (cand ∷ [])

pub sums_length : (args : List Arg) (cands : List (List Param)) (i : ℕ) → i ≤ length cands → i ≡ length (sums_of args (take i cands))
sums_length args cands i h = sym (length-map (take i cands) (sum_of args) ∙ length-take-le i cands h)
