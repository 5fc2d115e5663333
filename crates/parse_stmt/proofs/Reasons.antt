-- Each kind of a fault has its reason.
use Rattle.std.proofs.Common.{◌≡◌, ℕ, List, [], ◌∷◌, ◌++◌, Err, true, refl, sym, ap, ◌∙◌, subst, append_assoc}
use Rattle.fb_base.specs.declared.fault.FaultKind.{FaultKind}
use Rattle.fb_base.specs.declared.fault.FaultKind.TheVariants.{DeepNesting, Expected, ExtraText, OutOfProfile}
use Rattle.fb_lexer.specs.declared.token.Token.{Token}
use Rattle.fb_ast.specs.declared.part.Item.{Item}
use Rattle.fb_ast.specs.declared.tree.Tree.{Tree}
use Rattle.parse_expr.specs.declared.error.ReadErr.TheVariants as read_errs
use Rattle.parse_expr.specs.Faults.{is_refused_kind}
use Rattle.parse_expr.specs.Reading.{Outcome}
use Rattle.parse_expr.proofs.Fills.{Failed}
use Rattle.parse_stmt.specs.declared.module.Found.{Found}
use Rattle.parse_stmt.specs.Module.{module_}
use Rattle.parse_stmt.specs.Texts.{Items}
use Rattle.parse_stmt.specs.Faults.{Begins, BeginsAtAnyDepth, RefusedThere, TakesEnd, HasKind}
use Rattle.parse_stmt.proofs.Likes.{same_front}
use Rattle.parse_stmt.proofs.Starts.{Reach, near, far, over, above, Starting, same_head}
use Rattle.parse_stmt.proofs.EarlyFaults.{none_deeper}
use Rattle.parse_stmt.proofs.GrowTexts.{TextBegun, module_fails}

-- tokens with one more, completed to a text
record Completed (most room : ℕ) (front : List Token) (t : Token) : Type 0 where
  more : List Token
  all : List Item
  count : ℕ
  are : Items most room ((front ++ t ∷ []) ++ more) all count

abbrev tree_with : List Item → ℕ → Tree
tree_with all count = record { items = all; tokens = count; last_line = 0 }

near_begins : (front : List Token) (t : Token) → Completed 200 199 front t → Begins (front ++ t ∷ [])
near_begins front t g = record { more = g.more; last_line = 0; tree = tree_with g.all g.count; are = (g.are, refl) }

far_begins : (front : List Token) (t : Token) → Completed 202 200 front t → BeginsAtAnyDepth (front ++ t ∷ [])
far_begins front t g = record { more_deep = 2; more_room = 1; begins = record { more = g.more; last_line = 0; tree = tree_with g.all g.count; are = (g.are, refl) } }

-- what each kind tells of its place by itself
abbrev Tells : List Token → Token → FaultKind → Type 0
Tells front t OutOfProfile = RefusedThere front t
Tells front t DeepNesting = BeginsAtAnyDepth (front ++ t ∷ [])
Tells front t ExtraText = TakesEnd front
Tells front t Expected = Unit {0}
Tells front t kind = ⊥

module _ (front s : List Token) (t : Token) where
  abbrev whole : List Token
  whole = front ++ t ∷ s

  -- the completion goes on with such a token
  goes_on : {S : Token → Type 0} (reach : Reach) (kind : FaultKind) (f : TextBegun reach 199 199 whole kind (t ∷ s)) (x : Starting S f.more) → Completed (over reach 200) (above reach 199) front x.token
  goes_on reach kind f x =
      let same : f.front ≡ front = same_front f.front front (t ∷ s) (sym f.is) in
      let all_same : f.front ++ f.more ≡ (front ++ x.token ∷ []) ++ x.behind =
      ap (λ (xs : List Token). xs ++ f.more) same ∙ ap (λ (xs : List Token). front ++ xs) x.is ∙ sym (append_assoc front (x.token ∷ []) x.behind) in
      record { more = x.behind; all = f.all; count = f.count; are = subst (λ (xs : List Token). Items (over reach 200) (above reach 199) xs f.all f.count) all_same f.are }

  extra_told : TextBegun near 199 199 whole ExtraText (t ∷ s) → TakesEnd front
  extra_told f = record { token = f.starts.token; kind = f.starts.such; begins = near_begins front f.starts.token (goes_on near ExtraText f f.starts) }

  refused_told : TextBegun far 199 199 whole OutOfProfile (t ∷ s) → RefusedThere front t
  refused_told f =
      let refused = f.starts.0 in
      let free = f.starts.1 in
      let same : refused.token ≡ t = sym (same_head t refused.token s refused.behind refused.is) in
      record { word = subst (λ (u : Token). is_refused_kind u.kind ≡ true) same refused.such; sample = free.token; such = free.such; begins = far_begins front free.token (goes_on far OutOfProfile f free) }

  deep_told : TextBegun far 199 199 whole DeepNesting (t ∷ s) → BeginsAtAnyDepth (front ++ t ∷ [])
  deep_told f =
      let x = f.starts in
      let same : x.token ≡ t = sym (same_head t x.token s x.such.0 x.such.1) in
      far_begins front t (subst (λ (u : Token). Completed 202 200 front u) same (goes_on far DeepNesting f x))

  reason : (kind : FaultKind) → TextBegun near 199 199 whole kind (t ∷ s) → TextBegun far 199 199 whole kind (t ∷ s) → Tells front t kind
  reason Expected n f = tt
  reason ExtraText n f = extra_told n
  reason OutOfProfile n f = refused_told f
  reason DeepNesting n f = deep_told f
  reason kind n f = absurd n.starts

  -- A token at which a fault stands is wrong in the way that the fault's kind says.
  pub kinds_stand : (kind : FaultKind) → module_ 200 199 (front ++ t ∷ s) ≡ Err (read_errs.Fault kind, t ∷ s) → Tells front t kind
  kinds_stand kind is =
      reason kind (subst (λ (o : Outcome Found). Failed (TextBegun near 199 199 whole) o) is (module_fails near 199 199 whole))
      (subst (λ (o : Outcome Found). Failed (TextBegun far 199 199 whole) o) is (module_fails far 199 199 whole))

  -- ---- the first kind that has a reason

  abbrev Fault : FaultKind → Type 0
  Fault kind = module_ 200 199 (front ++ t ∷ s) ≡ Err (read_errs.Fault kind, t ∷ s)

  -- where not only the depth is wrong
  no_depth : (kind : FaultKind) → Fault kind → (kind ≡ DeepNesting → ⊥) → BeginsAtAnyDepth (front ++ t ∷ []) → ⊥
  no_depth kind is other b = none_deeper front s t kind is other b.more_deep b.more_room b.begins

  kind_by : (kind : FaultKind) → Fault kind → ((kind ≡ OutOfProfile → ⊥) → RefusedThere front t → ⊥) → (kind ≡ Expected → TakesEnd front → ⊥) → Tells front t kind → HasKind front t kind
  kind_by OutOfProfile is plain no_end told = told
  kind_by DeepNesting is plain no_end told = (plain (λ e. cc), told)
  kind_by ExtraText is plain no_end told = (plain (λ e. cc), no_depth ExtraText is (λ e. cc), told)
  kind_by Expected is plain no_end told = (plain (λ e. cc), no_depth Expected is (λ e. cc), no_end refl)
  kind_by kind is plain no_end told = told

  -- The kind is the first one in the order that has a reason, if a kind is told only where no earlier one has one.
  pub has_kind : (kind : FaultKind) → Fault kind → ((kind ≡ OutOfProfile → ⊥) → RefusedThere front t → ⊥) → (kind ≡ Expected → TakesEnd front → ⊥) → HasKind front t kind
  has_kind kind is plain no_end = kind_by kind is plain no_end (kinds_stand kind is)
