-- A kind of fault that comes later in the order is told only where no earlier one has a reason.
use Rattle.std.proofs.Common.{◌≡◌, ℕ, suc, ◌+◌, true, List, [], ◌∷◌, ◌++◌, Err, refl, ap, subst, ◌⊎◌, inl, inr, arith, append_assoc}
use Rattle.fb_base.specs.declared.fault.FaultKind.{FaultKind}
use Rattle.fb_base.specs.declared.fault.FaultKind.TheVariants.{DeepNesting, Expected, ExtraText, OutOfProfile}
use Rattle.fb_lexer.specs.declared.token.Token.{Token}
use Rattle.fb_lexer.specs.declared.token.TokenKind.{TokenKind}
use Rattle.fb_lexer.specs.declared.token.TokenKind.TheVariants as kinds
use Rattle.fb_ast.specs.declared.tree.Tree.{Tree}
use Rattle.parse_expr.specs.declared.error.ReadErr.TheVariants as read_errs
use Rattle.parse_expr.specs.Reading.{Outcome}
use Rattle.parse_expr.specs.Faults.{is_refused_kind}
use Rattle.parse_expr.proofs.Firsts.{alike}
use Rattle.parse_expr.proofs.FirstFault.{clash}
use Rattle.parse_expr.proofs.Twins.{Rooms, Near}
use Rattle.parse_stmt.specs.declared.module.Found.{Found}
use Rattle.parse_stmt.specs.Module.{module_}
use Rattle.parse_stmt.specs.Texts.{IsTextWithin}
use Rattle.parse_stmt.specs.Faults.{BeginsAtAnyDepth, IsSample, RefusedThere, TakesEnd}
use Rattle.parse_stmt.proofs.Whole.{with_items}
use Rattle.parse_stmt.proofs.Odd.{is_odd, is_end, Ends, Ended, Stand, odd_stand, end_stand}
use Rattle.parse_stmt.proofs.Alike.{at_place}
use Rattle.parse_stmt.proofs.AlikeTexts.{twin_module}
use Rattle.parse_stmt.proofs.EarlyFaults.{no_items, text_is_read, deeper_by}

abbrev DeepOrOut : FaultKind → Type 0
DeepOrOut kind = (kind ≡ DeepNesting) ⊎ (kind ≡ OutOfProfile)

-- some text of these tokens
abbrev Text : ℕ → ℕ → List Token → Type 0
Text most room ts = (last_line : ℕ) × (tree : Tree) × IsTextWithin most room ts last_line tree

never_extra : DeepOrOut ExtraText → ⊥
never_extra (inl e) = cc
never_extra (inr e) = cc

-- any kind but one
abbrev Other : FaultKind → Type 0
Other kind = kind ≡ Expected → ⊥

other_ends : Ends Other
other_ends = record { extra = λ e. cc; out = λ e. cc; deep = λ e. cc }

end_kind : (kind : TokenKind) → (kind ≡ kinds.Colon) ⊎ (kind ≡ kinds.LineEnd) → is_end kind ≡ true
end_kind kind (inl e) = ap is_end e
end_kind kind (inr e) = ap is_end e

odd_sample : (u : Token) → IsSample u → is_odd u.kind ≡ true
odd_sample u (inl number) = ap is_odd number.1
odd_sample u (inr (inl is)) = ap is_odd is
odd_sample u (inr (inr (inl is))) = ap is_odd is
odd_sample u (inr (inr (inr is))) = ap is_odd is

module _ (front s : List Token) (t : Token) (kind : FaultKind) (is : module_ 200 199 (front ++ t ∷ s) ≡ Err (read_errs.Fault kind, t ∷ s)) where
  -- a text with another token there, whose reading goes on behind it
  other_clashes : (L : FaultKind → Type 0) (u : Token) (more : List Token) → Stand L t (u ∷ more) → (deep room : ℕ) → Rooms L 200 (suc deep) → Rooms L 199 room → ((x : Token) → Ended L x → 199 ≡ room) → (L kind → ⊥) → Text (suc deep) room (front ++ u ∷ more) → ⊥
  other_clashes L u more place deep room rooms depths even never text =
      let p = at_place L t s (u ∷ more) place in
      let near = (twin_module L t s (u ∷ more) place 199 deep rooms 199 room depths even).near (front ++ t ∷ s) (front ++ u ∷ more) (alike L t s (u ∷ more) p front) in
      clash L t s (u ∷ more) p kind (module_ (suc deep) room (front ++ u ∷ more)) (with_items no_items text.1.items text.1.tokens)
      (subst (λ (o : Outcome Found). Near L t s (u ∷ more) p o (module_ (suc deep) room (front ++ u ∷ more))) is near) never (text_is_read deep room (front ++ u ∷ more) text.0 text.1 text.2)

  other_text : (u : Token) (b : BeginsAtAnyDepth (front ++ u ∷ [])) → Text (suc (199 + b.more_deep)) (199 + b.more_room) (front ++ u ∷ b.begins.more)
  other_text u b = (
    b.begins.last_line,
    b.begins.tree,
    subst (λ (n : ℕ). IsTextWithin n (199 + b.more_room) (front ++ u ∷ b.begins.more) b.begins.last_line b.begins.tree) (deeper_by b.more_deep)
        (subst (λ (xs : List Token). IsTextWithin (200 + b.more_deep) (199 + b.more_room) xs b.begins.last_line b.begins.tree) (append_assoc front (u ∷ []) b.begins.more) b.begins.are),
  )

  odd_clashes : (kind ≡ OutOfProfile → ⊥) → (kind ≡ DeepNesting → ⊥) → is_refused_kind t.kind ≡ true → (u : Token) → is_odd u.kind ≡ true → BeginsAtAnyDepth (front ++ u ∷ []) → ⊥
  odd_clashes plain shallow word u odd b =
      other_clashes DeepOrOut u b.begins.more (odd_stand DeepOrOut t u b.begins.more (inl refl) (inr refl) word odd) (199 + b.more_deep) (199 + b.more_room) (inr (inl refl, omega arith)) (inr (inl refl, omega arith)) (λ x e. absurd (never_extra e.ends.extra))
      (λ l. elim l [ inl e ↦ shallow e | inr e ↦ plain e ]) (other_text u b)

  -- what is told of a word that this profile doesn't have is OutOfProfile where something may begin, unless it is the depth
  pub not_refused : (kind ≡ OutOfProfile → ⊥) → (kind ≡ DeepNesting → ⊥) → RefusedThere front t → ⊥
  not_refused plain shallow r = odd_clashes plain shallow r.word r.sample (odd_sample r.sample r.such) r.begins

  -- where another token is Expected no end would do
  pub no_end : kind ≡ Expected → TakesEnd front → ⊥
  no_end expected e =
      let u = e.token in
      let b = e.begins in
      other_clashes Other u b.more (end_stand Other t u b.more other_ends (end_kind u.kind e.kind)) 199 199 (inl refl) (inl refl) (λ x ended. refl) (λ l. l expected)
      (b.last_line, b.tree, subst (λ (xs : List Token). IsTextWithin 200 199 xs b.last_line b.tree) (append_assoc front (u ∷ []) b.more) b.are)
