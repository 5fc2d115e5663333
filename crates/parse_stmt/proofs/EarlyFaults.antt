-- No text agrees with the tokens up to and with the one at which a fault stands.
use Rattle.std.proofs.Common.{◌≡◌, ℕ, suc, ◌+◌, List, [], ◌∷◌, ◌++◌, length, Some, Ok, Err, refl, sym, ap, ◌∙◌, subst, inl, inr, arith, append-nil, append_assoc}
use Rattle.fb_base.specs.declared.fault.Fault.{Fault}
use Rattle.fb_base.specs.declared.fault.FaultKind.{FaultKind}
use Rattle.fb_base.specs.declared.fault.FaultKind.TheVariants.{DeepNesting, Expected, ExtraText}
use Rattle.fb_lexer.specs.TokenList.{TokenList}
use Rattle.fb_lexer.specs.declared.token.Token.{Token}
use Rattle.fb_ast.specs.declared.tree.Tree.{Tree}
use Rattle.parse_expr.specs.declared.error.ReadErr.{ReadErr}
use Rattle.parse_expr.specs.declared.error.ReadErr.TheVariants as read_errs
use Rattle.parse_expr.specs.declared.error.ParseErr.{ParseErr}
use Rattle.parse_expr.specs.declared.error.ParseErr.TheVariants as errors
use Rattle.parse_expr.specs.Reading.{first, Outcome}
use Rattle.parse_expr.specs.Expr.{error_of}
use Rattle.parse_expr.proofs.Ends.{Suffixes}
use Rattle.parse_expr.proofs.Firsts.{alike, place_by}
use Rattle.parse_expr.proofs.FirstFault.{clash}
use Rattle.parse_expr.proofs.Twins.{Rooms, Near}
use Rattle.parse_stmt.specs.declared.module.Found.{Found}
use Rattle.parse_stmt.specs.Module.{module_}
use Rattle.parse_stmt.specs.Texts.{IsTextWithin}
use Rattle.parse_stmt.specs.Faults.{Begins, BeginsDeeper, HasKind, FirstAt}
use Rattle.parse_stmt.proofs.Whole.{items_finds, with_items}
use Rattle.parse_stmt.proofs.Odd.{Ended}
use Rattle.parse_stmt.proofs.Alike.{at_place}
use Rattle.parse_stmt.proofs.AlikeTexts.{twin_module}

abbrev pub no_items : Found
no_items = record { items = []; tokens = 0 }

-- a text is read at its depth
pub text_is_read : (deep room : ℕ) (ts : List Token) (last_line : ℕ) (tree : Tree) → IsTextWithin (suc deep) room ts last_line tree → module_ (suc deep) room ts ≡ Ok (with_items no_items tree.items tree.tokens, [])
unfolding module_
text_is_read deep room ts last_line tree t = items_finds deep room (length ts + 1) no_items ts tree.items tree.tokens t.0 (omega arith)

abbrev Never : FaultKind → Type 0
Never kind = ⊥

abbrev OnlyDeep : FaultKind → Type 0
OnlyDeep kind = kind ≡ DeepNesting

first_is : (t : Token) (more : List Token) → first (t ∷ more) ≡ Some t
unfolding first
first_is t more = refl

pub deeper_by : (n : ℕ) → 200 + n ≡ suc (199 + n)
deeper_by n = omega arith

module _ (front s : List Token) (t : Token) (kind : FaultKind) (is : module_ 200 199 (front ++ t ∷ s) ≡ Err (read_errs.Fault kind, t ∷ s)) where
  clashes : (L : FaultKind → Type 0) (deep room : ℕ) → Rooms L 200 (suc deep) → Rooms L 199 room → ((u : Token) → Ended L u → 199 ≡ room) → (L kind → ⊥) → (more : List Token) (last_line : ℕ) (tree : Tree) → IsTextWithin (suc deep) room (front ++ t ∷ more) last_line tree → ⊥
  clashes L deep room rooms depths even never more last_line tree text =
      let place = at_place L t s (t ∷ more) (inl (first_is t more)) in
      let near = (twin_module L t s (t ∷ more) (inl (first_is t more)) 199 deep rooms 199 room depths even).near (front ++ t ∷ s) (front ++ t ∷ more) (alike L t s (t ∷ more) place front) in
      clash L t s (t ∷ more) place kind (module_ (suc deep) room (front ++ t ∷ more)) (with_items no_items tree.items tree.tokens)
      (subst (λ (o : Outcome Found). Near L t s (t ∷ more) place o (module_ (suc deep) room (front ++ t ∷ more))) is near) never (text_is_read deep room (front ++ t ∷ more) last_line tree text)

  joined : (most room : ℕ) (more : List Token) (last_line : ℕ) (tree : Tree) → IsTextWithin most room ((front ++ t ∷ []) ++ more) last_line tree → IsTextWithin most room (front ++ t ∷ more) last_line tree
  joined most room more last_line tree text = subst (λ (xs : List Token). IsTextWithin most room xs last_line tree) (append_assoc front (t ∷ []) more) text

  pub none_here : Begins (front ++ t ∷ []) → ⊥
  none_here b = clashes Never 199 199 (inl refl) (inl refl) (λ u e. refl) (λ never. never) b.more b.last_line b.tree (joined 200 199 b.more b.last_line b.tree b.are)

  pub none_deeper : (kind ≡ DeepNesting → ⊥) → (more_deep more_room : ℕ) → BeginsDeeper more_deep more_room (front ++ t ∷ []) → ⊥
  none_deeper other more_deep more_room b =
      clashes OnlyDeep (199 + more_deep) (199 + more_room) (inr (refl, omega arith)) (inr (refl, omega arith)) (λ u e. let bad : ExtraText ≡ DeepNesting = e.ends.extra in cc) other b.more b.last_line b.tree
      (subst (λ (n : ℕ). IsTextWithin n (199 + more_room) (front ++ t ∷ b.more) b.last_line b.tree) (deeper_by more_deep) (joined (200 + more_deep) (199 + more_room) b.more b.last_line b.tree b.are))

abbrev kind_in : FaultKind → ParseErr → FaultKind
kind_in other errors.NoMemory = other
kind_in other (errors.Fault fault) = fault.kind

fault_kind : (tokens : List Token) (fault : Fault) (kind : FaultKind) (rest : List Token) → error_of tokens (read_errs.Fault kind) rest ≡ errors.Fault fault → kind ≡ fault.kind
fault_kind tokens fault kind rest is = ap (kind_in kind) is

not_read : (p : ReadErr × List Token) (x : Found) (r : List Token) → ◌≡◌ {A = Outcome Found} (Err p) (Ok (x, r)) → ⊥
not_read p x r is = cc

pub at_rest : (tokens : TokenList) (kind : FaultKind) (rest : List Token) → module_ 200 199 tokens.items ≡ Err (read_errs.Fault kind, rest) → (e : Suffixes rest tokens.items) (t : Token) (behind : List Token) → rest ≡ t ∷ behind
    → module_ 200 199 (e.front ++ t ∷ behind) ≡ Err (read_errs.Fault kind, t ∷ behind)
at_rest tokens kind rest is e t behind rest_is =
    ap (module_ 200 199) (ap (λ (xs : List Token). e.front ++ xs) (sym rest_is) ∙ sym e.is) ∙ is ∙ ap (λ (xs : List Token). Err (read_errs.Fault kind, xs)) rest_is

pub first_at : (tokens : TokenList) (fault : Fault) (kind : FaultKind) (rest : List Token) → module_ 200 199 tokens.items ≡ Err (read_errs.Fault kind, rest) → (e : Suffixes rest tokens.items) → Begins e.front → ((t : Token) (behind : List Token) → rest ≡ t ∷ behind → HasKind e.front t kind) → (rest ≡ [] → kind ≡ Expected) → error_of tokens.items (read_errs.Fault kind) rest ≡ errors.Fault fault → FirstAt tokens.items fault
first_at tokens fault kind rest is e agrees kinds ends answer =
    let same_kind = fault_kind tokens.items fault kind rest answer in
    record {
      front = e.front;
      rest = rest;
      is = e.is;
      agrees = agrees;
      none = λ t behind rest_is b. none_here e.front behind t kind (at_rest tokens kind rest is e t behind rest_is) b;
      no_deeper = λ t behind rest_is other more_deep more_room b. none_deeper e.front behind t kind (at_rest tokens kind rest is e t behind rest_is) (λ deep. other (sym same_kind ∙ deep)) more_deep more_room b;
      kind_is = λ t behind rest_is. subst (HasKind e.front t) same_kind (kinds t behind rest_is);
      short = λ last_line tree rest_is text.
          let whole : tokens.items ≡ e.front = e.is ∙ ap (λ (xs : List Token). e.front ++ xs) rest_is ∙ append-nil e.front in
          not_read (read_errs.Fault kind, rest) (with_items no_items tree.items tree.tokens) []
          (sym is ∙ ap (module_ 200 199) whole ∙ text_is_read 199 199 e.front last_line tree text);
      ends = λ rest_is. sym same_kind ∙ ends rest_is;
      place_is = place_by tokens.items fault (read_errs.Fault kind) rest answer;
    }
