-- Tokens have one first fault at most, and it is told.
use Rattle.std.proofs.Common.{◌≡◌, ◌<◌, List, [], ◌∷◌, ◌++◌, length, Ok, Err, refl, sym, ap, ◌∙◌, subst, append-nil, append_assoc}
use Rattle.fb_base.specs.declared.fault.Span.{Span}
use Rattle.fb_base.specs.declared.fault.Fault.{Fault}
use Rattle.fb_base.specs.declared.fault.FaultKind.{FaultKind}
use Rattle.fb_base.specs.declared.fault.FaultKind.TheVariants.{Expected, ExtraText, DeepNesting, OutOfProfile}
use Rattle.fb_lexer.specs.TokenList.{TokenList}
use Rattle.fb_lexer.specs.declared.token.Token.{Token}
use Rattle.fb_ast.specs.declared.tree.Tree.{Tree}
use Rattle.parse_expr.specs.declared.error.ReadErr.TheVariants as read_errs
use Rattle.parse_expr.specs.declared.error.ParseErr.TheVariants as errors
use Rattle.parse_expr.specs.Reading.{Outcome}
use Rattle.parse_expr.specs.Expr.{fault_place}
use Rattle.parse_expr.proofs.Firsts.{further}
use Rattle.parse_expr.proofs.FirstFault.{meet}
use Rattle.parse_expr.proofs.Fills.{Failed}
use Rattle.parse_stmt.specs.declared.module.Found.{Found}
use Rattle.parse_stmt.specs.Module.{module_, told, tree_of}
use Rattle.parse_stmt.specs.Texts.{IsText}
use Rattle.parse_stmt.specs.Faults.{Begins, HasKind, FirstAt}
use Rattle.parse_stmt.proofs.Whole.{text_read}
use Rattle.parse_stmt.proofs.AtEnds.{AtEnd}
use Rattle.parse_stmt.proofs.EndTexts.{e_module}
use Rattle.parse_stmt.proofs.LateFaults.{found_first}

-- ---- where it stands

begins_less : (front : List Token) (t : Token) (behind : List Token) → Begins (front ++ t ∷ behind) → Begins (front ++ t ∷ [])
begins_less front t behind b =
    let whole : (front ++ t ∷ behind) ++ b.more ≡ (front ++ t ∷ []) ++ (behind ++ b.more) = append_assoc front (t ∷ behind) b.more ∙ sym (append_assoc front (t ∷ []) (behind ++ b.more)) in
    record { more = behind ++ b.more; last_line = b.last_line; tree = b.tree; are = subst (λ (xs : List Token). IsText xs b.last_line b.tree) whole b.are }

no_shorter : (tokens : List Token) (f g : Fault) (a : FirstAt tokens f) (b : FirstAt tokens g) → length a.front < length b.front → ⊥
no_shorter tokens f g a b less =
    let more = further a.front b.front a.rest b.rest (sym a.is ∙ b.is) less in
    a.none more.token (more.behind ++ b.rest) more.is (begins_less a.front more.token more.behind (subst Begins more.longer b.agrees))

-- ---- its kind

same_expected : (front : List Token) (t : Token) (kind : FaultKind) → HasKind front t Expected → HasKind front t kind → kind ≡ Expected
same_expected front t Expected a b = refl
same_expected front t ExtraText a b = absurd (a.2 b.2)
same_expected front t DeepNesting a b = absurd (a.1 b.1)
same_expected front t OutOfProfile a b = absurd (a.0 b)
same_expected front t kind a b = absurd b

same_extra : (front : List Token) (t : Token) (kind : FaultKind) → HasKind front t ExtraText → HasKind front t kind → kind ≡ ExtraText
same_extra front t Expected a b = absurd (b.2 a.2)
same_extra front t ExtraText a b = refl
same_extra front t DeepNesting a b = absurd (a.1 b.1)
same_extra front t OutOfProfile a b = absurd (a.0 b)
same_extra front t kind a b = absurd b

same_deep : (front : List Token) (t : Token) (kind : FaultKind) → HasKind front t DeepNesting → HasKind front t kind → kind ≡ DeepNesting
same_deep front t Expected a b = absurd (b.1 a.1)
same_deep front t ExtraText a b = absurd (b.1 a.1)
same_deep front t DeepNesting a b = refl
same_deep front t OutOfProfile a b = absurd (a.0 b)
same_deep front t kind a b = absurd b

same_out : (front : List Token) (t : Token) (kind : FaultKind) → HasKind front t OutOfProfile → HasKind front t kind → kind ≡ OutOfProfile
same_out front t Expected a b = absurd (b.0 a)
same_out front t ExtraText a b = absurd (b.0 a)
same_out front t DeepNesting a b = absurd (b.0 a)
same_out front t OutOfProfile a b = refl
same_out front t kind a b = absurd b

same_kind : (front : List Token) (t : Token) (one other : FaultKind) → HasKind front t one → HasKind front t other → one ≡ other
same_kind front t Expected other a b = sym (same_expected front t other a b)
same_kind front t ExtraText other a b = sym (same_extra front t other a b)
same_kind front t DeepNesting other a b = sym (same_deep front t other a b)
same_kind front t OutOfProfile other a b = sym (same_out front t other a b)
same_kind front t kind other a b = absurd a

kinds_same : (tokens : List Token) (f g : Fault) (a : FirstAt tokens f) (b : FirstAt tokens g) → a.front ≡ b.front → (rest : List Token) → a.rest ≡ rest → b.rest ≡ rest → f.kind ≡ g.kind
kinds_same tokens f g a b fronts [] one other = a.ends one ∙ sym (b.ends other)
kinds_same tokens f g a b fronts (t ∷ behind) one other =
    same_kind b.front t f.kind g.kind (subst (λ (xs : List Token). HasKind xs t f.kind) fronts (a.kind_is t behind one)) (b.kind_is t behind other)

pub one_fault : (tokens : List Token) (f g : Fault) → FirstAt tokens f → FirstAt tokens g → f ≡ g
one_fault tokens f g a b =
    let m = meet a.front b.front a.rest b.rest (sym a.is ∙ b.is) (no_shorter tokens f g a b) (no_shorter tokens g f b a) in
    let kinds : f.kind ≡ g.kind = kinds_same tokens f g a b m.fronts b.rest m.rests refl in
    let places : f.at ≡ g.at = a.place_is ∙ ap (fault_place tokens) m.rests ∙ sym b.place_is in
    ap (λ (k : FaultKind). record { kind = k; at = f.at }) kinds ∙ ap (λ (place : Span). record { kind = g.kind; at = place }) places

-- ---- it is told

-- where there is a first fault the tokens are no text
no_text_by : (tokens : TokenList) (fault : Fault) (f : FirstAt tokens.items fault) (tree : Tree) → IsText tokens.items tokens.last_line tree → (rest : List Token) → f.rest ≡ rest → ⊥
no_text_by tokens fault f tree text [] is =
    let whole : tokens.items ≡ f.front = f.is ∙ ap (λ (xs : List Token). f.front ++ xs) is ∙ append-nil f.front in
    f.short tokens.last_line tree is (subst (λ (xs : List Token). IsText xs tokens.last_line tree) whole text)
no_text_by tokens fault f tree text (t ∷ behind) is =
    let whole : tokens.items ≡ (f.front ++ t ∷ []) ++ behind = f.is ∙ ap (λ (xs : List Token). f.front ++ xs) is ∙ sym (append_assoc f.front (t ∷ []) behind) in
    f.none t behind is (record { more = behind; last_line = tokens.last_line; tree = tree; are = subst (λ (xs : List Token). IsText xs tokens.last_line tree) whole text })

told_by : (tokens : TokenList) (fault : Fault) → FirstAt tokens.items fault → (o : Outcome Found) → module_ 200 199 tokens.items ≡ o → Failed AtEnd o → tree_of tokens ≡ Err (errors.Fault fault)
told_by tokens fault f (Ok p) is ends =
    let read : tree_of tokens ≡ told tokens (Ok p) = ap (told tokens) is in
    absurd (no_text_by tokens fault f (record { items = p.0.items; tokens = p.0.tokens; last_line = tokens.last_line }) (text_read tokens (record { items = p.0.items; tokens = p.0.tokens; last_line = tokens.last_line }) read) f.rest refl)
told_by tokens fault f (Err (read_errs.NoMemory, rest)) is ends = absurd ends
told_by tokens fault f (Err (read_errs.Fault kind, rest)) is ends =
    let other : Fault = record { kind = kind; at = fault_place tokens.items rest } in
    let read : tree_of tokens ≡ Err (errors.Fault other) = ap (told tokens) is in
    read ∙ ap (λ (x : Fault). Err (errors.Fault x)) (one_fault tokens.items other fault (found_first tokens other read) f)

pub fault_found : (tokens : TokenList) (fault : Fault) → FirstAt tokens.items fault → tree_of tokens ≡ Err (errors.Fault fault)
fault_found tokens fault f = told_by tokens fault f (module_ 200 199 tokens.items) refl ((e_module 200 199).at tokens.items)
