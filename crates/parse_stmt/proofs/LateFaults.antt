-- Each fault is the first one by the grammar.
use Rattle.std.proofs.Common.{◌≡◌, true, false, List, ◌∷◌, ◌++◌, Result, Ok, Err, refl, sym, ap, subst, ◌∙◌}
use Rattle.fb_base.specs.declared.fault.Fault.{Fault}
use Rattle.fb_base.specs.declared.fault.FaultKind.{FaultKind}
use Rattle.fb_base.specs.declared.fault.FaultKind.TheVariants.{DeepNesting, OutOfProfile}
use Rattle.fb_lexer.specs.TokenList.{TokenList}
use Rattle.fb_lexer.specs.declared.token.Token.{Token}
use Rattle.fb_ast.specs.declared.tree.Tree.{Tree}
use Rattle.parse_expr.specs.declared.error.ReadErr.TheVariants as read_errs
use Rattle.parse_expr.specs.declared.error.ParseErr.{ParseErr}
use Rattle.parse_expr.specs.declared.error.ParseErr.TheVariants as errors
use Rattle.parse_expr.specs.Reading.{first, Outcome}
use Rattle.parse_expr.specs.Faults.{is_refused_kind}
use Rattle.parse_expr.proofs.Ends.{Suffixes}
use Rattle.parse_expr.proofs.Fills.{Failed}
use Rattle.parse_stmt.specs.declared.module.Found.{Found}
use Rattle.parse_stmt.specs.Module.{module_, told, tree_of}
use Rattle.parse_stmt.specs.Faults.{Begins, RefusedThere, HasKind, FirstAt}
use Rattle.parse_stmt.proofs.EarlyFaults.{at_rest, first_at}
use Rattle.parse_stmt.proofs.KindFaults.{not_refused, no_end}
use Rattle.parse_stmt.proofs.Reasons.{has_kind}
use Rattle.parse_stmt.proofs.AtEnds.{AtEnd, IsPlain}
use Rattle.parse_stmt.proofs.EndTexts.{e_module}
use Rattle.parse_stmt.proofs.Starts.{near}
use Rattle.parse_stmt.proofs.GrowTexts.{TextBegun, module_fails}

abbrev error_or : ParseErr → Result Tree ParseErr → ParseErr
error_or other (Ok tree) = other
error_or other (Err e) = e

begins : (ts : List Token) (kind : FaultKind) (rest : List Token) (f : TextBegun near 199 199 ts kind rest) → Begins f.front
begins ts kind rest f = record { more = f.more; last_line = 0; tree = record { items = f.all; tokens = f.count; last_line = 0 }; are = (f.are, refl) }

refused_first : (t : Token) (s : List Token) → is_refused_kind t.kind ≡ true → IsPlain (t ∷ s) → ⊥
unfolding first
refused_first t s word plain = let bad : true ≡ false = sym word ∙ plain in cc

-- no kind that comes earlier in the order has a reason
no_reason : (front s : List Token) (t : Token) (kind : FaultKind) → module_ 200 199 (front ++ t ∷ s) ≡ Err (read_errs.Fault kind, t ∷ s) → (kind ≡ DeepNesting → IsPlain (t ∷ s)) → (kind ≡ OutOfProfile → ⊥) → RefusedThere front t → ⊥
no_reason front s t kind is plain other r = not_refused front s t kind is other (λ deep. refused_first t s r.word (plain deep)) r

first_kind : (front s : List Token) (t : Token) (kind : FaultKind) → module_ 200 199 (front ++ t ∷ s) ≡ Err (read_errs.Fault kind, t ∷ s) → (kind ≡ DeepNesting → IsPlain (t ∷ s)) → HasKind front t kind
first_kind front s t kind is plain = has_kind front s t kind is (no_reason front s t kind is plain) (no_end front s t kind is)

told_first : (tokens : TokenList) (fault : Fault) (o : Outcome Found) → module_ 200 199 tokens.items ≡ o → Failed (TextBegun near 199 199 tokens.items) o → Failed AtEnd o → told tokens o ≡ Err (errors.Fault fault) → FirstAt tokens.items fault
told_first tokens fault (Ok p) is f ends answer = cc
told_first tokens fault (Err (read_errs.NoMemory, rest)) is f ends answer = cc
told_first tokens fault (Err (read_errs.Fault kind, rest)) is f ends answer =
    let e : Suffixes rest tokens.items = record { front = f.front; is = f.is } in
    first_at tokens fault kind rest is e (begins tokens.items kind rest f)
    (λ t behind rest_is. first_kind f.front behind t kind (at_rest tokens kind rest is e t behind rest_is) (λ deep. subst IsPlain rest_is (ends.1 deep)))
    ends.0 (ap (error_or (errors.Fault fault)) answer)

pub found_first : (tokens : TokenList) (fault : Fault) → tree_of tokens ≡ Err (errors.Fault fault) → FirstAt tokens.items fault
found_first tokens fault answer = told_first tokens fault (module_ 200 199 tokens.items) refl (module_fails near 199 199 tokens.items) ((e_module 200 199).at tokens.items) answer
