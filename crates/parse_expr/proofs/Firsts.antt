-- Where a reading ends, no expression goes on.
use Rattle.std.proofs.Common.{◌≡◌, ◌≤◌, ◌<◌, ℕ, suc, ◌+◌, ◌-◌, List, [], ◌∷◌, ◌++◌, length, drop, Result, Ok, Err, refl, sym, ap, ◌∙◌, subst, inl, inr, arith, append-nil, append_assoc, length-append, length-drop, nat_lt, Bool, true, false}
use Rattle.std.proofs.lemmas.Bool.Decides.{nat_tests}
use Rattle.fb_base.specs.declared.fault.Span.{Span}
use Rattle.fb_base.specs.declared.fault.FaultKind.{FaultKind}
use Rattle.fb_lexer.specs.declared.token.Token.{Token}
use Rattle.fb_ast.specs.declared.expr.Expr.{Expr}
use Rattle.parse_expr.specs.declared.error.ReadErr.{ReadErr}
use Rattle.parse_expr.specs.Reading.{Outcome}
use Rattle.parse_expr.specs.Expr.{Measured, expr, told, expr_at, error_of, fault_place}
use Rattle.parse_expr.specs.Grammar.{IsExpression, Begins, Stands, EndsAt}
use Rattle.fb_base.specs.declared.fault.Fault.{Fault}
use Rattle.parse_expr.specs.declared.error.ReadErr.TheVariants as read_errs
use Rattle.parse_expr.specs.declared.error.ParseErr.{ParseErr}
use Rattle.parse_expr.specs.declared.error.ParseErr.TheVariants as errors
use Rattle.parse_expr.proofs.Unique.{read_is, nothing_behind}
use Rattle.parse_expr.proofs.Ends.{Leaves}
use Rattle.parse_expr.proofs.Completed.{a_number}
use Rattle.parse_expr.proofs.Twins.{Position, same_place, Alike, here, there, Loose, Near, twins}

pub alike : (L : FaultKind → Type 0) (t : Token) (s v : List Token) (place : Position L t v) (front : List Token) → Alike L t s v place (front ++ t ∷ s) (front ++ v)
alike L t s v place [] = here
alike L t s v place (x ∷ front) = there x (front ++ t ∷ s) (front ++ v) (alike L t s v place front)

-- a whole expression is read to its end
pub read_all : (ts : List Token) (tree : Expr) → (e : IsExpression ts tree) → expr 200 1 ts ≡ Ok ((tree, e.0), [])
read_all ts tree e = subst (λ (xs : List Token). expr 200 1 xs ≡ Ok ((tree, e.0), [])) (append-nil ts) (read_is 199 ts [] tree e.0 e.2 e.1 nothing_behind)

-- what is left where a reading ends
abbrev pub left : {A : Type 0} → Outcome A → List Token
left (Ok p) = p.1
left (Err p) = p.1

pub not_ok : (p : ReadErr × List Token) (x : Measured) (r : List Token) → ◌≡◌ {A = Outcome Measured} (Err p) (Ok (x, r)) → ⊥
not_ok p x r is = cc

pub none_alike : (L : FaultKind → Type 0) (t : Token) (s v : List Token) (place : Position L t v) (a b : List Token) → b ≡ [] → (v ≡ [] → ⊥) → Alike L t s v place a b → ⊥
none_alike L t s v place a b is some here = some is
none_alike L t s v place a b is some (there x c d al) = cc

-- no kind of fault
abbrev Never : FaultKind → Type 0
Never kind = ⊥

never_loose : (t : Token) (s v : List Token) (place : Position Never t v) (stop : ReadErr) → Loose Never t s v place stop → ⊥
never_loose t s v place read_errs.NoMemory loose = loose
never_loose t s v place (read_errs.Fault kind) loose = loose

not_all : (t : Token) (s v : List Token) (place : Position Never t v) (o other : Outcome Measured) (x : Measured) → Near Never t s v place o other → (v ≡ [] → ⊥) → other ≡ Ok (x, []) → length s < length (left o) → ⊥
not_all t s v place (Ok p) other x (inl small) some is more = absurd (omega arith)
not_all t s v place (Err p) other x (inl (inl small)) some is more = absurd (omega arith)
not_all t s v place (Err p) other x (inl (inr loose)) some is more = never_loose t s v place p.0 loose
not_all t s v place (Ok p) other x (inr l) some is more = none_alike Never t s v place p.1 l.0 (ap left (sym l.1 ∙ is)) some l.2
not_all t s v place (Err p) other x (inr l) some is more = not_ok (l.0, l.1) x [] (sym l.2 ∙ is)

-- no expression agrees with the tokens up to the one at which a reading ends
pub none_begins : (front s : List Token) (t : Token) → left (expr 200 1 (front ++ t ∷ s)) ≡ t ∷ s → Begins (front ++ t ∷ []) → ⊥
none_begins front s t ends b =
    let more = b.0 in
    let whole : (front ++ t ∷ []) ++ more ≡ front ++ t ∷ more = append_assoc front (t ∷ []) more in
    let e : IsExpression (front ++ t ∷ more) b.1 = subst (λ (xs : List Token). IsExpression xs b.1) whole b.2 in
    let read = read_all (front ++ t ∷ more) b.1 e in
    let place = same_place Never t more in
    let near = (twins Never t s (t ∷ more) place 200 200 (inl refl) 1).near (front ++ t ∷ s) (front ++ t ∷ more) (alike Never t s (t ∷ more) place front) in
    let longer : length (left (expr 200 1 (front ++ t ∷ s))) ≡ suc (length s) = ap length ends in
    not_all t s (t ∷ more) place (expr 200 1 (front ++ t ∷ s)) (expr 200 1 (front ++ t ∷ more)) (b.1, e.0) near (λ none. cc) read (omega arith)

leaves : (ts : List Token) → Leaves ts (expr 200 1 ts)
leaves ts = (twins Never a_number [] (a_number ∷ []) (same_place Never a_number []) 200 200 (inl refl) 1).leaves ts

-- ---- the longest expression

abbrev pub tail_of : List Token → List Token
tail_of [] = []
tail_of (t ∷ ts) = ts

abbrev pub head_or : Token → List Token → Token
head_or other [] = other
head_or other (t ∷ ts) = t

abbrev end_or : ℕ → Result (Expr × ℕ) ParseErr → ℕ
end_or other (Ok p) = p.1
end_or other (Err e) = other

pub record Further (f g rest more : List Token) : Type 0 where
  pub token : Token
  pub behind : List Token
  pub longer : g ≡ f ++ token ∷ behind
  pub is : rest ≡ token ∷ (behind ++ more)

pub further : (f g rest more : List Token) → f ++ rest ≡ g ++ more → length f < length g → Further f g rest more
further [] [] rest more is less = absurd (omega arith)
further [] (t ∷ g) rest more is less = record { token = t; behind = g; longer = refl; is = is }
further (x ∷ f) [] rest more is less = absurd (omega arith)
further (x ∷ f) (t ∷ g) rest more is less =
    let same : f ++ rest ≡ g ++ more = ap tail_of is in
    let head : x ≡ t = ap (head_or x) is in
    let r = further f g rest more same (omega arith) in
    record { token = r.token; behind = r.behind; longer = ap (λ (y : Token). y ∷ g) (sym head) ∙ ap (λ (xs : List Token). x ∷ xs) r.longer; is = r.is }

abbrev place_in : Span → ParseErr → Span
place_in other errors.NoMemory = other
place_in other (errors.Fault fault) = fault.at

pub place_by : (tokens : List Token) (fault : Fault) (stop : ReadErr) (rest : List Token) → error_of tokens stop rest ≡ errors.Fault fault → fault.at ≡ fault_place tokens rest
place_by tokens fault read_errs.NoMemory rest is = cc
place_by tokens fault (read_errs.Fault kind) rest is = sym (ap (place_in fault.at) is)

abbrev error_or : ParseErr → Result (Expr × ℕ) ParseErr → ParseErr
error_or other (Ok p) = other
error_or other (Err e) = e

ends_by : (tokens : List Token) (at : ℕ) (fault : Fault) (o : Outcome Measured) → expr 200 1 (drop at tokens) ≡ o → Leaves (drop at tokens) o → told tokens o ≡ Err (errors.Fault fault) → EndsAt tokens at fault.at
ends_by tokens at fault (Ok p) is l answer = cc
ends_by tokens at fault (Err p) is l answer = record {
  front = l.front;
  rest = p.1;
  is = l.is;
  place_is = place_by tokens fault p.0 p.1 (ap (error_or (errors.Fault fault)) answer);
  none = λ t behind rest_is b.
      let whole : drop at tokens ≡ l.front ++ t ∷ behind = l.is ∙ ap (λ (xs : List Token). l.front ++ xs) rest_is in
      let ends : left (expr 200 1 (l.front ++ t ∷ behind)) ≡ t ∷ behind = ap (λ (xs : List Token). left (expr 200 1 xs)) (sym whole) ∙ ap left is ∙ rest_is in
      none_begins l.front behind t ends b;
  short = λ tree rest_is e.
      let whole : drop at tokens ≡ l.front = l.is ∙ ap (λ (xs : List Token). l.front ++ xs) rest_is ∙ append-nil l.front in
      let read : expr 200 1 (drop at tokens) ≡ Ok ((tree, e.0), []) = ap (expr 200 1) whole ∙ read_all l.front tree e in
      let both : ◌≡◌ {A = Outcome Measured} (Err p) (Ok ((tree, e.0), [])) = sym is ∙ read in
      not_ok p (tree, e.0) [] both;
}

pub ends_at : (tokens : List Token) (at : ℕ) (fault : Fault) → expr_at tokens at ≡ Err (errors.Fault fault) → EndsAt tokens at fault.at
ends_at tokens at fault answer = ends_by tokens at fault (expr 200 1 (drop at tokens)) refl (leaves (drop at tokens)) answer

-- where an answer stands, with what its reading leaves
pub record StandsLeft (tokens : List Token) (at end : ℕ) (tree : Expr) : Type 0 where
  pub front : List Token
  pub rest : List Token
  pub is : drop at tokens ≡ front ++ rest
  pub behind : end ≡ at + length front
  pub left_is : left (expr 200 1 (drop at tokens)) ≡ rest

stands_left : (tokens : List Token) (at end : ℕ) (tree : Expr) → at ≤ length tokens → (o : Outcome Measured) → expr 200 1 (drop at tokens) ≡ o → Leaves (drop at tokens) o → told tokens o ≡ Ok (tree, end) → StandsLeft tokens at end tree
stands_left tokens at end tree within (Err p) is l answer = cc
stands_left tokens at end tree within (Ok p) is l answer =
    let whole : length (drop at tokens) ≡ length l.front + length p.1 = ap length l.is ∙ length-append l.front p.1 in
    let many = length-drop at tokens in
    let ends : length tokens - length p.1 ≡ end = ap (end_or 0) answer in
    record { front = l.front; rest = p.1; is = l.is; behind = omega arith; left_is = ap left is }

longest_by : (tokens : List Token) (at end other : ℕ) (tree another : Expr) → StandsLeft tokens at end tree → Stands tokens at other another → (b : Bool) → nat_lt end other ≡ b → other ≤ end
longest_by tokens at end other tree another s t false is = grind (arith, nat_tests)
longest_by tokens at end other tree another s t true is =
    let less : end < other = grind (arith, nat_tests) in
    let same : s.front ++ s.rest ≡ t.front ++ t.rest = sym s.is ∙ t.is in
    let a = s.behind in
    let b = t.behind in
    let f = further s.front t.front s.rest t.rest same (omega arith) in
    let whole : drop at tokens ≡ s.front ++ f.token ∷ (f.behind ++ t.rest) = s.is ∙ ap (λ (xs : List Token). s.front ++ xs) f.is in
    let ends : left (expr 200 1 (s.front ++ f.token ∷ (f.behind ++ t.rest))) ≡ f.token ∷ (f.behind ++ t.rest) = ap (λ (xs : List Token). left (expr 200 1 xs)) (sym whole) ∙ s.left_is ∙ f.is in
    let longer : t.front ≡ (s.front ++ f.token ∷ []) ++ f.behind = f.longer ∙ sym (append_assoc s.front (f.token ∷ []) f.behind) in
    absurd (none_begins s.front (f.behind ++ t.rest) f.token ends (f.behind, another, subst (λ (xs : List Token). IsExpression xs another) longer t.are))

-- no expression from a place on is longer than the one that is read
pub longest : (tokens : List Token) (at end other : ℕ) (tree another : Expr) → at ≤ length tokens → expr_at tokens at ≡ Ok (tree, end) → Stands tokens at other another → other ≤ end
longest tokens at end other tree another within answer t =
    longest_by tokens at end other tree another (stands_left tokens at end tree within (expr 200 1 (drop at tokens)) refl (leaves (drop at tokens)) answer) t (nat_lt end other) refl
