-- Tokens before a fault can be completed.
use Rattle.std.proofs.Common.{◌≡◌, ℕ, true, false, List, [], ◌∷◌, ◌++◌, Ok, Err, refl, sym, ap, ◌∙◌, subst, ◌⊎◌, inl, inr, append_assoc, append-nil}
use Rattle.fb_base.specs.declared.fault.FaultKind.{FaultKind}
use Rattle.fb_base.specs.declared.fault.FaultKind.TheVariants.{Expected, DeepNesting, OutOfProfile}
use Rattle.fb_lexer.specs.declared.token.Token.{Token}
use Rattle.fb_lexer.specs.declared.token.TokenKind.TheVariants as kinds
use Rattle.fb_lexer.specs.declared.word.Word.TheVariants as w
use Rattle.parse_expr.specs.declared.error.ReadErr.{ReadErr}
use Rattle.parse_expr.specs.declared.error.ReadErr.TheVariants as read_errs
use Rattle.parse_expr.specs.Reading.{first, refusal, refusal_by, Outcome, Reader, and_then}
use Rattle.parse_expr.specs.Faults.{is_refused_kind}
use Rattle.parse_expr.proofs.Sound.{Done}
use Rattle.parse_expr.proofs.Refused.{refusals}

-- ---- what holds of an outcome where nothing is read

abbrev pub FailedBy : (FaultKind → List Token → Type 0) → ReadErr → List Token → Type 0
FailedBy F read_errs.NoMemory rest = ⊥
FailedBy F (read_errs.Fault kind) rest = F kind rest

abbrev pub Failed : {A : Type 0} → (FaultKind → List Token → Type 0) → Outcome A → Type 0
Failed F (Ok p) = Unit {0}
Failed F (Err p) = FailedBy F p.0 p.1

pub failed_then : {A B : Type 0} (P : A → List Token → Type 0) (F : FaultKind → List Token → Type 0) (o : Outcome A) (f : A → Reader B)
    → Done P o → Failed F o → ((a : A) (rest : List Token) → P a rest → Failed F (f a rest)) → Failed F (and_then o f)
failed_then P F (Ok p) f d e k = k p.0 p.1 d
failed_then P F (Err p) f d e k = e

map_by : (F G : FaultKind → List Token → Type 0) (stop : ReadErr) (rest : List Token) → FailedBy F stop rest → ((kind : FaultKind) (rest : List Token) → F kind rest → G kind rest) → FailedBy G stop rest
map_by F G read_errs.NoMemory rest e k = absurd e
map_by F G (read_errs.Fault kind) rest e k = k kind rest e

pub map_failed : {A : Type 0} (F G : FaultKind → List Token → Type 0) (o : Outcome A) → Failed F o → ((kind : FaultKind) (rest : List Token) → F kind rest → G kind rest) → Failed G o
map_failed F G (Ok p) e k = tt
map_failed F G (Err p) e k = map_by F G p.0 p.1 e k

pub failed_pure : {A B : Type 0} (F : FaultKind → List Token → Type 0) (o : Outcome A) (f : A → B) → Failed F o → Failed F (and_then o (λ x rest. Ok (f x, rest)))
failed_pure F (Ok p) f e = tt
failed_pure F (Err p) f e = e

-- ---- completions

-- Tokens that can be completed to such ones. The number says how much deeper they are than is allowed.
pub record Fills (P : ℕ → List Token → Type 0) (over : ℕ) (begun : List Token) : Type 0 where
  pub more : List Token
  pub are : P over (begun ++ more)

pub full : (P : ℕ → List Token → Type 0) (over : ℕ) (ts : List Token) → P over ts → Fills P over ts
full P over ts p = record { more = []; are = subst (P over) (sym (append-nil ts)) p }

pub joined_fills : {P : ℕ → List Token → Type 0} {over : ℕ} (front more : List Token) → Fills P over (front ++ more) → Fills P over front
joined_fills {P = P} {over = over} front more f = record { more = more ++ f.more; are = subst (P over) (append_assoc front more f.more) f.are }

-- a token that is nothing but an operand, or a type
abbrev pub IsFree : Token → Type 0
IsFree t = ((value : ℕ) × (t.kind ≡ kinds.Number value)) ⊎ (t.kind ≡ kinds.Word w.KwInteger)

-- with the next token they can be completed, but are too deep
pub record Deeper (P : ℕ → List Token → Type 0) (front rest : List Token) : Type 0 where
  pub token : Token
  pub behind : List Token
  pub is : rest ≡ token ∷ behind
  pub plain : is_refused_kind token.kind ≡ false
  pub fills : Fills P 2 (front ++ token ∷ [])

-- with an operand or a type in place of the next token they can be completed
pub record Other (P : ℕ → List Token → Type 0) (front rest : List Token) : Type 0 where
  pub token : Token
  pub behind : List Token
  pub is : rest ≡ token ∷ behind
  pub word : is_refused_kind token.kind ≡ true
  pub other : Token
  pub free : IsFree other
  pub fills : Fills P 2 (front ++ other ∷ [])

abbrev pub Next : (ℕ → List Token → Type 0) → List Token → List Token → FaultKind → Type 0
Next P front rest Expected = Unit {0}
Next P front rest DeepNesting = Deeper P front rest
Next P front rest OutOfProfile = Other P front rest
Next P front rest kind = ⊥

-- Where a fault stands: the tokens before it can be completed, or nothing is read where nothing can be.
pub record FaultOf (N : Type 0) (P : ℕ → List Token → Type 0) (ts : List Token) (kind : FaultKind) (rest : List Token) : Type 0 where
  pub front : List Token
  pub is : ts ≡ front ++ rest
  pub bare : Fills P 0 front ⊎ (N × (front ≡ []))
  pub next : Next P front rest kind

-- a fault at the first token
pub at_once : (N : Type 0) (P : ℕ → List Token → Type 0) (ts : List Token) (kind : FaultKind) → Fills P 0 [] ⊎ N → Next P [] ts kind → FaultOf N P ts kind ts
at_once N P ts kind (inl f) next = record { front = []; is = refl; bare = inl f; next = next }
at_once N P ts kind (inr n) next = record { front = []; is = refl; bare = inr (n, refl); next = next }

-- what is begun inside of something else, which is begun with it
module _ (P Q : ℕ → List Token → Type 0) (pre : List Token) (E : (over : ℕ) (xs : List Token) → P over xs → Fills Q over (pre ++ xs)) where
  fills_in : (over : ℕ) (mid : List Token) → Fills P over mid → Fills Q over (pre ++ mid)
  fills_in over mid f =
      let g = E over (mid ++ f.more) f.are in
      let same : (pre ++ (mid ++ f.more)) ++ g.more ≡ (pre ++ mid) ++ (f.more ++ g.more) = ap (λ (xs : List Token). xs ++ g.more) (sym (append_assoc pre mid f.more)) ∙ append_assoc (pre ++ mid) f.more g.more in
      record { more = f.more ++ g.more; are = subst (Q over) same g.are }

  with_token : (over : ℕ) (front : List Token) (t : Token) → Fills P over (front ++ t ∷ []) → Fills Q over ((pre ++ front) ++ t ∷ [])
  with_token over front t f = subst (Fills Q over) (sym (append_assoc pre front (t ∷ []))) (fills_in over (front ++ t ∷ []) f)

  next_in : (front rest : List Token) (kind : FaultKind) → Next P front rest kind → Next Q (pre ++ front) rest kind
  next_in front rest Expected n = tt
  next_in front rest DeepNesting n = record { token = n.token; behind = n.behind; is = n.is; plain = n.plain; fills = with_token 2 front n.token n.fills }
  next_in front rest OutOfProfile n = record { token = n.token; behind = n.behind; is = n.is; word = n.word; other = n.other; free = n.free; fills = with_token 2 front n.other n.fills }
  next_in front rest kind n = absurd n

  bare_in : (N M : Type 0) (front : List Token) → (N → Fills Q 0 pre ⊎ (M × (pre ≡ []))) → Fills P 0 front ⊎ (N × (front ≡ [])) → Fills Q 0 (pre ++ front) ⊎ (M × (pre ++ front ≡ []))
  bare_in N M front none (inl f) = inl (fills_in 0 front f)
  bare_in N M front none (inr n) =
      let same : pre ≡ pre ++ front = sym (append-nil pre) ∙ ap (λ (xs : List Token). pre ++ xs) (sym n.1) in
      subst (λ (xs : List Token). Fills Q 0 xs ⊎ (M × (xs ≡ []))) same (none n.0)

  pub extend : (N M : Type 0) (ts all : List Token) → all ≡ pre ++ ts → (N → Fills Q 0 pre ⊎ (M × (pre ≡ []))) → (kind : FaultKind) (rest : List Token) → FaultOf N P ts kind rest → FaultOf M Q all kind rest
  extend N M ts all whole none kind rest f = record {
    front = pre ++ f.front;
    is = whole ∙ ap (λ (xs : List Token). pre ++ xs) f.is ∙ sym (append_assoc pre f.front rest);
    bare = bare_in N M f.front none f.bare;
    next = next_in f.front rest kind f.next;
  }

-- ---- a refusal

module _ (N : Type 0) (P : ℕ → List Token → Type 0) (bare : Fills P 0 [] ⊎ N) (other : Token) (free : IsFree other) (fills : Fills P 2 (other ∷ [])) where
  refused_by : (t : Token) (ts : List Token) (kind : FaultKind) → (kind ≡ Expected) ⊎ ((kind ≡ OutOfProfile) × (is_refused_kind t.kind ≡ true)) → FaultOf N P (t ∷ ts) kind (t ∷ ts)
  refused_by t ts kind (inl is) = subst (λ (k : FaultKind). FaultOf N P (t ∷ ts) k (t ∷ ts)) (sym is) (at_once N P (t ∷ ts) Expected bare tt)
  refused_by t ts kind (inr is) =
      subst (λ (k : FaultKind). FaultOf N P (t ∷ ts) k (t ∷ ts)) (sym is.0)
      (at_once N P (t ∷ ts) OutOfProfile bare (record { token = t; behind = ts; is = refl; word = is.1; other = other; free = free; fills = fills }))

  pub refused : (ts : List Token) → FaultOf N P ts (refusal ts) ts
  unfolding refusal first
  refused [] = at_once N P [] Expected bare tt
  refused (t ∷ ts) = refused_by t ts (refusal_by t.kind) (refusals t.kind)
