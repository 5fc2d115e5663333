-- Two readings of tokens that are alike up to a place, the second perhaps at a greater depth.
use Rattle.std.proofs.Common.{◌≡◌, ◌≤◌, ℕ, zero, suc, ◌+◌, ◌==◌, max, nat_lt, nat_le, Bool, true, false, if◌then◌else◌, List, [], ◌∷◌, ◌++◌, length, Option, Some, None, Ok, Err, refl, sym, ap, ◌∙◌, subst, ◌⊎◌, inl, inr, arith}
use Rattle.std.proofs.lemmas.Bool.Decides.{nat_tests}
use Rattle.fb_base.specs.declared.fault.Span.{Span}
use Rattle.fb_base.specs.declared.fault.FaultKind.{FaultKind}
use Rattle.fb_base.specs.declared.fault.FaultKind.TheVariants.{Expected, DeepNesting, OutOfProfile}
use Rattle.fb_lexer.specs.declared.token.Token.{Token}
use Rattle.fb_lexer.specs.declared.token.TokenKind.{TokenKind}
use Rattle.fb_lexer.specs.declared.token.TokenKind.TheVariants as kinds
use Rattle.fb_lexer.specs.declared.token.Mark.{Mark}
use Rattle.fb_lexer.specs.declared.token.Mark.TheVariants.{Close, Comma}
use Rattle.fb_ast.specs.declared.expr.Expr.{Expr}
use Rattle.fb_ast.specs.declared.ty.Base.{Base}
use Rattle.fb_ast.specs.declared.ty.TypeName.{TypeName}
use Rattle.fb_ast.specs.declared.part.Name.{Name}
use Rattle.fb_ast.specs.declared.operator.Unary.{Unary}
use Rattle.parse_expr.specs.declared.kinds.Operator.{Operator}
use Rattle.parse_expr.specs.declared.kinds.Suffix.{Suffix}
use Rattle.parse_expr.specs.declared.error.ReadErr.{ReadErr}
use Rattle.parse_expr.specs.declared.error.ReadErr.TheVariants as read_errs
use Rattle.parse_expr.specs.Words.{prefix_of, is_pointer, base_of, suffix_of, binary_of}
use Rattle.parse_expr.specs.Reading.{first, next, is_mark, holds, sees, expect, refusal, refuse, Outcome, Reader, and_then}
use Rattle.parse_expr.specs.Types.{pointers, behind_pointers, type_name, type_at, type_from, name, name_at, name_by}
use Rattle.parse_expr.specs.Productions.{Production, gives, mark, typed, named, part, arguments, choice, Start, Leaf, Inner, Nothing, start_of, suffix_production, begins_some}
use Rattle.parse_expr.specs.Expr.{Measured, expr, part_in, arguments_from, arguments_in, read_production, opens, started, primary, suffix_at, suffix_by, suffixed, suffixes_from, suffixes, prefixed, operand, operand_by, operand_at, operated, climb_by, climb_from, climb, level, operator_at, at_level, begins, begins_as, no_room}
use Rattle.parse_expr.specs.Faults.{is_refused_kind}
use Rattle.parse_expr.proofs.Turned.{suffix_turns, climb_turns}
use Rattle.parse_expr.proofs.Ends.{Suffixes, same_end, end_of_end, no_longer, Leaves, further, argument_turns, with_right, with_prefix}
use Rattle.parse_expr.proofs.Complete.{no_pointers}
use Rattle.parse_expr.proofs.Refused.{nowhere}
use Rattle.parse_expr.proofs.Fills.{IsFree}
use Rattle.parse_expr.proofs.Begun.{start_opened}

-- ---- where the two lists part

-- what comes next goes on with nothing
pub record Weak (o : Option Token) : Type 0 where
  pub mark : (which : Mark) → holds (is_mark which) o ≡ false
  pub named : (ts : List Token) → name_at o ts ≡ Err (read_errs.Fault Expected, ts)
  pub suffix : suffix_at o ≡ None
  pub operator : (least : ℕ) → operator_at least o ≡ None
  pub pointer : holds is_pointer o ≡ false

weak_none : Weak None
weak_none = record { mark = λ which. refl; named = λ ts. refl; suffix = refl; operator = λ least. refl; pointer = refl }

weak_free : (t : Token) → IsFree t → Weak (Some t)
weak_free t (inl n) = record {
  mark = λ which. ap (is_mark which) n.1;
  named = λ ts. ap (λ (k : TokenKind). name_by t.at k ts) n.1;
  suffix = ap suffix_of n.1;
  operator = λ least. ap (λ (k : TokenKind). at_level least t.at (binary_of k)) n.1;
  pointer = ap is_pointer n.1;
}
weak_free t (inr n) = record {
  mark = λ which. ap (is_mark which) n;
  named = λ ts. ap (λ (k : TokenKind). name_by t.at k ts) n;
  suffix = ap suffix_of n;
  operator = λ least. ap (λ (k : TokenKind). at_level least t.at (binary_of k)) n;
  pointer = ap is_pointer n;
}

-- an error at the first token
pub record ErrAt {A : Type 0} (o : Outcome A) (ts : List Token) : Type 0 where
  pub stop : ReadErr
  pub is : o ≡ Err (stop, ts)

-- what comes next begins nothing
pub record Empty (o : Option Token) : Type 0 where
  pub no_type : (ts : List Token) → ErrAt (type_at o ts) ts
  pub no_operand : (room least : ℕ) (ts : List Token) → ErrAt (operand_at (expr room) room least o ts) ts
  pub no_begin : (least : ℕ) → begins least o ≡ false

empty_none : Empty None
empty_none = record { no_type = λ ts. record { stop = read_errs.Fault (refusal ts); is = refl }; no_operand = λ room least ts. record { stop = read_errs.Fault (refusal ts); is = refl }; no_begin = λ least. refl }

empty_by : (u : Token) → base_of u.kind ≡ None → prefix_of u.kind ≡ None → ((at : Span) → start_of at u.kind ≡ Nothing) → Empty (Some u)
unfolding primary
empty_by u b p st = record {
  no_type = λ ts. record { stop = read_errs.Fault (refusal ts); is = rw b refl };
  no_operand = λ room least ts. record { stop = read_errs.Fault (refusal ts); is = rw (p, st u.at) refl };
  no_begin = λ least. rw (p, st (record { line = 1; col = 1 })) refl;
}

-- an end of a statement
pub empty_end : (u : Token) → (u.kind ≡ kinds.Colon) ⊎ (u.kind ≡ kinds.LineEnd) → Empty (Some u)
empty_end u (inl e) = empty_by u (ap base_of e) (ap prefix_of e) (λ at. ap (start_of at) e)
empty_end u (inr e) = empty_by u (ap base_of e) (ap prefix_of e) (λ at. ap (start_of at) e)

-- The second list has at the place nothing, or something that begins nothing, or something that is an operand or a type
-- alone, where the first one has a word that this profile doesn't have. L has the kinds of faults that may stand at the
-- place in the first reading alone.
pub record Gap (L : FaultKind → Type 0) (t : Token) (v : List Token) : Type 0 where
  pub weak : Weak (first v)
  pub deep : L DeepNesting
  pub nothing : Empty (first v) ⊎ (L OutOfProfile × (is_refused_kind t.kind ≡ true))

-- the same token stands there in both lists, or there is a gap
abbrev pub Position : (FaultKind → Type 0) → Token → List Token → Type 0
Position L t v = (first v ≡ Some t) ⊎ Gap L t v

pub same_place : (L : FaultKind → Type 0) (t : Token) (more : List Token) → Position L t (t ∷ more)
unfolding first
same_place L t more = inl refl

pub cut_place : (L : FaultKind → Type 0) (t : Token) → L DeepNesting → Position L t []
unfolding first
cut_place L t deep = inr (record { weak = weak_none; deep = deep; nothing = inl empty_none })

pub other_place : (L : FaultKind → Type 0) (t u : Token) (more : List Token) → L DeepNesting → L OutOfProfile → is_refused_kind t.kind ≡ true → IsFree u → Position L t (u ∷ more)
unfolding first
other_place L t u more deep out word free = inr (record { weak = weak_free u free; deep = deep; nothing = inr (out, word) })

-- the depths of the two readings
abbrev pub Rooms : (FaultKind → Type 0) → ℕ → ℕ → Type 0
Rooms L room other = (room ≡ other) ⊎ (L DeepNesting × (room ≤ other))

abbrev Guards : (FaultKind → Type 0) → Bool → Bool → Type 0
Guards L b c = (b ≡ c) ⊎ (L DeepNesting × (b ≡ false → c ≡ false))

zero_later : (room other : ℕ) → room ≤ other → (room == 0) ≡ false → (other == 0) ≡ false
zero_later room other less is = grind (arith, nat_tests)

lt_later : (room other n : ℕ) → room ≤ other → nat_lt room n ≡ false → nat_lt other n ≡ false
lt_later room other n less is = grind (arith, nat_tests)

zero_guards : (L : FaultKind → Type 0) (room other : ℕ) → Rooms L room other → Guards L (room == 0) (other == 0)
zero_guards L room other (inl is) = inl (ap (λ (n : ℕ). n == 0) is)
zero_guards L room other (inr more) = inr (more.0, zero_later room other more.1)

lt_guards : (L : FaultKind → Type 0) (room other n : ℕ) → Rooms L room other → Guards L (nat_lt room n) (nat_lt other n)
lt_guards L room other n (inl is) = inl (ap (λ (m : ℕ). nat_lt m n) is)
lt_guards L room other n (inr more) = inr (more.0, lt_later room other n more.1)

-- Two lists of tokens with one front, and what stands behind it in each.
module _ (L : FaultKind → Type 0) (t : Token) (s v : List Token) (place : Position L t v) where
  pub data Alike : List Token → List Token → Type 0 where
    here : Alike (t ∷ s) v
    there : (x : Token) (ts us : List Token) → Alike ts us → Alike (x ∷ ts) (x ∷ us)

  abbrev pub Loose : ReadErr → Type 0
  Loose read_errs.NoMemory = ⊥
  Loose (read_errs.Fault kind) = L kind

  -- the reading went on behind the place, or it ends in a fault of such a kind
  abbrev pub Gone : {A : Type 0} → Outcome A → Type 0
  Gone (Ok p) = length p.1 ≤ length s
  Gone (Err p) = (length p.1 ≤ length s) ⊎ Loose p.0

  -- both readings end alike
  abbrev pub Same : {A : Type 0} → Outcome A → Outcome A → Type 0
  Same (Ok p) o = (r : List Token) × (o ≡ Ok (p.0, r)) × Alike p.1 r
  Same (Err p) o = (stop : ReadErr) × (r : List Token) × (o ≡ Err (stop, r)) × Alike p.1 r

  abbrev pub Near : {A : Type 0} → Outcome A → Outcome A → Type 0
  Near o other = Gone o ⊎ Same o other

  pub record Twin {A : Type 0} (p q : Reader A) : Type 0 where
    pub leaves : (ts : List Token) → Leaves ts (p ts)
    pub near : (ts us : List Token) → Alike ts us → Near (p ts) (q us)

  -- ---- steps of readings

  pub past : {A : Type 0} (ts : List Token) (o : Outcome A) → length ts ≤ length s → Leaves ts o → Gone o
  past ts (Ok p) small l = let n = no_longer l in omega arith
  past ts (Err p) small l = let n = no_longer l in inl (omega arith)

  pub twin_pure : {A : Type 0} (a : A) → Twin (λ (ts : List Token). Ok (a, ts)) (λ (ts : List Token). Ok (a, ts))
  twin_pure a = record { leaves = λ ts. same_end ts; near = λ ts us al. inr (us, refl, al) }

  pub twin_stop : {A : Type 0} (stop other : ReadErr) → Twin {A = A} (λ (ts : List Token). Err (stop, ts)) (λ (ts : List Token). Err (other, ts))
  twin_stop stop other = record { leaves = λ ts. same_end ts; near = λ ts us al. inr (other, us, refl, al) }

  pub twin_loose : {A : Type 0} (kind : FaultKind) (q : Reader A) → L kind → Twin (λ (ts : List Token). Err (read_errs.Fault kind, ts)) q
  twin_loose kind q loose = record { leaves = λ ts. same_end ts; near = λ ts us al. inl (inr loose) }

  leaves_then : {A B : Type 0} (ts : List Token) (o : Outcome A) (f : A → Reader B) → Leaves ts o → ((a : A) (rest : List Token) → Leaves rest (f a rest)) → Leaves ts (and_then o f)
  leaves_then ts (Ok p) f l k = further p.1 ts (f p.0 p.1) l (k p.0 p.1)
  leaves_then ts (Err p) f l k = l

  pub gone_then : {A B : Type 0} (o : Outcome A) (f : A → Reader B) → Gone o → ((a : A) (rest : List Token) → Leaves rest (f a rest)) → Gone (and_then o f)
  gone_then (Ok p) f gone k = past p.1 (f p.0 p.1) gone (k p.0 p.1)
  gone_then (Err p) f gone k = gone

  near_same : {A B : Type 0} (o other : Outcome A) (f g : A → Reader B) → Same o other → ((a : A) → Twin (f a) (g a)) → Near (and_then o f) (and_then other g)
  near_same {A = A} (Ok p) other f g l k = subst (λ (x : Outcome A). Near (f p.0 p.1) (and_then x g)) (sym l.1) ((k p.0).near p.1 l.0 l.2)
  near_same {A = A} (Err p) other f g l k = inr (l.0, l.1, ap (λ (x : Outcome A). and_then x g) l.2, l.3)

  near_then : {A B : Type 0} (o other : Outcome A) (f g : A → Reader B) → Near o other → ((a : A) → Twin (f a) (g a)) → Near (and_then o f) (and_then other g)
  near_then o other f g (inl gone) k = inl (gone_then o f gone (λ a rest. (k a).leaves rest))
  near_then o other f g (inr l) k = near_same o other f g l k

  pub twin_then : {A B : Type 0} (p q : Reader A) (f g : A → Reader B) → Twin p q → ((a : A) → Twin (f a) (g a)) → Twin (λ (ts : List Token). and_then (p ts) f) (λ (ts : List Token). and_then (q ts) g)
  twin_then p q f g h k = record { leaves = λ ts. leaves_then ts (p ts) f (h.leaves ts) (λ a rest. (k a).leaves rest); near = λ ts us al. near_then (p ts) (q us) f g (h.near ts us al) k }

  pub twin_test : {A : Type 0} (b : Bool) (p q p' q' : Reader A) → Twin p p' → Twin q q' → Twin (λ (ts : List Token). if b then p ts else q ts) (λ (ts : List Token). if b then p' ts else q' ts)
  twin_test true p q p' q' g h = g
  twin_test false p q p' q' g h = h

  pub twin_if : {A : Type 0} (b : Bool) (p q p' q' : Reader A) → Twin p p' → Twin q q' → Twin (if b then p else q) (if b then p' else q')
  twin_if true p q p' q' g h = g
  twin_if false p q p' q' g h = h

  -- behind a look at the depth
  guard_by : {A : Type 0} (b c : Bool) (p p' : Reader A) → Guards L b c → Twin p p' → Twin (if b then (λ (ts : List Token). Err (read_errs.Fault DeepNesting, ts)) else p) (if c then (λ (ts : List Token). Err (read_errs.Fault DeepNesting, ts)) else p')
  guard_by true true p p' g h = twin_stop (read_errs.Fault DeepNesting) (read_errs.Fault DeepNesting)
  guard_by true false p p' (inl is) h = cc
  guard_by true false p p' (inr more) h = twin_loose DeepNesting p' more.0
  guard_by false true p p' (inl is) h = cc
  guard_by false true p p' (inr more) h = let same : true ≡ false = more.1 refl in cc
  guard_by false false p p' g h = h

  -- ---- the next token

  near_look : {A : Type 0} (g h : Option Token → Reader A) → ((o : Option Token) → Twin (g o) (h o)) → Position L t v → (Gap L t v → Near (g (Some t) (t ∷ s)) (h (first v) v)) → Near (g (Some t) (t ∷ s)) (h (first v) v)
  near_look g h k (inl same) gap = subst (λ (o : Option Token). Near (g (Some t) (t ∷ s)) (h o v)) (sym same) ((k (Some t)).near (t ∷ s) v here)
  near_look g h k (inr q) gap = gap q

  look_alike : {A : Type 0} (g h : Option Token → Reader A) → ((o : Option Token) → Twin (g o) (h o)) → Near (g (Some t) (t ∷ s)) (h (first v) v) → (ts us : List Token) → Alike ts us → Near (g (first ts) ts) (h (first us) us)
  unfolding first
  look_alike g h k at ts us here = at
  look_alike g h k at ts us (there x a b al) = (k (Some x)).near (x ∷ a) (x ∷ b) (there x a b al)

  pub twin_look : {A : Type 0} (g h : Option Token → Reader A) → ((o : Option Token) → Twin (g o) (h o)) → (Gap L t v → Near (g (Some t) (t ∷ s)) (h (first v) v)) → Twin (λ (ts : List Token). g (first ts) ts) (λ (ts : List Token). h (first ts) ts)
  twin_look g h k gap = record { leaves = λ ts. (k (first ts)).leaves ts; near = look_alike g h k (near_look g h k place gap) }

  pub leave_next : (ts : List Token) → Suffixes (next ts) ts
  unfolding next
  leave_next [] = same_end []
  leave_next (x ∷ ts) = record { front = x ∷ []; is = refl }

  take_near : {A : Type 0} (a : A) (ts us : List Token) → Alike ts us → Near (Ok (a, next ts)) (Ok (a, next us))
  unfolding next
  take_near a ts us here = inl (omega arith)
  take_near a ts us (there x b c al) = inr (c, refl, al)

  pub twin_take : {A : Type 0} (a : A) → Twin (λ (ts : List Token). Ok (a, next ts)) (λ (ts : List Token). Ok (a, next ts))
  twin_take a = record { leaves = λ ts. leave_next ts; near = take_near a }

  -- behind the next token
  pub twin_next : {A : Type 0} (p q : Reader A) → Twin p q → Twin (λ (ts : List Token). p (next ts)) (λ (ts : List Token). q (next ts))
  twin_next p q g = twin_then (λ ts. Ok (tt, next ts)) (λ ts. Ok (tt, next ts)) (λ (done : Unit {0}). p) (λ (done : Unit {0}). q) (twin_take tt) (λ done. g)

  -- a reading behind the place's token
  pub eaten : {A : Type 0} (p q : Reader A) → Twin p q → Gone (p (next (t ∷ s)))
  unfolding next
  eaten p q g = past s (p s) (omega arith) (g.leaves s)

  pub gone_if : {A : Type 0} (b : Bool) (p q : Outcome A) → Gone p → Gone q → Gone (if b then p else q)
  gone_if true p q g h = g
  gone_if false p q g h = h

  pub gone_reader : {A : Type 0} (b : Bool) (p q : Reader A) (ts : List Token) → Gone (p ts) → Gone (q ts) → Gone ((if b then p else q) ts)
  gone_reader true p q ts g h = g
  gone_reader false p q ts g h = h

  at_test : {A : Type 0} (b c : Bool) (p q p' q' : Reader A) → c ≡ false → Gone (p (t ∷ s)) → Near (q (t ∷ s)) (q' v) → Near (if b then p (t ∷ s) else q (t ∷ s)) (if c then p' v else q' v)
  at_test true c p q p' q' is gone near = inl gone
  at_test false c p q p' q' is gone near = rw is near

  -- a look for a mark
  pub twin_mark : {A : Type 0} (which : Mark) (p q p' q' : Reader A) → Twin p p' → (Gap L t v → Gone (p (t ∷ s))) → Twin q q' → Twin (λ (ts : List Token). if sees which ts then p ts else q ts) (λ (ts : List Token). if sees which ts then p' ts else q' ts)
  unfolding sees
  twin_mark which p q p' q' g gone h = twin_look (λ o ts. if holds (is_mark which) o then p ts else q ts) (λ o ts. if holds (is_mark which) o then p' ts else q' ts)
      (λ o. twin_test (holds (is_mark which) o) p q p' q' g h)
      (λ gap. at_test (holds (is_mark which) (Some t)) (holds (is_mark which) (first v)) p q p' q' (gap.weak.mark which) (gone gap) (h.near (t ∷ s) v here))

  pub twin_expect : (which : Mark) → Twin (expect which) (expect which)
  unfolding expect
  twin_expect which =
      let done : Unit {0} = tt in
      let took : Reader (Unit {0}) = λ ts. Ok (done, next ts) in
      let kept : Reader (Unit {0}) = λ ts. Ok (done, ts) in
      let wrong : Reader (Unit {0}) = λ ts. Err (read_errs.Fault Expected, ts) in
      twin_mark which took wrong took wrong (twin_take done) (λ gap. eaten kept kept (twin_pure done)) (twin_stop (read_errs.Fault Expected) (read_errs.Fault Expected))

  pub twin_refuse : {A : Type 0} → Twin (refuse {A = A}) (refuse {A = A})
  twin_refuse = record { leaves = λ ts. same_end ts; near = λ ts us al. inr (read_errs.Fault (refusal us), us, refl, al) }

  loose_refusal : (A : Type 0) → L OutOfProfile → is_refused_kind t.kind ≡ true → Gone {A = A} (Err (read_errs.Fault (refusal (t ∷ s)), t ∷ s))
  unfolding refusal first
  loose_refusal A out word = let n = nowhere t.kind word in inr (subst (λ (k : FaultKind). L k) (sym n.refusal) out)

  -- a refusal at the place, where the second reading refuses nothing at all
  pub refuse_near : {A : Type 0} (other : Outcome A) → Gap L t v → (Empty (first v) → ErrAt other v) → Near (Err (read_errs.Fault (refusal (t ∷ s)), t ∷ s)) other
  refuse_near {A = A} other gap none = elim gap.nothing [ inl is ↦ inr ((none is).stop, v, (none is).is, here) | inr r ↦ inl (loose_refusal A r.0 r.1) ]

  -- ---- names and types

  twin_name_by : (at : Span) (kind : TokenKind) → Twin (name_by at kind) (name_by at kind)
  twin_name_by at (kinds.Name text) = twin_take (record { at = at; text = text })
  twin_name_by at (kinds.Mark which) = twin_stop (read_errs.Fault Expected) (read_errs.Fault Expected)
  twin_name_by at (kinds.Word word) = twin_stop (read_errs.Fault Expected) (read_errs.Fault Expected)
  twin_name_by at (kinds.Number value) = twin_stop (read_errs.Fault Expected) (read_errs.Fault Expected)
  twin_name_by at (kinds.Str text) = twin_stop (read_errs.Fault Expected) (read_errs.Fault Expected)
  twin_name_by at kinds.Colon = twin_stop (read_errs.Fault Expected) (read_errs.Fault Expected)
  twin_name_by at kinds.LineEnd = twin_stop (read_errs.Fault Expected) (read_errs.Fault Expected)

  twin_name_at : (o : Option Token) → Twin (name_at o) (name_at o)
  twin_name_at None = twin_stop (read_errs.Fault Expected) (read_errs.Fault Expected)
  twin_name_at (Some x) = twin_name_by x.at x.kind

  name_near : (at : Span) (kind : TokenKind) (other : Outcome Name) → other ≡ Err (read_errs.Fault Expected, v) → Near (name_by at kind (t ∷ s)) other
  unfolding next
  name_near at (kinds.Name text) other is = inl (omega arith)
  name_near at (kinds.Mark which) other is = inr (read_errs.Fault Expected, v, is, here)
  name_near at (kinds.Word word) other is = inr (read_errs.Fault Expected, v, is, here)
  name_near at (kinds.Number value) other is = inr (read_errs.Fault Expected, v, is, here)
  name_near at (kinds.Str text) other is = inr (read_errs.Fault Expected, v, is, here)
  name_near at kinds.Colon other is = inr (read_errs.Fault Expected, v, is, here)
  name_near at kinds.LineEnd other is = inr (read_errs.Fault Expected, v, is, here)

  pub twin_name : Twin name name
  unfolding name
  twin_name = twin_look name_at name_at twin_name_at (λ gap. name_near t.at t.kind (name_at (first v) v) (gap.weak.named v))

  leave_pointers_if : (x : Token) (ts : List Token) (b : Bool) → is_pointer x.kind ≡ b → Suffixes (behind_pointers ts) ts → Suffixes (behind_pointers (x ∷ ts)) (x ∷ ts)
  unfolding behind_pointers
  leave_pointers_if x ts true is l = rw is (record { front = x ∷ l.front; is = ap (λ xs. x ∷ xs) l.is })
  leave_pointers_if x ts false is l = rw is (same_end (x ∷ ts))

  leave_pointers : (ts : List Token) → Suffixes (behind_pointers ts) ts
  unfolding behind_pointers
  leave_pointers [] = same_end []
  leave_pointers (x ∷ ts) = leave_pointers_if x ts (is_pointer x.kind) refl (leave_pointers ts)

  abbrev PointersNear : List Token → List Token → Type 0
  PointersNear ts us = (length (behind_pointers ts) ≤ length s) ⊎ ((pointers ts ≡ pointers us) × Alike (behind_pointers ts) (behind_pointers us))

  unpointed_place : Position L t v → is_pointer t.kind ≡ false → holds is_pointer (first v) ≡ false
  unpointed_place (inl same) is = ap (holds is_pointer) same ∙ is
  unpointed_place (inr gap) is = gap.weak.pointer

  pointers_here : (b : Bool) → is_pointer t.kind ≡ b → PointersNear (t ∷ s) v
  unfolding pointers behind_pointers
  pointers_here true is = let n = no_longer (leave_pointers s) in inl (rw is n)
  pointers_here false is =
      let p = no_pointers v (unpointed_place place is) in
      inr (rw is (sym p.0), subst (λ (xs : List Token). Alike (if is_pointer t.kind then behind_pointers s else t ∷ s) xs) (sym p.1) (rw is here))

  pointers_there : (x : Token) (ts us : List Token) (b : Bool) → is_pointer x.kind ≡ b → Alike ts us → PointersNear ts us → PointersNear (x ∷ ts) (x ∷ us)
  unfolding pointers behind_pointers
  pointers_there x ts us true is al (inl small) = inl (rw is small)
  pointers_there x ts us true is al (inr p) = inr (rw is (ap suc p.0), rw is p.1)
  pointers_there x ts us false is al p = inr (rw is refl, rw is (there x ts us al))

  pointers_near : (ts us : List Token) → Alike ts us → PointersNear ts us
  pointers_near ts us here = pointers_here (is_pointer t.kind) refl
  pointers_near ts us (there x a b al) = pointers_there x a b (is_pointer x.kind) refl al (pointers_near a b al)

  type_behind : (at : Span) (base : Base) (a b : List Token) → PointersNear a b
      → Near {A = TypeName} (Ok (record { at = at; base = base; pointers = pointers a }, behind_pointers a)) (Ok (record { at = at; base = base; pointers = pointers b }, behind_pointers b))
  type_behind at base a b (inl small) = inl small
  type_behind at base a b (inr p) = inr (behind_pointers b, ap (λ (n : ℕ). Ok (record { at = at; base = base; pointers = n }, behind_pointers b)) (sym p.0), p.1)

  type_near : (at : Span) (base : Base) (ts us : List Token) → Alike ts us → Near (type_from at (Some base) ts) (type_from at (Some base) us)
  unfolding next
  type_near at base ts us here = inl (no_longer (leave_pointers s))
  type_near at base ts us (there x a b al) = type_behind at base a b (pointers_near a b al)

  twin_type_from : (at : Span) (base : Option Base) → Twin (type_from at base) (type_from at base)
  twin_type_from at None = twin_refuse
  twin_type_from at (Some base) = record { leaves = λ ts. end_of_end (leave_pointers (next ts)) (leave_next ts); near = type_near at base }

  twin_type_at : (o : Option Token) → Twin (type_at o) (type_at o)
  twin_type_at None = twin_refuse
  twin_type_at (Some x) = twin_type_from x.at (base_of x.kind)

  type_place : (base : Option Base) (other : Outcome TypeName) → Gap L t v → (Empty (first v) → ErrAt other v) → Near (type_from t.at base (t ∷ s)) other
  unfolding next
  type_place None other gap none = refuse_near other gap none
  type_place (Some base) other gap none = inl (no_longer (leave_pointers s))

  pub twin_type : Twin type_name type_name
  unfolding type_name
  twin_type = twin_look type_at type_at twin_type_at (λ gap. type_place (base_of t.kind) (type_at (first v) v) gap (λ e. e.no_type v))

  -- ---- productions

  comma_either : (b : Bool) → Twin (λ (ts : List Token). Ok (b, if b then next ts else ts)) (λ (ts : List Token). Ok (b, if b then next ts else ts))
  comma_either true = twin_take true
  comma_either false = twin_pure false

  comma_near : (b c : Bool) → c ≡ false → Near (Ok (b, if b then next (t ∷ s) else t ∷ s)) (Ok (c, if c then next v else v))
  unfolding next
  comma_near true c is = inl (omega arith)
  comma_near false c is = rw is (inr (v, refl, here))

  pub twin_comma : Twin (λ (ts : List Token). Ok (sees Comma ts, if sees Comma ts then next ts else ts)) (λ (ts : List Token). Ok (sees Comma ts, if sees Comma ts then next ts else ts))
  unfolding sees
  twin_comma = twin_look (λ o ts. Ok (holds (is_mark Comma) o, if holds (is_mark Comma) o then next ts else ts)) (λ o ts. Ok (holds (is_mark Comma) o, if holds (is_mark Comma) o then next ts else ts))
      (λ o. comma_either (holds (is_mark Comma) o)) (λ gap. comma_near (holds (is_mark Comma) (Some t)) (holds (is_mark Comma) (first v)) (gap.weak.mark Comma))

  module _ (room other : ℕ) (rooms : Rooms L room other) (twin : (l : ℕ) → Twin (expr room l) (expr other l)) where
    twin_part : (deepest : ℕ) → Twin (part_in (expr room) room deepest) (part_in (expr other) other deepest)
    unfolding part_in
    twin_part deepest = twin_then (expr room 1) (expr other 1) (λ x ts. Ok ((x.0, max deepest x.1), ts)) (λ x ts. Ok ((x.0, max deepest x.1), ts)) (twin 1) (λ x. twin_pure (x.0, max deepest x.1))

    twin_arguments_from : (n : ℕ) (found : List Expr) (deepest : ℕ) → Twin (arguments_from (expr room) room n found deepest) (arguments_from (expr other) other n found deepest)
    unfolding arguments_from
    twin_arguments_from zero found deepest = twin_refuse
    twin_arguments_from (suc n) found deepest =
        twin_then (part_in (expr room) room deepest) (part_in (expr other) other deepest) _ _ (twin_part deepest) (λ x. twin_then _ _ _ _ twin_comma
        (λ more. twin_if more _ _ _ _ (twin_arguments_from n (found ++ x.0 ∷ []) x.1) (twin_then (expect Close) (expect Close) _ _ (twin_expect Close) (λ done. twin_pure (found ++ x.0 ∷ [], x.1)))))

    twin_some : (deepest : ℕ) → Twin (λ (ts : List Token). arguments_from (expr room) room (length ts) [] deepest ts) (λ (ts : List Token). arguments_from (expr other) other (length ts) [] deepest ts)
    twin_some deepest = record {
      leaves = λ ts. (twin_arguments_from (length ts) [] deepest).leaves ts;
      near = λ ts us al.
          let n = length ts + length us in
          let one = argument_turns room (length ts) n [] deepest ts (omega arith) (omega arith) in
          let two = argument_turns other (length us) n [] deepest us (omega arith) (omega arith) in
          rw (one, two) ((twin_arguments_from n [] deepest).near ts us al);
    }

    twin_arguments : (deepest : ℕ) → Twin (arguments_in (expr room) room deepest) (arguments_in (expr other) other deepest)
    unfolding arguments_in
    twin_arguments deepest =
        let none : List Expr × ℕ = ([], deepest) in
        let took : Reader (List Expr × ℕ) = λ ts. Ok (none, next ts) in
        let kept : Reader (List Expr × ℕ) = λ ts. Ok (none, ts) in
        twin_mark Close took (λ ts. arguments_from (expr room) room (length ts) [] deepest ts) took (λ ts. arguments_from (expr other) other (length ts) [] deepest ts)
        (twin_take none) (λ gap. eaten kept kept (twin_pure none)) (twin_some deepest)

    -- the first production of a choice, behind its mark
    abbrev Chosen : ℕ → Production → ℕ → Reader Measured
    Chosen r one deepest = λ ts. if opens one then (if r == 0 then Err (read_errs.Fault DeepNesting, ts) else read_production (expr r) r deepest one (next ts)) else read_production (expr r) r deepest one (next ts)

    guarded_by : {A : Type 0} (b c : Bool) (p p' : Reader A) → Guards L b c → Twin p p' → Twin (λ (ts : List Token). if b then Err (read_errs.Fault DeepNesting, ts) else p ts) (λ (ts : List Token). if c then Err (read_errs.Fault DeepNesting, ts) else p' ts)
    guarded_by true true p p' g h = twin_stop (read_errs.Fault DeepNesting) (read_errs.Fault DeepNesting)
    guarded_by true false p p' (inl is) h = cc
    guarded_by true false p p' (inr more) h = twin_loose DeepNesting p' more.0
    guarded_by false true p p' (inl is) h = cc
    guarded_by false true p p' (inr more) h = let same : true ≡ false = more.1 refl in cc
    guarded_by false false p p' g h = h

    twin_production : (production : Production) (deepest : ℕ) → Twin (read_production (expr room) room deepest production) (read_production (expr other) other deepest production)
    twin_production (gives tree) deepest = twin_pure (tree, deepest + 1)
    twin_production (mark which production) deepest = twin_then (expect which) (expect which) _ _ (twin_expect which) (λ done. twin_production production deepest)
    twin_production (typed production) deepest = twin_then type_name type_name _ _ twin_type (λ ty. twin_production (production ty) deepest)
    twin_production (named production) deepest = twin_then name name _ _ twin_name (λ n. twin_production (production n) deepest)
    twin_production (part production) deepest = twin_then (part_in (expr room) room deepest) (part_in (expr other) other deepest) _ _ (twin_part deepest) (λ x. twin_production (production x.0) x.1)
    twin_production (arguments production) deepest = twin_then (arguments_in (expr room) room deepest) (arguments_in (expr other) other deepest) _ _ (twin_arguments deepest) (λ x. twin_production (production x.0) x.1)
    twin_production (choice which one two) deepest =
        let behind = twin_next (read_production (expr room) room deepest one) (read_production (expr other) other deepest one) (twin_production one deepest) in
        let gone = eaten (read_production (expr room) room deepest one) (read_production (expr other) other deepest one) (twin_production one deepest) in
        twin_mark which (Chosen room one deepest) (read_production (expr room) room deepest two) (Chosen other one deepest) (read_production (expr other) other deepest two)
        (twin_test (opens one) _ _ _ _ (guarded_by (room == 0) (other == 0) _ _ (zero_guards L room other rooms) behind) behind)
        (λ gap. gone_if (opens one) _ _ (gone_if (room == 0) _ _ (inr gap.deep) gone) gone)
        (twin_production two deepest)

    twin_started : (start : Start) → Twin (started (expr room) room start) (started (expr other) other start)
    twin_started (Leaf production) = twin_next _ _ (twin_production production 0)
    twin_started (Inner production) = guard_by (room == 0) (other == 0) _ _ (zero_guards L room other rooms) (twin_next (read_production (expr room) room 0 production) (read_production (expr other) other 0 production) (twin_production production 0))
    twin_started Nothing = twin_refuse

    twin_suffixed : (x : Measured) (kind : Suffix) → Twin (suffixed (expr room) room x kind) (suffixed (expr other) other x kind)
    twin_suffixed x kind =
        guard_by (nat_lt room x.1) (nat_lt other x.1) _ _ (lt_guards L room other x.1 rooms) (twin_next (read_production (expr room) room x.1 (suffix_production x.0 kind)) (read_production (expr other) other x.1 (suffix_production x.0 kind)) (twin_production (suffix_production x.0 kind) x.1))

    gone_suffixed : (x : Measured) (kind : Suffix) → L DeepNesting → Gone (suffixed (expr room) room x kind (t ∷ s))
    gone_suffixed x kind deep = gone_reader (nat_lt room x.1) _ _ (t ∷ s) (inr deep) (eaten (read_production (expr room) room x.1 (suffix_production x.0 kind)) (read_production (expr other) other x.1 (suffix_production x.0 kind)) (twin_production (suffix_production x.0 kind) x.1))

    twin_suffix_by : (n : ℕ) (x : Measured) (o : Option Suffix) → ((y : Measured) → Twin (suffixes_from (expr room) room n y) (suffixes_from (expr other) other n y))
        → Twin (suffix_by (expr room) room o x (suffixes_from (expr room) room n)) (suffix_by (expr other) other o x (suffixes_from (expr other) other n))
    twin_suffix_by n x None again = twin_pure x
    twin_suffix_by n x (Some kind) again = twin_then (suffixed (expr room) room x kind) (suffixed (expr other) other x kind) _ _ (twin_suffixed x kind) again

    suffix_place : (n : ℕ) (x : Measured) (o p : Option Suffix) → p ≡ None → L DeepNesting → ((y : Measured) → Twin (suffixes_from (expr room) room n y) (suffixes_from (expr other) other n y))
        → Near (suffix_by (expr room) room o x (suffixes_from (expr room) room n) (t ∷ s)) (suffix_by (expr other) other p x (suffixes_from (expr other) other n) v)
    suffix_place n x None p is deep again = rw is (inr (v, refl, here))
    suffix_place n x (Some kind) p is deep again = inl (gone_then (suffixed (expr room) room x kind (t ∷ s)) (suffixes_from (expr room) room n) (gone_suffixed x kind deep) (λ y rest. (again y).leaves rest))

    twin_suffixes_from : (n : ℕ) (x : Measured) → Twin (suffixes_from (expr room) room n x) (suffixes_from (expr other) other n x)
    unfolding suffixes_from
    twin_suffixes_from zero x = twin_pure x
    twin_suffixes_from (suc n) x =
        twin_look (λ o ts. suffix_by (expr room) room (suffix_at o) x (suffixes_from (expr room) room n) ts) (λ o ts. suffix_by (expr other) other (suffix_at o) x (suffixes_from (expr other) other n) ts)
        (λ o. twin_suffix_by n x (suffix_at o) (λ y. twin_suffixes_from n y))
        (λ gap. suffix_place n x (suffix_at (Some t)) (suffix_at (first v)) gap.weak.suffix gap.deep (λ y. twin_suffixes_from n y))

    twin_suffixes : (x : Measured) → Twin (suffixes (expr room) room x) (suffixes (expr other) other x)
    unfolding suffixes
    twin_suffixes x = record {
      leaves = λ ts. (twin_suffixes_from (length ts) x).leaves ts;
      near = λ ts us al.
          let n = length ts + length us in
          let one = suffix_turns room (length ts) n x ts (omega arith) (omega arith) in
          let two = suffix_turns other (length us) n x us (omega arith) (omega arith) in
          rw (one, two) ((twin_suffixes_from n x).near ts us al);
    }

    -- ---- operators

    twin_right : (x : Measured) (operator : Operator) → Twin (λ (ts : List Token). and_then (expr room (operator.level + 1) ts) (λ (y : Measured) (rest : List Token). Ok (with_right x operator y, rest)))
        (λ (ts : List Token). and_then (expr other (operator.level + 1) ts) (λ (y : Measured) (rest : List Token). Ok (with_right x operator y, rest)))
    twin_right x operator = twin_then (expr room (operator.level + 1)) (expr other (operator.level + 1)) (λ (y : Measured) (rest : List Token). Ok (with_right x operator y, rest)) (λ (y : Measured) (rest : List Token). Ok (with_right x operator y, rest))
        (twin (operator.level + 1)) (λ y. twin_pure (with_right x operator y))

    twin_operated : (x : Measured) (operator : Operator) → Twin (operated (expr room) room x operator) (operated (expr other) other x operator)
    unfolding operated
    twin_operated x operator = guard_by (nat_lt room x.1) (nat_lt other x.1) _ _ (lt_guards L room other x.1 rooms) (twin_next _ _ (twin_right x operator))

    gone_operated : (x : Measured) (operator : Operator) → L DeepNesting → Gone (operated (expr room) room x operator (t ∷ s))
    unfolding operated
    gone_operated x operator deep = gone_reader (nat_lt room x.1) _ _ (t ∷ s) (inr deep) (eaten _ _ (twin_right x operator))

    twin_climb_by : (least n : ℕ) (x : Measured) (o : Option Operator) → ((y : Measured) → Twin (climb_from (expr room) room least n y) (climb_from (expr other) other least n y))
        → Twin (climb_by (expr room) room o x (climb_from (expr room) room least n)) (climb_by (expr other) other o x (climb_from (expr other) other least n))
    twin_climb_by least n x None again = twin_pure x
    twin_climb_by least n x (Some operator) again = twin_then (operated (expr room) room x operator) (operated (expr other) other x operator) _ _ (twin_operated x operator) again

    climb_place : (least n : ℕ) (x : Measured) (o p : Option Operator) → p ≡ None → L DeepNesting → ((y : Measured) → Twin (climb_from (expr room) room least n y) (climb_from (expr other) other least n y))
        → Near (climb_by (expr room) room o x (climb_from (expr room) room least n) (t ∷ s)) (climb_by (expr other) other p x (climb_from (expr other) other least n) v)
    climb_place least n x None p is deep again = rw is (inr (v, refl, here))
    climb_place least n x (Some operator) p is deep again = inl (gone_then (operated (expr room) room x operator (t ∷ s)) (climb_from (expr room) room least n) (gone_operated x operator deep) (λ y rest. (again y).leaves rest))

    twin_climb_from : (least n : ℕ) (x : Measured) → Twin (climb_from (expr room) room least n x) (climb_from (expr other) other least n x)
    unfolding climb_from
    twin_climb_from least zero x = twin_pure x
    twin_climb_from least (suc n) x =
        twin_look (λ o ts. climb_by (expr room) room (operator_at least o) x (climb_from (expr room) room least n) ts) (λ o ts. climb_by (expr other) other (operator_at least o) x (climb_from (expr other) other least n) ts)
        (λ o. twin_climb_by least n x (operator_at least o) (λ y. twin_climb_from least n y))
        (λ gap. climb_place least n x (operator_at least (Some t)) (operator_at least (first v)) (gap.weak.operator least) gap.deep (λ y. twin_climb_from least n y))

    twin_climb : (least : ℕ) (x : Measured) → Twin (climb (expr room) room least x) (climb (expr other) other least x)
    unfolding climb
    twin_climb least x = record {
      leaves = λ ts. (twin_climb_from least (length ts) x).leaves ts;
      near = λ ts us al.
          let n = length ts + length us in
          let one = climb_turns room least (length ts) n x ts (omega arith) (omega arith) in
          let two = climb_turns other least (length us) n x us (omega arith) (omega arith) in
          rw (one, two) ((twin_climb_from least n x).near ts us al);
    }

    -- ---- operands

    twin_operand_inside : (at : Span) (operator : Unary) (l : ℕ) → Twin (λ (ts : List Token). and_then (expr room l ts) (λ (y : Measured) (rest : List Token). Ok (with_prefix at operator y, rest)))
        (λ (ts : List Token). and_then (expr other l ts) (λ (y : Measured) (rest : List Token). Ok (with_prefix at operator y, rest)))
    twin_operand_inside at operator l = twin_then (expr room l) (expr other l) (λ (y : Measured) (rest : List Token). Ok (with_prefix at operator y, rest)) (λ (y : Measured) (rest : List Token). Ok (with_prefix at operator y, rest))
        (twin l) (λ y. twin_pure (with_prefix at operator y))

    twin_prefixed : (at : Span) (operator : Unary) (l : ℕ) → Twin (prefixed (expr room) room at operator l) (prefixed (expr other) other at operator l)
    unfolding prefixed
    twin_prefixed at operator l = guard_by (room == 0) (other == 0) _ _ (zero_guards L room other rooms) (twin_next _ _ (twin_operand_inside at operator l))

    gone_prefixed : (at : Span) (operator : Unary) (l : ℕ) → L DeepNesting → Gone (prefixed (expr room) room at operator l (t ∷ s))
    unfolding prefixed
    gone_prefixed at operator l deep = gone_reader (room == 0) _ _ (t ∷ s) (inr deep) (eaten _ _ (twin_operand_inside at operator l))

    twin_primary : (x : Token) → Twin (primary (expr room) room x) (primary (expr other) other x)
    unfolding primary
    twin_primary x = twin_started (start_of x.at x.kind)

    twin_operand_by : (least : ℕ) (x : Token) (o : Option (Unary × ℕ)) → Twin (operand_by (expr room) room least x o) (operand_by (expr other) other least x o)
    twin_operand_by least x (Some p) = twin_if (nat_lt p.1 least) _ _ _ _ twin_refuse (twin_prefixed x.at p.0 p.1)
    twin_operand_by least x None = twin_then (primary (expr room) room x) (primary (expr other) other x) _ _ (twin_primary x) (λ y. twin_suffixes y)

    twin_operand_at : (least : ℕ) (o : Option Token) → Twin (operand_at (expr room) room least o) (operand_at (expr other) other least o)
    twin_operand_at least None = twin_refuse
    twin_operand_at least (Some x) = twin_operand_by least x (prefix_of x.kind)

    -- at the place: the second reading has no token there
    near_none : {A : Type 0} (o other_end : Outcome A) → Gone o ⊎ ErrAt o (t ∷ s) → ErrAt other_end v → Near o other_end
    near_none o other_end (inl gone) none = inl gone
    near_none {A = A} o other_end (inr e) none = subst (λ (x : Outcome A). Near x other_end) (sym e.is) (inr (none.stop, v, none.is, here))

    gone_or_if : {A : Type 0} (b : Bool) (p q : Reader A) → Gone (p (t ∷ s)) ⊎ ErrAt (p (t ∷ s)) (t ∷ s) → Gone (q (t ∷ s)) ⊎ ErrAt (q (t ∷ s)) (t ∷ s) → Gone ((if b then p else q) (t ∷ s)) ⊎ ErrAt ((if b then p else q) (t ∷ s)) (t ∷ s)
    gone_or_if true p q g h = g
    gone_or_if false p q g h = h

    gone_or_then : {A B : Type 0} (o : Outcome A) (f : A → Reader B) → Gone o ⊎ ErrAt o (t ∷ s) → ((a : A) (rest : List Token) → Leaves rest (f a rest)) → Gone (and_then o f) ⊎ ErrAt (and_then o f) (t ∷ s)
    gone_or_then o f (inl gone) k = inl (gone_then o f gone k)
    gone_or_then {A = A} o f (inr e) k = inr (record { stop = e.stop; is = ap (λ (x : Outcome A). and_then x f) e.is })

    place_started : (start : Start) → L DeepNesting → Gone (started (expr room) room start (t ∷ s)) ⊎ ErrAt (started (expr room) room start (t ∷ s)) (t ∷ s)
    place_started (Leaf production) deep = inl (eaten (read_production (expr room) room 0 production) (read_production (expr other) other 0 production) (twin_production production 0))
    place_started (Inner production) deep = inl (gone_reader (room == 0) _ _ (t ∷ s) (inr deep) (eaten (read_production (expr room) room 0 production) (read_production (expr other) other 0 production) (twin_production production 0)))
    place_started Nothing deep = inr (record { stop = read_errs.Fault (refusal (t ∷ s)); is = refl })

    place_operand : (least : ℕ) (o : Option (Unary × ℕ)) → L DeepNesting → Gone (operand_by (expr room) room least t o (t ∷ s)) ⊎ ErrAt (operand_by (expr room) room least t o (t ∷ s)) (t ∷ s)
    unfolding primary
    place_operand least (Some p) deep = gone_or_if (nat_lt p.1 least) refuse (prefixed (expr room) room t.at p.0 p.1) (inr (record { stop = read_errs.Fault (refusal (t ∷ s)); is = refl })) (inl (gone_prefixed t.at p.0 p.1 deep))
    place_operand least None deep = gone_or_then (started (expr room) room (start_of t.at t.kind) (t ∷ s)) (suffixes (expr room) room) (place_started (start_of t.at t.kind) deep) (λ y rest. (twin_suffixes y).leaves rest)

    -- at the place: the first reading has a word there that this profile doesn't have
    refused_started : (start : Start) → start ≡ Nothing → L OutOfProfile → is_refused_kind t.kind ≡ true → Gone (started (expr room) room start (t ∷ s))
    refused_started (Leaf production) is out word = cc
    refused_started (Inner production) is out word = cc
    refused_started Nothing is out word = loose_refusal Measured out word

    refused_operand : (least : ℕ) (o : Option (Unary × ℕ)) → o ≡ None → L OutOfProfile → is_refused_kind t.kind ≡ true → Gone (operand_by (expr room) room least t o (t ∷ s))
    unfolding primary
    refused_operand least (Some p) is out word = cc
    refused_operand least None is out word =
        gone_then (started (expr room) room (start_of t.at t.kind) (t ∷ s)) (suffixes (expr room) room) (refused_started (start_of t.at t.kind) ((nowhere t.kind word).start t.at) out word) (λ y rest. (twin_suffixes y).leaves rest)

    operand_place : (least : ℕ) → Gap L t v → Near (operand_at (expr room) room least (Some t) (t ∷ s)) (operand_at (expr other) other least (first v) v)
    operand_place least gap = elim gap.nothing [
      | inl is ↦ near_none (operand_at (expr room) room least (Some t) (t ∷ s)) (operand_at (expr other) other least (first v) v) (place_operand least (prefix_of t.kind) gap.deep) (is.no_operand other least v)
      | inr r ↦ inl (refused_operand least (prefix_of t.kind) (nowhere t.kind r.1).prefix r.0 r.1)
    ]

    twin_operand : (least : ℕ) → Twin (operand (expr room) room least) (operand (expr other) other least)
    unfolding operand
    twin_operand least = twin_look (operand_at (expr room) room least) (operand_at (expr other) other least) (twin_operand_at least) (operand_place least)

    twin_level : (least : ℕ) → Twin (level (expr room) room least) (level (expr other) other least)
    unfolding level
    twin_level least = twin_then (operand (expr room) room least) (operand (expr other) other least) _ _ (twin_operand least) (λ x. twin_climb least x)

  -- ---- where no expression can be deep enough

  no_room_err : (least : ℕ) (ts : List Token) (b : Bool) → ErrAt {A = Measured} (if b then Err (read_errs.Fault DeepNesting, ts) else refuse ts) ts
  no_room_err least ts true = record { stop = read_errs.Fault DeepNesting; is = refl }
  no_room_err least ts false = record { stop = read_errs.Fault (refusal ts); is = refl }

  both_err : {A : Type 0} (o other : Outcome A) (ts us : List Token) → ErrAt o ts → ErrAt other us → Alike ts us → Near o other
  both_err {A = A} o other ts us p q al = subst (λ (x : Outcome A). Near x other) (sym p.is) (inr (q.stop, us, q.is, al))

  leaves_err : {A : Type 0} (o : Outcome A) (ts : List Token) → ErrAt o ts → Leaves ts o
  leaves_err {A = A} o ts p = subst (λ (x : Outcome A). Leaves ts x) (sym p.is) (same_end ts)

  none_room : (least : ℕ) (ts : List Token) → ErrAt (no_room least ts) ts
  unfolding no_room
  none_room least ts = no_room_err least ts (begins least (first ts))

  twin_no_room : (least : ℕ) → Twin (no_room least) (no_room least)
  twin_no_room least = record { leaves = λ ts. leaves_err (no_room least ts) ts (none_room least ts); near = λ ts us al. both_err (no_room least ts) (no_room least us) ts us (none_room least ts) (none_room least us) al }

  -- the reading of an expression where none begins
  refuses_then : (r least : ℕ) (us : List Token) (o : Outcome Measured) → ErrAt o us → ErrAt (and_then o (climb (expr r) r least)) us
  refuses_then r least us o e = record { stop = e.stop; is = ap (λ (x : Outcome Measured). and_then x (climb (expr r) r least)) e.is }

  too_loose : (k least : ℕ) → nat_le least k ≡ false → nat_lt k least ≡ true
  too_loose k least is = grind (arith, nat_tests)

  not_started : (r : ℕ) (us : List Token) (start : Start) → begins_some start ≡ false → ErrAt (and_then (started (expr r) r start us) (suffixes (expr r) r)) us
  not_started r us (Leaf production) is = cc
  not_started r us (Inner production) is = cc
  not_started r us Nothing is = record { stop = read_errs.Fault (refusal us); is = refl }

  err_if : (b : Bool) (p q : Reader Measured) (us : List Token) → b ≡ true → ErrAt (p us) us → ErrAt ((if b then p else q) us) us
  err_if true p q us is e = e
  err_if false p q us is e = cc

  not_begun_by : (r least : ℕ) (x : Token) (us : List Token) (o : Option (Unary × ℕ)) → begins_as least x o ≡ false → ErrAt (operand_by (expr r) r least x o us) us
  unfolding primary
  not_begun_by r least x us (Some p) is = err_if (nat_lt p.1 least) refuse (prefixed (expr r) r x.at p.0 p.1) us (too_loose p.1 least is) (record { stop = read_errs.Fault (refusal us); is = refl })
  not_begun_by r least x us None is = not_started r us (start_of x.at x.kind) (start_opened x.at (record { line = 1; col = 1 }) x.kind ∙ is)

  not_begun_at : (r least : ℕ) (us : List Token) (o : Option Token) → begins least o ≡ false → ErrAt (operand_at (expr r) r least o us) us
  not_begun_at r least us None is = record { stop = read_errs.Fault (refusal us); is = refl }
  not_begun_at r least us (Some x) is = not_begun_by r least x us (prefix_of x.kind) is

  pub not_begun : (r least : ℕ) (us : List Token) → begins least (first us) ≡ false → ErrAt (expr (suc r) least us) us
  unfolding expr level operand
  not_begun r least us is = refuses_then r least us (operand_at (expr r) r least (first us) us) (not_begun_at r least us (first us) is)

  deeper_place : (r least : ℕ) → Position L t v → begins least (Some t) ≡ false → Near (refuse {A = Measured} (t ∷ s)) (expr (suc r) least v)
  deeper_place r least (inl same) is = let e = not_begun r least v (ap (begins least) same ∙ is) in inr (e.stop, v, e.is, here)
  deeper_place r least (inr gap) is = refuse_near (expr (suc r) least v) gap (λ e. not_begun r least v (e.no_begin least))

  deeper_alike : (r least : ℕ) (ts us : List Token) → Alike ts us → begins least (first ts) ≡ false → Near (refuse {A = Measured} ts) (expr (suc r) least us)
  unfolding first
  deeper_alike r least ts us here is = deeper_place r least place is
  deeper_alike r least ts us (there x a b al) is = let e = not_begun r least (x ∷ b) is in inr (e.stop, x ∷ b, e.is, there x a b al)

  deeper_if : (r least : ℕ) (ts us : List Token) → L DeepNesting → Alike ts us → (b : Bool) → begins least (first ts) ≡ b → Near {A = Measured} (if b then Err (read_errs.Fault DeepNesting, ts) else refuse ts) (expr (suc r) least us)
  deeper_if r least ts us deep al true is = inl (inr deep)
  deeper_if r least ts us deep al false is = deeper_alike r least ts us al is

  twin_deeper : (r least : ℕ) → L DeepNesting → Twin (no_room least) (expr (suc r) least)
  unfolding no_room
  twin_deeper r least deep = record { leaves = λ ts. leaves_err (no_room least ts) ts (none_room least ts); near = λ ts us al. deeper_if r least ts us deep al (begins least (first ts)) refl }

  fewer : (room other : ℕ) → Rooms L (suc room) (suc other) → Rooms L room other
  fewer room other (inl is) = inl (omega arith)
  fewer room other (inr more) = let less = more.1 in inr (more.0, omega arith)

  -- two readings of expressions
  pub twins : (room other : ℕ) → Rooms L room other → (least : ℕ) → Twin (expr room least) (expr other least)
  unfolding expr
  twins zero zero rooms least = twin_no_room least
  twins zero (suc r) (inl is) least = absurd (omega arith)
  twins zero (suc r) (inr more) least = twin_deeper r least more.0
  twins (suc r) zero (inl is) least = absurd (omega arith)
  twins (suc r) zero (inr more) least = let less = more.1 in absurd (omega arith)
  twins (suc r) (suc q) rooms least = twin_level r q (fewer r q rooms) (λ l. twins r q (fewer r q rooms) l) least

  -- ---- where the place's token is taken

  inner_twin : (r l : ℕ) → Twin (expr r l) (expr r l)
  inner_twin r l = twins r r (inl refl) l

  started_gone : (r : ℕ) (start : Start) → begins_some start ≡ true → L DeepNesting → Gone (started (expr r) r start (t ∷ s))
  started_gone r (Leaf production) is deep = eaten (read_production (expr r) r 0 production) (read_production (expr r) r 0 production) (twin_production r r (inl refl) (inner_twin r) production 0)
  started_gone r (Inner production) is deep = gone_reader (r == 0) _ _ (t ∷ s) (inr deep) (eaten (read_production (expr r) r 0 production) (read_production (expr r) r 0 production) (twin_production r r (inl refl) (inner_twin r) production 0))
  started_gone r Nothing is deep = cc

  tight_enough : (k least : ℕ) → nat_le least k ≡ true → nat_lt k least ≡ false
  tight_enough k least is = grind (arith, nat_tests)

  begun_by : (r least : ℕ) (o : Option (Unary × ℕ)) → begins_as least t o ≡ true → L DeepNesting → Gone (operand_by (expr r) r least t o (t ∷ s))
  unfolding primary
  begun_by r least (Some p) is deep = rw (tight_enough p.1 least is) (gone_prefixed r r (inl refl) (inner_twin r) t.at p.0 p.1 deep)
  begun_by r least None is deep =
      gone_then (started (expr r) r (start_of t.at t.kind) (t ∷ s)) (suffixes (expr r) r) (started_gone r (start_of t.at t.kind) (start_opened t.at (record { line = 1; col = 1 }) t.kind ∙ is) deep) (λ y rest. (twin_suffixes r r (inl refl) (inner_twin r) y).leaves rest)

  -- a token that an expression begins with
  pub begun_gone : (room least : ℕ) → begins least (Some t) ≡ true → L DeepNesting → Gone (expr room least (t ∷ s))
  unfolding expr level operand no_room first
  begun_gone zero least is deep = rw is (inr deep)
  begun_gone (suc r) least is deep = gone_then (operand_at (expr r) r least (Some t) (t ∷ s)) (climb (expr r) r least) (begun_by r least (prefix_of t.kind) is deep) (λ y rest. (twin_climb r r (inl refl) (inner_twin r) least y).leaves rest)

  suffix_by_gone : (r n : ℕ) (y : Measured) (o : Option Suffix) (kind : Suffix) → o ≡ Some kind → L DeepNesting → Gone (suffix_by (expr r) r o y (suffixes_from (expr r) r n) (t ∷ s))
  suffix_by_gone r n y None kind is deep = cc
  suffix_by_gone r n y (Some which) kind is deep = gone_then (suffixed (expr r) r y which (t ∷ s)) (suffixes_from (expr r) r n) (gone_suffixed r r (inl refl) (inner_twin r) y which deep) (λ z rest. (twin_suffixes_from r r (inl refl) (inner_twin r) n z).leaves rest)

  -- a mark that goes on behind an expression
  pub suffix_gone : (r : ℕ) (y : Measured) (kind : Suffix) → suffix_of t.kind ≡ Some kind → L DeepNesting → Gone (suffixes (expr r) r y (t ∷ s))
  unfolding suffixes suffixes_from first
  suffix_gone r y kind is deep = suffix_by_gone r (length s) y (suffix_of t.kind) kind is deep

  -- behind a token that an expression of a production without parts begins with
  pub leaf_gone : (r least : ℕ) (x : Token) (production : Production) → prefix_of x.kind ≡ None → start_of x.at x.kind ≡ Leaf production → Gone (and_then (read_production (expr r) r 0 production (t ∷ s)) (suffixes (expr r) r)) → Gone (expr (suc r) least (x ∷ (t ∷ s)))
  unfolding expr level operand primary first next
  leaf_gone r least x production p st gone = rw (p, st) (gone_then (and_then (read_production (expr r) r 0 production (t ∷ s)) (suffixes (expr r) r)) (climb (expr r) r least) gone (λ y rest. (twin_climb r r (inl refl) (inner_twin r) least y).leaves rest))

  taken_mark : (which : Mark) → is_mark which t.kind ≡ true → Gone (expect which (t ∷ s))
  unfolding expect sees first next
  taken_mark which is = rw is (omega arith)

  -- a mark that a production goes on with
  pub open_gone : (r : ℕ) (which : Mark) (production : Production) → is_mark which t.kind ≡ true → Gone (and_then (read_production (expr r) r 0 (mark which production) (t ∷ s)) (suffixes (expr r) r))
  open_gone r which production is =
      gone_then (read_production (expr r) r 0 (mark which production) (t ∷ s)) (suffixes (expr r) r)
      (gone_then (expect which (t ∷ s)) (λ u. read_production (expr r) r 0 production) (taken_mark which is) (λ u rest. (twin_production r r (inl refl) (inner_twin r) production 0).leaves rest))
      (λ y rest. (twin_suffixes r r (inl refl) (inner_twin r) y).leaves rest)
