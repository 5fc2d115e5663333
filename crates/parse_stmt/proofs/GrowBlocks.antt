-- What is read of statements one after another up to the end of their block before a fault can be completed.
use Rattle.std.proofs.Common.{◌≡◌, ◌≤◌, ◌<◌, ℕ, zero, suc, ◌+◌, ◌==◌, Bool, true, false, if◌then◌else◌, List, [], ◌∷◌, ◌++◌, length, Option, Some, None, Ok, Err, refl, sym, ap, ◌∙◌, subst, ◌⊎◌, inl, inr, arith, append_assoc}
use Rattle.fb_base.specs.declared.fault.Span.{Span}
use Rattle.fb_base.specs.declared.fault.FaultKind.{FaultKind}
use Rattle.fb_base.specs.declared.fault.FaultKind.TheVariants.{DeepNesting, Expected, ExtraText, OutOfProfile}
use Rattle.fb_lexer.specs.declared.token.Token.{Token}
use Rattle.fb_lexer.specs.declared.token.TokenKind.TheVariants as kinds
use Rattle.fb_lexer.specs.declared.word.Word.{Word}
use Rattle.fb_lexer.specs.declared.word.Word.TheVariants as w
use Rattle.fb_ast.specs.declared.stmt.Block.{Block, roll-Block}
use Rattle.fb_ast.specs.declared.stmt.Stmt.{Stmt}
use Rattle.parse_expr.specs.Reading.{first, next, is_word, same_word, sees_word, Reader, Outcome, and_then, pure, take_token}
use Rattle.parse_expr.proofs.Sound.{Done, bind, by_test, map_done}
use Rattle.parse_expr.proofs.Fills.{Failed, failed_then, failed_pure, map_failed}
use Rattle.parse_expr.proofs.Ends.{no_longer}
use Rattle.parse_expr.proofs.Completed.{here as at_start, a_number}
use Rattle.fb_ast.specs.declared.expr.Expr.{Expr}
use Rattle.parse_parts.specs.declared.kinds.Level.{Level}
use Rattle.parse_parts.specs.declared.kinds.InLine.{InLine}
use Rattle.parse_parts.specs.declared.kinds.InLine.TheVariants as lines
use Rattle.parse_parts.specs.declared.kinds.Spot.{Spot}
use Rattle.parse_parts.specs.declared.kinds.Closer.{Closer}
use Rattle.parse_parts.specs.Words.{line_within, ends_with_end}
use Rattle.parse_parts.specs.Steps.{place_at, astray, extra, sees_sep, sees_value, repeat, all_of}
use Rattle.parse_parts.specs.Steps as steps
use Rattle.parse_stmt.specs.Blocks.{closed, deep_end, behind_end, end_is_deep, block_stmt, ended, block_turn}
use Rattle.parse_stmt.specs.Blocks as b
use Rattle.parse_stmt.specs.Phrases.{Phrase, gives, Then, maybe, word, expression}
use Rattle.parse_stmt.specs.Statements.{Statements, none, blank, some, Series, another, end_of}
use Rattle.parse_stmt.specs.Statements as g
use Rattle.parse_stmt.proofs.Smallest.{word_is, holds_next}
use Rattle.parse_stmt.proofs.Heads.{regroup}
use Rattle.parse_stmt.proofs.Bodies.{Inside, sep_less, body_ends, ended_body}
use Rattle.parse_stmt.proofs.Nested.{both}
use Rattle.parse_stmt.proofs.Starts.{Reach, near, far, over, over_fits, over_two, OnFar, on_far, starting, IsEnd, Starts, starts_more, starts_extra, starts_out, Astray, short, out, wrong, astray_as, reach_is, far_has, near_any}
use Rattle.parse_stmt.proofs.Wides.{Wider, widened, wide_body}
use Rattle.parse_stmt.proofs.Likes.{Like, any, Whatever, looks_sep, looks_word, like_then, like_word}
use Rattle.parse_stmt.proofs.LikeStmts.{stops, like_body}
use Rattle.parse_stmt.proofs.Grows.{Begun, Grows, at_once}
use Rattle.parse_stmt.proofs.GrowParts.{word_token, colon, ValueFrom, value_from, value_stands}

-- ---- an End that may begin no statement

-- Tokens up to a fault behind an End, before which the phrase stands.
pub record Cut (reach : Reach) {A : Type 0} (P : Phrase A) (ts : List Token) (kind : FaultKind) (rest : List Token) : Type 0 where
  pub front : List Token
  pub token : Token
  pub is_end : token.kind ≡ kinds.Word w.KwEnd
  pub is : ts ≡ front ++ token ∷ rest
  pub stands : (r : List Token) → (a : A) × P (front ++ r) a r
  pub starts : (m : List Token) → Starts reach kind rest m

abbrev pub OrCut : Reach → {A : Type 0} → Phrase A → List Token → FaultKind → List Token → Type 0
OrCut reach P ts kind rest = Begun reach P any ts kind rest ⊎ Cut reach P ts kind rest

-- what stands behind an End
abbrev pub Closes : {B : Type 0} → List Token → Phrase B → Type 0
Closes {B = B} m K = (t : Token) → t.kind ≡ kinds.Word w.KwEnd → (r : List Token) → (b : B) × K ((t ∷ m) ++ r) b r

abbrev pub an_end : Token
an_end = word_token w.KwEnd

-- what may be missing before the End
abbrev Empties : {B : Type 0} → Phrase B → Type 0
Empties {B = B} K = (r : List Token) → (b : B) × K r b r

-- a reader whose fault may stand behind an End
pub record GrowsE (reach : Reach) {A : Type 0} (p : Reader A) (P : Phrase A) : Type 0 where
  pub fails : (ts : List Token) → Failed (OrCut reach P ts) (p ts)
  pub sound : (ts : List Token) → Done (P ts) (p ts)

-- tokens for which the phrase stands, whatever follows
abbrev pub Least : {B : Type 0} → List Token → Phrase B → Type 0
Least {B = B} m K = (r : List Token) → (b : B) × K (m ++ r) b r

pub failed_with : {A B : Type 0} (F : FaultKind → List Token → Type 0) (o : Outcome A) (f : A → List Token → B) → Failed F o → Failed F (and_then o (λ a rest. Ok (f a rest, rest)))
failed_with F (Ok p) f x = tt
failed_with F (Err p) f x = x

-- ---- ends of statements

-- a token that ends a statement there, whatever stands behind it
pub record EndOf (line : InLine) : Type 0 where
  pub token : Token
  pub is_end : IsEnd token
  pub ends : (r : List Token) → sees_sep line (token ∷ r) ≡ true
  pub stops_it : (r : List Token) → stops line (token ∷ r) ≡ true

abbrev pub line_end : Token
line_end = record { kind = kinds.LineEnd; at = at_start }

pub end_free : EndOf lines.Free
unfolding sees_sep first
end_free = record { token = line_end; is_end = inr refl; ends = λ r. refl; stops_it = λ r. refl }

pub end_within : (line : InLine) → EndOf (line_within line)
unfolding sees_sep first
end_within lines.Free = end_free
end_within lines.Series = record { token = colon; is_end = inl refl; ends = λ r. refl; stops_it = λ r. refl }
end_within lines.Inner = record { token = colon; is_end = inl refl; ends = λ r. refl; stops_it = λ r. refl }

-- ---- statements inside

-- nothing is read where no statement can be deep enough
abbrev pub Nothing : Reach → ℕ → List Token → FaultKind → List Token → Type 0
Nothing reach room ts kind rest = ((room == 0) ≡ true) × (rest ≡ ts) × ((m : List Token) → Starts reach kind rest m)

-- nothing is read, and the reader of the block has to say what else may stand there
abbrev pub Elsewhere : FaultKind → List Token → FaultKind → List Token → Type 0
Elsewhere other ts kind rest = (rest ≡ ts) × (kind ≡ other) × (other ≡ Expected → ⊥)

abbrev pub StmtFault : Reach → Phrase Stmt → InLine → ℕ → FaultKind → List Token → FaultKind → List Token → Type 0
StmtFault reach one line room other ts kind rest = Begun reach one (stops line) ts kind rest ⊎ (Nothing reach room ts kind rest ⊎ Elsewhere other ts kind rest)

-- In a deeper phrase an End may begin a statement.
abbrev pub EndStands : Reach → ℕ → (Level → InLine → Phrase Stmt) → Type 0
EndStands reach wide Outer = OnFar reach ((level : Level) (line : InLine) (t : Token) → t.kind ≡ kinds.Word w.KwEnd → (ts rest : List Token) (x : Option Expr) → maybe (expression wide) ts x rest → (s : Stmt) × Outer level line (t ∷ ts) s rest)

abbrev pub token_in : Token → List Token → Token
token_in other [] = other
token_in other (t ∷ ts) = t

end_self : is_word w.KwEnd (kinds.Word w.KwEnd) ≡ true
unfolding same_word
end_self = refl

pub closing_made : (which : Word) → is_word which (kinds.Word which) ≡ true → {B : Type 0} (f : Span → B) → Closes (word_token which ∷ []) (Then (end_of which) (λ at. gives (f at)))
unfolding sees_word first next
closing_made which self f t is r = (
  f (place_at (t ∷ word_token which ∷ r)),
  record {
    given = place_at (t ∷ word_token which ∷ r);
    between = r;
    front = record {
      given = place_at (t ∷ word_token which ∷ r);
      between = t ∷ word_token which ∷ r;
      front = (refl, refl);
      back = record { given = tt; between = word_token which ∷ r; front = (ap (is_word w.KwEnd) is ∙ end_self, refl); back = record { given = tt; between = r; front = (self, refl); back = (refl, refl) } };
    };
    back = (refl, refl);
  },
)

pub body_stands : (wide : ℕ) (Outer : Level → InLine → Phrase Stmt) (level : Level) (line : InLine) (r : List Token) → (x : Block) × g.body wide Outer level line r x r
body_stands wide Outer level line r = (roll-Block (record { stmts = []; end = place_at r }), record { given = []; between = r; front = none r; back = record { given = place_at r; between = r; front = (refl, refl); back = (refl, refl) } })

module _ {reach : Reach} where
  pub whole_begun : {A B : Type 0} {P : Phrase A} {R : A → A → Type 0} {K : A → Phrase B} {S : B → B → Type 0} {C : List Token → Bool} → Like P P R any → ((a b : A) → R a b → Like (K a) (K b) S C)
      → (ts : List Token) (a : A) (mid : List Token) → P ts a mid → (kind : FaultKind) (rest : List Token) → Begun reach (K a) C mid kind rest → Begun reach (Then P K) C ts kind rest
  whole_begun {P = P} l m ts a mid is kind rest f =
      let s = l.within ts a mid is in
      record {
        front = s.front ++ f.front;
        more = f.more;
        is = s.is ∙ ap (λ (xs : List Token). s.front ++ xs) f.is ∙ sym (append_assoc s.front f.front rest);
        stands = λ r c.
            let x = f.front ++ f.more in
            let y = f.stands r c in
            let n = l.moves s.front mid (x ++ r) a (subst (λ (xs : List Token). P xs a mid) s.is is) (inr refl) in
            let z = (m a n.0 n.2).moves x r r y.0 y.1 (inl refl) in
            let same : s.front ++ (x ++ r) ≡ ((s.front ++ f.front) ++ f.more) ++ r = sym (append_assoc s.front x r) ∙ ap (λ (xs : List Token). xs ++ r) (sym (append_assoc s.front f.front f.more)) in
            (z.0, record { given = n.0; between = x ++ r; front = subst (λ (xs : List Token). P xs n.0 (x ++ r)) same n.1; back = z.1 });
        starts = f.starts;
      }

  pub close_first : {A B : Type 0} {P : Phrase A} {K : A → Phrase B} (m : List Token) → ((a : A) → Closes m (K a)) → (ts : List Token) (kind : FaultKind) (rest : List Token) → OrCut reach P ts kind rest → Begun reach (Then P K) any ts kind rest
  close_first {P = P} {K = K} m closes ts kind rest (inl f) = record {
    front = f.front;
    more = f.more ++ (an_end ∷ m);
    is = f.is;
    stands = λ r c.
        let z = (an_end ∷ m) ++ r in
        let y = f.stands z refl in
        let x = closes y.0 an_end refl r in
        let same : (f.front ++ f.more) ++ z ≡ (f.front ++ (f.more ++ (an_end ∷ m))) ++ r = sym (append_assoc (f.front ++ f.more) (an_end ∷ m) r) ∙ ap (λ (xs : List Token). xs ++ r) (append_assoc f.front f.more (an_end ∷ m)) in
        (x.0, record { given = y.0; between = z; front = subst (λ (xs : List Token). P xs y.0 z) same y.1; back = x.1 });
    starts = starts_more reach kind rest f.more (an_end ∷ m) f.starts;
  }
  close_first {P = P} {K = K} m closes ts kind rest (inr f) = record {
    front = f.front ++ (f.token ∷ []);
    more = m;
    is = f.is ∙ sym (append_assoc f.front (f.token ∷ []) rest);
    stands = λ r c.
        let z = (f.token ∷ m) ++ r in
        let y = f.stands z in
        let x = closes y.0 f.token f.is_end r in
        let same : f.front ++ z ≡ ((f.front ++ (f.token ∷ [])) ++ m) ++ r = sym (append_assoc f.front (f.token ∷ m) r) ∙ ap (λ (xs : List Token). xs ++ r) (sym (append_assoc f.front (f.token ∷ []) m)) in
        (x.0, record { given = y.0; between = z; front = subst (λ (xs : List Token). P xs y.0 z) same y.1; back = x.1 });
    starts = f.starts m;
  }

  pass_first : {A B : Type 0} {P : Phrase A} {K : A → Phrase B} → ((a : A) → Empties (K a)) → (ts : List Token) (kind : FaultKind) (rest : List Token) → OrCut reach P ts kind rest → OrCut reach (Then P K) ts kind rest
  pass_first empties ts kind rest (inl f) = inl (record { front = f.front; more = f.more; is = f.is; stands = λ r c. let y = f.stands r c in let z = empties y.0 r in (z.0, record { given = y.0; between = r; front = y.1; back = z.1 }); starts = f.starts })
  pass_first empties ts kind rest (inr f) = inr (record { front = f.front; token = f.token; is_end = f.is_end; is = f.is; stands = λ r. let y = f.stands r in let z = empties y.0 r in (z.0, record { given = y.0; between = r; front = y.1; back = z.1 }); starts = f.starts })

  pass_second : {A B : Type 0} {P : Phrase A} {R : A → A → Type 0} {K : A → Phrase B} {S : B → B → Type 0} → Like P P R any → ((a b : A) → R a b → Like (K a) (K b) S any)
      → (ts : List Token) (a : A) (mid : List Token) → P ts a mid → (kind : FaultKind) (rest : List Token) → OrCut reach (K a) mid kind rest → OrCut reach (Then P K) ts kind rest
  pass_second l m ts a mid is kind rest (inl f) = inl (whole_begun l m ts a mid is kind rest f)
  pass_second {P = P} l m ts a mid is kind rest (inr f) =
      let s = l.within ts a mid is in
      inr (record {
        front = s.front ++ f.front;
        token = f.token;
        is_end = f.is_end;
        is = s.is ∙ ap (λ (xs : List Token). s.front ++ xs) f.is ∙ sym (append_assoc s.front f.front (f.token ∷ rest));
        stands = λ r.
            let y = f.stands r in
            let n = l.moves s.front mid (f.front ++ r) a (subst (λ (xs : List Token). P xs a mid) s.is is) (inr refl) in
            let z = (m a n.0 n.2).moves f.front r r y.0 y.1 (inl refl) in
            (z.0, record { given = n.0; between = f.front ++ r; front = subst (λ (xs : List Token). P xs n.0 (f.front ++ r)) (sym (append_assoc s.front f.front r)) n.1; back = z.1 });
        starts = f.starts;
      })

  pub first_least : {A B : Type 0} {P : Phrase A} {K : A → Phrase B} (m : List Token) → ((a : A) → Least m (K a)) → (ts : List Token) (kind : FaultKind) (rest : List Token) → Begun reach P any ts kind rest → Begun reach (Then P K) any ts kind rest
  first_least {P = P} {K = K} m least ts kind rest f = record {
    front = f.front;
    more = f.more ++ m;
    is = f.is;
    stands = λ r c.
        let z = m ++ r in
        let y = f.stands z refl in
        let x = least y.0 r in
        let same : (f.front ++ f.more) ++ z ≡ (f.front ++ (f.more ++ m)) ++ r = sym (append_assoc (f.front ++ f.more) m r) ∙ ap (λ (xs : List Token). xs ++ r) (append_assoc f.front f.more m) in
        (x.0, record { given = y.0; between = z; front = subst (λ (xs : List Token). P xs y.0 z) same y.1; back = x.1 });
    starts = starts_more reach kind rest f.more m f.starts;
  }

  -- a phrase, and then one whose fault may stand behind an End
  pub e_then : {A B : Type 0} {p : Reader A} {P : Phrase A} {R : A → A → Type 0} {k : A → Reader B} {K : A → Phrase B} {S : B → B → Type 0}
      → Grows reach p P any → Like P P R any → ((a : A) → GrowsE reach (k a) (K a)) → ((a b : A) → R a b → Like (K a) (K b) S any) → (least : List Token) → ((a : A) → Least least (K a)) → GrowsE reach (λ ts. and_then (p ts) k) (Then P K)
  e_then {P = P} {k = k} {K = K} one l other m tokens least = record {
    fails = λ ts. failed_then (P ts) (OrCut reach (Then P K) ts) _ k (one.sound ts)
        (map_failed (Begun reach P any ts) (OrCut reach (Then P K) ts) _ (one.fails ts) (λ kind rest f. inl (first_least tokens least ts kind rest f)))
        (λ a mid is. map_failed (OrCut reach (K a) mid) (OrCut reach (Then P K) ts) (k a mid) ((other a).fails mid) (pass_second l m ts a mid is));
    sound = λ ts. bind (P ts) (Then P K ts) _ k (one.sound ts) (λ a rest is. map_done (K a rest) (Then P K ts) (k a rest) ((other a).sound rest) (λ b end t. record { given = a; between = rest; front = is; back = t }));
  }

  pub e_made : {A B : Type 0} {p : Reader A} {P : Phrase A} (f : A → B) → GrowsE reach p P → GrowsE reach (λ ts. and_then (p ts) (λ a. pure (f a))) (Then P (λ a. gives (f a)))
  e_made {P = P} f x = record {
    fails = λ ts. failed_pure (OrCut reach (Then P (λ a. gives (f a))) ts) _ f (map_failed (OrCut reach P ts) (OrCut reach (Then P (λ a. gives (f a))) ts) _ (x.fails ts) (pass_first (λ a r. (f a, (refl, refl))) ts));
    sound = λ ts. bind (P ts) (Then P (λ a. gives (f a)) ts) _ _ (x.sound ts) (λ a rest is. record { given = a; between = rest; front = is; back = (refl, refl) });
  }

module _ (reach : Reach) (deep : ℕ) (inner : Spot → Reader Stmt) (room : ℕ) (Inner : Level → InLine → Phrase Stmt) (inside : Inside inner room Inner)
    (Outer : Level → InLine → Phrase Stmt) (widens : (level : Level) (line : InLine) → Wider (Inner level line) (Outer level line)) (l : (level : Level) (line : InLine) → Like (Outer level line) (Outer level line) Whatever (stops line))
    (inner_fails : (spot : Spot) (ts : List Token) → Failed (StmtFault reach (Outer spot.level spot.line) spot.line room spot.other ts) (inner spot ts)) (ends : EndStands reach (over reach (suc deep)) Outer) where
  abbrev most : ℕ
  most = suc deep

  abbrev wide : ℕ
  wide = over reach most

  fits : most ≤ wide
  fits = over_fits reach most

  -- ---- blocks

  module _ (level : Level) (line : InLine) (closer : Closer) (end : EndOf line) where
    abbrev one : Phrase Stmt
    one = Outer level line

    abbrev spot : Spot
    spot = record { level = level; line = line; other = ExtraText }

    -- a fault behind an End, where End ends the block
    abbrev BlockFault : List Token → FaultKind → List Token → Type 0
    BlockFault ts kind rest = Begun reach (Statements one line) any ts kind rest ⊎ ((ends_with_end closer ≡ true) × Cut reach (Statements one line) ts kind rest)

    abbrev more_turns : ℕ → List Stmt × Bool → Reader (List Stmt)
    more_turns n q = if q.1 then repeat (block_turn most inner room level line closer) n q.0 else pure q.0

    after_end : (r : List Token) → Statements one line (next (end.token ∷ r)) [] r
    unfolding next
    after_end r = none r

    none_yet : (ts : List Token) (kind : FaultKind) → Starts reach kind ts [] → BlockFault ts kind ts
    none_yet ts kind starts = inl (at_once (Statements one line) any ts kind [] (λ r c. ([], none r)) starts)

    blank_fault : (ts : List Token) → sees_sep line ts ≡ true → (kind : FaultKind) (rest : List Token) → BlockFault (next ts) kind rest → BlockFault ts kind rest
    unfolding next
    blank_fault [] is kind rest f = let bad : true ≡ false = sym is ∙ (looks_sep line).nothing in cc
    blank_fault (t ∷ ts) is kind rest (inl f) = inl (record {
      front = t ∷ f.front;
      more = f.more;
      is = ap (λ (xs : List Token). t ∷ xs) f.is;
      stands = λ r c. let y = f.stands r c in let x = (f.front ++ f.more) ++ r in (y.0, blank (t ∷ x) r y.0 ((looks_sep line).alone t x ts ∙ is) y.1);
      starts = f.starts;
    })
    blank_fault (t ∷ ts) is kind rest (inr f) = inr (
      f.0,
      record {
        front = t ∷ f.1.front;
        token = f.1.token;
        is_end = f.1.is_end;
        is = ap (λ (xs : List Token). t ∷ xs) f.1.is;
        stands = λ r. let y = f.1.stands r in let x = f.1.front ++ r in (y.0, blank (t ∷ x) r y.0 ((looks_sep line).alone t x ts ∙ is) y.1);
        starts = f.1.starts;
      },
    )

    stmt_fault : (ts : List Token) (kind : FaultKind) (rest : List Token) → StmtFault reach one line room ExtraText ts kind rest → BlockFault ts kind rest
    stmt_fault ts kind rest (inl f) = inl (record {
      front = f.front;
      more = f.more ++ (end.token ∷ []);
      is = f.is;
      stands = λ r c.
          let z = end.token ∷ r in
          let y = f.stands z (end.stops_it r) in
          let same : (f.front ++ f.more) ++ z ≡ (f.front ++ (f.more ++ (end.token ∷ []))) ++ r = sym (append_assoc (f.front ++ f.more) (end.token ∷ []) r) ∙ ap (λ (xs : List Token). xs ++ r) (append_assoc f.front f.more (end.token ∷ [])) in
          (y.0 ∷ [], some ((f.front ++ (f.more ++ (end.token ∷ []))) ++ r) z r y.0 [] (subst (λ (xs : List Token). one xs y.0 z) same y.1) (end.ends r) (after_end r));
      starts = starts_more reach kind rest f.more (end.token ∷ []) f.starts;
    })
    stmt_fault ts kind rest (inr (inl n)) = subst (λ (xs : List Token). BlockFault ts kind xs) (sym n.1) (none_yet ts kind (subst (λ (xs : List Token). Starts reach kind xs []) n.1 (n.2 [])))
    stmt_fault ts kind rest (inr (inr e)) =
        subst (λ (xs : List Token). BlockFault ts kind xs) (sym e.0)
        (inl (at_once (Statements one line) any ts kind (end.token ∷ []) (λ r c. ([], blank (end.token ∷ r) r [] (end.ends r) (after_end r))) (subst (λ (k : FaultKind). Starts reach k ts (end.token ∷ [])) (sym e.1) (starting end.token [] end.is_end))))

    -- a statement, whose end is missing
    unended : (ts : List Token) (x : Stmt) (mid : List Token) → one ts x mid → BlockFault ts (extra mid) mid
    unended ts x mid is =
        let s = (l level line).within ts x mid is in
        inl (record {
          front = s.front;
          more = end.token ∷ [];
          is = s.is;
          stands = λ r c.
              let z = end.token ∷ r in
              let n = (l level line).moves s.front mid z x (subst (λ (xs : List Token). one xs x mid) s.is is) (inr (end.stops_it r)) in
              let same : s.front ++ z ≡ (s.front ++ (end.token ∷ [])) ++ r = sym (append_assoc s.front (end.token ∷ []) r) in
              (n.0 ∷ [], some ((s.front ++ (end.token ∷ [])) ++ r) z r n.0 [] (subst (λ (xs : List Token). one xs n.0 z) same n.1) (end.ends r) (after_end r));
          starts = starts_extra reach mid end.token [] end.is_end;
        })

    later_fault : (ts : List Token) (x : Stmt) (mid : List Token) → one ts x mid → sees_sep line mid ≡ true → (kind : FaultKind) (rest : List Token) → BlockFault (next mid) kind rest → BlockFault ts kind rest
    unfolding next first
    later_fault ts x [] is it kind rest f = let bad : true ≡ false = sym it ∙ (looks_sep line).nothing in cc
    later_fault ts x (c ∷ mid) is it kind rest (inl f) =
        let s = (l level line).within ts x (c ∷ mid) is in
        inl (record {
          front = s.front ++ c ∷ f.front;
          more = f.more;
          is = s.is ∙ ap (λ (xs : List Token). s.front ++ c ∷ xs) f.is ∙ sym (append_assoc s.front (c ∷ f.front) rest);
          stands = λ r any_r.
              let y = f.stands r any_r in
              let z = (f.front ++ f.more) ++ r in
              let n = (l level line).moves s.front (c ∷ mid) (c ∷ z) x (subst (λ (xs : List Token). one xs x (c ∷ mid)) s.is is) (inl refl) in
              let same : s.front ++ (c ∷ z) ≡ ((s.front ++ c ∷ f.front) ++ f.more) ++ r = sym (append_assoc s.front (c ∷ (f.front ++ f.more)) r) ∙ ap (λ (xs : List Token). xs ++ r) (sym (append_assoc s.front (c ∷ f.front) f.more)) in
              (n.0 ∷ y.0, some (((s.front ++ c ∷ f.front) ++ f.more) ++ r) (c ∷ z) r n.0 y.0 (subst (λ (xs : List Token). one xs n.0 (c ∷ z)) same n.1) ((looks_sep line).alone c z mid ∙ it) y.1);
          starts = f.starts;
        })
    later_fault ts x (c ∷ mid) is it kind rest (inr f) =
        let s = (l level line).within ts x (c ∷ mid) is in
        inr (
          f.0,
          record {
            front = s.front ++ c ∷ f.1.front;
            token = f.1.token;
            is_end = f.1.is_end;
            is = s.is ∙ ap (λ (xs : List Token). s.front ++ c ∷ xs) f.1.is ∙ sym (append_assoc s.front (c ∷ f.1.front) (f.1.token ∷ rest));
            stands = λ r.
                let y = f.1.stands r in
                let z = f.1.front ++ r in
                let n = (l level line).moves s.front (c ∷ mid) (c ∷ z) x (subst (λ (xs : List Token). one xs x (c ∷ mid)) s.is is) (inl refl) in
                let same : s.front ++ (c ∷ z) ≡ (s.front ++ c ∷ f.1.front) ++ r = sym (append_assoc s.front (c ∷ f.1.front) r) in
                (n.0 ∷ y.0, some ((s.front ++ c ∷ f.1.front) ++ r) (c ∷ z) r n.0 y.0 (subst (λ (xs : List Token). one xs n.0 (c ∷ z)) same n.1) ((looks_sep line).alone c z mid ∙ it) y.1);
            starts = f.1.starts;
          },
        )

    deep_by : (a e : Bool) (ts : List Token) → ends_with_end closer ≡ e → (if a then (if e then sees_word w.KwEnd ts else false) else false) ≡ true → (ends_with_end closer ≡ true) × (sees_word w.KwEnd ts ≡ true)
    deep_by true true ts is it = (is, it)
    deep_by true false ts is it = cc
    deep_by false e ts is it = cc

    -- behind an End that begins no statement since none is deep enough: a deeper one, with what may be its value
    end_then : reach ≡ far → (t : Token) → t.kind ≡ kinds.Word w.KwEnd → (us m : List Token) → ((r : List Token) → (x : Option Expr) × maybe (expression wide) (m ++ r) x r) → (c : Token) → ((r : List Token) → sees_sep line (c ∷ r) ≡ true)
        → (kind : FaultKind) → Starts reach kind us (m ++ c ∷ []) → Begun reach (Statements one line) any (t ∷ us) kind us
    unfolding next
    end_then it t is_end us m value c sep_there kind starts = record {
      front = t ∷ [];
      more = m ++ c ∷ [];
      is = refl;
      stands = λ r any_r.
          let v = value (c ∷ r) in
          let s = far_has reach it ends level line t is_end (m ++ (c ∷ r)) (c ∷ r) v.0 v.1 in
          let same : t ∷ (m ++ (c ∷ r)) ≡ (t ∷ (m ++ c ∷ [])) ++ r = ap (λ (xs : List Token). t ∷ xs) (sym (append_assoc m (c ∷ []) r)) in
          (s.0 ∷ [], some ((t ∷ (m ++ c ∷ [])) ++ r) (c ∷ r) r s.0 [] (subst (λ (xs : List Token). one xs s.0 (c ∷ r)) same s.1) (sep_there r) (none r));
      starts = starts;
    }

    no_value_there : (r : List Token) → (x : Option Expr) × maybe (expression wide) ([] ++ r) x r
    no_value_there r = (None, inr (refl, refl))

    number_there : (r : List Token) → (x : Option Expr) × maybe (expression wide) ((a_number ∷ []) ++ r) x r
    number_there r = let y = value_stands reach deep r refl in (Some y.0, inl (record { given = y.0; between = r; front = y.1; back = (refl, refl) }))

    value_there : reach ≡ far → (us : List Token) (v : ValueFrom 1 us) (r : List Token) → (x : Option Expr) × maybe (expression wide) ((v.token ∷ v.more) ++ r) x r
    value_there it us v r =
        let small = v.within in
        let two = over_two reach most it in
        (Some v.tree, inl (record { given = v.tree; between = r; front = (v.token ∷ v.more, refl, (v.depth, omega arith, v.are)); back = (refl, refl) }))

    sep_head : (us : List Token) → sees_sep line us ≡ true → (c : Token) × (behind : List Token) × (us ≡ c ∷ behind) × ((r : List Token) → sees_sep line (c ∷ r) ≡ true)
    sep_head [] is = let bad : true ≡ false = sym is ∙ (looks_sep line).nothing in cc
    sep_head (c ∷ us) is = (c, us, refl, λ r. (looks_sep line).alone c r us ∙ is)

    abbrev wrong_kind : List Token → FaultKind
    wrong_kind us = if sees_value us then DeepNesting else if sees_sep line us then DeepNesting else Expected

    end_far : reach ≡ far → (t : Token) → t.kind ≡ kinds.Word w.KwEnd → (us : List Token) (kind : FaultKind) → Astray (wrong_kind us) us kind → Begun reach (Statements one line) any (t ∷ us) kind us
    unfolding sees_value first
    end_far it t is_end us kind (short none_there) = end_then it t is_end us [] no_value_there end.token end.ends Expected tt
    end_far it t is_end us kind (out refused) = end_then it t is_end us (a_number ∷ []) number_there end.token end.ends OutOfProfile (starts_out reach us a_number (end.token ∷ []) refused (inl (0, refl)))
    end_far it t is_end us kind wrong =
        by_test (λ (k : FaultKind). Begun reach (Statements one line) any (t ∷ us) k us) (sees_value us) _ _
        (λ is.
        let v = value_from 1 (omega arith) us is in
        end_then it t is_end us (v.token ∷ v.more) (value_there it us v) end.token end.ends DeepNesting (on_far reach (starting v.token (v.more ++ end.token ∷ []) (v.behind, v.is))))
        (λ no_value. by_test (λ (k : FaultKind). Begun reach (Statements one line) any (t ∷ us) k us) (sees_sep line us) _ _
        (λ is. let c = sep_head us is in end_then it t is_end us [] no_value_there c.0 c.3 DeepNesting (on_far reach (starting c.0 [] (c.1, c.2))))
        (λ apart. end_then it t is_end us [] no_value_there end.token end.ends Expected tt))

    -- of phrases as deep as they may be nothing is asked there
    wrong_by : (a c : Bool) (us m : List Token) → reach ≡ near → Starts reach (if a then DeepNesting else if c then DeepNesting else Expected) us m
    wrong_by true c us m it = near_any reach _ it
    wrong_by false true us m it = near_any reach _ it
    wrong_by false false us m it = tt

    end_near : reach ≡ near → (us : List Token) (kind : FaultKind) → Astray (wrong_kind us) us kind → (m : List Token) → Starts reach kind us m
    end_near it us kind (short none_there) m = tt
    end_near it us kind (out refused) m = near_any reach _ it
    end_near it us kind wrong m = wrong_by (sees_value us) (sees_sep line us) us m it

    end_fault : (ts : List Token) → end_is_deep most inner room closer ts ≡ true → BlockFault ts (behind_end line (next ts)) (next ts)
    unfolding end_is_deep sees_word behind_end
    end_fault ts is =
        let d = deep_by (room == 0) (ends_with_end closer) ts refl is in
        let t = holds_next (is_word w.KwEnd) ts d.1 in
        let is_end = word_is w.KwEnd t.0.kind t.2 in
        let a = astray_as (wrong_kind (next ts)) (next ts) in
        elim (reach_is reach) [ inl it ↦ inr (d.0, record { front = []; token = t.0; is_end = is_end; is = t.1; stands = λ r. ([], none r); starts = end_near it (next ts) _ a }) | inr it ↦ inl (subst (λ (xs : List Token). Begun reach (Statements one line) any xs (astray (wrong_kind (next ts)) (next ts)) (next ts)) (sym t.1) (end_far it t.0 is_end (next ts) _ a)) ]

    block_fails : (n : ℕ) (found : List Stmt) (ts : List Token) → length ts < n → Failed (BlockFault ts) (repeat (block_turn most inner room level line closer) n found ts)
    unfolding repeat block_turn block_stmt deep_end ended steps.sep
    block_fails zero found ts less = absurd (omega arith)
    block_fails (suc n) found ts less =
        by_test (λ (o : Outcome (List Stmt × Bool)). Failed (BlockFault ts) (and_then o (more_turns n))) (sees_sep line ts) _ _
        (λ is.
        let shorter = sep_less line ts is in
        map_failed (BlockFault (next ts)) (BlockFault ts) (repeat (block_turn most inner room level line closer) n found (next ts)) (block_fails n found (next ts) (omega arith)) (blank_fault ts is))
        (λ apart. by_test (λ (o : Outcome (List Stmt × Bool)). Failed (BlockFault ts) (and_then o (more_turns n))) (closed closer ts) _ _ (λ is. tt)
        (λ open_. by_test (λ (o : Outcome Stmt). Failed (BlockFault ts) (and_then (and_then o (ended most inner room line found)) (more_turns n))) (end_is_deep most inner room closer ts) (deep_end line ts) (inner spot ts)
        (λ is. end_fault ts is)
        (λ is. subst (λ (o : Outcome (List Stmt)). Failed (BlockFault ts) o) (regroup (inner spot ts) (ended most inner room line found) (more_turns n))
        (failed_then (one ts) (BlockFault ts) (inner spot ts) (λ x mid. and_then (ended most inner room line found x mid) (more_turns n)) (widened (widens level line) ts (inner spot ts) ((inside.exact level line ExtraText).sound ts))
        (map_failed (StmtFault reach one line room ExtraText ts) (BlockFault ts) (inner spot ts) (inner_fails spot ts) (stmt_fault ts))
        (λ x mid read. by_test (λ (o : Outcome (Unit {0})). Failed (BlockFault ts) (and_then (and_then o (λ u. pure (found ++ x ∷ [], true))) (more_turns n))) (sees_sep line mid) _ _
        (λ it.
        let within = no_longer ((l level line).within ts x mid read) in
        let shorter = sep_less line mid it in
        map_failed (BlockFault (next mid)) (BlockFault ts) (repeat (block_turn most inner room level line closer) n (found ++ x ∷ []) (next mid)) (block_fails n (found ++ x ∷ []) (next mid) (omega arith)) (later_fault ts x mid read it))
        (λ it. unended ts x mid read))))))

    -- the block, up to the place of its end
    abbrev BodyFault : List Token → FaultKind → List Token → Type 0
    BodyFault ts kind rest = Begun reach (g.body wide Outer level line) any ts kind rest ⊎ ((ends_with_end closer ≡ true) × Cut reach (g.body wide Outer level line) ts kind rest)

    body_fault : (ts : List Token) (kind : FaultKind) (rest : List Token) → BlockFault ts kind rest → BodyFault ts kind rest
    body_fault ts kind rest (inl f) = inl (record {
      front = f.front;
      more = f.more;
      is = f.is;
      stands = λ r c. let y = f.stands r c in (roll-Block (record { stmts = y.0; end = place_at r }), record { given = y.0; between = r; front = y.1; back = record { given = place_at r; between = r; front = (refl, refl); back = (refl, refl) } });
      starts = f.starts;
    })
    body_fault ts kind rest (inr f) = inr (
      f.0,
      record {
        front = f.1.front;
        token = f.1.token;
        is_end = f.1.is_end;
        is = f.1.is;
        stands = λ r. let y = f.1.stands r in (roll-Block (record { stmts = y.0; end = place_at r }), record { given = y.0; between = r; front = y.1; back = record { given = place_at r; between = r; front = (refl, refl); back = (refl, refl) } });
        starts = f.1.starts;
      },
    )

    pub body_fails : (ts : List Token) → Failed (BodyFault ts) (b.body most inner room level line closer ts)
    unfolding b.body b.block
    body_fails ts = failed_with (BodyFault ts) (all_of (block_turn most inner room level line closer) [] ts) (λ (all : List Stmt) (rest : List Token). roll-Block (record { stmts = all; end = place_at rest }))
        (map_failed (BlockFault ts) (BodyFault ts) (repeat (block_turn most inner room level line closer) (length ts + 1) [] ts) (block_fails (length ts + 1) [] ts (omega arith)) (body_fault ts))

  -- a block that isn't ended by End has no fault behind one
  plain_body : (level : Level) (line : InLine) (closer : Closer) (end : EndOf line) → ends_with_end closer ≡ false → (ts : List Token) (kind : FaultKind) (rest : List Token) → BodyFault level line closer end ts kind rest → Begun reach (g.body wide Outer level line) any ts kind rest
  plain_body level line closer end apart ts kind rest (inl f) = f
  plain_body level line closer end apart ts kind rest (inr f) = let bad : true ≡ false = sym f.0 ∙ apart in cc

  body_or_cut : (level : Level) (line : InLine) (closer : Closer) (end : EndOf line) → (ts : List Token) (kind : FaultKind) (rest : List Token) → BodyFault level line closer end ts kind rest → OrCut reach (g.body wide Outer level line) ts kind rest
  body_or_cut level line closer end ts kind rest (inl f) = inl f
  body_or_cut level line closer end ts kind rest (inr f) = inr f.1

  body_sound : (level : Level) (line : InLine) (closer : Closer) (ts : List Token) → Done (g.body wide Outer level line ts) (b.body most inner room level line closer ts)
  body_sound level line closer ts = widened (wide_body most wide fits Inner Outer widens level line) ts (b.body most inner room level line closer ts) ((ended_body deep inner room Inner inside level line closer).sound ts)

  pub e_body : (level : Level) (line : InLine) (closer : Closer) (end : EndOf line) → GrowsE reach (b.body most inner room level line closer) (g.body wide Outer level line)
  e_body level line closer end = record {
    fails = λ ts. map_failed (BodyFault level line closer end ts) (OrCut reach (g.body wide Outer level line) ts) (b.body most inner room level line closer ts) (body_fails level line closer end ts) (body_or_cut level line closer end ts);
    sound = body_sound level line closer;
  }

  pub like_the_body : (level : Level) (line : InLine) → Like (g.body wide Outer level line) (g.body wide Outer level line) Whatever any
  like_the_body level line = like_body wide Outer l level line

  pub body_least : (level : Level) (line : InLine) (r : List Token) → (x : Block) × g.body wide Outer level line r x r
  body_least level line r = body_stands wide Outer level line r

  pub body_fails_or_cut : (level : Level) (line : InLine) (closer : Closer) (end : EndOf line) (ts : List Token) → Failed (OrCut reach (g.body wide Outer level line) ts) (b.body most inner room level line closer ts)
  body_fails_or_cut level line closer end ts = (e_body level line closer end).fails ts

  -- a block and the word that ends it
  word_begun : {B : Type 0} (which : Word) (K : Phrase B) (ts : List Token) → sees_word which ts ≡ true → (kind : FaultKind) (rest : List Token) → Begun reach K any (next ts) kind rest → Begun reach (Then (word which) (λ (u : Unit {0}). K)) any ts kind rest
  unfolding next
  word_begun which K [] is kind rest f = let bad : true ≡ false = sym is ∙ (looks_word which).nothing in cc
  word_begun which K (t ∷ ts) is kind rest f = record {
    front = t ∷ f.front;
    more = f.more;
    is = ap (λ (xs : List Token). t ∷ xs) f.is;
    stands = λ r c. let y = f.stands r c in let x = (f.front ++ f.more) ++ r in (y.0, record { given = tt; between = x; front = ((looks_word which).alone t x ts ∙ is, refl); back = y.1 });
    starts = f.starts;
  }

  module _ {B : Type 0} (level : Level) (line : InLine) (closer : Closer) (end : EndOf line) (which : Word) (self : is_word which (kinds.Word which) ≡ true) (same : (ts : List Token) → closed closer ts ≡ sees_word which ts) (apart : ends_with_end closer ≡ false)
      (k : Block → Reader B) (K : Block → Phrase B) (g_ : (b : Block) → Grows reach (k b) (K b) any) (m : (a b : Block) → Like (K a) (K b) Whatever any) where
    abbrev LoopEnd : Block → Phrase B
    LoopEnd b = Then (word which) (λ u. K b)

    like_end : (a b : Block) → Like (LoopEnd a) (LoopEnd b) Whatever any
    like_end a b = like_then (like_word which) (λ u v q. m a b)

    -- the word, and what is behind it
    end_stands : (a : Block) (r : List Token) → (x : B) × LoopEnd a ((word_token which ∷ (g_ a).least) ++ r) x r
    unfolding sees_word first next
    end_stands a r = let y = (g_ a).stands r refl in (y.0, record { given = tt; between = (g_ a).least ++ r; front = (self, refl); back = y.1 })

    a_block : Block
    a_block = (body_least level line []).0

    loop_stands : (a : Block) (r : List Token) → (x : B) × LoopEnd a ((word_token which ∷ (g_ a_block).least) ++ r) x r
    loop_stands a r = let y = end_stands a_block r in let z = (like_end a_block a).moves (word_token which ∷ (g_ a_block).least) r r y.0 y.1 (inl refl) in (z.0, z.1)

    body_closed : (ts : List Token) → Done (λ a rest. g.body wide Outer level line ts a rest × (closed closer rest ≡ true)) (b.body most inner room level line closer ts)
    body_closed ts = both (g.body wide Outer level line ts) (λ a rest. closed closer rest ≡ true) (b.body most inner room level line closer ts) (body_sound level line closer ts) (body_ends deep inner room Inner inside level line closer ts)

    loop_fails : (ts : List Token) → Failed (Begun reach (Then (g.body wide Outer level line) LoopEnd) any ts) (and_then (b.body most inner room level line closer ts) (λ a. λ us. and_then (take_token us) (λ u. k a)))
    loop_fails ts =
        failed_then (λ a rest. g.body wide Outer level line ts a rest × (closed closer rest ≡ true)) (Begun reach (Then (g.body wide Outer level line) LoopEnd) any ts) (b.body most inner room level line closer ts) (λ a. λ us. and_then (take_token us) (λ u. k a)) (body_closed ts)
        (map_failed (BodyFault level line closer end ts) (Begun reach (Then (g.body wide Outer level line) LoopEnd) any ts) (b.body most inner room level line closer ts) (body_fails level line closer end ts)
        (λ kind rest f. first_least (word_token which ∷ (g_ a_block).least) loop_stands ts kind rest (plain_body level line closer end apart ts kind rest f)))
        (λ a mid is. map_failed (Begun reach (K a) any (next mid)) (Begun reach (Then (g.body wide Outer level line) LoopEnd) any ts) (k a (next mid)) ((g_ a).fails (next mid))
        (λ kind rest f. whole_begun (like_the_body level line) (λ x y r. like_end x y) ts a mid is.0 kind rest (word_begun which (K a) mid (sym (same mid) ∙ is.1) kind rest f)))

    loop_sound : (ts : List Token) → Done (Then (g.body wide Outer level line) LoopEnd ts) (and_then (b.body most inner room level line closer ts) (λ a. λ us. and_then (take_token us) (λ u. k a)))
    loop_sound ts = bind (λ a rest. g.body wide Outer level line ts a rest × (closed closer rest ≡ true)) (Then (g.body wide Outer level line) LoopEnd ts) (b.body most inner room level line closer ts) _ (body_closed ts)
        (λ a mid is. map_done (K a (next mid)) (Then (g.body wide Outer level line) LoopEnd ts) (k a (next mid)) ((g_ a).sound (next mid))
        (λ y rest z. record { given = a; between = mid; front = is.0; back = record { given = tt; between = next mid; front = (sym (same mid) ∙ is.1, refl); back = z } }))

    pub grows_loop : Grows reach (λ ts. and_then (b.body most inner room level line closer ts) (λ a. λ us. and_then (take_token us) (λ u. k a))) (Then (g.body wide Outer level line) LoopEnd) any
    grows_loop = record {
      least = word_token which ∷ (g_ a_block).least;
      stands = λ r c. let x = (word_token which ∷ (g_ a_block).least) ++ r in let y = body_least level line x in let z = loop_stands y.0 r in (z.0, record { given = y.0; between = x; front = y.1; back = z.1 });
      fails = loop_fails;
      sound = loop_sound;
    }
