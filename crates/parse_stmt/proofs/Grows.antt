-- What is read before a fault can be completed: the steps that readers are made of.
use Rattle.std.proofs.Common.{◌≡◌, ◌<◌, ℕ, zero, suc, ◌+◌, Bool, true, false, if◌then◌else◌, List, [], ◌∷◌, ◌++◌, length, Ok, Err, refl, sym, ap, ◌∙◌, subst, inl, inr, arith, append_assoc}
use Rattle.fb_base.specs.declared.fault.FaultKind.{FaultKind}
use Rattle.fb_lexer.specs.declared.token.Token.{Token}
use Rattle.parse_expr.specs.declared.error.ReadErr.TheVariants as read_errs
use Rattle.parse_expr.specs.Reading.{next, sees, Reader, Outcome, and_then, pure}
use Rattle.fb_lexer.specs.declared.token.Mark.TheVariants.{Comma}
use Rattle.parse_expr.proofs.Sound.{Done, bind, by_test, map_done}
use Rattle.parse_expr.proofs.Fills.{Failed, failed_then, map_failed}
use Rattle.parse_expr.proofs.Ends.{no_longer}
use Rattle.parse_parts.specs.Steps.{Turn, repeat, all_of, comma_behind}
use Rattle.parse_stmt.specs.Phrases.{Phrase, gives, Then, either, taken, Listed, last, another}
use Rattle.parse_stmt.proofs.Heads.{regroup}
use Rattle.parse_stmt.proofs.Starts.{Reach, Starts, starts_more}
use Rattle.parse_stmt.proofs.Likes.{Like, any, Whatever, Looks, looks_mark, like_gives}

-- Tokens up to a fault, which can be completed to the phrase, whatever follows that may. What they are completed by
-- begins with what the kind of the fault says.
pub record Begun (reach : Reach) {A : Type 0} (P : Phrase A) (C : List Token → Bool) (ts : List Token) (kind : FaultKind) (rest : List Token) : Type 0 where
  pub front : List Token
  pub more : List Token
  pub is : ts ≡ front ++ rest
  pub stands : (r : List Token) → C r ≡ true → (a : A) × P ((front ++ more) ++ r) a r
  pub starts : Starts reach kind rest more

-- A reader of a phrase: what it reads up to a fault can be completed. The shortest tokens of the phrase that we need.
pub record Grows (reach : Reach) {A : Type 0} (p : Reader A) (P : Phrase A) (C : List Token → Bool) : Type 0 where
  pub least : List Token
  pub stands : (r : List Token) → C r ≡ true → (a : A) × P (least ++ r) a r
  pub fails : (ts : List Token) → Failed (Begun reach P C ts) (p ts)
  pub sound : (ts : List Token) → Done (P ts) (p ts)

pub next_shorter : {test : List Token → Bool} → Looks test → (ts : List Token) → test ts ≡ true → length (next ts) < length ts
unfolding next
next_shorter looks [] is = let bad : true ≡ false = sym is ∙ looks.nothing in cc
next_shorter looks (t ∷ ts) is = omega arith

module _ {reach : Reach} where
  pub grows_less : {A : Type 0} {p : Reader A} {P : Phrase A} (C : List Token → Bool) → Grows reach p P any → Grows reach p P C
  grows_less {P = P} C g = record {
    least = g.least;
    stands = λ r c. g.stands r refl;
    fails = λ ts. map_failed (Begun reach P any ts) (Begun reach P C ts) _ (g.fails ts) (λ kind rest b. record { front = b.front; more = b.more; is = b.is; stands = λ r c. b.stands r refl; starts = b.starts });
    sound = g.sound;
  }

  pub grows_gives : {A : Type 0} (a : A) (C : List Token → Bool) → Grows reach (pure a) (gives a) C
  grows_gives a C = record { least = []; stands = λ r c. (a, (refl, refl)); fails = λ ts. tt; sound = λ ts. (refl, refl) }

  -- a fault at the first token
  pub at_once : {A : Type 0} (P : Phrase A) (C : List Token → Bool) (ts : List Token) (kind : FaultKind) (least : List Token) → ((r : List Token) → C r ≡ true → (a : A) × P (least ++ r) a r) → Starts reach kind ts least → Begun reach P C ts kind ts
  at_once P C ts kind least stands starts = record { front = []; more = least; is = refl; stands = stands; starts = starts }

  pub grows_taken : (test : List Token → Bool) (kind : List Token → FaultKind) (t : Token) → ((r : List Token) → test (t ∷ r) ≡ true) → ((ts : List Token) → Starts reach (kind ts) ts (t ∷ [])) → Grows reach (λ ts. if test ts then Ok (tt, next ts) else Err (read_errs.Fault (kind ts), ts)) (taken test) any
  unfolding next
  grows_taken test kind t holds starts = record {
    least = t ∷ [];
    stands = λ r c. (tt, (holds r, refl));
    fails = λ ts. by_test (λ (o : Outcome (Unit {0})). Failed (Begun reach (taken test) any ts) o) (test ts) _ _ (λ is. tt) (λ is. at_once (taken test) any ts (kind ts) (t ∷ []) (λ r c. (tt, (holds r, refl))) (starts ts));
    sound = λ ts. by_test (λ (o : Outcome (Unit {0})). Done (taken test ts) o) (test ts) _ _ (λ is. (is, refl)) (λ is. tt);
  }

  -- ---- one reader, and then another

  module _ {A B : Type 0} {p : Reader A} {P : Phrase A} {R : A → A → Type 0} {k : A → Reader B} {K : A → Phrase B} {S : B → B → Type 0} {C : List Token → Bool}
      (one : Grows reach p P any) (l : Like P P R any) (other : (a : A) → Grows reach (k a) (K a) C) (m : (a b : A) → R a b → Like (K a) (K b) S C) where
    -- behind tokens of the first phrase the second one stands
    abbrev Least : List Token → Type 0
    Least front = (a : A) × P (front ++ []) a []

    behind_least : (front : List Token) (a : A) → P (front ++ []) a [] → (r : List Token) → C r ≡ true → (b : B) × Then P K ((front ++ (other a).least) ++ r) b r
    behind_least front a is r c =
        let q = other a in
        let n = l.moves front [] (q.least ++ r) a is (inr refl) in
        let y = q.stands r c in
        let z = (m a n.0 n.2).moves q.least r r y.0 y.1 (inl refl) in
        (z.0, record { given = n.0; between = q.least ++ r; front = subst (λ (xs : List Token). P xs n.0 (q.least ++ r)) (sym (append_assoc front q.least r)) n.1; back = z.1 })

    first_fails : (ts : List Token) (kind : FaultKind) (rest : List Token) → Begun reach P any ts kind rest → Begun reach (Then P K) C ts kind rest
    first_fails ts kind rest b =
        let a = b.stands [] refl in
        record {
          front = b.front;
          more = b.more ++ (other a.0).least;
          is = b.is;
          stands = λ r c.
              let y = behind_least (b.front ++ b.more) a.0 a.1 r c in
              (y.0, subst (λ (xs : List Token). Then P K (xs ++ r) y.0 r) (append_assoc b.front b.more (other a.0).least) y.1);
          starts = starts_more reach kind rest b.more (other a.0).least b.starts;
        }

    second_fails : (ts : List Token) (a : A) (mid : List Token) → P ts a mid → (kind : FaultKind) (rest : List Token) → Begun reach (K a) C mid kind rest → Begun reach (Then P K) C ts kind rest
    second_fails ts a mid is kind rest b =
        let s = l.within ts a mid is in
        record {
          front = s.front ++ b.front;
          more = b.more;
          is = s.is ∙ ap (λ (xs : List Token). s.front ++ xs) b.is ∙ sym (append_assoc s.front b.front rest);
          stands = λ r c.
              let x = b.front ++ b.more in
              let y = b.stands r c in
              let n = l.moves s.front mid (x ++ r) a (subst (λ (xs : List Token). P xs a mid) s.is is) (inr refl) in
              let z = (m a n.0 n.2).moves x r r y.0 y.1 (inl refl) in
              let whole : s.front ++ (x ++ r) ≡ ((s.front ++ b.front) ++ b.more) ++ r =
              sym (append_assoc s.front x r) ∙ ap (λ (xs : List Token). xs ++ r) (sym (append_assoc s.front b.front b.more)) in
              (z.0, record { given = n.0; between = x ++ r; front = subst (λ (xs : List Token). P xs n.0 (x ++ r)) whole n.1; back = z.1 });
          starts = b.starts;
        }

    sound_then : (ts : List Token) → Done (Then P K ts) (and_then (p ts) k)
    sound_then ts = bind (P ts) (Then P K ts) (p ts) k (one.sound ts) (λ a rest is. map_done (K a rest) (Then P K ts) (k a rest) ((other a).sound rest) (λ b end t. record { given = a; between = rest; front = is; back = t }))

    pub grows_then : Grows reach (λ ts. and_then (p ts) k) (Then P K) C
    grows_then =
        let a = one.stands [] refl in
        record {
          least = one.least ++ (other a.0).least;
          stands = λ r c. behind_least one.least a.0 a.1 r c;
          fails = λ ts. failed_then (P ts) (Begun reach (Then P K) C ts) (p ts) k (one.sound ts)
              (map_failed (Begun reach P any ts) (Begun reach (Then P K) C ts) (p ts) (one.fails ts) (first_fails ts))
              (λ a mid is. map_failed (Begun reach (K a) C mid) (Begun reach (Then P K) C ts) (k a mid) ((other a).fails mid) (second_fails ts a mid is));
          sound = λ ts. sound_then ts;
        }

  -- what is made of the phrase
  pub grows_made : {A B : Type 0} {p : Reader A} {P : Phrase A} {R : A → A → Type 0} (f : A → B) → Grows reach p P any → Like P P R any → Grows reach (λ ts. and_then (p ts) (λ a. pure (f a))) (Then P (λ a. gives (f a))) any
  grows_made f g l = grows_then g l (λ a. grows_gives (f a) any) (λ a b r. like_gives Whatever any (f a) (f b) tt)

  -- ---- where a token decides

  behind_begun : {A : Type 0} (test : List Token → Bool) (P Q : Phrase A) (C : List Token → Bool) → Looks test → (ts : List Token) → test ts ≡ true → (kind : FaultKind) (rest : List Token) → Begun reach P C (next ts) kind rest
      → Begun reach (either (Then (taken test) (λ (u : Unit {0}). P)) Q) C ts kind rest
  unfolding next
  behind_begun test P Q C looks [] is kind rest b = let bad : true ≡ false = sym is ∙ looks.nothing in cc
  behind_begun test P Q C looks (t ∷ ts) is kind rest b = record {
    front = t ∷ b.front;
    more = b.more;
    is = ap (λ (xs : List Token). t ∷ xs) b.is;
    stands = λ r c.
        let y = b.stands r c in
        (y.0, inl (record { given = tt; between = (b.front ++ b.more) ++ r; front = (looks.alone t ((b.front ++ b.more) ++ r) ts ∙ is, refl); back = y.1 }));
    starts = b.starts;
  }

  pub other_begun : {A : Type 0} (P Q : Phrase A) (C : List Token → Bool) (ts : List Token) (kind : FaultKind) (rest : List Token) → Begun reach Q C ts kind rest → Begun reach (either P Q) C ts kind rest
  other_begun P Q C ts kind rest b = record { front = b.front; more = b.more; is = b.is; stands = λ r c. let y = b.stands r c in (y.0, inr y.1); starts = b.starts }

  pub one_begun : {A : Type 0} (P Q : Phrase A) (C : List Token → Bool) (ts : List Token) (kind : FaultKind) (rest : List Token) → Begun reach P C ts kind rest → Begun reach (either P Q) C ts kind rest
  one_begun P Q C ts kind rest b = record { front = b.front; more = b.more; is = b.is; stands = λ r c. let y = b.stands r c in (y.0, inl y.1); starts = b.starts }

  -- such a token and one phrase behind it, or else another
  pub grows_behind : {A : Type 0} (test : List Token → Bool) {p q : Reader A} {P Q : Phrase A} {C : List Token → Bool} → Looks test → Grows reach p P C → Grows reach q Q C
      → Grows reach (λ ts. if test ts then p (next ts) else q ts) (either (Then (taken test) (λ (u : Unit {0}). P)) Q) C
  grows_behind {A = A} test {p = p} {q = q} {P = P} {Q = Q} {C = C} looks g h =
      let E : Phrase A = either (Then (taken test) (λ (u : Unit {0}). P)) Q in
      record {
        least = h.least;
        stands = λ r c. let y = h.stands r c in (y.0, inr y.1);
        fails = λ ts. by_test (λ (o : Outcome A). Failed (Begun reach E C ts) o) (test ts) (p (next ts)) (q ts)
            (λ is. map_failed (Begun reach P C (next ts)) (Begun reach E C ts) (p (next ts)) (g.fails (next ts)) (behind_begun test P Q C looks ts is))
            (λ is. map_failed (Begun reach Q C ts) (Begun reach E C ts) (q ts) (h.fails ts) (other_begun (Then (taken test) (λ (u : Unit {0}). P)) Q C ts));
        sound = λ ts. by_test (λ (o : Outcome A). Done (E ts) o) (test ts) (p (next ts)) (q ts)
            (λ is. map_done (P (next ts)) (E ts) (p (next ts)) (g.sound (next ts)) (λ a rest s. inl (record { given = tt; between = next ts; front = (is, refl); back = s })))
            (λ is. map_done (Q ts) (E ts) (q ts) (h.sound ts) (λ a rest s. inr s));
      }

  -- the one or the other, by a test
  pub grows_choose : {A : Type 0} (test : List Token → Bool) {p q : Reader A} {P Q : Phrase A} {C : List Token → Bool} → Grows reach p P C → Grows reach q Q C → Grows reach (λ ts. if test ts then p ts else q ts) (either P Q) C
  grows_choose {A = A} test {p = p} {q = q} {P = P} {Q = Q} {C = C} g h = record {
    least = h.least;
    stands = λ r c. let y = h.stands r c in (y.0, inr y.1);
    fails = λ ts. by_test (λ (o : Outcome A). Failed (Begun reach (either P Q) C ts) o) (test ts) (p ts) (q ts)
        (λ is. map_failed (Begun reach P C ts) (Begun reach (either P Q) C ts) (p ts) (g.fails ts) (one_begun P Q C ts))
        (λ is. map_failed (Begun reach Q C ts) (Begun reach (either P Q) C ts) (q ts) (h.fails ts) (other_begun P Q C ts));
    sound = λ ts. by_test (λ (o : Outcome A). Done (either P Q ts) o) (test ts) (p ts) (q ts)
        (λ is. map_done (P ts) (either P Q ts) (p ts) (g.sound ts) (λ a rest s. inl s))
        (λ is. map_done (Q ts) (either P Q ts) (q ts) (h.sound ts) (λ a rest s. inr s));
  }

  -- the same reader, written otherwise
  pub grows_same : {A : Type 0} {p q : Reader A} {P : Phrase A} {C : List Token → Bool} → ((ts : List Token) → p ts ≡ q ts) → Grows reach p P C → Grows reach q P C
  grows_same {A = A} {P = P} {C = C} same g = record {
    least = g.least;
    stands = g.stands;
    fails = λ ts. subst (λ (o : Outcome A). Failed (Begun reach P C ts) o) (same ts) (g.fails ts);
    sound = λ ts. subst (λ (o : Outcome A). Done (P ts) o) (same ts) (g.sound ts);
  }

  -- ---- things with commas between

  module _ {A : Type 0} {p : Reader A} {P : Phrase A} {R : A → A → Type 0} (one : Grows reach p P any) (l : Like P P R any) (finds : (ts : List Token) → Done (Listed P ts) (all_of (λ (found : List A). λ ts. and_then (p ts) (comma_behind found)) [] ts)) where
    abbrev turn : Turn (List A)
    turn found = λ ts. and_then (p ts) (comma_behind found)

    abbrev more_turns : ℕ → List A × Bool → Reader (List A)
    more_turns n q = if q.1 then repeat turn n q.0 else pure q.0

    alone_stands : (front : List Token) → ((r : List Token) → any r ≡ true → (a : A) × P (front ++ r) a r) → (r : List Token) → any r ≡ true → (all : List A) × Listed P (front ++ r) all r
    alone_stands front stands r c = let y = stands r c in (y.0 ∷ [], last (front ++ r) r y.0 y.1)

    list_one : (ts : List Token) (kind : FaultKind) (rest : List Token) → Begun reach P any ts kind rest → Begun reach (Listed P) any ts kind rest
    list_one ts kind rest b = record { front = b.front; more = b.more; is = b.is; stands = λ r c. alone_stands (b.front ++ b.more) b.stands r c; starts = b.starts }

    list_more : (ts : List Token) (a : A) (mid : List Token) → P ts a mid → sees Comma mid ≡ true → (kind : FaultKind) (rest : List Token) → Begun reach (Listed P) any (next mid) kind rest → Begun reach (Listed P) any ts kind rest
    unfolding next
    list_more ts a [] is comma kind rest b = let bad : true ≡ false = sym comma ∙ (looks_mark Comma).nothing in cc
    list_more ts a (c ∷ mid) is comma kind rest b =
        let s = l.within ts a (c ∷ mid) is in
        record {
          front = s.front ++ c ∷ b.front;
          more = b.more;
          is = s.is ∙ ap (λ (xs : List Token). s.front ++ c ∷ xs) b.is ∙ sym (append_assoc s.front (c ∷ b.front) rest);
          stands = λ r any_r.
              let x = b.front ++ b.more in
              let y = b.stands r any_r in
              let n = l.moves s.front (c ∷ mid) (c ∷ (x ++ r)) a (subst (λ (xs : List Token). P xs a (c ∷ mid)) s.is is) (inr refl) in
              let whole : s.front ++ (c ∷ (x ++ r)) ≡ ((s.front ++ c ∷ b.front) ++ b.more) ++ r =
              sym (append_assoc s.front (c ∷ x) r) ∙ ap (λ (xs : List Token). xs ++ r) (sym (append_assoc s.front (c ∷ b.front) b.more)) in
              let is_comma : sees Comma (c ∷ (x ++ r)) ≡ true = (looks_mark Comma).alone c (x ++ r) mid ∙ comma in
              (n.0 ∷ y.0, another (((s.front ++ c ∷ b.front) ++ b.more) ++ r) (c ∷ (x ++ r)) r n.0 y.0 (subst (λ (xs : List Token). P xs n.0 (c ∷ (x ++ r))) whole n.1) is_comma y.1);
          starts = b.starts;
        }

    list_fails : (n : ℕ) (found : List A) (ts : List Token) → length ts < n → Failed (Begun reach (Listed P) any ts) (repeat turn n found ts)
    unfolding repeat comma_behind
    list_fails zero found ts less = absurd (omega arith)
    list_fails (suc n) found ts less =
        subst (λ (o : Outcome (List A)). Failed (Begun reach (Listed P) any ts) o) (regroup (p ts) (comma_behind found) (more_turns n))
        (failed_then (P ts) (Begun reach (Listed P) any ts) (p ts) (λ a rest. and_then (comma_behind found a rest) (more_turns n)) (one.sound ts)
        (map_failed (Begun reach P any ts) (Begun reach (Listed P) any ts) (p ts) (one.fails ts) (list_one ts))
        (λ a mid is. by_test (λ (o : Outcome (List A × Bool)). Failed (Begun reach (Listed P) any ts) (and_then o (more_turns n))) (sees Comma mid) _ _
        (λ comma.
        let shorter = next_shorter (looks_mark Comma) mid comma in
        let within = no_longer (l.within ts a mid is) in
        map_failed (Begun reach (Listed P) any (next mid)) (Begun reach (Listed P) any ts) (repeat turn n (found ++ a ∷ []) (next mid)) (list_fails n (found ++ a ∷ []) (next mid) (omega arith)) (list_more ts a mid is comma))
        (λ comma. tt)))

    pub grows_list : Grows reach (all_of turn []) (Listed P) any
    grows_list = record {
      least = one.least;
      stands = λ r c. alone_stands one.least one.stands r c;
      fails = λ ts. list_fails (length ts + 1) [] ts (omega arith);
      sound = finds;
    }
