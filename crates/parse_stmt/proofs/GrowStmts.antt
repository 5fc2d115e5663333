-- What is read of statements with statements inside before a fault can be completed.
use Rattle.std.proofs.Common.{◌≡◌, ◌≤◌, ◌<◌, ℕ, zero, suc, ◌+◌, ◌==◌, Bool, true, false, if◌then◌else◌, List, [], ◌∷◌, ◌++◌, length, Option, Some, None, Ok, refl, sym, ap, ◌∙◌, subst, ◌⊎◌, inl, inr, arith, append_assoc}
use Rattle.fb_base.specs.declared.fault.Span.{Span}
use Rattle.fb_base.specs.declared.fault.FaultKind.{FaultKind}
use Rattle.fb_base.specs.declared.fault.FaultKind.TheVariants.{Expected, ExtraText}
use Rattle.fb_lexer.specs.declared.token.Token.{Token}
use Rattle.fb_lexer.specs.declared.token.TokenKind.TheVariants as kinds
use Rattle.fb_lexer.specs.declared.word.Word.{Word}
use Rattle.fb_lexer.specs.declared.word.Word.TheVariants as w
use Rattle.fb_ast.specs.declared.expr.Expr.{Expr}
use Rattle.fb_ast.specs.declared.stmt.Block.{Block, roll-Block}
use Rattle.fb_ast.specs.declared.stmt.Branch.{Branch, roll-Branch}
use Rattle.fb_ast.specs.declared.stmt.CaseBranch.{CaseBranch, roll-CaseBranch}
use Rattle.fb_ast.specs.declared.stmt.Stmt.{Stmt}
use Rattle.fb_ast.specs.declared.stmt.Stmt.TheVariants as k
use Rattle.parse_expr.specs.Reading.{first, next, is_word, same_word, sees_word, Reader, Outcome, and_then, pure}
use Rattle.parse_expr.proofs.Sound.{Done, bind, by_test, map_done}
use Rattle.parse_expr.proofs.Fills.{Failed, failed_then, failed_pure, map_failed}
use Rattle.parse_expr.proofs.Ends.{no_longer}
use Rattle.parse_parts.specs.declared.kinds.Level.{Level}
use Rattle.parse_parts.specs.declared.kinds.InLine.{InLine}
use Rattle.parse_parts.specs.declared.kinds.InLine.TheVariants as lines
use Rattle.parse_parts.specs.declared.kinds.Spot.{Spot}
use Rattle.parse_parts.specs.declared.kinds.Closer.TheVariants as closers
use Rattle.parse_parts.specs.Words.{level_within, line_within}
use Rattle.parse_parts.specs.Steps.{place_at, last_before, extra, sees_sep, Turn, repeat}
use Rattle.parse_stmt.specs.Blocks.{ended}
use Rattle.parse_stmt.specs.Blocks as b
use Rattle.parse_stmt.specs.Phrases.{Phrase, gives, Then, ◌>>◌, either, maybe, word, sep, name, expression}
use Rattle.parse_stmt.specs.Statements.{none, some, Series, last, another, Many, end_of}
use Rattle.parse_stmt.specs.Statements as g
use Rattle.parse_stmt.proofs.Heads.{regroup}
use Rattle.parse_stmt.proofs.Bodies.{Inside, sep_less}
use Rattle.parse_stmt.proofs.Nested.{exact_if_behind, ended_series, ended_branches, ended_any_else, ended_cases}
use Rattle.parse_stmt.proofs.Ended.{AtToken, AllRead}
use Rattle.parse_stmt.proofs.Starts.{Reach, over, over_fits, starting, Starts, starts_extra}
use Rattle.parse_stmt.proofs.Wides.{Wider, widened, wide_many, wide_then_series, wide_else_if, wide_last_else, wide_if_behind, wide_case_branch}
use Rattle.parse_stmt.proofs.Likes.{Like, any, Whatever, looks_sep, looks_word, like_then, like_sep, like_word, like_here, like_name, like_expression}
use Rattle.parse_stmt.proofs.LikeParts.{done, like_end_of, like_for_head, like_cases, like_maybe, like_last_test, like_test}
use Rattle.parse_stmt.proofs.LikeStmts.{stops, like_if_behind, series_no_sep, like_many, like_branch, like_else_if, like_last_else, like_case_branch, like_then_series, like_for_tail, free_stops}
use Rattle.parse_stmt.proofs.Grows.{Begun, Grows, grows_gives, grows_then, grows_made, next_shorter, at_once}
use Rattle.parse_stmt.proofs.GrowParts.{word_token, colon, grows_word, grows_sep, grows_here, grows_whole, grows_any_name}
use Rattle.parse_stmt.proofs.GrowSimple.{Goes, goes, grows_for_head, grows_any_test, grows_last_test, grows_cases}
use Rattle.parse_stmt.proofs.GrowBlocks.{OrCut, whole_begun, Closes, an_end, close_first, GrowsE, Least, e_then, e_made, failed_with, EndOf, end_within, Nothing, Elsewhere, StmtFault, EndStands, closing_made, e_body, like_the_body, body_least, grows_loop}

module _ (reach : Reach) (deep : ℕ) (inner : Spot → Reader Stmt) (room : ℕ) (Inner : Level → InLine → Phrase Stmt) (inside : Inside inner room Inner)
    (Outer : Level → InLine → Phrase Stmt) (widens : (level : Level) (line : InLine) → Wider (Inner level line) (Outer level line)) (l : (level : Level) (line : InLine) → Like (Outer level line) (Outer level line) Whatever (stops line))
    (inner_fails : (spot : Spot) (ts : List Token) → Failed (StmtFault reach (Outer spot.level spot.line) spot.line room spot.other ts) (inner spot ts)) (ends : EndStands reach (over reach (suc deep)) Outer) where
  abbrev most : ℕ
  most = suc deep

  abbrev wide : ℕ
  wide = over reach most

  fits : most ≤ wide
  fits = over_fits reach most

  -- ---- loops

  module _ (level : Level) (line : InLine) (end : EndOf line) where
    grows_for_tail : Grows reach (b.for_tail most inner room level line) (g.for_tail wide Outer level line) any
    unfolding b.for_tail same_word
    grows_for_tail = grows_then (grows_sep line) (like_sep line)
        (λ u. grows_loop reach deep inner room Inner inside Outer widens l inner_fails ends level line closers.Next end w.KwNext refl (λ ts. refl) refl _ (λ a. Then (maybe name) (λ again. gives (a, again))) (λ a. grows_made (λ again. (a, again)) grows_any_name (like_maybe like_name)) (λ a c. like_then (like_maybe like_name) (λ x y r. done)))
        (λ u v r. like_then (like_the_body reach deep inner room Inner inside Outer widens l inner_fails ends level line) (λ a c q. like_then (like_word w.KwNext) (λ x y h. like_then (like_maybe like_name) (λ s t i. done))))

    pub goes_for : (t : Token) → Goes reach (b.for_ most inner room t.at level line) (g.for_ wide Outer t.at level line) t any
    unfolding b.for_
    goes_for t = goes t (grows_then (grows_for_head reach deep inner room) (like_for_head wide) (λ head. grows_made (λ tail. k.For t.at head.0 head.1 head.2.0 head.2.1 head.2.2 tail.0 tail.1) grows_for_tail (like_for_tail wide Outer l level line))
        (λ a c r. like_then (like_for_tail wide Outer l level line) (λ x y q. done)))

    pub goes_while : (t : Token) → Goes reach (b.while_ most inner room t.at level line) (g.while_ wide Outer t.at level line) t any
    unfolding b.while_ same_word
    goes_while t = goes t (grows_then (grows_whole reach deep) (like_expression wide)
        (λ condition. grows_then (grows_sep line) (like_sep line)
        (λ u. grows_loop reach deep inner room Inner inside Outer widens l inner_fails ends level line closers.Wend end w.KwWend refl (λ ts. refl) refl _ (λ a. gives (k.While t.at condition a)) (λ a. grows_gives (k.While t.at condition a) any) (λ a c. done))
        (λ u v r. like_then (like_the_body reach deep inner room Inner inside Outer widens l inner_fails ends level line) (λ a c q. like_then (like_word w.KwWend) (λ x y h. done))))
        (λ c d r. like_then (like_sep line) (λ u v q. like_then (like_the_body reach deep inner room Inner inside Outer widens l inner_fails ends level line) (λ a h i. like_then (like_word w.KwWend) (λ x y j. done)))))

    pub goes_do : (t : Token) → Goes reach (b.do_ most inner room t.at level line) (g.do_ wide Outer t.at level line) t any
    unfolding b.do_ same_word
    goes_do t = goes t (grows_then (grows_any_test reach deep) (like_maybe (like_test wide))
        (λ one. grows_then (grows_sep line) (like_sep line)
        (λ u. grows_loop reach deep inner room Inner inside Outer widens l inner_fails ends level line closers.Loop end w.KwLoop refl (λ ts. refl) refl _ (λ a. Then (g.last_test wide one) (λ other. gives (k.Do t.at one a other)))
        (λ a. grows_made (λ other. k.Do t.at one a other) (grows_last_test reach deep one) (like_last_test wide one one refl)) (λ a c. like_then (like_last_test wide one one refl) (λ x y r. done)))
        (λ u v r. like_then (like_the_body reach deep inner room Inner inside Outer widens l inner_fails ends level line) (λ a c q. like_then (like_word w.KwLoop) (λ x y h. like_then (like_last_test wide one one refl) (λ i j o. done)))))
        (λ one other r. like_then (like_sep line) (λ u v q. like_then (like_the_body reach deep inner room Inner inside Outer widens l inner_fails ends level line) (λ a c h. like_then (like_word w.KwLoop) (λ x y i. like_then (like_last_test wide one other r) (λ j o s. done))))))

  -- ---- what is ended by End

  grows_end_of : (which : Word) → is_word which (kinds.Word which) ≡ true → Grows reach (b.end_of which) (end_of which) any
  unfolding b.end_of same_word
  grows_end_of which self = (grows_then grows_here like_here
      (λ at. grows_then (grows_word w.KwEnd refl) (like_word w.KwEnd)
      (λ u. grows_then (grows_word which self) (like_word which)
      (λ x. grows_gives _ any)
      (λ x3 y3 r3. done))
      (λ x2 y2 r2. like_then (like_word which) (λ x4 y4 r4. done)))
      (λ x1 y1 r1. like_then (like_word w.KwEnd) (λ x5 y5 r5. like_then (like_word which) (λ x6 y6 r6. done))))

  -- a phrase before the End, and what is behind that
  closed_fails : {A B : Type 0} {q : Reader A} {P : Phrase A} (kk : A → Reader B) (K : A → Phrase B) (m : List Token) → GrowsE reach q P → Like P P Whatever any → ((a c : A) → Like (K a) (K c) Whatever any) → ((a : A) → Closes m (K a)) → ((a : A) (mid : List Token) → Failed (Begun reach (K a) any mid) (kk a mid))
      → (ts : List Token) → Failed (Begun reach (Then P K) any ts) (and_then (q ts) kk)
  closed_fails {q = q} {P = P} kk K m x ll mm closes fails ts =
      failed_then (P ts) (Begun reach (Then P K) any ts) (q ts) kk (x.sound ts) (map_failed (OrCut reach P ts) (Begun reach (Then P K) any ts) (q ts) (x.fails ts) (close_first m closes ts))
      (λ a mid is. map_failed (Begun reach (K a) any mid) (Begun reach (Then P K) any ts) (kk a mid) (fails a mid) (whole_begun ll (λ c d r. mm c d) ts a mid is))

  module _ (level : Level) (line : InLine) (end : EndOf line) where
    -- ---- Scope

    grows_in_scope : (t : Token) → Grows reach (λ ts. and_then (b.body most inner room level line closers.Scope ts) (λ a. λ us. and_then (b.end_of w.KwScope us) (λ x. pure (k.Scope t.at a)))) (Then (g.body wide Outer level line) (λ a. Then (end_of w.KwScope) (λ x. gives (k.Scope t.at a)))) any
    unfolding same_word
    grows_in_scope t = record {
      least = an_end ∷ word_token w.KwScope ∷ [];
      stands = λ r c. let x = (an_end ∷ word_token w.KwScope ∷ []) ++ r in let y = body_least reach deep inner room Inner inside Outer widens l inner_fails ends level line x in let z = closing_made w.KwScope refl (λ at. k.Scope t.at y.0) an_end refl r in (z.0, record { given = y.0; between = x; front = y.1; back = z.1 });
      fails = closed_fails (λ a us. and_then (b.end_of w.KwScope us) (λ x. pure (k.Scope t.at a))) (λ a. Then (end_of w.KwScope) (λ x. gives (k.Scope t.at a))) (word_token w.KwScope ∷ []) (e_body reach deep inner room Inner inside Outer widens l inner_fails ends level line closers.Scope end) (like_the_body reach deep inner room Inner inside Outer widens l inner_fails ends level line)
          (λ a c. like_then (like_end_of w.KwScope) (λ x y r. done)) (λ a. closing_made w.KwScope refl (λ at. k.Scope t.at a)) (λ a mid. (grows_made (λ x. k.Scope t.at a) (grows_end_of w.KwScope refl) (like_end_of w.KwScope)).fails mid);
      sound = λ ts. bind (g.body wide Outer level line ts) (Then (g.body wide Outer level line) (λ a. Then (end_of w.KwScope) (λ x. gives (k.Scope t.at a))) ts) (b.body most inner room level line closers.Scope ts) _ ((e_body reach deep inner room Inner inside Outer widens l inner_fails ends level line closers.Scope end).sound ts)
          (λ a mid is. map_done (Then (end_of w.KwScope) (λ x. gives (k.Scope t.at a)) mid) (Then (g.body wide Outer level line) (λ a. Then (end_of w.KwScope) (λ x. gives (k.Scope t.at a))) ts) _ ((grows_made (λ x. k.Scope t.at a) (grows_end_of w.KwScope refl) (like_end_of w.KwScope)).sound mid) (λ y rest z. record { given = a; between = mid; front = is; back = z }));
    }

    pub goes_scope : (t : Token) → Goes reach (b.scope most inner room t.at level line) (g.scope wide Outer t.at level line) t any
    unfolding b.scope
    goes_scope t = goes t (grows_then (grows_sep line) (like_sep line) (λ u. grows_in_scope t) (λ u v r. like_then (like_the_body reach deep inner room Inner inside Outer widens l inner_fails ends level line) (λ a c q. like_then (like_end_of w.KwScope) (λ x y h. done))))

    -- ---- any number of branches

    module _ {A : Type 0} (which : Word) (q : Span → Reader A) (P : Span → Phrase A) (x : (at : Span) → GrowsE reach (q at) (P at)) (ll : (at bt : Span) → Like (P at) (P bt) Whatever any) where
      abbrev ManyFault : List Token → FaultKind → List Token → Type 0
      ManyFault ts kind rest = OrCut reach (Many (AtToken (sees_word which) P)) ts kind rest

      abbrev turn : Turn (List A)
      turn found = λ ts. if sees_word which ts then and_then (q (place_at ts) (next ts)) (λ b. pure (found ++ b ∷ [], true)) else Ok ((found, false), ts)

      abbrev more_many : ℕ → List A × Bool → Reader (List A)
      more_many n p = if p.1 then repeat turn n p.0 else pure p.0

      like_at : Like (AtToken (sees_word which) P) (AtToken (sees_word which) P) Whatever any
      like_at = like_then like_here (λ at bt r. like_then (like_word which) (λ u v h. ll at bt))

      -- the first branch
      first_branch : (ts : List Token) → sees_word which ts ≡ true → (kind : FaultKind) (rest : List Token) → OrCut reach (P (place_at ts)) (next ts) kind rest → ManyFault ts kind rest
      unfolding next place_at first
      first_branch [] is kind rest f = let bad : true ≡ false = sym is ∙ (looks_word which).nothing in cc
      first_branch (t ∷ ts) is kind rest (inl f) = inl (record {
        front = t ∷ f.front;
        more = f.more;
        is = ap (λ (xs : List Token). t ∷ xs) f.is;
        stands = λ r c.
            let y = f.stands r c in
            let z = (f.front ++ f.more) ++ r in
            (y.0 ∷ [], some (t ∷ z) r r y.0 [] (record { given = t.at; between = t ∷ z; front = (refl, refl); back = record { given = tt; between = z; front = ((looks_word which).alone t z ts ∙ is, refl); back = y.1 } }) (none r));
        starts = f.starts;
      })
      first_branch (t ∷ ts) is kind rest (inr f) = inr (record {
        front = t ∷ f.front;
        token = f.token;
        is_end = f.is_end;
        is = ap (λ (xs : List Token). t ∷ xs) f.is;
        stands = λ r.
            let y = f.stands r in
            let z = f.front ++ r in
            (y.0 ∷ [], some (t ∷ z) r r y.0 [] (record { given = t.at; between = t ∷ z; front = (refl, refl); back = record { given = tt; between = z; front = ((looks_word which).alone t z ts ∙ is, refl); back = y.1 } }) (none r));
        starts = f.starts;
      })

      later_branch : (ts : List Token) (a : A) (mid : List Token) → AtToken (sees_word which) P ts a mid → (kind : FaultKind) (rest : List Token) → ManyFault mid kind rest → ManyFault ts kind rest
      later_branch ts a mid is kind rest (inl f) =
          let s = like_at.within ts a mid is in
          inl (record {
            front = s.front ++ f.front;
            more = f.more;
            is = s.is ∙ ap (λ (xs : List Token). s.front ++ xs) f.is ∙ sym (append_assoc s.front f.front rest);
            stands = λ r c.
                let y = f.stands r c in
                let z = (f.front ++ f.more) ++ r in
                let n = like_at.moves s.front mid z a (subst (λ (xs : List Token). AtToken (sees_word which) P xs a mid) s.is is) (inr refl) in
                let same : s.front ++ z ≡ ((s.front ++ f.front) ++ f.more) ++ r = sym (append_assoc s.front (f.front ++ f.more) r) ∙ ap (λ (xs : List Token). xs ++ r) (sym (append_assoc s.front f.front f.more)) in
                (n.0 ∷ y.0, some (((s.front ++ f.front) ++ f.more) ++ r) z r n.0 y.0 (subst (λ (xs : List Token). AtToken (sees_word which) P xs n.0 z) same n.1) y.1);
            starts = f.starts;
          })
      later_branch ts a mid is kind rest (inr f) =
          let s = like_at.within ts a mid is in
          inr (record {
            front = s.front ++ f.front;
            token = f.token;
            is_end = f.is_end;
            is = s.is ∙ ap (λ (xs : List Token). s.front ++ xs) f.is ∙ sym (append_assoc s.front f.front (f.token ∷ rest));
            stands = λ r.
                let y = f.stands r in
                let z = f.front ++ r in
                let n = like_at.moves s.front mid z a (subst (λ (xs : List Token). AtToken (sees_word which) P xs a mid) s.is is) (inr refl) in
                let same : s.front ++ z ≡ (s.front ++ f.front) ++ r = sym (append_assoc s.front f.front r) in
                (n.0 ∷ y.0, some ((s.front ++ f.front) ++ r) z r n.0 y.0 (subst (λ (xs : List Token). AtToken (sees_word which) P xs n.0 z) same n.1) y.1);
            starts = f.starts;
          })

      at_token_is : (ts : List Token) (a : A) (mid : List Token) → sees_word which ts ≡ true → P (place_at ts) (next ts) a mid → AtToken (sees_word which) P ts a mid
      at_token_is ts a mid is t = record { given = place_at ts; between = ts; front = (refl, refl); back = record { given = tt; between = next ts; front = (is, refl); back = t } }

      many_fails : (n : ℕ) (found : List A) (ts : List Token) → length ts < n → Failed (ManyFault ts) (repeat turn n found ts)
      unfolding repeat
      many_fails zero found ts less = absurd (omega arith)
      many_fails (suc n) found ts less =
          by_test (λ (o : Outcome (List A × Bool)). Failed (ManyFault ts) (and_then o (more_many n))) (sees_word which ts) _ _
          (λ is. subst (λ (o : Outcome (List A)). Failed (ManyFault ts) o) (regroup (q (place_at ts) (next ts)) (λ b rest. Ok ((found ++ b ∷ [], true), rest)) (more_many n))
          (failed_then (P (place_at ts) (next ts)) (ManyFault ts) (q (place_at ts) (next ts)) (λ b rest. repeat turn n (found ++ b ∷ []) rest) ((x (place_at ts)).sound (next ts))
          (map_failed (OrCut reach (P (place_at ts)) (next ts)) (ManyFault ts) (q (place_at ts) (next ts)) ((x (place_at ts)).fails (next ts)) (first_branch ts is))
          (λ b mid read.
          let shorter = next_shorter (looks_word which) ts is in
          let within = no_longer ((ll (place_at ts) (place_at ts)).within (next ts) b mid read) in
          map_failed (ManyFault mid) (ManyFault ts) (repeat turn n (found ++ b ∷ []) mid) (many_fails n (found ++ b ∷ []) mid (omega arith)) (later_branch ts b mid (at_token_is ts b mid is read)))))
          (λ is. tt)

    -- ---- the If of several lines

    e_branch : (at : Span) (condition : Expr) → GrowsE reach (b.branch most inner room at condition level line) (g.branch wide Outer at condition level line)
    unfolding b.branch
    e_branch at condition = e_made (λ a. roll-Branch (record { at = at; condition = condition; body = a })) (e_body reach deep inner room Inner inside Outer widens l inner_fails ends level line closers.Branches end)

    branch_least : (at : Span) (condition : Expr) → Least [] (g.branch wide Outer at condition level line)
    branch_least at condition r = let y = body_least reach deep inner room Inner inside Outer widens l inner_fails ends level line r in (roll-Branch (record { at = at; condition = condition; body = y.0 }), record { given = y.0; between = r; front = y.1; back = (refl, refl) })

    abbrev ElseIf : Span → Phrase Branch
    ElseIf at = Then (expression wide) (λ condition. Then (word w.KwThen) (λ u. Then (sep line) (λ v. g.branch wide Outer at condition level line)))

    like_the_branch : (at bt : Span) (c d : Expr) → Like (g.branch wide Outer at c level line) (g.branch wide Outer bt d level line) Whatever any
    like_the_branch at bt c d = like_branch wide Outer l at bt c d level line

    sep_least : {B : Type 0} (K : Phrase B) (m : List Token) → Least m K → Least (colon ∷ m) (Then (sep line) (λ (u : Unit {0}). K))
    unfolding sees_sep first next
    sep_least K m least r = let y = least r in (y.0, record { given = tt; between = m ++ r; front = (refl, refl); back = y.1 })

    word_least : {B : Type 0} (which : Word) → is_word which (kinds.Word which) ≡ true → (K : Phrase B) (m : List Token) → Least m K → Least (word_token which ∷ m) (Then (word which) (λ (u : Unit {0}). K))
    unfolding sees_word first next
    word_least which self K m least r = let y = least r in (y.0, record { given = tt; between = m ++ r; front = (self, refl); back = y.1 })

    e_else_if : (at : Span) → GrowsE reach (b.else_if most inner room at level line) (ElseIf at)
    unfolding b.else_if same_word
    e_else_if at = e_then (grows_whole reach deep) (like_expression wide)
        (λ condition. e_then (grows_word w.KwThen refl) (like_word w.KwThen) (λ u. e_then (grows_sep line) (like_sep line) (λ x. e_branch at condition) (λ x y r. like_the_branch at at condition condition) [] (λ x. branch_least at condition))
        (λ u v r. like_then (like_sep line) (λ x y h. like_the_branch at at condition condition)) (colon ∷ []) (λ u. sep_least _ [] (branch_least at condition)))
        (λ c d r. like_then (like_word w.KwThen) (λ u v h. like_then (like_sep line) (λ x y i. like_the_branch at at c d))) (word_token w.KwThen ∷ colon ∷ []) (λ c. word_least w.KwThen refl _ (colon ∷ []) (sep_least _ [] (branch_least at c)))

    like_else_ifs : (at bt : Span) → Like (ElseIf at) (ElseIf bt) Whatever any
    like_else_ifs at bt = like_then (like_expression wide) (λ c d r. like_then (like_word w.KwThen) (λ u v h. like_then (like_sep line) (λ x y i. like_the_branch at bt c d)))

    abbrev Else : Span → Phrase (Option (Span × Block))
    Else at = Then (Then (sep line) (λ (u : Unit {0}). g.body wide Outer level line)) (λ a. gives (Some (at, a)))

    e_else : (at : Span) → GrowsE reach (λ ts. and_then (b.else_body most inner room level line ts) (λ a. pure (Some (at, a)))) (Else at)
    unfolding b.else_body
    e_else at = e_made (λ a. Some (at, a)) (e_then (grows_sep line) (like_sep line) (λ u. e_body reach deep inner room Inner inside Outer widens l inner_fails ends level line closers.Else end) (λ u v r. like_the_body reach deep inner room Inner inside Outer widens l inner_fails ends level line) [] (λ u. body_least reach deep inner room Inner inside Outer widens l inner_fails ends level line))

    else_at : (ts : List Token) → sees_word w.KwElse ts ≡ true → (kind : FaultKind) (rest : List Token) → OrCut reach (Else (place_at ts)) (next ts) kind rest → OrCut reach (g.last_else wide Outer level line) ts kind rest
    unfolding next place_at first
    else_at [] is kind rest f = let bad : true ≡ false = sym is ∙ (looks_word w.KwElse).nothing in cc
    else_at (t ∷ ts) is kind rest (inl f) = inl (record {
      front = t ∷ f.front;
      more = f.more;
      is = ap (λ (xs : List Token). t ∷ xs) f.is;
      stands = λ r c.
          let y = f.stands r c in
          let z = (f.front ++ f.more) ++ r in
          (y.0, inl (record { given = t.at; between = t ∷ z; front = (refl, refl); back = record { given = tt; between = z; front = ((looks_word w.KwElse).alone t z ts ∙ is, refl); back = y.1 } }));
      starts = f.starts;
    })
    else_at (t ∷ ts) is kind rest (inr f) = inr (record {
      front = t ∷ f.front;
      token = f.token;
      is_end = f.is_end;
      is = ap (λ (xs : List Token). t ∷ xs) f.is;
      stands = λ r.
          let y = f.stands r in
          let z = f.front ++ r in
          (y.0, inl (record { given = t.at; between = t ∷ z; front = (refl, refl); back = record { given = tt; between = z; front = ((looks_word w.KwElse).alone t z ts ∙ is, refl); back = y.1 } }));
      starts = f.starts;
    })

    else_fails : (ts : List Token) → Failed (OrCut reach (g.last_else wide Outer level line) ts) (b.any_else most inner room level line ts)
    unfolding b.any_else
    else_fails ts =
        by_test (λ (o : Outcome (Option (Span × Block))). Failed (OrCut reach (g.last_else wide Outer level line) ts) o) (sees_word w.KwElse ts) _ _
        (λ is. map_failed (OrCut reach (Else (place_at ts)) (next ts)) (OrCut reach (g.last_else wide Outer level line) ts) _ ((e_else (place_at ts)).fails (next ts)) (else_at ts is))
        (λ is. tt)

    e_any_else : GrowsE reach (b.any_else most inner room level line) (g.last_else wide Outer level line)
    unfolding b.any_else b.else_body
    e_any_else = record { fails = else_fails; sound = λ ts. widened (wide_last_else most wide fits Inner Outer widens level line) ts (b.any_else most inner room level line ts) ((ended_any_else deep inner room Inner inside level line).sound ts) }

    abbrev LastPart : Span → List Branch → Option (Span × Block) → Phrase Stmt
    LastPart at all other = Then (end_of w.KwIf) (λ x. gives (k.If at all other x))

    abbrev FromElse : Span → List Branch → Phrase Stmt
    FromElse at all = Then (g.last_else wide Outer level line) (LastPart at all)

    abbrev FromMore : Span → Branch → Phrase Stmt
    FromMore at first_one = Then (Many (g.else_if wide Outer level line)) (λ more. FromElse at (first_one ∷ more))

    like_last_part : (at : Span) (a c : List Branch) (o p : Option (Span × Block)) → Like (LastPart at a o) (LastPart at c p) Whatever any
    like_last_part at a c o p = like_then (like_end_of w.KwIf) (λ x y r. done)

    like_from_else : (at : Span) (a c : List Branch) → Like (FromElse at a) (FromElse at c) Whatever any
    like_from_else at a c = like_then (like_last_else wide Outer l level line) (λ o p r. like_last_part at a c o p)

    like_from_more : (at : Span) (a c : Branch) → Like (FromMore at a) (FromMore at c) Whatever any
    like_from_more at a c = like_then (like_many (like_else_if wide Outer l level line)) (λ m n r. like_from_else at (a ∷ m) (c ∷ n))

    closes_last : (at : Span) (all : List Branch) (other : Option (Span × Block)) → Closes (word_token w.KwIf ∷ []) (LastPart at all other)
    unfolding same_word
    closes_last at all other = closing_made w.KwIf refl (λ x. k.If at all other x)

    closes_else : (at : Span) (all : List Branch) → Closes (word_token w.KwIf ∷ []) (FromElse at all)
    closes_else at all t is r = let y = closes_last at all None t is r in (y.0, record { given = None; between = (t ∷ word_token w.KwIf ∷ []) ++ r; front = inr (refl, refl); back = y.1 })

    closes_more : (at : Span) (a : Branch) → Closes (word_token w.KwIf ∷ []) (FromMore at a)
    closes_more at a t is r = let y = closes_else at (a ∷ []) t is r in let z = (t ∷ word_token w.KwIf ∷ []) ++ r in (y.0, record { given = []; between = z; front = none z; back = y.1 })

    last_fails : (at : Span) (all : List Branch) (other : Option (Span × Block)) (ts : List Token) → Failed (Begun reach (LastPart at all other) any ts) (and_then (b.end_of w.KwIf ts) (λ x. pure (k.If at all other x)))
    unfolding same_word
    last_fails at all other ts = (grows_made (λ x. k.If at all other x) (grows_end_of w.KwIf refl) (like_end_of w.KwIf)).fails ts

    abbrev last_reader : Span → List Branch → Option (Span × Block) → Reader Stmt
    last_reader at all other = λ ts. and_then (b.end_of w.KwIf ts) (λ x. pure (k.If at all other x))

    from_else_fails : (at : Span) (all : List Branch) (ts : List Token) → Failed (Begun reach (FromElse at all) any ts) (and_then (b.any_else most inner room level line ts) (last_reader at all))
    from_else_fails at all = closed_fails (last_reader at all) (LastPart at all) (word_token w.KwIf ∷ []) e_any_else (like_last_else wide Outer l level line) (λ o p. like_last_part at all all o p) (closes_last at all) (last_fails at all)

    abbrev BranchesRead : Branch → List Token → List Branch → List Token → Type 0
    BranchesRead a ts all rest = AllRead (sees_word w.KwElseIf) (λ at. b.else_if most inner room at level line) ElseIf (a ∷ []) ts all rest

    branches_sound : (a : Branch) (ts : List Token) → Done (BranchesRead a ts) (b.branches most inner room level line a ts)
    branches_sound a ts = map_done _ (BranchesRead a ts) (b.branches most inner room level line a ts) ((ended_branches deep inner room Inner inside level line a).sound ts)
        (λ all rest s. (s.0, s.1, (wide_many (wide_else_if most wide fits Inner Outer widens level line)).to ts s.0 rest s.2))

    from_more_fails : (at : Span) (a : Branch) (ts : List Token) → Failed (Begun reach (FromMore at a) any ts) (and_then (b.branches most inner room level line a ts) (λ all. λ us. and_then (b.any_else most inner room level line us) (last_reader at all)))
    unfolding b.branches b.branch_turn
    from_more_fails at a ts =
        failed_then (BranchesRead a ts) (Begun reach (FromMore at a) any ts) (b.branches most inner room level line a ts) (λ all us. and_then (b.any_else most inner room level line us) (last_reader at all)) (branches_sound a ts)
        (map_failed (OrCut reach (Many (AtToken (sees_word w.KwElseIf) ElseIf)) ts) (Begun reach (FromMore at a) any ts) (b.branches most inner room level line a ts)
        (many_fails w.KwElseIf (λ at. b.else_if most inner room at level line) ElseIf e_else_if like_else_ifs (length ts + 1) (a ∷ []) ts (omega arith)) (close_first (word_token w.KwIf ∷ []) (λ m. closes_else at (a ∷ m)) ts))
        (λ all mid s. subst (λ (xs : List Branch). Failed (Begun reach (FromMore at a) any ts) (and_then (b.any_else most inner room level line mid) (last_reader at xs))) (sym s.1)
        (map_failed (Begun reach (FromElse at (a ∷ s.0)) any mid) (Begun reach (FromMore at a) any ts) (and_then (b.any_else most inner room level line mid) (last_reader at (a ∷ s.0))) (from_else_fails at (a ∷ s.0) mid)
        (whole_begun (like_many (like_else_if wide Outer l level line)) (λ m n r. like_from_else at (a ∷ m) (a ∷ n)) ts s.0 mid s.2)))

    pub if_block_fails : (at : Span) (condition : Expr) (ts : List Token) → Failed (Begun reach (g.if_block wide Outer at condition level line) any ts) (b.if_block most inner room at condition level line ts)
    unfolding b.if_block
    if_block_fails at condition = closed_fails _ (FromMore at) (word_token w.KwIf ∷ []) (e_branch at condition) (like_the_branch at at condition condition) (λ a c. like_from_more at a c) (closes_more at) (from_more_fails at)

    pub if_block_closes : (at : Span) (condition : Expr) → Closes (word_token w.KwIf ∷ []) (g.if_block wide Outer at condition level line)
    if_block_closes at condition t is r = let z = (t ∷ word_token w.KwIf ∷ []) ++ r in let y = branch_least at condition z in let x = closes_more at y.0 t is r in (x.0, record { given = y.0; between = z; front = y.1; back = x.1 })

    -- ---- Select

    abbrev CaseBehind : Span → Phrase CaseBranch
    CaseBehind at = Then (g.all_cases wide) (λ all. Then (sep line) (λ u. Then (g.body wide Outer level line) (λ a. gives (roll-CaseBranch (record { at = at; cases = all; body = a })))))

    case_least : (at : Span) (all : _) → Least [] (Then (g.body wide Outer level line) (λ a. gives (roll-CaseBranch (record { at = at; cases = all; body = a }))))
    case_least at all r = let y = body_least reach deep inner room Inner inside Outer widens l inner_fails ends level line r in (roll-CaseBranch (record { at = at; cases = all; body = y.0 }), record { given = y.0; between = r; front = y.1; back = (refl, refl) })

    e_case : (at : Span) → GrowsE reach (b.case_branch most inner room at level line) (CaseBehind at)
    unfolding b.case_branch
    e_case at = e_then (grows_cases reach deep) (like_cases wide)
        (λ all. e_then (grows_sep line) (like_sep line) (λ u. e_made (λ a. roll-CaseBranch (record { at = at; cases = all; body = a })) (e_body reach deep inner room Inner inside Outer widens l inner_fails ends level line closers.Cases end)) (λ u v r. like_then (like_the_body reach deep inner room Inner inside Outer widens l inner_fails ends level line) (λ a c h. done)) [] (λ u. case_least at all))
        (λ a c r. like_then (like_sep line) (λ u v h. like_then (like_the_body reach deep inner room Inner inside Outer widens l inner_fails ends level line) (λ x y i. done))) (colon ∷ []) (λ all. sep_least _ [] (case_least at all))

    like_case : (at bt : Span) → Like (CaseBehind at) (CaseBehind bt) Whatever any
    like_case at bt = like_then (like_cases wide) (λ a c r. like_then (like_sep line) (λ u v h. like_then (like_the_body reach deep inner room Inner inside Outer widens l inner_fails ends level line) (λ x y i. done)))

    abbrev SelectEnd : Span → Expr → List CaseBranch → Phrase Stmt
    SelectEnd at x all = Then (end_of w.KwSelect) (λ y. gives (k.Select at x all y))

    abbrev FromCases : Span → Expr → Phrase Stmt
    FromCases at x = Then (Many (g.case_branch wide Outer level line)) (SelectEnd at x)

    closes_select : (at : Span) (x : Expr) (all : List CaseBranch) → Closes (word_token w.KwSelect ∷ []) (SelectEnd at x all)
    unfolding same_word
    closes_select at x all = closing_made w.KwSelect refl (λ y. k.Select at x all y)

    select_fails : (at : Span) (x : Expr) (all : List CaseBranch) (ts : List Token) → Failed (Begun reach (SelectEnd at x all) any ts) (and_then (b.end_of w.KwSelect ts) (λ y. pure (k.Select at x all y)))
    unfolding same_word
    select_fails at x all ts = (grows_made (λ y. k.Select at x all y) (grows_end_of w.KwSelect refl) (like_end_of w.KwSelect)).fails ts

    abbrev CasesRead : List Token → List CaseBranch → List Token → Type 0
    CasesRead ts all rest = AllRead (sees_word w.KwCase) (λ at. b.case_branch most inner room at level line) CaseBehind [] ts all rest

    cases_sound : (ts : List Token) → Done (CasesRead ts) (b.case_branches most inner room level line ts)
    cases_sound ts = map_done _ (CasesRead ts) (b.case_branches most inner room level line ts) ((ended_cases deep inner room Inner inside level line).sound ts)
        (λ all rest s. (s.0, s.1, (wide_many (wide_case_branch most wide fits Inner Outer widens level line)).to ts s.0 rest s.2))

    from_cases_fails : (at : Span) (x : Expr) (ts : List Token) → Failed (Begun reach (FromCases at x) any ts) (and_then (b.case_branches most inner room level line ts) (λ all. λ us. and_then (b.end_of w.KwSelect us) (λ y. pure (k.Select at x all y))))
    unfolding b.case_branches b.select_turn
    from_cases_fails at x ts =
        failed_then (CasesRead ts) (Begun reach (FromCases at x) any ts) (b.case_branches most inner room level line ts) (λ all us. and_then (b.end_of w.KwSelect us) (λ y. pure (k.Select at x all y))) (cases_sound ts)
        (map_failed (OrCut reach (Many (AtToken (sees_word w.KwCase) CaseBehind)) ts) (Begun reach (FromCases at x) any ts) (b.case_branches most inner room level line ts)
        (many_fails w.KwCase (λ at. b.case_branch most inner room at level line) CaseBehind e_case like_case (length ts + 1) [] ts (omega arith)) (close_first (word_token w.KwSelect ∷ []) (closes_select at x) ts))
        (λ all mid s. subst (λ (xs : List CaseBranch). Failed (Begun reach (FromCases at x) any ts) (and_then (b.end_of w.KwSelect mid) (λ y. pure (k.Select at x xs y)))) (sym s.1)
        (map_failed (Begun reach (SelectEnd at x s.0) any mid) (Begun reach (FromCases at x) any ts) (and_then (b.end_of w.KwSelect mid) (λ y. pure (k.Select at x s.0 y))) (select_fails at x s.0 mid)
        (whole_begun (like_many (like_case_branch wide Outer l level line)) (λ m n r. like_then (like_end_of w.KwSelect) (λ y z h. done)) ts s.0 mid s.2)))

    grows_from_cases : (at : Span) (x : Expr) → Grows reach (λ ts. and_then (b.case_branches most inner room level line ts) (λ all. λ us. and_then (b.end_of w.KwSelect us) (λ y. pure (k.Select at x all y)))) (FromCases at x) any
    unfolding b.case_branches b.select_turn same_word
    grows_from_cases at x = record {
      least = an_end ∷ word_token w.KwSelect ∷ [];
      stands = λ r c. let z = (an_end ∷ word_token w.KwSelect ∷ []) ++ r in let y = closes_select at x [] an_end refl r in (y.0, record { given = []; between = z; front = none z; back = y.1 });
      fails = from_cases_fails at x;
      sound = λ ts. bind (CasesRead ts) (FromCases at x ts) (b.case_branches most inner room level line ts) _ (cases_sound ts)
          (λ all mid s. map_done (SelectEnd at x all mid) (FromCases at x ts) _ ((grows_made (λ y. k.Select at x all y) (grows_end_of w.KwSelect refl) (like_end_of w.KwSelect)).sound mid)
          (λ y rest z. record { given = s.0; between = mid; front = s.2; back = subst (λ (xs : List CaseBranch). SelectEnd at x xs mid y rest) s.1 z }));
    }

    pub goes_select : (t : Token) → Goes reach (b.select most inner room t.at level line) (g.select wide Outer t.at level line) t any
    unfolding b.select same_word
    goes_select t = goes t (grows_then (grows_word w.KwCase refl) (like_word w.KwCase)
        (λ u. grows_then (grows_whole reach deep) (like_expression wide) (λ x. grows_then (grows_sep line) (like_sep line) (λ y. grows_from_cases t.at x)
        (λ y z r. like_then (like_many (like_case_branch wide Outer l level line)) (λ m n h. like_then (like_end_of w.KwSelect) (λ i j o. done))))
        (λ x y r. like_then (like_sep line) (λ z h i. like_then (like_many (like_case_branch wide Outer l level line)) (λ m n j. like_then (like_end_of w.KwSelect) (λ o p s. done)))))
        (λ u v r. like_then (like_expression wide) (λ x y h. like_then (like_sep line) (λ z i j. like_then (like_many (like_case_branch wide Outer l level line)) (λ m n o. like_then (like_end_of w.KwSelect) (λ p s q. done))))))

  -- ---- the one-line If

  module _ (level : Level) where
    abbrev series_one : Phrase Stmt
    series_one = Outer level lines.Series

    abbrev series_spot : FaultKind → Spot
    series_spot other = record { level = level; line = lines.Series; other = other }

    abbrev SeriesBegun : List Token → FaultKind → List Token → Type 0
    SeriesBegun ts kind rest = Begun reach (Series series_one) (stops lines.Series) ts kind rest

    -- behind a colon, behind a statement of a series
    abbrev SeriesTail : List Token → FaultKind → List Token → Type 0
    SeriesTail mid kind rest = (sees_sep lines.Series mid ≡ true) × SeriesBegun (next mid) kind rest

    one_of_series : (ts : List Token) (kind : FaultKind) (rest : List Token) → Begun reach series_one (stops lines.Series) ts kind rest → SeriesBegun ts kind rest
    one_of_series ts kind rest f = record { front = f.front; more = f.more; is = f.is; stands = λ r c. let y = f.stands r c in (y.0 ∷ [], last ((f.front ++ f.more) ++ r) r y.0 y.1 (series_no_sep r c).0); starts = f.starts }

    -- a statement that is read, and what is behind it
    series_behind : (ts : List Token) (x : Stmt) (mid : List Token) → series_one ts x mid → (kind : FaultKind) (rest : List Token) → SeriesTail mid kind rest → SeriesBegun ts kind rest
    unfolding next first
    series_behind ts x [] is kind rest f = let bad : true ≡ false = sym f.0 ∙ (looks_sep lines.Series).nothing in cc
    series_behind ts x (c ∷ mid) is kind rest f =
        let s = (l level lines.Series).within ts x (c ∷ mid) is in
        let d = f.1 in
        record {
          front = s.front ++ c ∷ d.front;
          more = d.more;
          is = s.is ∙ ap (λ (xs : List Token). s.front ++ c ∷ xs) d.is ∙ sym (append_assoc s.front (c ∷ d.front) rest);
          stands = λ r cr.
              let y = d.stands r cr in
              let z = (d.front ++ d.more) ++ r in
              let n = (l level lines.Series).moves s.front (c ∷ mid) (c ∷ z) x (subst (λ (xs : List Token). series_one xs x (c ∷ mid)) s.is is) (inl refl) in
              let same : s.front ++ (c ∷ z) ≡ ((s.front ++ c ∷ d.front) ++ d.more) ++ r = sym (append_assoc s.front (c ∷ (d.front ++ d.more)) r) ∙ ap (λ (xs : List Token). xs ++ r) (sym (append_assoc s.front (c ∷ d.front) d.more)) in
              (n.0 ∷ y.0, another (((s.front ++ c ∷ d.front) ++ d.more) ++ r) (c ∷ z) r n.0 y.0 (subst (λ (xs : List Token). series_one xs n.0 (c ∷ z)) same n.1) ((looks_sep lines.Series).alone c z mid ∙ f.0) y.1);
          starts = d.starts;
        }

    abbrev more_series : ℕ → List Stmt × Bool → Reader (List Stmt)
    more_series n q = if q.1 then repeat (b.series_turn most inner room level) n q.0 else pure q.0

    some_room : (room == 0) ≡ false → (kind : FaultKind) (rest ts : List Token) → StmtFault reach series_one lines.Series room Expected ts kind rest → SeriesBegun ts kind rest
    some_room some_there kind rest ts (inl f) = one_of_series ts kind rest f
    some_room some_there kind rest ts (inr (inl n)) = let bad : true ≡ false = sym n.0 ∙ some_there in cc
    some_room some_there kind rest ts (inr (inr e)) = absurd (e.2 refl)

    series_read : (other : FaultKind) (ts : List Token) → Done (λ x rest. Inner level lines.Series ts x rest × series_one ts x rest) (inner (series_spot other) ts)
    series_read other ts = map_done (Inner level lines.Series ts) (λ x rest. Inner level lines.Series ts x rest × series_one ts x rest) (inner (series_spot other) ts) ((inside.exact level lines.Series other).sound ts) (λ x rest p. (p, (widens level lines.Series).to ts x rest p))

    series_fail : (room == 0) ≡ false → (n : ℕ) (found : List Stmt) (mid : List Token) → length mid < n → Failed (SeriesTail mid) (repeat (b.series_turn most inner room level) n found mid)
    unfolding repeat b.series_turn
    series_fail some_there zero found mid less = absurd (omega arith)
    series_fail some_there (suc n) found mid less =
        by_test (λ (o : Outcome (List Stmt × Bool)). Failed (SeriesTail mid) (and_then o (more_series n))) (sees_sep lines.Series mid) _ _
        (λ is. subst (λ (o : Outcome (List Stmt)). Failed (SeriesTail mid) o) (regroup (inner (series_spot Expected) (next mid)) (λ x rest. Ok ((found ++ x ∷ [], true), rest)) (more_series n))
        (failed_then (λ x rest. Inner level lines.Series (next mid) x rest × series_one (next mid) x rest) (SeriesTail mid) (inner (series_spot Expected) (next mid)) (λ x rest. repeat (b.series_turn most inner room level) n (found ++ x ∷ []) rest) (series_read Expected (next mid))
        (map_failed (StmtFault reach series_one lines.Series room Expected (next mid)) (SeriesTail mid) (inner (series_spot Expected) (next mid)) (inner_fails (series_spot Expected) (next mid)) (λ kind rest f. (is, some_room some_there kind rest (next mid) f)))
        (λ x m2 read.
        let shorter = sep_less lines.Series mid is in
        let within = no_longer ((l level lines.Series).within (next mid) x m2 read.1) in
        map_failed (SeriesTail m2) (SeriesTail mid) (repeat (b.series_turn most inner room level) n (found ++ x ∷ []) m2) (series_fail some_there n (found ++ x ∷ []) m2 (omega arith)) (λ kind rest f. (is, series_behind (next mid) x m2 read.1 kind rest f)))))
        (λ is. tt)

    abbrev NotBegun : FaultKind → List Token → FaultKind → List Token → Type 0
    NotBegun other ts kind rest = Nothing reach room ts kind rest ⊎ Elsewhere other ts kind rest

    abbrev SeriesFault : FaultKind → List Token → FaultKind → List Token → Type 0
    SeriesFault other ts kind rest = SeriesBegun ts kind rest ⊎ NotBegun other ts kind rest

    series_stmt_fault : (other : FaultKind) (ts : List Token) (kind : FaultKind) (rest : List Token) → StmtFault reach series_one lines.Series room other ts kind rest → SeriesFault other ts kind rest
    series_stmt_fault other ts kind rest (inl f) = inl (one_of_series ts kind rest f)
    series_stmt_fault other ts kind rest (inr n) = inr n

    series_fails : (other : FaultKind) (ts : List Token) → Failed (SeriesFault other ts) (b.series most inner room level other ts)
    unfolding b.series b.series_from
    series_fails other ts =
        failed_then (λ x rest. Inner level lines.Series ts x rest × series_one ts x rest) (SeriesFault other ts) (inner (series_spot other) ts) _ (series_read other ts)
        (map_failed (StmtFault reach series_one lines.Series room other ts) (SeriesFault other ts) (inner (series_spot other) ts) (inner_fails (series_spot other) ts) (series_stmt_fault other ts))
        (λ x mid read. map_failed (SeriesTail mid) (SeriesFault other ts) (repeat (b.series_turn most inner room level) (length mid + 1) (x ∷ []) mid) (series_fail (inside.deep level lines.Series ts x mid read.0) (length mid + 1) (x ∷ []) mid (omega arith)) (λ kind rest f. inl (series_behind ts x mid read.1 kind rest f)))

    -- a series was read, so statements can be deep enough
    series_some : (ts : List Token) (all : List Stmt) (rest : List Token) → Series (Inner level lines.Series) ts all rest → (room == 0) ≡ false
    series_some ts all rest (last a c x p apart) = inside.deep level lines.Series ts x rest p
    series_some ts all rest (another a between c x more p is q) = inside.deep level lines.Series ts x between p

    abbrev IfSeries : Span → Expr → Phrase Stmt
    IfSeries at condition = g.if_series wide Outer at condition level

    abbrev Other : Phrase (Option (Span × Block))
    Other = g.series_other wide Outer level

    no_else_there : (r : List Token) → stops lines.Series r ≡ true → (if sees_word w.KwElse r then false else true) ≡ true
    no_else_there r c = rw ((series_no_sep r c).1) refl

    if_of_series : (at : Span) (condition : Expr) (ts : List Token) (kind : FaultKind) (rest : List Token) → SeriesBegun ts kind rest → Begun reach (IfSeries at condition) (stops lines.Series) ts kind rest
    if_of_series at condition ts kind rest f = record {
      front = f.front;
      more = f.more;
      is = f.is;
      stands = λ r c.
          let y = f.stands r c in
          let x = (f.front ++ f.more) ++ r in
          let block : Block = roll-Block (record { stmts = y.0; end = if sees_word w.KwElse r then place_at r else last_before x r }) in
          (k.IfLine at condition block None, record { given = block; between = r; front = (y.0, y.1, refl); back = record { given = None; between = r; front = inr ((refl, refl), no_else_there r c); back = (refl, refl) } });
      starts = f.starts;
    }

    -- an Else and what is behind it: the Else comes next in both
    pub record OtherBegun (ts : List Token) (kind : FaultKind) (rest : List Token) : Type 0 where
      pub front : List Token
      pub more : List Token
      pub is : ts ≡ front ++ rest
      pub stands : (r : List Token) → stops lines.Series r ≡ true → (a : Option (Span × Block)) × Other ((front ++ more) ++ r) a r
      pub same_first : (r : List Token) → first ((front ++ more) ++ r) ≡ first ts
      pub starts : Starts reach kind rest more

    else_series_begun : (ts : List Token) → sees_word w.KwElse ts ≡ true → (kind : FaultKind) (rest : List Token) → SeriesBegun (next ts) kind rest → OtherBegun ts kind rest
    unfolding next place_at first
    else_series_begun [] is kind rest f = let bad : true ≡ false = sym is ∙ (looks_word w.KwElse).nothing in cc
    else_series_begun (t ∷ ts) is kind rest f = record {
      front = t ∷ f.front;
      more = f.more;
      is = ap (λ (xs : List Token). t ∷ xs) f.is;
      stands = λ r c.
          let y = f.stands r c in
          let z = (f.front ++ f.more) ++ r in
          let block : Block = roll-Block (record { stmts = y.0; end = last_before z r }) in
          (Some (t.at, block), inl (record { given = t.at; between = t ∷ z; front = (refl, refl); back = record { given = tt; between = z; front = ((looks_word w.KwElse).alone t z ts ∙ is, refl); back = record { given = block; between = r; front = (y.0, y.1, refl); back = (refl, refl) } } }));
      same_first = λ r. refl;
      starts = f.starts;
    }

    only_begun : (room == 0) ≡ false → (ts : List Token) (kind : FaultKind) (rest : List Token) → SeriesFault Expected ts kind rest → SeriesBegun ts kind rest
    only_begun some_there ts kind rest (inl f) = f
    only_begun some_there ts kind rest (inr (inl n)) = let bad : true ≡ false = sym n.0 ∙ some_there in cc
    only_begun some_there ts kind rest (inr (inr e)) = absurd (e.2 refl)

    other_fails : (room == 0) ≡ false → (ts : List Token) → Failed (OtherBegun ts) (b.series_other most inner room level ts)
    unfolding b.series_other b.series_else
    other_fails some_there ts =
        by_test (λ (o : Outcome (Option (Span × Block))). Failed (OtherBegun ts) o) (sees_word w.KwElse ts) _ _
        (λ is. failed_pure (OtherBegun ts) _ (λ (a : Block). Some (place_at ts, a))
        (failed_with (OtherBegun ts) (b.series most inner room level Expected (next ts)) (λ (all : List Stmt) (rest : List Token). roll-Block (record { stmts = all; end = last_before (next ts) rest }))
        (map_failed (SeriesFault Expected (next ts)) (OtherBegun ts) (b.series most inner room level Expected (next ts)) (series_fails Expected (next ts)) (λ kind rest f. else_series_begun ts is kind rest (only_begun some_there (next ts) kind rest f)))))
        (λ is. tt)

    abbrev IfFault : Span → Expr → List Token → FaultKind → List Token → Type 0
    IfFault at condition ts kind rest = Begun reach (IfSeries at condition) (stops lines.Series) ts kind rest ⊎ NotBegun ExtraText ts kind rest

    series_if : (at : Span) (condition : Expr) (ts : List Token) (kind : FaultKind) (rest : List Token) → SeriesFault ExtraText ts kind rest → IfFault at condition ts kind rest
    series_if at condition ts kind rest (inl f) = inl (if_of_series at condition ts kind rest f)
    series_if at condition ts kind rest (inr n) = inr n

    -- behind the series that is read
    if_behind_begun : (at : Span) (condition : Expr) (ts : List Token) (one_block : Block) (mid : List Token) → g.then_series wide Outer level ts one_block mid → (kind : FaultKind) (rest : List Token) → OtherBegun mid kind rest
        → Begun reach (IfSeries at condition) (stops lines.Series) ts kind rest
    unfolding first
    if_behind_begun at condition ts one_block mid is kind rest f =
        let ll = like_then_series wide Outer l level in
        let s = ll.within ts one_block mid is in
        record {
          front = s.front ++ f.front;
          more = f.more;
          is = s.is ∙ ap (λ (xs : List Token). s.front ++ xs) f.is ∙ sym (append_assoc s.front f.front rest);
          stands = λ r c.
              let x = (f.front ++ f.more) ++ r in
              let y = f.stands r c in
              let n = ll.moves s.front mid x one_block (subst (λ (xs : List Token). g.then_series wide Outer level xs one_block mid) s.is is) (inl (f.same_first r)) in
              let same : s.front ++ x ≡ ((s.front ++ f.front) ++ f.more) ++ r = sym (append_assoc s.front (f.front ++ f.more) r) ∙ ap (λ (xs : List Token). xs ++ r) (sym (append_assoc s.front f.front f.more)) in
              (k.IfLine at condition n.0 y.0, record { given = n.0; between = x; front = subst (λ (xs : List Token). g.then_series wide Outer level xs n.0 x) same n.1; back = record { given = y.0; between = r; front = y.1; back = (refl, refl) } });
          starts = f.starts;
        }

    if_series_fails : (at : Span) (condition : Expr) (ts : List Token) → Failed (IfFault at condition ts) (b.if_series most inner room at condition level ts)
    unfolding b.if_series b.series_then b.series_end
    if_series_fails at condition ts =
        failed_then (g.then_series most Inner level ts) (IfFault at condition ts) _ _ (bind (Series (Inner level lines.Series) ts) (g.then_series most Inner level ts) (b.series most inner room level ExtraText ts) _ ((ended_series deep inner room Inner inside level ExtraText).sound ts) (λ all rest read. (all, read, refl)))
        (failed_with (IfFault at condition ts) (b.series most inner room level ExtraText ts) (λ (all : List Stmt) (rest : List Token). roll-Block (record { stmts = all; end = if sees_word w.KwElse rest then place_at rest else last_before ts rest }))
        (map_failed (SeriesFault ExtraText ts) (IfFault at condition ts) (b.series most inner room level ExtraText ts) (series_fails ExtraText ts) (series_if at condition ts)))
        (λ a mid read. failed_pure (IfFault at condition ts) (b.series_other most inner room level mid) (λ (o : Option (Span × Block)). k.IfLine at condition a o)
        (map_failed (OtherBegun mid) (IfFault at condition ts) (b.series_other most inner room level mid) (other_fails (series_some ts read.0 mid read.1) mid)
        (λ kind rest f. inl (if_behind_begun at condition ts a mid ((wide_then_series most wide fits Inner Outer widens level).to ts a mid read) kind rest f))))

  -- ---- If

  abbrev IfBehind : Span → Level → InLine → Expr → Phrase Stmt
  IfBehind at level line condition = either (sep line >> g.if_block wide Outer at condition (level_within level) (line_within line)) (g.if_line wide Outer line at condition (level_within level))

  -- a block without statements
  if_least : (at : Span) (level : Level) (line : InLine) (condition : Expr) (r : List Token) → (x : Stmt) × IfBehind at level line condition ((colon ∷ an_end ∷ word_token w.KwIf ∷ []) ++ r) x r
  unfolding sees_sep first next
  if_least at level line condition r = let y = if_block_closes (level_within level) (line_within line) (end_within line) at condition an_end refl r in (y.0, inl (record { given = tt; between = an_end ∷ word_token w.KwIf ∷ r; front = (refl, refl); back = y.1 }))

  if_at_once : (at : Span) (level : Level) (line : InLine) (condition : Expr) (ts : List Token) (kind : FaultKind) → Starts reach kind ts (colon ∷ an_end ∷ word_token w.KwIf ∷ []) → Begun reach (IfBehind at level line condition) (stops line) ts kind ts
  if_at_once at level line condition ts kind starts = at_once (IfBehind at level line condition) (stops line) ts kind (colon ∷ an_end ∷ word_token w.KwIf ∷ []) (λ r c. if_least at level line condition r) starts

  -- no statement is begun behind Then: a colon may stand there
  if_instead : (at : Span) (level : Level) (line : InLine) (condition : Expr) (ts : List Token) (kind : FaultKind) (rest : List Token) → NotBegun (level_within level) ExtraText ts kind rest → Begun reach (IfBehind at level line condition) (stops line) ts kind rest
  if_instead at level line condition ts kind rest (inl n) =
      subst (λ (xs : List Token). Begun reach (IfBehind at level line condition) (stops line) ts kind xs) (sym n.1)
      (if_at_once at level line condition ts kind (subst (λ (xs : List Token). Starts reach kind xs (colon ∷ an_end ∷ word_token w.KwIf ∷ [])) n.1 (n.2 (colon ∷ an_end ∷ word_token w.KwIf ∷ []))))
  if_instead at level line condition ts kind rest (inr e) =
      subst (λ (xs : List Token). Begun reach (IfBehind at level line condition) (stops line) ts kind xs) (sym e.0)
      (if_at_once at level line condition ts kind (subst (λ (k : FaultKind). Starts reach k ts (colon ∷ an_end ∷ word_token w.KwIf ∷ [])) (sym e.1) (starting colon (an_end ∷ word_token w.KwIf ∷ []) (inl refl))))

  sep_begun : {B : Type 0} (line : InLine) (K Q : Phrase B) (C : List Token → Bool) (ts : List Token) → sees_sep line ts ≡ true → (kind : FaultKind) (rest : List Token) → Begun reach K any (next ts) kind rest → Begun reach (either (Then (sep line) (λ (u : Unit {0}). K)) Q) C ts kind rest
  unfolding next
  sep_begun line K Q C [] is kind rest f = let bad : true ≡ false = sym is ∙ (looks_sep line).nothing in cc
  sep_begun line K Q C (t ∷ ts) is kind rest f = record {
    front = t ∷ f.front;
    more = f.more;
    is = ap (λ (xs : List Token). t ∷ xs) f.is;
    stands = λ r c. let y = f.stands r refl in let x = (f.front ++ f.more) ++ r in (y.0, inl (record { given = tt; between = x; front = ((looks_sep line).alone t x ts ∙ is, refl); back = y.1 }));
    starts = f.starts;
  }

  free_fault : (at : Span) (level : Level) (condition : Expr) (ts : List Token) (kind : FaultKind) (rest : List Token) → IfFault (level_within level) at condition ts kind rest → Begun reach (IfBehind at level lines.Free condition) (stops lines.Free) ts kind rest
  free_fault at level condition ts kind rest (inl f) = record { front = f.front; more = f.more; is = f.is; stands = λ r c. let y = f.stands r (free_stops r c) in (y.0, inr y.1); starts = f.starts }
  free_fault at level condition ts kind rest (inr n) = if_instead at level lines.Free condition ts kind rest n

  production_fault : (at : Span) (level : Level) (condition : Expr) (ts : List Token) (kind : FaultKind) (rest : List Token) → IfFault (level_within level) at condition ts kind rest → Begun reach (IfBehind at level lines.Series condition) (stops lines.Series) ts kind rest
  production_fault at level condition ts kind rest (inl f) = record { front = f.front; more = f.more; is = f.is; stands = λ r c. let y = f.stands r c in (y.0, inr y.1); starts = f.starts }
  production_fault at level condition ts kind rest (inr n) = if_instead at level lines.Series condition ts kind rest n

  if_by_fails : (at : Span) (level : Level) (line : InLine) (condition : Expr) (ts : List Token) → Failed (Begun reach (IfBehind at level line condition) (stops line) ts) (b.if_by most inner room line at condition (level_within level) ts)
  if_by_fails at level lines.Free condition ts = map_failed (IfFault (level_within level) at condition ts) (Begun reach (IfBehind at level lines.Free condition) (stops lines.Free) ts) (b.if_series most inner room at condition (level_within level) ts) (if_series_fails (level_within level) at condition ts) (free_fault at level condition ts)
  if_by_fails at level lines.Series condition ts = map_failed (IfFault (level_within level) at condition ts) (Begun reach (IfBehind at level lines.Series condition) (stops lines.Series) ts) (b.if_series most inner room at condition (level_within level) ts) (if_series_fails (level_within level) at condition ts) (production_fault at level condition ts)
  if_by_fails at level lines.Inner condition ts = if_at_once at level lines.Inner condition ts (extra ts) (starts_extra reach ts colon (an_end ∷ word_token w.KwIf ∷ []) (inl refl))

  if_behind_fails : (at : Span) (level : Level) (line : InLine) (condition : Expr) (ts : List Token) → Failed (Begun reach (IfBehind at level line condition) (stops line) ts) (b.if_behind most inner room at condition level line ts)
  unfolding b.if_behind
  if_behind_fails at level line condition ts =
      by_test (λ (o : Outcome Stmt). Failed (Begun reach (IfBehind at level line condition) (stops line) ts) o) (sees_sep line ts) _ _
      (λ is. map_failed (Begun reach (g.if_block wide Outer at condition (level_within level) (line_within line)) any (next ts)) (Begun reach (IfBehind at level line condition) (stops line) ts) (b.if_block most inner room at condition (level_within level) (line_within line) (next ts))
      (if_block_fails (level_within level) (line_within line) (end_within line) at condition (next ts)) (sep_begun line (g.if_block wide Outer at condition (level_within level) (line_within line)) (g.if_line wide Outer line at condition (level_within level)) (stops line) ts is))
      (λ is. if_by_fails at level line condition ts)

  if_behind_sound : (at : Span) (level : Level) (line : InLine) (condition : Expr) (ts : List Token) → Done (IfBehind at level line condition ts) (b.if_behind most inner room at condition level line ts)
  if_behind_sound at level line condition ts = widened (wide_if_behind most wide fits Inner Outer widens at condition level line) ts (b.if_behind most inner room at condition level line ts) ((exact_if_behind deep inner room Inner inside at condition level line).sound ts)

  grows_if_behind : (at : Span) (level : Level) (line : InLine) (condition : Expr) → Grows reach (b.if_behind most inner room at condition level line) (IfBehind at level line condition) (stops line)
  grows_if_behind at level line condition = record {
    least = colon ∷ an_end ∷ word_token w.KwIf ∷ [];
    stands = λ r c. if_least at level line condition r;
    fails = if_behind_fails at level line condition;
    sound = if_behind_sound at level line condition;
  }

  like_if_to : (at : Span) (level : Level) (line : InLine) (c d : Expr) → c ≡ d → Like (IfBehind at level line c) (IfBehind at level line d) Whatever (stops line)
  like_if_to at level line c d r = like_if_behind wide Outer l c d r at level line

  pub goes_if : (t : Token) (level : Level) (line : InLine) → Goes reach (b.if_ most inner room t.at level line) (g.if_ wide Outer t.at level line) t (stops line)
  unfolding b.if_ same_word
  goes_if t level line = goes t (grows_then (grows_whole reach deep) (like_expression wide)
      (λ condition. grows_then (grows_word w.KwThen refl) (like_word w.KwThen) (λ u. grows_if_behind t.at level line condition) (λ u v r. like_if_to t.at level line condition condition refl))
      (λ c d r. like_then (like_word w.KwThen) (λ u v q. like_if_to t.at level line c d r)))
