-- Statements with statements inside are read exactly.
use Rattle.std.proofs.Common.{◌≡◌, ◌<◌, ℕ, zero, suc, ◌+◌, Bool, true, false, if◌then◌else◌, List, [], ◌∷◌, ◌++◌, length, Option, Some, None, Ok, Err, refl, sym, ap, ◌∙◌, subst, ◌⊎◌, inl, inr, arith, append_assoc, append-nil}
use Rattle.fb_base.specs.declared.fault.Span.{Span}
use Rattle.fb_base.specs.declared.fault.FaultKind.{FaultKind}
use Rattle.fb_base.specs.declared.fault.FaultKind.TheVariants.{Expected, ExtraText}
use Rattle.fb_lexer.specs.declared.token.Token.{Token}
use Rattle.fb_lexer.specs.declared.token.TokenKind.TheVariants as kinds
use Rattle.fb_lexer.specs.declared.token.Mark.TheVariants.{Equal}
use Rattle.fb_lexer.specs.declared.word.Word.{Word}
use Rattle.fb_lexer.specs.declared.word.Word.TheVariants as w
use Rattle.fb_ast.specs.declared.expr.Expr.{Expr}
use Rattle.fb_ast.specs.declared.stmt.Block.{Block, roll-Block}
use Rattle.fb_ast.specs.declared.stmt.Branch.{Branch, roll-Branch}
use Rattle.fb_ast.specs.declared.stmt.CaseBranch.{CaseBranch, roll-CaseBranch}
use Rattle.fb_ast.specs.declared.stmt.Stmt.{Stmt}
use Rattle.fb_ast.specs.declared.stmt.Stmt.TheVariants as s
use Rattle.parse_expr.specs.Reading.{first, next, sees_word, Reader, Outcome, and_then, pure, take_token}
use Rattle.parse_expr.proofs.Sound.{Done, bind, by_test, map_done}
use Rattle.parse_expr.proofs.Ends.{Suffixes, no_longer}
use Rattle.parse_parts.specs.declared.kinds.Level.{Level}
use Rattle.parse_parts.specs.declared.kinds.InLine.{InLine}
use Rattle.parse_parts.specs.declared.kinds.InLine.TheVariants as lines
use Rattle.parse_parts.specs.declared.kinds.Spot.{Spot}
use Rattle.parse_parts.specs.declared.kinds.Closer.{Closer}
use Rattle.parse_parts.specs.declared.kinds.Closer.TheVariants as closers
use Rattle.parse_parts.specs.Words.{level_within, line_within}
use Rattle.parse_parts.specs.Steps.{place_at, last_before, sees_sep, repeat}
use Rattle.parse_stmt.specs.Blocks.{sees_end, closed}
use Rattle.parse_stmt.specs.Blocks as reading
use Rattle.parse_stmt.specs.Phrases.{Phrase, gives, Then, either, word, sep, expression}
use Rattle.parse_stmt.specs.Statements.{Series, last, another, Many}
use Rattle.parse_stmt.specs.Statements as grammar
use Rattle.parse_stmt.proofs.Exact.{next_kind, Follow, Exact, always, exact_then, exact_behind, same_end, end_of_end, leave_next}
use Rattle.parse_stmt.proofs.Smallest.{exact_word, exact_mark, exact_sep, exact_here, exact_name, exact_whole, ends_expression, no_pointer, next_word, starts_mark}
use Rattle.parse_stmt.proofs.Lists.{no_word, exact_gives, exact_made}
use Rattle.parse_stmt.proofs.Dims.{closes, closes_expression, equals, under_equals, any_type_exact}
use Rattle.parse_stmt.proofs.Values.{same_answer}
use Rattle.parse_stmt.proofs.Plain.{exact_taking}
use Rattle.parse_stmt.proofs.Parts.{exact_range, exact_any_test, exact_last_test, exact_cases, exact_any_name}
use Rattle.parse_stmt.proofs.Bodies.{Inside, sep_closes, sep_less, ended_body, body_ends}
use Rattle.parse_stmt.proofs.Ended.{Ended, coming, as_ended, as_exact, ended_then, ended_gives, ended_made, ended_behind, ended_many, AllRead, token_then, many_starts}

-- a list of phrases that goes on with one that is read before
pub ended_after : {A B : Type 0} {p : Reader (List A)} {M : Phrase (List A)} {C : List Token → Bool} (found : List A) (k : List A → Reader B) {K : List A → Phrase B} {D : List Token → Bool}
    → Ended p (λ ts all rest. (behind : List A) × (all ≡ found ++ behind) × M ts behind rest) C → ((behind : List A) → Ended (k (found ++ behind)) (K behind) D)
    → ((behind : List A) (ts : List Token) (b : B) (rest : List Token) → K behind ts b rest → D rest ≡ true → C ts ≡ true)
    → Ended (λ ts. and_then (p ts) k) (Then M K) D
ended_after {A = A} {B = B} {p = p} {M = M} found k {K = K} one other starts = record {
  sound = λ ts. bind (λ all rest. (behind : List A) × (all ≡ found ++ behind) × M ts behind rest) (Then M K ts) (p ts) k (one.sound ts)
      (λ all rest s. rw (s.1) (map_done (K s.0 rest) (Then M K ts) (k (found ++ s.0) rest) ((other s.0).sound rest) (λ b end t. record { given = s.0; between = rest; front = s.2; back = t })));
  finds = λ ts b rest t d.
      ap (λ (o : Outcome (List A)). and_then o k) (one.finds ts (found ++ t.given) t.between (t.given, refl, t.front) (starts t.given t.between b rest t.back d)) ∙ (other t.given).finds t.between b rest t.back d;
  within = λ ts b rest t. end_of_end ((other t.given).within t.between b rest t.back) (one.within ts (found ++ t.given) t.between (t.given, refl, t.front));
}

-- what is made of the tokens before and behind a phrase, too
pub ended_placed : {A B : Type 0} {p : Reader A} {P : Phrase A} {C : List Token → Bool} (f : List Token → A → List Token → B) → Ended p P C
    → Ended (λ ts. and_then (p ts) (λ a rest. Ok (f ts a rest, rest))) (λ ts b rest. (a : A) × P ts a rest × (b ≡ f ts a rest)) C
ended_placed {A = A} {B = B} {p = p} {P = P} f x = record {
  sound = λ ts. bind (P ts) (λ b rest. (a : A) × P ts a rest × (b ≡ f ts a rest)) (p ts) (λ a rest. Ok (f ts a rest, rest)) (x.sound ts) (λ a rest t. (a, t, refl));
  finds = λ ts b rest t d. ap (λ (o : Outcome A). and_then o (λ a r. Ok (f ts a r, r))) (x.finds ts t.0 rest t.1 d) ∙ same_answer _ b rest rest t.2 refl;
  within = λ ts b rest t. x.within ts t.0 rest t.1;
}

pub word_less : (which : Word) (ts : List Token) → sees_word which ts ≡ true → length (next ts) < length ts
unfolding sees_word first next
word_less which [] is = cc
word_less which (t ∷ ts) is = omega arith

no_first : (a c : Bool) → (if a then false else c) ≡ true → c ≡ true
no_first true c is = cc
no_first false c is = is

not_first : (a c : Bool) → (if a then false else c) ≡ true → a ≡ false
not_first true c is = cc
not_first false c is = refl

-- a word alone
abbrev only_end : Follow
only_end (Some (kinds.Word w.KwEnd)) = true
only_end other = false

abbrev only_else : Follow
only_else (Some (kinds.Word w.KwElse)) = true
only_else other = false

end_first : (which : Word) (ts : List Token) (b : Bool) → sees_word w.KwEnd ts ≡ b → (if b then sees_word which (next ts) else false) ≡ true → b ≡ true
end_first which ts true is e = refl
end_first which ts false is e = cc

end_word : (which : Word) (ts : List Token) → sees_end which ts ≡ true → sees_word w.KwEnd ts ≡ true
unfolding sees_end
end_word which ts e = end_first which ts (sees_word w.KwEnd ts) refl e

end_no_word : (other which : Word) (ts : List Token) → only_end (Some (kinds.Word other)) ≡ false → sees_end which ts ≡ true → sees_word other ts ≡ false
end_no_word other which ts apart e = no_word other only_end ts apart (ap only_end (next_word w.KwEnd ts (end_word which ts e))) (sees_word other ts) refl

pub both : {A : Type 0} (P Q : A → List Token → Type 0) (o : Outcome A) → Done P o → Done Q o → Done (λ a rest. P a rest × Q a rest) o
both P Q (Ok p) s t = (s, t)
both P Q (Err e) s t = tt

module _ (deep : ℕ) (inner : Spot → Reader Stmt) (room : ℕ) (Inner : Level → InLine → Phrase Stmt) (inside : Inside inner room Inner) where
  -- ---- series

  module _ (level : Level) where
    abbrev SeriesRest : List Token → List Stmt → List Token → Type 0
    SeriesRest ts all rest = ((all ≡ []) × (rest ≡ ts) × (sees_sep lines.Series ts ≡ false)) ⊎ ((sees_sep lines.Series ts ≡ true) × Series (Inner level lines.Series) (next ts) all rest)

    series_joins : (ts between rest : List Token) (x : Stmt) (all : List Stmt) → Inner level lines.Series ts x between → SeriesRest between all rest → Series (Inner level lines.Series) ts (x ∷ all) rest
    series_joins ts between rest x all t (inl r) = rw (r.0, r.1) (last ts between x t r.2)
    series_joins ts between rest x all t (inr r) = another ts between rest x all t r.0 r.1

    record SeriesSplit (ts : List Token) (all : List Stmt) (rest : List Token) : Type 0 where
      x : Stmt
      more : List Stmt
      between : List Token
      is : all ≡ x ∷ more
      stands : Inner level lines.Series ts x between
      behind : SeriesRest between more rest

    series_splits : (ts : List Token) (all : List Stmt) (rest : List Token) → Series (Inner level lines.Series) ts all rest → SeriesSplit ts all rest
    series_splits ts all rest (last a b x t none_follows) = record { x = x; more = []; between = rest; is = refl; stands = t; behind = inl (refl, refl, none_follows) }
    series_splits ts all rest (another a between b x more t is r) = record { x = x; more = more; between = between; is = refl; stands = t; behind = inr (is, r) }

    abbrev series_turns : ℕ → List Stmt × Bool → Reader (List Stmt)
    series_turns n q = if q.1 then repeat (reading.series_turn (suc deep) inner room level) n q.0 else pure q.0

    record ProductionRead (found : List Stmt) (ts : List Token) (all : List Stmt) (rest : List Token) : Type 0 where
      behind : List Stmt
      is : all ≡ found ++ behind
      are : SeriesRest ts behind rest

    production_sound : (n : ℕ) (found : List Stmt) (ts : List Token) → Done (ProductionRead found ts) (repeat (reading.series_turn (suc deep) inner room level) n found ts)
    unfolding repeat reading.series_turn
    production_sound zero found ts = tt
    production_sound (suc n) found ts =
        by_test (λ (o : Outcome (List Stmt × Bool)). Done (ProductionRead found ts) (and_then o (series_turns n))) (sees_sep lines.Series ts) _ _
        (λ is. bind (λ q rest. (x : Stmt) × Inner level lines.Series (next ts) x rest × (q ≡ (found ++ x ∷ [], true))) (ProductionRead found ts) _ (series_turns n)
        (bind (Inner level lines.Series (next ts)) (λ q rest. (x : Stmt) × Inner level lines.Series (next ts) x rest × (q ≡ (found ++ x ∷ [], true))) _ _ ((inside.exact level lines.Series Expected).sound (next ts)) (λ x rest t. (x, t, refl)))
        (λ q rest t. rw (t.2) (map_done (ProductionRead (found ++ t.0 ∷ []) rest) (ProductionRead found ts) _ (production_sound n (found ++ t.0 ∷ []) rest)
        (λ all left r. record { behind = t.0 ∷ r.behind; is = r.is ∙ append_assoc found (t.0 ∷ []) r.behind; are = inr (is, series_joins (next ts) rest left t.0 r.behind t.1 r.are) }))))
        (λ no. record { behind = []; is = sym (append-nil found); are = inl (refl, refl, no) })

    rest_closes : (ts : List Token) (all : List Stmt) (rest : List Token) → SeriesRest ts all rest → closes (next_kind rest) ≡ true → closes (next_kind ts) ≡ true
    rest_closes ts all rest (inl r) f = ap (λ (m : List Token). closes (next_kind m)) (sym r.1) ∙ f
    rest_closes ts all rest (inr r) f = sep_closes lines.Series ts r.0

    series_finds : (n : ℕ) (found : List Stmt) (ts : List Token) (all : List Stmt) (rest : List Token) → SeriesRest ts all rest → closes (next_kind rest) ≡ true → length ts < n
        → repeat (reading.series_turn (suc deep) inner room level) n found ts ≡ Ok (found ++ all, rest)
    unfolding repeat reading.series_turn
    series_finds zero found ts all rest r f few = absurd (omega arith)
    series_finds (suc n) found ts all rest (inl r) f few = rw (r.0, r.1, r.2, append-nil found) refl
    series_finds (suc n) found ts all rest (inr r) f few =
        let p = series_splits (next ts) all rest r.1 in
        let e = inside.exact level lines.Series Expected in
        let within = no_longer (e.within (next ts) p.x p.between p.stands) in
        let less = sep_less lines.Series ts r.0 in
        rw (r.0, e.finds (next ts) p.x p.between p.stands (rest_closes p.between p.more rest p.behind f))
        (series_finds n (found ++ p.x ∷ []) p.between p.more rest p.behind f (omega arith) ∙ ap (λ (xs : List Stmt). Ok (xs, rest)) (append_assoc found (p.x ∷ []) p.more) ∙ ap (λ (xs : List Stmt). Ok (found ++ xs, rest)) (sym p.is))

    series_within : (ts : List Token) (all : List Stmt) (rest : List Token) → Series (Inner level lines.Series) ts all rest → Suffixes rest ts
    series_within ts all rest (last a b x t none_follows) = (inside.exact level lines.Series Expected).within ts x rest t
    series_within ts all rest (another a between b x more t is r) =
        end_of_end (series_within (next between) more rest r) (end_of_end (leave_next between) ((inside.exact level lines.Series Expected).within ts x between t))

    first_sound : (ts : List Token) (x : Stmt) (between : List Token) → Inner level lines.Series ts x between → Done (Series (Inner level lines.Series) ts) (reading.series_from (suc deep) inner room level x between)
    unfolding reading.series_from
    first_sound ts x between t = map_done (ProductionRead (x ∷ []) between) (Series (Inner level lines.Series) ts) _ (production_sound (length between + 1) (x ∷ []) between)
        (λ all rest r. rw (r.is) (series_joins ts between rest x r.behind t r.are))

    pub ended_series : (other : FaultKind) → Ended (reading.series (suc deep) inner room level other) (Series (Inner level lines.Series)) (coming closes)
    unfolding reading.series reading.series_from
    ended_series other = record {
      sound = λ ts. bind (Inner level lines.Series ts) (Series (Inner level lines.Series) ts) (inner (record { level = level; line = lines.Series; other = other }) ts) (reading.series_from (suc deep) inner room level)
          ((inside.exact level lines.Series other).sound ts) (λ x between t. first_sound ts x between t);
      finds = λ ts all rest r f.
          let p = series_splits ts all rest r in
          rw ((inside.exact level lines.Series other).finds ts p.x p.between p.stands (rest_closes p.between p.more rest p.behind f))
          (series_finds (length p.between + 1) (p.x ∷ []) p.between p.more rest p.behind f (omega arith) ∙ ap (λ (xs : List Stmt). Ok (xs, rest)) (sym p.is));
      within = series_within;
    }

    -- ---- the one-line If

    pub ended_then_series : Ended (reading.series_then (suc deep) inner room level) (grammar.then_series (suc deep) Inner level) (coming closes)
    unfolding reading.series_then reading.series_end
    ended_then_series = ended_placed (λ ts all rest. roll-Block (record { stmts = all; end = if sees_word w.KwElse rest then place_at rest else last_before ts rest })) (ended_series ExtraText)

    ended_else_series : Ended (reading.series_else (suc deep) inner room level) (grammar.else_series (suc deep) Inner level) (coming closes)
    unfolding reading.series_else
    ended_else_series = ended_placed (λ ts all rest. roll-Block (record { stmts = all; end = last_before ts rest })) (ended_series Expected)

    abbrev no_else : List Token → Bool
    no_else rest = if sees_word w.KwElse rest then false else true

    other_sound : (ts : List Token) → Done (grammar.series_other (suc deep) Inner level ts) (reading.series_other (suc deep) inner room level ts)
    unfolding reading.series_other
    other_sound ts = by_test (λ (o : Outcome (Option (Span × Block))). Done (grammar.series_other (suc deep) Inner level ts) o) (sees_word w.KwElse ts) _ _
        (λ is. bind (grammar.else_series (suc deep) Inner level (next ts)) (grammar.series_other (suc deep) Inner level ts) (reading.series_else (suc deep) inner room level (next ts)) _ (ended_else_series.sound (next ts))
        (λ b rest t. inl (record { given = place_at ts; between = ts; front = (refl, refl); back = record { given = tt; between = next ts; front = (is, refl); back = record { given = b; between = rest; front = t; back = (refl, refl) } } })))
        (λ is. inr ((refl, refl), rw is refl))

    none_else : (ts : List Token) (b : Bool) → sees_word w.KwElse ts ≡ b → (if b then false else true) ≡ true → b ≡ false
    none_else ts true is t = cc
    none_else ts false is t = refl

    other_finds : (ts : List Token) (a : Option (Span × Block)) (rest : List Token) → grammar.series_other (suc deep) Inner level ts a rest → coming closes rest ≡ true → reading.series_other (suc deep) inner room level ts ≡ Ok (a, rest)
    unfolding reading.series_other
    other_finds ts a rest (inl t) f =
        let k = token_then (sees_word w.KwElse) (λ at. Then (grammar.else_series (suc deep) Inner level) (λ b. gives (Some (at, b)))) ts a rest t in
        rw (k.is) (ap (λ (o : Outcome Block). and_then o (λ b r. Ok (Some (place_at ts, b), r)))
        (ended_else_series.finds (next ts) k.stands.given k.stands.between k.stands.front (ap (coming closes) (sym k.stands.back.1) ∙ f)) ∙ same_answer _ a k.stands.between rest k.stands.back.0 k.stands.back.1)
    other_finds ts a rest (inr t) f =
        rw (none_else ts (sees_word w.KwElse ts) refl (ap no_else (sym t.0.1) ∙ t.1)) (same_answer _ a ts rest t.0.0 t.0.1)

    other_within : (ts : List Token) (a : Option (Span × Block)) (rest : List Token) → grammar.series_other (suc deep) Inner level ts a rest → Suffixes rest ts
    other_within ts a rest (inl t) =
        let k = token_then (sees_word w.KwElse) (λ at. Then (grammar.else_series (suc deep) Inner level) (λ b. gives (Some (at, b)))) ts a rest t in
        rw (k.stands.back.1) (end_of_end (ended_else_series.within (next ts) k.stands.given k.stands.between k.stands.front) (leave_next ts))
    other_within ts a rest (inr t) = rw (t.0.1) (same_end ts)

    ended_other : Ended (reading.series_other (suc deep) inner room level) (grammar.series_other (suc deep) Inner level) (coming closes)
    ended_other = record { sound = other_sound; finds = other_finds; within = other_within }

    other_closes : (ts : List Token) (a : Option (Span × Block)) (rest : List Token) → grammar.series_other (suc deep) Inner level ts a rest → coming closes rest ≡ true → coming closes ts ≡ true
    other_closes ts a rest (inl t) f =
        let k = token_then (sees_word w.KwElse) (λ at. Then (grammar.else_series (suc deep) Inner level) (λ b. gives (Some (at, b)))) ts a rest t in
        ap closes (next_word w.KwElse ts k.is)
    other_closes ts a rest (inr t) f = ap (coming closes) (sym t.0.1) ∙ f

    pub series_opens : (at : Span) (condition : Expr) (ts : List Token) (x : Stmt) (rest : List Token) → grammar.if_series (suc deep) Inner at condition level ts x rest → coming closes rest ≡ true → (other : InLine) → sees_sep other ts ≡ false
    series_opens at condition ts x rest t f other =
        let p = series_splits ts t.front.0 t.between t.front.1 in
        let c : closes (next_kind t.between) ≡ true = other_closes t.between t.back.given t.back.between t.back.front (ap (coming closes) (sym t.back.back.1) ∙ f) in
        (inside.opens level lines.Series ts p.x p.between p.stands (rest_closes p.between p.more t.between p.behind c)).no_sep other

    pub ended_if_series : (at : Span) (condition : Expr) → Ended (reading.if_series (suc deep) inner room at condition level) (grammar.if_series (suc deep) Inner at condition level) (coming closes)
    unfolding reading.if_series
    ended_if_series at condition = ended_then ended_then_series (λ one. ended_made (λ other. s.IfLine at condition one other) ended_other)
        (λ one ts b rest t d. other_closes ts t.given t.between t.front (ap (coming closes) (sym t.back.1) ∙ d))

  -- ---- blocks and what ends them

  always_ended : {A : Type 0} {p : Reader A} {P : Phrase A} (C : List Token → Bool) → Exact p P always → Ended p P C
  always_ended C x = record { sound = x.sound; finds = λ ts a rest t d. x.finds ts a rest t refl; within = x.within }

  pub end_exact : (which : Word) → Exact (reading.end_of which) (grammar.end_of which) always
  unfolding reading.end_of
  end_exact which = exact_then exact_here (λ at. exact_then (exact_word w.KwEnd) (λ u. exact_then (exact_word which) (λ v. exact_gives at always) (λ v ts a rest t f. refl)) (λ u ts a rest t f. refl)) (λ at ts a rest t f. refl)

  end_seen : (which : Word) (ts : List Token) (at : Span) (rest : List Token) → grammar.end_of which ts at rest → sees_end which ts ≡ true
  unfolding sees_end
  end_seen which ts at rest t =
      let same = t.front.1 in
      let e : sees_word w.KwEnd ts ≡ true = ap (sees_word w.KwEnd) (sym same) ∙ t.back.front.0 in
      let n : sees_word which (next ts) ≡ true = ap (λ (m : List Token). sees_word which (next m)) (sym same) ∙ ap (sees_word which) (sym t.back.front.1) ∙ t.back.back.front.0 in
      rw (e) n

  body_both : (level : Level) (line : InLine) (closer : Closer) (ts : List Token)
      → Done (λ b rest. grammar.body (suc deep) Inner level line ts b rest × (closed closer rest ≡ true)) (reading.body (suc deep) inner room level line closer ts)
  body_both level line closer ts =
      both (grammar.body (suc deep) Inner level line ts) (λ b rest. closed closer rest ≡ true) (reading.body (suc deep) inner room level line closer ts) ((ended_body deep inner room Inner inside level line closer).sound ts) (body_ends deep inner room Inner inside level line closer ts)

  -- a block, and the word that ends it
  ended_loop : {B : Type 0} (level : Level) (line : InLine) (closer : Closer) (which : Word) → ((ts : List Token) → closed closer ts ≡ sees_word which ts)
      → (k : Block → Reader B) {K : Block → Phrase B} {D : List Token → Bool} → ((b : Block) → Ended (k b) (K b) D)
      → Ended (λ ts. and_then (reading.body (suc deep) inner room level line closer ts) (λ b. λ us. and_then (take_token us) (λ u. k b))) (Then (grammar.body (suc deep) Inner level line) (λ b. Then (word which) (λ u. K b))) D
  ended_loop {B = B} level line closer which same k {K = K} {D = D} x = record {
    sound = λ ts. bind (λ b rest. grammar.body (suc deep) Inner level line ts b rest × (closed closer rest ≡ true)) (Then (grammar.body (suc deep) Inner level line) (λ b. Then (word which) (λ u. K b)) ts) (reading.body (suc deep) inner room level line closer ts) _
        (body_both level line closer ts)
        (λ b between t. map_done (K b (next between)) (Then (grammar.body (suc deep) Inner level line) (λ b. Then (word which) (λ u. K b)) ts) (k b (next between)) ((x b).sound (next between))
        (λ y rest r. record { given = b; between = between; front = t.0; back = record { given = tt; between = next between; front = (sym (same between) ∙ t.1, refl); back = r } }));
    finds = λ ts y rest t d.
        ap (λ (o : Outcome Block). and_then o (λ b us. and_then (take_token us) (λ u. k b))) ((ended_body deep inner room Inner inside level line closer).finds ts t.given t.between t.front (same t.between ∙ t.back.front.0))
        ∙ subst (λ (m : List Token). k t.given m ≡ Ok (y, rest)) t.back.front.1 ((x t.given).finds t.back.between y rest t.back.back d);
    within = λ ts y rest t. end_of_end ((x t.given).within t.back.between y rest t.back.back)
        (rw (t.back.front.1) (end_of_end (leave_next t.between) ((ended_body deep inner room Inner inside level line closer).within ts t.given t.between t.front)));
  }

  -- ---- the If of several lines

  module _ (level : Level) (line : InLine) where
    abbrev pub in_branches : List Token → Bool
    in_branches = closed closers.Branches

    -- an Else or the end
    abbrev pub behind_branches : List Token → Bool
    behind_branches ts = if sees_word w.KwElseIf ts then false else in_branches ts

    pub ended_branch : (at : Span) (condition : Expr) → Ended (reading.branch (suc deep) inner room at condition level line) (grammar.branch (suc deep) Inner at condition level line) in_branches
    unfolding reading.branch
    ended_branch at condition = ended_made (λ b. roll-Branch (record { at = at; condition = condition; body = b })) (ended_body deep inner room Inner inside level line closers.Branches)

    pub ended_else_if : (at : Span) → Ended (reading.else_if (suc deep) inner room at level line) (Then (expression (suc deep)) (λ condition. Then (word w.KwThen) (λ u. Then (sep line) (λ v. grammar.branch (suc deep) Inner at condition level line)))) in_branches
    unfolding reading.else_if
    ended_else_if at = ended_then (as_ended (exact_whole deep)) (λ condition. ended_then (as_ended (exact_word w.KwThen)) (λ u. ended_then (as_ended (exact_sep line)) (λ v. ended_branch at condition)
        (λ v ts b rest t d. refl)) (λ u ts b rest t d. refl))
        (λ condition ts b rest t d. ap ends_expression (next_word w.KwThen ts t.front.0))

    pub ended_branches : (one : Branch) → Ended (reading.branches (suc deep) inner room level line one) (AllRead (sees_word w.KwElseIf) (λ at. reading.else_if (suc deep) inner room at level line) (λ at. Then (expression (suc deep)) (λ condition. Then (word w.KwThen) (λ u. Then (sep line) (λ v. grammar.branch (suc deep) Inner at condition level line)))) (one ∷ [])) behind_branches
    unfolding reading.branches reading.branch_turn
    ended_branches one = ended_many (sees_word w.KwElseIf) (λ at. reading.else_if (suc deep) inner room at level line) (λ at. Then (expression (suc deep)) (λ condition. Then (word w.KwThen) (λ u. Then (sep line) (λ v. grammar.branch (suc deep) Inner at condition level line))))
        in_branches behind_branches ended_else_if (λ ts is. rw is refl) (λ ts d. no_first (sees_word w.KwElseIf ts) (in_branches ts) d) (λ ts d. not_first (sees_word w.KwElseIf ts) (in_branches ts) d) (word_less w.KwElseIf) (one ∷ [])

    pub ended_any_else : Ended (reading.any_else (suc deep) inner room level line) (grammar.last_else (suc deep) Inner level line) (closed closers.Else)
    unfolding reading.any_else reading.else_body
    ended_any_else = ended_behind (sees_word w.KwElse) (λ at. ended_made (λ b. Some (at, b)) (ended_then (as_ended (exact_sep line)) (λ u. ended_body deep inner room Inner inside level line closers.Else) (λ u ts b rest t d. refl)))
        (ended_gives None (closed closers.Else)) (λ ts a rest t d. end_no_word w.KwElse w.KwIf ts refl (ap (closed closers.Else) (sym t.1) ∙ d))

    else_by : (ts : List Token) (a : Option (Span × Block)) (between : List Token) → grammar.last_else (suc deep) Inner level line ts a between → sees_end w.KwIf between ≡ true → behind_branches ts ≡ true
    else_by ts a between (inl t) e =
        let k = token_then (sees_word w.KwElse) (λ at. Then (Then (sep line) (λ u. grammar.body (suc deep) Inner level line)) (λ b. gives (Some (at, b)))) ts a between t in
        rw (no_word w.KwElseIf only_else ts refl (ap only_else (next_word w.KwElse ts k.is)) (sees_word w.KwElseIf ts) refl, k.is) refl
    else_by ts a between (inr t) e =
        let f : sees_end w.KwIf ts ≡ true = ap (sees_end w.KwIf) (sym t.1) ∙ e in
        rw (end_no_word w.KwElseIf w.KwIf ts refl f, end_no_word w.KwElse w.KwIf ts refl f) f

    pub ended_if_block : (at : Span) (condition : Expr) → Ended (reading.if_block (suc deep) inner room at condition level line) (grammar.if_block (suc deep) Inner at condition level line) (coming closes)
    unfolding reading.if_block
    ended_if_block at condition = ended_then (ended_branch at condition)
        (λ one. ended_after (one ∷ []) _ (ended_branches one)
        (λ more. ended_then ended_any_else (λ other. ended_made (λ end. s.If at (one ∷ more) other end) (always_ended (coming closes) (end_exact w.KwIf))) (λ other ts b rest t d. end_seen w.KwIf ts t.given t.between t.front))
        (λ more ts b rest t d. else_by ts t.given t.between t.front (end_seen w.KwIf t.between t.back.given t.back.between t.back.front)))
        (λ one ts b rest t d. many_starts (sees_word w.KwElseIf) (λ at. reading.else_if (suc deep) inner room at level line) (λ at. Then (expression (suc deep)) (λ condition. Then (word w.KwThen) (λ u. Then (sep line) (λ v. grammar.branch (suc deep) Inner at condition level line))))
        in_branches behind_branches (λ us is. rw is refl) (λ us e. no_first (sees_word w.KwElseIf us) (in_branches us) e) ts t.given t.between t.front
        (else_by t.between t.back.given t.back.between t.back.front (end_seen w.KwIf t.back.between t.back.back.given t.back.back.between t.back.back.front)))

  no_if_line : (line : InLine) (at : Span) (condition : Expr) (level : Level) (ts : List Token) (x : Stmt) (rest : List Token) → grammar.if_line (suc deep) Inner line at condition level ts x rest → coming closes rest ≡ true → (other : InLine) → sees_sep other ts ≡ false
  no_if_line lines.Free at condition level ts x rest t f other = series_opens level at condition ts x rest t f other
  no_if_line lines.Series at condition level ts x rest t f other = series_opens level at condition ts x rest t f other
  no_if_line lines.Inner at condition level ts x rest t f other = absurd t

  ended_if_line : (line : InLine) (at : Span) (condition : Expr) (level : Level) → Ended (reading.if_by (suc deep) inner room line at condition level) (grammar.if_line (suc deep) Inner line at condition level) (coming closes)
  ended_if_line lines.Free at condition level = ended_if_series level at condition
  ended_if_line lines.Series at condition level = ended_if_series level at condition
  ended_if_line lines.Inner at condition level = record { sound = λ ts. tt; finds = λ ts x rest t d. absurd t; within = λ ts x rest t. absurd t }

  pub exact_if_behind : (at : Span) (condition : Expr) (level : Level) (line : InLine) → Exact (reading.if_behind (suc deep) inner room at condition level line)
      (either (Then (sep line) (λ (u : Unit {0}). grammar.if_block (suc deep) Inner at condition (level_within level) (line_within line))) (grammar.if_line (suc deep) Inner line at condition (level_within level))) closes
  unfolding reading.if_behind
  exact_if_behind at condition level line = exact_behind (sees_sep line) (as_exact (ended_if_block (level_within level) (line_within line) at condition)) (as_exact (ended_if_line line at condition (level_within level)))
      (λ ts x rest t f. no_if_line line at condition (level_within level) ts x rest t f line)

  pub exact_if : (at : Span) (level : Level) (line : InLine) → Exact (reading.if_ (suc deep) inner room at level line) (grammar.if_ (suc deep) Inner at level line) closes
  unfolding reading.if_ reading.if_behind
  exact_if at level line = exact_taking (exact_then (exact_whole deep) (λ condition. exact_then (exact_word w.KwThen)
      (λ u. exact_behind (sees_sep line) (as_exact (ended_if_block (level_within level) (line_within line) at condition)) (as_exact (ended_if_line line at condition (level_within level)))
      (λ ts x rest t f. no_if_line line at condition (level_within level) ts x rest t f line))
      (λ u ts b rest t f. refl))
      (λ condition ts b rest t f. ap ends_expression (next_word w.KwThen ts t.front.0)))

  -- ---- loops

  sep_expression : (line : InLine) (ts : List Token) → sees_sep line ts ≡ true → ends_expression (next_kind ts) ≡ true
  sep_expression line ts is = closes_expression (next_kind ts) (sep_closes line ts is)

  pub exact_while : (at : Span) (level : Level) (line : InLine) → Exact (reading.while_ (suc deep) inner room at level line) (grammar.while_ (suc deep) Inner at level line) closes
  unfolding reading.while_
  exact_while at level line = exact_taking (exact_then (exact_whole deep) (λ condition. exact_then (exact_sep line)
      (λ u. as_exact (ended_loop level line closers.Wend w.KwWend (λ ts. refl) (λ b. pure (s.While at condition b)) (λ b. ended_gives (s.While at condition b) (coming closes))))
      (λ u ts b rest t f. refl))
      (λ condition ts b rest t f. sep_expression line ts t.front.0))

  pub exact_do : (at : Span) (level : Level) (line : InLine) → Exact (reading.do_ (suc deep) inner room at level line) (grammar.do_ (suc deep) Inner at level line) closes
  unfolding reading.do_
  exact_do at level line = exact_taking (exact_then (exact_any_test deep) (λ one. exact_then (exact_sep line)
      (λ u. as_exact (ended_loop level line closers.Loop w.KwLoop (λ ts. refl) _ (λ b. as_ended (exact_made (λ other. s.Do at one b other) (exact_last_test deep one)))))
      (λ u ts b rest t f. refl))
      (λ one ts b rest t f. sep_closes line ts t.front.0))

  exact_for_head : Exact (reading.for_head (suc deep) inner room) (grammar.for_head (suc deep)) closes
  unfolding reading.for_head
  exact_for_head = exact_then exact_name (λ n. exact_then (any_type_exact equals (under_equals no_pointer refl) refl) (λ t. exact_then (exact_mark Equal) (λ u. exact_made (λ values. (n, t, values)) (exact_range deep inner room))
      (λ u ts b rest t f. refl))
      (λ t. starts_mark Equal _ closes equals refl))
      (λ n ts b rest t f. refl)

  exact_for_tail : (level : Level) (line : InLine) → Exact (reading.for_tail (suc deep) inner room level line) (grammar.for_tail (suc deep) Inner level line) closes
  unfolding reading.for_tail
  exact_for_tail level line = exact_then (exact_sep line)
      (λ v. as_exact (ended_loop level line closers.Next w.KwNext (λ ts. refl) _ (λ b. as_ended (exact_made (λ again. (b, again)) exact_any_name))))
      (λ v ts b rest t f. refl)

  pub exact_for : (at : Span) (level : Level) (line : InLine) → Exact (reading.for_ (suc deep) inner room at level line) (grammar.for_ (suc deep) Inner at level line) closes
  unfolding reading.for_
  exact_for at level line = exact_taking (exact_then exact_for_head (λ head. exact_made (λ tail. s.For at head.0 head.1 head.2.0 head.2.1 head.2.2 tail.0 tail.1) (exact_for_tail level line))
      (λ head ts b rest t f. sep_closes line ts t.front.front.0))

  -- ---- Select and Scope

  module _ (level : Level) (line : InLine) where
    abbrev pub in_cases : List Token → Bool
    in_cases = closed closers.Cases

    abbrev pub behind_cases : List Token → Bool
    behind_cases ts = if sees_word w.KwCase ts then false else in_cases ts

    abbrev pub Behind_Case : Span → Phrase CaseBranch
    Behind_Case at = Then (grammar.all_cases (suc deep)) (λ all. Then (sep line) (λ u. Then (grammar.body (suc deep) Inner level line) (λ b. gives (roll-CaseBranch (record { at = at; cases = all; body = b })))))

    pub ended_case : (at : Span) → Ended (reading.case_branch (suc deep) inner room at level line) (Behind_Case at) in_cases
    unfolding reading.case_branch
    ended_case at = ended_then (as_ended (exact_cases deep)) (λ all. ended_then (as_ended (exact_sep line)) (λ u. ended_made (λ b. roll-CaseBranch (record { at = at; cases = all; body = b })) (ended_body deep inner room Inner inside level line closers.Cases))
        (λ u ts b rest t d. refl)) (λ all ts b rest t d. sep_closes line ts t.front.0)

    pub ended_cases : Ended (reading.case_branches (suc deep) inner room level line) (AllRead (sees_word w.KwCase) (λ at. reading.case_branch (suc deep) inner room at level line) Behind_Case []) behind_cases
    unfolding reading.case_branches reading.select_turn
    ended_cases = ended_many (sees_word w.KwCase) (λ at. reading.case_branch (suc deep) inner room at level line) Behind_Case in_cases behind_cases ended_case
        (λ ts is. rw is refl) (λ ts d. no_first (sees_word w.KwCase ts) (in_cases ts) d) (λ ts d. not_first (sees_word w.KwCase ts) (in_cases ts) d) (word_less w.KwCase) []

    end_behind_cases : (ts : List Token) → sees_end w.KwSelect ts ≡ true → behind_cases ts ≡ true
    end_behind_cases ts e = rw (end_no_word w.KwCase w.KwSelect ts refl e) e

    pub exact_select : (at : Span) → Exact (reading.select (suc deep) inner room at level line) (grammar.select (suc deep) Inner at level line) closes
    unfolding reading.select
    exact_select at = exact_taking (exact_then (exact_word w.KwCase) (λ u. exact_then (exact_whole deep) (λ x. exact_then (exact_sep line)
        (λ v. as_exact (ended_after [] _ ended_cases (λ all. ended_made (λ end. s.Select at x all end) (always_ended (coming closes) (end_exact w.KwSelect)))
        (λ all ts b rest t d. end_behind_cases ts (end_seen w.KwSelect ts t.given t.between t.front))))
        (λ v ts b rest t f. refl))
        (λ x ts b rest t f. sep_expression line ts t.front.0))
        (λ u ts b rest t f. refl))

    pub exact_scope : (at : Span) → Exact (reading.scope (suc deep) inner room at level line) (grammar.scope (suc deep) Inner at level line) closes
    unfolding reading.scope
    exact_scope at = exact_taking (exact_then (exact_sep line)
        (λ u. as_exact (ended_then (ended_body deep inner room Inner inside level line closers.Scope)
        (λ b. ended_then (always_ended (λ ts. true) (end_exact w.KwScope)) (λ v. ended_gives (s.Scope at b) (coming closes)) (λ v ts y rest t d. refl))
        (λ b ts y rest t d. end_seen w.KwScope ts t.given t.between t.front)))
        (λ u ts b rest t f. refl))
