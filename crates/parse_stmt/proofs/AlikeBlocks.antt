-- Two readings of blocks, of tokens that are alike up to a place, the second perhaps at a greater depth.
use Rattle.std.proofs.Common.{◌≡◌, ℕ, suc, ◌+◌, ◌==◌, Bool, true, false, if◌then◌else◌, List, [], ◌∷◌, ◌++◌, length, Option, Some, None, Ok, Err, refl, sym, ap, ◌∙◌, subst, ◌⊎◌, inl, inr, arith}
use Rattle.fb_base.specs.declared.fault.Span.{Span}
use Rattle.fb_base.specs.declared.fault.FaultKind.{FaultKind}
use Rattle.fb_base.specs.declared.fault.FaultKind.TheVariants.{Expected, ExtraText, OutOfProfile, DeepNesting}
use Rattle.fb_lexer.specs.declared.token.Token.{Token}
use Rattle.fb_lexer.specs.declared.token.TokenKind.{TokenKind}
use Rattle.fb_lexer.specs.declared.token.TokenKind.TheVariants as kinds
use Rattle.fb_lexer.specs.declared.word.Word.TheVariants as w
use Rattle.fb_ast.specs.declared.stmt.Block.{Block, roll-Block}
use Rattle.fb_ast.specs.declared.stmt.Stmt.{Stmt}
use Rattle.fb_ast.specs.declared.stmt.Stmt.TheVariants as k
use Rattle.parse_expr.specs.declared.error.ReadErr.{ReadErr}
use Rattle.parse_expr.specs.declared.error.ReadErr.TheVariants as read_errs
use Rattle.parse_expr.specs.Reading.{first, next, is_word, same_word, sees_word, refusal, refusal_by, Outcome, Reader, and_then, pure}
use Rattle.parse_expr.specs.Expr.{place_or, begins}
use Rattle.parse_expr.proofs.Sound.{Done, bind, by_test}
use Rattle.parse_expr.proofs.Ends.{Suffixes, same_end, Leaves}
use Rattle.parse_expr.proofs.Refused.{nowhere, refusals}
use Rattle.parse_expr.proofs.Twins.{Rooms, here, there, Gone, Near, gone_then}
use Rattle.parse_parts.specs.declared.kinds.Level.{Level}
use Rattle.parse_parts.specs.declared.kinds.InLine.{InLine}
use Rattle.parse_parts.specs.declared.kinds.Spot.{Spot}
use Rattle.parse_parts.specs.declared.kinds.Closer.{Closer}
use Rattle.parse_parts.specs.declared.kinds.Closer.TheVariants as closers
use Rattle.parse_parts.specs.Words.{ends_with_end, is_sep}
use Rattle.parse_parts.specs.Steps.{place_at, origin, kind_or, astray, extra, sees_sep, sep, pass_by, no_value, sees_value, any_value, all_of}
use Rattle.parse_parts.specs.Simple.{end_}
use Rattle.parse_stmt.specs.Blocks.{closed, behind_end, deep_end, end_is_deep, block_stmt, ended, block_turn, block, body}
use Rattle.parse_stmt.specs.Phrases.{Phrase}
use Rattle.parse_stmt.proofs.Smallest.{word_is}
use Rattle.parse_stmt.proofs.Bodies.{Inside}
use Rattle.parse_stmt.proofs.Odd.{Ends, Refused, Ended, Stand}
use Rattle.parse_stmt.proofs.Alike.{repeat_done, at_place, Both, T, Eats, SameNext, Over, next_same, first_same, followed, given, took, behind, stopped, ended_gone, twin_sep}
use Rattle.parse_stmt.proofs.AlikeParts.{exact_leaves, any_done}
use Rattle.parse_stmt.proofs.AlikeEnds.{AtEnd, NearOrStays, E, Rests, Closes, closing, stays_test, stays_all, stays_where, closed_two, closed_is, closed_second, end_unclosed, no_end_two, one_decides, zero_guards, plain_by, value_too, sep_too, end_no_sep, shortens_block}

module _ (L : FaultKind → Type 0) (t : Token) (s v : List Token) (stand : Stand L t v) (deep deeper : ℕ) (rooms : Rooms L (suc deep) (suc deeper)) where
  -- What is asked of the statements inside: two readings of them, the second perhaps at a greater depth, but not where an
  -- end stands at the place. Each takes an End, if it is deep enough for any statement.
  pub record Inner (inner inner' : Spot → Reader Stmt) (room room' : ℕ) : Type 1 where
    pub Phrases : Level → InLine → Phrase Stmt
    pub OtherPhrases : Level → InLine → Phrase Stmt
    pub inside : Inside inner room Phrases
    pub other_inside : Inside inner' room' OtherPhrases
    pub twin : (spot : Spot) → E L t s v stand (Rests L t s v stand) (inner spot) (inner' spot)
    pub odd_gone : (spot : Spot) (u : Token) → Refused L t u ⊎ Ends L × (spot.other ≡ ExtraText) → Gone L t s v (at_place L t s v stand) (inner spot (t ∷ s))
    pub deeper_by : Rooms L room room'
    pub even : (u : Token) → Ended L u → room ≡ room'
    pub takes_end : (spot : Spot) → (room == 0) ≡ false → AtEnd L t s v stand → Gone L t s v (at_place L t s v stand) (inner spot (t ∷ s))
    pub end_is : (spot : Spot) (us : List Token) → (room' == 0) ≡ false → sees_word w.KwEnd us ≡ true → inner' spot us ≡ end_ (suc deeper) (place_at us) us

  -- a word that this profile doesn't have, where a statement may begin
  pub astray_gone : (A : Type 0) (kind : FaultKind) (u : Token) → Refused L t u → Gone L t s v (at_place L t s v stand) {A = A} (Err (read_errs.Fault (astray kind (t ∷ s)), t ∷ s))
  unfolding astray refusal first
  astray_gone A kind u r = rw (nowhere t.kind r.word).refusal (inr r.out)

  extra_by : (A : Type 0) (kind : FaultKind) → Ends L → Gone L t s v (at_place L t s v stand) {A = A} (Err (read_errs.Fault (kind_or ExtraText kind), t ∷ s))
  extra_by A OutOfProfile ends = inr ends.out
  extra_by A kind ends = inr ends.extra

  -- what isn't a statement, where an end would do
  pub extra_astray : (A : Type 0) (kind : FaultKind) → Ends L → kind ≡ ExtraText → Gone L t s v (at_place L t s v stand) {A = A} (Err (read_errs.Fault (astray kind (t ∷ s)), t ∷ s))
  unfolding astray first
  extra_astray A kind ends is = rw is (extra_by A (refusal (t ∷ s)) ends)

  module _ (inner inner' : Spot → Reader Stmt) (room room' : ℕ) (i : Inner inner inner' room room') where
    pub inner_leaves : (spot : Spot) (ts : List Token) → Done (λ (x : Stmt) rest. Suffixes rest ts) (inner spot ts)
    inner_leaves spot ts = exact_leaves (i.inside.exact spot.level spot.line spot.other) ts

    pub other_leaves : (spot : Spot) (ts : List Token) → Done (λ (x : Stmt) rest. Suffixes rest ts) (inner' spot ts)
    other_leaves spot ts = exact_leaves (i.other_inside.exact spot.level spot.line spot.other) ts

    -- ---- a statement and its end

    twin_ended : (line : InLine) (found : List Stmt) (x : Stmt) → T L t s v stand (ended (suc deep) inner room line found x) (ended (suc deeper) inner' room' line found x)
    unfolding ended
    twin_ended line found x = followed L t s v stand (twin_sep L t s v stand line) (λ u. given L t s v stand (found ++ x ∷ [], true))

    rested_gone : (line : InLine) (found : List Stmt) (x : Stmt) (rest : List Token) → Ends L × (rest ≡ t ∷ s) → Gone L t s v (at_place L t s v stand) (ended (suc deep) inner room line found x rest)
    unfolding ended
    rested_gone line found x rest d =
        subst (λ (ts : List Token). Gone L t s v (at_place L t s v stand) {A = List Stmt × Bool} (and_then (sep line ts) (λ u. pure (found ++ x ∷ [], true)))) (sym d.1)
        (gone_then L t s v (at_place L t s v stand) (sep line (t ∷ s)) (λ u. pure (found ++ x ∷ [], true)) (ended_gone L t s v stand line d.0) (λ u r. same_end r))

    stmt_ended : (spot : Spot) (line : InLine) (found : List Stmt) → T L t s v stand (λ ts. and_then (inner spot ts) (ended (suc deep) inner room line found)) (λ ts. and_then (inner' spot ts) (ended (suc deeper) inner' room' line found))
    stmt_ended spot line found = closing L t s v stand (Rests L t s v stand) (i.twin spot) (λ x. twin_ended line found x) (λ x rest d. rested_gone line found x rest d)

    abbrev after_end : ℕ → InLine → List Stmt → Span → Reader (List Stmt × Bool)
    after_end most line found at = λ us. and_then (and_then (any_value most us) (λ y. pure (k.End at y))) (ended most inner' room' line found)

    abbrev deep_after : InLine → List Stmt → Reader (List Stmt × Bool)
    deep_after line found = λ ts. and_then (Err (read_errs.Fault (behind_end line ts), ts)) (ended (suc deep) inner room line found)

    begins_plain : (x : Token) → begins 1 (Some x) ≡ true → refusal_by x.kind ≡ Expected
    begins_plain x is = plain_by x (refusals x.kind) is

    sep_plain : (line : InLine) (kind : TokenKind) → is_sep line kind ≡ true → refusal_by kind ≡ Expected
    sep_plain line kinds.Colon is = refl
    sep_plain line kinds.LineEnd is = refl
    sep_plain line kind is = cc

    value_astray : (ts : List Token) → sees_value ts ≡ true → astray DeepNesting ts ≡ DeepNesting
    unfolding sees_value astray refusal first
    value_astray [] is = cc
    value_astray (x ∷ ts) is = ap (λ (k : FaultKind). kind_or DeepNesting k) (begins_plain x is)

    sep_astray : (line : InLine) (ts : List Token) → sees_sep line ts ≡ true → astray DeepNesting ts ≡ DeepNesting
    unfolding sees_sep astray refusal first
    sep_astray line [] is = cc
    sep_astray line (x ∷ ts) is = ap (λ (k : FaultKind). kind_or DeepNesting k) (sep_plain line x.kind is)

    passed_near : (line : InLine) (found : List Stmt) (at : Span) (stop_here : ReadErr) (kind : FaultKind) (ts us : List Token) → Both L t s v stand ts us → sees_sep line us ≡ false
        → Near L t s v (at_place L t s v stand) {A = List Stmt × Bool} (Err (stop_here, ts)) (and_then (and_then (and_then (pass_by kind us) (λ u. pure None)) (λ y. pure (k.End at y))) (ended (suc deeper) inner' room' line found))
    unfolding ended sep
    passed_near line found at stop_here OutOfProfile ts us al none = inr (read_errs.Fault OutOfProfile, us, refl, al)
    passed_near line found at stop_here kind ts us al none = rw none (inr (read_errs.Fault (extra us), us, refl, al))

    behind_near : (line : InLine) (found : List Stmt) (at : Span) (ts us : List Token) → L DeepNesting → Both L t s v stand ts us → first us ≡ first ts → (b c : Bool) → sees_value ts ≡ b → sees_sep line ts ≡ c
        → Near L t s v (at_place L t s v stand) (deep_after line found ts) (after_end (suc deeper) line found at us)
    unfolding behind_end any_value no_value
    behind_near line found at ts us loose al f true c p q = rw p (rw (value_astray ts p) (inl (inr loose)))
    behind_near line found at ts us loose al f false true p q = rw (p, q) (rw (sep_astray line ts q) (inl (inr loose)))
    behind_near line found at ts us loose al f false false p q =
        let no_value_there : sees_value us ≡ false = value_too us ts f ∙ p in
        let no_sep_there : sees_sep line us ≡ false = sep_too line us ts f ∙ q in
        rw (p, q, no_value_there) (passed_near line found at (read_errs.Fault (astray Expected ts)) (refusal us) ts us al no_sep_there)

    -- no end stands at the place
    abbrev NoneEnded : Type 0
    NoneEnded = (u : Token) → Ended L u → ⊥

    behind_odd : (line : InLine) (found : List Stmt) (other : Outcome (List Stmt × Bool)) → NoneEnded → (u : Token) → Refused L t u ⊎ Ended L u → Near L t s v (at_place L t s v stand) (deep_after line found (t ∷ s)) other
    unfolding behind_end
    behind_odd line found other never u (inl r) = inl (astray_gone (List Stmt × Bool) (if sees_value (t ∷ s) then DeepNesting else if sees_sep line (t ∷ s) then DeepNesting else Expected) u r)
    behind_odd line found other never u (inr e) = absurd (never u e)

    behind_by : (line : InLine) (found : List Stmt) (at : Span) → NoneEnded → Stand L t v → L DeepNesting → (ts us : List Token) → Both L t s v stand ts us → Near L t s v (at_place L t s v stand) (deep_after line found ts) (after_end (suc deeper) line found at us)
    unfolding first
    behind_by line found at never (inl same) loose ts us al = behind_near line found at ts us loose al (first_same L t s v stand same ts us al) (sees_value ts) (sees_sep line ts) refl refl
    behind_by line found at never (inr odd) loose ts us here = behind_odd line found (after_end (suc deeper) line found at v) never odd.u odd.why
    behind_by line found at never (inr odd) loose ts us (there x a b al) = behind_near line found at (x ∷ a) (x ∷ b) loose (there x a b al) refl (sees_value (x ∷ a)) (sees_sep line (x ∷ a)) refl refl

    deep_or_end : (line : InLine) (found : List Stmt) (at : Span) → NoneEnded → L DeepNesting → T L t s v stand (deep_after line found) (after_end (suc deeper) line found at)
    deep_or_end line found at never loose = record { leaves = λ ts. same_end ts; near = behind_by line found at never stand loose }

    twin_deep_end : (line : InLine) → Eats L t s v stand (deep_end line) (deep_end line)
    unfolding deep_end
    twin_deep_end line = behind L t s v stand (stopped L t s v stand (λ ts. read_errs.Fault (behind_end line ts)) (λ ts. read_errs.Fault (behind_end line ts)))

    end_too : (ts us : List Token) → NoneEnded → SameNext L t s v stand ts us ⊎ Over L t s v stand ts us → sees_word w.KwEnd us ≡ sees_word w.KwEnd ts
    unfolding sees_word
    end_too ts us never (inl n) = n.word w.KwEnd refl refl
    end_too ts us never (inr o) = absurd (never o.u o.ended)

    end_near : (spot : Spot) (line : InLine) (found : List Stmt) → NoneEnded → L DeepNesting → (room' == 0) ≡ false → (ts us : List Token) → Both L t s v stand ts us → (b : Bool) → sees_word w.KwEnd ts ≡ b
        → Near L t s v (at_place L t s v stand) (and_then (if b then deep_end line ts else inner spot ts) (ended (suc deep) inner room line found)) (and_then (inner' spot us) (ended (suc deeper) inner' room' line found))
    unfolding deep_end end_
    end_near spot line found never loose some ts us al true is =
        rw (i.end_is spot us some (end_too ts us never (next_same L t s v stand ts us al) ∙ is)) ((behind L t s v stand (deep_or_end line found (place_at us) never loose)).twin.near ts us al)
    end_near spot line found never loose some ts us al false is = (stmt_ended spot line found).near ts us al

    stmt_leaves : (spot : Spot) (line : InLine) (found : List Stmt) (b : Bool) (ts : List Token) → Leaves ts (and_then (if b then deep_end line ts else inner spot ts) (ended (suc deep) inner room line found))
    stmt_leaves spot line found true ts = (followed L t s v stand (twin_deep_end line).twin (λ x. twin_ended line found x)).leaves ts
    stmt_leaves spot line found false ts = (stmt_ended spot line found).leaves ts

    never_by : (a b : Bool) → (room == 0) ≡ a → (room' == 0) ≡ b → a ≡ true → b ≡ false → NoneEnded
    never_by a b one other is apart u e = let both : true ≡ false = sym is ∙ sym one ∙ ap (λ (n : ℕ). n == 0) (i.even u e) ∙ other ∙ apart in cc

    -- a statement and its end, by whether one may be deep enough, and whether End ends the block
    stmt_both : (spot : Spot) (line : InLine) (closer : Closer) (found : List Stmt) (b c e : Bool) → (b ≡ c) ⊎ (L DeepNesting × (b ≡ false → c ≡ false)) → (room == 0) ≡ b → (room' == 0) ≡ c → ends_with_end closer ≡ e
        → T L t s v stand (λ ts. and_then (if (if b then (if e then sees_word w.KwEnd ts else false) else false) then deep_end line ts else inner spot ts) (ended (suc deep) inner room line found))
        (λ ts. and_then (if (if c then (if e then sees_word w.KwEnd ts else false) else false) then deep_end line ts else inner' spot ts) (ended (suc deeper) inner' room' line found))
    stmt_both spot line closer found false false e guards none some is = stmt_ended spot line found
    stmt_both spot line closer found true true true guards none some is =
        closing L t s v stand (Rests L t s v stand) (stays_test L t s v stand (Rests L t s v stand) w.KwEnd refl (twin_deep_end line) (i.twin spot)) (λ x. twin_ended line found x) (λ x rest d. rested_gone line found x rest d)
    stmt_both spot line closer found true true false guards none some is = stmt_ended spot line found
    stmt_both spot line closer found true false true (inl bad) none some is = cc
    stmt_both spot line closer found true false true (inr deep_one) none some is =
        record { leaves = λ ts. stmt_leaves spot line found (sees_word w.KwEnd ts) ts; near = λ ts us al. end_near spot line found (never_by true false none some refl refl) deep_one.0 some ts us al (sees_word w.KwEnd ts) refl }
    stmt_both spot line closer found true false false guards none some is = stmt_ended spot line found
    stmt_both spot line closer found false true e (inl bad) none some is = cc
    stmt_both spot line closer found false true e (inr deep_one) none some is = let bad : true ≡ false = deep_one.1 refl in cc

    abbrev block_spot : Level → InLine → Spot
    block_spot level line = record { level = level; line = line; other = ExtraText }

    twin_block_stmt : (level : Level) (line : InLine) (closer : Closer) (found : List Stmt)
        → T L t s v stand (λ ts. and_then (block_stmt (suc deep) inner room level line closer ts) (ended (suc deep) inner room line found)) (λ ts. and_then (block_stmt (suc deeper) inner' room' level line closer ts) (ended (suc deeper) inner' room' line found))
    unfolding block_stmt end_is_deep
    twin_block_stmt level line closer found = stmt_both (block_spot level line) line closer found (room == 0) (room' == 0) (ends_with_end closer) (zero_guards L room room' i.deeper_by) refl refl refl

    end_taken : (level : Level) (line : InLine) (closer : Closer) → ends_with_end closer ≡ true → AtEnd L t s v stand → (b : Bool) → (room == 0) ≡ b → Gone L t s v (at_place L t s v stand) (block_stmt (suc deep) inner room level line closer (t ∷ s))
    unfolding block_stmt end_is_deep deep_end sees_word first next
    end_taken level line closer ends end true is = rw (is, ends, end) (inl (omega arith))
    end_taken level line closer ends end false is = rw is (i.takes_end (block_spot level line) is end)

    block_end : (level : Level) (line : InLine) (closer : Closer) (found : List Stmt) → ends_with_end closer ≡ true → AtEnd L t s v stand
        → Gone L t s v (at_place L t s v stand) (and_then (block_stmt (suc deep) inner room level line closer (t ∷ s)) (ended (suc deep) inner room line found))
    block_end level line closer found ends end =
        gone_then L t s v (at_place L t s v stand) (block_stmt (suc deep) inner room level line closer (t ∷ s)) (ended (suc deep) inner room line found) (end_taken level line closer ends end (room == 0) refl) (λ x rest. (twin_ended line found x).leaves rest)

    odd_taken : (level : Level) (line : InLine) (closer : Closer) (u : Token) → Refused L t u ⊎ Ended L u → (b : Bool) → end_is_deep (suc deep) inner room closer (t ∷ s) ≡ b → Gone L t s v (at_place L t s v stand) (block_stmt (suc deep) inner room level line closer (t ∷ s))
    unfolding block_stmt deep_end next
    odd_taken level line closer u why true is = rw is (inl (omega arith))
    odd_taken level line closer u (inl r) false is = rw is (i.odd_gone (block_spot level line) u (inl r))
    odd_taken level line closer u (inr e) false is = rw is (i.odd_gone (block_spot level line) u (inr (e.ends, refl)))

    block_odd : (level : Level) (line : InLine) (closer : Closer) (found : List Stmt) (u : Token) → Refused L t u ⊎ Ended L u
        → Gone L t s v (at_place L t s v stand) (and_then (block_stmt (suc deep) inner room level line closer (t ∷ s)) (ended (suc deep) inner room line found))
    block_odd level line closer found u why =
        gone_then L t s v (at_place L t s v stand) (block_stmt (suc deep) inner room level line closer (t ∷ s)) (ended (suc deep) inner room line found) (odd_taken level line closer u why (end_is_deep (suc deep) inner room closer (t ∷ s)) refl) (λ x rest. (twin_ended line found x).leaves rest)

    -- ---- a turn of a block by what comes next

    abbrev turn_tests : Reader (List Stmt × Bool) → List Stmt → Bool → Bool → Reader (List Stmt × Bool)
    turn_tests p found b c = λ ts. if b then Ok ((found, true), next ts) else if c then Ok ((found, false), ts) else p ts

    same_tests : (p q : Reader (List Stmt × Bool)) → T L t s v stand p q → (found : List Stmt) (b c : Bool) → T L t s v stand (turn_tests p found b c) (turn_tests q found b c)
    same_tests p q h found true c = (took L t s v stand (found, true)).twin
    same_tests p q h found false true = given L t s v stand (found, false)
    same_tests p q h found false false = h

    abbrev stmts_turn : (Spot → Reader Stmt) → ℕ → ℕ → Level → InLine → Closer → List Stmt → Reader (List Stmt × Bool)
    stmts_turn reader most depth level line closer found = λ ts. and_then (block_stmt most reader depth level line closer ts) (ended most reader depth line found)

    turn_near : (level : Level) (line : InLine) (closer : Closer) (found : List Stmt) (ts us : List Token) → Both L t s v stand ts us → sees_sep line us ≡ sees_sep line ts → closed closer us ≡ closed closer ts
        → Near L t s v (at_place L t s v stand) (block_turn (suc deep) inner room level line closer found ts) (block_turn (suc deeper) inner' room' level line closer found us)
    unfolding block_turn
    turn_near level line closer found ts us al p q =
        rw (p, q) ((same_tests (stmts_turn inner (suc deep) room level line closer found) (stmts_turn inner' (suc deeper) room' level line closer found) (twin_block_stmt level line closer found) found (sees_sep line ts) (closed closer ts)).near ts us al)

    -- the last turn of a block
    abbrev LastTurn : Closer → List Stmt × Bool → List Token → Type 0
    LastTurn closer p rest = (p.1 ≡ false) × Closes L t s v stand closer p.0 rest

    -- at the place: an end is taken, a closed block ends, and other tokens begin a statement
    here_by : (level : Level) (line : InLine) (closer : Closer) (found : List Stmt) (other : Outcome (List Stmt × Bool)) (b c : Bool) → sees_sep line (t ∷ s) ≡ b → closed closer (t ∷ s) ≡ c
        → (b ≡ false → c ≡ false → Near L t s v (at_place L t s v stand) (block_turn (suc deep) inner room level line closer found (t ∷ s)) other)
        → NearOrStays L t s v stand (LastTurn closer) (block_turn (suc deep) inner room level line closer found (t ∷ s)) other
    unfolding block_turn next
    here_by level line closer found other true c p q k = rw p (inl (inl (omega arith)))
    here_by level line closer found other false true p q k = rw (p, q) (inr (refl, (inl refl, q)))
    here_by level line closer found other false false p q k = inl (k refl refl)

    stmt_gone : (level : Level) (line : InLine) (closer : Closer) (found : List Stmt) → sees_sep line (t ∷ s) ≡ false → closed closer (t ∷ s) ≡ false
        → Gone L t s v (at_place L t s v stand) (and_then (block_stmt (suc deep) inner room level line closer (t ∷ s)) (ended (suc deep) inner room line found)) → Gone L t s v (at_place L t s v stand) (block_turn (suc deep) inner room level line closer found (t ∷ s))
    unfolding block_turn
    stmt_gone level line closer found p q gone = rw (p, q) gone

    closed_there : (closer : Closer) (x : Token) (a b : List Token) → closed_two L t s v stand closer (Some x) (first b) ≡ closed_two L t s v stand closer (Some x) (first a) → closed closer (x ∷ b) ≡ closed closer (x ∷ a)
    unfolding first next
    closed_there closer x a b is = closed_is L t s v stand closer (x ∷ b) ∙ is ∙ sym (closed_is L t s v stand closer (x ∷ a))

    closed_same : (closer : Closer) → first v ≡ Some t → closed_two L t s v stand closer (Some t) (first (next v)) ≡ closed_two L t s v stand closer (Some t) (first s) → closed closer v ≡ closed closer (t ∷ s)
    unfolding first next
    closed_same closer same is = closed_is L t s v stand closer v ∙ ap (λ (o : Option Token). closed_two L t s v stand closer o (first (next v))) same ∙ is ∙ sym (closed_is L t s v stand closer (t ∷ s))

    sep_same : (line : InLine) → first v ≡ Some t → sees_sep line v ≡ sees_sep line (t ∷ s)
    sep_same line same = sep_too line v (t ∷ s) (first_same L t s v stand same (t ∷ s) v here)

    same_here : (level : Level) (line : InLine) (closer : Closer) (found : List Stmt) → first v ≡ Some t → (e f : Bool) → is_word w.KwEnd t.kind ≡ e → ends_with_end closer ≡ f → sees_sep line (t ∷ s) ≡ false → closed closer (t ∷ s) ≡ false
        → Near L t s v (at_place L t s v stand) (block_turn (suc deep) inner room level line closer found (t ∷ s)) (block_turn (suc deeper) inner' room' level line closer found v)
    same_here level line closer found same true true is ends p q = inl (stmt_gone level line closer found p q (block_end level line closer found ends is))
    same_here level line closer found same true false is ends p q = turn_near level line closer found (t ∷ s) v here (sep_same line same) (closed_same closer same (one_decides L t s v stand closer (Some t) (first (next v)) (first s) ends))
    same_here level line closer found same false f is ends p q = turn_near level line closer found (t ∷ s) v here (sep_same line same) (closed_same closer same (no_end_two L t s v stand closer (Some t) (first (next v)) (first s) is))

    at_here : (level : Level) (line : InLine) (closer : Closer) (found : List Stmt) → Stand L t v → NearOrStays L t s v stand (LastTurn closer) (block_turn (suc deep) inner room level line closer found (t ∷ s)) (block_turn (suc deeper) inner' room' level line closer found v)
    at_here level line closer found (inl same) =
        here_by level line closer found (block_turn (suc deeper) inner' room' level line closer found v) (sees_sep line (t ∷ s)) (closed closer (t ∷ s)) refl refl (λ p q. same_here level line closer found same (is_word w.KwEnd t.kind) (ends_with_end closer) refl refl p q)
    at_here level line closer found (inr odd) =
        here_by level line closer found (block_turn (suc deeper) inner' room' level line closer found v) (sees_sep line (t ∷ s)) (closed closer (t ∷ s)) refl refl (λ p q. inl (stmt_gone level line closer found p q (block_odd level line closer found odd.u odd.why)))

    sep_there : (line : InLine) (x : Token) (a b : List Token) → sees_sep line (x ∷ b) ≡ sees_sep line (x ∷ a)
    unfolding sees_sep first
    sep_there line x a b = refl

    -- an End right before the place, where the second list has an end of a statement there
    end_open : (line : InLine) (x : Token) (a : List Token) → is_word w.KwEnd x.kind ≡ true → sees_sep line (x ∷ a) ≡ false
    unfolding sees_sep first
    end_open line x a is = end_no_sep line x.kind is

    closed_over : (closer : Closer) (x u : Token) → first v ≡ Some u → Ended L u → is_word w.KwEnd x.kind ≡ true → closed closer (x ∷ v) ≡ false
    unfolding first next
    closed_over closer x u its e is = closed_is L t s v stand closer (x ∷ v) ∙ ap (closed_two L t s v stand closer (Some x)) its ∙ end_unclosed L t s v stand closer x u is e.end

    stays_end : (level : Level) (line : InLine) (closer : Closer) (found : List Stmt) (x : Token) (other : Outcome (List Stmt × Bool)) → is_word w.KwEnd x.kind ≡ true → closed closer (x ∷ (t ∷ s)) ≡ true
        → NearOrStays L t s v stand (LastTurn closer) (block_turn (suc deep) inner room level line closer found (x ∷ (t ∷ s))) other
    unfolding block_turn
    stays_end level line closer found x other is q = rw (end_open line x (t ∷ s) is, q) (inr (refl, (inr (x, refl, is), q)))

    over_there : (level : Level) (line : InLine) (closer : Closer) (found : List Stmt) (x u : Token) → first v ≡ Some u → Ended L u → (e c : Bool) → is_word w.KwEnd x.kind ≡ e → closed closer (x ∷ (t ∷ s)) ≡ c
        → NearOrStays L t s v stand (LastTurn closer) (block_turn (suc deep) inner room level line closer found (x ∷ (t ∷ s))) (block_turn (suc deeper) inner' room' level line closer found (x ∷ v))
    over_there level line closer found x u its ended_there true true is q = stays_end level line closer found x (block_turn (suc deeper) inner' room' level line closer found (x ∷ v)) is q
    over_there level line closer found x u its ended_there true false is q = inl (turn_near level line closer found (x ∷ (t ∷ s)) (x ∷ v) (there x (t ∷ s) v here) (sep_there line x (t ∷ s) v) (closed_over closer x u its ended_there is ∙ sym q))
    over_there level line closer found x u its ended_there false c is q = inl (turn_near level line closer found (x ∷ (t ∷ s)) (x ∷ v) (there x (t ∷ s) v here) (sep_there line x (t ∷ s) v) (closed_there closer x (t ∷ s) v (no_end_two L t s v stand closer (Some x) (first v) (first (t ∷ s)) is)))

    at_there : (level : Level) (line : InLine) (closer : Closer) (found : List Stmt) (x : Token) (a b : List Token) → Both L t s v stand a b → SameNext L t s v stand a b ⊎ Over L t s v stand a b
        → NearOrStays L t s v stand (LastTurn closer) (block_turn (suc deep) inner room level line closer found (x ∷ a)) (block_turn (suc deeper) inner' room' level line closer found (x ∷ b))
    at_there level line closer found x a b al (inl n) = inl (turn_near level line closer found (x ∷ a) (x ∷ b) (there x a b al) (sep_there line x a b) (closed_there closer x a b (closed_second L t s v stand closer (Some x) a b n)))
    at_there level line closer found x a b al (inr o) = rw (o.one, o.other) (over_there level line closer found x o.u o.is o.ended (is_word w.KwEnd x.kind) (closed closer (x ∷ (t ∷ s))) refl refl)

    block_alike : (level : Level) (line : InLine) (closer : Closer) (found : List Stmt) (ts us : List Token) → Both L t s v stand ts us
        → NearOrStays L t s v stand (LastTurn closer) (block_turn (suc deep) inner room level line closer found ts) (block_turn (suc deeper) inner' room' level line closer found us)
    block_alike level line closer found ts us here = at_here level line closer found stand
    block_alike level line closer found ts us (there x a b al) = at_there level line closer found x a b al (next_same L t s v stand a b al)

    turn_leaves_by : (level : Level) (line : InLine) (closer : Closer) (found : List Stmt) (ts : List Token) (b c : Bool) → Leaves ts (turn_tests (stmts_turn inner (suc deep) room level line closer found) found b c ts)
    turn_leaves_by level line closer found ts b c = (same_tests (stmts_turn inner (suc deep) room level line closer found) (stmts_turn inner' (suc deeper) room' level line closer found) (twin_block_stmt level line closer found) found b c).leaves ts

    block_turn_leaves : (level : Level) (line : InLine) (closer : Closer) (found : List Stmt) (ts : List Token) → Leaves ts (block_turn (suc deep) inner room level line closer found ts)
    unfolding block_turn
    block_turn_leaves level line closer found ts = turn_leaves_by level line closer found ts (sees_sep line ts) (closed closer ts)

    stays_block_turn : (level : Level) (line : InLine) (closer : Closer) (found : List Stmt) → E L t s v stand (LastTurn closer) (block_turn (suc deep) inner room level line closer found) (block_turn (suc deeper) inner' room' level line closer found)
    stays_block_turn level line closer found = record { leaves = block_turn_leaves level line closer found; near = block_alike level line closer found }

    -- ---- a block

    -- a block ends only before what closes it
    turn_closed : (level : Level) (line : InLine) (closer : Closer) (found : List Stmt) (ts : List Token) → Done (λ p rest. p.1 ≡ false → closed closer rest ≡ true) (block_turn (suc deep) inner room level line closer found ts)
    unfolding block_turn ended sep
    turn_closed level line closer found ts =
        by_test (λ (o : Outcome (List Stmt × Bool)). Done (λ p rest. p.1 ≡ false → closed closer rest ≡ true) o) (sees_sep line ts) _ _ (λ is last. let bad : true ≡ false = last in cc)
        (λ apart. by_test (λ (o : Outcome (List Stmt × Bool)). Done (λ p rest. p.1 ≡ false → closed closer rest ≡ true) o) (closed closer ts) _ _ (λ is last. is)
        (λ open_. bind (λ (x : Stmt) rest. Unit {0}) (λ p rest. p.1 ≡ false → closed closer rest ≡ true) (block_stmt (suc deep) inner room level line closer ts) (ended (suc deep) inner room line found)
        (any_done (block_stmt (suc deep) inner room level line closer ts))
        (λ x rest l. by_test (λ (o : Outcome (Unit {0})). Done {A = List Stmt × Bool} (λ p rest. p.1 ≡ false → closed closer rest ≡ true) (and_then o (λ u. pure (found ++ x ∷ [], true)))) (sees_sep line rest) _ _ (λ is last. let bad : true ≡ false = last in cc) (λ is. tt))))

    block_closed : (level : Level) (line : InLine) (closer : Closer) (ts : List Token) → Done (λ (all : List Stmt) rest. closed closer rest ≡ true) (all_of (block_turn (suc deep) inner room level line closer) [] ts)
    block_closed level line closer ts = repeat_done (block_turn (suc deep) inner room level line closer) (λ rest. closed closer rest ≡ true) (turn_closed level line closer) (length ts + 1) [] ts

    abbrev block_at : List Stmt → Reader Block
    block_at all = λ ts. Ok (roll-Block (record { stmts = all; end = place_at ts }), ts)

    end_by : (all : List Stmt) (closer : Closer) → Stand L t v → (rest r : List Token) → closed closer rest ≡ true → Both L t s v stand rest r → NearOrStays L t s v stand (Closes L t s v stand closer) (block_at all rest) (block_at all r)
    unfolding place_at first
    end_by all closer (inl same) rest r is al = inl (inr (r, ap (λ (o : Option Token). Ok (roll-Block (record { stmts = all; end = place_or origin o }), r)) (first_same L t s v stand same rest r al), al))
    end_by all closer (inr odd) rest r is here = inr (inl refl, is)
    end_by all closer (inr odd) rest r is (there x a b al) = inl (inr (x ∷ b, refl, there x a b al))

    no_more : (closer : Closer) (x : List Stmt) (rest : List Token) → LastTurn closer (x, true) rest → ⊥
    no_more closer x rest d = let bad : true ≡ false = d.0 in cc

    pub stays_body : (level : Level) (line : InLine) (closer : Closer) → E L t s v stand (Closes L t s v stand closer) (body (suc deep) inner room level line closer) (body (suc deeper) inner' room' level line closer)
    unfolding body block
    stays_body level line closer =
        stays_where L t s v stand (Closes L t s v stand closer) (Closes L t s v stand closer) (λ rest. closed closer rest ≡ true) block_at block_at (λ all rest. same_end rest) (λ all rest r is al. end_by all closer stand rest r is al) (λ all rest d. inr d)
        (stays_all L t s v stand (Closes L t s v stand closer) (LastTurn closer) (block_turn (suc deep) inner room level line closer) (block_turn (suc deeper) inner' room' level line closer) (shortens_block (suc deep) inner room inner_leaves level line closer) (stays_block_turn level line closer)
        (λ x rest d. d.1) (λ x rest d. absurd (no_more closer x rest d)) (shortens_block (suc deeper) inner' room' other_leaves level line closer) [])
        (block_closed level line closer)

    -- ---- what takes what closes a block

    loop_open : (closer : Closer) (x : Token) → ends_with_end closer ≡ false → is_word w.KwEnd x.kind ≡ true → closed closer (x ∷ (t ∷ s)) ≡ false
    unfolding sees_word first same_word
    loop_open closers.Next x apart is = ap (is_word w.KwNext) (word_is w.KwEnd x.kind is)
    loop_open closers.Wend x apart is = ap (is_word w.KwWend) (word_is w.KwEnd x.kind is)
    loop_open closers.Loop x apart is = ap (is_word w.KwLoop) (word_is w.KwEnd x.kind is)
    loop_open closer x apart is = cc

    -- a block that isn't ended by End
    pub left_alone : (closer : Closer) → ends_with_end closer ≡ false → (b : Block) (rest : List Token) → Closes L t s v stand closer b rest → rest ≡ t ∷ s
    left_alone closer apart b rest (inl is, q) = is
    left_alone closer apart b rest (inr left, q) = let bad : true ≡ false = sym q ∙ ap (closed closer) left.1 ∙ loop_open closer left.0 apart left.2 in cc
