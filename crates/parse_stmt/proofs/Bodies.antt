-- Blocks, and the series of one-line Ifs, are read exactly.
use Rattle.std.proofs.Common.{◌≡◌, ◌<◌, ℕ, zero, suc, ◌+◌, ◌==◌, Bool, true, false, if◌then◌else◌, List, [], ◌∷◌, ◌++◌, length, Some, Ok, refl, sym, ap, ◌∙◌, arith, append_assoc, append-nil}
use Rattle.fb_base.specs.declared.fault.FaultKind.{FaultKind}
use Rattle.fb_base.specs.declared.fault.FaultKind.TheVariants.{ExtraText}
use Rattle.fb_lexer.specs.declared.token.Token.{Token}
use Rattle.fb_lexer.specs.declared.token.TokenKind.{TokenKind}
use Rattle.fb_lexer.specs.declared.token.TokenKind.TheVariants as kinds
use Rattle.fb_lexer.specs.declared.word.Word.{Word}
use Rattle.fb_lexer.specs.declared.word.Word.TheVariants as w
use Rattle.fb_ast.specs.declared.stmt.Block.{Block, roll-Block}
use Rattle.fb_ast.specs.declared.stmt.Stmt.{Stmt}
use Rattle.parse_expr.specs.Reading.{first, next, sees_word, Reader, Outcome, and_then, pure}
use Rattle.parse_expr.proofs.Sound.{Done, bind, by_test, map_done}
use Rattle.parse_expr.proofs.Ends.{Suffixes, no_longer}
use Rattle.parse_parts.specs.declared.kinds.Level.{Level}
use Rattle.parse_parts.specs.declared.kinds.InLine.{InLine}
use Rattle.parse_parts.specs.declared.kinds.Spot.{Spot}
use Rattle.parse_parts.specs.declared.kinds.Closer.{Closer}
use Rattle.parse_parts.specs.declared.kinds.Closer.TheVariants as closers
use Rattle.parse_parts.specs.Words.{is_sep}
use Rattle.parse_parts.specs.Steps.{place_at, last_before, sees_sep, repeat, all_of}
use Rattle.parse_parts.specs.Steps as steps
use Rattle.parse_stmt.specs.Blocks.{sees_end, closed, deep_end, end_is_deep, block_stmt, ended, block_turn, block, body}
use Rattle.parse_stmt.specs.Phrases.{Phrase}
use Rattle.parse_stmt.specs.Statements.{Statements, none, blank, some, Series, last, another}
use Rattle.parse_stmt.specs.Statements as grammar
use Rattle.parse_stmt.proofs.Exact.{next_kind, Exact, same_end, end_of_end, leave_next}
use Rattle.parse_stmt.proofs.Smallest.{exact_here, word_is}
use Rattle.parse_stmt.proofs.Dims.{closes}
use Rattle.parse_stmt.proofs.Ended.{Ended, as_ended, ended_then, ended_gives}

-- ---- what ends a block

sep_kind : (line : InLine) (kind : TokenKind) → is_sep line kind ≡ true → closes (Some kind) ≡ true
sep_kind line kinds.Colon is = refl
sep_kind line kinds.LineEnd is = refl
sep_kind line kind is = cc

pub sep_closes : (line : InLine) (ts : List Token) → sees_sep line ts ≡ true → closes (next_kind ts) ≡ true
unfolding sees_sep first
sep_closes line [] is = cc
sep_closes line (t ∷ ts) is = sep_kind line t.kind is

pub sep_less : (line : InLine) (ts : List Token) → sees_sep line ts ≡ true → length (next ts) < length ts
unfolding sees_sep first next
sep_less line [] is = cc
sep_less line (t ∷ ts) is = omega arith

pub word_no_sep : (line : InLine) (which : Word) (ts : List Token) → sees_word which ts ≡ true → sees_sep line ts ≡ false
unfolding sees_sep first sees_word
word_no_sep line which [] is = cc
word_no_sep line which (t ∷ ts) is = rw (word_is which t.kind is) refl

by_end : (line : InLine) (which : Word) (ts : List Token) (b : Bool) → sees_word w.KwEnd ts ≡ b → (if b then sees_word which (next ts) else false) ≡ true → sees_sep line ts ≡ false
by_end line which ts true is closes_it = word_no_sep line w.KwEnd ts is
by_end line which ts false is closes_it = cc

one_or : (a b c : Bool) → (a ≡ true → c ≡ false) → (b ≡ true → c ≡ false) → (if a then true else b) ≡ true → c ≡ false
one_or true b c one other is = one refl
one_or false b c one other is = other is

end_no_sep : (line : InLine) (which : Word) (ts : List Token) → sees_end which ts ≡ true → sees_sep line ts ≡ false
unfolding sees_end
end_no_sep line which ts is = by_end line which ts (sees_word w.KwEnd ts) refl is

closed_no_sep : (closer : Closer) (line : InLine) (ts : List Token) → closed closer ts ≡ true → sees_sep line ts ≡ false
closed_no_sep closers.Next line ts is = word_no_sep line w.KwNext ts is
closed_no_sep closers.Wend line ts is = word_no_sep line w.KwWend ts is
closed_no_sep closers.Loop line ts is = word_no_sep line w.KwLoop ts is
closed_no_sep closers.Scope line ts is = end_no_sep line w.KwScope ts is
closed_no_sep closers.Cases line ts is = one_or (sees_word w.KwCase ts) (sees_end w.KwSelect ts) (sees_sep line ts) (word_no_sep line w.KwCase ts) (end_no_sep line w.KwSelect ts) is
closed_no_sep closers.Branches line ts is =
    one_or (sees_word w.KwElseIf ts) (if sees_word w.KwElse ts then true else sees_end w.KwIf ts) (sees_sep line ts) (word_no_sep line w.KwElseIf ts)
    (one_or (sees_word w.KwElse ts) (sees_end w.KwIf ts) (sees_sep line ts) (word_no_sep line w.KwElse ts) (end_no_sep line w.KwIf ts)) is
closed_no_sep closers.Else line ts is = end_no_sep line w.KwIf ts is
closed_no_sep closers.Sub line ts is = end_no_sep line w.KwSub ts is
closed_no_sep closers.Function line ts is = end_no_sep line w.KwFunction ts is
closed_no_sep closers.Constructor line ts is = end_no_sep line w.KwConstructor ts is
closed_no_sep closers.Destructor line ts is = end_no_sep line w.KwDestructor ts is
closed_no_sep closers.Operator line ts is = end_no_sep line w.KwOperator ts is

-- ---- blocks

-- what a statement's first token is not
pub record Opens (ts : List Token) : Type 0 where
  pub no_sep : (line : InLine) → sees_sep line ts ≡ false
  pub not_closed : (closer : Closer) → closed closer ts ≡ false

-- The statements inside are read exactly; none stands where nothing may be deep enough.
pub record Inside (inner : Spot → Reader Stmt) (room : ℕ) (Inner : Level → InLine → Phrase Stmt) : Type 0 where
  pub exact : (level : Level) (line : InLine) (other : FaultKind) → Exact (inner (record { level = level; line = line; other = other })) (Inner level line) closes
  pub opens : (level : Level) (line : InLine) (ts : List Token) (x : Stmt) (rest : List Token) → Inner level line ts x rest → closes (next_kind rest) ≡ true → Opens ts
  pub deep : (level : Level) (line : InLine) (ts : List Token) (x : Stmt) (rest : List Token) → Inner level line ts x rest → (room == 0) ≡ false

module _ (deep : ℕ) (inner : Spot → Reader Stmt) (room : ℕ) (Inner : Level → InLine → Phrase Stmt) (inside : Inside inner room Inner) where
  module _ (level : Level) (line : InLine) (closer : Closer) where
    abbrev turns_from : ℕ → List Stmt × Bool → Reader (List Stmt)
    turns_from n q = if q.1 then repeat (block_turn (suc deep) inner room level line closer) n q.0 else pure q.0

    record BlockRead (found : List Stmt) (ts : List Token) (all : List Stmt) (rest : List Token) : Type 0 where
      behind : List Stmt
      is : all ≡ found ++ behind
      are : Statements (Inner level line) line ts behind rest
      ends : closed closer rest ≡ true

    record StmtRead (found : List Stmt) (ts : List Token) (q : List Stmt × Bool) (rest : List Token) : Type 0 where
      x : Stmt
      between : List Token
      stands : Inner level line ts x between
      end : sees_sep line between ≡ true
      behind : rest ≡ next between
      is : q ≡ (found ++ x ∷ [], true)

    stmt_sound : (found : List Stmt) (ts : List Token) → Done (StmtRead found ts) (and_then (block_stmt (suc deep) inner room level line closer ts) (ended (suc deep) inner room line found))
    unfolding block_stmt ended deep_end steps.sep
    stmt_sound found ts =
        by_test (λ (o : Outcome Stmt). Done (StmtRead found ts) (and_then o (ended (suc deep) inner room line found))) (end_is_deep (suc deep) inner room closer ts) _ _ (λ is. tt)
        (λ is. bind (Inner level line ts) (StmtRead found ts) (inner (record { level = level; line = line; other = ExtraText }) ts) (ended (suc deep) inner room line found) ((inside.exact level line ExtraText).sound ts)
        (λ x between t. by_test (λ (o : Outcome (Unit {0})). Done (StmtRead found ts) (and_then o (λ u. pure (found ++ x ∷ [], true)))) (sees_sep line between) _ _
        (λ end. record { x = x; between = between; stands = t; end = end; behind = refl; is = refl }) (λ no. tt)))

    block_sound : (n : ℕ) (found : List Stmt) (ts : List Token) → Done (BlockRead found ts) (repeat (block_turn (suc deep) inner room level line closer) n found ts)
    unfolding repeat block_turn
    block_sound zero found ts = tt
    block_sound (suc n) found ts =
        by_test (λ (o : Outcome (List Stmt × Bool)). Done (BlockRead found ts) (and_then o (turns_from n))) (sees_sep line ts) _ _
        (λ is. map_done (BlockRead found (next ts)) (BlockRead found ts) _ (block_sound n found (next ts)) (λ all rest r. record { behind = r.behind; is = r.is; are = blank ts rest r.behind is r.are; ends = r.ends }))
        (λ no_sep. by_test (λ (o : Outcome (List Stmt × Bool)). Done (BlockRead found ts) (and_then o (turns_from n))) (closed closer ts) _ _
        (λ is. record { behind = []; is = sym (append-nil found); are = none ts; ends = is })
        (λ open_. bind (StmtRead found ts) (BlockRead found ts) (and_then (block_stmt (suc deep) inner room level line closer ts) (ended (suc deep) inner room line found)) (turns_from n) (stmt_sound found ts)
        (λ q rest r. rw (r.is, r.behind) (map_done (BlockRead (found ++ r.x ∷ []) (next r.between)) (BlockRead found ts) _ (block_sound n (found ++ r.x ∷ []) (next r.between))
        (λ all left b. record { behind = r.x ∷ b.behind; is = b.is ∙ append_assoc found (r.x ∷ []) b.behind; are = some ts r.between left r.x b.behind r.stands r.end b.are; ends = b.ends })))))

    block_finds : (n : ℕ) (found : List Stmt) (ts : List Token) (all : List Stmt) (rest : List Token) → Statements (Inner level line) line ts all rest → closed closer rest ≡ true → length ts < n
        → repeat (block_turn (suc deep) inner room level line closer) n found ts ≡ Ok (found ++ all, rest)
    unfolding repeat block_turn block_stmt ended steps.sep end_is_deep
    block_finds zero found ts all rest b ends few = absurd (omega arith)
    block_finds (suc n) found ts all rest (none a) ends few = rw (closed_no_sep closer line rest ends, ends, append-nil found) refl
    block_finds (suc n) found ts all rest (blank a c more is b) ends few =
        let less = sep_less line ts is in
        rw is (block_finds n found (next ts) all rest b ends (omega arith))
    block_finds (suc n) found ts all rest (some a between c x more t is b) ends few =
        let f = sep_closes line between is in
        let o = inside.opens level line ts x between t f in
        let e = inside.exact level line ExtraText in
        let within = no_longer (e.within ts x between t) in
        let less = sep_less line between is in
        rw (o.no_sep line, o.not_closed closer, inside.deep level line ts x between t, e.finds ts x between t f, is)
        (block_finds n (found ++ x ∷ []) (next between) more rest b ends (omega arith) ∙ ap (λ (xs : List Stmt). Ok (xs, rest)) (append_assoc found (x ∷ []) more))

    block_within : (ts : List Token) (all : List Stmt) (rest : List Token) → Statements (Inner level line) line ts all rest → Suffixes rest ts
    block_within ts all rest (none a) = same_end rest
    block_within ts all rest (blank a c more is b) = end_of_end (block_within (next ts) all rest b) (leave_next ts)
    block_within ts all rest (some a between c x more t is b) =
        end_of_end (block_within (next between) more rest b) (end_of_end (leave_next between) ((inside.exact level line ExtraText).within ts x between t))

    pub ended_block : Ended (block (suc deep) inner room level line closer) (Statements (Inner level line) line) (closed closer)
    unfolding block
    ended_block = record {
      sound = λ ts. map_done (BlockRead [] ts) (Statements (Inner level line) line ts) _ (block_sound (length ts + 1) [] ts) (λ all rest r. rw (r.is) (r.are));
      finds = λ ts all rest b ends. block_finds (length ts + 1) [] ts all rest b ends (omega arith);
      within = block_within;
    }

    -- a reading of a block ends where the block does
    pub block_ends : (ts : List Token) → Done (λ (all : List Stmt) rest. closed closer rest ≡ true) (block (suc deep) inner room level line closer ts)
    unfolding block
    block_ends ts = map_done (BlockRead [] ts) (λ (all : List Stmt) rest. closed closer rest ≡ true) _ (block_sound (length ts + 1) [] ts) (λ all rest r. r.ends)

    pub ended_body : Ended (body (suc deep) inner room level line closer) (grammar.body (suc deep) Inner level line) (closed closer)
    unfolding body
    ended_body = ended_then ended_block (λ all. ended_then (as_ended exact_here) (λ end. ended_gives (roll-Block (record { stmts = all; end = end })) (closed closer)) (λ end ts b rest t d. refl))
        (λ all ts b rest t d. ap (closed closer) (sym (t.back.1 ∙ t.front.1)) ∙ d)

    pub body_ends : (ts : List Token) → Done (λ (b : Block) rest. closed closer rest ≡ true) (body (suc deep) inner room level line closer ts)
    unfolding body
    body_ends ts = bind (λ (all : List Stmt) rest. closed closer rest ≡ true) (λ (b : Block) rest. closed closer rest ≡ true) (block (suc deep) inner room level line closer ts) _ (block_ends ts) (λ all rest e. e)
