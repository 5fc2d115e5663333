-- Whole texts are read exactly.
use Rattle.std.proofs.Common.{◌≡◌, ◌<◌, ℕ, zero, suc, ◌+◌, Bool, true, false, if◌then◌else◌, List, [], ◌∷◌, ◌++◌, length, Option, Some, None, Result, Ok, Err, refl, sym, ap, ◌∙◌, subst, ◌⊎◌, inl, inr, arith, append_assoc, append-nil}
use Rattle.fb_base.specs.declared.fault.FaultKind.TheVariants.{ExtraText}
use Rattle.fb_lexer.specs.TokenList.{TokenList}
use Rattle.fb_lexer.specs.declared.token.Token.{Token}
use Rattle.fb_lexer.specs.declared.token.TokenKind.TheVariants as kinds
use Rattle.fb_lexer.specs.declared.token.Mark.TheVariants.{Equal}
use Rattle.fb_lexer.specs.declared.word.Word.{Word}
use Rattle.fb_lexer.specs.declared.word.Word.TheVariants as w
use Rattle.fb_ast.specs.declared.part.Name.{Name}
use Rattle.fb_ast.specs.declared.part.Item.{Item}
use Rattle.fb_ast.specs.declared.part.Item.TheVariants as item
use Rattle.fb_ast.specs.declared.part.ProcedureKind.{ProcedureKind}
use Rattle.fb_ast.specs.declared.stmt.Block.{Block}
use Rattle.fb_ast.specs.declared.stmt.Stmt.{Stmt}
use Rattle.fb_ast.specs.declared.tree.Tree.{Tree}
use Rattle.parse_expr.specs.declared.error.ParseErr.{ParseErr}
use Rattle.parse_expr.specs.Reading.{first, next, is_word, sees, sees_word, Reader, Outcome, and_then, pure}
use Rattle.parse_expr.proofs.Sound.{Done, bind, by_test, map_done}
use Rattle.parse_expr.proofs.Ends.{Suffixes, no_longer}
use Rattle.parse_parts.specs.declared.kinds.Level.TheVariants as levels
use Rattle.parse_parts.specs.declared.kinds.InLine.TheVariants as lines
use Rattle.parse_parts.specs.declared.kinds.Spot.{Spot}
use Rattle.parse_parts.specs.declared.kinds.Lead.{Lead}
use Rattle.parse_parts.specs.declared.kinds.Lead.TheVariants as leads
use Rattle.parse_parts.specs.declared.kinds.ProcedureWord.{ProcedureWord}
use Rattle.parse_parts.specs.declared.kinds.ProcedureWord.TheVariants as words
use Rattle.parse_stmt.specs.declared.module.Found.{Found}
use Rattle.parse_parts.specs.Words.{lead_of}
use Rattle.parse_parts.specs.Steps.{words_before, sees_sep, repeat, all_of}
use Rattle.parse_parts.specs.Steps as steps
use Rattle.parse_stmt.specs.Blocks as blocks
use Rattle.parse_stmt.specs.Procedures as procedures
use Rattle.parse_parts.specs.Members.{type_def}
use Rattle.parse_stmt.specs.Module.{declare, ended_by, ended_item, main_stmt, ended_stmt, function_begins, procedure_word, item_by, one_item, more_items, item_turn, item_at, module_, told, tree_of}
use Rattle.parse_stmt.specs.Phrases.{Phrase, IsName}
use Rattle.parse_stmt.specs.Statements as statements
use Rattle.parse_stmt.specs.Texts.{Items, none, blank, last, some, IsText}
use Rattle.parse_stmt.specs.Texts as grammar
use Rattle.parse_stmt.proofs.Exact.{next_kind, Follow}
use Rattle.parse_stmt.proofs.Smallest.{next_word, word_is, holds_next}
use Rattle.parse_stmt.proofs.Lists.{no_word}
use Rattle.parse_stmt.proofs.Dims.{closes}
use Rattle.parse_stmt.proofs.Bodies.{sep_closes, sep_less, word_no_sep}
use Rattle.parse_stmt.proofs.Stmts.{inside_of, word_apart}
use Rattle.parse_stmt.proofs.Ended.{token_then}
use Rattle.parse_stmt.proofs.Procs.{given_declare, given_parts, parts_of, of_parts, PartsFrom, begin_word}
use Rattle.parse_stmt.proofs.Types.{given_type}

-- ---- what an item begins with

by_function : (a b : Bool) → (if a then (if b then false else true) else false) ≡ true → (a ≡ true) × (b ≡ false)
by_function true true is = cc
by_function true false is = (refl, refl)
by_function false b is = cc

abbrev chosen_word : Bool → Bool → Bool → Bool → Bool → Option ProcedureWord
chosen_word a b c d e = if a then Some words.Sub else (if b then Some words.Function else (if c then Some words.Constructor else (if d then Some words.Destructor else (if e then Some words.Operator else None))))

abbrev Begins : ProcedureWord → List Token → Type 0
Begins which ts = sees_word (begin_word which) ts ≡ true

abbrev or_word : ProcedureWord → Option ProcedureWord → ProcedureWord
or_word other None = other
or_word other (Some which) = which

some_word : {which : ProcedureWord} (P : ProcedureWord → Type 0) (other : ProcedureWord) → P other → Some other ≡ Some which → P which
some_word {which = which} P other p is = subst (λ (o : Option ProcedureWord). P (or_word which o)) is p

seen_by : (ts : List Token) (a b c d e : Bool) → sees_word w.KwSub ts ≡ a → function_begins ts ≡ b → sees_word w.KwConstructor ts ≡ c → sees_word w.KwDestructor ts ≡ d → sees_word w.KwOperator ts ≡ e
    → (which : ProcedureWord) → chosen_word a b c d e ≡ Some which → Begins which ts
unfolding function_begins
seen_by ts true b c d e p q r s t which is = some_word (λ o. Begins o ts) words.Sub p is
seen_by ts false true c d e p q r s t which is = some_word (λ o. Begins o ts) words.Function (by_function (sees_word w.KwFunction ts) (sees Equal (next ts)) q).0 is
seen_by ts false false true d e p q r s t which is = some_word (λ o. Begins o ts) words.Constructor r is
seen_by ts false false false true e p q r s t which is = some_word (λ o. Begins o ts) words.Destructor s is
seen_by ts false false false false true p q r s t which is = some_word (λ o. Begins o ts) words.Operator t is
seen_by ts false false false false false p q r s t which is = cc

pub word_seen : (ts : List Token) (which : ProcedureWord) → procedure_word ts ≡ Some which → Begins which ts
unfolding procedure_word
word_seen ts which is = seen_by ts (sees_word w.KwSub ts) (function_begins ts) (sees_word w.KwConstructor ts) (sees_word w.KwDestructor ts) (sees_word w.KwOperator ts) refl refl refl refl refl which is

-- one word alone
abbrev only_sub : Follow
only_sub (Some (kinds.Word w.KwSub)) = true
only_sub other = false

abbrev only_function : Follow
only_function (Some (kinds.Word w.KwFunction)) = true
only_function other = false

abbrev only_constructor : Follow
only_constructor (Some (kinds.Word w.KwConstructor)) = true
only_constructor other = false

abbrev only_destructor : Follow
only_destructor (Some (kinds.Word w.KwDestructor)) = true
only_destructor other = false

abbrev only_operator : Follow
only_operator (Some (kinds.Word w.KwOperator)) = true
only_operator other = false

abbrev only : ProcedureWord → Follow
only words.Sub = only_sub
only words.Function = only_function
only words.Constructor = only_constructor
only words.Destructor = only_destructor
only words.Operator = only_operator

itself : (which : ProcedureWord) → only which (Some (kinds.Word (begin_word which))) ≡ true
itself words.Sub = refl
itself words.Function = refl
itself words.Constructor = refl
itself words.Destructor = refl
itself words.Operator = refl

-- where this word comes next another doesn't
not_other : (which : ProcedureWord) (ts : List Token) → Begins which ts → (other : Word) → only which (Some (kinds.Word other)) ≡ false → sees_word other ts ≡ false
not_other which ts begins other apart = no_word other (only which) ts apart (ap (only which) (next_word (begin_word which) ts begins) ∙ itself which) (sees_word other ts) refl

not_function : (ts : List Token) → sees_word w.KwFunction ts ≡ false → function_begins ts ≡ false
unfolding function_begins
not_function ts is = rw is refl

function_now : (ts : List Token) → sees_word w.KwFunction ts ≡ true → sees Equal (next ts) ≡ false → function_begins ts ≡ true
unfolding function_begins
function_now ts is none_there = rw (is, none_there) refl

name_no_equal : (ts : List Token) (n : Name) (rest : List Token) → IsName ts n rest → sees Equal ts ≡ false
unfolding sees first
name_no_equal ts n rest t = rw (t.is, t.kind) refl

is_word_of : (deep room : ℕ) → (which : ProcedureWord) (ts : List Token) (p : ProcedureKind × Block) (rest : List Token) → PartsFrom deep room which ts p rest → procedure_word ts ≡ Some which
unfolding procedure_word
is_word_of deep room words.Sub ts p rest t = rw ((given_parts deep room words.Sub).holds_there ts p rest t) refl
is_word_of deep room words.Function ts p rest t =
    let b = (given_parts deep room words.Function).holds_there ts p rest t in
    rw (not_other words.Function ts b w.KwSub refl, function_now ts b (name_no_equal (next ts) _ _ (token_then (sees_word w.KwFunction) _ ts p rest t).stands.front.front)) refl
is_word_of deep room words.Constructor ts p rest t =
    let b = (given_parts deep room words.Constructor).holds_there ts p rest t in
    rw (not_other words.Constructor ts b w.KwSub refl, not_function ts (not_other words.Constructor ts b w.KwFunction refl), b) refl
is_word_of deep room words.Destructor ts p rest t =
    let b = (given_parts deep room words.Destructor).holds_there ts p rest t in
    rw (not_other words.Destructor ts b w.KwSub refl, not_function ts (not_other words.Destructor ts b w.KwFunction refl), not_other words.Destructor ts b w.KwConstructor refl, b) refl
is_word_of deep room words.Operator ts p rest t =
    let b = (given_parts deep room words.Operator).holds_there ts p rest t in
    rw (not_other words.Operator ts b w.KwSub refl, not_function ts (not_other words.Operator ts b w.KwFunction refl), not_other words.Operator ts b w.KwConstructor refl, not_other words.Operator ts b w.KwDestructor refl, b) refl

-- ---- statements of the module

abbrev spot : Spot
spot = record { level = levels.Module; line = lines.Free; other = ExtraText }

abbrev main_phrase : (deep room : ℕ) → Phrase Stmt
main_phrase deep room = statements.stmt (suc deep) (suc room) levels.Module lines.Free

pub stmt_no_word : (deep room : ℕ) → (which : Word) → lead_of levels.Module (kinds.Word which) ≡ leads.Nothing → (ts : List Token) (x : Stmt) (rest : List Token) → main_phrase deep room ts x rest → sees_word which ts ≡ false
stmt_no_word deep room which none_there ts x rest t = word_apart deep (blocks.stmt (suc deep) room) room (statements.stmt (suc deep) room) (inside_of deep room) which levels.Module lines.Free ts x rest none_there t

kind_in : (ts : List Token) (t : Token) (more : List Token) → ts ≡ t ∷ more → sees_word w.KwFunction ts ≡ true → t.kind ≡ kinds.Word w.KwFunction
unfolding sees_word first
kind_in ts t more is seen = word_is w.KwFunction t.kind (ap (sees_word w.KwFunction) (sym is) ∙ seen)

function_lead : (deep room : ℕ) → (ts : List Token) (x : Stmt) (rest : List Token) → main_phrase deep room ts x rest → (b : Bool) → sees_word w.KwFunction ts ≡ b → b ≡ true → sees Equal (next ts) ≡ true
function_lead deep room ts x rest t true is e =
    let l : statements.led (suc deep) (statements.stmt (suc deep) room) t.0.at levels.Module lines.Free leads.Function ts x rest =
    subst (λ (lead : Lead). statements.led (suc deep) (statements.stmt (suc deep) room) t.0.at levels.Module lines.Free lead ts x rest) (ap (lead_of levels.Module) (kind_in ts t.0 t.1 t.2 is)) t.3 in
    ap (sees Equal) (sym l.front) ∙ l.back.front.0
function_lead deep room ts x rest t false is e = cc

not_begun : (deep room : ℕ) → (ts : List Token) (x : Stmt) (rest : List Token) → main_phrase deep room ts x rest → (b : Bool) → sees_word w.KwFunction ts ≡ b → (if b then (if sees Equal (next ts) then false else true) else false) ≡ false
not_begun deep room ts x rest t true is = rw (function_lead deep room ts x rest t true is refl) refl
not_begun deep room ts x rest t false is = refl

stmt_no_function : (deep room : ℕ) → (ts : List Token) (x : Stmt) (rest : List Token) → main_phrase deep room ts x rest → function_begins ts ≡ false
unfolding function_begins
stmt_no_function deep room ts x rest t = not_begun deep room ts x rest t (sees_word w.KwFunction ts) refl

stmt_no_procedure : (deep room : ℕ) → (ts : List Token) (x : Stmt) (rest : List Token) → main_phrase deep room ts x rest → procedure_word ts ≡ None
unfolding procedure_word
stmt_no_procedure deep room ts x rest t =
    rw (stmt_no_word deep room w.KwSub refl ts x rest t, stmt_no_function deep room ts x rest t, stmt_no_word deep room w.KwConstructor refl ts x rest t, stmt_no_word deep room w.KwDestructor refl ts x rest t, stmt_no_word deep room w.KwOperator refl ts x rest t) refl

-- ---- an item and its end

-- the end of an item is one of a statement, or that of the text
abbrev pub IsEnd : List Token → List Token → Type 0
IsEnd between rest = ((between ≡ []) × (rest ≡ [])) ⊎ ((sees_sep lines.Free between ≡ true) × (rest ≡ next between))

end_sound : (between : List Token) → Done (λ (u : Unit {0}) rest. IsEnd between rest) (ended_by (first between) between)
unfolding first steps.sep
end_sound [] = inl (refl, refl)
end_sound (t ∷ ts) = by_test (λ (o : Outcome (Unit {0})). Done (λ (u : Unit {0}) rest. IsEnd (t ∷ ts) rest) o) (sees_sep lines.Free (t ∷ ts)) _ _ (λ is. inr (is, refl)) (λ is. tt)

end_closes : (between rest : List Token) → IsEnd between rest → closes (next_kind between) ≡ true
end_closes between rest (inl e) = ap (λ (m : List Token). closes (next_kind m)) e.0
end_closes between rest (inr e) = sep_closes lines.Free between e.0

sep_read : (ts : List Token) → sees_sep lines.Free ts ≡ true → ended_by (first ts) ts ≡ Ok (tt, next ts)
unfolding first steps.sep next
sep_read [] is = refl
sep_read (t ∷ ts) is = rw is refl

end_finds : (between rest : List Token) → IsEnd between rest → ended_by (first between) between ≡ Ok (tt, rest)
unfolding first
end_finds between rest (inl e) = rw (e.0, e.1) refl
end_finds between rest (inr e) = sep_read between e.0 ∙ ap (λ (r : List Token). Ok (tt, r)) (sym e.1)

-- what an item adds
abbrev pub with_item : Found → Item × ℕ → Found
with_item found p = record { items = found.items ++ p.0 ∷ []; tokens = found.tokens + p.1 }

pub record ItemRead (deep room : ℕ) (found : Found) (ts : List Token) (q : Found × Bool) (rest : List Token) : Type 0 where
  pub p : Item × ℕ
  pub between : List Token
  pub stands : grammar.one_item (suc deep) room ts p between
  pub end : IsEnd between rest
  pub is : q ≡ (with_item found p, true)

no_tokens : (found : Found) (x : Item) → with_item found (x, 0) ≡ record { items = found.items ++ x ∷ []; tokens = found.tokens }
no_tokens found x = let e : found.tokens + 0 ≡ found.tokens = omega arith in ap (λ (n : ℕ). record { items = found.items ++ x ∷ []; tokens = n }) e

item_ended : (deep room : ℕ) → (found : Found) (ts : List Token) (x : Item) (between : List Token) → grammar.one_item (suc deep) room ts (x, 0) between → Done (ItemRead deep room found ts) (ended_item found x between)
unfolding ended_item
item_ended deep room found ts x between t =
    bind (λ (u : Unit {0}) rest. IsEnd between rest) (ItemRead deep room found ts) (ended_by (first between) between) _ (end_sound between)
    (λ u rest e. record { p = (x, 0); between = between; stands = t; end = e; is = ap (λ (f : Found). (f, true)) (sym (no_tokens found x)) })

stmt_ended : (deep room : ℕ) → (found : Found) (ts : List Token) (x : Stmt) (between : List Token) → main_phrase deep room ts x between → Done (ItemRead deep room found ts) (ended_stmt found (x, words_before ts between) between)
unfolding ended_stmt
stmt_ended deep room found ts x between t =
    bind (λ (u : Unit {0}) rest. IsEnd between rest) (ItemRead deep room found ts) (ended_by (first between) between) _ (end_sound between)
    (λ u rest e. record { p = (item.Stmt x, words_before ts between); between = between; stands = inr (x, t, refl); end = e; is = refl })

proc_sound : (deep room : ℕ) → (found : Found) (ts : List Token) (o : Option ProcedureWord) → procedure_word ts ≡ o → Done (ItemRead deep room found ts) (item_by (suc deep) room found o ts)
unfolding main_stmt procedures.procedure
proc_sound deep room found ts None is =
    bind (λ (q : Stmt × ℕ) rest. main_phrase deep room ts q.0 rest × (q.1 ≡ words_before ts rest)) (ItemRead deep room found ts) _ (ended_stmt found)
    (bind (main_phrase deep room ts) (λ (q : Stmt × ℕ) rest. main_phrase deep room ts q.0 rest × (q.1 ≡ words_before ts rest)) (blocks.stmt (suc deep) (suc room) spot ts) _ (((inside_of deep (suc room)).exact levels.Module lines.Free ExtraText).sound ts) (λ x rest t. (t, refl)))
    (λ q between t. rw (t.1) (stmt_ended deep room found ts q.0 between t.0))
proc_sound deep room found ts (Some which) is =
    bind (λ (x : Item) rest. grammar.procedure (suc deep) room ts x rest) (ItemRead deep room found ts) _ (ended_item found)
    (bind (PartsFrom deep room which ts) (λ (x : Item) rest. grammar.procedure (suc deep) room ts x rest) (procedures.procedure_parts (suc deep) room which ts) _ ((given_parts deep room which).sound ts (word_seen ts which is)) (λ p rest t. (p, of_parts deep room which ts p rest t, refl)))
    (λ x between t. item_ended deep room found ts x between (inl (refl, inr (inr t))))

pub item_sound : (deep room : ℕ) → (found : Found) (ts : List Token) → Done (ItemRead deep room found ts) (one_item (suc deep) room found ts)
unfolding one_item
item_sound deep room found ts =
    by_test (λ (o : Outcome (Found × Bool)). Done (ItemRead deep room found ts) o) (sees_word w.KwDeclare ts) _ _
    (λ is. bind (grammar.declare ts) (ItemRead deep room found ts) (declare ts) (ended_item found) (given_declare.sound ts is) (λ x between t. item_ended deep room found ts x between (inl (refl, inl t))))
    (λ is. by_test (λ (o : Outcome (Found × Bool)). Done (ItemRead deep room found ts) o) (sees_word w.KwType ts) _ _
    (λ it_is. bind (grammar.type_def (suc deep) ts) (ItemRead deep room found ts) (type_def (suc deep) ts) (ended_item found) ((given_type deep).sound ts it_is) (λ x between t. item_ended deep room found ts x between (inl (refl, inr (inl t)))))
    (λ it_is. proc_sound deep room found ts (procedure_word ts) refl))

-- ---- items

record AllRead (deep room : ℕ) (found : Found) (ts : List Token) (all : Found) (rest : List Token) : Type 0 where
  behind : List Item
  count : ℕ
  items : all.items ≡ found.items ++ behind
  tokens : all.tokens ≡ found.tokens + count
  are : Items (suc deep) room ts behind count
  ends : rest ≡ []

abbrev again : (deep room : ℕ) → ℕ → Found × Bool → Reader Found
again deep room n q = if q.1 then repeat (item_turn (suc deep) room) n q.0 else pure q.0

at_end : (deep room : ℕ) → (n : ℕ) (found : Found) → Done (λ (all : Found) rest. (all ≡ found) × (rest ≡ [])) (repeat (item_turn (suc deep) room) n found [])
unfolding repeat item_turn first
at_end deep room zero found = tt
at_end deep room (suc n) found = (refl, refl)

one_more : (deep room : ℕ) → (found : Found) (ts : List Token) (p : Item × ℕ) (between : List Token) → grammar.one_item (suc deep) room ts p between → (n : ℕ) (rest : List Token) → IsEnd between rest
    → Done (AllRead deep room (with_item found p) rest) (repeat (item_turn (suc deep) room) n (with_item found p) rest) → Done (AllRead deep room found ts) (repeat (item_turn (suc deep) room) n (with_item found p) rest)
one_more deep room found ts p between t n rest (inl e) d =
    subst (λ (m : List Token). Done (AllRead deep room found ts) (repeat (item_turn (suc deep) room) n (with_item found p) m)) (sym e.1)
    (map_done (λ (all : Found) left. (all ≡ with_item found p) × (left ≡ [])) (AllRead deep room found ts) _ (at_end deep room n (with_item found p))
    (λ all left r. record { behind = p.0 ∷ []; count = p.1; items = ap (λ (f : Found). f.items) r.0; tokens = ap (λ (f : Found). f.tokens) r.0; are = last ts p (subst (λ (m : List Token). grammar.one_item (suc deep) room ts p m) e.0 t); ends = r.1 }))
one_more deep room found ts p between t n rest (inr e) d =
    map_done (AllRead deep room (with_item found p) rest) (AllRead deep room found ts) _ d
    (λ all left r. record {
      behind = p.0 ∷ r.behind;
      count = p.1 + r.count;
      items = r.items ∙ append_assoc found.items (p.0 ∷ []) r.behind;
      tokens = (let e = r.tokens in omega arith);
      are = some ts between p r.behind r.count t e.0 (subst (λ (m : List Token). Items (suc deep) room m r.behind r.count) e.1 r.are);
      ends = r.ends;
    })

items_sound : (deep room : ℕ) → (n : ℕ) (found : Found) (ts : List Token) → Done (AllRead deep room found ts) (repeat (item_turn (suc deep) room) n found ts)
unfolding repeat item_turn more_items first
items_sound deep room zero found ts = tt
items_sound deep room (suc n) found [] = record { behind = []; count = 0; items = sym (append-nil found.items); tokens = omega arith; are = none; ends = refl }
items_sound deep room (suc n) found (t ∷ ts) =
    by_test (λ (o : Outcome (Found × Bool)). Done (AllRead deep room found (t ∷ ts)) (and_then o (again deep room n))) (sees_sep lines.Free (t ∷ ts)) _ _
    (λ is. map_done (AllRead deep room found (next (t ∷ ts))) (AllRead deep room found (t ∷ ts)) _ (items_sound deep room n found (next (t ∷ ts)))
    (λ all rest r. record { behind = r.behind; count = r.count; items = r.items; tokens = r.tokens; are = blank (t ∷ ts) r.behind r.count is r.are; ends = r.ends }))
    (λ is. bind (ItemRead deep room found (t ∷ ts)) (AllRead deep room found (t ∷ ts)) (one_item (suc deep) room found (t ∷ ts)) (again deep room n) (item_sound deep room found (t ∷ ts))
    (λ q rest r. rw (r.is) (one_more deep room found (t ∷ ts) r.p r.between r.stands n rest r.end (items_sound deep room n (with_item found r.p) rest))))

abbrev tree_or : Tree → Result Tree ParseErr → Tree
tree_or other (Ok tree) = tree
tree_or other (Err e) = other

text_by : (tokens : TokenList) (o : Outcome Found) (tree : Tree) → Done (AllRead 199 199 (record { items = []; tokens = 0 }) tokens.items) o → told tokens o ≡ Ok tree → IsText tokens.items tokens.last_line tree
text_by tokens (Ok p) tree r is =
    let made = ap (tree_or tree) is in
    let items : tree.items ≡ r.behind = ap (λ (t : Tree). t.items) (sym made) ∙ r.items in
    let told_count : tree.tokens ≡ 0 + r.count = ap (λ (t : Tree). t.tokens) (sym made) ∙ r.tokens in
    let count : tree.tokens ≡ r.count = omega arith in
    (rw (items, count) r.are, ap (λ (t : Tree). t.last_line) (sym made))
text_by tokens (Err e) tree r is = cc

pub text_read : (tokens : TokenList) (tree : Tree) → tree_of tokens ≡ Ok tree → IsText tokens.items tokens.last_line tree
unfolding module_
text_read tokens tree is = text_by tokens (module_ 200 199 tokens.items) tree (items_sound 199 199 (length tokens.items + 1) (record { items = []; tokens = 0 }) tokens.items) is

-- ---- items are found

abbrev only_type : Follow
only_type (Some (kinds.Word w.KwType)) = true
only_type other = false

not_declare : (which : ProcedureWord) (ts : List Token) → Begins which ts → sees_word w.KwDeclare ts ≡ false
not_declare words.Sub ts b = not_other words.Sub ts b w.KwDeclare refl
not_declare words.Function ts b = not_other words.Function ts b w.KwDeclare refl
not_declare words.Constructor ts b = not_other words.Constructor ts b w.KwDeclare refl
not_declare words.Destructor ts b = not_other words.Destructor ts b w.KwDeclare refl
not_declare words.Operator ts b = not_other words.Operator ts b w.KwDeclare refl

not_type : (which : ProcedureWord) (ts : List Token) → Begins which ts → sees_word w.KwType ts ≡ false
not_type words.Sub ts b = not_other words.Sub ts b w.KwType refl
not_type words.Function ts b = not_other words.Function ts b w.KwType refl
not_type words.Constructor ts b = not_other words.Constructor ts b w.KwType refl
not_type words.Destructor ts b = not_other words.Destructor ts b w.KwType refl
not_type words.Operator ts b = not_other words.Operator ts b w.KwType refl

pub item_within : (deep room : ℕ) → (ts : List Token) (p : Item × ℕ) (rest : List Token) → grammar.one_item (suc deep) room ts p rest → Suffixes rest ts
item_within deep room ts p rest (inl (is, inl t)) = given_declare.within ts p.0 rest t
item_within deep room ts p rest (inl (is, inr (inl t))) = (given_type deep).within ts p.0 rest t
item_within deep room ts p rest (inl (is, inr (inr t))) = let w = parts_of deep room ts t.0 rest t.1 in (given_parts deep room w.0).within ts t.0 rest w.1
item_within deep room ts p rest (inr (x, t, is)) = ((inside_of deep (suc room)).exact levels.Module lines.Free ExtraText).within ts x rest t

ended_read : (found : Found) (x : Item) (between rest : List Token) → IsEnd between rest → ended_item found x between ≡ Ok ((with_item found (x, 0), true), rest)
unfolding ended_item
ended_read found x between rest e = rw (end_finds between rest e) (ap (λ (f : Found). Ok ((f, true), rest)) (sym (no_tokens found x)))

item_finds : (deep room : ℕ) → (found : Found) (ts : List Token) (p : Item × ℕ) (between rest : List Token) → grammar.one_item (suc deep) room ts p between → IsEnd between rest → one_item (suc deep) room found ts ≡ Ok ((with_item found p, true), rest)
unfolding one_item main_stmt ended_stmt procedures.procedure
item_finds deep room found ts p between rest (inl (is, inl t)) e =
    rw (given_declare.holds_there ts p.0 between t, given_declare.finds ts p.0 between t (end_closes between rest e)) (ended_read found p.0 between rest e ∙ ap (λ (k : ℕ). Ok ((with_item found (p.0, k), true), rest)) (sym is))
item_finds deep room found ts p between rest (inl (is, inr (inl t))) e =
    rw (no_word w.KwDeclare only_type ts refl (ap only_type (next_word w.KwType ts ((given_type deep).holds_there ts p.0 between t))) (sees_word w.KwDeclare ts) refl, (given_type deep).holds_there ts p.0 between t, (given_type deep).finds ts p.0 between t refl)
    (ended_read found p.0 between rest e ∙ ap (λ (k : ℕ). Ok ((with_item found (p.0, k), true), rest)) (sym is))
item_finds deep room found ts p between rest (inl (is, inr (inr t))) e =
    let k = parts_of deep room ts t.0 between t.1 in
    let b = (given_parts deep room k.0).holds_there ts t.0 between k.1 in
    rw (not_declare k.0 ts b, not_type k.0 ts b, is_word_of deep room k.0 ts t.0 between k.1, (given_parts deep room k.0).finds ts t.0 between k.1 (end_closes between rest e))
    (ap (λ (x : Item). ended_item found x between) (sym t.2) ∙ ended_read found p.0 between rest e ∙ ap (λ (k : ℕ). Ok ((with_item found (p.0, k), true), rest)) (sym is))
item_finds deep room found ts p between rest (inr (x, t, is)) e =
    rw (
      stmt_no_word deep room w.KwDeclare refl ts x between t,
      stmt_no_word deep room w.KwType refl ts x between t,
      stmt_no_procedure deep room ts x between t,
      ((inside_of deep (suc room)).exact levels.Module lines.Free ExtraText).finds ts x between t (end_closes between rest e),
      end_finds between rest e,
    )
    (ap (λ (q : Item × ℕ). Ok ((with_item found q, true), rest)) (sym is))

-- the number of turns that is enough
pub rest_less : (ts between rest : List Token) → Suffixes between ts → IsEnd between rest → (t : Token) (more : List Token) → ts ≡ t ∷ more → length rest < length ts
rest_less ts between rest s (inl e) t more is = let a = ap length e.1 in let b = ap length is in omega arith
rest_less ts between rest s (inr e) t more is = let a = no_longer s in let b = sep_less lines.Free between e.0 in let c = ap length e.1 in omega arith

pub record Some_token (ts : List Token) : Type 0 where
  pub token : Token
  pub more : List Token
  pub is : ts ≡ token ∷ more

word_some : (which : Word) (ts : List Token) → sees_word which ts ≡ true → Some_token ts
unfolding sees_word
word_some which ts is = let t = holds_next (is_word which) ts is in record { token = t.0; more = next ts; is = t.1 }

pub item_some : (deep room : ℕ) → (ts : List Token) (p : Item × ℕ) (rest : List Token) → grammar.one_item (suc deep) room ts p rest → Some_token ts
item_some deep room ts p rest (inl (is, inl t)) = word_some w.KwDeclare ts (given_declare.holds_there ts p.0 rest t)
item_some deep room ts p rest (inl (is, inr (inl t))) = word_some w.KwType ts ((given_type deep).holds_there ts p.0 rest t)
item_some deep room ts p rest (inl (is, inr (inr t))) = let k = parts_of deep room ts t.0 rest t.1 in word_some (begin_word k.0) ts ((given_parts deep room k.0).holds_there ts t.0 rest k.1)
item_some deep room ts p rest (inr (x, t, is)) = record { token = t.0; more = t.1; is = t.2 }

sep_some : (ts : List Token) → sees_sep lines.Free ts ≡ true → Some_token ts
unfolding sees_sep first
sep_some [] is = cc
sep_some (t ∷ ts) is = record { token = t; more = ts; is = refl }

turn_is : (deep room : ℕ) → (found : Found) (ts : List Token) → Some_token ts → item_turn (suc deep) room found ts ≡ more_items (suc deep) room found ts
unfolding item_turn first
turn_is deep room found ts t = ap (λ (m : List Token). item_at (suc deep) room found (first m) m) t.is ∙ ap (more_items (suc deep) room found) (sym t.is)

-- an item begins with no end
item_no_sep : (deep room : ℕ) → (ts : List Token) (p : Item × ℕ) (rest : List Token) → grammar.one_item (suc deep) room ts p rest → closes (next_kind rest) ≡ true → sees_sep lines.Free ts ≡ false
item_no_sep deep room ts p rest (inl (is, inl t)) f = word_no_sep lines.Free w.KwDeclare ts (given_declare.holds_there ts p.0 rest t)
item_no_sep deep room ts p rest (inl (is, inr (inl t))) f = word_no_sep lines.Free w.KwType ts ((given_type deep).holds_there ts p.0 rest t)
item_no_sep deep room ts p rest (inl (is, inr (inr t))) f = let k = parts_of deep room ts t.0 rest t.1 in word_no_sep lines.Free (begin_word k.0) ts ((given_parts deep room k.0).holds_there ts t.0 rest k.1)
item_no_sep deep room ts p rest (inr (x, t, is)) f = ((inside_of deep (suc room)).opens levels.Module lines.Free ts x rest t f).no_sep lines.Free

abbrev pub with_items : Found → List Item → ℕ → Found
with_items found all count = record { items = found.items ++ all; tokens = found.tokens + count }

same_found : (found : Found) → with_items found [] 0 ≡ found
same_found found = let a = append-nil found.items in let e : found.tokens + 0 ≡ found.tokens = omega arith in rw (a, e) refl

more_found : (found : Found) (p : Item × ℕ) (all : List Item) (count : ℕ) → with_items (with_item found p) all count ≡ with_items found (p.0 ∷ all) (p.1 + count)
more_found found p all count =
    let a = append_assoc found.items (p.0 ∷ []) all in
    let e : (found.tokens + p.1) + count ≡ found.tokens + (p.1 + count) = omega arith in
    rw (a, e) refl

one_found : (found : Found) (p : Item × ℕ) → with_item found p ≡ with_items found (p.0 ∷ []) p.1
one_found found p = refl

-- a turn with an item, and those that follow
item_turns : (deep room : ℕ) → (n : ℕ) (found : Found) (ts : List Token) (p : Item × ℕ) (between rest : List Token) → grammar.one_item (suc deep) room ts p between → IsEnd between rest
    → repeat (item_turn (suc deep) room) (suc n) found ts ≡ repeat (item_turn (suc deep) room) n (with_item found p) rest
unfolding repeat more_items
item_turns deep room n found ts p between rest t e =
    rw (turn_is deep room found ts (item_some deep room ts p between t), item_no_sep deep room ts p between t (end_closes between rest e), item_finds deep room found ts p between rest t e) refl

at_end_is : (deep room : ℕ) → (n : ℕ) (found : Found) → repeat (item_turn (suc deep) room) (suc n) found [] ≡ Ok (found, [])
unfolding repeat item_turn first
at_end_is deep room n found = refl

pub items_finds : (deep room : ℕ) → (n : ℕ) (found : Found) (ts : List Token) (all : List Item) (count : ℕ) → Items (suc deep) room ts all count → length ts < n → repeat (item_turn (suc deep) room) n found ts ≡ Ok (with_items found all count, [])
unfolding repeat more_items
items_finds deep room zero found ts all count i few = absurd (omega arith)
items_finds deep room (suc n) found ts all count none few = at_end_is deep room n found ∙ ap (λ (f : Found). Ok (f, [])) (sym (same_found found))
items_finds deep room (suc n) found ts all count (blank a b c is i) few =
    let less = sep_less lines.Free ts is in
    rw (turn_is deep room found ts (sep_some ts is), is) (items_finds deep room n found (next ts) all count i (omega arith))
items_finds deep room (suc zero) found ts all count (last a p t) few =
    let s = item_some deep room ts p [] t in let l = ap length s.is in absurd (omega arith)
items_finds deep room (suc (suc n)) found ts all count (last a p t) few =
    item_turns deep room (suc n) found ts p [] [] t (inl (refl, refl)) ∙ at_end_is deep room n (with_item found p) ∙ ap (λ (f : Found). Ok (f, [])) (one_found found p)
items_finds deep room (suc n) found ts all count (some a between p b c t is i) few =
    let s = item_some deep room ts p between t in
    let less = rest_less ts between (next between) (item_within deep room ts p between t) (inr (is, refl)) s.token s.more s.is in
    item_turns deep room n found ts p between (next between) t (inr (is, refl)) ∙ items_finds deep room n (with_item found p) (next between) b c i (omega arith) ∙ ap (λ (f : Found). Ok (f, [])) (more_found found p b c)

made_tree : (tokens : TokenList) (tree : Tree) → tree.last_line ≡ tokens.last_line → record { items = tree.items; tokens = 0 + tree.tokens; last_line = tokens.last_line } ≡ tree
made_tree tokens tree is = let e : 0 + tree.tokens ≡ tree.tokens = omega arith in rw (e, sym is) refl

pub text_found : (tokens : TokenList) (tree : Tree) → IsText tokens.items tokens.last_line tree → tree_of tokens ≡ Ok tree
unfolding module_
text_found tokens tree t =
    ap (told tokens) (items_finds 199 199 (length tokens.items + 1) (record { items = []; tokens = 0 }) tokens.items tree.items tree.tokens t.0 (omega arith)) ∙ ap Ok (made_tree tokens tree t.1)

pub one_text : (tokens : TokenList) (one other : Tree) → IsText tokens.items tokens.last_line one → IsText tokens.items tokens.last_line other → one ≡ other
one_text tokens one other p q = ap (tree_or one) (sym (text_found tokens one p) ∙ text_found tokens other q)
