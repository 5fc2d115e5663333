-- Statements, procedures and Types that stand before other tokens, too.
use Rattle.std.proofs.Common.{◌≡◌, ◌≤◌, ◌<◌, ℕ, zero, suc, Bool, true, false, if◌then◌else◌, List, [], ◌∷◌, ◌++◌, length, Option, Some, None, refl, sym, ap, ◌∙◌, subst, inl, inr, arith, append_assoc, length-append}
use Rattle.fb_base.specs.declared.fault.Span.{Span}
use Rattle.fb_lexer.specs.declared.token.Token.{Token}
use Rattle.fb_lexer.specs.declared.token.TokenKind.{TokenKind}
use Rattle.fb_lexer.specs.declared.token.TokenKind.TheVariants as kinds
use Rattle.fb_lexer.specs.declared.token.Mark.{Mark}
use Rattle.fb_lexer.specs.declared.token.Mark.TheVariants.{Open, OpenBracket, CloseBracket, Equal}
use Rattle.fb_lexer.specs.declared.word.Word.{Word}
use Rattle.fb_lexer.specs.declared.word.Word.TheVariants as w
use Rattle.fb_ast.specs.declared.expr.Expr.{Expr}
use Rattle.fb_ast.specs.declared.operator.Assignment.{Assignment}
use Rattle.fb_ast.specs.declared.operator.CallWord.{CallWord}
use Rattle.fb_ast.specs.declared.part.Member.{Member}
use Rattle.fb_ast.specs.declared.part.Name.{Name}
use Rattle.fb_ast.specs.declared.stmt.Block.{Block}
use Rattle.fb_ast.specs.declared.stmt.Stmt.{Stmt}
use Rattle.fb_ast.specs.declared.stmt.Stmt.TheVariants as k
use Rattle.parse_expr.specs.declared.kinds.OperandWord.TheVariants as operands
use Rattle.parse_expr.specs.Words.{operand_word}
use Rattle.parse_expr.specs.Reading.{first, next, holds, is_mark, is_word, sees, sees_word}
use Rattle.parse_expr.specs.Productions.{Production, mark as mark_production, call_word_production, start_of, word_start}
use Rattle.parse_expr.specs.Grammar.{production_of, Is, Expression, Behind, primary as a_primary, suffix as a_suffix, prefix as a_prefix, binary as a_binary}
use Rattle.parse_expr.proofs.Ends.{Suffixes, same_end, end_of_end, no_longer}
use Rattle.parse_parts.specs.declared.kinds.Level.{Level}
use Rattle.parse_parts.specs.declared.kinds.Level.TheVariants as levels
use Rattle.parse_parts.specs.declared.kinds.InLine.{InLine}
use Rattle.parse_parts.specs.declared.kinds.InLine.TheVariants as lines
use Rattle.parse_parts.specs.declared.kinds.Lead.{Lead}
use Rattle.parse_parts.specs.declared.kinds.Lead.TheVariants as leads
use Rattle.parse_parts.specs.declared.kinds.Closer.{Closer}
use Rattle.parse_parts.specs.Words.{level_within, line_within, lead_of, is_sep}
use Rattle.parse_parts.specs.Steps.{sees_sep}
use Rattle.parse_parts.specs.Variables.{may_share}
use Rattle.parse_parts.specs.Simple.{assignment_at, exit_at, continue_at}
use Rattle.parse_parts.specs.Heads.{Opening}
use Rattle.parse_parts.specs.Members.{is_field, has_field}
use Rattle.parse_stmt.specs.Phrases.{Phrase, gives, Then, ◌>>◌, either, maybe, before, word, sep, any_token, expression, place}
use Rattle.parse_stmt.specs.Statements.{Chosen, is_alone, values, valued, call_word, assignment, end_of, Many, none, some, Statements, blank, Series, last, another}
use Rattle.parse_stmt.specs.Statements as g
use Rattle.parse_stmt.specs.Texts as texts
use Rattle.parse_stmt.specs.Texts.{Members}
use Rattle.parse_stmt.proofs.Exact.{next_kind, leave_next}
use Rattle.parse_stmt.proofs.Values.{Begun, begun}
use Rattle.parse_stmt.proofs.AlikeEnds.{call_kind}
use Rattle.parse_stmt.proofs.Likes.{Like, Fits, any, Whatever, lies, none_taken, same_front, like_then, like_less, like_gives, like_either, Looks, looks_sep, looks_mark, like_mark, like_word, like_sep, like_here, like_chosen, like_name, like_expression, like_place}
use Rattle.parse_stmt.proofs.LikeParts.{done, like_maybe, like_variables, like_dim_with, like_constant, like_values, like_valued, like_printed, like_for_head, like_test, like_last_test, like_cases, like_end_of, SameCloser, like_sub_behind, like_function_behind, like_constructor, like_destructor, like_let, like_mark_operator, like_member}

-- ---- what may come behind a statement

abbrev stop_kind : InLine → Option TokenKind → Bool
stop_kind line None = true
stop_kind line (Some kinds.LineEnd) = true
stop_kind lines.Inner (Some kinds.Colon) = true
stop_kind line other = false

-- nothing, or a line end; or a colon, where no one-line If stands
abbrev pub stops : InLine → List Token → Bool
stops line ts = stop_kind line (next_kind ts)

stop_alone_by : (line : InLine) (t : Token) (ts : List Token) (kind : TokenKind) → t.kind ≡ kind → stop_kind line (Some kind) ≡ true → is_mark Open kind ≡ false
stop_alone_by line t ts kinds.LineEnd same is = refl
stop_alone_by lines.Inner t ts kinds.Colon same is = refl
stop_alone_by lines.Free t ts kinds.Colon same is = cc
stop_alone_by lines.Series t ts kinds.Colon same is = cc
stop_alone_by line t ts (kinds.Name text) same is = cc
stop_alone_by line t ts (kinds.Mark which) same is = cc
stop_alone_by line t ts (kinds.Word which) same is = cc
stop_alone_by line t ts (kinds.Number value) same is = cc
stop_alone_by line t ts (kinds.Str text) same is = cc

pub stop_alone : (line : InLine) (ts : List Token) → stops line ts ≡ true → is_alone ts ≡ true
unfolding sees first
stop_alone line [] is = refl
stop_alone line (t ∷ ts) is = rw (stop_alone_by line t ts t.kind refl is) refl

series_no_sep_by : (kind : TokenKind) → stop_kind lines.Series (Some kind) ≡ true → (is_sep lines.Series kind ≡ false) × (is_word w.KwElse kind ≡ false)
series_no_sep_by kinds.LineEnd is = (refl, refl)
series_no_sep_by kind is = cc

-- behind a series no colon comes, and no Else
pub series_no_sep : (ts : List Token) → stops lines.Series ts ≡ true → (sees_sep lines.Series ts ≡ false) × (sees_word w.KwElse ts ≡ false)
unfolding sees_sep sees_word first
series_no_sep [] is = (refl, refl)
series_no_sep (t ∷ ts) is = series_no_sep_by t.kind is

fits_alone : (line : InLine) (mid new : List Token) → Fits (stops line) mid new → Fits is_alone mid new
fits_alone line mid new (inl same) = inl same
fits_alone line mid new (inr it) = inr (stop_alone line new it)

pub like_weaker : {A B : Type 0} {P : Phrase A} {Q : Phrase B} {R : A → B → Type 0} {C D : List Token → Bool} → Like P Q R C → ((mid new : List Token) → Fits D mid new → Fits C mid new) → Like P Q R D
like_weaker l less = record { within = l.within; moves = λ front mid new a p f. l.moves front mid new a p (less mid new f) }

-- ---- two phrases, of which both ask what comes behind them

fits_before : (C : List Token → Bool) (w mid new : List Token) → Fits C mid new → Fits C (w ++ mid) (w ++ new)
unfolding first
fits_before C [] mid new f = f
fits_before C (t ∷ w) mid new f = inl refl

module _ {A A' B B' : Type 0} {P : Phrase A} {Q : Phrase A'} {R : A → A' → Type 0} {K : A → Phrase B} {M : A' → Phrase B'} {S : B → B' → Type 0} {C : List Token → Bool}
    (l : Like P Q R C) (k : (a : A) (b : A') → R a b → Like (K a) (M b) S C) where
  if_within : (ts : List Token) (y : B) (rest : List Token) → Then P K ts y rest → Suffixes rest ts
  if_within ts y rest t =
      let s = l.within ts t.given t.between t.front in
      let m = l.moves s.front t.between t.between t.given (subst (λ (xs : List Token). P xs t.given t.between) s.is t.front) (inl refl) in
      end_of_end ((k t.given m.0 m.2).within t.between y rest t.back) s

  if_moves : (front mid new : List Token) (y : B) → Then P K (front ++ mid) y mid → Fits C mid new → (z : B') × Then Q M (front ++ new) z new × S y z
  if_moves front mid new y t f =
      let s = l.within (front ++ mid) t.given t.between t.front in
      let p = subst (λ (xs : List Token). P xs t.given t.between) s.is t.front in
      let m = l.moves s.front t.between t.between t.given p (inl refl) in
      let b = lies front mid t.between s ((k t.given m.0 m.2).within t.between y mid t.back) in
      let n = l.moves b.before t.between (b.behind ++ new) t.given p (subst (λ (xs : List Token). Fits C xs (b.behind ++ new)) (sym b.between_is) (fits_before C b.behind mid new f)) in
      let o = (k t.given n.0 n.2).moves b.behind mid new y (subst (λ (xs : List Token). K t.given xs y mid) b.between_is t.back) f in
      let whole : b.before ++ (b.behind ++ new) ≡ front ++ new = sym (append_assoc b.before b.behind new) ∙ ap (λ (xs : List Token). xs ++ new) (sym b.is) in
      (o.0, record { given = n.0; between = b.behind ++ new; front = subst (λ (xs : List Token). Q xs n.0 (b.behind ++ new)) whole n.1; back = o.1 }, o.2)

  pub like_then_if : Like (Then P K) (Then Q M) S C
  like_then_if = record { within = if_within; moves = if_moves }

given_if : {A B : Type 0} {a : A} {b : B} (C : List Token → Bool) → Like (gives a) (gives b) Whatever C
given_if {a = a} {b = b} C = like_gives Whatever C a b tt

-- what is made of the tokens before and behind a phrase, too
pub like_placed : {A B : Type 0} {P : Phrase A} {R : A → A → Type 0} {C : List Token → Bool} (f : List Token → A → List Token → B) → Like P P R C
    → Like (λ ts b rest. (a : A) × P ts a rest × (b ≡ f ts a rest)) (λ ts b rest. (a : A) × P ts a rest × (b ≡ f ts a rest)) Whatever C
like_placed f l = record {
  within = λ ts b rest p. l.within ts p.0 rest p.1;
  moves = λ front mid new b p c. let m = l.moves front mid new p.0 p.1 c in (f (front ++ new) m.0 new, (m.0, m.1, refl), tt);
}

-- ---- a token of the front

pub record Leads (front mid new : List Token) (test : List Token → Bool) : Type 0 where
  pub token : Token
  pub behind : List Token
  pub is : front ≡ token ∷ behind
  pub holds_too : test (front ++ new) ≡ true

pub leading : (test : List Token → Bool) → Looks test → (front mid new : List Token) → test (front ++ mid) ≡ true → Suffixes mid (next (front ++ mid)) → Leads front mid new test
unfolding next
leading test looks [] [] new is s = let bad : true ≡ false = sym is ∙ looks.nothing in cc
leading test looks [] (t ∷ mid) new is s = let e = ap length s.is ∙ length-append s.front (t ∷ mid) in absurd (omega arith)
leading test looks (t ∷ front) mid new is s = record { token = t; behind = front; is = refl; holds_too = looks.alone t (front ++ new) (front ++ mid) ∙ is }

-- a token between two phrases
pub record Parts (between mid : List Token) : Type 0 where
  pub token : Token
  pub behind : List Token
  pub is : between ≡ token ∷ (behind ++ mid)
  pub next_is : next between ≡ behind ++ mid

pub parting : (test : List Token → Bool) → Looks test → (between mid : List Token) → test between ≡ true → Suffixes mid (next between) → Parts between mid
unfolding next
parting test looks [] mid is s = let bad : true ≡ false = sym is ∙ looks.nothing in cc
parting test looks (c ∷ between) mid is s = record { token = c; behind = s.front; is = ap (λ (xs : List Token). c ∷ xs) s.is; next_is = s.is }

-- ---- any number of times

module _ {A B : Type 0} {P : Phrase A} {Q : Phrase B} {R : A → B → Type 0} (l : Like P Q R any) where
  many_within : (ts : List Token) (all : List A) (rest : List Token) → Many P ts all rest → Suffixes rest ts
  many_within ts all rest (none a) = same_end rest
  many_within ts all rest (some a between b x more p q) = end_of_end (many_within between more rest q) (l.within ts x between p)

  many_moves : (ts front mid new : List Token) (all : List A) → ts ≡ front ++ mid → Many P ts all mid → (bs : List B) × Many Q (front ++ new) bs new
  many_moves ts front mid new all is (none a) =
      let e = none_taken front mid is in subst (λ (xs : List Token). (bs : List B) × Many Q (xs ++ new) bs new) (sym e) ([], none new)
  many_moves ts front mid new all is (some a between c x more p q) =
      let s = l.within ts x between p in
      let b = lies front mid between (record { front = s.front; is = sym is ∙ s.is }) (many_within between more mid q) in
      let other = many_moves between b.behind mid new more b.between_is q in
      let m = l.moves b.before between (b.behind ++ new) x (subst (λ (xs : List Token). P xs x between) s.is p) (inr refl) in
      let whole : b.before ++ (b.behind ++ new) ≡ front ++ new = sym (append_assoc b.before b.behind new) ∙ ap (λ (xs : List Token). xs ++ new) (sym b.is) in
      (m.0 ∷ other.0, some (front ++ new) (b.behind ++ new) new m.0 other.0 (subst (λ (xs : List Token). Q xs m.0 (b.behind ++ new)) whole m.1) other.1)

  pub like_many : Like (Many P) (Many Q) Whatever any
  like_many = record { within = many_within; moves = λ front mid new all p f. let m = many_moves (front ++ mid) front mid new all refl p in (m.0, m.1, tt) }

-- ---- statements with ends

module _ (one : Phrase Stmt) (line : InLine) (l : Like one one Whatever (stops line)) where
  stmts_within : (ts : List Token) (all : List Stmt) (rest : List Token) → Statements one line ts all rest → Suffixes rest ts
  stmts_within ts all rest (none a) = same_end rest
  stmts_within ts all rest (blank a b more is p) = end_of_end (stmts_within (next ts) more rest p) (leave_next ts)
  stmts_within ts all rest (some a between b x more p is q) = end_of_end (stmts_within (next between) more rest q) (end_of_end (leave_next between) (l.within ts x between p))

  abbrev Stand : List Token → List Token → Type 0
  Stand ts rest = (all : List Stmt) × Statements one line ts all rest

  stmts_move : (ts front mid new : List Token) (all : List Stmt) → ts ≡ front ++ mid → Statements one line ts all mid → Stand (front ++ new) new
  unfolding next first
  stmts_move ts front mid new all is (none a) = let e = none_taken front mid is in subst (λ (xs : List Token). Stand (xs ++ new) new) (sym e) ([], none new)
  stmts_move ts front mid new all is (blank a b more it p) =
      let m = leading (sees_sep line) (looks_sep line) front mid new (ap (sees_sep line) (sym is) ∙ it) (subst (λ (xs : List Token). Suffixes mid (next xs)) is (stmts_within (next ts) more mid p)) in
      let tail : next ts ≡ m.behind ++ mid = ap next is ∙ ap (λ (xs : List Token). next (xs ++ mid)) m.is in
      let r = stmts_move (next ts) m.behind mid new more tail p in
      let back : next (front ++ new) ≡ m.behind ++ new = ap (λ (xs : List Token). next (xs ++ new)) m.is in
      (r.0, blank (front ++ new) new r.0 m.holds_too (subst (λ (xs : List Token). Statements one line xs r.0 new) (sym back) r.1))
  stmts_move ts front mid new all is (some a between c x more p it q) =
      let s = l.within ts x between p in
      let z = parting (sees_sep line) (looks_sep line) between mid it (stmts_within (next between) more mid q) in
      let b = lies front mid between (record { front = s.front; is = sym is ∙ s.is }) (record { front = z.token ∷ z.behind; is = z.is }) in
      let r = stmts_move (next between) z.behind mid new more z.next_is q in
      let tail : b.behind ≡ z.token ∷ z.behind = same_front b.behind (z.token ∷ z.behind) mid (sym b.between_is ∙ z.is) in
      let m = l.moves b.before between (z.token ∷ (z.behind ++ new)) x (subst (λ (xs : List Token). one xs x between) s.is p) (inl (ap first (sym z.is))) in
      let whole : b.before ++ (z.token ∷ (z.behind ++ new)) ≡ front ++ new = ap (λ (xs : List Token). b.before ++ (xs ++ new)) (sym tail) ∙ sym (append_assoc b.before b.behind new) ∙ ap (λ (xs : List Token). xs ++ new) (sym b.is) in
      let end : sees_sep line (z.token ∷ (z.behind ++ new)) ≡ true = (looks_sep line).alone z.token (z.behind ++ new) (z.behind ++ mid) ∙ ap (sees_sep line) (sym z.is) ∙ it in
      (m.0 ∷ r.0, some (front ++ new) (z.token ∷ (z.behind ++ new)) new m.0 r.0 (subst (λ (xs : List Token). one xs m.0 (z.token ∷ (z.behind ++ new))) whole m.1) end r.1)

  pub like_statements : Like (Statements one line) (Statements one line) Whatever any
  like_statements = record { within = stmts_within; moves = λ front mid new all p f. let m = stmts_move (front ++ mid) front mid new all refl p in (m.0, m.1, tt) }

-- ---- series

module _ (one : Phrase Stmt) (l : Like one one Whatever (stops lines.Series)) where
  series_within : (ts : List Token) (all : List Stmt) (rest : List Token) → Series one ts all rest → Suffixes rest ts
  series_within ts all rest (last a b x p apart) = l.within ts x rest p
  series_within ts all rest (another a between b x more p is q) = end_of_end (series_within (next between) more rest q) (end_of_end (leave_next between) (l.within ts x between p))

  no_colon : (mid new : List Token) → sees_sep lines.Series mid ≡ false → Fits (stops lines.Series) mid new → sees_sep lines.Series new ≡ false
  unfolding sees_sep
  no_colon mid new is (inl same) = ap (holds (is_sep lines.Series)) same ∙ is
  no_colon mid new is (inr it) = (series_no_sep new it).0

  series_moves : (ts front mid new : List Token) (all : List Stmt) → ts ≡ front ++ mid → Series one ts all mid → Fits (stops lines.Series) mid new → (bs : List Stmt) × Series one (front ++ new) bs new
  unfolding next first
  series_moves ts front mid new all is (last a b x p apart) f =
      let m = l.moves front mid new x (subst (λ (xs : List Token). one xs x mid) is p) f in (m.0 ∷ [], last (front ++ new) new m.0 m.1 (no_colon mid new apart f))
  series_moves ts front mid new all is (another a between c x more p it q) f =
      let s = l.within ts x between p in
      let z = parting (sees_sep lines.Series) (looks_sep lines.Series) between mid it (series_within (next between) more mid q) in
      let b = lies front mid between (record { front = s.front; is = sym is ∙ s.is }) (record { front = z.token ∷ z.behind; is = z.is }) in
      let r = series_moves (next between) z.behind mid new more z.next_is q f in
      let tail : b.behind ≡ z.token ∷ z.behind = same_front b.behind (z.token ∷ z.behind) mid (sym b.between_is ∙ z.is) in
      let m = l.moves b.before between (z.token ∷ (z.behind ++ new)) x (subst (λ (xs : List Token). one xs x between) s.is p) (inl (ap first (sym z.is))) in
      let whole : b.before ++ (z.token ∷ (z.behind ++ new)) ≡ front ++ new = ap (λ (xs : List Token). b.before ++ (xs ++ new)) (sym tail) ∙ sym (append_assoc b.before b.behind new) ∙ ap (λ (xs : List Token). xs ++ new) (sym b.is) in
      let end : sees_sep lines.Series (z.token ∷ (z.behind ++ new)) ≡ true = (looks_sep lines.Series).alone z.token (z.behind ++ new) (z.behind ++ mid) ∙ ap (sees_sep lines.Series) (sym z.is) ∙ it in
      (m.0 ∷ r.0, another (front ++ new) (z.token ∷ (z.behind ++ new)) new m.0 r.0 (subst (λ (xs : List Token). one xs m.0 (z.token ∷ (z.behind ++ new))) whole m.1) end r.1)

  pub like_series : Like (Series one) (Series one) Whatever (stops lines.Series)
  like_series = record { within = series_within; moves = λ front mid new all p f. let m = series_moves (front ++ mid) front mid new all refl p f in (m.0, m.1, tt) }

-- ---- from a token on

-- What begins with a token stands before other tokens, too.
pub record From (P : Phrase Stmt) (t : Token) (C : List Token → Bool) : Type 0 where
  pub within : (more : List Token) (x : Stmt) (rest : List Token) → P (t ∷ more) x rest → Suffixes rest more
  pub moves : (front mid new : List Token) (x : Stmt) → P (t ∷ (front ++ mid)) x mid → Fits C mid new → (z : Stmt) × P (t ∷ (front ++ new)) z new

from_by : {K : Unit {0} → Phrase Stmt} {C : List Token → Bool} (t : Token) → Like (K tt) (K tt) Whatever C → (more : List Token) (x : Stmt) (rest : List Token) → Then any_token K (t ∷ more) x rest → K tt more x rest
unfolding next
from_by {K = K} t l more x rest p = subst (λ (xs : List Token). K tt xs x rest) p.front p.back

pub from_token : {K : Unit {0} → Phrase Stmt} {C : List Token → Bool} (t : Token) → Like (K tt) (K tt) Whatever C → From (Then any_token K) t C
unfolding next
from_token {K = K} t l = record {
  within = λ more x rest p. l.within more x rest (from_by t l more x rest p);
  moves = λ front mid new x p f.
      let m = l.moves front mid new x (from_by t l (front ++ mid) x mid p) f in
      (m.0, record { given = tt; between = front ++ new; front = refl; back = m.1 });
}

abbrev next_of : List Token → List Token
next_of [] = []
next_of (t ∷ ts) = ts

taken_tail : (t : Token) (more rest f : List Token) (u : Token) (g : List Token) → t ∷ more ≡ f ++ rest → f ≡ u ∷ g → Suffixes rest more
taken_tail t more rest f u g is same = record { front = g; is = ap (λ (xs : List Token). next_of xs) (is ∙ ap (λ (xs : List Token). xs ++ rest) same) }

-- ---- what a token alone is not

abbrev first_of : Token → List Token → Token
first_of other [] = other
first_of other (t ∷ ts) = t

abbrev production_in : Production → Option Production → Production
production_in other None = other
production_in other (Some production) = production

no_mark_production : {which : Mark} {production : Production} {deepest depth : ℕ} {tree : Expr} → Is (Behind (mark_production which production) deepest depth tree) [] → ⊥
no_mark_production is = elim is [ ]

two_tokens : (front : List Token) (u : Token) (back : List Token) (t : Token) {level : ℕ} → Begun level front → front ++ u ∷ back ≡ t ∷ [] → ⊥
two_tokens front u back t b same =
    let e = ap length same in
    let f = length-append front (u ∷ back) in
    let h = ap length b.is in
    absurd (omega arith)

pub chosen_less : {A : Type 0} {table : Option Token → Option A} (ts : List Token) (a : A) (rest : List Token) → Chosen table ts a rest → length rest ≤ length ts
chosen_less ts a rest c = no_longer (rw (c.behind) (leave_next ts))

open_first : (a b : List Token) → first a ≡ first b → sees Open a ≡ sees Open b
unfolding sees
open_first a b is = ap (holds (is_mark Open)) is

not_open : (b : Bool) → (if b then false else true) ≡ true → b ≡ false
not_open true is = cc
not_open false is = refl

no_open_moves : (front mid new : List Token) → sees Open (front ++ mid) ≡ false → Fits is_alone mid new → sees Open (front ++ new) ≡ false
unfolding first
no_open_moves [] mid new is (inl same) = open_first new mid same ∙ is
no_open_moves [] mid new is (inr it) = not_open (sees Open new) it
no_open_moves (t ∷ front) mid new is f = open_first (t ∷ (front ++ new)) (t ∷ (front ++ mid)) refl ∙ is

-- where a one-line If may stand
abbrev stops_series : InLine → Type 0
stops_series lines.Free = Unit {0}
stops_series lines.Series = Unit {0}
stops_series lines.Inner = ⊥

free_by : (o : Option TokenKind) → stop_kind lines.Free o ≡ true → stop_kind lines.Series o ≡ true
free_by None is = refl
free_by (Some kinds.LineEnd) is = refl
free_by (Some kind) is = cc

pub free_stops : (ts : List Token) → stops lines.Free ts ≡ true → stops lines.Series ts ≡ true
free_stops ts is = free_by (next_kind ts) is

abbrev none_at : Option (Span × Block)
none_at = None

has_both : (x y : Member) (a b : List Member) → is_field x ≡ is_field y → has_field a ≡ has_field b → has_field (x ∷ a) ≡ has_field (y ∷ b)
unfolding has_field
has_both x y a b p q = rw (p, q) refl

-- ---- values

module _ (most : ℕ) where
  place_tail : (t : Token) (more : List Token) (x : Expr) (rest : List Token) → place most (t ∷ more) x rest → Suffixes rest more
  place_tail t more x rest p = let b = begun p.4 in taken_tail t more rest p.0 b.token b.more p.2 b.is

  abbrev Assigned : Span → Expr → Phrase Stmt
  Assigned at left = Then g.assigns (λ how. Then (expression most) (λ x. gives (k.Assign at left how.0 how.1 x)))

  like_assigned : (at : Span) (left : Expr) → Like (Assigned at left) (Assigned at left) Whatever any
  like_assigned at left = like_then (like_chosen assignment_at refl) (λ h i q. like_then (like_expression most) (λ a b e. done))

  like_rest_of : (at : Span) (n : Name) → Like (Then (values most) (λ all. gives (k.CallName at n all))) (Then (values most) (λ all. gives (k.CallName at n all))) Whatever any
  like_rest_of at n = like_then (like_values most) (λ a b q. done)

  valued_tail : (at : Span) (t : Token) (more : List Token) (x : Stmt) (rest : List Token) → valued most at (t ∷ more) x rest → Suffixes rest more
  valued_tail at t more x rest (inl p) = end_of_end ((like_assigned at p.given).within p.between x rest p.back) (place_tail t more p.given p.between p.front)
  valued_tail at t more x rest (inr (inl p)) = let e = p.back.front.2 in end_of_end (rw (p.back.back.1 ∙ e) (same_end p.between)) (place_tail t more p.given p.between p.front)
  valued_tail at t more x rest (inr (inr p)) = end_of_end ((like_rest_of at p.given).within p.between x rest p.back) (taken_tail t more p.between (p.front.0.token ∷ []) p.front.0.token [] p.front.0.is refl)

  from_valued : (at : Span) (t : Token) (line : InLine) → From (valued most at) t (stops line)
  from_valued at t line = record {
    within = λ more x rest p. valued_tail at t more x rest p;
    moves = λ front mid new x p f. let m = (like_valued most at).moves (t ∷ front) mid new x p (fits_alone line mid new f) in (m.0, m.1);
  }

  -- a word that is called is no place alone
  lone_word : (t : Token) (word : Word) (which : CallWord) → t.kind ≡ kinds.Word word → operand_word word ≡ operands.Call which → {level depth : ℕ} {tree : Expr} {ts : List Token} → Is (Expression level depth tree) ts → ts ≡ t ∷ [] → ⊥
  lone_word t word which kind is (a_primary u production us level depth tree none_before begins low r) same =
      let head : u ≡ t = ap (first_of u) same in
      let tail : us ≡ [] = ap next_of same in
      let start : production_of (start_of u.at u.kind) ≡ Some (call_word_production u.at which) = ap (λ (k : TokenKind). production_of (start_of u.at k)) (ap (λ (x : Token). x.kind) head ∙ kind) ∙ ap (λ (o : _). production_of (word_start u.at o)) is in
      let it : production ≡ call_word_production u.at which = ap (production_in production) (sym begins ∙ start) in
      no_mark_production (subst (λ (xs : List Token). Is (Behind (call_word_production u.at which) 0 depth tree) xs) tail (subst (λ (x : Production). Is (Behind x 0 depth tree) us) it r))
  lone_word t word which kind is (a_suffix front u back suffix left d level depth tree a b low l r) same = two_tokens front u back t (begun l) same
  lone_word t word which kind is (a_prefix u us operator p d level operand a low r) same =
      let b = begun r in let e = ap length same in let f = ap length b.is in absurd (omega arith)
  lone_word t word which kind is (a_binary front u back operator p c d level left right a low l r) same = two_tokens front u back t (begun l) same

  abbrev ThenWhole : Span → Expr → Assignment × Span → Phrase Stmt
  ThenWhole at left how = Then (expression most) (λ x. gives (k.Assign at left how.0 how.1 x))

  like_then_whole : (at : Span) (left : Expr) (how : Assignment × Span) → Like (ThenWhole at left how) (ThenWhole at left how) Whatever any
  like_then_whole at left how = like_then (like_expression most) (λ a b r. done)

  whole_less : (at : Span) (left : Expr) (how : Assignment × Span) (ts : List Token) (x : Stmt) (rest : List Token) → ThenWhole at left how ts x rest → length rest < length ts
  whole_less at left how ts x rest p =
      let e = p.front in
      let b = begun e.2.2 in
      let f = ap length e.1 ∙ length-append e.0 p.between in
      let h = ap length b.is in
      let i = ap length p.back.1 in
      omega arith

  lone_valued : (at : Span) (t : Token) (word : Word) (which : CallWord) → t.kind ≡ kinds.Word word → operand_word word ≡ operands.Call which → (mid : List Token) (x : Stmt) → valued most at (t ∷ mid) x mid → ⊥
  lone_valued at t word which kind is mid x (inl p) =
      let a = no_longer (place_tail t mid p.given p.between p.front) in
      let c = p.back in
      let b = chosen_less p.between c.given c.between c.front in
      let d = whole_less at p.given c.given c.between x mid c.back in
      absurd (omega arith)
  lone_valued at t word which kind is mid x (inr (inl p)) =
      let e : p.between ≡ mid = sym (p.back.back.1 ∙ p.back.front.2) in
      let whole : p.front.0 ≡ t ∷ [] = sym (same_front (t ∷ []) p.front.0 mid (p.front.2 ∙ ap (λ (xs : List Token). p.front.0 ++ xs) e)) in
      lone_word t word which kind is p.front.4 whole
  lone_valued at t word which kind is mid x (inr (inr p)) =
      let head : t ≡ p.front.0.token = ap (first_of t) p.front.0.is in
      let bad : kinds.Word word ≡ kinds.Name p.front.0.text = sym kind ∙ ap (λ (y : Token). y.kind) head ∙ p.front.0.kind in
      cc

  abbrev CallValues : Span → CallWord → Phrase Stmt
  CallValues at which = Then (values most) (λ all. gives (k.CallWord at which all))

  like_call_values : (at : Span) (which : CallWord) → Like (CallValues at which) (CallValues at which) Whatever any
  like_call_values at which = like_then (like_values most) (λ a b r. done)

  call_moves : (at : Span) (t : Token) (word : Word) (which : CallWord) → t.kind ≡ kinds.Word word → operand_word word ≡ operands.Call which → (line : InLine) (front mid new : List Token) (x : Stmt)
      → call_word most at which (t ∷ (front ++ mid)) x mid → Fits (stops line) mid new → (z : Stmt) × call_word most at which (t ∷ (front ++ new)) z new
  unfolding next
  call_moves at t word which kind is line [] mid new x (inl p) f = absurd (lone_valued at t word which kind is mid x p.1)
  call_moves at t word which kind is line (u ∷ front) mid new x (inl p) f =
      let m = (like_valued most at).moves (t ∷ u ∷ front) mid new x p.1 (fits_alone line mid new f) in
      (m.0, inl ((looks_mark Open).alone u (front ++ new) (front ++ mid) ∙ p.0, m.1))
  call_moves at t word which kind is line front mid new x (inr p) f =
      let m = (from_token t (like_call_values at which)).moves front mid new x p.1 (inr refl) in
      (m.0, inr (no_open_moves front mid new p.0 (fits_alone line mid new f), m.1))

  call_within : (at : Span) (t : Token) (which : CallWord) (more : List Token) (x : Stmt) (rest : List Token) → call_word most at which (t ∷ more) x rest → Suffixes rest more
  call_within at t which more x rest (inl p) = valued_tail at t more x rest p.1
  call_within at t which more x rest (inr p) = (from_token t (like_call_values at which)).within more x rest p.1

  from_call : (at : Span) (t : Token) (level : Level) (which : CallWord) → lead_of level t.kind ≡ leads.Call which → (line : InLine) → From (call_word most at which) t (stops line)
  from_call at t level which is line = record {
    within = λ more x rest p. call_within at t which more x rest p;
    moves = λ front mid new x p f. let c = call_kind level t.kind which is in call_moves at t c.0 which c.1 c.2 line front mid new x p f;
  }

  -- ---- statements inside

  module _ (inner : Level → InLine → Phrase Stmt) (l : (level : Level) (line : InLine) → Like (inner level line) (inner level line) Whatever (stops line)) where
    pub like_body : (level : Level) (line : InLine) → Like (g.body most inner level line) (g.body most inner level line) Whatever any
    like_body level line = like_then (like_statements (inner level line) line (l level line)) (λ a b r. like_then like_here (λ x y q. done))

    pub like_then_series : (level : Level) → Like (g.then_series most inner level) (g.then_series most inner level) Whatever (stops lines.Series)
    like_then_series level = like_placed _ (like_series (inner level lines.Series) (l level lines.Series))

    like_else_series : (level : Level) → Like (g.else_series most inner level) (g.else_series most inner level) Whatever (stops lines.Series)
    like_else_series level = like_placed _ (like_series (inner level lines.Series) (l level lines.Series))

    abbrev no_else : List Token → Bool
    no_else rest = if sees_word w.KwElse rest then false else true

    none_moves : (mid new : List Token) → no_else mid ≡ true → Fits (stops lines.Series) mid new → no_else new ≡ true
    unfolding sees_word
    none_moves mid new is (inl same) = ap (λ (o : Option Token). if holds (is_word w.KwElse) o then false else true) same ∙ is
    none_moves mid new is (inr it) = ap (λ (b : Bool). if b then false else true) (series_no_sep new it).1

    like_no_else : Like (before no_else (gives none_at)) (before no_else (gives none_at)) Whatever (stops lines.Series)
    like_no_else = record {
      within = λ ts a rest p. rw (p.0.1) (same_end ts);
      moves = λ front mid new a p f.
          let e = none_taken front mid p.0.1 in
          (none_at, ((refl, ap (λ (xs : List Token). xs ++ new) (sym e)), none_moves mid new p.1 f), tt);
    }

    pub like_series_other : (level : Level) → Like (g.series_other most inner level) (g.series_other most inner level) Whatever (stops lines.Series)
    like_series_other level = like_either
        (like_then_if (like_less (stops lines.Series) like_here) (λ at bt r. like_then_if (like_less (stops lines.Series) (like_word w.KwElse)) (λ u v q. like_then_if (like_else_series level) (λ a b e. given_if (stops lines.Series)))))
        like_no_else

    pub like_if_series : (at : Span) (condition : Expr) (level : Level) → Like (g.if_series most inner at condition level) (g.if_series most inner at condition level) Whatever (stops lines.Series)
    like_if_series at condition level = like_then_if (like_then_series level) (λ a b r. like_then_if (like_series_other level) (λ c d q. given_if (stops lines.Series)))

    pub like_branch : (at bt : Span) (one other : Expr) (level : Level) (line : InLine) → Like (g.branch most inner at one level line) (g.branch most inner bt other level line) Whatever any
    like_branch at bt one other level line = like_then (like_body level line) (λ a b r. done)

    pub like_else_if : (level : Level) (line : InLine) → Like (g.else_if most inner level line) (g.else_if most inner level line) Whatever any
    like_else_if level line = like_then like_here (λ at bt r. like_then (like_word w.KwElseIf) (λ u v q. like_then (like_expression most) (λ a b e. like_then (like_word w.KwThen) (λ x y f. like_then (like_sep line) (λ c d h. like_branch at bt a b level line)))))

    pub like_last_else : (level : Level) (line : InLine) → Like (g.last_else most inner level line) (g.last_else most inner level line) Whatever any
    like_last_else level line = like_either (like_then like_here (λ at bt r. like_then (like_word w.KwElse) (λ u v q. like_then (like_then (like_sep line) (λ x y e. like_body level line)) (λ a b f. done)))) done

    like_if_block : (at : Span) (condition : Expr) (level : Level) (line : InLine) → Like (g.if_block most inner at condition level line) (g.if_block most inner at condition level line) Whatever any
    like_if_block at condition level line = like_then (like_branch at at condition condition level line) (λ a b r. like_then (like_many (like_else_if level line)) (λ c d q. like_then (like_last_else level line) (λ e f h. like_then (like_end_of w.KwIf) (λ x y i. done))))

    series_fits : (line : InLine) → (mid new : List Token) → stops_series line → Fits (stops line) mid new → Fits (stops lines.Series) mid new
    series_fits lines.Free mid new ok (inl same) = inl same
    series_fits lines.Free mid new ok (inr it) = inr (free_stops new it)
    series_fits lines.Series mid new ok f = f
    series_fits lines.Inner mid new ok f = absurd ok

    like_if_line : (line : InLine) (at : Span) (condition : Expr) (level : Level) → Like (g.if_line most inner line at condition level) (g.if_line most inner line at condition level) Whatever (stops line)
    like_if_line lines.Free at condition level = like_weaker (like_if_series at condition level) (λ mid new f. series_fits lines.Free mid new tt f)
    like_if_line lines.Series at condition level = like_if_series at condition level
    like_if_line lines.Inner at condition level = record { within = λ ts x rest p. absurd p; moves = λ front mid new x p f. absurd p }

    abbrev pub IfBehind : Span → Level → InLine → Expr → Phrase Stmt
    IfBehind at level line condition = either (sep line >> g.if_block most inner at condition (level_within level) (line_within line)) (g.if_line most inner line at condition (level_within level))

    pub like_if_behind : (a b : Expr) → a ≡ b → (at : Span) (level : Level) (line : InLine) → Like (IfBehind at level line a) (IfBehind at level line b) Whatever (stops line)
    like_if_behind a b r at level line = subst (λ (z : Expr). Like (IfBehind at level line a) (IfBehind at level line z) Whatever (stops line)) r
        (like_either (like_less (stops line) (like_then (like_sep line) (λ u v q. like_if_block at a (level_within level) (line_within line)))) (like_if_line line at a (level_within level)))

    like_if : (at : Span) (level : Level) (line : InLine) → Like (Then (expression most) (λ condition. Then (word w.KwThen) (λ u. either (sep line >> g.if_block most inner at condition (level_within level) (line_within line)) (g.if_line most inner line at condition (level_within level)))))
        (Then (expression most) (λ condition. Then (word w.KwThen) (λ u. either (sep line >> g.if_block most inner at condition (level_within level) (line_within line)) (g.if_line most inner line at condition (level_within level))))) Whatever (stops line)
    like_if at level line = like_then (like_expression most) (λ a b r. like_then (like_word w.KwThen) (λ u v q. like_if_behind a b r at level line))

    -- ---- loops

    pub like_for_tail : (level : Level) (line : InLine) → Like (g.for_tail most inner level line) (g.for_tail most inner level line) Whatever any
    like_for_tail level line = like_then (like_sep line) (λ u v r. like_then (like_body level line) (λ a b q. like_then (like_word w.KwNext) (λ x y e. like_then (like_maybe like_name) (λ c d f. done))))

    abbrev While : Span → Level → InLine → Phrase Stmt
    While at level line = Then (expression most) (λ condition. Then (sep line) (λ u. Then (g.body most inner level line) (λ b. Then (word w.KwWend) (λ x. gives (k.While at condition b)))))

    like_while : (at : Span) (level : Level) (line : InLine) → Like (While at level line) (While at level line) Whatever any
    like_while at level line = like_then (like_expression most) (λ c d r. like_then (like_sep line) (λ u v q. like_then (like_body level line) (λ a b e. like_then (like_word w.KwWend) (λ x y f. done))))

    abbrev Do : Span → Level → InLine → Phrase Stmt
    Do at level line = Then (maybe (g.test most)) (λ one. Then (sep line) (λ u. Then (g.body most inner level line) (λ b. Then (word w.KwLoop) (λ x. Then (g.last_test most one) (λ other. gives (k.Do at one b other))))))

    like_do : (at : Span) (level : Level) (line : InLine) → Like (Do at level line) (Do at level line) Whatever any
    like_do at level line = like_then (like_maybe (like_test most)) (λ one other r. like_then (like_sep line) (λ u v q. like_then (like_body level line) (λ a b e. like_then (like_word w.KwLoop) (λ x y f. like_then (like_last_test most one other r) (λ c d h. done)))))

    -- ---- Select and Scope

    pub like_case_branch : (level : Level) (line : InLine) → Like (g.case_branch most inner level line) (g.case_branch most inner level line) Whatever any
    like_case_branch level line = like_then like_here (λ at bt r. like_then (like_word w.KwCase) (λ u v q. like_then (like_cases most) (λ a b e. like_then (like_sep line) (λ x y f. like_then (like_body level line) (λ c d h. done)))))

    abbrev Select : Span → Level → InLine → Phrase Stmt
    Select at level line = Then (word w.KwCase) (λ u. Then (expression most) (λ x. Then (sep line) (λ y. Then (Many (g.case_branch most inner level line)) (λ all. Then (end_of w.KwSelect) (λ end. gives (k.Select at x all end))))))

    like_select : (at : Span) (level : Level) (line : InLine) → Like (Select at level line) (Select at level line) Whatever any
    like_select at level line = like_then (like_word w.KwCase) (λ u v r. like_then (like_expression most) (λ a b q. like_then (like_sep line) (λ x y e. like_then (like_many (like_case_branch level line)) (λ c d f. like_then (like_end_of w.KwSelect) (λ h i j. done)))))

    abbrev Scope : Span → Level → InLine → Phrase Stmt
    Scope at level line = Then (sep line) (λ u. Then (g.body most inner level line) (λ b. Then (end_of w.KwScope) (λ x. gives (k.Scope at b))))

    like_scope : (at : Span) (level : Level) (line : InLine) → Like (Scope at level line) (Scope at level line) Whatever any
    like_scope at level line = like_then (like_sep line) (λ u v r. like_then (like_body level line) (λ a b q. like_then (like_end_of w.KwScope) (λ x y e. done)))

    abbrev For : Span → Level → InLine → Phrase Stmt
    For at level line = Then (g.for_head most) (λ head. Then (g.for_tail most inner level line) (λ tail. gives (k.For at head.0 head.1 head.2.0 head.2.1 head.2.2 tail.0 tail.1)))

    like_for : (at : Span) (level : Level) (line : InLine) → Like (For at level line) (For at level line) Whatever any
    like_for at level line = like_then (like_for_head most) (λ a b r. like_then (like_for_tail level line) (λ c d q. done))

    -- ---- statements

    from_any : {K : Unit {0} → Phrase Stmt} (line : InLine) (t : Token) → Like (K tt) (K tt) Whatever any → From (Then any_token K) t (stops line)
    from_any line t m = from_token t (like_less (stops line) m)

    from_led : (t : Token) (level : Level) (line : InLine) (lead : Lead) → lead_of level t.kind ≡ lead → From (g.led most inner t.at level line lead) t (stops line)
    from_led t level line leads.Dim is = from_any line t (like_dim_with most (may_share level) t.at)
    from_led t level line leads.Static is = from_any line t (like_variables most t.at _)
    from_led t level line leads.Const is = from_any line t (like_constant most t.at)
    from_led t level line leads.Function is = from_any line t (like_then (like_mark Equal) (λ u v r. like_then (like_expression most) (λ a b q. done)))
    from_led t level line leads.Print is = from_any line t (like_then (like_printed most) (λ a b r. done))
    from_led t level line leads.Line is = from_any line t (like_then (like_word w.KwInput) (λ u v r. like_then (like_place most) (λ a b q. done)))
    from_led t level line leads.If is = from_token t (like_if t.at level line)
    from_led t level line leads.For is = from_any line t (like_for t.at (level_within level) (line_within line))
    from_led t level line leads.While is = from_any line t (like_while t.at (level_within level) (line_within line))
    from_led t level line leads.Do is = from_any line t (like_do t.at (level_within level) (line_within line))
    from_led t level line leads.Select is = from_any line t (like_select t.at (level_within level) (line_within line))
    from_led t level line leads.Scope is = from_any line t (like_scope t.at (level_within level) (line_within line))
    from_led t level line leads.Exit is = from_any line t (like_then (like_chosen exit_at refl) (λ a b r. done))
    from_led t level line leads.Continue is = from_any line t (like_then (like_chosen continue_at refl) (λ a b r. done))
    from_led t level line leads.Return is = from_any line t (like_then (like_maybe (like_expression most)) (λ a b r. done))
    from_led t level line leads.Delete is = from_any line t (like_then (like_either (like_then (like_mark OpenBracket) (λ u v r. like_then (like_mark CloseBracket) (λ x y q. done))) done) (λ a b r. like_then (like_expression most) (λ c d q. done)))
    from_led t level line leads.End is = from_any line t (like_then (like_maybe (like_expression most)) (λ a b r. done))
    from_led t level line (leads.Call which) is = from_call t.at t level which is line
    from_led t level line leads.Value is = from_valued t.at t line
    from_led t level line leads.Nothing is = record { within = λ more x rest p. absurd p; moves = λ front mid new x p f. absurd p }

    stmt_within : (level : Level) (line : InLine) (ts : List Token) (x : Stmt) (rest : List Token) → g.statement most inner level line ts x rest → Suffixes rest ts
    stmt_within level line ts x rest p =
        let s = (from_led p.0 level line (lead_of level p.0.kind) refl).within p.1 x rest (subst (λ (xs : List Token). g.led most inner p.0.at level line (lead_of level p.0.kind) xs x rest) p.2 p.3) in
        record { front = p.0 ∷ s.front; is = p.2 ∙ ap (λ (xs : List Token). p.0 ∷ xs) s.is }

    stmt_moves : (level : Level) (line : InLine) (front mid new : List Token) (x : Stmt) → g.statement most inner level line (front ++ mid) x mid → Fits (stops line) mid new → (z : Stmt) × g.statement most inner level line (front ++ new) z new × Unit {0}
    stmt_moves level line front mid new x p f =
        let d = from_led p.0 level line (lead_of level p.0.kind) refl in
        let q = subst (λ (xs : List Token). g.led most inner p.0.at level line (lead_of level p.0.kind) xs x mid) p.2 p.3 in
        let s = d.within p.1 x mid q in
        let m = d.moves s.front mid new x (subst (λ (xs : List Token). g.led most inner p.0.at level line (lead_of level p.0.kind) (p.0 ∷ xs) x mid) s.is q) f in
        let whole : front ≡ p.0 ∷ s.front = same_front front (p.0 ∷ s.front) mid (p.2 ∙ ap (λ (xs : List Token). p.0 ∷ xs) s.is) in
        let all : front ++ new ≡ p.0 ∷ (s.front ++ new) = ap (λ (xs : List Token). xs ++ new) whole in
        (m.0, (p.0, s.front ++ new, all, subst (λ (xs : List Token). g.led most inner p.0.at level line (lead_of level p.0.kind) xs m.0 new) (sym all) m.1), tt)

    pub like_statement : (level : Level) (line : InLine) → Like (g.statement most inner level line) (g.statement most inner level line) Whatever (stops line)
    like_statement level line = record { within = stmt_within level line; moves = stmt_moves level line }

  pub like_stmt : (room : ℕ) (level : Level) (line : InLine) → Like (g.stmt most room level line) (g.stmt most room level line) Whatever (stops line)
  like_stmt zero level line = record { within = λ ts x rest p. absurd p; moves = λ front mid new x p f. absurd p }
  like_stmt (suc room) level line = like_statement (g.stmt most room) (like_stmt room) level line

  -- ---- procedures and Types

  pub like_ended_by : (room : ℕ) (closer : Closer) → Like (texts.ended_by most room closer) (texts.ended_by most room closer) Whatever any
  like_ended_by room closer = like_then (like_sep lines.Free) (λ u v r. like_then (like_body (g.stmt most room) (like_stmt room) levels.Procedure lines.Free) (λ a b q. like_then (like_end_of (texts.end_word closer)) (λ x y e. done)))

  like_with : (room : ℕ) (which : Word) (p : Span → Phrase Opening) → ((at bt : Span) → Like (p at) (p bt) SameCloser any) → Like (texts.procedure_with most room which p) (texts.procedure_with most room which p) Whatever any
  like_with room which p l = like_then like_here (λ at bt r. like_then (like_word which) (λ u v q. like_then (l at bt) (λ o p e.
      like_then (subst (λ (c : Closer). Like (texts.ended_by most room o.1) (texts.ended_by most room c) Whatever any) e (like_ended_by room o.1)) (λ a b f. done))))

  like_parts : (room : ℕ) → Like (texts.procedure_parts most room) (texts.procedure_parts most room) Whatever any
  like_parts room = like_either (like_with room w.KwSub _ (λ at bt. like_then like_name (λ n m r. like_sub_behind at bt n m)))
      (like_either (like_with room w.KwFunction _ (λ at bt. like_then like_name (λ n m r. like_function_behind at bt n m)))
      (like_either (like_with room w.KwConstructor _ like_constructor)
      (like_either (like_with room w.KwDestructor _ like_destructor)
      (like_with room w.KwOperator _ (λ at bt. like_either (like_let at bt) (like_mark_operator at bt))))))

  pub like_procedure : (room : ℕ) → Like (texts.procedure most room) (texts.procedure most room) Whatever any
  like_procedure room = like_placed _ (like_parts room)

  abbrev pub SameFields : List Member → List Member → Type 0
  SameFields a b = has_field a ≡ has_field b

  members_within : (ts : List Token) (all : List Member) (rest : List Token) → Members most ts all rest → Suffixes rest ts
  members_within ts all rest (texts.none a) = same_end rest
  members_within ts all rest (texts.some a between b x more p is q) = end_of_end (members_within (next between) more rest q) (end_of_end (leave_next between) ((like_member most).within ts x between p))

  members_move : (ts front mid new : List Token) (all : List Member) → ts ≡ front ++ mid → Members most ts all mid → (bs : List Member) × Members most (front ++ new) bs new × SameFields all bs
  unfolding next first
  members_move ts front mid new all is (texts.none a) =
      let e = none_taken front mid is in subst (λ (xs : List Token). (bs : List Member) × Members most (xs ++ new) bs new × SameFields [] bs) (sym e) ([], texts.none new, refl)
  members_move ts front mid new all is (texts.some a between c x more p it q) =
      let l = like_member most in
      let s = l.within ts x between p in
      let z = parting (sees_sep lines.Free) (looks_sep lines.Free) between mid it (members_within (next between) more mid q) in
      let b = lies front mid between (record { front = s.front; is = sym is ∙ s.is }) (record { front = z.token ∷ z.behind; is = z.is }) in
      let r = members_move (next between) z.behind mid new more z.next_is q in
      let tail : b.behind ≡ z.token ∷ z.behind = same_front b.behind (z.token ∷ z.behind) mid (sym b.between_is ∙ z.is) in
      let m = l.moves b.before between (z.token ∷ (z.behind ++ new)) x (subst (λ (xs : List Token). texts.one_member most xs x between) s.is p) (inl (ap first (sym z.is))) in
      let whole : b.before ++ (z.token ∷ (z.behind ++ new)) ≡ front ++ new = ap (λ (xs : List Token). b.before ++ (xs ++ new)) (sym tail) ∙ sym (append_assoc b.before b.behind new) ∙ ap (λ (xs : List Token). xs ++ new) (sym b.is) in
      let end : sees_sep lines.Free (z.token ∷ (z.behind ++ new)) ≡ true = (looks_sep lines.Free).alone z.token (z.behind ++ new) (z.behind ++ mid) ∙ ap (sees_sep lines.Free) (sym z.is) ∙ it in
      (m.0 ∷ r.0, texts.some (front ++ new) (z.token ∷ (z.behind ++ new)) new m.0 r.0 (subst (λ (xs : List Token). texts.one_member most xs m.0 (z.token ∷ (z.behind ++ new))) whole m.1) end r.1, has_both x m.0 more r.0 m.2 r.2)

  pub like_members : Like (Members most) (Members most) SameFields any
  like_members = record { within = members_within; moves = λ front mid new all p f. members_move (front ++ mid) front mid new all refl p }

  pub like_with_field : (a b : List Member) → has_field a ≡ has_field b → Like (texts.with_field a) (texts.with_field b) Whatever any
  like_with_field a b same = record {
    within = λ ts u rest p. rw (p.1) (same_end ts);
    moves = λ front mid new u p f. let e = none_taken front mid p.1 in (tt, (sym same ∙ p.0, ap (λ (xs : List Token). xs ++ new) (sym e)), tt);
  }

  pub like_type_def : Like (texts.type_def most) (texts.type_def most) Whatever any
  like_type_def = like_then like_here (λ at bt r. like_then (like_word w.KwType) (λ u v q. like_then like_name (λ n m e. like_then (like_sep lines.Free) (λ x y f. like_then like_members (λ a b h. like_then (like_with_field a b h) (λ c d i.
      like_then (like_word w.KwEnd) (λ s t j. like_then (like_word w.KwType) (λ y z l. done))))))))
