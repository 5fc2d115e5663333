-- What is read as an expression is one.
use Rattle.std.proofs.Common.{◌≡◌, ℕ, zero, suc, ◌+◌, ◌-◌, ◌^◌, ◌<◌, ◌≤◌, nat_le, nat_lt, Bool, true, false, if◌then◌else◌, List, [], ◌∷◌, ◌++◌, Option, Some, None, option_map, option_and_then, max, refl, ap, sym, ◌∙◌, subst, append_assoc, append-nil, arith}
use Rattle.std.proofs.lemmas.Bool.{leb-true, leb-false, ltb-true}
use Rattle.first_language.specs.declared.tree.Operator.{Operator}
use Rattle.first_language.specs.declared.token.Token.{Token}
use Rattle.first_language.specs.declared.token.Token.TheVariants as t
use Rattle.first_language.specs.Tree.{Tree, Literal, Variable, Parenthesised, Apply, depth}
use Rattle.first_language.specs.Grammar.{Tokens, Names, place_of, looseness, IsRow, literal, variable, parenthesised, tighter, apply, IsExpression}
use Rattle.first_language.specs.Reading.{Part, Waiting, Opened, Waits, Standing, Wants, Has, leaf, above, joined, enclosed, reduced, sign_waits, closed, wanting, having, further, whole, ended, read_row, expression_of}
use Rattle.first_language.proofs.EachRow.{measured, loosest}

-- what an option has, when a function of it has something
pub and_then_parts : {A B : Type 0} (f : A → Option B) (o : Option A) (y : B) → option_and_then f o ≡ Some y → (x : A) × (o ≡ Some x) × (f x ≡ Some y)
and_then_parts f None y h = absurd (let e : None ≡ Some y = h in cc)
and_then_parts f (Some x) y h = (x, refl, h)

pub map_parts : {A B : Type 0} (f : A → B) (o : Option A) (y : B) → option_map f o ≡ Some y → (x : A) × (o ≡ Some x) × (f x ≡ y)
map_parts f None y h = absurd (let e : None ≡ Some y = h in cc)
map_parts f (Some x) y h = (x, refl, let e : Some (f x) ≡ Some y = h in cc)

-- which way a test went
pub chosen : {A : Type 0} (b : Bool) (x y : A) → (if b then Some x else None) ≡ Some y → (b ≡ true) × (x ≡ y)
chosen true x y h = (refl, cc)
chosen false x y h = absurd (let e : None ≡ Some y = h in cc)

pub some_is : {A : Type 0} (x y : A) → Some x ≡ Some y → x ≡ y
some_is x y h = cc

-- the loosest rows that may stand on what waits
abbrev bound_of : List Waiting → ℕ
bound_of [] = 5
bound_of (Opened ∷ waiting) = 5
bound_of (Waits left op ∷ waiting) = looseness op

above_parts : (tree : Tree) (deep : ℕ) (part : Part) → above tree deep ≡ Some part → (1 + deep ≤ 200) × (let one : Part = record { tree = tree; deep = 1 + deep } in one ≡ part)
above_parts tree deep part h = let w = chosen (nat_lt deep 200) (record { tree = tree; deep = 1 + deep }) part h in let small : deep < 200 = ltb-true _ _ w.0 in (omega arith, w.1)

module _ (names : Names) where
  raised : (d bound : ℕ) (tokens : Tokens) (tree : Tree) → IsRow names bound tokens tree → IsRow names (d + bound) tokens tree
  raised zero bound tokens tree r = subst (λ n. IsRow names n tokens tree) (let e : bound ≡ 0 + bound = omega arith in e) r
  raised (suc d) bound tokens tree r = subst (λ n. IsRow names n tokens tree) (let e : suc (d + bound) ≡ suc d + bound = omega arith in e) (tighter (d + bound) tokens tree (raised d bound tokens tree r))

  -- a row is one of each greater bound
  looser : (bound most : ℕ) (tokens : Tokens) (tree : Tree) → bound ≤ most → IsRow names bound tokens tree → IsRow names most tokens tree
  looser bound most tokens tree h r = subst (λ n. IsRow names n tokens tree) (let e : (most - bound) + bound ≡ most = omega arith in e) (raised (most - bound) bound tokens tree r)

  -- the tokens of what waits
  data Held : List Waiting → Tokens → Type 0 where
    bottom : Held [] []
    opened : (waiting : List Waiting) (tokens : Tokens) → Held waiting tokens → Held (Opened ∷ waiting) (tokens ++ t.Open ∷ [])
    waits : (waiting : List Waiting) (tokens : Tokens) (left : Tree) (op : Operator) (before : Tokens) → Held waiting tokens
        → IsRow names (suc (looseness op)) before left → suc (looseness op) ≤ bound_of waiting
        → Held (Waits (measured left) op ∷ waiting) (tokens ++ (before ++ t.Sign op ∷ []))

  -- what a part is after it took in what waits, up to a looseness
  record Taken (bound : ℕ) (r : Part × List Waiting) (tokens : Tokens) : Type 0 where
    before : Tokens
    after : Tokens
    tree : Tree
    part_is : r.0 ≡ measured tree
    held : Held r.1 before
    row : IsRow names (suc bound) after tree
    fits : suc bound ≤ bound_of r.1
    all_is : tokens ≡ before ++ after
    shallow : depth tree ≤ 200

  -- nothing is taken in
  stays : (bound : ℕ) (tree : Tree) (waiting : List Waiting) (tokens rest : Tokens) (m : ℕ) (r : Part × List Waiting) → Held waiting tokens → IsRow names m rest tree → m ≤ suc bound → suc bound ≤ bound_of waiting → depth tree ≤ 200
      → Some (measured tree, waiting) ≡ Some r → Taken bound r (tokens ++ rest)
  stays bound tree waiting tokens rest m r held row small fits shallow e =
      subst (λ p. Taken bound p (tokens ++ rest)) (some_is (measured tree, waiting) r e)
      (record { before = tokens; after = rest; tree = tree; part_is = refl; held = held; row = looser m (suc bound) rest tree small row; fits = fits; all_is = refl; shallow = shallow })

  by_test : (bound : ℕ) (tree : Tree) (waiting : List Waiting) (tokens rest : Tokens) (m : ℕ) (r : Part × List Waiting) (left : Tree) (op : Operator) (before : Tokens) (b : Bool) → bound ≤ 4 → Held waiting tokens → IsRow names (suc (looseness op)) before left → suc (looseness op) ≤ bound_of waiting
      → IsRow names m rest tree → m ≤ suc bound → m ≤ looseness op → depth tree ≤ 200
      → ((whole : Tree) (after : Tokens) → IsRow names (suc (looseness op)) after whole → suc (looseness op) ≤ suc bound → depth whole ≤ 200 → reduced bound (measured whole) waiting ≡ Some r → Taken bound r (tokens ++ after))
      → nat_le (looseness op) bound ≡ b
      → (if b then option_and_then (λ whole. reduced bound whole waiting) (joined (measured left) op (measured tree)) else Some (measured tree, Waits (measured left) op ∷ waiting)) ≡ Some r
      → Taken bound r ((tokens ++ (before ++ t.Sign op ∷ [])) ++ rest)
  by_test bound tree waiting tokens rest m r left op before true small held lrow fits row h hm shallow on test e =
      let parts = and_then_parts (λ whole. reduced bound whole waiting) (joined (measured left) op (measured tree)) r e in
      let one = above_parts (Apply op left tree) (max (depth left) (depth tree)) parts.0 parts.1 in
      let low : looseness op ≤ bound = leb-true _ _ test in
      let after = before ++ t.Sign op ∷ rest in
      let all : tokens ++ after ≡ (tokens ++ (before ++ t.Sign op ∷ [])) ++ rest = sym (append_assoc tokens (before ++ t.Sign op ∷ []) rest ∙ ap (λ x. tokens ++ x) (append_assoc before (t.Sign op ∷ []) rest)) in
      subst (λ x. Taken bound r x) all
      (on (Apply op left tree) after (apply op before rest left tree lrow (looser m (looseness op) rest tree hm row)) (omega arith) one.0
      (subst (λ p. reduced bound p waiting ≡ Some r) (sym one.1) parts.2))
  by_test bound tree waiting tokens rest m r left op before false small held lrow fits row h hm shallow on test e =
      let high : bound < looseness op = leb-false _ _ test in
      stays bound tree (Waits (measured left) op ∷ waiting) (tokens ++ (before ++ t.Sign op ∷ [])) rest m r (waits waiting tokens left op before held lrow fits) row h high shallow e

  taken : (bound : ℕ) (tree : Tree) (waiting : List Waiting) (tokens rest : Tokens) (m : ℕ) (r : Part × List Waiting) → bound ≤ 4 → Held waiting tokens → IsRow names m rest tree → m ≤ suc bound → m ≤ bound_of waiting → depth tree ≤ 200
      → reduced bound (measured tree) waiting ≡ Some r → Taken bound r (tokens ++ rest)
  taken bound tree waiting tokens rest m r small bottom row h hm shallow e = stays bound tree [] [] rest m r bottom row h (omega arith) shallow e
  taken bound tree waiting tokens rest m r small (opened below ts held) row h hm shallow e = stays bound tree (Opened ∷ below) (ts ++ t.Open ∷ []) rest m r (opened below ts held) row h (omega arith) shallow e
  taken bound tree waiting tokens rest m r small (waits below ts left op before held lrow fits) row h hm shallow e =
      by_test bound tree below ts rest m r left op before (nat_le (looseness op) bound) small held lrow fits row h hm shallow
      (λ whole after row2 h2 shallow2 e2. taken bound whole below ts after (suc (looseness op)) r small held row2 h2 fits shallow2 e2) refl e

  -- where the reading stands, and the tokens so far
  data Stands : Standing → Tokens → Type 0 where
    wants : (waiting : List Waiting) (tokens : Tokens) → Held waiting tokens → Stands (Wants waiting) tokens
    has : (tree : Tree) (waiting : List Waiting) (tokens rest : Tokens) → Held waiting tokens → IsRow names 0 rest tree → depth tree ≤ 200 → Stands (Has (measured tree) waiting) (tokens ++ rest)

  moved : (one next : Standing) (tokens others : Tokens) → Stands one tokens → one ≡ next → tokens ≡ others → Stands next others
  moved one next tokens others s e f = subst (λ x. Stands x others) e (subst (λ x. Stands one x) f s)

  -- a token further, where an operand has to come
  wanting_further : (waiting : List Waiting) (tokens : Tokens) (token : Token) (next : Standing) → Held waiting tokens → wanting names waiting token ≡ Some next → Stands next (tokens ++ token ∷ [])
  wanting_further waiting tokens (t.Number n) next h e =
      let w = chosen (nat_lt n (2 ^ 63)) (Has (leaf (Literal n)) waiting) next e in
      moved (Has (leaf (Literal n)) waiting) next _ _ (has (Literal n) waiting tokens (t.Number n ∷ []) h (literal n (ltb-true _ _ w.0)) (omega arith)) w.1 refl
  wanting_further waiting tokens (t.Name name) next h e =
      let w = map_parts (λ x. Has (leaf (Variable x)) waiting) (place_of names name) next e in
      moved (Has (leaf (Variable w.0)) waiting) next _ _ (has (Variable w.0) waiting tokens (t.Name name ∷ []) h (variable name w.0 w.1) (omega arith)) w.2 refl
  wanting_further waiting tokens t.Open next h e = moved (Wants (Opened ∷ waiting)) next _ _ (wants (Opened ∷ waiting) (tokens ++ t.Open ∷ []) (opened waiting tokens h)) (some_is _ next e) refl
  wanting_further waiting tokens other next h e = absurd (let f : None ≡ Some next = e in cc)

  closed_further : (tree : Tree) (waiting : List Waiting) (before after : Tokens) (next : Standing) → Held waiting before → IsRow names 5 after tree → closed (measured tree) waiting ≡ Some next → Stands next ((before ++ after) ++ t.Close ∷ [])
  closed_further tree waiting before after next bottom r e = absurd (let f : None ≡ Some next = e in cc)
  closed_further tree waiting before after next (waits below ts left op front held lrow fits) r e = absurd (let f : None ≡ Some next = e in cc)
  closed_further tree waiting before after next (opened below ts held) r e =
      let w = map_parts (λ p. Has p below) (enclosed (measured tree)) next e in
      let one = above_parts (Parenthesised tree) (depth tree) w.0 w.1 in
      let all : ts ++ (t.Open ∷ (after ++ t.Close ∷ [])) ≡ ((ts ++ t.Open ∷ []) ++ after) ++ t.Close ∷ [] = sym (append_assoc (ts ++ t.Open ∷ []) after (t.Close ∷ []) ∙ append_assoc ts (t.Open ∷ []) (after ++ t.Close ∷ [])) in
      moved (Has (measured (Parenthesised tree)) below) next _ _ (has (Parenthesised tree) below ts (t.Open ∷ (after ++ t.Close ∷ [])) held (parenthesised after tree r) one.0)
      (ap (λ p. Has p below) one.1 ∙ w.2) all

  -- a token further, where an operand has come
  having_further : (tree : Tree) (waiting : List Waiting) (tokens rest : Tokens) (token : Token) (next : Standing) → Held waiting tokens → IsRow names 0 rest tree → depth tree ≤ 200 → having (measured tree) waiting token ≡ Some next → Stands next ((tokens ++ rest) ++ token ∷ [])
  having_further tree waiting tokens rest (t.Sign op) next h row shallow e =
      let w = map_parts (sign_waits op) (reduced (looseness op) (measured tree) waiting) next e in
      let k = taken (looseness op) tree waiting tokens rest 0 w.0 (loosest op) h row (omega arith) (omega arith) shallow w.1 in
      let all : k.before ++ (k.after ++ t.Sign op ∷ []) ≡ (tokens ++ rest) ++ t.Sign op ∷ [] = sym (append_assoc k.before k.after (t.Sign op ∷ [])) ∙ ap (λ x. x ++ t.Sign op ∷ []) (sym k.all_is) in
      moved (Wants (Waits (measured k.tree) op ∷ w.0.1)) next _ _ (wants _ _ (waits w.0.1 k.before k.tree op k.after k.held k.row k.fits)) (ap (λ p. Wants (Waits p op ∷ w.0.1)) (sym k.part_is) ∙ w.2) all
  having_further tree waiting tokens rest t.Close next h row shallow e =
      let w = and_then_parts (λ r. closed r.0 r.1) (reduced 4 (measured tree) waiting) next e in
      let k = taken 4 tree waiting tokens rest 0 w.0 (omega arith) h row (omega arith) (omega arith) shallow w.1 in
      subst (λ x. Stands next (x ++ t.Close ∷ [])) (sym k.all_is)
      (closed_further k.tree w.0.1 k.before k.after next k.held k.row (subst (λ p. closed p w.0.1 ≡ Some next) k.part_is w.2))
  having_further tree waiting tokens rest other next h row shallow e = absurd (let f : None ≡ Some next = e in cc)

  step_further : (standing next : Standing) (tokens : Tokens) (token : Token) → Stands standing tokens → further names standing token ≡ Some next → Stands next (tokens ++ token ∷ [])
  step_further standing next tokens token (wants waiting _ h) e = wanting_further waiting tokens token next h e
  step_further standing next tokens token (has tree waiting ts rest h row shallow) e = having_further tree waiting ts rest token next h row shallow e

  whole_is : (part : Part) (waiting : List Waiting) (before after : Tokens) (tree one : Tree) → part ≡ measured one → Held waiting before → IsRow names 5 after one → depth one ≤ 200 → whole part waiting ≡ Some tree → IsExpression names (before ++ after) tree
  whole_is part waiting before after tree one p bottom row shallow e =
      let is : one ≡ tree = ap (λ x. x.tree) (sym p) ∙ some_is part.tree tree e in
      subst (λ x. IsExpression names after x) is (record { row = row; shallow = shallow })
  whole_is part waiting before after tree one p (opened below ts held) row shallow e = absurd (let f : None ≡ Some tree = e in cc)
  whole_is part waiting before after tree one p (waits below ts left op front held lrow fits) row shallow e = absurd (let f : None ≡ Some tree = e in cc)

  end_stands : (standing : Standing) (tokens : Tokens) (tree : Tree) → Stands standing tokens → ended standing ≡ Some tree → IsExpression names tokens tree
  end_stands standing tokens tree (wants waiting _ h) e = absurd (let f : None ≡ Some tree = e in cc)
  end_stands standing tokens tree (has one waiting ts rest h row shallow) e =
      let w = and_then_parts (λ r. whole r.0 r.1) (reduced 4 (measured one) waiting) tree e in
      let k = taken 4 one waiting ts rest 0 w.0 (omega arith) h row (omega arith) (omega arith) shallow w.1 in
      subst (λ x. IsExpression names x tree) (sym k.all_is) (whole_is w.0.0 w.0.1 k.before k.after tree k.tree k.part_is k.held k.row k.shallow w.2)

  reads_on : (rest tokens : Tokens) (standing : Standing) (tree : Tree) → Stands standing tokens → read_row names standing rest ≡ Some tree → IsExpression names (tokens ++ rest) tree
  reads_on [] tokens standing tree s e = subst (λ x. IsExpression names x tree) (sym (append-nil tokens)) (end_stands standing tokens tree s e)
  reads_on (token ∷ rest) tokens standing tree s e =
      let w = and_then_parts (λ next. read_row names next rest) (further names standing token) tree e in
      subst (λ x. IsExpression names x tree) (append_assoc tokens (token ∷ []) rest) (reads_on rest (tokens ++ token ∷ []) w.0 tree (step_further standing w.0 tokens token s w.1) w.2)

  -- What is read as an expression is one, with this tree.
  pub expression_is_one : (tokens : Tokens) (tree : Tree) → expression_of names tokens ≡ Some tree → IsExpression names tokens tree
  expression_is_one tokens tree e = reads_on tokens [] (Wants []) tree (wants [] [] bottom) e
