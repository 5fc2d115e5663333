-- What is read as a program's lines is one's.
use Rattle.std.proofs.Common.{◌≡◌, ℕ, suc, ◌+◌, ◌-◌, ◌<◌, ◌≤◌, nat_lt, Bool, true, false, List, [], ◌∷◌, ◌++◌, length, Option, Some, None, refl, ap, sym, ◌∙◌, subst, append_assoc, length-append, arith}
use Rattle.std.proofs.lemmas.Bool.{ltb-true}
use Rattle.first_language.specs.Tree.{Tree, Statement, Declare, DeclareWith, If, While, Block, End, Then, Program, statement_depth, block_depth}
use Rattle.first_language.specs.Grammar.{Tokens, Names, place_of, Line, Nothing, Declares, DeclaresWith, Does, OpensIf, ClosesIf, OpensWhile, ClosesWhile, IsLine, assigns, prints, AreStatements, none, nothing, declares, declares_with, does, if_block, while_block, AreProgram}
use Rattle.first_language.specs.Reading.{joined_blocks, with_last, Opening, InIf, InWhile, Progress, line_of, with_name, without_if, without_while, with_line, with_tokens, finished, start, read_lines, program_of_lines}
use Rattle.first_language.proofs.RowIsOne.{and_then_parts, chosen, some_is}
use Rattle.first_language.proofs.LinesAreOne.{line_is_one}
use Rattle.first_language.proofs.EachProgram.{progress, join_end, join_assoc}

joined_depth : (a b : Block) (most : ℕ) → block_depth a ≤ most → block_depth b ≤ most → block_depth (joined_blocks a b) ≤ most
joined_depth End b most h k = k
joined_depth (Then first rest) b most h k =
    let low : statement_depth first ≤ most = omega arith in
    let others : block_depth (joined_blocks rest b) ≤ most = joined_depth rest b most (omega arith) k in
    omega arith

-- What the lines that are left are, where the reading stands so.
data Remains : List Opening → Block → Names → ℕ → List Tokens → Program → Type 0 where
  outermost : (here : Block) (names : Names) (above : ℕ) (lines : List Tokens) (block : Block) (all : Names) (program : Program)
      → AreStatements false names above lines block all → block_depth block ≤ 200
      → program.statements ≡ joined_blocks here block → program.variables ≡ length all → program.last_line ≡ above + length lines
      → Remains [] here names above lines program
  in_if : (open_blocks : List Opening) (here : Block) (names : Names) (above : ℕ) (between : List Tokens) (last : Tokens) (lines : List Tokens) (program : Program) (test : Tree) (number : ℕ) (before body : Block) (below : ℕ)
      → AreStatements true names above between body names → block_depth body ≤ 200 - suc (length open_blocks)
      → below ≡ above + length between → IsLine names (suc below) last ClosesIf
      → Remains open_blocks (with_last before (If test (joined_blocks here body) number)) names (suc below) lines program
      → Remains (InIf test number before ∷ open_blocks) here names above (between ++ last ∷ lines) program
  in_while : (open_blocks : List Opening) (here : Block) (names : Names) (above : ℕ) (between : List Tokens) (last : Tokens) (lines : List Tokens) (program : Program) (test : Tree) (number : ℕ) (before body : Block) (below : ℕ)
      → AreStatements true names above between body names → block_depth body ≤ 200 - suc (length open_blocks)
      → below ≡ above + length between → IsLine names (suc below) last ClosesWhile
      → Remains open_blocks (with_last before (While test (joined_blocks here body) number (suc below))) names (suc below) lines program
      → Remains (InWhile test number before ∷ open_blocks) here names above (between ++ last ∷ lines) program

-- lines in front, with their statements
put_before : (open_blocks : List Opening) (here : Block) (names : Names) (above later : ℕ) (front lines : List Tokens) (program : Program) (extra : Block)
    → ((inside : Bool) (others : List Tokens) (block : Block) (all : Names) → AreStatements inside names later others block all → AreStatements inside names above (front ++ others) (joined_blocks extra block) all)
    → block_depth extra ≤ 200 - length open_blocks → later ≡ above + length front
    → Remains open_blocks (joined_blocks here extra) names later lines program → Remains open_blocks here names above (front ++ lines) program
put_before open_blocks here names above later front lines program extra puts h e (outermost _ _ _ _ block all _ s small statements variables last_line) =
    outermost here names above (front ++ lines) (joined_blocks extra block) all program (puts false lines block all s) (joined_depth extra block 200 h small)
    (statements ∙ join_assoc here extra block) variables (last_line ∙ omega (arith, length-append front lines))
put_before open_blocks here names above later front lines program extra puts h e (in_if outer _ _ _ between last others _ test number before body below s small b m r) =
    let more = joined_blocks extra body in
    subst (λ x. Remains (InIf test number before ∷ outer) here names above x program) (append_assoc front between (last ∷ others))
    (in_if outer here names above (front ++ between) last others program test number before more below (puts true between body names s) (joined_depth extra body (200 - suc (length outer)) h small) (b ∙ omega (arith, length-append front between)) m
    (subst (λ x. Remains outer (with_last before (If test x number)) names (suc below) others program) (join_assoc here extra body) r))
put_before open_blocks here names above later front lines program extra puts h e (in_while outer _ _ _ between last others _ test number before body below s small b m r) =
    let more = joined_blocks extra body in
    subst (λ x. Remains (InWhile test number before ∷ outer) here names above x program) (append_assoc front between (last ∷ others))
    (in_while outer here names above (front ++ between) last others program test number before more below (puts true between body names s) (joined_depth extra body (200 - suc (length outer)) h small) (b ∙ omega (arith, length-append front between)) m
    (subst (λ x. Remains outer (with_last before (While test x number (suc below))) names (suc below) others program) (join_assoc here extra body) r))

-- the lines that are left from a place on
abbrev RemainsAt : Progress → List Tokens → Program → Type 0
RemainsAt p lines program = Remains p.open_blocks p.here p.names p.above lines program

-- what is read from here on remains
abbrev ReadsOn : List Tokens → Program → Type 0
ReadsOn lines program = (next : Progress) → read_lines next lines ≡ Some program → RemainsAt next lines program

remains_here : (one next : Progress) (lines : List Tokens) (program : Program) → one ≡ next → RemainsAt next lines program → RemainsAt one lines program
remains_here one next lines program e r = subst (λ p. RemainsAt p lines program) (sym e) r

-- a statement on a line alone is one deep
one_deep : (names : Names) (number : ℕ) (tokens : Tokens) (statement : Statement) → IsLine names number tokens (Does statement) → statement_depth statement ≡ 1
one_deep names number tokens statement (assigns name x rest value p e) = refl
one_deep names number tokens statement (prints rest value e) = refl

blank_before : (open_blocks : List Opening) (here : Block) (names : Names) (above : ℕ) (line : Tokens) (lines : List Tokens) (program : Program) → IsLine names (suc above) line Nothing → Remains open_blocks here names (suc above) lines program → Remains open_blocks here names above (line ∷ lines) program
blank_before open_blocks here names above line lines program l r =
    put_before open_blocks here names above (suc above) (line ∷ []) lines program End (λ inside others block all s. nothing inside names above line others block all l s) (omega arith) (omega arith)
    (subst (λ x. Remains open_blocks x names (suc above) lines program) (sym (join_end here)) r)

statement_before : (open_blocks : List Opening) (here : Block) (names : Names) (above : ℕ) (line : Tokens) (lines : List Tokens) (program : Program) → (statement : Statement) → IsLine names (suc above) line (Does statement) → length open_blocks < 200 → Remains open_blocks (with_last here statement) names (suc above) lines program → Remains open_blocks here names above (line ∷ lines) program
statement_before open_blocks here names above line lines program statement l small r =
    put_before open_blocks here names above (suc above) (line ∷ []) lines program (Then statement End) (λ inside others block all s. does inside names above line others statement block all l s)
    (omega (arith, one_deep names (suc above) line statement l)) (omega arith) r

if_before : (open_blocks : List Opening) (here : Block) (names : Names) (above : ℕ) (line : Tokens) (lines : List Tokens) (program : Program) → (test : Tree) → IsLine names (suc above) line (OpensIf test) → length open_blocks < 200 → Remains (InIf test (suc above) here ∷ open_blocks) End names (suc above) lines program → Remains open_blocks here names above (line ∷ lines) program
if_before open_blocks here names above line lines program test l small (in_if _ _ _ _ between last others _ _ _ _ body below s h b m r) =
    let whole = If test body (suc above) in
    subst (λ x. Remains open_blocks here names above (line ∷ x) program) (append_assoc between (last ∷ []) others)
    (put_before open_blocks here names above (suc below) (line ∷ (between ++ last ∷ [])) others program (Then whole End)
    (λ inside rest block all z. subst (λ x. AreStatements inside names above (line ∷ x) (Then whole block) all) (sym (append_assoc between (last ∷ []) rest))
    (if_block inside names above line between last rest test body block below all l s b m z))
    (omega arith) (omega (arith, length-append between (last ∷ []))) r)

while_before : (open_blocks : List Opening) (here : Block) (names : Names) (above : ℕ) (line : Tokens) (lines : List Tokens) (program : Program) → (test : Tree) → IsLine names (suc above) line (OpensWhile test) → length open_blocks < 200 → Remains (InWhile test (suc above) here ∷ open_blocks) End names (suc above) lines program → Remains open_blocks here names above (line ∷ lines) program
while_before open_blocks here names above line lines program test l small (in_while _ _ _ _ between last others _ _ _ _ body below s h b m r) =
    let whole = While test body (suc above) (suc below) in
    subst (λ x. Remains open_blocks here names above (line ∷ x) program) (append_assoc between (last ∷ []) others)
    (put_before open_blocks here names above (suc below) (line ∷ (between ++ last ∷ [])) others program (Then whole End)
    (λ inside rest block all z. subst (λ x. AreStatements inside names above (line ∷ x) (Then whole block) all) (sym (append_assoc between (last ∷ []) rest))
    (while_block inside names above line between last rest test body block below all l s b m z))
    (omega arith) (omega (arith, length-append between (last ∷ []))) r)

-- a declaration comes
named_before : (open_blocks : List Opening) (here : Block) (names : Names) (above : ℕ) (line : Tokens) (lines : List Tokens) (program : Program) (name : List ℕ) (statement : Statement) (found : Option ℕ) (next : Progress) → statement_depth statement ≡ 1
    → ((others : List Tokens) (block : Block) (all : Names) → place_of names name ≡ None → AreStatements false (names ++ name ∷ []) (suc above) others block all → AreStatements false names above (line ∷ others) (Then statement block) all)
    → place_of names name ≡ found → with_name (progress open_blocks here names above) name statement open_blocks found ≡ Some next → RemainsAt next lines program → Remains open_blocks here names above (line ∷ lines) program
named_before [] here names above line lines program name statement (Some x) next one puts new e r = absurd (let f : None ≡ Some next = e in cc)
named_before (opening ∷ outer) here names above line lines program name statement found next one puts new e r = absurd (let f : None ≡ Some next = e in cc)
named_before [] here names above line lines program name statement None next one puts new e r =
    declared (remains_here (progress [] (with_last here statement) (names ++ name ∷ []) (suc above)) next lines program (some_is _ next e) r)
  where
    declared : Remains [] (with_last here statement) (names ++ name ∷ []) (suc above) lines program → Remains [] here names above (line ∷ lines) program
    declared (outermost _ _ _ _ block all _ s small statements variables last_line) =
        outermost here names above (line ∷ lines) (Then statement block) all program (puts lines block all new s) (omega (arith, one))
        (statements ∙ join_assoc here (Then statement End) block) variables (last_line ∙ omega arith)

-- an If ends
if_ends : (open_blocks : List Opening) (here : Block) (names : Names) (above : ℕ) (line : Tokens) (lines : List Tokens) (program : Program) (next : Progress) → IsLine names (suc above) line ClosesIf
    → without_if (progress open_blocks here names above) open_blocks ≡ Some next → RemainsAt next lines program → Remains open_blocks here names above (line ∷ lines) program
if_ends [] here names above line lines program next l e r = absurd (let f : None ≡ Some next = e in cc)
if_ends (InWhile test number before ∷ outer) here names above line lines program next l e r = absurd (let f : None ≡ Some next = e in cc)
if_ends (InIf test number before ∷ outer) here names above line lines program next l e r =
    in_if outer here names above [] line lines program test number before End above (none true names above) (omega arith) (omega arith) l
    (subst (λ x. Remains outer (with_last before (If test x number)) names (suc above) lines program) (sym (join_end here))
    (remains_here (progress outer (with_last before (If test here number)) names (suc above)) next lines program (some_is _ next e) r))

-- a While ends
while_ends : (open_blocks : List Opening) (here : Block) (names : Names) (above : ℕ) (line : Tokens) (lines : List Tokens) (program : Program) (next : Progress) → IsLine names (suc above) line ClosesWhile
    → without_while (progress open_blocks here names above) open_blocks ≡ Some next → RemainsAt next lines program → Remains open_blocks here names above (line ∷ lines) program
while_ends [] here names above line lines program next l e r = absurd (let f : None ≡ Some next = e in cc)
while_ends (InIf test number before ∷ outer) here names above line lines program next l e r = absurd (let f : None ≡ Some next = e in cc)
while_ends (InWhile test number before ∷ outer) here names above line lines program next l e r =
    in_while outer here names above [] line lines program test number before End above (none true names above) (omega arith) (omega arith) l
    (subst (λ x. Remains outer (with_last before (While test x number (suc above))) names (suc above) lines program) (sym (join_end here))
    (remains_here (progress outer (with_last before (While test here number (suc above))) names (suc above)) next lines program (some_is _ next e) r))

-- a line further
line_before : (open_blocks : List Opening) (here : Block) (names : Names) (above : ℕ) (line : Tokens) (lines : List Tokens) (program : Program) (said : Line) (next : Progress) → IsLine names (suc above) line said
    → with_line (progress open_blocks here names above) said ≡ Some next → RemainsAt next lines program → Remains open_blocks here names above (line ∷ lines) program
line_before open_blocks here names above line lines program Nothing next l e r =
    blank_before open_blocks here names above line lines program l (remains_here (progress open_blocks here names (suc above)) next lines program (some_is _ next e) r)
line_before open_blocks here names above line lines program (Declares name) next l e r =
    named_before open_blocks here names above line lines program name (Declare (length names) (suc above)) (place_of names name) next refl (λ others block all new s. declares names above line others name block all l new s) refl e r
line_before open_blocks here names above line lines program (DeclaresWith name value) next l e r =
    named_before open_blocks here names above line lines program name (DeclareWith (length names) value (suc above)) (place_of names name) next refl (λ others block all new s. declares_with names above line others name value block all l new s) refl e r
line_before open_blocks here names above line lines program (Does statement) next l e r =
    let w = chosen (nat_lt (length open_blocks) 200) (progress open_blocks (with_last here statement) names (suc above)) next e in
    statement_before open_blocks here names above line lines program statement l (ltb-true _ _ w.0) (remains_here _ next lines program w.1 r)
line_before open_blocks here names above line lines program (OpensIf test) next l e r =
    let w = chosen (nat_lt (length open_blocks) 200) (progress (InIf test (suc above) here ∷ open_blocks) End names (suc above)) next e in
    if_before open_blocks here names above line lines program test l (ltb-true _ _ w.0) (remains_here _ next lines program w.1 r)
line_before open_blocks here names above line lines program ClosesIf next l e r = if_ends open_blocks here names above line lines program next l e r
line_before open_blocks here names above line lines program (OpensWhile test) next l e r =
    let w = chosen (nat_lt (length open_blocks) 200) (progress (InWhile test (suc above) here ∷ open_blocks) End names (suc above)) next e in
    while_before open_blocks here names above line lines program test l (ltb-true _ _ w.0) (remains_here _ next lines program w.1 r)
line_before open_blocks here names above line lines program ClosesWhile next l e r = while_ends open_blocks here names above line lines program next l e r

-- no lines are left
ends_here : (open_blocks : List Opening) (here : Block) (names : Names) (above : ℕ) (program : Program) → finished (progress open_blocks here names above) open_blocks ≡ Some program → Remains open_blocks here names above [] program
ends_here (opening ∷ outer) here names above program e = absurd (let f : None ≡ Some program = e in cc)
ends_here [] here names above program e =
    let is = sym (some_is (let p : Program = record { statements = here; variables = length names; last_line = above } in p) program e) in
    outermost here names above [] End names program (none false names above) (omega arith) (ap (λ p. p.statements) is ∙ sym (join_end here)) (ap (λ p. p.variables) is) (ap (λ p. p.last_line) is ∙ omega arith)

reads_on : (lines : List Tokens) (program : Program) → ReadsOn lines program
reads_on [] program next e = ends_here next.open_blocks next.here next.names next.above program e
reads_on (line ∷ lines) program p e =
    let v = and_then_parts (λ next. read_lines next lines) (with_tokens p line) program e in
    let w = and_then_parts (with_line p) (line_of p.names (suc p.above) line) v.0 v.1 in
    line_before p.open_blocks p.here p.names p.above line lines program w.0 v.0 (line_is_one p.names (suc p.above) line w.0 w.1) w.2 (reads_on lines program v.0 v.2)

-- What is read as a program's lines is one's.
pub program_is_one : (lines : List Tokens) (program : Program) → program_of_lines lines ≡ Some program → AreProgram lines program
program_is_one lines program e = whole (reads_on lines program start e)
  where
    whole : Remains [] End [] 0 lines program → AreProgram lines program
    whole (outermost _ _ _ _ block all _ s small statements variables last_line) =
        record {
          names = all;
          statements = subst (λ b. AreStatements false [] 0 lines b all) (sym statements) s;
          shallow = subst (λ b. block_depth b ≤ 200) (sym statements) small;
          variables = variables;
          last_line = last_line ∙ omega arith;
        }
