-- Each program's lines are read.
use Rattle.std.proofs.Common.{◌≡◌, ℕ, suc, ◌+◌, ◌<◌, ◌≤◌, Bool, true, false, List, [], ◌∷◌, ◌++◌, length, Some, refl, ap, sym, ◌∙◌, append_assoc, append-nil, length-append, arith}
use Rattle.std.proofs.lemmas.Bool.{lt-ltb}
use Rattle.std.proofs.Math.Nat.{le-max_left, le-max_right}
use Rattle.first_language.specs.Tree.{Statement, Declare, DeclareWith, Assign, Print, If, While, Block, End, Then, Program, statement_depth, block_depth}
use Rattle.first_language.specs.Grammar.{Tokens, Names, Nothing, Declares, DeclaresWith, Does, OpensIf, ClosesIf, OpensWhile, ClosesWhile, AreStatements, none, nothing, declares, declares_with, does, if_block, while_block, AreProgram}
use Rattle.first_language.specs.Reading.{joined_blocks, with_last, Opening, InIf, InWhile, Progress, start, read_lines, program_of_lines}
use Rattle.first_language.proofs.LinesAreOne.{each_line}

abbrev pub progress : List Opening → Block → Names → ℕ → Progress
progress open_blocks here names above = record { open_blocks = open_blocks; here = here; names = names; above = above }

pub join_end : (block : Block) → joined_blocks block End ≡ block
join_end End = refl
join_end (Then first rest) = ap (Then first) (join_end rest)

pub join_assoc : (a b c : Block) → joined_blocks (joined_blocks a b) c ≡ joined_blocks a (joined_blocks b c)
join_assoc End b c = refl
join_assoc (Then first rest) b c = ap (Then first) (join_assoc rest b c)

some_deep : (statement : Statement) → 1 ≤ statement_depth statement
some_deep (Declare x line) = omega arith
some_deep (DeclareWith x value line) = omega arith
some_deep (Assign x value line) = omega arith
some_deep (Print value line) = omega arith
some_deep (If test body line) = omega arith
some_deep (While test body line back) = omega arith

-- a name may be declared outside blocks alone
data Fits : Bool → List Opening → Type 0 where
  outside : Fits false []
  within : (open_blocks : List Opening) → Fits true open_blocks

-- equal parts are read alike
alike : (open_blocks : List Opening) (here other : Block) (names : Names) (above number : ℕ) (lines : List Tokens) → here ≡ other → above ≡ number
    → read_lines (progress open_blocks here names above) lines ≡ read_lines (progress open_blocks other names number) lines
alike open_blocks here other names above number lines e f = ap (λ x. read_lines (progress open_blocks x names above) lines) e ∙ ap (λ x. read_lines (progress open_blocks other names x) lines) f

each_block : (inside : Bool) (names : Names) (above : ℕ) (lines : List Tokens) (block : Block) (all : Names) → AreStatements inside names above lines block all
    → (open_blocks : List Opening) (here : Block) (rest : List Tokens) → Fits inside open_blocks → length open_blocks + block_depth block ≤ 200
    → read_lines (progress open_blocks here names above) (lines ++ rest) ≡ read_lines (progress open_blocks (joined_blocks here block) all (above + length lines)) rest
each_block inside names above lines block all (none _ _ _) open_blocks here rest fits h = alike open_blocks here (joined_blocks here End) names above (above + 0) rest (sym (join_end here)) (omega arith)
each_block inside names above lines block all (nothing _ _ _ line others _ _ l s) open_blocks here rest fits h =
    rw (each_line names (suc above) line Nothing l) (each_block inside names (suc above) others block all s open_blocks here rest fits h)
    ∙ alike open_blocks (joined_blocks here block) (joined_blocks here block) all (suc above + length others) (above + length (line ∷ others)) rest refl (omega arith)
each_block inside names above lines block all (declares _ _ line others name later _ l new s) open_blocks here rest outside h =
    rw (each_line names (suc above) line (Declares name) l, new)
    (each_block false (names ++ name ∷ []) (suc above) others later all s [] (with_last here (Declare (length names) (suc above))) rest outside (omega (arith, le-max_right 1 (block_depth later))))
    ∙ alike [] (joined_blocks (with_last here (Declare (length names) (suc above))) later) (joined_blocks here (Then (Declare (length names) (suc above)) later)) all (suc above + length others) (above + length (line ∷ others)) rest (join_assoc here (Then (Declare (length names) (suc above)) End) later) (omega arith)
each_block inside names above lines block all (declares_with _ _ line others name value later _ l new s) open_blocks here rest outside h =
    rw (each_line names (suc above) line (DeclaresWith name value) l, new)
    (each_block false (names ++ name ∷ []) (suc above) others later all s [] (with_last here (DeclareWith (length names) value (suc above))) rest outside (omega (arith, le-max_right 1 (block_depth later))))
    ∙ alike [] (joined_blocks (with_last here (DeclareWith (length names) value (suc above))) later) (joined_blocks here (Then (DeclareWith (length names) value (suc above)) later)) all (suc above + length others) (above + length (line ∷ others)) rest (join_assoc here (Then (DeclareWith (length names) value (suc above)) End) later) (omega arith)
each_block inside names above lines block all (does _ _ _ line others statement later _ l s) open_blocks here rest fits h =
    let small : length open_blocks < 200 = omega (arith, some_deep statement, le-max_left (statement_depth statement) (block_depth later)) in
    rw (each_line names (suc above) line (Does statement) l, lt-ltb (length open_blocks) 200 small)
    (each_block inside names (suc above) others later all s open_blocks (with_last here statement) rest fits (omega (arith, le-max_right (statement_depth statement) (block_depth later))))
    ∙ alike open_blocks (joined_blocks (with_last here statement) later) (joined_blocks here (Then statement later)) all (suc above + length others) (above + length (line ∷ others)) rest (join_assoc here (Then statement End) later) (omega arith)
each_block inside names above lines block all (if_block _ _ _ line between last others test body later below _ l b e m s) open_blocks here rest fits h =
    let small : length open_blocks < 200 = omega (arith, le-max_left (1 + block_depth body) (block_depth later)) in
    let opened = InIf test (suc above) here ∷ open_blocks in
    let whole = If test body (suc above) in
    rw (each_line names (suc above) line (OpensIf test) l, lt-ltb (length open_blocks) 200 small)
    (ap (read_lines (progress opened End names (suc above))) (append_assoc between (last ∷ others) rest)
    ∙ each_block true names (suc above) between body names b opened End (last ∷ (others ++ rest)) (within opened) (omega (arith, le-max_left (1 + block_depth body) (block_depth later)))
    ∙ alike opened body body names (suc above + length between) below (last ∷ (others ++ rest)) refl (sym e)
    ∙ rw (each_line names (suc below) last ClosesIf m)
    (each_block inside names (suc below) others later all s open_blocks (with_last here whole) rest fits (omega (arith, le-max_right (1 + block_depth body) (block_depth later)))))
    ∙ alike open_blocks (joined_blocks (with_last here whole) later) (joined_blocks here (Then whole later)) all (suc below + length others) (above + length (line ∷ (between ++ last ∷ others))) rest (join_assoc here (Then whole End) later) (omega (arith, length-append between (last ∷ others)))
each_block inside names above lines block all (while_block _ _ _ line between last others test body later below _ l b e m s) open_blocks here rest fits h =
    let small : length open_blocks < 200 = omega (arith, le-max_left (1 + block_depth body) (block_depth later)) in
    let opened = InWhile test (suc above) here ∷ open_blocks in
    let whole = While test body (suc above) (suc below) in
    rw (each_line names (suc above) line (OpensWhile test) l, lt-ltb (length open_blocks) 200 small)
    (ap (read_lines (progress opened End names (suc above))) (append_assoc between (last ∷ others) rest)
    ∙ each_block true names (suc above) between body names b opened End (last ∷ (others ++ rest)) (within opened) (omega (arith, le-max_left (1 + block_depth body) (block_depth later)))
    ∙ alike opened body body names (suc above + length between) below (last ∷ (others ++ rest)) refl (sym e)
    ∙ rw (each_line names (suc below) last ClosesWhile m)
    (each_block inside names (suc below) others later all s open_blocks (with_last here whole) rest fits (omega (arith, le-max_right (1 + block_depth body) (block_depth later)))))
    ∙ alike open_blocks (joined_blocks (with_last here whole) later) (joined_blocks here (Then whole later)) all (suc below + length others) (above + length (line ∷ (between ++ last ∷ others))) rest (join_assoc here (Then whole End) later) (omega (arith, length-append between (last ∷ others)))

-- Each program's lines are read, as the program.
pub each_program : (lines : List Tokens) (program : Program) → AreProgram lines program → program_of_lines lines ≡ Some program
each_program lines program p =
    ap (read_lines start) (sym (append-nil lines))
    ∙ each_block false [] 0 lines program.statements p.names p.statements [] End [] outside (omega (arith, p.shallow))
    ∙ ap (λ v. Some (let kept : Program = record { statements = program.statements; variables = v; last_line = 0 + length lines } in kept)) (sym p.variables)
    ∙ ap (λ n. Some (let kept : Program = record { statements = program.statements; variables = program.variables; last_line = n } in kept)) (let e : 0 + length lines ≡ length lines = omega arith in e ∙ sym p.last_line)
