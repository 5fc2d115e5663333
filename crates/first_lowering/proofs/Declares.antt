-- The variables of each program that a text has are declared before they are used.
use Rattle.std.proofs.Common.{◌≡◌, ℕ, suc, ◌+◌, ◌<◌, Bool, true, false, List, [], ◌∷◌, ◌++◌, length, Some, length-append, arith, refl, subst}
use Rattle.std.specs.Str.{bytes_eq}
use Rattle.std.proofs.lemmas.List.Quantifiers.{position-Some}
use Rattle.first_language.specs.Tree.{Tree, Statement, Block, Then, Program}
use Rattle.first_language.specs.Grammar.{Tokens, Names, place_of, IsRow, literal, variable, parenthesised, tighter, apply, IsExpression, Does, IsLine, assigns, prints, OpensIf, opens_if, OpensWhile, opens_while, DeclaresWith, declares_with, AreStatements, none, nothing, declares, declares_with as declared_with, does, if_block, while_block, IsProgram}
use Rattle.first_lowering.specs.Variables.{Uses, IsInner, AreInner, AreDeclared, IsDeclared}
use Rattle.first_lowering.specs.Promise.{ProgramsAreDeclared}

place_below : (names : Names) (name : List ℕ) (x : ℕ) → place_of names name ≡ Some x → x < length names
place_below names name x h = (position-Some (λ other. bytes_eq other name) names x [] h).0

uses : (names : Names) (bound : ℕ) (tokens : Tokens) (tree : Tree) → IsRow names bound tokens tree → Uses (length names) tree
uses names bound tokens tree (literal n small) = tt
uses names bound tokens tree (variable name x e) = place_below names name x e
uses names bound tokens tree (parenthesised inner inside r) = uses names 5 inner inside r
uses names bound tokens tree (tighter less _ _ r) = uses names less tokens tree r
uses names bound tokens tree (apply op before after left right r s) = (uses names _ before left r, uses names _ after right s)

inner_line : (names : Names) (number : ℕ) (tokens : Tokens) (statement : Statement) → IsLine names number tokens (Does statement) → IsInner (length names) statement
inner_line names number tokens statement (assigns name x rest value p e) = (place_below names name x p, uses names 5 rest value e.row)
inner_line names number tokens statement (prints rest value e) = uses names 5 rest value e.row

if_test : (names : Names) (number : ℕ) (tokens : Tokens) (test : Tree) → IsLine names number tokens (OpensIf test) → Uses (length names) test
if_test names number tokens test (opens_if rest _ e) = uses names 5 rest test e.row

while_test : (names : Names) (number : ℕ) (tokens : Tokens) (test : Tree) → IsLine names number tokens (OpensWhile test) → Uses (length names) test
while_test names number tokens test (opens_while rest _ e) = uses names 5 rest test e.row

value_of : (names : Names) (number : ℕ) (tokens : Tokens) (name : List ℕ) (value : Tree) → IsLine names number tokens (DeclaresWith name value) → Uses (length names) value
value_of names number tokens name value (declares_with _ rest _ e) = uses names 5 rest value e.row

inner : (names : Names) (above : ℕ) (lines : List Tokens) (block : Block) (all : Names) → AreStatements true names above lines block all → AreInner (length names) block
inner names above lines block all (none _ _ _) = tt
inner names above lines block all (nothing _ _ _ line others _ _ l s) = inner names (suc above) others block all s
inner names above lines block all (does _ _ _ line others statement later _ l s) = (inner_line names (suc above) line statement l, inner names (suc above) others later all s)
inner names above lines block all (if_block _ _ _ line between final others test body later below _ l b e m s) =
    ((if_test names (suc above) line test l, inner names (suc above) between body names b), inner names (suc below) others later all s)
inner names above lines block all (while_block _ _ _ line between final others test body later below _ l b e m s) =
    ((while_test names (suc above) line test l, inner names (suc above) between body names b), inner names (suc below) others later all s)

one_more : (names : Names) (name : List ℕ) (block : Block) → AreDeclared (length (names ++ name ∷ [])) block → AreDeclared (suc (length names)) block
one_more names name block h = let e : length (names ++ name ∷ []) ≡ suc (length names) = omega (arith, length-append names (name ∷ [])) in subst (λ n. AreDeclared n block) e h

does_next : (names : Names) (number : ℕ) (tokens : Tokens) (statement : Statement) (later : Block) → IsLine names number tokens (Does statement) → AreDeclared (length names) later → AreDeclared (length names) (Then statement later)
does_next names number tokens statement later (assigns name x rest value p e) h = ((place_below names name x p, uses names 5 rest value e.row), h)
does_next names number tokens statement later (prints rest value e) h = (uses names 5 rest value e.row, h)

declared : (names : Names) (above : ℕ) (lines : List Tokens) (block : Block) (all : Names) → AreStatements false names above lines block all → AreDeclared (length names) block
declared names above lines block all (none _ _ _) = tt
declared names above lines block all (nothing _ _ _ line others _ _ l s) = declared names (suc above) others block all s
declared names above lines block all (declares _ _ line others name later _ l new s) = (refl, one_more names name later (declared (names ++ name ∷ []) (suc above) others later all s))
declared names above lines block all (declared_with _ _ line others name value later _ l new s) =
    (refl, value_of names (suc above) line name value l, one_more names name later (declared (names ++ name ∷ []) (suc above) others later all s))
declared names above lines block all (does _ _ _ line others statement later _ l s) = does_next names (suc above) line statement later l (declared names (suc above) others later all s)
declared names above lines block all (if_block _ _ _ line between final others test body later below _ l b e m s) =
    ((if_test names (suc above) line test l, inner names (suc above) between body names b), declared names (suc below) others later all s)
declared names above lines block all (while_block _ _ _ line between final others test body later below _ l b e m s) =
    ((while_test names (suc above) line test l, inner names (suc above) between body names b), declared names (suc below) others later all s)

-- A text declares the variables of its program before it uses them.
pub programs_declared : ProgramsAreDeclared
programs_declared text program is = declared [] 0 is.lines program.statements is.are_program.names is.are_program.statements
