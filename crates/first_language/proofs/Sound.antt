-- Each program that a text has is sound.
use Rattle.std.proofs.Common.{◌≡◌, ℕ, suc, ◌+◌, ◌<◌, ◌≤◌, Bool, true, false, List, [], ◌∷◌, ◌++◌, length, Some, length-append, arith}
use Rattle.std.specs.Prelude.{⊤}
use Rattle.std.specs.Str.{bytes_eq}
use Rattle.std.proofs.lemmas.List.Quantifiers.{position-Some}
use Rattle.first_language.specs.Tree.{Tree, Block, Program}
use Rattle.first_language.specs.Grammar.{Tokens, Names, place_of, IsRow, literal, variable, parenthesised, tighter, apply, IsExpression, Line, DeclaresWith, Does, OpensIf, OpensWhile, IsLine, nothing, declares, declares_with, assigns, prints, opens_if, closes_if, opens_while, closes_while, AreStatements, none, nothing as no_statement, declares as declared, declares_with as declared_with, does, if_block, while_block, IsProgram}
use Rattle.first_language.specs.Sound.{HasParts, IsSoundTree, IsSoundStatement, IsSoundBlock, IsSound}

-- a variable's number is below that of the names
place_below : (names : Names) (name : List ℕ) (x : ℕ) → place_of names name ≡ Some x → x < length names
place_below names name x h = (position-Some (λ other. bytes_eq other name) names x [] h).0

has_parts : (names : Names) (most bound : ℕ) (tokens : Tokens) (tree : Tree) → length names ≤ most → IsRow names bound tokens tree → HasParts most tree
has_parts names most bound tokens tree h (literal n small) = small
has_parts names most bound tokens tree h (variable name x e) = let k : x < length names = place_below names name x e in omega arith
has_parts names most bound tokens tree h (parenthesised inner inside r) = has_parts names most 5 inner inside h r
has_parts names most bound tokens tree h (tighter less _ _ r) = has_parts names most less tokens tree h r
has_parts names most bound tokens tree h (apply op before after left right r s) = (has_parts names most _ before left h r, has_parts names most _ after right h s)

sound_tree : (names : Names) (most : ℕ) (tokens : Tokens) (tree : Tree) → length names ≤ most → IsExpression names tokens tree → IsSoundTree most tree
sound_tree names most tokens tree h e = record { parts = has_parts names most 5 tokens tree h e.row; shallow = e.shallow }

abbrev SoundLine : ℕ → ℕ → Line → Type 0
SoundLine most last (Does statement) = IsSoundStatement most last statement
SoundLine most last (DeclaresWith name value) = IsSoundTree most value
SoundLine most last (OpensIf test) = IsSoundTree most test
SoundLine most last (OpensWhile test) = IsSoundTree most test
SoundLine most last other = ⊤

sound_line : (names : Names) (most last number : ℕ) (tokens : Tokens) (line : Line) → length names ≤ most → 1 ≤ number → number ≤ last → IsLine names number tokens line → SoundLine most last line
sound_line names most last number tokens line h low high nothing = tt
sound_line names most last number tokens line h low high (declares name) = tt
sound_line names most last number tokens line h low high (declares_with name rest value e) = sound_tree names most rest value h e
sound_line names most last number tokens line h low high (assigns name x rest value p e) = (let k : x < length names = place_below names name x p in omega arith, sound_tree names most rest value h e, (low, high))
sound_line names most last number tokens line h low high (prints rest value e) = (sound_tree names most rest value h e, (low, high))
sound_line names most last number tokens line h low high (opens_if rest test e) = sound_tree names most rest test h e
sound_line names most last number tokens line h low high closes_if = tt
sound_line names most last number tokens line h low high (opens_while rest test e) = sound_tree names most rest test h e
sound_line names most last number tokens line h low high closes_while = tt

-- no name is lost
names_grow : (inside : Bool) (names : Names) (above : ℕ) (lines : List Tokens) (block : Block) (all : Names) → AreStatements inside names above lines block all → length names ≤ length all
names_grow inside names above lines block all (none _ _ _) = omega arith
names_grow inside names above lines block all (no_statement _ _ _ line others _ _ l s) = names_grow inside names (suc above) others block all s
names_grow inside names above lines block all (declared _ _ line others name later _ l new s) =
    let k = names_grow false (names ++ name ∷ []) (suc above) others later all s in omega (arith, length-append names (name ∷ []))
names_grow inside names above lines block all (declared_with _ _ line others name value later _ l new s) =
    let k = names_grow false (names ++ name ∷ []) (suc above) others later all s in omega (arith, length-append names (name ∷ []))
names_grow inside names above lines block all (does _ _ _ line others statement later _ l s) = names_grow inside names (suc above) others later all s
names_grow inside names above lines block all (if_block _ _ _ line between final others test body later below _ l b e m s) = names_grow inside names (suc below) others later all s
names_grow inside names above lines block all (while_block _ _ _ line between final others test body later below _ l b e m s) = names_grow inside names (suc below) others later all s

sound_block : (inside : Bool) (names : Names) (above : ℕ) (lines : List Tokens) (block : Block) (all : Names) → AreStatements inside names above lines block all
    → (most last : ℕ) → length all ≤ most → above + length lines ≤ last → IsSoundBlock most last block
sound_block inside names above lines block all (none _ _ _) most last h k = tt
sound_block inside names above lines block all (no_statement _ _ _ line others _ _ l s) most last h k = sound_block inside names (suc above) others block all s most last h (omega arith)
sound_block inside names above lines block all (declared _ _ line others name later _ l new s) most last h k =
    let g = names_grow false (names ++ name ∷ []) (suc above) others later all s in
    ((omega (arith, length-append names (name ∷ [])), (omega arith, omega arith)), sound_block false (names ++ name ∷ []) (suc above) others later all s most last h (omega arith))
sound_block inside names above lines block all (declared_with _ _ line others name value later _ l new s) most last h k =
    let g = names_grow false (names ++ name ∷ []) (suc above) others later all s in (
      (omega (arith, length-append names (name ∷ [])), sound_line names most last (suc above) line (DeclaresWith name value) (omega (arith, length-append names (name ∷ []))) (omega arith) (omega arith) l, (omega arith, omega arith)),
      sound_block false (names ++ name ∷ []) (suc above) others later all s most last h (omega arith),
    )
sound_block inside names above lines block all (does _ _ _ line others statement later _ l s) most last h k =
    let g = names_grow inside names (suc above) others later all s in
    (sound_line names most last (suc above) line (Does statement) (omega arith) (omega arith) (omega arith) l, sound_block inside names (suc above) others later all s most last h (omega arith))
sound_block inside names above lines block all (if_block _ _ _ line between final others test body later below _ l b e m s) most last h k =
    let g = names_grow inside names (suc below) others later all s in
    let few : suc below + length others ≤ last = omega (arith, length-append between (final ∷ others)) in (
      (sound_line names most last (suc above) line (OpensIf test) (omega arith) (omega arith) (omega arith) l, sound_block true names (suc above) between body names b most last (omega arith) (omega arith), (omega arith, omega arith)),
      sound_block inside names (suc below) others later all s most last h few,
    )
sound_block inside names above lines block all (while_block _ _ _ line between final others test body later below _ l b e m s) most last h k =
    let g = names_grow inside names (suc below) others later all s in
    let few : suc below + length others ≤ last = omega (arith, length-append between (final ∷ others)) in (
      (sound_line names most last (suc above) line (OpensWhile test) (omega arith) (omega arith) (omega arith) l, sound_block true names (suc above) between body names b most last (omega arith) (omega arith), (omega arith, omega arith), (omega arith, omega arith)),
      sound_block inside names (suc below) others later all s most last h few,
    )

-- Each program that a text has is sound.
pub each_is_sound : (text : List ℕ) (program : Program) → IsProgram text program → IsSound program
each_is_sound text program p =
    let q = p.are_program in
    record {
      statements = sound_block false [] 0 p.lines program.statements q.names q.statements program.variables program.last_line (omega (arith, q.variables)) (omega (arith, q.last_line));
      shallow = q.shallow;
    }
