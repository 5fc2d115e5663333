-- Each line is read, and what is read as a line is one.
use Rattle.std.proofs.Common.{◌≡◌, ℕ, true, false, List, [], ◌∷◌, ◌++◌, Some, None, option_map, refl, ap, sym, ◌∙◌, subst}
use Rattle.first_language.specs.declared.tree.Operator.TheVariants.{Same}
use Rattle.first_language.specs.declared.token.Token.{Token}
use Rattle.first_language.specs.declared.token.Token.TheVariants as t
use Rattle.first_language.specs.Tree.{Assign, Print}
use Rattle.first_language.specs.Grammar.{Tokens, Names, place_of, Line, Nothing, Declares, DeclaresWith, Does, OpensIf, ClosesIf, OpensWhile, ClosesWhile, IsLine, nothing, declares, declares_with, assigns, prints, opens_if, closes_if, opens_while, closes_while}
use Rattle.first_language.specs.Reading.{expression_of, declaration, assignment, is_then, before_then, condition, line_of}
use Rattle.first_language.proofs.Lines.{before_last}
use Rattle.first_language.proofs.EachRow.{each_expression}
use Rattle.first_language.proofs.RowIsOne.{and_then_parts, map_parts, chosen, some_is, expression_is_one}

then_is : (token : Token) → is_then token ≡ true → token ≡ t.Then
then_is t.Then h = refl
then_is other h = absurd (let e : false ≡ true = h in cc)

-- what stands before a Then at the end
then_parts : (tokens front : Tokens) → before_then tokens ≡ Some front → tokens ≡ front ++ t.Then ∷ []
then_parts [] front h = absurd (let e : None ≡ Some front = h in cc)
then_parts (a ∷ []) front h =
    let w = chosen (is_then a) [] front h in
    ap (λ x. x ∷ []) (then_is a w.0) ∙ ap (λ x. x ++ t.Then ∷ []) w.1
then_parts (a ∷ b ∷ rest) front h =
    let w = map_parts (λ x. a ∷ x) (before_then (b ∷ rest)) front h in
    ap (λ x. a ∷ x) (then_parts (b ∷ rest) w.0 w.1) ∙ ap (λ x. x ++ t.Then ∷ []) w.2

module _ (names : Names) (number : ℕ) where
  -- Each line is read, as what it says.
  pub each_line : (tokens : Tokens) (line : Line) → IsLine names number tokens line → line_of names number tokens ≡ Some line
  each_line tokens line nothing = refl
  each_line tokens line (declares name) = refl
  each_line tokens line (declares_with name rest value e) = rw (each_expression names rest value e) refl
  each_line tokens line (assigns name x rest value p e) = rw (p, each_expression names rest value e) refl
  each_line tokens line (prints rest value e) = rw (each_expression names rest value e) refl
  each_line tokens line (opens_if rest test e) = rw (before_last rest t.Then, each_expression names rest test e) refl
  each_line tokens line closes_if = refl
  each_line tokens line (opens_while rest test e) = rw (each_expression names rest test e) refl
  each_line tokens line closes_while = refl

  said : (one line : Line) (tokens : Tokens) → IsLine names number tokens one → one ≡ line → IsLine names number tokens line
  said one line tokens is e = subst (λ x. IsLine names number tokens x) e is

  declaration_is : (tokens : Tokens) (line : Line) → declaration names tokens ≡ Some line → IsLine names number (t.Dim ∷ tokens) line
  declaration_is (t.Name name ∷ t.As ∷ t.Integer ∷ []) line h = said (Declares name) line _ (declares name) (some_is (Declares name) line h)
  declaration_is (t.Name name ∷ t.As ∷ t.Integer ∷ t.Sign Same ∷ rest) line h =
      let w = map_parts (DeclaresWith name) (expression_of names rest) line h in
      said (DeclaresWith name w.0) line _ (declares_with name rest w.0 (expression_is_one names rest w.0 w.1)) w.2
  declaration_is other line h = absurd (let e : None ≡ Some line = h in cc)

  assignment_is : (name : List ℕ) (tokens : Tokens) (line : Line) → assignment names number name tokens ≡ Some line → IsLine names number (t.Name name ∷ tokens) line
  assignment_is name (t.Sign Same ∷ rest) line h =
      let v = and_then_parts (λ x. option_map (λ value. Does (Assign x value number)) (expression_of names rest)) (place_of names name) line h in
      let w = map_parts (λ value. Does (Assign v.0 value number)) (expression_of names rest) line v.2 in
      said (Does (Assign v.0 w.0 number)) line _ (assigns name v.0 rest w.0 v.1 (expression_is_one names rest w.0 w.1)) w.2
  assignment_is name other line h = absurd (let e : None ≡ Some line = h in cc)

  condition_is : (tokens : Tokens) (line : Line) → condition names tokens ≡ Some line → IsLine names number (t.If ∷ tokens) line
  condition_is tokens line h =
      let v = and_then_parts (λ front. option_map OpensIf (expression_of names front)) (before_then tokens) line h in
      let w = map_parts OpensIf (expression_of names v.0) line v.2 in
      subst (λ x. IsLine names number (t.If ∷ x) line) (sym (then_parts tokens v.0 v.1)) (said (OpensIf w.0) line _ (opens_if v.0 w.0 (expression_is_one names v.0 w.0 w.1)) w.2)

  -- What is read as a line is one, and says that.
  pub line_is_one : (tokens : Tokens) (line : Line) → line_of names number tokens ≡ Some line → IsLine names number tokens line
  line_is_one [] line h = said Nothing line [] nothing (some_is Nothing line h)
  line_is_one (t.Dim ∷ rest) line h = declaration_is rest line h
  line_is_one (t.Name name ∷ rest) line h = assignment_is name rest line h
  line_is_one (t.Print ∷ rest) line h =
      let w = map_parts (λ value. Does (Print value number)) (expression_of names rest) line h in
      said (Does (Print w.0 number)) line _ (prints rest w.0 (expression_is_one names rest w.0 w.1)) w.2
  line_is_one (t.If ∷ rest) line h = condition_is rest line h
  line_is_one (t.End ∷ t.If ∷ []) line h = said ClosesIf line _ closes_if (some_is ClosesIf line h)
  line_is_one (t.While ∷ rest) line h =
      let w = map_parts OpensWhile (expression_of names rest) line h in
      said (OpensWhile w.0) line _ (opens_while rest w.0 (expression_is_one names rest w.0 w.1)) w.2
  line_is_one (t.Wend ∷ []) line h = said ClosesWhile line _ closes_while (some_is ClosesWhile line h)
  line_is_one other line h = absurd (let e : None ≡ Some line = h in cc)
