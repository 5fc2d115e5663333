use Rattle.std.proofs.Common.{◌≡◌, ◌≤◌, ◌<◌, List, [], ◌∷◌, length, get_or, map, codes, refl, ap, sym, ◌∙◌, arith}
use Rattle.std.specs.Cmp.Lexicographic.{same_text}
use Rattle.std.specs.String.{string_bytes}
use Rattle.fb_top.proofs.tool.asked_file.Goals as goal

-- a list of two
two_items : {A : Type 0} (xs : List A) (a b : A) → 2 ≤ length xs → length xs < 3 → a ≡ get_or xs 0 a → b ≡ get_or xs 1 b → xs ≡ a ∷ (b ∷ [])
two_items [] a b low high first second = absurd (omega arith)
two_items (x ∷ []) a b low high first second = absurd (omega arith)
two_items (x ∷ (y ∷ [])) a b low high first second = let e : a ≡ x = first in let f : b ≡ y = second in cc
two_items (x ∷ (y ∷ (z ∷ xs))) a b low high first second = absurd (omega arith)

pub returns-in-len2-clause-asked : goal.returns-in-len2-clause-asked
returns-in-len2-clause-asked c =
    let command = c.command-item.result in
    let name = c.name-item.result in
    let items : c.args.words.now ≡ command ∷ (name ∷ []) = two_items c.args.words.now command name c.in-len2.len_at_least c.in-len2.len_below c.command-item.is c.name-item.is in
    let run : string_bytes command ≡ codes "run" = sym c.as_str.ensures.value ∙ same_text c.as_str.result.now (codes "run") c.if-eq.ensures in
    let file : string_bytes name ≡ c.as_str-in-len2.result.now = sym c.as_str-in-len2.ensures.value in
    ap (map (λ word. string_bytes word)) items ∙ rw (run, file) refl
