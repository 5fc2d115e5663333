-- Addresses behind all code have the last line.
use Rattle.std.proofs.Common.{◌≡◌, ℕ, ◌≤◌, List, [], ◌∷◌, refl, arith}
use Rattle.std.proofs.lemmas.Bool.{le-leb}
use Rattle.fb_base.specs.declared.shape.LineAt.{LineAt}
use Rattle.fb_image.specs.Format.{AllAlong, IsLine, after_line}
use Rattle.fb_image.specs.Lines.{last_line}

pub last_lines : (words low before i j : ℕ) (ls : List LineAt) → AllAlong (IsLine words) after_line low ls → words ≤ i → words ≤ j → last_line before ls i ≡ last_line before ls j
last_lines words low before i j [] rules a b = refl
last_lines words low before i j (l ∷ ls) rules a b =
    let at : l.index ≤ i = omega (arith, rules.0.within) in
    let bt : l.index ≤ j = omega (arith, rules.0.within) in
    rw (le-leb l.index i at, le-leb l.index j bt) (last_lines words (after_line l) l.line i j ls rules.1 a b)
