-- The items of an image are read exactly.
use Rattle.std.proofs.Common.{◌≡◌, ℕ, zero, suc, ◌+◌, ◌%◌, ◌^◌, ◌<◌, ◌≤◌, true, false, cond, ltb, leb, eqb, List, ◌++◌, length, take, drop, Ok, refl, sym, ap, subst, ◌∙◌, append_assoc, arith, inl, inr}
use Rattle.std.specs.Prelude.{◌&&◌, ◌||◌}
use Rattle.std.specs.List.{flat_map}
use Rattle.std.proofs.lemmas.Bool.{ltb-true, ltb-false, leb-true, eqb-true, lt-ltb, le-ltb, le-leb, eq-eqb, and_parts, and_from, or_cases, or_left, or_right}
use Rattle.std.proofs.lemmas.List.{take_at, drop_at, take-append-drop, length-append, length-take}
use Rattle.fb_base.specs.declared.ending.ImageWhy.TheVariants.{Entry, ShapeRule, LiteralRule, LineRule}
use Rattle.fb_base.specs.declared.shape.Shape.{Shape}
use Rattle.fb_base.specs.declared.shape.LineAt.{LineAt}
use Rattle.fb_image.specs.Texts.{IsLiteral}
use Rattle.fb_image.specs.Format.{IsCell, after_cell, IsAlign, IsShape, IsLine, IsWord}
use Rattle.fb_image.specs.Spelling.{word, shape, literal, line}
use Rattle.fb_image.specs.Reading.{◌>>=◌, short, word_at, word_such, many_at, code_at, entry_at, fits_cell, cell_at, fits_size, fits_align, shape_at, literal_at, fits_index, line_at}
use Rattle.fb_image.proofs.Rules.{shape_words}
use Rattle.fb_image.proofs.Words.{IsBytes, IsBytes-drop, bind_ok, ok_is, not_passed, Takes, Takes-then, word_takes, word_again, such_takes, such_again}
use Rattle.fb_image.proofs.Items.{IsExact, many_takes, many_again}

pub code_exact : IsExact code_at word (λ _ n. IsWord n)
code_exact = record {
  takes = λ low bytes x fits e. word_takes bytes x fits e;
  again = λ low n rest lt. word_again n rest lt;
}

pub entry_exact : (words : ℕ) → words < 2 ^ 32 → IsExact (entry_at words) word (λ _ n. n < words)
entry_exact words few = record {
  takes = λ low bytes x fits e. let t = such_takes (λ n. ltb n words) Entry bytes x fits e in (t.takes, ltb-true _ _ t.passes);
  again = λ low n rest lt. such_again (λ n. ltb n words) Entry n rest (omega arith) (lt-ltb _ _ lt);
}

-- ---- cells

cell_rule : (size low n : ℕ) → fits_cell size low n ≡ true → IsCell size low n
cell_rule size low n e =
    let a = and_parts (leb low n && eqb (n % 8) 0) (leb (n + 24) size) e in
    let b = and_parts (leb low n) (eqb (n % 8) 0) a.0 in
    record { above = leb-true _ _ b.0; aligned = eqb-true _ _ b.1; within = leb-true _ _ a.1 }

pub cell_test : (size low n : ℕ) → IsCell size low n → fits_cell size low n ≡ true
cell_test size low n rule = and_from _ _ (and_from _ _ (le-leb _ _ rule.above) (eq-eqb _ _ rule.aligned)) (le-leb _ _ rule.within)

pub cell_exact : (size : ℕ) → size < 2 ^ 32 → IsExact (cell_at size) word (IsCell size)
cell_exact size few = record {
  takes = λ low bytes x fits e. let t = such_takes (fits_cell size low) ShapeRule bytes x fits e in (t.takes, cell_rule size low x.0 t.passes);
  again = λ low n rest rule. such_again (fits_cell size low) ShapeRule n rest (omega (arith, rule.within)) (cell_test size low n rule);
}

-- ---- shapes

align_rule : (n : ℕ) → (eqb n 1 || eqb n 2 || eqb n 4 || eqb n 8) ≡ true → IsAlign n
align_rule n e =
    elim (or_cases (eqb n 1 || eqb n 2 || eqb n 4) (eqb n 8) e) [
      | inr d ↦ inr (inr (inr (eqb-true _ _ d)))
      | inl f ↦ elim (or_cases (eqb n 1 || eqb n 2) (eqb n 4) f) [
        | inr d ↦ inr (inr (inl (eqb-true _ _ d)))
        | inl g ↦ elim (or_cases (eqb n 1) (eqb n 2) g) [
          | inr d ↦ inr (inl (eqb-true _ _ d))
          | inl d ↦ inl (eqb-true _ _ d)
        ]
      ]
    ]

pub align_test : (n : ℕ) → IsAlign n → (eqb n 1 || eqb n 2 || eqb n 4 || eqb n 8) ≡ true
align_test n (inl e) = or_left _ _ (or_left _ _ (or_left _ _ (eq-eqb _ _ e)))
align_test n (inr (inl e)) = or_left _ _ (or_left _ _ (or_right _ _ (eq-eqb _ _ e)))
align_test n (inr (inr (inl e))) = or_left _ _ (or_right (eqb n 1 || eqb n 2) _ (eq-eqb _ _ e))
align_test n (inr (inr (inr e))) = or_right (eqb n 1 || eqb n 2 || eqb n 4) _ (eq-eqb _ _ e)

shape_takes : (least : ℕ) (bytes : List ℕ) (x : Shape × List ℕ) → IsBytes bytes → shape_at least bytes ≡ Ok x → Takes bytes (shape x.0) x.1 × IsShape least x.0
unfolding shape_at
shape_takes least bytes x fits e =
    let a = bind_ok (word_such (fits_size least) ShapeRule bytes) (λ size. word_such (fits_align size.0) ShapeRule size.1 >>= λ align. word_at align.1 >>= λ count. many_at (cell_at size.0) after_cell 0 count.0 count.1 >>= λ cells. Ok (record { size = size.0; align = align.0; cells = cells.0 }, cells.1)) x e in
    let b = bind_ok (word_such (fits_align a.0.0) ShapeRule a.0.1) (λ align. word_at align.1 >>= λ count. many_at (cell_at a.0.0) after_cell 0 count.0 count.1 >>= λ cells. Ok (record { size = a.0.0; align = align.0; cells = cells.0 }, cells.1)) x a.2 in
    let c = bind_ok (word_at b.0.1) (λ count. many_at (cell_at a.0.0) after_cell 0 count.0 count.1 >>= λ cells. Ok (record { size = a.0.0; align = b.0.0; cells = cells.0 }, cells.1)) x b.2 in
    let d = bind_ok (many_at (cell_at a.0.0) after_cell 0 c.0.0 c.0.1) (λ cells. Ok (record { size = a.0.0; align = b.0.0; cells = cells.0 }, cells.1)) x c.2 in
    let t0 = such_takes (fits_size least) ShapeRule bytes a.0 fits a.1 in
    let t1 = such_takes (fits_align a.0.0) ShapeRule a.0.1 b.0 t0.takes.rest_fits b.1 in
    let t2 = word_takes b.0.1 c.0 t1.takes.rest_fits c.1 in
    let t3 = many_takes (cell_at a.0.0) word (IsCell a.0.0) (cell_exact a.0.0 t0.is_word) after_cell 0 c.0.0 c.0.1 d.0 t2.0.rest_fits d.1 in
    let size_parts = and_parts (leb least a.0.0) (leb a.0.0 16777216) t0.passes in
    let align_parts = and_parts (eqb b.0.0 1 || eqb b.0.0 2 || eqb b.0.0 4 || eqb b.0.0 8) (eqb (a.0.0 % b.0.0) 0) t1.passes in
    let counted : Takes b.0.1 (word (length d.0.0)) c.0.1 = rw t3.count t2.0 in
    let two = Takes-then bytes (word a.0.0) a.0.1 (word b.0.0) b.0.1 t0.takes t1.takes in
    let three = Takes-then bytes (word a.0.0 ++ word b.0.0) b.0.1 (word (length d.0.0)) c.0.1 two counted in
    let four = Takes-then bytes (word a.0.0 ++ word b.0.0 ++ word (length d.0.0)) c.0.1 (flat_map word d.0.0) d.0.1 three t3.takes in
    let rules : IsShape least (record { size = a.0.0; align = b.0.0; cells = d.0.0 }) = record {
      least_size = leb-true _ _ size_parts.0;
      greatest_size = leb-true _ _ size_parts.1;
      align = align_rule b.0.0 align_parts.0;
      divides = eqb-true _ _ align_parts.1;
      cells = t3.rules;
    } in
    let made : Shape × List ℕ = (record { size = a.0.0; align = b.0.0; cells = d.0.0 }, d.0.1) in
    subst (λ (y : Shape × List ℕ). Takes bytes (shape y.0) y.1 × IsShape least y.0) (ok_is made x d.2) (four, rules)

shape_again : (least : ℕ) (s : Shape) (rest : List ℕ) → IsShape least s → shape_at least (shape s ++ rest) ≡ Ok (s, rest)
unfolding shape_at
shape_again least s rest rule =
    let words = shape_words least s rule in
    let tail = flat_map word s.cells ++ rest in
    let regrouped : shape s ++ rest ≡ word s.size ++ (word s.align ++ (word (length s.cells) ++ tail)) = simp append_assoc in
    let size = such_again (fits_size least) ShapeRule s.size (word s.align ++ (word (length s.cells) ++ tail)) words.size (and_from _ _ (le-leb _ _ rule.least_size) (le-leb _ _ rule.greatest_size)) in
    let align = such_again (fits_align s.size) ShapeRule s.align (word (length s.cells) ++ tail) words.align (and_from _ _ (align_test s.align rule.align) (eq-eqb _ _ rule.divides)) in
    let count = word_again (length s.cells) tail words.count in
    let cells = many_again (cell_at s.size) word (IsCell s.size) (cell_exact s.size words.size) after_cell 0 s.cells rest rule.cells in
    ap (shape_at least) regrouped ∙ rw (size, align, count, cells) refl

pub shape_exact : IsExact shape_at shape IsShape
shape_exact = record { takes = shape_takes; again = shape_again }

-- ---- literals

literal_takes : (low : ℕ) (bytes : List ℕ) (x : List ℕ × List ℕ) → IsBytes bytes → literal_at low bytes ≡ Ok x → Takes bytes (literal x.0) x.1 × IsLiteral x.0
unfolding literal_at
literal_takes low bytes x fits e =
    let a = bind_ok (word_such (λ n. leb n 16777216) LiteralRule bytes) (λ n. cond (ltb (length n.1) n.0) short (Ok (take n.0 n.1, drop n.0 n.1))) x e in
    let n = a.0 in
    let t = such_takes (λ n. leb n 16777216) LiteralRule bytes n fits a.1 in
    let g = not_passed (ltb (length n.1) n.0) _ (take n.0 n.1, drop n.0 n.1) x a.2 in
    let long : n.0 ≤ length n.1 = ltb-false _ _ g.0 in
    let len : length (take n.0 n.1) ≡ n.0 = omega (arith, length-take n.0 n.1) in
    let second : Takes n.1 (take n.0 n.1) (drop n.0 n.1) = record { parts = sym (take-append-drop n.0 n.1); rest_fits = IsBytes-drop n.0 n.1 t.takes.rest_fits } in
    let both = Takes-then bytes (word n.0) n.1 (take n.0 n.1) (drop n.0 n.1) t.takes second in
    let whole : Takes bytes (literal (take n.0 n.1)) (drop n.0 n.1) = subst (λ (k : ℕ). Takes bytes (word k ++ take n.0 n.1) (drop n.0 n.1)) (sym len) both in
    subst (λ (p : List ℕ × List ℕ). Takes bytes (literal p.0) p.1 × IsLiteral p.0) g.1 (whole, omega (arith, leb-true _ _ t.passes))

literal_again : (low : ℕ) (text rest : List ℕ) → IsLiteral text → literal_at low (literal text ++ rest) ≡ Ok (text, rest)
unfolding literal_at
literal_again low text rest le =
    let long : ltb (length (text ++ rest)) (length text) ≡ false = le-ltb _ _ (omega (arith, length-append text rest)) in
    let len = such_again (λ n. leb n 16777216) LiteralRule (length text) (text ++ rest) (omega arith) (le-leb _ _ le) in
    ap (literal_at low) (append_assoc (word (length text)) text rest) ∙ rw (len, long, take_at text rest (length text) refl, drop_at text rest (length text) refl) refl

pub literal_exact : IsExact literal_at literal (λ _ text. IsLiteral text)
literal_exact = record { takes = literal_takes; again = literal_again }

-- ---- lines

index_first : (low n : ℕ) → (ltb 0 low || eqb n 0) ≡ true → low ≡ 0 → n ≡ 0
index_first low n e none =
    elim (or_cases (ltb 0 low) (eqb n 0) e) [
      | inl lt ↦ absurd (omega (arith, ltb-true _ _ lt))
      | inr is ↦ eqb-true _ _ is
    ]

pub first_test : (low n : ℕ) → (low ≡ 0 → n ≡ 0) → (ltb 0 low || eqb n 0) ≡ true
first_test zero n first = eq-eqb _ _ (first refl)
first_test (suc low) n first = or_left (ltb 0 (suc low)) (eqb n 0) (lt-ltb 0 (suc low) (omega arith))

abbrev pub IsLineOf : ℕ → ℕ → LineAt → Type 0
IsLineOf words low l = IsLine words low l × IsWord l.line

line_takes : (words low : ℕ) (bytes : List ℕ) (x : LineAt × List ℕ) → IsBytes bytes → line_at words low bytes ≡ Ok x → Takes bytes (line x.0) x.1 × IsLineOf words low x.0
unfolding line_at
line_takes words low bytes x fits e =
    let a = bind_ok (word_such (fits_index words low) LineRule bytes) (λ index. word_such (ltb 0) LineRule index.1 >>= λ number. Ok (record { index = index.0; line = number.0 }, number.1)) x e in
    let b = bind_ok (word_such (ltb 0) LineRule a.0.1) (λ number. Ok (record { index = a.0.0; line = number.0 }, number.1)) x a.2 in
    let t0 = such_takes (fits_index words low) LineRule bytes a.0 fits a.1 in
    let t1 = such_takes (ltb 0) LineRule a.0.1 b.0 t0.takes.rest_fits b.1 in
    let parts = and_parts (leb low a.0.0 && ltb a.0.0 words) (ltb 0 low || eqb a.0.0 0) t0.passes in
    let within = and_parts (leb low a.0.0) (ltb a.0.0 words) parts.0 in
    let made : LineAt × List ℕ = (record { index = a.0.0; line = b.0.0 }, b.0.1) in
    let rules : IsLine words low made.0 = record {
      first = index_first low a.0.0 parts.1;
      rises = leb-true _ _ within.0;
      within = ltb-true _ _ within.1;
      number = ltb-true _ _ t1.passes;
    } in
    let both = Takes-then bytes (word a.0.0) a.0.1 (word b.0.0) b.0.1 t0.takes t1.takes in
    subst (λ (y : LineAt × List ℕ). Takes bytes (line y.0) y.1 × IsLineOf words low y.0) (ok_is made x b.2) (both, (rules, t1.is_word))

line_again : (words low : ℕ) → words < 2 ^ 32 → (l : LineAt) (rest : List ℕ) → IsLineOf words low l → line_at words low (line l ++ rest) ≡ Ok (l, rest)
unfolding line_at
line_again words low few l rest rule =
    let index = such_again (fits_index words low) LineRule l.index (word l.line ++ rest) (omega (arith, rule.0.within)) (and_from _ _ (and_from _ _ (le-leb _ _ rule.0.rises) (lt-ltb _ _ rule.0.within)) (first_test low l.index rule.0.first)) in
    let number = such_again (ltb 0) LineRule l.line rest rule.1 (lt-ltb _ _ rule.0.number) in
    ap (line_at words low) (append_assoc (word l.index) (word l.line) rest) ∙ rw (index, number) refl

pub line_exact : (words : ℕ) → words < 2 ^ 32 → IsExact (line_at words) line (IsLineOf words)
line_exact words few = record { takes = line_takes words; again = λ low. line_again words low few }
