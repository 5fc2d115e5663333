-- A spelling that is cut off is short at its end.
use Rattle.std.proofs.Common.{◌≡◌, ℕ, suc, ◌+◌, ◌-◌, ◌^◌, ◌<◌, ◌≤◌, Bool, cond, ltb, leb, eqb, List, [], ◌∷◌, ◌++◌, length, take, drop, Result, Ok, Err, refl, sym, ap, subst, ◌∙◌, append_assoc, arith, inl, inr}
use Rattle.std.specs.List.{flat_map}
use Rattle.std.proofs.Math.Seq.{take-append-add}
use Rattle.std.proofs.lemmas.Bool.{cases_lt, lt-ltb, le-leb, eq-eqb, and_from}
use Rattle.std.proofs.lemmas.List.{take-append-le, length-take, length-append}
use Rattle.std.proofs.lemmas.List.Concat.{flat_map-cons}
use Rattle.fb_base.specs.declared.ending.ImageWhy.{ImageWhy}
use Rattle.fb_base.specs.declared.ending.ImageWhy.TheVariants.{Magic, Version, Count, Entry, ShapeRule, LiteralRule, LineRule, Short, Extra}
use Rattle.fb_base.specs.declared.shape.Shape.{Shape}
use Rattle.fb_base.specs.declared.shape.LineAt.{LineAt}
use Rattle.fb_image.specs.declared.fields.Counts.{Counts}
use Rattle.fb_image.specs.declared.image.ImageParts.{ImageParts}
use Rattle.fb_image.specs.Answers.{placed, image_of}
use Rattle.fb_image.specs.Texts.{IsLiteral}
use Rattle.fb_image.specs.Format.{AllAlong, IsCell, after_cell, IsShape, after_shape, IsLine, after_line, IsWord, IsImage}
use Rattle.fb_image.specs.Spelling.{word, shape, literal, line, magic, version, header, lists, spelling}
use Rattle.fb_image.specs.Reading.{Fault, ◌>>=◌, short, broken, word_at, word_such, many_at, no_more, code_at, entry_at, fits_cell, cell_at, fits_size, fits_align, shape_at, literal_at, fits_index, line_at, some_at, counts_at, magic_number, header_at, lists_at, parts_of}
use Rattle.fb_image.proofs.Rules.{shape_words}
use Rattle.fb_image.proofs.Words.{word_length, word_again, such_again}
use Rattle.fb_image.proofs.Items.{IsExact, many_again, along_from_each, along_both}
use Rattle.fb_image.proofs.Parts.{code_exact, entry_exact, cell_exact, align_test, shape_exact, literal_exact, first_test, IsLineOf, line_exact}
use Rattle.fb_image.proofs.Exact.{AreCounts, counted, counts_of, are_counts, magic_is, version_is, header_again}

-- what reads a text says of each shorter front of it that it is short
record Stops {A : Type 0} (r : List ℕ → Result A Fault) (text : List ℕ) : Type 0 where
  at : (k : ℕ) → k < length text → r (take k text) ≡ short

stops_word : (n : ℕ) → Stops word_at (word n)
unfolding word_at
stops_word n = record { at = λ k lt. rw (lt-ltb (length (take k (word n))) 4 (omega (arith, length-take k (word n), word_length n))) refl }

stops_such : (test : ℕ → Bool) (why : ImageWhy) (n : ℕ) → Stops (word_such test why) (word n)
stops_such test why n = record { at = λ k lt. rw ((stops_word n).at k lt) refl }

take_past : (k : ℕ) (front back : List ℕ) → length front ≤ k → take k (front ++ back) ≡ front ++ take (k - length front) back
take_past k front back le =
    let is : k ≡ length front + (k - length front) = omega arith in
    ap (λ (n : ℕ). take n (front ++ back)) is ∙ take-append-add front back (k - length front)

-- one text after another
stops_then : {A B : Type 0} (r : List ℕ → Result (A × List ℕ) Fault) (f : A × List ℕ → Result B Fault) (x : A) (front back : List ℕ)
    → Stops r front → ((rest : List ℕ) → r (front ++ rest) ≡ Ok (x, rest)) → Stops (λ rest. f (x, rest)) back → Stops (λ bytes. r bytes >>= f) (front ++ back)
stops_then r f x front back first again second = record {
  at = λ k lt.
      elim (cases_lt k (length front)) [
        | inl within ↦ rw (take-append-le k front back (omega arith), first.at k within) refl
        | inr past ↦ rw (take_past k front back past, again (take (k - length front) back)) (second.at (k - length front) (omega (arith, length-append front back)))
      ];
}

-- the last text
stops_last : {A B : Type 0} (r : List ℕ → Result A Fault) (f : A → Result B Fault) (text : List ℕ) → Stops r text → Stops (λ bytes. r bytes >>= f) text
stops_last r f text last = record { at = λ k lt. rw (last.at k lt) refl }

stops_many : {A : Type 0} (item : ℕ → List ℕ → Result (A × List ℕ) Fault) (spell : A → List ℕ) (rule : ℕ → A → Type 0) → IsExact item spell rule → ((low : ℕ) (x : A) → rule low x → Stops (item low) (spell x))
    → (next : A → ℕ) (low : ℕ) (xs : List A) → AllAlong rule next low xs → Stops (many_at item next low (length xs)) (flat_map spell xs)
unfolding many_at
stops_many item spell rule exact each next low [] rules = record { at = λ k lt. absurd (omega arith) }
stops_many item spell rule exact each next low (x ∷ xs) rules =
    let others = stops_last (many_at item next (next x) (length xs)) (λ others. Ok (x ∷ others.0, others.1)) (flat_map spell xs) (stops_many item spell rule exact each next (next x) xs rules.1) in
    let all = stops_then (item low) (λ first. many_at item next (next first.0) (length xs) first.1 >>= λ others. Ok (first.0 ∷ others.0, others.1)) x (spell x) (flat_map spell xs) (each low x rules.0) (λ rest. exact.again low x rest rules.0) others in
    subst (λ (text : List ℕ). Stops (many_at item next low (suc (length xs))) text) (sym (flat_map-cons spell x xs)) all

-- ---- the items

stops_shape : (least : ℕ) (s : Shape) → IsShape least s → Stops (shape_at least) (shape s)
unfolding shape_at
stops_shape least s rule =
    let words = shape_words least s rule in
    let cells = stops_last (many_at (cell_at s.size) after_cell 0 (length s.cells)) (λ cells. Ok (record { size = s.size; align = s.align; cells = cells.0 }, cells.1)) (flat_map word s.cells) (stops_many (cell_at s.size) word (IsCell s.size) (cell_exact s.size words.size) (λ low n _. stops_such (fits_cell s.size low) ShapeRule n) after_cell 0 s.cells rule.cells) in
    let count = stops_then word_at (λ count. many_at (cell_at s.size) after_cell 0 count.0 count.1 >>= λ cells. Ok (record { size = s.size; align = s.align; cells = cells.0 }, cells.1)) (length s.cells) (word (length s.cells)) (flat_map word s.cells) (stops_word (length s.cells)) (λ rest. word_again (length s.cells) rest words.count) cells in
    let align = stops_then (word_such (fits_align s.size) ShapeRule) (λ align. word_at align.1 >>= λ count. many_at (cell_at s.size) after_cell 0 count.0 count.1 >>= λ cells. Ok (record { size = s.size; align = align.0; cells = cells.0 }, cells.1)) s.align (word s.align) (word (length s.cells) ++ flat_map word s.cells) (stops_such (fits_align s.size) ShapeRule s.align) (λ rest. such_again (fits_align s.size) ShapeRule s.align rest words.align (and_from _ _ (align_test s.align rule.align) (eq-eqb _ _ rule.divides))) count in
    let size = stops_then (word_such (fits_size least) ShapeRule) (λ size. word_such (fits_align size.0) ShapeRule size.1 >>= λ align. word_at align.1 >>= λ count. many_at (cell_at size.0) after_cell 0 count.0 count.1 >>= λ cells. Ok (record { size = size.0; align = align.0; cells = cells.0 }, cells.1)) s.size (word s.size) (word s.align ++ (word (length s.cells) ++ flat_map word s.cells)) (stops_such (fits_size least) ShapeRule s.size) (λ rest. such_again (fits_size least) ShapeRule s.size rest words.size (and_from _ _ (le-leb _ _ rule.least_size) (le-leb _ _ rule.greatest_size))) align in
    let grouped : word s.size ++ (word s.align ++ (word (length s.cells) ++ flat_map word s.cells)) ≡ shape s = sym (simp append_assoc) in
    subst (λ (text : List ℕ). Stops (shape_at least) text) grouped size

stops_literal : (low : ℕ) (text : List ℕ) → IsLiteral text → Stops (literal_at low) (literal text)
unfolding literal_at
stops_literal low text le =
    let bytes : Stops (λ rest. cond (ltb (length rest) (length text)) short (Ok (take (length text) rest, drop (length text) rest))) text = record { at = λ k lt. rw (lt-ltb (length (take k text)) (length text) (omega (arith, length-take k text))) refl } in
    stops_then (word_such (λ n. leb n 16777216) LiteralRule) (λ n. cond (ltb (length n.1) n.0) short (Ok (take n.0 n.1, drop n.0 n.1))) (length text) (word (length text)) text (stops_such (λ n. leb n 16777216) LiteralRule (length text)) (λ rest. such_again (λ n. leb n 16777216) LiteralRule (length text) rest (omega arith) (le-leb _ _ le)) bytes

stops_line : (words low : ℕ) → words < 2 ^ 32 → (l : LineAt) → IsLineOf words low l → Stops (line_at words low) (line l)
unfolding line_at
stops_line words low few l rule =
    let number = stops_last (word_such (ltb 0) LineRule) (λ number. Ok (record { index = l.index; line = number.0 }, number.1)) (word l.line) (stops_such (ltb 0) LineRule l.line) in
    stops_then (word_such (fits_index words low) LineRule) (λ index. word_such (ltb 0) LineRule index.1 >>= λ number. Ok (record { index = index.0; line = number.0 }, number.1)) l.index (word l.index) (word l.line) (stops_such (fits_index words low) LineRule l.index)
    (λ rest. such_again (fits_index words low) LineRule l.index rest (omega (arith, rule.0.within)) (and_from _ _ (and_from _ _ (le-leb _ _ rule.0.rises) (lt-ltb _ _ rule.0.within)) (first_test low l.index rule.0.first))) number

-- ---- the whole

stops_counts : (c : Counts) → AreCounts c → Stops counts_at (counted c)
unfolding counts_at
stops_counts c rules =
    let lines = stops_last some_at (λ lines. Ok (record { code = c.code; entries = c.entries; shapes = c.shapes; literals = c.literals; lines = lines.0 }, lines.1)) (word c.lines) (stops_such (ltb 0) Count c.lines) in
    let r4 = word c.lines in
    let literals = stops_then word_at (λ literals. some_at literals.1 >>= λ lines. Ok (record { code = c.code; entries = c.entries; shapes = c.shapes; literals = literals.0; lines = lines.0 }, lines.1)) c.literals (word c.literals) r4 (stops_word c.literals) (λ rest. word_again c.literals rest rules.literals) lines in
    let r3 = word c.literals ++ r4 in
    let shapes = stops_then some_at (λ shapes. word_at shapes.1 >>= λ literals. some_at literals.1 >>= λ lines. Ok (record { code = c.code; entries = c.entries; shapes = shapes.0; literals = literals.0; lines = lines.0 }, lines.1)) c.shapes (word c.shapes) r3 (stops_such (ltb 0) Count c.shapes) (λ rest. such_again (ltb 0) Count c.shapes rest rules.shapes (lt-ltb _ _ rules.some_shapes)) literals in
    let r2 = word c.shapes ++ r3 in
    let entries = stops_then some_at (λ entries. some_at entries.1 >>= λ shapes. word_at shapes.1 >>= λ literals. some_at literals.1 >>= λ lines. Ok (record { code = c.code; entries = entries.0; shapes = shapes.0; literals = literals.0; lines = lines.0 }, lines.1)) c.entries (word c.entries) r2 (stops_such (ltb 0) Count c.entries) (λ rest. such_again (ltb 0) Count c.entries rest rules.entries (lt-ltb _ _ rules.some_entries)) shapes in
    let r1 = word c.entries ++ r2 in
    let code = stops_then some_at (λ code. some_at code.1 >>= λ entries. some_at entries.1 >>= λ shapes. word_at shapes.1 >>= λ literals. some_at literals.1 >>= λ lines. Ok (record { code = code.0; entries = entries.0; shapes = shapes.0; literals = literals.0; lines = lines.0 }, lines.1)) c.code (word c.code) r1 (stops_such (ltb 0) Count c.code) (λ rest. such_again (ltb 0) Count c.code rest rules.code (lt-ltb _ _ rules.some_code)) entries in
    let grouped : word c.code ++ r1 ≡ counted c = sym (simp append_assoc) in
    subst (λ (text : List ℕ). Stops counts_at text) grouped code

stops_header : (c : Counts) → AreCounts c → Stops header_at (magic ++ version ++ counted c)
unfolding header_at
stops_header c rules =
    let second = stops_then (word_such (λ n. eqb n 1) Version) (λ version. counts_at version.1) 1 (word 1) (counted c) (stops_such (λ n. eqb n 1) Version 1) (λ rest. such_again (λ n. eqb n 1) Version 1 rest (omega arith) refl) (stops_counts c rules) in
    let first = stops_then (word_such (λ n. eqb n magic_number) Magic) (λ magic. word_such (λ n. eqb n 1) Version magic.1 >>= λ version. counts_at version.1) magic_number (word magic_number) (word 1 ++ counted c) (stops_such (λ n. eqb n magic_number) Magic magic_number) (λ rest. such_again (λ n. eqb n magic_number) Magic magic_number rest (omega arith) refl) second in
    let grouped : word magic_number ++ (word 1 ++ counted c) ≡ magic ++ version ++ counted c = sym (append_assoc (word magic_number) (word 1) (counted c)) ∙ ap (λ (t : List ℕ). (t ++ word 1) ++ counted c) (sym magic_is) ∙ ap (λ (t : List ℕ). (magic ++ t) ++ counted c) (sym version_is) in
    subst (λ (text : List ℕ). Stops header_at text) grouped first

stops_lists : (p : ImageParts) → IsImage p → Stops (lists_at (counts_of p)) (lists p)
unfolding lists_at
stops_lists p image =
    let words = length p.code in
    let few = image.rules.code in
    let code_rules = along_from_each IsWord no_more 0 p.code image.types.code in
    let entry_rules = along_from_each (λ n. n < words) no_more 0 p.entries image.rules.each_entry in
    let literal_rules = along_from_each IsLiteral no_more 0 p.literals image.types.literals.each in
    let line_rules = along_both (IsLine words) (λ (l : LineAt). IsWord l.line) after_line 0 p.lines image.rules.each_line image.types.lines in
    let r4 = flat_map line p.lines in
    let r3 = flat_map literal p.literals ++ r4 in
    let r2 = flat_map shape p.shapes ++ r3 in
    let r1 = flat_map word p.entries ++ r2 in
    let s4 = stops_last (many_at (line_at words) after_line 0 (length p.lines)) (λ lines. Ok (record { code = p.code; entries = p.entries; shapes = p.shapes; literals = p.literals; lines = lines.0 }, lines.1)) r4 (stops_many (line_at words) line (IsLineOf words) (line_exact words few) (λ low. stops_line words low few) after_line 0 p.lines line_rules) in
    let s3 = stops_then (many_at literal_at no_more 0 (length p.literals)) (λ literals. many_at (line_at words) after_line 0 (length p.lines) literals.1 >>= λ lines. Ok (record { code = p.code; entries = p.entries; shapes = p.shapes; literals = literals.0; lines = lines.0 }, lines.1)) p.literals (flat_map literal p.literals) r4 (stops_many literal_at literal (λ _ text. IsLiteral text) literal_exact stops_literal no_more 0 p.literals literal_rules) (λ rest. many_again literal_at literal (λ _ text. IsLiteral text) literal_exact no_more 0 p.literals rest literal_rules) s4 in
    let s2 = stops_then (many_at shape_at after_shape 0 (length p.shapes)) (λ shapes. many_at literal_at no_more 0 (length p.literals) shapes.1 >>= λ literals. many_at (line_at words) after_line 0 (length p.lines) literals.1 >>= λ lines. Ok (record { code = p.code; entries = p.entries; shapes = shapes.0; literals = literals.0; lines = lines.0 }, lines.1)) p.shapes (flat_map shape p.shapes) r3 (stops_many shape_at shape IsShape shape_exact stops_shape after_shape 0 p.shapes image.rules.each_shape) (λ rest. many_again shape_at shape IsShape shape_exact after_shape 0 p.shapes rest image.rules.each_shape) s3 in
    let s1 = stops_then (many_at (entry_at words) no_more 0 (length p.entries)) (λ entries. many_at shape_at after_shape 0 (length p.shapes) entries.1 >>= λ shapes. many_at literal_at no_more 0 (length p.literals) shapes.1 >>= λ literals. many_at (line_at words) after_line 0 (length p.lines) literals.1 >>= λ lines. Ok (record { code = p.code; entries = entries.0; shapes = shapes.0; literals = literals.0; lines = lines.0 }, lines.1)) p.entries (flat_map word p.entries) r2 (stops_many (entry_at words) word (λ _ n. n < words) (entry_exact words few) (λ low n _. stops_such (λ n. ltb n words) Entry n) no_more 0 p.entries entry_rules) (λ rest. many_again (entry_at words) word (λ _ n. n < words) (entry_exact words few) no_more 0 p.entries rest entry_rules) s2 in
    let s0 = stops_then (many_at code_at no_more 0 words) (λ code. many_at (entry_at words) no_more 0 (length p.entries) code.1 >>= λ entries. many_at shape_at after_shape 0 (length p.shapes) entries.1 >>= λ shapes. many_at literal_at no_more 0 (length p.literals) shapes.1 >>= λ literals. many_at (line_at words) after_line 0 (length p.lines) literals.1 >>= λ lines. Ok (record { code = code.0; entries = entries.0; shapes = shapes.0; literals = literals.0; lines = lines.0 }, lines.1)) p.code (flat_map word p.code) r1 (stops_many code_at word (λ _ n. IsWord n) code_exact (λ low n _. stops_word n) no_more 0 p.code code_rules) (λ rest. many_again code_at word (λ _ n. IsWord n) code_exact no_more 0 p.code rest code_rules) s1 in
    let grouped : flat_map word p.code ++ r1 ≡ lists p = sym (simp append_assoc) in
    subst (λ (text : List ℕ). Stops (lists_at (counts_of p)) text) grouped s0

stops_parts : (p : ImageParts) → IsImage p → Stops parts_of (spelling p)
unfolding parts_of
stops_parts p image =
    let end = stops_last (lists_at (counts_of p)) (λ parts. cond (eqb (length parts.1) 0) (Ok parts.0) (broken Extra parts.1)) (lists p) (stops_lists p image) in
    stops_then header_at (λ counts. lists_at counts.0 counts.1 >>= λ parts. cond (eqb (length parts.1) 0) (Ok parts.0) (broken Extra parts.1)) (counts_of p) (header p) (lists p) (stops_header (counts_of p) (are_counts p image)) (λ rest. header_again (counts_of p) rest (are_counts p image)) end

pub is_cut : (p : ImageParts) (k : ℕ) → IsImage p → k < length (spelling p) → image_of (take k (spelling p)) ≡ Err (record { at = k; why = Short })
is_cut p k image lt =
    let place : length (take k (spelling p)) - 0 ≡ k = omega (arith, length-take k (spelling p)) in
    ap (placed (length (take k (spelling p)))) ((stops_parts p image).at k lt) ∙ ap (λ (n : ℕ). Err (record { at = n; why = Short })) place
