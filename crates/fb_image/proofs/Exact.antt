-- What is read as an image is one and is spelled so, and what spells an image is read so.
use Rattle.std.proofs.Common.{◌≡◌, ℕ, ◌^◌, ◌<◌, true, cond, ltb, eqb, List, [], ◌++◌, length, Ok, refl, sym, ap, subst, ◌∙◌, append_assoc, arith}
use Rattle.std.specs.List.{flat_map, AllByRecursion}
use Rattle.std.proofs.lemmas.Bool.{ltb-true, eqb-true, lt-ltb}
use Rattle.std.proofs.lemmas.List.{append-nil}
use Rattle.std.proofs.lemmas.List.{nil_from_length}
use Rattle.fb_base.specs.declared.ending.ImageWhy.TheVariants.{Magic, Version, Count, Extra}
use Rattle.fb_base.specs.declared.shape.LineAt.{LineAt}
use Rattle.fb_image.specs.declared.fields.Counts.{Counts}
use Rattle.fb_image.specs.declared.image.ImageParts.{ImageParts}
use Rattle.fb_image.specs.Texts.{IsLiteral}
use Rattle.fb_image.specs.Format.{IsShape, after_shape, IsLine, after_line, AreLines, IsWord, KeepsRules, HasTypes, IsImage}
use Rattle.fb_image.specs.Spelling.{word, shape, literal, line, magic, version, header, lists, spelling}
use Rattle.fb_image.specs.Reading.{◌>>=◌, broken, word_at, word_such, many_at, no_more, code_at, entry_at, shape_at, literal_at, line_at, some_at, counts_at, magic_number, header_at, lists_at, parts_of}
use Rattle.fb_image.proofs.Rules.{fewer_lines}
use Rattle.fb_image.proofs.Words.{IsBytes, bind_ok, ok_is, passed, Takes, Takes-then, word_takes, word_again, such_takes, such_again}
use Rattle.fb_image.proofs.Items.{many_takes, many_again, each_from_along, along_from_each, along_weaker, along_both}
use Rattle.fb_image.proofs.Parts.{code_exact, entry_exact, shape_exact, literal_exact, IsLineOf, line_exact}

-- ---- counts

pub record AreCounts (c : Counts) : Type 0 where
  pub some_code : 0 < c.code
  pub code : c.code < 2 ^ 32
  pub some_entries : 0 < c.entries
  pub entries : c.entries < 2 ^ 32
  pub some_shapes : 0 < c.shapes
  pub shapes : c.shapes < 2 ^ 32
  pub literals : c.literals < 2 ^ 32
  pub some_lines : 0 < c.lines
  pub lines : c.lines < 2 ^ 32

abbrev pub counted : Counts → List ℕ
counted c = word c.code ++ word c.entries ++ word c.shapes ++ word c.literals ++ word c.lines

abbrev pub counts_of : ImageParts → Counts
counts_of p = record { code = length p.code; entries = length p.entries; shapes = length p.shapes; literals = length p.literals; lines = length p.lines }

counts_take : (bytes : List ℕ) (x : Counts × List ℕ) → IsBytes bytes → counts_at bytes ≡ Ok x → Takes bytes (counted x.0) x.1 × AreCounts x.0
unfolding counts_at
counts_take bytes x fits e =
    let a = bind_ok (some_at bytes) (λ code. some_at code.1 >>= λ entries. some_at entries.1 >>= λ shapes. word_at shapes.1 >>= λ literals. some_at literals.1 >>= λ lines. Ok (record { code = code.0; entries = entries.0; shapes = shapes.0; literals = literals.0; lines = lines.0 }, lines.1)) x e in
    let b = bind_ok (some_at a.0.1) (λ entries. some_at entries.1 >>= λ shapes. word_at shapes.1 >>= λ literals. some_at literals.1 >>= λ lines. Ok (record { code = a.0.0; entries = entries.0; shapes = shapes.0; literals = literals.0; lines = lines.0 }, lines.1)) x a.2 in
    let c = bind_ok (some_at b.0.1) (λ shapes. word_at shapes.1 >>= λ literals. some_at literals.1 >>= λ lines. Ok (record { code = a.0.0; entries = b.0.0; shapes = shapes.0; literals = literals.0; lines = lines.0 }, lines.1)) x b.2 in
    let d = bind_ok (word_at c.0.1) (λ literals. some_at literals.1 >>= λ lines. Ok (record { code = a.0.0; entries = b.0.0; shapes = c.0.0; literals = literals.0; lines = lines.0 }, lines.1)) x c.2 in
    let f = bind_ok (some_at d.0.1) (λ lines. Ok (record { code = a.0.0; entries = b.0.0; shapes = c.0.0; literals = d.0.0; lines = lines.0 }, lines.1)) x d.2 in
    let t0 = such_takes (ltb 0) Count bytes a.0 fits a.1 in
    let t1 = such_takes (ltb 0) Count a.0.1 b.0 t0.takes.rest_fits b.1 in
    let t2 = such_takes (ltb 0) Count b.0.1 c.0 t1.takes.rest_fits c.1 in
    let t3 = word_takes c.0.1 d.0 t2.takes.rest_fits d.1 in
    let t4 = such_takes (ltb 0) Count d.0.1 f.0 t3.0.rest_fits f.1 in
    let two = Takes-then bytes (word a.0.0) a.0.1 (word b.0.0) b.0.1 t0.takes t1.takes in
    let three = Takes-then bytes (word a.0.0 ++ word b.0.0) b.0.1 (word c.0.0) c.0.1 two t2.takes in
    let four = Takes-then bytes (word a.0.0 ++ word b.0.0 ++ word c.0.0) c.0.1 (word d.0.0) d.0.1 three t3.0 in
    let five = Takes-then bytes (word a.0.0 ++ word b.0.0 ++ word c.0.0 ++ word d.0.0) d.0.1 (word f.0.0) f.0.1 four t4.takes in
    let made : Counts × List ℕ = (record { code = a.0.0; entries = b.0.0; shapes = c.0.0; literals = d.0.0; lines = f.0.0 }, f.0.1) in
    let rules : AreCounts made.0 = record {
      some_code = ltb-true _ _ t0.passes;
      code = t0.is_word;
      some_entries = ltb-true _ _ t1.passes;
      entries = t1.is_word;
      some_shapes = ltb-true _ _ t2.passes;
      shapes = t2.is_word;
      literals = t3.1;
      some_lines = ltb-true _ _ t4.passes;
      lines = t4.is_word;
    } in
    subst (λ (y : Counts × List ℕ). Takes bytes (counted y.0) y.1 × AreCounts y.0) (ok_is made x f.2) (five, rules)

pub counts_again : (c : Counts) (rest : List ℕ) → AreCounts c → counts_at (counted c ++ rest) ≡ Ok (c, rest)
unfolding counts_at
counts_again c rest rules =
    let r4 = word c.lines ++ rest in
    let r3 = word c.literals ++ r4 in
    let r2 = word c.shapes ++ r3 in
    let r1 = word c.entries ++ r2 in
    let regrouped : counted c ++ rest ≡ word c.code ++ r1 = simp append_assoc in
    let e0 = such_again (ltb 0) Count c.code r1 rules.code (lt-ltb _ _ rules.some_code) in
    let e1 = such_again (ltb 0) Count c.entries r2 rules.entries (lt-ltb _ _ rules.some_entries) in
    let e2 = such_again (ltb 0) Count c.shapes r3 rules.shapes (lt-ltb _ _ rules.some_shapes) in
    let e3 = word_again c.literals r4 rules.literals in
    let e4 = such_again (ltb 0) Count c.lines rest rules.lines (lt-ltb _ _ rules.some_lines) in
    ap counts_at regrouped ∙ rw (e0, e1, e2, e3, e4) refl

pub are_counts : (p : ImageParts) → IsImage p → AreCounts (counts_of p)
are_counts p image = record {
  some_code = image.rules.some_code;
  code = image.rules.code;
  some_entries = image.rules.some_entries;
  entries = image.rules.entries;
  some_shapes = image.rules.some_shapes;
  shapes = image.rules.shapes;
  literals = image.types.literals.count;
  some_lines = image.rules.some_lines;
  lines = omega (arith, fewer_lines (length p.code) p.lines image.rules.each_line, image.rules.code);
}

-- ---- the header

pub magic_is : magic ≡ word magic_number
unfolding magic word
magic_is = refl

pub version_is : version ≡ word 1
unfolding version word
version_is = refl

is_magic : (n : ℕ) → eqb n magic_number ≡ true → word n ≡ magic
is_magic n e = ap word (eqb-true _ _ e) ∙ sym magic_is

is_version : (n : ℕ) → eqb n 1 ≡ true → word n ≡ version
is_version n e = ap word (eqb-true _ _ e) ∙ sym version_is

header_takes : (bytes : List ℕ) (x : Counts × List ℕ) → IsBytes bytes → header_at bytes ≡ Ok x → Takes bytes (magic ++ version ++ counted x.0) x.1 × AreCounts x.0
unfolding header_at
header_takes bytes x fits e =
    let a = bind_ok (word_such (λ n. eqb n magic_number) Magic bytes) (λ magic. word_such (λ n. eqb n 1) Version magic.1 >>= λ version. counts_at version.1) x e in
    let b = bind_ok (word_such (λ n. eqb n 1) Version a.0.1) (λ version. counts_at version.1) x a.2 in
    let t0 = such_takes (λ n. eqb n magic_number) Magic bytes a.0 fits a.1 in
    let t1 = such_takes (λ n. eqb n 1) Version a.0.1 b.0 t0.takes.rest_fits b.1 in
    let t2 = counts_take b.0.1 x t1.takes.rest_fits b.2 in
    let first : Takes bytes magic a.0.1 = subst (λ (t : List ℕ). Takes bytes t a.0.1) (is_magic a.0.0 t0.passes) t0.takes in
    let second : Takes a.0.1 version b.0.1 = subst (λ (t : List ℕ). Takes a.0.1 t b.0.1) (is_version b.0.0 t1.passes) t1.takes in
    let two = Takes-then bytes magic a.0.1 version b.0.1 first second in
    (Takes-then bytes (magic ++ version) b.0.1 (counted x.0) x.1 two t2.0, t2.1)

pub header_again : (c : Counts) (rest : List ℕ) → AreCounts c → header_at ((magic ++ version ++ counted c) ++ rest) ≡ Ok (c, rest)
unfolding header_at
header_again c rest rules =
    let tail = counted c ++ rest in
    let regrouped : (magic ++ version ++ counted c) ++ rest ≡ word magic_number ++ (word 1 ++ tail) = append_assoc (magic ++ version) (counted c) rest ∙ append_assoc magic version tail ∙ ap (λ (t : List ℕ). t ++ (version ++ tail)) magic_is ∙ ap (λ (t : List ℕ). word magic_number ++ (t ++ tail)) version_is in
    let e0 = such_again (λ n. eqb n magic_number) Magic magic_number (word 1 ++ tail) (omega arith) refl in
    let e1 = such_again (λ n. eqb n 1) Version 1 tail (omega arith) refl in
    ap header_at regrouped ∙ rw (e0, e1, counts_again c rest rules) refl

-- ---- the lists

record TakesLists (c : Counts) (bytes : List ℕ) (p : ImageParts) (rest : List ℕ) : Type 0 where
  takes : Takes bytes (lists p) rest
  counts : counts_of p ≡ c
  image : IsImage p

line_of_rule : (words low : ℕ) (l : LineAt) → IsLineOf words low l → IsLine words low l
line_of_rule words low l both = both.0

lists_take : (c : Counts) (bytes : List ℕ) (x : ImageParts × List ℕ) → AreCounts c → IsBytes bytes → lists_at c bytes ≡ Ok x → TakesLists c bytes x.0 x.1
unfolding lists_at
lists_take c bytes x rules fits e =
    let b0 = bind_ok (many_at code_at no_more 0 c.code bytes) (λ code. many_at (entry_at c.code) no_more 0 c.entries code.1 >>= λ entries. many_at shape_at after_shape 0 c.shapes entries.1 >>= λ shapes. many_at literal_at no_more 0 c.literals shapes.1 >>= λ literals. many_at (line_at c.code) after_line 0 c.lines literals.1 >>= λ lines. Ok (record { code = code.0; entries = entries.0; shapes = shapes.0; literals = literals.0; lines = lines.0 }, lines.1)) x e in
    let b1 = bind_ok (many_at (entry_at c.code) no_more 0 c.entries b0.0.1) (λ entries. many_at shape_at after_shape 0 c.shapes entries.1 >>= λ shapes. many_at literal_at no_more 0 c.literals shapes.1 >>= λ literals. many_at (line_at c.code) after_line 0 c.lines literals.1 >>= λ lines. Ok (record { code = b0.0.0; entries = entries.0; shapes = shapes.0; literals = literals.0; lines = lines.0 }, lines.1)) x b0.2 in
    let b2 = bind_ok (many_at shape_at after_shape 0 c.shapes b1.0.1) (λ shapes. many_at literal_at no_more 0 c.literals shapes.1 >>= λ literals. many_at (line_at c.code) after_line 0 c.lines literals.1 >>= λ lines. Ok (record { code = b0.0.0; entries = b1.0.0; shapes = shapes.0; literals = literals.0; lines = lines.0 }, lines.1)) x b1.2 in
    let b3 = bind_ok (many_at literal_at no_more 0 c.literals b2.0.1) (λ literals. many_at (line_at c.code) after_line 0 c.lines literals.1 >>= λ lines. Ok (record { code = b0.0.0; entries = b1.0.0; shapes = b2.0.0; literals = literals.0; lines = lines.0 }, lines.1)) x b2.2 in
    let b4 = bind_ok (many_at (line_at c.code) after_line 0 c.lines b3.0.1) (λ lines. Ok (record { code = b0.0.0; entries = b1.0.0; shapes = b2.0.0; literals = b3.0.0; lines = lines.0 }, lines.1)) x b3.2 in
    let t0 = many_takes code_at word (λ _ n. IsWord n) code_exact no_more 0 c.code bytes b0.0 fits b0.1 in
    let t1 = many_takes (entry_at c.code) word (λ _ n. n < c.code) (entry_exact c.code rules.code) no_more 0 c.entries b0.0.1 b1.0 t0.takes.rest_fits b1.1 in
    let t2 = many_takes shape_at shape IsShape shape_exact after_shape 0 c.shapes b1.0.1 b2.0 t1.takes.rest_fits b2.1 in
    let t3 = many_takes literal_at literal (λ _ text. IsLiteral text) literal_exact no_more 0 c.literals b2.0.1 b3.0 t2.takes.rest_fits b3.1 in
    let t4 = many_takes (line_at c.code) line (IsLineOf c.code) (line_exact c.code rules.code) after_line 0 c.lines b3.0.1 b4.0 t3.takes.rest_fits b4.1 in
    let two = Takes-then bytes (flat_map word b0.0.0) b0.0.1 (flat_map word b1.0.0) b1.0.1 t0.takes t1.takes in
    let three = Takes-then bytes (flat_map word b0.0.0 ++ flat_map word b1.0.0) b1.0.1 (flat_map shape b2.0.0) b2.0.1 two t2.takes in
    let four = Takes-then bytes (flat_map word b0.0.0 ++ flat_map word b1.0.0 ++ flat_map shape b2.0.0) b2.0.1 (flat_map literal b3.0.0) b3.0.1 three t3.takes in
    let five = Takes-then bytes (flat_map word b0.0.0 ++ flat_map word b1.0.0 ++ flat_map shape b2.0.0 ++ flat_map literal b3.0.0) b3.0.1 (flat_map line b4.0.0) b4.0.1 four t4.takes in
    let made : ImageParts × List ℕ = (record { code = b0.0.0; entries = b1.0.0; shapes = b2.0.0; literals = b3.0.0; lines = b4.0.0 }, b4.0.1) in
    let kept : KeepsRules made.0 = record {
      some_code = omega (arith, t0.count, rules.some_code);
      code = omega (arith, t0.count, rules.code);
      some_entries = omega (arith, t1.count, rules.some_entries);
      entries = omega (arith, t1.count, rules.entries);
      each_entry = subst (λ (n : ℕ). AllByRecursion (λ e. e < n) b1.0.0) (sym t0.count) (each_from_along (λ n. n < c.code) no_more 0 b1.0.0 t1.rules);
      some_shapes = omega (arith, t2.count, rules.some_shapes);
      shapes = omega (arith, t2.count, rules.shapes);
      each_shape = t2.rules;
      some_lines = omega (arith, t4.count, rules.some_lines);
      each_line = subst (λ (n : ℕ). AreLines n b4.0.0) (sym t0.count) (along_weaker (IsLineOf c.code) (IsLine c.code) after_line (line_of_rule c.code) 0 b4.0.0 t4.rules);
    } in
    let types : HasTypes made.0 = record {
      code = each_from_along IsWord no_more 0 b0.0.0 t0.rules;
      literals = record { count = omega (arith, t3.count, rules.literals); each = each_from_along IsLiteral no_more 0 b3.0.0 t3.rules };
      lines = each_from_along (λ (l : LineAt). IsWord l.line) after_line 0 b4.0.0 (along_weaker (IsLineOf c.code) (λ _ l. IsWord l.line) after_line (λ low l both. both.1) 0 b4.0.0 t4.rules);
    } in
    let same : counts_of made.0 ≡ c = rw (t0.count, t1.count, t2.count, t3.count, t4.count) refl in
    subst (λ (y : ImageParts × List ℕ). TakesLists c bytes y.0 y.1) (ok_is made x b4.2) (record { takes = five; counts = same; image = record { rules = kept; types = types } })

pub lists_again : (p : ImageParts) (rest : List ℕ) → IsImage p → lists_at (counts_of p) (lists p ++ rest) ≡ Ok (p, rest)
unfolding lists_at
lists_again p rest image =
    let r4 = flat_map line p.lines ++ rest in
    let r3 = flat_map literal p.literals ++ r4 in
    let r2 = flat_map shape p.shapes ++ r3 in
    let r1 = flat_map word p.entries ++ r2 in
    let words = length p.code in
    let regrouped : lists p ++ rest ≡ flat_map word p.code ++ r1 = simp append_assoc in
    let e0 = many_again code_at word (λ _ n. IsWord n) code_exact no_more 0 p.code r1 (along_from_each IsWord no_more 0 p.code image.types.code) in
    let e1 = many_again (entry_at words) word (λ _ n. n < words) (entry_exact words image.rules.code) no_more 0 p.entries r2 (along_from_each (λ n. n < words) no_more 0 p.entries image.rules.each_entry) in
    let e2 = many_again shape_at shape IsShape shape_exact after_shape 0 p.shapes r3 image.rules.each_shape in
    let e3 = many_again literal_at literal (λ _ text. IsLiteral text) literal_exact no_more 0 p.literals r4 (along_from_each IsLiteral no_more 0 p.literals image.types.literals.each) in
    let e4 = many_again (line_at words) line (IsLineOf words) (line_exact words image.rules.code) after_line 0 p.lines rest (along_both (IsLine words) (λ (l : LineAt). IsWord l.line) after_line 0 p.lines image.rules.each_line image.types.lines) in
    ap (lists_at (counts_of p)) regrouped ∙ rw (e0, e1, e2, e3, e4) refl

-- ---- all of the bytes

pub parts_take : (bytes : List ℕ) (p : ImageParts) → IsBytes bytes → parts_of bytes ≡ Ok p → IsImage p × (bytes ≡ spelling p)
unfolding parts_of
parts_take bytes p fits e =
    let a = bind_ok (header_at bytes) (λ counts. lists_at counts.0 counts.1 >>= λ parts. cond (eqb (length parts.1) 0) (Ok parts.0) (broken Extra parts.1)) p e in
    let b = bind_ok (lists_at a.0.0 a.0.1) (λ parts. cond (eqb (length parts.1) 0) (Ok parts.0) (broken Extra parts.1)) p a.2 in
    let g = passed (eqb (length b.0.1) 0) _ b.0.0 p b.2 in
    let first = header_takes bytes a.0 fits a.1 in
    let second = lists_take a.0.0 a.0.1 b.0 first.1 first.0.rest_fits b.1 in
    let nothing : b.0.1 ≡ [] = nil_from_length b.0.1 (eqb-true _ _ g.0) in
    let both = (Takes-then bytes (magic ++ version ++ counted a.0.0) a.0.1 (lists b.0.0) b.0.1 first.0 second.takes).parts in
    let whole : bytes ≡ spelling b.0.0 = both ∙ ap (λ (r : List ℕ). ((magic ++ version ++ counted a.0.0) ++ lists b.0.0) ++ r) nothing ∙ append-nil ((magic ++ version ++ counted a.0.0) ++ lists b.0.0) ∙ ap (λ (c : Counts). (magic ++ version ++ counted c) ++ lists b.0.0) (sym second.counts) in
    subst (λ (q : ImageParts). IsImage q × (bytes ≡ spelling q)) g.1 (second.image, whole)

-- an image is read from its spelling, and what stands after it is too much
pub parts_again : (p : ImageParts) (rest : List ℕ) → IsImage p → parts_of (spelling p ++ rest) ≡ cond (eqb (length rest) 0) (Ok p) (broken Extra rest)
unfolding parts_of
parts_again p rest image =
    ap parts_of (append_assoc (header p) (lists p) rest) ∙ rw (header_again (counts_of p) (lists p ++ rest) (are_counts p image), lists_again p rest image) refl
