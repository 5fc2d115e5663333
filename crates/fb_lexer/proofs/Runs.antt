-- The longest front whose bytes pass a test.
use Rattle.std.proofs.Common.{◌≡◌, ℕ, zero, suc, ◌≤◌, ◌+◌, List, [], ◌∷◌, ◌++◌, length, take, Bool, true, false, cond, refl, sym, ◌∙◌, ap, subst, arith, one-add, zero-add}
use Rattle.std.specs.List.{prefix_len}
use Rattle.fb_lexer.specs.Letters.{is_in_line}
use Rattle.fb_lexer.specs.Pieces.{line_length}
use Rattle.fb_lexer.specs.Grammar.{Each}

pub run_more : (test : ℕ → Bool) (b : ℕ) (bytes : List ℕ) → test b ≡ true → prefix_len test (b ∷ bytes) ≡ suc (prefix_len test bytes)
run_more test b bytes is = ap (λ t. cond t (1 + prefix_len test bytes) 0) is ∙ one-add (prefix_len test bytes)

pub run_stops : (test : ℕ → Bool) (b : ℕ) (bytes : List ℕ) → test b ≡ false → prefix_len test (b ∷ bytes) ≡ 0
run_stops test b bytes is = ap (λ t. cond t (1 + prefix_len test bytes) 0) is

each_more : (test : ℕ → Bool) (b : ℕ) (bytes : List ℕ) (t : Bool) → test b ≡ t → Each test (take (prefix_len test bytes) bytes) → Each test (take (prefix_len test (b ∷ bytes)) (b ∷ bytes))
each_more test b bytes true is rest = subst (λ k. Each test (take k (b ∷ bytes))) (sym (run_more test b bytes is)) (is, rest)
each_more test b bytes false is rest = subst (λ k. Each test (take k (b ∷ bytes))) (sym (run_stops test b bytes is)) tt

pub each_front : (test : ℕ → Bool) (bytes : List ℕ) → Each test (take (prefix_len test bytes) bytes)
each_front test [] = tt
each_front test (b ∷ bytes) = each_more test b bytes (test b) refl (each_front test bytes)

pub longest_run : (test : ℕ → Bool) (bytes : List ℕ) (m : ℕ) → m ≤ length bytes → Each test (take m bytes) → m ≤ prefix_len test bytes
longest_run test bytes zero h each = omega arith
longest_run test [] (suc m) h each = absurd (omega arith)
longest_run test (b ∷ bytes) (suc m) h each =
    let more = longest_run test bytes m (omega arith) each.1 in
    rw (run_more test b bytes each.0) (omega (arith, more))

pub each_weaker : (p q : ℕ → Bool) (bytes : List ℕ) → ((b : ℕ) → p b ≡ true → q b ≡ true) → Each p bytes → Each q bytes
each_weaker p q [] h each = tt
each_weaker p q (b ∷ bytes) h each = (h b each.0, each_weaker p q bytes h each.1)

-- bytes within a line, and what the line still has behind them
pub line_past : (front back : List ℕ) → Each is_in_line front → line_length (front ++ back) ≡ length front + line_length back
line_past [] back each = sym (zero-add (line_length back))
line_past (b ∷ front) back each =
    let more = line_past front back each.1 in
    rw (run_more is_in_line b (front ++ back) each.0) (omega (arith, more))
