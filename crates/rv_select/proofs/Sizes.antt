use Rattle.std.proofs.Common.{◌≡◌, ℕ, zero, suc, ◌+◌, ◌-◌, ◌/◌, ◌<◌, ◌≤◌, nat_lt, Bool, true, false, if◌then◌else◌, List, [], ◌∷◌, ◌++◌, length, Option, Some, None, refl, ap, sym, ◌∙◌, arith, sub-one, length-append}
use Rattle.std.proofs.lemmas.Bool.{le-ltb}
use Rattle.mid_code.specs.declared.reg.Reg.{Reg}
use Rattle.mid_code.specs.declared.op.WordOp.{WordOp}
use Rattle.mid_code.specs.declared.op.WordOp.TheVariants.{Plus, Minus, Times, LessS, AtMostS, Same, Other}
use Rattle.mid_code.specs.declared.op.MidOp.{MidOp}
use Rattle.mid_code.specs.declared.op.MidOp.TheVariants.{Const, Copy, Both, Divide, Runtime, Skip, Back, Unless}
use Rattle.rv_isa.specs.declared.inst.Inst.{Inst}
use Rattle.rv_isa.specs.declared.inst.Inst.TheVariants.{Slli, Addi}
use Rattle.rv_select.specs.Places.{Place, Slot, Real, slot_off, load_code, store_code, fetch_code, keep_code}
use Rattle.rv_select.specs.Emission.{op_code, pieces_code, const_code, word_op_code, two_code, zero_test, division_inst, argument_code, arguments_code, ask_code, answer_code}
use Rattle.rv_select.specs.Sizes.{move_size, pieces_size, const_size, word_op_size, argument_size, answer_size, size_of, SizesAreLengths}

-- one of two lists
of_two : (b : Bool) (xs ys : List Inst) → length (if b then xs else ys) ≡ (if b then length xs else length ys)
of_two true xs ys = refl
of_two false xs ys = refl

choice : (b : Bool) (l m n : ℕ) → m ≡ n → (if b then l else m) ≡ (if b then l else n)
choice true l m n e = refl
choice false l m n e = e

pub fetch_length : (r : ℕ) (p : Place) → length (fetch_code r p) ≡ move_size p
fetch_length r (Slot k) = of_two (nat_lt (slot_off k) 2048) _ _
fetch_length r (Real q) = refl

keep_length : (r : ℕ) (p : Place) → length (keep_code p r) ≡ move_size p
keep_length r (Slot k) = of_two (nat_lt (slot_off k) 2048) _ _
keep_length r (Real q) = refl

pieces_length : (pieces r n : ℕ) → length (pieces_code pieces r n) ≡ pieces_size pieces n
pieces_length zero r n = refl
pieces_length (suc pieces) r n =
    of_two (nat_lt n 2048) _ _ ∙ choice (nat_lt n 2048) 1 _ _ (length-append (pieces_code pieces r (n / 2048)) _ ∙ ap (λ m. m + 2) (pieces_length pieces r (n / 2048)))

const_length : (r n : ℕ) → length (const_code r n) ≡ const_size n
const_length r n =
    of_two (nat_lt n 2048) _ _ ∙ choice (nat_lt n 2048) 1 _ _ (of_two _ _ _ ∙ choice _ 2 _ _ (pieces_length 5 r n))

word_op_length : (op : WordOp) → length (word_op_code op) ≡ word_op_size op
word_op_length Plus = refl
word_op_length Minus = refl
word_op_length Times = refl
word_op_length LessS = refl
word_op_length AtMostS = refl
word_op_length Same = refl
word_op_length Other = refl

argument_length : (place : Reg → Place) (r : ℕ) (a : Option Reg) → length (argument_code place r a) ≡ argument_size place a
argument_length place r None = refl
argument_length place r (Some a) = fetch_length r (place a)

answer_length : (place : Reg → Place) (to : Option Reg) → length (answer_code place to) ≡ answer_size place to
answer_length place None = refl
answer_length place (Some to) = keep_length 10 (place to)

-- two pieces of code, one behind the other
both : (xs ys : List Inst) (m n : ℕ) → length xs ≡ m → length ys ≡ n → length (xs ++ ys) ≡ m + n
both xs ys m n e f = length-append xs ys ∙ omega (arith, e, f)

pub size_is : SizesAreLengths
size_is place start i (Const to value) = both _ _ _ _ (const_length 5 value) (keep_length 5 (place to))
size_is place start i (Copy to from) = both _ _ _ _ (fetch_length 5 (place from)) (keep_length 5 (place to))
size_is place start i (Both op to left right) =
    both _ _ _ _ (both _ _ _ _ (both _ _ _ _ (fetch_length 5 (place left)) (fetch_length 6 (place right))) (word_op_length op)) (keep_length 5 (place to))
size_is place start i (Divide op to left right) =
    let two = both (fetch_code 5 (place left)) (fetch_code 6 (place right)) _ _ (fetch_length 5 (place left)) (fetch_length 6 (place right)) in
    let tested = both (two_code (place left) (place right)) zero_test _ 4 two refl in
    both (two_code (place left) (place right) ++ zero_test) (division_inst op ∷ keep_code (place to) 5) _ (1 + move_size (place to)) tested (both (division_inst op ∷ []) (keep_code (place to) 5) 1 _ refl (keep_length 5 (place to))) ∙ omega arith
size_is place start i (Runtime number a b c d to) =
    let last = both (argument_code place 12 c) (argument_code place 13 d) _ _ (argument_length place 12 c) (argument_length place 13 d) in
    let three = both (argument_code place 11 b) _ _ _ (argument_length place 11 b) last in
    let four = both (argument_code place 10 a) _ _ _ (argument_length place 10 a) three in
    let asked = both (arguments_code place a b c d) (ask_code number) _ 2 four refl in
    both (arguments_code place a b c d ++ ask_code number) (answer_code place to) _ _ asked (answer_length place to) ∙ omega arith
size_is place start i (Skip target) = refl
size_is place start i (Back target) = refl
size_is place start i (Unless test target) = both _ _ _ _ (fetch_length 5 (place test)) refl

-- eleven bits more
pub pieces_size_more : (pieces n : ℕ) → 0 < pieces → 2048 ≤ n → pieces_size pieces n ≡ pieces_size (pieces - 1) (n / 2048) + 2
pieces_size_more zero n some large = absurd (omega arith)
pieces_size_more (suc pieces) n some large = rw (le-ltb n 2048 large, sub-one) refl
