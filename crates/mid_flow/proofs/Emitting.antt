use Rattle.std.proofs.Common.{◌≡◌, ℕ, suc, ◌+◌, List, [], ◌∷◌, ◌++◌, length, set, arith, refl, sym, ◌∙◌, ap, subst}
use Rattle.std.proofs.Math.Seq.{set-append_seam}
use Rattle.std.proofs.lemmas.List.{append-nil, append_assoc, length-append, length-set}
use Rattle.mid_code.specs.declared.reg.Reg.{Reg}
use Rattle.mid_code.specs.declared.op.MidOp.{MidOp}
use Rattle.mid_code.specs.declared.op.MidOp.TheVariants.{Back, Unless}
use Rattle.mid_code.specs.declared.op.LinedOp.{LinedOp}
use Rattle.mid_flow.specs.Structure.{Code, Then, When, Loop, LeaveUnless, Round, End, Spot, spot}
use Rattle.mid_flow.specs.Flat.{lined, flat, end_of}
use Rattle.mid_flow.specs.Emission.{Emits}

longer : (xs : List LinedOp) (x : LinedOp) → length (xs ++ x ∷ []) ≡ suc (length xs)
longer xs x = omega (arith, length-append xs (x ∷ []))

-- nothing is added
pub emits_none : (old : List LinedOp) → Emits (λ rest. rest) old old
emits_none old = record { piece = []; new_is = sym (append-nil old); flat_is = λ rest ss more. refl; end_is = λ rest. refl }

-- one operation that goes on to the next
pub emits_op : (op : MidOp) (line : ℕ) (old : List LinedOp) → Emits (Then op line) old (old ++ lined op line ∷ [])
emits_op op line old =
    let e = longer old (lined op line) in
    record { piece = lined op line ∷ []; new_is = refl; flat_is = λ rest ss more. rw e refl; end_is = λ rest. rw e refl }

-- one piece behind another
pub emits_both : (f g : Code → Code) (a b c : List LinedOp) → Emits f a b → Emits g b c → Emits (λ rest. f (g rest)) a c
emits_both f g a b c first second =
    let p = first.piece in
    let q = second.piece in
    record {
      piece = p ++ q;
      new_is = second.new_is ∙ (ap (λ xs. xs ++ q) first.new_is ∙ append_assoc a p q);
      flat_is = λ rest ss more. first.flat_is (g rest) ss more ∙ (ap (λ xs. p ++ xs) (second.flat_is rest ss more) ∙ sym (append_assoc p q (flat rest ss (length c) more)));
      end_is = λ rest. first.end_is (g rest) ∙ second.end_is rest;
    }

-- A test in front of a block: the test's target is written once the block is there.
pub emits_when : (f : Code → Code) (test : Reg) (line : ℕ) (old c : List LinedOp) (held : LinedOp) → Emits f (old ++ held ∷ []) c → Emits (When test line (f End)) old (set c (length old) (lined (Unless test (length c)) line))
emits_when f test line old c held h =
    let p = h.piece in
    let jump = lined (Unless test (length c)) line in
    let e = longer old held in
    let out : end_of (f End) (suc (length old)) ≡ length c = subst (λ n. end_of (f End) n ≡ length c) e (h.end_is End) in
    let is : c ≡ old ++ held ∷ p = h.new_is ∙ append_assoc old (held ∷ []) p in
    let long : length (set c (length old) jump) ≡ length c = length-set c (length old) jump in
    record {
      piece = jump ∷ p;
      new_is = ap (λ xs. set xs (length old) jump) is ∙ set-append_seam old held p jump;
      flat_is = λ rest ss more. rw (out, long) (ap (λ xs. jump ∷ xs) (subst (λ n. flat (f End) (spot (length c) 0 ∷ ss) n (flat rest ss (length c) more) ≡ p ++ flat rest ss (length c) more) e (h.flat_is End (spot (length c) 0 ∷ ss) (flat rest ss (length c) more))));
      end_is = λ rest. rw (out, long) refl;
    }

-- A loop with its test at its beginning: likewise.
pub emits_loop : (f g : Code → Code) (test : Reg) (line back : ℕ) (a b c : List LinedOp) (held : LinedOp) → Emits f a b → Emits g (b ++ held ∷ []) c
    → let d = c ++ lined (Back (length a)) back ∷ [] in
    Emits (Loop (f (LeaveUnless test line (g (Round back))))) a (set d (length b) (lined (Unless test (length d)) line))
emits_loop f g test line back a b c held first second =
    let p = first.piece in
    let q = second.piece in
    let returning = lined (Back (length a)) back in
    let d = c ++ returning ∷ [] in
    let n = length d in
    let jump = lined (Unless test n) line in
    let e = longer b held in
    let body = f (LeaveUnless test line (g (Round back))) in
    let out : end_of body (length a) ≡ n =
    first.end_is (LeaveUnless test line (g (Round back))) ∙ (subst (λ m. end_of (g (Round back)) m ≡ suc (length c)) e (second.end_is (Round back)) ∙ sym (longer c returning)) in
    let long : length (set d (length b) jump) ≡ n = length-set d (length b) jump in
    let tail = q ++ returning ∷ [] in
    let d_is : d ≡ b ++ held ∷ tail = ap (λ xs. xs ++ returning ∷ []) second.new_is ∙ (append_assoc (b ++ held ∷ []) q (returning ∷ []) ∙ append_assoc b (held ∷ []) tail) in
    record {
      piece = p ++ jump ∷ tail;
      new_is = ap (λ xs. set xs (length b) jump) d_is ∙ (set-append_seam b held tail jump ∙ (ap (λ xs. xs ++ jump ∷ tail) first.new_is ∙ append_assoc a p (jump ∷ tail)));
      flat_is = λ rest ss more.
          let more' = flat rest ss n more in
          let inner : flat (g (Round back)) (spot n (length a) ∷ ss) (suc (length b)) more' ≡ q ++ returning ∷ more' = subst (λ m. flat (g (Round back)) (spot n (length a) ∷ ss) m more' ≡ q ++ returning ∷ more') e (second.flat_is (Round back) (spot n (length a) ∷ ss) more') in
          rw (out, long) (first.flat_is (LeaveUnless test line (g (Round back))) (spot n (length a) ∷ ss) more'
          ∙ (ap (λ xs. p ++ jump ∷ xs) (inner ∙ sym (append_assoc q (returning ∷ []) more')) ∙ sym (append_assoc p (jump ∷ tail) more')));
      end_is = λ rest. rw (out, long) refl;
    }
