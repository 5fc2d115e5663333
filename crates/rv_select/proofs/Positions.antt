use Rattle.std.proofs.Common.{◌≡◌, ℕ, zero, suc, ◌+◌, ◌<◌, ◌≤◌, List, [], ◌∷◌, ◌++◌, length, Some, None, slice_get, refl, ap, sym, ◌∙◌, arith, length-append, append_assoc}
use Rattle.mid_code.specs.declared.reg.Reg.{Reg}
use Rattle.mid_code.specs.declared.op.MidOp.{MidOp}
use Rattle.mid_code.specs.declared.op.MidOp.TheVariants.{Const, Copy, Both, Divide, Runtime, Skip, Back, Unless}
use Rattle.mid_code.specs.declared.op.LinedOp.{LinedOp}
use Rattle.mid_code.specs.Operations.{op_in, line_from, line_in, ops_of}
use Rattle.rv_isa.specs.declared.inst.Inst.{Inst}
use Rattle.rv_isa.specs.declared.inst.Inst.TheVariants.{Bne, Ebreak}
use Rattle.rv_isa.specs.Machine.{Machine}
use Rattle.rv_select.specs.declared.lined.LinedInst.{LinedInst}
use Rattle.rv_select.specs.Places.{Place, fetch_code}
use Rattle.rv_select.specs.Slots.{place_of, slots_of}
use Rattle.rv_select.specs.Emission.{op_code}
use Rattle.rv_select.specs.Standing.{StandsAt}
use Rattle.rv_select.specs.Sizes.{size_of}
use Rattle.rv_select.proofs.Sizes.{size_is}
use Rattle.rv_select.specs.Layout.{lined, placed, start_of, body_code, entry_code, after_entry, proc_code, code_from, base_from}

-- Where the code of a program stands.

-- one operation behind the other
pub start_next : (place : Reg → Place) (k : ℕ) (ops : List LinedOp) (i : ℕ) (op : MidOp) → op_in ops i ≡ Some op → start_of place k ops (suc i) ≡ start_of place k ops i + size_of place op
start_next place k [] i op is = cc
start_next place k (o ∷ []) zero op is = let e : o.op ≡ op = cc in ap (λ q. k + size_of place q) e
start_next place k (o ∷ (o2 ∷ ops)) zero op is = let e : o.op ≡ op = cc in ap (λ q. k + size_of place q) e
start_next place k (o ∷ ops) (suc i) op is = start_next place (k + size_of place o.op) ops i op is

pub start_from : (place : Reg → Place) (k : ℕ) (ops : List LinedOp) (i : ℕ) → k ≤ start_of place k ops i
start_from place k [] i = omega arith
start_from place k (o ∷ ops) zero = omega arith
start_from place k (o ∷ ops) (suc i) = let l : k + size_of place o.op ≤ start_of place (k + size_of place o.op) ops i = start_from place (k + size_of place o.op) ops i in omega arith

pub start_rising : (place : Reg → Place) (k : ℕ) (ops : List LinedOp) (i j : ℕ) → i ≤ j → start_of place k ops i ≤ start_of place k ops j
start_rising place k [] i j le = omega arith
start_rising place k (o ∷ ops) zero j le = start_from place k (o ∷ ops) j
start_rising place k (o ∷ ops) (suc i) zero le = absurd (omega arith)
start_rising place k (o ∷ ops) (suc i) (suc j) le = start_rising place (k + size_of place o.op) ops i j (omega arith)

pub placed_length : (l : ℕ) (is : List Inst) → length (placed l is) ≡ length is
placed_length l [] = refl
placed_length l (i ∷ is) = ap suc (placed_length l is)

-- a procedure's operations end within its code
pub start_within : (place : Reg → Place) (start : ℕ → ℕ) (k n line : ℕ) (ops : List LinedOp) (i : ℕ) → start_of place k ops i < k + length (body_code place start n line ops)
start_within place start k n line [] i = omega arith
start_within place start k n line (o ∷ ops) zero =
    let e : length (body_code place start n line (o ∷ ops)) ≡ length (placed o.line (op_code place start n o.op)) + length (body_code place start (suc n) o.line ops) = length-append _ _ in
    let more : k < k + length (body_code place start (suc n) o.line ops) = body_some k (suc n) o.line ops in
    omega arith where
      body_some : (k n line : ℕ) (ops : List LinedOp) → k < k + length (body_code place start n line ops)
      body_some k n line [] = omega arith
      body_some k n line (o ∷ ops) =
          let e : length (body_code place start n line (o ∷ ops)) ≡ length (placed o.line (op_code place start n o.op)) + length (body_code place start (suc n) o.line ops) = length-append _ _ in
          let more : k < k + length (body_code place start (suc n) o.line ops) = body_some k (suc n) o.line ops in
          omega arith
start_within place start k n line (o ∷ ops) (suc i) =
    let e : length (body_code place start n line (o ∷ ops)) ≡ length (placed o.line (op_code place start n o.op)) + length (body_code place start (suc n) o.line ops) = length-append _ _ in
    let s : length (placed o.line (op_code place start n o.op)) ≡ size_of place o.op = placed_length o.line (op_code place start n o.op) ∙ size_is place start n o.op in
    let l : start_of place (k + size_of place o.op) ops i < k + size_of place o.op + length (body_code place start (suc n) o.line ops) = start_within place start (k + size_of place o.op) (suc n) o.line ops i in
    omega arith

-- The machine has this code.
pub record Has (h : Machine) (code : List LinedInst) : Type 0 where
  pub fetch : (k : ℕ) (i : LinedInst) → slice_get code k ≡ Some i → h.fetch k ≡ Some i.inst
  pub line : (k : ℕ) (i : LinedInst) → slice_get code k ≡ Some i → h.line k ≡ i.line

seam : (a : List LinedInst) (i : LinedInst) (b : List LinedInst) → slice_get (a ++ (i ∷ b)) (length a) ≡ Some i
seam [] i b = refl
seam (x ∷ a) i b = seam a i b

-- instructions of one line in the middle of the code
pub stands_middle : (h : Machine) (code a b : List LinedInst) (l k : ℕ) (is : List Inst) → Has h code → code ≡ a ++ (placed l is ++ b) → length a ≡ k → StandsAt h l k is
stands_middle h code a b l k [] has e at = tt
stands_middle h code a b l k (i ∷ is) has e at =
    let found : slice_get code k ≡ Some (lined l i) = rw (e, ← at) (seam a (lined l i) (placed l is ++ b)) in
    let e2 : code ≡ (a ++ (lined l i ∷ [])) ++ (placed l is ++ b) = e ∙ sym (append_assoc a (lined l i ∷ []) (placed l is ++ b)) in
    let at2 : length (a ++ (lined l i ∷ [])) ≡ suc k = length-append a (lined l i ∷ []) ∙ omega arith in
    (has.fetch k (lined l i) found, has.line k (lined l i) found, stands_middle h code (a ++ (lined l i ∷ [])) b l (suc k) is has e2 at2)

-- each operation of a list stands where it begins
pub stands_op : (h : Machine) (code a b : List LinedInst) (place : Reg → Place) (start : ℕ → ℕ) (k n line : ℕ) (ops : List LinedOp) → Has h code → code ≡ a ++ (body_code place start n line ops ++ b) → length a ≡ k
    → (i : ℕ) (op : MidOp) → op_in ops i ≡ Some op → StandsAt h (line_from line ops i) (start_of place k ops i) (op_code place start (n + i) op)
stands_op h code a b place start k n line [] has e at i op is = cc
stands_op h code a b place start k n line (o ∷ ops) has e at zero op is =
    let same : o.op ≡ op = cc in
    let e2 : code ≡ a ++ (placed o.line (op_code place start n o.op) ++ (body_code place start (suc n) o.line ops ++ b)) = e ∙ ap (λ q. a ++ q) (append_assoc (placed o.line (op_code place start n o.op)) (body_code place start (suc n) o.line ops) b) in
    let place_is : n + 0 ≡ n = omega arith in
    rw (place_is, ← same) (stands_middle h code a (body_code place start (suc n) o.line ops ++ b) o.line k (op_code place start n o.op) has e2 at)
stands_op h code a b place start k n line (o ∷ ops) has e at (suc i) op is =
    let front = placed o.line (op_code place start n o.op) in
    let e2 : code ≡ (a ++ front) ++ (body_code place start (suc n) o.line ops ++ b) = e ∙ ap (λ q. a ++ q) (append_assoc front (body_code place start (suc n) o.line ops) b) ∙ sym (append_assoc a front (body_code place start (suc n) o.line ops ++ b)) in
    let at2 : length (a ++ front) ≡ k + size_of place o.op = length-append a front ∙ ap (λ q. length a + q) (placed_length o.line (op_code place start n o.op) ∙ size_is place start n o.op) ∙ omega arith in
    let place_is : suc n + i ≡ n + suc i = omega arith in
    rw (← place_is) (stands_op h code (a ++ front) b place start (k + size_of place o.op) (suc n) o.line ops has e2 at2 i op is)

-- and behind them the EBREAK
pub stands_end : (h : Machine) (code a b : List LinedInst) (place : Reg → Place) (start : ℕ → ℕ) (k n line : ℕ) (ops : List LinedOp) → Has h code → code ≡ a ++ (body_code place start n line ops ++ b) → length a ≡ k
    → (i : ℕ) → op_in ops i ≡ None → StandsAt h (line_from line ops i) (start_of place k ops i) (Ebreak ∷ [])
stands_end h code a b place start k n line [] has e at i is = stands_middle h code a b line k (Ebreak ∷ []) has e at
stands_end h code a b place start k n line (o ∷ ops) has e at zero is = cc
stands_end h code a b place start k n line (o ∷ ops) has e at (suc i) is =
    let front = placed o.line (op_code place start n o.op) in
    let e2 : code ≡ (a ++ front) ++ (body_code place start (suc n) o.line ops ++ b) = e ∙ ap (λ q. a ++ q) (append_assoc front (body_code place start (suc n) o.line ops) b) ∙ sym (append_assoc a front (body_code place start (suc n) o.line ops ++ b)) in
    let at2 : length (a ++ front) ≡ k + size_of place o.op = length-append a front ∙ ap (λ q. length a + q) (placed_length o.line (op_code place start n o.op) ∙ size_is place start n o.op) ∙ omega arith in
    stands_end h code (a ++ front) b place start (k + size_of place o.op) (suc n) o.line ops has e2 at2 i is

-- ---- procedures

-- the operations of a list as they stand in its procedure
abbrev pub body_of : ℕ → List LinedOp → List LinedInst
body_of k ops = body_code (place_of (slots_of ops)) (start_of (place_of (slots_of ops)) k ops) 0 1 ops

pub record Found (code : List LinedInst) (k : ℕ) (ops : List LinedOp) : Type 0 where
  pub before : List LinedInst
  pub behind : List LinedInst
  pub is : code ≡ before ++ (body_of k ops ++ behind)
  pub at : length before ≡ k

pub proc_found : (code a b : List LinedInst) (k p : ℕ) (procs : List (List LinedOp)) (q : ℕ) → code ≡ a ++ (code_from k p procs ++ b) → length a ≡ k → q < length procs → Found code (base_from k p procs q) (ops_of procs q)
proc_found code a b k p [] q e at lt = absurd (omega arith)
proc_found code a b k p (ops ∷ procs) zero e at lt =
    let enters = placed (line_in ops 0) (entry_code p) in
    let body = body_of (after_entry k p) ops in
    let rest = code_from (k + length (proc_code k p ops)) (suc p) procs in
    record {
      before = a ++ enters;
      behind = rest ++ b;
      is = e ∙ ap (λ q. a ++ q) (append_assoc (proc_code k p ops) rest b ∙ append_assoc enters body (rest ++ b)) ∙ sym (append_assoc a enters (body ++ (rest ++ b)));
      at = length-append a enters ∙ ap (λ q. length a + q) (placed_length (line_in ops 0) (entry_code p)) ∙ omega arith;
    }
proc_found code a b k p (ops ∷ procs) (suc q) e at lt =
    let front = proc_code k p ops in
    let rest = code_from (k + length front) (suc p) procs in
    let e2 : code ≡ (a ++ front) ++ (rest ++ b) = e ∙ ap (λ q. a ++ q) (append_assoc front rest b) ∙ sym (append_assoc a front (rest ++ b)) in
    proc_found code (a ++ front) b (k + length front) (suc p) procs q e2 (length-append a front ∙ omega arith) (omega arith)
