use Rattle.std.proofs.Common.{◌≡◌, suc, ◌+◌, ◌++◌, ◌∷◌, List, length, drop, ap, sym, ◌∙◌, arith, add-one}
use Rattle.std.proofs.Math.Seq.{drop-cons}
use Rattle.mid_code.specs.declared.op.LinedOp.{LinedOp}
use Rattle.rv_select.specs.Layout.{proc_code, FitsProc, FitFrom}
use Rattle.rv_select.proofs.Beginnings.{code_more, entries_more, fits_more}
use Rattle.rv_select.proofs.layout.selected_code.Goals as goal

pub loop-proc-preserved : goal.loop-proc-preserved
loop-proc-preserved c =
    let i = c.loop-proc.proc-index in
    let code = c.loop-proc.code.items in
    let new = c.put_proc.new.code.items in
    let ops : List LinedOp = c.proc-item.result in
    let all = drop i c.args.procs.now in
    let rest = drop (i + 1) c.args.procs.now in
    let first : all ≡ ops ∷ rest = rw add-one (drop-cons c.args.procs.now i ops c.loop-proc-test.true ∙ ap (λ (x : List LinedOp). x ∷ drop (suc i) c.args.procs.now) (sym c.proc-item.is)) in
    let is : new ≡ code ++ proc_code (length code) c.loop-proc.p ops = rw (sym c.ops.ensures.items) c.in_ok-put_proc.ensures.code in
    let fit : FitsProc (length code) c.loop-proc.p ops = rw (sym c.ops.ensures.items) c.in_ok-put_proc.ensures.fits in
    let next : c.loop-proc.p + 1 ≡ suc c.loop-proc.p = omega arith in
    let words : length c.as_slice-words.result.now ≡ length code = ap length c.as_slice-words.ensures.value in
    record {
      place = omega arith;
      code = code_more code new c.loop-proc.p (c.loop-proc.p + 1) ops all rest first is next _ c.loop-proc.invariant.code;
      entries = entries_more code new c.loop-proc.p (c.loop-proc.p + 1) ops all rest first is next c.loop-proc.entries c.add.new.self _ _ c.in_ok-add.ensures.ok words c.loop-proc.invariant.entries;
      fits = fits_more code new c.loop-proc.p (c.loop-proc.p + 1) ops all rest first is next (FitFrom 0 0 c.args.procs.now) fit c.loop-proc.invariant.fits;
    }
