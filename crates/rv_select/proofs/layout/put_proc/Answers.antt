use Rattle.std.proofs.Common.{◌≡◌, ◌+◌, ◌++◌, length, ◌∙◌, refl}
use Rattle.mid_code.specs.Operations.{line_in}
use Rattle.rv_select.specs.Slots.{FitFrame}
use Rattle.rv_select.specs.Layout.{placed, entry_code, after_entry}
use Rattle.rv_select.proofs.Beginnings.{proc_ok, fits_ok}
use Rattle.rv_select.proofs.layout.put_proc.Goals as goal

pub returns-clause-code : goal.returns-clause-code
returns-clause-code c =
    let entry : c.as_slice-entry.result.now ≡ entry_code c.args.p = c.as_slice-entry.ensures.value ∙ c.in_ok-insts.ensures in
    let base : length c.as_slice-words.result.now + length c.as_slice-entry.result.now ≡ after_entry (length c.args.code.now.items) c.args.p = rw (c.as_slice-words.ensures.value, entry) refl in
    let front : c.put_lined.new.code.items ≡ c.args.code.now.items ++ placed (line_in c.args.ops.now 0) (entry_code c.args.p) = c.in_ok-put_lined.ensures ∙ rw (c.first_line.ensures, entry) refl in
    proc_ok c.put_body.result c.args.code.now.items c.put_lined.new.code.items c.put_body.new.code.items c.args.p (length c.as_slice-words.result.now + length c.as_slice-entry.result.now) c.slots_for-slots.result c.args.ops.now c.in_ok-starts.starts
    c.slots_for-slots.ensures base front c.in_ok-starts.ensures.places c.in_ok-starts.ensures.end c.put_body.ensures.code

pub returns-clause-fits : goal.returns-clause-fits
returns-clause-fits c =
    let entry : c.as_slice-entry.result.now ≡ entry_code c.args.p = c.as_slice-entry.ensures.value ∙ c.in_ok-insts.ensures in
    let base : length c.as_slice-words.result.now + length c.as_slice-entry.result.now ≡ after_entry (length c.args.code.now.items) c.args.p = rw (c.as_slice-words.ensures.value, entry) refl in
    let fit : FitFrame c.slots_for-slots.result = c.fit_frame.ensures c.if-not-fit_frame.false in
    fits_ok c.put_body.result (length c.args.code.now.items) c.args.p (length c.as_slice-words.result.now + length c.as_slice-entry.result.now) c.slots_for-slots.result c.args.ops.now c.in_ok-starts.starts
    c.slots_for-slots.ensures base fit c.in_ok-starts.ensures.places c.in_ok-starts.ensures.end c.put_body.ensures.reaches
