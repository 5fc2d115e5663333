use Rattle.std.proofs.Common.{◌≡◌, ℕ, ◌+◌, ◌*◌, ◌++◌, ◌∙◌, ap, length, vec_len, arith}
use Rattle.type_table.specs.Layouts.{measured}
use Rattle.type_table.specs.Offsets.{size_of}
use Rattle.type_table.specs.Cells.{value_cells, cells}
use Rattle.type_table.proofs.CellLoops.{element_step, field_step}
use Rattle.type_table.proofs.NoCells.{alike, no_elements}
use Rattle.type_table.proofs.cells.+cells.Goals as goal

pub put_fields-loop-field-preserved : goal.put_fields-loop-field-preserved
put_fields-loop-field-preserved t c =
    field_step c.args.known.now (cells c.args.rows.now c.args.known.now c.args.depth) c.args.base c.in_ok-place.place c.in_ok-count.count c.last-end.result c.loop-field.before c.put-before.result c.measured-part.result c.args.fields.now c.loop-field.field-index c.field-item.result c.loop-field.found.items c.put_values.new.found.items _
    c.loop-field-test.true c.field-item.is c.measured-part.ensures c.last-end.ensures c.put-before.ensures
    (c.in_ok-place.ensures ∙ ap (λ (x : ℕ). c.args.base + x) c.offset.ensures) c.in_ok-count.ensures c.in_ok-put_values.ensures c.loop-field.invariant

pub put_values-loop-i-preserved : goal.put_values-loop-i-preserved
put_values-loop-i-preserved t c =
    element_step (value_cells (cells c.args.rows.now c.args.known.now c.args.depth) c.args.ty.now) (size_of (measured c.args.known.now c.args.ty.now)) c.args.at c.loop-i.i c.in_ok-place.place c.args.found.now.items c.loop-i.found.items c.put_value.new.found.items
    (c.in_ok-place.ensures ∙ ap (λ (x : ℕ). c.args.at + c.loop-i.i * x) (c.size-bytes.ensures ∙ ap size_of c.measured.ensures)) c.in_ok-put_value.ensures c.loop-i.invariant

-- the element has no cell, so none has
pub put_values-returns-then-len-before : goal.put_values-returns-then-len-before
put_values-returns-then-len-before t c =
    let a = c.len.ensures in
    let b = c.len-before.ensures in
    let e = c.if-len-before.true in
    let now-is : vec_len c.put_value.new.found ≡ length c.put_value.new.found.items = c.put_value.new.found.ok.0 in
    let old-is : vec_len c.args.found.now ≡ length c.args.found.now.items = c.args.found.now.ok.0 in
    no_elements (value_cells (cells c.args.rows.now c.args.known.now c.args.depth) c.args.ty.now) (alike c.args.rows.now c.args.known.now c.args.depth c.args.ty.now)
    (size_of (measured c.args.known.now c.args.ty.now)) c.args.at c.loop-i.i c.args.count c.args.found.now.items c.loop-i.found.items c.put_value.new.found.items
    c.loop-i.invariant
    (c.in_ok-put_value.ensures ∙ ap (λ (x : ℕ). c.loop-i.found.items ++ value_cells (cells c.args.rows.now c.args.known.now c.args.depth) c.args.ty.now x)
    (c.in_ok-place.ensures ∙ ap (λ (x : ℕ). c.args.at + c.loop-i.i * x) (c.size-bytes.ensures ∙ ap size_of c.measured.ensures)))
    (omega (arith, a, b, e, now-is, old-is))
