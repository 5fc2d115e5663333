use Rattle.std.proofs.Common.{◌-◌, ◌<◌, List, length, sym, ◌∙◌, ap, arith}
use Rattle.type_table.specs.declared.row.Field.{Field}
use Rattle.type_table.specs.declared.row.Row.{Row}
use Rattle.type_table.specs.Cycles.{label_at, fields_below}
use Rattle.type_table.proofs.Falling.{not_in_itself}
use Rattle.type_table.proofs.Planned.{got}
use Rattle.type_table.proofs.cycle.is_above.Goals as goal

pub returns : goal.returns
returns c = λ e fall.
    let near : c.args.number < length c.args.rows.now = omega (arith, c.if-place-rows.false) in
    let some = c.if-label-eq0.false in
    let label = c.label_at-label.ensures in
    let less : c.label_at-label.result - 1 < label_at c.args.labels.now c.args.number = omega (arith, some, label) in
    not_in_itself c.args.labels.now c.args.rows.now c.args.number (c.label_at-label.result - 1) c.index-rows-place.result fall
    (got c.args.rows.now c.args.number c.index-rows-place.result near c.index-rows-place.is) less
    (ap (λ (x : Row). fields_below c.args.labels.now (c.label_at-label.result - 1) x.fields) c.index-rows-place.is
    ∙ (ap (λ (x : List Field). fields_below c.args.labels.now (c.label_at-label.result - 1) x) (sym c.as_slice.ensures) ∙ (sym c.fields_below.ensures ∙ e)))
