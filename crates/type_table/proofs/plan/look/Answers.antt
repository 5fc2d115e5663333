use Rattle.std.proofs.Common.{◌≡◌, ℕ, ◌<◌, ◌≤◌, ◌++◌, Some, None, List, length, slice_set, Vec, sym, ◌∙◌, ap, subst, arith}
use Rattle.std.specs.declared.alloc.Global.{Global}
use Rattle.type_table.specs.declared.layout.Measure.{Measure}
use Rattle.type_table.specs.declared.layout.Measure.TheVariants.{Waits}
use Rattle.type_table.specs.declared.row.Field.{Field}
use Rattle.type_table.specs.Layouts.{measure_at, type_measure}
use Rattle.type_table.specs.Plans.{is_known, first_waiting, waiters, Stands}
use Rattle.type_table.proofs.Planned.{got, outside, already, at_fault, no_fault, not_listed, noted, waits_at, laid_out, laid_where}
use Rattle.type_table.proofs.plan.look.Goals as goal

pub returns-then-number-rows : goal.returns-then-number-rows
returns-then-number-rows c =
    let far : length c.args.rows.now ≤ c.args.number = c.if-number-rows.true in
    outside c.args.rows.now c.args.known.now.items c.args.waiting.now.items c.args.pending.now.items c.args.number c.requires far

pub returns-then-is_known : goal.returns-then-is_known
returns-then-is_known c =
    already c.args.rows.now c.args.known.now.items c.args.waiting.now.items c.args.pending.now.items c.args.number c.requires
    (ap (λ (x : List Measure). is_known (measure_at x c.args.number)) (sym c.as_slice.ensures.value) ∙ (sym (ap is_known c.measure_at.ensures) ∙ (sym c.is_known.ensures ∙ c.if-is_known.true)))

pub returns-then-is_some : goal.returns-then-is_some
returns-then-is_some c =
    let near : c.args.number < length c.args.rows.now = omega (arith, c.if-number-rows.false) in
    at_fault c.args.rows.now c.args.known.now.items c.args.waiting.now.items c.args.pending.now.items c.args.number c.requires c.index-rows-number.result
    (got c.args.rows.now c.args.number c.index-rows-number.result near c.index-rows-number.is) (sym c.is_some.ensures ∙ c.if-is_some.true)

pub returns-in_ok-note-in-Some : goal.returns-in_ok-note-in-Some
returns-in_ok-note-in-Some c =
    let near : c.args.number < length c.args.rows.now = omega (arith, c.if-number-rows.false) in
    let found : first_waiting c.args.known.now.items c.index-rows-number.result.fields ≡ Some c.in-Some.other =
    ap (λ (x : List Measure). first_waiting x c.index-rows-number.result.fields) (sym c.as_slice-2.ensures.value)
    ∙ (ap (λ (x : List Field). first_waiting c.as_slice-2.result.now x) (sym c.as_slice-3.ensures) ∙ (sym c.first_waiting.ensures ∙ c.in-Some.is)) in
    let w = waits_at c.args.known.now.items c.index-rows-number.result.fields c.in-Some.other found in
    noted c.args.rows.now c.args.known.now.items c.args.waiting.now.items c.note.new.waiting.items c.args.pending.now.items c.args.number c.in-Some.other c.index-rows-number.result c.requires
    c.in_ok-note-in-Some.ensures.kept c.in_ok-note-in-Some.ensures.noted
    (got c.args.rows.now c.args.number c.index-rows-number.result near c.index-rows-number.is) w.0 w.1

pub returns-in_ok-call_up-in-None : goal.returns-in_ok-call_up-in-None
returns-in_ok-call_up-in-None c =
    let near : c.args.number < length c.args.rows.now = omega (arith, c.if-number-rows.false) in
    let none : first_waiting c.args.known.now.items c.index-rows-number.result.fields ≡ None =
    ap (λ (x : List Measure). first_waiting x c.index-rows-number.result.fields) (sym c.as_slice-2.ensures.value)
    ∙ (ap (λ (x : List Field). first_waiting c.as_slice-2.result.now x) (sym c.as_slice-3.ensures) ∙ (sym c.first_waiting.ensures ∙ c.in-None.is)) in
    let unknown : measure_at c.args.known.now.items c.args.number ≡ Waits =
    not_listed (measure_at c.args.known.now.items c.args.number)
    (ap (λ (x : List Measure). is_known (measure_at x c.args.number)) (sym c.as_slice.ensures.value) ∙ (sym (ap is_known c.measure_at.ensures) ∙ (sym c.is_known.ensures ∙ c.if-is_known.false))) in
    let laid = laid_out c.args.rows.now c.args.known.now.items c.args.waiting.now.items c.args.pending.now.items c.args.number c.index-rows-number.result c.requires
    (got c.args.rows.now c.args.number c.index-rows-number.result near c.index-rows-number.is) unknown
    (laid_where c.args.known.now.items c.index-rows-number.result (no_fault c.index-rows-number.result.fault (sym c.is_some.ensures ∙ c.if-is_some.false)) none) in
    let measure : type_measure c.args.known.now.items c.index-rows-number.result ≡ c.type_measure-measure.result =
    ap (λ (x : List Measure). type_measure x c.index-rows-number.result) (sym c.as_slice-in-None.ensures.value) ∙ sym c.type_measure-measure.ensures in
    let calls : c.args.pending.now.items ++ waiters c.args.waiting.now.items c.args.number ≡ c.call_up.new.pending.items =
    sym (c.in_ok-call_up-in-None.ensures ∙ ap (λ (x : List (Vec ℕ Global)). c.args.pending.now.items ++ waiters x c.args.number) c.as_slice-in-None-2.ensures.value) in
    subst (λ (x : Measure). Stands c.args.rows.now (slice_set c.args.known.now.items c.args.number x) c.args.waiting.now.items c.call_up.new.pending.items) measure
    (subst (λ (x : List ℕ). Stands c.args.rows.now (slice_set c.args.known.now.items c.args.number (type_measure c.args.known.now.items c.index-rows-number.result)) c.args.waiting.now.items x) calls laid)
