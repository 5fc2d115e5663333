use Rattle.std.proofs.Common.{◌≡◌, length, vec_len, arith, ◌<◌}
use Rattle.type_table.proofs.Planned.{got, note_kept, note_there}
use Rattle.type_table.proofs.plan.note.Goals as goal

pub returns-clause-kept : goal.returns-clause-kept
returns-clause-kept c =
    let long : vec_len c.args.waiting.now ≡ length c.args.waiting.now.items = c.args.waiting.now.ok.0 in
    let len = c.len.ensures in
    let near = c.if-other-len.false in
    let below : c.args.other < length c.args.waiting.now.items = omega arith in
    note_kept c.args.waiting.now.items c.args.other c.index_mut.result.now c.push.new.self c.args.number
    (got c.args.waiting.now.items c.args.other c.index_mut.result.now below c.index_mut.ensures.value) c.in_ok-push.ensures.items

pub returns-clause-noted : goal.returns-clause-noted
returns-clause-noted c =
    let long : vec_len c.args.waiting.now ≡ length c.args.waiting.now.items = c.args.waiting.now.ok.0 in
    let len = c.len.ensures in
    let near = c.if-other-len.false in
    let below : c.args.other < length c.args.waiting.now.items = omega arith in
    note_there c.args.waiting.now.items c.args.other c.index_mut.result.now c.push.new.self c.args.number
    (got c.args.waiting.now.items c.args.other c.index_mut.result.now below c.index_mut.ensures.value) c.in_ok-push.ensures.items
