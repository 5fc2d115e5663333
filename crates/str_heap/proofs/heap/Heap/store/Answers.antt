use Rattle.std.proofs.Common.{arith, ◌≡◌, ◌<◌, length, refl, ap}
use Rattle.std.proofs.lemmas.Bool.Decides.{nat_tests}
use Rattle.str_heap.specs.Payloads.{blocks}
use Rattle.str_heap.proofs.Counts.{count-le}
use Rattle.str_heap.proofs.Keeping.{sound_reserved, stored_sound, stores}
use Rattle.str_heap.proofs.FirstFit.{first_fit}
use Rattle.str_heap.proofs.Live.{stored_keeps}
use Rattle.str_heap.proofs.heap.Heap.store.Goals as goal

pub overflow_add-len : goal.overflow_add-len
overflow_add-len c = omega (arith, c.len.ensures.small, count-le c.self.inside.lengths.items, c.self.invariant.counted)

pub overflow_add-len-2 : goal.overflow_add-len-2
overflow_add-len-2 c = omega (arith, c.len.ensures.small, count-le c.self.inside.lengths.items, c.self.invariant.counted)

pub overflow_add-self : goal.overflow_add-self
overflow_add-self c = omega (arith, count-le c.self.inside.lengths.items, c.self.invariant.counted)

pub invariant_of-self-2 : goal.invariant_of-self-2
invariant_of-self-2 c =
    let L = c.self.inside.lengths.items in
    let A = c.self.inside.arena.items in
    let H = c.reserve.new.self in
    let n = c.div_ceil-size.result in
    let bytes = c.args.bytes.now in
    let some : 0 < length bytes = grind (arith, nat_tests) in
    let fits : n ≡ blocks (length bytes) = omega (arith, c.div_ceil-size.ensures) in
    let s = sound_reserved L A c.self.inside.holes H c.self.inside.live c.in_ok-reserve.ensures.spans c.in_ok-reserve.ensures.room c.self.invariant in
    rw c.write.ensures
    (stored_sound n c.in_ok-place.place L A H c.find_room.new.lengths.items c.find_room.new.arena.items c.find_room.new.holes c.in_ok-place.ensures.found c.self.inside.live s bytes some fits
    (omega (arith, c.in_ok-reserve.ensures.ok, c.len.ensures.count, ap length c.in_ok-reserve.ensures.spans)))

pub returns-clause-stored : goal.returns-clause-stored
returns-clause-stored c =
    let L = c.self.inside.lengths.items in
    let A = c.self.inside.arena.items in
    let H = c.reserve.new.self in
    let n = c.div_ceil-size.result in
    let bytes = c.args.bytes.now in
    let some : 0 < length bytes = grind (arith, nat_tests) in
    let fits : n ≡ blocks (length bytes) = omega (arith, c.div_ceil-size.ensures) in
    let s = sound_reserved L A c.self.inside.holes H c.self.inside.live c.in_ok-reserve.ensures.spans c.in_ok-reserve.ensures.room c.self.invariant in
    rw (c.write.ensures, ← c.self.view_is)
    (stores n c.in_ok-place.place L A H c.find_room.new.lengths.items c.find_room.new.arena.items c.find_room.new.holes c.in_ok-place.ensures.found c.self.inside.live s bytes some fits _ refl refl refl)

pub returns-clause-first : goal.returns-clause-first
returns-clause-first c =
    let L = c.self.inside.lengths.items in
    let A = c.self.inside.arena.items in
    let H = c.reserve.new.self in
    let s = sound_reserved L A c.self.inside.holes H c.self.inside.live c.in_ok-reserve.ensures.spans c.in_ok-reserve.ensures.room c.self.invariant in
    rw (← c.self.view_is)
    (first_fit L A H c.self.inside.live s c.div_ceil-size.result c.in_ok-place.place c.find_room.new.lengths.items c.find_room.new.arena.items c.find_room.new.holes c.in_ok-place.ensures.found _ refl refl)

pub returns-clause-kept : goal.returns-clause-kept
returns-clause-kept c = stored_keeps _ _ _ _ (returns-clause-stored c)
