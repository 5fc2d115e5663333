use Rattle.std.proofs.Common.{◌≡◌, ℕ, ◌+◌, ◌-◌, ◌%◌, ◌^◌, ◌≤◌, ◌<◌, ◌*◌, ◌/◌, refl, rules, ◌∙◌, subst, arith}
use Rattle.rv_step.specs.Pages.{kept, SameBytes, IsStored}
use Rattle.rv_step.proofs.Pages.{put_done, put_both}
use Rattle.rv_step.proofs.stack.Stack.store_anew.Goals as goal

pub returns-in_ok-reserve-clause-ok : goal.returns-in_ok-reserve-clause-ok
returns-in_ok-reserve-clause-ok c = put_done c.args.self.now c.reserve.new.self c.put.new.self c.args.o c.args.width c.args.value c.put.result c.in_ok-reserve.ensures.bytes c.in_ok-reserve.ensures.ok c.put.ensures.kept c.put.ensures.bytes

pub returns-in_ok-reserve-3-clause-ok : goal.returns-in_ok-reserve-3-clause-ok
returns-in_ok-reserve-3-clause-ok c =
    let n : ℕ = 65536 - c.place_of-room.result in
    let one = c.reserve-else-width-room.new.self in
    let both = c.reserve-else-width-room-2.new.self in
    let done = c.put-else-width-room.new.self in
    let all = c.put-else-width-room-2.new.self in
    let same : SameBytes c.args.self.now both = λ q l. c.in_ok-reserve-3.ensures.bytes q l ∙ c.in_ok-reserve-2.ensures.bytes q l in
    let more : kept one c.args.o ≤ kept both c.args.o = c.in_ok-reserve-3.ensures.more c.args.o in
    let there : kept done (c.args.o + n) ≡ kept both (c.args.o + n) = c.put-else-width-room.ensures.same (c.args.o + n) in
    let first : IsStored c.args.self.now done c.args.o n c.args.value = put_done c.args.self.now both done c.args.o n c.args.value c.put-else-width-room.result same (omega (arith, more, c.in_ok-reserve-2.ensures.ok)) c.put-else-width-room.ensures.kept c.put-else-width-room.ensures.bytes in
    let second : IsStored done all (c.args.o + n) (c.args.width - n) (c.args.value / 2 ^ (8 * n)) = put_done done done all (c.args.o + n) (c.args.width - n) (c.args.value / 2 ^ (8 * n)) c.put-else-width-room-2.result (λ q l. refl) (rw there c.in_ok-reserve-3.ensures.ok) c.put-else-width-room-2.ensures.kept c.put-else-width-room-2.ensures.bytes in
    let e : n + (c.args.width - n) ≡ c.args.width = omega arith in
    subst (λ k. IsStored c.args.self.now all c.args.o k c.args.value) e (put_both c.args.self.now done all c.args.o n (c.args.width - n) c.args.value first second)
