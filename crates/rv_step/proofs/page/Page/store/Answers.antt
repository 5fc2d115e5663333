use Rattle.std.proofs.Common.{◌≡◌, ◌+◌, ◌*◌, ◌/◌, ◌^◌, refl, sym, ◌∙◌, rules, length-set}
use Rattle.rv_isa.specs.Words.{stored}
use Rattle.rv_step.specs.Pages.{byte_in}
use Rattle.rv_step.proofs.Bytes.{stored_none, stored_alike, stored_twice, byte_set}
use Rattle.rv_step.proofs.page.Page.store.Goals as goal

pub loop-i-init : goal.loop-i-init
loop-i-init c = record { kept = refl; bytes = λ q. sym (stored_none (byte_in c.self.inside.bytes.items) c.args.k c.args.value q) }

pub loop-i-preserved : goal.loop-i-preserved
loop-i-preserved c = record {
  kept = length-set _ _ _ ∙ c.loop-i.invariant.kept;
  bytes = λ q.
      byte_set c.loop-i.self-inside.bytes.items (c.args.k + c.loop-i.i) (c.args.value / 2 ^ (8 * c.loop-i.i)) q (search rules)
      ∙ stored_alike (byte_in c.loop-i.self-inside.bytes.items) (stored (byte_in c.self.inside.bytes.items) c.args.k c.loop-i.i c.args.value) (c.args.k + c.loop-i.i) 1 (c.args.value / 2 ^ (8 * c.loop-i.i)) q (c.loop-i.invariant.bytes q)
      ∙ stored_twice (byte_in c.self.inside.bytes.items) c.args.k c.loop-i.i 1 c.args.value q;
}
