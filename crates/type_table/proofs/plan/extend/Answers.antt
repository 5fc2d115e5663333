use Rattle.std.proofs.Common.{ℕ, List, [], ◌∷◌, ◌++◌, ◌∙◌, ap}
use Rattle.type_table.proofs.Planned.{stands_as}
use Rattle.type_table.proofs.plan.extend.Goals as goal

pub settle-requires : goal.settle-requires
settle-requires c =
    stands_as c.args.rows.now c.as_slice.result.now c.args.known.now.items c.push-2.new.self.items c.args.waiting.now.items c.push.new.self.items c.args.row
    (c.as_slice.ensures ∙ c.in_ok-add.ensures.ok) c.in_ok-push-2.ensures.items
    (c.in_ok-push.ensures.items ∙ (ap (λ (x : List ℕ). x ++ c.len.result ∷ []) c.new-pending.ensures.items ∙ ap (λ (x : ℕ). x ∷ []) c.len.ensures)) c.requires
