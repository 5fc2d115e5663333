use Rattle.first_language.proofs.Stacks.{if_kept}
use Rattle.first_language.proofs.statements.without_if.Goals as goal

pub returns-in_ok-push-in-Some-InIf-clause-value : goal.returns-in_ok-push-in-Some-InIf-clause-value
returns-in_ok-push-in-Some-InIf-clause-value c =
    if_kept c.args.p c.pop.new.self.items c.in-Some-InIf.test c.in-Some-InIf.line c.in-Some-InIf.before c.push.new.self.items c.from_vec.result
    (rw c.in-Some-InIf.field-0-is at c.in-Some-InIf.ensures.items) c.in_ok-push-in-Some-InIf.ensures.items c.from_vec.ensures
