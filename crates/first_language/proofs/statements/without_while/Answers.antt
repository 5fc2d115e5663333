use Rattle.first_language.proofs.Stacks.{while_kept}
use Rattle.first_language.proofs.statements.without_while.Goals as goal

pub returns-in_ok-push-in-Some-InWhile-clause-value : goal.returns-in_ok-push-in-Some-InWhile-clause-value
returns-in_ok-push-in-Some-InWhile-clause-value c =
    while_kept c.args.p c.pop.new.self.items c.in-Some-InWhile.test c.in-Some-InWhile.line c.in-Some-InWhile.before c.push.new.self.items c.from_vec.result
    (rw c.in-Some-InWhile.field-0-is at c.in-Some-InWhile.ensures.items) c.in_ok-push-in-Some-InWhile.ensures.items c.from_vec.ensures
