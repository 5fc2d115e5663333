use Rattle.std.proofs.Common.{◌≡◌, ◌∙◌, true, false, sym, ap, arith, rules}
use Rattle.std.proofs.lemmas.Grind.{common_steps}
use Rattle.std.proofs.lemmas.List.{drop_all}
use Rattle.parse_parts.specs.Members.{is_field, has_field}
use Rattle.parse_parts.proofs.Fields.{field_here, field_later}
use Rattle.parse_parts.proofs.members.has_field.Goals as goal

pub returns-then-is_field : goal.returns-then-is_field
returns-then-is_field c =
    let field : is_field c.member-item.result ≡ true = first_of (cc, search rules, grind (arith, common_steps)) in
    sym (c.loop-member.invariant ∙ field_here c.args.members.now c.loop-member.member-index c.member-item.result c.loop-member-test.true c.member-item.is field)

pub loop-member-preserved : goal.loop-member-preserved
loop-member-preserved c =
    let none : is_field c.member-item.result ≡ false = first_of (cc, search rules, grind (arith, common_steps)) in
    c.loop-member.invariant ∙ field_later c.args.members.now c.loop-member.member-index c.member-item.result c.loop-member-test.true c.member-item.is none

pub returns : goal.returns
unfolding has_field
returns c = sym (c.loop-member.invariant ∙ ap has_field (drop_all c.loop-member.member-index c.args.members.now c.loop-member-test.false))
