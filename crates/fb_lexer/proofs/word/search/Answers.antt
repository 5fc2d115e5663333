use Rattle.std.proofs.Common.{sym, rules, map}
use Rattle.std.specs.Ordering.{nat_cmp}
use Rattle.std.specs.Cmp.Lexicographic.{slice_cmp}
use Rattle.std.proofs.lemmas.Fn.{always_returns_same}
use Rattle.fb_lexer.specs.Letters.{lower}
use Rattle.fb_lexer.proofs.Table.{found, missing}
use Rattle.fb_lexer.proofs.word.search.Goals as goal

pub returns-in-Ok : goal.returns-in-Ok
returns-in-Ok c =
    let place = c.in-Ok.ensures.position (λ row. slice_cmp nat_cmp row.0.now (map lower c.args.name.now)) (always_returns_same _ _ _ (λ a r f' k. (search rules, search rules))) in
    sym (found (λ row. row.0.now) (λ row. row.1) c.args.table.now (map lower c.args.name.now) c.in-Ok.at _ c.requires c.in-Ok.ensures.bound (place _))

pub returns-in-Err : goal.returns-in-Err
returns-in-Err c =
    let place = c.in-Err.ensures.position (λ row. slice_cmp nat_cmp row.0.now (map lower c.args.name.now)) (always_returns_same _ _ _ (λ a r f' k. (search rules, search rules))) in
    sym (missing (λ row. row.0.now) (λ row. row.1) c.args.table.now (map lower c.args.name.now) c.in-Err.field-0 c.requires place)
