use Rattle.std.proofs.Common.{◌≡◌, ◌+◌, [], ◌∷◌, ◌++◌, take, sym, subst, ◌∙◌, ap, arith}
use Rattle.std.proofs.lemmas.List.{take_all}
use Rattle.overload_pick.specs.Costs.{sum_of, sums_of}
use Rattle.overload_pick.specs.Best.{IsBest}
use Rattle.overload_pick.proofs.Leads.{none_picked, alone_picked, together_picked}
use Rattle.overload_pick.proofs.Sums.{sums_more, sums_length}
use Rattle.overload_pick.proofs.choosing.pick.Goals as goal

pub loop-i-preserved : goal.loop-i-preserved
loop-i-preserved c =
    let cands = c.args.cands.now in
    let args = c.args.args.now in
    let i = c.loop-i.i in
    let led = c.better-best.ensures (sums_of args (take i cands)) (sums_length args cands i (omega arith)) c.loop-i.invariant in
    let total : c.sum-total.result ≡ sum_of args c.index-cands-i.result = c.sum-total.ensures ∙ ap (sum_of args) c.as_slice-params.ensures in
    let more : sums_of args (take (i + 1) cands) ≡ sums_of args (take i cands) ++ c.sum-total.result ∷ [] =
    sums_more args cands i c.index-cands-i.result c.loop-i-test.true c.index-cands-i.is ∙ ap (λ t. sums_of args (take i cands) ++ t ∷ []) (sym total) in
    subst (λ s. IsBest s c.better-best.result) (sym more) led

pub returns-in-Nobody : goal.returns-in-Nobody
returns-in-Nobody c =
    let all : take c.loop-i.i c.args.cands.now ≡ c.args.cands.now = take_all c.loop-i.i c.args.cands.now (omega arith) in
    none_picked (sums_of c.args.args.now c.args.cands.now) c.loop-i.best (subst (λ s. IsBest (sums_of c.args.args.now s) c.loop-i.best) all c.loop-i.invariant) c.in-Nobody.is

pub returns-in-One : goal.returns-in-One
returns-in-One c =
    let all : take c.loop-i.i c.args.cands.now ≡ c.args.cands.now = take_all c.loop-i.i c.args.cands.now (omega arith) in
    alone_picked (sums_of c.args.args.now c.args.cands.now) c.loop-i.best c.in-One.field-0 c.in-One.one (subst (λ s. IsBest (sums_of c.args.args.now s) c.loop-i.best) all c.loop-i.invariant) c.in-One.is

pub returns-in-Tie : goal.returns-in-Tie
returns-in-Tie c =
    let all : take c.loop-i.i c.args.cands.now ≡ c.args.cands.now = take_all c.loop-i.i c.args.cands.now (omega arith) in
    together_picked (sums_of c.args.args.now c.args.cands.now) c.loop-i.best c.in-Tie.field-0 c.in-Tie.first c.in-Tie.second (subst (λ s. IsBest (sums_of c.args.args.now s) c.loop-i.best) all c.loop-i.invariant) c.in-Tie.is
