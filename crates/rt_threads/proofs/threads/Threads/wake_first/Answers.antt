use Rattle.std.proofs.Common.{◌≡◌, true, arith}
use Rattle.rt_threads.specs.Table.{handle_at}
use Rattle.rt_threads.specs.Rows.{is_condition}
use Rattle.rt_threads.proofs.Woken.{took_within, took_counted, took_kept, wake_first_shorter}
use Rattle.rt_threads.proofs.threads.Threads.wake_first.Goals as goal

pub index_mut-requires : goal.index_mut-requires
index_mut-requires c =
    let condition : is_condition (handle_at c.self.inside.parts c.args.cond) ≡ true = rw c.self.view_is c.requires in
    omega (arith, took_within c.self.inside.parts c.args.cond c.in-Some.mutex _ _ c.self.invariant condition c.in-Some.ensures.mutex, c.self.inside.wanted.ok.0)

pub overflow_sub-index_mut : goal.overflow_sub-index_mut
overflow_sub-index_mut c =
    let condition : is_condition (handle_at c.self.inside.parts c.args.cond) ≡ true = rw c.self.view_is c.requires in
    took_counted c.self.inside.parts c.args.cond c.in-Some.mutex _ _ _ c.self.invariant condition c.in-Some.ensures.mutex c.index_mut.ensures.value

pub invariant_of-self-in-Some : goal.invariant_of-self-in-Some
invariant_of-self-in-Some c =
    let condition : is_condition (handle_at c.self.inside.parts c.args.cond) ≡ true = rw c.self.view_is c.requires in
    rw c.wake_first.ensures.table (took_kept c.self.inside.parts c.args.cond c.args.now c.in-Some.mutex _ _ _ c.self.invariant condition c.in-Some.ensures.mutex c.index_mut.ensures.value)

pub returns-in-Some-clause-rest : goal.returns-in-Some-clause-rest
returns-in-Some-clause-rest c =
    let condition : is_condition (handle_at c.self.inside.parts c.args.cond) ≡ true = rw c.self.view_is c.requires in
    rw (c.wake_first.ensures.table, ← c.self.view_is) (wake_first_shorter c.self.inside.parts c.args.cond c.args.now c.self.invariant.stands condition).rest

pub returns-in-Some-clause-ready : goal.returns-in-Some-clause-ready
returns-in-Some-clause-ready c =
    let condition : is_condition (handle_at c.self.inside.parts c.args.cond) ≡ true = rw c.self.view_is c.requires in
    rw (c.wake_first.ensures.table, ← c.self.view_is) (wake_first_shorter c.self.inside.parts c.args.cond c.args.now c.self.invariant.stands condition).ready
