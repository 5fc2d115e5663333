use Rattle.std.proofs.Common.{arith, ◌+◌, ◌≤◌, length}
use Rattle.rt_threads.specs.Table.{IsReady}
use Rattle.rt_threads.proofs.Woken.{listens_fits, listens_kept}
use Rattle.rt_threads.proofs.threads.Threads.cond_wait.Goals as goal

pub overflow_add-index_mut : goal.overflow_add-index_mut
overflow_add-index_mut c =
    let ready : IsReady c.self.inside.parts c.args.t = rw c.self.view_is c.requires in
    let fits : c.index_mut.result.now + 1 ≤ length c.self.inside.wanted.items = listens_fits c.self.inside.parts _ c.args.t c.args.cond c.args.mutex c.args.now _ _ _ c.in_ok-wait_at.ensures c.self.invariant ready c.index_mut.ensures.value in
    omega (arith, fits, c.self.inside.wanted.ok.0, c.len-all.ensures, c.len-all.type_inv)

pub invariant_of-self-2 : goal.invariant_of-self-2
invariant_of-self-2 c =
    let ready : IsReady c.self.inside.parts c.args.t = rw c.self.view_is c.requires in
    listens_kept c.self.inside.parts _ c.args.t c.args.cond c.args.mutex c.args.now _ _ _ c.in_ok-wait_at.ensures c.self.invariant ready c.index_mut.ensures.value
