use Rattle.std.proofs.Common.{◌≡◌, ℕ, List, [], get_or, slice_set, MatchBool, sym, ◌∙◌, ap, rules, ◌+◌, ◌%◌, ◌^◌, ◌≤◌, ◌<◌, nat_le, length}
use Rattle.rv_isa.specs.Words.{stored}
use Rattle.rv_step.specs.Pages.{page_index, page_of, byte_in, kept, IsStored}
use Rattle.rv_step.proofs.Pages.{item_of, put_there}
use Rattle.rv_step.proofs.stack.Stack.put.Goals as goal

pub returns-then-index-len-clause-bytes : goal.returns-then-index-len-clause-bytes
returns-then-index-len-clause-bytes c =
    let i : c.index_of-index.result ≡ page_index c.args.o = c.index_of-index.ensures in
    let there : c.index_of-index.result < length c.self.inside.pages.items = search rules in
    let k : c.place_of.result ≡ c.args.o % 2 ^ 16 = c.place_of.ensures.value in
    let e : c.index_mut.result.now ≡ get_or c.self.inside.pages.items c.index_of-index.result [] = c.index_mut.ensures.value ∙ item_of c.self.inside.pages.items c.index_of-index.result c.index_mut.result.now [] there in
    let v = c.self.view_is in
    let p : c.index_mut.result.now ≡ page_of c.args.self.now c.args.o = cc in
    let kept_is : c.store.result ≡ nat_le (c.args.o % 2 ^ 16 + c.args.width) (kept c.args.self.now c.args.o) = rw (← p, ← k) c.store.ensures.kept in
    let most : kept c.args.self.now c.args.o ≤ 2 ^ 16 = rw (← p) c.store.ensures.within in
    let bytes : MatchBool c.store.result ((q : ℕ) → byte_in c.store.new.self q ≡ stored (byte_in (page_of c.args.self.now c.args.o)) (c.args.o % 2 ^ 16) c.args.width c.args.value q) (c.store.new.self ≡ page_of c.args.self.now c.args.o) = rw (← p, ← k) c.store.ensures.bytes in
    rw (i, v) (put_there c.args.self.now c.store.new.self c.args.o c.args.width c.args.value c.store.result (search rules) c.requires.at kept_is most bytes)
