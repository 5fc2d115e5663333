use Rattle.std.proofs.Common.{◌≡◌, ◌+◌, true, false, arith, rules, sym}
use Rattle.places.specs.Place.{may_close_in, size_of}
use Rattle.places.proofs.Bytes.{each_past, each_next, each_fails}
use Rattle.places.proofs.Cells.{close_past}
use Rattle.places.proofs.place.Place.may_close_all.Goals as goal

pub returns-then-not-fits-clause-all : goal.returns-then-not-fits-clause-all
returns-then-not-fits-clause-all c = sym (each_past (may_close_in c.args.self.now) (size_of c.args.self.now.head) c.args.o c.args.len (close_past c.args.self.now) (omega (arith, c.has-fits.ensures.limit)) (omega arith) (omega (arith, c.if-not-fits.ensures.beyond)))

pub loop-at-preserved : goal.loop-at-preserved
loop-at-preserved c =
    let passes : may_close_in c.args.self.now c.loop-at.at ≡ true = search rules in
    each_next (may_close_in c.args.self.now) (c.args.o + c.args.len) c.loop-at.at _ (omega arith) (omega (arith, c.if-not-fits.ensures.within, c.has-fits.ensures.limit)) passes c.loop-at.invariant

pub returns-then-not-may_close-clause-all : goal.returns-then-not-may_close-clause-all
returns-then-not-may_close-clause-all c =
    let fails : may_close_in c.args.self.now c.loop-at.at ≡ false = search rules in
    each_fails (may_close_in c.args.self.now) (c.args.o + c.args.len) c.loop-at.at _ (omega arith) fails c.loop-at.invariant
