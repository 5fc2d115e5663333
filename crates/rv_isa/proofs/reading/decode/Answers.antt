use Rattle.rv_isa.proofs.Spelt.{result_spelt, nothing_read}
use Rattle.rv_isa.proofs.reading.decode.Goals as goal

pub returns-clause-spelt : goal.returns-clause-spelt
returns-clause-spelt c = result_spelt c.args.word c.read.result c.ranges.word.fits c.read.ensures

pub returns-clause-none : goal.returns-clause-none
returns-clause-none c = nothing_read c.args.word c.read.result c.read.ensures
