use Rattle.fb_top.proofs.Headline.{text_ends}
use Rattle.fb_top.proofs.tool.run_text.Goals as goal

pub returns-in-Ok-clause-ends : goal.returns-in-Ok-clause-ends
returns-in-Ok-clause-ends g c =
    text_ends c.args.text.now c.in-Ok.image c.in-Ok.ensures.compiled (g.K.Sink.written c.args.out) (g.K.Sink.written c.solo.result.out) (g.K.Sink.faults c.args.out) (g.K.Sink.faults c.solo.result.out) c.solo.result.schedule.items c.solo.result.ending c.solo.ensures.ends
