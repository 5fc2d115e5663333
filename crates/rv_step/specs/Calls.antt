use Rattle.std.specs.Prelude.{◌≡◌, Result, Ok}
use Rattle.fb_base.specs.declared.memory.NoMemory.{NoMemory}
use Rattle.rv_step.specs.declared.stop.Stop.{Stop}
use Rattle.rv_step.specs.declared.stop.Stop.TheVariants as stops
use Rattle.rv_step.specs.declared.plan.Plan.{Plan}
use Rattle.rv_step.specs.declared.plan.Plan.TheVariants.{Value, Load, Store, Jump, Pass, Call, Break}
use Rattle.rv_step.specs.Step.{NoCall}

-- A call is answered exactly where one is planned.
abbrev pub CallsBy : Plan → Result Stop NoMemory → Type 0
CallsBy Call r = r ≡ Ok stops.Call
CallsBy plan r = NoCall r
