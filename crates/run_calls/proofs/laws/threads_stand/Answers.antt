use Rattle.run_calls.proofs.Standing.{whole}
use Rattle.run_calls.proofs.laws.threads_stand.Goals as goal

pub returns : goal.returns
returns g c = record {
  stands = λ sys p turns input schedule d states run. (whole sys p turns input schedule d states run).stands;
  states = λ sys p turns input schedule d states run. (whole sys p turns input schedule d states run).number;
}
