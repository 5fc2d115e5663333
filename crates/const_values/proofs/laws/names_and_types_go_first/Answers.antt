use Rattle.const_values.proofs.FirstFaults.{fault_told, none_told}
use Rattle.const_values.proofs.laws.names_and_types_go_first.Goals as goal

pub returns : goal.returns
returns c = record {
  first = λ named sized e fault is. fault_told named sized e fault is;
  none = λ named sized e is. none_told named sized e is;
}
