use Rattle.std.proofs.Common.{refl}
use Rattle.std.specs.Fmt.{digits}
use Rattle.text_calls.specs.Rows.{str_init, str_drop, str_lit, str_copy, str_cat, str_set, str_left, str_mid, str_space}
use Rattle.run_calls.specs.Table.{applies, cells_accessed}
use Rattle.run_calls.proofs.Comes.{comes}
use Rattle.run_calls.proofs.examples.outputs.Goals as goal

pub returns : goal.returns
unfolding digits applies cells_accessed str_init str_drop str_lit str_copy str_cat str_set str_left str_mid str_space
returns c = record {
  line_reader = comes _ _ _ _ _ _ refl;
  temporaries = comes _ _ _ _ _ _ refl;
  items = comes _ _ _ _ _ _ refl;
}
