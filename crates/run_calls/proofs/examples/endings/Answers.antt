use Rattle.std.proofs.Common.{refl}
use Rattle.std.specs.Fmt.{digits}
use Rattle.text_calls.specs.Rows.{str_init, str_drop, str_lit, str_copy, str_cat, str_set, str_left, str_mid, str_space}
use Rattle.run_calls.specs.Table.{applies, cells_accessed}
use Rattle.run_calls.proofs.Comes.{comes}
use Rattle.run_calls.proofs.examples.endings.Goals as goal

pub returns : goal.returns
unfolding digits applies cells_accessed str_init str_drop str_lit str_copy str_cat str_set str_left str_mid str_space
returns c = record {
  lone_waiter = comes _ _ _ _ _ _ refl;
  in_a_circle = comes _ _ _ _ _ _ refl;
  ended_alone = comes _ _ _ _ _ _ refl;
  not_held = comes _ _ _ _ _ _ refl;
  double_delete = comes _ _ _ _ _ _ refl;
  dangling = comes _ _ _ _ _ _ refl;
  most_bytes = comes _ _ _ _ _ _ refl;
  too_many_bytes = comes _ _ _ _ _ _ refl;
  too_long = comes _ _ _ _ _ _ refl;
}
