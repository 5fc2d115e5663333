use Rattle.std.proofs.Common.{refl}
use Rattle.std.specs.Fmt.{digits}
use Rattle.text_calls.specs.Rows.{str_init, str_drop, str_lit, str_copy, str_cat, str_set, str_left, str_mid, str_space}
use Rattle.run_calls.specs.Table.{applies, cells_accessed}
use Rattle.run_calls.proofs.Comes.{comes}
use Rattle.run_calls.proofs.examples.races.Goals as goal

pub returns : goal.returns
unfolding digits applies cells_accessed str_init str_drop str_lit str_copy str_cat str_set str_left str_mid str_space
returns c = record {
  counted_at_once = comes _ _ _ _ _ _ refl;
  counted_in_turn = comes _ _ _ _ _ _ refl;
  neighbours = comes _ _ _ _ _ _ refl;
  one_byte = comes _ _ _ _ _ _ refl;
  freed_place = comes _ _ _ _ _ _ refl;
  locked = comes _ _ _ _ _ _ refl;
  strings_by_rule_1 = comes _ _ _ _ _ _ refl;
  strings_by_rule_0 = comes _ _ _ _ _ _ refl;
}
