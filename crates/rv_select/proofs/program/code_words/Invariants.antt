use Rattle.std.proofs.Common.{◌≡◌, ◌++◌, drop}
use Rattle.rv_select.specs.Image.{words_of}
use Rattle.rv_select.proofs.program.code_words.Given as goal

abbrev pub invariant-loop-one : goal.invariant-loop-one
invariant-loop-one l = l.words ++ words_of (drop l.one-index l.code) ≡ words_of l.code
