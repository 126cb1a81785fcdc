use Rattle.std.proofs.Common.{◌≡◌, drop}
use Rattle.modprobe_words.specs.Variable.{words_of}
use Rattle.modprobe_words.specs.Readings.{whole}
use Rattle.modprobe_words.proofs.variable.variable_words.Given as goal

abbrev pub invariant-loop-byte : goal.invariant-loop-byte
invariant-loop-byte l = whole l.reading (drop l.byte-index l.text) ≡ words_of l.text
