use Rattle.std.proofs.Common.{◌≡◌, ◌++◌, drop}
use Rattle.text_parts.specs.Text.{texts_of}
use Rattle.modprobe_conf.proofs.entry.own_words.Given as goal

abbrev pub invariant-loop-word : goal.invariant-loop-word
invariant-loop-word l = l.own.items ++ texts_of (drop l.word-index l.words) ≡ texts_of l.words
