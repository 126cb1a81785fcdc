use Rattle.std.proofs.Common.{◌≡◌, ◌++◌, take}
use Rattle.text_parts.specs.Text.{texts_of}
use Rattle.modprobe_words.specs.Variable.{bytes_of}
use Rattle.gz_modprobe_drive.proofs.program.push_words.Given as goal

abbrev pub invariant-loop-word : goal.invariant-loop-word
invariant-loop-word l = texts_of l.all.items ≡ texts_of l.initial.all.items ++ bytes_of (take l.word-index l.words)
