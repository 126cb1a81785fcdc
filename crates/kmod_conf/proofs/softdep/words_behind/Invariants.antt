use Rattle.std.proofs.Common.{◌≡◌, ◌++◌, drop, false}
use Rattle.text_parts.specs.Text.{texts_of}
use Rattle.kmod_conf.specs.Lines.{words_behind}
use Rattle.kmod_conf.proofs.softdep.words_behind.Given as goal

abbrev pub invariant-loop-word : goal.invariant-loop-word
invariant-loop-word l = l.found.items ++ words_behind l.mark l.other l.within (texts_of (drop l.word-index l.words)) ≡ words_behind l.mark l.other false (texts_of l.words)
