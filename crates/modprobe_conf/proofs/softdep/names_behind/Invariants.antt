use Rattle.std.proofs.Common.{◌≡◌, ◌++◌, drop, false}
use Rattle.text_parts.specs.Text.{texts_of}
use Rattle.modprobe_conf.specs.Configuration.{softdep_items}
use Rattle.modprobe_conf.proofs.softdep.names_behind.Given as goal

abbrev pub invariant-loop-word : goal.invariant-loop-word
invariant-loop-word l = l.names.items ++ softdep_items l.mark l.other l.within (texts_of (drop l.word-index l.words)) ≡ softdep_items l.mark l.other false (texts_of l.words)
