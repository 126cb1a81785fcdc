use Rattle.std.proofs.Common.{◌≡◌, take}
use Rattle.text_parts.specs.Text.{texts_of}
use Rattle.kmod_conf.proofs.softdep.own_texts.Given as goal

abbrev pub invariant-loop-word : goal.invariant-loop-word
invariant-loop-word l = l.texts.items ≡ texts_of (take l.word-index l.words)
