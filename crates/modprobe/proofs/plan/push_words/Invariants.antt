use Rattle.std.proofs.Common.{◌≡◌, ◌++◌, take}
use Rattle.text_parts.specs.Text.{texts_of}
use Rattle.modprobe.specs.Plans.{words_text}
use Rattle.modprobe.proofs.plan.push_words.Given as goal

abbrev pub invariant-loop-word : goal.invariant-loop-word
invariant-loop-word l = l.text.items ≡ l.initial.text.items ++ words_text (texts_of (take l.word-index l.words))
