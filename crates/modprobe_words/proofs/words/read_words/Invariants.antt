use Rattle.std.proofs.Common.{◌≡◌, ◌++◌, drop}
use Rattle.text_parts.specs.Text.{texts_of}
use Rattle.modprobe_words.specs.Words.{items, items_from, items_of}
use Rattle.modprobe_words.proofs.words.read_words.Given as goal

-- what was read and what is left to read is all
abbrev pub invariant-loop-at : goal.invariant-loop-at
invariant-loop-at l = items_of l.items.items ++ items_from l.waiting (texts_of (drop l.at l.words)) ≡ items (texts_of l.words)
