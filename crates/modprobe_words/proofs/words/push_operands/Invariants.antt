use Rattle.std.proofs.Common.{◌≡◌, ◌++◌, map, take}
use Rattle.text_parts.specs.Text.{texts_of}
use Rattle.modprobe_words.specs.Words.{items_of, operand}
use Rattle.modprobe_words.proofs.words.push_operands.Given as goal

abbrev pub invariant-loop-word : goal.invariant-loop-word
invariant-loop-word l =
    items_of l.items.items ≡ items_of l.initial.items.items ++ map operand (texts_of (take l.word-index l.words))
