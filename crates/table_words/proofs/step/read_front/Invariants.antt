use Rattle.std.proofs.Common.{◌≡◌, drop}
use Rattle.text_parts.specs.Text.{texts_of}
use Rattle.table_words.specs.Options.{front, front_from, options_of}
use Rattle.table_words.proofs.step.read_front.Given as goal

-- what is left to read, behind what was read, says what all words say
abbrev pub invariant-loop-at : goal.invariant-loop-at
invariant-loop-at l = front_from l.creates (options_of l.options) l.waiting (texts_of (drop l.at l.words)) ≡ front l.creates (options_of l.fn.options) (texts_of l.words)
