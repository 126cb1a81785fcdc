use Rattle.std.proofs.Common.{◌≡◌, ◌++◌, take}
use Rattle.std.specs.List.{flat_map}
use Rattle.text_parts.specs.Text.{texts_of}
use Rattle.table_words.specs.Lines.{next_word}
use Rattle.table_words.proofs.line.joined.Given as goal

-- the words so far stand behind the first one
abbrev pub invariant-loop-word : goal.invariant-loop-word
invariant-loop-word l = l.line.items ≡ l.initial.line.items ++ flat_map next_word (texts_of (take l.word-index l.later))
