use Rattle.std.proofs.Common.{◌≡◌, ◌++◌, length}
use Rattle.text_parts.specs.Text.{words, texts_of}
use Rattle.text_parts.proofs.text.find_words.Given as goal

-- the words that were found, and those of the rest, are those of the line
abbrev pub invariant-loop-end : goal.invariant-loop-end
invariant-loop-end l = texts_of l.found.items ++ words l.rest ≡ words l.line

abbrev pub decreases-loop-end : goal.decreases-loop-end
decreases-loop-end l = length l.rest
