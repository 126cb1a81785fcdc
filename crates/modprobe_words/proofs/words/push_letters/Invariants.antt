use Rattle.std.proofs.Common.{◌≡◌, ◌++◌, length}
use Rattle.modprobe_words.specs.Words.{items_of, letters_read}
use Rattle.modprobe_words.proofs.words.push_letters.Given as goal

-- what is there and what the rest says is what was there and what all letters say
abbrev pub invariant-loop-letter : goal.invariant-loop-letter
invariant-loop-letter l = record {
  items : items_of l.items.items ++ (letters_read l.rest).items ≡ items_of l.initial.items.items ++ (letters_read l.letters).items;
  waiting : (letters_read l.rest).waiting ≡ (letters_read l.letters).waiting;
}

abbrev pub decreases-loop-letter : goal.decreases-loop-letter
decreases-loop-letter l = length l.rest
