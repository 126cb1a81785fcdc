use Rattle.std.proofs.Common.{◌≡◌, [], fold, take}
use Rattle.kmod_query.specs.Lines.{joined}
use Rattle.kmod_query.proofs.shown.joined_words.Given as goal

abbrev pub invariant-words : goal.invariant-words
invariant-words l = l.text.items ≡ fold joined [] (take l.word-index l.words)
