use Rattle.std.proofs.Common.{◌≡◌, ◌++◌, drop}
use Rattle.machine_lint.specs.Options.{option_words}
use Rattle.machine_lint.proofs.OptionLemmas.{words_from}
use Rattle.machine_lint.proofs.options.option_words.Given as goal

-- the words that were found, and those of the part that has begun and of the rest, are those of the text
abbrev pub invariant-loop-byte : goal.invariant-loop-byte
invariant-loop-byte l =
    l.words.items ++ words_from l.is_quoted l.part.items (drop l.byte-index l.text) ≡ option_words l.text
