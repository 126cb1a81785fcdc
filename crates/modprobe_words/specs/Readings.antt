-- Serves proofs alone: what was read of a text, and what is left.
use Rattle.std.specs.Prelude.{ℕ, List, ◌++◌}
use Rattle.modprobe_words.specs.declared.variable.Reading.{Reading}
use Rattle.modprobe_words.specs.Variable.{bytes_of, quote_of, words_from}

abbrev pub whole : Reading → List ℕ → List (List ℕ)
whole r rest = bytes_of r.words.items ++ words_from (quote_of r.quote) r.word.items rest
