use Rattle.std.proofs.Common.{◌≡◌, drop}
use Rattle.std.specs.List.{list_all}
use Rattle.text_parts.specs.Text.{texts_of}
use Rattle.load_plan.specs.Parameters.{is_valid_word}
use Rattle.load_plan.proofs.parameters.takes_words.Given as goal

abbrev pub invariant-loop-word : goal.invariant-loop-word
invariant-loop-word l = list_all (is_valid_word l.params) (texts_of (drop l.word-index l.words)) ≡ list_all (is_valid_word l.params) (texts_of l.words)
