use Rattle.std.proofs.Common.{◌≡◌, drop}
use Rattle.std.specs.List.{list_all}
use Rattle.text_parts.specs.Text.{texts_of}
use Rattle.kmod_query.specs.Early.{is_early_word}
use Rattle.kmod_query.specs.World.{facts_of}
use Rattle.kmod_query.proofs.early.are_early_words.Given as goal

-- those before decide nothing
abbrev pub invariant-words : goal.invariant-words
invariant-words l = list_all (is_early_word (facts_of l.world)) (texts_of l.words) ≡ list_all (is_early_word (facts_of l.world)) (texts_of (drop l.word-index l.words))
