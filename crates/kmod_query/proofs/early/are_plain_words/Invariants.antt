use Rattle.std.proofs.Common.{◌≡◌, drop}
use Rattle.std.specs.List.{list_all}
use Rattle.text_parts.specs.Text.{texts_of}
use Rattle.kmod_query.specs.Early.{is_plain_word}
use Rattle.kmod_query.proofs.early.are_plain_words.Given as goal

-- those before decide nothing
abbrev pub invariant-words : goal.invariant-words
invariant-words l = list_all is_plain_word (texts_of l.words) ≡ list_all is_plain_word (texts_of (drop l.word-index l.words))
