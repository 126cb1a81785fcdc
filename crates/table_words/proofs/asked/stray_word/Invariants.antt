use Rattle.std.proofs.Common.{◌≡◌, drop}
use Rattle.std.specs.Prelude.{find}
use Rattle.text_parts.specs.Text.{texts_of}
use Rattle.table_words.specs.Asked.{is_stray}
use Rattle.table_words.proofs.asked.stray_word.Given as goal

-- the first such word of all is the first of those that are left
abbrev pub invariant-loop-word : goal.invariant-loop-word
invariant-loop-word l = find is_stray (texts_of (drop l.word-index l.words)) ≡ find is_stray (texts_of l.words)
