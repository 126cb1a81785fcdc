use Rattle.std.proofs.Common.{◌≡◌, take}
use Rattle.text_parts.specs.Text.{texts_of}
use Rattle.line_journal.specs.Lines.{bytes_of}
use Rattle.gz_table_drive.proofs.program.slices.Given as goal

abbrev pub invariant-loop-word : goal.invariant-loop-word
invariant-loop-word l = texts_of l.slices.items ≡ bytes_of (take l.word-index l.words)
