use Rattle.std.proofs.Common.{◌≡◌, take}
use Rattle.line_journal.specs.Lines.{bytes_of, open_text}
use Rattle.line_journal.proofs.text.text_at_rest.Given as goal

abbrev pub invariant-loop-line : goal.invariant-loop-line
invariant-loop-line l = l.bytes.items ≡ open_text (take l.line-index (bytes_of l.lines))
