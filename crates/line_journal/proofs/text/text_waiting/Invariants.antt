use Rattle.std.proofs.Common.{◌≡◌, [], ◌∷◌, take}
use Rattle.line_journal.specs.Lines.{bytes_of, with_gates}
use Rattle.line_journal.proofs.text.text_waiting.Given as goal

abbrev pub invariant-loop-line : goal.invariant-loop-line
invariant-loop-line l = 32 ∷ l.bytes.items ≡ with_gates [] (take l.line-index (bytes_of l.lines))
