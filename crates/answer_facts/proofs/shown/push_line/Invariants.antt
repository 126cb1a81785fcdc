use Rattle.std.proofs.Common.{◌≡◌, ◌++◌, map, take}
use Rattle.answer_facts.specs.Shown.{shown_byte}
use Rattle.answer_facts.proofs.shown.push_line.Given as goal

abbrev pub invariant-loop-byte : goal.invariant-loop-byte
invariant-loop-byte l = l.lines.items ≡ l.initial.lines.items ++ map shown_byte (take l.byte-index l.text)
