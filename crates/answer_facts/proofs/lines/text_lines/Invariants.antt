use Rattle.std.proofs.Common.{◌≡◌, take}
use Rattle.answer_facts.specs.Facts.{text_lines}
use Rattle.answer_facts.proofs.lines.text_lines.Given as goal

abbrev pub invariant-loop-fact : goal.invariant-loop-fact
invariant-loop-fact l = l.lines.items ≡ text_lines (take l.fact-index l.facts)
