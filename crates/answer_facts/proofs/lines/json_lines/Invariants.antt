use Rattle.std.proofs.Common.{◌≡◌, take}
use Rattle.answer_facts.specs.Facts.{json_lines}
use Rattle.answer_facts.proofs.lines.json_lines.Given as goal

abbrev pub invariant-loop-fact : goal.invariant-loop-fact
invariant-loop-fact l = l.lines.items ≡ json_lines (take l.fact-index l.facts)
