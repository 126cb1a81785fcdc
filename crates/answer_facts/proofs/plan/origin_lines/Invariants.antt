use Rattle.std.proofs.Common.{◌≡◌, take}
use Rattle.answer_facts.specs.Plan.{origin_lines}
use Rattle.answer_facts.proofs.plan.origin_lines.Given as goal

abbrev pub invariant-loop-fact : goal.invariant-loop-fact
invariant-loop-fact l = l.lines.items ≡ origin_lines l.origin (take l.fact-index l.facts)
