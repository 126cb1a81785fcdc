use Rattle.std.proofs.Common.{◌≡◌, ◌++◌, take, drop}
use Rattle.answer_facts.specs.Steps.{first_part}
use Rattle.answer_facts.proofs.step.first_part.Given as goal

abbrev pub invariant-loop-at : goal.invariant-loop-at
invariant-loop-at l = first_part l.text ≡ take l.at l.text ++ first_part (drop l.at l.text)
