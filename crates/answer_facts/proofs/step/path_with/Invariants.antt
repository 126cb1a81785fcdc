use Rattle.std.proofs.Common.{◌≡◌, [], take, drop}
use Rattle.answer_facts.specs.Steps.{path_with}
use Rattle.answer_facts.proofs.step.path_with.Given as goal

abbrev pub invariant-loop-at : goal.invariant-loop-at
invariant-loop-at l = path_with [] l.text ≡ path_with (take l.at l.text) (drop l.at l.text)
