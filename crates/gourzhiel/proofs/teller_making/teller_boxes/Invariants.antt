use Rattle.std.proofs.Common.{◌≡◌, ◌++◌, map}
use Rattle.gourzhiel.proofs.teller_making.teller_boxes.Given as goal

abbrev pub invariant-loop-teller : goal.invariant-loop-teller
invariant-loop-teller l = map (λ b. b.value) l.boxes.items ++ l.teller-iterator.rest.items ≡ l.fn.tellers.items
