use Rattle.std.proofs.Common.{◌≡◌, ◌++◌, map}
use Rattle.gourzhiel.proofs.making.leaf_boxes.Given as goal

abbrev pub invariant-loop-seat : goal.invariant-loop-seat
invariant-loop-seat l = map (λ b. b.value) l.boxes.items ++ l.seat-iterator.rest.items ≡ l.fn.seats.items
