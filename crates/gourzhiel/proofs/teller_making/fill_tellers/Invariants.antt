use Rattle.std.proofs.Common.{◌≡◌, ◌+◌, ◌++◌, true, map, length, take}
use Rattle.std.specs.List.{All}
use Rattle.gourzhiel.proofs.teller_making.fill_tellers.Given as goal

abbrev pub invariant-loop-teller : goal.invariant-loop-teller
invariant-loop-teller l = record {
  left : l.place + length l.teller-iterator.rest.items ≡ length l.handles;
  full : All (λ h. h.full ≡ true) (take l.place l.handles);
  held : map (λ h. h.held) (take l.place l.handles) ++ map (λ b. b.value) l.teller-iterator.rest.items ≡ map (λ b. b.value) l.fn.tellers.items;
}
