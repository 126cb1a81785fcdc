use Rattle.std.proofs.Common.{◌≡◌, ◌+◌, ◌++◌, true, map, length, take}
use Rattle.std.specs.List.{All}
use Rattle.gourzhiel.proofs.table_calls.fill_leaves.Given as goal

abbrev pub invariant-loop-leaf : goal.invariant-loop-leaf
invariant-loop-leaf l = record {
  left : l.place + length l.leaf-iterator.rest.items ≡ length l.handles;
  full : All (λ h. h.full ≡ true) (take l.place l.handles);
  held : map (λ h. h.held) (take l.place l.handles) ++ map (λ b. b.value) l.leaf-iterator.rest.items ≡ map (λ b. b.value) l.fn.leaves.items;
}
