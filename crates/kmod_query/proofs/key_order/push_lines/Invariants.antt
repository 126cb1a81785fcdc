use Rattle.std.proofs.Common.{◌≡◌, ◌++◌, take}
use Rattle.std.specs.List.{flat_map}
use Rattle.kmod_index.specs.ForProofs.{pointed}
use Rattle.kmod_query.specs.Shown.{index_line}
use Rattle.kmod_query.proofs.key_order.push_lines.Given as goal

abbrev pub invariant-lines : goal.invariant-lines
invariant-lines l = l.text.items ≡ l.initial.text.items ++ flat_map index_line (pointed (take l.own-index l.lines))
