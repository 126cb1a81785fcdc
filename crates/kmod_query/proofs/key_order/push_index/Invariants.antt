use Rattle.std.proofs.Common.{◌≡◌, ◌++◌}
use Rattle.std.specs.List.{AllByRecursion}
use Rattle.kmod_query.specs.KeyOrder.{IsAlike, shown_groups, weights}
use Rattle.kmod_query.specs.Shown.{shown_index}
use Rattle.kmod_query.proofs.key_order.push_index.Given as goal

abbrev pub invariant-groups : goal.invariant-groups
invariant-groups l =
    record {
      shown : l.text.items ++ shown_groups l.groups.items ≡ l.fn.text.items ++ shown_index l.fn.all;
      alike : AllByRecursion IsAlike l.groups.items;
    }

abbrev pub decreases-groups : goal.decreases-groups
decreases-groups l = weights l.groups.items
