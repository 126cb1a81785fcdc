use Rattle.std.proofs.Common.{◌≡◌, drop}
use Rattle.std.specs.List.{list_any}
use Rattle.machine_lint.specs.Notes.{is_form_of}
use Rattle.machine_lint.proofs.items.is_among.Given as goal

abbrev pub invariant-loop-item : goal.invariant-loop-item
invariant-loop-item l = list_any (is_form_of l.name) l.items ≡ list_any (is_form_of l.name) (drop l.item-index l.items)
