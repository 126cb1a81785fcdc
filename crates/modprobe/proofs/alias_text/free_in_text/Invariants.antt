use Rattle.std.proofs.Common.{◌≡◌, [], length}
use Rattle.std.specs.Str.Lines.{lines}
use Rattle.modprobe.specs.AliasText.{targets_in_lines, with_free}
use Rattle.modprobe.proofs.alias_text.free_in_text.Given as goal

abbrev pub invariant-lines : goal.invariant-lines
invariant-lines l = with_free l.configuration l.found.items (targets_in_lines l.lines l.fn.name) ≡ with_free l.configuration [] (targets_in_lines (lines l.fn.text) l.fn.name)

abbrev pub decreases-lines : goal.decreases-lines
decreases-lines l = length l.lines
