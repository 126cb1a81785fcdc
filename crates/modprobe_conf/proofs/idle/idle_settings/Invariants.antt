use Rattle.std.proofs.Common.{◌≡◌, ◌++◌, length}
use Rattle.alias_match.specs.Idle.{idle_lines}
use Rattle.modprobe_conf.specs.Configuration.{entry_of}
use Rattle.modprobe_conf.specs.Idle.{idle_settings, why_no_entry}
use Rattle.modprobe_conf.proofs.idle.idle_settings.Given as goal

abbrev pub invariant-lines : goal.invariant-lines
invariant-lines l = l.idle.items ++ idle_lines entry_of why_no_entry l.lines ≡ idle_settings l.fn.text

abbrev pub decreases-lines : goal.decreases-lines
decreases-lines l = length l.lines
