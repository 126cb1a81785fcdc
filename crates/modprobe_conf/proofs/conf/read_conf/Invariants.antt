use Rattle.std.proofs.Common.{◌≡◌, length}
use Rattle.alias_match.specs.Aliases.{entries_of}
use Rattle.modprobe_conf.specs.Configuration.{configuration_of, entry_of}
use Rattle.modprobe_conf.specs.ForProofs.{with_lines}
use Rattle.modprobe_conf.proofs.conf.read_conf.Given as goal

abbrev pub invariant-lines : goal.invariant-lines
invariant-lines l = with_lines l.conf (entries_of entry_of l.lines) ≡ configuration_of l.fn.text

abbrev pub decreases-lines : goal.decreases-lines
decreases-lines l = length l.lines
