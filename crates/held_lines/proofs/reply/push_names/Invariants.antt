use Rattle.std.proofs.Common.{◌≡◌, ◌++◌, take, map}
use Rattle.modprobe.specs.Setup.{name_at}
use Rattle.modprobe.specs.Plans.{words_text}
use Rattle.held_lines.proofs.reply.push_names.Given as goal

abbrev pub invariant-loop-slot : goal.invariant-loop-slot
invariant-loop-slot l = l.text.items ≡ l.initial.text.items ++ words_text (map (name_at l.setup) (take l.slot-index l.slots))
