use Rattle.std.proofs.Common.{◌≡◌, ◌++◌, take}
use Rattle.std.specs.List.{flat_map}
use Rattle.table_setup.specs.Host.{next_word}
use Rattle.table_setup.proofs.host.push_line.Given as goal

-- the words so far stand behind the first one
abbrev pub invariant-loop-other : goal.invariant-loop-other
invariant-loop-other l = l.text.items ≡ l.fn.text.items ++ l.first ++ flat_map next_word (take l.other-index l.others)
