use Rattle.std.proofs.Common.{◌≡◌, drop}
use Rattle.modprobe_words.specs.Endings.{first_ending}
use Rattle.modprobe_words.specs.Words.{items_of}
use Rattle.modprobe_words.proofs.endings.first_ending.Given as goal

abbrev pub invariant-loop-item : goal.invariant-loop-item
invariant-loop-item l = first_ending (items_of l.items) ≡ first_ending (items_of (drop l.item-index l.items))
