use Rattle.std.proofs.Common.{◌≡◌, take}
use Rattle.modprobe_words.specs.Asked.{asked_by, asked_of}
use Rattle.modprobe_words.specs.Words.{items_of}
use Rattle.modprobe_words.proofs.asked.Asked.by.Given as goal

abbrev pub invariant-loop-item : goal.invariant-loop-item
invariant-loop-item l = asked_of l.asked ≡ asked_by (items_of (take l.item-index l.items))
