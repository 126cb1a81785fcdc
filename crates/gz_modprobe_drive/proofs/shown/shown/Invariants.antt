use Rattle.std.proofs.Common.{◌≡◌, map, take}
use Rattle.answer_facts.specs.Shown.{shown_byte}
use Rattle.gz_modprobe_drive.proofs.shown.shown.Given as goal

abbrev pub invariant-loop-byte : goal.invariant-loop-byte
invariant-loop-byte l = l.own.items ≡ map shown_byte (take l.byte-index l.text)
