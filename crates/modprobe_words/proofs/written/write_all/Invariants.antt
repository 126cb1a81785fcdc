use Rattle.std.proofs.Common.{◌≤◌, length, take}
use Rattle.std.specs.Io.KnownBytes.{Appends}
use Rattle.modprobe_words.proofs.written.write_all.Given as goal

abbrev pub invariant-loop-turn : goal.invariant-loop-turn
invariant-loop-turn g l = record {
  within : l.done ≤ length l.text;
  begun : Appends (g.O.Write.contents l.initial.output) (g.O.Write.contents l.output) (take l.done l.text);
}
