use Rattle.std.proofs.Common.{length}
use Rattle.modprobe.specs.ForProofs.{parts_of}
use Rattle.modprobe.proofs.WholeLemmas.{GoOnIn}
use Rattle.modprobe.proofs.whole.read_sections.Given as goal

-- what is left goes on as the text does
abbrev pub invariant-loop-first : goal.invariant-loop-first
invariant-loop-first l = GoOnIn l.fn.text l.rest l.current (parts_of l.texts)

abbrev pub decreases-loop-first : goal.decreases-loop-first
decreases-loop-first l = length l.rest
