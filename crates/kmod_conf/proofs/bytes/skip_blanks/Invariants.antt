use Rattle.std.proofs.Common.{◌≡◌, length}
use Rattle.kmod_conf.specs.Lines.{skip_blanks}
use Rattle.kmod_conf.proofs.bytes.skip_blanks.Given as goal

abbrev pub invariant-loop-byte : goal.invariant-loop-byte
invariant-loop-byte l = skip_blanks l.rest ≡ skip_blanks l.text

abbrev pub decreases-loop-byte : goal.decreases-loop-byte
decreases-loop-byte l = length l.rest
