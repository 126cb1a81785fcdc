use Rattle.std.proofs.Common.{◌≡◌, ◌<◌, fold, length}
use Rattle.table_setup.specs.Sums.{after_byte, sums_of}
use Rattle.table_setup.specs.ForProofs.{sums_in}
use Rattle.table_setup.proofs.sums.adler32.Given as goal

-- the bytes that are left make of the sums so far those of the text
abbrev pub invariant-loop-rest : goal.invariant-loop-rest
invariant-loop-rest l = (fold after_byte (sums_in l.sums) l.rest ≡ sums_of l.text) × (l.sums.low < 65521) × (l.sums.high < 65521)

abbrev pub decreases-loop-rest : goal.decreases-loop-rest
decreases-loop-rest l = length l.rest
