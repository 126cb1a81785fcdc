use Rattle.std.proofs.Common.{◌≡◌, ◌<◌, ◌+◌, ◌*◌, ◌%◌, fold, take}
use Rattle.table_setup.specs.Sums.{after_byte}
use Rattle.table_setup.specs.ForProofs.{sums_in}
use Rattle.table_setup.proofs.sums.after_block.Given as goal

-- the sums so far, which are small yet
abbrev pub invariant-loop-byte : goal.invariant-loop-byte
invariant-loop-byte l =
    (record { low = l.low % 65521; high = l.high % 65521 } ≡ fold after_byte (sums_in l.fn.sums) (take l.byte-index l.block))
    × (l.low < 65521 + 255 * l.byte-index) × (l.high < 65521 + 1110000 * l.byte-index)
