use Rattle.std.proofs.Common.{◌≡◌, length}
use Rattle.kmod_query.specs.Whole.{holders_of}
use Rattle.kmod_query.proofs.taken.holders_of.Given as goal

abbrev pub invariant-holders : goal.invariant-holders
invariant-holders l = holders_of l.rest l.fn.name ≡ holders_of l.fn.holders l.fn.name

abbrev pub decreases-holders : goal.decreases-holders
decreases-holders l = length l.rest
