use Rattle.std.proofs.Common.{length}
use Rattle.answer_reasons.proofs.near_names.without_end.Given as goal

abbrev pub decreases-bytes : goal.decreases-bytes
decreases-bytes l = length l.left
