use Rattle.std.proofs.Common.{take}
use Rattle.kmod_index.specs.ForProofs.{pointed}
use Rattle.kmod_query.specs.KeyOrder.{ArePartsOf}
use Rattle.kmod_query.proofs.key_order.parts_of.Given as goal

abbrev pub invariant-lines : goal.invariant-lines
invariant-lines l = ArePartsOf (pointed (take l.line-index l.lines)) l.place l.code l.parts
