use Rattle.std.proofs.Common.{◌≡◌, drop, fold}
use Rattle.kmod_query.specs.Objects.{names_of}
use Rattle.kmod_query.specs.Whole.{with_unused}
use Rattle.kmod_query.specs.World.{facts_of}
use Rattle.kmod_query.proofs.taken.push_needs.Given as goal

abbrev pub invariant-needs : goal.invariant-needs
invariant-needs l =
    fold (with_unused (facts_of l.world) l.holders l.by) l.taken.items (names_of (drop l.need-index l.needs))
    ≡ fold (with_unused (facts_of l.world) l.holders l.by) l.initial.taken.items (names_of l.needs)
