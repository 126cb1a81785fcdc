use Rattle.std.proofs.Common.{◌≡◌, length}
use Rattle.std.specs.List.{list_any}
use Rattle.kmod_query.specs.Objects.{names_of}
use Rattle.kmod_query.specs.Early.{has_words}
use Rattle.kmod_query.specs.World.{facts_of}
use Rattle.kmod_query.proofs.early.any_has_words.Given as goal

-- those before decide nothing
abbrev pub invariant-names : goal.invariant-names
invariant-names l = list_any (has_words (facts_of l.world)) (names_of l.names) ≡ list_any (has_words (facts_of l.world)) (names_of l.rest)

abbrev pub decreases-names : goal.decreases-names
decreases-names l = length l.rest
