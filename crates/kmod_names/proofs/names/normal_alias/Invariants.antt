use Rattle.std.proofs.Common.{◌≡◌, length}
use Rattle.kmod_names.specs.Names.{normal_alias, normal_from, put_before}
use Rattle.kmod_names.proofs.names.normal_alias.Given as goal

-- what was read, and then the rest, has the normal form of the whole
abbrev pub invariant-loop-byte : goal.invariant-loop-byte
invariant-loop-byte l = normal_alias l.text ≡ put_before l.normal.items (normal_from l.is_set l.rest)

abbrev pub decreases-loop-byte : goal.decreases-loop-byte
decreases-loop-byte l = length l.rest
