-- Notes that only clauses read.
use Rattle.std.specs.Prelude.{List, [], ◌∷◌}
use Rattle.hold_machine.specs.declared.log.Log.{Log, Empty, More'}

-- the values that were noted, the newest first
abbrev pub newest_first : {T : Type 0} → Log T → List T
newest_first Empty = []
newest_first (More' marker earlier last) = last.value ∷ newest_first earlier
