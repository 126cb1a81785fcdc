-- What was made of the texts of a folder before names are looked up.
use Rattle.std.specs.Prelude.{◌≡◌}
use Rattle.kmod_index.specs.declared.index.Prepared.{Prepared}
use Rattle.kmod_index.specs.declared.index.Prepared.TheVariants.{Lines, Nothing, Tables}
use Rattle.kmod_index.specs.ForProofs.{TabledOf}
use Rattle.kmod_index.specs.Indexes.{Indexes}

-- it is what the texts say, as far as something was made
abbrev pub IsMadeOf : Indexes → Prepared → Type 0
IsMadeOf indexes Nothing = Unit {0}
IsMadeOf indexes (Lines lines) = lines.now ≡ indexes.dependencies
IsMadeOf indexes (Tables tables) = TabledOf tables indexes
