-- Which atomic steps a call makes.
use Rattle.std.specs.Prelude.{◌≡◌, ℕ, List, [], ◌∷◌, ◌++◌}
use Rattle.root_row.specs.declared.view.AtomicStep.{AtomicStep}
use Rattle.root_row.specs.declared.view.AtomicStep.TheVariants.{Load}

-- one load of the word of m, and no other step: nothing is written that another seat reads
abbrev pub MakesOneLoad : ℕ → List AtomicStep → List AtomicStep → Type 0
MakesOneLoad m old new = (found : ℕ) × (new ≡ old ++ Load m found ∷ [])
