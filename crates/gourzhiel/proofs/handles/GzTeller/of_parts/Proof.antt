-- The handle of a teller: `of_parts`.
use mathlib.Core.Path.{refl}
use Rattle.gourzhiel.proofs.Held.{of_teller, the_teller}
use Rattle.gourzhiel.proofs.Held.Parts.{of_parts}
use Rattle.gourzhiel.specs.contracts.handles.GzTeller.of_parts.Key.{name as #self}
use Rattle.gourzhiel.proofs.handles.GzTeller.of_parts.Statement.{statement}
use Rattle.gourzhiel.proofs.handles.GzTeller.of_parts.Code.{unfolded}

pub of_parts_spec : {M : Type 1} → statement M
of_parts_spec 𝓤 𝓛 𝓜 𝓡 wired = of_parts of_teller the_teller 𝓤 𝓛 𝓜 𝓡 (record { last = λ x. tt; left = λ x f. refl }) #self (unfolded 𝓤 𝓛.H 𝓜 𝓡 wired)
