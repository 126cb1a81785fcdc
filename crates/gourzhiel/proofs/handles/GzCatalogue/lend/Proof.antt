-- The handle of a catalogue: `lend`.
use Rattle.gourzhiel.proofs.Held.{of_catalogue, the_catalogue}
use Rattle.gourzhiel.proofs.Held.Lend.{lends}
use Rattle.gourzhiel.specs.contracts.handles.GzCatalogue.lend.Key.{name as #self}
use Rattle.gourzhiel.proofs.handles.GzCatalogue.lend.Statement.{statement}
use Rattle.gourzhiel.proofs.handles.GzCatalogue.lend.Code.{unfolded}

pub lend_spec : {M : Type 1} → statement M
lend_spec 𝓤 𝓛 𝓜 𝓡 wired = lends of_catalogue the_catalogue 𝓤 𝓛 𝓜 𝓡 #self (unfolded 𝓤 𝓛.H 𝓜 𝓡 wired)
