-- The handle of a reader: `lend`.
use Rattle.gourzhiel.proofs.Held.{of_reader, the_reader}
use Rattle.gourzhiel.proofs.Held.Lend.{lends}
use Rattle.gourzhiel.specs.contracts.handles.GzReader.lend.Key.{name as #self}
use Rattle.gourzhiel.proofs.handles.GzReader.lend.Statement.{statement}
use Rattle.gourzhiel.proofs.handles.GzReader.lend.Code.{unfolded}

pub lend_spec : {M : Type 1} → statement M
lend_spec 𝓤 𝓛 𝓜 𝓡 wired = lends of_reader the_reader 𝓤 𝓛 𝓜 𝓡 #self (unfolded 𝓤 𝓛.H 𝓜 𝓡 wired)
