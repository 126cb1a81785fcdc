-- The handle of a teller: `lend`.
use Rattle.gourzhiel.proofs.Held.{of_teller, the_teller}
use Rattle.gourzhiel.proofs.Held.Lend.{lends}
use Rattle.gourzhiel.specs.contracts.handles.GzTeller.lend.Key.{name as #self}
use Rattle.gourzhiel.proofs.handles.GzTeller.lend.Statement.{statement}
use Rattle.gourzhiel.proofs.handles.GzTeller.lend.Code.{unfolded}

pub lend_spec : {M : Type 1} → statement M
lend_spec 𝓤 𝓛 𝓜 𝓡 wired = lends of_teller the_teller 𝓤 𝓛 𝓜 𝓡 #self (unfolded 𝓤 𝓛.H 𝓜 𝓡 wired)
