-- The handle of a caller: `lend`.
use Rattle.gourzhiel.proofs.Held.{of_caller, the_caller}
use Rattle.gourzhiel.proofs.Held.Lend.{lends}
use Rattle.gourzhiel.specs.contracts.handles.GzCaller.lend.Key.{name as #self}
use Rattle.gourzhiel.proofs.handles.GzCaller.lend.Statement.{statement}
use Rattle.gourzhiel.proofs.handles.GzCaller.lend.Code.{unfolded}

pub lend_spec : {M : Type 1} → statement M
lend_spec 𝓤 𝓛 𝓜 𝓡 wired = lends of_caller the_caller 𝓤 𝓛 𝓜 𝓡 #self (unfolded 𝓤 𝓛.H 𝓜 𝓡 wired)
