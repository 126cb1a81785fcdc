-- The handle of a leaf: `lend`.
use Rattle.gourzhiel.proofs.Held.{of_leaf, the_leaf}
use Rattle.gourzhiel.proofs.Held.Lend.{lends}
use Rattle.gourzhiel.specs.contracts.handles.GzLeaf.lend.Key.{name as #self}
use Rattle.gourzhiel.proofs.handles.GzLeaf.lend.Statement.{statement}
use Rattle.gourzhiel.proofs.handles.GzLeaf.lend.Code.{unfolded}

pub lend_spec : {M : Type 1} → statement M
lend_spec 𝓤 𝓛 𝓜 𝓡 wired = lends of_leaf the_leaf 𝓤 𝓛 𝓜 𝓡 #self (unfolded 𝓤 𝓛.H 𝓜 𝓡 wired)
