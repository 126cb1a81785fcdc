-- The handle of a book: `lend`.
use Rattle.gourzhiel.proofs.Held.{of_book, the_book}
use Rattle.gourzhiel.proofs.Held.Lend.{lends}
use Rattle.gourzhiel.specs.contracts.handles.GzBook.lend.Key.{name as #self}
use Rattle.gourzhiel.proofs.handles.GzBook.lend.Statement.{statement}
use Rattle.gourzhiel.proofs.handles.GzBook.lend.Code.{unfolded}

pub lend_spec : {M : Type 1} → statement M
lend_spec 𝓤 𝓛 𝓜 𝓡 wired = lends of_book the_book 𝓤 𝓛 𝓜 𝓡 #self (unfolded 𝓤 𝓛.H 𝓜 𝓡 wired)
