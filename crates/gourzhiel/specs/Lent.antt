-- What a full handle ends as that is lent: what it holds is the last value written through the borrow.
use Rattle.std.specs.Prelude.{true, List}
use base.Fml.{Fml}
use Rattle.std.specs.Borrow.{Lends, MutBor}
use Rattle.dep_index.specs.Catalogue.{Description}
use Rattle.root_row.specs.Seats.{Seated}
use Rattle.module_table.specs.contracts.own_leaf.OwnLeaf as OwnLeaf
use Rattle.gourzhiel.specs.declared.handles.GzLeaf.{GzLeaf}
use Rattle.gourzhiel.specs.contracts.handles.GzLeaf as GzLeaf-row
use Rattle.module_table.specs.contracts.own_book.OwnBook as OwnBook
use Rattle.gourzhiel.specs.declared.handles.GzBook.{GzBook}
use Rattle.gourzhiel.specs.contracts.handles.GzBook as GzBook-row
use Rattle.module_table.specs.contracts.own_reader.OwnReader as OwnReader
use Rattle.gourzhiel.specs.declared.handles.GzReader.{GzReader}
use Rattle.gourzhiel.specs.contracts.handles.GzReader as GzReader-row
use Rattle.managed_table.specs.Callers.{CallerIs}
use Rattle.managed_table.specs.contracts.own_caller.OwnCaller as OwnCaller
use Rattle.gourzhiel.specs.declared.handles.GzCaller.{GzCaller}
use Rattle.gourzhiel.specs.contracts.handles.GzCaller as GzCaller-row
use Rattle.managed_table.specs.contracts.teller.Teller as Teller
use Rattle.gourzhiel.specs.declared.handles.GzTeller.{GzTeller}
use Rattle.gourzhiel.specs.contracts.handles.GzTeller as GzTeller-row
use Rattle.dep_index.specs.contracts.catalogue.Catalogue as OwnCatalogue
use Rattle.gourzhiel.specs.declared.handles.GzCatalogue.{GzCatalogue}
use Rattle.gourzhiel.specs.contracts.handles.GzCatalogue as GzCatalogue-row

abbrev pub LeafLent : MutBor GzLeaf → MutBor Seated → Fml
LeafLent h r = Lends GzLeaf-row.the_row OwnLeaf.the_row h r (λ w. record { at = h.now.at; alloc = h.now.alloc; full = true; held = w })

abbrev pub BookLent : MutBor GzBook → MutBor Seated → Fml
BookLent h r = Lends GzBook-row.the_row OwnBook.the_row h r (λ w. record { at = h.now.at; alloc = h.now.alloc; full = true; held = w })

abbrev pub ReaderLent : MutBor GzReader → MutBor Seated → Fml
ReaderLent h r = Lends GzReader-row.the_row OwnReader.the_row h r (λ w. record { at = h.now.at; alloc = h.now.alloc; full = true; held = w })

abbrev pub CatalogueLent : MutBor GzCatalogue → MutBor (List Description) → Fml
CatalogueLent h r = Lends GzCatalogue-row.the_row OwnCatalogue.the_row h r (λ w. record { at = h.now.at; alloc = h.now.alloc; full = true; held = w })

abbrev pub CallerLent : MutBor GzCaller → MutBor CallerIs → Fml
CallerLent h r = Lends GzCaller-row.the_row OwnCaller.the_row h r (λ w. record { at = h.now.at; alloc = h.now.alloc; full = true; held = w })

abbrev pub TellerLent : MutBor GzTeller → MutBor Seated → Fml
TellerLent h r = Lends GzTeller-row.the_row Teller.the_row h r (λ w. record { at = h.now.at; alloc = h.now.alloc; full = true; held = w })
