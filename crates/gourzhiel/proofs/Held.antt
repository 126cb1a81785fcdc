-- The handles, each over its box, and the proofs that they share.
use mathlib.Core.Path.{refl, ap}
use mathlib.Core.Bool.{Bool, true}
use mathlib.Core.List.{[]}
use mir.Syntax.{impl, tnil, dnil}
use denote.RattleType.{RattleType}
use denote.Param.Laws.{Laws}
use Rattle.std_alloc.proofs.BoxSteps.Form.{Bx}
use Rattle.std_heap.specs.contracts.Global as Heap
use Rattle.std_heap.specs.contracts.GlobalAllocator.TheImpl.{ghosts, dict}
use Rattle.std_heap.proofs.Global.TheLaws as heap
use Rattle.dep_index.specs.contracts.catalogue.Catalogue as Catalogue
use Rattle.dep_index.proofs.catalogue.Catalogue.TheLaws as catalogue
use Rattle.gourzhiel.specs.contracts.handles.GzCatalogue as GzCatalogue
use Rattle.module_table.specs.contracts.own_book.OwnBook as Book
use Rattle.module_table.proofs.own_book.OwnBook.TheLaws as book
use Rattle.gourzhiel.specs.contracts.handles.GzBook as GzBook
use Rattle.module_table.specs.contracts.own_leaf.OwnLeaf as Leaf
use Rattle.module_table.proofs.own_leaf.OwnLeaf.TheLaws as leaf
use Rattle.gourzhiel.specs.contracts.handles.GzLeaf as GzLeaf
use Rattle.module_table.specs.contracts.own_reader.OwnReader as Reader
use Rattle.module_table.proofs.own_reader.OwnReader.TheLaws as reader
use Rattle.gourzhiel.specs.contracts.handles.GzReader as GzReader
use Rattle.managed_table.specs.contracts.own_caller.OwnCaller as Caller
use Rattle.managed_table.proofs.own_caller.OwnCaller.TheLaws as caller
use Rattle.gourzhiel.specs.contracts.handles.GzCaller as GzCaller
use Rattle.managed_table.specs.contracts.teller.Teller as Teller
use Rattle.managed_table.proofs.teller.Teller.TheLaws as teller
use Rattle.gourzhiel.specs.contracts.handles.GzTeller as GzTeller
use Rattle.gourzhiel.proofs.Held.Form.{Handle}
pub mod Form
pub mod Lend
pub mod Parts
pub mod Sends

abbrev boxed : (R : RattleType) → Laws R → Bx
boxed R laws = record { row = R; laws = laws; al = record { row = Heap.the_row; laws = heap.the_row_laws; g = ghosts; d = dict; drops = impl [] tnil dnil } }

abbrev pub of_catalogue : Bx
of_catalogue = boxed Catalogue.the_row catalogue.the_row_laws

abbrev pub the_catalogue : Handle of_catalogue
the_catalogue = record {
  name = GzCatalogue.the_type.name;
  base = GzCatalogue.the_row;
  is_full = λ h. h.full;
  box = λ h. record { ptr = h.at; alloc = h.alloc; value = h.held };
  full_of = λ d. record { at = d.ptr; alloc = d.alloc; full = true; held = d.value };
  filled = λ d. (refl, refl);
  full = λ h. ap (λ (x : Bool). record { at = h.at; alloc = h.alloc; full = x; held = h.held });
  owns = λ d vs. refl;
}

abbrev pub of_book : Bx
of_book = boxed Book.the_row book.the_row_laws

abbrev pub the_book : Handle of_book
the_book = record {
  name = GzBook.the_type.name;
  base = GzBook.the_row;
  is_full = λ h. h.full;
  box = λ h. record { ptr = h.at; alloc = h.alloc; value = h.held };
  full_of = λ d. record { at = d.ptr; alloc = d.alloc; full = true; held = d.value };
  filled = λ d. (refl, refl);
  full = λ h. ap (λ (x : Bool). record { at = h.at; alloc = h.alloc; full = x; held = h.held });
  owns = λ d vs. refl;
}

abbrev pub of_leaf : Bx
of_leaf = boxed Leaf.the_row leaf.the_row_laws

abbrev pub the_leaf : Handle of_leaf
the_leaf = record {
  name = GzLeaf.the_type.name;
  base = GzLeaf.the_row;
  is_full = λ h. h.full;
  box = λ h. record { ptr = h.at; alloc = h.alloc; value = h.held };
  full_of = λ d. record { at = d.ptr; alloc = d.alloc; full = true; held = d.value };
  filled = λ d. (refl, refl);
  full = λ h. ap (λ (x : Bool). record { at = h.at; alloc = h.alloc; full = x; held = h.held });
  owns = λ d vs. refl;
}

abbrev pub of_reader : Bx
of_reader = boxed Reader.the_row reader.the_row_laws

abbrev pub the_reader : Handle of_reader
the_reader = record {
  name = GzReader.the_type.name;
  base = GzReader.the_row;
  is_full = λ h. h.full;
  box = λ h. record { ptr = h.at; alloc = h.alloc; value = h.held };
  full_of = λ d. record { at = d.ptr; alloc = d.alloc; full = true; held = d.value };
  filled = λ d. (refl, refl);
  full = λ h. ap (λ (x : Bool). record { at = h.at; alloc = h.alloc; full = x; held = h.held });
  owns = λ d vs. refl;
}

abbrev pub of_caller : Bx
of_caller = boxed Caller.the_row caller.the_row_laws

abbrev pub the_caller : Handle of_caller
the_caller = record {
  name = GzCaller.the_type.name;
  base = GzCaller.the_row;
  is_full = λ h. h.full;
  box = λ h. record { ptr = h.at; alloc = h.alloc; value = h.held };
  full_of = λ d. record { at = d.ptr; alloc = d.alloc; full = true; held = d.value };
  filled = λ d. (refl, refl);
  full = λ h. ap (λ (x : Bool). record { at = h.at; alloc = h.alloc; full = x; held = h.held });
  owns = λ d vs. refl;
}

abbrev pub of_teller : Bx
of_teller = boxed Teller.the_row teller.the_row_laws

abbrev pub the_teller : Handle of_teller
the_teller = record {
  name = GzTeller.the_type.name;
  base = GzTeller.the_row;
  is_full = λ h. h.full;
  box = λ h. record { ptr = h.at; alloc = h.alloc; value = h.held };
  full_of = λ d. record { at = d.ptr; alloc = d.alloc; full = true; held = d.value };
  filled = λ d. (refl, refl);
  full = λ h. ap (λ (x : Bool). record { at = h.at; alloc = h.alloc; full = x; held = h.held });
  owns = λ d vs. refl;
}
