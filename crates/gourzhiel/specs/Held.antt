-- What a handle owns: a full one what a box of its value owns, an empty one nothing. And the code of that value.
use Rattle.std.specs.Prelude.{Bool, true, false}
use base.Fml.{Fml, ftrue}
use base.Stored.{Coded}
use denote.RattleType.{RattleType}
use denote.RawPtr.{Ptr}
use Rattle.std.specs.Box.Ownership.{box_owns}
use Rattle.std.specs.Global.{Global}
use Rattle.std_heap.specs.contracts.GlobalAllocator.TheImpl.{ghosts}
use Rattle.dep_index.specs.contracts.catalogue.Catalogue as Catalogue
use Rattle.module_table.specs.contracts.own_book.OwnBook as Book
use Rattle.module_table.specs.contracts.own_leaf.OwnLeaf as Leaf
use Rattle.module_table.specs.contracts.own_reader.OwnReader as Reader
use Rattle.managed_table.specs.contracts.own_caller.OwnCaller as Caller
use Rattle.managed_table.specs.contracts.teller.Teller as Teller

abbrev pub held_owns : (R : RattleType) → Bool → Global → Ptr → R.Denot → Fml
held_owns R true alloc at held = box_owns (ghosts.dealloc_token alloc) R at held
held_owns R false alloc at held = ftrue

abbrev pub catalogue_owns : Bool → Global → Ptr → Catalogue.the_row.Denot → Fml
catalogue_owns = held_owns Catalogue.the_row

abbrev pub catalogue_coded : Coded Catalogue.the_row.Denot
catalogue_coded = Catalogue.the_row.coded

abbrev pub book_owns : Bool → Global → Ptr → Book.the_row.Denot → Fml
book_owns = held_owns Book.the_row

abbrev pub book_coded : Coded Book.the_row.Denot
book_coded = Book.the_row.coded

abbrev pub leaf_owns : Bool → Global → Ptr → Leaf.the_row.Denot → Fml
leaf_owns = held_owns Leaf.the_row

abbrev pub leaf_coded : Coded Leaf.the_row.Denot
leaf_coded = Leaf.the_row.coded

abbrev pub reader_owns : Bool → Global → Ptr → Reader.the_row.Denot → Fml
reader_owns = held_owns Reader.the_row

abbrev pub reader_coded : Coded Reader.the_row.Denot
reader_coded = Reader.the_row.coded

abbrev pub caller_owns : Bool → Global → Ptr → Caller.the_row.Denot → Fml
caller_owns = held_owns Caller.the_row

abbrev pub caller_coded : Coded Caller.the_row.Denot
caller_coded = Caller.the_row.coded

abbrev pub teller_owns : Bool → Global → Ptr → Teller.the_row.Denot → Fml
teller_owns = held_owns Teller.the_row

abbrev pub teller_coded : Coded Teller.the_row.Denot
teller_coded = Teller.the_row.coded
