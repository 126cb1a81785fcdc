use Rattle.std.proofs.Common.{◌≡◌, ◌∙◌}
use Rattle.dep_index.specs.Catalogue.{modules_of}
use Rattle.root_row.specs.Seats.{RowIs}
use Rattle.root_row.specs.Made.{new_book}
use Rattle.gourzhiel.proofs.Tables.{table_of}
use Rattle.gourzhiel.proofs.making.make.Goals as goal

pub returns : goal.returns
returns c =
    let row : RowIs = c.in_ok-row.row in
    let book : c.in_ok-book-2.book.value ≡ new_book row.id row.world = c.in_ok-book-2.ensures.ok ∙ c.new-4.ensures ∙ c.in_ok-book.ensures ∙ c.in_ok-row.ensures.book in
    table_of (modules_of c.args.catalogue.now) c.args.leaves c.args.readers row c.in_ok-row.ensures.world c.in_ok-book-2.book.value _ _ c.in_ok-row.leaf_seats.items c.in_ok-row.read_seats.items
    book c.in_ok-leaves.ensures c.in_ok-readers.ensures c.in_ok-row.ensures.leaves c.in_ok-row.ensures.readers
