-- What a book keeps beside its seat.
use Rattle.std.specs.Prelude.{◌≡◌, List, length}
use Rattle.dep_index.specs.Table.{Module, Book}
use Rattle.root_row.specs.declared.view.View.{View}
use Rattle.root_row.specs.Views.{book_of}

-- the book is the view's, over the view's catalogue
pub record IsInStep (book : Book) (catalogue : List Module) (view : View) : Type 0 where
  pub same : book ≡ book_of view
  pub same_catalogue : catalogue ≡ view.world.catalogue
  pub wide : length book.states ≡ length catalogue
