use Rattle.std.proofs.Common.{rules, ◌≡◌, None}
use Rattle.dep_index.specs.Calls.{book_refusal}
use Rattle.dep_index.specs.declared.table.calls.Call.TheVariants.{BeginLoad}
use Rattle.module_table.proofs.Room.{load_has_room}
use Rattle.module_table.proofs.book.Book.begin_load.Goals as goal

pub enter-requires-clause-room : goal.enter-requires-clause-room
enter-requires-clause-room c =
    let allowed : book_refusal c.self.inside.catalogue c.self.inside.book (BeginLoad c.args.slot) ≡ None = search rules in
    load_has_room c.args.slot c.look_book.result c.self.inside.catalogue c.self.inside.book c.self.inside.seat.view c.look_book.new.seat.view
    c.self.invariant c.look_book.ensures.point allowed c.look_book.ensures.exact
