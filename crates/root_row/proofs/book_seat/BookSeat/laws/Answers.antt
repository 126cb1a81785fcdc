use Rattle.std.proofs.Common.{subst}
use Rattle.root_row.specs.declared.view.Part.TheVariants as part_is
use Rattle.root_row.specs.declared.view.View.{View}
use Rattle.root_row.specs.Seats.{Seated, KnowsTable}
use Rattle.root_row.specs.Views.{book_of}
use Rattle.root_row.proofs.Sound.{knows}
use Rattle.root_row.proofs.book_seat.BookSeat.laws.Goals as goal

pub returns : goal.returns
returns c =
    let v : View = c.self.inside.seat.me.0.view in
    subst (λ (s : Seated). KnowsTable s.view) c.self.view_is (knows c.legal_is_safe.ensures v (part_is.Book (book_of v)) c.self.invariant.0 c.self.invariant.4)
