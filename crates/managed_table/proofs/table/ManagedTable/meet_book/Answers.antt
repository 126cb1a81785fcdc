use Rattle.std.proofs.Common.{rules}
use Rattle.managed_table.proofs.Telling.{book_met}
use Rattle.managed_table.proofs.table.ManagedTable.meet_book.Goals as goal

pub returns-clause-met : goal.returns-clause-met
returns-clause-met g c = book_met c.args.self.now.row _ _ c.requires.own.3 _ _ _ (λ x y h. search rules) c.book_turn.ensures.turn
