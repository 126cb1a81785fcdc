use Rattle.std.proofs.Common.{rules, ◌≡◌, length, ap, ◌∙◌}
use Rattle.std.specs.Arc.{arc_value}
use Rattle.root_row.specs.Views.{book_of}
use Rattle.managed_table.specs.Shown.{HasLoaded}
use Rattle.managed_table.proofs.Trying.{book_looked}
use Rattle.managed_table.proofs.own_caller.OwnCaller.loaded.Goals as goal

pub returns-clause-shown : goal.returns-clause-shown
returns-clause-shown c =
    book_looked (arc_value c.self.inside.table) c.self.inside.caller _ c.try_book_turn.new.caller c.self.view_is c.self.invariant _ c.try_book_turn.result
    c.args.tries (λ r. HasLoaded r) c.try_book_turn.ensures.turn
    (λ r x y h. (search rules, search rules, λ t e. ap (λ b. length b.order) e ∙ (let told : length (book_of x.view).order ≡ r = search rules in told)))
