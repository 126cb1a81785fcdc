use Rattle.std.proofs.Common.{rules, ◌≡◌, ◌<◌, ◌≤◌, length, get_or, MatchOption, sym, subst}
use Rattle.std.specs.Arc.{arc_value}
use Rattle.root_row.specs.Views.{book_of}
use Rattle.managed_table.specs.Owned.{Has}
use Rattle.managed_table.proofs.Trying.{book_looked}
use Rattle.managed_table.proofs.own_caller.OwnCaller.loaded_at.Goals as goal

pub returns-clause-shown : goal.returns-clause-shown
returns-clause-shown c =
    book_looked (arc_value c.self.inside.table) c.self.inside.caller _ c.try_book_turn.new.caller c.self.view_is c.self.invariant _ c.try_book_turn.result
    c.args.tries (λ r. Has c.args.place r) c.try_book_turn.ensures.turn
    (λ r x y h. (
      search rules,
      search rules,
      λ t e.
          let told : MatchOption r (length (book_of x.view).order ≤ c.args.place) (λ slot. (c.args.place < length (book_of x.view).order) × (get_or (book_of x.view).order c.args.place 0 ≡ slot)) = search rules in
          subst (λ b. MatchOption r (length b.order ≤ c.args.place) (λ slot. (c.args.place < length b.order) × (get_or b.order c.args.place 0 ≡ slot))) (sym e) told,
    ))
