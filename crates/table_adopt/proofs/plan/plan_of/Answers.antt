use Rattle.std.proofs.Common.{ℕ, ◌<◌, List, length, All, sym, subst}
use Rattle.dep_index.specs.Table.{Module}
use Rattle.table_adopt.proofs.SlotLemmas.{all_below}
use Rattle.table_adopt.proofs.plan.plan_of.Goals as goal

pub settled-requires-clause-slots : goal.settled-requires-clause-slots
settled-requires-clause-slots g c =
    let catalogue = c.args.catalogue.now in
    let found = c.in_ok-newest.newest.items in
    let known = subst (λ (slots : List Module). All (λ m. m < length slots) found) c.requires c.in_ok-newest.ensures.slots in
    subst (λ (l : List ℕ). All (λ m. m < length catalogue) l) (sym c.deref.ensures.value) (all_below catalogue found known)

pub returns-clause-slots : goal.returns-clause-slots
returns-clause-slots g c =
    let catalogue = c.args.catalogue.now in
    let found = c.in_ok-newest.newest.items in
    let known = subst (λ (slots : List Module). All (λ m. m < length slots) found) c.requires c.in_ok-newest.ensures.slots in
    subst (λ (l : List ℕ). All (λ m. m < length catalogue) l) c.in_ok-newest.ensures.order (all_below catalogue found known)
