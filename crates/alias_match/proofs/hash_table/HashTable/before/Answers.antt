use Rattle.std.proofs.Common.{Some, slice_get, subst, sym, ◌∙◌, ◌≡◌}
use Rattle.alias_match.proofs.Linked.{before_entry, end_of_entry}
use Rattle.alias_match.proofs.hash_table.HashTable.before.Goals as goal

pub find_in_chain-requires : goal.find_in_chain-requires
find_in_chain-requires c =
    rw c.deref.ensures.value
    (end_of_entry c.self.inside.buckets.items c.self.inside.entries.items c.args.key c.args.place c.index.result.now c.self.invariant.chained
    (subst (λ numbers. slice_get numbers c.args.place ≡ Some c.args.key) (sym c.self.view_is) c.requires)
    c.index.ensures)

pub returns : goal.returns
returns c =
    rw (sym c.self.view_is)
    (rw c.deref.ensures.value at c.find_in_chain.ensures
    ∙ before_entry c.self.inside.buckets.items c.self.inside.entries.items c.args.key c.args.place c.index.result.now c.self.invariant.chained
    (subst (λ numbers. slice_get numbers c.args.place ≡ Some c.args.key) (sym c.self.view_is) c.requires)
    c.index.ensures)
