use Rattle.std.proofs.Common.{rules, ◌≡◌, length, ◌∙◌}
use Rattle.alias_match.proofs.Linked.{appended_chained}
use Rattle.alias_match.proofs.hash_table.HashTable.add.Goals as goal

pub chain-requires-clause-chained : goal.chain-requires-clause-chained
chain-requires-clause-chained c =
    let all : c.len-place.result ≡ length c.self.inside.entries.items = search rules in
    appended_chained c.self.inside.buckets.items c.deref_mut.result.now c.self.inside.entries.items c.deref_mut-then-place-len.result.now (record { key = c.args.key; before = 0 }) c.len-place.result
    (rw all c.self.invariant.chained) all c.deref_mut.ensures.value (c.deref_mut-then-place-len.ensures.value ∙ c.in_ok-push.ensures.items)
