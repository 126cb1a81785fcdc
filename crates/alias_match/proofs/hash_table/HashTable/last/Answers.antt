use Rattle.std.proofs.Common.{length, rules, sym, ap, ◌∙◌, ◌≡◌, ◌<◌}
use Rattle.std.proofs.lemmas.List.{length-map}
use Rattle.alias_match.specs.declared.chains.ChainEntry.{ChainEntry}
use Rattle.alias_match.specs.ForProofs.{last_below, keys_of, bucket_of}
use Rattle.alias_match.proofs.Linked.{end_of_bucket, last_of_bucket}
use Rattle.alias_match.proofs.hash_table.HashTable.last.Goals as goal

pub find_in_chain-requires : goal.find_in_chain-requires
find_in_chain-requires c =
    let size : c.len.result ≡ length c.self.inside.buckets.items = search rules in
    let own : c.bucket_of-bucket.result ≡ bucket_of c.args.key (length c.self.inside.buckets.items) = c.bucket_of-bucket.ensures.bucket ∙ ap (bucket_of c.args.key) size in
    let within : c.bucket_of-bucket.result < length c.self.inside.buckets.items = rw size at c.bucket_of-bucket.ensures.within in
    rw c.deref.ensures.value
    (end_of_bucket c.self.inside.buckets.items c.self.inside.entries.items c.args.key c.bucket_of-bucket.result c.index.result.now c.self.invariant.chained own within c.index.ensures)

pub returns : goal.returns
returns c =
    let size : c.len.result ≡ length c.self.inside.buckets.items = search rules in
    let own : c.bucket_of-bucket.result ≡ bucket_of c.args.key (length c.self.inside.buckets.items) = c.bucket_of-bucket.ensures.bucket ∙ ap (bucket_of c.args.key) size in
    let within : c.bucket_of-bucket.result < length c.self.inside.buckets.items = rw size at c.bucket_of-bucket.ensures.within in
    rw (sym c.self.view_is)
    (rw c.deref.ensures.value at c.find_in_chain.ensures
    ∙ last_of_bucket c.self.inside.buckets.items c.self.inside.entries.items c.args.key c.bucket_of-bucket.result c.index.result.now c.self.invariant.chained own within c.index.ensures
    ∙ ap (last_below c.args.key (keys_of c.self.inside.entries.items)) (sym (length-map c.self.inside.entries.items (λ (x : ChainEntry). x.key))))
