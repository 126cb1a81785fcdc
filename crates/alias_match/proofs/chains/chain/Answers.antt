use Rattle.std.proofs.Common.{slice_index_or}
use Rattle.alias_match.proofs.Linked.{next_chained, relinked_keys}
use Rattle.alias_match.proofs.chains.chain.Goals as goal

pub returns-clause-chained : goal.returns-clause-chained
returns-clause-chained c = next_chained c.args.buckets.now c.args.entries.now c.args.place c.bucket_of-bucket.result c.requires.chained c.bucket_of-bucket.ensures.bucket c.bucket_of-bucket.ensures.within c.requires.within

pub returns-clause-keys : goal.returns-clause-keys
returns-clause-keys c = relinked_keys c.args.entries.now c.args.place (slice_index_or c.args.buckets.now c.bucket_of-bucket.result 0)
