use Rattle.alias_match.proofs.Linked.{bucket_within}
use Rattle.alias_match.proofs.chains.bucket_of.Goals as goal

pub returns-clause-within : goal.returns-clause-within
returns-clause-within c = bucket_within c.args.key c.args.buckets c.requires
