use Rattle.std.proofs.Common.{◌≡◌, length}
use Rattle.alias_match.specs.ForProofs.{IsChained, keys_of}
use Rattle.alias_match.proofs.chains.rehash.Given as goal

abbrev pub invariant-loop-place : goal.invariant-loop-place
invariant-loop-place l = record {
  chained : IsChained l.buckets l.entries l.place;
  keys : keys_of l.entries ≡ keys_of l.initial.entries;
  size : length l.buckets ≡ length l.initial.buckets;
  places : length l.entries ≡ length l.initial.entries;
}
