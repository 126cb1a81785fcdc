use Rattle.std.proofs.Common.{arith, eqb, w8}
use Rattle.std.proofs.lemmas.Simd.{bitmask_splat, length-chunk}
use Rattle.kmod_index.proofs.FeedLemmas.{near_feed_at, no_near_feed}
use Rattle.kmod_index.proofs.alias_scan.near_feed.Goals as goal

pub returns-then-feeds-eq0 : goal.returns-then-feeds-eq0
returns-then-feeds-eq0 c =
    let text = c.args.text.now in
    no_near_feed text _ c.requires (bitmask_splat w8 eqb _ 64 10 (length-chunk 0 64 text c.requires) (omega arith)) c.if-feeds-eq0.true

pub returns : goal.returns
returns c =
    let text = c.args.text.now in
    near_feed_at text _ c.requires (bitmask_splat w8 eqb _ 64 10 (length-chunk 0 64 text c.requires) (omega arith)) c.if-feeds-eq0.false
