use Rattle.std.proofs.Common.{arith, rules, ◌<◌, ◌+◌, length, inr, refl}
use Rattle.modprobe.proofs.LeftLemmas.{long_taken, ends_line}
use Rattle.modprobe.proofs.lines.Lines.take.Goals as goal

pub returns-then-saturating_add-clause-stopped : goal.returns-then-saturating_add-clause-stopped
returns-then-saturating_add-clause-stopped g c =
    let s = c.args.self.now in
    let part = c.before_feed-count.ensures in
    let long : 65536 < length s.line.items + c.before_feed-count.result.0 = omega arith in
    record {
      why = inr refl;
      long = λ _. long_taken s.line.items s.piece c.before_feed-count.result.0 s.at_end (g.R.Source.remaining s.reader.now) part.within c.requires.going c.requires.line part.no_feed long;
    }

pub returns-clause-ended : goal.returns-clause-ended
returns-clause-ended g c =
    let s = c.args.self.now in
    let count = c.before_feed-count.result.0 in
    let feed = c.before_feed-count.ensures.feed (search rules) in
    λ _. rw (c.in_ok-extend_from_slice.ensures.items, c.unused.ensures.bytes, c.skip-2.ensures, c.skip.ensures) (ends_line s.line.items s.piece count s.at_end (g.R.Source.remaining s.reader.now) c.requires.going feed.0 feed.1)
