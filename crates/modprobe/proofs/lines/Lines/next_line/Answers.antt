use Rattle.std.proofs.Common.{arith, rules, ◌≡◌, ◌<◌, false, length, refl, sym, ◌∙◌}
use Rattle.std.proofs.KnownBytes.{Keeps-trans}
use Rattle.std.proofs.lemmas.Bool.{true≢false}
use Rattle.std.proofs.lemmas.Grind.{common_steps}
use Rattle.std.specs.Str.Lines.{strip_carriage_return}
use Rattle.modprobe.specs.Lines.{text_left, bytes_left, HasNoFeed}
use Rattle.modprobe.proofs.LeftLemmas.{stopped_at_long_line, gives_line, long_line, last_line, last_long_line, raw_last, gives_cut, last_cut}
use Rattle.modprobe.proofs.lines.Lines.next_line.Goals as goal

pub returns-then-len-gt-LONGEST_LINE-clause-stopped : goal.returns-then-len-gt-LONGEST_LINE-clause-stopped
returns-then-len-gt-LONGEST_LINE-clause-stopped g c =
    let left = bytes_left g.R.Source.remaining in
    let text = text_left g.R.Source.remaining in
    let kept = Keeps-trans (left c.args.self.now) (text c.loop-self.self) (text c.fetch.new.self) c.loop-self.invariant.text c.in_ok-fetch.ensures.fetched.text in
    let too_long : 65535 < length (strip_carriage_return c.take.new.self.line.items) = rw (← c.end_line.ensures.line) (omega arith) in
    let still : c.fetch.new.self.at_end ≡ false = (c.in_ok-fetch.ensures.fetched.some (rw c.if-branch.true refl)).0 in
    stopped_at_long_line g.R.Source.remaining _ _
    (c.loop-self.invariant.paid (c.in_ok-fetch.ensures.fetched.paid still).0).0
    (long_line (left c.args.self.now) (text c.fetch.new.self) (left c.take.new.self) c.take.new.self.line.items kept (c.in_ok-take.ensures.ended (rw c.if-branch-2.true refl)) c.in_ok-take.ensures.no_feed too_long)

pub returns-else-len-gt-LONGEST_LINE-clause-gave : goal.returns-else-len-gt-LONGEST_LINE-clause-gave
returns-else-len-gt-LONGEST_LINE-clause-gave g c =
    let left = bytes_left g.R.Source.remaining in
    let text = text_left g.R.Source.remaining in
    let line = c.take.new.self.line.items in
    let kept = Keeps-trans (left c.args.self.now) (text c.loop-self.self) (text c.fetch.new.self) c.loop-self.invariant.text c.in_ok-fetch.ensures.fetched.text in
    let ended = c.in_ok-take.ensures.ended (rw c.if-branch-2.true refl) in
    let still : c.fetch.new.self.at_end ≡ false = (c.in_ok-fetch.ensures.fetched.some (rw c.if-branch.true refl)).0 in
    λ _. record {
      line = rw (c.end_line.ensures.line, c.end_line.ensures.left.0, c.end_line.ensures.left.1, c.end_line.ensures.source.0)
          (gives_line (left c.args.self.now) (text c.fetch.new.self) (left c.take.new.self) line kept ended c.in_ok-take.ensures.no_feed);
      cut = rw (c.end_line.ensures.cut, c.end_line.ensures.left.0, c.end_line.ensures.left.1, c.end_line.ensures.source.0)
          (gives_cut (left c.args.self.now) (text c.fetch.new.self) (left c.take.new.self) line kept ended c.in_ok-take.ensures.no_feed);
      raw = search rules;
      short = search rules;
      going = (c.loop-self.invariant.paid (c.in_ok-fetch.ensures.fetched.paid still).0).0;
      ended = λ _. c.end_line.ensures.some;
      paid = search rules;
      falls = search rules;
    }

pub returns-then-len-gt-LONGEST_LINE-2-clause-stopped : goal.returns-then-len-gt-LONGEST_LINE-2-clause-stopped
returns-then-len-gt-LONGEST_LINE-2-clause-stopped g c =
    let left = bytes_left g.R.Source.remaining in
    let text = text_left g.R.Source.remaining in
    let s = c.fetch.new.self in
    let fetched = c.in_ok-fetch.ensures.fetched in
    let kept = Keeps-trans (left c.args.self.now) (text c.loop-self.self) (text s) c.loop-self.invariant.text fetched.text in
    let none : HasNoFeed s.line.items = rw fetched.line c.loop-self.invariant.no_feed in
    let some : 0 < length s.line.items = omega arith in
    stopped_at_long_line g.R.Source.remaining _ _
    (c.loop-self.invariant.paid (c.loop-self.invariant.some (rw fetched.line at some))).0
    (last_long_line (left c.args.self.now) (g.R.Source.remaining s.reader.now) s.line.items s.piece s.at_end (fetched.none (rw c.if-branch.false refl)) kept none (omega arith))

pub returns-clause-gave : goal.returns-clause-gave
returns-clause-gave g c =
    let left = bytes_left g.R.Source.remaining in
    let text = text_left g.R.Source.remaining in
    let s = c.fetch.new.self in
    let told = g.R.Source.remaining s.reader.now in
    let fetched = c.in_ok-fetch.ensures.fetched in
    let kept = Keeps-trans (left c.args.self.now) (text c.loop-self.self) (text s) c.loop-self.invariant.text fetched.text in
    let none : HasNoFeed s.line.items = rw fetched.line c.loop-self.invariant.no_feed in
    let ended = fetched.none (rw c.if-branch.false refl) in
    let absent = fetched.ending ∙ c.loop-self.invariant.ending in
    λ there.
    let some : 0 < length s.line.items = grind (arith, common_steps) in
    record {
      line = last_line (left c.args.self.now) told s.line.items s.piece s.at_end ended kept none some;
      cut = last_cut (left c.args.self.now) told s.line.items s.piece s.at_end s.ending ended absent kept none some;
      raw = raw_last (left c.args.self.now) told s.line.items s.piece s.at_end s.ending ended absent kept;
      short = search rules;
      going = (c.loop-self.invariant.paid (c.loop-self.invariant.some (rw fetched.line at some))).0;
      ended = λ still. absurd (true≢false (sym ended ∙ still));
      paid = search rules;
      falls = search rules;
    }
