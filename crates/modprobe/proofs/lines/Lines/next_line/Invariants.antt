use Rattle.std.proofs.Common.{◌≡◌, ◌+◌, ◌<◌, ◌≤◌, false, length, vec_len}
use Rattle.std.specs.Io.KnownBytes.{Keeps}
use Rattle.modprobe.specs.Lines.{bytes_left, text_left, HasNoFeed, IsPaid, SpendsTurns, HasTrueEnd, steps_left}
use Rattle.modprobe.specs.declared.lines.Ending.TheVariants.{Absent}
use Rattle.modprobe.proofs.lines.Lines.next_line.Given as goal

-- the line in hand has no end, and it and what is left are what was left
abbrev pub invariant-loop-self : goal.invariant-loop-self
invariant-loop-self g l = record {
  works : g.R.Source.has_failed l.self.reader.now ≡ false;
  same_reader : l.self.reader.ghost_name ≡ l.fn.self.reader.ghost_name;
  no_feed : HasNoFeed l.self.line.items;
  ending : l.self.ending ≡ Absent;
  text : Keeps (bytes_left g.R.Source.remaining l.fn.self) (text_left g.R.Source.remaining l.self);
  some : 0 < length l.self.line.items → l.self.at_end ≡ false;
  paid : IsPaid g.R.Source.remaining l.fn.self l.self;
  counted : SpendsTurns g.R.Source.read_count l.fn.self l.self;
  end : HasTrueEnd g.R.Source.remaining l.fn.self → HasTrueEnd g.R.Source.remaining l.self;
  spent : steps_left l.self + vec_len l.self.line ≤ steps_left l.fn.self;
}

abbrev pub decreases-loop-self : goal.decreases-loop-self
decreases-loop-self g l = steps_left l.self
