use Rattle.std.proofs.Common.{◌≡◌, List, false, None}
use Rattle.text_parts.specs.Text.{Line}
use Rattle.modprobe.specs.Lines.{bytes_left, GivesCuts, AllEnded, IsPaid, SpendsTurns, HasTrueEnd, steps_left}
use Rattle.modprobe.specs.ForProofs.{parts_of}
use Rattle.modprobe.specs.Sections.{no_parts, steps_of, go}
use Rattle.modprobe.proofs.SetupLemmas.{SectionsGoOn}
use Rattle.modprobe.proofs.section.read_texts.Given as goal

-- what is left goes on as the input does, and the lines before it are done
abbrev pub invariant-loop-lines : goal.invariant-loop-lines
invariant-loop-lines g l = record {
  works : g.R.Source.has_failed l.lines.reader.now ≡ false;
  same_reader : l.lines.reader.ghost_name ≡ l.fn.lines.reader.ghost_name;
  paid : IsPaid g.R.Source.remaining l.fn.lines l.lines;
  counted : SpendsTurns g.R.Source.read_count l.fn.lines l.lines;
  end : HasTrueEnd g.R.Source.remaining l.fn.lines → HasTrueEnd g.R.Source.remaining l.lines;
  goes_on : SectionsGoOn (bytes_left g.R.Source.remaining l.fn.lines) (bytes_left g.R.Source.remaining l.lines) l.current (parts_of l.texts);
  done : (done : List Line) × GivesCuts (bytes_left g.R.Source.remaining l.fn.lines) (bytes_left g.R.Source.remaining l.lines) done
      × (steps_of None no_parts done ≡ go l.current (parts_of l.texts)) × (l.lines.at_end ≡ false → AllEnded done);
}

abbrev pub decreases-loop-lines : goal.decreases-loop-lines
decreases-loop-lines g l = steps_left l.lines
