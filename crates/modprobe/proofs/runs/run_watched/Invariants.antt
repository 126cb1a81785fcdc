use Rattle.std.proofs.Common.{◌≡◌, ◌-◌, ◌^◌, List, false}
use Rattle.std.specs.Prelude.{min}
use Rattle.text_parts.specs.Text.{Line}
use Rattle.modprobe.specs.Lines.{bytes_left, AllEnded, IsPaid, SpendsTurns, HasTrueEnd, steps_left, texts}
use Rattle.modprobe.specs.Session.{error_count}
use Rattle.modprobe.specs.Run.{Answered}
use Rattle.modprobe.proofs.runs.run_watched.Given as goal

-- some lines were answered, and what is left are the others
abbrev pub invariant-loop-watch : goal.invariant-loop-watch
invariant-loop-watch g l = record {
  reader_works : g.R.Source.has_failed l.lines.reader.now ≡ false;
  writer_works : g.W.Sink.has_failed l.writer ≡ false;
  same_reader : l.lines.reader.ghost_name ≡ l.fn.lines.reader.ghost_name;
  same_setup : l.session.setup ≡ l.initial.session.setup;
  same_table : l.session.table.ghost_name ≡ l.initial.session.table.ghost_name;
  paid : IsPaid g.R.Source.remaining l.fn.lines l.lines;
  counted : SpendsTurns g.R.Source.read_count l.fn.lines l.lines;
  end : HasTrueEnd g.R.Source.remaining l.fn.lines → HasTrueEnd g.R.Source.remaining l.lines;
  answered : (done : List Line) × Answered l.session.setup.now (g.M.Modules.table l.fn.table) (bytes_left g.R.Source.remaining l.fn.lines) (bytes_left g.R.Source.remaining l.lines)
      (g.W.Sink.contents l.fn.writer) (g.W.Sink.contents l.writer) (g.M.Modules.table l.session.table.now) done
      × (l.lines.at_end ≡ false → AllEnded done)
      × (l.errors ≡ min (error_count l.session.setup.now (g.M.Modules.table l.fn.table) (texts done)) (2 ^ 64 - 1));
}

abbrev pub decreases-loop-watch : goal.decreases-loop-watch
decreases-loop-watch g l = steps_left l.lines
