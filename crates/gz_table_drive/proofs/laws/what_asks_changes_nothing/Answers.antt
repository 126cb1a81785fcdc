use Rattle.held_lines.proofs.ReadingLemmas.{reads_only}
use Rattle.gz_table_drive.proofs.laws.what_asks_changes_nothing.Goals as goal

pub returns : goal.returns
returns c = reads_only
