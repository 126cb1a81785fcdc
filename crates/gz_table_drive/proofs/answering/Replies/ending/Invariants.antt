use Rattle.std.proofs.Common.{◌≡◌, drop}
use Rattle.table_words.specs.Endings.{ending_of_lines}
use Rattle.gz_table_drive.proofs.answering.Replies.ending.Given as goal

abbrev pub invariant-loop-ending : goal.invariant-loop-ending
invariant-loop-ending l = ending_of_lines (drop l.ending-index l.self.endings.items) ≡ ending_of_lines l.self.endings.items
