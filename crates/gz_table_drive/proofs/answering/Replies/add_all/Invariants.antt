use Rattle.std.proofs.Common.{map, take}
use Rattle.gz_table_drive.specs.Answers.{HasMore}
use Rattle.gz_table_drive.proofs.answering.Replies.add_all.Given as goal

abbrev pub invariant-loop-each : goal.invariant-loop-each
invariant-loop-each l = HasMore (map (λ r. r.reply) (take l.each-index l.answered)) l.initial.self l.self
