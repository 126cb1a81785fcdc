use Rattle.std.proofs.Common.{map, take}
use Rattle.gz_table_drive.specs.Answers.{HasMore}
use Rattle.gz_table_drive.specs.Adopting.{refused_of}
use Rattle.gz_table_drive.proofs.adopting.add_all_refused.Given as goal

abbrev pub invariant-loop-each : goal.invariant-loop-each
invariant-loop-each l = HasMore (refused_of (map (λ r. r.reply) (take l.each-index l.answered))) l.initial.replies l.replies
