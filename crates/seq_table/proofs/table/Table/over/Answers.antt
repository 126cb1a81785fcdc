use Rattle.seq_table.proofs.Kept.{opening_kept}
use Rattle.seq_table.proofs.table.Table.over.Goals as goal

pub invariant_of-result : goal.invariant_of-result
invariant_of-result c =
    rw (c.in_ok-book.ensures, c.in_ok-counts.ensures, c.len.ensures.result_is) (opening_kept c.args.slots c.args.workers c.len.ensures.bound c.requires)
