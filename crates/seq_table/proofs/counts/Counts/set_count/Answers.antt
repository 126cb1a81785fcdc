use Rattle.std.proofs.Common.{◌<◌, ◌∙◌, sym, ap, subst, List, [], length, get_or, ℕ, arith}
use Rattle.std.proofs.Math.ListN.{set}
use Rattle.std.specs.Global.{Vec}
use Rattle.seq_table.specs.Rows.{rows_of}
use Rattle.seq_table.proofs.Kept.{rows_of-set, get_or-rows_of, length-rows_of}
use Rattle.seq_table.proofs.counts.Counts.set_count.Goals as goal

pub returns : goal.returns
returns c =
    let worker : c.args.worker < length (rows_of c.self.inside.rows.items) = subst (λ (rows : List (List ℕ)). c.args.worker < length rows) (sym c.self.view_is) c.requires.worker in
    let inside : c.args.worker < length c.self.inside.rows.items = omega (arith, worker, length-rows_of c.self.inside.rows.items) in
    rows_of-set c.self.inside.rows.items c.args.worker _
    ∙ ap (λ (row : List ℕ). set (rows_of c.self.inside.rows.items) c.args.worker (set row c.args.slot c.args.count))
    (ap (λ (v : Vec ℕ). v.items) c.index_mut-row.ensures.value
    ∙ sym (get_or-rows_of c.self.inside.rows.items c.args.worker c.index_mut-row.result.now inside))
    ∙ ap (λ (rows : List (List ℕ)). set rows c.args.worker (set (get_or rows c.args.worker []) c.args.slot c.args.count)) c.self.view_is
