use Rattle.std.proofs.Common.{◌∙◌, ◌++◌, ◌∷◌, [], sym, ap, List, ℕ}
use Rattle.std.proofs.Math.ListN.{set}
use Rattle.std.specs.Global.{Vec}
use Rattle.seq_table.specs.Rows.{rows_of}
use Rattle.seq_table.proofs.Kept.{rows_of-set, get_or-rows_of}
use Rattle.proc_modules.proofs.users.push_user.Goals as goal

pub returns-clause-after : goal.returns-clause-after
returns-clause-after c =
    rows_of-set c.args.rows.now.items c.args.slot _
    ∙ ap (λ (row : List ℕ). set (rows_of c.args.rows.now.items) c.args.slot row)
    (c.in_ok-push.ensures.items
    ∙ ap (λ (v : Vec ℕ). v.items ++ c.args.user ∷ []) c.index_mut-row.ensures.value
    ∙ ap (λ (row : List ℕ). row ++ c.args.user ∷ []) (sym (get_or-rows_of c.args.rows.now.items c.args.slot c.index_mut-row.result.now c.requires)))
