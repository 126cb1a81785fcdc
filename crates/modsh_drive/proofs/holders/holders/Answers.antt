use Rattle.std.proofs.Common.{◌∙◌, ◌∷◌, ◌++◌, [], ℕ, Bool, cond, sym, ap, nat_lt}
use Rattle.std.specs.Global.{Vec}
use Rattle.std.proofs.lemmas.Bool.{lt-ltb, le-ltb}
use Rattle.std.proofs.lemmas.List.{append-nil}
use Rattle.dep_index.specs.Table.{count_of}
use Rattle.modsh_drive.proofs.HolderLemmas.{next_number}
use Rattle.modsh_drive.proofs.holders.holders.Goals.{then-held-gt0+in_ok-push, else-held-gt0}
use Rattle.modsh_drive.proofs.holders.holders.Goals as goal

pub loop-worker-preserved : goal.loop-worker-preserved
loop-worker-preserved g c =
    next_number (λ worker. nat_lt 0 (count_of (g.M.Modules.table c.args.table.now) worker c.args.slot))
    c.loop-worker.found.items c.if-held-gt0.found.items c.loop-worker.worker (nat_lt 0 c.held.result)
    c.loop-worker.invariant (ap (nat_lt 0) c.held.ensures.count)
    (elim c.if-held-gt0.branch [
      | then-held-gt0+in_ok-push w ↦
          ap (λ (v : Vec ℕ). v.items) w.found-is ∙ w.in_ok-push.ensures.items
          ∙ ap (λ (b : Bool). c.loop-worker.found.items ++ cond b (c.loop-worker.worker ∷ []) []) (sym (lt-ltb 0 c.held.result w.if-held-gt0.true))
      | else-held-gt0 w ↦
          ap (λ (v : Vec ℕ). v.items) w.found-is ∙ sym (append-nil c.loop-worker.found.items)
          ∙ ap (λ (b : Bool). c.loop-worker.found.items ++ cond b (c.loop-worker.worker ∷ []) []) (sym (le-ltb 0 c.held.result w.if-held-gt0.false))
    ])
