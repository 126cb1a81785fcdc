use Rattle.std.proofs.Common.{◌∙◌, ◌<◌, ◌∷◌, ◌++◌, [], ℕ, Bool, cond, subst, sym, ap}
use Rattle.std.specs.Global.{Vec}
use Rattle.std.proofs.lemmas.List.{append-nil}
use Rattle.dep_index.specs.Table.{needs_slot}
use Rattle.modsh_drive.proofs.HolderLemmas.{next_element}
use Rattle.modsh_drive.proofs.holders.users.Goals.{then-is_user+in_ok-push, else-is_user}
use Rattle.modsh_drive.proofs.holders.users.Goals as goal

pub loop-place-preserved : goal.loop-place-preserved
loop-place-preserved g c =
    next_element (needs_slot (g.M.Modules.catalogue c.args.table.now) c.args.slot) (g.M.Modules.table c.args.table.now).book.order
    c.loop-place.found.items c.if-is_user.found.items c.loop-place.place c.loaded_at-user.result c.is_user.result
    (subst (λ (n : ℕ). c.loop-place.place < n) c.loaded-place-end.ensures.all c.loop-place-test.true)
    c.loop-place.invariant c.loaded_at-user.ensures.element c.is_user.ensures.needs
    (elim c.if-is_user.branch [
      | then-is_user+in_ok-push w ↦
          ap (λ (v : Vec ℕ). v.items) w.found-is ∙ w.in_ok-push.ensures.items
          ∙ ap (λ (b : Bool). c.loop-place.found.items ++ cond b (c.loaded_at-user.result ∷ []) []) (sym w.if-is_user.true)
      | else-is_user w ↦
          ap (λ (v : Vec ℕ). v.items) w.found-is ∙ sym (append-nil c.loop-place.found.items)
          ∙ ap (λ (b : Bool). c.loop-place.found.items ++ cond b (c.loaded_at-user.result ∷ []) []) (sym w.if-is_user.false)
    ])
