use Rattle.std.proofs.Common.{◌≡◌, ◌∙◌, sym, subst, replicate}
use Rattle.root_row.specs.World.{place_of}
use Rattle.atomic_table.specs.Table.{opening}
use Rattle.managed_table.specs.declared.rule.Setting.{Setting}
use Rattle.managed_table.specs.Locks.{AreFresh, LocksRule, first_view}
use Rattle.managed_table.proofs.Locking.{opens}
use Rattle.managed_table.proofs.locks.Locks.new.Goals as goal

pub new-requires : goal.new-requires
new-requires g c =
    let setting : Setting = record { row = c.of.result; locks = c.len-locks.result } in
    let words : c.as_slice.result.now ≡ replicate (place_of c.len-locks.result) 0 = c.as_slice.ensures.value ∙ c.in_ok-words.ensures.items_if_clones_equal (λ y e. e) in
    subst (λ l. LocksRule setting.row.value setting.locks g.T.Keyed.by g.T.Keyed.fits g.T.Keyed.shown (opening l c.args.values.items (first_view setting))) (sym words)
    (opens setting g.T.Keyed.by g.T.Keyed.fits g.T.Keyed.shown c.args.values.items (sym c.args.values.ok.0 ∙ sym c.len-locks.ensures)
    (subst (λ r. AreFresh g.T.Keyed.fits g.T.Keyed.shown r c.args.values.items) (sym c.of.ensures) c.requires.fresh))
