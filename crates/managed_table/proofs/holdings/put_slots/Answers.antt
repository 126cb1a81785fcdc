use Rattle.std.proofs.Common.{subst}
use Rattle.managed_table.specs.Kept.{leaf_fits}
use Rattle.managed_table.proofs.Giving.{slots_made, slots_none, slots_rest}
use Rattle.managed_table.proofs.holdings.put_slots.Goals as goal

pub loop-slot-preserved : goal.loop-slot-preserved
loop-slot-preserved c =
    let before = c.loop-slot.invariant in
    let put = c.put_slot.ensures in
    let worker = before.fits.1 in
    record {
      fits = subst (λ w. leaf_fits c.args.row.now w c.put_slot.new.leaf) worker put.fits;
      made = slots_made c.loop-slot.slot c.args.leaf.now c.loop-slot.leaf c.put_slot.new.leaf worker before.made before.none before.rest put.made put.none put.others;
      none = slots_none c.loop-slot.slot c.args.leaf.now c.loop-slot.leaf c.put_slot.new.leaf worker before.made before.none before.rest put.made put.none put.others;
      rest = slots_rest c.loop-slot.slot c.args.leaf.now c.loop-slot.leaf c.put_slot.new.leaf worker before.made before.none before.rest put.made put.none put.others;
    }
