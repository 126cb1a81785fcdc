use Rattle.std.proofs.Common.{◌<◌, ◌∙◌, arith}
use Rattle.root_row.specs.Views.{count_of}
use Rattle.managed_table.proofs.Giving.{one_less, same_others, put_fits, put_more}
use Rattle.managed_table.proofs.holdings.put_slot.Goals as goal

pub loop-preserved : goal.loop-preserved
loop-preserved c =
    let left = c.loop.invariant.left in
    let more = c.loop-test.true in
    let end = c.held-end.ensures in
    let held : 0 < count_of c.loop.leaf.view c.args.slot = omega arith in
    let less = one_less c.loop.leaf.view c.put.new.self.view c.args.slot _ c.put.ensures.call held in
    record {
      fits = put_fits c.args.row.now c.args.slot c.args.leaf.now c.loop.leaf c.put.new.self c.loop.invariant.fits c.put.ensures.own _ c.put.ensures.call held;
      made = put_more c.args.row.now c.args.slot c.args.leaf.now c.loop.leaf c.put.new.self c.loop.invariant.fits c.put.ensures.own _ c.put.ensures.call held c.loop.counter c.loop.invariant.made;
      left = omega arith;
      others = λ m other. same_others c.loop.leaf.view c.put.new.self.view c.args.slot _ c.put.ensures.call held m other ∙ c.loop.invariant.others m other;
    }
