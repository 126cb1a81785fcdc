use Rattle.managed_table.proofs.Taking.{back_fits, back_made, back_counts, put_steps}
use Rattle.managed_table.proofs.all_or_none.give_back.Goals as goal

pub loop-back-preserved : goal.loop-back-preserved
loop-back-preserved c =
    let before = c.loop-back.invariant in
    let few = c.requires.count in
    let row = c.args.row.now in
    let wanted = c.args.wanted.now in
    let more = c.loop-back-test.true in
    record {
      fits = back_fits row wanted c.args.count c.loop-back.back more c.requires.inside few c.args.leaf.now c.loop-back.leaf c.put.new.self before.fits c.put.ensures.own _ c.put.ensures.call before.counts c.requires.took;
      made = back_made row wanted c.args.count c.loop-back.back more c.requires.inside few c.args.leaf.now c.loop-back.leaf c.put.new.self before.fits c.put.ensures.own _ c.put.ensures.call before.counts c.requires.took before.made;
      counts = back_counts row wanted c.args.count c.loop-back.back more c.requires.inside few c.args.leaf.now c.loop-back.leaf c.put.new.self before.fits c.put.ensures.own _ c.put.ensures.call before.counts c.requires.took;
      steps = put_steps _ _ c.args.leaf.now c.loop-back.leaf c.put.new.self before.steps c.put.ensures.steps;
    }
