use Rattle.std.proofs.Common.{refl}
use Rattle.managed_table.proofs.Giving.{made_none}
use Rattle.managed_table.proofs.Taking.{as_wide, no_steps, was_given_up}
use Rattle.managed_table.proofs.all_or_none.take_all.Goals as goal

pub loop-place-init : goal.loop-place-init
loop-place-init c = record {
  fits = c.requires.fits;
  made = made_none c.args.leaf.now;
  counts = refl;
  steps = no_steps c.args.leaf.now;
  wide = as_wide c.args.row.now c.args.leaf.now c.requires.fits c.laws.ensures;
}

pub returns-in-Err-clause-given_up : goal.returns-in-Err-clause-given_up
returns-in-Err-clause-given_up c =
    let before = c.loop-place.invariant in
    let why = c.in-Err.ensures in
    was_given_up c.args.wanted.now c.loop-place.place c.args.tries c.in-Err.refusal c.args.leaf.now c.loop-place.leaf c.take_one.new.leaf c.give_back.new.leaf before.counts why.held why.given_up before.steps c.give_back.ensures.steps
