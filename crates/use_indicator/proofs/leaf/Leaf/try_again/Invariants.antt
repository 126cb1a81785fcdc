use Rattle.root_row.specs.StepsMade.{SameView}
use Rattle.use_indicator.specs.Counted.{GivenUp}
use Rattle.use_indicator.proofs.leaf.Leaf.try_again.Given as goal

abbrev pub invariant-loop-tried : goal.invariant-loop-tried
invariant-loop-tried l = record {
  same : SameView l.fn.self l.self;
  steps : GivenUp l._tried l.fn.slot l.fn.self l.self;
}
