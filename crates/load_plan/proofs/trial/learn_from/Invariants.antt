use Rattle.std.proofs.Common.{◌≡◌, ◌<◌, length, reverse, All}
use Rattle.load_plan.specs.declared.walk.Frame.{Frame}
use Rattle.load_plan.specs.Learnt.{IsWay, StaysKnown}
use Rattle.load_plan.proofs.trial.learn_from.Given as goal

abbrev pub invariant-loop : goal.invariant-loop
invariant-loop l = record {
  inside : l.frame.slot < length l.graph;
  all : All (λ (f : Frame). f.slot < length l.graph) l.way.items;
  way : IsWay l.graph (reverse l.way.items) l.frame.slot;
  long : length l.learnt.verdicts.items ≡ length l.graph;
  known : StaysKnown l.graph l.marks l.initial.learnt l.learnt;
}
