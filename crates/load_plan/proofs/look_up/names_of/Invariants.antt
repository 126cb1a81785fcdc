use Rattle.std.proofs.Common.{◌≡◌, [], drop, map}
use Rattle.text_parts.specs.Text.{texts_of}
use Rattle.load_plan.specs.LookUp.{with_names}
use Rattle.load_plan.proofs.look_up.names_of.Given as goal

abbrev pub invariant-loop-alias : goal.invariant-loop-alias
invariant-loop-alias l = record {
  left : with_names l.names.items (map (λ alias. alias.now.target) (drop l.alias-index l.aliases)) ≡ with_names [] (map (λ alias. alias.now.target) l.aliases);
  seen : texts_of l.seen.keys ≡ l.names.items;
}
