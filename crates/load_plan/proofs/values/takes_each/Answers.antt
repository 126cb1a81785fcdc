use Rattle.std.proofs.Common.{rules}
use Rattle.std.proofs.lemmas.Iterator.Search.{all_from_yields_List}
use Rattle.std.proofs.lemmas.Iterator.Splits.{YieldsList-from_slice_split}
use Rattle.load_plan.specs.Parameters.{takes_one, is_comma}
use Rattle.load_plan.proofs.values.takes_each.Goals as goal

pub returns : goal.returns
returns c =
    all_from_yields_List (takes_one c.args.scalar) _ _ _ c.all.ensures.ran
    (YieldsList-from_slice_split _ is_comma c.args.values.now c.split.ensures.rest c.split.ensures.done c.split.ensures.closure (λ x b q k. search rules))
    (λ x b q k. search rules)
