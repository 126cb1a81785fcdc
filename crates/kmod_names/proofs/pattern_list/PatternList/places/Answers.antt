use Rattle.std.proofs.Common.{◌∙◌, ap, slice_get}
use Rattle.std.specs.List.{filter_map}
use Rattle.kmod_names.proofs.FindLemmas.{found_merged}
use Rattle.kmod_names.proofs.pattern_list.PatternList.places.Goals as goal

pub returns : goal.returns
returns c =
    found_merged c.merged.result c.args.self.now c.self.inside.patterns.items c.self.inside.literals c.self.inside.others c.self.inside.other_places.items c.args.text.now c.of.result.now c.deref-3.result.now
    c.merged.ensures c.self.invariant c.of.ensures
    (c.deref-3.ensures.value ∙ c.in_ok-places.ensures ∙ ap (λ l. filter_map (slice_get l) c.deref-2.result.now) c.deref.ensures.value
    ∙ ap (filter_map (slice_get c.self.inside.other_places.items)) (c.deref-2.ensures.value ∙ c.in_ok-others.ensures))
    c.self.view_is
