use Rattle.std.proofs.Common.{◌∙◌, ap, slice_get}
use Rattle.kmod_names.specs.Patterns.{matches_pattern}
use Rattle.kmod_names.proofs.PlaceLemmas.{first_place}
use Rattle.kmod_names.proofs.pattern_list.PatternList.first.Goals as goal

pub returns : goal.returns
returns c =
    c.copied.ensures ∙ c.first.ensures.value ∙ ap (λ l. slice_get l 0) (c.deref.ensures.value ∙ c.in_ok-places.ensures)
    ∙ first_place (λ pattern. matches_pattern pattern c.args.text.now) 0 c.args.self.now
