use Rattle.std.proofs.Common.{◌∙◌}
use Rattle.alias_match.proofs.Listed.{matching_found}
use Rattle.alias_match.proofs.alias_list.AliasList.matching.Goals as goal

pub returns : goal.returns
returns c =
    matching_found c.aliases_at.result c.deref.result.now c.args.self.now c.args.text.now c.deref-2.result.now
    c.aliases_at.ensures (c.deref.ensures.value ∙ c.self.view_is) (c.deref-2.ensures.value ∙ c.in_ok-places.ensures)
