use Rattle.std.proofs.Common.{◌≡◌, get_or, ap, true, false, sym, ◌∙◌}
use Rattle.std.proofs.lemmas.Option.{slice_get-get_or}
use Rattle.alias_match.specs.Pattern.{is_match}
use Rattle.alias_match.specs.ForProofs.{is_some_match}
use Rattle.alias_match.proofs.Deciding.{decided}
use Rattle.alias_match.proofs.FrontLemmas.{front_few, passed_over}
use Rattle.alias_match.proofs.alias_list.is_match_at.Goals as goal

pub begins_with-requires : goal.begins_with-requires
begins_with-requires c = front_few c.args.fronts.now c.args.entries.now c.args.place _ c.requires.fronts c.requires.within

pub returns-else-begins_with : goal.returns-else-begins_with
returns-else-begins_with c =
    c.if-begins_with.false
    ∙ sym (passed_over c.args.fronts.now c.args.entries.now c.args.text.now c.args.place _ c.requires.fronts c.requires.within (λ e. let no : false ≡ true = c.if-begins_with.ensures.1 e in absurd (cc)))

pub returns-then-begins_with : goal.returns-then-begins_with
returns-then-begins_with c =
    decided c.matches.result _ c.bytes.result.now c.matches.ensures ∙ ap (λ t. is_match (get_or c.args.entries.now c.args.place c.index-entries-place.result).pattern t) c.bytes.ensures
    ∙ ap (λ o. is_some_match o c.args.text.now) (sym (slice_get-get_or c.args.entries.now c.args.place c.index-entries-place.result c.requires.within))
