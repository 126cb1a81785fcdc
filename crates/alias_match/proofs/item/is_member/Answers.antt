use Rattle.std.proofs.Common.{◌≡◌, true, false, sym, ◌∙◌, rules}
use Rattle.alias_match.specs.Pattern.{in_range}
use Rattle.alias_match.specs.Reading.{closes}
use Rattle.alias_match.proofs.Sets.{goes_on, hits}
use Rattle.alias_match.proofs.item.is_member.Goals as goal

pub returns-then-contains : goal.returns-then-contains
returns-then-contains c =
    let hit : in_range c.args.byte c.in-Ok.range ≡ true = search rules in
    sym (hits c.args.byte c.members.invariant.set c.in-Some.ensures.cases.0 c.in-Ok.ensures.value hit) ∙ c.members.invariant.said

pub members-preserved : goal.members-preserved
members-preserved c =
    let missed : in_range c.args.byte c.in-Ok.range ≡ false = search rules in
    let unended : closes c.in-Ok.after.now ≡ false = search rules in
    let on = goes_on c.args.byte c.members.invariant.set c.in-Some.ensures.cases.0 c.in-Ok.ensures.value missed unended in
    record { said = sym on.0 ∙ c.members.invariant.said; set = on.1 }
