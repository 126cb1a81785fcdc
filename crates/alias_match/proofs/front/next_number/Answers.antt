use Rattle.std.proofs.Common.{◌∙◌}
use Rattle.alias_match.proofs.FrontLemmas.{next_digit, no_digit}
use Rattle.alias_match.proofs.front.next_number.Goals as goal

pub returns-in-Some : goal.returns-in-Some
returns-in-Some c =
    c.with_digit.ensures
    ∙ next_digit c.args.text.now c.args.count c.in-Some.byte.now c.args.number c.in-Some.ensures.lookup.3.0 (c.in-Some.ensures.lookup.3.1 0) c.requires

pub returns-in-None : goal.returns-in-None
returns-in-None c = no_digit c.args.text.now c.args.count c.args.number c.in-None.ensures.lookup.3 c.requires
