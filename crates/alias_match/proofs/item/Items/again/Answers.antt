use Rattle.std.proofs.Common.{arith, sym, ◌≤◌, length, rules}
use Rattle.alias_match.proofs.Items.{few_pieces}
use Rattle.alias_match.proofs.item.Items.again.Goals as goal

pub returns-clause-few : goal.returns-clause-few
returns-clause-few c =
    let within : length c.self.inside.text.now ≤ 18446744073709551615 = search rules in
    rw (sym c.self.view_is) (omega (arith, few_pieces c.self.inside.text.now, within))
