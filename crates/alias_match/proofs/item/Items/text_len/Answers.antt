use Rattle.std.proofs.Common.{arith, sym}
use Rattle.alias_match.proofs.Items.{few_pieces}
use Rattle.alias_match.proofs.item.Items.text_len.Goals as goal

pub returns : goal.returns
returns c = rw (sym c.self.view_is) (omega (arith, few_pieces c.self.inside.text.now))
