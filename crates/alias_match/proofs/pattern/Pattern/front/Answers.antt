use Rattle.alias_match.proofs.FrontLemmas.{front_of_bytes}
use Rattle.alias_match.proofs.pattern.Pattern.front.Goals as goal

pub returns : goal.returns
returns c = front_of_bytes c.args.self.now c.parts.result.1 c.parts.result.0.now c.of.result c.parts.ensures c.of.ensures.count c.of.ensures.number
