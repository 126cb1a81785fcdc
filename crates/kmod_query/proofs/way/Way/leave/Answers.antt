use Rattle.std.proofs.Common.{sym, arith}
use Rattle.std.proofs.lemmas.Grind.{common_steps}
use Rattle.kmod_query.proofs.WayLemmas.{names-pop}
use Rattle.kmod_query.proofs.way.Way.leave.Goals as goal

pub returns : goal.returns
returns c =
    rw (sym c.self.view_is)
    (names-pop c.self.inside.names.keys c.pop.new.self.keys c.pop.result (λ none some. grind (arith, common_steps, none, some, c.pop.ensures.found)) c.pop.ensures.keys)
