use Rattle.std.proofs.Common.{◌∙◌, sym, ap, map}
use Rattle.kmod_query.specs.States.{with_status}
use Rattle.kmod_query.proofs.KnownLemmas.{pair_of, with_status-pairs}
use Rattle.kmod_query.proofs.states.States.set.Goals as goal

pub returns : goal.returns
returns c =
    rw (sym c.self.view_is)
    (ap (λ l. map pair_of l) c.in_ok-insert.ensures.entries ∙ with_status-pairs c.self.inside.modules.entries c.in_ok-key.key c.args.status ∙ ap (λ n. with_status (map pair_of c.self.inside.modules.entries) n c.args.status) c.in_ok-key.ensures.items)
