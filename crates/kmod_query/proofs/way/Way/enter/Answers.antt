use Rattle.std.proofs.Common.{sym, ◌∙◌, ap}
use Rattle.kmod_query.specs.Objects.{names_of}
use Rattle.kmod_query.specs.Removals.{with_name}
use Rattle.kmod_query.proofs.WayLemmas.{names-insert_key}
use Rattle.kmod_query.proofs.way.Way.enter.Goals as goal

pub returns : goal.returns
returns c =
    rw (sym c.self.view_is)
    (ap names_of c.in_ok-insert.ensures.keys ∙ names-insert_key c.self.inside.names.keys c.in_ok-own.own ∙ ap (with_name (names_of c.self.inside.names.keys)) c.in_ok-own.ensures.items)
