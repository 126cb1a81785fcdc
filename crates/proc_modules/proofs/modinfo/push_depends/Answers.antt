use Rattle.std.proofs.Common.{◌<◌, List, ℕ, All, length, sym, subst}
use Rattle.proc_modules.proofs.NeedLemmas.{needs_within}
use Rattle.proc_modules.proofs.modinfo.push_depends.Goals as goal

pub push_names-requires : goal.push_names-requires
push_names-requires c =
    subst (λ (needs : List ℕ). All (λ n. n < length c.args.catalogue.now) needs) (sym c.needs.ensures) (needs_within c.args.catalogue.now c.args.slot)
