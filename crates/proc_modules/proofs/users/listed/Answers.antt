use Rattle.std.proofs.Common.{◌∙◌, ◌<◌, List, ℕ, All, length, filter, sym, ap, subst}
use Rattle.dep_index.specs.Table.{needs_slot}
use Rattle.dep_index.specs.Catalogue.{modules_of}
use Rattle.seq_table.specs.Rows.{rows_of}
use Rattle.proc_modules.proofs.ListingLemmas.{all_listed, slots_known, length-rows}
use Rattle.proc_modules.proofs.users.listed.Goals as goal

pub users_by_slot-requires : goal.users_by_slot-requires
users_by_slot-requires g c =
    subst (λ (ms : List ℕ). All (λ slot. slot < length c.args.catalogue.now) ms) (sym c.deref.ensures.value)
    (slots_known c.args.catalogue.now (g.M.Modules.catalogue c.args.table.now) c.in_ok-newest.newest.items c.requires c.in_ok-newest.ensures.slots)

pub returns-clause-users : goal.returns-clause-users
returns-clause-users g c =
    all_listed c.args.catalogue.now (g.M.Modules.table c.args.table.now) c.in_ok-newest.newest.items (rows_of c.in_ok-users.users.items)
    c.in_ok-newest.ensures.order
    (slots_known c.args.catalogue.now (g.M.Modules.catalogue c.args.table.now) c.in_ok-newest.newest.items c.requires c.in_ok-newest.ensures.slots)
    c.in_ok-newest.ensures.few
    (length-rows c.in_ok-users.users.items ∙ c.in_ok-users.ensures.len)
    (λ slot below. c.in_ok-users.ensures.users slot below ∙ ap (filter (needs_slot (modules_of c.args.catalogue.now) slot)) c.deref.ensures.value)
