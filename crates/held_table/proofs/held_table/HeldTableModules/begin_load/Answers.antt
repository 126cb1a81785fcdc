use Rattle.std.proofs.Common.{rules, ◌≡◌, None}
use Rattle.dep_index.specs.declared.table.calls.Call.TheVariants.{BeginLoad}
use Rattle.dep_index.specs.Calls.{book_refusal}
use Rattle.dep_index.proofs.Room.{load_has_room}
use Rattle.held_table.proofs.KeptLemmas.{kept_after}
use Rattle.held_table.proofs.held_table.HeldTableModules.begin_load.Goals as goal

pub enter-requires-clause-room : goal.enter-requires-clause-room
enter-requires-clause-room c =
    let allowed : book_refusal c.self.inside.slots c.self.inside.book (BeginLoad c.args.slot) ≡ None = search rules in
    load_has_room c.self.inside.slots c.self.inside.book c.args.slot c.self.invariant.0.lawful.order (search rules) allowed

pub invariant_of-self : goal.invariant_of-self
invariant_of-self c =
    kept_after c.self.inside.slots (record { book = c.self.inside.book; rows = c.self.inside.rows.rows }) _ c.self.inside.names c.self.inside.rows.slots (BeginLoad c.args.slot)
    c.self.invariant (search rules, tt) (search rules)
