-- What a call of the code makes of a session.
use Rattle.std.specs.Prelude.{◌≡◌}
use Rattle.dep_index.specs.Table.{Table}
use Rattle.seq_table.specs.declared.modules.Modules.{Ghosts}
use Rattle.modprobe.specs.declared.session.Session.{Session}
use Rattle.modprobe.specs.Setup.{Setup}

-- The table is the one that the definition leaves. The setup is the same, and so are the names of the workers. The table
-- is still the caller's.
pub record Becomes {M : Type 0} {g : Ghosts M} (old new : Session M g) (meaning : Setup → Table → Table) : Type 0 where
  pub becomes : g.table new.table.now ≡ meaning old.setup.now (g.table old.table.now)
  pub same_setup : new.setup ≡ old.setup
  pub same_table : new.table.ghost_name ≡ old.table.ghost_name
  pub same_names : g.names new.table.now ≡ g.names old.table.now

-- the same, and what was said is what the definition says
pub record Makes {A M : Type 0} {g : Ghosts M} (old new : Session M g) (said : A) (meaning : Setup → Table → A × Table) : Type 0 where
  pub answers : said ≡ (meaning old.setup.now (g.table old.table.now)).0
  pub becomes : g.table new.table.now ≡ (meaning old.setup.now (g.table old.table.now)).1
  pub same_setup : new.setup ≡ old.setup
  pub same_table : new.table.ghost_name ≡ old.table.ghost_name
  pub same_names : g.names new.table.now ≡ g.names old.table.now
