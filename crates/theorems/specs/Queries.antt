-- Machines whose states alone differ.
use Rattle.std.specs.Prelude.{◌≡◌}
use Rattle.kmod_query.specs.declared.world.World.{World}
use Rattle.kmod_query.specs.Paths.{own_of}

-- the same configuration, the same texts, the same folder, and the same files at paths
pub record HaveOneBasis (one other : World) : Type 0 where
  pub configuration : one.conf.now ≡ other.conf.now
  pub texts : one.index.now ≡ other.index.now
  pub folder : one.directory.now ≡ other.directory.now
  pub paths : one.paths.now ≡ other.paths.now
  pub file : own_of one.own ≡ own_of other.own
