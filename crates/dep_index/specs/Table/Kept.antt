-- What a book keeps. It serves proofs alone.
use Rattle.std.specs.Prelude.{◌≡◌, List, ◌≤◌, length}
use Rattle.dep_index.specs.declared.table.states.ModuleState.{ModuleState}
use Rattle.dep_index.specs.Table.Ordered.{Ordered}

-- the order has room for every slot, and a slot's number is short
pub record HasRoom (states : List ModuleState) (order : Ordered) : Type 0 where
  pub few : length states ≤ 65535
  pub room : order.room ≡ length states
