-- From what a file keeps to what is claimed.
use Rattle.std.proofs.Common.{refl, ap, ◌∙◌, [], List, ℕ, Some}
use Rattle.modprobe.specs.Setup.{Setup}
use Rattle.held_table.specs.Held.{Held}
use Rattle.durable_table.specs.Tables.{opening_of}
use Rattle.durable_table.specs.Durable.{FileStands}
use Rattle.tenures.specs.Tenures.{Tenure}
use Rattle.tenures.specs.Kept.{Keeps, RemovalsFindNoHolder}
use Rattle.theorems.specs.Durability.{IsDurablyLinearized}

-- before the first tenure
pub nothing_yet : (s : Setup) (file : List ℕ) → FileStands s (opening_of s) file → Keeps s [] file
nothing_yet s file stands = record {
  commands = [];
  table = opening_of s;
  leads = record { one = refl; held = tt; leads = refl };
  stands = stands;
}

pub linearized : (s : Setup) (tenures : List Tenure) (file : List ℕ) → RemovalsFindNoHolder → Keeps s tenures file → IsDurablyLinearized s tenures file
linearized s tenures file law keeps = record {
  commands = keeps.commands;
  one = keeps.leads.one;
  stands = keeps.stands ∙ ap (λ (h : Held). Some h) keeps.leads.leads;
  unheld = law s (opening_of s) keeps.commands keeps.leads.held;
}
