use Rattle.std.proofs.Common.{◌≡◌, refl, ap, ◌∙◌, [], Some}
use Rattle.line_journal.specs.KillOnly.{held_by, history_of}
use Rattle.line_journal.specs.declared.kill_only.KillOnly.{KillOnly}
use Rattle.modprobe.specs.Setup.{Setup}
use Rattle.durable_table.specs.Tables.{opening_of, table_of}
use Rattle.tenures.specs.Kept.{IsKept}
use Rattle.table_tests.proofs.cutting.new_device.Goals as goal

-- a file that stands for an empty table keeps that no process was there yet
new_kept : (s : Setup) (file device : KillOnly) → device ≡ file → table_of s (held_by file) ≡ Some (opening_of s) → IsKept s [] (history_of device)
new_kept s file device same opens left leaves = record {
  commands = [];
  table = opening_of s;
  leads = record { one = refl; held = tt; leads = refl };
  stands = ap (table_of s) (leaves ∙ ap held_by same) ∙ opens;
}

pub returns : goal.returns
returns c = new_kept c.args.setup.now c.create.new.device c.new-2.result.file c.new-2.ensures (c.in_ok-create.ensures.opens c.args.setup.now)
