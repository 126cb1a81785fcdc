-- How processes begin over a new journal.
use Rattle.std.proofs.Common.{◌≡◌, ℕ, List, Some, subst, ap, ◌∙◌, arith}
use Rattle.line_journal.specs.Device.{IsOnDisk}
use Rattle.line_journal.specs.declared.recovery.Repair.{Repair}
use Rattle.modprobe.specs.Setup.{Setup}
use Rattle.durable_table.specs.Tables.{opening_of, table_of}
use Rattle.durable_table.specs.Durable.{FileStands}
use Rattle.tenures.specs.Tenures.{Tenure}
use Rattle.tenures.specs.Endings.{HaveEnded}
use Rattle.power_cuts.specs.declared.state.State.{State}
use Rattle.power_cuts.specs.declared.disk.MemoryDisk.{MemoryDisk}
use Rattle.power_cuts.specs.Disk.{MayLeave, content_of, history_of}

-- each file that a crash may leave of a new journal stands for the empty table
pub new_stands : (s : Setup) (created given : MemoryDisk) → given.state ≡ created.state → IsOnDisk (content_of created) (history_of created) → table_of s (content_of created) ≡ Some (opening_of s)
    → (file : List ℕ) → (history_of given).leaves file → FileStands s (opening_of s) file
new_stands s created given same on_disk opens file leaves =
    ap (table_of s) (on_disk file (subst (λ (state : State). MayLeave state file) same leaves)) ∙ opens

-- counted from the first process on
pub ended_from_none : (repair : Repair) (cut_offs cut_offs_new faults faults_new : ℕ) (tenures : List Tenure) → cut_offs ≡ 0
    → HaveEnded repair cut_offs cut_offs_new faults faults_new tenures → HaveEnded repair 0 cut_offs_new 0 faults_new tenures
ended_from_none repair cut_offs cut_offs_new faults faults_new tenures none ended = record {
  whole = ended.whole;
  cut_off = omega (arith, none, ended.cut_off);
  failed = omega (arith, ended.failed);
  found = ended.found;
  might_cut = ended.might_cut;
}
