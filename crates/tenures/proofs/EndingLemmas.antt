-- Tenures that have ended, one after another.
use Rattle.std.proofs.Common.{arith, ◌≡◌, refl, ℕ, ◌+◌, ◌≤◌, List, [], ◌∷◌, ◌++◌}
use Rattle.std.proofs.lemmas.List.Elements.{All-nil, All-push}
use Rattle.line_journal.specs.declared.recovery.Repair.{Repair}
use Rattle.tenures.specs.Tenures.{Tenure}
use Rattle.tenures.specs.Endings.{cut_offs_in, failures_in, cut_offs_among, failures_among, IsWhole, HasFound, MightCut, HaveEnded}

cut_offs_more : (tenures : List Tenure) (tenure : Tenure) → cut_offs_among (tenures ++ tenure ∷ []) ≡ cut_offs_in tenure.ended + cut_offs_among tenures
cut_offs_more [] tenure = refl
cut_offs_more (first ∷ later) tenure = omega (arith, cut_offs_more later tenure)

failures_more : (tenures : List Tenure) (tenure : Tenure) → failures_among (tenures ++ tenure ∷ []) ≡ failures_in tenure.ended + failures_among tenures
failures_more [] tenure = refl
failures_more (first ∷ later) tenure = omega (arith, failures_more later tenure)

-- no tenure has ended yet
pub none_ended : (repair : Repair) (cut_offs faults : ℕ) → HaveEnded repair cut_offs cut_offs faults faults []
none_ended repair cut_offs faults = record { whole = All-nil IsWhole; cut_off = omega arith; failed = omega arith; found = All-nil (HasFound repair); might_cut = All-nil (MightCut repair) }

-- one more has ended
pub one_more_ended : (repair : Repair) (cut_offs then now faults faults_then faults_now : ℕ) (tenures : List Tenure) (tenure : Tenure)
    → HaveEnded repair cut_offs then faults faults_then tenures → IsWhole tenure → cut_offs_in tenure.ended + then ≡ now
    → failures_in tenure.ended + faults_then ≤ faults_now → HasFound repair tenure → MightCut repair tenure
    → HaveEnded repair cut_offs now faults faults_now (tenures ++ tenure ∷ [])
one_more_ended repair cut_offs then now faults faults_then faults_now tenures tenure so_far whole cut failed found might = record {
  whole = All-push IsWhole tenures tenure so_far.whole whole;
  cut_off = omega (arith, cut_offs_more tenures tenure, so_far.cut_off, cut);
  failed = omega (arith, failures_more tenures tenure, so_far.failed, failed);
  found = All-push (HasFound repair) tenures tenure so_far.found found;
  might_cut = All-push (MightCut repair) tenures tenure so_far.might_cut might;
}
