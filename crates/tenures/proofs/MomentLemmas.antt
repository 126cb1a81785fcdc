-- What crashes may leave, step by step.
use Rattle.std.proofs.Common.{arith, ◌≡◌, refl, sym, ap, subst, ◌∙◌, ◌⊎◌, ⊎_elim, inl, inr, ℕ, ◌≤◌, List, [], ◌∷◌, ◌++◌, Some, None, Option, unwrap_or, append-nil}
use Rattle.line_journal.specs.Device.{History, AlwaysLeaves}
use Rattle.line_journal.specs.Lines.{lines_of, behind, StandsFor}
use Rattle.line_journal.specs.Journal.{MayCut}
use Rattle.line_journal.specs.declared.recovery.Repair.{Repair}
use Rattle.modprobe.specs.Setup.{Setup}
use Rattle.modprobe.specs.Outcomes.{Outcome}
use Rattle.held_table.specs.Held.{Held}
use Rattle.durable_table.specs.Tables.{table_in, table_of}
use Rattle.durable_table.specs.Groups.{replies_of}
use Rattle.tenures.specs.Tenures.{Tenure}
use Rattle.tenures.specs.Steps.{StandsAfterFirst, IsUnanswered, IsAnswered, IsMade}
use Rattle.tenures.specs.Endings.{HasNoTable}
use Rattle.tenures.specs.Kept.{Keeps, IsKept, IsKeptSince, LeadsTo}
use Rattle.tenures.proofs.KeptLemmas.{GoesOn, Ending, tenure_of, stands_on, idle}

same_lines : {s : Setup} {past : List Tenure} {file : List ℕ} (left : List ℕ) → StandsFor (lines_of file) left → Keeps s past file → Keeps s past left
same_lines {s} left same keeps = record {
  commands = keeps.commands;
  table = keeps.table;
  leads = keeps.leads;
  stands = ap (table_in s) same ∙ keeps.stands;
}

-- a file is opened
pub opened : (s : Setup) (past : List Tenure) (file : List ℕ) (old new : History) → old.leaves file → IsKept s past old
    → AlwaysLeaves old new (λ left. StandsFor (lines_of file) left ⊎ old.leaves left) → IsKeptSince s past new old.now
opened s past file old new there kept always left since =
    ⊎_elim (λ same. same_lines left same (kept file there)) (λ before. kept left before) (always.each left since)

module _ (s : Setup) (past : List Tenure) (asked left : List (List (List ℕ))) (group : List (List ℕ)) (replies begun : List Outcome) (h : Held) (old new : History) (since since_new : ℕ)
    (goes : GoesOn s past asked (group ∷ left) replies h) (before : since ≤ old.now) (found : List ℕ) (ended : Ending) where
  unanswered : IsUnanswered s h group old new replies begun since since_new → IsKeptSince s (past ++ tenure_of found asked replies ended ∷ []) old since
      → IsKeptSince s (past ++ tenure_of found asked begun ended ∷ []) new since_new
  unanswered made kept file from =
      ⊎_elim (λ earlier. subst (λ (os : List Outcome). Keeps s (past ++ tenure_of found asked os ended ∷ []) file) (sym made.none) (kept file earlier))
      (λ (stands : StandsAfterFirst s h group file).
      stands_on goes found ended stands.0 [] begun stands.1 (made.none ∙ sym (append-nil replies)) (inl refl) (replies_of s h stands.0, refl) stands.2 file stands.3)
      (made.meanwhile.earlier since file before (subst (λ (n : ℕ). new.left_since n file) made.same from))

  answered : IsAnswered s h group old new replies begun since_new → IsKeptSince s (past ++ tenure_of found asked begun ended ∷ []) new since_new
  answered made file from =
      stands_on goes found ended group made.more begun ([], sym (append-nil group)) made.grows (inr refl) made.first made.held file
      (made.leaves file (new.only_now file (subst (λ (n : ℕ). new.left_since n file) made.now from)))

  -- a step is made, as far as the process came
  pub made_kept : IsMade s h group old new replies begun since since_new → IsKeptSince s (past ++ tenure_of found asked replies ended ∷ []) old since
      → IsKeptSince s (past ++ tenure_of found asked begun ended ∷ []) new since_new
  made_kept made kept = ⊎_elim (λ none. unanswered none kept) (λ some. answered some) made

pub made_since : (s : Setup) (group : List (List ℕ)) (replies begun : List Outcome) (h : Held) (old new : History) (since since_new : ℕ) → since ≤ old.now
    → IsMade s h group old new replies begun since since_new → since_new ≤ new.now
made_since s group replies begun h old new since since_new before made =
    ⊎_elim
    (λ (none : IsUnanswered s h group old new replies begun since since_new). omega (arith, before, none.same, none.meanwhile.later))
    (λ (some : IsAnswered s h group old new replies begun since_new). omega (arith, some.now))
    made

-- a process that makes nothing
pub idle_since : (s : Setup) (past : List Tenure) (found : List ℕ) (asked : List (List (List ℕ))) (ended : Ending) (history : History) (since : ℕ) → IsKeptSince s past history since
    → IsKeptSince s (past ++ tenure_of found asked [] ended ∷ []) history since
idle_since s past found asked ended history since kept left from = idle found asked ended (kept left from)

-- a process that makes nothing is over
pub over_idle : (s : Setup) (past more : List Tenure) (found : List ℕ) (asked : List (List (List ℕ))) (ended : Ending) (replies : List Outcome) (file : List ℕ) (old new next : History) (since : ℕ)
    → old.leaves file → IsKept s past old → AlwaysLeaves old new (λ left. StandsFor (lines_of file) left ⊎ old.leaves left) → since ≡ old.now → replies ≡ []
    → more ≡ past ++ tenure_of found asked replies ended ∷ [] → ((left : List ℕ) → next.leaves left → new.left_since since left) → IsKept s more next
over_idle s past more found asked ended replies file old new next since there kept always begins none is left at leaves =
    subst (λ (ts : List Tenure). Keeps s ts at) (sym (is ∙ ap (λ (os : List Outcome). past ++ tenure_of found asked os ended ∷ []) none))
    (idle found asked ended (opened s past file old new there kept always at (subst (λ (n : ℕ). new.left_since n at) begins (left at leaves))))

-- a process is over
pub over_answered : (s t : Setup) (past before more : List Tenure) (found : List ℕ) (asked : List (List (List ℕ))) (ended : Ending) (replies : List Outcome) (history next : History) (since : ℕ)
    → t ≡ s → IsKeptSince t (past ++ tenure_of found asked replies ended ∷ []) history since → before ≡ past → more ≡ before ++ tenure_of found asked replies ended ∷ []
    → ((left : List ℕ) → next.leaves left → history.left_since since left) → IsKept s more next
over_answered s t past before more found asked ended replies history next since same kept is grows left at leaves =
    subst (λ (ts : List Tenure). Keeps s ts at) (sym (grows ∙ ap (λ (ts : List Tenure). ts ++ tenure_of found asked replies ended ∷ []) is))
    (subst (λ (v : Setup). Keeps v (past ++ tenure_of found asked replies ended ∷ []) at) same (kept at (left at leaves)))

not_both : {h : Held} → None ≡ Some h → ⊥
not_both is = grind (arith, is)

some_one : {g h : Held} → Some g ≡ Some h → g ≡ h
some_one {g} {h} is = ap (λ (o : Option Held). unwrap_or o g) is

-- a file that keeps what tenures did stands for a table
pub kept_is_table : (s : Setup) (past : List Tenure) (file : List ℕ) (repair : Repair) → Keeps s past file → HasNoTable s repair file → MayCut repair (behind file) → ⊥
kept_is_table s past file repair keeps none may =
    ⊎_elim (λ (no : table_of s file ≡ None). not_both (sym no ∙ keeps.stands)) (λ more. more may) none

-- the table that was opened is the one that the file keeps
pub opened_leads : (s : Setup) (past : List Tenure) (file : List ℕ) (h : Held) → Keeps s past file → table_of s file ≡ Some h
    → (commands : List (List ℕ)) × LeadsTo s past commands h
opened_leads s past file h keeps is =
    (keeps.commands, subst (LeadsTo s past keeps.commands) (some_one (sym keeps.stands ∙ is)) keeps.leads)
