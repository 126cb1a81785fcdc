-- A table that is brought to a kernel's modules.
use Rattle.std.specs.Prelude.{◌≡◌, ℕ, Option, Bool, true, false, nat_eq, if◌then◌else◌, List, [], ◌∷◌, ◌++◌, length, map, filter, take, codes}
use Rattle.std.specs.List.{flat_map, starts_with}
use Rattle.dep_index.specs.Catalogue.{modules_of}
use Rattle.dep_index.specs.Laws.{IsShaped, IsLawful}
use Rattle.modprobe.specs.Setup.{Setup}
use Rattle.modprobe.specs.Outcomes.{Outcome, says, refuses, text_of}
use Rattle.held_table.specs.Held.{Held}
use Rattle.held_lines.specs.Laws.{KeepsHeld}
use Rattle.held_lines.specs.Outcomes.{after}
use Rattle.durable_table.specs.Groups.{replies_of}
use Rattle.table_adopt.specs.declared.kernel.KernelModule.{KernelModule}
use Rattle.table_adopt.specs.Steps.{line_of}
use Rattle.table_adopt.specs.Plans.{steps_for}
use Rattle.table_adopt.specs.Reports.{report_of}
use Rattle.table_words.specs.declared.ending.Ending.{Ending}
use Rattle.table_words.specs.declared.ending.Ending.TheVariants as ending
use Rattle.table_folder.specs.Endings.{ending_of_outcome}
use Rattle.table_folder.specs.Listings.{IsListing, AreModulesOf}
use Rattle.table_folder.specs.Setups.{IsReadFrom}
use Rattle.table_folder.specs.declared.folder_setup.FolderSetup.{FolderSetup}
use Rattle.table_folder.specs.declared.listing.Listing.{Listing}
use Rattle.durable_table.specs.declared.durable.PerformError.{PerformError}
use Rattle.durable_table.specs.declared.durable.PerformError.TheVariants as perform_error
use Rattle.gz_table_drive.specs.Answers.{HasMore}
use Rattle.gz_table_drive.specs.declared.adopting.AdoptError.{AdoptError}
use Rattle.gz_table_drive.specs.declared.adopting.AdoptError.TheVariants as adopt_error
use Rattle.gz_table_drive.specs.declared.answering.Replies.{Replies}
use Rattle.gz_table_drive.specs.declared.log.Tenures.{Tenures}
use Rattle.gz_table_drive.specs.Log.{HasMade}

-- the lines that bring the table to these modules, one after another
abbrev pub adopting_lines : Setup → Held → List KernelModule → List (List ℕ)
adopting_lines s h kernel = map (line_of s.catalogue) (steps_for s.catalogue h.table kernel)

abbrev pub is_refusal : Outcome → Bool
is_refusal (says text) = false
is_refusal (refuses refusal) = true

-- those of the replies that refuse
abbrev pub refused_of : List Outcome → List Outcome
refused_of replies = filter is_refusal replies

-- the replies to those of these lines that are refused, and no others
abbrev pub HasRefused : Setup → Held → List (List ℕ) → Replies → Replies → Type 0
HasRefused s h lines old new = HasMore (refused_of (replies_of s h lines)) old new

-- A report ends as its first line: a module that the catalogue does not have, or one that is lost, since it is held or needed.
abbrev pub ending_of_report : List ℕ → Ending
ending_of_report [] = ending.Done
ending_of_report (byte ∷ bytes) = if starts_with nat_eq (byte ∷ bytes) (codes "error UNKNOWN ") then ending.Absent else ending.InUse

-- What is answered: the report, and then the replies to the lines that are refused.
pub record HasAdopted (s : Setup) (h : Held) (kernel : List KernelModule) (old new : Replies) : Type 0 where
  pub text : new.text.items
      ≡ old.text.items ++ (report_of s.catalogue h.table kernel ++ flat_map text_of (refused_of (replies_of s h (adopting_lines s h kernel))))
  pub endings : new.endings.items
      ≡ old.endings.items ++ (ending_of_report (report_of s.catalogue h.table kernel) ∷ map ending_of_outcome (refused_of (replies_of s h (adopting_lines s h kernel))))

-- What is answered of a table and of the modules that a listing has: the one that a word names. The setup is that of some file, and
-- the table that of a tenure, which has left it after the lines that bring it to these modules.
pub record HasAdoptedListing (word : List ℕ) (input : Option (List ℕ)) (log new_log : Tenures) (old new : Replies) : Type 0 where
  pub file : List ℕ
  pub found : FolderSetup
  pub read : IsReadFrom file found
  pub listing : Listing
  pub named : IsListing word input listing
  pub kernel : List KernelModule
  pub listed : AreModulesOf listing kernel
  pub held : Held
  pub made : HasMade found held (adopting_lines found.setup held kernel) log new_log
  pub answered : HasAdopted found.setup held kernel old new

-- no reply yet
pub record AreNone (replies : Replies) : Type 0 where
  pub text : replies.text.items ≡ []
  pub endings : replies.endings.items ≡ []

-- such an answer, and no reply stands before it
abbrev pub AdoptsListing : List ℕ → Option (List ℕ) → Tenures → Tenures → Replies → Type 0
AdoptsListing word input log new_log replies = (none : Replies) × AreNone none × HasAdoptedListing word input log new_log none replies

-- why a table was not brought to a kernel's modules, by why lines were not performed
abbrev pub adopt_error_of : PerformError → AdoptError
adopt_error_of perform_error.OutOfMemory = adopt_error.OutOfMemory
adopt_error_of (perform_error.Device error) = adopt_error.Device error

-- Each holder holds what it held.
pub record HoldsTheSame (old new : Held) : Type 0 where
  pub rows : new.table.rows ≡ old.table.rows
  pub names : new.names ≡ old.names

-- Whatever a kernel has: after the first of the lines, however many, each holder holds what it held, and what anybody held is
-- still in the table.
abbrev pub AdoptingKeepsHeld : Type 0
AdoptingKeepsHeld =
    (s : Setup) (h : Held) (kernel : List KernelModule) (count : ℕ)
    → IsShaped (length (modules_of s.catalogue)) (length h.table.rows) h.table → IsLawful (modules_of s.catalogue) h.table
    → let left = after s h (take count (adopting_lines s h kernel)) in
    HoldsTheSame h left × KeepsHeld h.table left.table
