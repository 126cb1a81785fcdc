-- The lines that an input brings, group by group.
use Rattle.std.proofs.Common.{◌≡◌, refl, sym, ap, subst, ◌∙◌, ℕ, List, [], ◌++◌, append_assoc, append-nil, Option, Some, None}
use Rattle.std.specs.Io.KnownBytes.{IsAtEnd}
use Rattle.table_folder.specs.declared.folder_setup.FolderSetup.{FolderSetup}
use Rattle.table_words.specs.Endings.{behind}
use Rattle.table_words.specs.declared.ending.Ending.{Ending}
use Rattle.table_words.specs.declared.ending.Ending.TheVariants.{Done}
use Rattle.table_folder.specs.InputLines.{brought_lines, BringsLines}
use Rattle.gz_table_drive.specs.declared.log.Tenures.{Tenures}
use Rattle.gz_table_drive.specs.Written.{AreBrought, AreWritten, AnswersInput, AnswersSoFar}
use Rattle.gz_table_drive.proofs.WrittenLemmas.{none_written, written_more}

none_brought : (input left : Option (List ℕ)) → left ≡ input → BringsLines input left []
none_brought None left is = tt
none_brought (Some text) left is = subst (λ (l : Option (List ℕ)). BringsLines (Some text) l []) (sym is) refl

pub brings_more : (input mid left : Option (List ℕ)) (lines group : List (List ℕ)) → BringsLines input mid lines → BringsLines mid left group
    → BringsLines input left (lines ++ group)
brings_more None mid left lines group brings more = tt
brings_more (Some text) None left lines group brings more = absurd brings
brings_more (Some text) (Some rest) None lines group brings more = absurd more
brings_more (Some text) (Some rest) (Some end) lines group brings more =
    brings ∙ ap (λ (ls : List (List ℕ)). lines ++ ls) more ∙ sym (append_assoc lines group (brought_lines end))

all_brought : (input left : Option (List ℕ)) (lines : List (List ℕ)) → BringsLines input left lines → IsAtEnd left → AreBrought input lines
all_brought None left lines brings end = tt
all_brought (Some text) None lines brings end = absurd brings
all_brought (Some text) (Some rest) lines brings end =
    sym (brings ∙ ap (λ (t : List ℕ). lines ++ brought_lines t) end ∙ append-nil lines)

-- no line is answered yet
pub none_answered : (f : FolderSetup) (input left : Option (List ℕ)) (log : Tenures) (contents : Option (List ℕ)) → left ≡ input → AnswersSoFar f input left log log contents contents Done
none_answered f input left log contents is = ([], none_brought input left is, none_written f log contents)

-- a group more is answered
pub answered_more : (f : FolderSetup) (group : List (List ℕ)) (input before left : Option (List ℕ)) (log mid_log new_log : Tenures) (old mid new : Option (List ℕ)) (ending next : Ending)
    → AnswersSoFar f input before log mid_log old mid ending → BringsLines before left group → AreWritten f group mid_log new_log mid new next
    → AnswersSoFar f input left log new_log old new (behind ending next)
answered_more f group input before left log mid_log new_log old mid new ending next (front, brings, written) more also =
    (front ++ group, brings_more input before left front group brings more, written_more f front group log mid_log new_log old mid new ending next written also)

-- no line is left
pub answered_all : (f : FolderSetup) (group : List (List ℕ)) (input before left : Option (List ℕ)) (log new_log : Tenures) (old new : Option (List ℕ)) (ending : Ending)
    → AnswersSoFar f input before log new_log old new ending → BringsLines before left group → group ≡ [] → IsAtEnd left → AnswersInput f input log new_log old new ending
answered_all f group input before left log new_log old new ending (lines, brings, written) more none end = (
  lines,
  all_brought input left lines
      (subst (BringsLines input left) (ap (λ (g : List (List ℕ)). lines ++ g) none ∙ append-nil lines) (brings_more input before left lines group brings more)) end,
  written,
)
