-- What is written of lines that are answered, in one tenure or in several.
use Rattle.std.specs.Prelude.{◌≡◌, ◌⊎◌, ℕ, ◌≤◌, List, [], ◌∷◌, ◌++◌, length, map, take, drop, Option, IfSome}
use Rattle.std.specs.List.{flat_map}
use Rattle.std.specs.Io.KnownBytes.{Appends}
use Rattle.modprobe.specs.Outcomes.{Outcome, text_of}
use Rattle.modprobe_words.specs.Begun.{IsBegun}
use Rattle.table_words.specs.Endings.{ending_of_lines}
use Rattle.table_words.specs.declared.ending.Ending.{Ending}
use Rattle.table_words.specs.declared.ending.Ending.TheVariants.{Done}
use Rattle.table_folder.specs.Endings.{ending_of_outcome}
use Rattle.table_folder.specs.InputLines.{brought_lines, BringsLines}
use Rattle.table_folder.specs.Setups.{IsReadFrom}
use Rattle.table_folder.specs.declared.fault.TableFault.{TableFault}
use Rattle.table_folder.specs.declared.fault.TableFault.TheVariants.{Output}
use Rattle.table_folder.specs.declared.folder_setup.FolderSetup.{FolderSetup}
use Rattle.gz_table_drive.specs.Adopting.{AdoptsListing}
use Rattle.gz_table_drive.specs.declared.answering.Replies.{Replies}
use Rattle.gz_table_drive.specs.declared.log.Tenures.{Tenures}
use Rattle.gz_table_drive.specs.Log.{HaveTold}

-- how the first of some lines ended
abbrev pub first_ending : List Ending → Ending
first_ending [] = Done
first_ending (ending ∷ endings) = ending

-- Lines were answered by tenures, and these are their replies, and how each ended.
pub record IsAnswered (f : FolderSetup) (lines : List (List ℕ)) (log new_log : Tenures) (replies : Replies) : Type 0 where
  pub outcomes : List Outcome
  pub told : HaveTold f lines [] outcomes log new_log
  pub text : replies.text.items ≡ flat_map text_of outcomes
  pub endings : replies.endings.items ≡ map ending_of_outcome outcomes

-- The reply to a line is written, which a tenure gave, as the setup of some file has it, and the line ends as its reply does.
pub record IsWritten (line : List ℕ) (log new_log : Tenures) (old new : Option (List ℕ)) (ending : Ending) : Type 0 where
  pub file : List ℕ
  pub found : FolderSetup
  pub read : IsReadFrom file found
  pub reply : Outcome
  pub told : HaveTold found (line ∷ []) [] (reply ∷ []) log new_log
  pub text : Appends old new (text_of reply)
  pub ends : ending ≡ ending_of_outcome reply

-- The replies to lines are written, one after another, which tenures gave, and the lines end together as the first of them that was
-- refused.
pub record AreWritten (f : FolderSetup) (lines : List (List ℕ)) (log new_log : Tenures) (old new : Option (List ℕ)) (ending : Ending) : Type 0 where
  pub replies : List Outcome
  pub told : HaveTold f lines [] replies log new_log
  pub text : Appends old new (flat_map text_of replies)
  pub ends : ending ≡ ending_of_lines (map ending_of_outcome replies)

-- these are the lines that an input brings, if its text is told
abbrev pub AreBrought : Option (List ℕ) → List (List ℕ) → Type 0
AreBrought input lines = IfSome input (λ text. lines ≡ brought_lines text)

-- What is written is the replies to the lines that an input brings, and they end together so.
abbrev pub AnswersInput : FolderSetup → Option (List ℕ) → Tenures → Tenures → Option (List ℕ) → Option (List ℕ) → Ending → Type 0
AnswersInput f input log new_log old new ending = (lines : List (List ℕ)) × AreBrought input lines × AreWritten f lines log new_log old new ending

-- What is answered of a listing, by a tenure, is written, and the run ends as it does.
pub record IsAdoptionWritten (word : List ℕ) (input : Option (List ℕ)) (log new_log : Tenures) (old new : Option (List ℕ)) (ending : Ending) : Type 0 where
  pub replies : Replies
  pub answered : AdoptsListing word input log new_log replies
  pub text : Appends old new replies.text.items
  pub ends : ending ≡ ending_of_lines replies.endings.items

-- The lines of an input are answered so, as the setup of some file has it.
pub record IsInputAnswered (input : Option (List ℕ)) (log new_log : Tenures) (old new : Option (List ℕ)) (ending : Ending) : Type 0 where
  pub file : List ℕ
  pub found : FolderSetup
  pub read : IsReadFrom file found
  pub answers : AnswersInput found input log new_log old new ending

-- The same of the lines that the input has brought so far: behind them comes what is left of it.
abbrev pub AnswersSoFar : FolderSetup → Option (List ℕ) → Option (List ℕ) → Tenures → Tenures → Option (List ℕ) → Option (List ℕ) → Ending → Type 0
AnswersSoFar f input left log new_log old new ending =
    (lines : List (List ℕ)) × BringsLines input left lines × AreWritten f lines log new_log old new ending

-- a text is written whole; or the output failed, and a beginning of it is written
abbrev pub IsSent : Option (List ℕ) → Option (List ℕ) → List ℕ → TableFault → Type 0
IsSent old new text fault = Appends old new text ⊎ ((fault ≡ Output) × IsBegun old new text)

-- Replies to lines were made by tenures, and no others: they are written, one after another, or as far as the output took them. Some
-- other lines may have taken effect, and have no reply.
pub record AreSent (f : FolderSetup) (lines others : List (List ℕ)) (log new_log : Tenures) (old new : Option (List ℕ)) (fault : TableFault) : Type 0 where
  pub replies : List Outcome
  pub told : HaveTold f lines others replies log new_log
  pub text : IsSent old new (flat_map text_of replies) fault

-- the first of these lines were answered so: none, some or all
abbrev pub AreFirstSent : FolderSetup → List (List ℕ) → Tenures → Tenures → Option (List ℕ) → Option (List ℕ) → TableFault → Type 0
AreFirstSent f lines log new_log old new fault =
    (count : ℕ) × (count ≤ length lines) × AreSent f (take count lines) (drop count lines) log new_log old new fault

-- A line was answered so, or was not, as the setup of some file has it.
pub record IsLineSent (line : List ℕ) (log new_log : Tenures) (old new : Option (List ℕ)) (fault : TableFault) : Type 0 where
  pub file : List ℕ
  pub found : FolderSetup
  pub read : IsReadFrom file found
  pub sends : AreFirstSent found (line ∷ []) log new_log old new fault

-- no tenure was begun, and nothing is written
abbrev pub IsUntouched : Tenures → Tenures → Option (List ℕ) → Option (List ℕ) → Type 0
IsUntouched log new_log old new = (new_log ≡ log) × (new ≡ old)

-- a line was not asked, or has no reply, or its reply could not be written
abbrev pub IsUnwritten : List ℕ → Tenures → Tenures → Option (List ℕ) → Option (List ℕ) → TableFault → Type 0
IsUnwritten line log new_log old new fault = IsUntouched log new_log old new ⊎ IsLineSent line log new_log old new fault

-- these are the first of the lines that an input brings, if its text is told
abbrev pub AreFirstBrought : Option (List ℕ) → List (List ℕ) → Type 0
AreFirstBrought input lines = IfSome input (λ text. (count : ℕ) × (lines ≡ take count (brought_lines text)))

-- the first of the lines that an input brings were answered so, and perhaps some others behind them have taken effect
abbrev pub SendsInput : FolderSetup → Option (List ℕ) → Tenures → Tenures → Option (List ℕ) → Option (List ℕ) → TableFault → Type 0
SendsInput f input log new_log old new fault =
    (lines others : List (List ℕ)) × AreFirstBrought input (lines ++ others) × AreSent f lines others log new_log old new fault

-- The same, as the setup of some file has it.
pub record IsInputSent (input : Option (List ℕ)) (log new_log : Tenures) (old new : Option (List ℕ)) (fault : TableFault) : Type 0 where
  pub file : List ℕ
  pub found : FolderSetup
  pub read : IsReadFrom file found
  pub sends : SendsInput found input log new_log old new fault
