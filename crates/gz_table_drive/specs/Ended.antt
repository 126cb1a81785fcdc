-- How a run ends: with help or the version, with words that are refused or name no folder or two, or with work.
use Rattle.std.specs.Prelude.{◌≡◌, ◌⊎◌, ℕ, Bool, true, false, List, [], ◌∷◌, Contains, Option, Some, Result, Ok, Err, IsUtf8}
use Rattle.std.specs.Io.KnownBytes.{Appends}
use Rattle.modprobe_words.specs.Begun.{IsBegun}
use Rattle.table_words.specs.Asked.{Asked, Job, create, renew, command, lines, adopt, compact, check, repair, asked}
use Rattle.table_words.specs.Lines.{line_of}
use Rattle.table_words.specs.Options.{Stop, help, version, refused}
use Rattle.table_words.specs.declared.ending.Ending.{Ending}
use Rattle.table_words.specs.declared.ending.Ending.TheVariants.{Done, Unasked, Fault}
use Rattle.table_words.specs.declared.help.TheConstants.{HELP, VERSION}
use Rattle.table_folder.specs.Faults.{ending_of_fault}
use Rattle.table_folder.specs.Setups.{IsNewSetup, IsReadFrom}
use Rattle.table_folder.specs.declared.fault.TableFault.{TableFault}
use Rattle.table_folder.specs.declared.folder_setup.FolderSetup.{FolderSetup}
use Rattle.table_folder.specs.declared.fault.TableFault.TheVariants.{Output}
use Rattle.gz_table_drive.specs.Counted.{AreCountsWritten}
use Rattle.gz_table_drive.specs.declared.log.Tenures.{Tenures}
use Rattle.gz_table_drive.specs.Log.{HasCompacted, HasCreatedTable, HasGrown, HasRenewed, HasRepaired}
use Rattle.gz_table_drive.specs.Written.{IsWritten, IsInputAnswered, IsInputSent, IsUntouched, IsUnwritten, IsAdoptionWritten}

-- a text is written whole, and the run is done; or the output failed, and has a beginning of it
abbrev pub IsShown : List ℕ → Option (List ℕ) → Option (List ℕ) → Ending → Type 0
IsShown text old new ending = ((ending ≡ Done) × Appends old new text) ⊎ ((ending ≡ Fault) × IsBegun old new text)

-- nothing is written, and the words were not asked rightly
abbrev pub IsUnasked : Option (List ℕ) → Option (List ℕ) → Ending → Type 0
IsUnasked old new ending = (ending ≡ Unasked) × (new ≡ old)

-- nothing is written, since memory ran out
abbrev pub IsUnread : Option (List ℕ) → Option (List ℕ) → Ending → Type 0
IsUnread old new ending = (ending ≡ Fault) × (new ≡ old)

-- help and version are shown, and words that are refused are not asked rightly
abbrev pub IsStopped : Stop → Option (List ℕ) → Option (List ℕ) → Ending → Type 0
IsStopped help old new ending = IsShown HELP.now old new ending
IsStopped version old new ending = IsShown VERSION.now old new ending
IsStopped (refused fault) old new ending = IsUnasked old new ending

-- no folder has such a path
abbrev pub IsNoFolder : List ℕ → Type 0
IsNoFolder path = (path ≡ []) ⊎ ¬ IsUtf8 path

-- a slash stands in the word
abbrev pub HasSlash : List ℕ → Type 0
HasSlash word = Contains word 47

-- the environment names the folder, and a word with a slash, which no command has, stands in the place of a command
abbrev pub HasSecondFolder : Option (List ℕ) → Job → Type 0
HasSecondFolder (Some folder) (command (first ∷ words)) = HasSlash first
HasSecondFolder _ _ = ⊥

-- a job in no folder, or in two
abbrev pub IsMisplaced : Option (List ℕ) → Asked → Type 0
IsMisplaced table asked = HasSecondFolder table asked.job ⊎ IsNoFolder asked.folder

-- what is written of a job that answers nothing, once it is done: what is counted in a folder; of a table that is made, or a journal
-- that is written anew, nothing
abbrev pub IsDone : Job → Option (List ℕ) → Option (List ℕ) → Ending → Type 0
IsDone check old new ending = AreCountsWritten old new ending
IsDone repair old new ending = AreCountsWritten old new ending
IsDone job old new ending = (ending ≡ Done) × (new ≡ old)

-- a journal was written anew, of a table of the setup that some file has
abbrev pub IsCompacted : Tenures → Tenures → Type 0
IsCompacted log new_log = (file : List ℕ) × (found : FolderSetup) × IsReadFrom file found × HasCompacted found log new_log

-- a table got another setup, which is a new one
abbrev pub IsRenewed : Tenures → Tenures → Type 0
IsRenewed log new_log =
    (file next_file : List ℕ) × (found next : FolderSetup) × IsReadFrom file found × IsNewSetup next_file × IsReadFrom next_file next
    × HasRenewed found next log new_log

-- what such a job has left, by a tenure of the log
abbrev pub HasLeft : Job → Tenures → Tenures → Type 0
HasLeft (create origin mode) log new_log = HasCreatedTable log new_log
HasLeft (renew origin) log new_log = IsRenewed log new_log
HasLeft compact log new_log = IsCompacted log new_log
HasLeft repair log new_log = HasRepaired log new_log
HasLeft job log new_log = new_log ≡ log

-- a job was done: the reply to a command is written, or those to the lines of an input, or what is answered of a listing, each of
-- which a tenure of the log gave; or another job was, and its tenure is in the log
abbrev pub IsPerformed : Job → Option (List ℕ) → Tenures → Tenures → Option (List ℕ) → Option (List ℕ) → Ending → Type 0
IsPerformed (command words) input log new_log old new ending = IsWritten (line_of words) log new_log old new ending
IsPerformed lines input log new_log old new ending = IsInputAnswered input log new_log old new ending
IsPerformed (adopt word) input log new_log old new ending = IsAdoptionWritten word input log new_log old new ending
IsPerformed job input log new_log old new ending = HasLeft job log new_log × IsDone job old new ending

-- a beginning is written of a text that such a run writes, behind what stood there before
abbrev pub HasBeginning : (Option (List ℕ) → Option (List ℕ) → Ending → Type 0) → Option (List ℕ) → Option (List ℕ) → Type 0
HasBeginning Writes old new = (text : List ℕ) × (ending : Ending) × Writes (Some []) (Some text) ending × IsBegun old new text

-- nothing was written; or the output failed, and it has a beginning of such a text
abbrev pub IsCutShort : (Option (List ℕ) → Option (List ℕ) → Ending → Type 0) → Option (List ℕ) → Option (List ℕ) → TableFault → Type 0
IsCutShort Writes old new fault = (new ≡ old) ⊎ ((fault ≡ Output) × HasBeginning Writes old new)

-- a job was not done, and nothing is written of it; of a command, or the lines of an input, the first may be answered, and no others
abbrev pub IsUndone : Job → Option (List ℕ) → Tenures → Tenures → Option (List ℕ) → Option (List ℕ) → TableFault → Type 0
IsUndone (command words) input log new_log old new fault = IsUnwritten (line_of words) log new_log old new fault
IsUndone lines input log new_log old new fault = IsUntouched log new_log old new ⊎ IsInputSent input log new_log old new fault
IsUndone (adopt word) input log new_log old new fault =
    HasGrown log new_log × IsCutShort (IsAdoptionWritten word input log new_log) old new fault
IsUndone job input log new_log old new fault = HasGrown log new_log × IsCutShort (IsDone job) old new fault

-- a run whose job was not done ends so
abbrev pub HasFailed : Job → Option (List ℕ) → Tenures → Tenures → Option (List ℕ) → Option (List ℕ) → Ending → Type 0
HasFailed job input log new_log old new ending =
    (fault : TableFault) × (ending ≡ ending_of_fault fault) × IsUndone job input log new_log old new fault

-- a job was done, or has failed
abbrev pub IsWork : Job → Option (List ℕ) → Tenures → Tenures → Option (List ℕ) → Option (List ℕ) → Ending → Type 0
IsWork job input log new_log old new ending =
    IsPerformed job input log new_log old new ending ⊎ HasFailed job input log new_log old new ending

-- the lines of an input are read from it, and so may be those of a kernel
abbrev pub reads_input : Job → Bool
reads_input lines = true
reads_input (adopt file) = true
reads_input _ = false

-- the words ask for a job that may read the input
abbrev pub may_read : Result Asked Stop → Bool
may_read (Ok asked) = reads_input asked.job
may_read (Err stop) = false

-- how a run ends by what its words ask for
abbrev pub IsRunOf : Result Asked Stop → Option (List ℕ) → Option (List ℕ) → Tenures → Tenures → Option (List ℕ) → Option (List ℕ) → Ending → Type 0
IsRunOf (Ok asked) table input log new_log old new ending =
    (IsMisplaced table asked → IsUnasked old new ending) × IsWork asked.job input log new_log old new ending
IsRunOf (Err stop) table input log new_log old new ending = (new_log ≡ log) × IsStopped stop old new ending

-- the words are read; or memory ran out before that
abbrev pub IsRun : List (List ℕ) → Option (List ℕ) → Option (List ℕ) → Tenures → Tenures → Option (List ℕ) → Option (List ℕ) → Ending → Type 0
IsRun words table input log new_log old new ending =
    IsRunOf (asked table words) table input log new_log old new ending ⊎ ((new_log ≡ log) × IsUnread old new ending)
