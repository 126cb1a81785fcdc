-- What is written of lines if the rest of them is not answered.
use Rattle.std.proofs.Common.{arith, ◌≡◌, refl, sym, ap, subst, ◌∙◌, inl, inr, ℕ, ◌+◌, ◌-◌, ◌≤◌, List, [], ◌++◌, length, take, drop, take-add, drop-drop, Vec, Option, Some, None, Result, Ok, Err, IfOk, OnErr}
use Rattle.std.specs.declared.alloc.Global.{Global}
use Rattle.std.specs.List.{flat_map}
use Rattle.std.specs.Io.KnownBytes.{Appends}
use Rattle.std.proofs.KnownBytes.{Appends-nil, Appends-trans}
use Rattle.std.proofs.lemmas.List.{append_assoc, append-nil, drop-map, length-drop, length-map, take-append-drop, take-append-le}
use Rattle.std.proofs.Math.Seq.{take-append-add, take-length}
use Rattle.table_folder.specs.declared.folder_setup.FolderSetup.{FolderSetup}
use Rattle.modprobe.specs.Outcomes.{text_of}
use Rattle.line_journal.specs.Lines.{bytes_of}
use Rattle.table_words.specs.declared.ending.Ending.{Ending}
use Rattle.table_folder.specs.InputLines.{brought_lines, BringsLines}
use Rattle.table_folder.specs.declared.fault.TableFault.{TableFault}
use Rattle.gz_table_drive.specs.declared.answering.Replies.{Replies}
use Rattle.gz_table_drive.specs.declared.log.Tenures.{Tenures}
use Rattle.gz_table_drive.specs.Log.{HasTold, HasToldFirst}
use Rattle.gz_table_drive.specs.Written.{AreFirstBrought, AreFirstSent, AreSent, AreWritten, AnswersSoFar, IsSent, SendsInput}
use Rattle.gz_table_drive.proofs.AnswerLemmas.{texts_more}
use Rattle.gz_table_drive.proofs.InputLemmas.{brings_more}
use Rattle.gz_table_drive.proofs.LogLemmas.{none_told, told_more, told_of_all}
use Rattle.gz_table_drive.proofs.WrittenLemmas.{Turns}

-- whether a tenure failed or not, the first lines were answered
pub first_of : {E : Type 0} (f : FolderSetup) (lines : List (List ℕ)) (log new_log : Tenures) (none replies : Replies) (result : Result ℕ E) → IfOk result (λ count. count ≤ length lines)
    → IfOk result (λ count. HasTold f (take count lines) [] log new_log none replies) → OnErr result (HasToldFirst f lines log new_log none replies)
    → HasToldFirst f lines log new_log none replies
first_of f lines log new_log none replies (Ok count) within told stopped =
    (count, within, record { replies = told.replies; told = told_of_all f (take count lines) (drop count lines) told.replies log new_log told.told; has = told.has })
first_of f lines log new_log none replies (Err error) within told stopped = stopped

-- a text that has the replies to the first lines is sent
pub first_sent : (f : FolderSetup) (lines : List (List ℕ)) (log new_log : Tenures) (old new : Option (List ℕ)) (none replies : Replies) (fault : TableFault) → none.text.items ≡ []
    → HasToldFirst f lines log new_log none replies → IsSent old new replies.text.items fault → AreFirstSent f lines log new_log old new fault
first_sent f lines log new_log old new none replies fault no_text (count, within, has) sent = (
  count,
  within,
  record {
    replies = has.replies;
    told = has.told;
    text = subst (λ text. IsSent old new text fault) (has.has.text ∙ ap (λ text. text ++ flat_map text_of has.replies) no_text) sent;
  },
)

-- no line was answered
pub none_sent : (f : FolderSetup) (lines : List (List ℕ)) (log : Tenures) (contents : Option (List ℕ)) (fault : TableFault) → AreFirstSent f lines log log contents contents fault
none_sent f lines log contents fault =
    (0, omega arith, record { replies = []; told = none_told f lines log log refl; text = inl (Appends-nil contents) })

-- a text is sent behind others
sent_more : (old mid new : Option (List ℕ)) (front text : List ℕ) (fault : TableFault) → Appends old mid front → IsSent mid new text fault → IsSent old new (front ++ text) fault
sent_more old mid new front text fault before (inl whole) = inl (Appends-trans old mid new front text before whole)
sent_more old mid new front text fault before (inr (failed, begun)) =
    inr (
      failed,
      record {
        count = length front + begun.count;
        written = subst (Appends old new) (sym (take-append-add front text begun.count)) (Appends-trans old mid new front (take begun.count text) before begun.written);
      },
    )

-- replies are sent behind those to other lines
pub all_sent : (f : FolderSetup) (front group others : List (List ℕ)) (log mid_log new_log : Tenures) (old mid new : Option (List ℕ)) (ending : Ending) (fault : TableFault)
    → AreWritten f front log mid_log old mid ending → AreSent f group others mid_log new_log mid new fault → AreSent f (front ++ group) others log new_log old new fault
all_sent f front group others log mid_log new_log old mid new ending fault before more =
    record {
      replies = before.replies ++ more.replies;
      told = told_more f front group others before.replies more.replies log mid_log new_log before.told more.told;
      text = subst (λ text. IsSent old new text fault) (sym (texts_more before.replies more.replies))
          (sent_more old mid new (flat_map text_of before.replies) (flat_map text_of more.replies) fault before.text more.text);
    }

-- the lines before the rest were answered, and of the rest the first
pub turn_stopped : (f : FolderSetup) (lines rest : List (Vec ℕ Global)) (log mid_log new_log : Tenures) (old mid new : Option (List ℕ)) (ending : Ending) (fault : TableFault)
    → Turns f lines rest log mid_log old mid ending → AreFirstSent f (bytes_of rest) mid_log new_log mid new fault → AreFirstSent f (bytes_of lines) log new_log old new fault
turn_stopped f lines rest log mid_log new_log old mid new ending fault (before, within, rest_is, written) (more, below, sent) =
    let all = bytes_of lines in
    let rest_of : bytes_of rest ≡ drop before all = ap bytes_of rest_is ∙ sym (drop-map (λ (v : Vec ℕ Global). v.items) before lines) in
    let is : take before all ++ take more (bytes_of rest) ≡ take (before + more) all =
    ap (λ group. take before all ++ take more group) rest_of ∙ sym (take-add before more all) in
    let left : drop more (bytes_of rest) ≡ drop (before + more) all = ap (drop more) rest_of ∙ drop-drop more before all in (
      before + more,
      omega (arith, within, below, ap length rest_is, length-drop before lines, length-map lines (λ (v : Vec ℕ Global). v.items), length-map rest (λ (v : Vec ℕ Global). v.items)),
      subst (λ others. AreSent f (take (before + more) all) others log new_log old new fault) left
          (subst (λ first. AreSent f first (drop more (bytes_of rest)) log new_log old new fault) is
          (all_sent f (take before all) (take more (bytes_of rest)) (drop more (bytes_of rest)) log mid_log new_log old mid new ending fault written sent)),
    )

-- all that was read is answered
written_sent : (f : FolderSetup) (lines : List (List ℕ)) (log new_log : Tenures) (old new : Option (List ℕ)) (ending : Ending) (fault : TableFault)
    → AreWritten f lines log new_log old new ending → AreSent f lines [] log new_log old new fault
written_sent f lines log new_log old new ending fault written = record { replies = written.replies; told = written.told; text = inl written.text }

first_brought : (input left : Option (List ℕ)) (lines : List (List ℕ)) → BringsLines input left lines → AreFirstBrought input lines
first_brought None left lines brings = tt
first_brought (Some text) None lines brings = absurd brings
first_brought (Some text) (Some rest) lines brings =
    (length lines, sym (ap (take (length lines)) brings ∙ take-append-le (length lines) lines (brought_lines rest) (omega arith) ∙ take-length lines))

-- the input brings no further line
pub input_stopped : (f : FolderSetup) (input left : Option (List ℕ)) (log new_log : Tenures) (old new : Option (List ℕ)) (ending : Ending) (fault : TableFault)
    → AnswersSoFar f input left log new_log old new ending → SendsInput f input log new_log old new fault
input_stopped f input left log new_log old new ending fault (lines, brings, written) =
    (lines, [], subst (AreFirstBrought input) (sym (append-nil lines)) (first_brought input left lines brings), written_sent f lines log new_log old new ending fault written)

-- a group of lines was not answered to its end
pub group_stopped : (f : FolderSetup) (group : List (List ℕ)) (input before left : Option (List ℕ)) (log mid_log new_log : Tenures) (old mid new : Option (List ℕ)) (ending : Ending) (fault : TableFault)
    → AnswersSoFar f input before log mid_log old mid ending → BringsLines before left group → AreFirstSent f group mid_log new_log mid new fault
    → SendsInput f input log new_log old new fault
group_stopped f group input before left log mid_log new_log old mid new ending fault (lines, brings, written) more (count, within, sent) =
    let first = take count group in
    let others = drop count group in
    let all : lines ++ group ≡ (lines ++ first) ++ others = ap (λ (g : List (List ℕ)). lines ++ g) (sym (take-append-drop count group)) ∙ sym (append_assoc lines first others) in (
      lines ++ first,
      others,
      subst (AreFirstBrought input) all (first_brought input left (lines ++ group) (brings_more input before left lines group brings more)),
      all_sent f lines first others log mid_log new_log old mid new ending fault written sent,
    )
