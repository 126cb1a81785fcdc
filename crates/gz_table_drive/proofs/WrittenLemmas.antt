-- The replies of one tenure are written behind those of others.
use Rattle.std.proofs.Common.{arith, ◌≡◌, refl, sym, ap, subst, ◌∙◌, ℕ, ◌+◌, ◌-◌, ◌<◌, ◌≤◌, Bool, true, false, List, [], ◌∷◌, ◌++◌, length, map, take, drop, take-add, drop-drop, length-drop, Vec, Option}
use Rattle.std.specs.declared.alloc.Global.{Global}
use Rattle.std.specs.List.{flat_map}
use Rattle.std.specs.Io.KnownBytes.{Appends}
use Rattle.std.proofs.KnownBytes.{Appends-nil, Appends-trans}
use Rattle.std.proofs.lemmas.List.{append-nil, map-append, drop-map, take_all, length-map}
use Rattle.modprobe.specs.Outcomes.{Outcome, text_of}
use Rattle.line_journal.specs.Lines.{bytes_of}
use Rattle.table_words.specs.Endings.{behind, ending_of_lines, is_refusal}
use Rattle.table_words.specs.declared.ending.Ending.{Ending}
use Rattle.table_words.specs.declared.ending.Ending.TheVariants.{Done}
use Rattle.table_folder.specs.Endings.{ending_of_outcome}
use Rattle.table_folder.specs.Setups.{IsReadFrom}
use Rattle.table_folder.specs.declared.folder_setup.FolderSetup.{FolderSetup}
use Rattle.gz_table_drive.specs.declared.answering.Replies.{Replies}
use Rattle.gz_table_drive.specs.declared.log.Tenures.{Tenures}
use Rattle.gz_table_drive.specs.Log.{HasTold, HaveTold}
use Rattle.gz_table_drive.specs.Written.{first_ending, AreWritten, IsAnswered, IsWritten}
use Rattle.gz_table_drive.proofs.AnswerLemmas.{texts_more}
use Rattle.gz_table_drive.proofs.LogLemmas.{as_many, none_told, told_more}

ends_alone : (endings : List Ending) → ending_of_lines endings ≡ behind Done (ending_of_lines endings)
ends_alone [] = refl
ends_alone (ending ∷ endings) = at (is_refusal ending) refl (ends_alone endings) where
  at : (b : Bool) → is_refusal ending ≡ b → ending_of_lines endings ≡ behind Done (ending_of_lines endings) → ending_of_lines (ending ∷ endings) ≡ behind Done (ending_of_lines (ending ∷ endings))
  at true is later = rw is (rw is refl)
  at false is later = rw is later

ends_more : (first second : List Ending) → ending_of_lines (first ++ second) ≡ behind (ending_of_lines first) (ending_of_lines second)
ends_more [] second = ends_alone second
ends_more (ending ∷ first) second = at (is_refusal ending) refl (ends_more first second) where
  at : (b : Bool) → is_refusal ending ≡ b → ending_of_lines (first ++ second) ≡ behind (ending_of_lines first) (ending_of_lines second)
      → ending_of_lines (ending ∷ (first ++ second)) ≡ behind (ending_of_lines (ending ∷ first)) (ending_of_lines second)
  at true is later = rw is (rw is refl)
  at false is later = rw is later

-- nothing is written yet
pub none_written : (f : FolderSetup) (log : Tenures) (contents : Option (List ℕ)) → AreWritten f [] log log contents contents Done
none_written f log contents = record { replies = []; told = none_told f [] log log refl; text = Appends-nil contents; ends = refl }

-- what a tenure answered, before which there was no reply
pub answered_alone : (f : FolderSetup) (lines : List (List ℕ)) (log new_log : Tenures) (none replies : Replies) → none.text.items ≡ [] → none.endings.items ≡ []
    → HasTold f lines [] log new_log none replies → IsAnswered f lines log new_log replies
answered_alone f lines log new_log none replies no_text no_endings has =
    record {
      outcomes = has.replies;
      told = has.told;
      text = has.has.text ∙ ap (λ text. text ++ flat_map text_of has.replies) no_text;
      endings = has.has.endings ∙ ap (λ ends. ends ++ map ending_of_outcome has.replies) no_endings;
    }

-- the replies of one tenure
pub turn_written : (f : FolderSetup) (lines : List (List ℕ)) (log new_log : Tenures) (old new : Option (List ℕ)) (replies : Replies) → IsAnswered f lines log new_log replies
    → Appends old new replies.text.items → AreWritten f lines log new_log old new (ending_of_lines replies.endings.items)
turn_written f lines log new_log old new replies answered appends =
    record { replies = answered.outcomes; told = answered.told; text = subst (Appends old new) answered.text appends; ends = ap ending_of_lines answered.endings }

-- the replies to some lines behind those to others
pub written_more : (f : FolderSetup) (front group : List (List ℕ)) (log mid_log new_log : Tenures) (old mid new : Option (List ℕ)) (ending next : Ending)
    → AreWritten f front log mid_log old mid ending → AreWritten f group mid_log new_log mid new next → AreWritten f (front ++ group) log new_log old new (behind ending next)
written_more f front group log mid_log new_log old mid new ending next before more =
    record {
      replies = before.replies ++ more.replies;
      told = told_more f front group [] before.replies more.replies log mid_log new_log before.told more.told;
      text = subst (Appends old new) (sym (texts_more before.replies more.replies))
          (Appends-trans old mid new (flat_map text_of before.replies) (flat_map text_of more.replies) before.text more.text);
      ends = ap (λ e. behind e next) before.ends
          ∙ ap (behind (ending_of_lines (map ending_of_outcome before.replies))) more.ends
          ∙ sym (ends_more (map ending_of_outcome before.replies) (map ending_of_outcome more.replies))
          ∙ ap ending_of_lines (sym (map-append ending_of_outcome before.replies more.replies));
    }

one_reply : (outcomes : List Outcome) → length outcomes ≡ 1 → (reply : Outcome) × (outcomes ≡ reply ∷ [])
one_reply [] one = absurd (omega (arith, one))
one_reply (reply ∷ []) one = (reply, refl)
one_reply (reply ∷ next ∷ outcomes) one = absurd (omega (arith, one))

-- the reply to one line
pub line_written : (file : List ℕ) (found : FolderSetup) (line : List ℕ) (lines : List (List ℕ)) (log new_log : Tenures) (old new : Option (List ℕ)) (replies : Replies) (ending : Ending)
    → IsReadFrom file found → lines ≡ line ∷ [] → IsAnswered found lines log new_log replies → Appends old new replies.text.items
    → ending ≡ first_ending replies.endings.items → IsWritten line log new_log old new ending
line_written file found line lines log new_log old new replies ending read one answered appends first =
    let only = one_reply answered.outcomes (as_many found lines [] answered.outcomes log new_log answered.told ∙ ap length one) in
    record {
      file = file;
      found = found;
      read = read;
      reply = only.0;
      told = subst (λ outcomes. HaveTold found (line ∷ []) [] outcomes log new_log) only.1 (subst (λ asked. HaveTold found asked [] answered.outcomes log new_log) one answered.told);
      text = subst (Appends old new) (answered.text ∙ ap (flat_map text_of) only.1 ∙ append-nil (text_of only.0)) appends;
      ends = first ∙ ap first_ending (answered.endings ∙ ap (map ending_of_outcome) only.1);
    }

-- the lines before the rest were answered
abbrev pub Turns : FolderSetup → List (Vec ℕ Global) → List (Vec ℕ Global) → Tenures → Tenures → Option (List ℕ) → Option (List ℕ) → Ending → Type 0
Turns f lines rest log now_log old now ending =
    (count : ℕ) × (count ≤ length lines) × (rest ≡ drop count lines) × AreWritten f (take count (bytes_of lines)) log now_log old now ending

pub turns_begin : (f : FolderSetup) (lines : List (Vec ℕ Global)) (log : Tenures) (contents : Option (List ℕ)) → Turns f lines lines log log contents contents Done
turns_begin f lines log contents = (0, omega arith, refl, none_written f log contents)

-- one tenure more
pub turn_more : (f : FolderSetup) (lines rest behind_it : List (Vec ℕ Global)) (log mid_log new_log : Tenures) (old mid new : Option (List ℕ)) (ending : Ending) (replies : Replies) (count : ℕ)
    → Turns f lines rest log mid_log old mid ending → count ≤ length rest → IsAnswered f (take count (bytes_of rest)) mid_log new_log replies
    → Appends mid new replies.text.items → behind_it ≡ drop count rest
    → Turns f lines behind_it log new_log old new (behind ending (ending_of_lines replies.endings.items))
turn_more f lines rest behind_it log mid_log new_log old mid new ending replies count (before, within, rest_is, written) below answered appends behind_is =
    let long : length rest ≡ length lines - before = ap length rest_is ∙ length-drop before lines in
    let front = take before (bytes_of lines) in
    let group = take count (bytes_of rest) in
    let group_is : group ≡ take count (drop before (bytes_of lines)) =
    ap (λ (l : List (Vec ℕ Global)). take count (bytes_of l)) rest_is ∙ ap (take count) (sym (drop-map (λ (v : Vec ℕ Global). v.items) before lines)) in
    let all : front ++ group ≡ take (before + count) (bytes_of lines) = ap (λ more. front ++ more) group_is ∙ sym (take-add before count (bytes_of lines)) in (
      before + count,
      omega (arith, within, below, long),
      behind_is ∙ ap (drop count) rest_is ∙ drop-drop count before lines,
      subst (λ answered. AreWritten f answered log new_log old new (behind ending (ending_of_lines replies.endings.items))) all
          (written_more f front group log mid_log new_log old mid new ending (ending_of_lines replies.endings.items) written
          (turn_written f group mid_log new_log mid new replies answered appends)),
    )

-- no line is left
pub turns_done : (f : FolderSetup) (lines rest : List (Vec ℕ Global)) (log now_log : Tenures) (old now : Option (List ℕ)) (ending : Ending) → Turns f lines rest log now_log old now ending
    → length rest ≡ 0 → AreWritten f (bytes_of lines) log now_log old now ending
turns_done f lines rest log now_log old now ending (count, within, rest_is, written) none =
    let long : length rest ≡ length lines - count = ap length rest_is ∙ length-drop count lines in
    subst (λ answered. AreWritten f answered log now_log old now ending) (take_all count (bytes_of lines) (omega (arith, within, long, none, length-map lines (λ (v : Vec ℕ Global). v.items)))) written

-- of one line, if any is answered, that is
pub alone_answered : (line : List ℕ) (lines : List (List ℕ)) (count : ℕ) → lines ≡ line ∷ [] → 0 < count → take count lines ≡ line ∷ []
alone_answered line lines count one some = take_all count lines (omega (arith, some, ap length one)) ∙ one
