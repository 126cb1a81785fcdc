-- What a tenure answered, of a table that its journal stands for.
use Rattle.std.proofs.Common.{arith, ◌≡◌, inl, inr, ⊎_elim, true, Some, refl, sym, ap, subst, ◌∙◌, ℕ, ◌+◌, ◌^◌, ◌<◌, ◌≤◌, List, [], ◌∷◌, ◌++◌, length, map, take, drop, Vec}
use Rattle.std.specs.declared.alloc.Global.{Global}
use Rattle.std.proofs.lemmas.List.{take-append-le, take-append-drop, take-map, length-append, length-map}
use Rattle.line_journal.specs.Lines.{bytes_of, lines_of, open_text, at_rest}
use Rattle.line_journal.specs.Journal.{IsFound}
use Rattle.line_journal.specs.declared.reading.Found.{Found}
use Rattle.line_journal.proofs.FollowLemmas.{reads_at_rest}
use Rattle.line_journal.specs.Device.{History, AlwaysLeaves, IsOnDisk}
use Rattle.line_journal.proofs.Moments.{from_disk, implies, then_run}
use Rattle.durable_table.specs.Commands.{is_of, StaysOf}
use Rattle.durable_table.specs.Durable.{FileStands}
use Rattle.durable_table.specs.Tables.{table_of}
use Rattle.table_folder.specs.declared.folder_setup.FolderSetup.{FolderSetup}
use Rattle.gz_table_drive.specs.Log.{IsJournalOf}
use Rattle.modprobe.specs.Setup.{Setup}
use Rattle.held_table.specs.Held.{Held}
use Rattle.held_lines.specs.declared.reply.HeldReply.{HeldReply}
use Rattle.durable_table.specs.Groups.{replies_of}
use Rattle.gz_table_drive.specs.declared.answering.Replies.{Replies}
use Rattle.gz_table_drive.specs.Answers.{HasMore, HasAnsweredFirst}
use Rattle.gz_table_drive.proofs.AnswerLemmas.{none_more, replies_first, length_replies}

-- of the same setup still
pub stays_of : (f : FolderSetup) (old new : List (List ℕ)) → StaysOf old new → is_of f.name.items old ≡ true → is_of f.name.items new ≡ true
stays_of f old new stays of = stays f.name.items of

-- two things are true of all that a crash leaves
pub both : {old new : History} {P Q : List ℕ → Type 0} → AlwaysLeaves old new P → AlwaysLeaves old new Q → AlwaysLeaves old new (λ file. P file × Q file)
both one other =
    record {
      later = one.later;
      each = λ left is. (one.each left is, other.each left is);
      earlier = λ moment left before is. ⊎_elim inl (λ p. ⊎_elim inl (λ q. inr (p, q)) (other.earlier moment left before is)) (one.earlier moment left before is);
    }

-- a journal of this setup, of this table
pub journal_moments : {old new : History} (f : FolderSetup) (h : Held) → AlwaysLeaves old new (FileStands f.setup h) → AlwaysLeaves old new (λ file. is_of f.name.items (lines_of file) ≡ true)
    → AlwaysLeaves old new (IsJournalOf f h)
journal_moments f h stands of = implies (both stands of) (λ file is. record { stands = is.0; of = is.1 })

-- a journal at rest that is not written to
pub journal_still : (f : FolderSetup) (h : Held) (file : List ℕ) (history : History) → IsOnDisk file history → table_of f.setup file ≡ Some h → is_of f.name.items (lines_of file) ≡ true
    → AlwaysLeaves history history (IsJournalOf f h)
journal_still f h file history on_disk stands of = from_disk history (IsJournalOf f h) file on_disk (record { stands = stands; of = of })

-- further calls leave journals of the setups that the first ones left
pub stays_moments : {old mid new : History} (first second : List (List ℕ)) → AlwaysLeaves old mid (λ file. StaysOf first (lines_of file)) → StaysOf first second
    → AlwaysLeaves mid new (λ file. StaysOf second (lines_of file)) → AlwaysLeaves old new (λ file. StaysOf first (lines_of file))
stays_moments first second before stays more = then_run before more (λ left of name is. of name (stays name is))

-- no line was answered
pub none_first : (s : Setup) (h : Held) (lines : List (List ℕ)) (replies : Replies) → HasAnsweredFirst s h lines replies replies
none_first s h lines replies = (0, omega arith, none_more replies replies refl refl)

-- a journal behind whose lines nothing but a closed gate was found is at rest
pub found_whole : (file later : List ℕ) (found : Found) → IsFound file found → found.behind.items ≡ 32 ∷ [] → length file < 2 ^ 64 → later ≡ file
    → later ≡ at_rest (lines_of later)
found_whole file later found is shut fits same =
    subst (λ f. f ≡ at_rest (lines_of f)) (sym same) (reads_at_rest file (length (open_text (lines_of file))) refl (sym is.rest ∙ shut) fits).whole

-- the replies to the first lines, of which not all are there
pub asked_first : (s : Setup) (h : Held) (count : ℕ) (lines : List (Vec ℕ Global)) (there : ℕ) (made answered : List HeldReply) (old new : Replies)
    → answered ≡ made → map (λ r. r.reply) made ≡ replies_of s h (bytes_of (take count lines)) → there ≤ length answered
    → HasMore (map (λ r. r.reply) (take there answered)) old new → HasAnsweredFirst s h (bytes_of lines) old new
asked_first s h count lines there made answered old new same are below has =
    let all : List (List ℕ) = bytes_of lines in
    let group = take count all in
    let rest = drop count all in
    let replies : map (λ (r : HeldReply). r.reply) answered ≡ replies_of s h group =
    ap (map (λ (r : HeldReply). r.reply)) same ∙ are ∙ ap (replies_of s h) (sym (take-map (λ (v : Vec ℕ Global). v.items) count lines)) in
    let within : there ≤ length group = omega (arith, below, ap length replies, length_replies s h group, length-map answered (λ (r : HeldReply). r.reply)) in
    let split : group ++ rest ≡ all = take-append-drop count all in
    let first : take there group ≡ take there all = sym (take-append-le there group rest within) ∙ ap (take there) split in
    let long : length group + length rest ≡ length all = sym (length-append group rest) ∙ ap length split in (
      there,
      omega (arith, within, long),
      subst (λ outcomes. HasMore outcomes old new)
          (sym (take-map (λ (r : HeldReply). r.reply) there answered) ∙ ap (take there) replies ∙ replies_first s h there group ∙ ap (replies_of s h) first) has,
    )
