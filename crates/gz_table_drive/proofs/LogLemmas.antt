-- The tenures of a run, one after another.
use Rattle.std.proofs.Common.{arith, ◌≡◌, refl, sym, ap, subst, ◌∙◌, ℕ, zero, suc, Bool, ◌+◌, ◌-◌, ◌<◌, ◌≤◌, List, [], ◌∷◌, ◌++◌, length, take, drop, take-add, get_or, set, slice_set, slice_index_or, Option, Some, None, Result, Ok, Err, IfOk, OnOk, OnErr, IfSome}
use Rattle.std.specs.declared.snapshot.Snapshot.{Snapshot}
use Rattle.std.proofs.lemmas.List.{append_assoc, append-nil, length-append, set_at, get_or_at}
use Rattle.std.proofs.lemmas.List.Elements.{All-take}
use Rattle.std.proofs.lemmas.Option.{none-some}
use Rattle.table_folder.specs.Setups.{IsReadFrom}
use Rattle.table_folder.specs.declared.folder_setup.FolderSetup.{FolderSetup}
use Rattle.modprobe.specs.Outcomes.{Outcome}
use Rattle.held_table.specs.Held.{Held}
use Rattle.held_lines.specs.Outcomes.{after}
use Rattle.durable_table.specs.Durable.{FileStands}
use Rattle.durable_table.specs.Groups.{replies_of, AreAsking}
use Rattle.file_journal.specs.Belief.{history_of}
use Rattle.file_journal.specs.declared.belief.Belief.{Belief}
use Rattle.gz_table_drive.specs.declared.answering.Replies.{Replies}
use Rattle.gz_table_drive.specs.declared.log.Tenure.{Tenure}
use Rattle.gz_table_drive.specs.declared.log.Tenures.{Tenures}
use Rattle.gz_table_drive.specs.Answers.{HasAnswered, HasAnsweredFirst, StandsAfter, StoppedWithin}
use Rattle.gz_table_drive.specs.Log.{AreTenures, HasBegun, HasEndedWith, HasGrown, HasBegunOver, HasEnded, HasMade, HasRepaired, HasRepairedOf, HasTold, HasToldFirst, HaveTold, IsJournalOf, IsOf, IsTenure, LeavesAfter, LeavesBehind, LeavesOf}
use Rattle.gz_table_drive.proofs.AnswerLemmas.{length_replies, none_more}
use Rattle.gz_table_drive.proofs.AskLemmas.{Asks}

-- the last of some tenures is another one now
pub last_set : (noted earlier : List Tenure) (before now : Tenure) (index : ℕ) → index ≡ length noted - 1 → noted ≡ earlier ++ before ∷ []
    → slice_set noted index now ≡ earlier ++ now ∷ []
last_set noted earlier before now index at is =
    let long : length earlier ≡ index = omega (arith, at, ap length is, length-append earlier (before ∷ [])) in
    ap (λ l. set l index now) is ∙ set_at earlier _ _ now index long

pub last_read : (noted earlier : List Tenure) (before last : Tenure) (index : ℕ) → index ≡ length noted - 1 → noted ≡ earlier ++ before ∷ []
    → last ≡ slice_index_or noted index last → last ≡ before
last_read noted earlier before last index at is read =
    let long : length earlier ≡ index = omega (arith, at, ap length is, length-append earlier (before ∷ [])) in
    read ∙ ap (λ l. get_or l index last) is ∙ get_or_at earlier _ _ last index long

take_none : (count : ℕ) → let none : List (List ℕ) = [] in take count none ≡ none
take_none zero = refl
take_none (suc count) = refl

-- what has no others behind it may have some
others_left : (f : FolderSetup) (h : Held) (lines others : List (List ℕ)) (left : Option (Snapshot Belief)) → IfSome left (λ last. LeavesBehind f h lines [] last.value)
    → IfSome left (λ last. LeavesBehind f h lines others last.value)
others_left f h lines others None leaves = tt
others_left f h lines others (Some last) leaves = λ file left.
    let stands = leaves file left in (0, subst (λ rest. IsJournalOf f (after f.setup h (lines ++ rest)) file) (take_none stands.0) stands.1)

others_behind : (f : FolderSetup) (lines others : List (List ℕ)) (replies : List Outcome) (tenure : Tenure) → IsTenure f lines [] replies tenure → IsTenure f lines others replies tenure
others_behind f lines others replies tenure is =
    record { held = is.held; found = is.found; answered = is.answered; left = others_left f is.held lines others tenure.left.value is.left; asks = is.asks }

with_others : (f : FolderSetup) (lines others : List (List ℕ)) (replies : List Outcome) (tenures : List Tenure) → AreTenures f lines [] replies tenures → AreTenures f lines others replies tenures
with_others f lines others replies [] are = are
with_others f lines others replies (tenure ∷ later) (own, more, first, next, lines_are, replies_are, is, behind) =
    (own, more, first, next, lines_are, replies_are, others_behind f own others first tenure is, with_others f more others next later behind)

tenures_more : (f : FolderSetup) (lines more others : List (List ℕ)) (replies next : List Outcome) (tenures later : List Tenure) → AreTenures f lines others replies tenures
    → AreTenures f more others next later → AreTenures f (lines ++ more) others (replies ++ next) (tenures ++ later)
tenures_more f lines more others replies next [] later (no_line, no_reply) behind =
    subst (λ (l : List (List ℕ)). AreTenures f (l ++ more) others (replies ++ next) later) (sym no_line)
    (subst (λ (r : List Outcome). AreTenures f more others (r ++ next) later) (sym no_reply) behind)
tenures_more f lines more others replies next (tenure ∷ tenures) later (own, rest, first, further, lines_are, replies_are, is, are) behind = (
  own,
  rest ++ more,
  first,
  further ++ next,
  ap (λ (l : List (List ℕ)). l ++ more) lines_are ∙ append_assoc own rest more,
  ap (λ (r : List Outcome). r ++ next) replies_are ∙ append_assoc first further next,
  is,
  tenures_more f rest more others further next tenures later are behind,
)

length_told : (f : FolderSetup) (lines others : List (List ℕ)) (replies : List Outcome) (tenures : List Tenure) → AreTenures f lines others replies tenures → length replies ≡ length lines
length_told f lines others replies [] (no_line, no_reply) = ap length no_reply ∙ sym (ap length no_line)
length_told f lines others replies (tenure ∷ later) (own, more, first, next, lines_are, replies_are, is, are) =
    omega (
      arith,
      ap length replies_are,
      length-append first next,
      ap length lines_are,
      length-append own more,
      ap length is.answered,
      length_replies f.setup is.held own,
      length_told f more others next later are,
    )

-- a reply to each line
pub as_many : (f : FolderSetup) (lines others : List (List ℕ)) (replies : List Outcome) (log new : Tenures) → HaveTold f lines others replies log new → length replies ≡ length lines
as_many f lines others replies log new told = length_told f lines others replies told.tenures told.are

-- no tenure more
pub none_told : (f : FolderSetup) (others : List (List ℕ)) (log new : Tenures) → new.noted.items ≡ log.noted.items → HaveTold f [] others [] log new
none_told f others log new same = record { tenures = []; more = same ∙ sym (append-nil log.noted.items); are = (refl, refl) }

-- the same tenures, though others may have taken effect
pub told_of_all : (f : FolderSetup) (lines others : List (List ℕ)) (replies : List Outcome) (log new : Tenures) → HaveTold f lines [] replies log new → HaveTold f lines others replies log new
told_of_all f lines others replies log new told =
    record { tenures = told.tenures; more = told.more; are = with_others f lines others replies told.tenures told.are }

-- further tenures
pub told_more : (f : FolderSetup) (lines more others : List (List ℕ)) (replies next : List Outcome) (log mid new : Tenures) → HaveTold f lines [] replies log mid
    → HaveTold f more others next mid new → HaveTold f (lines ++ more) others (replies ++ next) log new
told_more f lines more others replies next log mid new first second =
    record {
      tenures = first.tenures ++ second.tenures;
      more = second.more ∙ ap (λ (l : List Tenure). l ++ second.tenures) first.more ∙ append_assoc log.noted.items first.tenures second.tenures;
      are = tenures_more f lines more others replies next first.tenures second.tenures (with_others f lines others replies first.tenures first.are) second.are;
    }

-- one tenure
one_told : (f : FolderSetup) (lines others : List (List ℕ)) (replies : List Outcome) (tenure : Tenure) (log new : Tenures) → new.noted.items ≡ log.noted.items ++ tenure ∷ []
    → IsTenure f lines others replies tenure → HaveTold f lines others replies log new
one_told f lines others replies tenure log new more is =
    record {
      tenures = tenure ∷ [];
      more = more;
      are = (lines, [], replies, [], sym (append-nil lines), sym (append-nil replies), is, (refl, refl));
    }

-- one that only asked
asking_told : (f : FolderSetup) (h : Held) (lines others : List (List ℕ)) (log new : Tenures) → HasBegunOver f h log new → AreAsking lines
    → HaveTold f lines others (replies_of f.setup h lines) log new
asking_told f h lines others log new (bytes, begun, stands) asks =
    one_told f lines others (replies_of f.setup h lines) begun.tenure log new begun.more
    record {
      held = h;
      found = subst (IsJournalOf f h) (sym begun.found) stands;
      answered = refl;
      left = subst (λ (o : Option (Snapshot Belief)). IfSome o (λ last. LeavesBehind f h lines others last.value)) (sym begun.asks) tt;
      asks = λ none. asks;
    }

-- one that may have changed its table
changed_told : (f : FolderSetup) (h : Held) (lines others : List (List ℕ)) (belief : Belief) (log mid new : Tenures) → HasBegunOver f h log mid → HasEnded belief mid new
    → LeavesBehind f h lines others belief → HaveTold f lines others (replies_of f.setup h lines) log new
changed_told f h lines others belief log mid new (bytes, begun, stands) ends leaves =
    let ended = ends log.noted.items begun.tenure begun.more in
    let is = ended.2 in
    one_told f lines others (replies_of f.setup h lines) ended.0 log new ended.1
    record {
      held = h;
      found = subst (IsJournalOf f h) (sym (ap (λ found. found.bytes.value.items) is.found ∙ begun.found)) stands;
      answered = refl;
      left = subst (λ (o : Option (Snapshot Belief)). IfSome o (λ last. LeavesBehind f h lines others last.value)) (sym is.left)
          (subst (LeavesBehind f h lines others) (sym is.is) leaves);
      asks = λ none. absurd (none-some is.last (sym none ∙ is.left));
    }

-- nothing was asked, and no tenure has begun
pub none_asked : (f : FolderSetup) (lines : List (List ℕ)) (log new : Tenures) (replies : Replies) → new.noted.items ≡ log.noted.items → HasToldFirst f lines log new replies replies
none_asked f lines log new replies same =
    (0, omega arith, record { replies = []; told = none_told f lines log new same; has = none_more replies replies refl refl })

-- what a tenure that only asks answered
pub asked_ok : {E : Type 0} (f : FolderSetup) (h : Held) (lines : List (List ℕ)) (log new_log : Tenures) (old new : Replies) (result : Result ℕ E) → HasBegunOver f h log new_log → AreAsking lines
    → IfOk result (λ count. HasAnswered f.setup h (take count lines) old new) → IfOk result (λ count. HasTold f (take count lines) [] log new_log old new)
asked_ok f h lines log new_log old new (Ok count) begun asks answered =
    record { replies = replies_of f.setup h (take count lines); told = asking_told f h (take count lines) [] log new_log begun (All-take Asks count lines asks); has = answered }
asked_ok f h lines log new_log old new (Err error) begun asks answered = tt

pub asked_err : {E : Type 0} (f : FolderSetup) (h : Held) (lines : List (List ℕ)) (log new_log : Tenures) (old new : Replies) (result : Result ℕ E) → HasBegunOver f h log new_log → AreAsking lines
    → OnErr result (HasAnsweredFirst f.setup h lines old new) → OnErr result (HasToldFirst f lines log new_log old new)
asked_err f h lines log new_log old new (Ok count) begun asks stopped = tt
asked_err f h lines log new_log old new (Err error) begun asks (count, within, answered) = (
  count,
  within,
  record {
    replies = replies_of f.setup h (take count lines);
    told = asking_told f h (take count lines) (drop count lines) log new_log begun (All-take Asks count lines asks);
    has = answered;
  },
)

-- what is left of all lines, and of the setup
left_behind : (f : FolderSetup) (h : Held) (lines : List (List ℕ)) (belief : Belief) → LeavesAfter f.setup h lines belief → LeavesOf f belief → LeavesBehind f h lines [] belief
left_behind f h lines belief after_lines of = λ file left.
    (0, record { stands = subst (λ all. FileStands f.setup (after f.setup h all) file) (sym (append-nil lines)) (after_lines file left); of = of file left })

-- what a tenure answered that may have changed its table
changed_lines : (f : FolderSetup) (h : Held) (lines : List (List ℕ)) (belief : Belief) (log mid new_log : Tenures) (old new : Replies) → HasBegunOver f h log mid → HasEnded belief mid new_log
    → HasAnswered f.setup h lines old new → LeavesAfter f.setup h lines belief → LeavesOf f belief → HasTold f lines [] log new_log old new
changed_lines f h lines belief log mid new_log old new begun ended answered leaves of =
    record { replies = replies_of f.setup h lines; told = changed_told f h lines [] belief log mid new_log begun ended (left_behind f h lines belief leaves of); has = answered }

first_left : (f : FolderSetup) (h : Held) (lines : List (List ℕ)) (count : ℕ) (file : List ℕ) → StandsAfter count f.setup h lines file → IsOf f file
    → (more : ℕ) × IsJournalOf f (after f.setup h (take count lines ++ take more (drop count lines))) file
first_left f h lines count file (all, least, within, stands) of =
    let far : all ≡ count + (all - count) = omega (arith, least) in (
      all - count,
      record {
        stands = subst (λ first. FileStands f.setup (after f.setup h first) file) (ap (λ n. take n lines) far ∙ take-add count (all - count) lines) stands;
        of = of;
      },
    )

changed_first : (f : FolderSetup) (h : Held) (lines : List (List ℕ)) (belief : Belief) (log mid new_log : Tenures) (old new : Replies) → HasBegunOver f h log mid → HasEnded belief mid new_log
    → StoppedWithin f.setup h lines (history_of belief).leaves old new → LeavesOf f belief → HasToldFirst f lines log new_log old new
changed_first f h lines belief log mid new_log old new begun ended stopped of =
    let first = take stopped.count lines in
    let rest = drop stopped.count lines in (
      stopped.count,
      stopped.within,
      record {
        replies = replies_of f.setup h first;
        told = changed_told f h first rest belief log mid new_log begun ended (λ file left. first_left f h lines stopped.count file (stopped.left file left) (of file left));
        has = stopped.answered;
      },
    )

-- the same of what answered lines tells of them
pub noted_ok : {E : Type 0} (f : FolderSetup) (h : Held) (lines : List (List ℕ)) (belief : Belief) (log mid new_log : Tenures) (old new : Replies) (result : Result (ℕ × Bool) E)
    → HasBegunOver f h log mid → HasEnded belief mid new_log → IfOk result (λ done. HasAnswered f.setup h (take done.0 lines) old new)
    → IfOk result (λ done. LeavesAfter f.setup h (take done.0 lines) belief) → LeavesOf f belief → IfOk result (λ done. HasTold f (take done.0 lines) [] log new_log old new)
noted_ok f h lines belief log mid new_log old new (Ok done) begun ended answered leaves of =
    changed_lines f h (take done.0 lines) belief log mid new_log old new begun ended answered leaves of
noted_ok f h lines belief log mid new_log old new (Err error) begun ended answered leaves of = tt

pub noted_err : {T E : Type 0} (f : FolderSetup) (h : Held) (lines : List (List ℕ)) (belief : Belief) (log mid new_log : Tenures) (old new : Replies) (result : Result T E)
    → HasBegunOver f h log mid → HasEnded belief mid new_log → OnErr result (StoppedWithin f.setup h lines (history_of belief).leaves old new) → LeavesOf f belief
    → OnErr result (HasToldFirst f lines log new_log old new)
noted_err f h lines belief log mid new_log old new (Ok done) begun ended stopped of = tt
noted_err f h lines belief log mid new_log old new (Err error) begun ended stopped of =
    changed_first f h lines belief log mid new_log old new begun ended stopped of

-- the same, where no tenure had begun before
told_after : (f : FolderSetup) (lines others : List (List ℕ)) (replies : List Outcome) (log mid new : Tenures) → mid.noted.items ≡ log.noted.items → HaveTold f lines others replies mid new
    → HaveTold f lines others replies log new
told_after f lines others replies log mid new same told =
    record { tenures = told.tenures; more = told.more ∙ ap (λ (l : List Tenure). l ++ told.tenures) same; are = told.are }

has_after : (f : FolderSetup) (lines others : List (List ℕ)) (log mid new_log : Tenures) (old new : Replies) → mid.noted.items ≡ log.noted.items → HasTold f lines others mid new_log old new
    → HasTold f lines others log new_log old new
has_after f lines others log mid new_log old new same has =
    record { replies = has.replies; told = told_after f lines others has.replies log mid new_log same has.told; has = has.has }

pub ok_after : {E : Type 0} (f : FolderSetup) (lines : List (List ℕ)) (log mid new_log : Tenures) (old new : Replies) (result : Result ℕ E) → mid.noted.items ≡ log.noted.items
    → IfOk result (λ count. HasTold f (take count lines) [] mid new_log old new) → IfOk result (λ count. HasTold f (take count lines) [] log new_log old new)
ok_after f lines log mid new_log old new (Ok count) same told = has_after f (take count lines) [] log mid new_log old new same told
ok_after f lines log mid new_log old new (Err error) same told = tt

pub err_after : {E : Type 0} (f : FolderSetup) (lines : List (List ℕ)) (log mid new_log : Tenures) (old new : Replies) (result : Result ℕ E) → mid.noted.items ≡ log.noted.items
    → OnErr result (HasToldFirst f lines mid new_log old new) → OnErr result (HasToldFirst f lines log new_log old new)
err_after f lines log mid new_log old new (Ok count) same told = tt
err_after f lines log mid new_log old new (Err error) same (count, within, told) =
    (count, within, has_after f (take count lines) (drop count lines) log mid new_log old new same told)

-- a tenure that has begun, and has ended
pub ended_with : (bytes : List ℕ) (belief : Belief) (log mid new : Tenures) → HasBegun bytes log mid → HasEnded belief mid new → HasEndedWith bytes belief log new
ended_with bytes belief log mid new begun ends =
    let ended = ends log.noted.items begun.tenure begun.more in
    record {
      tenure = ended.0;
      more = ended.1;
      found = ap (λ found. found.bytes.value.items) ended.2.found ∙ begun.found;
      last = ended.2.last;
      left = ended.2.left;
      is = ended.2.is;
    }

pub grown_none : (log new : Tenures) → new.noted.items ≡ log.noted.items → HasGrown log new
grown_none log new same = ([], same ∙ sym (append-nil log.noted.items))

pub grown_one : (bytes : List ℕ) (log new : Tenures) → HasBegun bytes log new → HasGrown log new
grown_one bytes log new begun = (begun.tenure ∷ [], begun.more)

pub grown_ended : (bytes : List ℕ) (belief : Belief) (log mid new : Tenures) → HasBegun bytes log mid → HasEnded belief mid new → HasGrown log new
grown_ended bytes belief log mid new begun ends =
    let ended = ended_with bytes belief log mid new begun ends in (ended.tenure ∷ [], ended.more)

-- what a tenure repaired, by the setup that was read
pub repaired_by : {T E : Type 0} (file : List ℕ) (found named : FolderSetup) (log new : Tenures) (result : Result T E) → IsReadFrom file found → named ≡ found
    → OnOk result (HasRepairedOf named log new) → OnOk result (HasRepaired log new)
repaired_by file found named log new (Ok value) read same made = (file, found, read, subst (λ (f : FolderSetup). HasRepairedOf f log new) same made)
repaired_by file found named log new (Err error) read same made = tt

-- what a tenure made, if it went well
pub has_made : {T E : Type 0} (f : FolderSetup) (h : Held) (lines : List (List ℕ)) (bytes : List ℕ) (belief : Belief) (log new : Tenures) (result : Result T E) → HasEndedWith bytes belief log new
    → IsJournalOf f h bytes → OnOk result (LeavesAfter f.setup h lines belief) → LeavesOf f belief → OnOk result (HasMade f h lines log new)
has_made f h lines bytes belief log new (Ok value) noted found left of =
    record { bytes = bytes; belief = belief; noted = noted; found = found; left = left_behind f h lines belief left of }
has_made f h lines bytes belief log new (Err error) noted found left of = tt
