-- More lines are answered behind others.
use Rattle.std.proofs.Common.{arith, ◌≡◌, refl, sym, ap, subst, ◌∙◌, ℕ, zero, suc, ◌+◌, ◌-◌, ◌<◌, ◌≤◌, List, [], ◌∷◌, ◌++◌, length, map, take, drop, get_or, Vec, Result, Ok, Err, OnErr}
use Rattle.std.specs.List.{flat_map}
use Rattle.std.specs.declared.alloc.Global.{Global}
use Rattle.std.proofs.lemmas.List.{append_assoc, append-nil, take-append-le, take-append-drop, take-map, drop-map, take_more, length-append, length-take-le, length-map, map-append}
use Rattle.std.proofs.Math.Seq.{take-append-add, take-add, take-length}
use Rattle.line_journal.specs.Device.{History, AlwaysLeaves}
use Rattle.std.proofs.lemmas.List.Elements.{All-take, All-drop}
use Rattle.line_journal.specs.Lines.{IsLine, AreLines, bytes_of}
use Rattle.line_journal.proofs.Moments.{implies, joined, leaves_now}
use Rattle.modprobe.specs.Setup.{Setup}
use Rattle.modprobe.specs.Outcomes.{Outcome, text_of}
use Rattle.held_table.specs.Held.{Held}
use Rattle.held_lines.specs.declared.reply.HeldReply.{HeldReply}
use Rattle.held_lines.specs.Outcomes.{held_line_outcome, after}
use Rattle.durable_table.specs.Durable.{FileStands}
use Rattle.durable_table.specs.Groups.{replies_of, AfterFirstOf}
use Rattle.gz_table_drive.specs.declared.answering.Replies.{Replies}
use Rattle.table_folder.specs.Endings.{ending_of_outcome}
use Rattle.gz_table_drive.specs.Answers.{HasMore, HasAnswered, StandsAfter, StoppedWithin}

pub after_more : (s : Setup) (h : Held) (lines more : List (List ℕ)) → after s h (lines ++ more) ≡ after s (after s h lines) more
after_more s h [] more = refl
after_more s h (line ∷ lines) more = after_more s (held_line_outcome s h line).1 lines more

pub replies_more : (s : Setup) (h : Held) (lines more : List (List ℕ)) → replies_of s h (lines ++ more) ≡ replies_of s h lines ++ replies_of s (after s h lines) more
replies_more s h [] more = refl
replies_more s h (line ∷ lines) more = ap (λ rest. (held_line_outcome s h line).0 ∷ rest) (replies_more s (held_line_outcome s h line).1 lines more)

-- the first replies are those to the first lines
pub replies_first : (s : Setup) (h : Held) (count : ℕ) (lines : List (List ℕ)) → take count (replies_of s h lines) ≡ replies_of s h (take count lines)
replies_first s h zero lines = refl
replies_first s h (suc count) [] = refl
replies_first s h (suc count) (line ∷ lines) = ap (λ rest. (held_line_outcome s h line).0 ∷ rest) (replies_first s (held_line_outcome s h line).1 count lines)

pub length_replies : (s : Setup) (h : Held) (lines : List (List ℕ)) → length (replies_of s h lines) ≡ length lines
length_replies s h [] = refl
length_replies s h (line ∷ lines) = ap suc (length_replies s (held_line_outcome s h line).1 lines)

pub texts_more : (first more : List Outcome) → flat_map text_of (first ++ more) ≡ flat_map text_of first ++ flat_map text_of more
texts_more [] more = refl
texts_more (reply ∷ first) more =
    ap (λ rest. text_of reply ++ rest) (texts_more first more) ∙ sym (append_assoc (text_of reply) (flat_map text_of first) (flat_map text_of more))

-- no reply more
pub none_more : (old new : Replies) → new.text.items ≡ old.text.items → new.endings.items ≡ old.endings.items → HasMore [] old new
none_more old new text ends = record { text = text ∙ sym (append-nil old.text.items); endings = ends ∙ sym (append-nil old.endings.items) }

-- replies, and more of them
pub has_more : (first more : List Outcome) (old mid new : Replies) → HasMore first old mid → HasMore more mid new → HasMore (first ++ more) old new
has_more first more old mid new one other =
    record {
      text = other.text ∙ ap (λ text. text ++ flat_map text_of more) one.text
          ∙ append_assoc old.text.items (flat_map text_of first) (flat_map text_of more)
          ∙ ap (λ text. old.text.items ++ text) (sym (texts_more first more));
      endings = other.endings ∙ ap (λ ends. ends ++ map ending_of_outcome more) one.endings
          ∙ append_assoc old.endings.items (map ending_of_outcome first) (map ending_of_outcome more)
          ∙ ap (λ ends. old.endings.items ++ ends) (sym (map-append ending_of_outcome first more));
    }

-- the replies to lines, and to more lines behind them
pub answered_more : (s : Setup) (h : Held) (lines more : List (List ℕ)) (old mid new : Replies)
    → HasAnswered s h lines old mid → HasAnswered s (after s h lines) more mid new → HasAnswered s h (lines ++ more) old new
answered_more s h lines more old mid new first second =
    subst (λ replies. HasMore replies old new) (sym (replies_more s h lines more)) (has_more (replies_of s h lines) (replies_of s (after s h lines) more) old mid new first second)

-- the first lines, behind others
pub first_behind : (front group rest : List (List ℕ)) (count : ℕ) → count ≤ length group → take (length front + count) (front ++ (group ++ rest)) ≡ front ++ take count group
first_behind front group rest count within =
    take-append-add front (group ++ rest) count ∙ ap (λ more. front ++ more) (take-append-le count group rest within)

-- the lines of a group stand behind others
abbrev pub IsBehind : List (List ℕ) → List (List ℕ) → List (List ℕ) → Type 0
IsBehind front group lines = (rest : List (List ℕ)) × (lines ≡ front ++ (group ++ rest))

group_within : (front group lines : List (List ℕ)) → IsBehind front group lines → (count : ℕ) → count ≤ length group → length front + count ≤ length lines
group_within front group lines (rest, is) count within =
    let all : length lines ≡ length front + (length group + length rest) = ap length is ∙ length-append front (group ++ rest) ∙ ap (λ n. length front + n) (length-append group rest) in
    omega (arith, all, within)

pub group_first : (front group lines : List (List ℕ)) → IsBehind front group lines → (count : ℕ) → count ≤ length group → take (length front + count) lines ≡ front ++ take count group
group_first front group lines (rest, is) count within = ap (take (length front + count)) is ∙ first_behind front group rest count within

pub stands_more : (s : Setup) (h : Held) (front group lines : List (List ℕ)) (least : ℕ) → IsBehind front group lines → (file : List ℕ)
    → StandsAfter least s (after s h front) group file → StandsAfter (length front + least) s h lines file
stands_more s h front group lines least behind file (count, no_fewer, within, stands) = (
  length front + count,
  omega (arith, no_fewer),
  group_within front group lines behind count within,
  subst (λ found. FileStands s found file) (sym (ap (after s h) (group_first front group lines behind count within) ∙ after_more s h front (take count group))) stands,
)

-- a crash at any moment of a group leaves the first lines of all
pub moments_more : (s : Setup) (h : Held) (front group lines : List (List ℕ)) (old mid new : History) → IsBehind front group lines
    → AlwaysLeaves old mid (AfterFirstOf s h lines) → AlwaysLeaves mid new (AfterFirstOf s (after s h front) group) → AlwaysLeaves old new (AfterFirstOf s h lines)
moments_more s h front group lines old mid new behind before within =
    joined before (implies within (λ file (count, below, stands).
    let all = stands_more s h front group lines 0 behind file (count, omega arith, below, stands) in
    (all.0, all.2, all.3)))

-- a group that was stopped stops all
pub stopped_more : (s : Setup) (h : Held) (front group lines : List (List ℕ)) (leaves : List ℕ → Type 0) (old mid new : Replies) → IsBehind front group lines
    → HasAnswered s h front old mid → StoppedWithin s (after s h front) group leaves mid new → StoppedWithin s h lines leaves old new
stopped_more s h front group lines leaves old mid new behind before stopped =
    record {
      count = length front + stopped.count;
      within = group_within front group lines behind stopped.count stopped.within;
      answered = subst (λ first. HasAnswered s h first old new) (sym (group_first front group lines behind stopped.count stopped.within))
          (answered_more s h front (take stopped.count group) old mid new before stopped.answered);
      left = λ file left. stands_more s h front group lines stopped.count behind file (stopped.left file left);
    }

-- a group of which no line was answered
pub stopped_before : (s : Setup) (h : Held) (group : List (List ℕ)) (before now : History) (replies : Replies)
    → AlwaysLeaves before now (AfterFirstOf s h group) → StoppedWithin s h group now.leaves replies replies
stopped_before s h group before now replies always =
    record {
      count = 0;
      within = omega arith;
      answered = none_more replies replies refl refl;
      left = λ file left. let stands = leaves_now always file left in (stands.0, omega arith, stands.1, stands.2);
    }

-- a group that was made, and of which not all replies are there
pub stopped_after : (s : Setup) (h : Held) (group : List (List ℕ)) (leaves : List ℕ → Type 0) (count : ℕ) (replies : List Outcome) (old new : Replies)
    → replies ≡ replies_of s h group → count ≤ length replies → HasMore (take count replies) old new
    → ((file : List ℕ) → leaves file → FileStands s (after s h group) file) → StoppedWithin s h group leaves old new
stopped_after s h group leaves count replies old new are below has made =
    let within : count ≤ length group = omega (arith, below, ap length are, length_replies s h group) in
    record {
      count = count;
      within = within;
      answered = subst (λ first. HasMore first old new) (ap (take count) are ∙ replies_first s h count group) has;
      left = λ file left. (length group, within, omega arith, subst (λ lines. FileStands s (after s h lines) file) (sym (take-length group)) (made file left));
    }

-- a group of lines stands behind those before it
pub group_behind : (lines : List (Vec ℕ Global)) (start end : ℕ) → IsBehind (take start (bytes_of lines)) (bytes_of (take (end - start) (drop start lines))) (bytes_of lines)
group_behind lines start end =
    let later = drop start lines in (
      bytes_of (drop (end - start) later),
      sym (take-append-drop start (bytes_of lines))
          ∙ ap (λ rest. take start (bytes_of lines) ++ rest)
          (drop-map (λ (v : Vec ℕ Global). v.items) start lines ∙ ap bytes_of (sym (take-append-drop (end - start) later)) ∙ map-append (λ (v : Vec ℕ Global). v.items) (take (end - start) later) (drop (end - start) later)),
    )

pub length_front : (lines : List (Vec ℕ Global)) (start : ℕ) → start ≤ length lines → length (take start (bytes_of lines)) ≡ start
length_front lines start within = length-take-le start (bytes_of lines) (omega (arith, within, length-map lines (λ (v : Vec ℕ Global). v.items)))

-- the first lines, up to a place, and those from there to another
pub take_end : (lines : List (Vec ℕ Global)) (start end : ℕ) → start ≤ end → take end (bytes_of lines) ≡ take start (bytes_of lines) ++ bytes_of (take (end - start) (drop start lines))
take_end lines start end le =
    let far : end ≡ start + (end - start) = omega (arith, le) in
    ap (λ n. take n (bytes_of lines)) far ∙ take-add start (end - start) (bytes_of lines)
    ∙ ap (λ more. take start (bytes_of lines) ++ more) (ap (take (end - start)) (drop-map (λ (v : Vec ℕ Global). v.items) start lines) ∙ take-map (λ (v : Vec ℕ Global). v.items) (end - start) (drop start lines))

pub group_lines : (lines : List (Vec ℕ Global)) (start end : ℕ) → AreLines (bytes_of lines) → AreLines (bytes_of (take (end - start) (drop start lines)))
group_lines lines start end are =
    subst AreLines (ap (take (end - start)) (drop-map (λ (v : Vec ℕ Global). v.items) start lines) ∙ take-map (λ (v : Vec ℕ Global). v.items) (end - start) (drop start lines))
    (All-take IsLine (end - start) (drop start (bytes_of lines)) (All-drop IsLine start (bytes_of lines) are))

-- one reply more of those that are added
pub add_more : (answered : List HeldReply) (index : ℕ) (reply : HeldReply) (old mid new : Replies) → index < length answered → reply ≡ get_or answered index reply
    → HasMore (map (λ r. r.reply) (take index answered)) old mid → HasMore (reply.reply ∷ []) mid new → HasMore (map (λ r. r.reply) (take (index + 1) answered)) old new
add_more answered index reply old mid new lt is so_far one =
    subst (λ replies. HasMore replies old new)
    (sym (ap (map (λ r. r.reply)) (take_more answered index reply lt ∙ ap (λ (r : HeldReply). take index answered ++ r ∷ []) (sym is)) ∙ map-append (λ r. r.reply) (take index answered) (reply ∷ [])))
    (has_more (map (λ r. r.reply) (take index answered)) (reply.reply ∷ []) old mid new so_far one)

pub on_err : {T E : Type 0} {P : Type 0} (r : Result T E) → P → OnErr r P
on_err (Ok value) is = tt
on_err (Err error) is = is
