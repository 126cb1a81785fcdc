-- A line of a report: `call N tT CALL first I last J point K reply R`.
use Rattle.std.specs.Prelude.{ℕ, nat_le, Bool, true, false, not, ◌&&◌, ◌==◌, if◌then◌else◌, List, [], ◌∷◌, length, codes, Option, Some, None}
use Rattle.std.specs.List.{list_all}
use Rattle.std.specs.Option.{option_map, option_and_then}
use Rattle.std.specs.Str.{bytes_eq}
use Rattle.text_parts.specs.Text.{is_name, texts_of}
use Rattle.call_words.specs.declared.verb.Verb.{Verb}
use Rattle.call_words.specs.Replies.{reply_of}
use Rattle.call_words.specs.Calls as calls
use Rattle.call_words.specs.Calls.{Said}
use Rattle.timeline_drive.specs.declared.entries.Effect.{Effect}
use Rattle.timeline_drive.specs.declared.entries.Entry as entry_type
use Rattle.timeline_drive.specs.declared.entries.Found as found_type
use Rattle.timeline_drive.specs.declared.entries.Marked as marked_type
use Rattle.timeline_drive.specs.declared.entries.Times as times_type
use Rattle.timeline_drive.specs.Numbers.{decimal_within, thread_of}

-- when a call was made: its first and its last step, its point and its reply there
pub record Times : Type 0 where
  pub first : ℕ
  pub last : Option ℕ
  pub effect : Option Effect

-- a call of a report
pub record Entry : Type 0 where
  pub number : ℕ
  pub thread : ℕ
  pub verb : Verb
  pub name : List ℕ
  pub times : Times

-- a word, and the words after it
pub record Found : Type 0 where
  pub value : List ℕ
  pub later : List (List ℕ)

-- the words that say when a call was made
pub record Marked : Type 0 where
  pub first : List ℕ
  pub last : List ℕ
  pub point : List ℕ
  pub reply : List ℕ

-- a module's name in normal form
abbrev pub is_shown_name : List ℕ → Bool
is_shown_name word = is_name word && list_all (λ byte. not (byte == 45)) word

abbrev pub shown : Option Said → Option Said
shown None = None
shown (Some said) = if is_shown_name said.name then Some said else None

-- the call that words begin with, by the name of its module in normal form; its worker is below 64
abbrev pub call_of : List (List ℕ) → Option Said
call_of [] = None
call_of (_ ∷ []) = None
call_of (word ∷ worker ∷ later) = shown (calls.call_of (word ∷ worker ∷ later) (decimal_within 63 worker))

-- the last step, or `-`
abbrev pub last_of : List ℕ → Option (Option ℕ)
last_of word = if bytes_eq word (codes "-") then Some None else option_map Some (decimal_within 999999 word)

-- the point and the reply there, or `-` and `-`
abbrev pub effect_of : List ℕ → List ℕ → Option (Option Effect)
effect_of point reply =
    if bytes_eq point (codes "-") && bytes_eq reply (codes "-") then Some None
    else option_and_then (λ point. option_map (λ reply. Some (record { point = point; reply = reply })) (reply_of reply)) (decimal_within 999999 point)

abbrev pub lies_within : ℕ → Option ℕ → Option Effect → Bool
lies_within first (Some last) (Some effect) = nat_le first effect.point && nat_le effect.point last
lies_within first None (Some effect) = nat_le first effect.point
lies_within first (Some last) None = false
lies_within first None None = true

-- the point lies within the call, and a call that has returned has one
abbrev pub is_ordered : Times → Bool
is_ordered times = lies_within times.first times.last times.effect

abbrev pub ordered : Times → Option Times
ordered times = if is_ordered times then Some times else None

-- the times, if each of their words is one
abbrev pub times_with : Option ℕ → Option (Option ℕ) → Option (Option Effect) → Option Times
times_with (Some first) (Some last) (Some effect) = ordered (record { first = first; last = last; effect = effect })
times_with None last effect = None
times_with (Some first) None effect = None
times_with (Some first) (Some last) None = None

-- the word after a mark with which words begin, and the words after it
abbrev pub after : List ℕ → List (List ℕ) → Option Found
after mark [] = None
after mark (word ∷ []) = None
after mark (word ∷ value ∷ later) = if bytes_eq word mark then Some (record { value = value; later = later }) else None

-- the words after a call, each behind its mark: `first I last J point K reply R`, and nothing after
abbrev pub marked_of : List (List ℕ) → Option Marked
marked_of words =
    option_and_then (λ first. option_and_then (λ last. option_and_then (λ point. option_and_then (λ reply.
    if length reply.later == 0
    then Some (record { first = first.value; last = last.value; point = point.value; reply = reply.value }) else None)
    (after (codes "reply") point.later)) (after (codes "point") last.later)) (after (codes "last") first.later)) (after (codes "first") words)

-- the times in the words after a call
abbrev pub times_of : List (List ℕ) → Option Times
times_of words =
    option_and_then (λ marked. times_with (decimal_within 999999 marked.first) (last_of marked.last) (effect_of marked.point marked.reply))
    (marked_of words)

-- the entry of a number and the words after it
abbrev pub entry_behind : List ℕ → List (List ℕ) → Option Entry
entry_behind number [] = None
entry_behind number (thread ∷ later) =
    option_and_then (λ number. option_and_then (λ thread. option_and_then (λ said. option_map (λ times.
    record { number = number; thread = thread; verb = said.verb; name = said.name; times = times })
    (times_of said.later)) (call_of later)) (thread_of thread)) (decimal_within 999999 number)

-- the entry that the words of a line are: `call N tT`, a call, and its times
abbrev pub entry_of : List (List ℕ) → Option Entry
entry_of words = option_and_then (λ found. entry_behind found.value found.later) (after (codes "call") words)

-- what the program holds, as these definitions have it
abbrev pub times_in : times_type.Times → Times
times_in t = record { first = t.first; last = t.last; effect = t.effect }

abbrev pub found_in : found_type.Found → Found
found_in f = record { value = f.value.now; later = texts_of f.later.now }

abbrev pub marked_in : marked_type.Marked → Marked
marked_in m = record { first = m.first.now; last = m.last.now; point = m.point.now; reply = m.reply.now }

abbrev pub entry_in : entry_type.Entry → Entry
entry_in e = record {
  number = e.number;
  thread = e.thread;
  verb = e.verb;
  name = e.name.now;
  times = record { first = e.first; last = e.last; effect = e.effect };
}
