-- The text of a line of a report.
use Rattle.std.specs.Prelude.{◌≡◌, ◌≤◌, ℕ, true, List, [], ◌∷◌, codes, decimal, Option, Some, None}
use Rattle.std.specs.List.{join_with_byte}
use Rattle.call_words.specs.declared.verb.Verb.{Verb}
use Rattle.call_words.specs.declared.verb.Verb.TheVariants.{Get, Put}
use Rattle.call_words.specs.Replies.{reply_text}
use Rattle.call_words.specs.Calls.{call_words}
use Rattle.timeline_drive.specs.declared.entries.Effect.{Effect}
use Rattle.timeline_drive.specs.Entries.{Times, Entry, is_shown_name, is_ordered}
use Rattle.timeline_drive.specs.Reports.{line_at}

-- the last step, or `-`
abbrev pub last_text : Option ℕ → List ℕ
last_text None = codes "-"
last_text (Some last) = decimal last

abbrev pub point_text : Option Effect → List ℕ
point_text None = codes "-"
point_text (Some effect) = decimal effect.point

abbrev pub answer_text : Option Effect → List ℕ
answer_text None = codes "-"
answer_text (Some effect) = reply_text effect.reply

abbrev pub times_words : Times → List (List ℕ)
times_words t =
    codes "first" ∷ decimal t.first ∷ codes "last" ∷ last_text t.last
    ∷ codes "point" ∷ point_text t.effect ∷ codes "reply" ∷ answer_text t.effect ∷ []

-- the words of a line
abbrev pub line_words : Entry → List (List ℕ)
line_words e =
    codes "call" ∷ decimal e.number ∷ (116 ∷ decimal e.thread) ∷ call_words e.verb e.name (times_words e.times)

-- the text of a line, without its end
abbrev pub line_text : Entry → List ℕ
line_text e = join_with_byte 32 (line_words e)

-- the worker of a call is below 64
abbrev pub HasWorker : Verb → Type 0
HasWorker (Get worker) = worker ≤ 63
HasWorker (Put worker) = worker ≤ 63
HasWorker _ = Unit {0}

abbrev pub IsLast : Option ℕ → Type 0
IsLast None = Unit {0}
IsLast (Some last) = last ≤ 999999

abbrev pub IsEffect : Option Effect → Type 0
IsEffect None = Unit {0}
IsEffect (Some effect) = effect.point ≤ 999999

-- the numbers and the name of a call are in range, and its point lies within it
pub record IsEntry (e : Entry) : Type 0 where
  pub number : e.number ≤ 999999
  pub thread : e.thread ≤ 63
  pub worker : HasWorker e.verb
  pub name : is_shown_name e.name ≡ true
  pub first : e.times.first ≤ 999999
  pub last : IsLast e.times.last
  pub effect : IsEffect e.times.effect
  pub ordered : is_ordered e.times ≡ true

-- the text of a call, read again, is that call
abbrev pub ReadsBack : Type 0
ReadsBack = (e : Entry) → IsEntry e → line_at e.number (line_text e) ≡ Some e
