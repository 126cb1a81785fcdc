-- What the lines that bring a table to a kernel's modules leave of its holders, and what is answered of them.
use Rattle.std.proofs.Common.{◌≡◌, refl, sym, ap, subst, ◌∙◌, inl, ℕ, Bool, true, false, cond, Option, Some, None, List, [], ◌∷◌, ◌++◌, length, map, take, codes, get_or, ◌+◌, ◌<◌}
use Rattle.std.specs.Bool.{⊤}
use Rattle.std.specs.List.{flat_map}
use Rattle.std.specs.Str.{bytes_eq}
use Rattle.std.proofs.lemmas.List.{take_more, take-map, map-append, append_assoc}
use Rattle.std.proofs.lemmas.List.Elements.{filter-append}
use Rattle.text_parts.specs.Text.{words, normal_form}
use Rattle.dep_index.specs.Table.{Table}
use Rattle.dep_index.specs.Catalogue.{Description, description_at, modules_of, slot_named}
use Rattle.dep_index.specs.Calls.{next, IsInRange}
use Rattle.dep_index.specs.Laws.{IsShaped, IsLawful}
use Rattle.dep_index.specs.declared.table.calls.Call.{Call}
use Rattle.dep_index.specs.declared.table.calls.Call.TheVariants as call
use Rattle.dep_index.proofs.RunLaws.{next_shaped, next_lawful}
use Rattle.modprobe.specs.Setup.{Setup}
use Rattle.modprobe.specs.Outcomes.{text_of}
use Rattle.modprobe.specs.Changes.{half_change}
use Rattle.modprobe.specs.Session.{half_at, half_outcome}
use Rattle.modprobe.specs.declared.half.Half.{Half}
use Rattle.modprobe.specs.declared.half.Half.TheVariants as half_is
use Rattle.modprobe.proofs.SlotLemmas.{slot_below}
use Rattle.held_table.specs.Held.{Held}
use Rattle.held_lines.specs.Lines as asked
use Rattle.held_lines.specs.Outcomes.{asked_outcome, held_line_outcome, after}
use Rattle.held_lines.specs.declared.reply.HeldReply.{HeldReply}
use Rattle.held_lines.proofs.LawLemmas.{keeps_held}
use Rattle.held_lines.proofs.RowLemmas.{half_rows}
use Rattle.durable_table.specs.Groups.{replies_of}
use Rattle.table_adopt.specs.declared.step.Step.{Step}
use Rattle.table_adopt.specs.declared.step.Step.TheVariants.{BeginLoad, EndLoad, BeginRemove, EndRemove}
use Rattle.table_adopt.specs.declared.kernel.KernelModule.{KernelModule}
use Rattle.table_adopt.specs.Steps.{line_of}
use Rattle.table_adopt.specs.Plans.{steps_for}
use Rattle.table_adopt.specs.Reports.{report_of}
use Rattle.table_folder.specs.Endings.{ending_of_outcome}
use Rattle.gz_table_drive.specs.Answers.{HasMore}
use Rattle.gz_table_drive.specs.Adopting.{adopting_lines, ending_of_report, is_refusal, refused_of, AdoptingKeepsHeld, HasAdopted, HasRefused, HoldsTheSame}
use Rattle.gz_table_drive.specs.declared.answering.Replies.{Replies}
use Rattle.gz_table_drive.proofs.AnswerLemmas.{replies_more, has_more}

-- half of a load or of a removal, or no command
abbrev pub IsHalf : asked.Asked → Type 0
IsHalf (asked.half which name) = ⊤
IsHalf (asked.malformed first) = ⊤
IsHalf _ = ⊥

with_half_is : (first : List ℕ) (half : Half) (rest : List (List ℕ)) → IsHalf (asked.with_half first half rest)
with_half_is first half [] = tt
with_half_is first half (name ∷ []) = at (asked.may_be_name name) where
  at : (b : Bool) → IsHalf (cond b (asked.half half (normal_form name)) (asked.malformed first))
  at true = tt
  at false = tt
with_half_is first half (name ∷ other ∷ rest) = tt

with_end_is : (first : List ℕ) (rest : List (List ℕ)) → IsHalf (asked.with_end first rest)
with_end_is first [] = tt
with_end_is first (name ∷ []) = tt
with_end_is first (name ∷ how ∷ []) = at (bytes_eq how (codes "ok")) (bytes_eq how (codes "fail")) where
  at : (a b : Bool) → IsHalf (cond a (asked.with_half first (half_is.EndLoad true) (name ∷ [])) (cond b (asked.with_half first (half_is.EndLoad false) (name ∷ [])) (asked.malformed first)))
  at true b = with_half_is first (half_is.EndLoad true) (name ∷ [])
  at false true = with_half_is first (half_is.EndLoad false) (name ∷ [])
  at false false = tt
with_end_is first (name ∷ how ∷ other ∷ rest) = tt

-- the line of a step asks for a half
step_is : (catalogue : List Description) (step : Step) → IsHalf (asked.asked_of (line_of catalogue step))
step_is catalogue (BeginLoad m) = with_half_is (codes "begin_load") half_is.BeginLoad (words ((description_at catalogue m).name ++ []))
step_is catalogue (EndLoad m true) = with_end_is (codes "end_load") (words ((description_at catalogue m).name ++ codes " ok"))
step_is catalogue (EndLoad m false) = with_end_is (codes "end_load") (words ((description_at catalogue m).name ++ codes " fail"))
step_is catalogue (BeginRemove m) = with_half_is (codes "begin_remove") half_is.BeginRemove (words ((description_at catalogue m).name ++ []))
step_is catalogue (EndRemove m) = with_half_is (codes "end_remove") half_is.EndRemove (words ((description_at catalogue m).name ++ []))

-- a table of so many workers that is lawful
record IsSound (s : Setup) (workers : ℕ) (t : Table) : Type 0 where
  shape : IsShaped (length (modules_of s.catalogue)) workers t
  lawful : IsLawful (modules_of s.catalogue) t

next_sound : (s : Setup) (workers : ℕ) (t : Table) (c : Call) → IsInRange (length (modules_of s.catalogue)) workers c → IsSound s workers t
    → IsSound s workers (next (modules_of s.catalogue) t c)
next_sound s workers t c range sound =
    record {
      shape = next_shaped (length (modules_of s.catalogue)) workers (modules_of s.catalogue) t c sound.shape;
      lawful = next_lawful (modules_of s.catalogue) workers t c sound.shape sound.lawful range;
    }

change_sound : (s : Setup) (workers slot : ℕ) (half : Half) (t : Table) → slot < length (modules_of s.catalogue) → IsSound s workers t → IsSound s workers (half_change s slot half t).1
change_sound s workers slot half_is.BeginLoad t below = next_sound s workers t (call.BeginLoad slot) (below, tt)
change_sound s workers slot (half_is.EndLoad ok) t below = next_sound s workers t (call.EndLoad slot ok) (below, tt)
change_sound s workers slot half_is.BeginRemove t below = next_sound s workers t (call.BeginRemove slot) (below, tt)
change_sound s workers slot half_is.EndRemove t below = next_sound s workers t (call.EndRemove slot) (below, tt)
change_sound s workers slot half_is.CancelRemove t below = next_sound s workers t (call.CancelRemove slot) (below, tt)

half_sound : (s : Setup) (workers : ℕ) (name : List ℕ) (half : Half) (t : Table) → IsSound s workers t → IsSound s workers (half_outcome s name half t).1
half_sound s workers name half t sound = at (slot_named s.catalogue name) refl where
  at : (o : Option ℕ) → slot_named s.catalogue name ≡ o → IsSound s workers (half_at s name o half t).1
  at None is = sound
  at (Some slot) is = change_sound s workers slot half t (slot_below s.catalogue name slot is) sound

-- each holder holds what it held, and a lawful table is lawful still
record IsGentle (s : Setup) (old new : Held) : Type 0 where
  holds : HoldsTheSame old new
  sound : (workers : ℕ) → IsSound s workers old.table → IsSound s workers new.table

half_keeps : (s : Setup) (h : Held) (line : List ℕ) (a : asked.Asked) → IsHalf a → IsGentle s h (asked_outcome s h line a).1
half_keeps s h line (asked.half which name) is =
    record { holds = record { rows = half_rows s name which h.table; names = refl }; sound = λ workers sound. half_sound s workers name which h.table sound }
half_keeps s h line (asked.malformed first) is = record { holds = record { rows = refl; names = refl }; sound = λ workers sound. sound }
half_keeps s h line asked.as_session is = absurd is
half_keeps s h line (asked.refer reference holder name) is = absurd is
half_keeps s h line (asked.hold again holder names) is = absurd is
half_keeps s h line (asked.release holder names) is = absurd is
half_keeps s h line (asked.release_all holder) is = absurd is
half_keeps s h line (asked.holders name) is = absurd is
half_keeps s h line (asked.held_by holder) is = absurd is
half_keeps s h line asked.held is = absurd is

step_keeps : (s : Setup) (h : Held) (step : Step) → IsGentle s h (held_line_outcome s h (line_of s.catalogue step)).1
unfolding held_line_outcome
step_keeps s h step = half_keeps s h (line_of s.catalogue step) (asked.asked_of (line_of s.catalogue step)) (step_is s.catalogue step)

steps_keep : (s : Setup) (h : Held) (steps : List Step) → IsGentle s h (after s h (map (line_of s.catalogue) steps))
steps_keep s h [] = record { holds = record { rows = refl; names = refl }; sound = λ workers sound. sound }
steps_keep s h (step ∷ steps) =
    let one = step_keeps s h step in
    let rest = steps_keep s (held_line_outcome s h (line_of s.catalogue step)).1 steps in
    record {
      holds = record { rows = rest.holds.rows ∙ one.holds.rows; names = rest.holds.names ∙ one.holds.names };
      sound = λ workers sound. rest.sound workers (one.sound workers sound);
    }

-- Each holder holds what it held.
pub adopting_keeps : (s : Setup) (h new : Held) (kernel : List KernelModule) → new ≡ after s h (adopting_lines s h kernel) → HoldsTheSame h new
adopting_keeps s h new kernel is = subst (HoldsTheSame h) (sym is) (steps_keep s h (steps_for s.catalogue h.table kernel)).holds

-- Each holder holds what it held, and nothing held is absent, after the first of the lines.
pub adopting_keeps_held : AdoptingKeepsHeld
adopting_keeps_held s h kernel count shape lawful =
    let steps = steps_for s.catalogue h.table kernel in
    let kept = subst (λ lines. IsGentle s h (after s h lines)) (sym (take-map (line_of s.catalogue) count steps)) (steps_keep s h (take count steps)) in
    let left = after s h (take count (adopting_lines s h kernel)) in
    (kept.holds, keeps_held (modules_of s.catalogue) (modules_of s.catalogue) h.table left.table lawful (kept.sound (length h.table.rows) (record { shape = shape; lawful = lawful })).lawful (inl kept.holds.rows))

-- the refused of lines, and of more after them
pub refused_more : (s : Setup) (h : Held) (lines more : List (List ℕ)) (old mid new : Replies)
    → HasRefused s h lines old mid → HasRefused s (after s h lines) more mid new → HasRefused s h (lines ++ more) old new
refused_more s h lines more old mid new first second =
    subst (λ replies. HasMore replies old new)
    (sym (ap refused_of (replies_more s h lines more) ∙ filter-append is_refusal (replies_of s h lines) (replies_of s (after s h lines) more)))
    (has_more (refused_of (replies_of s h lines)) (refused_of (replies_of s (after s h lines) more)) old mid new first second)

-- one reply more, of which it is known whether it refuses
pub add_refused_more : (answered : List HeldReply) (index : ℕ) (reply : HeldReply) (old mid new : Replies) → index < length answered → reply ≡ get_or answered index reply
    → HasMore (refused_of (map (λ r. r.reply) (take index answered))) old mid → HasMore (refused_of (reply.reply ∷ [])) mid new
    → HasMore (refused_of (map (λ r. r.reply) (take (index + 1) answered))) old new
add_refused_more answered index reply old mid new lt is so_far one =
    subst (λ replies. HasMore replies old new)
    (sym (ap refused_of (ap (map (λ (r : HeldReply). r.reply)) (take_more answered index reply lt ∙ ap (λ (r : HeldReply). take index answered ++ r ∷ []) (sym is)) ∙ map-append (λ (r : HeldReply). r.reply) (take index answered) (reply ∷ []))
    ∙ filter-append is_refusal (map (λ (r : HeldReply). r.reply) (take index answered)) (reply.reply ∷ [])))
    (has_more (refused_of (map (λ (r : HeldReply). r.reply) (take index answered))) (refused_of (reply.reply ∷ [])) old mid new so_far one)

-- the report, and then the refused of the lines
pub has_adopted : (s : Setup) (h : Held) (kernel : List KernelModule) (report : List ℕ) (lines : List (List ℕ)) (old mid new : Replies)
    → report ≡ report_of s.catalogue h.table kernel → lines ≡ adopting_lines s h kernel → mid.text.items ≡ old.text.items ++ report
    → mid.endings.items ≡ old.endings.items ++ ending_of_report report ∷ [] → HasRefused s h lines mid new → HasAdopted s h kernel old new
has_adopted s h kernel report lines old mid new reported are text ends refused =
    record {
      text = refused.text ∙ ap (λ front. front ++ flat_map text_of (refused_of (replies_of s h lines))) text
          ∙ append_assoc old.text.items report (flat_map text_of (refused_of (replies_of s h lines)))
          ∙ ap (λ first. old.text.items ++ (first ++ flat_map text_of (refused_of (replies_of s h lines)))) reported
          ∙ ap (λ ls. old.text.items ++ (report_of s.catalogue h.table kernel ++ flat_map text_of (refused_of (replies_of s h ls)))) are;
      endings = refused.endings ∙ ap (λ front. front ++ map ending_of_outcome (refused_of (replies_of s h lines))) ends
          ∙ append_assoc old.endings.items (ending_of_report report ∷ []) (map ending_of_outcome (refused_of (replies_of s h lines)))
          ∙ ap (λ first. old.endings.items ++ (ending_of_report first ∷ map ending_of_outcome (refused_of (replies_of s h lines)))) reported
          ∙ ap (λ ls. old.endings.items ++ (ending_of_report (report_of s.catalogue h.table kernel) ∷ map ending_of_outcome (refused_of (replies_of s h ls)))) are;
    }
