-- No line removes what anybody holds: it leaves the rows as they are, or the book.
use Rattle.std.proofs.Common.{◌≡◌, ℕ, ◌<◌, ◌⊎◌, inl, inr, Bool, true, false, cond, ltb, List, [], ◌∷◌, length, Option, Some, None, Ok, Err, refl, sym, subst, ◌∙◌}
use Rattle.std.specs.Option.{is_some}
use Rattle.std.proofs.lemmas.Bool.{ltb-true}
use Rattle.dep_index.specs.Table.{Module, Book, Table, state_of, holders, takes_references}
use Rattle.dep_index.specs.Catalogue.{modules_of, slot_named}
use Rattle.dep_index.specs.Calls.{refusal, next, effect, book_effect}
use Rattle.dep_index.specs.Laws.{IsLawful}
use Rattle.dep_index.specs.declared.table.calls.Call.{Call}
use Rattle.dep_index.specs.declared.table.calls.Call.TheVariants as call
use Rattle.dep_index.proofs.StepLaws.{held_takes}
use Rattle.modprobe.specs.Setup.{Setup, name_at}
use Rattle.modprobe.specs.Refusals.{Refusal, code_of}
use Rattle.modprobe.specs.Outcomes.{Outcome, says, refuses, refused}
use Rattle.modprobe.specs.declared.refusal.Code.TheVariants.{Worker}
use Rattle.modprobe.specs.Changes.{Change, ◌then◌, call_change}
use Rattle.modprobe.specs.Session.{change_outcome, action_outcome, named_outcome}
use Rattle.held_lines.specs.declared.asked.Reference.{Reference}
use Rattle.held_lines.specs.declared.asked.Reference.TheVariants as reference_is
use Rattle.held_table.specs.Names.{place_of}
use Rattle.held_table.specs.Held.{Held, number_of, is_there_or_full, with_holder, entered, holds_nothing, without_holder, settled, all_given_back}
use Rattle.held_lines.specs.Held.{holding}
use Rattle.held_lines.specs.Lines.{Asked, as_session, malformed, refer, half, hold, release, release_all, holders as who_holds, held_by, held, asked_of}
use Rattle.held_lines.specs.Found.{Found, found_for}
use Rattle.held_lines.specs.Holds.{to_take, gets, first_not_held, each_given_back}
use Rattle.held_lines.specs.Outcomes.{unless_refused, action_of, after_reference, refer_outcome, hold_change, hold_outcome, first_name, by_found, release_change, release_by, release_all_by, asked_outcome, held_line_outcome}
use Rattle.held_lines.specs.Laws.{KeepsHeld}
use Rattle.held_lines.proofs.RowLemmas.{line_rows, half_rows}

next_book : (catalogue : List Module) (t : Table) (c : Call) → book_effect t.book c ≡ t.book → (next catalogue t c).book ≡ t.book
next_book catalogue t c same = at (is_some (refusal catalogue t c)) where
  at : (b : Bool) → (cond b t (effect t c)).book ≡ t.book
  at true = refl
  at false = same

then_book : (c : Change) (f : Table → Change) (book : Book) → c.1.book ≡ book → ((u : Table) → (f u).1.book ≡ u.book) → (c then f).1.book ≡ book
then_book (None, t) f book same next = next t ∙ same
then_book (Some r, t) f book same next = same

gets_book : (s : Setup) (number : ℕ) (slots : List ℕ) (t : Table) → (gets s number slots t).1.book ≡ t.book
gets_book s number [] t = refl
gets_book s number (slot ∷ slots) t =
    then_book (call_change s code_of slot (call.Get number slot) t) (gets s number slots) t.book (next_book (modules_of s.catalogue) t (call.Get number slot) refl)
    (λ u. gets_book s number slots u)

entered_book : (h : Held) (holder : List ℕ) → (entered h holder).table.book ≡ h.table.book
entered_book h holder = at (is_there_or_full h.names holder) where
  at : (b : Bool) → (cond b h (with_holder h holder)).table.book ≡ h.table.book
  at true = refl
  at false = refl

settled_book : (h : Held) (number : ℕ) → (settled h number).table.book ≡ h.table.book
settled_book h number = at (holds_nothing h.table number) where
  at : (b : Bool) → (cond b (without_holder h number) h).table.book ≡ h.table.book
  at true = refl
  at false = refl

unless_book : (h : Held) (after : Table → Held) (p : Outcome × Table) → (after p.1).table.book ≡ h.table.book → (unless_refused h after p).1.table.book ≡ h.table.book
unless_book h after (says text, t) same = same
unless_book h after (refuses r, t) same = refl

reference_book : (s : Setup) (slot : ℕ) (reference : Reference) (number : ℕ) (t : Table) → (action_outcome s slot (action_of reference number) t).1.book ≡ t.book
reference_book s slot reference_is.Get number t = at (ltb number (length t.rows)) where
  at : (b : Bool) → (cond b (change_outcome (call_change s code_of slot (call.Get number slot) t)) (refused Worker (name_at s slot), t)).1.book ≡ t.book
  at true = next_book (modules_of s.catalogue) t (call.Get number slot) refl
  at false = refl
reference_book s slot reference_is.Put number t = at (ltb number (length t.rows)) where
  at : (b : Bool) → (cond b (change_outcome (call_change s code_of slot (call.Put number slot) t)) (refused Worker (name_at s slot), t)).1.book ≡ t.book
  at true = next_book (modules_of s.catalogue) t (call.Put number slot) refl
  at false = refl

named_book : (s : Setup) (name : List ℕ) (o : Option ℕ) (reference : Reference) (number : ℕ) (t : Table) → (named_outcome s name o (action_of reference number) t).1.book ≡ t.book
named_book s name None reference number t = refl
named_book s name (Some slot) reference number t = reference_book s slot reference number t

after_book : (reference : Reference) (number : ℕ) (h : Held) → (after_reference reference number h).table.book ≡ h.table.book
after_book reference_is.Get number h = refl
after_book reference_is.Put number h = settled_book h number

refer_book : (s : Setup) (h : Held) (reference : Reference) (holder name : List ℕ) → (refer_outcome s h reference holder name).1.table.book ≡ h.table.book
refer_book s h reference holder name =
    let number = number_of h.names holder in
    let there = entered h holder in
    let p = named_outcome s name (slot_named s.catalogue name) (action_of reference number) there.table in
    unless_book h (λ t. after_reference reference number (holding t there.names)) p
    (after_book reference number (holding p.1 there.names) ∙ named_book s name (slot_named s.catalogue name) reference number there.table ∙ entered_book h holder)

hold_book : (s : Setup) (h : Held) (holder slots taken : List ℕ) → (hold_outcome s h holder slots taken).1.table.book ≡ h.table.book
hold_book s h holder slots taken =
    at (ltb (number_of h.names holder) (length (entered h holder).table.rows)) (gets s (number_of h.names holder) taken (entered h holder).table) (gets_book s (number_of h.names holder) taken (entered h holder).table) where
      of : (c : Change) → c.1.book ≡ (entered h holder).table.book → (unless_refused h (λ t. holding t (entered h holder).names) (hold_change s slots c)).1.table.book ≡ h.table.book
      of (None, t) same = same ∙ entered_book h holder
      of (Some r, t) same = refl

      at : (b : Bool) (c : Change) → c.1.book ≡ (entered h holder).table.book
          → (cond b (unless_refused h (λ t. holding t (entered h holder).names) (hold_change s slots c)) (refused Worker (first_name s slots), h)).1.table.book ≡ h.table.book
      at true c same = of c same
      at false c same = refl

each_book : (number : ℕ) (slots : List ℕ) (t : Table) → (each_given_back number slots t).book ≡ t.book
each_book number [] t = refl
each_book number (slot ∷ slots) t = each_book number slots _

release_book : (s : Setup) (h : Held) (slots : List ℕ) (o : Option ℕ) → (release_by s h slots o).1.table.book ≡ h.table.book
release_book s h slots None = refl
release_book s h slots (Some number) = at (first_not_held s number h.table slots) where
  at : (o : Option Refusal) → (unless_refused h (λ t. settled (holding t h.names) number) (release_change s number slots h.table o)).1.table.book ≡ h.table.book
  at None = settled_book (holding (each_given_back number slots h.table) h.names) number ∙ each_book number slots h.table
  at (Some r) = refl

release_all_book : (h : Held) (o : Option ℕ) → (release_all_by h o).1.table.book ≡ h.table.book
release_all_book h None = refl
release_all_book h (Some number) = settled_book (holding (all_given_back number h.table) h.names) number

found_book : (h : Held) (next : List ℕ → Outcome × Held) → ((slots : List ℕ) → (next slots).1.table.book ≡ h.table.book) → (f : Found) → (by_found h next f).1.table.book ≡ h.table.book
found_book h next same (Ok slots) = same slots
found_book h next same (Err name) = refl

-- the rows are as they were, or the book
abbrev pub KeepsOne : Table → Table → Type 0
KeepsOne old new = (new.rows ≡ old.rows) ⊎ (new.book ≡ old.book)

asked_keeps : (s : Setup) (h : Held) (line : List ℕ) (a : Asked) → asked_of line ≡ a → KeepsOne h.table (asked_outcome s h line a).1.table
asked_keeps s h line as_session e = inl (line_rows s h.table line e)
asked_keeps s h line (malformed first) e = inl refl
asked_keeps s h line (refer reference holder name) e = inr (refer_book s h reference holder name)
asked_keeps s h line (half which name) e = inl (half_rows s name which h.table)
asked_keeps s h line (hold again holder names) e =
    inr (found_book h (λ slots. hold_outcome s h holder slots (to_take again (number_of h.names holder) h.table slots))
    (λ slots. hold_book s h holder slots (to_take again (number_of h.names holder) h.table slots)) (found_for s names))
asked_keeps s h line (release holder names) e =
    inr (found_book h (λ slots. release_by s h slots (place_of h.names holder)) (λ slots. release_book s h slots (place_of h.names holder)) (found_for s names))
asked_keeps s h line (release_all holder) e = inr (release_all_book h (place_of h.names holder))
asked_keeps s h line (who_holds name) e = inl refl
asked_keeps s h line (held_by holder) e = inl refl
asked_keeps s h line held e = inl refl

-- A line leaves the rows as they are, or the book.
pub line_keeps : (s : Setup) (h : Held) (line : List ℕ) → KeepsOne h.table (held_line_outcome s h line).1.table
unfolding held_line_outcome
line_keeps s h line = asked_keeps s h line (asked_of line) refl

-- What was held is not removed.
pub keeps_held : (catalogue after : List Module) (old new : Table) → IsLawful catalogue old → IsLawful after new → KeepsOne old new → KeepsHeld old new
keeps_held catalogue over old new before after (inl rows) m some =
    held_takes new m after.pairs (subst (λ (rs : List (List ℕ)). 0 < holders rs m) (sym rows) (ltb-true 0 (holders old.rows m) some))
keeps_held catalogue over old new before after (inr book) m some =
    subst (λ (b : Book). takes_references (state_of b m) ≡ true) (sym book) (held_takes old m before.pairs (ltb-true 0 (holders old.rows m) some))
