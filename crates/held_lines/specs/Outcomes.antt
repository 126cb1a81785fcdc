-- What a line over a table with holders is answered, and what it leaves.
use Rattle.std.specs.Prelude.{ℕ, nat_lt, if◌then◌else◌, List, [], ◌∷◌, length, codes, ◌++◌, Option, Some, None, Ok, Err}
use Rattle.dep_index.specs.Table.{Table}
use Rattle.dep_index.specs.Catalogue.{slot_named}
use Rattle.modprobe.specs.declared.refusal.Code.TheVariants.{Enoent, NotHeld, Syntax, Worker}
use Rattle.modprobe.specs.Setup.{Setup, name_at}
use Rattle.modprobe.specs.Refusals.{Refusal}
use Rattle.modprobe.specs.Outcomes.{Outcome, says, refuses, refused, text_of}
use Rattle.modprobe.specs.Changes.{Change}
use Rattle.modprobe.specs.Commands.{Action, get, put}
use Rattle.modprobe.specs.Session.{action_outcome, named_outcome, half_outcome, line_outcome}
use Rattle.held_lines.specs.declared.asked.Reference.{Reference}
use Rattle.held_lines.specs.declared.asked.Reference.TheVariants as reference_is
use Rattle.held_table.specs.Names.{place_of}
use Rattle.held_table.specs.Held.{Held, number_of, entered, settled, all_given_back}
use Rattle.held_lines.specs.Held.{holding}
use Rattle.held_lines.specs.Lines.{Asked, as_session, malformed, refer, half, hold, release, release_all, holders, held_by, held, asked_of}
use Rattle.held_lines.specs.Found.{Found, found_for}
use Rattle.held_lines.specs.Holds.{to_take, gets, first_not_held, each_given_back, held_line}
use Rattle.held_lines.specs.Listings.{holders_text, held_text, all_text}

-- the holders after a change of their table
abbrev pub on_table : Held → Outcome × Table → Outcome × Held
on_table h change = (change.0, holding change.1 h.names)

-- what is left: a refused line leaves all as it was
abbrev pub left_by : Held → Held → Outcome → Held
left_by h after (says text) = after
left_by h after (refuses r) = h

-- what a change is answered, and what it leaves if it is not refused
abbrev pub unless_refused : Held → (Table → Held) → Outcome × Table → Outcome × Held
unless_refused h after change = (change.0, left_by h (after change.1) change.0)

-- what a session's worker does with a reference
abbrev pub action_of : Reference → ℕ → Action
action_of reference_is.Get worker = get worker
action_of reference_is.Put worker = put worker

-- a holder that has put a reference back goes, if it holds nothing
abbrev pub after_reference : Reference → ℕ → Held → Held
after_reference reference_is.Get number h = h
after_reference reference_is.Put number h = settled h number

-- A holder takes a reference or puts one back, as the worker of its number in a session. A new holder comes in first.
abbrev pub refer_outcome : Setup → Held → Reference → List ℕ → List ℕ → Outcome × Held
refer_outcome s h reference holder name =
    let number = number_of h.names holder in
    let there = entered h holder in
    unless_refused h (λ t. after_reference reference number (holding t there.names))
    (named_outcome s name (slot_named s.catalogue name) (action_of reference number) there.table)

-- the same, of the module of a slot
abbrev pub refer_at : Setup → Held → Reference → List ℕ → ℕ → Outcome × Held
refer_at s h reference holder slot =
    let number = number_of h.names holder in
    let there = entered h holder in
    unless_refused h (λ t. after_reference reference number (holding t there.names))
    (action_outcome s slot (action_of reference number) there.table)

-- what a hold of these modules is answered
abbrev pub hold_said : Setup → List ℕ → Option Refusal → Outcome
hold_said s slots None = says (held_line s slots)
hold_said s slots (Some r) = refuses r

-- the same, with the change that its gets are
abbrev pub hold_change : Setup → List ℕ → Change → Outcome × Table
hold_change s slots change = (hold_said s slots change.0, change.1)

-- the name of the first of some modules
abbrev pub first_name : Setup → List ℕ → List ℕ
first_name s [] = []
first_name s (slot ∷ slots) = name_at s slot

-- A holder takes a reference to each of the modules of `taken`, or to none. A new holder comes in first.
abbrev pub hold_outcome : Setup → Held → List ℕ → List ℕ → List ℕ → Outcome × Held
hold_outcome s h holder slots taken =
    let number = number_of h.names holder in
    let there = entered h holder in
    if nat_lt number (length there.table.rows)
    then unless_refused h (λ t. holding t there.names) (hold_change s slots (gets s number taken there.table))
    else (refused Worker (first_name s slots), h)

-- the modules are looked up, before all else
abbrev pub by_found : Held → (List ℕ → Outcome × Held) → Found → Outcome × Held
by_found h next (Ok slots) = next slots
by_found h next (Err name) = (refused Enoent name, h)

abbrev pub done : Outcome
done = says (codes "ok" ++ 10 ∷ [])

-- a holder gives back all references to these modules, or none if it does not hold one of them
abbrev pub release_change : Setup → ℕ → List ℕ → Table → Option Refusal → Outcome × Table
release_change s number slots t None = (done, each_given_back number slots t)
release_change s number slots t (Some r) = (refuses r, t)

abbrev pub release_by : Setup → Held → List ℕ → Option ℕ → Outcome × Held
release_by s h slots None = (refused NotHeld (first_name s slots), h)
release_by s h slots (Some number) =
    unless_refused h (λ t. settled (holding t h.names) number)
    (release_change s number slots h.table (first_not_held s number h.table slots))

-- a holder gives back all that it holds, and goes
abbrev pub release_all_by : Held → Option ℕ → Outcome × Held
release_all_by h None = (done, h)
release_all_by h (Some number) = (done, settled (holding (all_given_back number h.table) h.names) number)

abbrev pub holders_outcome : Held → List ℕ → Option ℕ → Outcome
holders_outcome h name None = refused Enoent name
holders_outcome h name (Some slot) = says (holders_text h slot)

-- nothing, if there is no such holder
abbrev pub held_outcome : Setup → Held → Option ℕ → Outcome
held_outcome s h None = says []
held_outcome s h (Some number) = says (held_text s h.table number)

-- what is asked for is answered, and what it leaves
abbrev pub asked_outcome : Setup → Held → List ℕ → Asked → Outcome × Held
asked_outcome s h line as_session = on_table h (line_outcome s h.table line)
asked_outcome s h line (malformed first) = (refused Syntax first, h)
asked_outcome s h line (refer reference holder name) = refer_outcome s h reference holder name
asked_outcome s h line (half which name) = on_table h (half_outcome s name which h.table)
asked_outcome s h line (hold again holder names) =
    by_found h (λ slots. hold_outcome s h holder slots (to_take again (number_of h.names holder) h.table slots)) (found_for s names)
asked_outcome s h line (release holder names) = by_found h (λ slots. release_by s h slots (place_of h.names holder)) (found_for s names)
asked_outcome s h line (release_all holder) = release_all_by h (place_of h.names holder)
asked_outcome s h line (holders name) = (holders_outcome h name (slot_named s.catalogue name), h)
asked_outcome s h line (held_by holder) = (held_outcome s h (place_of h.names holder), h)
asked_outcome s h line held = (says (all_text s h), h)

-- what a line is answered, and what it leaves
unfoldable pub held_line_outcome : Setup → Held → List ℕ → Outcome × Held
held_line_outcome s h line = asked_outcome s h line (asked_of line)

-- the reply to a line, as it is written, and what it leaves
abbrev pub held_reply : Setup → Held → List ℕ → List ℕ × Held
held_reply s h line = (text_of (held_line_outcome s h line).0, (held_line_outcome s h line).1)

-- what lines leave, one after another
abbrev pub after : Setup → Held → List (List ℕ) → Held
after s h [] = h
after s h (line ∷ lines) = after s (held_line_outcome s h line).1 lines

-- the replies to lines
abbrev pub answers : Setup → Held → List (List ℕ) → List ℕ
answers s h [] = []
answers s h (line ∷ lines) = (held_reply s h line).0 ++ answers s (held_reply s h line).1 lines
