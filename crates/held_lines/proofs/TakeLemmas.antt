-- What a holder is answered that takes references or puts one back.
use Rattle.std.proofs.Common.{◌≡◌, ℕ, zero, suc, ◌<◌, ◌≤◌, true, false, eqb, ltb, leb, List, [], ◌∷◌, ◌++◌, length, get_or, Option, Some, None, refl, sym, ap, ◌∙◌, arith}
use Rattle.std.proofs.Math.ListN.{replicate}
use Rattle.std.specs.Option.{is_some, unwrap_or}
use Rattle.std.proofs.lemmas.Bool.{lt-ltb, lt-leb, le-ltb, le-leb, cond-true, cond-false, or_left, or_right, or_from}
use Rattle.std.proofs.lemmas.List.{length_push, get_or_push}
use Rattle.dep_index.specs.Table.{Table, count_of}
use Rattle.dep_index.specs.Catalogue.{modules_of}
use Rattle.dep_index.specs.Calls.{refuse, reply, next}
use Rattle.dep_index.specs.declared.table.calls.Call.{Call}
use Rattle.dep_index.specs.declared.table.calls.Call.TheVariants as call
use Rattle.dep_index.specs.declared.table.calls.Reply.{Reply}
use Rattle.dep_index.specs.declared.table.calls.Reply.TheVariants as reply_is
use Rattle.modprobe.specs.declared.refusal.Code.TheVariants.{NotHeld, Worker}
use Rattle.modprobe.specs.Setup.{Setup, name_at}
use Rattle.modprobe.specs.Refusals.{Refusal, code_of}
use Rattle.modprobe.specs.Outcomes.{Outcome, says, refuses, refused}
use Rattle.modprobe.specs.Changes.{Change, refusal_of, call_change}
use Rattle.modprobe.specs.Session.{change_outcome, by_worker, action_outcome}
use Rattle.held_table.specs.Names.{place_of}
use Rattle.held_lines.specs.declared.asked.Reference.{Reference}
use Rattle.held_lines.specs.declared.asked.Reference.TheVariants as reference_is
use Rattle.held_lines.specs.declared.gets.TakeError.{TakeError}
use Rattle.held_lines.specs.declared.gets.TakeError.TheVariants as take_error
use Rattle.held_lines.specs.declared.reply.HeldReply.{HeldReply}
use Rattle.held_table.specs.Held.{Held, number_of, is_there_or_full, with_holder, entered, settled}
use Rattle.held_lines.specs.Held.{holding}
use Rattle.held_lines.specs.Holds.{gets, held_line}
use Rattle.held_lines.specs.Outcomes.{done, unless_refused, action_of, after_reference, refer_at, hold_change, hold_outcome, first_name}
use Rattle.held_lines.specs.ForProofs.{Answers, TellsTaking, IsTold}
use Rattle.held_lines.proofs.GetLemmas.{one_get, then_none, refusal_is_some}

-- what a holder that is there is answered
abbrev refer_with : Setup → Held → Reference → ℕ → Held → ℕ → Outcome × Held
refer_with s h reference number there slot =
    unless_refused h (λ t. after_reference reference number (holding t there.names)) (action_outcome s slot (action_of reference number) there.table)

worker_in : (s : Setup) (worker slot : ℕ) (c : Call) (t : Table) → ltb worker (length t.rows) ≡ true → by_worker s worker slot c t ≡ change_outcome (call_change s code_of slot c t)
worker_in s worker slot c t below = cond-true (ltb worker (length t.rows)) _ _ below

worker_out : (s : Setup) (worker slot : ℕ) (c : Call) (t : Table) → ltb worker (length t.rows) ≡ false → by_worker s worker slot c t ≡ (refused Worker (name_at s slot), t)
worker_out s worker slot c t past = cond-false (ltb worker (length t.rows)) _ _ past

refused_change : (h : Held) (after : Table → Held) (c : Change) (r : Refusal) → c.0 ≡ Some r → unless_refused h after (change_outcome c) ≡ (refuses r, h)
refused_change h after (None, t) r e = absurd (refusal_is_some r (sym e))
refused_change h after (Some q, t) r e = ap (λ (o : Refusal). (refuses o, h)) (let same : q ≡ r = cc in same)

refused_hold : (s : Setup) (h : Held) (slots : List ℕ) (after : Table → Held) (c : Change) (r : Refusal) → c.0 ≡ Some r → unless_refused h after (hold_change s slots c) ≡ (refuses r, h)
refused_hold s h slots after (None, t) r e = absurd (refusal_is_some r (sym e))
refused_hold s h slots after (Some q, t) r e = ap (λ (o : Refusal). (refuses o, h)) (let same : q ≡ r = cc in same)

-- A line that is refused leaves all as it was.
told_so : (h new : Held) (o : Outcome) (r : HeldReply) (meant : Outcome × Held) → new ≡ h → r ≡ record { reply = o; changed = false } → meant ≡ (o, h) → Answers r h new meant
told_so h new o r meant same told is =
    record { says = ap (λ (x : HeldReply). x.reply) told ∙ sym (ap (λ (x : Outcome × Held). x.0) is); leaves = same ∙ sym (ap (λ (x : Outcome × Held). x.1) is); same = λ _. same }

-- A get is done.
pub get_done : (s : Setup) (h : Held) (holder : List ℕ) (slot : ℕ) (t : Table) → ltb (number_of h.names holder) (length (entered h holder).table.rows) ≡ true
    → gets s (number_of h.names holder) (slot ∷ []) (entered h holder).table ≡ (None, t) → refer_at s h reference_is.Get holder slot ≡ (done, holding t (entered h holder).names)
get_done s h holder slot t below e =
    let number = number_of h.names holder in
    let there = entered h holder in
    let one : one_get s number slot there.table ≡ (None, t) = sym (then_none (one_get s number slot there.table)) ∙ e in
    ap (unless_refused h (λ u. holding u there.names)) (worker_in s number slot (call.Get number slot) there.table below ∙ ap change_outcome one)

-- A get is not done.
pub get_told : (s : Setup) (h new : Held) (holder : List ℕ) (slot : ℕ) (error : TakeError) (r : HeldReply) → new ≡ h
    → TellsTaking s error (number_of h.names holder) (entered h holder) (slot ∷ []) → IsTold s (slot ∷ []) error r → Answers r h new (refer_at s h reference_is.Get holder slot)
get_told s h new holder slot (take_error.Refused code m) r same tells told =
    let number = number_of h.names holder in
    let there = entered h holder in
    let why : Refusal = record { code = code; name = name_at s m } in
    let one : (one_get s number slot there.table).0 ≡ Some why = ap (λ (c : Change). c.0) (sym (then_none (one_get s number slot there.table))) ∙ tells.2 in
    told_so h new (refuses why) r (refer_at s h reference_is.Get holder slot) same told
    (ap (unless_refused h (λ u. holding u there.names)) (worker_in s number slot (call.Get number slot) there.table (lt-ltb _ _ tells.0))
    ∙ refused_change h (λ u. holding u there.names) (one_get s number slot there.table) why one)
get_told s h new holder slot take_error.Full r same tells told =
    let number = number_of h.names holder in
    let there = entered h holder in
    told_so h new (refused Worker (name_at s slot)) r (refer_at s h reference_is.Get holder slot) same told
    (ap (unless_refused h (λ u. holding u there.names)) (worker_out s number slot (call.Get number slot) there.table tells))
get_told s h new holder slot take_error.Memory r same tells told = absurd told

-- A hold is done.
pub hold_done : (s : Setup) (h : Held) (holder slots taken : List ℕ) (t : Table) → ltb (number_of h.names holder) (length (entered h holder).table.rows) ≡ true
    → gets s (number_of h.names holder) taken (entered h holder).table ≡ (None, t) → hold_outcome s h holder slots taken ≡ (says (held_line s slots), holding t (entered h holder).names)
hold_done s h holder slots taken t below e =
    cond-true (ltb (number_of h.names holder) (length (entered h holder).table.rows)) _ _ below
    ∙ ap (λ (c : Change). unless_refused h (λ u. holding u (entered h holder).names) (hold_change s slots c)) e

-- A hold is not done.
pub hold_told : (s : Setup) (h new : Held) (holder slots taken : List ℕ) (error : TakeError) (r : HeldReply) → new ≡ h
    → TellsTaking s error (number_of h.names holder) (entered h holder) taken → IsTold s slots error r → Answers r h new (hold_outcome s h holder slots taken)
hold_told s h new holder slots taken (take_error.Refused code m) r same tells told =
    let number = number_of h.names holder in
    let there = entered h holder in
    let why : Refusal = record { code = code; name = name_at s m } in
    told_so h new (refuses why) r (hold_outcome s h holder slots taken) same told
    (cond-true (ltb number (length there.table.rows)) _ _ (lt-ltb _ _ tells.0) ∙ refused_hold s h slots (λ u. holding u there.names) (gets s number taken there.table) why tells.2)
hold_told s h new holder slots taken take_error.Full r same tells told =
    told_so h new (refused Worker (first_name s slots)) r (hold_outcome s h holder slots taken) same told
    (cond-false (ltb (number_of h.names holder) (length (entered h holder).table.rows)) _ _ tells)
hold_told s h new holder slots taken take_error.Memory r same tells told = absurd told

-- A holder that is there is not entered.
pub entered_old : (h : Held) (holder : List ℕ) (number : ℕ) → place_of h.names holder ≡ Some number → entered h holder ≡ h
entered_old h holder number e = cond-true (is_there_or_full h.names holder) _ _ (or_left (is_some (place_of h.names holder)) (leb 65536 (length h.names)) (ap is_some e))

number_old : (names : List (List ℕ)) (holder : List ℕ) (number : ℕ) → place_of names holder ≡ Some number → number_of names holder ≡ number
number_old names holder number e = ap (λ (o : Option ℕ). unwrap_or o (length names)) e

refer_old : (s : Setup) (h : Held) (reference : Reference) (holder : List ℕ) (number slot : ℕ) → place_of h.names holder ≡ Some number
    → refer_at s h reference holder slot ≡ refer_with s h reference number h slot
refer_old s h reference holder number slot place =
    ap (λ (n : ℕ). refer_with s h reference n (entered h holder) slot) (number_old h.names holder number place)
    ∙ ap (λ (there : Held). refer_with s h reference number there slot) (entered_old h holder number place)

put_change : (s : Setup) (h : Held) (number slot : ℕ) (r : Reply) → number < length h.table.rows → reply (modules_of s.catalogue) h.table (call.Put number slot) ≡ r
    → by_worker s number slot (call.Put number slot) h.table ≡ change_outcome (refusal_of s code_of slot r, next (modules_of s.catalogue) h.table (call.Put number slot))
put_change s h number slot r below is =
    worker_in s number slot (call.Put number slot) h.table (lt-ltb _ _ below)
    ∙ ap (λ (q : Reply). change_outcome (refusal_of s code_of slot q, next (modules_of s.catalogue) h.table (call.Put number slot))) is

-- A put of a holder that is there is done.
pub put_done : (s : Setup) (h : Held) (holder : List ℕ) (number slot : ℕ) → place_of h.names holder ≡ Some number → number < length h.table.rows
    → reply (modules_of s.catalogue) h.table (call.Put number slot) ≡ reply_is.Done
    → refer_at s h reference_is.Put holder slot ≡ (done, settled (holding (next (modules_of s.catalogue) h.table (call.Put number slot)) h.names) number)
put_done s h holder number slot place below is =
    refer_old s h reference_is.Put holder number slot place
    ∙ ap (unless_refused h (λ t. settled (holding t h.names) number)) (put_change s h number slot reply_is.Done below is)

-- A put of a holder that is there is refused.
pub put_refused : (s : Setup) (h : Held) (holder : List ℕ) (number slot : ℕ) → place_of h.names holder ≡ Some number → number < length h.table.rows
    → reply (modules_of s.catalogue) h.table (call.Put number slot) ≡ reply_is.NotHeld → refer_at s h reference_is.Put holder slot ≡ (refused NotHeld (name_at s slot), h)
put_refused s h holder number slot place below is =
    refer_old s h reference_is.Put holder number slot place
    ∙ ap (unless_refused h (λ t. settled (holding t h.names) number)) (put_change s h number slot reply_is.NotHeld below is)

zero_at : (n i : ℕ) → get_or {A = ℕ} (replicate n 0) i 0 ≡ 0
zero_at zero i = refl
zero_at (suc n) zero = refl
zero_at (suc n) (suc i) = zero_at n i

-- what a put of nothing is answered
nothing_put : (s : Setup) (t : Table) (number slot : ℕ) → count_of t number slot ≡ 0 → reply (modules_of s.catalogue) t (call.Put number slot) ≡ reply_is.NotHeld
nothing_put s t number slot none = ap (λ (count : ℕ). unwrap_or (refuse (eqb count 0) reply_is.NotHeld None) reply_is.Done) none

-- A put of a holder that is not there is refused.
pub put_stranger : (s : Setup) (h : Held) (holder : List ℕ) (slot : ℕ) → place_of h.names holder ≡ None → length h.names ≡ length h.table.rows → length h.names < 65536
    → refer_at s h reference_is.Put holder slot ≡ (refused NotHeld (name_at s slot), h)
put_stranger s h holder slot place same few =
    let rows = h.table.rows in
    let row : List ℕ = replicate (length h.table.book.states) 0 in
    let there = with_holder h holder in
    let last = length h.names in
    let out : is_there_or_full h.names holder ≡ false = or_from (is_some (place_of h.names holder)) (leb 65536 (length h.names)) (ap is_some place) (lt-leb _ _ few) in
    let comes : entered h holder ≡ there = cond-false (is_there_or_full h.names holder) _ _ out in
    let number : number_of h.names holder ≡ last = ap (λ (o : Option ℕ). unwrap_or o (length h.names)) place in
    let below : last < length there.table.rows = omega (arith, length_push rows row) in
    let at : get_or (rows ++ row ∷ []) last [] ≡ row = get_or_push rows row [] last (sym same) in
    let none : count_of there.table last slot ≡ 0 = ap (λ (r : List ℕ). get_or r slot 0) at ∙ zero_at (length h.table.book.states) slot in
    ap (λ (n : ℕ). refer_with s h reference_is.Put n (entered h holder) slot) number
    ∙ ap (λ (g : Held). refer_with s h reference_is.Put last g slot) comes
    ∙ ap (unless_refused h (λ t. settled (holding t there.names) last)) (put_change s there last slot reply_is.NotHeld below (nothing_put s there.table last slot none))

-- As many holders are there as there can be.
pub put_full : (s : Setup) (h : Held) (holder : List ℕ) (slot : ℕ) → place_of h.names holder ≡ None → length h.names ≡ length h.table.rows → 65536 ≤ length h.names
    → refer_at s h reference_is.Put holder slot ≡ (refused Worker (name_at s slot), h)
put_full s h holder slot place same many =
    let last = length h.names in
    let full : is_there_or_full h.names holder ≡ true = or_right (is_some (place_of h.names holder)) (leb 65536 (length h.names)) (le-leb _ _ many) in
    let stays : entered h holder ≡ h = cond-true (is_there_or_full h.names holder) _ _ full in
    let number : number_of h.names holder ≡ last = ap (λ (o : Option ℕ). unwrap_or o (length h.names)) place in
    let past : ltb last (length h.table.rows) ≡ false = le-ltb _ _ (omega arith) in
    ap (λ (n : ℕ). refer_with s h reference_is.Put n (entered h holder) slot) number
    ∙ ap (λ (g : Held). refer_with s h reference_is.Put last g slot) stays
    ∙ ap (unless_refused h (λ t. settled (holding t h.names) last)) (worker_out s last slot (call.Put last slot) h.table past)
