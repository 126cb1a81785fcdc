-- What a sound machine knows of a thread at a line of its call.
use Rattle.std.proofs.lemmas.List.Sums.{count_by-le-length}
use Rattle.std.proofs.Common.{ltb, ◌≡◌, ℕ, zero, suc, ◌+◌, ◌<◌, List, [], length, get_or, Option, Some, None, refl, sym, ◌∙◌, ap, subst, arith, get_or-set_same}
use Rattle.dep_index.specs.declared.table.states.ModuleState.{ModuleState}
use Rattle.dep_index.specs.declared.table.states.ModuleState.TheVariants.{Absent, Loading, Live, Draining, Unloading}
use Rattle.dep_index.specs.declared.table.calls.Call.{Call}
use Rattle.dep_index.specs.declared.table.calls.Call.TheVariants.{Get, Put, BeginLoad}
use Rattle.dep_index.specs.Table.{Module, state_of, count_of, holders}
use Rattle.dep_index.specs.Calls.{row_effect, book_effect, opening, IsInRange}
use Rattle.dep_index.specs.Laws.{OrderIsExact}
use Rattle.dep_index.proofs.Room.{load_had_room}
use Rattle.dep_index.specs.Words.{word_in, word_of}
use Rattle.dep_index.proofs.TableLaws.{none_held}
use Rattle.step_core.specs.declared.steps.Line.{Line}
use Rattle.step_core.specs.declared.steps.Line.TheVariants.{Word, Exchange, Write}
use Rattle.step_core.specs.declared.steps.Activity.{Activity}
use Rattle.step_core.specs.declared.steps.Step.{Step}
use Rattle.step_core.specs.declared.steps.Event.{Event}
use Rattle.step_core.proofs.WholeSteps.{steps_are_right, starts_sound}
use Rattle.step_core.specs.Machine.{start, step, step_refusal, State, Leaf, holder}
use Rattle.step_core.specs.Shown.{shown, pending, writing, book_after}
use Rattle.step_core.specs.Sound.{IsPlacedAt, IsSound}
use Rattle.step_core.specs.Kept.{CanWrite}
use Rattle.step_core.specs.StepLaw.{StepLaw}
use Rattle.step_core.proofs.Shown.{rows_after-at}
use Rattle.step_core.proofs.Lines.{shown_shaped}

pub in_range : (catalogue : List Module) (workers : ℕ) (s : State) (t : ℕ) (a : Activity) → IsSound catalogue workers s → get_or s.threads t None ≡ Some a
    → IsInRange (length s.words) workers a.call
in_range catalogue workers s t a sound here = rw sound.words ((sound.placed t a here).range)

pub in_range_of_locks : (catalogue : List Module) (workers : ℕ) (s : State) (t : ℕ) (a : Activity) → IsSound catalogue workers s → get_or s.threads t None ≡ Some a
    → IsInRange (length s.words) (length s.locks.leaves) a.call
in_range_of_locks catalogue workers s t a sound here = rw (sound.words, sound.leaves) ((sound.placed t a here).range)

pub place_at : (catalogue : List Module) (workers : ℕ) (s : State) (t : ℕ) (a : Activity) (l : Line) → IsSound catalogue workers s → get_or s.threads t None ≡ Some a → a.line ≡ l
    → IsPlacedAt s.locks s.written t a.call l
place_at catalogue workers s t a l sound here is = subst (λ (k : Line). IsPlacedAt s.locks s.written t a.call k) is ((sound.placed t a here).place)

pub exchange_below : (catalogue : List Module) (workers : ℕ) (s : State) (t : ℕ) (a : Activity) (x : ℕ) → IsSound catalogue workers s → get_or s.threads t None ≡ Some a → a.line ≡ Exchange x
    → x < 4294967296
exchange_below catalogue workers s t a x sound here is = (place_at catalogue workers s t a (Exchange x) sound here is).2

-- a get that is about to write does not hold the slot too often
write_room : (catalogue : List Module) (workers : ℕ) (s : State) (t : ℕ) (a : Activity) (w m : ℕ) → IsSound catalogue workers s → get_or s.threads t None ≡ Some a → a.line ≡ Write
    → a.call ≡ Get w m → count_of s.written w m < 65535
write_room catalogue workers s t a w m sound here is call =
    let place : IsPlacedAt s.locks s.written t a.call Write = place_at catalogue workers s t a Write sound here is in
    let place' : IsPlacedAt s.locks s.written t (Get w m) Write = subst (λ (c : Call). IsPlacedAt s.locks s.written t c Write) call place in
    let range : IsInRange (length catalogue) workers (Get w m) = subst (λ (c : Call). IsInRange (length catalogue) workers c) call ((sound.placed t a here).range) in
    let own : pending s.threads (holder s.locks (Leaf w)) ≡ Some (Get w m) =
    ap (pending s.threads) place'.1 ∙ ap writing here ∙ ap (λ (l : Line). writing (Some (record a { line = l }))) is ∙ ap Some call in
    let worker : w < length s.written.rows = omega (arith, range.1, sound.shape.rows) in
    let row : get_or (shown s).rows w [] ≡ row_effect (get_or s.written.rows w []) (Get w m) = rows_after-at s.threads s.locks.leaves s.written.rows w worker ∙ rw own refl in
    let slot : m < length (get_or s.written.rows w []) = omega (arith, range.0, sound.shape.row w range.1) in
    let count : count_of (shown s) w m ≡ count_of s.written w m + 1 = ap (λ (r : List ℕ). get_or r m 0) row ∙ get_or-set_same (get_or s.written.rows w []) m _ 0 slot in
    let held : 0 < count_of (shown s) w m = omega (arith, count) in
    omega (arith, count, (sound.lawful.pairs w m held).1)

word_is_some : (s : ModuleState) (n : ℕ) → 0 < n → 0 < word_in s n
word_is_some Absent n h = omega arith
word_is_some Loading n h = omega arith
word_is_some Live n h = h
word_is_some Draining n h = omega arith
word_is_some Unloading n h = omega arith

-- a put that departs finds a word to subtract from
pub departs_from : (catalogue : List Module) (workers : ℕ) (s : State) (t : ℕ) (a : Activity) (w m : ℕ) → IsSound catalogue workers s → get_or s.threads t None ≡ Some a → a.line ≡ Word
    → a.call ≡ Put w m → count_of s.written w m ≡ 1 → 0 < get_or s.words m 0
departs_from catalogue workers s t a w m sound here is call one =
    let place : IsPlacedAt s.locks s.written t a.call Word = place_at catalogue workers s t a Word sound here is in
    let place' : IsPlacedAt s.locks s.written t (Put w m) Word = subst (λ (c : Call). IsPlacedAt s.locks s.written t c Word) call place in
    let range : IsInRange (length catalogue) workers (Put w m) = subst (λ (c : Call). IsInRange (length catalogue) workers c) call ((sound.placed t a here).range) in
    let own : pending s.threads (holder s.locks (Leaf w)) ≡ None =
    ap (pending s.threads) place' ∙ ap writing here ∙ ap (λ (l : Line). writing (Some (record a { line = l }))) is in
    let worker : w < length s.written.rows = omega (arith, range.1, sound.shape.rows) in
    let row : get_or (shown s).rows w [] ≡ get_or s.written.rows w [] = rows_after-at s.threads s.locks.leaves s.written.rows w worker ∙ rw own refl in
    let count : get_or (get_or (shown s).rows w []) m 0 ≡ 1 = ap (λ (r : List ℕ). get_or r m 0) row ∙ one in
    let some : 0 < holders (shown s).rows m = some_holder (holders (shown s).rows m) refl count in
    let word : get_or s.words m 0 ≡ word_of (shown s) m = sound.word m range.0 in
    let positive : 0 < word_of (shown s) m = word_is_some (state_of (shown s).book m) (holders (shown s).rows m) some in
    omega (arith, word, positive) where
      some_holder : (n : ℕ) → holders (shown s).rows m ≡ n → get_or (get_or (shown s).rows w []) m 0 ≡ 1 → 0 < holders (shown s).rows m
      some_holder zero e c = absurd (omega (arith, none_held (shown s).rows m w e, c))
      some_holder (suc n) e c = omega (arith, e)

-- after a step that is not refused the machine is sound still
pub sound_after_step : (catalogue : List Module) (s new : State) (x : Step) → IsSound catalogue (length s.written.rows) s → step_refusal catalogue s x ≡ None → new ≡ (step catalogue s x).1
    → IsSound catalogue (length new.written.rows) new
sound_after_step catalogue s new x sound allowed is =
    let at_new : IsSound catalogue (length s.written.rows) new = subst (λ (n : State). IsSound catalogue (length s.written.rows) n) (sym is) ((steps_are_right catalogue (length s.written.rows) s x sound allowed).0) in
    subst (λ (n : ℕ). IsSound catalogue n new) (sym at_new.shape.rows) at_new

pub shown_after_step : (catalogue : List Module) (s new : State) (x : Step) (e : Event) → IsSound catalogue (length s.written.rows) s → step_refusal catalogue s x ≡ None
    → e ≡ (step catalogue s x).0 → new ≡ (step catalogue s x).1 → StepLaw catalogue s x e new
shown_after_step catalogue s new x e sound allowed event is =
    subst (λ (n : State). StepLaw catalogue s x e n) (sym is)
    (subst (λ (f : Event). StepLaw catalogue s x f (step catalogue s x).1) (sym event) ((steps_are_right catalogue (length s.written.rows) s x sound allowed).1))

word_in_small : (s : ModuleState) (n : ℕ) → n < 4294967296 → word_in s n < 17179869184
word_in_small Absent n h = omega arith
word_in_small Loading n h = omega arith
word_in_small Live n h = omega arith
word_in_small Draining n h = omega arith
word_in_small Unloading n h = omega arith

-- every word is well below 2^64
pub word_small : (catalogue : List Module) (workers : ℕ) (s : State) (m : ℕ) → IsSound catalogue workers s → m < length catalogue → get_or s.words m 0 < 17179869184
word_small catalogue workers s m sound h =
    let shaped = shown_shaped (length catalogue) workers s sound.shape in
    let few : holders (shown s).rows m < 4294967296 = omega (arith, shaped.rows, sound.few, count_by-le-length (λ r. ltb 0 (get_or r m 0)) (shown s).rows) in
    omega (arith, sound.word m h, word_in_small (state_of (shown s).book m) (holders (shown s).rows m) few)

-- the order has room for a module whose load is about to be written
order_room : (catalogue : List Module) (workers : ℕ) (s : State) (t : ℕ) (a : Activity) (m : ℕ) → IsSound catalogue workers s → get_or s.threads t None ≡ Some a → a.line ≡ Write
    → a.call ≡ BeginLoad m → length s.written.book.order < length s.written.book.states
order_room catalogue workers s t a m sound here is call =
    let place : IsPlacedAt s.locks s.written t a.call Write = place_at catalogue workers s t a Write sound here is in
    let place' : IsPlacedAt s.locks s.written t (BeginLoad m) Write = subst (λ (c : Call). IsPlacedAt s.locks s.written t c Write) call place in
    let own : pending s.threads s.locks.table ≡ Some (BeginLoad m) =
    ap (pending s.threads) place'.1 ∙ ap writing here ∙ ap (λ (l : Line). writing (Some (record a { line = l }))) is ∙ ap Some call in
    let book : (shown s).book ≡ book_effect s.written.book (BeginLoad m) = ap (λ (o : Option Call). book_after o s.written.book) own in
    load_had_room s.written.book m (subst OrderIsExact book sound.lawful.order)

-- a thread at the line that writes can write
pub can_write : (catalogue : List Module) (workers : ℕ) (s : State) (t : ℕ) (a : Activity) → IsSound catalogue workers s → get_or s.threads t None ≡ Some a → a.line ≡ Write
    → CanWrite s.written a.call
can_write catalogue workers s t a sound here is =
    record {
      range = rw (sound.shape.states, sound.shape.rows) ((sound.placed t a here).range);
      slots = λ w h. sound.shape.row w (omega (arith, sound.shape.rows)) ∙ sym sound.shape.states;
      count = λ w m call. write_room catalogue workers s t a w m sound here is call;
      order = λ m call. order_room catalogue workers s t a m sound here is call;
    }

-- the machine begins sound, and shows the opening table
pub sound_at_start : (catalogue : List Module) (workers threads calls : ℕ) (s : State) → workers < 4294967296 → s ≡ start catalogue workers threads calls
    → IsSound catalogue (length s.written.rows) s
sound_at_start catalogue workers threads calls s few is =
    let sound : IsSound catalogue workers s = subst (λ (n : State). IsSound catalogue workers n) (sym is) ((starts_sound catalogue workers threads calls few).0) in
    subst (λ (n : ℕ). IsSound catalogue n s) (sym sound.shape.rows) sound

pub shown_at_start : (catalogue : List Module) (workers threads calls : ℕ) (s : State) → workers < 4294967296 → s ≡ start catalogue workers threads calls
    → shown s ≡ opening catalogue workers
shown_at_start catalogue workers threads calls s few is = ap shown is ∙ (starts_sound catalogue workers threads calls few).1
