-- Histories by calls.
use Rattle.std.specs.Prelude.{⊤, ◌↔◌}
use Rattle.std.proofs.Common.{◌≡◌, ◌⊎◌, inl, inr, ⊎_elim, ℕ, zero, suc, ◌+◌, ◌≤◌, List, [], ◌∷◌, ◌++◌, length, take, drop, refl, sym, ◌∙◌, ap, subst, arith, length-append, length-drop, take-append-drop}
use Rattle.std.proofs.lemmas.List.{length-take-le, take_all, drop-drop}
use Rattle.std.specs.declared.snapshot.Snapshot.{Snapshot}
use Rattle.file_journal.specs.declared.disk_file.Syncs.{Syncs}
use Rattle.line_journal.specs.Renewed.{StaysTo}
use Rattle.line_journal.specs.declared.renewable.Renewed.{Renewed}
use Rattle.line_journal.specs.declared.renewable.Renewed.TheVariants.{Same, Longer, Other}
use Rattle.file_journal.specs.Renewed.{IsOther}
use Rattle.line_journal.specs.Device.{History, overwritten, Torn, Shortened, Unchanged, UnchangedOr, IsOnDisk, Goes}
use Rattle.file_journal.specs.declared.calls.kinds.Call.{Call}
use Rattle.file_journal.specs.declared.calls.kinds.Call.TheVariants.{Look, Read, OpenAgain, Write, Again, Cut, Settle, Replaced, NotReplaced}
use Rattle.file_journal.specs.declared.calls.kinds.Noted.{Noted}
use Rattle.file_journal.specs.Counts.{count, is_look, is_write}
use Rattle.file_journal.specs.declared.belief.Belief.{Belief}
use Rattle.file_journal.specs.Belief.{IsLooked, IsOpened}
use Rattle.file_journal.specs.Calls.{With, after_call, after, after_all, WasLeft, anything, MayLeave, call_history, IsNoted, IsNotedOrNot}

was_more : (others : List ℕ → Type 0) (calls : List (Snapshot Noted)) (next : Snapshot Noted) (moment : ℕ) (left : List ℕ) → WasLeft others calls moment left → WasLeft others (calls ++ next ∷ []) moment left
was_more others [] next moment left was = absurd was
was_more others (first ∷ rest) next zero left (inl is) = inl is
was_more others (first ∷ rest) next zero left (inr later) = inr (was_more (after others first.value) rest next zero left later)
was_more others (first ∷ rest) next (suc moment) left was = was_more (after others first.value) rest next moment left was

was_one : (others : List ℕ → Type 0) (calls : List (Snapshot Noted)) (next : Snapshot Noted) (moment : ℕ) (left : List ℕ)
    → moment ≤ length calls → WasLeft others (calls ++ next ∷ []) moment left → WasLeft others calls moment left ⊎ With next.value.before.value.items (after_all others calls) left
was_one others [] next zero left le (inl is) = inr is
was_one others [] next zero left le (inr none) = absurd none
was_one others [] next (suc moment) left le was = absurd was
was_one others (first ∷ rest) next zero left le (inl is) = inl (inl is)
was_one others (first ∷ rest) next zero left le (inr later) = ⊎_elim (λ was. inl (inr was)) (λ is. inr is) (was_one (after others first.value) rest next zero left (omega arith) later)
was_one others (first ∷ rest) next (suc moment) left le was = was_one (after others first.value) rest next moment left (omega arith) was

was_last : (others : List ℕ → Type 0) (calls : List (Snapshot Noted)) (next : Snapshot Noted) (moment : ℕ) (left : List ℕ)
    → moment ≤ length calls → With next.value.before.value.items (after_all others calls) left → WasLeft others (calls ++ next ∷ []) moment left
was_last others [] next zero left le is = inl is
was_last others [] next (suc moment) left le is = absurd (omega arith)
was_last others (first ∷ rest) next zero left le is = inr (was_last (after others first.value) rest next zero left (omega arith) is)
was_last others (first ∷ rest) next (suc moment) left le is = was_last (after others first.value) rest next moment left (omega arith) is

after_more : (others : List ℕ → Type 0) (calls : List (Snapshot Noted)) (next : Snapshot Noted) (left : List ℕ) → after_all others (calls ++ next ∷ []) left → after (after_all others calls) next.value left
after_more others [] next left is = is
after_more others (first ∷ rest) next left is = after_more (after others first.value) rest next left is

more_after : (others : List ℕ → Type 0) (calls : List (Snapshot Noted)) (next : Snapshot Noted) (left : List ℕ) → after (after_all others calls) next.value left → after_all others (calls ++ next ∷ []) left
more_after others [] next left is = is
more_after others (first ∷ rest) next left is = more_after (after others first.value) rest next left is

-- of a file that was looked at
pub looked : {place : ℕ} {before bytes : List ℕ} {calls later : List (Snapshot Noted)} → IsNoted (Look place) before bytes calls later
    → (read left : List ℕ) → MayLeave later read left
looked {place} {before} {bytes} {calls} {later} noted read left =
    let next = noted.noted in
    let others = With next.value.before.value.items (after_all anything calls) in
    let is : after_call next.value.call next.value.bytes.value.items others left
    = subst (λ (k : Call). after_call k next.value.bytes.value.items others left) (sym noted.is_call) refl in
    inr (subst (λ (l : List (Snapshot Noted)). after_all anything l left) (sym noted.more) (more_after anything calls next left is))

-- of a file that had no calls before it was looked at
pub opened : {old new : Belief} → old.bytes.items ≡ [] → old.calls.noted.items ≡ [] → IsLooked 0 old new → IsOpened new
opened {old} {new} none uncalled looked =
    let call = looked.noted in
    let is_front : looked.place ≡ 0 = omega (arith, looked.within) in
    record {
      noted = call.noted;
      is_call = call.is_call ∙ ap Look is_front;
      is_before = call.is_before ∙ none;
      is_bytes = call.is_bytes ∙ sym (looked.believed ∙ ap (λ (place : ℕ). take place old.bytes.items ++ looked.read) is_front);
      more = call.more ∙ ap (λ (calls : List (Snapshot Noted)). calls ++ call.noted ∷ []) uncalled;
    }

count-append : (kind : Call → ℕ) (calls : List (Snapshot Noted)) (next : Snapshot Noted) → count kind (calls ++ next ∷ []) ≡ count kind calls + kind next.value.call
count-append kind [] next = omega arith
count-append kind (first ∷ rest) next = omega (arith, count-append kind rest next)

-- how many calls of a kind there are after one more
pub counted : (kind : Call → ℕ) {call : Call} {before bytes : List ℕ} {calls later : List (Snapshot Noted)} → IsNoted call before bytes calls later
    → count kind later ≡ count kind calls + kind call
counted kind {call} {before} {bytes} {calls} {later} noted =
    ap (count kind) noted.more ∙ count-append kind calls noted.noted ∙ ap (λ (k : Call). count kind calls + kind k) noted.is_call

pub not_counted : (kind : Call → ℕ) {call : Call} {before bytes : List ℕ} {calls later : List (Snapshot Noted)} → kind call ≡ 0 → IsNoted call before bytes calls later
    → count kind later ≡ count kind calls
not_counted kind none noted = omega (arith, none, counted kind noted)

pub not_counted_or_not : (kind : Call → ℕ) {call : Call} {before bytes : List ℕ} {calls later : List (Snapshot Noted)} → kind call ≡ 0 → IsNotedOrNot call before bytes calls later
    → count kind later ≡ count kind calls
not_counted_or_not kind none (inl same) = ap (count kind) same
not_counted_or_not kind none (inr noted) = not_counted kind none noted

-- what a call leaves beside what a read returns
leaves_by : {call : Call} {before bytes : List ℕ} {calls later : List (Snapshot Noted)} → IsNoted call before bytes calls later
    → (left : List ℕ) → after_all anything later left → after_call call bytes (MayLeave calls before) left
leaves_by {call} {before} {bytes} {calls} {later} noted left is =
    let others = after_all anything calls in
    let call_was = noted.noted.value.call in
    let bytes_was = noted.noted.value.bytes.value.items in
    let by_list = after_more anything calls noted.noted left (subst (λ (l : List (Snapshot Noted)). after_all anything l left) noted.more is) in
    let by_before = subst (λ (f : List ℕ). after_call call_was bytes_was (With f others) left) noted.is_before by_list in
    let by_bytes = subst (λ (f : List ℕ). after_call call_was f (With before others) left) noted.is_bytes by_before in
    subst (λ (k : Call). after_call k bytes (With before others) left) noted.is_call by_bytes

module _ (calls : List (Snapshot Noted)) (next : Snapshot Noted) (old new : List ℕ) (is_old : next.value.before.value.items ≡ old) where
  goes_by : {step : List ℕ → List ℕ → Type 0} → ((left : List ℕ) → MayLeave (calls ++ next ∷ []) new left → (before : List ℕ) × MayLeave calls old before × step before left)
      → Goes step (call_history calls old) (call_history (calls ++ next ∷ []) new)
  goes_by {step} steps = record {
    later = omega (arith, length-append calls (next ∷ []));
    steps = steps;
    nothing_else = λ moment left le since. ⊎_elim (λ now. inr now)
        (λ was. ⊎_elim (λ before. inl (inr before)) (λ is. inl (inl (subst (λ (f : List ℕ). With f (after_all anything calls) left) is_old is))) (was_one anything calls next moment left le was)) since;
    keeps = λ moment left le since. inr (⊎_elim (λ now. was_last anything calls next moment left le (subst (λ (f : List ℕ). With f (after_all anything calls) left) (sym is_old) now)) (was_more anything calls next moment left) since);
  }

-- bytes that were read behind the first ones
pub stays_to : (kept : ℕ) (old read : List ℕ) → kept ≤ length old → StaysTo kept old (take kept old ++ read)
stays_to kept old read le = record {
  within = omega (arith, le, length-append (take kept old) read, length-take-le kept old le);
  front = take-take kept old read le;
}
  where
    take-take : (n : ℕ) (l m : List ℕ) → n ≤ length l → take n (take n l ++ m) ≡ take n l
    take-take zero l m le = refl
    take-take (suc n) [] m le = absurd (omega (arith, le))
    take-take (suc n) (x ∷ l) m le = ap (λ (r : List ℕ). x ∷ r) (take-take n l m (omega (arith, le)))

pub other_bytes : (kept : ℕ) (old read : List ℕ) → kept ≤ length old → (read ≡ drop kept old → ⊥) → take kept old ++ read ≡ old → ⊥
other_bytes kept old read le differs same = differs (sym (behind kept old read le) ∙ ap (drop kept) same)
  where
    behind : (n : ℕ) (l m : List ℕ) → n ≤ length l → drop n (take n l ++ m) ≡ m
    behind zero l m le = refl
    behind (suc n) [] m le = absurd (omega (arith, le))
    behind (suc n) (x ∷ l) m le = behind n l m (omega (arith, le))

IsLonger : Renewed → Type 0
IsLonger Same = ⊥
IsLonger Longer = ⊤
IsLonger Other = ⊥

pub other_of : (old new : List ℕ) (renewed : Renewed) → (renewed ≡ Same ↔ new ≡ old) → IsOther old new renewed
unfolding IsLonger
other_of old new Same when = tt
other_of old new Longer when = λ same. subst IsLonger (when.1 same) tt
other_of old new Other when = tt

-- a call that was noted
pub goes : {step : List ℕ → List ℕ → Type 0} {call : Call} {before bytes : List ℕ} {calls later : List (Snapshot Noted)} → IsNoted call before bytes calls later → (new : List ℕ) → step before new
    → ((left : List ℕ) → after_call call bytes (MayLeave calls before) left → (b : List ℕ) × MayLeave calls before b × step b left)
    → Goes step (call_history calls before) (call_history later new)
goes {step} {call} {before} {bytes} {calls} {later} noted new does steps =
    let reached : (left : List ℕ) → MayLeave later new left → (b : List ℕ) × MayLeave calls before b × step b left
    = λ left leaves. ⊎_elim (λ is. (before, inl refl, subst (step before) (sym is) does)) (λ is. steps left (leaves_by noted left is)) leaves in
    subst (λ (l : List (Snapshot Noted)). Goes step (call_history calls before) (call_history l new)) (sym noted.more)
    (goes_by calls noted.noted before new noted.is_before (subst (λ (l : List (Snapshot Noted)). (left : List ℕ) → MayLeave l new left → (b : List ℕ) × MayLeave calls before b × step b left) noted.more reached))

-- a call that was not
pub stays : {step : List ℕ → List ℕ → Type 0} (history : History) → ((left : List ℕ) → step left left) → Goes step history history
stays {step} history same = record {
  later = omega arith;
  steps = λ left leaves. (left, leaves, same left);
  nothing_else = λ moment left le since. inl since;
  keeps = λ moment left le since. since;
}

pub stays_as : {step : List ℕ → List ℕ → Type 0} {calls later : List (Snapshot Noted)} {old new : List ℕ} → later ≡ calls → new ≡ old → ((left : List ℕ) → step left left)
    → Goes step (call_history calls old) (call_history later new)
stays_as {step} {calls} {later} {old} {new} same_calls same does =
    subst (λ (l : List (Snapshot Noted)). Goes step (call_history calls old) (call_history l new)) (sym same_calls)
    (subst (λ (f : List ℕ). Goes step (call_history calls old) (call_history calls f)) (sym same) (stays (call_history calls old) does))

-- nothing of a write, and all of it
pub torn_not : (place count : ℕ) (file : List ℕ) → Torn place count file file
torn_not place count file = record {
  middle = take count (drop place file);
  is = sym (take-append-drop place file) ∙ ap (λ (l : List ℕ). take place file ++ l) (sym (take-append-drop count (drop place file)) ∙ ap (λ (l : List ℕ). take count (drop place file) ++ l) (drop-drop count place file));
  within = taken count (drop place file);
  no_shorter = omega arith;
}
  where
    taken : (n : ℕ) (l : List ℕ) → length (take n l) ≤ n
    taken zero l = omega arith
    taken (suc n) [] = omega arith
    taken (suc n) (x ∷ l) = omega (arith, taken n l)

pub torn_done : (file bytes : List ℕ) (place : ℕ) → place ≤ length file → Torn place (length bytes) file (overwritten file place bytes)
torn_done file bytes place le = record {
  middle = bytes;
  is = refl;
  within = omega arith;
  no_shorter = omega (
    arith,
    le,
    length-append (take place file) (bytes ++ drop (place + length bytes) file),
    length-append bytes (drop (place + length bytes) file),
    length-take-le place file le,
    length-drop (place + length bytes) file,
  );
}

-- a cut of what a crash left: of a shorter file all is left
pub shortened_not : (least : ℕ) (file : List ℕ) → Shortened least file file
shortened_not least file = record {
  size = least + length file;
  no_less = omega arith;
  is = sym (take_all (least + length file) file (omega arith));
}

pub shortened_done : (file : List ℕ) (size : ℕ) → Shortened size file (take size file)
shortened_done file size = record { size = size; no_less = omega arith; is = refl }

-- each kind of call
pub write_goes : {before bytes : List ℕ} {calls later : List (Snapshot Noted)} (place : ℕ) → IsNoted (Write place) before bytes calls later → (new : List ℕ) → Torn place (length bytes) before new
    → Goes (Torn place (length bytes)) (call_history calls before) (call_history later new)
write_goes place noted new does = goes noted new does (λ left is. is)

pub write_or_not_goes : {before bytes : List ℕ} {calls later : List (Snapshot Noted)} (place : ℕ) → IsNotedOrNot (Write place) before bytes calls later
    → Goes (Torn place (length bytes)) (call_history calls before) (call_history later before)
write_or_not_goes {before} {bytes} place (inl same) = stays_as same refl (torn_not place (length bytes))
write_or_not_goes {before} {bytes} place (inr noted) = write_goes place noted before (torn_not place (length bytes) before)

pub cut_goes : {before bytes : List ℕ} {calls later : List (Snapshot Noted)} (size : ℕ) → IsNoted (Cut size) before bytes calls later → (new : List ℕ) → Shortened size before new
    → Goes (Shortened size) (call_history calls before) (call_history later new)
cut_goes size noted new does = goes noted new does (λ left is. is)

pub cut_or_not_goes : {before bytes : List ℕ} {calls later : List (Snapshot Noted)} (size : ℕ) → IsNotedOrNot (Cut size) before bytes calls later
    → Goes (Shortened size) (call_history calls before) (call_history later before)
cut_or_not_goes size (inl same) = stays_as same refl (shortened_not size)
cut_or_not_goes {before} size (inr noted) = cut_goes size noted before (shortened_not size before)

pub read_goes : {before bytes : List ℕ} {calls later : List (Snapshot Noted)} (place : ℕ) → IsNoted (Read place) before bytes calls later
    → Goes Unchanged (call_history calls before) (call_history later before)
read_goes {before} place noted = goes noted before refl (λ left is. (left, is, refl))

pub open_again_goes : {before bytes : List ℕ} {calls later : List (Snapshot Noted)} → IsNoted OpenAgain before bytes calls later
    → Goes Unchanged (call_history calls before) (call_history later before)
open_again_goes {before} noted = goes noted before refl (λ left is. (left, is, refl))

pub again_goes : {before bytes : List ℕ} {calls later : List (Snapshot Noted)} → IsNoted Again before bytes calls later
    → Goes Unchanged (call_history calls before) (call_history later before)
again_goes {before} noted = goes noted before refl (λ left is. (left, is, refl))

pub settle_goes : {before bytes : List ℕ} {calls later : List (Snapshot Noted)} (syncs : Syncs) → IsNoted (Settle syncs) before bytes calls later
    → Goes Unchanged (call_history calls before) (call_history later before)
settle_goes {before} syncs noted = goes noted before refl (λ left none. absurd none)

pub replaced_goes : {before bytes : List ℕ} {calls later : List (Snapshot Noted)} (syncs : Syncs) → IsNoted (Replaced syncs) before bytes calls later
    → Goes (UnchangedOr bytes) (call_history calls before) (call_history later bytes)
replaced_goes {before} {bytes} syncs noted = goes noted bytes (inr refl) (λ left none. absurd none)

pub not_replaced_goes : {before bytes : List ℕ} {calls later : List (Snapshot Noted)} → IsNotedOrNot NotReplaced before bytes calls later
    → Goes (UnchangedOr bytes) (call_history calls before) (call_history later before)
not_replaced_goes (inl same) = stays_as same refl (λ left. inl refl)
not_replaced_goes {before} (inr noted) = goes noted before (inl refl) (λ left is. ⊎_elim (λ old. (left, old, inl refl)) (λ new. (before, inl refl, inr new)) is)

-- after a sync
pub settled : {before bytes : List ℕ} {calls later : List (Snapshot Noted)} (syncs : Syncs) → IsNoted (Settle syncs) before bytes calls later → IsOnDisk before (call_history later before)
settled syncs noted left leaves = ⊎_elim (λ is. is) (λ other. absurd (leaves_by noted left other)) leaves

pub replaced : {before bytes : List ℕ} {calls later : List (Snapshot Noted)} (syncs : Syncs) → IsNoted (Replaced syncs) before bytes calls later → IsOnDisk bytes (call_history later bytes)
replaced syncs noted left leaves = ⊎_elim (λ is. is) (λ other. absurd (leaves_by noted left other)) leaves
