-- The history of a file whose writes come to the disk later.
use Rattle.std.proofs.Common.{◌≡◌, ◌⊎◌, inl, inr, ⊎_elim, ℕ, zero, suc, ◌+◌, ◌≤◌, List, [], ◌∷◌, ◌++◌, length, take, drop, refl, sym, ◌∙◌, ap, subst, arith, length-append, length-drop, take-append-drop}
use Rattle.std.proofs.lemmas.List.{length-take-le, take_all, drop-drop}
use Rattle.line_journal.specs.Device.{History, overwritten, Torn, Shortened, Unchanged, UnchangedOr, IsOnDisk, Goes}
use Rattle.power_cuts.specs.declared.state.Call.{Call}
use Rattle.power_cuts.specs.declared.state.Call.TheVariants.{Write, Cut}
use Rattle.power_cuts.specs.declared.state.State.{State}
use Rattle.power_cuts.specs.Log.{noted}
use Rattle.power_cuts.specs.Disk.{read_of, after_call, after_calls, MayLeave, WasLeft, disk_history}

was_more : (past : List State) (last : State) (left : List ℕ) → WasLeft past left → WasLeft (past ++ last ∷ []) left
was_more [] last left was = absurd was
was_more (first ∷ past) last left (inl is) = inl is
was_more (first ∷ past) last left (inr later) = inr (was_more past last left later)

was_one : (past : List State) (last : State) (left : List ℕ) → WasLeft (past ++ last ∷ []) left → WasLeft past left ⊎ MayLeave last left
was_one [] last left (inl is) = inr is
was_one [] last left (inr none) = absurd none
was_one (first ∷ past) last left (inl is) = inl (inl is)
was_one (first ∷ past) last left (inr later) = ⊎_elim (λ was. inl (inr was)) (λ is. inr is) (was_one past last left later)

was_last : (past : List State) (last : State) (left : List ℕ) → MayLeave last left → WasLeft (past ++ last ∷ []) left
was_last [] last left is = inl is
was_last (first ∷ past) last left is = inr (was_last past last left is)

drop_more : (moment : ℕ) (past : List State) (last : State) → moment ≤ length past → drop moment (past ++ last ∷ []) ≡ drop moment past ++ last ∷ []
drop_more zero past last le = refl
drop_more (suc moment) [] last le = absurd (omega arith)
drop_more (suc moment) (first ∷ past) last le = drop_more moment past last (omega arith)

-- a call that did nothing
pub stays : {step : List ℕ → List ℕ → Type 0} (history : History) → ((left : List ℕ) → step left left) → Goes step history history
stays {step} history same = record {
  later = omega arith;
  steps = λ left leaves. (left, leaves, same left);
  nothing_else = λ moment left le since. inl since;
  keeps = λ moment left le since. since;
}

pub stays_as : {step : List ℕ → List ℕ → Type 0} (past later : List State) (old new : State) → later ≡ past → new ≡ old → ((left : List ℕ) → step left left)
    → Goes step (disk_history past old) (disk_history later new)
stays_as {step} past later old new same_past same does =
    subst (λ (l : List State). Goes step (disk_history past old) (disk_history l new)) (sym same_past)
    (subst (λ (s : State). Goes step (disk_history past old) (disk_history past s)) (sym same) (stays (disk_history past old) does))

module _ (past : List State) (old new : State) where
  more_goes : {step : List ℕ → List ℕ → Type 0} → ((left : List ℕ) → MayLeave new left → (before : List ℕ) × MayLeave old before × step before left)
      → Goes step (disk_history past old) (disk_history (past ++ old ∷ []) new)
  more_goes {step} steps = record {
    later = omega (arith, length-append past (old ∷ []));
    steps = steps;
    nothing_else = λ moment left le since. ⊎_elim (λ now. inr now)
        (λ was. inl (⊎_elim (λ before. inr before) (λ is. inl is) (was_one (drop moment past) old left (subst (λ (l : List State). WasLeft l left) (drop_more moment past old le) was)))) since;
    keeps = λ moment left le since. inr (subst (λ (l : List State). WasLeft l left) (sym (drop_more moment past old le))
        (⊎_elim (λ now. was_last (drop moment past) old left now) (was_more (drop moment past) old left) since));
  }

-- a call that was made
pub goes : {step : List ℕ → List ℕ → Type 0} (past later : List State) (old new : State) → later ≡ past ++ old ∷ []
    → ((left : List ℕ) → MayLeave new left → (before : List ℕ) × MayLeave old before × step before left)
    → Goes step (disk_history past old) (disk_history later new)
goes {step} past later old new more steps = subst (λ (l : List State). Goes step (disk_history past old) (disk_history l new)) (sym more) (more_goes past old new steps)

after_more : (calls : List Call) (call : Call) (others : List ℕ → Type 0) (left : List ℕ) → after_calls (calls ++ call ∷ []) others left → after_call call (after_calls calls others) left
after_more [] call others left is = is
after_more (first ∷ later) call others left is = after_more later call (after_call first others) left is

-- what a call did to a file, or may do
abbrev pub step_of : Call → List ℕ → List ℕ → Type 0
step_of (Write place count) before left = Torn place count before left
step_of (Cut size) before left = Shortened size before left

by_call : (call : Call) (others : List ℕ → Type 0) (left : List ℕ) → after_call call others left → (before : List ℕ) × others before × step_of call before left
by_call (Write place count) others left is = is
by_call (Cut size) others left is = is

-- a call that changed what a read returns, and is not synced
pub change_goes : (past later : List State) (old new : State) (call : Call) → later ≡ past ++ old ∷ [] → new.disk ≡ old.disk → noted new.unsynced ≡ noted old.unsynced ++ call ∷ []
    → step_of call (read_of old) (read_of new) → Goes (step_of call) (disk_history past old) (disk_history later new)
change_goes past later old new call more same grows does = goes past later old new more (λ left leaves. ⊎_elim
    (λ is. (read_of old, inl refl, subst (step_of call (read_of old)) (sym is) does))
    (λ is. let was = by_call call (after_calls (noted old.unsynced) (λ file. file ≡ old.disk.items)) left
    (after_more (noted old.unsynced) call (λ file. file ≡ old.disk.items) left
    (subst (λ (l : List Call). after_calls l (λ file. file ≡ old.disk.items) left) grows
    (subst (λ (d : _). after_calls (noted new.unsynced) (λ file. file ≡ d.items) left) same is))) in
    (was.0, inr was.1, was.2)) leaves)

-- nothing of a write, and all of it
pub torn_not : (file : List ℕ) (place count : ℕ) → Torn place count file file
torn_not file place count = record {
  middle = take count (drop place file);
  is = sym (take-append-drop place file) ∙ ap (λ (l : List ℕ). take place file ++ l) (sym (take-append-drop count (drop place file)) ∙ ap (λ (l : List ℕ). take count (drop place file) ++ l) (drop-drop count place file));
  within = taken count (drop place file);
  no_shorter = omega arith;
}
  where
    taken : (n : ℕ) (l : List ℕ) → length (take n l) ≤ n
    taken zero l = omega arith
    taken (suc n) [] = omega arith
    taken (suc n) (x ∷ l) = omega (arith, taken n l)

pub torn_done : (file bytes : List ℕ) (place : ℕ) → place ≤ length file → Torn place (length bytes) file (overwritten file place bytes)
torn_done file bytes place le = record {
  middle = bytes;
  is = refl;
  within = omega arith;
  no_shorter = omega (
    arith,
    le,
    length-append (take place file) (bytes ++ drop (place + length bytes) file),
    length-append bytes (drop (place + length bytes) file),
    length-take-le place file le,
    length-drop (place + length bytes) file,
  );
}

pub shortened_not : (file : List ℕ) (least : ℕ) → Shortened least file file
shortened_not file least = record {
  size = least + length file;
  no_less = omega arith;
  is = sym (take_all (least + length file) file (omega arith));
}

pub shortened_done : (file : List ℕ) (size : ℕ) → Shortened size file (take size file)
shortened_done file size = record { size = size; no_less = omega arith; is = refl }

-- what may come of a file by calls may be the file as it was
none_done : (calls : List Call) (others : List ℕ → Type 0) (file : List ℕ) → others file → after_calls calls others file
none_done [] others file is = is
none_done (first ∷ later) others file is = none_done later (after_call first others) file (not_done first others file is)
  where
    not_done : (call : Call) (others : List ℕ → Type 0) (file : List ℕ) → others file → after_call call others file
    not_done (Write place count) others file is = (file, is, torn_not file place count)
    not_done (Cut size) others file is = (file, is, shortened_not file size)

-- what is on the disk
pub disk_is_left : (state : State) → MayLeave state state.disk.items
disk_is_left state = inr (none_done (noted state.unsynced) (λ file. file ≡ state.disk.items) state.disk.items refl)

-- nothing is unsynced
pub at_rest : (state : State) → noted state.unsynced ≡ [] → read_of state ≡ state.disk.items → (left : List ℕ) → MayLeave state left → left ≡ state.disk.items
at_rest state none same left leaves = ⊎_elim (λ is. is ∙ same) (λ is. subst (λ (l : List Call). after_calls l (λ file. file ≡ state.disk.items) left) none is) leaves

-- a call that brings a file to the disk
pub settle_goes : {step : List ℕ → List ℕ → Type 0} (past later : List State) (old new : State) → later ≡ past ++ old ∷ [] → noted new.unsynced ≡ [] → read_of new ≡ new.disk.items
    → (before : List ℕ) → MayLeave old before → step before new.disk.items → Goes step (disk_history past old) (disk_history later new)
settle_goes {step} past later old new more none same before left does =
    goes past later old new more (λ file leaves. (before, left, subst (step before) (sym (at_rest new none same file leaves)) does))
