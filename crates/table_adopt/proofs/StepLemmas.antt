-- Of which modules steps are.
use Rattle.std.proofs.Common.{◌≡◌, ℕ, ◌<◌, ◌||◌, ◌&&◌, Bool, true, false, not, List, [], ◌∷◌, ◌++◌, length, reverse, All, Option, Some, None, refl, sym, ap, subst, ◌∙◌}
use Rattle.std.specs.Prelude.{is_none, if◌then◌else◌}
use Rattle.std.specs.List.{flat_map}
use Rattle.std.proofs.lemmas.Bool.{ltb-true, false≢true}
use Rattle.std.proofs.lemmas.List.Elements.{All-nil, All-cons, All-head, All-tail, All-append}
use Rattle.dep_index.specs.Catalogue.{Description, description_at, slot_named}
use Rattle.dep_index.specs.Table.{Table, state_of, holders, is_held, is_absent, takes_references}
use Rattle.dep_index.specs.Laws.{PairsAreOpen}
use Rattle.dep_index.specs.declared.table.states.ModuleState.{ModuleState}
use Rattle.dep_index.specs.declared.table.states.ModuleState.TheVariants as table_is
use Rattle.dep_index.proofs.StepLaws.{held_takes}
use Rattle.proc_modules.specs.declared.line.LineState.{LineState}
use Rattle.proc_modules.specs.declared.line.LineState.TheVariants as kernel_is
use Rattle.table_adopt.specs.declared.kernel.KernelModule.{KernelModule}
use Rattle.table_adopt.specs.declared.step.Step.{Step}
use Rattle.table_adopt.specs.declared.step.Step.TheVariants.{BeginLoad, EndLoad, BeginRemove, EndRemove}
use Rattle.table_adopt.specs.declared.course.Course.{Course}
use Rattle.table_adopt.specs.declared.course.Course.TheVariants.{Stays, Loaded, NotLoaded, Removed, LoadedAgain, Goes, Lost}
use Rattle.table_adopt.specs.Steps.{slot_of}
use Rattle.table_adopt.specs.Kernel.{kernel_state}
use Rattle.table_adopt.specs.Courses.{course_of, steps_of, is_lost}
use Rattle.table_adopt.specs.PlanParts.{PlanParts}
use Rattle.table_adopt.specs.Plans.{is_needed, is_free, if_listed, with_course, course_at, no_plan, settled, plan_of, load_at, load_of, loads_of, steps_for}
use Rattle.table_adopt.specs.Laws.{LeavesHeldAlone}
use Rattle.table_adopt.proofs.SlotLemmas.{named_below}

-- each step is of a module that has P
abbrev pub AllHave : (ℕ → Type 0) → List Step → Type 0
AllHave P steps = All (λ step. P (slot_of step)) steps

module _ (P : ℕ → Type 0) where
  none : AllHave P []
  none = All-nil (λ step. P (slot_of step))

  more : (step : Step) (steps : List Step) → P (slot_of step) → AllHave P steps → AllHave P (step ∷ steps)
  more = All-cons (λ step. P (slot_of step))

  both : (steps later : List Step) → AllHave P steps → AllHave P later → AllHave P (steps ++ later)
  both = All-append (λ step. P (slot_of step))

  -- what becomes of a module that has P
  pub course_has : (course : Course) (m : ℕ) → P m → AllHave P (steps_of course m)
  course_has Stays m p = none
  course_has Loaded m p = more (EndLoad m true) [] p none
  course_has NotLoaded m p = more (EndLoad m false) [] p none
  course_has Removed m p = more (EndRemove m) [] p none
  course_has LoadedAgain m p =
      more (EndRemove m) (BeginLoad m ∷ EndLoad m true ∷ []) p (more (BeginLoad m) (EndLoad m true ∷ []) p (more (EndLoad m true) [] p none))
  course_has Goes m p = more (BeginRemove m) (EndRemove m ∷ []) p (more (EndRemove m) [] p none)
  course_has Lost m p = none

  load_has : (m : ℕ) → P m → AllHave P (BeginLoad m ∷ EndLoad m true ∷ [])
  load_has m p = more (BeginLoad m) (EndLoad m true ∷ []) p (more (EndLoad m true) [] p none)

  listed_has : (listed : Bool) (m : ℕ) → P m → All P (if_listed listed m)
  listed_has true m p = All-cons P m [] p (All-nil P)
  listed_has false m p = All-nil P

  flat_has : (f : KernelModule → List Step) → ((entry : KernelModule) → AllHave P (f entry)) → (kernel : List KernelModule) → AllHave P (flat_map f kernel)
  flat_has f each [] = none
  flat_has f each (entry ∷ later) = both (f entry) (flat_map f later) (each entry) (flat_has f each later)

  module _ (catalogue : List Description) (t : Table) (kernel : List KernelModule) where
    -- what becomes of modules, if each course has it
    settled_has : ((gone : List ℕ) (m : ℕ) → AllHave P (steps_of (course_at catalogue t kernel gone m) m)) → (slots : List ℕ) (plan : PlanParts)
        → AllHave P plan.steps → AllHave P (settled catalogue t kernel plan slots).steps
    settled_has each [] plan has = has
    settled_has each (m ∷ later) plan has =
        let course = course_at catalogue t kernel plan.gone m in
        settled_has each later (with_course plan course m) (both plan.steps (steps_of course m) has (each plan.gone m))

    -- what becomes of modules that have it
    settled_within : (slots : List ℕ) (plan : PlanParts) → All P slots → AllHave P plan.steps → AllHave P (settled catalogue t kernel plan slots).steps
    settled_within [] plan within has = has
    settled_within (m ∷ later) plan within has =
        let course = course_at catalogue t kernel plan.gone m in
        settled_within later (with_course plan course m) (All-tail P m later within)
        (both plan.steps (steps_of course m) has (course_has course m (All-head P m later within)))

    lost_within : (slots : List ℕ) (plan : PlanParts) → All P slots → All P plan.lost → All P (settled catalogue t kernel plan slots).lost
    lost_within [] plan within has = has
    lost_within (m ∷ later) plan within has =
        let course = course_at catalogue t kernel plan.gone m in
        lost_within later (with_course plan course m) (All-tail P m later within)
        (All-append P plan.lost (if_listed (is_lost course) m) has (listed_has (is_lost course) m (All-head P m later within)))

-- A module that takes references has no steps unless it is free.
kept_course : (s : ModuleState) (said : Option LineState) (m : ℕ) → takes_references s ≡ true → steps_of (course_of false s said) m ≡ []
kept_course table_is.Absent said m takes = absurd (false≢true takes)
kept_course table_is.Loading said m takes = absurd (false≢true takes)
kept_course table_is.Unloading said m takes = absurd (false≢true takes)
kept_course table_is.Live None m takes = refl
kept_course table_is.Live (Some kernel_is.Live) m takes = refl
kept_course table_is.Live (Some kernel_is.Loading) m takes = refl
kept_course table_is.Live (Some kernel_is.Unloading) m takes = refl
kept_course table_is.Draining None m takes = refl
kept_course table_is.Draining (Some kernel_is.Live) m takes = refl
kept_course table_is.Draining (Some kernel_is.Loading) m takes = refl
kept_course table_is.Draining (Some kernel_is.Unloading) m takes = refl

and_false : (a b : Bool) → b ≡ false → (a && b) ≡ false
and_false true b is = is
and_false false b is = refl

absent_takes_none : (s : ModuleState) → is_absent s ≡ true → takes_references s ≡ false
absent_takes_none table_is.Absent absent = refl
absent_takes_none table_is.Loading absent = refl
absent_takes_none table_is.Live absent = absurd (false≢true absent)
absent_takes_none table_is.Draining absent = absurd (false≢true absent)
absent_takes_none table_is.Unloading absent = refl

module _ (catalogue : List Description) (t : Table) (kernel : List KernelModule) (pairs : PairsAreOpen t) where
  abbrev IsAlone : ℕ → Type 0
  IsAlone m = is_held t m ≡ false

  takes : (m : ℕ) → is_held t m ≡ true → takes_references (state_of t.book m) ≡ true
  takes m held = held_takes t m pairs (ltb-true 0 (holders t.rows m) held)

  -- a module that is held is not free
  not_free : (gone : List ℕ) (m : ℕ) → is_held t m ≡ true → is_free catalogue t gone m ≡ false
  not_free gone m held = ap (λ b. not (b || ((description_at catalogue m).permanent || is_needed catalogue (reverse t.book.order) gone m))) held

  course_alone : (gone : List ℕ) (m : ℕ) → AllHave IsAlone (steps_of (course_at catalogue t kernel gone m) m)
  course_alone gone m = at (is_held t m) refl where
    at : (b : Bool) → is_held t m ≡ b → AllHave IsAlone (steps_of (course_at catalogue t kernel gone m) m)
    at false alone = course_has IsAlone (course_at catalogue t kernel gone m) m alone
    at true held =
        let said = kernel_state kernel (description_at catalogue m).name in
        let kept : steps_of (course_at catalogue t kernel gone m) m ≡ [] =
        ap (λ free. steps_of (course_of free (state_of t.book m) said) m) (and_false (is_none said) (is_free catalogue t gone m) (not_free gone m held))
        ∙ kept_course (state_of t.book m) said m (takes m held) in
        subst (AllHave IsAlone) (sym kept) (none IsAlone)

  absent_alone : (m : ℕ) → is_absent (state_of t.book m) ≡ true → is_held t m ≡ false
  absent_alone m absent = at (is_held t m) refl where
    at : (b : Bool) → is_held t m ≡ b → is_held t m ≡ false
    at false alone = alone
    at true held = absurd (false≢true (sym (absent_takes_none (state_of t.book m) absent) ∙ takes m held))

  load_alone_at : (o : Option ℕ) (s : LineState) → AllHave IsAlone (load_at t o s)
  load_alone_at None s = none IsAlone
  load_alone_at (Some m) kernel_is.Loading = none IsAlone
  load_alone_at (Some m) kernel_is.Unloading = none IsAlone
  load_alone_at (Some m) kernel_is.Live = at (is_absent (state_of t.book m)) refl where
    at : (b : Bool) → is_absent (state_of t.book m) ≡ b → AllHave IsAlone (load_at t (Some m) kernel_is.Live)
    at true absent = subst (λ b. AllHave IsAlone (if b then BeginLoad m ∷ EndLoad m true ∷ [] else [])) (sym absent) (load_has IsAlone m (absent_alone m absent))
    at false is = subst (λ b. AllHave IsAlone (if b then BeginLoad m ∷ EndLoad m true ∷ [] else [])) (sym is) (none IsAlone)

  -- no step is of a module that anybody holds
  pub steps_alone : LeavesHeldAlone t (steps_for catalogue t kernel)
  steps_alone =
      both IsAlone (plan_of catalogue t kernel).steps (loads_of catalogue t kernel)
      (settled_has IsAlone catalogue t kernel course_alone (reverse t.book.order) no_plan (none IsAlone))
      (flat_has IsAlone (load_of catalogue t) (λ entry. load_alone_at (slot_named catalogue entry.name) entry.state) (reverse kernel))

-- the modules of steps are within the catalogue
module _ (catalogue : List Description) (t : Table) (kernel : List KernelModule) (slots : All (λ m. m < length catalogue) (reverse t.book.order)) where
  abbrev IsWithin : ℕ → Type 0
  IsWithin m = m < length catalogue

  load_within_at : (o : Option ℕ) (s : LineState) → ((m : ℕ) → o ≡ Some m → m < length catalogue) → AllHave IsWithin (load_at t o s)
  load_within_at None s below = none IsWithin
  load_within_at (Some m) kernel_is.Loading below = none IsWithin
  load_within_at (Some m) kernel_is.Unloading below = none IsWithin
  load_within_at (Some m) kernel_is.Live below = at (is_absent (state_of t.book m)) where
    at : (b : Bool) → AllHave IsWithin (if b then BeginLoad m ∷ EndLoad m true ∷ [] else [])
    at true = load_has IsWithin m (below m refl)
    at false = none IsWithin

  pub steps_within : All (λ step. slot_of step < length catalogue) (steps_for catalogue t kernel)
  steps_within =
      both IsWithin (plan_of catalogue t kernel).steps (loads_of catalogue t kernel)
      (settled_within IsWithin catalogue t kernel (reverse t.book.order) no_plan slots (none IsWithin))
      (flat_has IsWithin (load_of catalogue t) (λ entry. load_within_at (slot_named catalogue entry.name) entry.state (named_below catalogue entry.name)) (reverse kernel))

  pub lost_below : All (λ m. m < length catalogue) (plan_of catalogue t kernel).lost
  lost_below = lost_within IsWithin catalogue t kernel (reverse t.book.order) no_plan slots (All-nil IsWithin)
