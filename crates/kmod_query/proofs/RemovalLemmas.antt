-- The steps of a removal.
use Rattle.std.proofs.Common.{◌≡◌, ℕ, zero, suc, ◌+◌, ◌-◌, ◌<◌, Bool, true, false, cond, ◌||◌, List, [], ◌∷◌, ◌++◌, map, reverse, drop, length, refl, sym, ◌∙◌, ap, arith, append_assoc, append-nil}
use Rattle.std.proofs.lemmas.List.{map-append, reverse-append}
use Rattle.std.specs.Borrow.{Bor}
use Rattle.text_parts.specs.Text.{texts_of}
use Rattle.std.specs.List.{list_any}
use Rattle.std.specs.Str.{bytes_eq}
use Rattle.kmod_query.specs.declared.object.Object.{Object as CodeObject}
use Rattle.kmod_query.specs.declared.query.Query.{Query}
use Rattle.kmod_query.specs.declared.answer.Failure.{Failure}
use Rattle.kmod_query.specs.declared.answer.Failure.TheVariants.{InUse}
use Rattle.kmod_query.specs.declared.removal.Removal.{Removal}
use Rattle.kmod_query.specs.declared.removal.Removal.TheVariants.{Release, Leave}
use Rattle.kmod_query.specs.declared.removal.Step.{Step}
use Rattle.kmod_query.specs.Answers.{Answer, nothing, said, and_also}
use Rattle.kmod_query.specs.Facts.{Facts}
use Rattle.kmod_query.specs.Objects.{Object, object_of, objects_of}
use Rattle.kmod_query.specs.Probes.{step_limit}
use Rattle.kmod_query.specs.Removal.{Task, Verdict, remove, pass, refuse, take, release, leave, by_verdict, front_of, has_ended, is_in_use, remove_name, remove_names, refused, removal_lines, removed_after, removed_before, run_removal, take_each, taken_tasks, verdict}
use Rattle.kmod_query.specs.Removals.{after, removal_of, removals_of, with_name}

pub removals-push : (tasks : List Removal) (task : Removal) → removals_of (tasks ++ task ∷ []) ≡ removal_of task ∷ removals_of tasks
removals-push tasks task = ap reverse (map-append removal_of tasks (task ∷ [])) ∙ reverse-append (map removal_of tasks) (removal_of task ∷ [])

none_left : {A : Type 0} (xs : List A) → length xs ≡ 0 → xs ≡ []
none_left [] h = refl
none_left (x ∷ xs) h = absurd (omega (arith, h))

-- what is taken was pushed
pub taken : (facts : Facts) (query : Query) (soft : Bool) (object : CodeObject) (items : List CodeObject) (old one two new : List Removal)
    → objects_of items ≡ removed_before facts query object.name.items
    → one ≡ old ++ Leave ∷ [] → two ≡ one ++ Release soft object ∷ []
    → removals_of new ≡ take_each (objects_of items) ++ removals_of two
    → removals_of new ≡ taken_tasks facts query soft (object_of object) ++ removals_of old
taken facts query soft object items old one two new e f g h =
    h
    ∙ ap (λ l. take_each l ++ removals_of two) e
    ∙ ap (λ l. take_each (removed_before facts query object.name.items) ++ l) (ap removals_of g ∙ removals-push one (Release soft object) ∙ ap (λ l. release soft (object_of object) ∷ l) (ap removals_of f ∙ removals-push old Leave))
    ∙ sym (append_assoc (take_each (removed_before facts query object.name.items)) (release soft (object_of object) ∷ leave ∷ []) (removals_of old))

run-take : (facts : Facts) (query : Query) (n : ℕ) (way : List (List ℕ)) (soft : Bool) (o : Object) (ts : List Task)
    → run_removal facts query (suc n) way (take soft o ∷ ts) ≡ cond (list_any (bytes_eq o.name) way) (run_removal facts query n way ts) (by_verdict query soft (verdict facts query soft o) (run_removal facts query n (way ++ o.name ∷ []) (taken_tasks facts query soft o ++ ts)) (run_removal facts query n way ts))
unfolding run_removal
run-take facts query n way soft o ts = refl

run-release : (facts : Facts) (query : Query) (n : ℕ) (way : List (List ℕ)) (soft : Bool) (o : Object) (ts : List Task)
    → run_removal facts query (suc n) way (release soft o ∷ ts) ≡ cond (is_in_use facts query o) (refused query soft (InUse o.name) (run_removal facts query n way ts)) (and_also (said (removal_lines facts query o)) (run_removal facts query n way (take_each (removed_after facts query o.name) ++ ts)))
unfolding run_removal
run-release facts query n way soft o ts = refl

run-leave : (facts : Facts) (query : Query) (n : ℕ) (way : List (List ℕ)) (ts : List Task) → run_removal facts query (suc n) way (leave ∷ ts) ≡ run_removal facts query n (front_of way) ts
unfolding run_removal
run-leave facts query n way ts = refl

run-zero : (facts : Facts) (query : Query) (way : List (List ℕ)) (ts : List Task) → run_removal facts query zero way ts ≡ nothing
unfolding run_removal
run-zero facts query way ts = refl

run-none : (facts : Facts) (query : Query) (n : ℕ) (way : List (List ℕ)) → run_removal facts query n way [] ≡ nothing
unfolding run_removal
run-none facts query zero way = refl
run-none facts query (suc n) way = refl

-- a step from a way and tasks to others
abbrev pub Goes : Facts → Query → Task → List (List ℕ) → List Task → List (List ℕ) → List Task → Step → Type 0
Goes facts query task way ts on now step =
    (n : ℕ) → run_removal facts query (suc n) way (task ∷ ts) ≡ after step (run_removal facts query n on now)

pub Goes-on_way : (facts : Facts) (query : Query) (soft : Bool) (o : Object) (way : List (List ℕ)) (ts : List Task) (step : Step) → list_any (bytes_eq o.name) way ≡ true → ((later : Answer) → after step later ≡ later) → Goes facts query (take soft o) way ts way ts step
Goes-on_way facts query soft o way ts step known silent n =
    run-take facts query n way soft o ts
    ∙ ap (λ b. cond b (run_removal facts query n way ts) (by_verdict query soft (verdict facts query soft o) (run_removal facts query n (way ++ o.name ∷ []) (taken_tasks facts query soft o ++ ts)) (run_removal facts query n way ts))) known
    ∙ sym (silent (run_removal facts query n way ts))

judged : (facts : Facts) (query : Query) (soft : Bool) (o : Object) (way : List (List ℕ)) (ts : List Task) (own : Verdict) → list_any (bytes_eq o.name) way ≡ false → own ≡ verdict facts query soft o → (n : ℕ)
    → run_removal facts query (suc n) way (take soft o ∷ ts) ≡ by_verdict query soft own (run_removal facts query n (way ++ o.name ∷ []) (taken_tasks facts query soft o ++ ts)) (run_removal facts query n way ts)
judged facts query soft o way ts own unknown e n =
    run-take facts query n way soft o ts
    ∙ ap (λ b. cond b (run_removal facts query n way ts) (by_verdict query soft (verdict facts query soft o) (run_removal facts query n (way ++ o.name ∷ []) (taken_tasks facts query soft o ++ ts)) (run_removal facts query n way ts))) unknown
    ∙ ap (λ v. by_verdict query soft v (run_removal facts query n (way ++ o.name ∷ []) (taken_tasks facts query soft o ++ ts)) (run_removal facts query n way ts)) (sym e)

pub Goes-pass : (facts : Facts) (query : Query) (soft : Bool) (o : Object) (way : List (List ℕ)) (ts : List Task) (step : Step) → list_any (bytes_eq o.name) way ≡ false → pass ≡ verdict facts query soft o → ((later : Answer) → after step later ≡ later) → Goes facts query (take soft o) way ts way ts step
Goes-pass facts query soft o way ts step unknown e silent n = judged facts query soft o way ts pass unknown e n ∙ sym (silent (run_removal facts query n way ts))

pub Goes-refuse : (facts : Facts) (query : Query) (soft : Bool) (o : Object) (way : List (List ℕ)) (ts : List Task) (failure : Failure) (step : Step) → list_any (bytes_eq o.name) way ≡ false → refuse failure ≡ verdict facts query soft o → ((later : Answer) → after step later ≡ refused query soft failure later) → Goes facts query (take soft o) way ts way ts step
Goes-refuse facts query soft o way ts failure step unknown e refusal n = judged facts query soft o way ts (refuse failure) unknown e n ∙ sym (refusal (run_removal facts query n way ts))

pub Goes-remove : (facts : Facts) (query : Query) (soft : Bool) (o : Object) (way on : List (List ℕ)) (ts now : List Task) (step : Step) → list_any (bytes_eq o.name) way ≡ false → remove ≡ verdict facts query soft o → on ≡ way ++ o.name ∷ [] → now ≡ taken_tasks facts query soft o ++ ts → ((later : Answer) → after step later ≡ later) → Goes facts query (take soft o) way ts on now step
Goes-remove facts query soft o way on ts now step unknown e f g silent n =
    judged facts query soft o way ts remove unknown e n
    ∙ ap (λ w. run_removal facts query n w (taken_tasks facts query soft o ++ ts)) (sym f)
    ∙ ap (λ l. run_removal facts query n on l) (sym g)
    ∙ sym (silent (run_removal facts query n on now))

pub Goes-in_use : (facts : Facts) (query : Query) (soft : Bool) (o : Object) (way : List (List ℕ)) (ts : List Task) (step : Step) → is_in_use facts query o ≡ true → ((later : Answer) → after step later ≡ refused query soft (InUse o.name) later) → Goes facts query (release soft o) way ts way ts step
Goes-in_use facts query soft o way ts step used refusal n =
    run-release facts query n way soft o ts
    ∙ ap (λ b. cond b (refused query soft (InUse o.name) (run_removal facts query n way ts)) (and_also (said (removal_lines facts query o)) (run_removal facts query n way (take_each (removed_after facts query o.name) ++ ts)))) used
    ∙ sym (refusal (run_removal facts query n way ts))

pub Goes-release : (facts : Facts) (query : Query) (soft : Bool) (o : Object) (way : List (List ℕ)) (ts now : List Task) (step : Step) → is_in_use facts query o ≡ false → now ≡ take_each (removed_after facts query o.name) ++ ts → ((later : Answer) → after step later ≡ and_also (said (removal_lines facts query o)) later) → Goes facts query (release soft o) way ts way now step
Goes-release facts query soft o way ts now step free e saying n =
    run-release facts query n way soft o ts
    ∙ ap (λ b. cond b (refused query soft (InUse o.name) (run_removal facts query n way ts)) (and_also (said (removal_lines facts query o)) (run_removal facts query n way (take_each (removed_after facts query o.name) ++ ts)))) free
    ∙ ap (λ l. and_also (said (removal_lines facts query o)) (run_removal facts query n way l)) (sym e)
    ∙ sym (saying (run_removal facts query n way now))

pub Goes-leave : (facts : Facts) (query : Query) (way on : List (List ℕ)) (ts : List Task) (step : Step) → on ≡ front_of way → ((later : Answer) → after step later ≡ later) → Goes facts query leave way ts on ts step
Goes-leave facts query way on ts step e silent n =
    run-leave facts query n way ts
    ∙ ap (λ w. run_removal facts query n w ts) (sym e)
    ∙ sym (silent (run_removal facts query n on ts))

-- what a call told of the way
pub on_way : (name told : List ℕ) (way : List (List ℕ)) (result b : Bool) → told ≡ name → result ≡ list_any (bytes_eq told) way → result ≡ b → list_any (bytes_eq name) way ≡ b
on_way name told way result b e g h = ap (λ (n : List ℕ). list_any (bytes_eq n) way) (sym e) ∙ sym g ∙ h

-- a module that was not on the way is its last now
pub way-enter : (way on : List (List ℕ)) (name told : List ℕ) → list_any (bytes_eq name) way ≡ false → on ≡ with_name way told → told ≡ name → on ≡ way ++ name ∷ []
way-enter way on name told unknown e f = e ∙ ap (with_name way) f ∙ ap (λ b. cond b way (way ++ name ∷ [])) unknown

or-assoc : (a b c : Bool) → ((a || b) || c) ≡ (a || (b || c))
or-assoc true b c = refl
or-assoc false b c = refl

pub and_also-assoc : (a b c : Answer) → and_also (and_also a b) c ≡ and_also a (and_also b c)
and_also-assoc a b c =
    ap (λ (o : List ℕ). record { output = o; failures = (a.failures ++ b.failures) ++ c.failures; failed = (a.failed || b.failed) || c.failed }) (append_assoc a.output b.output c.output)
    ∙ ap (λ (f : List Failure). record { output = a.output ++ (b.output ++ c.output); failures = f; failed = (a.failed || b.failed) || c.failed }) (append_assoc a.failures b.failures c.failures)
    ∙ ap (λ (t : Bool). record { output = a.output ++ (b.output ++ c.output); failures = a.failures ++ (b.failures ++ c.failures); failed = t }) (or-assoc a.failed b.failed c.failed)

or-false : (a : Bool) → (a || false) ≡ a
or-false true = refl
or-false false = refl

and_also-nothing : (a : Answer) → and_also a nothing ≡ a
and_also-nothing a =
    ap (λ (o : List ℕ). record { output = o; failures = a.failures ++ []; failed = a.failed || false }) (append-nil a.output)
    ∙ ap (λ (f : List Failure). record { output = a.output; failures = f; failed = a.failed || false }) (append-nil a.failures)
    ∙ ap (λ (t : Bool). record { output = a.output; failures = a.failures; failed = t }) (or-false a.failed)

limit-is : step_limit ≡ 18446744073709551615
unfolding step_limit
limit-is = refl

-- What was answered, and what the tasks answer within the steps that are left, is the whole.
abbrev pub Answers : Facts → Query → ℕ → List (List ℕ) → List Task → Answer → Answer → Type 0
Answers facts query k way ts answer whole = and_also answer (run_removal facts query (step_limit - k) way ts) ≡ whole

pub Answers-done : (facts : Facts) (query : Query) (k : ℕ) (way : List (List ℕ)) (stack : List Removal) (answer whole : Answer) → length stack ≡ 0 → Answers facts query k way (removals_of stack) answer whole → answer ≡ whole
Answers-done facts query k way stack answer whole none h =
    sym (and_also-nothing answer)
    ∙ ap (λ (x : Answer). and_also answer x) (sym (run-none facts query (step_limit - k) way))
    ∙ ap (λ l. and_also answer (run_removal facts query (step_limit - k) way (removals_of l))) (sym (none_left stack none))
    ∙ h

pub Answers-end : (facts : Facts) (query : Query) (k : ℕ) (way : List (List ℕ)) (ts : List Task) (answer whole : Answer) → 18446744073709551615 - k ≡ 0 → Answers facts query k way ts answer whole → answer ≡ whole
Answers-end facts query k way ts answer whole over h =
    let e : step_limit - k ≡ 0 = omega (arith, limit-is) in
    sym (and_also-nothing answer)
    ∙ ap (λ (x : Answer). and_also answer x) (sym (run-zero facts query way ts))
    ∙ ap (λ n. and_also answer (run_removal facts query n way ts)) (sym e)
    ∙ h

stepped : (facts : Facts) (query : Query) (k : ℕ) (way on : List (List ℕ)) (old rest : List Removal) (task : Removal) (now : List Task) (answer whole : Answer) (step : Step)
    → old ≡ rest ++ task ∷ [] → k < 18446744073709551615
    → Answers facts query k way (removals_of old) answer whole
    → Goes facts query (removal_of task) way (removals_of rest) on now step
    → and_also answer (after step (run_removal facts query (step_limit - (k + 1)) on now)) ≡ whole
stepped facts query k way on old rest task now answer whole step e below h goes =
    let fuel : step_limit - k ≡ suc (step_limit - (k + 1)) = omega (arith, limit-is) in
    ap (λ (x : Answer). and_also answer x)
    (sym (goes (step_limit - (k + 1))) ∙ ap (λ n. run_removal facts query n way (removal_of task ∷ removals_of rest)) (sym fuel) ∙ ap (λ l. run_removal facts query (step_limit - k) way l) (sym (ap removals_of e ∙ removals-push rest task)))
    ∙ h

pub Answers-ended : (facts : Facts) (query : Query) (k : ℕ) (way on : List (List ℕ)) (old rest : List Removal) (task : Removal) (now : List Task) (answer all whole : Answer) (step : Step)
    → old ≡ rest ++ task ∷ [] → k < 18446744073709551615
    → Answers facts query k way (removals_of old) answer whole
    → Goes facts query (removal_of task) way (removals_of rest) on now step
    → step.ended ≡ true → all ≡ and_also answer step.answer → all ≡ whole
Answers-ended facts query k way on old rest task now answer all whole step e below h goes ended added =
    let later : Answer = run_removal facts query (step_limit - (k + 1)) on now in
    added
    ∙ ap (λ b. and_also answer (cond b step.answer (and_also step.answer later))) (sym ended)
    ∙ stepped facts query k way on old rest task now answer whole step e below h goes

pub Answers-more : (facts : Facts) (query : Query) (k : ℕ) (way on : List (List ℕ)) (old rest : List Removal) (task : Removal) (now : List Task) (answer all whole : Answer) (step : Step)
    → old ≡ rest ++ task ∷ [] → k < 18446744073709551615
    → Answers facts query k way (removals_of old) answer whole
    → Goes facts query (removal_of task) way (removals_of rest) on now step
    → step.ended ≡ false → all ≡ and_also answer step.answer → Answers facts query (k + 1) on now all whole
Answers-more facts query k way on old rest task now answer all whole step e below h goes going added =
    let later : Answer = run_removal facts query (step_limit - (k + 1)) on now in
    ap (λ (x : Answer). and_also x later) added
    ∙ and_also-assoc answer step.answer later
    ∙ ap (λ b. and_also answer (cond b step.answer (and_also step.answer later))) (sym going)
    ∙ stepped facts query k way on old rest task now answer whole step e below h goes

pub names-ended : (facts : Facts) (query : Query) (answer : Answer) (words : List (Bor (List ℕ))) (k : ℕ) → k < length words → has_ended query answer.failures ≡ true → remove_names facts query answer (texts_of (drop k words)) ≡ answer
names-ended facts query answer [] k below ended = absurd (omega (arith, below))
names-ended facts query answer (word ∷ words) zero below ended = ap (λ b. cond b answer (remove_names facts query (and_also answer (remove_name facts query word.now (facts.normal word.now))) (texts_of words))) ended
names-ended facts query answer (word ∷ words) (suc k) below ended = names-ended facts query answer words k (omega (arith, below)) ended
