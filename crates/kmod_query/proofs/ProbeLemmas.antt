-- Tasks on a stack, and the steps that are made of them.
use Rattle.std.proofs.Common.{◌≡◌, Result, Ok, Err, OnOk, ℕ, zero, suc, ◌+◌, ◌-◌, ◌<◌, ◌≤◌, Bool, true, false, not, cond, List, [], ◌∷◌, ◌++◌, drop, map, length, slice_get, Some, None, refl, sym, ◌∙◌, ap, arith, append_assoc, append-nil}
use Rattle.std.specs.List.{flat_map}
use Rattle.std.specs.Option.{unwrap_or}
use Rattle.std.proofs.lemmas.List.{map-append, reverse-append}
use Rattle.kmod_query.specs.declared.object.Object.{Object as CodeObject}
use Rattle.kmod_query.specs.declared.probes.Rest.{Rest}
use Rattle.kmod_query.specs.declared.probes.Task.{Task as CodeTask}
use Rattle.kmod_query.specs.declared.probes.Task.TheVariants.{Soft, Add}
use Rattle.kmod_query.specs.Facts.{Facts}
use Rattle.kmod_query.specs.Objects.{Object, by_name, has, object_of, objects_of, with_object}
use Rattle.kmod_query.specs.Probes.{Task, probe, fill, add, before_of, after_of, first_tasks, fill_tasks, probe_list, probe_tasks, run, step_limit}
use Rattle.kmod_query.specs.Stacks.{IsFront, rest_of, stack_of, task_of}

-- ---- the stack

pub stack-push : (facts : Facts) (tasks : List CodeTask) (task : CodeTask) → stack_of facts (tasks ++ task ∷ []) ≡ task_of facts task ++ stack_of facts tasks
stack-push facts tasks task = ap (flat_map (task_of facts)) (reverse-append tasks (task ∷ []))

pub pushed : (facts : Facts) (old new : List CodeTask) (task : CodeTask) → new ≡ old ++ task ∷ [] → stack_of facts new ≡ task_of facts task ++ stack_of facts old
pushed facts old new task e = ap (stack_of facts) e ∙ stack-push facts old task

pub none_left : {A : Type 0} (xs : List A) → length xs ≡ 0 → xs ≡ []
none_left [] h = refl
none_left (x ∷ xs) h = absurd (omega (arith, h))

front-last : {A B : Type 0} (u : A → B) (t : B → Task) (rest : List A) (x : A) (ts : List Task) → map t (map u (rest ++ x ∷ [])) ++ ts ≡ map t (map u rest) ++ (t (u x) ∷ ts)
front-last u t [] x ts = refl
front-last u t (y ∷ rest) x ts = ap (λ l. t (u y) ∷ l) (front-last u t rest x ts)

-- the last of what is left goes onto the stack
pub push_more : {A B : Type 0} (facts : Facts) (u : A → B) (t : B → Task) (rest : List A) (x : A) (task : CodeTask) (stack : List CodeTask) (old : List A) (now : List CodeTask) (whole : List Task)
    → old ≡ rest ++ x ∷ [] → now ≡ stack ++ task ∷ [] → task_of facts task ≡ t (u x) ∷ []
    → map t (map u old) ++ stack_of facts stack ≡ whole → map t (map u rest) ++ stack_of facts now ≡ whole
push_more facts u t rest x task stack old now whole e f same h =
    ap (λ l. map t (map u rest) ++ stack_of facts l) f
    ∙ ap (λ l. map t (map u rest) ++ l) (stack-push facts stack task ∙ ap (λ l. l ++ stack_of facts stack) same)
    ∙ sym (front-last u t rest x (stack_of facts stack))
    ∙ ap (λ l. map t (map u l) ++ stack_of facts stack) (sym e)
    ∙ h

-- nothing is left
pub push_all : {A B : Type 0} (facts : Facts) (u : A → B) (t : B → Task) (left : List A) (stack : List CodeTask) (whole : List Task) → length left ≡ 0 → map t (map u left) ++ stack_of facts stack ≡ whole → stack_of facts stack ≡ whole
push_all facts u t left stack whole none h = sym (ap (λ l. map t (map u l) ++ stack_of facts stack) (none_left left none)) ∙ h

pub OnOk-map : {E : Type 0} {P Q : Type 0} (r : Result (Unit {0}) E) → (P → Q) → OnOk r P → OnOk r Q
OnOk-map (Ok x) f h = f h
OnOk-map (Err e) f h = tt

-- what fills in an object was pushed
pub filled : (facts : Facts) (before after : Rest) (old one two new : List CodeTask) (own : CodeObject)
    → rest_of facts before ≡ map probe (before_of facts own.name.items) → rest_of facts after ≡ map probe (after_of facts own.name.items)
    → one ≡ old ++ Soft after ∷ [] → two ≡ one ++ Add own ∷ [] → new ≡ two ++ Soft before ∷ []
    → stack_of facts new ≡ fill_tasks facts (object_of own) ++ stack_of facts old
filled facts before after old one two new own b a p q r =
    let befores : List Task = map probe (before_of facts own.name.items) in
    let afters : List Task = map probe (after_of facts own.name.items) in
    ap (stack_of facts) r
    ∙ stack-push facts two (Soft before)
    ∙ ap (λ l. l ++ stack_of facts two) b
    ∙ ap (λ l. befores ++ l) (ap (stack_of facts) q ∙ stack-push facts one (Add own) ∙ ap (λ l. add (object_of own) ∷ l) (ap (stack_of facts) p ∙ stack-push facts old (Soft after) ∙ ap (λ l. l ++ stack_of facts old) a))
    ∙ sym (append_assoc befores (add (object_of own) ∷ afters) (stack_of facts old))

first-last : (facts : Facts) (bare : Bool) (o : Object) → map (λ name. fill (by_name name)) (facts.needs o.name) ++ (cond bare (add o) (fill o) ∷ []) ≡ first_tasks facts bare o
first-last facts true o = refl
first-last facts false o = refl

-- what probes an object was pushed
pub probed : (facts : Facts) (bare : Bool) (needs : List (List ℕ)) (old mid new : List CodeTask) (task : CodeTask) (o : Object)
    → needs ≡ facts.needs o.name → task_of facts task ≡ cond bare (add o) (fill o) ∷ []
    → mid ≡ old ++ task ∷ []
    → stack_of facts new ≡ map (λ name. fill (by_name name)) needs ++ stack_of facts mid
    → stack_of facts new ≡ first_tasks facts bare o ++ stack_of facts old
probed facts bare needs old mid new task o n t p q =
    let fills : List (List ℕ) → List Task = map (λ name. fill (by_name name)) in
    q
    ∙ ap (λ l. fills l ++ stack_of facts mid) n
    ∙ ap (λ l. fills (facts.needs o.name) ++ stack_of facts l) p
    ∙ ap (λ l. fills (facts.needs o.name) ++ l) (stack-push facts old task ∙ ap (λ l. l ++ stack_of facts old) t)
    ∙ sym (append_assoc (fills (facts.needs o.name)) (cond bare (add o) (fill o) ∷ []) (stack_of facts old))
    ∙ ap (λ l. l ++ stack_of facts old) (first-last facts bare o)

-- ---- steps

run-none : (facts : Facts) (n : ℕ) (met : List Object) → run facts n met [] ≡ []
unfolding run
run-none facts zero met = refl
run-none facts (suc n) met = refl

run-zero : (facts : Facts) (met : List Object) (tasks : List Task) → run facts zero met tasks ≡ []
unfolding run
run-zero facts met tasks = refl

run-add : (facts : Facts) (n : ℕ) (met : List Object) (o : Object) (ts : List Task) → run facts (suc n) met (add o ∷ ts) ≡ o ∷ run facts n met ts
unfolding run
run-add facts n met o ts = refl

run-fill : (facts : Facts) (n : ℕ) (met : List Object) (o : Object) (ts : List Task) → run facts (suc n) met (fill o ∷ ts) ≡ run facts n met (fill_tasks facts o ++ ts)
unfolding run
run-fill facts n met o ts = refl

run-probe : (facts : Facts) (n : ℕ) (met : List Object) (o : Object) (ts : List Task) → run facts (suc n) met (probe o ∷ ts) ≡ cond (has met o) (run facts n met ts) (run facts n (met ++ o ∷ []) (probe_tasks facts o ++ ts))
unfolding run
run-probe facts n met o ts = refl

one_less : (n m : ℕ) → 0 < n → m ≡ n - 1 → suc m ≡ n
one_less n m below less = omega (arith, below, less)

run-met : (facts : Facts) (n : ℕ) (met : List Object) (o : Object) (ts : List Task) → has met o ≡ true → run facts (suc n) met (probe o ∷ ts) ≡ run facts n met ts
run-met facts n met o ts known =
    run-probe facts n met o ts ∙ ap (λ b. cond b (run facts n met ts) (run facts n (met ++ o ∷ []) (probe_tasks facts o ++ ts))) known

run-new : (facts : Facts) (n : ℕ) (met : List Object) (o : Object) (ts : List Task) → has met o ≡ false → run facts (suc n) met (probe o ∷ ts) ≡ run facts n (met ++ o ∷ []) (probe_tasks facts o ++ ts)
run-new facts n met o ts unknown =
    run-probe facts n met o ts ∙ ap (λ b. cond b (run facts n met ts) (run facts n (met ++ o ∷ []) (probe_tasks facts o ++ ts))) unknown

pub Gives-add : (facts : Facts) (n m : ℕ) (met : List Object) (own : CodeObject) (ts : List Task) (list now : List CodeObject) (whole : List Object)
    → 0 < n → m ≡ n - 1 → now ≡ list ++ own ∷ []
    → objects_of list ++ run facts n met (add (object_of own) ∷ ts) ≡ whole → objects_of now ++ run facts m met ts ≡ whole
Gives-add facts n m met own ts list now whole below less e h =
    ap (λ l. l ++ run facts m met ts) (ap objects_of e ∙ map-append object_of list (own ∷ []))
    ∙ append_assoc (objects_of list) (object_of own ∷ []) (run facts m met ts)
    ∙ ap (λ l. objects_of list ++ l) (sym (run-add facts m met (object_of own) ts))
    ∙ ap (λ k. objects_of list ++ run facts k met (add (object_of own) ∷ ts)) (one_less n m below less)
    ∙ h

pub Gives-fill : (facts : Facts) (n m : ℕ) (met : List Object) (o : Object) (ts now : List Task) (out whole : List Object)
    → 0 < n → m ≡ n - 1 → now ≡ fill_tasks facts o ++ ts
    → out ++ run facts n met (fill o ∷ ts) ≡ whole → out ++ run facts m met now ≡ whole
Gives-fill facts n m met o ts now out whole below less e h =
    ap (λ l. out ++ run facts m met l) e
    ∙ ap (λ l. out ++ l) (sym (run-fill facts m met o ts))
    ∙ ap (λ k. out ++ run facts k met (fill o ∷ ts)) (one_less n m below less)
    ∙ h

-- probes of what was met are passed over
run-passed : (facts : Facts) (met : List Object) (count : ℕ) (xs : List Object) (n : ℕ) (ts : List Task) → IsFront met count xs
    → run facts n met (map probe xs ++ ts) ≡ run facts (n - count) met (map probe (drop count xs) ++ ts)
run-passed facts met zero xs n ts h = let e : n ≡ n - 0 = omega arith in ap (λ k. run facts k met (map probe xs ++ ts)) e
run-passed facts met (suc count) [] n ts h = absurd h
run-passed facts met (suc count) (x ∷ xs) zero ts h =
    let e : 0 ≡ 0 - suc count = omega arith in
    run-zero facts met (map probe (x ∷ xs) ++ ts) ∙ sym (run-zero facts met (map probe (drop count xs) ++ ts)) ∙ ap (λ k. run facts k met (map probe (drop count xs) ++ ts)) e
run-passed facts met (suc count) (x ∷ xs) (suc n) ts h =
    let e : n - count ≡ suc n - suc count = omega arith in
    run-met facts n met x (map probe xs ++ ts) h.0
    ∙ run-passed facts met count xs n ts h.1
    ∙ ap (λ k. run facts k met (map probe (drop count xs) ++ ts)) e

run-passed_from : (facts : Facts) (met : List Object) (from front : ℕ) (xs : List Object) (n : ℕ) (ts : List Task) → IsFront met front xs → from ≤ front
    → run facts n met (map probe (drop from xs) ++ ts) ≡ run facts (n - (front - from)) met (map probe (drop front xs) ++ ts)
run-passed_from facts met zero front xs n ts h below =
    let e : n - front ≡ n - (front - 0) = omega arith in
    run-passed facts met front xs n ts h ∙ ap (λ k. run facts k met (map probe (drop front xs) ++ ts)) e
run-passed_from facts met (suc from) zero xs n ts h below = absurd (omega (arith, below))
run-passed_from facts met (suc from) (suc front) [] n ts h below = absurd h
run-passed_from facts met (suc from) (suc front) (x ∷ xs) n ts h below =
    let within : from ≤ front = omega (arith, below) in
    let e : front - from ≡ suc front - suc from = omega arith in
    run-passed_from facts met from front xs n ts h.1 within ∙ ap (λ k. run facts (n - k) met (map probe (drop front xs) ++ ts)) e

pub Gives-passed : (facts : Facts) (n m : ℕ) (met : List Object) (from front : ℕ) (xs : List Object) (ts now : List Task) (out whole : List Object)
    → IsFront met front xs → from < front → m ≡ n - (front - from) → now ≡ map probe (drop front xs) ++ ts
    → out ++ run facts n met (map probe (drop from xs) ++ ts) ≡ whole → out ++ run facts m met now ≡ whole
Gives-passed facts n m met from front xs ts now out whole known below less e h =
    let within : from ≤ front = omega (arith, below) in
    ap (λ l. out ++ run facts m met l) e
    ∙ ap (λ k. out ++ run facts k met (map probe (drop front xs) ++ ts)) less
    ∙ ap (λ l. out ++ l) (sym (run-passed_from facts met from front xs n ts known within))
    ∙ h

drop_at : (xs : List Object) (k : ℕ) (o : Object) → slice_get xs k ≡ Some o → drop k xs ≡ o ∷ drop (suc k) xs
drop_at [] k o h = absurd (cc (h))
drop_at (x ∷ xs) zero o h = ap (λ y. y ∷ xs) (ap (λ found. unwrap_or found o) h)
drop_at (x ∷ xs) (suc k) o h = drop_at xs k o h

drop_next : (xs : List Object) (k next : ℕ) (o : Object) → slice_get xs k ≡ Some o → next ≡ k + 1 → drop k xs ≡ o ∷ drop next xs
drop_next xs k next o h e = let behind : suc k ≡ next = omega (arith, e) in drop_at xs k o h ∙ ap (λ i. o ∷ drop i xs) behind

drop_end : (xs : List Object) (k : ℕ) → slice_get xs k ≡ None → drop k xs ≡ []
drop_end [] zero h = refl
drop_end [] (suc k) h = refl
drop_end (x ∷ xs) zero h = absurd (cc (h))
drop_end (x ∷ xs) (suc k) h = drop_end xs k h

pub Gives-end : (facts : Facts) (n : ℕ) (met : List Object) (from : ℕ) (xs : List Object) (ts : List Task) (out whole : List Object)
    → slice_get xs from ≡ None
    → out ++ run facts n met (map probe (drop from xs) ++ ts) ≡ whole → out ++ run facts n met ts ≡ whole
Gives-end facts n met from xs ts out whole none h = ap (λ l. out ++ run facts n met (map probe l ++ ts)) (sym (drop_end xs from none)) ∙ h

pub Gives-met : (facts : Facts) (n m : ℕ) (met seen : List Object) (from next : ℕ) (xs : List Object) (o : Object) (ts now : List Task) (out whole : List Object)
    → 0 < n → m ≡ n - 1 → slice_get xs from ≡ Some o → next ≡ from + 1 → has met o ≡ true → seen ≡ with_object met o → now ≡ map probe (drop next xs) ++ ts
    → out ++ run facts n met (map probe (drop from xs) ++ ts) ≡ whole → out ++ run facts m seen now ≡ whole
Gives-met facts n m met seen from next xs o ts now out whole below less own behind known e f h =
    let later : List Task = map probe (drop next xs) ++ ts in
    ap (λ l. out ++ run facts m l now) (e ∙ ap (λ b. cond b met (met ++ o ∷ [])) known)
    ∙ ap (λ l. out ++ run facts m met l) f
    ∙ ap (λ l. out ++ l) (sym (run-met facts m met o later known))
    ∙ ap (λ k. out ++ run facts k met (probe o ∷ later)) (one_less n m below less)
    ∙ ap (λ l. out ++ run facts n met (map probe l ++ ts)) (sym (drop_next xs from next o own behind))
    ∙ h

pub Gives-new : (facts : Facts) (n m : ℕ) (met seen : List Object) (from next : ℕ) (xs : List Object) (o : Object) (ts mid now : List Task) (out whole : List Object)
    → 0 < n → m ≡ n - 1 → slice_get xs from ≡ Some o → next ≡ from + 1 → has met o ≡ false → seen ≡ with_object met o → mid ≡ map probe (drop next xs) ++ ts → now ≡ probe_tasks facts o ++ mid
    → out ++ run facts n met (map probe (drop from xs) ++ ts) ≡ whole → out ++ run facts m seen now ≡ whole
Gives-new facts n m met seen from next xs o ts mid now out whole below less own behind unknown e f g h =
    let later : List Task = map probe (drop next xs) ++ ts in
    ap (λ l. out ++ run facts m l now) (e ∙ ap (λ b. cond b met (met ++ o ∷ [])) unknown)
    ∙ ap (λ l. out ++ run facts m (met ++ o ∷ []) l) (g ∙ ap (λ l. probe_tasks facts o ++ l) f)
    ∙ ap (λ l. out ++ l) (sym (run-new facts m met o later unknown))
    ∙ ap (λ k. out ++ run facts k met (probe o ∷ later)) (one_less n m below less)
    ∙ ap (λ l. out ++ run facts n met (map probe l ++ ts)) (sym (drop_next xs from next o own behind))
    ∙ h

-- the task at the top is made
pub Gives-popped : (facts : Facts) (n : ℕ) (met : List Object) (tasks rest : List CodeTask) (task : CodeTask) (out whole : List Object)
    → tasks ≡ rest ++ task ∷ []
    → out ++ run facts n met (stack_of facts tasks) ≡ whole → out ++ run facts n met (task_of facts task ++ stack_of facts rest) ≡ whole
Gives-popped facts n met tasks rest task out whole e h = ap (λ l. out ++ run facts n met l) (sym (ap (stack_of facts) e ∙ stack-push facts rest task)) ∙ h

pub Gives-done : (facts : Facts) (n : ℕ) (met : List Object) (tasks : List CodeTask) (out whole : List Object) → tasks ≡ [] → out ++ run facts n met (stack_of facts tasks) ≡ whole → out ≡ whole
Gives-done facts n met tasks out whole none h =
    sym (append-nil out) ∙ ap (λ l. out ++ l) (sym (run-none facts n met)) ∙ ap (λ ts. out ++ run facts n met (stack_of facts ts)) (sym none) ∙ h

pub Gives-over : (facts : Facts) (n : ℕ) (met : List Object) (tasks : List Task) (out whole : List Object) → n ≡ 0 → out ++ run facts n met tasks ≡ whole → out ≡ whole
Gives-over facts n met tasks out whole over h =
    sym (append-nil out) ∙ ap (λ l. out ++ l) (sym (run-zero facts met tasks)) ∙ ap (λ k. out ++ run facts k met tasks) (sym over) ∙ h

pub not_true : (b : Bool) → not b ≡ true → b ≡ false
not_true true h = absurd (cc)
not_true false h = refl

pub not_false : (b : Bool) → not b ≡ false → b ≡ true
not_false true h = refl
not_false false h = absurd (cc)

limit-is : step_limit ≡ 18446744073709551615
unfolding step_limit
limit-is = refl

-- the first tasks were pushed onto an empty stack
pub begun : (facts : Facts) (bare : Bool) (o own : Object) (none met : List Object) (empty stack : List CodeTask) (list : List CodeObject) (n : ℕ)
    → none ≡ [] → met ≡ with_object none o → empty ≡ [] → list ≡ [] → own ≡ o → n ≡ 18446744073709551615
    → stack_of facts stack ≡ first_tasks facts bare own ++ stack_of facts empty
    → objects_of list ++ run facts n met (stack_of facts stack) ≡ probe_list facts bare o
begun facts bare o own none met empty stack list n z m e l same limit pushed =
    ap (λ ts. objects_of ts ++ run facts n met (stack_of facts stack)) l
    ∙ ap (λ ms. run facts n ms (stack_of facts stack)) (m ∙ ap (λ ms. with_object ms o) z)
    ∙ ap (λ ts. run facts n (o ∷ []) ts) (pushed ∙ ap (λ ts. first_tasks facts bare own ++ stack_of facts ts) e ∙ append-nil (first_tasks facts bare own) ∙ ap (first_tasks facts bare) same)
    ∙ ap (λ k. run facts k (o ∷ []) (first_tasks facts bare o)) (limit ∙ sym limit-is)
