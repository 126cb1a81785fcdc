-- What a module needs hard stands before it.
use Rattle.std.proofs.Common.{◌≡◌, ℕ, zero, suc, Bool, true, false, not, ◌||◌, cond, List, [], ◌∷◌, ◌++◌, map, refl, sym, ◌∙◌, ap, subst, append_assoc}
use Rattle.std.specs.List.{flat_map}
use Rattle.kmod_query.specs.declared.query.Ask.TheVariants.{ShowDepends}
use Rattle.kmod_query.specs.declared.query.Query.{Query}
use Rattle.kmod_query.specs.Answers.{nothing, said}
use Rattle.kmod_query.specs.Facts.{Facts}
use Rattle.kmod_query.specs.Lines.{load_line}
use Rattle.kmod_query.specs.Loading.{already, is_barred, line_unless_passed, load, load_lines, shows_lines}
use Rattle.kmod_query.specs.Objects.{Object, by_name, has}
use Rattle.kmod_query.specs.Order.{StandInOrder, is_done}
use Rattle.kmod_query.specs.Probes.{Task, probe, fill, add, after_of, before_of, fill_tasks, first_tasks, probe_list, probe_tasks, run, step_limit}
use Rattle.kmod_query.proofs.LawLemmas.{flat_map-same, not_passed}

-- what tasks add of themselves
abbrev own : List Task → List Object
own [] = []
own (probe object ∷ tasks) = own tasks
own (fill object ∷ tasks) = object ∷ own tasks
own (add object ∷ tasks) = object ∷ own tasks

own-append : (front tasks : List Task) → own (front ++ tasks) ≡ own front ++ own tasks
own-append [] tasks = refl
own-append (probe object ∷ front) tasks = own-append front tasks
own-append (fill object ∷ front) tasks = ap (λ l. object ∷ l) (own-append front tasks)
own-append (add object ∷ front) tasks = ap (λ l. object ∷ l) (own-append front tasks)

own-probes : (objects : List Object) (tasks : List Task) → own (map probe objects ++ tasks) ≡ own tasks
own-probes [] tasks = refl
own-probes (object ∷ objects) tasks = own-probes objects tasks

own-needs : (needs : List (List ℕ)) (tasks : List Task) → own (map (λ need. fill (by_name need)) needs ++ tasks) ≡ map by_name needs ++ own tasks
own-needs [] tasks = refl
own-needs (need ∷ needs) tasks = ap (λ l. by_name need ∷ l) (own-needs needs tasks)

own-fill : (facts : Facts) (object : Object) (tasks : List Task) → own (fill_tasks facts object ++ tasks) ≡ object ∷ own tasks
own-fill facts object tasks =
    ap own (append_assoc (map probe (before_of facts object.name)) (add object ∷ map probe (after_of facts object.name)) tasks)
    ∙ own-probes (before_of facts object.name) (add object ∷ (map probe (after_of facts object.name) ++ tasks))
    ∙ ap (λ l. object ∷ l) (own-probes (after_of facts object.name) tasks)

own-first : (facts : Facts) (bare : Bool) (object : Object) → own (first_tasks facts bare object) ≡ map by_name (facts.needs object.name) ++ object ∷ []
own-first facts true object = own-needs (facts.needs object.name) (add object ∷ [])
own-first facts false object = own-needs (facts.needs object.name) (fill object ∷ [])

behind : (object : Object) (objects list : List Object) → StandInOrder (object ∷ objects) list → StandInOrder objects list
behind object [] list h = tt
behind object (next ∷ objects) list (front, rest, split, (middle, end, later, order)) = (
  front ++ (object ∷ middle),
  end,
  split ∙ ap (λ l. front ++ (object ∷ l)) later ∙ sym (append_assoc front (object ∷ middle) (next ∷ end)),
  order,
)

behind_all : (front objects list : List Object) → StandInOrder (front ++ objects) list → StandInOrder objects list
behind_all [] objects list h = h
behind_all (object ∷ front) objects list h = behind_all front objects list (behind object (front ++ objects) list h)

of_probe : (facts : Facts) (object : Object) (tasks : List Task) (list : List Object) → StandInOrder (own (probe_tasks facts object ++ tasks)) list → StandInOrder (own tasks) list
of_probe facts object tasks list h =
    behind_all (own (probe_tasks facts object)) (own tasks) list (subst (λ objects. StandInOrder objects list) (own-append (probe_tasks facts object) tasks) h)

chosen : (b done later : Bool) (objects list long : List Object) → (done ≡ true → StandInOrder objects list) → (later ≡ true → StandInOrder objects long)
    → cond b done later ≡ true → StandInOrder objects (cond b list long)
chosen true done later objects list long one other h = one h
chosen false done later objects list long one other h = other h

in_order : (facts : Facts) (n : ℕ) (met : List Object) (tasks : List Task) → is_done facts n met tasks ≡ true → StandInOrder (own tasks) (run facts n met tasks)
unfolding run is_done
in_order facts zero met tasks h = absurd (cc)
in_order facts (suc n) met [] h = tt
in_order facts (suc n) met (probe object ∷ tasks) h =
    chosen (has met object) (is_done facts n met tasks) (is_done facts n (met ++ object ∷ []) (probe_tasks facts object ++ tasks)) (own tasks)
    (run facts n met tasks) (run facts n (met ++ object ∷ []) (probe_tasks facts object ++ tasks))
    (in_order facts n met tasks)
    (λ done. of_probe facts object tasks (run facts n (met ++ object ∷ []) (probe_tasks facts object ++ tasks)) (in_order facts n (met ++ object ∷ []) (probe_tasks facts object ++ tasks) done))
    h
in_order facts (suc n) met (fill object ∷ tasks) h =
    subst (λ objects. StandInOrder objects (run facts n met (fill_tasks facts object ++ tasks))) (own-fill facts object tasks)
    (in_order facts n met (fill_tasks facts object ++ tasks) h)
in_order facts (suc n) met (add object ∷ tasks) h = ([], run facts n met tasks, refl, in_order facts n met tasks h)

pub needs-first : (facts : Facts) (bare : Bool) (top : Object) → is_done facts step_limit (top ∷ []) (first_tasks facts bare top) ≡ true
    → StandInOrder (map by_name (facts.needs top.name) ++ top ∷ []) (probe_list facts bare top)
needs-first facts bare top h =
    subst (λ objects. StandInOrder objects (probe_list facts bare top)) (own-first facts bare top) (in_order facts step_limit (top ∷ []) (first_tasks facts bare top) h)

line-shown : (facts : Facts) (query : Query) (parameters : List ℕ) (top object : Object) → query.ask ≡ ShowDepends
    → line_unless_passed facts query parameters top object ≡ load_line facts query.ignore_commands parameters top object
line-shown facts query parameters top object h =
    ap (λ b. cond b [] (load_line facts query.ignore_commands parameters top object)) (not_passed facts query object h)

pub lines-of_list : (facts : Facts) (query : Query) (parameters : List ℕ) (top : Object) → query.ask ≡ ShowDepends → is_barred facts query top ≡ false
    → (load facts query parameters top).output ≡ flat_map (load_line facts query.ignore_commands parameters top) (probe_list facts query.ignore_commands top)
lines-of_list facts query parameters top h free =
    ap (λ b. (cond b (already query top) (cond (is_barred facts query top || not (shows_lines query)) nothing (said (load_lines facts query parameters top)))).output) (not_passed facts query top h)
    ∙ ap (λ b. (cond (b || not (shows_lines query)) nothing (said (load_lines facts query parameters top))).output) free
    ∙ ap (λ b. (cond (not b) nothing (said (load_lines facts query parameters top))).output) (shown query h)
    ∙ flat_map-same _ (load_line facts query.ignore_commands parameters top) (λ object. line-shown facts query parameters top object h) (probe_list facts query.ignore_commands top)
  where
    shown : (query : Query) → query.ask ≡ ShowDepends → shows_lines query ≡ true
    shown query h = rw h refl
