-- The laws of answers.
use Rattle.std.proofs.Common.{◌≡◌, ℕ, zero, suc, ◌==◌, ◌⊎◌, inl, inr, Bool, true, false, true≢false, not, ◌&&◌, ◌||◌, cond, List, [], ◌∷◌, ◌++◌, fold, length, refl, sym, ◌∙◌, ap, append_assoc, append-nil, Option, Some, None, is_some}
use Rattle.std.specs.List.{flat_map, list_any}
use Rattle.kmod_names.specs.Names.{name_of_path}
use Rattle.text_parts.specs.Text.{texts_of}
use Rattle.kmod_query.specs.declared.answer.Failure.TheVariants.{AlreadyLoaded, NotFound}
use Rattle.kmod_query.specs.declared.paths.AtPath.{AtPath}
use Rattle.kmod_query.specs.declared.paths.AtPath.TheVariants.{File, Nothing}
use Rattle.kmod_query.specs.declared.query.Ask.{Ask}
use Rattle.kmod_query.specs.declared.query.Ask.TheVariants.{ShowDepends, DryRun, Resolve, Remove, ShowRemoval, ShowConfig}
use Rattle.kmod_query.specs.declared.query.Query.{Query}
use Rattle.kmod_query.specs.declared.states.ModuleStatus.{ModuleStatus}
use Rattle.kmod_query.specs.declared.world.World.{World}
use Rattle.kmod_query.specs.Answers.{Answer, and_also, and_then, failing, nothing, said}
use Rattle.kmod_query.specs.AnswerOf.{answer_by_ask, answer_of}
use Rattle.kmod_query.specs.Early.{loads}
use Rattle.kmod_query.specs.Facts.{Facts, with_own}
use Rattle.kmod_query.specs.Lines.{is_built_in, is_in_kernel, is_live, load_line}
use Rattle.kmod_query.specs.Loading.{already, answer_at, answer_each, answer_found, answer_name, answer_names, answer_object, answer_one, is_barred, is_passed, is_resolve, is_show_depends, line_unless_passed, load, load_lines, shows_lines}
use Rattle.kmod_query.specs.Lines.{parameter_text}
use Rattle.kmod_query.specs.LookUp.{look_up}
use Rattle.kmod_query.specs.Objects.{Object, by_name, has}
use Rattle.kmod_query.specs.Paths.{own_of}
use Rattle.kmod_query.specs.Probes.{Task, probe, fill, add, fill_tasks, first_tasks, probe_list, probe_tasks, run, step_limit}
use Rattle.kmod_query.specs.States.{status_in}
use Rattle.kmod_query.specs.World.{facts_of}

-- ---- names in turn

fold-output : (f : List ℕ → Answer) (a : Answer) (words : List (List ℕ)) → (fold (λ answer word. and_also answer (f word)) a words).output ≡ a.output ++ flat_map (λ word. (f word).output) words
fold-output f a [] = sym (append-nil a.output)
fold-output f a (word ∷ words) = fold-output f (and_also a (f word)) words ∙ append_assoc a.output (f word).output (flat_map (λ word. (f word).output) words)

fold-failures : (f : List ℕ → Answer) (a : Answer) (words : List (List ℕ)) → (fold (λ answer word. and_also answer (f word)) a words).failures ≡ a.failures ++ flat_map (λ word. (f word).failures) words
fold-failures f a [] = sym (append-nil a.failures)
fold-failures f a (word ∷ words) = fold-failures f (and_also a (f word)) words ∙ append_assoc a.failures (f word).failures (flat_map (λ word. (f word).failures) words)

or-nothing : (a : Bool) → a ≡ (a || false)
or-nothing true = refl
or-nothing false = refl

or-assoc : (a b c : Bool) → ((a || b) || c) ≡ (a || (b || c))
or-assoc true b c = refl
or-assoc false b c = refl

fold-failed : (f : List ℕ → Answer) (a : Answer) (words : List (List ℕ)) → (fold (λ answer word. and_also answer (f word)) a words).failed ≡ (a.failed || list_any (λ word. (f word).failed) words)
fold-failed f a [] = or-nothing a.failed
fold-failed f a (word ∷ words) = fold-failed f (and_also a (f word)) words ∙ or-assoc a.failed (f word).failed (list_any (λ word. (f word).failed) words)

pub flat_map-same : {A B : Type 0} (f g : A → List B) → ((x : A) → f x ≡ g x) → (xs : List A) → flat_map f xs ≡ flat_map g xs
flat_map-same f g h [] = refl
flat_map-same f g h (x ∷ xs) = ap (λ l. l ++ flat_map f xs) (h x) ∙ ap (λ l. g x ++ l) (flat_map-same f g h xs)

any-same : {A : Type 0} (f g : A → Bool) → ((x : A) → f x ≡ g x) → (xs : List A) → list_any f xs ≡ list_any g xs
any-same f g h [] = refl
any-same f g h (x ∷ xs) = ap (λ b. b || list_any f xs) (h x) ∙ ap (λ b. g x || b) (any-same f g h xs)

-- under --all each word is a name
each-names : (facts : Facts) (query : Query) (words : List (List ℕ)) → query.all ≡ true → answer_names facts query words ≡ answer_each facts query words
each-names facts query words h = ap (λ all. cond all (answer_each facts query words) (answer_one facts query words)) h

pub lines-in_turn : (facts : Facts) (query : Query) (words : List (List ℕ)) → query.all ≡ true → (answer_names facts query words).output ≡ flat_map (λ word. (answer_names facts query (word ∷ [])).output) words
lines-in_turn facts query words h =
    ap (λ answer. answer.output) (each-names facts query words h)
    ∙ fold-output (answer_name facts query []) nothing words
    ∙ flat_map-same _ (λ word. (answer_names facts query (word ∷ [])).output) (λ word. ap (λ answer. answer.output) (sym (each-names facts query (word ∷ []) h))) words

pub failures-in_turn : (facts : Facts) (query : Query) (words : List (List ℕ)) → query.all ≡ true → (answer_names facts query words).failures ≡ flat_map (λ word. (answer_names facts query (word ∷ [])).failures) words
failures-in_turn facts query words h =
    ap (λ answer. answer.failures) (each-names facts query words h)
    ∙ fold-failures (answer_name facts query []) nothing words
    ∙ flat_map-same _ (λ word. (answer_names facts query (word ∷ [])).failures) (λ word. ap (λ answer. answer.failures) (sym (each-names facts query (word ∷ []) h))) words

pub status-in_turn : (facts : Facts) (query : Query) (words : List (List ℕ)) → query.all ≡ true → (answer_names facts query words).failed ≡ list_any (λ word. (answer_names facts query (word ∷ [])).failed) words
status-in_turn facts query words h =
    ap (λ answer. answer.failed) (each-names facts query words h)
    ∙ fold-failed (answer_name facts query []) nothing words
    ∙ any-same _ (λ word. (answer_names facts query (word ∷ [])).failed) (λ word. ap (λ answer. answer.failed) (sym (each-names facts query (word ∷ []) h))) words

-- ---- the blacklist

already-silent : (query : Query) (object : Object) → (already query object).output ≡ []
already-silent query object = next query.first_time
  where
    next : (first_time : Bool) → (cond first_time (failing (AlreadyLoaded object.name)) nothing).output ≡ []
    next true = refl
    next false = refl

barred-silent : (facts : Facts) (query : Query) (parameters : List ℕ) (object : Object) → is_barred facts query object ≡ true → (load facts query parameters object).output ≡ []
barred-silent facts query parameters object h = next (is_passed facts query object) (is_barred facts query object) h
  where
    next : (passed barred : Bool) → barred ≡ true → (cond passed (already query object) (cond (barred || not (shows_lines query)) nothing (said (load_lines facts query parameters object)))).output ≡ []
    next true barred h = already-silent query object
    next false true h = refl
    next false false h = absurd (cc)

both-first : (a b c : Bool) → a ≡ true → b ≡ true → (a && (b || c)) ≡ true
both-first a b c h k = rw (h, k) refl

both-second : (a b c : Bool) → a ≡ true → c ≡ true → (a && (b || c)) ≡ true
both-second a true c h k = rw h refl
both-second a false c h k = rw (h, k) refl

pub alias-barred : (facts : Facts) (query : Query) (parameters : List ℕ) (object : Object) → facts.is_blacklisted object.name ≡ true → is_some object.alias ≡ true → (load facts query parameters object).output ≡ []
alias-barred facts query parameters object h k = barred-silent facts query parameters object (both-first (facts.is_blacklisted object.name) (is_some object.alias) query.use_blacklist h k)

pub name-barred : (facts : Facts) (query : Query) (parameters : List ℕ) (object : Object) → facts.is_blacklisted object.name ≡ true → query.use_blacklist ≡ true → (load facts query parameters object).output ≡ []
name-barred facts query parameters object h k = barred-silent facts query parameters object (both-second (facts.is_blacklisted object.name) (is_some object.alias) query.use_blacklist h k)

-- ---- states

abbrev Status : Type 0
Status = List ℕ → Option ModuleStatus

-- the same with other states
abbrev with_states : Facts → Status → Facts
with_states facts status = record facts { status = status }

fold-same : {A B : Type 0} (f g : B → A → B) → ((b : B) (x : A) → f b x ≡ g b x) → (b : B) (xs : List A) → fold f b xs ≡ fold g b xs
fold-same f g h b [] = refl
fold-same f g h b (x ∷ xs) = ap (λ c. fold f c xs) (h b x) ∙ fold-same f g h (g b x) xs

run-states : (facts : Facts) (status : Status) (n : ℕ) (met : List Object) (tasks : List Task) → run (with_states facts status) n met tasks ≡ run facts n met tasks
unfolding run
run-states facts status zero met tasks = refl
run-states facts status (suc n) met [] = refl
run-states facts status (suc n) met (probe o ∷ tasks) =
    ap (λ l. cond (has met o) l (run (with_states facts status) n (met ++ o ∷ []) (probe_tasks facts o ++ tasks))) (run-states facts status n met tasks)
    ∙ ap (λ l. cond (has met o) (run facts n met tasks) l) (run-states facts status n (met ++ o ∷ []) (probe_tasks facts o ++ tasks))
run-states facts status (suc n) met (fill o ∷ tasks) = run-states facts status n met (fill_tasks facts o ++ tasks)
run-states facts status (suc n) met (add o ∷ tasks) = ap (λ l. o ∷ l) (run-states facts status n met tasks)

pub not_passed : (facts : Facts) (query : Query) (object : Object) → query.ask ≡ ShowDepends → is_passed facts query object ≡ false
not_passed facts query object h = ap (λ ask. not (is_show_depends ask) && is_in_kernel facts object) h

-- whatever the states are, under --show-depends; else the same modules are live
abbrev AreAlike : Facts → Status → Query → Type 0
AreAlike facts status query = (query.ask ≡ ShowDepends) ⊎ ((name : List ℕ) → is_live (status name) ≡ is_live (facts.status name))

passed-states : (facts : Facts) (status : Status) (query : Query) (object : Object) → AreAlike facts status query → is_passed (with_states facts status) query object ≡ is_passed facts query object
passed-states facts status query object (inl h) = not_passed (with_states facts status) query object h ∙ sym (not_passed facts query object h)
passed-states facts status query object (inr same) =
    ap (λ live. not (is_show_depends query.ask) && (is_built_in facts object || live)) (same object.name)

line-states : (facts : Facts) (status : Status) (query : Query) (parameters : List ℕ) (top object : Object) → AreAlike facts status query
    → line_unless_passed (with_states facts status) query parameters top object ≡ line_unless_passed facts query parameters top object
line-states facts status query parameters top object h =
    ap (λ b. cond b [] (load_line facts query.ignore_commands parameters top object)) (passed-states facts status query object h)

lines-states : (facts : Facts) (status : Status) (query : Query) (parameters : List ℕ) (top : Object) → AreAlike facts status query
    → load_lines (with_states facts status) query parameters top ≡ load_lines facts query parameters top
lines-states facts status query parameters top h =
    flat_map-same _ (line_unless_passed facts query parameters top) (λ object. line-states facts status query parameters top object h) (probe_list (with_states facts status) query.ignore_commands top)
    ∙ ap (flat_map (line_unless_passed facts query parameters top)) (run-states facts status step_limit (top ∷ []) (first_tasks facts query.ignore_commands top))

load-states : (facts : Facts) (status : Status) (query : Query) (parameters : List ℕ) (top : Object) → AreAlike facts status query → load (with_states facts status) query parameters top ≡ load facts query parameters top
load-states facts status query parameters top h =
    ap (λ b. cond b (already query top) (cond (is_barred facts query top || not (shows_lines query)) nothing (said (load_lines (with_states facts status) query parameters top)))) (passed-states facts status query top h)
    ∙ ap (λ l. cond (is_passed facts query top) (already query top) (cond (is_barred facts query top || not (shows_lines query)) nothing (said l))) (lines-states facts status query parameters top h)

object-states : (facts : Facts) (status : Status) (query : Query) (parameters : List ℕ) (object : Object) → AreAlike facts status query → answer_object (with_states facts status) query parameters object ≡ answer_object facts query parameters object
object-states facts status query parameters object h = ap (λ a. cond (is_resolve query.ask) (said (object.name ++ (10 ∷ []))) a) (load-states facts status query parameters object h)

found-states : (facts : Facts) (status : Status) (query : Query) (parameters word : List ℕ) (found : List Object) → AreAlike facts status query → answer_found (with_states facts status) query parameters word found ≡ answer_found facts query parameters word found
found-states facts status query parameters word found h =
    ap (λ a. cond (length found == 0) (failing (NotFound word)) a)
    (fold-same _ (λ answer own. and_then answer (answer_object facts query parameters own)) (λ answer own. ap (and_then answer) (object-states facts status query parameters own h)) nothing found)

name-states : (facts : Facts) (status : Status) (query : Query) (parameters word : List ℕ) → AreAlike facts status query → answer_name (with_states facts status) query parameters word ≡ answer_name facts query parameters word
name-states facts status query parameters word h = next (facts.at_path word)
  where
    next : (at : Option AtPath) → answer_at at (with_states facts status) query parameters word ≡ answer_at at facts query parameters word
    next None = found-states facts status query parameters word (look_up facts word) h
    next (Some (File file)) = object-states (with_own facts (name_of_path word) file) status query parameters (by_name (name_of_path word)) h
    next (Some (Nothing reason)) = refl

one-states : (facts : Facts) (status : Status) (query : Query) (words : List (List ℕ)) → AreAlike facts status query → answer_one (with_states facts status) query words ≡ answer_one facts query words
one-states facts status query [] h = refl
one-states facts status query (word ∷ parameters) h = name-states facts status query (parameter_text parameters) word h

each-states : (facts : Facts) (status : Status) (query : Query) (words : List (List ℕ)) → AreAlike facts status query → answer_each (with_states facts status) query words ≡ answer_each facts query words
each-states facts status query words h =
    fold-same _ (λ answer word. and_also answer (answer_name facts query [] word)) (λ answer word. ap (and_also answer) (name-states facts status query [] word h)) nothing words

names-states : (facts : Facts) (status : Status) (query : Query) (words : List (List ℕ)) → AreAlike facts status query → answer_names (with_states facts status) query words ≡ answer_names facts query words
names-states facts status query words h =
    ap (λ a. cond query.all a (answer_one (with_states facts status) query words)) (each-states facts status query words h)
    ∙ ap (λ a. cond query.all (answer_each facts query words) a) (one-states facts status query words h)

facts-states : (one other : World) → one.conf.now ≡ other.conf.now → one.index.now ≡ other.index.now → one.directory.now ≡ other.directory.now
    → one.paths.now ≡ other.paths.now → own_of one.own ≡ own_of other.own → facts_of one ≡ with_states (facts_of other) (status_in one.states.now)
unfolding facts_of
facts-states one other c i d p o = rw (c, i, d, p, o) refl

pub states-ignored : (one other : World) (query : Query) → query.ask ≡ ShowDepends → one.conf.now ≡ other.conf.now → one.index.now ≡ other.index.now → one.directory.now ≡ other.directory.now
    → one.paths.now ≡ other.paths.now → own_of one.own ≡ own_of other.own → answer_of one query ≡ answer_of other query
states-ignored one other query h c i d p o =
    ap (λ ask. answer_by_ask ask one query) h
    ∙ ap (λ facts. answer_names facts query (texts_of query.words.now)) (facts-states one other c i d p o)
    ∙ names-states (facts_of other) (status_in one.states.now) query (texts_of query.words.now) (inl h)
    ∙ sym (ap (λ ask. answer_by_ask ask other query) h)

alike-live : (one other : World) (query : Query) → ((name : List ℕ) → is_live (status_in one.states.now name) ≡ is_live (status_in other.states.now name))
    → AreAlike (facts_of other) (status_in one.states.now) query
unfolding facts_of
alike-live one other query same = inr same

pub live-counts : (one other : World) (query : Query) → loads query.ask ≡ true → one.conf.now ≡ other.conf.now → one.index.now ≡ other.index.now → one.directory.now ≡ other.directory.now
    → one.paths.now ≡ other.paths.now → own_of one.own ≡ own_of other.own
    → ((name : List ℕ) → is_live (status_in one.states.now name) ≡ is_live (status_in other.states.now name)) → answer_of one query ≡ answer_of other query
live-counts one other query h c i d p o same = next query.ask h
  where
    names : answer_names (facts_of one) query (texts_of query.words.now) ≡ answer_names (facts_of other) query (texts_of query.words.now)
    names =
        ap (λ facts. answer_names facts query (texts_of query.words.now)) (facts-states one other c i d p o)
        ∙ names-states (facts_of other) (status_in one.states.now) query (texts_of query.words.now) (alike-live one other query same)

    next : (ask : Ask) → loads ask ≡ true → answer_by_ask ask one query ≡ answer_by_ask ask other query
    next ShowDepends h = names
    next DryRun h = names
    next Resolve h = names
    next Remove h = absurd (true≢false (sym h))
    next ShowRemoval h = absurd (true≢false (sym h))
    next ShowConfig h = absurd (true≢false (sym h))
