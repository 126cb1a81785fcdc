-- An answer that is early does not depend on modules.alias and modules.symbols.
use Rattle.std.proofs.Common.{◌≡◌, ℕ, zero, suc, ◌==◌, Bool, true, false, not, ◌&&◌, ◌||◌, cond, List, [], ◌∷◌, ◌++◌, fold, length, map, nat_lt, refl, sym, ◌∙◌, ap, Option, Some, None}
use Rattle.std.proofs.lemmas.Bool.{lt-ltb}
use Rattle.std.proofs.Math.Nat.{zero-lt-suc}
use Rattle.std.specs.List.{flat_map, list_all, list_any}
use Rattle.text_parts.specs.Text.{texts_of}
use Rattle.kmod_query.specs.declared.answer.Failure.TheVariants.{NotFound}
use Rattle.kmod_names.specs.Names.{name_of_path}
use Rattle.kmod_query.specs.declared.paths.AtPath.{AtPath}
use Rattle.kmod_query.specs.declared.paths.AtPath.TheVariants.{File, Nothing}
use Rattle.kmod_query.specs.declared.query.Ask.{Ask}
use Rattle.kmod_query.specs.declared.query.Ask.TheVariants.{ShowDepends, DryRun, Resolve, Remove, ShowRemoval, ShowConfig}
use Rattle.kmod_query.specs.declared.query.Query.{Query}
use Rattle.kmod_query.specs.declared.world.World.{World}
use Rattle.kmod_query.specs.Answers.{Answer, and_also, and_then, failing, nothing, said}
use Rattle.kmod_query.specs.AnswerOf.{answer_by_ask, answer_of}
use Rattle.kmod_query.specs.Commands.{install_of}
use Rattle.kmod_query.specs.Early.{has_words, is_early, is_early_at, is_early_by, is_early_first, is_early_word, is_found_early, loads, stands_alone}
use Rattle.kmod_query.specs.Facts.{Facts, with_own}
use Rattle.kmod_query.specs.Lines.{file_of, has_soft_items, is_built_in, line_by, option_text, own_parameters, parameter_text}
use Rattle.kmod_query.specs.Loading.{already, answer_at, answer_each, answer_found, answer_name, answer_names, answer_object, answer_one, is_barred, is_passed, is_resolve, line_unless_passed, load_lines, shows_lines}
use Rattle.kmod_query.specs.LookUp.{by_one_alias, by_patterns, exporting, found, found_or_none, itself, look_up_each, or_else}
use Rattle.kmod_query.specs.Objects.{Object, by_name, is_same}
use Rattle.kmod_query.specs.Paths.{own_of}
use Rattle.kmod_query.specs.Probes.{Task, probe, fill, add, after_of, before_of, fill_tasks, first_tasks, run, step_limit}
use Rattle.kmod_query.specs.Removal.{remove_names}
use Rattle.kmod_query.specs.Shown.{shown}
use Rattle.kmod_query.specs.World.{facts_of}

abbrev pub Names : Type 0
Names = List ℕ → List (List ℕ)

-- the same with other texts of modules.symbols and modules.alias
abbrev pub with_later : Facts → Names → Names → Facts
with_later facts exporters aliased = record facts { exporters = exporters; aliased = aliased }

-- ---- tests

pub both : (a b : Bool) → (a && b) ≡ true → (a ≡ true) × (b ≡ true)
both true b h = (refl, h)
both false b h = absurd (cc)

neither : (a b : Bool) → (a || b) ≡ false → (a ≡ false) × (b ≡ false)
neither true b h = absurd (cc)
neither false b h = (refl, h)

pub of-not : (b : Bool) → not b ≡ true → b ≡ false
of-not true h = absurd (cc)
of-not false h = refl

is_some_first : {X : Type 0} (x : X) (xs : List X) → nat_lt 0 (length (x ∷ xs)) ≡ true
is_some_first x xs = lt-ltb 0 (length (x ∷ xs)) (zero-lt-suc (length xs))

none-of : {X : Type 0} (xs : List X) → nat_lt 0 (length xs) ≡ false → xs ≡ []
none-of [] h = refl
none-of (x ∷ xs) h = let e : true ≡ false = sym (is_some_first x xs) ∙ h in absurd (cc)

-- ---- modules that stand alone

before-none : (facts : Facts) (name : List ℕ) → has_words facts name ≡ false → before_of facts name ≡ []
before-none facts name h = ap (look_up_each facts) (none-of (facts.pre name) (neither (nat_lt 0 (length (facts.pre name))) (nat_lt 0 (length (facts.post name))) h).0)

after-none : (facts : Facts) (name : List ℕ) → has_words facts name ≡ false → after_of facts name ≡ []
after-none facts name h = ap (look_up_each facts) (none-of (facts.post name) (neither (nat_lt 0 (length (facts.pre name))) (nat_lt 0 (length (facts.post name))) h).1)

fill-alone : (facts : Facts) (object : Object) → has_words facts object.name ≡ false → fill_tasks facts object ≡ add object ∷ []
fill-alone facts object h =
    ap (λ l. map probe l ++ (add object ∷ map probe (after_of facts object.name))) (before-none facts object.name h)
    ∙ ap (λ l. add object ∷ map probe l) (after-none facts object.name h)

soft-none : (facts : Facts) (name : List ℕ) → has_words facts name ≡ false → has_soft_items facts name ≡ false
soft-none facts name h =
    ap (λ l. nat_lt 0 (length l) || nat_lt 0 (length (after_of facts name))) (before-none facts name h)
    ∙ ap (λ l. nat_lt 0 (length l)) (after-none facts name h)

alone-top : (facts : Facts) (object : Object) → stands_alone facts object ≡ true → has_words facts object.name ≡ false
alone-top facts object h = of-not (has_words facts object.name) (both (not (has_words facts object.name)) (not (list_any (has_words facts) (facts.needs object.name))) h).0

alone-needs : (facts : Facts) (object : Object) → stands_alone facts object ≡ true → list_any (has_words facts) (facts.needs object.name) ≡ false
alone-needs facts object h =
    of-not (list_any (has_words facts) (facts.needs object.name)) (both (not (has_words facts object.name)) (not (list_any (has_words facts) (facts.needs object.name))) h).1

-- ---- what is loaded

-- tasks of modules without words, none of them to be probed
abbrev AreAlone : Facts → List Task → Type 0
AreAlone facts [] = Unit {0}
AreAlone facts (probe object ∷ tasks) = ⊥
AreAlone facts (fill object ∷ tasks) = (has_words facts object.name ≡ false) × AreAlone facts tasks
AreAlone facts (add object ∷ tasks) = (has_words facts object.name ≡ false) × AreAlone facts tasks

run-later : (facts : Facts) (exporters aliased : Names) (f g : Object → List ℕ) → ((object : Object) → has_words facts object.name ≡ false → f object ≡ g object)
    → (n : ℕ) (met : List Object) (tasks : List Task) → AreAlone facts tasks → flat_map f (run (with_later facts exporters aliased) n met tasks) ≡ flat_map g (run facts n met tasks)
unfolding run
run-later facts exporters aliased f g same zero met tasks alone = refl
run-later facts exporters aliased f g same (suc n) met [] alone = refl
run-later facts exporters aliased f g same (suc n) met (probe object ∷ tasks) alone = absurd alone
run-later facts exporters aliased f g same (suc n) met (fill object ∷ tasks) alone =
    ap (λ l. flat_map f (run (with_later facts exporters aliased) n met (l ++ tasks))) (fill-alone (with_later facts exporters aliased) object alone.0)
    ∙ run-later facts exporters aliased f g same n met (add object ∷ tasks) alone
    ∙ sym (ap (λ l. flat_map g (run facts n met (l ++ tasks))) (fill-alone facts object alone.0))
run-later facts exporters aliased f g same (suc n) met (add object ∷ tasks) alone =
    ap (λ l. l ++ flat_map f (run (with_later facts exporters aliased) n met tasks)) (same object alone.0)
    ∙ ap (λ l. g object ++ l) (run-later facts exporters aliased f g same n met tasks alone.1)

needs-alone : (facts : Facts) (names : List (List ℕ)) (rest : List Task) → list_any (has_words facts) names ≡ false → AreAlone facts rest → AreAlone facts (map (λ need. fill (by_name need)) names ++ rest)
needs-alone facts [] rest h alone = alone
needs-alone facts (name ∷ names) rest h alone =
    ((neither (has_words facts name) (list_any (has_words facts) names) h).0, needs-alone facts names rest (neither (has_words facts name) (list_any (has_words facts) names) h).1 alone)

first-alone : (facts : Facts) (bare : Bool) (top : Object) → stands_alone facts top ≡ true → AreAlone facts (first_tasks facts bare top)
first-alone facts true top h = needs-alone facts (facts.needs top.name) (add top ∷ []) (alone-needs facts top h) (alone-top facts top h, tt)
first-alone facts false top h = needs-alone facts (facts.needs top.name) (fill top ∷ []) (alone-needs facts top h) (alone-top facts top h, tt)

line-later : (facts : Facts) (exporters aliased : Names) (query : Query) (parameters : List ℕ) (top object : Object) → has_words facts object.name ≡ false
    → line_unless_passed (with_later facts exporters aliased) query parameters top object ≡ line_unless_passed facts query parameters top object
line-later facts exporters aliased query parameters top object h =
    ap (λ soft. cond (is_passed facts query object) []
    (line_by (cond ((query.ignore_commands && is_same object top) || soft) None (install_of facts object.name object.alias)) (file_of facts object)
    (is_built_in facts object) object.name (option_text facts object (own_parameters top object parameters))))
    (soft-none (with_later facts exporters aliased) object.name h ∙ sym (soft-none facts object.name h))

lines-later : (facts : Facts) (exporters aliased : Names) (query : Query) (parameters : List ℕ) (top : Object) → stands_alone facts top ≡ true
    → load_lines (with_later facts exporters aliased) query parameters top ≡ load_lines facts query parameters top
lines-later facts exporters aliased query parameters top h =
    run-later facts exporters aliased (line_unless_passed (with_later facts exporters aliased) query parameters top) (line_unless_passed facts query parameters top)
    (λ object plain. line-later facts exporters aliased query parameters top object plain)
    step_limit (top ∷ []) (first_tasks facts query.ignore_commands top) (first-alone facts query.ignore_commands top h)

object-later : (facts : Facts) (exporters aliased : Names) (query : Query) (parameters : List ℕ) (top : Object) → stands_alone facts top ≡ true
    → answer_object (with_later facts exporters aliased) query parameters top ≡ answer_object facts query parameters top
object-later facts exporters aliased query parameters top h =
    ap (λ lines. cond (is_resolve query.ask) (said (top.name ++ (10 ∷ [])))
    (cond (is_passed facts query top) (already query top) (cond (is_barred facts query top || not (shows_lines query)) nothing (said lines))))
    (lines-later facts exporters aliased query parameters top h)

objects-later : (facts : Facts) (exporters aliased : Names) (query : Query) (parameters : List ℕ) (objects : List Object) (answer : Answer) → list_all (stands_alone facts) objects ≡ true
    → fold (λ answer own. and_then answer (answer_object (with_later facts exporters aliased) query parameters own)) answer objects
    ≡ fold (λ answer own. and_then answer (answer_object facts query parameters own)) answer objects
objects-later facts exporters aliased query parameters [] answer h = refl
objects-later facts exporters aliased query parameters (object ∷ objects) answer h =
    let split = both (stands_alone facts object) (list_all (stands_alone facts) objects) h in
    ap (λ one. fold (λ answer own. and_then answer (answer_object (with_later facts exporters aliased) query parameters own)) (and_then answer one) objects)
    (object-later facts exporters aliased query parameters object split.0)
    ∙ objects-later facts exporters aliased query parameters objects (and_then answer (answer_object facts query parameters object)) split.1

found-later : (facts : Facts) (exporters aliased : Names) (query : Query) (parameters word : List ℕ) (objects : List Object) → list_all (stands_alone facts) objects ≡ true
    → answer_found (with_later facts exporters aliased) query parameters word objects ≡ answer_found facts query parameters word objects
found-later facts exporters aliased query parameters word objects h =
    ap (λ a. cond (length objects == 0) (failing (NotFound word)) a) (objects-later facts exporters aliased query parameters objects nothing h)

-- ---- look-ups

found-same : (facts : Facts) (exporters aliased : Names) (name : List ℕ) → is_found_early facts name ≡ true → found (with_later facts exporters aliased) name ≡ found facts name
found-same facts exporters aliased name h =
    next (facts.configured name) (facts.is_loadable name) (exporting (with_later facts exporters aliased) name) (exporting facts name) h
  where
    next : (pairs : List (List ℕ × List ℕ)) (known : Bool) (one other : List Object) → (nat_lt 0 (length pairs) || known) ≡ true
        → or_else (by_patterns pairs) (or_else (itself known name) one) ≡ or_else (by_patterns pairs) (or_else (itself known name) other)
    next [] true one other h = refl
    next [] false one other h = absurd (cc)
    next (pair ∷ pairs) known one other h =
        ap (λ b. cond b (by_patterns (pair ∷ pairs)) (or_else (itself known name) one)) (is_some_first (by_one_alias pair.0 false pair.1) (by_patterns pairs))
        ∙ sym (ap (λ b. cond b (by_patterns (pair ∷ pairs)) (or_else (itself known name) other)) (is_some_first (by_one_alias pair.0 false pair.1) (by_patterns pairs)))

name-later : (facts : Facts) (exporters aliased : Names) (query : Query) (parameters word : List ℕ) (normal : Option (List ℕ)) → is_early_by facts normal ≡ true
    → answer_found (with_later facts exporters aliased) query parameters word (found_or_none (with_later facts exporters aliased) normal)
    ≡ answer_found facts query parameters word (found_or_none facts normal)
name-later facts exporters aliased query parameters word None h = refl
name-later facts exporters aliased query parameters word (Some name) h =
    let split = both (is_found_early facts name) (list_all (stands_alone facts) (found facts name)) h in
    ap (answer_found (with_later facts exporters aliased) query parameters word) (found-same facts exporters aliased name split.0)
    ∙ found-later facts exporters aliased query parameters word (found facts name) split.1

word-later : (facts : Facts) (exporters aliased : Names) (query : Query) (parameters word : List ℕ) → is_early_word facts word ≡ true
    → answer_name (with_later facts exporters aliased) query parameters word ≡ answer_name facts query parameters word
word-later facts exporters aliased query parameters word h = next (facts.at_path word) h
  where
    next : (at : Option AtPath) → is_early_at at facts word ≡ true
        → answer_at at (with_later facts exporters aliased) query parameters word ≡ answer_at at facts query parameters word
    next None h = name-later facts exporters aliased query parameters word (facts.normal word) h
    next (Some (File file)) h = object-later (with_own facts (name_of_path word) file) exporters aliased query parameters (by_name (name_of_path word)) h
    next (Some (Nothing reason)) h = refl

one-later : (facts : Facts) (exporters aliased : Names) (query : Query) (words : List (List ℕ)) → is_early_first facts words ≡ true
    → answer_one (with_later facts exporters aliased) query words ≡ answer_one facts query words
one-later facts exporters aliased query [] h = refl
one-later facts exporters aliased query (word ∷ parameters) h = word-later facts exporters aliased query (parameter_text parameters) word h

each-later : (facts : Facts) (exporters aliased : Names) (query : Query) (words : List (List ℕ)) (answer : Answer) → list_all (is_early_word facts) words ≡ true
    → fold (λ answer word. and_also answer (answer_name (with_later facts exporters aliased) query [] word)) answer words
    ≡ fold (λ answer word. and_also answer (answer_name facts query [] word)) answer words
each-later facts exporters aliased query [] answer h = refl
each-later facts exporters aliased query (word ∷ words) answer h =
    let split = both (is_early_word facts word) (list_all (is_early_word facts) words) h in
    ap (λ one. fold (λ answer word. and_also answer (answer_name (with_later facts exporters aliased) query [] word)) (and_also answer one) words)
    (word-later facts exporters aliased query [] word split.0)
    ∙ each-later facts exporters aliased query words (and_also answer (answer_name facts query [] word)) split.1

names-later : (facts : Facts) (exporters aliased : Names) (query : Query) (words : List (List ℕ)) → is_early facts query words ≡ true
    → answer_names (with_later facts exporters aliased) query words ≡ answer_names facts query words
names-later facts exporters aliased query words h =
    next query.all (both (loads query.ask) (cond query.all (list_all (is_early_word facts) words) (is_early_first facts words)) h).1
  where
    next : (all : Bool) → cond all (list_all (is_early_word facts) words) (is_early_first facts words) ≡ true
        → cond all (answer_each (with_later facts exporters aliased) query words) (answer_one (with_later facts exporters aliased) query words)
        ≡ cond all (answer_each facts query words) (answer_one facts query words)
    next true h = each-later facts exporters aliased query words nothing h
    next false h = one-later facts exporters aliased query words h

-- ---- worlds

facts-later : (one other : World) → one.conf.now ≡ other.conf.now → one.states.now ≡ other.states.now → one.directory.now ≡ other.directory.now
    → one.paths.now ≡ other.paths.now → own_of one.own ≡ own_of other.own
    → one.index.now.dependencies ≡ other.index.now.dependencies → one.index.now.builtin_names ≡ other.index.now.builtin_names
    → one.index.now.builtin_aliases ≡ other.index.now.builtin_aliases
    → with_later (facts_of one) (facts_of other).exporters (facts_of other).aliased ≡ facts_of other
unfolding facts_of
facts-later one other conf states directory paths own dependencies names aliases =
    rw (conf, states, directory, paths, own, dependencies, names, aliases) refl

by-ask : (one other : World) (query : Query) (ask : Ask) → loads ask ≡ true
    → answer_names (facts_of one) query (texts_of query.words.now) ≡ answer_names (facts_of other) query (texts_of query.words.now)
    → answer_by_ask ask one query ≡ answer_by_ask ask other query
by-ask one other query ShowDepends h same = same
by-ask one other query DryRun h same = same
by-ask one other query Resolve h same = same
by-ask one other query Remove h same = absurd (cc)
by-ask one other query ShowRemoval h same = absurd (cc)
by-ask one other query ShowConfig h same = absurd (cc)

pub later-ignored : (one other : World) (query : Query) → is_early (facts_of one) query (texts_of query.words.now) ≡ true
    → one.conf.now ≡ other.conf.now → one.states.now ≡ other.states.now → one.directory.now ≡ other.directory.now
    → one.paths.now ≡ other.paths.now → own_of one.own ≡ own_of other.own
    → one.index.now.dependencies ≡ other.index.now.dependencies → one.index.now.builtin_names ≡ other.index.now.builtin_names
    → one.index.now.builtin_aliases ≡ other.index.now.builtin_aliases → answer_of one query ≡ answer_of other query
later-ignored one other query h conf states directory paths own dependencies names aliases =
    by-ask one other query query.ask
    (both (loads query.ask) (cond query.all (list_all (is_early_word (facts_of one)) (texts_of query.words.now)) (is_early_first (facts_of one) (texts_of query.words.now))) h).0
    (sym (names-later (facts_of one) (facts_of other).exporters (facts_of other).aliased query (texts_of query.words.now) h)
    ∙ ap (λ facts. answer_names facts query (texts_of query.words.now)) (facts-later one other conf states directory paths own dependencies names aliases))

-- what a world has decides its answers
pub same-facts : (one other : World) → one.conf.now ≡ other.conf.now → one.index.now ≡ other.index.now → one.states.now ≡ other.states.now
    → one.directory.now ≡ other.directory.now → one.paths.now ≡ other.paths.now → own_of one.own ≡ own_of other.own → facts_of one ≡ facts_of other
unfolding facts_of
same-facts one other conf index states directory paths own = rw (conf, index, states, directory, paths, own) refl

pub same-answer : (one other : World) (query : Query) → one.conf.now ≡ other.conf.now → one.index.now ≡ other.index.now → one.states.now ≡ other.states.now
    → one.directory.now ≡ other.directory.now → one.paths.now ≡ other.paths.now → own_of one.own ≡ own_of other.own → answer_of one query ≡ answer_of other query
same-answer one other query conf index states directory paths own = next query.ask
  where
    same : facts_of one ≡ facts_of other
    same = same-facts one other conf index states directory paths own

    next : (ask : Ask) → answer_by_ask ask one query ≡ answer_by_ask ask other query
    next ShowDepends = ap (λ facts. answer_names facts query (texts_of query.words.now)) same
    next DryRun = ap (λ facts. answer_names facts query (texts_of query.words.now)) same
    next Resolve = ap (λ facts. answer_names facts query (texts_of query.words.now)) same
    next Remove = ap (λ facts. remove_names facts query nothing (texts_of query.words.now)) same
    next ShowRemoval = ap (λ facts. remove_names facts query nothing (texts_of query.words.now)) same
    next ShowConfig = ap (λ c. said (shown c one.index.now)) conf ∙ ap (λ i. said (shown other.conf.now i)) index
