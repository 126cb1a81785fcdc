-- If names are resolved that are no symbols' names, the answer does not depend on modules.symbols.
use Rattle.std.proofs.Common.{◌≡◌, ℕ, ◌==◌, Bool, true, false, cond, List, [], ◌∷◌, ◌++◌, fold, length, refl, sym, ◌∙◌, ap, Option, Some, None}
use Rattle.std.specs.List.{list_all}
use Rattle.text_parts.specs.Text.{texts_of}
use Rattle.kmod_names.specs.Names.{name_of_path, normal_alias}
use Rattle.kmod_query.specs.declared.answer.Failure.TheVariants.{NotFound}
use Rattle.kmod_query.specs.declared.paths.AtPath.{AtPath}
use Rattle.kmod_query.specs.declared.paths.AtPath.TheVariants.{File, Nothing}
use Rattle.kmod_query.specs.declared.query.Ask.{Ask}
use Rattle.kmod_query.specs.declared.query.Ask.TheVariants.{ShowDepends, DryRun, Resolve, Remove, ShowRemoval, ShowConfig}
use Rattle.kmod_query.specs.declared.query.Query.{Query}
use Rattle.kmod_query.specs.declared.world.World.{World}
use Rattle.kmod_query.specs.Answers.{Answer, and_also, and_then, failing, nothing, said}
use Rattle.kmod_query.specs.AnswerOf.{answer_by_ask, answer_of}
use Rattle.kmod_query.specs.Early.{are_plain, is_plain_by, is_plain_first, is_plain_word, is_symbolless}
use Rattle.kmod_query.specs.Facts.{Facts, with_own}
use Rattle.kmod_query.specs.Loading.{answer_at, answer_each, answer_found, answer_name, answer_names, answer_object, answer_one, is_resolve, load}
use Rattle.kmod_query.specs.Lines.{parameter_text}
use Rattle.kmod_query.specs.LookUp.{by_alias, by_patterns, commanded, found, found_or_none, is_symbol, itself, or_else}
use Rattle.kmod_query.specs.Objects.{Object, by_name}
use Rattle.kmod_query.specs.Paths.{own_of}
use Rattle.kmod_query.specs.World.{facts_of}
use Rattle.kmod_query.proofs.EarlyLemmas.{Names, both, of-not, with_later}

-- the same with another text of modules.symbols
abbrev with_symbols : Facts → Names → Facts
with_symbols facts exporters = with_later facts exporters facts.aliased

found-symbolless : (facts : Facts) (exporters : Names) (name : List ℕ) → is_symbol name ≡ false → found (with_symbols facts exporters) name ≡ found facts name
found-symbolless facts exporters name h =
    ap (λ l. or_else (by_patterns (facts.configured name)) (or_else (itself (facts.is_loadable name) name) (or_else l (commanded facts name)))) (next (is_symbol name) h)
  where
    next : (symbol : Bool) → symbol ≡ false → cond symbol (by_alias name false (exporters name)) [] ≡ cond symbol (by_alias name false (facts.exporters name)) []
    next true h = absurd (cc)
    next false h = refl

object-resolved : (facts : Facts) (exporters : Names) (query : Query) (parameters : List ℕ) (object : Object) → is_resolve query.ask ≡ true
    → answer_object (with_symbols facts exporters) query parameters object ≡ answer_object facts query parameters object
object-resolved facts exporters query parameters object h =
    ap (λ b. cond b (said (object.name ++ (10 ∷ []))) (load (with_symbols facts exporters) query parameters object)) h
    ∙ sym (ap (λ b. cond b (said (object.name ++ (10 ∷ []))) (load facts query parameters object)) h)

objects-resolved : (facts : Facts) (exporters : Names) (query : Query) (parameters : List ℕ) (objects : List Object) (answer : Answer) → is_resolve query.ask ≡ true
    → fold (λ answer own. and_then answer (answer_object (with_symbols facts exporters) query parameters own)) answer objects
    ≡ fold (λ answer own. and_then answer (answer_object facts query parameters own)) answer objects
objects-resolved facts exporters query parameters [] answer h = refl
objects-resolved facts exporters query parameters (object ∷ objects) answer h =
    ap (λ one. fold (λ answer own. and_then answer (answer_object (with_symbols facts exporters) query parameters own)) (and_then answer one) objects)
    (object-resolved facts exporters query parameters object h)
    ∙ objects-resolved facts exporters query parameters objects (and_then answer (answer_object facts query parameters object)) h

name-resolved : (facts : Facts) (exporters : Names) (query : Query) (parameters word : List ℕ) (normal : Option (List ℕ)) → is_resolve query.ask ≡ true → is_plain_by normal ≡ true
    → answer_found (with_symbols facts exporters) query parameters word (found_or_none (with_symbols facts exporters) normal)
    ≡ answer_found facts query parameters word (found_or_none facts normal)
name-resolved facts exporters query parameters word None h plain = refl
name-resolved facts exporters query parameters word (Some name) h plain =
    ap (answer_found (with_symbols facts exporters) query parameters word) (found-symbolless facts exporters name (of-not (is_symbol name) plain))
    ∙ ap (λ a. cond (length (found facts name) == 0) (failing (NotFound word)) a) (objects-resolved facts exporters query parameters (found facts name) nothing h)

-- what brings words into normal form is that of kmod_names
abbrev IsNormal : Facts → Type 0
IsNormal facts = (word : List ℕ) → normal_alias word ≡ facts.normal word

word-resolved : (facts : Facts) (exporters : Names) (query : Query) (parameters word : List ℕ) → IsNormal facts → is_resolve query.ask ≡ true → is_plain_word word ≡ true
    → answer_name (with_symbols facts exporters) query parameters word ≡ answer_name facts query parameters word
word-resolved facts exporters query parameters word normal h plain = next (facts.at_path word)
  where
    next : (at : Option AtPath) → answer_at at (with_symbols facts exporters) query parameters word ≡ answer_at at facts query parameters word
    next None = name-resolved facts exporters query parameters word (facts.normal word) h (sym (ap is_plain_by (normal word)) ∙ plain)
    next (Some (File file)) = object-resolved (with_own facts (name_of_path word) file) exporters query parameters (by_name (name_of_path word)) h
    next (Some (Nothing reason)) = refl

one-resolved : (facts : Facts) (exporters : Names) (query : Query) (words : List (List ℕ)) → IsNormal facts → is_resolve query.ask ≡ true → is_plain_first words ≡ true
    → answer_one (with_symbols facts exporters) query words ≡ answer_one facts query words
one-resolved facts exporters query [] normal h plain = refl
one-resolved facts exporters query (word ∷ parameters) normal h plain = word-resolved facts exporters query (parameter_text parameters) word normal h plain

each-resolved : (facts : Facts) (exporters : Names) (query : Query) (words : List (List ℕ)) (answer : Answer) → IsNormal facts → is_resolve query.ask ≡ true
    → list_all is_plain_word words ≡ true
    → fold (λ answer word. and_also answer (answer_name (with_symbols facts exporters) query [] word)) answer words
    ≡ fold (λ answer word. and_also answer (answer_name facts query [] word)) answer words
each-resolved facts exporters query [] answer normal h plain = refl
each-resolved facts exporters query (word ∷ words) answer normal h plain =
    let split = both (is_plain_word word) (list_all is_plain_word words) plain in
    ap (λ one. fold (λ answer word. and_also answer (answer_name (with_symbols facts exporters) query [] word)) (and_also answer one) words)
    (word-resolved facts exporters query [] word normal h split.0)
    ∙ each-resolved facts exporters query words (and_also answer (answer_name facts query [] word)) normal h split.1

names-resolved : (facts : Facts) (exporters : Names) (query : Query) (words : List (List ℕ)) → IsNormal facts → is_resolve query.ask ≡ true → are_plain query words ≡ true
    → answer_names (with_symbols facts exporters) query words ≡ answer_names facts query words
names-resolved facts exporters query words normal h plain = next query.all plain
  where
    next : (all : Bool) → cond all (list_all is_plain_word words) (is_plain_first words) ≡ true
        → cond all (answer_each (with_symbols facts exporters) query words) (answer_one (with_symbols facts exporters) query words)
        ≡ cond all (answer_each facts query words) (answer_one facts query words)
    next true plain = each-resolved facts exporters query words nothing normal h plain
    next false plain = one-resolved facts exporters query words normal h plain

is-normal : (world : World) → IsNormal (facts_of world)
unfolding facts_of
is-normal world word = refl

facts-symbols : (one other : World) → one.conf.now ≡ other.conf.now → one.states.now ≡ other.states.now → one.directory.now ≡ other.directory.now
    → one.paths.now ≡ other.paths.now → own_of one.own ≡ own_of other.own
    → one.index.now.dependencies ≡ other.index.now.dependencies → one.index.now.aliases ≡ other.index.now.aliases
    → one.index.now.builtin_names ≡ other.index.now.builtin_names → one.index.now.builtin_aliases ≡ other.index.now.builtin_aliases
    → with_symbols (facts_of one) (facts_of other).exporters ≡ facts_of other
unfolding facts_of
facts-symbols one other conf states directory paths own dependencies aliases names builtin_aliases =
    rw (conf, states, directory, paths, own, dependencies, aliases, names, builtin_aliases) refl

by-resolve : (one other : World) (query : Query) (ask : Ask) → is_resolve ask ≡ true
    → answer_names (facts_of one) query (texts_of query.words.now) ≡ answer_names (facts_of other) query (texts_of query.words.now)
    → answer_by_ask ask one query ≡ answer_by_ask ask other query
by-resolve one other query ShowDepends h same = absurd (cc)
by-resolve one other query DryRun h same = absurd (cc)
by-resolve one other query Resolve h same = same
by-resolve one other query Remove h same = absurd (cc)
by-resolve one other query ShowRemoval h same = absurd (cc)
by-resolve one other query ShowConfig h same = absurd (cc)

pub symbols-ignored : (one other : World) (query : Query) → is_symbolless query (texts_of query.words.now) ≡ true
    → one.conf.now ≡ other.conf.now → one.states.now ≡ other.states.now → one.directory.now ≡ other.directory.now
    → one.paths.now ≡ other.paths.now → own_of one.own ≡ own_of other.own
    → one.index.now.dependencies ≡ other.index.now.dependencies → one.index.now.aliases ≡ other.index.now.aliases
    → one.index.now.builtin_names ≡ other.index.now.builtin_names → one.index.now.builtin_aliases ≡ other.index.now.builtin_aliases
    → answer_of one query ≡ answer_of other query
symbols-ignored one other query h conf states directory paths own dependencies aliases names builtin_aliases =
    let split = both (is_resolve query.ask) (are_plain query (texts_of query.words.now)) h in
    by-resolve one other query query.ask split.0
    (sym (names-resolved (facts_of one) (facts_of other).exporters query (texts_of query.words.now) (is-normal one) split.0 split.1)
    ∙ ap (λ facts. answer_names facts query (texts_of query.words.now)) (facts-symbols one other conf states directory paths own dependencies aliases names builtin_aliases))
