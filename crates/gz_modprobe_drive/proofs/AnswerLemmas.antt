-- What is answered from the texts that were read is the answer of all texts.
use Rattle.std.proofs.Common.{◌≡◌, ℕ, List, Bool, true, false, true≢false, cond, ◌&&◌, refl, sym, ◌∙◌, ap, Option, Some, None}
use Rattle.std.specs.List.{list_all}
use Rattle.text_parts.specs.Text.{texts_of}
use Rattle.kmod_conf.specs.Configuration.{Configuration}
use Rattle.kmod_index.specs.Aliases.{aliases_of}
use Rattle.kmod_index.specs.Builtins.{builtin_aliases, builtin_names}
use Rattle.kmod_index.specs.Dependencies.{dependencies_of}
use Rattle.kmod_index.specs.Index.{Texts, indexes_of}
use Rattle.kmod_index.specs.Indexes.{Indexes}
use Rattle.kmod_query.specs.declared.query.Ask.{Ask}
use Rattle.kmod_query.specs.declared.query.Ask.TheVariants as asks
use Rattle.kmod_query.specs.declared.query.Query.{Query}
use Rattle.kmod_query.specs.declared.world.World.{World}
use Rattle.kmod_query.specs.AnswerOf.{answer_of}
use Rattle.kmod_query.specs.Answers.{Answer}
use Rattle.kmod_query.specs.Early.{are_plain, is_early, is_early_first, is_early_word, loads}
use Rattle.kmod_query.specs.Facts.{Facts}
use Rattle.kmod_query.specs.Loading.{is_resolve}
use Rattle.kmod_query.specs.Whole.{answer_by, whole_of}
use Rattle.kmod_query.specs.Paths.{own_of}
use Rattle.kmod_query.specs.World.{facts_of}
use Rattle.kmod_query.proofs.EarlyLemmas.{later-ignored, same-answer, same-facts}
use Rattle.kmod_query.proofs.SymbolLemmas.{symbols-ignored}
use Rattle.gz_modprobe_drive.specs.declared.texts.Machine.{Machine}
use Rattle.gz_modprobe_drive.specs.Answered.{IsAnswerOf, IsEarly, IsEnough, IsEnoughBy, Known, Manner, answer_for, known_by, known_of, manner_of, said_by, texts_of_folder}
use Rattle.gz_modprobe_drive.specs.Queries.{is_removal}
use Rattle.gz_modprobe_drive.specs.Texts.{AreRead, Large, conf_of, large_texts, or_empty, texts_with}

-- worlds that have the same are answered the same
early_too : (known : Known) (query : Query) (own : World) → known_of own ≡ known → IsEarly known query → is_early (facts_of own) query (texts_of query.words.now) ≡ true
early_too known query own has early =
    let both : known_of own ≡ known_of early.world = has ∙ sym early.has in
    ap (λ facts. is_early facts query (texts_of query.words.now))
    (same-facts own early.world (ap (λ (k : Known). k.conf) both) (ap (λ (k : Known). k.index) both) (ap (λ (k : Known). k.states) both) (ap (λ (k : Known). k.directory) both)
    (ap (λ (k : Known). k.paths) both) (ap (λ (k : Known). k.own) both))
    ∙ early.is

-- the parts of what worlds have that do not depend on large texts
record SameBut (own world : World) : Type 0 where
  conf : own.conf.now ≡ world.conf.now
  states : own.states.now ≡ world.states.now
  directory : own.directory.now ≡ world.directory.now
  paths : own.paths.now ≡ world.paths.now
  file : own_of own.own ≡ own_of world.own
  dependencies : own.index.now.dependencies ≡ world.index.now.dependencies
  builtin_names : own.index.now.builtin_names ≡ world.index.now.builtin_names
  builtin_aliases : own.index.now.builtin_aliases ≡ world.index.now.builtin_aliases

same_but : (machine : Machine) (own world : World) (large : Large) (whole : Texts) → known_of own ≡ said_by machine (texts_with machine.modules.now large)
    → known_of world ≡ said_by machine whole → AreRead machine.modules.now large whole → SameBut own world
unfolding said_by indexes_of
same_but machine own world large whole has knows read = record {
  conf = ap (λ (k : Known). k.conf) has ∙ sym (ap (λ (k : Known). k.conf) knows);
  states = ap (λ (k : Known). k.states) has ∙ sym (ap (λ (k : Known). k.states) knows);
  directory = ap (λ (k : Known). k.directory) has ∙ sym (ap (λ (k : Known). k.directory) knows);
  paths = ap (λ (k : Known). k.paths) has ∙ sym (ap (λ (k : Known). k.paths) knows);
  file = ap (λ (k : Known). k.own) has ∙ sym (ap (λ (k : Known). k.own) knows);
  dependencies = ap (λ (k : Known). k.index.dependencies) has ∙ sym (ap dependencies_of read.dep) ∙ sym (ap (λ (k : Known). k.index.dependencies) knows);
  builtin_names = ap (λ (k : Known). k.index.builtin_names) has ∙ sym (ap builtin_names read.builtin) ∙ sym (ap (λ (k : Known). k.index.builtin_names) knows);
  builtin_aliases = ap (λ (k : Known). k.index.builtin_aliases) has ∙ sym (ap builtin_aliases read.builtin_modinfo) ∙ sym (ap (λ (k : Known). k.index.builtin_aliases) knows);
}

same_aliases : (machine : Machine) (own world : World) (large : Large) (whole : Texts) → known_of own ≡ said_by machine (texts_with machine.modules.now large)
    → known_of world ≡ said_by machine whole → whole.alias ≡ or_empty large.alias → own.index.now.aliases ≡ world.index.now.aliases
unfolding said_by indexes_of
same_aliases machine own world large whole has knows is =
    ap (λ (k : Known). k.index.aliases) has ∙ sym (ap aliases_of is) ∙ sym (ap (λ (k : Known). k.index.aliases) knows)

same_index : (machine : Machine) (own world : World) (large : Large) (whole : Texts) → known_of own ≡ said_by machine (texts_with machine.modules.now large)
    → known_of world ≡ said_by machine whole → AreRead machine.modules.now large whole → whole.alias ≡ or_empty large.alias → whole.symbols ≡ or_empty large.symbols
    → own.index.now ≡ world.index.now
unfolding said_by indexes_of
same_index machine own world large whole has knows read alias symbols =
    ap (λ (k : Known). k.index) has ∙ same ∙ sym (ap (λ (k : Known). k.index) knows)
  where
    same : indexes_of (texts_with machine.modules.now large) ≡ indexes_of whole
    same = rw (read.dep, read.builtin, read.builtin_modinfo, alias, symbols) refl

whole_same : (machine : Machine) (query : Query) (own world : World) (whole : Texts) (alias symbols : Option (List ℕ))
    → known_of own ≡ said_by machine (texts_of_folder machine) → known_of own ≡ said_by machine (texts_with machine.modules.now (record { alias = alias; symbols = symbols }))
    → known_of world ≡ said_by machine whole → AreRead machine.modules.now (record { alias = alias; symbols = symbols }) whole
    → IsEnoughBy alias symbols machine query → answer_of own query ≡ answer_of world query
whole_same machine query own world whole None symbols all has knows read enough =
    let same = same_but machine own world (record { alias = None; symbols = symbols }) whole has knows read in
    later-ignored own world query (early_too (said_by machine (texts_of_folder machine)) query own all enough)
    same.conf same.states same.directory same.paths same.file same.dependencies same.builtin_names same.builtin_aliases
whole_same machine query own world whole (Some alias) None all has knows read enough =
    let same = same_but machine own world (record { alias = Some alias; symbols = None }) whole has knows read in
    symbols-ignored own world query enough
    same.conf same.states same.directory same.paths same.file same.dependencies (same_aliases machine own world (record { alias = Some alias; symbols = None }) whole has knows read.alias)
    same.builtin_names same.builtin_aliases
whole_same machine query own world whole (Some alias) (Some symbols) all has knows read enough =
    let same = same_but machine own world (record { alias = Some alias; symbols = Some symbols }) whole has knows read in
    same-answer own world query same.conf (same_index machine own world (record { alias = Some alias; symbols = Some symbols }) whole has knows read read.alias read.symbols)
    same.states same.directory same.paths same.file

front-true : (a b : Bool) → (a && b) ≡ true → a ≡ true
front-true true b h = refl
front-true false b h = h

loads-nothing : (ask : Ask) → is_removal ask ≡ true → loads ask ≡ true → ⊥
loads-nothing asks.ShowDepends h g = true≢false (sym h)
loads-nothing asks.DryRun h g = true≢false (sym h)
loads-nothing asks.Resolve h g = true≢false (sym h)
loads-nothing asks.Remove h g = true≢false (sym g)
loads-nothing asks.ShowRemoval h g = true≢false (sym g)
loads-nothing asks.ShowConfig h g = true≢false (sym h)

resolves-nothing : (ask : Ask) → is_removal ask ≡ true → is_resolve ask ≡ true → ⊥
resolves-nothing asks.ShowDepends h g = true≢false (sym h)
resolves-nothing asks.DryRun h g = true≢false (sym h)
resolves-nothing asks.Resolve h g = true≢false (sym h)
resolves-nothing asks.Remove h g = true≢false (sym g)
resolves-nothing asks.ShowRemoval h g = true≢false (sym g)
resolves-nothing asks.ShowConfig h g = true≢false (sym h)

-- for a removal all texts were read, so that worlds that have them have the same facts
removal-facts : (machine : Machine) (query : Query) (own world : World) (whole : Texts) (alias symbols : Option (List ℕ))
    → known_of own ≡ said_by machine (texts_of_folder machine) → known_of own ≡ said_by machine (texts_with machine.modules.now (record { alias = alias; symbols = symbols }))
    → known_of world ≡ said_by machine whole → AreRead machine.modules.now (record { alias = alias; symbols = symbols }) whole
    → IsEnoughBy alias symbols machine query → is_removal query.ask ≡ true → facts_of own ≡ facts_of world
removal-facts machine query own world whole None symbols all has knows read enough removes =
    absurd (loads-nothing query.ask removes (front-true (loads query.ask) (cond query.all (list_all (is_early_word (facts_of own)) (texts_of query.words.now)) (is_early_first (facts_of own) (texts_of query.words.now))) (early_too (said_by machine (texts_of_folder machine)) query own all enough)))
removal-facts machine query own world whole (Some alias) None all has knows read enough removes =
    absurd (resolves-nothing query.ask removes (front-true (is_resolve query.ask) (are_plain query (texts_of query.words.now)) enough))
removal-facts machine query own world whole (Some alias) (Some symbols) all has knows read enough removes =
    let same = same_but machine own world (record { alias = Some alias; symbols = Some symbols }) whole has knows read in
    same-facts own world same.conf (same_index machine own world (record { alias = Some alias; symbols = Some symbols }) whole has knows read read.alias read.symbols)
    same.states same.directory same.paths same.file

back-true : (a b : Bool) → (a && b) ≡ true → b ≡ true
back-true true b h = h
back-true false b h = absurd (true≢false (sym h))

-- what a removal answers that is made
abbrev made : Manner → Query → Facts → Answer
made manner query facts = answer_by query (whole_of facts manner.holders query (texts_of query.words.now))

-- in either manner the answer is the same
manner_same : (machine : Machine) (query : Query) (own world : World) (whole : Texts) (alias symbols : Option (List ℕ))
    → known_of own ≡ said_by machine (texts_of_folder machine) → known_of own ≡ said_by machine (texts_with machine.modules.now (record { alias = alias; symbols = symbols }))
    → known_of world ≡ said_by machine whole → AreRead machine.modules.now (record { alias = alias; symbols = symbols }) whole
    → IsEnoughBy alias symbols machine query → (manner : Manner) → answer_for manner own query ≡ answer_for manner world query
manner_same machine query own world whole alias symbols all has knows read enough manner =
    by (manner.whole && is_removal query.ask) refl
  where
    by : (b : Bool) → (manner.whole && is_removal query.ask) ≡ b → cond b (made manner query (facts_of own)) (answer_of own query) ≡ cond b (made manner query (facts_of world)) (answer_of world query)
    by true e = ap (made manner query) (removal-facts machine query own world whole alias symbols all has knows read enough (back-true manner.whole (is_removal query.ask) e))
    by false e = whole_same machine query own world whole alias symbols all has knows read enough

-- the same world with another index
abbrev with_index : World → Indexes → World
with_index own index = record own { index = record own.index { now = index } }

pub answer_whole : (machine : Machine) (query : Query) (answer : Answer) (own : World) → known_of own ≡ said_by machine (texts_of_folder machine)
    → answer ≡ answer_for (manner_of machine) own query → IsEnough machine query → IsAnswerOf machine query answer
unfolding said_by
answer_whole machine query answer own has is enough = record {
  is = λ whole read.
      let knows : known_of (with_index own (indexes_of whole)) ≡ said_by machine whole = ap (λ (k : Known). record k { index = indexes_of whole }) has in
      record {
        world = with_index own (indexes_of whole);
        has = knows;
        is = is
            ∙ manner_same machine query own (with_index own (indexes_of whole)) whole (large_texts machine.later.now).alias (large_texts machine.later.now).symbols has has knows read enough.is (manner_of machine);
      };
}

pub known_same : (machine : Machine) (conf : Configuration) (index : Indexes) → conf ≡ conf_of machine.conf.now → index ≡ indexes_of (texts_of_folder machine)
    → known_by conf index machine.states.now machine.directory.now machine.paths.now ≡ said_by machine (texts_of_folder machine)
unfolding said_by
known_same machine conf index is has = ap (λ c. known_by c index machine.states.now machine.directory.now machine.paths.now) is ∙ ap (λ i. known_by (conf_of machine.conf.now) i machine.states.now machine.directory.now machine.paths.now) has
