-- The graph of a catalogue has no slot outside.
use Rattle.std.proofs.Common.{◌≡◌, ℕ, zero, suc, ◌+◌, ◌<◌, arith, nat_lt, nat_eq, Bool, true, false, cond, ◌&&◌, ◌||◌, List, [], ◌∷◌, ◌++◌, map, length, get_or, Option, Some, None, refl, sym, ◌∙◌, ap}
use Rattle.std.specs.Prelude.{◌==◌}
use Rattle.std.specs.List.{list_all, list_any, position}
use Rattle.std.proofs.lemmas.List.Quantifiers.{position-Some}
use Rattle.std.specs.Str.{bytes_eq}
use Rattle.dep_index.specs.Catalogue.{Description, description_at, described, needs_of, needs_from, with_need, exporter, exports_symbol, slot_named}
use Rattle.dep_index.specs.Dependencies.{Pair, deps}
use Rattle.modprobe_conf.specs.Configuration.{Configuration, softdep_of}
use Rattle.load_plan.specs.declared.sources.Sources.{Sources}
use Rattle.load_plan.specs.declared.graph.Target.TheVariants.{Slot}
use Rattle.load_plan.specs.Graph.{Node, is_within, names_within, is_bounded, node_at}
use Rattle.load_plan.specs.Sources.{target_at, target_of, hard_of, pre_of, post_of, node_of, nodes_from, graph_of, node_from, graph_from}
use Rattle.load_plan.proofs.Lists.{and_true, and_makes, all-append}
use Rattle.load_plan.proofs.Clean.{lt-makes}

-- a place in a list is below its length
place_below : {A : Type 0} (p : A → Bool) (xs : List A) (d : A) (i : ℕ) → position p xs ≡ Some i → nat_lt i (length xs) ≡ true
place_below p xs d i h = lt-makes i (length xs) (position-Some p xs i d h).0

target_within : (catalogue : List Description) (name : List ℕ) → is_within (length catalogue) (target_of catalogue name) ≡ true
target_within catalogue name = at (slot_named catalogue name) refl
  where
    at : (o : Option ℕ) → slot_named catalogue name ≡ o → is_within (length catalogue) (target_at name o) ≡ true
    at None e = refl
    at (Some m) e = place_below (λ m. bytes_eq name m.name) catalogue (described []) m e

targets_within : (catalogue : List Description) (names : List (List ℕ)) → list_all (is_within (length catalogue)) (map (target_of catalogue) names) ≡ true
targets_within catalogue [] = refl
targets_within catalogue (name ∷ names) = and_makes (is_within (length catalogue) (target_of catalogue name)) (list_all (is_within (length catalogue)) (map (target_of catalogue) names)) (target_within catalogue name) (targets_within catalogue names)

-- the needs of a slot are slots
abbrev Below : ℕ → List ℕ → Type 0
Below n ms = list_all (λ k. nat_lt k n) ms ≡ true

either_below : (n : ℕ) (b : Bool) (xs ys : List ℕ) → Below n xs → Below n ys → Below n (cond b xs ys)
either_below n true xs ys h k = h
either_below n false xs ys h k = k

need_below : (modules : List Description) (m : ℕ) (found : List ℕ) (symbol : List ℕ) → Below (length modules) found → Below (length modules) (with_need m found (exporter modules symbol))
need_below modules m found symbol h = at (exporter modules symbol) refl
  where
    at : (o : Option ℕ) → exporter modules symbol ≡ o → Below (length modules) (with_need m found o)
    at None e = h
    at (Some k) e =
        either_below (length modules) (k == m || list_any (nat_eq k) found) found (found ++ k ∷ []) h
        (all-append (λ x. nat_lt x (length modules)) found (k ∷ []) h (and_makes (nat_lt k (length modules)) true (place_below (exports_symbol symbol) modules (described []) k e) refl))

needs_below : (modules : List Description) (m : ℕ) (symbols : List (List ℕ)) (found : List ℕ) → Below (length modules) found → Below (length modules) (needs_from modules m found symbols)
needs_below modules m [] found h = h
needs_below modules m (s ∷ ss) found h = needs_below modules m ss (with_need m found (exporter modules s)) (need_below modules m found s h)

slots_within : (n : ℕ) (ms : List ℕ) → Below n ms → list_all (is_within n) (map Slot ms) ≡ true
slots_within n [] h = refl
slots_within n (m ∷ ms) h =
    let p : (nat_lt m n ≡ true) × (list_all (λ k. nat_lt k n) ms ≡ true) = and_true (nat_lt m n) (list_all (λ k. nat_lt k n) ms) h in
    and_makes (nat_lt m n) (list_all (is_within n) (map Slot ms)) p.0 (slots_within n ms p.1)

hard_within : (catalogue : List Description) (m : ℕ) (o : Option (List (List ℕ))) → list_all (is_within (length catalogue)) (hard_of catalogue m o) ≡ true
hard_within catalogue m (Some names) = targets_within catalogue names
hard_within catalogue m None = slots_within (length catalogue) (needs_of catalogue m) (needs_below catalogue m (description_at catalogue m).needed_symbols [] refl)

node_within : (catalogue : List Description) (dependencies : List Pair) (configuration : Configuration) (m : ℕ) (d : Description) → names_within (length catalogue) (node_of catalogue dependencies configuration m d) ≡ true
node_within catalogue dependencies configuration m d =
    let n : ℕ = length catalogue in
    let x : Node = node_of catalogue dependencies configuration m d in
    and_makes (list_all (is_within n) x.hard && list_all (is_within n) x.pre) (list_all (is_within n) x.post)
    (and_makes (list_all (is_within n) x.hard) (list_all (is_within n) x.pre) (hard_within catalogue m (deps dependencies d.name)) (targets_within catalogue (pre_of d (softdep_of configuration d.name))))
    (targets_within catalogue (post_of (softdep_of configuration d.name)))

nodes_within : (catalogue : List Description) (dependencies : List Pair) (configuration : Configuration) (m : ℕ) (ds : List Description) → list_all (names_within (length catalogue)) (nodes_from catalogue dependencies configuration m ds) ≡ true
nodes_within catalogue dependencies configuration m [] = refl
nodes_within catalogue dependencies configuration m (d ∷ ds) =
    and_makes (names_within (length catalogue) (node_of catalogue dependencies configuration m d)) (list_all (names_within (length catalogue)) (nodes_from catalogue dependencies configuration (suc m) ds)) (node_within catalogue dependencies configuration m d) (nodes_within catalogue dependencies configuration (suc m) ds)

length-nodes_from : (catalogue : List Description) (dependencies : List Pair) (configuration : Configuration) (m : ℕ) (ds : List Description) → length (nodes_from catalogue dependencies configuration m ds) ≡ length ds
length-nodes_from catalogue dependencies configuration m [] = refl
length-nodes_from catalogue dependencies configuration m (d ∷ ds) = ap suc (length-nodes_from catalogue dependencies configuration (suc m) ds)

pub length-graph_of : (catalogue : List Description) (dependencies : List Pair) (configuration : Configuration) → length (graph_of catalogue dependencies configuration) ≡ length catalogue
length-graph_of catalogue dependencies configuration = length-nodes_from catalogue dependencies configuration 0 catalogue

pub graph_bounded : (catalogue : List Description) (dependencies : List Pair) (configuration : Configuration) → is_bounded (graph_of catalogue dependencies configuration) ≡ true
graph_bounded catalogue dependencies configuration =
    ap (λ n. list_all (names_within n) (graph_of catalogue dependencies configuration)) (length-graph_of catalogue dependencies configuration) ∙ nodes_within catalogue dependencies configuration 0 catalogue

-- the node of a slot
nodes_from-at : (catalogue : List Description) (dependencies : List Pair) (configuration : Configuration) (k : ℕ) (ds : List Description) (m : ℕ) → m < length ds → node_at (nodes_from catalogue dependencies configuration k ds) m ≡ node_of catalogue dependencies configuration (m + k) (get_or ds m (described []))
nodes_from-at catalogue dependencies configuration k [] m within = absurd (omega arith)
nodes_from-at catalogue dependencies configuration k (d ∷ ds) zero within = ap (λ j. node_of catalogue dependencies configuration j d) (none k)
  where
    none : (j : ℕ) → j ≡ zero + j
    none j = omega arith
nodes_from-at catalogue dependencies configuration k (d ∷ ds) (suc m) within =
    nodes_from-at catalogue dependencies configuration (suc k) ds m (omega arith)
    ∙ ap (λ j. node_of catalogue dependencies configuration j (get_or ds m (described []))) (turn m k)
  where
    turn : (a b : ℕ) → a + suc b ≡ suc a + b
    turn a b = omega arith

graph_of-at : (catalogue : List Description) (dependencies : List Pair) (configuration : Configuration) (m : ℕ) → m < length catalogue → node_of catalogue dependencies configuration m (description_at catalogue m) ≡ node_at (graph_of catalogue dependencies configuration) m
graph_of-at catalogue dependencies configuration m within =
    ap (λ j. node_of catalogue dependencies configuration j (description_at catalogue m)) (more m)
    ∙ sym (nodes_from-at catalogue dependencies configuration 0 catalogue m within)
  where
    more : (j : ℕ) → j ≡ j + 0
    more j = omega arith

-- the same of what plans are made from
pub length-graph_from : (s : Sources) → length (graph_from s) ≡ length s.catalogue.now
length-graph_from s = length-graph_of s.catalogue.now s.dependencies.now s.configuration.now

pub node_from-within : (s : Sources) (slot : ℕ) → names_within (length s.catalogue.now) (node_from s slot) ≡ true
node_from-within s slot = node_within s.catalogue.now s.dependencies.now s.configuration.now slot (description_at s.catalogue.now slot)

pub graph_from-at : (s : Sources) (slot : ℕ) → slot < length s.catalogue.now → node_from s slot ≡ node_at (graph_from s) slot
graph_from-at s slot within = graph_of-at s.catalogue.now s.dependencies.now s.configuration.now slot within
