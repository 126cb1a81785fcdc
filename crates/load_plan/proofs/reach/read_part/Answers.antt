use Rattle.std.proofs.Common.{◌≡◌, ◌<◌, [], ◌∙◌, ap, arith, length, length-set, replicate, sym, true, false}
use Rattle.std.proofs.lemmas.List.{length-map, length-replicate}
use Rattle.load_plan.specs.Cuts.{node_in, nodes_in, no_row}
use Rattle.load_plan.specs.Graph.{is_within, names_within}
use Rattle.load_plan.specs.Parts.{IsPart, is_target_in, known_at}
use Rattle.load_plan.specs.Sources.{graph_from, node_from}
use Rattle.load_plan.proofs.Cuts.{nodes_in-none, none_fit, nodes_in-set, fit-set, if_not, plain-none, plain-set, passes-whole, whole-passes}
use Rattle.load_plan.proofs.OptionWords.{bare-none, bare-set}
use Rattle.load_plan.proofs.Lists.{none_of_length}
use Rattle.load_plan.proofs.Reaching.{Reaching-begin, Reaching-slot, Reaching-read, Reaching-part, Reaching-bounded, cost-falls}
use Rattle.load_plan.proofs.SourceLemmas.{graph_from-at, length-graph_from, node_from-within}
use Rattle.load_plan.proofs.reach.read_part.Goals as goal
use Rattle.load_plan.proofs.reach.read_part.Goals.{then-has_soft, else-has_soft}

pub modules-init : goal.modules-init
modules-init c =
    record {
      reaching = Reaching-begin (graph_from c.args.sources.now) (length c.args.sources.now.catalogue.now) (nodes_in c.new-targets.result.items c.in_ok-rows.rows) c.args.reach.known.items c.args.reach.left.items
          (sym (length-graph_from c.args.sources.now))
          (ap (nodes_in c.new-targets.result.items) (c.in_ok-rows.ensures ∙ ap (λ n. replicate n no_row) c.len-count.ensures.result_is) ∙ nodes_in-none c.new-targets.result.items (length c.args.sources.now.catalogue.now))
          c.requires;
      grows = λ m h. h;
      fit = rw (c.in_ok-rows.ensures) (none_fit (length c.new-targets.result.items) c.len-count.result);
      plain = λ _. rw (c.in_ok-rows.ensures) (plain-none c.new-targets.result.items c.len-count.result);
      bare = rw (c.in_ok-bare.ensures) (bare-none c.args.sources.now c.len-count.result);
      bare_long = ap length c.in_ok-bare.ensures ∙ length-replicate c.len-count.result false ∙ c.len-count.ensures.result_is;
    }

pub add_node-requires : goal.add_node-requires
add_node-requires c =
    let k = Reaching-slot c.pop.new.self.items c.in-Some.slot (rw c.in-Some.ensures.items at c.modules.invariant.reaching) in
    omega (arith, k, length-graph_from c.args.sources.now)

pub add_targets-requires : goal.add_targets-requires
add_targets-requires c =
    rw c.deref.ensures.value (whole-passes (is_within (length c.modules.reach.known.items)) c.in_ok-row.ensures.row
    (ap (λ n. names_within n (node_from c.args.sources.now c.in-Some.slot)) (c.modules.invariant.reaching.known_long ∙ length-graph_from c.args.sources.now)
    ∙ node_from-within c.args.sources.now c.in-Some.slot))

pub set-requires : goal.set-requires
set-requires c =
    let k = Reaching-slot c.pop.new.self.items c.in-Some.slot (rw c.in-Some.ensures.items at c.modules.invariant.reaching) in
    omega (arith, k, c.modules.invariant.reaching.long, length-map c.modules.rows (node_in c.modules.targets.items))

pub index_mut-requires : goal.index_mut-requires
index_mut-requires c =
    let k = Reaching-slot c.pop.new.self.items c.in-Some.slot (rw c.in-Some.ensures.items at c.modules.invariant.reaching) in
    omega (arith, k, length-graph_from c.args.sources.now, c.modules.invariant.bare_long, c.modules.bare.ok.0)

pub modules-preserved : goal.modules-preserved
modules-preserved c =
    let r = rw c.in-Some.ensures.items at c.modules.invariant.reaching in
    let long = length-graph_from c.args.sources.now in
    let k = Reaching-slot c.pop.new.self.items c.in-Some.slot r in
    let inside : c.in-Some.slot < length c.args.sources.now.catalogue.now = omega (arith, k, long) in
    let rows_long = length-map c.modules.rows (node_in c.modules.targets.items) in
    let of_rows : c.in-Some.slot < length c.modules.rows = omega (arith, k, c.modules.invariant.reaching.long, rows_long) in
    let of_bare : c.in-Some.slot < length c.modules.bare.items = omega (arith, inside, c.modules.invariant.bare_long) in
    let node = node_from c.args.sources.now c.in-Some.slot in
    record {
      reaching = rw (c.in_ok-set.ensures, nodes_in-set c.modules.rows c.in-Some.slot c.modules.invariant.fit c.in_ok-row.ensures.row)
          (Reaching-read c.pop.new.self.items c.in-Some.slot node r
          (graph_from-at c.args.sources.now c.in-Some.slot inside)
          (ap (λ n. names_within n node) long
          ∙ node_from-within c.args.sources.now c.in-Some.slot)
          c.in_ok-add_targets.ensures.adds
          (passes-whole (is_target_in (known_at c.add_targets.new.self.known.items)) c.in_ok-row.ensures.row (rw c.deref.ensures.value at c.in_ok-add_targets.ensures.all)));
      grows = λ m h. c.in_ok-add_targets.ensures.adds.grows m (c.modules.invariant.grows m h);
      fit = rw (c.in_ok-set.ensures) (fit-set c.modules.rows c.in-Some.slot of_rows c.modules.invariant.fit c.in_ok-row.ensures.row);
      plain = λ is. rw (c.in_ok-set.ensures) (elim c.if-has_soft.branch [
        | then-has_soft w ↦ absurd (let t : true ≡ false = sym (w.has_soft-is ∙ w.if-has_soft.true) ∙ is in cc)
        | else-has_soft w ↦ plain-set c.modules.rows c.in-Some.slot of_rows c.modules.invariant.fit c.in_ok-row.ensures.row (c.modules.invariant.plain w.if-has_soft.false)
            (sym (rw w.deref-else-has_soft.ensures.value at w.are_missing.ensures) ∙ if_not w.are_missing.result (sym w.has_soft-is ∙ is))
      ]);
      bare = bare-set c.args.sources.now c.modules.bare.items c.in-Some.slot c.in_ok-row.is_bare of_bare c.in_ok-row.ensures.bare c.modules.invariant.bare;
      bare_long = length-set c.modules.bare.items c.in-Some.slot c.in_ok-row.is_bare ∙ c.modules.invariant.bare_long;
    }

pub modules-smaller : goal.modules-smaller
modules-smaller c = rw c.in-Some.ensures.items (cost-falls c.pop.new.self.items c.in-Some.slot c.in_ok-add_targets.ensures.adds)

pub new-graph-requires : goal.new-graph-requires
new-graph-requires c = record { are_rows = record { bounded = Reaching-bounded c.modules.invariant.reaching; fit = c.modules.invariant.fit }; plain = c.modules.invariant.plain }

pub returns-clause-read : goal.returns-clause-read
returns-clause-read c =
    let w = graph_from c.args.sources.now in
    let over : c.modules.reach.left.items ≡ [] = none_of_length c.modules.reach.left.items (omega (arith, c.in_default.ensures.cases.0, c.modules.reach.left.ok.0)) in
    let part : IsPart w (nodes_in c.modules.targets.items c.modules.rows) (known_at c.modules.reach.known.items) = Reaching-part (rw over at c.modules.invariant.reaching) in
    record {
      graph = rw c.new-graph.ensures part;
      long = c.modules.invariant.reaching.known_long ∙ length-graph_from c.args.sources.now;
      wide = ap length c.new-graph.ensures ∙ c.modules.invariant.reaching.long ∙ length-graph_from c.args.sources.now;
      bare = c.modules.invariant.bare;
    }

pub returns-clause-known : goal.returns-clause-known
returns-clause-known c = c.modules.invariant.grows
