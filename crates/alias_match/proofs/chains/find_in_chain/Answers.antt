use Rattle.std.proofs.Common.{◌≡◌, ◌-◌, ◌<◌, ◌∙◌, ap, arith, length, rules, suc}
use Rattle.alias_match.specs.ForProofs.{place_of_end}
use Rattle.alias_match.proofs.Linked.{linked_end, linked_here, linked_less, linked_same, linked_within}
use Rattle.alias_match.proofs.chains.find_in_chain.Goals as goal

pub offset_bounds-entries-end : goal.offset_bounds-entries-end
offset_bounds-entries-end c =
    let within : c.chain.end - 1 < length c.args.entries.now = linked_within c.args.entries.now c.args.key c.chain.end (c.chain.end - 1) (omega (arith, c.chain-test.true)) c.chain.invariant.end in
    search rules

pub bounds-entries-end : goal.bounds-entries-end
bounds-entries-end c = linked_within c.args.entries.now c.args.key c.chain.end (c.chain.end - 1) (omega (arith, c.chain-test.true)) c.chain.invariant.end

pub returns-then-entry-key : goal.returns-then-entry-key
returns-then-entry-key c =
    linked_here c.args.entries.now c.args.key c.chain.end (c.chain.end - 1) (omega (arith, c.chain-test.true)) c.if-entry-key.true
    ∙ ap place_of_end c.chain.invariant.same

pub chain-smaller : goal.chain-smaller
chain-smaller c = linked_less c.args.entries.now c.args.key c.chain.end (c.chain.end - 1) (omega (arith, c.chain-test.true)) c.chain.invariant.end

pub chain-preserved : goal.chain-preserved
chain-preserved c =
    let more : c.chain.end ≡ suc (c.chain.end - 1) = omega (arith, c.chain-test.true) in
    record {
      end = linked_end c.args.entries.now c.args.key c.chain.end (c.chain.end - 1) more c.chain.invariant.end;
      same = linked_same c.args.entries.now c.args.key c.chain.end (c.chain.end - 1) more c.chain.invariant.end c.if-entry-key.false ∙ c.chain.invariant.same;
    }
