use Rattle.std.proofs.Common.{◌<◌, arith, refl}
use Rattle.kmod_query.specs.KeyOrder.{weights}
use Rattle.kmod_query.proofs.KeyOrderLemmas.{popped-alike, popped-weight, started-alike, started-shown}
use Rattle.kmod_query.proofs.key_order.push_index.Goals as goal

pub groups-init : goal.groups-init
groups-init c =
    record {
      shown = started-shown c.args.text.now.items c.new-groups.result.items c.push.new.self.items (record { lines = c.in_ok-references.field-0; depth = 0 }) c.args.all.now c.new-groups.ensures.items c.in_ok-push.ensures.items c.in_ok-references.ensures;
      alike = started-alike c.new-groups.result.items c.push.new.self.items (record { lines = c.in_ok-references.field-0; depth = 0 }) c.new-groups.ensures.items c.in_ok-push.ensures.items refl;
    }

pub push_group-requires : goal.push_group-requires
push_group-requires c = (popped-alike c.groups.groups.items c.pop.new.self.items c.in-Some.group c.in-Some.ensures.items c.groups.invariant.alike).1

pub groups-smaller : goal.groups-smaller
groups-smaller c =
    let less : weights c.push_group.new.groups.items < weights c.groups.groups.items =
    omega (arith, c.in_ok-push_group.ensures.lighter, popped-weight c.groups.groups.items c.pop.new.self.items c.in-Some.group c.in-Some.ensures.items) in
    less
