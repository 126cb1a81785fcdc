use Rattle.kmod_query.specs.Stacks.{IsSoft}
use Rattle.kmod_query.specs.World.{facts_of}
use Rattle.kmod_query.proofs.SoftLemmas.{each_found, found_soft, soft_sides}
use Rattle.kmod_query.proofs.TextLemmas.{IfOk-map}
use Rattle.kmod_query.proofs.soft_lists.SoftLists.item.Goals as goal

pub returns-in-Some-clause-item : goal.returns-in-Some-clause-item
returns-in-Some-clause-item c =
    let facts = facts_of c.args.world.now in
    IfOk-map c.copy_of.result
    (λ found h known. found_soft facts c.args.name.now c.in-Some.items.now c.args.place c.args.index found
    (each_found (IsSoft facts) c.args.self.now.lists.entries c.args.name.now c.in-Some.items.now known c.in-Some.ensures.value) h)
    c.copy_of.ensures

pub returns-clause-lists : goal.returns-clause-lists
returns-clause-lists c known =
    let facts = facts_of c.args.world.now in
    c.in_ok-keep.ensures facts (soft_sides facts c.args.name.now c.in_ok-items.items c.in_ok-items.ensures.before c.in_ok-items.ensures.after) known
