use Rattle.std.proofs.Common.{rules}
use Rattle.dep_index.specs.Catalogue.{modules_of}
use Rattle.linear_points.proofs.Found.{found_linear, found_safe}
use Rattle.linear_points.proofs.linear.points.Goals as goal

pub returns-clause-linearization : goal.returns-clause-linearization
returns-clause-linearization c =
    found_linear (modules_of c.args.catalogue.now) c.args.workers c.args.threads c.args.steps.now c.in_ok-events.events.items c.in_ok-points_among.field-0.items
    c.requires c.in_ok-events.ensures.run c.in_ok-events.ensures.told (search rules)

pub returns-clause-safe : goal.returns-clause-safe
returns-clause-safe c =
    found_safe c.legal_is_safe.ensures (modules_of c.args.catalogue.now) c.args.workers c.args.threads c.args.steps.now c.in_ok-points_among.field-0.items
    (found_linear (modules_of c.args.catalogue.now) c.args.workers c.args.threads c.args.steps.now c.in_ok-events.events.items c.in_ok-points_among.field-0.items
    c.requires c.in_ok-events.ensures.run c.in_ok-events.ensures.told (search rules))
