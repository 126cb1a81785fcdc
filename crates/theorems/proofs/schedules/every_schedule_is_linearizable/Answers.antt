use Rattle.theorems.proofs.Linear.{if_ok-map, takes_effect_once}
use Rattle.theorems.proofs.schedules.every_schedule_is_linearizable.Goals as goal

pub returns-clause-once : goal.returns-clause-once
returns-clause-once c = if_ok-map c.points.result _ _ (λ p linear. takes_effect_once _ _ _ _ p.items linear) c.points.ensures.linearization
