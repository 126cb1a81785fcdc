-- What a call answered, against what a definition gives.
use Rattle.std.specs.Prelude.{◌≡◌, ◌<◌, ℕ, Result, Ok, Err}
use Rattle.load_plan.specs.declared.refusal.PlanRefusal.{PlanRefusal}
use Rattle.load_plan.specs.declared.refusal.PlanRefusal.TheVariants.{Cycle, Install, Unknown}
use Rattle.load_plan.specs.declared.refusal.WalkError.{WalkError}
use Rattle.load_plan.specs.declared.refusal.WalkError.TheVariants.{Refused, Memory}

abbrev pub StopsAs : {A : Type 0} → WalkError → Result A PlanRefusal → Type 0
StopsAs Memory given = Unit {0}
StopsAs (Refused refusal) given = given ≡ Err refusal

-- the answer is what the definition gives, unless memory ran out
abbrev pub Gives : {X A : Type 0} → (X → A) → Result X WalkError → Result A PlanRefusal → Type 0
Gives view (Ok x) given = given ≡ Ok (view x)
Gives view (Err e) given = StopsAs e given

-- the module of a refusal is one of the graph
abbrev pub IsRefusalWithin : ℕ → WalkError → Type 0
IsRefusalWithin n Memory = Unit {0}
IsRefusalWithin n (Refused (Cycle m)) = m < n
IsRefusalWithin n (Refused (Install m)) = m < n
IsRefusalWithin n (Refused (Unknown name)) = Unit {0}
