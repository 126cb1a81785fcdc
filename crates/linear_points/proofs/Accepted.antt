-- A run that is accepted, computed.
use Rattle.std.specs.Prelude.{List, [], ◌∷◌, false, refl}
use Rattle.dep_index.specs.declared.table.calls.Call.TheVariants.{InUse as Query}
use Rattle.dep_index.specs.Table.{Module}
use Rattle.step_core.specs.declared.steps.Step.TheVariants.{Invoke, Go}
use Rattle.step_core.specs.Machine.{start}
use Rattle.step_core.specs.Run.{IsAccepted}

abbrev one : List Module
one = record { needs = []; unknown_symbol = false; permanent = false } ∷ []

accepted_query : IsAccepted one (start one 1 1 3) (Invoke 0 (Query 0) ∷ Go 0 ∷ Go 0 ∷ [])
accepted_query = (refl, (refl, (refl, tt)))
