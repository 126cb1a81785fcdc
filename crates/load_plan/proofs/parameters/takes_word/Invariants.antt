use Rattle.std.proofs.Common.{◌≡◌, drop}
use Rattle.std.specs.Option.{option_map}
use Rattle.text_parts.specs.Text.{normal_form}
use Rattle.load_plan.specs.Parameters.{takes_named}
use Rattle.load_plan.proofs.parameters.takes_word.Given as goal

abbrev pub invariant-loop-param : goal.invariant-loop-param
invariant-loop-param l = takes_named (drop l.param-index l.params) (normal_form l.name) (option_map (λ bytes. bytes.now) l.value) ≡ takes_named l.params (normal_form l.name) (option_map (λ bytes. bytes.now) l.value)
