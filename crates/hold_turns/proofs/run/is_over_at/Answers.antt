use Rattle.std.proofs.Common.{◌≡◌, ◌∙◌, sym, subst, true}
use Rattle.hold_turns.specs.declared.call.Call.{Call}
use Rattle.std.proofs.lemmas.List.{get_or_default}
use Rattle.hold_turns.specs.Rule.{is_over}
use Rattle.hold_turns.proofs.run.is_over_at.Goals as goal

pub bounds-calls-number : goal.bounds-calls-number
bounds-calls-number c = c.requires

pub returns : goal.returns
returns c = λ yes none. subst (λ (k : Call). is_over k.state ≡ true) (c.index-calls-number.is ∙ get_or_default c.args.calls.now c.args.number c.index-calls-number.result none c.requires) (sym c.is_over.ensures ∙ yes)
