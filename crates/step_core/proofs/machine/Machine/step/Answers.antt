use Rattle.std.proofs.Common.{rules, ◌≡◌, length, None, subst}
use Rattle.step_core.specs.Machine.{step as step_of, step_refusal, Running}
use Rattle.step_core.specs.StepLaw.{StepLaw}
use Rattle.step_core.specs.Sound.{IsSound}
use Rattle.step_core.proofs.Premises.{sound_after_step, shown_after_step}
use Rattle.step_core.proofs.machine.Machine.step.Goals as goal

pub invariant_of-self : goal.invariant_of-self
invariant_of-self c =
    let allowed : step_refusal c.self.inside.slots c.self.inside.state c.args.step ≡ None = search rules in
    let is : c.invoke-event.new.self ≡ (step_of c.self.inside.slots c.self.inside.state c.args.step).1 = search rules in
    sound_after_step c.self.inside.slots c.self.inside.state c.invoke-event.new.self c.args.step c.self.invariant allowed is

pub invariant_of-self-in-Go : goal.invariant_of-self-in-Go
invariant_of-self-in-Go c =
    let allowed : step_refusal c.self.inside.slots c.self.inside.state c.args.step ≡ None = search rules in
    let is : c.go-event.new.self ≡ (step_of c.self.inside.slots c.self.inside.state c.args.step).1 = search rules in
    sound_after_step c.self.inside.slots c.self.inside.state c.go-event.new.self c.args.step c.self.invariant allowed is

pub returns-in-Invoke-clause-shows : goal.returns-in-Invoke-clause-shows
returns-in-Invoke-clause-shows c =
    let allowed : step_refusal c.self.inside.slots c.self.inside.state c.args.step ≡ None = search rules in
    let event : c.invoke-event.result ≡ (step_of c.self.inside.slots c.self.inside.state c.args.step).0 = search rules in
    let is : c.invoke-event.new.self ≡ (step_of c.self.inside.slots c.self.inside.state c.args.step).1 = search rules in
    subst (λ (r : Running). StepLaw r.catalogue r.state c.args.step c.invoke-event.result c.invoke-event.new.self) c.self.view_is
    (shown_after_step c.self.inside.slots c.self.inside.state c.invoke-event.new.self c.args.step c.invoke-event.result c.self.invariant allowed event is)

pub returns-in-Invoke-clause-words : goal.returns-in-Invoke-clause-words
returns-in-Invoke-clause-words c =
    let allowed : step_refusal c.self.inside.slots c.self.inside.state c.args.step ≡ None = search rules in
    let is : c.invoke-event.new.self ≡ (step_of c.self.inside.slots c.self.inside.state c.args.step).1 = search rules in
    let sound : IsSound c.self.inside.slots (length c.invoke-event.new.self.written.rows) c.invoke-event.new.self = sound_after_step c.self.inside.slots c.self.inside.state c.invoke-event.new.self c.args.step c.self.invariant allowed is in
    λ m h. sound.word m h

pub returns-in-Go-clause-shows : goal.returns-in-Go-clause-shows
returns-in-Go-clause-shows c =
    let allowed : step_refusal c.self.inside.slots c.self.inside.state c.args.step ≡ None = search rules in
    let event : c.go-event.result ≡ (step_of c.self.inside.slots c.self.inside.state c.args.step).0 = search rules in
    let is : c.go-event.new.self ≡ (step_of c.self.inside.slots c.self.inside.state c.args.step).1 = search rules in
    subst (λ (r : Running). StepLaw r.catalogue r.state c.args.step c.go-event.result c.go-event.new.self) c.self.view_is
    (shown_after_step c.self.inside.slots c.self.inside.state c.go-event.new.self c.args.step c.go-event.result c.self.invariant allowed event is)

pub returns-in-Go-clause-words : goal.returns-in-Go-clause-words
returns-in-Go-clause-words c =
    let allowed : step_refusal c.self.inside.slots c.self.inside.state c.args.step ≡ None = search rules in
    let is : c.go-event.new.self ≡ (step_of c.self.inside.slots c.self.inside.state c.args.step).1 = search rules in
    let sound : IsSound c.self.inside.slots (length c.go-event.new.self.written.rows) c.go-event.new.self = sound_after_step c.self.inside.slots c.self.inside.state c.go-event.new.self c.args.step c.self.invariant allowed is in
    λ m h. sound.word m h
