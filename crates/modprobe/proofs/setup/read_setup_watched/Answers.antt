use Rattle.std.proofs.Common.{◌≡◌, ◌∙◌, ap, sym, false, Ok}
use Rattle.std.proofs.lemmas.Bool.{true≢false}
use Rattle.std.proofs.lemmas.Result.{IfOk-weaker, IfErr-weaker}
use Rattle.modprobe.specs.declared.fault.SetupCode.TheVariants.{Turns}
use Rattle.modprobe.specs.declared.fault.SetupFault.{SetupFault}
use Rattle.modprobe.specs.Lines.{bytes_left, IfTold, IsPaid, StopsForTurns, line_of}
use Rattle.modprobe.specs.SetupInput.{setup_for, setup_of, GivesSetup, Refuses, SetupStops}
use Rattle.modprobe.specs.ForProofs.{RefusesTexts, StopsNowhere, is_turns_code, parts_of}
use Rattle.modprobe.proofs.SetupLemmas.{gives_setup, refuses_setup}
use Rattle.modprobe.proofs.setup.read_setup_watched.Goals as goal

pub returns-in-Ok-clause-setup : goal.returns-in-Ok-clause-setup
returns-in-Ok-clause-setup g c =
    let left = bytes_left g.R.Source.remaining in
    let parts = parts_of c.read_texts.new.texts in
    IfOk-weaker c.setup_for-setup.result (λ s. setup_for parts ≡ Ok s) (λ s. GivesSetup (left c.args.lines.now) (left c.read_texts.new.lines) s)
    (λ s is. gives_setup (left c.args.lines.now) (left c.read_texts.new.lines) parts s c.in-Ok.ensures.sections is) c.setup_for-setup.ensures.setup

pub returns-in-Ok-clause-refused : goal.returns-in-Ok-clause-refused
returns-in-Ok-clause-refused g c =
    let left = bytes_left g.R.Source.remaining in
    let parts = parts_of c.read_texts.new.texts in
    IfErr-weaker c.setup_for-setup.result (λ fault. RefusesTexts fault parts) (λ fault. IfTold (left c.args.lines.now) (λ input. Refuses fault (setup_of input)))
    (λ fault refused. refuses_setup (left c.args.lines.now) (left c.read_texts.new.lines) parts fault c.in-Ok.ensures.sections refused) c.setup_for-setup.ensures.refused

pub returns-in-Ok-clause-stops : goal.returns-in-Ok-clause-stops
returns-in-Ok-clause-stops g c =
    let after = c.read_texts.new.lines in
    let text = bytes_left g.R.Source.remaining c.args.lines.now in
    let ungiven = g.R.Source.remaining after.reader.now in
    IfErr-weaker c.setup_for-setup.result (λ (fault : SetupFault). StopsNowhere fault.code) (λ (fault : SetupFault). SetupStops fault.code text ungiven (line_of after))
    (λ fault nowhere. nowhere text ungiven (line_of after)) c.setup_for-setup.ensures.stops

pub returns-in-Ok-clause-turns : goal.returns-in-Ok-clause-turns
returns-in-Ok-clause-turns g c =
    IfErr-weaker c.setup_for-setup.result (λ (fault : SetupFault). is_turns_code fault.code ≡ false) (λ (fault : SetupFault). fault.code ≡ Turns → StopsForTurns g.R.Source.remaining c.args.lines.now c.read_texts.new.lines)
    (λ fault other is. absurd (true≢false (sym (ap is_turns_code is) ∙ other))) c.setup_for-setup.ensures.turns

pub returns-in-Ok-clause-paid : goal.returns-in-Ok-clause-paid
returns-in-Ok-clause-paid g c =
    IfOk-weaker c.setup_for-setup.result (λ s. setup_for (parts_of c.read_texts.new.texts) ≡ Ok s) (λ s. IsPaid g.R.Source.remaining c.args.lines.now c.read_texts.new.lines)
    (λ s is. c.in-Ok.ensures.paid) c.setup_for-setup.ensures.setup
