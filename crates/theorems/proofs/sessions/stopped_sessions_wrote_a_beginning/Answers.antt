use Rattle.std.proofs.lemmas.Result.{IfErr-weaker}
use Rattle.modprobe.specs.Lines.{IfTold}
use Rattle.modprobe.specs.Serve.{ServeStands}
use Rattle.theorems.specs.Sessions.{WritesBeginning}
use Rattle.theorems.proofs.Beginning.{stands_begins}
use Rattle.theorems.proofs.sessions.stopped_sessions_wrote_a_beginning.Goals as goal

pub returns-clause-beginning : goal.returns-clause-beginning
returns-clause-beginning g c =
    let told = g.R.Source.remaining c.args.reader.now in
    let left = g.R.Source.remaining c.sessions_are_functions_of_their_input.new.reader in
    let held = g.W.Sink.contents c.args.writer.now in
    let wrote = g.W.Sink.contents c.sessions_are_functions_of_their_input.new.writer in
    IfErr-weaker _ (λ fault. ServeStands c.args.workers fault told left held wrote) (λ fault. IfTold told (λ input. WritesBeginning c.args.workers input held wrote))
    (λ fault. stands_begins c.args.workers told left held wrote fault) c.sessions_are_functions_of_their_input.ensures.stands
