use Rattle.std.proofs.Common.{◌≡◌, false, rules}
use Rattle.std.proofs.lemmas.Result.{IfOk-weaker}
use Rattle.modprobe_files.specs.Chosen.{IsPrinted, is_whole}
use Rattle.modprobe_files.proofs.ChosenLemmas.{printed-at-root}
use Rattle.modprobe_files.proofs.machine.absolute_path.Goals as goal

pub returns-in_default : goal.returns-in_default
returns-in_default g c =
    let part : is_whole c.args.path.now ≡ false = search rules in
    IfOk-weaker c.joined-in_default.result _ (λ printed. IsPrinted (g.S.System.is_rooted c.args.host.now.system.now) c.args.path.now printed.items)
    (λ printed is. printed-at-root (g.S.System.is_rooted c.args.host.now.system.now) c.args.path.now printed.items part is)
    c.joined-in_default.ensures
