use Rattle.std.proofs.Common.{rules, ◌≡◌, false, get_or}
use Rattle.hold_machine.specs.Kernel.{events_of}
use Rattle.hold_machine.proofs.KernelLemmas.{shown, not_shown}
use Rattle.hold_machine.proofs.kernel.Kernel.has.Goals as goal

pub returns-clause-there : goal.returns-clause-there
returns-clause-there c =
    let is : c.unwrap_or.result ≡ get_or c.self.inside.has.items c.args.slot false = search rules in
    shown c.self.inside.has.items (events_of c.self.inside.notes) c.args.self.now c.args.slot c.unwrap_or.result c.self.invariant c.self.view_is is

pub returns-clause-not : goal.returns-clause-not
returns-clause-not c =
    let is : c.unwrap_or.result ≡ get_or c.self.inside.has.items c.args.slot false = search rules in
    not_shown c.self.inside.has.items (events_of c.self.inside.notes) c.args.self.now c.args.slot c.unwrap_or.result c.self.invariant c.self.view_is is
