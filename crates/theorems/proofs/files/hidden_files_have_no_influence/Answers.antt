use Rattle.std.proofs.Common.{◌∙◌, ap, sym}
use Rattle.modprobe_files.specs.Files.{counted_files}
use Rattle.theorems.proofs.files.hidden_files_have_no_influence.Goals as goal

pub returns-clause-same : goal.returns-clause-same
returns-clause-same c =
    let more = c.requires in
    c.in_ok-first.ensures
    ∙ ap (counted_files c.args.kmod) more.has_it
    ∙ c.hidden_files_do_not_count.ensures.name c.args.kmod more.before more.after more.path more.name more.names more.later more.hidden
    ∙ sym (ap (counted_files c.args.kmod) more.has_not)
    ∙ sym c.in_ok-second.ensures
