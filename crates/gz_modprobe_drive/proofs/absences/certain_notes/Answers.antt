use Rattle.std.proofs.Common.{rules, tests, ◌≡◌, filter}
use Rattle.std.proofs.lemmas.Fn.{filter_same}
use Rattle.gz_modprobe_drive.specs.Absences.{is_certain}
use Rattle.gz_modprobe_drive.proofs.TreeLemmas.{kept-certain}
use Rattle.gz_modprobe_drive.proofs.absences.certain_notes.Goals as goal

pub returns-then-not-is_whole : goal.returns-then-not-is_whole
returns-then-not-is_whole c =
    let kept : c.retain.new.self.items ≡ filter is_certain c.args.notes.items =
    filter_same _ _ _ (λ x b f' k. search (rules, tests)) _ _ c.retain.ensures.filtered in
    kept-certain c.args.is_whole c.args.notes.items _ (search (rules, tests)) kept
