use Rattle.std.proofs.Common.{rules, ◌≡◌, filter}
use Rattle.std.proofs.lemmas.Fn.{filter_same}
use Rattle.program_frame.specs.Folders.{is_counted}
use Rattle.program_frame.proofs.folder.counted_names.Goals as goal

pub returns-clause-counted : goal.returns-clause-counted
returns-clause-counted c =
    let kept : c.retain.new.self.items ≡ filter is_counted c.args.names.items =
    filter_same _ _ _ (λ x b f' k. search rules) _ _ c.retain.ensures.filtered in
    rw (← kept) c.sort_unstable.ensures.permutation
