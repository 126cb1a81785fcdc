use Rattle.std.proofs.Common.{◌∙◌, ◌++◌, ap, List, ℕ}
use Rattle.proc_modules.proofs.ListingLemmas.{names_step}
use Rattle.proc_modules.proofs.columns.push_names.Goals as goal

pub loop-i-preserved : goal.loop-i-preserved
loop-i-preserved c =
    names_step c.args.catalogue.now c.args.slots.now c.args.text.now.items c.loop-i.text.items c.push_comma.new.text.items c.extend_from_slice.new.self.items c.loop-i.i _
    c.loop-i-test.true c.loop-i.invariant c.in_ok-push_comma.ensures
    (c.in_ok-extend_from_slice.ensures.items ∙ ap (λ (name : List ℕ). c.push_comma.new.text.items ++ name) c.name.ensures)
