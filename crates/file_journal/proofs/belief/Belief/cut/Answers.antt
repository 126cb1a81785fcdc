use Rattle.std.proofs.Common.{◌≡◌, ℕ, List, take, refl, sym, subst, rules}
use Rattle.line_journal.specs.Device.{Shortened}
use Rattle.file_journal.specs.Counts.{is_look}
use Rattle.file_journal.proofs.CallLemmas.{cut_goes, cut_or_not_goes, shortened_done, not_counted, not_counted_or_not}
use Rattle.file_journal.proofs.belief.Belief.cut.Goals as goal

pub returns-in_err-cut-clause-crash : goal.returns-in_err-cut-clause-crash
returns-in_err-cut-clause-crash g c = cut_or_not_goes c.args.size c.in_err-cut.ensures.err

pub returns-in_err-cut-clause-looks : goal.returns-in_err-cut-clause-looks
returns-in_err-cut-clause-looks g c = not_counted_or_not is_look refl c.in_err-cut.ensures.err

pub returns-clause-crash : goal.returns-clause-crash
returns-clause-crash g c =
    let size = c.args.size in
    let old = c.args.self.now.bytes.items in
    let new = c.truncate.new.self.items in
    let is_cut : new ≡ take size old = search rules in
    cut_goes size c.in_ok-cut.ensures.ok new (subst (λ (f : List ℕ). Shortened size old f) (sym is_cut) (shortened_done old size))

pub returns-clause-looks : goal.returns-clause-looks
returns-clause-looks g c = not_counted is_look refl c.in_ok-cut.ensures.ok
