use Rattle.std.proofs.Common.{List, ℕ, refl, sym, ◌∙◌, subst}
use Rattle.file_journal.specs.Calls.{IsNoted}
use Rattle.file_journal.specs.declared.calls.kinds.Call.TheVariants.{OpenAgain}
use Rattle.file_journal.specs.Counts.{is_look, is_write}
use Rattle.file_journal.proofs.CallLemmas.{open_again_goes, not_counted}
use Rattle.file_journal.proofs.belief.Belief.open_again.Goals as goal

pub returns-then-agrees-clause-crash : goal.returns-then-agrees-clause-crash
returns-then-agrees-clause-crash g c = open_again_goes c.in_ok-file.ensures.ok

pub returns-then-agrees-clause-looks : goal.returns-then-agrees-clause-looks
returns-then-agrees-clause-looks g c = not_counted is_look refl c.in_ok-file.ensures.ok

pub returns-then-agrees-clause-writes : goal.returns-then-agrees-clause-writes
returns-then-agrees-clause-writes g c = not_counted is_write refl c.in_ok-file.ensures.ok

pub returns-else-agrees-clause-crash : goal.returns-else-agrees-clause-crash
returns-else-agrees-clause-crash g c = open_again_goes c.in_ok-file.ensures.ok

pub returns-else-agrees-clause-looks : goal.returns-else-agrees-clause-looks
returns-else-agrees-clause-looks g c = not_counted is_look refl c.in_ok-file.ensures.ok

pub returns-else-agrees-clause-writes : goal.returns-else-agrees-clause-writes
returns-else-agrees-clause-writes g c = not_counted is_write refl c.in_ok-file.ensures.ok

pub returns-then-agrees-clause-opened : goal.returns-then-agrees-clause-opened
returns-then-agrees-clause-opened g c =
    let old = c.args.self.now in
    subst (λ (b : List ℕ). IsNoted OpenAgain old.bytes.items b old.calls.noted.items c.open_again-opened.new.self.noted.items)
    (sym c.deref.ensures.value ∙ c.agrees.ensures.0 c.if-agrees.true) c.in_ok-file.ensures.ok
