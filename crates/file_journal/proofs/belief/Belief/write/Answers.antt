use Rattle.std.proofs.Common.{◌≡◌, ℕ, List, length, refl, sym, subst, ap, ◌∙◌}
use Rattle.line_journal.specs.Device.{Torn, overwritten}
use Rattle.file_journal.specs.Counts.{is_look}
use Rattle.file_journal.proofs.CallLemmas.{write_goes, write_or_not_goes, torn_not, torn_done, not_counted, not_counted_or_not}
use Rattle.file_journal.proofs.belief.Belief.write.Goals as goal

pub returns-in_err-write-clause-crash : goal.returns-in_err-write-clause-crash
returns-in_err-write-clause-crash g c = write_or_not_goes c.args.place c.in_err-write.ensures.err

pub returns-in_err-write-clause-looks : goal.returns-in_err-write-clause-looks
returns-in_err-write-clause-looks g c = not_counted_or_not is_look refl c.in_err-write.ensures.err

pub returns-in_err-overwrite-clause-crash : goal.returns-in_err-overwrite-clause-crash
returns-in_err-overwrite-clause-crash g c =
    let place = c.args.place in
    let count = length c.args.bytes.now.items in
    let old = c.args.self.now.bytes.items in
    let new = c.overwrite.new.file.items in
    write_goes place c.in_ok-write.ensures.ok new (subst (λ (f : List ℕ). Torn place count old f) (sym c.in_err-overwrite.ensures.err) (torn_not place count old))

pub returns-in_err-overwrite-clause-looks : goal.returns-in_err-overwrite-clause-looks
returns-in_err-overwrite-clause-looks g c = not_counted is_look refl c.in_ok-write.ensures.ok

pub returns-clause-crash : goal.returns-clause-crash
returns-clause-crash g c =
    let place = c.args.place in
    let bytes = c.args.bytes.now.items in
    let old = c.args.self.now.bytes.items in
    let new = c.overwrite.new.file.items in
    let is_new : new ≡ overwritten old place bytes = c.in_ok-overwrite.ensures.ok ∙ ap (λ (b : List ℕ). overwritten old place b) c.deref.ensures.value in
    write_goes place c.in_ok-write.ensures.ok new (subst (λ (f : List ℕ). Torn place (length bytes) old f) (sym is_new) (torn_done old bytes place c.requires.within))

pub returns-clause-looks : goal.returns-clause-looks
returns-clause-looks g c = not_counted is_look refl c.in_ok-write.ensures.ok
