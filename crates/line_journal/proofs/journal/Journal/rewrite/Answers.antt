use Rattle.std.proofs.Common.{◌≡◌, ◌-◌, length, inl, inr, ⊎_elim, refl, sym, ◌∙◌, ap, subst, arith}
use Rattle.line_journal.specs.Device.{IsOnDisk}
use Rattle.line_journal.specs.Lines.{lines_of, open_text, at_rest, bytes_of, StandsForEither}
use Rattle.line_journal.proofs.LineLemmas.{length-at_rest, lines_of-at_rest, rests}
use Rattle.line_journal.proofs.Moments.{from_disk, then_from}
use Rattle.line_journal.proofs.journal.Journal.rewrite.Goals as goal

pub returns-in_err-bytes-clause-any_moment : goal.returns-in_err-bytes-clause-any_moment
returns-in_err-bytes-clause-any_moment g c =
    let old = c.args.self.now.device in
    let file = g.D.Device.content old in
    from_disk (g.D.Device.history old) (StandsForEither (lines_of file) (bytes_of c.args.lines.now)) file c.requires.ready.on_disk (inl refl)

pub returns-in_err-replace-clause-any_moment : goal.returns-in_err-replace-clause-any_moment
returns-in_err-replace-clause-any_moment g c =
    let old = c.args.self.now.device in
    let file = g.D.Device.content old in
    let group = bytes_of c.args.lines.now in
    let start = from_disk (g.D.Device.history old) (StandsForEither (lines_of file) group) file c.requires.ready.on_disk (inl refl) in
    let bytes_are : c.deref.result.now ≡ at_rest group = c.deref.ensures.value ∙ c.in_ok-bytes.ensures in
    then_from file start c.requires.ready.on_disk c.replace.ensures.crash
    (λ left either. ⊎_elim (λ old_. inl (ap lines_of old_)) (λ new. inr (ap lines_of (new ∙ bytes_are) ∙ lines_of-at_rest group c.requires.lines)) either)

pub returns-clause-any_moment : goal.returns-clause-any_moment
returns-clause-any_moment g c =
    let old = c.args.self.now.device in
    let file = g.D.Device.content old in
    let group = bytes_of c.args.lines.now in
    let start = from_disk (g.D.Device.history old) (StandsForEither (lines_of file) group) file c.requires.ready.on_disk (inl refl) in
    let bytes_are : c.deref.result.now ≡ at_rest group = c.deref.ensures.value ∙ c.in_ok-bytes.ensures in
    then_from file start c.requires.ready.on_disk c.replace.ensures.crash
    (λ left either. ⊎_elim (λ old_. inl (ap lines_of old_)) (λ new. inr (ap lines_of (new ∙ bytes_are) ∙ lines_of-at_rest group c.requires.lines)) either)

pub overflow_sub-self : goal.overflow_sub-self
overflow_sub-self g c = omega (arith, ap length c.in_ok-bytes.ensures, length-at_rest (bytes_of c.args.lines.now))

pub returns-clause-acknowledged : goal.returns-clause-acknowledged
returns-clause-acknowledged g c =
    let group = bytes_of c.args.lines.now in
    let bytes_are : c.deref.result.now ≡ at_rest group = c.deref.ensures.value ∙ c.in_ok-bytes.ensures in
    let ends : c.len.result - 1 ≡ length (open_text group) = omega (arith, ap length c.in_ok-bytes.ensures, length-at_rest group) in
    rests
    (g.D.Device.content c.replace.new.self)
    (g.D.Device.history c.replace.new.self)
    (c.len.result - 1)
    group
    c.requires.lines
    (c.in_ok-replace.ensures.replaced ∙ bytes_are)
    ends
    (omega (arith, ends, ap length bytes_are, length-at_rest group, c.in_ok-replace.ensures.fits))
    (subst (λ f. IsOnDisk f (g.D.Device.history c.replace.new.self)) (sym c.in_ok-replace.ensures.replaced) c.in_ok-replace.ensures.on_disk)
