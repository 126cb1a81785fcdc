use Rattle.std.proofs.Common.{◌≡◌, ℕ, List, [], ◌∷◌, length, ◌∙◌, ap, subst, arith}
use Rattle.line_journal.specs.Device.{overwritten, Torn}
use Rattle.line_journal.specs.Lines.{lines_of, open_text, at_rest}
use Rattle.line_journal.proofs.LineLemmas.{are_lines, rests}
use Rattle.line_journal.proofs.Moments.{implies, then_run}
use Rattle.line_journal.proofs.RepairLemmas.{end_within, cut_keeps, cut_is, torn_gate_keeps, closed_is}
use Rattle.line_journal.proofs.recovery.close.Goals as goal

pub cut_through-requires-clause-within : goal.cut_through-requires-clause-within
cut_through-requires-clause-within g c = end_within (g.D.Device.content c.args.device.now) c.args.end c.requires.end

pub returns-in_err-cut_through-clause-any_moment : goal.returns-in_err-cut_through-clause-any_moment
returns-in_err-cut_through-clause-any_moment g c = implies c.cut_through.ensures.any_moment (cut_keeps (g.D.Device.content c.args.device.now) c.args.end c.requires.end)

pub write_through-requires-clause-within : goal.write_through-requires-clause-within
write_through-requires-clause-within g c =
    let file = g.D.Device.content c.args.device.now in
    let is_cut : g.D.Device.content c.cut_through.new.device ≡ open_text (lines_of file) = c.in_ok-cut_through.ensures.cut ∙ cut_is file c.args.end c.requires.end in
    omega (arith, ap length is_cut, c.requires.end)

pub returns-in_err-write_through-clause-any_moment : goal.returns-in_err-write_through-clause-any_moment
returns-in_err-write_through-clause-any_moment g c =
    let file = g.D.Device.content c.args.device.now in
    let is_cut : g.D.Device.content c.cut_through.new.device ≡ open_text (lines_of file) = c.in_ok-cut_through.ensures.cut ∙ cut_is file c.args.end c.requires.end in
    then_run (implies c.cut_through.ensures.any_moment (cut_keeps file c.args.end c.requires.end)) c.write_through.ensures.any_moment
    (λ left torn. torn_gate_keeps file c.args.end c.requires.end left (subst (λ (f : List ℕ). Torn c.args.end 1 f left) is_cut torn))

pub returns-clause-any_moment : goal.returns-clause-any_moment
returns-clause-any_moment g c =
    let file = g.D.Device.content c.args.device.now in
    let is_cut : g.D.Device.content c.cut_through.new.device ≡ open_text (lines_of file) = c.in_ok-cut_through.ensures.cut ∙ cut_is file c.args.end c.requires.end in
    then_run (implies c.cut_through.ensures.any_moment (cut_keeps file c.args.end c.requires.end)) c.write_through.ensures.any_moment
    (λ left torn. torn_gate_keeps file c.args.end c.requires.end left (subst (λ (f : List ℕ). Torn c.args.end 1 f left) is_cut torn))

pub returns-clause-at_rest : goal.returns-clause-at_rest
returns-clause-at_rest g c =
    let file = g.D.Device.content c.args.device.now in
    let new = g.D.Device.content c.write_through.new.device in
    let end = c.args.end in
    let is_cut : g.D.Device.content c.cut_through.new.device ≡ open_text (lines_of file) = c.in_ok-cut_through.ensures.cut ∙ cut_is file end c.requires.end in
    let whole : new ≡ at_rest (lines_of file) = c.in_ok-write_through.ensures.written ∙ ap (λ (f : List ℕ). overwritten f end (32 ∷ [])) is_cut ∙ closed_is file end c.requires.end in
    rests new (g.D.Device.history c.write_through.new.device) end (lines_of file) (are_lines file) whole c.requires.end (omega (arith, c.in_ok-write_through.ensures.fits)) c.in_ok-write_through.ensures.on_disk
