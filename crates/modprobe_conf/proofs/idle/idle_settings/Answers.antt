use Rattle.std.proofs.Common.{◌≡◌, arith}
use Rattle.std.proofs.lemmas.Grind.{common_steps}
use Rattle.std.specs.Str.Lines.{lines}
use Rattle.alias_match.proofs.IdleLemmas.{idle_are_skipped}
use Rattle.modprobe_conf.specs.Configuration.{entry_of, joined_lines}
use Rattle.modprobe_conf.specs.Idle.{idle_settings, why_no_entry}
use Rattle.modprobe_conf.proofs.idle.idle_settings.Goals as goal

pub returns-clause-skipped : goal.returns-clause-skipped
returns-clause-skipped c =
    let text = c.args.text.now in
    let whole : c.lines.idle.items ≡ idle_settings text = grind (arith, common_steps) in
    rw whole (idle_are_skipped entry_of why_no_entry (joined_lines 1 (lines text)))
