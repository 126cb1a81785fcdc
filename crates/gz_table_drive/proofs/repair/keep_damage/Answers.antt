use Rattle.std.proofs.Common.{ap, ◌∙◌}
use Rattle.line_journal.specs.Lines.{at_rest, lines_of}
use Rattle.gz_table_drive.proofs.TenureLemmas.{found_whole}
use Rattle.gz_table_drive.proofs.repair.keep_damage.Goals as goal

pub returns-in_default-clause-sound : goal.returns-in_default-clause-sound
returns-in_default-clause-sound g c = λ sound.
    found_whole _ _ _ c.in_ok-found_in.ensures.found c.in_default.ensures.sound c.in_ok-found_in.ensures.fits c.found_in.ensures.content
    ∙ ap (λ file. at_rest (lines_of file)) (c.found_in.ensures.content ∙ c.bytes_of.ensures.content)
