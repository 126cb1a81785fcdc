use Rattle.std.proofs.Common.{◌≡◌, ◌+◌, length}
use Rattle.gz_modprobe_drive.specs.Texts.{conf_from, texts_in}
use Rattle.gz_modprobe_drive.proofs.configuration.add_files.Given as goal

-- the files that are left make of what is there what all make of what was there
abbrev pub invariant-loop-file : goal.invariant-loop-file
invariant-loop-file l = record {
  number : l.source + length l.rest ≡ length l.files;
  conf : conf_from l.kmod l.source l.conf (texts_in l.rest) ≡ conf_from l.kmod 0 l.initial.conf (texts_in l.files);
}

abbrev pub decreases-loop-file : goal.decreases-loop-file
decreases-loop-file l = length l.rest
