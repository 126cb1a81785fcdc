use Rattle.std.proofs.Common.{◌≡◌, ◌+◌, ◌++◌, length}
use Rattle.std.specs.List.{enumerate_from, flat_map}
use Rattle.gz_modprobe_drive.specs.Ignored.{unknown_in, unknown_of}
use Rattle.gz_modprobe_drive.specs.Texts.{texts_in}
use Rattle.gz_modprobe_drive.proofs.ignored.add_all_unknown.Given as goal

-- what is there, and what the texts say that are left, are what was there and what all say
abbrev pub invariant-loop-file : goal.invariant-loop-file
invariant-loop-file l = record {
  number : l.source + length l.rest ≡ length l.files;
  said : l.notes.items ++ flat_map unknown_in (enumerate_from l.source (texts_in l.rest)) ≡ l.initial.notes.items ++ unknown_of l.files;
}

abbrev pub decreases-loop-file : goal.decreases-loop-file
decreases-loop-file l = length l.rest
