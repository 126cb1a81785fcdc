use Rattle.std.proofs.Common.{◌≡◌, true, Some, length}
use Rattle.std.specs.List.{list_all}
use Rattle.modprobe_words.specs.Variable.{bytes_of}
use Rattle.modprobe_files.specs.Rooted.{Entries, IsReached, is_part, walk}
use Rattle.modprobe_files.proofs.walk.walk.Given as goal

-- the walk goes on from a folder, as the whole one does
abbrev pub invariant-loop-part : goal.invariant-loop-part
invariant-loop-part g l = record {
  folder : IsReached (g.S.System.entries l.system) (bytes_of l.place.items);
  parts : list_all is_part (bytes_of l.rest) ≡ true;
  same : (known : Entries) → g.S.System.entries l.system ≡ Some known
      → walk known (bytes_of l.place.items) (bytes_of l.rest) ≡ walk known (bytes_of l.fn.place.items) (bytes_of l.parts);
}

abbrev pub decreases-loop-part : goal.decreases-loop-part
decreases-loop-part g l = length l.rest
