use Rattle.std.proofs.Common.{◌≡◌, ◌-◌, true, Some}
use Rattle.std.specs.List.{list_all}
use Rattle.modprobe_words.specs.Variable.{bytes_of}
use Rattle.modprobe_files.specs.Rooted.{Entries, IsReached, is_part, resolved, resolved_from}
use Rattle.modprobe_files.proofs.walk.resolve.Given as goal

-- the walks that are left lead where the whole path does
abbrev pub invariant-loop-followed : goal.invariant-loop-followed
invariant-loop-followed g l = record {
  folder : IsReached (g.S.System.entries l.system) (bytes_of l.place.items);
  parts : list_all is_part (bytes_of l.parts.items) ≡ true;
  same : (known : Entries) → g.S.System.entries l.system ≡ Some known
      → resolved_from known (41 - l.followed) (bytes_of l.place.items) (bytes_of l.parts.items) ≡ resolved known l.path;
}
