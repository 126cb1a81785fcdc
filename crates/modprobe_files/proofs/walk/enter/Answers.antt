use Rattle.std.proofs.Common.{◌≡◌, arith}
use Rattle.std.proofs.lemmas.Grind.{common_steps}
use Rattle.modprobe_words.specs.Variable.{bytes_of}
use Rattle.modprobe_files.specs.Rooted.{above}
use Rattle.modprobe_files.proofs.RootLemmas.{reached-above, reached-inside}
use Rattle.modprobe_files.proofs.walk.enter.Goals as goal

pub returns-then-is_up-clause-inside : goal.returns-then-is_up-clause-inside
returns-then-is_up-clause-inside g c =
    let up : bytes_of c.pop.new.self.items ≡ above (bytes_of c.args.place.now.items) = grind (arith, common_steps) in
    reached-inside _ _ (reached-above _ _ _ c.requires.folder up)

pub returns-then-is_up-clause-reached : goal.returns-then-is_up-clause-reached
returns-then-is_up-clause-reached g c is =
    let up : bytes_of c.pop.new.self.items ≡ above (bytes_of c.args.place.now.items) = grind (arith, common_steps) in
    reached-above _ _ _ c.requires.folder up
