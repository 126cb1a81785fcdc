use Rattle.std.proofs.Common.{◌≡◌, true, ◌∙◌, ap, arith, rules}
use Rattle.std.specs.List.{list_all}
use Rattle.std.proofs.lemmas.Grind.{common_steps}
use Rattle.modprobe_words.specs.Variable.{bytes_of}
use Rattle.modprobe_files.specs.Rooted.{is_part, parts_of}
use Rattle.modprobe_files.proofs.RootLemmas.{are-parts, more-parts, started}
use Rattle.modprobe_files.proofs.walk.walk.Goals as goal

pub returns-in-Link-clause-inside : goal.returns-in-Link-clause-inside
returns-in-Link-clause-inside g c =
    let later : list_all is_part (bytes_of c.in-Some.later.now) ≡ true = first_of (search rules, grind (arith, common_steps)) in (
      started (g.S.System.entries c.args.system.now) (bytes_of c.enter.new.place.items) c.deref-in-Link-2.result.now
          (bytes_of c.go_to_start.new.place.items) c.in_ok-enter.ensures.inside c.go_to_start.ensures,
      ap (list_all is_part) c.in_ok-left-in-Link.ensures
          ∙ more-parts (parts_of c.deref-in-Link.result.now) (bytes_of c.in-Some.later.now) (are-parts c.deref-in-Link.result.now) later,
    )
