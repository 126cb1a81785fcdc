use Rattle.std.proofs.Common.{rules, tests}
use Rattle.std.proofs.lemmas.Iterator.{YieldsList-from_slice}
use Rattle.std.proofs.lemmas.Iterator.Search.{any_from_yields_List}
use Rattle.gz_modprobe_drive.specs.Missed.{is_of_name}
use Rattle.gz_modprobe_drive.proofs.missed.has_file.Goals as goal

pub returns : goal.returns
returns c =
    any_from_yields_List (is_of_name c.args.name.now) _ _ c.any.result c.any.ensures.ran
    (YieldsList-from_slice _ c.iter.ensures.rest) (λ x b q k. search (rules, tests))
