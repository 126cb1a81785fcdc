use Rattle.std.proofs.Common.{rules, tests}
use Rattle.std.proofs.lemmas.Iterator.{YieldsList-from_slice}
use Rattle.std.proofs.lemmas.Iterator.Search.{all_from_yields_List}
use Rattle.gz_modprobe_drive.specs.Missed.{is_name_read}
use Rattle.gz_modprobe_drive.proofs.missed.are_read.Goals as goal

pub returns : goal.returns
returns c =
    all_from_yields_List (is_name_read c.args.kmod c.args.files.now) _ _ c.all.result c.all.ensures.ran
    (YieldsList-from_slice _ c.iter.ensures.rest) (λ x b q k. search (rules, tests))
