use Rattle.gz_modprobe_drive.proofs.TreeLemmas.{five-parts}
use Rattle.gz_modprobe_drive.proofs.notices.push_notice.Goals as goal

pub returns : goal.returns
returns c =
    five-parts c.args.lines.now.items _ c.args.what.now c.args.path.now c.args.more.now _ _ _ _ _ _
    c.in_ok-extend_from_slice.ensures.items c.in_ok-extend_from_slice-2.ensures.items c.in_ok-extend_from_slice-3.ensures.items
    c.in_ok-extend_from_slice-4.ensures.items c.in_ok-extend_from_slice-5.ensures.items
