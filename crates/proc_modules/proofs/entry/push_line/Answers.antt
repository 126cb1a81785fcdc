use Rattle.proc_modules.specs.Listings.{entry_line}
use Rattle.proc_modules.proofs.ListingLemmas.{filled_is, line_written}
use Rattle.proc_modules.proofs.entry.push_line.Goals as goal

pub returns : goal.returns
returns c =
    let e = c.args.entry.now in
    line_written (entry_line c.args.catalogue.now e) c.args.text.now.items c.push_head.new.text.items c.push_users.new.text.items
    c.push_tail.new.text.items _ (rw (c.name.ensures, c.size.ensures) at c.in_ok-push_head.ensures) c.in_ok-push_users.ensures
    (filled_is c.args.catalogue.now e.users.now c.is_empty.result c.is_empty.ensures) (rw (c.permanent.ensures, c.shown.ensures) at c.in_ok-push_tail.ensures)
