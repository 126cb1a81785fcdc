use Rattle.modprobe_files.proofs.FileLemmas.{with_file-new}
use Rattle.modprobe_files.proofs.files.add_file.Goals as goal

pub returns : goal.returns
returns c =
    with_file-new c.args.files.now.items c.insert.new.self.items c.args.file c.place_of-at.result c.has_name.result
    (rw (c.deref.ensures.value, c.deref-2.ensures.value) at c.has_name.ensures)
    c.if-has_name.false
    (rw (c.deref-3.ensures.value, c.deref-4.ensures.value) at c.place_of-at.ensures.place)
    c.in_ok-insert.ensures.items
