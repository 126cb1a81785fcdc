use Rattle.std.proofs.Common.{◌∙◌, ap, sym, ◌-◌, get_or, length, take, drop, ℕ, List, []}
use Rattle.std.specs.Borrow.{Bor}
use Rattle.text_parts.specs.Text.{texts_of}
use Rattle.proc_modules.specs.Reading.{line_in}
use Rattle.proc_modules.proofs.ReadingLemmas.{line_read, six_texts}
use Rattle.proc_modules.proofs.read.good_line.Goals as goal

pub returns : goal.returns
returns c =
    let fields = c.args.fields.now in
    let other : Bor (List ℕ) = record { ref_ptr = (0, 0); now = [] } in
    let at : ℕ → List ℕ = λ i. (get_or fields i other).now in
    ap line_in (six_texts fields other c.in-len6-up.len_at_least)
    ∙ line_read (at 0) (at 1) (at 2) (at 3) (at 4) (at 5) (texts_of (take (length fields - 6) (drop 6 fields)))
    c.in_ok-size.size c.in_ok-size.count c.in_ok-users.users c.in_ok-users.permanent c.in_ok-state.state c.in_ok-name.name
    c.in_ok-size.ensures.good c.in_ok-users.ensures (sym c.in_ok-state.ensures) c.in_ok-name.ensures
