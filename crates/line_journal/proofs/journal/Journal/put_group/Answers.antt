use Rattle.std.proofs.Common.{◌≡◌, ◌++◌, ℕ, List, [], ◌∷◌, length, sym, ◌∙◌, ap, subst, refl, arith}
use Rattle.std.proofs.lemmas.List.Elements.{All-append}
use Rattle.line_journal.specs.Device.{IsOnDisk}
use Rattle.line_journal.specs.Lines.{lines_of, open_text, at_rest, with_gates, with_waiting, bytes_of, IsLine, StandsWithFirstOf}
use Rattle.line_journal.proofs.GroupLemmas.{none_of, lines_of-waiting}
use Rattle.line_journal.proofs.LineLemmas.{are_lines, length-at_rest, rests}
use Rattle.line_journal.proofs.Moments.{from_disk, then_run, then_same}
use Rattle.line_journal.proofs.PutLemmas.{size, torn_behind, waiting_is, waiting_size}
use Rattle.line_journal.proofs.journal.Journal.put_group.Goals as goal

pub write_through-requires-clause-within : goal.write_through-requires-clause-within
write_through-requires-clause-within g c =
    omega (arith, size (g.D.Device.content c.args.self.now.device) (g.D.Device.history c.args.self.now.device) c.args.self.now.end c.requires.ready)

pub returns-in_err-bytes-clause-any_moment : goal.returns-in_err-bytes-clause-any_moment
returns-in_err-bytes-clause-any_moment g c =
    let old = c.args.self.now.device in
    let file = g.D.Device.content old in
    let group = bytes_of c.args.lines.now in
    from_disk (g.D.Device.history old) (StandsWithFirstOf (lines_of file) group) file c.requires.ready.on_disk (none_of (lines_of file) group file refl)

pub returns-in_err-write_through-clause-any_moment : goal.returns-in_err-write_through-clause-any_moment
returns-in_err-write_through-clause-any_moment g c =
    let old = c.args.self.now.device in
    let file = g.D.Device.content old in
    let group = bytes_of c.args.lines.now in
    let start = from_disk (g.D.Device.history old) (StandsWithFirstOf (lines_of file) group) file c.requires.ready.on_disk (none_of (lines_of file) group file refl) in
    then_run start c.write_through.ensures.any_moment (λ left torn. none_of (lines_of file) group left (torn_behind file (g.D.Device.history old) c.args.self.now.end c.requires.ready _ left torn))

pub open_gates-requires-clause-waiting : goal.open_gates-requires-clause-waiting
open_gates-requires-clause-waiting g c =
    let old = c.args.self.now.device in
    let file = g.D.Device.content old in
    let mid = g.D.Device.content c.write_through.new.device in
    let group = bytes_of c.args.lines.now in
    let bytes_are : 32 ∷ c.deref.result.now ≡ with_gates [] group = ap (λ (l : List ℕ). 32 ∷ l) c.deref.ensures.value ∙ c.in_ok-bytes.ensures in
    let waiting = waiting_is file (g.D.Device.history old) c.args.self.now.end c.requires.ready group c.deref.result.now mid bytes_are c.in_ok-write_through.ensures.written in
    let same : lines_of mid ≡ lines_of file = ap lines_of waiting ∙ lines_of-waiting (lines_of file) group (are_lines file) in
    waiting ∙ ap (λ (ls : List (List ℕ)). with_waiting ls group) (sym same)

pub open_gates-requires-clause-first : goal.open_gates-requires-clause-first
open_gates-requires-clause-first g c =
    let old = c.args.self.now.device in
    let file = g.D.Device.content old in
    let mid = g.D.Device.content c.write_through.new.device in
    let group = bytes_of c.args.lines.now in
    let bytes_are : 32 ∷ c.deref.result.now ≡ with_gates [] group = ap (λ (l : List ℕ). 32 ∷ l) c.deref.ensures.value ∙ c.in_ok-bytes.ensures in
    let waiting = waiting_is file (g.D.Device.history old) c.args.self.now.end c.requires.ready group c.deref.result.now mid bytes_are c.in_ok-write_through.ensures.written in
    let same : lines_of mid ≡ lines_of file = ap lines_of waiting ∙ lines_of-waiting (lines_of file) group (are_lines file) in
    c.requires.ready.ends ∙ ap (λ (ls : List (List ℕ)). length (open_text ls)) (sym same)

pub open_gates-requires-clause-fits : goal.open_gates-requires-clause-fits
open_gates-requires-clause-fits g c =
    let old = c.args.self.now.device in
    let mid = g.D.Device.content c.write_through.new.device in
    let group = bytes_of c.args.lines.now in
    let bytes_are : 32 ∷ c.deref.result.now ≡ with_gates [] group = ap (λ (l : List ℕ). 32 ∷ l) c.deref.ensures.value ∙ c.in_ok-bytes.ensures in
    omega (arith, waiting_size (g.D.Device.content old) (g.D.Device.history old) c.args.self.now.end c.requires.ready group c.deref.result.now mid bytes_are c.in_ok-write_through.ensures.written, c.in_ok-write_through.ensures.fits)

pub returns-in_err-end-clause-any_moment : goal.returns-in_err-end-clause-any_moment
returns-in_err-end-clause-any_moment g c =
    let old = c.args.self.now.device in
    let file = g.D.Device.content old in
    let mid = g.D.Device.content c.write_through.new.device in
    let group = bytes_of c.args.lines.now in
    let start = from_disk (g.D.Device.history old) (StandsWithFirstOf (lines_of file) group) file c.requires.ready.on_disk (none_of (lines_of file) group file refl) in
    let waits = then_run start c.write_through.ensures.any_moment (λ left torn. none_of (lines_of file) group left (torn_behind file (g.D.Device.history old) c.args.self.now.end c.requires.ready _ left torn)) in
    let bytes_are : 32 ∷ c.deref.result.now ≡ with_gates [] group = ap (λ (l : List ℕ). 32 ∷ l) c.deref.ensures.value ∙ c.in_ok-bytes.ensures in
    let waiting = waiting_is file (g.D.Device.history old) c.args.self.now.end c.requires.ready group c.deref.result.now mid bytes_are c.in_ok-write_through.ensures.written in
    let same : lines_of mid ≡ lines_of file = ap lines_of waiting ∙ lines_of-waiting (lines_of file) group (are_lines file) in
    then_run waits c.open_gates.ensures.any_moment (λ left first. subst (λ ls. StandsWithFirstOf ls group left) same first)

pub returns-in_err-sync-clause-any_moment : goal.returns-in_err-sync-clause-any_moment
returns-in_err-sync-clause-any_moment g c =
    let old = c.args.self.now.device in
    let file = g.D.Device.content old in
    let mid = g.D.Device.content c.write_through.new.device in
    let group = bytes_of c.args.lines.now in
    let start = from_disk (g.D.Device.history old) (StandsWithFirstOf (lines_of file) group) file c.requires.ready.on_disk (none_of (lines_of file) group file refl) in
    let waits = then_run start c.write_through.ensures.any_moment (λ left torn. none_of (lines_of file) group left (torn_behind file (g.D.Device.history old) c.args.self.now.end c.requires.ready _ left torn)) in
    let bytes_are : 32 ∷ c.deref.result.now ≡ with_gates [] group = ap (λ (l : List ℕ). 32 ∷ l) c.deref.ensures.value ∙ c.in_ok-bytes.ensures in
    let waiting = waiting_is file (g.D.Device.history old) c.args.self.now.end c.requires.ready group c.deref.result.now mid bytes_are c.in_ok-write_through.ensures.written in
    let same : lines_of mid ≡ lines_of file = ap lines_of waiting ∙ lines_of-waiting (lines_of file) group (are_lines file) in
    then_same (then_run waits c.open_gates.ensures.any_moment (λ left first. subst (λ ls. StandsWithFirstOf ls group left) same first)) c.sync.ensures.crash

pub returns-clause-any_moment : goal.returns-clause-any_moment
returns-clause-any_moment g c =
    let old = c.args.self.now.device in
    let file = g.D.Device.content old in
    let mid = g.D.Device.content c.write_through.new.device in
    let group = bytes_of c.args.lines.now in
    let start = from_disk (g.D.Device.history old) (StandsWithFirstOf (lines_of file) group) file c.requires.ready.on_disk (none_of (lines_of file) group file refl) in
    let waits = then_run start c.write_through.ensures.any_moment (λ left torn. none_of (lines_of file) group left (torn_behind file (g.D.Device.history old) c.args.self.now.end c.requires.ready _ left torn)) in
    let bytes_are : 32 ∷ c.deref.result.now ≡ with_gates [] group = ap (λ (l : List ℕ). 32 ∷ l) c.deref.ensures.value ∙ c.in_ok-bytes.ensures in
    let waiting = waiting_is file (g.D.Device.history old) c.args.self.now.end c.requires.ready group c.deref.result.now mid bytes_are c.in_ok-write_through.ensures.written in
    let same : lines_of mid ≡ lines_of file = ap lines_of waiting ∙ lines_of-waiting (lines_of file) group (are_lines file) in
    then_same (then_run waits c.open_gates.ensures.any_moment (λ left first. subst (λ ls. StandsWithFirstOf ls group left) same first)) c.sync.ensures.crash

pub returns-clause-acknowledged : goal.returns-clause-acknowledged
returns-clause-acknowledged g c =
    let old = c.args.self.now.device in
    let file = g.D.Device.content old in
    let mid = g.D.Device.content c.write_through.new.device in
    let group = bytes_of c.args.lines.now in
    let bytes_are : 32 ∷ c.deref.result.now ≡ with_gates [] group = ap (λ (l : List ℕ). 32 ∷ l) c.deref.ensures.value ∙ c.in_ok-bytes.ensures in
    let waiting = waiting_is file (g.D.Device.history old) c.args.self.now.end c.requires.ready group c.deref.result.now mid bytes_are c.in_ok-write_through.ensures.written in
    let same : lines_of mid ≡ lines_of file = ap lines_of waiting ∙ lines_of-waiting (lines_of file) group (are_lines file) in
    let whole = c.sync.ensures.content ∙ c.in_ok-end.ensures.opened ∙ ap (λ (ls : List (List ℕ)). at_rest (ls ++ group)) same in
    let ends = c.in_ok-end.ensures.end ∙ ap (λ (ls : List (List ℕ)). length (open_text (ls ++ group))) same in
    rests
    (g.D.Device.content c.sync.new.self)
    (g.D.Device.history c.sync.new.self)
    c.in_ok-end.end
    (lines_of file ++ group)
    (All-append IsLine (lines_of file) group (are_lines file) c.requires.lines)
    whole
    ends
    (omega (arith, ends, ap length whole, ap length c.sync.ensures.content, length-at_rest (lines_of file ++ group), c.in_ok-end.ensures.fits_too))
    (subst (λ f. IsOnDisk f (g.D.Device.history c.sync.new.self)) (sym c.sync.ensures.content) c.in_ok-sync.ensures.on_disk)
