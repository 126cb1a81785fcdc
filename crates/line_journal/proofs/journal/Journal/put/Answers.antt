use Rattle.std.proofs.Common.{◌≡◌, ◌+◌, ℕ, List, [], ◌∷◌, length, inl, refl, ◌∙◌, ap, arith}
use Rattle.line_journal.specs.Lines.{lines_of, with_gates, StandsWithOrWithout}
use Rattle.line_journal.proofs.Moments.{from_disk, then_run}
use Rattle.line_journal.proofs.PutLemmas.{size, torn_behind, waiting_size, gate_torn, gate_opened}
use Rattle.line_journal.proofs.journal.Journal.put.Goals as goal

pub write_through-requires-clause-within : goal.write_through-requires-clause-within
write_through-requires-clause-within g c =
    omega (arith, size (g.D.Device.content c.args.self.now.device) (g.D.Device.history c.args.self.now.device) c.args.self.now.end c.requires.ready)

pub write_through-requires-2-clause-within : goal.write_through-requires-2-clause-within
write_through-requires-2-clause-within g c =
    let old = c.args.self.now.device in
    let bytes_are : 32 ∷ c.deref.result.now ≡ with_gates [] (c.args.line.now ∷ []) = ap (λ (l : List ℕ). 32 ∷ l) c.deref.ensures.value ∙ c.in_ok-bytes.ensures in
    omega (arith, waiting_size (g.D.Device.content old) (g.D.Device.history old) c.args.self.now.end c.requires.ready (c.args.line.now ∷ []) c.deref.result.now (g.D.Device.content c.write_through.new.device) bytes_are c.in_ok-write_through.ensures.written)

pub returns-in_err-bytes-clause-any_moment : goal.returns-in_err-bytes-clause-any_moment
returns-in_err-bytes-clause-any_moment g c =
    let old = c.args.self.now.device in
    let file = g.D.Device.content old in
    from_disk (g.D.Device.history old) (StandsWithOrWithout (lines_of file) c.args.line.now) file c.requires.ready.on_disk (inl refl)

pub returns-in_err-write_through-clause-any_moment : goal.returns-in_err-write_through-clause-any_moment
returns-in_err-write_through-clause-any_moment g c =
    let old = c.args.self.now.device in
    let file = g.D.Device.content old in
    let start = from_disk (g.D.Device.history old) (StandsWithOrWithout (lines_of file) c.args.line.now) file c.requires.ready.on_disk (inl refl) in
    then_run start c.write_through.ensures.any_moment (λ left torn. inl (torn_behind file (g.D.Device.history old) c.args.self.now.end c.requires.ready _ left torn))

pub returns-in_err-write_through-2-clause-any_moment : goal.returns-in_err-write_through-2-clause-any_moment
returns-in_err-write_through-2-clause-any_moment g c =
    let old = c.args.self.now.device in
    let file = g.D.Device.content old in
    let start = from_disk (g.D.Device.history old) (StandsWithOrWithout (lines_of file) c.args.line.now) file c.requires.ready.on_disk (inl refl) in
    let waiting = then_run start c.write_through.ensures.any_moment (λ left torn. inl (torn_behind file (g.D.Device.history old) c.args.self.now.end c.requires.ready _ left torn)) in
    let bytes_are : 32 ∷ c.deref.result.now ≡ with_gates [] (c.args.line.now ∷ []) = ap (λ (l : List ℕ). 32 ∷ l) c.deref.ensures.value ∙ c.in_ok-bytes.ensures in
    then_run waiting c.write_through-2.ensures.any_moment (gate_torn file (g.D.Device.history old) c.args.self.now.end c.requires.ready c.args.line.now c.deref.result.now (g.D.Device.content c.write_through.new.device) c.requires.line bytes_are c.in_ok-write_through.ensures.written)

pub returns-clause-any_moment : goal.returns-clause-any_moment
returns-clause-any_moment g c =
    let old = c.args.self.now.device in
    let file = g.D.Device.content old in
    let start = from_disk (g.D.Device.history old) (StandsWithOrWithout (lines_of file) c.args.line.now) file c.requires.ready.on_disk (inl refl) in
    let waiting = then_run start c.write_through.ensures.any_moment (λ left torn. inl (torn_behind file (g.D.Device.history old) c.args.self.now.end c.requires.ready _ left torn)) in
    let bytes_are : 32 ∷ c.deref.result.now ≡ with_gates [] (c.args.line.now ∷ []) = ap (λ (l : List ℕ). 32 ∷ l) c.deref.ensures.value ∙ c.in_ok-bytes.ensures in
    then_run waiting c.write_through-2.ensures.any_moment (gate_torn file (g.D.Device.history old) c.args.self.now.end c.requires.ready c.args.line.now c.deref.result.now (g.D.Device.content c.write_through.new.device) c.requires.line bytes_are c.in_ok-write_through.ensures.written)

pub returns-clause-acknowledged : goal.returns-clause-acknowledged
returns-clause-acknowledged g c =
    let old = c.args.self.now.device in
    let bytes_are : 32 ∷ c.deref.result.now ≡ with_gates [] (c.args.line.now ∷ []) = ap (λ (l : List ℕ). 32 ∷ l) c.deref.ensures.value ∙ c.in_ok-bytes.ensures in
    gate_opened
    (g.D.Device.content old)
    (g.D.Device.history old)
    c.args.self.now.end
    c.requires.ready
    c.args.line.now
    c.deref.result.now
    (g.D.Device.content c.write_through.new.device)
    c.requires.line
    bytes_are
    c.in_ok-write_through.ensures.written
    (g.D.Device.content c.write_through-2.new.device)
    (g.D.Device.history c.write_through-2.new.device)
    (c.args.self.now.end + c.len.result)
    c.in_ok-write_through-2.ensures.written
    (omega (arith, ap length c.deref.ensures.value))
    c.in_ok-write_through.ensures.fits
    c.in_ok-write_through-2.ensures.on_disk
