use Rattle.std.proofs.Common.{◌≡◌, ◌+◌, ◌<◌, ◌++◌, ℕ, List, [], ◌∷◌, length, take, drop, Vec, sym, ◌∙◌, ap, arith, append_assoc}
use Rattle.std.specs.declared.alloc.Global.{Global}
use Rattle.std.proofs.lemmas.List.{append-nil, length-map}
use Rattle.line_journal.specs.Device.{AlwaysLeaves, overwritten}
use Rattle.line_journal.specs.Lines.{lines_of, open_text, with_waiting, bytes_of}
use Rattle.line_journal.proofs.GroupLemmas.{IsGated, torn_gate, gated_first, opened_one, length-opened, room_for_one, next_is, one_more}
use Rattle.line_journal.proofs.LineLemmas.{are_lines, length-open_text_push}
use Rattle.line_journal.proofs.Moments.{from_disk, leaves_now, then_call, implies}
use Rattle.line_journal.proofs.gates.open_gates.Goals as goal

pub loop-line-init : goal.loop-line-init
loop-line-init g c =
    let file = g.D.Device.content c.args.device.now in
    let lines = lines_of file in
    let group = bytes_of c.args.lines.now in
    record {
      content = c.requires.waiting ∙ ap (λ (ls : List (List ℕ)). with_waiting ls group) (sym (append-nil lines));
      gate = c.requires.first ∙ ap (λ (ls : List (List ℕ)). length (open_text ls)) (sym (append-nil lines));
      fits = c.requires.fits;
      moments = from_disk (g.D.Device.history c.args.device.now) (IsGated lines group) file c.requires.on_disk ([], c.requires.waiting);
      faults = omega arith;
    }

pub returns-in_err-write_at-clause-any_moment : goal.returns-in_err-write_at-clause-any_moment
returns-in_err-write_at-clause-any_moment g c =
    let lines = lines_of (g.D.Device.content c.args.device.now) in
    let group = bytes_of c.args.lines.now in
    let index = c.loop-line.line-index in
    let so_far = c.loop-line.invariant in
    let within : index < length group = omega (arith, c.loop-line-test.true, length-map c.args.lines.now (λ (v : Vec ℕ Global). v.items)) in
    let moments : AlwaysLeaves (g.D.Device.history c.args.device.now) (g.D.Device.history c.write_at.new.self) (IsGated lines group) =
    then_call so_far.moments c.write_at.ensures.crash (λ before left gated torn. torn_gate lines group index c.loop-line.gate before left within so_far.gate (leaves_now so_far.moments before gated) torn) in
    implies moments (gated_first lines group (are_lines (g.D.Device.content c.args.device.now)) c.requires.lines)

pub returns-clause-any_moment : goal.returns-clause-any_moment
returns-clause-any_moment g c =
    let file = g.D.Device.content c.args.device.now in
    implies c.loop-line.invariant.moments (gated_first (lines_of file) (bytes_of c.args.lines.now) (are_lines file) c.requires.lines)

pub write_at-requires : goal.write_at-requires
write_at-requires g c =
    let lines = lines_of (g.D.Device.content c.args.device.now) in
    let group = bytes_of c.args.lines.now in
    let index = c.loop-line.line-index in
    let so_far = c.loop-line.invariant in
    let line = c.line-item.result in
    let before = lines ++ take index group in
    let after = drop (index + 1) group in
    let content : g.D.Device.content c.loop-line.device ≡ with_waiting before (line.items ∷ after) = so_far.content ∙ ap (λ (ls : List (List ℕ)). with_waiting before ls) (next_is c.args.lines.now index line c.loop-line-test.true c.line-item.is) in
    omega (arith, ap length content, room_for_one before after line.items c.loop-line.gate so_far.gate)

pub overflow_add-gate-in-loop-line : goal.overflow_add-gate-in-loop-line
overflow_add-gate-in-loop-line g c =
    let lines = lines_of (g.D.Device.content c.args.device.now) in
    let group = bytes_of c.args.lines.now in
    let index = c.loop-line.line-index in
    let so_far = c.loop-line.invariant in
    let line = c.line-item.result in
    let before = lines ++ take index group in
    let after = drop (index + 1) group in
    let content : g.D.Device.content c.loop-line.device ≡ with_waiting before (line.items ∷ after) = so_far.content ∙ ap (λ (ls : List (List ℕ)). with_waiting before ls) (next_is c.args.lines.now index line c.loop-line-test.true c.line-item.is) in
    omega (arith, so_far.fits, ap length content, room_for_one before after line.items c.loop-line.gate so_far.gate)

pub loop-line-preserved : goal.loop-line-preserved
loop-line-preserved g c =
    let lines = lines_of (g.D.Device.content c.args.device.now) in
    let group = bytes_of c.args.lines.now in
    let index = c.loop-line.line-index in
    let gate = c.loop-line.gate in
    let so_far = c.loop-line.invariant in
    let within : index < length group = omega (arith, c.loop-line-test.true, length-map c.args.lines.now (λ (v : Vec ℕ Global). v.items)) in
    let line = c.line-item.result in
    let before = lines ++ take index group in
    let after = drop (index + 1) group in
    let content : g.D.Device.content c.loop-line.device ≡ with_waiting before (line.items ∷ after) = so_far.content ∙ ap (λ (ls : List (List ℕ)). with_waiting before ls) (next_is c.args.lines.now index line c.loop-line-test.true c.line-item.is) in
    let front : before ++ line.items ∷ [] ≡ lines ++ take (index + 1) group =
    append_assoc lines (take index group) (line.items ∷ []) ∙ ap (λ (ls : List (List ℕ)). lines ++ ls) (sym (one_more c.args.lines.now index line c.loop-line-test.true c.line-item.is)) in
    let opened = c.in_ok-write_at.ensures.written ∙ ap (λ (f : List ℕ). overwritten f gate (43 ∷ [])) content ∙ opened_one before after line.items gate so_far.gate in
    record {
      content = opened ∙ ap (λ (ls : List (List ℕ)). with_waiting ls after) front;
      gate = omega (arith, so_far.gate, length-open_text_push before line.items, ap (λ (ls : List (List ℕ)). length (open_text ls)) front);
      fits = omega (arith, so_far.fits, ap length content, ap length opened, length-opened before after line.items gate so_far.gate);
      moments = then_call so_far.moments c.write_at.ensures.crash (λ before_ left gated torn. torn_gate lines group index gate before_ left within so_far.gate (leaves_now so_far.moments before_ gated) torn);
      faults = omega (arith, so_far.faults, c.write_at.ensures.faults.later);
    }
