use Rattle.std.proofs.Common.{◌≡◌, ◌<◌, ◌∙◌, ap, arith, ℕ, List, ◌++◌, length}
use Rattle.dep_index.specs.Catalogue.{Description, description_at}
use Rattle.dep_index.specs.Table.{state_of}
use Rattle.modprobe.specs.Setup.{name_at}
use Rattle.held_lines.specs.Snapshots.{texts_in, load_lines}
use Rattle.held_lines.proofs.SnapshotLemmas.{lines_more}
use Rattle.held_lines.proofs.snapshot.push_loads.Goals as goal

pub loop-place-preserved : goal.loop-place-preserved
loop-place-preserved g c =
    let s = c.args.setup.now in
    let book = (g.M.Modules.table c.args.table.now).book in
    let slot = c.loaded_at-slot.result in
    let before = texts_in c.loop-place.lines.items in
    let below : c.loop-place.place < length book.order = omega (arith, c.loop-place-test.true, c.loaded-place-end.ensures.all) in
    let named : c.name.result.now ≡ name_at s slot = c.name.ensures ∙ ap (λ (modules : List Description). (description_at modules slot).name) c.catalogue.ensures in
    let is : load_lines c.name.result.now c.state.result ≡ load_lines (name_at s slot) (state_of book slot) =
    ap (λ (name : List ℕ). load_lines name c.state.result) named ∙ ap (load_lines (name_at s slot)) c.state.ensures in
    lines_more (λ (m : ℕ). load_lines (name_at s m) (state_of book m)) book.order c.loop-place.place slot (texts_in c.args.lines.now.items) before (texts_in c.push_load.new.lines.items)
    below c.loaded_at-slot.ensures.element c.loop-place.invariant (c.in_ok-push_load.ensures ∙ ap (λ (ls : List (List ℕ)). before ++ ls) is)
