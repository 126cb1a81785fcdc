use Rattle.std.proofs.Common.{◌≡◌, ℕ, List, [], ◌∙◌, sym, get_or, Bor}
use Rattle.std.proofs.lemmas.List.{append-nil}
use Rattle.modprobe_files.specs.Chosen.{none}
use Rattle.modprobe_files.specs.Files.{path_of, source_of}
use Rattle.modprobe_files.specs.Folders.{own_sources}
use Rattle.modprobe_files.proofs.ChosenLemmas.{IfSome-at, found-more, unfound-more}
use Rattle.modprobe_files.proofs.sources.configuration_sources.Goals as goal
use Rattle.modprobe_files.proofs.sources.configuration_sources.Goals.{in-Some+in_ok-push, in_default}

pub loop-path-init : goal.loop-path-init
loop-path-init g c = ([], c.in_ok-sources.ensures ∙ sym (append-nil (own_sources c.args.kmod c.args.directory.now)), none)

pub loop-path-preserved : goal.loop-path-preserved
loop-path-preserved g c =
    let own = own_sources c.args.kmod c.args.directory.now in
    let paths = c.paths_by_rank-path-items.result.now in
    let i = c.loop-path.path-index in
    let other : Bor (List ℕ) = record { ref_ptr = (0, 0); now = [] } in
    elim c.match-branch-3.branch [
      | in-Some+in_ok-push w ↦
          let same : path_of (source_of w.in-Some.source) ≡ (get_or paths i other).now =
          IfSome-at (λ source. path_of (source_of source) ≡ (get_or paths i other).now) c.in_ok-source.field-0 w.in-Some.source w.in-Some.is c.in_ok-source.ensures in
          rw (w.sources-is, w.in_ok-push.ensures.items)
          (found-more own paths i other c.loop-path.sources.items w.in-Some.source c.loop-path-test.true same c.loop-path.invariant)
      | in_default w ↦ rw w.sources-is (unfound-more own paths i other c.loop-path.sources.items c.loop-path-test.true c.loop-path.invariant)
    ]
