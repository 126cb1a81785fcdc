use Rattle.std.proofs.Common.{◌≡◌, suc, ◌∷◌, List, sym, ◌∙◌, ap, add-one, drop, drop-cons, fold}
use Rattle.std.specs.List.{flat_map}
use Rattle.std.proofs.lemmas.List.Sums.{fold-append}
use Rattle.modprobe_files.specs.Files.{File, candidates, files_of, source_of, sources_of, with_file}
use Rattle.modprobe_files.proofs.files.counted_files.Goals as goal

pub loop-source-preserved : goal.loop-source-preserved
loop-source-preserved c =
    let i = c.loop-source.source-index in
    let sources = c.args.sources.now in
    let source = c.source-item.result in
    let files = files_of c.loop-source.files.items in
    let later : List File = flat_map (candidates c.args.kmod) (sources_of (drop (suc i) sources)) in
    let left : drop i sources ≡ source ∷ drop (suc i) sources =
    drop-cons sources i source c.loop-source-test.true ∙ ap (λ x. x ∷ drop (suc i) sources) (sym c.source-item.is) in
    rw add-one
    (ap (λ own. fold with_file own later) c.in_ok-add_source.ensures
    ∙ sym (fold-append with_file files (candidates c.args.kmod (source_of source)) later)
    ∙ ap (λ own. fold with_file files (flat_map (candidates c.args.kmod) (sources_of own))) (sym left)
    ∙ c.loop-source.invariant)
