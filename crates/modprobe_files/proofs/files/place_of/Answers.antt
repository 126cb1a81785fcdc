use Rattle.std.proofs.Common.{rules, tests, arith, length, ◌≡◌, ◌≤◌, ◌∙◌, not}
use Rattle.std.specs.List.{position_or_len, prefix_len}
use Rattle.std.proofs.lemmas.Iterator.{YieldsList-from_slice}
use Rattle.std.proofs.lemmas.Iterator.Search.{position_from_yields_List}
use Rattle.std.proofs.lemmas.List.{length-map}
use Rattle.std.proofs.lemmas.List.Sums.{prefix_len-le-length}
use Rattle.modprobe_files.specs.Files.{File, file_of, files_of, is_before}
use Rattle.modprobe_files.proofs.FileLemmas.{place_of-position}
use Rattle.modprobe_files.proofs.files.place_of.Goals as goal

pub returns : goal.returns
returns c =
    let later = λ (other : File). is_before c.args.name.now other.name in
    let place : c.unwrap_or.result ≡ position_or_len later (files_of c.args.files.now) =
    c.unwrap_or.ensures
    ∙ place_of-position later file_of c.args.files.now c.position-found.result
    (position_from_yields_List (λ file. later (file_of file)) _ _ c.position-found.result c.position-found.ensures.ran
    (YieldsList-from_slice _ c.iter.ensures.rest) (λ x b q k. search (rules, tests))) in
    let most : prefix_len (λ file. not (later file)) (files_of c.args.files.now) ≤ length (files_of c.args.files.now) =
    prefix_len-le-length (λ file. not (later file)) (files_of c.args.files.now) in
    let same : length (files_of c.args.files.now) ≡ length c.args.files.now = length-map c.args.files.now file_of in
    record { place = place; bound = omega arith }
