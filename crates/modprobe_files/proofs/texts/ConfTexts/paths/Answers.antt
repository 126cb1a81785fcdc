use Rattle.std.proofs.Common.{◌≤◌, ◌∙◌, ◌++◌, ◌∷◌, [], ap, arith, length, map, take_all}
use Rattle.std.proofs.lemmas.Grind.{common_steps}
use Rattle.std.proofs.lemmas.List.{map-append}
use Rattle.text_parts.specs.Text.{texts_of}
use Rattle.modprobe_files.specs.Paths.{command_line_path, path_in}
use Rattle.modprobe_files.proofs.texts.ConfTexts.paths.Goals as goal

pub loop-file-preserved : goal.loop-file-preserved
loop-file-preserved c = grind (arith, common_steps)

pub returns : goal.returns
returns c =
    let over : length c.args.self.now.files.items ≤ c.loop-file.file-index = omega arith in
    ap texts_of c.in_ok-push-2.ensures.items
    ∙ map-append (λ t. t.now) c.loop-file.paths.items _
    ∙ ap (λ l. l ++ command_line_path ∷ []) (c.loop-file.invariant ∙ ap (map path_in) (take_all c.loop-file.file-index c.args.self.now.files.items over))
