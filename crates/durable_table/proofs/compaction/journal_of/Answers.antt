use Rattle.std.proofs.Common.{◌≡◌, ◌∙◌, ap, [], ◌∷◌, List, ℕ, Vec}
use Rattle.std.specs.declared.alloc.Global.{Global}
use Rattle.std.proofs.lemmas.List.{map-append}
use Rattle.line_journal.specs.Lines.{bytes_of}
use Rattle.durable_table.specs.Seals.{seal}
use Rattle.durable_table.specs.Commands.{link_behind}
use Rattle.durable_table.proofs.CompactLemmas.{journal_more}
use Rattle.durable_table.proofs.compaction.journal_of.Goals as goal

pub loop-command-preserved : goal.loop-command-preserved
loop-command-preserved c =
    let lines = c.loop-command.lines.items in
    let line = c.in_ok-line.line in
    let command = c.command-item.result.items in
    let tells : c.link_behind.result.now ≡ link_behind (bytes_of lines) = c.link_behind.ensures ∙ ap (λ (l : List (Vec ℕ Global)). link_behind (bytes_of l)) c.deref.ensures.value in
    let sealed : line.items ≡ seal (link_behind (bytes_of lines)) command =
    c.in_ok-line.ensures ∙ ap (λ (link : List ℕ). seal link c.deref-in-loop-command.result.now) tells ∙ ap (seal (link_behind (bytes_of lines))) c.deref-in-loop-command.ensures.value in
    ap bytes_of c.in_ok-push-2.ensures.items ∙ map-append (λ (v : Vec ℕ Global). v.items) lines (line ∷ [])
    ∙ journal_more c.args.name.now c.args.commands.now c.loop-command.command-index c.command-item.result (bytes_of lines) line.items
    c.loop-command-test.true c.command-item.is c.loop-command.invariant sealed
