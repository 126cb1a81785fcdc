-- What a journal stands for while a line is put into it, and after it.
use Rattle.std.proofs.Common.{◌≡◌, inl, inr, ⊎_elim, ap, sym, ◌∙◌, ℕ, List, [], ◌∷◌, ◌++◌}
use Rattle.line_journal.specs.Device.{History, AlwaysLeaves}
use Rattle.line_journal.specs.Lines.{StandsWithOrWithout}
use Rattle.line_journal.specs.Journal.{lines_in, IsReady}
use Rattle.line_journal.proofs.Moments.{implies, from_disk}
use Rattle.modprobe.specs.Setup.{Setup}
use Rattle.held_table.specs.Held.{Held}
use Rattle.held_lines.specs.Outcomes.{held_line_outcome}
use Rattle.durable_table.specs.declared.chained.Chained.{Chained}
use Rattle.durable_table.specs.Seals.{seal, link_of}
use Rattle.durable_table.specs.Commands.{link_behind}
use Rattle.durable_table.specs.Tables.{table_in}
use Rattle.durable_table.specs.Durable.{Stands, BeforeOrAfter}
use Rattle.durable_table.proofs.GroupLemmas.{link_all}
use Rattle.durable_table.proofs.TableLemmas.{table_in_more}

-- a crash at any moment of a put leaves the table before the line, or the one after it
pub put_moments : {D : Type 0} (content : D → List ℕ) (history : D → History) (s : Setup) (h : Held) (line sealed : List ℕ) (old : Chained D) (before now : History)
    → Stands content history s h old → sealed ≡ seal old.link.items line → AlwaysLeaves before now (StandsWithOrWithout (lines_in content old.lines) sealed)
    → AlwaysLeaves before now (BeforeOrAfter s h line)
put_moments content history s h line sealed old before now stands is always =
    implies always (λ left. ⊎_elim
    (λ same. inl (ap (table_in s) same ∙ stands.same))
    (λ more. inr (ap (table_in s) (more ∙ ap (λ bytes. lines_in content old.lines ++ bytes ∷ []) (is ∙ ap (λ link. seal link line) stands.link)) ∙ table_in_more s (lines_in content old.lines) line h stands.same)))

-- after it the journal stands for the table after the line
pub put_stands : {D : Type 0} (content : D → List ℕ) (history : D → History) (s : Setup) (h : Held) (line sealed : List ℕ) (old new : Chained D)
    → Stands content history s h old → sealed ≡ seal old.link.items line → IsReady content history new.lines → lines_in content new.lines ≡ lines_in content old.lines ++ sealed ∷ []
    → new.link.items ≡ link_of sealed → Stands content history s (held_line_outcome s h line).1 new
put_stands content history s h line sealed old new stands is ready more link =
    record {
      ready = ready;
      same = ap (table_in s) (more ∙ ap (λ bytes. lines_in content old.lines ++ bytes ∷ []) (is ∙ ap (λ link. seal link line) stands.link)) ∙ table_in_more s (lines_in content old.lines) line h stands.same;
      link = link ∙ sym (ap link_behind more ∙ link_all s (lines_in content old.lines) (sealed ∷ []) h stands.same);
    }

-- if nothing is written, the journal stands for the table before the line
pub no_moments : {D : Type 0} (content : D → List ℕ) (history : D → History) (s : Setup) (h : Held) (line : List ℕ) (journal : Chained D)
    → Stands content history s h journal → AlwaysLeaves (history journal.lines.device) (history journal.lines.device) (BeforeOrAfter s h line)
no_moments content history s h line journal stands =
    from_disk (history journal.lines.device) (BeforeOrAfter s h line) (content journal.lines.device) stands.ready.on_disk (inl stands.same)
