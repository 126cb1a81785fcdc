-- A table that is kept while others add to its journal.
use Rattle.std.proofs.Common.{◌≡◌, arith, ap, sym, ◌∙◌, subst, ℕ, ◌<◌, ◌^◌, true, false, List, [], ◌∷◌, ◌++◌, length, map, drop, Some, Vec}
use Rattle.std.proofs.lemmas.List.{append_cancel_left}
use Rattle.std.specs.declared.alloc.Global.{Global}
use Rattle.line_journal.specs.Device.{History}
use Rattle.line_journal.specs.Lines.{lines_of, bytes_of}
use Rattle.line_journal.specs.Journal.{IsReady, IsFound}
use Rattle.line_journal.specs.Renewed.{IsRead, ReadsAtRest}
use Rattle.line_journal.specs.declared.reading.Found.{Found}
use Rattle.line_journal.proofs.FollowLemmas.{reads_at_rest, at_rest_reads}
use Rattle.modprobe.specs.Setup.{Setup}
use Rattle.held_table.specs.Held.{Held}
use Rattle.held_lines.specs.Outcomes.{after}
use Rattle.durable_table.specs.declared.chained.Chained.{Chained}
use Rattle.durable_table.specs.Seals.{are_sealed, last_link}
use Rattle.durable_table.specs.Commands.{link_behind}
use Rattle.durable_table.specs.Tables.{table_in, table_of}
use Rattle.durable_table.specs.Durable.{Stands, Reads, ContinuesSealed}
use Rattle.durable_table.proofs.GroupLemmas.{table_in_all, link_all}

-- lines more that continue the chain are commands more
pub caught_up : {D : Type 0} (content : D → List ℕ) (s : Setup) (h now : Held) (added : List (List ℕ)) (old new : Chained D)
    → Reads content s h old → IsRead content new.lines → lines_of (content new.lines.device) ≡ lines_of (content old.lines.device) ++ added
    → are_sealed old.link.items added ≡ true → now ≡ after s h (map (drop 17) added)
    → new.link.items ≡ last_link old.link.items added → Reads content s now new
caught_up content s h now added old new reads read more sealed is link =
    record {
      read = read;
      same = ap (table_in s) more ∙ table_in_all s (lines_of (content old.lines.device)) added h reads.same (rw reads.link at sealed) ∙ ap Some (sym is);
      link = link ∙ ap (λ l. last_link l added) reads.link ∙ sym (ap link_behind more ∙ link_all s (lines_of (content old.lines.device)) added h reads.same);
    }

-- once it is on the disk, it stands for the table
pub settled : {D : Type 0} (content : D → List ℕ) (history : D → History) (s : Setup) (h : Held) (old new : Chained D)
    → Reads content s h old → IsReady content history new.lines → content new.lines.device ≡ content old.lines.device → new.link ≡ old.link → Stands content history s h new
settled content history s h old new reads ready same link =
    record {
      ready = ready;
      same = ap (table_of s) same ∙ reads.same;
      link = ap (λ (l : Vec ℕ Global). l.items) link ∙ reads.link ∙ ap (λ file. link_behind (lines_of file)) (sym same);
    }

-- a table whose turn is over reads as before
pub rested : {D : Type 0} (content : D → List ℕ) (s : Setup) (h : Held) (old new : Chained D)
    → Reads content s h old → content new.lines.device ≡ content old.lines.device → new.lines.end ≡ old.lines.end → new.link ≡ old.link → Reads content s h new
rested content s h old new reads same same_end link =
    record {
      read = subst (λ (e : ℕ). ReadsAtRest (content new.lines.device) e) (sym same_end) (subst (λ (f : List ℕ). ReadsAtRest f old.lines.end) (sym same) reads.read);
      same = ap (table_of s) same ∙ reads.same;
      link = ap (λ (l : Vec ℕ Global). l.items) link ∙ reads.link ∙ ap (λ file. link_behind (lines_of file)) (sym same);
    }

-- what stands for a table reads so
pub stands_reads : {D : Type 0} (content : D → List ℕ) (history : D → History) (s : Setup) (h : Held) (journal : Chained D)
    → Stands content history s h journal → Reads content s h journal
stands_reads content history s h journal stands =
    record { read = at_rest_reads (content journal.lines.device) (history journal.lines.device) journal.lines.end stands.ready; same = stands.same; link = stands.link }

-- a file at rest of which the table was made
pub table_read : {D : Type 0} (content : D → List ℕ) (s : Setup) (h : Held) (file : List ℕ) (found : Found) (journal : Chained D)
    → IsFound file found → found.behind.items ≡ 32 ∷ [] → length file < 2 ^ 64 → content journal.lines.device ≡ file → journal.lines.end ≡ found.end
    → table_in s (bytes_of found.lines.items) ≡ Some h → journal.link.items ≡ link_behind (bytes_of found.lines.items) → Reads content s h journal
table_read content s h file found journal is shut fits same end makes link =
    record {
      read = subst (λ (e : ℕ). ReadsAtRest (content journal.lines.device) e) (sym end)
          (subst (λ (f : List ℕ). ReadsAtRest f found.end) (sym same) (reads_at_rest file found.end is.ends (sym is.rest ∙ shut) fits));
      same = ap (table_of s) same ∙ ap (table_in s) (sym is.lines) ∙ makes;
      link = link ∙ ap link_behind is.lines ∙ ap (λ f. link_behind (lines_of f)) (sym same);
    }

-- with a line that does not continue the chain a journal does not continue
pub not_sealed : (old new : List ℕ) (link : List ℕ) (added : List (List ℕ)) → lines_of new ≡ lines_of old ++ added → link ≡ link_behind (lines_of old)
    → are_sealed link added ≡ false → ContinuesSealed old new → ⊥
not_sealed old new link added more tells changed (others, continues, sealed) =
    let same : others ≡ added = append_cancel_left (lines_of old) others added (sym continues.more ∙ more) in
    grind (arith, changed, sym sealed ∙ ap (are_sealed (link_behind (lines_of old))) same ∙ ap (λ l. are_sealed l added) (sym tells))
