-- Lines that are made as one group, and what the journal stands for while their seals are put into it.
use Rattle.std.proofs.Common.{◌≡◌, ◌⊎◌, arith, inl, inr, refl, ap, sym, ◌∙◌, subst, ℕ, ◌+◌, ◌<◌, ◌≤◌, true, false, if◌then◌else◌, List, [], ◌∷◌, ◌++◌, length, map, take, drop, get_or, Vec, Option, Some, None, option_map, length-append}
use Rattle.std.specs.Prelude.{All}
use Rattle.std.specs.declared.alloc.Global.{Global}
use Rattle.std.proofs.lemmas.Bool.{cases_lt, cases_Bool}
use Rattle.std.proofs.lemmas.List.{map-append, append-nil, length-map, get_or-map, take_more, take_all, take_at, drop_at, take-append-le, take-map}
use Rattle.std.proofs.lemmas.List.Elements.{All-nil, All-cons, All-head, All-take, All-drop, All-append, All-get_or}
use Rattle.line_journal.specs.Device.{History, AlwaysLeaves}
use Rattle.line_journal.specs.Lines.{bytes_of, lines_of, IsLine, AreLines, StandsWithFirstOf}
use Rattle.line_journal.specs.Journal.{lines_in, IsReady}
use Rattle.line_journal.proofs.Moments.{implies, from_disk}
use Rattle.modprobe.specs.Setup.{Setup}
use Rattle.held_table.specs.Held.{Held}
use Rattle.held_lines.specs.declared.reply.HeldReply.{HeldReply}
use Rattle.held_lines.specs.Laws.{KeepsHeld}
use Rattle.held_lines.specs.Outcomes.{after, held_line_outcome}
use Rattle.held_lines.specs.Reading.{is_reading}
use Rattle.durable_table.specs.declared.chained.Chained.{Chained}
use Rattle.durable_table.specs.Seals.{seal, are_sealed, last_link}
use Rattle.durable_table.specs.Commands.{link_behind, commands_of, StaysOf}
use Rattle.durable_table.specs.Tables.{opening_of, table_in}
use Rattle.durable_table.specs.Durable.{Stands}
use Rattle.durable_table.specs.Groups.{replies_of, KeepsHeldAlong, AfterFirstOf, LeavesAsMuch, AreMade}
use Rattle.durable_table.proofs.ChainLemmas.{seal_is_line, unsealed, sealed_front, sealed_more, last_link-append}
use Rattle.durable_table.proofs.CommandLemmas.{commands_of_all, of_more}

pub after-append : (s : Setup) (h : Held) (lines more : List (List ℕ)) → after s h (lines ++ more) ≡ after s (after s h lines) more
after-append s h [] more = refl
after-append s h (line ∷ lines) more = after-append s (held_line_outcome s h line).1 lines more

pub replies-append : (s : Setup) (h : Held) (lines more : List (List ℕ)) → replies_of s h (lines ++ more) ≡ replies_of s h lines ++ replies_of s (after s h lines) more
replies-append s h [] more = refl
replies-append s h (line ∷ lines) more = ap (λ rs. (held_line_outcome s h line).0 ∷ rs) (replies-append s (held_line_outcome s h line).1 lines more)

pub held-append : (s : Setup) (h : Held) (lines more : List (List ℕ)) → KeepsHeldAlong s h lines → KeepsHeldAlong s (after s h lines) more
    → KeepsHeldAlong s h (lines ++ more)
held-append s h [] more first second = second
held-append s h (line ∷ lines) more first second = (first.0, held-append s (held_line_outcome s h line).1 lines more first.1 second)

replies_more : (s : Setup) (h : Held) (lines : List (List ℕ)) (line : List ℕ)
    → replies_of s h (lines ++ line ∷ []) ≡ replies_of s h lines ++ (held_line_outcome s (after s h lines) line).0 ∷ []
replies_more s h lines line = replies-append s h lines (line ∷ [])

all_by : (s : Setup) (lines more : List (List ℕ)) (h : Held) (found : Option (List (List ℕ)))
    → commands_of lines ≡ found → option_map (after s (opening_of s)) found ≡ Some h → are_sealed (link_behind lines) more ≡ true
    → table_in s (lines ++ more) ≡ Some (after s h (map (drop 17) more))
all_by s lines more h None are is all = absurd (grind (arith, is))
all_by s lines more h (Some commands) are is all =
    grind (arith, commands_of_all lines more commands are all, after-append s (opening_of s) commands (map (drop 17) more), is)

-- the lines stand for the table after those that continue their chain, once these are behind them
pub table_in_all : (s : Setup) (lines more : List (List ℕ)) (h : Held) → table_in s lines ≡ Some h → are_sealed (link_behind lines) more ≡ true
    → table_in s (lines ++ more) ≡ Some (after s h (map (drop 17) more))
table_in_all s lines more h is all = all_by s lines more h (commands_of lines) refl is all

-- what they tell then
pub link_all : (s : Setup) (lines more : List (List ℕ)) (h : Held) → table_in s lines ≡ Some h → link_behind (lines ++ more) ≡ last_link (link_behind lines) more
link_all s [] more h is = absurd (grind (arith, is))
link_all s (first ∷ rest) more h is = last_link-append first rest more

-- a line more that is kept
keep : (s : Setup) (h : Held) (lines kept : List (List ℕ)) (line : List ℕ) → LeavesAsMuch s h lines kept → LeavesAsMuch s h (lines ++ line ∷ []) (kept ++ line ∷ [])
keep s h lines kept line so = record { all = all; each = λ k. by k (cases_lt (length kept) k) } where
  all : after s h (kept ++ line ∷ []) ≡ after s h (lines ++ line ∷ [])
  all = after-append s h kept (line ∷ []) ∙ ap (λ there. after s there (line ∷ [])) so.all ∙ sym (after-append s h lines (line ∷ []))

  by : (k : ℕ) → (length kept < k) ⊎ (k ≤ length kept)
      → (count : ℕ) × (count ≤ length (lines ++ line ∷ [])) × (after s h (take k (kept ++ line ∷ [])) ≡ after s h (take count (lines ++ line ∷ [])))
  by k (inl more) = (
    length (lines ++ line ∷ []),
    omega arith,
    ap (after s h) (take_all k (kept ++ line ∷ []) (omega (arith, more, length-append kept (line ∷ [])))) ∙ all
        ∙ sym (ap (after s h) (take_all (length (lines ++ line ∷ [])) (lines ++ line ∷ []) (omega arith))),
  )
  by k (inr within) =
      let from = so.each k in (
        from.0,
        omega (arith, from.1, length-append lines (line ∷ [])),
        ap (after s h) (take-append-le k kept (line ∷ []) within) ∙ from.2 ∙ sym (ap (after s h) (take-append-le from.0 lines (line ∷ []) from.1)),
      )

-- a line more that leaves the same
pass : (s : Setup) (h : Held) (lines kept : List (List ℕ)) (line : List ℕ) → LeavesAsMuch s h lines kept → after s h (lines ++ line ∷ []) ≡ after s h lines
    → LeavesAsMuch s h (lines ++ line ∷ []) kept
pass s h lines kept line so same =
    record {
      all = so.all ∙ sym same;
      each = λ k.
          let from = so.each k in
          (from.0, omega (arith, from.1, length-append lines (line ∷ [])), from.2 ∙ sym (ap (after s h) (take-append-le from.0 lines (line ∷ []) from.1)));
    }

-- nothing was made yet
pub made_none : (s : Setup) (h : Held) (link : List ℕ) → AreMade s h h link [] [] []
made_none s h link = record {
  answered = refl;
  becomes = refl;
  held = tt;
  seals = refl;
  are_lines = All-nil IsLine;
  kept = record { all = refl; each = λ k. (0, omega arith, ap (after s h) (take_all k [] (omega arith))) };
  idle = λ none. refl;
  asking = λ none. refl;
}

-- one line more was made
pub made_more : (s : Setup) (h now new : Held) (link : List ℕ) (lines : List (List ℕ)) (line : List ℕ) (replies : List HeldReply) (reply : HeldReply) (sealed more : List (List ℕ))
    → AreMade s h now link lines replies sealed → IsLine line → reply.reply ≡ (held_line_outcome s now line).0 → new ≡ (held_line_outcome s now line).1
    → KeepsHeld now.table new.table → (reply.changed ≡ false → new ≡ now) → (is_reading line ≡ true → reply.changed ≡ false) → more ≡ sealed ++ (if reply.changed then seal (last_link link sealed) line ∷ [] else [])
    → AreMade s h new link (lines ++ line ∷ []) (replies ++ reply ∷ []) more
made_more s h now new link lines line replies reply sealed more made is_line says leaves keeps same asks is = by (cases_Bool reply.changed) where
  Same : HeldReply → Type 0
  Same r = r.changed ≡ false

  Reads : List ℕ → Type 0
  Reads text = is_reading text ≡ true

  answered : map (λ r. r.reply) (replies ++ reply ∷ []) ≡ replies_of s h (lines ++ line ∷ [])
  answered =
      map-append (λ (r : HeldReply). r.reply) replies (reply ∷ []) ∙ ap (λ rs. rs ++ reply.reply ∷ []) made.answered
      ∙ ap (λ r. replies_of s h lines ++ r ∷ []) (says ∙ ap (λ there. (held_line_outcome s there line).0) made.becomes)
      ∙ sym (replies_more s h lines line)

  becomes : new ≡ after s h (lines ++ line ∷ [])
  becomes = leaves ∙ ap (λ there. (held_line_outcome s there line).1) made.becomes ∙ sym (after-append s h lines (line ∷ []))

  held : KeepsHeldAlong s h (lines ++ line ∷ [])
  held =
      held-append s h lines (line ∷ []) made.held
      (subst (λ (u : Held). KeepsHeld u.table (held_line_outcome s u line).1.table) made.becomes (subst (λ (u : Held). KeepsHeld now.table u.table) leaves keeps), tt)

  by : (reply.changed ≡ true) ⊎ (reply.changed ≡ false) → AreMade s h new link (lines ++ line ∷ []) (replies ++ reply ∷ []) more
  by (inl changed) =
      let sealed_too : more ≡ sealed ++ seal (last_link link sealed) line ∷ [] = is ∙ ap (λ c. sealed ++ (if c then seal (last_link link sealed) line ∷ [] else [])) changed in
      record {
        answered = answered;
        becomes = becomes;
        held = held;
        seals = ap (are_sealed link) sealed_too ∙ sealed_more link sealed line made.seals;
        are_lines = subst AreLines (sym sealed_too) (All-append IsLine sealed (seal (last_link link sealed) line ∷ []) made.are_lines
            (All-cons IsLine (seal (last_link link sealed) line) [] (seal_is_line (last_link link sealed) line is_line) (All-nil IsLine)));
        kept = subst (λ kept. LeavesAsMuch s h (lines ++ line ∷ []) kept)
            (sym (ap (map (drop 17)) sealed_too ∙ map-append (drop 17) sealed (seal (last_link link sealed) line ∷ []) ∙ ap (λ l. map (drop 17) sealed ++ l ∷ []) (unsealed (last_link link sealed) line)))
            (keep s h lines (map (drop 17) sealed) line made.kept);
        asking = λ all. absurd (grind (arith, changed, asks (All-head Reads line [] (subst (All Reads) (drop_at lines (line ∷ []) (length lines) refl) (All-drop Reads (length lines) (lines ++ line ∷ []) all)))));
        idle = λ none. absurd (grind (arith, changed, All-head Same reply [] (subst (All Same) (drop_at replies (reply ∷ []) (length replies) refl) (All-drop Same (length replies) (replies ++ reply ∷ []) none))));
      }
  by (inr idle) =
      let same_seals : more ≡ sealed = is ∙ ap (λ c. sealed ++ (if c then seal (last_link link sealed) line ∷ [] else [])) idle ∙ append-nil sealed in
      record {
        answered = answered;
        becomes = becomes;
        held = held;
        seals = ap (are_sealed link) same_seals ∙ made.seals;
        are_lines = subst AreLines (sym same_seals) made.are_lines;
        kept = subst (λ kept. LeavesAsMuch s h (lines ++ line ∷ []) (map (drop 17) kept)) (sym same_seals)
            (pass s h lines (map (drop 17) sealed) line made.kept (sym becomes ∙ same idle ∙ made.becomes));
        asking = λ all. same_seals ∙ made.asking (subst (All Reads) (take_at lines (line ∷ []) (length lines) refl) (All-take Reads (length lines) (lines ++ line ∷ []) all));
        idle = λ none. same_seals ∙ made.idle (subst (All Same) (take_at replies (reply ∷ []) (length replies) refl) (All-take Same (length replies) (replies ++ reply ∷ []) none));
      }

-- the first of some lines, and one more
pub one_more : (lines : List (Vec ℕ Global)) (i : ℕ) (line : Vec ℕ Global) → i < length lines → line ≡ get_or lines i line
    → bytes_of (take (i + 1) lines) ≡ bytes_of (take i lines) ++ line.items ∷ []
one_more lines i line below is =
    ap bytes_of (take_more lines i line below) ∙ map-append (λ (v : Vec ℕ Global). v.items) (take i lines) (get_or lines i line ∷ [])
    ∙ ap (λ (v : Vec ℕ Global). bytes_of (take i lines) ++ v.items ∷ []) (sym is)

-- the next of some lines was made
pub made_next : (s : Setup) (h now new : Held) (link : List ℕ) (lines : List (Vec ℕ Global)) (i : ℕ) (line : Vec ℕ Global) (text : List ℕ) (replies : List HeldReply) (reply : HeldReply) (sealed more : List (List ℕ))
    → i < length lines → line ≡ get_or lines i line → AreLines (bytes_of lines) → text ≡ line.items
    → AreMade s h now link (bytes_of (take i lines)) replies sealed → reply.reply ≡ (held_line_outcome s now text).0 → new ≡ (held_line_outcome s now text).1
    → KeepsHeld now.table new.table → (reply.changed ≡ false → new ≡ now) → (is_reading text ≡ true → reply.changed ≡ false) → more ≡ sealed ++ (if reply.changed then seal (last_link link sealed) text ∷ [] else [])
    → AreMade s h new link (bytes_of (take (i + 1) lines)) (replies ++ reply ∷ []) more
made_next s h now new link lines i line text replies reply sealed more below is are text_is made says leaves keeps same asks sealed_is =
    let at : get_or (bytes_of lines) i text ≡ text =
    get_or-map (λ (v : Vec ℕ Global). v.items) lines i line text below ∙ ap (λ (v : Vec ℕ Global). v.items) (sym is) ∙ sym text_is in
    let is_line : IsLine text = subst IsLine at (All-get_or IsLine (bytes_of lines) i text (omega (arith, below, length-map lines (λ (v : Vec ℕ Global). v.items))) are) in
    subst (λ made_lines. AreMade s h new link made_lines (replies ++ reply ∷ []) more)
    (ap (λ t. bytes_of (take i lines) ++ t ∷ []) text_is ∙ sym (one_more lines i line below is))
    (made_more s h now new link (bytes_of (take i lines)) text replies reply sealed more made is_line says leaves keeps same asks sealed_is)

-- a crash at any moment of a group leaves the table after the first of its lines
pub group_moments : {D : Type 0} (content : D → List ℕ) (history : D → History) (s : Setup) (h new : Held) (lines sealed written : List (List ℕ)) (replies : List HeldReply) (old : Chained D) (before now : History)
    → Stands content history s h old → AreMade s h new old.link.items lines replies sealed → written ≡ sealed → AlwaysLeaves before now (StandsWithFirstOf (lines_in content old.lines) written)
    → AlwaysLeaves before now (AfterFirstOf s h lines)
group_moments content history s h new lines sealed written replies old before now stands made is always =
    implies (subst (λ l. AlwaysLeaves before now (StandsWithFirstOf (lines_in content old.lines) l)) is always) (λ left first.
    let from = made.kept.each first.0 in (
      from.0,
      from.1,
      ap (table_in s) first.2 ∙ table_in_all s (lines_in content old.lines) (take first.0 sealed) h stands.same (sealed_front (link_behind (lines_in content old.lines)) sealed first.0 (rw stands.link at made.seals))
          ∙ ap (λ commands. Some (after s h commands)) (sym (take-map (drop 17) first.0 sealed)) ∙ ap Some from.2,
    ))

-- and a journal of each setup that it was of
pub group_of : (old written : List (List ℕ)) (before now : History) → AlwaysLeaves before now (StandsWithFirstOf old written) → AlwaysLeaves before now (λ file. StaysOf old (lines_of file))
group_of old written before now always = implies always (λ left first. of_more old (lines_of left) (take first.0 written) first.2)

-- after it the journal stands for the table after all of them
pub group_stands : {D : Type 0} (content : D → List ℕ) (history : D → History) (s : Setup) (h now : Held) (lines sealed written : List (List ℕ)) (replies : List HeldReply) (old new : Chained D)
    → Stands content history s h old → AreMade s h now old.link.items lines replies sealed → written ≡ sealed → IsReady content history new.lines
    → lines_in content new.lines ≡ lines_in content old.lines ++ written → new.link.items ≡ last_link old.link.items written → Stands content history s now new
group_stands content history s h now lines sealed written replies old new stands made is ready more link =
    record {
      ready = ready;
      same = ap (table_in s) (more ∙ ap (λ l. lines_in content old.lines ++ l) is) ∙ table_in_all s (lines_in content old.lines) sealed h stands.same (rw stands.link at made.seals)
          ∙ ap Some (made.kept.all ∙ sym made.becomes);
      link = link ∙ ap (λ l. last_link l written) stands.link ∙ sym (ap link_behind more ∙ link_all s (lines_in content old.lines) written h stands.same);
    }

-- if nothing is written, the journal stands for the table before the lines
pub none_written : {D : Type 0} (content : D → List ℕ) (history : D → History) (s : Setup) (h : Held) (lines : List (List ℕ)) (journal : Chained D)
    → Stands content history s h journal → AlwaysLeaves (history journal.lines.device) (history journal.lines.device) (AfterFirstOf s h lines)
none_written content history s h lines journal stands =
    from_disk (history journal.lines.device) (AfterFirstOf s h lines) (content journal.lines.device) stands.ready.on_disk (0, omega arith, stands.same)

-- and is a journal of each setup that it was of
pub none_written_of : {D : Type 0} (content : D → List ℕ) (history : D → History) (s : Setup) (h : Held) (journal : Chained D)
    → Stands content history s h journal → AlwaysLeaves (history journal.lines.device) (history journal.lines.device) (λ file. StaysOf (lines_in content journal.lines) (lines_of file))
none_written_of content history s h journal stands =
    from_disk (history journal.lines.device) (λ file. StaysOf (lines_in content journal.lines) (lines_of file)) (content journal.lines.device) stands.ready.on_disk (λ name of. of)

-- that is the table after them, if none of them was kept
pub idle_stands : {D : Type 0} (content : D → List ℕ) (history : D → History) (s : Setup) (h now : Held) (lines sealed : List (List ℕ)) (replies : List HeldReply) (journal : Chained D)
    → Stands content history s h journal → AreMade s h now journal.link.items lines replies sealed → length sealed ≡ 0 → Stands content history s now journal
idle_stands content history s h now lines [] replies journal stands made none =
    record {
      ready = stands.ready;
      same = stands.same ∙ ap Some (made.kept.all ∙ sym made.becomes);
      link = stands.link;
    }
idle_stands content history s h now lines (first ∷ rest) replies journal stands made none = absurd (omega (arith, none))
