-- A journal of commands that make a table, and what it stands for while it is rewritten.
use Rattle.std.proofs.Common.{◌≡◌, arith, refl, true, ap, sym, ◌∙◌, ⊎_elim, ℕ, ◌<◌, ◌≤◌, ◌+◌, ◌-◌, List, [], ◌∷◌, ◌++◌, length, map, take, drop, get_or, Vec, Some}
use Rattle.std.specs.List.{drop-map}
use Rattle.std.specs.declared.alloc.Global.{Global}
use Rattle.std.proofs.lemmas.List.{take_rest}
use Rattle.line_journal.specs.Device.{History, AlwaysLeaves}
use Rattle.line_journal.specs.Lines.{bytes_of, lines_of, AreLines, StandsForEither}
use Rattle.line_journal.specs.Journal.{lines_in, IsReady}
use Rattle.line_journal.proofs.Moments.{implies, from_disk}
use Rattle.modprobe.specs.Setup.{Setup}
use Rattle.held_table.specs.Held.{Held}
use Rattle.held_lines.specs.Outcomes.{after}
use Rattle.held_lines.specs.Snapshots.{snapshot_of}
use Rattle.durable_table.specs.declared.chained.Chained.{Chained}
use Rattle.durable_table.specs.Seals.{seal, chain}
use Rattle.durable_table.specs.Commands.{head, is_of, link_behind}
use Rattle.durable_table.specs.Tables.{opening_of, table_in}
use Rattle.durable_table.specs.Durable.{Stands, FileStands}
use Rattle.durable_table.specs.Compacting.{journal_of, compacted, IsRemade, CanBeRemade}
use Rattle.durable_table.proofs.ChainLemmas.{chain_is_sealed, chain_unsealed, chain_more}
use Rattle.durable_table.proofs.CommandLemmas.{head_is_head, head_is_of}
use Rattle.durable_table.proofs.GroupLemmas.{one_more}

-- the journal of commands stands for the table after them
pub table_in_journal : (name : List ℕ) (s : Setup) (commands : List (List ℕ)) → table_in s (journal_of name commands) ≡ Some (after s (opening_of s) commands)
table_in_journal name s commands = grind (arith, head_is_head name, chain_is_sealed (head name) commands, chain_unsealed (head name) commands)

-- the line of a command more
pub journal_more : (name : List ℕ) (commands : List (Vec ℕ Global)) (i : ℕ) (command : Vec ℕ Global) (lines : List (List ℕ)) (line : List ℕ) → i < length commands → command ≡ get_or commands i command
    → lines ≡ journal_of name (bytes_of (take i commands)) → line ≡ seal (link_behind lines) command.items → lines ++ line ∷ [] ≡ journal_of name (bytes_of (take (i + 1) commands))
journal_more name commands i command lines line below is made sealed =
    let front = bytes_of (take i commands) in
    ap (λ l. l ++ line ∷ []) made
    ∙ ap (λ l. journal_of name front ++ l ∷ []) (sealed ∙ ap (λ l. seal (link_behind l) command.items) made)
    ∙ ap (λ l. head name ∷ l) (sym (chain_more (head name) front command.items))
    ∙ ap (journal_of name) (sym (one_more commands i command below is))

remade : (name : List ℕ) (s : Setup) (h : Held) (lines : List (List ℕ)) → IsRemade name s h lines → table_in s lines ≡ Some h
remade name s h lines made = ap (table_in s) made.is ∙ table_in_journal name s (snapshot_of s h) ∙ ap Some made.makes

-- the commands of a journal that is the snapshot's
pub snapshot_behind : (name : List ℕ) (s : Setup) (h : Held) (lines rest : List (Vec ℕ Global)) → bytes_of lines ≡ compacted name s h → rest ≡ drop 1 lines → snapshot_of s h ≡ map (drop 17) (bytes_of rest)
snapshot_behind name s h lines rest is rest_is =
    sym (chain_unsealed (head name) (snapshot_of s h)) ∙ ap (λ l. map (drop 17) (drop 1 l)) (sym is)
    ∙ ap (map (drop 17)) (drop-map (λ (v : Vec ℕ Global). v.items) 1 lines) ∙ ap (λ l. map (drop 17) (bytes_of l)) (sym rest_is)

-- a second table is the one after the lines
pub second_table : (s : Setup) (fresh other : Held) (lines : List (Vec ℕ Global)) → fresh ≡ opening_of s → other ≡ after s fresh (map (drop 17) (bytes_of (take (length lines - 1) (drop 1 lines))))
    → other ≡ after s (opening_of s) (map (drop 17) (bytes_of (drop 1 lines)))
second_table s fresh other lines opening from =
    from ∙ ap (λ l. after s fresh (map (drop 17) (bytes_of l))) (take_rest lines 1) ∙ ap (λ (start : Held). after s start (map (drop 17) (bytes_of (drop 1 lines)))) opening

-- what a second table shows
pub remade_by : (name : List ℕ) (s : Setup) (h other : Held) (lines rest : List (Vec ℕ Global)) → bytes_of lines ≡ compacted name s h → rest ≡ drop 1 lines → AreLines (bytes_of lines)
    → other ≡ after s (opening_of s) (map (drop 17) (bytes_of rest)) → other ≡ h → IsRemade name s h (bytes_of lines)
remade_by name s h other lines rest is rest_is are made same =
    record { is = is; are_lines = are; makes = ap (after s (opening_of s)) (snapshot_behind name s h lines rest is rest_is) ∙ sym made ∙ same }

-- a table that can be remade is the second one
pub other_is_same : (name : List ℕ) (s : Setup) (h other : Held) (lines rest : List (Vec ℕ Global)) → bytes_of lines ≡ compacted name s h → rest ≡ drop 1 lines
    → other ≡ after s (opening_of s) (map (drop 17) (bytes_of rest)) → CanBeRemade name s h → other ≡ h
other_is_same name s h other lines rest is rest_is made can = made ∙ ap (after s (opening_of s)) (sym (snapshot_behind name s h lines rest is rest_is)) ∙ can.makes

-- a crash at any moment of a rewriting leaves the same table
pub rewrite_moments : {D : Type 0} (content : D → List ℕ) (history : D → History) (name : List ℕ) (s : Setup) (h : Held) (lines written : List (List ℕ)) (old : Chained D) (before now : History)
    → Stands content history s h old → IsRemade name s h lines → written ≡ lines → AlwaysLeaves before now (StandsForEither (lines_in content old.lines) written)
    → AlwaysLeaves before now (FileStands s h)
rewrite_moments content history name s h lines written old before now stands made is always =
    implies always (λ left. ⊎_elim (λ same. ap (table_in s) same ∙ stands.same) (λ new. ap (table_in s) (new ∙ is) ∙ remade name s h lines made))

-- after it the journal stands for the table
pub rewrite_stands : {D : Type 0} (content : D → List ℕ) (history : D → History) (name : List ℕ) (s : Setup) (h : Held) (lines written : List (List ℕ)) (new : Chained D)
    → IsRemade name s h lines → written ≡ lines → IsReady content history new.lines → lines_in content new.lines ≡ written → new.link.items ≡ link_behind written → Stands content history s h new
rewrite_stands content history name s h lines written new made is ready written_is link =
    record { ready = ready; same = ap (table_in s) (written_is ∙ is) ∙ remade name s h lines made; link = link ∙ ap link_behind (sym written_is) }

-- the lines of a journal have a first
pub has_first : (name : List ℕ) (lines : List (Vec ℕ Global)) (commands : List (List ℕ)) → bytes_of lines ≡ journal_of name commands → 1 ≤ length lines
has_first name [] commands is = absurd (omega (arith, ap length is))
has_first name (first ∷ rest) commands is = omega arith

-- and is of the setup for which it was rewritten
pub rewrite_of : (name : List ℕ) (s : Setup) (h : Held) (lines written : List (List ℕ)) → IsRemade name s h lines → written ≡ lines → is_of name written ≡ true
rewrite_of name s h lines written made is = ap (is_of name) (is ∙ made.is) ∙ head_is_of name (chain (head name) (snapshot_of s h))

-- a crash at any moment of a rewriting leaves a journal of this setup, if it was one of it
pub rewrite_any_of : (name : List ℕ) (s : Setup) (h : Held) (lines old : List (List ℕ)) (before now : History) → IsRemade name s h lines → is_of name old ≡ true
    → AlwaysLeaves before now (StandsForEither old lines) → AlwaysLeaves before now (λ file. is_of name (lines_of file) ≡ true)
rewrite_any_of name s h lines old before now made of always =
    implies always (λ left. ⊎_elim (λ same. ap (is_of name) same ∙ of) (λ new. rewrite_of name s h lines (lines_of left) made new))

-- if nothing is written, it is one of it
pub still_of : {D : Type 0} (content : D → List ℕ) (history : D → History) (s : Setup) (h : Held) (name : List ℕ) (journal : Chained D)
    → Stands content history s h journal → is_of name (lines_in content journal.lines) ≡ true
    → AlwaysLeaves (history journal.lines.device) (history journal.lines.device) (λ file. is_of name (lines_of file) ≡ true)
still_of content history s h name journal stands of =
    from_disk (history journal.lines.device) (λ file. is_of name (lines_of file) ≡ true) (content journal.lines.device) stands.ready.on_disk of

-- if nothing is written, the journal stands for the table
pub still_stands : {D : Type 0} (content : D → List ℕ) (history : D → History) (s : Setup) (h : Held) (journal : Chained D)
    → Stands content history s h journal → AlwaysLeaves (history journal.lines.device) (history journal.lines.device) (FileStands s h)
still_stands content history s h journal stands =
    from_disk (history journal.lines.device) (FileStands s h) (content journal.lines.device) stands.ready.on_disk stands.same
