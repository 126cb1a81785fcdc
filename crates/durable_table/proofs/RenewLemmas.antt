-- Lines that are compared one by one, and a journal that is rewritten for another setup.
use Rattle.std.proofs.Common.{◌≡◌, ◌∙◌, arith, ap, sym, subst, true, ⊎_elim, inl, inr, ℕ, ◌<◌, ◌+◌, List, [], ◌∷◌, ◌++◌, length, map, take, drop, get_or, Vec}
use Rattle.std.specs.declared.alloc.Global.{Global}
use Rattle.std.proofs.lemmas.List.{get_or-map, take_all}
use Rattle.line_journal.specs.Device.{History, AlwaysLeaves}
use Rattle.line_journal.specs.Lines.{bytes_of, lines_of, AreLines, StandsForEither}
use Rattle.line_journal.specs.Journal.{lines_in}
use Rattle.line_journal.proofs.Moments.{implies}
use Rattle.modprobe.specs.Setup.{Setup}
use Rattle.held_table.specs.Held.{Held}
use Rattle.held_lines.specs.Outcomes.{after}
use Rattle.held_lines.specs.Snapshots.{snapshot_of}
use Rattle.durable_table.specs.declared.chained.Chained.{Chained}
use Rattle.durable_table.specs.Seals.{chain}
use Rattle.durable_table.specs.Commands.{head, is_of}
use Rattle.durable_table.specs.Tables.{opening_of, table_in}
use Rattle.durable_table.specs.Durable.{Stands}
use Rattle.durable_table.specs.Compacting.{compacted}
use Rattle.durable_table.specs.Renewing.{CanBeRenewed, IsRenewal, OldOrRenewal, renewed}
use Rattle.durable_table.proofs.CommandLemmas.{head_is_of}
use Rattle.durable_table.proofs.CompactLemmas.{snapshot_behind, still_stands, table_in_journal}
use Rattle.durable_table.proofs.GroupLemmas.{one_more}

-- one more of each is the same
pub same_more : (lines others : List (Vec ℕ Global)) (i : ℕ) (line other : Vec ℕ Global) → i < length lines → i < length others → line ≡ get_or lines i line → other ≡ get_or others i other
    → line.items ≡ other.items → bytes_of (take i lines) ≡ bytes_of (take i others) → bytes_of (take (i + 1) lines) ≡ bytes_of (take (i + 1) others)
same_more lines others i line other below within is other_is same front =
    one_more lines i line below is ∙ ap (λ f. f ++ line.items ∷ []) front ∙ ap (λ l. bytes_of (take i others) ++ l ∷ []) same ∙ sym (one_more others i other within other_is)

-- of the same lines each is the same
pub same_at : (lines others : List (Vec ℕ Global)) (i : ℕ) (line other : Vec ℕ Global) → i < length lines → i < length others → line ≡ get_or lines i line → other ≡ get_or others i other
    → bytes_of lines ≡ bytes_of others → line.items ≡ other.items
same_at lines others i line other below within is other_is same =
    ap (λ (v : Vec ℕ Global). v.items) is ∙ sym (get_or-map (λ (v : Vec ℕ Global). v.items) lines i line [] below)
    ∙ ap (λ l. get_or l i []) same ∙ get_or-map (λ (v : Vec ℕ Global). v.items) others i other [] within ∙ sym (ap (λ (v : Vec ℕ Global). v.items) other_is)

-- all of each are the same
pub whole_same : (lines others : List (Vec ℕ Global)) (i : ℕ) → i ≡ length lines → length lines ≡ length others → bytes_of (take i lines) ≡ bytes_of (take i others) → bytes_of lines ≡ bytes_of others
whole_same lines others i end long same =
    sym (ap bytes_of (take_all i lines (omega (arith, end)))) ∙ same ∙ ap bytes_of (take_all i others (omega (arith, end, long)))

-- a file of the lines that make the table is of the other setup
renewal_of : (name : List ℕ) (s : Setup) (h : Held) (next : Setup) (file : List ℕ) → lines_of file ≡ compacted name s h → CanBeRenewed name s h next → IsRenewal name s h next file
renewal_of name s h next file is can =
    record {
      of = ap (is_of name) is ∙ head_is_of name (chain (head name) (snapshot_of s h));
      stands = ap (table_in next) is ∙ table_in_journal name next (snapshot_of s h);
      same = can.same;
    }

-- after a rewriting the file is of the other setup
pub renewed_file : (name : List ℕ) (s : Setup) (h : Held) (next : Setup) (file : List ℕ) (lines written : List (List ℕ)) → lines ≡ compacted name s h → written ≡ lines → lines_of file ≡ written
    → CanBeRenewed name s h next → IsRenewal name s h next file
renewed_file name s h next file lines written is same has can = renewal_of name s h next file (has ∙ same ∙ is) can

-- a crash at any moment of it leaves the table, or the other setup's
pub renewal_moments : {D : Type 0} (content : D → List ℕ) (history : D → History) (name : List ℕ) (s : Setup) (h : Held) (next : Setup) (lines written : List (List ℕ)) (old : Chained D) (before now : History)
    → Stands content history s h old → lines ≡ compacted name s h → CanBeRenewed name s h next → written ≡ lines → AlwaysLeaves before now (StandsForEither (lines_in content old.lines) written)
    → AlwaysLeaves before now (OldOrRenewal name s h next)
renewal_moments content history name s h next lines written old before now stands is can same always =
    implies always (λ left. ⊎_elim (λ old_lines. inl (ap (table_in s) old_lines ∙ stands.same)) (λ new. inr (renewed_file name s h next left lines written is same new can)))

-- if nothing is written, it leaves the table
pub still_old : {D : Type 0} (content : D → List ℕ) (history : D → History) (name : List ℕ) (s : Setup) (h : Held) (next : Setup) (journal : Chained D)
    → Stands content history s h journal → AlwaysLeaves (history journal.lines.device) (history journal.lines.device) (OldOrRenewal name s h next)
still_old content history name s h next journal stands = implies (still_stands content history s h journal stands) (λ left. inl)

-- its snapshot is that of the lines' table
pub renewed_shown : (name : List ℕ) (s : Setup) (h : Held) (next : Setup) (fresh : Held) (lines rest others : List (Vec ℕ Global)) → bytes_of lines ≡ compacted name s h → rest ≡ drop 1 lines → fresh ≡ opening_of next
    → bytes_of others ≡ snapshot_of next (after next fresh (map (drop 17) (bytes_of rest))) → bytes_of others ≡ snapshot_of next (renewed s h next)
renewed_shown name s h next fresh lines rest others is rest_is opening shown =
    shown ∙ ap (λ (start : Held). snapshot_of next (after next start (map (drop 17) (bytes_of rest)))) opening
    ∙ ap (λ commands. snapshot_of next (after next (opening_of next) commands)) (sym (snapshot_behind name s h lines rest is rest_is))

-- what the other setup's table shows
pub can_be_renewed : (name : List ℕ) (s : Setup) (h : Held) (next : Setup) (fresh : Held) (lines rest others commands : List (Vec ℕ Global)) → bytes_of lines ≡ compacted name s h → rest ≡ drop 1 lines → fresh ≡ opening_of next
    → AreLines (bytes_of lines) → bytes_of others ≡ snapshot_of next (after next fresh (map (drop 17) (bytes_of rest))) → bytes_of commands ≡ snapshot_of s h → bytes_of others ≡ bytes_of commands
    → CanBeRenewed name s h next
can_be_renewed name s h next fresh lines rest others commands is rest_is opening are shown snapshot same =
    record { are_lines = subst AreLines is are; same = sym (renewed_shown name s h next fresh lines rest others is rest_is opening shown) ∙ same ∙ snapshot }
