-- Lines that ask, one after another.
use Rattle.std.proofs.Common.{◌≡◌, refl, sym, ap, subst, ◌∙◌, ℕ, ◌+◌, ◌<◌, ◌≤◌, true, List, [], ◌∷◌, ◌++◌, length, map, take, get_or, Vec, arith}
use Rattle.std.specs.declared.alloc.Global.{Global}
use Rattle.std.proofs.lemmas.List.{take-map, take_more, take_all, get_or-map, length-map}
use Rattle.std.specs.Prelude.{All}
use Rattle.std.proofs.lemmas.List.Elements.{All-head, All-tail, All-push, All-take}
use Rattle.line_journal.specs.Lines.{IsLine, AreLines, bytes_of}
use Rattle.modprobe.specs.Setup.{Setup}
use Rattle.held_table.specs.Held.{Held}
use Rattle.held_lines.specs.declared.reply.HeldReply.{HeldReply}
use Rattle.held_lines.specs.Outcomes.{after}
use Rattle.held_lines.specs.Reading.{is_reading}
use Rattle.held_lines.proofs.ReadingLemmas.{reads_only}
use Rattle.durable_table.specs.declared.chained.Chained.{Chained}
use Rattle.durable_table.specs.Durable.{Reads}
use Rattle.durable_table.specs.Groups.{replies_of}
use Rattle.gz_table_drive.specs.declared.answering.Replies.{Replies}
use Rattle.gz_table_drive.specs.Answers.{HasMore, HasAnswered}

abbrev pub Asks : List ℕ → Type 0
Asks line = is_reading line ≡ true

-- they leave the table and its holders as they are
pub asks_same : (s : Setup) (h : Held) (lines : List (List ℕ)) → All Asks lines → after s h lines ≡ h
asks_same s h [] asks = refl
asks_same s h (line ∷ lines) asks =
    ap (λ there. after s there lines) (reads_only s h line (All-head Asks line lines asks)) ∙ asks_same s h lines (All-tail Asks line lines asks)

-- the first of them
pub asks_first : (count : ℕ) (lines : List (Vec ℕ Global)) → All Asks (bytes_of lines) → All Asks (bytes_of (take count lines))
asks_first count lines asks =
    subst (All Asks) (take-map (λ (v : Vec ℕ Global). v.items) count lines) (All-take Asks count (bytes_of lines) asks)

pub lines_first : (count : ℕ) (lines : List (Vec ℕ Global)) → AreLines (bytes_of lines) → AreLines (bytes_of (take count lines))
lines_first count lines are =
    subst AreLines (take-map (λ (v : Vec ℕ Global). v.items) count lines) (All-take IsLine count (bytes_of lines) are)

-- a table of which the first lines were asked still reads as its journal does
pub reads_still : {D : Type 0} (content : D → List ℕ) (s : Setup) (h now : Held) (count : ℕ) (lines : List (Vec ℕ Global)) (old new : Chained D)
    → Reads content s h old → All Asks (bytes_of lines) → now ≡ after s h (bytes_of (take count lines)) → new ≡ old → Reads content s now new
reads_still content s h now count lines old new reads asks is same =
    subst (λ journal. Reads content s now journal) (sym same)
    (subst (λ there. Reads content s there old) (sym (is ∙ asks_same s h (bytes_of (take count lines)) (asks_first count lines asks))) reads)

-- the replies to the first lines, once they are there
pub asked : (s : Setup) (h : Held) (count : ℕ) (lines : List (Vec ℕ Global)) (made answered : List HeldReply) (old new : Replies)
    → answered ≡ made → map (λ r. r.reply) made ≡ replies_of s h (bytes_of (take count lines)) → HasMore (map (λ r. r.reply) answered) old new
    → HasAnswered s h (take count (bytes_of lines)) old new
asked s h count lines made answered old new same are has =
    subst (λ replies. HasMore replies old new)
    (ap (map (λ (r : HeldReply). r.reply)) same ∙ are ∙ ap (replies_of s h) (sym (take-map (λ (v : Vec ℕ Global). v.items) count lines))) has

-- one more of them
pub asks_more : (lines : List (Vec ℕ Global)) (index : ℕ) (line : Vec ℕ Global) (text : List ℕ) → index < length lines → line ≡ get_or lines index line → text ≡ line.items
    → Asks text → All Asks (take index (bytes_of lines)) → All Asks (take (index + 1) (bytes_of lines))
asks_more lines index line text lt at is asks so_far =
    let one : take (index + 1) (bytes_of lines) ≡ take index (bytes_of lines) ++ line.items ∷ [] =
    take_more (bytes_of lines) index line.items (omega (arith, lt, length-map lines (λ (v : Vec ℕ Global). v.items)))
    ∙ ap (λ (l : List ℕ). take index (bytes_of lines) ++ l ∷ []) (get_or-map (λ (v : Vec ℕ Global). v.items) lines index line line.items lt ∙ ap (λ (v : Vec ℕ Global). v.items) (sym at)) in
    subst (All Asks) (sym one) (All-push Asks (take index (bytes_of lines)) line.items so_far (subst Asks is asks))

-- all of them
pub asks_all : (lines : List (Vec ℕ Global)) (index : ℕ) → length lines ≤ index → All Asks (take index (bytes_of lines)) → All Asks (bytes_of lines)
asks_all lines index all asks =
    subst (All Asks) (take_all index (bytes_of lines) (omega (arith, all, length-map lines (λ (v : Vec ℕ Global). v.items)))) asks
