-- A journal whose lines others added to.
use Rattle.std.proofs.Common.{◌≡◌, ℕ, ◌<◌, ◌^◌, List, [], ◌∷◌, ◌++◌, length, take, drop, Result, Ok, Err, IfOk, refl, sym, ◌∙◌, ap, subst, arith}
use Rattle.std.proofs.lemmas.List.{append-nil, drop_at}
use Rattle.line_journal.specs.Device.{History}
use Rattle.line_journal.specs.Lines.{lines_of, open_text, behind, bytes_of, IsWhole}
use Rattle.line_journal.specs.Journal.{IsAtRest}
use Rattle.line_journal.specs.Renewed.{StaysTo, ReadsAtRest, Continues, IsFollowed, IsAdded}
use Rattle.line_journal.specs.declared.device.DeviceError.{DeviceError}
use Rattle.line_journal.specs.declared.journal.Journal.{Journal}
use Rattle.line_journal.specs.declared.following.Followed.{Followed}
use Rattle.line_journal.specs.declared.following.Followed.TheVariants.{AtRest, Anew}
use Rattle.line_journal.proofs.LineLemmas.{length-at_rest}
use Rattle.line_journal.proofs.RepairLemmas.{is_whole, cut_is}
use Rattle.line_journal.proofs.BehindLemmas.{read_before}

-- a file with nothing but a closed gate behind its lines
pub reads_at_rest : (file : List ℕ) (end : ℕ) → end ≡ length (open_text (lines_of file)) → behind file ≡ 32 ∷ [] → length file < 2 ^ 64 → ReadsAtRest file end
reads_at_rest file end ends shut fits =
    let whole = is_whole file end ends shut in
    record {
      whole = whole;
      ends = ends;
      fits = omega (arith, ends, fits, ap length whole, length-at_rest (lines_of file));
    }

-- a file at rest reads as one
pub at_rest_reads : (file : List ℕ) (history : History) (end : ℕ) → IsAtRest file history end → ReadsAtRest file end
at_rest_reads file history end rests = record { whole = rests.whole; ends = rests.ends; fits = rests.fits }

-- a file is not at rest if something else stands behind its lines than a closed gate
pub not_at_rest : (file bytes : List ℕ) → bytes ≡ behind file → (bytes ≡ 32 ∷ [] → ⊥) → (end : ℕ) → ReadsAtRest file end → ⊥
not_at_rest file bytes is other end rests =
    let size = length (open_text (lines_of file)) in
    other (is ∙ ap (λ (l : List ℕ). drop size l) rests.whole ∙ drop_at (open_text (lines_of file)) (32 ∷ []) size refl)

-- the first bytes of a file stay as long as it has only more lines
pub stays_with_more : (old new : List ℕ) (end : ℕ) (added : List (List ℕ)) → ReadsAtRest old end → Continues old new added → StaysTo end old new
stays_with_more old new end added read continues =
    let before = read_before new (lines_of old) added end continues.more read.ends in
    record {
      within = before.within;
      front = before.whole ∙ ap open_text before.same ∙ sym (cut_is old end read.ends);
    }

-- the lines that stay are those that were read
pub record KnownFront (old new : List ℕ) (end : ℕ) : Type 0 where
  pub whole : IsWhole (take end new)
  pub same : lines_of (take end new) ≡ lines_of old

pub known_front : (old new : List ℕ) (end : ℕ) → ReadsAtRest old end → StaysTo end old new → KnownFront old new end
known_front old new end read stays =
    let before = read_before old (lines_of old) [] end (sym (append-nil (lines_of old))) read.ends in
    record {
      whole = subst IsWhole (sym stays.front) before.whole;
      same = ap lines_of stays.front ∙ before.same;
    }

-- lines behind those that stay are lines more
pub followed_by : {D : Type 0} (content : D → List ℕ) (old mid new : Journal D) (result : Result Followed DeviceError) → lines_of (take mid.end (content mid.device)) ≡ lines_of (content old.device)
    → IfOk result (IsAdded content mid new) → IfOk result (IsFollowed content old new)
followed_by content old mid new (Ok (AtRest lines)) same added = (added.0, added.1 ∙ ap (λ (ls : List (List ℕ)). ls ++ bytes_of lines.items) same)
followed_by content old mid new (Ok Anew) same torn = λ added continues. torn continues.end continues.rests
followed_by content old mid new (Err error) same added = added
