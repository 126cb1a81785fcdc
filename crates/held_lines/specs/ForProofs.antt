-- What the contracts of private functions say, for the proofs of the public ones.
use Rattle.std.specs.Prelude.{◌≡◌, ℕ, ◌<◌, nat_lt, false, List, length, Option, ⊤}
use Rattle.text_parts.specs.Text.{texts_of}
use Rattle.held_table.specs.Names.{name_bytes}
use Rattle.modprobe.specs.Setup.{Setup, name_at}
use Rattle.modprobe.specs.Refusals.{Refusal, refuse}
use Rattle.modprobe.specs.Outcomes.{Outcome, refused}
use Rattle.modprobe.specs.declared.refusal.Code.TheVariants.{Worker}
use Rattle.held_lines.specs.Outcomes.{first_name}
use Rattle.held_lines.specs.declared.gets.TakeError.{TakeError}
use Rattle.held_lines.specs.declared.gets.TakeError.TheVariants as take_error
use Rattle.held_lines.specs.declared.book_copy.BookCopy.{BookCopy}
use Rattle.dep_index.specs.Table.{Table}
use Rattle.held_lines.specs.declared.reply.HeldReply.{HeldReply}
use Rattle.held_table.specs.Held.{Held}
use Rattle.held_lines.specs.Holds.{gets}
use Rattle.held_lines.specs.declared.asked.Asked.{Asked}
use Rattle.held_lines.specs.declared.asked.Asked.TheVariants as asked_is
use Rattle.held_lines.specs.Lines as meaning

-- what the code's questions stand for
abbrev pub asked_from : Asked → meaning.Asked
asked_from asked_is.AsSession = meaning.as_session
asked_from (asked_is.Malformed first) = meaning.malformed first.now
asked_from (asked_is.Refer reference holder name) = meaning.refer reference (name_bytes holder) name
asked_from (asked_is.Half half name) = meaning.half half name
asked_from (asked_is.Hold again holder words) = meaning.hold again (name_bytes holder) (texts_of words.now)
asked_from (asked_is.Release holder words) = meaning.release (name_bytes holder) (texts_of words.now)
asked_from (asked_is.ReleaseAll holder) = meaning.release_all (name_bytes holder)
asked_from (asked_is.Holders name) = meaning.holders name
asked_from (asked_is.HeldBy holder) = meaning.held_by (name_bytes holder)
asked_from asked_is.Held = meaning.held

-- the error tells the refusal, unless memory ran out
abbrev pub Tells : Setup → TakeError → Option Refusal → Type 0
Tells s (take_error.Refused code slot) r = (slot < length s.catalogue) × (r ≡ refuse code (name_at s slot))
Tells s take_error.Full r = ⊥
Tells s take_error.Memory r = ⊤

-- why a holder does not take references to these modules
abbrev pub TellsTaking : Setup → TakeError → ℕ → Held → List ℕ → Type 0
TellsTaking s (take_error.Refused code slot) number there slots =
    (number < length there.table.rows) × (slot < length s.catalogue)
    × ((gets s number slots there.table).0 ≡ refuse code (name_at s slot))
TellsTaking s take_error.Full number there slots = nat_lt number (length there.table.rows) ≡ false
TellsTaking s take_error.Memory number there slots = ⊤

abbrev pub IsWithin : Setup → TakeError → Type 0
IsWithin s (take_error.Refused code slot) = slot < length s.catalogue
IsWithin s _ = ⊤

-- the reply tells it; running out of memory is told otherwise
abbrev pub IsTold : Setup → List ℕ → TakeError → HeldReply → Type 0
IsTold s slots (take_error.Refused code slot) r = r ≡ record { reply = refused code (name_at s slot); changed = false }
IsTold s slots take_error.Full r = r ≡ record { reply = refused Worker (first_name s slots); changed = false }
IsTold s slots take_error.Memory r = ⊥

-- A line is answered so: what it says and leaves is what is meant, and if nothing is told to have changed, nothing has.
pub record Answers (reply : HeldReply) (old new : Held) (meant : Outcome × Held) : Type 0 where
  pub says : reply.reply ≡ meant.0
  pub leaves : new ≡ meant.1
  pub same : reply.changed ≡ false → new ≡ old

-- the copy is of the table's book
pub record IsBookOf (copy : BookCopy) (t : Table) : Type 0 where
  pub states : copy.states.items ≡ t.book.states
  pub order : copy.order.items ≡ t.book.order
