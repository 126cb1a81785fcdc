use Rattle.std.proofs.Common.{◌≡◌, ◌++◌, drop, string_bytes}
use Rattle.timeline_drive.specs.Escapes.{escaped}
use Rattle.timeline_drive.proofs.escapes.push_escaped.Given as goal

-- the page so far goes on with the bytes that are left
abbrev pub invariant-loop-byte : goal.invariant-loop-byte
invariant-loop-byte l = string_bytes l.page ++ escaped (drop l.byte-index l.text) ≡ string_bytes l.initial.page ++ escaped l.text
