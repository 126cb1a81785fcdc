-- How a run ends, from what its session answered.
use Rattle.std.proofs.Common.{◌≡◌, ◌⊎◌, inl, inr, ℕ, nat_lt, Bool, true, false, not, ◌||◌, ◌&&◌, List, ◌++◌, Option, None, Some, Result, Ok, Err, OnOk, IfOk, IfErr, cond, refl, sym, ap, ◌∙◌, subst, zero, suc, arith}
use Rattle.std.proofs.lemmas.Bool.{and_parts}
use Rattle.std.proofs.lemmas.Bool.Decides.{nat_tests}
use Rattle.std.specs.Io.KnownBytes.{Keeps}
use Rattle.std.specs.Fmt.{option_append}
use Rattle.modprobe.specs.declared.fault.ServeFault.{ServeFault}
use Rattle.modprobe.specs.declared.fault.ServeFault.TheVariants as serve_fault
use Rattle.modprobe.specs.declared.fault.SetupCode.{SetupCode}
use Rattle.modprobe.specs.Lines.{IfTold}
use Rattle.modprobe.specs.Serve.{AnswersInput, CountsErrors, ServeStands}
use Rattle.program_frame.specs.declared.status.Status.{Status}
use Rattle.program_frame.specs.declared.status.Status.TheVariants.{Done, ErrorReply, Refused, Fault}
use Rattle.modsh_drive.specs.Statuses.{is_fault, setup_status, status_of, status_after, Ends}

-- a fault of a setup has one of two statuses
code_stops : (code : SetupCode) → (setup_status code ≡ Refused) ⊎ (setup_status code ≡ Fault)
code_stops code =
    elim (is_fault code) as (λ (b : Bool). (cond b Fault Refused ≡ Refused) ⊎ (cond b Fault Refused ≡ Fault)) [ true ↦ inr refl | false ↦ inl refl ]

-- and so has each fault
fault_stops : (fault : ServeFault) → (status_of fault ≡ Refused) ⊎ (status_of fault ≡ Fault)
fault_stops (serve_fault.Setup fault) = code_stops fault.code
fault_stops (serve_fault.Run fault) = inr refl
fault_stops serve_fault.Memory = inr refl

-- a run that stopped ends with the status of its fault
stopped : (workers : ℕ) (fail : Bool) (input : List ℕ) (held written ungiven : Option (List ℕ)) (fault : ServeFault)
    → ServeStands workers fault (Some input) ungiven held written → Ends workers fail input held written (status_of fault)
stopped workers fail input held written ungiven fault stands =
    elim (fault_stops fault) [
      | inl e ↦ subst (λ (s : Status). Ends workers fail input held written s) (sym e) (fault, ungiven, sym e, stands)
      | inr e ↦ subst (λ (s : Status). Ends workers fail input held written s) (sym e) (fault, ungiven, sym e, stands)
    ]

-- a run that was answered, where errors count if the test is true
answered : (workers : ℕ) (fail : Bool) (input : List ℕ) (held written : Option (List ℕ)) (counts : Bool)
    → AnswersInput workers input held written → (counts ≡ true → fail ≡ true) → (counts ≡ false → fail ≡ true → CountsErrors workers input 0)
    → Ends workers fail input held written (cond counts ErrorReply Done)
answered workers fail input held written true answers asked none = (answers, asked refl)
answered workers fail input held written false answers asked none = (answers, none refl)

some_errors : (errors : ℕ) → nat_lt 0 (suc errors) ≡ true
some_errors errors = grind (arith, nat_tests)

-- no error counts if none is told and there was a session
none_count : (workers : ℕ) (input : List ℕ) (fail has_session : Bool) (errors : ℕ) → CountsErrors workers input errors
    → (fail && (nat_lt 0 errors || not has_session)) ≡ false → fail ≡ true → CountsErrors workers input 0
none_count workers input true has_session zero counts e asked = counts
none_count workers input true has_session (suc errors) counts e asked =
    absurd (let never : true ≡ false = sym (ap (λ (b : Bool). true && (b || not has_session)) (some_errors errors)) ∙ e in cc)
none_count workers input false has_session errors counts e asked = absurd (cc)

-- how a run ends over an input that is told
ends_told : (workers : ℕ) (fail has_session : Bool) (input : List ℕ) (held written ungiven : Option (List ℕ)) (answer : Result ℕ ServeFault)
    → OnOk answer (AnswersInput workers input held written) → IfOk answer (λ errors. CountsErrors workers input errors)
    → IfErr answer (λ fault. ServeStands workers fault (Some input) ungiven held written)
    → Ends workers fail input held written (status_after answer fail has_session)
ends_told workers fail has_session input held written ungiven (Ok errors) answers counts stands =
    answered workers fail input held written (fail && (nat_lt 0 errors || not has_session)) answers
    (λ e. (and_parts fail (nat_lt 0 errors || not has_session) e).0) (none_count workers input fail has_session errors counts)
ends_told workers fail has_session input held written ungiven (Err fault) answers counts stands =
    stopped workers fail input held written ungiven fault stands

-- the same of what a source may tell
pub ends_whole : (workers : ℕ) (fail has_session : Bool) (told held written ungiven : Option (List ℕ)) (answer : Result ℕ ServeFault) (status : Status)
    → OnOk answer (IfTold told (λ input. AnswersInput workers input held written))
    → IfOk answer (λ errors. IfTold told (λ input. CountsErrors workers input errors))
    → IfErr answer (λ fault. ServeStands workers fault told ungiven held written)
    → status ≡ status_after answer fail has_session
    → IfTold told (λ input. Ends workers fail input held written status)
ends_whole workers fail has_session None held written ungiven answer status answers counts stands is = tt
ends_whole workers fail has_session (Some input) held written ungiven answer status answers counts stands is =
    subst (λ (s : Status). Ends workers fail input held written s) (sym is)
    (ends_told workers fail has_session input held written ungiven answer answers counts stands)

-- a status of an answered run is not Refused
not_refused : (counts : Bool) → cond counts ErrorReply Done ≡ Refused → ⊥
not_refused true e = cc
not_refused false e = cc

-- if the status is Refused nothing was written
pub silent : (workers : ℕ) (fail has_session : Bool) (told held written ungiven : Option (List ℕ)) (answer : Result ℕ ServeFault)
    → IfErr answer (λ fault. ServeStands workers fault told ungiven held written)
    → status_after answer fail has_session ≡ Refused → Keeps held written
silent workers fail has_session told held written ungiven (Ok errors) stands e =
    absurd (not_refused (fail && (nat_lt 0 errors || not has_session)) e)
silent workers fail has_session told held written ungiven (Err (serve_fault.Setup fault)) stands e = stands.0
silent workers fail has_session told held written ungiven (Err (serve_fault.Run fault)) stands e = absurd (let never : Fault ≡ Refused = e in cc)
silent workers fail has_session told held written ungiven (Err serve_fault.Memory) stands e = stands

-- what holds of all that is told holds of files that stand before the rest
pub joined : (files : List ℕ) (told whole : Option (List ℕ)) (P : List ℕ → Type 0) → whole ≡ option_append (Some files) told
    → IfTold whole P → IfTold told (λ input. P (files ++ input))
joined files None whole P e h = tt
joined files (Some input) whole P e h = subst (λ (w : Option (List ℕ)). IfTold w P) e h
