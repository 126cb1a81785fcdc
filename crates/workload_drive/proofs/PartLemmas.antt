-- The parts of an input, from what was read of each.
use Rattle.std.proofs.Common.{◌≡◌, ℕ, ◌+◌, List, length, sym, ap, ◌∙◌, subst, Ok}
use Rattle.std.specs.Prelude.{Result}
use Rattle.std.proofs.lemmas.List.{length-map}
use Rattle.text_parts.specs.Text.{cut_lines}
use Rattle.dep_index.specs.Catalogue.{Description, Refusal}
use Rattle.dep_index.specs.Faults as dep
use Rattle.dep_index.specs.declared.faults.CatError.{CatError}
use Rattle.dep_index.specs.declared.faults.CatError.TheVariants.{Bad, Duplicate, TwiceExported, TooMany, Memory}
use Rattle.workload_drive.specs.declared.fault.LineFault.{LineFault}
use Rattle.workload_drive.specs.declared.fault.ScheduleFault.{ScheduleFault}
use Rattle.workload_drive.specs.declared.fault.ScheduleFault.TheVariants as fault
use Rattle.workload_drive.specs.declared.lines.Line.{Line}
use Rattle.workload_drive.specs.Faults.{◌>>=◌, IsFirstFault, catalogue_fault}
use Rattle.workload_drive.specs.Statements.{Statement, numbered, with_catalogue, parts_among, parts_of}
use Rattle.workload_drive.specs.ForProofs.{lines_in}
use Rattle.workload_drive.proofs.LineLemmas.{length-numbered}

-- a fault of what is read first is one of the whole
pub fault_passes : {A B : Type 0} (e : ScheduleFault) (read : Result A LineFault) (next : A → Result B LineFault)
    → IsFirstFault e read → IsFirstFault e (read >>= next)
fault_passes {A} (fault.Line f) read next is = ap (λ (r : Result A LineFault). r >>= next) is
fault_passes {A} (fault.Step index cause) read next is = absurd is
fault_passes {A} fault.Memory read next is = tt

-- and so is one of what is read next
pub fault_later : {A B : Type 0} (e : ScheduleFault) (read : Result A LineFault) (next : A → Result B LineFault) (x : A)
    → read ≡ Ok x → IsFirstFault e (next x) → IsFirstFault e (read >>= next)
fault_later {A} e read next x is refused = subst (IsFirstFault e) (sym (ap (λ (r : Result A LineFault). r >>= next) is)) refused

-- what was read is read on
pub reads_on : {A B : Type 0} (read : Result A LineFault) (next : A → Result B LineFault) (x : A) (whole : Result B LineFault)
    → read ≡ Ok x → next x ≡ whole → (read >>= next) ≡ whole
reads_on {A} read next x whole is later = ap (λ (r : Result A LineFault). r >>= next) is ∙ later

pub catalogue_passes : (e : CatError) (said : List Statement) (end : ℕ) (read : Result (List Description) (Refusal × ℕ))
    → dep.IsFirstFault e read → IsFirstFault (catalogue_fault e) (with_catalogue said end read)
catalogue_passes (Bad n) said end read is = ap (with_catalogue said end) is
catalogue_passes (Duplicate n) said end read is = ap (with_catalogue said end) is
catalogue_passes (TwiceExported n) said end read is = ap (with_catalogue said end) is
catalogue_passes (TooMany n) said end read is = ap (with_catalogue said end) is
catalogue_passes Memory said end read is = tt

-- the parts are read from the lines that were cut
pub parts_from : (section input : List ℕ) (lines : List Line) (n : ℕ) → lines_in lines ≡ numbered 1 (cut_lines input) → n ≡ length lines
    → parts_of section input ≡ parts_among section (n + 1) (lines_in lines)
unfolding parts_of
parts_from section input lines n cut counted =
    let many : length (cut_lines input) ≡ n =
    sym (length-numbered 1 (cut_lines input)) ∙ ap length (sym cut) ∙ length-map lines _ ∙ sym counted in
    ap (λ (k : ℕ). parts_among section (k + 1) (numbered 1 (cut_lines input))) many ∙ ap (parts_among section (n + 1)) (sym cut)
