-- The setup of a folder, as it was written.
use Rattle.std.specs.Prelude.{◌≡◌, ◌==◌, ℕ, false, List, [], Ok}
use Rattle.table_setup.specs.Sealed.{IsSealed, name_of, sealed as sealed_text}
use Rattle.table_setup.specs.Sums.{adler32}
use Rattle.modprobe.specs.Setup.{Setup}
use Rattle.modprobe.specs.SetupInput.{setup_of}
use Rattle.modprobe.specs.declared.fault.SetupCode.{SetupCode}
use Rattle.modprobe.specs.declared.fault.SetupCode.TheVariants as code
use Rattle.modprobe.specs.declared.fault.SetupFault.{SetupFault}
use Rattle.table_folder.specs.declared.folder_setup.FolderSetup.{FolderSetup}
use Rattle.table_folder.specs.declared.setup.SectionsFault.{SectionsFault}
use Rattle.table_folder.specs.declared.setup.SectionsFault.TheVariants.{Memory, Setup as Refused}

-- The bytes of the file are a text, and a last line with its length and its sum, which are its name. The text says this.
pub record IsReadFrom (bytes : List ℕ) (found : FolderSetup) : Type 0 where
  pub sealed : IsSealed bytes found.text.items (adler32 found.text.items)
  pub named : found.name.items ≡ name_of found.text.items (adler32 found.text.items)
  pub says : setup_of found.text.items ≡ Ok (found.setup, [])

-- The bytes of the file are a text, and a last line with its length and another sum.
pub record IsChanged (bytes : List ℕ) : Type 0 where
  pub text : List ℕ
  pub sum : ℕ
  pub sealed : IsSealed bytes text sum
  pub other : (adler32 text == sum) ≡ false

-- the bytes are a text and a last line, and this is the name of the setup
abbrev pub IsNamed : List ℕ → List ℕ → Type 0
IsNamed bytes name = (text : List ℕ) × (sum : ℕ) × IsSealed bytes text sum × (name ≡ name_of text sum)

-- The bytes of a setup that is to be written: a text that says something, and a last line with its length and its sum.
pub record IsNewSetup (bytes : List ℕ) : Type 0 where
  pub text : List ℕ
  pub setup : Setup
  pub says : setup_of text ≡ Ok (setup, [])
  pub whole : bytes ≡ sealed_text text

abbrev pub fault_by_code : SetupFault → SetupCode → SectionsFault
fault_by_code why code.Memory = Memory
fault_by_code why other = Refused why

-- sections for which there was no memory are not refused
abbrev pub sections_fault_of : SetupFault → SectionsFault
sections_fault_of why = fault_by_code why why.code
