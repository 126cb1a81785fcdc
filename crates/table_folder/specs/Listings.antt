-- Where the modules of a kernel are listed, and which these are.
use Rattle.std.specs.Prelude.{⊤, ◌≡◌, ℕ, true, List, codes, Ok, Option, IfSome}
use Rattle.std.specs.Str.{bytes_eq}
use Rattle.table_adopt.specs.declared.kernel.KernelModule.{KernelModule}
use Rattle.table_adopt.specs.Kernel.{modules_of_text}
use Rattle.table_folder.specs.declared.listing.Listing.{Listing}
use Rattle.table_folder.specs.declared.listing.Listing.TheVariants.{File, Given}

-- the word `-` names all that an input has left, and any other the file of its path
abbrev pub IsListing : List ℕ → Option (List ℕ) → Listing → Type 0
IsListing word input (File path) = path.now ≡ word
IsListing word input (Given text) = (bytes_eq word (codes "-") ≡ true) × IfSome input (λ bytes. text.items ≡ bytes)

-- the text that is given, or that of a file, of which nothing is known
abbrev pub IsTextOf : Listing → List ℕ → Type 0
IsTextOf (File path) text = ⊤
IsTextOf (Given given) text = text ≡ given.items

-- the modules of such a text
abbrev pub AreModulesOf : Listing → List KernelModule → Type 0
AreModulesOf listing kernel = (text : List ℕ) × IsTextOf listing text × (modules_of_text text ≡ Ok kernel)
