use Rattle.std.proofs.Common.{arith, Ok, [], ◌≡◌, ◌==◌, true, sym, ap, subst, ◌∙◌, ℕ, List, length, take}
use Rattle.table_setup.specs.Sealed.{IsSealed, name_of}
use Rattle.table_setup.specs.Sums.{adler32}
use Rattle.modprobe.specs.SetupInput.{setup_of}
use Rattle.table_folder.proofs.SetupLemmas.{cut_sealed, cut_named}
use Rattle.table_folder.proofs.folder_setup.FolderSetup.read.Goals as goal

pub returns-clause-found : goal.returns-clause-found
returns-clause-found c =
    let bytes = c.args.bytes.items in
    let text = c.in-Some.sealed.text.now in
    let sum = c.in-Some.sealed.sum in
    let cut = c.truncate.new.self.items in
    let is : IsSealed bytes text sum = subst (λ (b : List ℕ). IsSealed b text sum) c.deref.ensures.value c.in-Some.ensures.some in
    let sound : (adler32 text == sum) ≡ true = grind (arith, c.is_sound.ensures, c.if-not-is_sound.false) in
    let cut_is : cut ≡ take (length text) bytes = c.truncate.ensures.items in
    record {
      sealed = cut_sealed bytes text cut sum is sound cut_is;
      named = cut_named bytes text cut c.in_ok-name.name.items sum is sound cut_is c.in_ok-name.ensures;
      says = subst (λ (t : List ℕ). setup_of t ≡ Ok (c.in_ok-setup.setup, [])) c.deref-2.ensures.value c.in_ok-setup.ensures;
    }

pub returns-in_default-clause-cut : goal.returns-in_default-clause-cut
returns-in_default-clause-cut c = λ is text sum sealed.
    c.in_default.ensures.none text sum (subst (λ (b : List ℕ). IsSealed b text sum) (sym c.deref.ensures.value) sealed)
