use Rattle.std.proofs.Common.{◌≡◌, ◌∙◌, ap, subst, ℕ, List, Ok}
use Rattle.table_adopt.specs.Kernel.{modules_of_text}
use Rattle.table_adopt.specs.declared.kernel.KernelModule.{KernelModule}
use Rattle.gz_table_drive.specs.Adopting.{HasAdopted, adopting_lines}
use Rattle.table_folder.specs.declared.folder_setup.FolderSetup.{FolderSetup}
use Rattle.gz_table_drive.specs.Log.{HasMade}
use Rattle.gz_table_drive.proofs.adopt.adopt.Goals as goal

pub returns-clause-adopted : goal.returns-clause-adopted
returns-clause-adopted g c =
    let found = c.in_ok-setup.setup.value in
    let table = c.in_ok-table.table in
    let held = table.session.holders.held in
    let kernel = c.in_ok-kernel.kernel.items in (
      c.new-replies.result,
      record { text = c.new-replies.ensures.text; endings = c.new-replies.ensures.endings },
      record {
        file = c.in_ok-setup.ensures.found.0;
        found = found;
        read = c.in_ok-setup.ensures.found.1;
        listing = c.in_ok-listing.listing;
        named = c.in_ok-listing.ensures.listing;
        kernel = kernel;
        listed = (c.in_ok-text.text.items, c.in_ok-text.ensures.text, subst (λ (text : List ℕ). modules_of_text text ≡ Ok kernel) c.deref-2.ensures.value c.in_ok-kernel.ensures.modules);
        held = held;
        made = subst (λ (f : FolderSetup). HasMade f held (adopting_lines f.setup held kernel) c.args.log.now c.adopt_into.new.log) c.deref-4.ensures
            (subst (λ (ks : List KernelModule). HasMade c.deref-4.result.now held (adopting_lines c.deref-4.result.now.setup held ks) c.args.log.now c.adopt_into.new.log) c.deref-5.ensures.value c.in_ok-adopt_into.ensures.made);
        answered = subst (λ (f : FolderSetup). HasAdopted f.setup held kernel c.new-replies.result c.adopt_into.new.replies) c.deref-4.ensures
            (subst (λ (ks : List KernelModule). HasAdopted c.deref-4.result.now.setup held ks c.new-replies.result c.adopt_into.new.replies) c.deref-5.ensures.value c.in_ok-adopt_into.ensures.adopted);
      },
    )
