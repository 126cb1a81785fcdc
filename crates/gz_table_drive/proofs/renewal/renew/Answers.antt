use Rattle.std.proofs.Common.{◌≡◌, rules, subst}
use Rattle.table_folder.specs.Setups.{IsReadFrom}
use Rattle.table_folder.specs.declared.folder_setup.FolderSetup.{FolderSetup}
use Rattle.gz_table_drive.specs.Log.{HasRenewed}
use Rattle.gz_table_drive.proofs.renewal.renew.Goals as goal

pub returns-in-Done-clause-renewed : goal.returns-in-Done-clause-renewed
returns-in-Done-clause-renewed g c =
    let copy : c.in_ok-to_vec.field-0.items ≡ c.in_ok-bytes.bytes.items = search rules in
    let renewed : HasRenewed c.in_ok-setup.setup.value c.in_ok-next.next c.args.log.now c.renew_folder.new.log =
    subst (λ (f : FolderSetup). HasRenewed f c.in_ok-next.next c.args.log.now c.renew_folder.new.log) c.deref-4.ensures (c.in_ok-renew_folder.ensures.done c.in-Done.is) in (
      c.in_ok-setup.ensures.found.0,
      c.in_ok-bytes.bytes.items,
      c.in_ok-setup.setup.value,
      c.in_ok-next.next,
      c.in_ok-setup.ensures.found.1,
      c.in_ok-bytes.ensures.setup,
      subst (λ bytes. IsReadFrom bytes c.in_ok-next.next) copy c.in_ok-next.ensures.found,
      renewed,
    )
