use Rattle.std.proofs.Common.{subst}
use Rattle.std.proofs.lemmas.Result.{IfOk-weaker}
use Rattle.table_folder.specs.declared.folder_setup.FolderSetup.{FolderSetup}
use Rattle.gz_table_drive.specs.Log.{HasCompacted}
use Rattle.gz_table_drive.proofs.compaction.compact.Goals as goal

pub returns-clause-done : goal.returns-clause-done
returns-clause-done g c =
    IfOk-weaker c.compact_folder.result _ _
    (λ made told done. (
      c.in_ok-setup.ensures.found.0,
      c.in_ok-setup.setup.value,
      c.in_ok-setup.ensures.found.1,
      subst (λ (f : FolderSetup). HasCompacted f c.args.log.now c.compact_folder.new.log) c.deref-2.ensures (told done),
    )) c.compact_folder.ensures.done
