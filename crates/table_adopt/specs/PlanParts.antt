-- What becomes of the modules of a table.
use Rattle.std.specs.Prelude.{ℕ, List}
use Rattle.table_adopt.specs.declared.step.Step.{Step}

-- the steps, the modules that leave the table by them, and those that stay though the kernel does not have them
pub record PlanParts : Type 0 where
  pub steps : List Step
  pub gone : List ℕ
  pub lost : List ℕ
