-- Who uses a module (sysfs(5)).
use Rattle.std.specs.Prelude.{ℕ, ◌-◌}

-- A module's count of users has one for each module that holds it. What is left are open files, mounts and the like.
abbrev pub users_beside : ℕ → ℕ → ℕ
users_beside users holders = users - holders
