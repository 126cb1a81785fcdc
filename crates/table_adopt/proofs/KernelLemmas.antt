-- The modules of lines, one after another.
use Rattle.std.proofs.Common.{List, ◌++◌, Result, Ok, Err}
use Rattle.table_adopt.specs.declared.kernel.KernelModule.{KernelModule}
use Rattle.table_adopt.specs.declared.kernel.KernelFault.{KernelFault}

-- modules before those of later lines
abbrev pub after : List KernelModule → Result (List KernelModule) KernelFault → Result (List KernelModule) KernelFault
after found (Err fault) = Err fault
after found (Ok later) = Ok (found ++ later)
