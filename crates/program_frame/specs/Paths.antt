-- Why a path is not read.
use Rattle.std.specs.declared.io.ErrorKind.{ErrorKind}
use Rattle.std.specs.declared.io.ErrorKind.TheVariants.{NotFound, NotADirectory, IsADirectory, PermissionDenied, InvalidFilename, OutOfMemory}
use Rattle.program_frame.specs.declared.path.PathFault.{PathFault}
use Rattle.program_frame.specs.declared.path.PathFault.TheVariants.{Missing, Folder, Denied, Name, Unreadable, Memory}

-- what an error of the system says of a path (errno(3)): nothing is there, also if a part of the path is no folder; it is a folder;
-- it may not be read; a name is not taken; there was no memory; or something else
abbrev pub fault_of : ErrorKind → PathFault
fault_of NotFound = Missing
fault_of NotADirectory = Missing
fault_of IsADirectory = Folder
fault_of PermissionDenied = Denied
fault_of InvalidFilename = Name
fault_of OutOfMemory = Memory
fault_of _ = Unreadable
