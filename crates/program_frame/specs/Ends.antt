-- How a program ends.
use Rattle.std.specs.Prelude.{ℕ}
use Rattle.program_frame.specs.declared.path.PathFault.TheVariants as paths
use Rattle.program_frame.specs.declared.source.InputFault.{InputFault}
use Rattle.program_frame.specs.declared.source.InputFault.TheVariants.{Stream, Path}
use Rattle.program_frame.specs.declared.status.Status.{Status}
use Rattle.program_frame.specs.declared.status.Status.TheVariants.{Done, ErrorReply, Refused, Fault}

abbrev pub number_of : Status → ℕ
number_of Done = 0
number_of ErrorReply = 1
number_of Refused = 2
number_of Fault = 3

-- how a program ends that has no input: a path that is not read is refused, and a stream that fails and running out of memory are faults
abbrev pub input_status : InputFault → Status
input_status (Stream fault) = Fault
input_status (Path paths.Memory) = Fault
input_status (Path _) = Refused
