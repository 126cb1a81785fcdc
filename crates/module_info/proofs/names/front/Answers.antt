use Rattle.std.proofs.Common.{arith, length-take-le, sym, take_all}
use Rattle.module_info.proofs.names.front.Goals as goal

pub slice_bounds-result-end : goal.slice_bounds-result-end
slice_bounds-result-end c = sym (length-take-le 255 c.args.text.now (omega arith))

pub returns-else-text-gt255 : goal.returns-else-text-gt255
returns-else-text-gt255 c = sym (take_all 255 c.args.text.now (omega arith))
