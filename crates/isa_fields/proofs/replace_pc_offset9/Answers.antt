-- `replace_pc_offset9` meets its contract: the law over the width, at 9. Assumes nothing.
use Rattle.std.proofs.Common.{ap, ◌∙◌, arith}
use Rattle.isa_fields.specs.Fields.{meant_offset}
use Rattle.isa_fields.proofs.Numbers.{reached}
use Rattle.isa_fields.proofs.replace_pc_offset9.Goals as goal

pub returns : goal.returns
returns c =
    ap meant_offset c.replace_pc_offset.ensures
    ∙ reached 9 (record { least = omega arith; most = omega arith }) c.args.label c.args.pc
