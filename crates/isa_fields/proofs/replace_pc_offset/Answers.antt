-- `replace_pc_offset` meets its contract. Assumes nothing.
use Rattle.std.proofs.Common.{ap, ◌∙◌, w32}
use mir.ValLaws.{to_z-of_z}
use Rattle.isa_fields.specs.Fields.{signed16, tested}
use Rattle.isa_fields.proofs.Numbers.{wrapped}
use Rattle.isa_fields.proofs.replace_pc_offset.Goals as goal

pub returns-then-s-least : goal.returns-then-s-least
unfolding tested
returns-then-s-least c =
    let e = c.signed_offset-s.ensures ∙ ap signed16 (wrapped _ _ _ c.wrapping_sub_u16-d.type_inv c.ranges.label.fits c.ranges.pc.fits c.wrapping_sub_u16-d.ensures.value) in
    rw (← e, ← to_z-of_z w32 c.signed_offset-s.result (record { sfits = c.signed_offset-s.type_inv }), ← to_z-of_z w32 c.args.least c.ranges.least, c.if-s-least.true)

pub returns-then-most-s : goal.returns-then-most-s
unfolding tested
returns-then-most-s c =
    let e = c.signed_offset-s.ensures ∙ ap signed16 (wrapped _ _ _ c.wrapping_sub_u16-d.type_inv c.ranges.label.fits c.ranges.pc.fits c.wrapping_sub_u16-d.ensures.value) in
    rw (← e, ← to_z-of_z w32 c.signed_offset-s.result (record { sfits = c.signed_offset-s.type_inv }), ← to_z-of_z w32 c.args.least c.ranges.least, ← to_z-of_z w32 c.args.most c.ranges.most, c.if-s-least.false, c.if-most-s.true)

pub returns : goal.returns
unfolding tested
returns c =
    let o = wrapped _ _ _ c.wrapping_sub_u16-d.type_inv c.ranges.label.fits c.ranges.pc.fits c.wrapping_sub_u16-d.ensures.value in
    let e = c.signed_offset-s.ensures ∙ ap signed16 o in
    rw (← e, ← to_z-of_z w32 c.signed_offset-s.result (record { sfits = c.signed_offset-s.type_inv }), ← to_z-of_z w32 c.args.least c.ranges.least, ← to_z-of_z w32 c.args.most c.ranges.most, c.if-s-least.false, c.if-most-s.false, o)
