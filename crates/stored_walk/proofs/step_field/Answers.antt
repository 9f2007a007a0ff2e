-- `stored_walk::step_field` meets its contract: in each arm the tag is known. Assumes nothing.
use Rattle.stored_walk.proofs.Labels.{named-outer}
use Rattle.stored_walk.proofs.Starting.{words-room}
use Rattle.stored_walk.proofs.Dispatch.{tagged, stepped-moves, other_tag}
use Rattle.stored_walk.proofs.step_field.Goals as goal

pub step_end-requires : goal.step_end-requires
step_end-requires c = tagged c.in-0.is c.requires.stands

pub step_block-requires : goal.step_block-requires
step_block-requires c = tagged c.in-1.is c.requires.stands

pub step_set-requires : goal.step_set-requires
step_set-requires c = record { start_le_end = c.requires.stands.ends; owed_bound = words-room _ _ _ c.requires.going }

pub step_unset-requires : goal.step_unset-requires
step_unset-requires c = record { stands = tagged c.in-3.is c.requires.stands; owed_bound = words-room _ _ _ c.requires.going }

pub step_defined-requires : goal.step_defined-requires
step_defined-requires c = record { going = c.requires.going; stands = tagged c.in-4.is c.requires.stands }

pub step_label-requires : goal.step_label-requires
step_label-requires c = record { going = c.requires.going; named_at = named-outer _ _ _ _ (tagged c.in-5.is c.requires.stands) }

pub step_relocation-requires : goal.step_relocation-requires
step_relocation-requires c = record { going = c.requires.going; stands = tagged c.in-6.is c.requires.stands }

pub returns-in-0 : goal.returns-in-0
returns-in-0 c = stepped-moves c.step_end.ensures

pub returns-in-1 : goal.returns-in-1
returns-in-1 c = stepped-moves c.step_block.ensures

pub returns-in-2 : goal.returns-in-2
returns-in-2 c = stepped-moves (c.step_set.ensures _ (tagged c.in-2.is c.requires.stands))

pub returns-in-3 : goal.returns-in-3
returns-in-3 c = stepped-moves c.step_unset.ensures

pub returns-in_default : goal.returns-in_default
returns-in_default c = other_tag _ _ _ _ _ _ c.requires.stands c.in_default.in_default-own.rest.0.0.0.0.0.0.1 c.in_default.in_default-own.rest.0.0.0.0.0.1 c.in_default.in_default-own.rest.0.0.0.0.1 c.in_default.in_default-own.rest.0.0.0.1 c.in_default.in_default-own.rest.0.0.1 c.in_default.in_default-own.rest.0.1 c.in_default.in_default-own.rest.1
