-- `stored_list::list_stored` meets its contract. Assumes nothing.
use Rattle.stored_list.proofs.Loading.{load-tellable, load-wrote}
use Rattle.stored_list.proofs.list_stored.Goals as goal

pub write_answer-requires : goal.write_answer-requires
write_answer-requires c = load-tellable _ (λ i. (c.type_inv.bytes i).fits) _ _ c.load-answer.ensures _ c.requires

pub returns : goal.returns
returns c = load-wrote _ (λ i. (c.type_inv.bytes i).fits) _ _ c.load-answer.ensures _ c.requires _ _ c.write_answer.ensures
