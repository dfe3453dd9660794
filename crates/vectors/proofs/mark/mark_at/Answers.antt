use Rattle.vectors.proofs.Marks.{mark_lent}
use Rattle.vectors.proofs.mark.mark_at.Goals as goal

pub returns : goal.returns
returns c =
    let first = rw c.unwrap.ensures at c.first_chunk_mut.ensures.cases in
    mark_lent _ _ c.split_at_mut-rest.ensures.front c.split_at_mut-rest.ensures.back first.same c.mark.ensures
