use Rattle.row_store.proofs.tables.insert_into.Goals as goal

pub returns-in-Err-clause-answer : goal.returns-in-Err-clause-answer
returns-in-Err-clause-answer g c = rw (c.deref.ensures, c.make_index.ensures, c.as_slice-2.ensures) at c.in-Err.ensures.refused
