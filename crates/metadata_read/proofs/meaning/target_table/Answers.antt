use Rattle.metadata_read.proofs.Few.{found_narrow}
use Rattle.metadata_read.proofs.meaning.target_table.Goals as goal

pub returns-clause-narrow : goal.returns-clause-narrow
returns-clause-narrow c =
    found_narrow c.args.tables.now c.as_str.result.now c.table_by.result c.requires.narrow c.table_by.ensures
