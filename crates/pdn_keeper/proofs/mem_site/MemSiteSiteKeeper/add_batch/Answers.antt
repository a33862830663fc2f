use Rattle.pdn_schema.specs.Models.{table_of}
use Rattle.pdn_keeper.proofs.BatchLaws.{stays_valid, names_column}
use Rattle.pdn_keeper.proofs.mem_site.MemSiteSiteKeeper.add_batch.Goals as goal

pub returns-clause-valid : goal.returns-clause-valid
returns-clause-valid c =
    let answer = rw c.table.ensures.is at c.answer.ensures.answer in
    let stands = rw c.table.ensures.is at c.answer.ensures.stands in
    rw (← c.self.view_is) (stays_valid (table_of c.args.schema.now c.args.table) c.self.inside.batches.items c.answer.new.self.batches c.args.batch c.args.rows.now c.answer.result answer stands)

pub returns-clause-column : goal.returns-clause-column
returns-clause-column c =
    let answer = rw c.table.ensures.is at c.answer.ensures.answer in
    names_column (table_of c.args.schema.now c.args.table) c.self.inside.batches.items c.args.batch c.args.rows.now c.answer.result answer
