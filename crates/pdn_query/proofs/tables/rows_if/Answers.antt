use Rattle.std.proofs.Common.{rules}
use Rattle.pdn_schema.specs.Models.{table_of}
use Rattle.pdn_query.specs.Answering.{scans}
use Rattle.pdn_query.proofs.Gathers.{unasked}
use Rattle.pdn_query.proofs.tables.rows_if.Goals as goal

pub returns-clause-came : goal.returns-clause-came
returns-clause-came g c = λ next. unasked _ c.args.site (scans c.args.table c.args.root.now) (table_of c.args.schema.now c.args.table) c.new.result.items next (search rules) (search rules)
