-- What an answer has.
use Rattle.std.specs.Prelude.{◌≡◌, ℕ}
use Rattle.pdn_base.specs.declared.site.Site.TheVariants.{A, B}
use Rattle.pdn_base.specs.Operators.{listed}
use Rattle.pdn_broker.specs.declared.answered.Answered.{Answered}
use Rattle.pdn_broker.specs.Runs.{Tape}
use Rattle.pdn_broker.specs.Units.{dealt_of}
use Rattle.pdn_broker.specs.Prepared.{PreparedModel}
use Rattle.pdn_broker.specs.Running.{root_run, runs_of, opened_list}
use Rattle.pdn_broker.specs.Views.{site_view, broker_view}

-- An answer has the runs of the secure units and of the root, each on the section of this ticket and its own number, these numbers,
-- in the query's order the rows that the root's two outputs come to, and what each party sees of these runs.
pub record IsAnswered (p : PreparedModel) (tape : Tape) (ticket : ℕ) (answered : Answered) : Type 0 where
  pub dealt : answered.dealt.items ≡ dealt_of ticket p.units
  pub runs : answered.runs.items ≡ runs_of p tape ticket
  pub rows : answered.rows ≡ listed p.order (opened_list p (root_run p tape ticket))
  pub view_a : answered.view_a ≡ site_view A p tape ticket
  pub view_b : answered.view_b ≡ site_view B p tape ticket
  pub view_broker : answered.view_broker ≡ broker_view p tape ticket
