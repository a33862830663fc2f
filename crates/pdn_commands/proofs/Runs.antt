-- Going along a script of queries, one after the other.
use Rattle.std.proofs.Common.{◌≡◌, ℕ, ◌+◌, ◌≤◌, ◌<◌, List, length, drop, get_or}
use Rattle.std.proofs.lemmas.List.{drop_more, drop_all}
use Rattle.pdn_sql.specs.declared.query.Query.{Query}
use Rattle.pdn_query.specs.Script.{Script}
use Rattle.pdn_query.specs.Walk.{End, Finished, Along, Leads}
use Rattle.pdn_query.specs.World.{WorldModel}
use Rattle.pdn_query.proofs.Walks.{leads_on, leads_along, finished}
use Rattle.pdn_commands.specs.Running.{numbered}

module _ (step : ℕ → Query → Script → Script) {old mid : WorldModel} {whole : Script} (queries : List Query) (i : ℕ) (l : Leads old mid whole (numbered step (i + 1) (drop i queries))) where
  module _ (query : Query) (within : i < length queries) (is : query ≡ get_or queries i query) where
    abbrev later : Script
    later = numbered step (i + 1 + 1) (drop (i + 1) queries)

    this : Leads old mid whole (step (i + 1) query later)
    this = rw (drop_more queries i query within, ← is) at l

    pub query_on : {now : WorldModel} → ((rest : Script) → Leads mid now (step (i + 1) query rest) rest) → Leads old now whole later
    query_on takes = leads_on this (takes later)

    pub query_stopped : {now : WorldModel} (end : End) → ((rest : Script) → Along mid now (step (i + 1) query rest) end) → Along old now whole end
    query_stopped end takes = leads_along this (takes later)

  pub queries_done : length queries ≤ i → Along old mid whole Finished
  queries_done e = finished (rw (drop_all i queries e) at l)
