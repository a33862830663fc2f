-- What each party sees of a query, and whose views are shown after an answer.
use Rattle.std.specs.Prelude.{ℕ, List, [], ◌∷◌, Option, None, Some}
use Rattle.pdn_view.specs.declared.view.Party.{Party}
use Rattle.pdn_view.specs.declared.view.Party.TheVariants as party
use Rattle.pdn_view.specs.Views.{ViewWords}
use Rattle.pdn_broker.specs.declared.answered.Answered.{Answered}
use Rattle.pdn_broker.specs.Prepared.{PreparedModel}
use Rattle.pdn_broker.specs.Runs.{Tape}
use Rattle.pdn_broker.specs.Views.{view_for}
use Rattle.pdn_query.specs.declared.show.Show.{Show}
use Rattle.pdn_query.specs.declared.show.Show.TheVariants as show

-- the three views of a query
pub record ThreeViews : Type 0 where
  pub a : ViewWords
  pub b : ViewWords
  pub broker : ViewWords

-- what the parties see of a query that is made ready, on this tape and with this ticket
unfoldable pub views_on : PreparedModel → Tape → ℕ → ThreeViews
views_on p tape ticket = record {
  a = view_for party.A p tape ticket;
  b = view_for party.B p tape ticket;
  broker = view_for party.Broker p tape ticket;
}

-- the views that an answer has
abbrev pub views_of : Answered → ThreeViews
views_of answered = record { a = answered.view_a; b = answered.view_b; broker = answered.view_broker }

-- a party's view
abbrev pub view_in : Party → ThreeViews → ViewWords
view_in party.A views = views.a
view_in party.B views = views.b
view_in party.Broker views = views.broker

-- ---- whose views are shown

abbrev pub all_parties : List Party
all_parties = party.A ∷ party.B ∷ party.Broker ∷ []

abbrev pub parties_of : Option Show → List Party
parties_of None = []
parties_of (Some show.A) = party.A ∷ []
parties_of (Some show.B) = party.B ∷ []
parties_of (Some show.Broker) = party.Broker ∷ []
parties_of (Some show.All) = all_parties
