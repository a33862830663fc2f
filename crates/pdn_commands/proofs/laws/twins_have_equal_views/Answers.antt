use Rattle.pdn_commands.proofs.AgreedWorlds.{equal_views}
use Rattle.pdn_commands.proofs.laws.twins_have_equal_views.Goals as goal

pub returns : goal.returns
returns c = equal_views c.agreeing_unions_are_worlds.ensures c.sites_see_the_same.ensures
