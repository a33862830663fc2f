use Rattle.pdn_twin.proofs.WorldLaws.{shaped_alike, sees_the_same, gives_back, keeps_the_rest, keeps_lengths}
use Rattle.pdn_twin.proofs.twinning.twin.Goals as goal

pub returns-clause-shapes : goal.returns-clause-shapes
returns-clause-shapes g c = shaped_alike c.args.worlds.site c.args.worlds.first c.args.worlds.second c.requires.alike

pub returns-clause-same : goal.returns-clause-same
returns-clause-same g c = sees_the_same c.args.worlds.site c.args.worlds.first c.args.worlds.second c.requires.alike c.args.ticket

pub returns-clause-back : goal.returns-clause-back
returns-clause-back g c = gives_back c.args.worlds.site c.args.worlds.first c.args.worlds.second c.requires.alike c.args.ticket

pub returns-clause-others : goal.returns-clause-others
returns-clause-others g c = keeps_the_rest c.args.worlds.site c.args.worlds.first c.args.worlds.second c.requires.alike c.args.ticket

pub returns-clause-lengths : goal.returns-clause-lengths
returns-clause-lengths g c = keeps_lengths c.args.worlds.site c.args.worlds.first c.args.worlds.second c.requires.alike c.args.ticket
