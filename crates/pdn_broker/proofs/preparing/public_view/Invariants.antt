use Rattle.std.proofs.Common.{◌≡◌, take}
use Rattle.pdn_site.specs.NetMeaning.{site_dirs}
use Rattle.pdn_broker.proofs.preparing.public_view.Given as goal

abbrev pub invariant-loop-i : goal.invariant-loop-i
invariant-loop-i l = l.dirs.items ≡ site_dirs l.a.tables l.b.tables (take l.i l.staged)
