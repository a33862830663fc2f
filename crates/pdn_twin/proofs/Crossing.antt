-- Two worlds may be read by several threads, and so may a job on them.
use denote.RattleType.{RattleType}
use denote.Ref.{NamedLft, ShrRef}
use denote.Struct.Field.{row_field, shr_ref_field}
use denote.Param.Send.{IsSync, sendable, view_sync, shr_sync}
use denote.Param.SendFields.{declared_sync, as_row_sync}
use Rattle.std.proofs.alloc.Global.TheSendSync as heap
use Rattle.std.proofs.vec.Vec.TheSendSync as vec
use Rattle.sqlite_items.proofs.boxed.Boxed.TheSendSync as boxed
use Rattle.sqlite_items.proofs.items.Items.TheSendSync as items
use Rattle.pdn_base.proofs.cond.Cond.TheSendSync as cond
use Rattle.pdn_base.proofs.marks.Kind.TheSendSync as kind
use Rattle.pdn_base.proofs.order.Key.TheSendSync as key
use Rattle.pdn_base.proofs.site.Site.TheSendSync as site
use Rattle.pdn_base.proofs.row.Tables.TheSendSync as tables
use Rattle.pdn_schema.proofs.schema.Schema.TheSendSync as schema
use Rattle.pdn_tree.specs.contracts.node.Node as tree
use Rattle.pdn_tree.proofs.node.Node.TheLaws.TheKnot.{sync-Node}
use Rattle.pdn_level.proofs.staged.Staged.TheSendSync as staged
use Rattle.pdn_dealer.specs.declared.dealers.Deal.{Ghosts}
use Rattle.pdn_site.proofs.unit.Units.TheSendSync as units
use Rattle.pdn_site.proofs.view.PublicView.TheSendSync as view
use Rattle.pdn_site.specs.contracts.engine.SiteEngine as engine
use Rattle.pdn_broker.proofs.answered.Dealt.TheSendSync as dealt
use Rattle.pdn_broker.proofs.shares.Shares.TheSendSync as shares
use Rattle.pdn_broker.specs.contracts.prepared.Prepared as prepared
use Rattle.pdn_twin.specs.contracts.twins.Worlds as worlds
use Rattle.pdn_twin.specs.contracts.twin_job.TwinJob as job
use Rattle.pdn_twin.specs.contracts.twin_job.TwinJob.TheInside as inside

tree_sync : IsSync tree.the_row
tree_sync = search (sync-Node, boxed.the_sync, items.the_sync, cond.the_sync, key.the_sync, sendable) depth 12

engine_sync : IsSync engine.the_row
engine_sync = search (site.the_sync, tables.the_sync, schema.the_sync, tree_sync, staged.the_sync, view_sync, declared_sync, as_row_sync) depth 12

prepared_sync : IsSync prepared.the_row
prepared_sync = search (engine_sync, view.the_sync, units.the_sync, kind.the_sync, key.the_sync, shares.the_sync, vec.the_sync, heap.the_sync, view_sync, declared_sync, as_row_sync) depth 12

worlds_sync : IsSync worlds.the_row
worlds_sync = search (site.the_sync, prepared_sync, declared_sync) depth 12

pub job_sync : (a : NamedLft) (T : RattleType) (g : Ghosts T.Denot) → IsSync T → IsSync (job.the_row a T g)
job_sync a T g shared =
    let both = as_row_sync (shr_ref_field a worlds.the_row tt) (shr_sync a.mir a.lft worlds.the_row worlds_sync) in
    let deal = as_row_sync (row_field (ShrRef a.mir a.lft T)) (shr_sync a.mir a.lft T shared) in
    view_sync (inside.the_row a T g) _ _ _ _ (declared_sync (inside.the_type a T g) (both, (dealt.the_sync, (deal, tt))))
