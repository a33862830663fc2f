use Rattle.std.proofs.Common.{◌∙◌, ◌<◌, sym, subst, length, List}
use Rattle.std.proofs.lemmas.List.Elements.{All-same}
use Rattle.pdn_circuit.specs.declared.lay.Pick.{Pick}
use Rattle.pdn_circuit.specs.Laying.{HasOneGateAWord}
use Rattle.pdn_obl_rows.specs.Operators.{words_of}
use Rattle.pdn_obl_rows.proofs.AppendLaws.{append_sources}
use Rattle.pdn_obl_rows.proofs.Picking.{append_there}
use Rattle.pdn_obl_rows.proofs.appending.append_plane.Goals as goal

pub lay-requires-clause-there : goal.lay-requires-clause-there
lay-requires-clause-there c =
    All-same (λ (p : Pick). p.gate < length c.args.b.now.gates) _ _ (c.deref.ensures.value ∙ c.in_ok-picks.ensures) (append_there c.args.b.now c.args.lists.now c.args.which c.requires.same c.requires.which c.requires.there)

pub lay-requires-clause-sources : goal.lay-requires-clause-sources
lay-requires-clause-sources c = subst (λ (ps : List Pick). HasOneGateAWord ps) (sym (c.deref.ensures.value ∙ c.in_ok-picks.ensures)) (append_sources (words_of c.args.which) c.args.lists.now)
