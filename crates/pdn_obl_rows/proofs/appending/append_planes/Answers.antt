use Rattle.std.proofs.Common.{◌∙◌, ◌<◌, refl, arith, ap, length, ℕ}
use Rattle.std.specs.List.{range_with_len}
use Rattle.pdn_circuit.specs.Blocks.{each}
use Rattle.pdn_circuit.specs.Laying.{lay_gates}
use Rattle.pdn_circuit.proofs.Making.{extends_longer, along_memory, makes_longer}
use Rattle.pdn_obl_rows.specs.Lists.{widths}
use Rattle.pdn_obl_rows.specs.Operators.{append_picks, kinds_of, plane_of}
use Rattle.pdn_obl_rows.proofs.Picking.{first_count}
use Rattle.pdn_obl_rows.proofs.ThereLaws.{all_there_later, planes_none, planes_push}
use Rattle.pdn_obl_rows.proofs.Walks.{exit_tries_planes, range_begin, range_stops, range_next, range_end}
use Rattle.pdn_obl_rows.proofs.appending.append_planes.Goals as goal

pub loop-p-init : goal.loop-p-init
loop-p-init c =
    let lists = c.args.lists.now in
    record {
      along = range_begin (λ p. lay_gates (append_picks (plane_of p) 0 lists)) c.args.b.now (widths (kinds_of lists)) _ c.new-planes.ensures.items;
      longer = omega arith;
      there = planes_none _ _ c.new-planes.ensures.items;
    }

pub append_plane-requires-clause-there : goal.append_plane-requires-clause-there
append_plane-requires-clause-there c = all_there_later c.args.b.now _ c.args.lists.now c.loop-p.invariant.longer c.requires.there

pub returns-in_err-words-clause-made : goal.returns-in_err-words-clause-made
returns-in_err-words-clause-made c =
    let lists = c.args.lists.now in
    let f = λ (p : ℕ). lay_gates (append_picks (plane_of p) 0 lists) in
    let count = widths (kinds_of lists) in
    exit_tries_planes _ _ (each f (range_with_len 0 count)) _ _ c.from_residual.ensures.1
    (range_stops f _ _ _ _ c.loop-p.p count (omega (arith, first_count lists _ _ c.requires.some c.index-lists-0.is c.planes-p-end.ensures.shaped c.planes-p-end.ensures.planes)) c.loop-p.invariant.along _ _ c.in_err-words.ensures.made)

pub returns-in_err-push-clause-made : goal.returns-in_err-push-clause-made
returns-in_err-push-clause-made c =
    let lists = c.args.lists.now in
    let f = λ (p : ℕ). lay_gates (append_picks (plane_of p) 0 lists) in
    let count = widths (kinds_of lists) in
    exit_tries_planes _ _ (each f (range_with_len 0 count)) _ _ c.from_residual-in_err-push.ensures.1
    (along_memory _ _ _ _
    (range_next f _ _ _ _ c.loop-p.p count (omega (arith, first_count lists _ _ c.requires.some c.index-lists-0.is c.planes-p-end.ensures.shaped c.planes-p-end.ensures.planes)) c.loop-p.invariant.along _ _ _ c.in_ok-words.ensures.made refl))

pub loop-p-preserved : goal.loop-p-preserved
loop-p-preserved c =
    let lists = c.args.lists.now in
    let f = λ (p : ℕ). lay_gates (append_picks (plane_of p) 0 lists) in
    let count = widths (kinds_of lists) in
    let along = range_next f _ _ _ _ c.loop-p.p count (omega (arith, first_count lists _ _ c.requires.some c.index-lists-0.is c.planes-p-end.ensures.shaped c.planes-p-end.ensures.planes)) c.loop-p.invariant.along _ _ _ c.in_ok-words.ensures.made
    c.in_ok-push.ensures.items in
    record {
      along = along;
      longer = extends_longer _ _ along.stands;
      there = planes_push _ _ _ _ _ c.loop-p.invariant.there (omega (arith, makes_longer _ _ _ _ c.in_ok-words.ensures.made)) c.in_ok-words.ensures.there c.in_ok-push.ensures.items;
    }

pub returns-clause-made : goal.returns-clause-made
returns-clause-made c =
    let lists = c.args.lists.now in
    range_end (λ p. lay_gates (append_picks (plane_of p) 0 lists)) _ _ _ _ c.loop-p.p (widths (kinds_of lists))
    (omega (arith, first_count lists _ _ c.requires.some c.index-lists-0.is c.planes-p-end.ensures.shaped c.planes-p-end.ensures.planes)) c.loop-p.invariant.along
