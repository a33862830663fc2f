use Rattle.std.proofs.Common.{rules, ◌≡◌, ◌∙◌, [], get_or, count_by, take, sym, refl, arith}
use Rattle.std.proofs.lemmas.List.{get_or_default}
use Rattle.pdn_base.specs.Values.{same_row}
use Rattle.pdn_base.specs.Bags.{times}
use Rattle.pdn_base.specs.Operators.{before_in}
use Rattle.pdn_plain.proofs.PlaceLaws.{place-within}
use Rattle.pdn_plain.proofs.numbers.rows_before.Goals as goal

pub returns : goal.returns
returns c =
    let rows = c.args.rows.now in
    let at = c.args.at in
    let row = c.index-rows-at.result in
    let here : get_or rows at [] ≡ row = get_or_default rows at [] row c.requires.within ∙ sym c.index-rows-at.is in
    let before : c.count-before.result ≡ count_by (before_in c.args.partition.now c.args.order.now row) rows = search rules in
    let equal : c.count-equal.result ≡ times same_row row (take at rows) = search rules in
    record {
      sum = rw (here, before, equal) refl;
      bound = omega (arith, before, equal, place-within c.args.partition.now c.args.order.now rows at row c.requires.within c.index-rows-at.is);
    }
