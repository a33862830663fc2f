use Rattle.std.proofs.Common.{arith, ap, ap₂, sym, subst, ◌∙◌, ◌<◌, ◌++◌, ◌≡◌, length, map, List, ℕ}
use Rattle.std.specs.List.{All}
use Rattle.pdn_base.specs.declared.order.Key.{Key}
use Rattle.pdn_obl_rank.specs.Keys.{sort_key, place_of_key}
use Rattle.pdn_obl_rank.proofs.CompareLaws.{compares, no_columns, exit_match, words_few, downs_in, downs_few}
use Rattle.pdn_obl_rank.proofs.comparing.compare.Goals as goal

pub places-requires-clause-few : goal.places-requires-clause-few
places-requires-clause-few c = omega (arith, ap length c.kinds.ensures, ap length (c.as_slice.ensures.value ∙ c.in_ok-downs.ensures), downs_few c.args.order.now, c.requires.few)

pub inverted_columns-requires-clause-downs : goal.inverted_columns-requires-clause-downs
inverted_columns-requires-clause-downs c =
    let f = c.requires.fits in
    subst (λ (ds : List ℕ). All (λ column. column < length c.args.list.now.kinds) ds) (sym (c.as_slice-3.ensures.value ∙ c.in_ok-downs.ensures)) (downs_in (length c.args.list.now.kinds) c.args.order.now f.keys)

pub returns-in_err-inverted : goal.returns-in_err-inverted
returns-in_err-inverted c = record {
  made = exit_match _ _ _ _ c.from_residual-in_err-inverted.ensures.1
      (no_columns _ _ c.args.list.now c.args.order.now _ _ (c.as_slice-3.ensures.value ∙ c.in_ok-downs.ensures) c.in_err-inverted.ensures.made);
}

pub returns : goal.returns
returns c =
    let n = length c.args.list.now.kinds in
    let count : length c.kinds.result.now ≡ length c.args.list.now.kinds = ap length c.kinds.ensures in
    record {
      made = compares _ _ c.args.list.now c.args.partition.now c.args.order.now _ _ c.valid.ensures.shaped (c.as_slice-3.ensures.value ∙ c.in_ok-downs.ensures) c.in_ok-inverted.ensures.made
          c.requires.fits c.requires.few (words_few c.args.list.now.len (omega (arith, c.requires.len))) c.requires.there c.in_ok-inverted.ensures.there _
          (c.in_ok-valid.ensures.items ∙ c.valid.ensures.valid)
          (c.in_ok-push_columns.ensures ∙ ap₂ (λ (xs ys : List (List (List ℕ))). xs ++ ys) c.in_ok-columns.ensures c.as_slice-4.ensures.value)
          c.in_ok-partition.ensures.items
          (c.in_ok-key.ensures ∙ ap (λ (ks : List Key). map (place_of_key (length c.kinds.result.now) c.args.order.now) ks) (c.as_slice-2.ensures.value ∙ c.in_ok-keys.ensures) ∙ ap (λ m. map (place_of_key m c.args.order.now) (sort_key c.args.order.now m)) count);
    }
