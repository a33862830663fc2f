-- Going along the same step for each of a list.
use Rattle.std.proofs.Common.{◌≡◌, ℕ, ◌+◌, ◌≤◌, ◌<◌, ◌++◌, List, [], ◌∷◌, length, drop, get_or, refl, sym, subst, ◌∙◌, append-nil, append_assoc}
use Rattle.std.proofs.lemmas.List.{drop_more, drop_all}
use Rattle.pdn_query.specs.Each.{each}
use Rattle.pdn_query.specs.Script.{Script}
use Rattle.pdn_query.specs.Walk.{End, NoMemory, Along, Leads}
use Rattle.pdn_query.specs.World.{WorldModel}
use Rattle.pdn_query.proofs.Walks.{leads_on, leads_along, begun, halted}

-- So far the steps of the first ones gave these results, and the steps from this place on are still to be taken.
pub record Stepped {X Y : Type 0} (old now : WorldModel) (step : X → (Y → Script) → Script) (xs : List X) (at : ℕ) (results : List Y) : Type 0 where
  pub glue : List Y → List Y
  pub glues : (more : List Y) → glue more ≡ results ++ more
  pub leads : (next : List Y → Script) → Leads old now (each step xs next) (each step (drop at xs) (λ more. next (glue more)))

module _ {X Y : Type 0} {old : WorldModel} {step : X → (Y → Script) → Script} {xs : List X} where
  pub Stepped-begin : (results : List Y) → results ≡ [] → Stepped old old step xs 0 results
  Stepped-begin results none = record { glue = λ more. more; glues = λ more. rw (none) refl; leads = λ next. begun old (each step xs next) }

  module _ {mid : WorldModel} {at : ℕ} {results : List Y} (so_far : Stepped old mid step xs at results) where
    -- the steps after this one
    after : (next : List Y → Script) → Y → Script
    after next y = each step (drop (at + 1) xs) (λ more. next (so_far.glue (y ∷ more)))

    -- the next step is to be taken
    here : (x : X) (next : List Y → Script) → at < length xs → Leads old mid (each step xs next) (step (get_or xs at x) (after next))
    unfolding after
    here x next l = subst (λ (left : List X). Leads old mid (each step xs next) (each step left (λ more. next (so_far.glue more)))) (drop_more xs at x l) (so_far.leads next)

    module _ (x : X) where
      pub Stepped-next : {now : WorldModel} (y : Y) → at < length xs → ((next : Y → Script) → Leads mid now (step (get_or xs at x) next) (next y)) → Stepped old now step xs (at + 1) (results ++ y ∷ [])
      unfolding after
      Stepped-next y l takes = record {
        glue = λ more. so_far.glue (y ∷ more);
        glues = λ more. so_far.glues (y ∷ more) ∙ sym (append_assoc results (y ∷ []) more);
        leads = λ next. leads_on (here x next l) (takes (after next));
      }

      pub Stepped-stopped : {now : WorldModel} (end : End) (next : List Y → Script) → at < length xs → ((next : Y → Script) → Along mid now (step (get_or xs at x) next) end) → Along old now (each step xs next) end
      Stepped-stopped end next l stops = leads_along (here x next l) (stops (after next))

    pub Stepped-halted : (end : End) (next : List Y → Script) → end ≡ NoMemory → Along old mid (each step xs next) end
    Stepped-halted end next is = leads_along (so_far.leads next) (halted mid (each step (drop at xs) (λ more. next (so_far.glue more))) end is)

    -- all steps are taken
    pub Stepped-all : (next : List Y → Script) → length xs ≤ at → Leads old mid (each step xs next) (next results)
    Stepped-all next l =
        let some : Leads old mid (each step xs next) (next (so_far.glue [])) =
        subst (λ (left : List X). Leads old mid (each step xs next) (each step left (λ more. next (so_far.glue more)))) (drop_all at xs l) (so_far.leads next) in
        subst (λ (ys : List Y). Leads old mid (each step xs next) (next ys)) (so_far.glues [] ∙ append-nil results) some
