-- Blocks that compare numbers, gate by gate.
use Rattle.std.proofs.Common.{◌≡◌, ℕ, ◌+◌, ◌<◌, ◌≤◌, List, [], ◌∷◌, ◌++◌, length, drop, Result, refl, sym, ap, ◌∙◌, subst, arith, length-append, append_assoc, append-nil}
use Rattle.pdn_circuit.specs.declared.gate.Gate.{Gate}
use Rattle.pdn_circuit.specs.declared.gate.Gate.TheVariants.{Xor, And}
use Rattle.pdn_circuit.specs.declared.tally.BuildErr.{BuildErr}
use Rattle.pdn_circuit.specs.Blocks.{Block, Making, gives, one, ◌>>=◌}
use Rattle.pdn_circuit.specs.Building.{Made, Makes, Refuses, Stops, Builds, Tries, Along}
use Rattle.pdn_circuit.specs.Compare.{or_gates, less_gates, less_plane_gates, not_gates, agree_gates, agree_plane_gates, all_gates, all_of_gates, equal_gates}
use Rattle.pdn_circuit.proofs.Making.{gives-then, then-then, then_same, then-gives, give_after, makes_none, along_begin, along_as, along_next, along_stops, along_refused, along_end, builds_tries, last_tries}

-- ---- or

module _ (old : Made) (x y : ℕ) where
  pub or_no_both : (new : Made) (err : BuildErr) → Refuses old new (one (And x y) (length old.gates)) err → Stops old new (or_gates x y (length old.gates)) err
  or_no_both new err r = along_refused old old new (or_gates x y) _ _ err (along_begin old (or_gates x y)) r

  or_both : (mid : Made) (both : ℕ) → Makes old mid (one (And x y) (length old.gates)) both → Along old (or_gates x y) mid (one (Xor x y) >>= λ differ. one (Xor differ both))
  or_both mid both m = along_next old old mid (or_gates x y) _ (λ b. one (Xor x y) >>= λ differ. one (Xor differ b)) both (along_begin old (or_gates x y)) m

  pub or_no_differ : (mid new : Made) (both : ℕ) (err : BuildErr) → Makes old mid (one (And x y) (length old.gates)) both → Refuses mid new (one (Xor x y) (length mid.gates)) err → Stops old new (or_gates x y (length old.gates)) err
  or_no_differ mid new both err m r = along_refused old mid new (or_gates x y) _ _ err (or_both mid both m) r

  pub or_last : (mid now new : Made) (both differ : ℕ) (result : Result ℕ BuildErr) → Makes old mid (one (And x y) (length old.gates)) both → Makes mid now (one (Xor x y) (length mid.gates)) differ
      → Builds now new (one (Xor differ both)) result → Tries old new (or_gates x y) result
  or_last mid now new both differ result m k b =
      last_tries old now new (or_gates x y) (one (Xor differ both)) result (along_next old mid now (or_gates x y) _ (λ d. one (Xor d both)) differ (or_both mid both m) k) (builds_tries now new (one (Xor differ both)) result b)

-- ---- one plane of less
module _ (old : Made) (less x y : ℕ) where
  abbrev whole : Making ℕ
  whole = less_plane_gates less x y

  abbrev after_change : ℕ → ℕ → Making ℕ
  after_change differ change = one (And differ change) >>= λ changed. one (Xor less changed)

  abbrev after_differ : ℕ → Making ℕ
  after_differ differ = one (Xor y less) >>= after_change differ

  pub less_no_differ : (new : Made) (err : BuildErr) → Refuses old new (one (Xor x y) (length old.gates)) err → Stops old new (less_plane_gates less x y (length old.gates)) err
  less_no_differ new err r = along_refused old old new whole _ after_differ err (along_begin old whole) r

  less_differ : (mid : Made) (differ : ℕ) → Makes old mid (one (Xor x y) (length old.gates)) differ → Along old whole mid (after_differ differ)
  less_differ mid differ m = along_next old old mid whole _ after_differ differ (along_begin old whole) m

  pub less_no_change : (mid new : Made) (differ : ℕ) (err : BuildErr) → Makes old mid (one (Xor x y) (length old.gates)) differ → Refuses mid new (one (Xor y less) (length mid.gates)) err
      → Stops old new (less_plane_gates less x y (length old.gates)) err
  less_no_change mid new differ err m r = along_refused old mid new whole _ (after_change differ) err (less_differ mid differ m) r

  less_change : (mid now : Made) (differ change : ℕ) → Makes old mid (one (Xor x y) (length old.gates)) differ → Makes mid now (one (Xor y less) (length mid.gates)) change → Along old whole now (after_change differ change)
  less_change mid now differ change m k = along_next old mid now whole _ (after_change differ) change (less_differ mid differ m) k

  pub less_no_changed : (mid now new : Made) (differ change : ℕ) (err : BuildErr) → Makes old mid (one (Xor x y) (length old.gates)) differ → Makes mid now (one (Xor y less) (length mid.gates)) change
      → Refuses now new (one (And differ change) (length now.gates)) err → Stops old new (less_plane_gates less x y (length old.gates)) err
  less_no_changed mid now new differ change err m k r = along_refused old now new whole _ (λ changed. one (Xor less changed)) err (less_change mid now differ change m k) r

  pub less_last : (mid now then new : Made) (differ change changed : ℕ) (result : Result ℕ BuildErr) → Makes old mid (one (Xor x y) (length old.gates)) differ → Makes mid now (one (Xor y less) (length mid.gates)) change
      → Makes now then (one (And differ change) (length now.gates)) changed → Builds then new (one (Xor less changed)) result → Tries old new (less_plane_gates less x y) result
  less_last mid now then new differ change changed result m k l b =
      last_tries old then new whole (one (Xor less changed)) result (along_next old now then whole _ (λ c. one (Xor less c)) changed (less_change mid now differ change m k) l) (builds_tries then new (one (Xor less changed)) result b)

-- ---- plane by plane
less_opened : (less x y n : ℕ) (xs ys : List ℕ) → less_gates less (x ∷ xs) (y ∷ ys) n ≡ (less_plane_gates less x y >>= λ next. less_gates next xs ys) n
less_opened less x y n xs ys =
    sym (then-then (one (Xor x y)) _ _ n
    ∙ then_same (one (Xor x y)) _ _ n (λ differ m. then-then (one (Xor y less)) _ _ m
    ∙ then_same (one (Xor y less)) _ _ m (λ change k. then-then (one (And differ change)) _ _ k)))

module _ (old now : Made) (whole : Making ℕ) (less x y : ℕ) (xs ys us vs : List ℕ) (e : us ≡ x ∷ xs) (f : vs ≡ y ∷ ys) (a : Along old whole now (less_gates less us vs)) where
  less_begun : Along old whole now (less_plane_gates less x y >>= λ next. less_gates next xs ys)
  less_begun = along_as old now whole _ _ (λ n. less_opened less x y n xs ys) (subst (λ (zs : List ℕ). Along old whole now (less_gates less (x ∷ xs) zs)) f (subst (λ (zs : List ℕ). Along old whole now (less_gates less zs vs)) e a))

  pub less_stops : (new : Made) (err : BuildErr) → Stops now new (less_plane_gates less x y (length now.gates)) err → Stops old new (whole (length old.gates)) err
  less_stops new err s = along_stops old now new whole _ (λ next. less_gates next xs ys) err less_begun s

  pub less_next : (new : Made) (next : ℕ) → Makes now new (less_plane_gates less x y (length now.gates)) next → Along old whole new (less_gates next xs ys)
  less_next new next m = along_next old now new whole _ (λ g. less_gates g xs ys) next less_begun m

pub less_end : (old now : Made) (whole : Making ℕ) (less : ℕ) (us vs : List ℕ) → us ≡ [] → Along old whole now (less_gates less us vs) → Makes old now (whole (length old.gates)) less
less_end old now whole less us vs e a = along_end old now whole less (subst (λ (zs : List ℕ). Along old whole now (less_gates less zs vs)) e a)

-- a gate that was made is one of the builder's
pub gate_there : (old now : Made) (gate : Gate) (g : ℕ) → Makes old now (one gate (length old.gates)) g → g < length now.gates
unfolding one
gate_there old now gate g m = omega (arith, m.gives, ap length m.gates, length-append old.gates (gate ∷ []))

-- ---- equality: one plane
module _ (old : Made) (x y : ℕ) where
  pub agree_no_differ : (new : Made) (err : BuildErr) → Refuses old new (one (Xor x y) (length old.gates)) err → Stops old new (agree_plane_gates x y (length old.gates)) err
  agree_no_differ new err r = along_refused old old new (agree_plane_gates x y) _ not_gates err (along_begin old (agree_plane_gates x y)) r

  pub agree_last : (mid new : Made) (differ : ℕ) (result : Result ℕ BuildErr) → Makes old mid (one (Xor x y) (length old.gates)) differ → Builds mid new (not_gates differ) result → Tries old new (agree_plane_gates x y) result
  agree_last mid new differ result m b =
      last_tries old mid new (agree_plane_gates x y) (not_gates differ) result (along_next old old mid (agree_plane_gates x y) _ not_gates differ (along_begin old (agree_plane_gates x y)) m) (builds_tries mid new (not_gates differ) result b)

-- ---- and plane by plane
agree_opened : (x y n : ℕ) (xs ys front : List ℕ) → (agree_gates (x ∷ xs) (y ∷ ys) >>= give_after front) n ≡ (agree_plane_gates x y >>= λ agree. agree_gates xs ys >>= give_after (front ++ agree ∷ [])) n
agree_opened x y n xs ys front =
    then-then (one (Xor x y)) _ (give_after front) n
    ∙ then_same (one (Xor x y)) _ (λ differ. not_gates differ >>= λ agree. agree_gates xs ys >>= give_after (front ++ agree ∷ [])) n (λ differ m.
    then-then (not_gates differ) _ (give_after front) m
    ∙ then_same (not_gates differ) _ (λ agree. agree_gates xs ys >>= give_after (front ++ agree ∷ [])) m (λ agree k.
    then-then (agree_gates xs ys) _ (give_after front) k
    ∙ then_same (agree_gates xs ys) _ (give_after (front ++ agree ∷ [])) k (λ rest j.
    gives-then (agree ∷ rest) (give_after front) j ∙ ap (λ (zs : List ℕ). gives zs j) (sym (append_assoc front (agree ∷ []) rest)))))
    ∙ sym (then-then (one (Xor x y)) not_gates (λ agree. agree_gates xs ys >>= give_after (front ++ agree ∷ [])) n)

pub agree_begin : (made : Made) (xs ys planes : List ℕ) → planes ≡ [] → Along made (agree_gates xs ys) made (agree_gates xs ys >>= give_after planes)
agree_begin made xs ys planes e =
    subst (λ (ps : List ℕ). Along made (agree_gates xs ys) made (agree_gates xs ys >>= give_after ps)) (sym e)
    (along_as made made _ (agree_gates xs ys) _ (λ n. sym (then-gives (agree_gates xs ys) n)) (along_begin made (agree_gates xs ys)))

module _ (old now : Made) (whole : Making (List ℕ)) (x y : ℕ) (xs ys us vs front : List ℕ) (e : us ≡ x ∷ xs) (f : vs ≡ y ∷ ys) (a : Along old whole now (agree_gates us vs >>= give_after front)) where
  agree_begun : Along old whole now (agree_plane_gates x y >>= λ agree. agree_gates xs ys >>= give_after (front ++ agree ∷ []))
  agree_begun = along_as old now whole _ _ (λ n. agree_opened x y n xs ys front)
      (subst (λ (zs : List ℕ). Along old whole now (agree_gates (x ∷ xs) zs >>= give_after front)) f (subst (λ (zs : List ℕ). Along old whole now (agree_gates zs vs >>= give_after front)) e a))

  pub agree_stops : (new : Made) (err : BuildErr) → Stops now new (agree_plane_gates x y (length now.gates)) err → Stops old new (whole (length old.gates)) err
  agree_stops new err s = along_stops old now new whole _ (λ agree. agree_gates xs ys >>= give_after (front ++ agree ∷ [])) err agree_begun s

  pub agree_next : (new : Made) (agree : ℕ) (planes : List ℕ) → Makes now new (agree_plane_gates x y (length now.gates)) agree → planes ≡ front ++ agree ∷ [] → Along old whole new (agree_gates xs ys >>= give_after planes)
  agree_next new agree planes m g =
      subst (λ (ps : List ℕ). Along old whole new (agree_gates xs ys >>= give_after ps)) (sym g)
      (along_next old now new whole _ (λ b. agree_gates xs ys >>= give_after (front ++ b ∷ [])) agree agree_begun m)

pub agree_end : (old now : Made) (whole : Making (List ℕ)) (us vs front : List ℕ) → us ≡ [] → Along old whole now (agree_gates us vs >>= give_after front) → Makes old now (whole (length old.gates)) front
agree_end old now whole us vs front e a =
    along_end old now whole front (along_as old now whole _ _ (λ n. ap (λ (zs : List ℕ). (agree_gates zs vs >>= give_after front) n) e ∙ gives-then [] (give_after front) n ∙ ap (λ (zs : List ℕ). gives zs n) (append-nil front)) a)

-- ---- all of some
pub all_begin : (made : Made) (first : ℕ) (planes rest : List ℕ) → planes ≡ first ∷ rest → Along made (all_of_gates planes) made (all_gates first rest)
all_begin made first planes rest e = subst (λ (making : Making ℕ). Along made (all_of_gates planes) made making) (ap all_of_gates e) (along_begin made (all_of_gates planes))

pub all_none : (made : Made) (planes : List ℕ) → length planes ≡ 0 → Makes made made (all_of_gates planes (length made.gates)) 1
all_none made [] h = makes_none made 1
all_none made (p ∷ ps) h = absurd (omega arith)

module _ (old now : Made) (whole : Making ℕ) (acc t : ℕ) (ts us : List ℕ) (e : us ≡ t ∷ ts) (a : Along old whole now (all_gates acc us)) where
  all_begun : Along old whole now (one (And acc t) >>= λ next. all_gates next ts)
  all_begun = subst (λ (zs : List ℕ). Along old whole now (all_gates acc zs)) e a

  pub all_stops : (new : Made) (err : BuildErr) → Refuses now new (one (And acc t) (length now.gates)) err → Stops old new (whole (length old.gates)) err
  all_stops new err r = along_refused old now new whole _ (λ next. all_gates next ts) err all_begun r

  pub all_next : (new : Made) (next : ℕ) → Makes now new (one (And acc t) (length now.gates)) next → Along old whole new (all_gates next ts)
  all_next new next m = along_next old now new whole _ (λ g. all_gates g ts) next all_begun m

pub all_end : (old now : Made) (whole : Making ℕ) (acc : ℕ) (us : List ℕ) → us ≡ [] → Along old whole now (all_gates acc us) → Makes old now (whole (length old.gates)) acc
all_end old now whole acc us e a = along_end old now whole acc (subst (λ (zs : List ℕ). Along old whole now (all_gates acc zs)) e a)

-- ---- equality
module _ (old : Made) (xs ys : List ℕ) where
  pub equal_stops : (new : Made) (err : BuildErr) → Stops old new (agree_gates xs ys (length old.gates)) err → Stops old new (equal_gates xs ys (length old.gates)) err
  equal_stops new err s = along_stops old old new (equal_gates xs ys) _ all_of_gates err (along_begin old (equal_gates xs ys)) s

  pub equal_last : (mid new : Made) (planes : List ℕ) (result : Result ℕ BuildErr) → Makes old mid (agree_gates xs ys (length old.gates)) planes → Tries mid new (all_of_gates planes) result → Tries old new (equal_gates xs ys) result
  equal_last mid new planes result m t = last_tries old mid new (equal_gates xs ys) (all_of_gates planes) result (along_next old old mid (equal_gates xs ys) _ all_of_gates planes (along_begin old (equal_gates xs ys)) m) t
