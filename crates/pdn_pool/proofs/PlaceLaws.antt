-- Results in their places.
use Rattle.std.proofs.Common.{◌≡◌, ◌≢◌, ℕ, zero, suc, ◌+◌, ◌<◌, ◌≤◌, List, [], ◌∷◌, ◌++◌, length, map, Option, Some, None, Result, Ok, Err, IfOk, refl, sym, ap, ◌∙◌, subst, arith, inl, inr, ◌⊎◌, ⊎_elim, All}
use Rattle.std.specs.Prelude.{slice_index_or, slice_set, IsSome, IsSomeAnd, if◌then◌else◌, ◌==◌}
use Rattle.std.proofs.lemmas.Bool.Decides.{nat_tests, eqb_tells}
use Rattle.std.proofs.lemmas.List.{get_or-set_same, get_or-set_other, length-set, length-map, get_or-map, map-append, append_assoc}
use Rattle.std.proofs.lemmas.List.Elements.{All-from_get_or}
use Rattle.pdn_pool.specs.Draws.{times, once_below}
use Rattle.pdn_pool.specs.Results.{GivenAt, EachGives, placed}
use Rattle.pdn_pool.proofs.DrawSteps.{times_append}

pub if_ok : {T E : Type 0} {P Q : T → Type 0} (r : Result T E) → ((x : T) → P x → Q x) → IfOk r P → IfOk r Q
if_ok (Ok x) f h = f x h
if_ok (Err e) f h = h

-- ---- a list that is gone through
pub all_next : {X : Type 0} (P : X → Type 0) (rest next : List X) (x : X) → rest ≡ x ∷ next → All P rest → P x × All P next
all_next P rest next x e all =
    let here = subst (λ (xs : List _). All P xs) e all in
    (here 0 x (omega arith), λ k d h. here (suc k) d (omega arith))

pub placed_next : {X : Type 0} (places whole : List (Option X)) (rest next : List (ℕ × X)) (p : ℕ × X) → rest ≡ p ∷ next
    → placed places rest ≡ whole → placed (slice_set places p.0 (Some p.1)) next ≡ whole
placed_next places whole rest next p e h = ap (λ (ps : List (ℕ × _)). placed places ps) (sym e) ∙ h

pub some_next : {X : Type 0} (outs more : List X) (rest next whole : List (Option X)) (o : Option X) (x : X) → rest ≡ o ∷ next → o ≡ Some x
    → more ≡ outs ++ x ∷ [] → map (λ y. Some y) outs ++ rest ≡ whole → map (λ y. Some y) more ++ next ≡ whole
some_next outs more rest next whole o x e is m h =
    ap (λ (ys : List _). map (λ y. Some y) ys ++ next) m
    ∙ ap (λ (os : List (Option _)). os ++ next) (map-append (λ y. Some y) outs (x ∷ []))
    ∙ append_assoc (map (λ y. Some y) outs) (Some x ∷ []) next
    ∙ ap (λ (q : Option _). map (λ y. Some y) outs ++ q ∷ next) (sym is)
    ∙ ap (λ (os : List (Option _)). map (λ y. Some y) outs ++ os) (sym e)
    ∙ h

-- ---- results at their places
-- the place of job i has a result that this job gives
abbrev pub HasResult : {J X : Type 0} → (J → X → Type 0) → List J → List (Option X) → ℕ → Type 0
HasResult gives jobs places i = (job : _) → IsSomeAnd (slice_index_or places i None) (λ x. gives (slice_index_or jobs i job) x)

-- each job whose number was drawn has its result
abbrev pub Laid : {J X : Type 0} → (J → X → Type 0) → List J → List ℕ → List (Option X) → Type 0
Laid gives jobs drawn places = (i : ℕ) → i < length jobs → 1 ≤ times i drawn → HasResult gives jobs places i

-- some number past all jobs was drawn
abbrev pub Past : ℕ → List ℕ → Type 0
Past jobs drawn = (last : ℕ) × (jobs ≤ last) × (1 ≤ times last drawn)

in_either : (a b : ℕ) → 1 ≤ a + b → (1 ≤ a) ⊎ (1 ≤ b)
in_either zero b h = inr (omega arith)
in_either (suc a) b h = inl (omega arith)

times_past : (i last : ℕ) → i < last → times i (last ∷ []) ≡ 0
unfolding times
times_past i last h = grind (arith, nat_tests)

times_self : (n : ℕ) → times n (n ∷ []) ≡ 1
unfolding times
times_self n = grind (arith, nat_tests)

-- 1 for a number that is meant, and else 0
mark : ℕ → ℕ → ℕ
mark k i = if k == i then 1 else 0

mark_other : (k i : ℕ) → k ≢ i → mark k i ≡ 0
unfolding mark
mark_other k i h = grind (arith, nat_tests)

none_and : (n : ℕ) → 0 + n ≡ n
none_and n = omega arith

times_other : (i k : ℕ) (ns : List ℕ) → k ≢ i → times i (k ∷ ns) ≡ times i ns
unfolding times mark
times_other i k ns h = ap (λ (n : ℕ). n + times i ns) (mark_other k i h) ∙ none_and (times i ns)

last_drawn : (xs ys : List ℕ) (last : ℕ) → 1 ≤ times last (xs ++ (ys ++ last ∷ []))
last_drawn xs ys last =
    let a = times_append last xs (ys ++ last ∷ []) in
    let b = times_append last ys (last ∷ []) in
    let c = times_self last in
    omega arith

is_below : (x n : ℕ) → 1 ≤ once_below x n → x < n
is_below x n h = grind (arith, nat_tests)

one_below : (x n : ℕ) → x < n → once_below x n ≡ 1
one_below x n h = grind (arith, nat_tests)

some_of : {X : Type 0} (o : Option X) (P : X → Type 0) → IsSomeAnd o P → IsSome o
some_of None P h = absurd h
some_of (Some x) P h = refl

one_of : {J : Type 0} (jobs : List J) (i : ℕ) → i < length jobs → J
one_of [] i h = absurd (omega arith)
one_of (j ∷ js) i h = j

module _ {J X : Type 0} (gives : J → X → Type 0) (jobs : List J) where
  -- a result put at its place is there, and all others stand
  result_there : (places : List (Option X)) (p : ℕ × X) → length places ≡ length jobs → GivenAt gives jobs p
      → HasResult gives jobs (slice_set places p.0 (Some p.1)) p.0
  result_there places p l g = λ job.
      subst (λ (o : Option X). IsSomeAnd o (λ x. gives (slice_index_or jobs p.0 job) x))
      (sym (get_or-set_same places p.0 (Some p.1) None (let b = g.below in omega arith))) (g.result job)

  result_kept : (places : List (Option X)) (p : ℕ × X) (i : ℕ) → length places ≡ length jobs → GivenAt gives jobs p
      → HasResult gives jobs places i → HasResult gives jobs (slice_set places p.0 (Some p.1)) i
  result_kept places p i l g h = ⊎_elim
      (λ same. subst (λ k. HasResult gives jobs (slice_set places p.0 (Some p.1)) k) (sym same.1) (result_there places p l g))
      (λ other. λ job. subst (λ (o : Option X). IsSomeAnd o (λ x. gives (slice_index_or jobs i job) x))
      (sym (get_or-set_other places p.0 i (Some p.1) None other.1)) (h job))
      (eqb_tells i p.0)

  pub placed_length : (places : List (Option X)) (ps : List (ℕ × X)) → length (placed places ps) ≡ length places
  placed_length places [] = refl
  placed_length places (p ∷ ps) = placed_length (slice_set places p.0 (Some p.1)) ps ∙ length-set places p.0 (Some p.1)

  head_of : (p : ℕ × X) (ps : List (ℕ × X)) → All (GivenAt gives jobs) (p ∷ ps) → GivenAt gives jobs p
  head_of p ps all = all 0 p (omega arith)

  tail_of : (p : ℕ × X) (ps : List (ℕ × X)) → All (GivenAt gives jobs) (p ∷ ps) → All (GivenAt gives jobs) ps
  tail_of p ps all = λ k d h. all (suc k) d (omega arith)

  placed_keeps : (places : List (Option X)) (ps : List (ℕ × X)) (i : ℕ) → length places ≡ length jobs → All (GivenAt gives jobs) ps
      → HasResult gives jobs places i → HasResult gives jobs (placed places ps) i
  placed_keeps places [] i l all h = h
  placed_keeps places (p ∷ ps) i l all h =
      placed_keeps (slice_set places p.0 (Some p.1)) ps i (length-set places p.0 (Some p.1) ∙ l) (tail_of p ps all)
      (result_kept places p i l (head_of p ps all) h)

  placed_lays : (places : List (Option X)) (ps : List (ℕ × X)) (i : ℕ) → length places ≡ length jobs → All (GivenAt gives jobs) ps
      → 1 ≤ times i (map (λ p. p.0) ps) → HasResult gives jobs (placed places ps) i
  unfolding times
  placed_lays places [] i l all h = absurd (omega arith)
  placed_lays places (p ∷ ps) i l all h =
      let l' = length-set places p.0 (Some p.1) ∙ l in
      ⊎_elim
      (λ same. placed_keeps (slice_set places p.0 (Some p.1)) ps i l' (tail_of p ps all)
      (subst (λ k. HasResult gives jobs (slice_set places p.0 (Some p.1)) k) same.1 (result_there places p l (head_of p ps all))))
      (λ other. placed_lays (slice_set places p.0 (Some p.1)) ps i l' (tail_of p ps all)
      (subst (λ (n : ℕ). 1 ≤ n) (times_other i p.0 (map (λ q. q.0) ps) other.1) h))
      (eqb_tells p.0 i)

  -- a worker's results are laid
  pub laid_more : (places : List (Option X)) (drawn : List ℕ) (ps : List (ℕ × X)) (last : ℕ) → length places ≡ length jobs
      → All (GivenAt gives jobs) ps → length jobs ≤ last → Laid gives jobs drawn places
      → Laid gives jobs (drawn ++ (map (λ p. p.0) ps ++ last ∷ [])) (placed places ps)
  laid_more places drawn ps last l all past laid = λ i h t.
      let a = times_append i drawn (map (λ p. p.0) ps ++ last ∷ []) in
      let b = times_append i (map (λ p. p.0) ps) (last ∷ []) in
      let c = times_past i last (omega arith) in
      ⊎_elim
      (λ before. placed_keeps places ps i l all (laid i h before))
      (λ now. placed_lays places ps i l all now)
      (in_either (times i drawn) (times i (map (λ p. p.0) ps)) (omega arith))

  -- where each number below n was drawn, and one past all jobs, each job has its result
  pub all_laid : (places : List (Option X)) (drawn : List ℕ) (n : ℕ) → ((x : ℕ) → times x drawn ≡ once_below x n)
      → Past (length jobs) drawn → Laid gives jobs drawn places → (i : ℕ) → i < length jobs → HasResult gives jobs places i
  all_laid places drawn n once (last, far, seen) laid i h =
      let more = once last in
      let below = is_below last n (omega arith) in
      let this = once i in
      let one = one_below i n (omega arith) in
      laid i h (omega arith)

  some_at : (places : List (Option X)) (i : ℕ) → i < length jobs → HasResult gives jobs places i → IsSome (slice_index_or places i None)
  some_at places i h has =
      let job = one_of jobs i h in
      some_of (slice_index_or places i None) (λ x. gives (slice_index_or jobs i job) x) (has job)

  pub all_some : (places : List (Option X)) → length places ≡ length jobs → ((i : ℕ) → i < length jobs → HasResult gives jobs places i)
      → All IsSome places
  all_some places l has = All-from_get_or IsSome places None (λ i h. some_at places i (omega arith) (has i (omega arith)))

  pub each_gives : (places : List (Option X)) (outs : List X) → map Some outs ≡ places → length places ≡ length jobs
      → ((i : ℕ) → i < length jobs → HasResult gives jobs places i) → EachGives gives jobs outs
  each_gives places outs e l has = λ i job out h.
      let n : length outs ≡ length places = sym (length-map outs (λ (x : X). Some x)) ∙ ap length e in
      let at : slice_index_or places i None ≡ Some (slice_index_or outs i out) =
      ap (λ (ps : List (Option X)). slice_index_or ps i None) (sym e) ∙ get_or-map (λ (x : X). Some x) outs i out None (omega arith) in
      subst (λ (o : Option X). IsSomeAnd o (λ x. gives (slice_index_or jobs i job) x)) at (has i h job)

-- ---- the gathering: seats are joined, and their results laid
pub record Gathering {J X : Type 0} (gives : J → X → Type 0) (jobs : List J) (all left part : ℕ) (drawn : List ℕ) (places : List (Option X)) : Type 0 where
  pub whole : part + left ≡ 65535
  pub count : length places ≡ length jobs
  pub past : left < all → Past (length jobs) drawn
  pub laid : Laid gives jobs drawn places

module _ {J X : Type 0} (gives : J → X → Type 0) (jobs : List J) where
  pub gathering_begins : (all left part : ℕ) (drawn : List ℕ) (places : List (Option X)) → left ≡ all → part + all ≡ 65535 → drawn ≡ []
      → length places ≡ length jobs → Gathering gives jobs all left part drawn places
  unfolding times
  gathering_begins all left part drawn places same whole fresh count = record {
    whole = rw same whole;
    count = count;
    past = λ h. absurd (omega arith);
    laid = λ i h t. let none : 1 ≤ times i [] = subst (λ ds. 1 ≤ times i ds) fresh t in absurd (omega arith);
  }

  -- one worker's seat and results
  pub gathering_goes : (all left part : ℕ) (drawn : List ℕ) (places : List (Option X)) (left' part' : ℕ) (theirs drawn' : List ℕ) (ps : List (ℕ × X))
      (last : ℕ) (places' : List (Option X)) → Gathering gives jobs all left part drawn places
      → left' + 1 ≡ left → part' ≡ part + 1 → drawn' ≡ drawn ++ theirs → theirs ≡ map (λ p. p.0) ps ++ last ∷ [] → length jobs ≤ last
      → All (GivenAt gives jobs) ps → places' ≡ placed places ps → Gathering gives jobs all left' part' drawn' places'
  gathering_goes all left part drawn places left' part' theirs drawn' ps last places' q fewer more joined theirs_are far given put =
      let list = joined ∙ ap (λ ds. drawn ++ ds) theirs_are in
      record {
        whole = let w = q.whole in omega arith;
        count = ap length put ∙ placed_length gives jobs places ps ∙ q.count;
        past = λ h. (last, far, subst (λ ds. 1 ≤ times last ds) (sym list) (last_drawn drawn (map (λ p. p.0) ps) last));
        laid = subst (λ os. Laid gives jobs drawn' os) (sym put)
            (subst (λ ds. Laid gives jobs ds (placed places ps)) (sym list) (laid_more gives jobs places drawn ps last q.count given far q.laid));
      }

  -- at the end each job has its result
  pub gathering_ends : (all left part : ℕ) (drawn : List ℕ) (places : List (Option X)) (n : ℕ) → Gathering gives jobs all left part drawn places
      → left ≡ 0 → 1 ≤ all → ((x : ℕ) → times x drawn ≡ once_below x n) → (i : ℕ) → i < length jobs → HasResult gives jobs places i
  gathering_ends all left part drawn places n q done some once = all_laid gives jobs places drawn n once (q.past (omega arith)) q.laid
