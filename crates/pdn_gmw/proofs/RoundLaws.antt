-- In rounds, each half hears what it needs before it sends.
use Rattle.std.proofs.Common.{◌≡◌, ℕ, zero, suc, ◌+◌, ◌<◌, ◌≤◌, List, [], ◌∷◌, ◌++◌, length, get_or, replicate, cond, eqb, leb, true, false, refl, sym, ap, ◌∙◌, subst, ⊎_elim, arith, length-append, append_assoc, append-nil, All}
use Rattle.std.proofs.lemmas.List.{length-map}
use Rattle.std.specs.List.{fold}
use Rattle.std.specs.Prelude.{slice_index, slice_index_or}
use Rattle.std.proofs.lemmas.List.{get_or_at}
use Rattle.std.proofs.lemmas.Bool.Decides.{eqb_tells, leb_tells}
use Rattle.std.proofs.lemmas.Bool.{cond-true, cond-false, le-leb, lt-leb}
use Rattle.pdn_base.specs.Words.{◌⊕◌}
use Rattle.pdn_circuit.specs.declared.gate.Gate.{Gate}
use Rattle.pdn_circuit.specs.declared.gate.Gate.TheVariants.{Input, Given, Const, Xor, And, Spread, Move}
use Rattle.pdn_base.specs.declared.site.Site.{Site}
use Rattle.pdn_circuit.specs.Gates.{operands_of}
use Rattle.pdn_circuit.specs.Depths.{IsAfter, InRounds, own_round, and_rounds_from, and_rounds, depths_of}
use Rattle.pdn_circuit.proofs.DepthLaws.{depths_in_rounds}
use Rattle.pdn_gmw.specs.Shares.{Masked, blank, inputs_after}
use Rattle.pdn_gmw.specs.Halves.{HalfWords, HalfWalk, half_start, triple_at, heard_at, half_masked, half_product, half_share, half_sends, half_step, half_walk}
use Rattle.pdn_gmw.specs.Rounds.{pick, put, Heard, heard_after, RoundLaw, DepthLaw}

-- the frames of rounds up to n; the others are blank
abbrev pub upto : ℕ → List ℕ → List Masked → List Masked
upto n [] fs = []
upto n (e ∷ es) [] = []
upto n (e ∷ es) (f ∷ fs) = cond (leb e n) f blank ∷ upto n es fs

-- ---- one more round
put_other : (d e : ℕ) (es : List ℕ) (h : Masked) (hs frame : List Masked) → eqb e d ≡ false → put d (e ∷ es) (h ∷ hs) frame ≡ h ∷ put d es hs frame
put_other d e es h hs [] t = refl
put_other d e es h hs (f ∷ frame) t = rw t refl

same_reading : (e n : ℕ) → eqb e (suc n) ≡ false → leb e n ≡ leb e (suc n)
same_reading e n t = grind (arith, eqb_tells, leb_tells)

pub put_next : (n : ℕ) (es : List ℕ) (fs : List Masked) → put (suc n) es (upto n es fs) (pick (suc n) es fs) ≡ upto (suc n) es fs
put_next n [] fs = refl
put_next n (e ∷ es) [] = refl
put_next n (e ∷ es) (f ∷ fs) =
    let h = put_next n es fs in
    ⊎_elim
    (λ t. ap (put (suc n) (e ∷ es) (cond (leb e n) f blank ∷ upto n es fs)) (cond-true (eqb e (suc n)) (f ∷ pick (suc n) es fs) (pick (suc n) es fs) t.0)
    ∙ cond-true (eqb e (suc n)) (f ∷ put (suc n) es (upto n es fs) (pick (suc n) es fs)) _ t.0
    ∙ rw (h, le-leb e (suc n) (omega arith)) refl)
    (λ t. ap (put (suc n) (e ∷ es) (cond (leb e n) f blank ∷ upto n es fs)) (cond-false (eqb e (suc n)) (f ∷ pick (suc n) es fs) (pick (suc n) es fs) t.0)
    ∙ put_other (suc n) e es (cond (leb e n) f blank) (upto n es fs) (pick (suc n) es fs) t.0
    ∙ rw (h, same_reading e n t.0) refl)
    (eqb_tells e (suc n))

-- ---- lists that agree up to a round
pub upto_at : (n : ℕ) (es : List ℕ) (fs gs : List Masked) → upto n es fs ≡ upto n es gs → (k : ℕ) → k < length es → get_or es k 0 ≤ n → get_or fs k blank ≡ get_or gs k blank
upto_at n [] fs gs e k l h = absurd (omega arith)
upto_at n (d ∷ es) [] [] e k l h = refl
upto_at n (d ∷ es) [] (g ∷ gs) e k l h = absurd (cc)
upto_at n (d ∷ es) (f ∷ fs) [] e k l h = absurd (cc)
upto_at n (d ∷ es) (f ∷ fs) (g ∷ gs) e zero l h =
    let t : leb d n ≡ true = le-leb d n h in
    let same : cond (leb d n) f blank ≡ cond (leb d n) g blank = cc in
    sym (cond-true (leb d n) f blank t) ∙ same ∙ cond-true (leb d n) g blank t
upto_at n (d ∷ es) (f ∷ fs) (g ∷ gs) e (suc k) l h =
    let rest : upto n es fs ≡ upto n es gs = cc in
    upto_at n es fs gs rest k (omega arith) h

upto-append : (n : ℕ) (es ds : List ℕ) (fs gs : List Masked) → length fs ≡ length es → upto n (es ++ ds) (fs ++ gs) ≡ upto n es fs ++ upto n ds gs
upto-append n [] ds [] gs l = refl
upto-append n [] ds (f ∷ fs) gs l = absurd (omega arith)
upto-append n (e ∷ es) ds [] gs l = absurd (omega arith)
upto-append n (e ∷ es) ds (f ∷ fs) gs l = ap (λ (xs : List Masked). cond (leb e n) f blank ∷ xs) (upto-append n es ds fs gs (omega arith))

upto_all : (n : ℕ) (es : List ℕ) (fs : List Masked) → length fs ≡ length es → All (λ d. d ≤ n) es → upto n es fs ≡ fs
upto_all n [] [] l all = refl
upto_all n [] (f ∷ fs) l all = absurd (omega arith)
upto_all n (e ∷ es) [] l all = absurd (omega arith)
upto_all n (e ∷ es) (f ∷ fs) l all = rw (le-leb e n (all 0 e (omega arith)), upto_all n es fs (omega arith) (λ k d h. all (suc k) d (omega arith))) refl

upto_none : (es : List ℕ) (fs : List Masked) → length fs ≡ length es → All (λ d. 0 < d) es → upto 0 es fs ≡ replicate (length es) blank
upto_none [] [] l all = refl
upto_none [] (f ∷ fs) l all = absurd (omega arith)
upto_none (e ∷ es) [] l all = absurd (omega arith)
upto_none (e ∷ es) (f ∷ fs) l all = rw (lt-leb e 0 (all 0 e (omega arith)), upto_none es fs (omega arith) (λ k d h. all (suc k) d (omega arith))) refl

-- ---- what a half sends for a gate depends on what it has heard in earlier rounds alone
push_upto : (n : ℕ) (round : ℕ → ℕ) (xs ys : List ℕ) (x y : ℕ) → length ys ≡ length xs → (round (length xs) ≤ n → x ≡ y)
    → ((j : ℕ) → round j ≤ n → get_or xs j 0 ≡ get_or ys j 0)
    → (j : ℕ) → round j ≤ n → get_or (xs ++ x ∷ []) j 0 ≡ get_or (ys ++ y ∷ []) j 0
push_upto n round [] [] x y l e h zero b = e b
push_upto n round [] [] x y l e h (suc j) b = refl
push_upto n round [] (c ∷ ys) x y l e h j b = absurd (omega arith)
push_upto n round (a ∷ xs) [] x y l e h j b = absurd (omega arith)
push_upto n round (a ∷ xs) (c ∷ ys) x y l e h zero b = h zero b
push_upto n round (a ∷ xs) (c ∷ ys) x y l e h (suc j) b = push_upto n (λ i. round (suc i)) xs ys x y (omega arith) e (λ i. h (suc i)) j b

-- two walks of one half that have heard the same in rounds up to n; es are the rounds of the And gates so far
pub record Agree (n : ℕ) (round : ℕ → ℕ) (es : List ℕ) (w v : HalfWalk) : Type 0 where
  pub share : (j : ℕ) → round j ≤ n → get_or w.shares j 0 ≡ get_or v.shares j 0
  pub sent : upto (suc n) es w.sent ≡ upto (suc n) es v.sent
  pub inputs : w.inputs ≡ v.inputs
  pub long : length v.shares ≡ length w.shares
  pub count : length w.sent ≡ length es
  pub count_second : length v.sent ≡ length es

frames_agree : (n : ℕ) (h : HalfWords) (round : ℕ → ℕ) (es : List ℕ) (w v : HalfWalk) (x y : ℕ) → Agree n round es w v → round x ≤ n → round y ≤ n → half_masked h w x y ≡ half_masked h v x y
frames_agree n h round es w v x y a bx by = rw (a.share x bx, a.share y by, a.count, a.count_second) refl

-- the same heard at an And gate of a round that isn't too late
abbrev pub HeardAlike : ℕ → ℕ → List ℕ → List Masked → List Masked → Gate → Type 0
HeardAlike n own es hs gs (And x y) = own ≤ n → get_or hs (length es) blank ≡ get_or gs (length es) blank
HeardAlike n own es hs gs (Input from index) = Unit {0}
HeardAlike n own es hs gs (Given index) = Unit {0}
HeardAlike n own es hs gs (Const word) = Unit {0}
HeardAlike n own es hs gs (Xor x y) = Unit {0}
HeardAlike n own es hs gs (Spread x lane) = Unit {0}
HeardAlike n own es hs gs (Move x from count to) = Unit {0}

product_agrees : (site : Site) (h : HalfWords) (k l : ℕ) (m p q r : Masked) → k ≡ l → m ≡ p → q ≡ r
    → half_product site (triple_at h k) (m.d ⊕ q.d) (m.e ⊕ q.e) ≡ half_product site (triple_at h l) (p.d ⊕ r.d) (p.e ⊕ r.e)
product_agrees site h k l m p q r e f g = rw (e, f, g) refl

new_agrees : (n own : ℕ) (h : HalfWords) (hs gs : List Masked) (round : ℕ → ℕ) (es : List ℕ) (w v : HalfWalk) (gate : Gate) → Agree n round es w v → HeardAlike n own es hs gs gate
    → IsAfter round own gate → own ≤ n → half_share h hs w gate ≡ half_share h gs v gate
new_agrees n own h hs gs round es w v (Input from index) a e i b = rw a.inputs refl
new_agrees n own h hs gs round es w v (Given index) a e i b = refl
new_agrees n own h hs gs round es w v (Const word) a e i b = refl
new_agrees n own h hs gs round es w v (Xor x y) a e i b = let p = i.0 in let q = i.1 in rw (a.share x (omega arith), a.share y (omega arith)) refl
new_agrees n own h hs gs round es w v (And x y) a e i b =
    let p = i.0 in let q = i.1 in
    product_agrees h.site h (length w.sent) (length v.sent) (half_masked h w x y) (half_masked h v x y) (heard_at hs (length w.sent)) (heard_at gs (length v.sent))
    (a.count ∙ sym a.count_second)
    (frames_agree n h round es w v x y a (omega arith) (omega arith))
    (ap (heard_at hs) a.count ∙ e b ∙ ap (heard_at gs) (sym a.count_second))
new_agrees n own h hs gs round es w v (Spread x lane) a e i b = rw (a.share x (omega arith)) refl
new_agrees n own h hs gs round es w v (Move x from count to) a e i b = rw (a.share x (omega arith)) refl

-- an And gate of round n + 1 sends the same still
sends_agree : (n own : ℕ) (h : HalfWords) (round : ℕ → ℕ) (es : List ℕ) (w v : HalfWalk) (gate : Gate) → Agree n round es w v → IsAfter round own gate
    → upto (suc n) (own_round gate own) (half_sends h w gate) ≡ upto (suc n) (own_round gate own) (half_sends h v gate)
sends_agree n own h round es w v (Input from index) a i = refl
sends_agree n own h round es w v (Given index) a i = refl
sends_agree n own h round es w v (Const word) a i = refl
sends_agree n own h round es w v (Xor x y) a i = refl
sends_agree n own h round es w v (And x y) a i =
    let p = i.0 in let q = i.1 in
    ⊎_elim
    (λ t. ap (λ (f : Masked). upto (suc n) (own ∷ []) (f ∷ [])) (frames_agree n h round es w v x y a (omega arith) (omega arith)))
    (λ t. rw t.0 refl)
    (leb_tells own (suc n))
sends_agree n own h round es w v (Spread x lane) a i = refl
sends_agree n own h round es w v (Move x from count to) a i = refl

sends_count : (h : HalfWords) (own : ℕ) (w : HalfWalk) (gate : Gate) → length (half_sends h w gate) ≡ length (own_round gate own)
sends_count h own w gate = length-map (operands_of gate) (λ p. half_masked h w p.x p.y) ∙ sym (length-map (operands_of gate) (λ p. own))

agree_next : (n : ℕ) (h : HalfWords) (hs gs : List Masked) (round : ℕ → ℕ) (es : List ℕ) (w v : HalfWalk) (gate : Gate) → let own = round (length w.shares) in
    Agree n round es w v → HeardAlike n own es hs gs gate → IsAfter round own gate
    → Agree n round (es ++ own_round gate own) (half_step h hs w gate) (half_step h gs v gate)
agree_next n h hs gs round es w v gate a e i =
    let own : ℕ = round (length w.shares) in
    let lv = a.long in let cw = a.count in let cv = a.count_second in
    let la = length-append es (own_round gate own) in
    record {
      share = push_upto n round w.shares v.shares (half_share h hs w gate) (half_share h gs v gate) lv (new_agrees n own h hs gs round es w v gate a e i) a.share;
      sent = upto-append (suc n) es (own_round gate own) w.sent (half_sends h w gate) cw
          ∙ rw (a.sent, sends_agree n own h round es w v gate a i) (sym (upto-append (suc n) es (own_round gate own) v.sent (half_sends h v gate) cv));
      inputs = ap (λ k. inputs_after k gate) a.inputs;
      long = omega (arith, length-append w.shares (half_share h hs w gate ∷ []), length-append v.shares (half_share h gs v gate ∷ []));
      count = omega (arith, length-append w.sent (half_sends h w gate), sends_count h own w gate);
      count_second = omega (arith, length-append v.sent (half_sends h v gate), sends_count h own v gate);
    }

-- all is the rounds of all And gates: those before, and those of the gates to come
heard_alike : (n own : ℕ) (hs gs : List Masked) (es all more : List ℕ) (gate : Gate) → all ≡ es ++ (own_round gate own ++ more) → upto n all hs ≡ upto n all gs → HeardAlike n own es hs gs gate
heard_alike n own hs gs es all more (Input from index) e u = tt
heard_alike n own hs gs es all more (Given index) e u = tt
heard_alike n own hs gs es all more (Const word) e u = tt
heard_alike n own hs gs es all more (Xor x y) e u = tt
heard_alike n own hs gs es all more (And x y) e u =
    λ h. upto_at n all hs gs u (length es) (omega (arith, ap length e, length-append es (own ∷ more)))
    (subst (λ (k : ℕ). k ≤ n) (sym (ap (λ (xs : List ℕ). get_or xs (length es) 0) e ∙ get_or_at es own more 0 (length es) refl)) h)
heard_alike n own hs gs es all more (Spread x lane) e u = tt
heard_alike n own hs gs es all more (Move x from count to) e u = tt

agree_along : (n : ℕ) (h : HalfWords) (hs gs : List Masked) (round : ℕ → ℕ) (all : List ℕ) → upto n all hs ≡ upto n all gs
    → (gates : List Gate) (es : List ℕ) (w v : HalfWalk) → ((k : ℕ) (other : Gate) → k < length gates → IsAfter round (round (length w.shares + k)) (slice_index_or gates k other))
    → all ≡ es ++ and_rounds_from round (length w.shares) gates → Agree n round es w v
    → Agree n round all (fold (half_step h hs) w gates) (fold (half_step h gs) v gates)
agree_along n h hs gs round all u [] es w v i e a = subst (λ (xs : List ℕ). Agree n round xs w v) (sym (e ∙ append-nil es)) a
agree_along n h hs gs round all u (g ∷ gates) es w v i e a =
    let m : ℕ = length w.shares in
    let own : ℕ = round m in
    let more : List ℕ = and_rounds_from round (m + 1) gates in
    let here : IsAfter round own g = subst (λ (k : ℕ). IsAfter round (round k) g) (omega arith) (i 0 g (omega arith)) in
    let one : length (half_step h hs w g).shares ≡ m + 1 = length-append w.shares (half_share h hs w g ∷ []) in
    agree_along n h hs gs round all u gates (es ++ own_round g own) (half_step h hs w g) (half_step h gs v g)
    (λ k other l. subst (λ (j : ℕ). IsAfter round (round j) (slice_index_or gates k other)) (omega arith) (i (suc k) other (omega arith)))
    (e ∙ sym (append_assoc es (own_round g own) more) ∙ ap (λ (j : ℕ). (es ++ own_round g own) ++ and_rounds_from round j gates) (sym one))
    (agree_next n h hs gs round es w v g a (heard_alike n own hs gs es all more g e u) here)

agree_whole : (n : ℕ) (h : HalfWords) (gates : List Gate) (rounds : List ℕ) (hs gs : List Masked) → InRounds gates rounds → upto n (and_rounds gates rounds) hs ≡ upto n (and_rounds gates rounds) gs
    → Agree n (slice_index rounds) (and_rounds gates rounds) (half_walk h hs gates) (half_walk h gs gates)
agree_whole n h gates rounds hs gs i u = agree_along n h hs gs (slice_index rounds) (and_rounds gates rounds) u gates [] half_start half_start
    (λ k other l. subst (λ (j : ℕ). IsAfter (slice_index rounds) (slice_index rounds j) (slice_index_or gates k other)) (omega arith) (i.at k other l))
    refl
    (record { share = λ j b. refl; sent = refl; inputs = refl; long = refl; count = refl; count_second = refl })

-- what was heard up to round n settles the shares of these rounds, and what is sent up to round n + 1
pub shares_settled : (n : ℕ) (h : HalfWords) (gates : List Gate) (rounds : List ℕ) (hs gs : List Masked) → InRounds gates rounds → upto n (and_rounds gates rounds) hs ≡ upto n (and_rounds gates rounds) gs
    → (j : ℕ) → slice_index rounds j ≤ n → get_or (half_walk h hs gates).shares j 0 ≡ get_or (half_walk h gs gates).shares j 0
shares_settled n h gates rounds hs gs i u j b = (agree_whole n h gates rounds hs gs i u).share j b

pub causal : (n : ℕ) (h : HalfWords) (gates : List Gate) (rounds : List ℕ) (hs gs : List Masked) → InRounds gates rounds → upto n (and_rounds gates rounds) hs ≡ upto n (and_rounds gates rounds) gs
    → upto (suc n) (and_rounds gates rounds) (half_walk h hs gates).sent ≡ upto (suc n) (and_rounds gates rounds) (half_walk h gs gates).sent
causal n h gates rounds hs gs i u = (agree_whole n h gates rounds hs gs i u).sent

-- what comes in in a round changes nothing of earlier ones
pub put_later : (n : ℕ) (es : List ℕ) (hs frame : List Masked) → upto n es (put (suc n) es hs frame) ≡ upto n es hs
put_later n [] hs frame = refl
put_later n (e ∷ es) [] frame = refl
put_later n (e ∷ es) (h ∷ hs) [] = ap (λ (xs : List Masked). cond (leb e n) h blank ∷ xs) (put_later n es hs [])
put_later n (e ∷ es) (h ∷ hs) (f ∷ frame) =
    ⊎_elim
    (λ t. ap (upto n (e ∷ es)) (cond-true (eqb e (suc n)) (f ∷ put (suc n) es hs frame) (h ∷ put (suc n) es hs (f ∷ frame)) t.0)
    ∙ rw (put_later n es hs frame, lt-leb e n (omega (arith, t.1))) refl)
    (λ t. ap (upto n (e ∷ es)) (cond-false (eqb e (suc n)) (f ∷ put (suc n) es hs frame) (h ∷ put (suc n) es hs (f ∷ frame)) t.0)
    ∙ rw (put_later n es hs (f ∷ frame)) refl)
    (eqb_tells e (suc n))

-- ---- the rounds
count_along : (h : HalfWords) (heard : List Masked) (round : ℕ → ℕ) (gates : List Gate) (from : ℕ) (w : HalfWalk) → length (fold (half_step h heard) w gates).sent ≡ length w.sent + length (and_rounds_from round from gates)
count_along h heard round [] from w = omega arith
count_along h heard round (g ∷ gates) from w =
    let c = count_along h heard round gates (from + 1) (half_step h heard w g) in
    omega (arith, length-append w.sent (half_sends h w g), sends_count h (round from) w g, length-append (own_round g (round from)) (and_rounds_from round (from + 1) gates))

pub length-sent : (h : HalfWords) (heard : List Masked) (gates : List Gate) (rounds : List ℕ) → length (half_walk h heard gates).sent ≡ length (and_rounds gates rounds)
length-sent h heard gates rounds = let c = count_along h heard (slice_index rounds) gates 0 half_start in omega arith

round_positive : (round : ℕ → ℕ) (own : ℕ) (gate : Gate) (more : List ℕ) → IsAfter round own gate → All (λ d. 0 < d) more → All (λ d. 0 < d) (own_round gate own ++ more)
round_positive round own (And x y) more i all =
    let p = i.0 in
    λ k d l. elim k as (λ j. j < suc (length more) → 0 < get_or (own ∷ more) j d) [ zero ↦ λ m. omega arith | suc j ↦ λ m. all j d (omega arith) ] l
round_positive round own (Input from index) more i all = all
round_positive round own (Given index) more i all = all
round_positive round own (Const word) more i all = all
round_positive round own (Xor x y) more i all = all
round_positive round own (Spread x lane) more i all = all
round_positive round own (Move x from count to) more i all = all

all_positive : (round : ℕ → ℕ) (gates : List Gate) (from : ℕ) → ((k : ℕ) (other : Gate) → k < length gates → IsAfter round (round (from + k)) (slice_index_or gates k other)) → All (λ d. 0 < d) (and_rounds_from round from gates)
all_positive round [] from i = λ k d l. absurd (omega arith)
all_positive round (g ∷ gates) from i =
    round_positive round (round from) g (and_rounds_from round (from + 1) gates)
    (subst (λ (k : ℕ). IsAfter round (round k) g) (omega arith) (i 0 g (omega arith)))
    (all_positive round gates (from + 1) (λ k other l. subst (λ (j : ℕ). IsAfter round (round j) (slice_index_or gates k other)) (omega arith) (i (suc k) other (omega arith))))

upto_upto : (n : ℕ) (es : List ℕ) (fs : List Masked) → upto n es (upto (suc n) es fs) ≡ upto n es (upto n es fs)
upto_upto n [] fs = refl
upto_upto n (e ∷ es) [] = refl
upto_upto n (e ∷ es) (f ∷ fs) =
    let h = upto_upto n es fs in
    ⊎_elim
    (λ t. rw (t.0, le-leb e (suc n) (omega arith), h) refl)
    (λ t. rw (t.0, h) refl)
    (leb_tells e n)

pub record Round (a b : HalfWords) (gates : List Gate) (es : List ℕ) (n : ℕ) (heard : Heard) : Type 0 where
  pub by_b : heard.a ≡ upto n es (half_walk b heard.b gates).sent
  pub by_a : heard.b ≡ upto n es (half_walk a heard.a gates).sent

-- one side's part of a round: mine and theirs before it, next what the other has then heard
one_side : (h : HalfWords) (gates : List Gate) (rounds : List ℕ) (n : ℕ) (mine theirs next : List Masked) → InRounds gates rounds → let es = and_rounds gates rounds in
    mine ≡ upto n es (half_walk h theirs gates).sent → upto n es theirs ≡ upto n es next
    → put (suc n) es mine (pick (suc n) es (half_walk h theirs gates).sent) ≡ upto (suc n) es (half_walk h next gates).sent
one_side h gates rounds n mine theirs next i e u =
    let es : List ℕ = and_rounds gates rounds in
    ap (λ (fs : List Masked). put (suc n) es fs (pick (suc n) es (half_walk h theirs gates).sent)) e
    ∙ put_next n es (half_walk h theirs gates).sent
    ∙ causal n h gates rounds theirs next i u

-- a round changes nothing that was heard before
kept_below : (h : HalfWords) (gates : List Gate) (es : List ℕ) (n : ℕ) (mine theirs : List Masked) → mine ≡ upto n es (half_walk h theirs gates).sent
    → upto n es mine ≡ upto n es (put (suc n) es mine (pick (suc n) es (half_walk h theirs gates).sent))
kept_below h gates es n mine theirs e =
    let s : List Masked = (half_walk h theirs gates).sent in
    ap (upto n es) e ∙ sym (upto_upto n es s)
    ∙ ap (upto n es) (sym (ap (λ (fs : List Masked). put (suc n) es fs (pick (suc n) es s)) e ∙ put_next n es s))

pub rounds_along : (a b : HalfWords) (gates : List Gate) (rounds : List ℕ) → InRounds gates rounds → (n : ℕ) → Round a b gates (and_rounds gates rounds) n (heard_after a b gates (and_rounds gates rounds) n)
rounds_along a b gates rounds i zero =
    let es : List ℕ = and_rounds gates rounds in
    let positive : All (λ d. 0 < d) es = all_positive (slice_index rounds) gates 0 (λ k other l. subst (λ (j : ℕ). IsAfter (slice_index rounds) (slice_index rounds j) (slice_index_or gates k other)) (omega arith) (i.at k other l)) in
    record {
      by_b = sym (upto_none es (half_walk b (heard_after a b gates es zero).b gates).sent (length-sent b _ gates rounds) positive);
      by_a = sym (upto_none es (half_walk a (heard_after a b gates es zero).a gates).sent (length-sent a _ gates rounds) positive);
    }
rounds_along a b gates rounds i (suc n) =
    let es : List ℕ = and_rounds gates rounds in
    let now = heard_after a b gates es n in
    let r = rounds_along a b gates rounds i n in
    record {
      by_b = one_side b gates rounds n now.a now.b (heard_after a b gates es (suc n)).b i r.by_b (kept_below a gates es n now.b now.a r.by_a);
      by_a = one_side a gates rounds n now.b now.a (heard_after a b gates es (suc n)).a i r.by_a (kept_below b gates es n now.a now.b r.by_b);
    }

pub round_law : RoundLaw
round_law a b gates rounds last i all =
    let es : List ℕ = and_rounds gates rounds in
    let heard = heard_after a b gates es last in
    let r = rounds_along a b gates rounds i last in
    record {
      by_b = r.by_b ∙ upto_all last es (half_walk b heard.b gates).sent (length-sent b heard.b gates rounds) all;
      by_a = r.by_a ∙ upto_all last es (half_walk a heard.a gates).sent (length-sent a heard.a gates rounds) all;
    }

pub depth_law : DepthLaw
depth_law a b gates deepest order all = round_law a b gates (depths_of gates) deepest (depths_in_rounds gates order) all
