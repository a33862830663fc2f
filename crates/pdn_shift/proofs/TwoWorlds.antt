-- What one site sees is the same in two worlds, on a section and on its change.
use Rattle.std.proofs.Common.{◌≡◌, ℕ, zero, suc, ◌<◌, ◌≤◌, List, [], ◌∷◌, ◌++◌, length, get_or, map, cond, refl, sym, ap, ◌∙◌, arith, length-append, append_assoc}
use Rattle.std.specs.Prelude.{slice_index}
use Rattle.std.specs.List.{fold}
use Rattle.std.proofs.lemmas.List.{length-map}
use lib.Lanes.{zip2}
use Rattle.pdn_base.specs.Words.{◌⊕◌, ◌⊗◌, spread, moved, xor_lists}
use Rattle.pdn_base.proofs.WordLaws.{xor_twice, xor_pairs, spread-xor, moved-xor, product_b, open_same, open_same_first, sent_same, sent_same_sum, product_same}
use Rattle.pdn_base.proofs.WordLists.{get_or-xor_lists}
use Rattle.pdn_base.specs.declared.site.Site.{Site}
use Rattle.pdn_base.specs.declared.site.Site.TheVariants.{A, B}
use Rattle.pdn_circuit.specs.declared.gate.Gate.{Gate}
use Rattle.pdn_circuit.specs.declared.gate.Gate.TheVariants.{Input, Given, Const, Xor, And, Spread, Move}
use Rattle.pdn_circuit.specs.Gates.{Net, words_of, gate_value, next_values, Pair, read_pair, ands, InOrder, operands_of}
use Rattle.pdn_circuit.proofs.ValueLaws.{opens, opened, operand_words_along}
use Rattle.pdn_dealer.specs.declared.parts.Triple.{Triple}
use Rattle.pdn_dealer.specs.Sections.{Five, no_five, Layout, Covers, product_of, triple_of, part_of}
use Rattle.pdn_gmw.specs.Shares.{World, Walk, start, five_at, product_share, a_share, a_sends, b_sends, inputs_after, step, walk, share_at, sent_to, output_shares, gate_view, view_of}
use Rattle.pdn_gmw.specs.Halves.{given_shares}
use Rattle.pdn_shift.specs.Changes.{taken_up, operand_differences, shift}
use Rattle.pdn_shift.specs.Worlds.{IsShared, SameFor, UnitLaw}
use Rattle.pdn_shift.proofs.Undoing.{apart, changed_all, as_changed, length-operand_words}

abbrev changed : Site → Pair → Pair → Five → Five
changed site p q f = taken_up site (apart p q) f

-- ---- a site's shares of the given words, place by place
abbrev pub given_share : Site → World → ℕ → ℕ
given_share A world k = slice_index world.given_a k
given_share B world k = slice_index world.inputs.given k ⊕ slice_index world.given_a k

given_at : (site : Site) (world : World) → IsShared world → (k : ℕ) → slice_index (given_shares site world) k ≡ given_share site world k
given_at A world h k = refl
given_at B world h k = get_or-xor_lists world.inputs.given world.given_a h k

pub record SamePlaces (site : Site) (first second : World) : Type 0 where
  pub own : words_of site first.inputs ≡ words_of site second.inputs
  pub given : (k : ℕ) → given_share site first k ≡ given_share site second k

same_places : (site : Site) (first second : World) → IsShared first → IsShared second → SameFor site first second → SamePlaces site first second
same_places site first second h g same = record {
  own = same.own;
  given = λ k. sym (given_at site first h k) ∙ ap (λ (xs : List ℕ). slice_index xs k) same.given ∙ given_at site second g k;
}

-- ---- lists that agree at each place, one word longer
same_push : (xs ys : List ℕ) (x y : ℕ) → length xs ≡ length ys → x ≡ y → ((k : ℕ) → get_or xs k 0 ≡ get_or ys k 0) → (k : ℕ) → get_or (xs ++ x ∷ []) k 0 ≡ get_or (ys ++ y ∷ []) k 0
same_push [] [] x y l e h zero = e
same_push [] [] x y l e h (suc k) = refl
same_push [] (b ∷ ys) x y l e h k = absurd (omega arith)
same_push (a ∷ xs) [] x y l e h k = absurd (omega arith)
same_push (a ∷ xs) (b ∷ ys) x y l e h zero = h zero
same_push (a ∷ xs) (b ∷ ys) x y l e h (suc k) = same_push xs ys x y (omega arith) e (λ j. h (suc j)) k

-- the same of two sums of lists
same_sums_push : (xs us ys vs : List ℕ) (x u y v : ℕ) → length us ≡ length xs → length ys ≡ length xs → length vs ≡ length xs → x ⊕ u ≡ y ⊕ v
    → ((k : ℕ) → get_or xs k 0 ⊕ get_or us k 0 ≡ get_or ys k 0 ⊕ get_or vs k 0)
    → (k : ℕ) → get_or (xs ++ x ∷ []) k 0 ⊕ get_or (us ++ u ∷ []) k 0 ≡ get_or (ys ++ y ∷ []) k 0 ⊕ get_or (vs ++ v ∷ []) k 0
same_sums_push [] [] [] [] x u y v l m n e h zero = e
same_sums_push [] [] [] [] x u y v l m n e h (suc k) = refl
same_sums_push (a ∷ xs) (b ∷ us) (c ∷ ys) (d ∷ vs) x u y v l m n e h zero = h zero
same_sums_push (a ∷ xs) (b ∷ us) (c ∷ ys) (d ∷ vs) x u y v l m n e h (suc k) = same_sums_push xs us ys vs x u y v (omega arith) (omega arith) (omega arith) e (λ j. h (suc j)) k
same_sums_push [] (b ∷ us) ys vs x u y v l m n e h k = absurd (omega arith)
same_sums_push [] [] (c ∷ ys) vs x u y v l m n e h k = absurd (omega arith)
same_sums_push [] [] [] (d ∷ vs) x u y v l m n e h k = absurd (omega arith)
same_sums_push (a ∷ xs) [] ys vs x u y v l m n e h k = absurd (omega arith)
same_sums_push (a ∷ xs) (b ∷ us) [] vs x u y v l m n e h k = absurd (omega arith)
same_sums_push (a ∷ xs) (b ∷ us) (c ∷ ys) [] x u y v l m n e h k = absurd (omega arith)

-- ---- two runs, as far as they have come, that are the same to a site
pub record Near (site : Site) (w v : Walk) : Type 0 where
  pub share : (k : ℕ) → share_at site w k ≡ share_at site v k
  pub from_a : w.from_a ≡ v.from_a
  pub from_b : w.from_b ≡ v.from_b
  pub inputs : w.inputs ≡ v.inputs
  pub long : length w.a ≡ length w.words
  pub words : length v.words ≡ length w.words
  pub long_second : length v.a ≡ length w.words

-- the section that the second run reads is the changed one at this gate
abbrev pub IsChangedAt : Site → Layout → Layout → Walk → Walk → Gate → Type 0
IsChangedAt site t s w v (And x y) =
    five_at s (length w.from_a) ≡ changed site (record { x = slice_index w.words x; y = slice_index w.words y }) (record { x = slice_index v.words x; y = slice_index v.words y }) (five_at t (length w.from_a))
IsChangedAt site t s w v (Input from index) = Unit {0}
IsChangedAt site t s w v (Given index) = Unit {0}
IsChangedAt site t s w v (Const word) = Unit {0}
IsChangedAt site t s w v (Xor x y) = Unit {0}
IsChangedAt site t s w v (Spread x lane) = Unit {0}
IsChangedAt site t s w v (Move x from count to) = Unit {0}

-- a site's share of a new gate
abbrev new_share : Site → World → Layout → Walk → Gate → ℕ
new_share A world t w gate = a_share world t w gate
new_share B world t w gate = gate_value world.inputs w.words gate ⊕ a_share world t w gate

-- at an And gate, where g is the change of f
and_same_a : (f g : Five) (x y u v : ℕ) → g ≡ changed A (record { x = x; y = y }) (record { x = u; y = v }) f
    → product_share f (x ⊕ f.a0 ⊕ f.a1) (y ⊕ f.b0 ⊕ f.b1) ≡ product_share g (u ⊕ g.a0 ⊕ g.a1) (v ⊕ g.b0 ⊕ g.b1)
and_same_a f g x y u v e = rw (e, open_same x u f.a0 f.a1, open_same y v f.b0 f.b1) refl

and_same_b : (f g : Five) (x y u v : ℕ) → g ≡ changed B (record { x = x; y = y }) (record { x = u; y = v }) f
    → x ⊗ y ⊕ product_share f (x ⊕ f.a0 ⊕ f.a1) (y ⊕ f.b0 ⊕ f.b1) ≡ u ⊗ v ⊕ product_share g (u ⊕ g.a0 ⊕ g.a1) (v ⊕ g.b0 ⊕ g.b1)
and_same_b f g x y u v e =
    let h : Five = changed B (record { x = x; y = y }) (record { x = u; y = v }) f in
    let mid : product_of f ⊕ f.c0 ⊕ (x ⊕ f.a0 ⊕ f.a1) ⊗ f.b1 ⊕ (y ⊕ f.b0 ⊕ f.b1) ⊗ f.a1 ≡ product_of g ⊕ g.c0 ⊕ (u ⊕ g.a0 ⊕ g.a1) ⊗ g.b1 ⊕ (v ⊕ g.b0 ⊕ g.b1) ⊗ g.a1
    = rw (e, product_same (product_of f) (product_of h) f.c0, open_same_first x u f.a0 f.a1, open_same_first y v f.b0 f.b1) refl in
    product_b x y f.a0 f.a1 f.b0 f.b1 f.c0 ∙ mid ∙ sym (product_b u v g.a0 g.a1 g.b0 g.b1 g.c0)

five_here : (site : Site) (t s : Layout) (w v : Walk) (x y : ℕ) → Near site w v → IsChangedAt site t s w v (And x y)
    → five_at s (length v.from_a) ≡ changed site (record { x = slice_index w.words x; y = slice_index w.words y }) (record { x = slice_index v.words x; y = slice_index v.words y }) (five_at t (length w.from_a))
five_here site t s w v x y n c = ap (λ (fs : List _). five_at s (length fs)) (sym n.from_a) ∙ c

new_same : (site : Site) (first second : World) (t s : Layout) (w v : Walk) (gate : Gate) → SamePlaces site first second → s.r ≡ t.r → Near site w v → IsChangedAt site t s w v gate
    → new_share site first t w gate ≡ new_share site second s v gate
new_same A first second t s w v (Input A index) same r n c = rw (r, same.own, n.inputs) refl
new_same A first second t s w v (Input B index) same r n c = rw (r, n.inputs) refl
new_same A first second t s w v (Given index) same r n c = same.given index
new_same A first second t s w v (Const word) same r n c = refl
new_same A first second t s w v (Xor x y) same r n c = rw (n.share x, n.share y) refl
new_same A first second t s w v (And x y) same r n c =
    and_same_a (five_at t (length w.from_a)) (five_at s (length v.from_a)) (slice_index w.words x) (slice_index w.words y) (slice_index v.words x) (slice_index v.words y) (five_here A t s w v x y n c)
new_same A first second t s w v (Spread x lane) same r n c = rw (n.share x) refl
new_same A first second t s w v (Move x from count to) same r n c = rw (n.share x) refl
new_same B first second t s w v (Input A index) same r n c =
    xor_twice (slice_index first.inputs.a index) (slice_index t.r w.inputs) ∙ rw (r, n.inputs) (sym (xor_twice (slice_index second.inputs.a index) (slice_index t.r v.inputs)))
new_same B first second t s w v (Input B index) same r n c = rw (r, same.own, n.inputs) refl
new_same B first second t s w v (Given index) same r n c = same.given index
new_same B first second t s w v (Const word) same r n c = refl
new_same B first second t s w v (Xor x y) same r n c =
    xor_pairs (slice_index w.words x) (slice_index w.words y) (slice_index w.a x) (slice_index w.a y)
    ∙ rw (n.share x, n.share y) (sym (xor_pairs (slice_index v.words x) (slice_index v.words y) (slice_index v.a x) (slice_index v.a y)))
new_same B first second t s w v (And x y) same r n c =
    and_same_b (five_at t (length w.from_a)) (five_at s (length v.from_a)) (slice_index w.words x) (slice_index w.words y) (slice_index v.words x) (slice_index v.words y) (five_here B t s w v x y n c)
new_same B first second t s w v (Spread x lane) same r n c =
    sym (spread-xor (slice_index w.words x) (slice_index w.a x) lane) ∙ ap (λ m. spread m lane) (n.share x) ∙ spread-xor (slice_index v.words x) (slice_index v.a x) lane
new_same B first second t s w v (Move x from count to) same r n c =
    sym (moved-xor (slice_index w.words x) (slice_index w.a x) from count to) ∙ ap (λ m. moved m from count to) (n.share x) ∙ moved-xor (slice_index v.words x) (slice_index v.a x) from count to

-- ---- what is sent
a_sends_same : (site : Site) (t s : Layout) (w v : Walk) (gate : Gate) → Near site w v → IsChangedAt site t s w v gate → a_sends t w gate ≡ a_sends s v gate
a_sends_same site t s w v (Input from index) n c = refl
a_sends_same site t s w v (Given index) n c = refl
a_sends_same site t s w v (Const word) n c = refl
a_sends_same site t s w v (Xor x y) n c = refl
a_sends_same A t s w v (And x y) n c = rw (five_here A t s w v x y n c, n.share x, n.share y) refl
a_sends_same B t s w v (And x y) n c =
    let f : Five = five_at t (length w.from_a) in
    rw (
      five_here B t s w v x y n c,
      sent_same_sum (slice_index w.words x) (slice_index v.words x) (slice_index w.a x) (slice_index v.a x) f.a0 (n.share x),
      sent_same_sum (slice_index w.words y) (slice_index v.words y) (slice_index w.a y) (slice_index v.a y) f.b0 (n.share y),
    ) refl
a_sends_same site t s w v (Spread x lane) n c = refl
a_sends_same site t s w v (Move x from count to) n c = refl

b_sends_same : (site : Site) (t s : Layout) (w v : Walk) (gate : Gate) → Near site w v → IsChangedAt site t s w v gate → b_sends t w gate ≡ b_sends s v gate
b_sends_same site t s w v (Input from index) n c = refl
b_sends_same site t s w v (Given index) n c = refl
b_sends_same site t s w v (Const word) n c = refl
b_sends_same site t s w v (Xor x y) n c = refl
b_sends_same A t s w v (And x y) n c =
    let f : Five = five_at t (length w.from_a) in
    rw (
      five_here A t s w v x y n c,
      n.share x,
      n.share y,
      sent_same (slice_index w.words x) (slice_index v.words x) (slice_index v.a x) f.a1,
      sent_same (slice_index w.words y) (slice_index v.words y) (slice_index v.a y) f.b1,
    ) refl
b_sends_same B t s w v (And x y) n c = rw (five_here B t s w v x y n c, n.share x, n.share y) refl
b_sends_same site t s w v (Spread x lane) n c = refl
b_sends_same site t s w v (Move x from count to) n c = refl

share_next : (site : Site) (first second : World) (t s : Layout) (w v : Walk) (gate : Gate) → Near site w v → new_share site first t w gate ≡ new_share site second s v gate
    → (k : ℕ) → share_at site (step first t w gate) k ≡ share_at site (step second s v gate) k
share_next A first second t s w v gate n e = same_push w.a v.a (a_share first t w gate) (a_share second s v gate) (n.long ∙ sym n.long_second) e n.share
share_next B first second t s w v gate n e =
    same_sums_push w.words w.a v.words v.a (gate_value first.inputs w.words gate) (a_share first t w gate) (gate_value second.inputs v.words gate) (a_share second s v gate) n.long n.words n.long_second e n.share

near_next : (site : Site) (first second : World) (t s : Layout) (w v : Walk) (gate : Gate) → SamePlaces site first second → s.r ≡ t.r → Near site w v → IsChangedAt site t s w v gate
    → Near site (step first t w gate) (step second s v gate)
near_next site first second t s w v gate same r n c =
    let la = length-append w.a (a_share first t w gate ∷ []) in
    let lw = length-append w.words (gate_value first.inputs w.words gate ∷ []) in
    let lv = length-append v.words (gate_value second.inputs v.words gate ∷ []) in
    let lb = length-append v.a (a_share second s v gate ∷ []) in
    record {
      share = share_next site first second t s w v gate n (new_same site first second t s w v gate same r n c);
      from_a = ap (λ (fs : List _). fs ++ a_sends t w gate) n.from_a ∙ ap (λ (fs : List _). v.from_a ++ fs) (a_sends_same site t s w v gate n c);
      from_b = ap (λ (fs : List _). fs ++ b_sends t w gate) n.from_b ∙ ap (λ (fs : List _). v.from_b ++ fs) (b_sends_same site t s w v gate n c);
      inputs = ap (λ k. inputs_after k gate) n.inputs;
      long = let l = n.long in omega arith;
      words = let l = n.words in omega arith;
      long_second = let l = n.long_second in omega arith;
    }

-- ---- the change of each gate's five words
changed_at : (site : Site) (ps qs : List Pair) (p q : Pair) (more others : List Pair) (fs : List Five) → length qs ≡ length ps → length ps < length fs
    → get_or (changed_all site (ps ++ p ∷ more) (qs ++ q ∷ others) fs) (length ps) no_five ≡ changed site p q (get_or fs (length ps) no_five)
changed_at site [] [] p q more others [] l h = absurd (omega arith)
changed_at site [] [] p q more others (f ∷ fs) l h = refl
changed_at site [] (y ∷ qs) p q more others fs l h = absurd (omega arith)
changed_at site (x ∷ ps) [] p q more others fs l h = absurd (omega arith)
changed_at site (x ∷ ps) (y ∷ qs) p q more others [] l h = absurd (omega arith)
changed_at site (x ∷ ps) (y ∷ qs) p q more others (f ∷ fs) l h = changed_at site ps qs p q more others fs (omega arith) (omega arith)

-- gate is the next one: those before it opened ps and qs
is_changed : (site : Site) (t s : Layout) (w v : Walk) (gate : Gate) (ps qs more others : List Pair)
    → s.fives ≡ changed_all site (ps ++ (opens w.words gate ++ more)) (qs ++ (opens v.words gate ++ others)) t.fives
    → length ps ≡ length w.from_a → length qs ≡ length ps → length (ps ++ (opens w.words gate ++ more)) ≤ length t.fives
    → IsChangedAt site t s w v gate
is_changed site t s w v (And x y) ps qs more others e l m h =
    let p : Pair = record { x = slice_index w.words x; y = slice_index w.words y } in
    let q : Pair = record { x = slice_index v.words x; y = slice_index v.words y } in
    let long : length ps < length t.fives = omega (arith, length-append ps (p ∷ more)) in
    rw (e, ← l) (changed_at site ps qs p q more others t.fives m long)
is_changed site t s w v (Input from index) ps qs more others e l m h = tt
is_changed site t s w v (Given index) ps qs more others e l m h = tt
is_changed site t s w v (Const word) ps qs more others e l m h = tt
is_changed site t s w v (Xor x y) ps qs more others e l m h = tt
is_changed site t s w v (Spread x lane) ps qs more others e l m h = tt
is_changed site t s w v (Move x from count to) ps qs more others e l m h = tt

sends_as_opens : (t : Layout) (w : Walk) (words : List ℕ) (gate : Gate) → length (a_sends t w gate) ≡ length (opens words gate)
sends_as_opens t w words gate = length-map (operands_of gate) _ ∙ sym (length-map (operands_of gate) (read_pair words))

near_along : (site : Site) (first second : World) (t s : Layout) → SamePlaces site first second → s.r ≡ t.r
    → (gates : List Gate) (w v : Walk) (ps qs : List Pair)
    → s.fives ≡ changed_all site (ps ++ opened first.inputs w.words gates) (qs ++ opened second.inputs v.words gates) t.fives
    → length ps ≡ length w.from_a → length qs ≡ length ps → length (ps ++ opened first.inputs w.words gates) ≤ length t.fives
    → Near site w v → Near site (fold (step first t) w gates) (fold (step second s) v gates)
near_along site first second t s same r [] w v ps qs e l m h n = n
near_along site first second t s same r (g ∷ gs) w v ps qs e l m h n =
    let ow : List Pair = opens w.words g in
    let ov : List Pair = opens v.words g in
    let more : List Pair = opened first.inputs (next_values first.inputs w.words g) gs in
    let others : List Pair = opened second.inputs (next_values second.inputs v.words g) gs in
    let c : IsChangedAt site t s w v g = is_changed site t s w v g ps qs more others e l m h in
    let lw = sends_as_opens t w w.words g in
    let lv = sends_as_opens t w v.words g in
    near_along site first second t s same r gs (step first t w g) (step second s v g) (ps ++ ow) (qs ++ ov)
    (rw (append_assoc ps ow more, append_assoc qs ov others) e)
    (omega (arith, length-append ps ow, length-append w.from_a (a_sends t w g)))
    (omega (arith, length-append ps ow, length-append qs ov))
    (rw (append_assoc ps ow more) h)
    (near_next site first second t s w v g same r n c)

-- ---- the whole unit
near_start : (site : Site) → Near site start start
near_start A = record { share = λ k. refl; from_a = refl; from_b = refl; inputs = refl; long = refl; words = refl; long_second = refl }
near_start B = record { share = λ k. refl; from_a = refl; from_b = refl; inputs = refl; long = refl; words = refl; long_second = refl }

near_whole : (site : Site) (net : Net) (first second : World) (t : Layout) → InOrder net.gates → Covers net t → SamePlaces site first second
    → Near site (walk first t net.gates) (walk second (shift site net first.inputs second.inputs t) net.gates)
near_whole site net first second t o c same =
    let s : Layout = shift site net first.inputs second.inputs t in
    let p = operand_words_along first.inputs net.gates o in
    let q = operand_words_along second.inputs net.gates o in
    let lp : length (opened first.inputs [] net.gates) ≡ length (ands net.gates) = ap length (sym p) ∙ length-operand_words first.inputs net.gates in
    let lf = c.fives in
    near_along site first second t s same refl net.gates start start [] []
    (as_changed site net first.inputs second.inputs t ∙ rw (p, q) refl) refl refl (omega arith) (near_start site)

-- a site's own triples stay as they are
triple_kept : (site : Site) (d : Pair) (f : Five) → triple_of site (taken_up site d f) ≡ triple_of site f
triple_kept A d f = refl
triple_kept B d f = ap (λ (n : ℕ). let triple : Triple = record { a = f.a1; b = f.b1; c = n } in triple) (product_same (product_of f) (product_of (taken_up B d f)) f.c0)

triples_kept : (site : Site) (ds : List Pair) (fs : List Five) → length ds ≡ length fs → map (triple_of site) (zip2 (taken_up site) ds fs) ≡ map (triple_of site) fs
triples_kept site [] [] l = refl
triples_kept site [] (f ∷ fs) l = absurd (omega arith)
triples_kept site (d ∷ ds) [] l = absurd (omega arith)
triples_kept site (d ∷ ds) (f ∷ fs) l = rw (triple_kept site d f, triples_kept site ds fs (omega arith)) refl

sent_same_to : (site : Site) (w v : Walk) → Near site w v → sent_to site w ≡ sent_to site v
sent_same_to A w v n = n.from_b
sent_same_to B w v n = n.from_a

map_same : {X Y : Type 0} (f g : X → Y) (xs : List X) → ((x : X) → f x ≡ g x) → map f xs ≡ map g xs
map_same f g [] h = refl
map_same f g (x ∷ xs) h = rw (h x, map_same f g xs h) refl

pub unit_law : UnitLaw
unit_law site net first second t o c one two same =
    let s : Layout = shift site net first.inputs second.inputs t in
    let n = near_whole site net first second t o c (same_places site first second one two same) in
    let ds : List Pair = operand_differences first.inputs second.inputs net.gates in
    let ld : length ds ≡ length (ands net.gates) = length-map (ands net.gates) _ in
    let kept : map (triple_of site) s.fives ≡ map (triple_of site) t.fives = triples_kept site ds t.fives (ld ∙ sym c.fives) in
    let shares : output_shares site first t net ≡ output_shares site second s net
    = map_same (share_at site (walk first t net.gates)) (share_at site (walk second s net.gates)) net.outputs n.share in
    record {
      view = ap (λ (ds : List Triple). record (view_of site first t net) { gates = zip2 gate_view ds (sent_to site (walk first t net.gates)) }) (sym kept)
          ∙ ap (λ (fs : List _). record (view_of site first t net) { gates = zip2 gate_view (part_of site s).triples fs }) (sent_same_to site _ _ n);
      shares = shares;
      outputs = ap (λ (xs : List ℕ). cond net.released (xor_lists xs t.masks) xs) shares;
    }
