-- Two honest halves hold the shares that the plain values say.
use Rattle.std.proofs.Common.{◌≡◌, ℕ, zero, suc, ◌<◌, List, [], ◌∷◌, ◌++◌, length, get_or, map, refl, sym, ap, ◌∙◌, arith, length-append}
use Rattle.std.specs.Prelude.{slice_index}
use Rattle.std.proofs.lemmas.List.{length-map}
use Rattle.std.specs.List.{fold}
use Rattle.std.proofs.lemmas.List.{get_or_append_left, get_or_at}
use Rattle.std.specs.Int.Bits.{xor_self}
use Rattle.pdn_base.specs.Words.{◌⊕◌, ◌⊗◌}
use Rattle.pdn_base.proofs.WordLaws.{xor_twice, xor_pairs, spread-xor, moved-xor, product_b, opens_by_a, opens_by_b}
use Rattle.pdn_base.proofs.WordLists.{get_or-xor_lists, xor_lists-append}
use Rattle.pdn_circuit.specs.declared.gate.Gate.{Gate}
use Rattle.pdn_circuit.specs.declared.gate.Gate.TheVariants.{Input, Given, Const, Xor, And, Spread, Move}
use Rattle.pdn_base.specs.declared.site.Site.{Site}
use Rattle.pdn_base.specs.declared.site.Site.TheVariants.{A, B}
use Rattle.pdn_circuit.specs.Gates.{gate_value, operands_of}
use Rattle.pdn_dealer.specs.declared.parts.Triple.{Triple}
use Rattle.pdn_dealer.specs.Sections.{Five, no_five, Layout, no_triple, triple_of}
use Rattle.pdn_gmw.specs.Shares.{World, Masked, blank, Walk, start, b_share, five_at, a_share, a_sends, b_sends, step, share_at, other_site, product_share, inputs_after}
use Rattle.pdn_gmw.specs.Halves.{HalfWords, HalfWalk, half_start, triple_at, heard_at, half_masked, half_product, half_share, half_sends, half_step, half_of, shares_of, HalvesLaw}

pub map_same : {X Y : Type 0} (f g : X → Y) (xs : List X) → ((x : X) → f x ≡ g x) → map f xs ≡ map g xs
map_same f g [] h = refl
map_same f g (x ∷ xs) h = rw (h x, map_same f g xs h) refl

-- a site's share of a new gate
abbrev pub new_share : Site → World → Layout → Walk → Gate → ℕ
new_share A world t w gate = a_share world t w gate
new_share B world t w gate = gate_value world.inputs w.words gate ⊕ a_share world t w gate

-- ---- what was sent stands
pub sent_stands : (h : HalfWords) (heard : List Masked) (gates : List Gate) (w : HalfWalk) (k : ℕ) → k < length w.sent
    → get_or (fold (half_step h heard) w gates).sent k blank ≡ get_or w.sent k blank
sent_stands h heard [] w k l = refl
sent_stands h heard (g ∷ gs) w k l =
    sent_stands h heard gs (half_step h heard w g) k (omega (arith, length-append w.sent (half_sends h w g)))
    ∙ get_or_append_left w.sent (half_sends h w g) blank k l

-- what a half sends at an And gate is there at the end
pub sent_here : (h : HalfWords) (heard : List Masked) (gs : List Gate) (w : HalfWalk) (x y : ℕ)
    → get_or (fold (half_step h heard) w (And x y ∷ gs)).sent (length w.sent) blank ≡ half_masked h w x y
sent_here h heard gs w x y =
    sent_stands h heard gs (half_step h heard w (And x y)) (length w.sent) (omega (arith, length-append w.sent (half_masked h w x y ∷ [])))
    ∙ get_or_at w.sent (half_masked h w x y) [] blank (length w.sent) refl

-- a half's triple is that of its site in the section
triples_at : (site : Site) (fs : List Five) (k : ℕ) → get_or (map (triple_of site) fs) k no_triple ≡ triple_of site (get_or fs k no_five)
triples_at A [] k = refl
triples_at B [] k = refl
triples_at site (f ∷ fs) zero = refl
triples_at site (f ∷ fs) (suc k) = triples_at site fs k

-- ---- a half is where the plain run is
abbrev pub sent_by : Site → Walk → List Masked
sent_by A w = w.from_a
sent_by B w = w.from_b

pub record Tied (site : Site) (w : Walk) (h : HalfWalk) : Type 0 where
  pub shares : h.shares ≡ shares_of site w
  pub sent : h.sent ≡ sent_by site w
  pub inputs : h.inputs ≡ w.inputs
  pub long : length w.a ≡ length w.words
  pub count : length w.from_b ≡ length w.from_a

pub share_whole : (site : Site) (w : Walk) → length w.a ≡ length w.words → (k : ℕ) → slice_index (shares_of site w) k ≡ share_at site w k
share_whole A w l k = refl
share_whole B w l k = get_or-xor_lists w.words w.a l k

share_there : (site : Site) (w : Walk) (h : HalfWalk) → Tied site w h → (k : ℕ) → slice_index h.shares k ≡ share_at site w k
share_there site w h d k = ap (λ (xs : List ℕ). slice_index xs k) d.shares ∙ share_whole site w d.long k

count_there : (site : Site) (w : Walk) (h : HalfWalk) → Tied site w h → length h.sent ≡ length w.from_a
count_there A w h d = ap length d.sent
count_there B w h d = ap length d.sent ∙ d.count

-- what each side sends for an And gate, told from the plain run
abbrev pub masked_of_site : Site → Layout → Walk → ℕ → ℕ → Masked
masked_of_site A t w x y = record { d = slice_index w.a x ⊕ (five_at t (length w.from_a)).a0; e = slice_index w.a y ⊕ (five_at t (length w.from_a)).b0 }
masked_of_site B t w x y = record { d = b_share w x ⊕ (five_at t (length w.from_a)).a1; e = b_share w y ⊕ (five_at t (length w.from_a)).b1 }

masked_there : (site : Site) (world : World) (t : Layout) (w : Walk) (h : HalfWalk) (x y : ℕ) → Tied site w h → half_masked (half_of site world t) h x y ≡ masked_of_site site t w x y
masked_there A world t w h x y d = rw (share_there A w h d x, share_there A w h d y, count_there A w h d, triples_at A t.fives (length w.from_a)) refl
masked_there B world t w h x y d = rw (share_there B w h d x, share_there B w h d y, count_there B w h d, triples_at B t.fives (length w.from_a)) refl

-- ---- one gate
half_and_a : (f : Five) (x y s u : ℕ) → half_product A (triple_of A f) ((s ⊕ f.a0) ⊕ ((x ⊕ s) ⊕ f.a1)) ((u ⊕ f.b0) ⊕ ((y ⊕ u) ⊕ f.b1)) ≡ product_share f (x ⊕ f.a0 ⊕ f.a1) (y ⊕ f.b0 ⊕ f.b1)
half_and_a f x y s u = rw (opens_by_a x s f.a0 f.a1, opens_by_a y u f.b0 f.b1) refl

half_and_b : (f : Five) (x y s u : ℕ) → half_product B (triple_of B f) (((x ⊕ s) ⊕ f.a1) ⊕ (s ⊕ f.a0)) (((y ⊕ u) ⊕ f.b1) ⊕ (u ⊕ f.b0)) ≡ x ⊗ y ⊕ product_share f (x ⊕ f.a0 ⊕ f.a1) (y ⊕ f.b0 ⊕ f.b1)
half_and_b f x y s u = rw (opens_by_b x s f.a0 f.a1, opens_by_b y u f.b0 f.b1) (sym (product_b x y f.a0 f.a1 f.b0 f.b1 f.c0))

-- at an And gate the half has heard what the other side sends for it
abbrev pub HasHeard : Site → Layout → List Masked → Walk → Gate → Type 0
HasHeard site t heard w (And x y) = heard_at heard (length w.from_a) ≡ masked_of_site (other_site site) t w x y
HasHeard site t heard w (Input from index) = Unit {0}
HasHeard site t heard w (Given index) = Unit {0}
HasHeard site t heard w (Const word) = Unit {0}
HasHeard site t heard w (Xor x y) = Unit {0}
HasHeard site t heard w (Spread x lane) = Unit {0}
HasHeard site t heard w (Move x from count to) = Unit {0}

abbrev pub and_with : Site → Triple → Masked → Masked → ℕ
and_with site t mine theirs = half_product site t (mine.d ⊕ theirs.d) (mine.e ⊕ theirs.e)

same_and : (site : Site) (t u : Triple) (m n p q : Masked) → t ≡ u → m ≡ n → p ≡ q → and_with site t m p ≡ and_with site u n q
same_and site t u m n p q e f g = rw (e, f, g) refl

half_new : (site : Site) (world : World) (t : Layout) (heard : List Masked) (w : Walk) (h : HalfWalk) (gate : Gate) → length world.given_a ≡ length world.inputs.given
    → Tied site w h → HasHeard site t heard w gate → half_share (half_of site world t) heard h gate ≡ new_share site world t w gate
half_new A world t heard w h (Input A index) l d e = rw d.inputs refl
half_new A world t heard w h (Input B index) l d e = rw d.inputs refl
half_new A world t heard w h (Given index) l d e = refl
half_new A world t heard w h (Const word) l d e = refl
half_new A world t heard w h (Xor x y) l d e = rw (share_there A w h d x, share_there A w h d y) refl
half_new A world t heard w h (And x y) l d e =
    let k : ℕ = length w.from_a in
    let f : Five = five_at t k in
    ap (λ (j : ℕ). and_with A (triple_at (half_of A world t) j) (half_masked (half_of A world t) h x y) (heard_at heard j)) (count_there A w h d)
    ∙ same_and A (triple_at (half_of A world t) k) (triple_of A f) (half_masked (half_of A world t) h x y) (masked_of_site A t w x y) (heard_at heard k) (masked_of_site (other_site A) t w x y)
    (triples_at A t.fives k) (masked_there A world t w h x y d) e
    ∙ (half_and_a f (slice_index w.words x) (slice_index w.words y) (slice_index w.a x) (slice_index w.a y))
half_new A world t heard w h (Spread x lane) l d e = rw (share_there A w h d x) refl
half_new A world t heard w h (Move x from count to) l d e = rw (share_there A w h d x) refl
half_new B world t heard w h (Input A index) l d e = rw d.inputs (sym (xor_twice (slice_index world.inputs.a index) (slice_index t.r w.inputs)))
half_new B world t heard w h (Input B index) l d e = rw d.inputs refl
half_new B world t heard w h (Given index) l d e = get_or-xor_lists world.inputs.given world.given_a l index
half_new B world t heard w h (Const word) l d e = sym (xor_self word)
half_new B world t heard w h (Xor x y) l d e = rw (share_there B w h d x, share_there B w h d y) (xor_pairs (slice_index w.words x) (slice_index w.a x) (slice_index w.words y) (slice_index w.a y))
half_new B world t heard w h (And x y) l d e =
    let k : ℕ = length w.from_a in
    let f : Five = five_at t k in
    ap (λ (j : ℕ). and_with B (triple_at (half_of B world t) j) (half_masked (half_of B world t) h x y) (heard_at heard j)) (count_there B w h d)
    ∙ same_and B (triple_at (half_of B world t) k) (triple_of B f) (half_masked (half_of B world t) h x y) (masked_of_site B t w x y) (heard_at heard k) (masked_of_site (other_site B) t w x y)
    (triples_at B t.fives k) (masked_there B world t w h x y d) e
    ∙ (half_and_b f (slice_index w.words x) (slice_index w.words y) (slice_index w.a x) (slice_index w.a y))
half_new B world t heard w h (Spread x lane) l d e = rw (share_there B w h d x) (spread-xor (slice_index w.words x) (slice_index w.a x) lane)
half_new B world t heard w h (Move x from count to) l d e = rw (share_there B w h d x) (moved-xor (slice_index w.words x) (slice_index w.a x) from count to)

shares_next : (site : Site) (world : World) (t : Layout) (w : Walk) (gate : Gate) → length w.a ≡ length w.words
    → shares_of site w ++ new_share site world t w gate ∷ [] ≡ shares_of site (step world t w gate)
shares_next A world t w gate l = refl
shares_next B world t w gate l = sym (xor_lists-append w.words (gate_value world.inputs w.words gate ∷ []) w.a (a_share world t w gate ∷ []) l)

sends_next : (site : Site) (world : World) (t : Layout) (w : Walk) (h : HalfWalk) (gate : Gate) → Tied site w h
    → h.sent ++ half_sends (half_of site world t) h gate ≡ sent_by site (step world t w gate)
sends_next A world t w h gate d =
    ap (λ (fs : List Masked). fs ++ half_sends (half_of A world t) h gate) d.sent
    ∙ ap (λ (fs : List Masked). w.from_a ++ fs) (map_same (λ p. half_masked (half_of A world t) h p.x p.y) (λ p. masked_of_site A t w p.x p.y) (operands_of gate) (λ p. masked_there A world t w h p.x p.y d))
sends_next B world t w h gate d =
    ap (λ (fs : List Masked). fs ++ half_sends (half_of B world t) h gate) d.sent
    ∙ ap (λ (fs : List Masked). w.from_b ++ fs) (map_same (λ p. half_masked (half_of B world t) h p.x p.y) (λ p. masked_of_site B t w p.x p.y) (operands_of gate) (λ p. masked_there B world t w h p.x p.y d))

sends_alike : (t : Layout) (w : Walk) (gate : Gate) → length (b_sends t w gate) ≡ length (a_sends t w gate)
sends_alike t w gate = length-map (operands_of gate) _ ∙ sym (length-map (operands_of gate) _)

tied_next : (site : Site) (world : World) (t : Layout) (heard : List Masked) (w : Walk) (h : HalfWalk) (gate : Gate) → length world.given_a ≡ length world.inputs.given
    → Tied site w h → HasHeard site t heard w gate → Tied site (step world t w gate) (half_step (half_of site world t) heard h gate)
tied_next site world t heard w h gate l d e =
    let new : ℕ = half_share (half_of site world t) heard h gate in
    record {
      shares = ap (λ (xs : List ℕ). xs ++ new ∷ []) d.shares
          ∙ ap (λ (n : ℕ). shares_of site w ++ n ∷ []) (half_new site world t heard w h gate l d e)
          ∙ shares_next site world t w gate d.long;
      sent = sends_next site world t w h gate d;
      inputs = ap (λ n. inputs_after n gate) d.inputs;
      long = let k = d.long in omega (arith, length-append w.a (a_share world t w gate ∷ []), length-append w.words (gate_value world.inputs w.words gate ∷ []));
      count = let k = d.count in let s = sends_alike t w gate in omega (arith, length-append w.from_a (a_sends t w gate), length-append w.from_b (b_sends t w gate));
    }

-- ---- the whole run, both halves at once: each has heard, from the start, all that the other will send
heard_here : (site : Site) (world : World) (t : Layout) (mine theirs : List Masked) (gs : List Gate) (w : Walk) (h : HalfWalk) (gate : Gate)
    → Tied (other_site site) w h → theirs ≡ (fold (half_step (half_of (other_site site) world t) mine) h (gate ∷ gs)).sent → HasHeard site t theirs w gate
heard_here site world t mine theirs gs w h (And x y) d e =
    let other : HalfWords = half_of (other_site site) world t in
    ap (λ (j : ℕ). get_or theirs j blank) (sym (count_there (other_site site) w h d))
    ∙ ap (λ (fs : List Masked). get_or fs (length h.sent) blank) e
    ∙ sent_here other mine gs h x y
    ∙ masked_there (other_site site) world t w h x y d
heard_here site world t mine theirs gs w h (Input from index) d e = tt
heard_here site world t mine theirs gs w h (Given index) d e = tt
heard_here site world t mine theirs gs w h (Const word) d e = tt
heard_here site world t mine theirs gs w h (Xor x y) d e = tt
heard_here site world t mine theirs gs w h (Spread x lane) d e = tt
heard_here site world t mine theirs gs w h (Move x from count to) d e = tt

pub both_along : (world : World) (t : Layout) (to_a to_b : List Masked) → length world.given_a ≡ length world.inputs.given
    → (gates : List Gate) (w : Walk) (a b : HalfWalk)
    → to_a ≡ (fold (half_step (half_of B world t) to_b) b gates).sent → to_b ≡ (fold (half_step (half_of A world t) to_a) a gates).sent
    → Tied A w a → Tied B w b
    → Tied A (fold (step world t) w gates) (fold (half_step (half_of A world t) to_a) a gates) × Tied B (fold (step world t) w gates) (fold (half_step (half_of B world t) to_b) b gates)
both_along world t to_a to_b l [] w a b p q da db = (da, db)
both_along world t to_a to_b l (g ∷ gs) w a b p q da db =
    both_along world t to_a to_b l gs (step world t w g) (half_step (half_of A world t) to_a a g) (half_step (half_of B world t) to_b b g) p q
    (tied_next A world t to_a w a g l da (heard_here A world t to_b to_a gs w b g db p))
    (tied_next B world t to_b w b g l db (heard_here B world t to_a to_b gs w a g da q))

pub halves_law : HalvesLaw
halves_law world t gates to_a to_b l talk =
    let both = both_along world t to_a to_b l gates start half_start half_start talk.by_b talk.by_a
    (record { shares = refl; sent = refl; inputs = refl; long = refl; count = refl })
    (record { shares = refl; sent = refl; inputs = refl; long = refl; count = refl }) in
    record { heard_a = talk.by_b ∙ both.1.sent; heard_b = talk.by_a ∙ both.0.sent; shares_a = both.0.shares; shares_b = both.1.shares }
