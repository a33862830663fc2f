-- Two halves that run against each other.
use Rattle.std.proofs.Common.{◌≡◌, ℕ, zero, suc, ◌+◌, ◌<◌, ◌*◌, ◌^◌, ◌≤◌, eqb, ⊎_elim, List, [], ◌∷◌, ◌++◌, length, get_or, replicate, refl, sym, ap, ◌∙◌, subst, arith, All}
use Rattle.std.specs.Prelude.{slice_index}
use Rattle.std.specs.List.{flat_map}
use Rattle.std.proofs.lemmas.Bool.{cases_Bool, cond-true, cond-false}
use Rattle.std.proofs.lemmas.List.Sums.{count_by-le-length}
use Rattle.pdn_circuit.specs.Gates.{is_and}
use Rattle.pdn_dealer.proofs.SectionWords.{length-ands}
use Rattle.std.proofs.lemmas.List.{length-map}
use Rattle.pdn_base.specs.Words.{◌⊕◌, xor_lists}
use Rattle.pdn_base.proofs.WordLaws.{other_part}
use Rattle.pdn_base.proofs.WordLists.{length-xor_lists}
use Rattle.pdn_base.specs.declared.site.Site.{Site}
use Rattle.pdn_base.specs.declared.site.Site.TheVariants.{A, B}
use Rattle.pdn_circuit.specs.declared.gate.Gate.{Gate}
use Rattle.pdn_circuit.specs.declared.gate.Gate.TheVariants.{Input, Given, Const, Xor, And, Spread, Move}
use Rattle.pdn_circuit.specs.Gates.{Net, IsCircuit, output_words}
use Rattle.pdn_circuit.specs.Depths.{own_round, and_rounds_from, depths_of}
use Rattle.pdn_dealer.specs.Sections.{Layout, PartWords, part_of, triple_of, five_count}
use Rattle.pdn_gmw.specs.declared.stage.Stage.TheVariants.{Ready, Sent}
use Rattle.pdn_gmw.specs.Shares.{Masked, blank, UnitWords, view_of, put_out}
use Rattle.pdn_gmw.specs.Halves.{HalfWords, half_walk, half_of, half_view, half_outputs, HaveTalked, IsRun}
use Rattle.pdn_gmw.specs.Rounds.{pick, put, Heard, heard_after}
use Rattle.pdn_gmw.specs.Steps.{HalfState, Fits, begun, rounds_of, frame_count, masked_words, masked_of, next_frame, after_next, after_take, finished, finished_of}
use Rattle.pdn_gmw.specs.Pairs.{joined, AreParts, ArePair, inputs_of, world_of, section_of_pair, run_of}
use Rattle.pdn_gmw.proofs.Outputs.{run_law}
use Rattle.pdn_gmw.proofs.RoundLaws.{depth_law}
use Rattle.pdn_gmw.proofs.Picking.{rounds_long}
use Rattle.pdn_gmw.proofs.Layering.{no_deeper}

-- ---- no And gate is deeper than the last frame
round_within : (m own : ℕ) (g : Gate) (more : List ℕ) → own ≤ m → All (λ d. d ≤ m) more → All (λ d. d ≤ m) (own_round g own ++ more)
round_within m own (And x y) more i all =
    λ k d l. elim k as (λ j. j < suc (length more) → get_or (own ∷ more) j d ≤ m) [ zero ↦ λ n. i | suc j ↦ λ n. all j d (omega arith) ] l
round_within m own (Input from index) more i all = all
round_within m own (Given index) more i all = all
round_within m own (Const word) more i all = all
round_within m own (Xor x y) more i all = all
round_within m own (Spread x lane) more i all = all
round_within m own (Move x from count to) more i all = all

rounds_within : (round : ℕ → ℕ) (m : ℕ) → ((k : ℕ) → round k ≤ m) → (gates : List Gate) (from : ℕ) → All (λ d. d ≤ m) (and_rounds_from round from gates)
rounds_within round m h [] from = λ k d l. absurd (omega arith)
rounds_within round m h (g ∷ gates) from = round_within m (round from) g (and_rounds_from round (from + 1) gates) (h from) (rounds_within round m h gates (from + 1))

-- ---- frames as words
words_back : (ms : List Masked) → masked_of (flat_map masked_words ms) ≡ ms
words_back [] = refl
words_back (m ∷ ms) = ap (λ (ns : List Masked). m ∷ ns) (words_back ms)

-- ---- the states after so many frames
abbrev pub heard_at_round : HalfState → HalfState → ℕ → Heard
heard_at_round a b n = heard_after a.half b.half a.net.gates (rounds_of a.net) n

abbrev pub state_a : HalfState → HalfState → ℕ → HalfState
state_a a b n = record { net = a.net; half = a.half; heard = (heard_at_round a b n).a; taken = n; stage = Ready }

abbrev pub state_b : HalfState → HalfState → ℕ → HalfState
state_b a b n = record { net = a.net; half = b.half; heard = (heard_at_round a b n).b; taken = n; stage = Ready }

blanks : (net : Net) → replicate (five_count net) blank ≡ replicate (length (rounds_of net)) blank
blanks net = ap (λ (n : ℕ). replicate n blank) (sym (rounds_long (slice_index (depths_of net.gates)) 0 net.gates))

pub begins_a : (a b : HalfState) → ArePair a b → a ≡ state_a a b 0
begins_a a b p = p.fresh_a ∙ ap (λ (hs : List Masked). record (begun a.net a.half) { heard = hs }) (blanks a.net)

pub begins_b : (a b : HalfState) → ArePair a b → b ≡ state_b a b 0
begins_b a b p = p.fresh_b ∙ ap (λ (n : Net). begun n b.half) p.one_net ∙ ap (λ (hs : List Masked). record (begun a.net b.half) { heard = hs }) (blanks a.net)

pub next_a : (a b : HalfState) (n : ℕ) (frame : List ℕ) → frame ≡ next_frame (state_b a b n) → after_take (record (state_a a b n) { stage = Sent }) frame ≡ state_a a b (n + 1)
next_a a b n frame e =
    let one : n + 1 ≡ suc n = omega arith in
    let es : List ℕ = rounds_of a.net in
    let now : Heard = heard_at_round a b n in
    let sent : List Masked = (half_walk b.half now.b a.net.gates).sent in
    ap (after_take (record (state_a a b n) { stage = Sent })) e
    ∙ ap (λ (ms : List Masked). record (state_a a b (n + 1)) { heard = put (n + 1) es now.a ms }) (words_back (pick (n + 1) es sent))
    ∙ ap (λ (k : ℕ). record (state_a a b (n + 1)) { heard = put k es now.a (pick k es sent) }) one
    ∙ ap (λ (k : ℕ). record (state_a a b (n + 1)) { heard = (heard_at_round a b k).a }) (sym one)

pub next_b : (a b : HalfState) (n : ℕ) (frame : List ℕ) → frame ≡ next_frame (state_a a b n) → after_take (record (state_b a b n) { stage = Sent }) frame ≡ state_b a b (n + 1)
next_b a b n frame e =
    let one : n + 1 ≡ suc n = omega arith in
    let es : List ℕ = rounds_of a.net in
    let now : Heard = heard_at_round a b n in
    let sent : List Masked = (half_walk a.half now.a a.net.gates).sent in
    ap (after_take (record (state_b a b n) { stage = Sent })) e
    ∙ ap (λ (ms : List Masked). record (state_b a b (n + 1)) { heard = put (n + 1) es now.b ms }) (words_back (pick (n + 1) es sent))
    ∙ ap (λ (k : ℕ). record (state_b a b (n + 1)) { heard = put k es now.b (pick k es sent) }) one
    ∙ ap (λ (k : ℕ). record (state_b a b (n + 1)) { heard = (heard_at_round a b k).b }) (sym one)

-- ---- at the end
other_share : (xs ys : List ℕ) → length ys ≡ length xs → xor_lists (xor_lists xs ys) xs ≡ ys
other_share [] [] l = refl
other_share [] (y ∷ ys) l = absurd (omega arith)
other_share (x ∷ xs) [] l = absurd (omega arith)
other_share (x ∷ xs) (y ∷ ys) l = rw (other_part x y (x ⊕ y) refl, other_share xs ys (omega arith)) refl

half_a_is : (a b : HalfState) → ArePair a b → half_of A (world_of a b) (section_of_pair a b) ≡ a.half
half_a_is a b p =
    let t : Layout = section_of_pair a b in
    let site : ◌≡◌ {A = HalfWords} (record { site = A; own = a.half.own; given = a.half.given; part = part_of A t }) (record { site = a.half.site; own = a.half.own; given = a.half.given; part = part_of A t })
    = ap (λ (s : Site). record { site = s; own = a.half.own; given = a.half.given; part = part_of A t }) (sym p.site_a) in
    site ∙ ap (λ (q : PartWords). record a.half { part = q }) p.parts.part_a

half_b_is : (a b : HalfState) → ArePair a b → half_of B (world_of a b) (section_of_pair a b) ≡ b.half
half_b_is a b p =
    let t : Layout = section_of_pair a b in
    let gs : List ℕ = xor_lists (xor_lists a.half.given b.half.given) a.half.given in
    let site : ◌≡◌ {A = HalfWords} (record { site = B; own = b.half.own; given = gs; part = part_of B t }) (record { site = b.half.site; own = b.half.own; given = gs; part = part_of B t })
    = ap (λ (s : Site). record { site = s; own = b.half.own; given = gs; part = part_of B t }) (sym p.site_b) in
    site
    ∙ ap (λ (q : PartWords). record b.half { given = gs; part = q }) p.parts.part_b
    ∙ ap (λ (xs : List ℕ). record b.half { given = xs }) (other_share a.half.given b.half.given p.shares)

covers_joined : (net : Net) (a b : PartWords) → AreParts a b → length a.r ≡ length (joined a b).r → length a.triples ≡ length (joined a b).fives
covers_joined net a b p e = sym (ap (λ (q : PartWords). length q.triples) p.part_a) ∙ length-map (joined a b).fives (triple_of A)

pub run_ends : (a b : HalfState) → ArePair a b → Fits a.net a.half → IsCircuit a.net
    → IsRun (world_of a b) (section_of_pair a b) a.net (heard_at_round a b (frame_count a.net)).a (heard_at_round a b (frame_count a.net)).b
run_ends a b p fits is =
    let n : ℕ = frame_count a.net in
    let heard : Heard = heard_at_round a b n in
    let talk : HaveTalked a.half b.half a.net.gates heard.a heard.b
    = depth_law a.half b.half a.net.gates n is.gates.order (rounds_within (slice_index (depths_of a.net.gates)) n (no_deeper a.net) a.net.gates 0) in
    let both : HaveTalked (half_of A (world_of a b) (section_of_pair a b)) (half_of B (world_of a b) (section_of_pair a b)) a.net.gates heard.a heard.b
    = subst (λ (h : HalfWords). HaveTalked h (half_of B (world_of a b) (section_of_pair a b)) a.net.gates heard.a heard.b) (sym (half_a_is a b p))
    (subst (λ (h : HalfWords). HaveTalked a.half h a.net.gates heard.a heard.b) (sym (half_b_is a b p)) talk) in
    run_law (world_of a b) (section_of_pair a b) a.net heard.a heard.b (sym (length-xor_lists a.half.given b.half.given p.shares))
    (record { r = fits.r; fives = sym (covers_joined a.net a.half.part b.half.part p.parts refl) ∙ fits.triples; masks = fits.masks })
    both

pub outputs_a : (a b : HalfState) → ArePair a b → Fits a.net a.half → IsCircuit a.net
    → half_outputs a.half (heard_at_round a b (frame_count a.net)).a a.net ≡ put_out A (world_of a b) (section_of_pair a b) a.net
outputs_a a b p fits is =
    ap (λ (h : HalfWords). half_outputs h (heard_at_round a b (frame_count a.net)).a a.net) (sym (half_a_is a b p)) ∙ (run_ends a b p fits is).outputs_a

pub outputs_b : (a b : HalfState) → ArePair a b → Fits a.net a.half → IsCircuit a.net
    → half_outputs b.half (heard_at_round a b (frame_count a.net)).b a.net ≡ put_out B (world_of a b) (section_of_pair a b) a.net
outputs_b a b p fits is =
    ap (λ (h : HalfWords). half_outputs h (heard_at_round a b (frame_count a.net)).b a.net) (sym (half_b_is a b p)) ∙ (run_ends a b p fits is).outputs_b

view_a : (a b : HalfState) → ArePair a b → Fits a.net a.half → IsCircuit a.net
    → half_view a.half (heard_at_round a b (frame_count a.net)).a a.net ≡ view_of A (world_of a b) (section_of_pair a b) a.net
view_a a b p fits is =
    ap (λ (h : HalfWords). half_view h (heard_at_round a b (frame_count a.net)).a a.net) (sym (half_a_is a b p)) ∙ (run_ends a b p fits is).view_a

view_b : (a b : HalfState) → ArePair a b → Fits a.net a.half → IsCircuit a.net
    → half_view b.half (heard_at_round a b (frame_count a.net)).b a.net ≡ view_of B (world_of a b) (section_of_pair a b) a.net
view_b a b p fits is =
    ap (λ (h : HalfWords). half_view h (heard_at_round a b (frame_count a.net)).b a.net) (sym (half_b_is a b p)) ∙ (run_ends a b p fits is).view_b

pub ended_a : (a b : HalfState) (n : ℕ) (last : HalfState) → ArePair a b → Fits a.net a.half → IsCircuit a.net → n ≡ frame_count a.net → last ≡ after_next (state_a a b n)
    → finished last ≡ (run_of a b).a
ended_a a b n last p fits is e l =
    ap finished l
    ∙ ap (λ (k : ℕ). finished_of a.net a.half (half_view a.half (heard_at_round a b k).a a.net) (half_outputs a.half (heard_at_round a b k).a a.net)) e
    ∙ ap (λ (v : UnitWords). finished_of a.net a.half v (half_outputs a.half (heard_at_round a b (frame_count a.net)).a a.net)) (view_a a b p fits is)
    ∙ ap (finished_of a.net a.half (view_of A (world_of a b) (section_of_pair a b) a.net)) (outputs_a a b p fits is)

pub ended_b : (a b : HalfState) (n : ℕ) (last : HalfState) → ArePair a b → Fits a.net a.half → IsCircuit a.net → n ≡ frame_count a.net → last ≡ after_next (state_b a b n)
    → finished last ≡ (run_of a b).b
ended_b a b n last p fits is e l =
    ap finished l
    ∙ ap (λ (k : ℕ). finished_of a.net b.half (half_view b.half (heard_at_round a b k).b a.net) (half_outputs b.half (heard_at_round a b k).b a.net)) e
    ∙ ap (λ (v : UnitWords). finished_of a.net b.half v (half_outputs b.half (heard_at_round a b (frame_count a.net)).b a.net)) (view_b a b p fits is)
    ∙ ap (finished_of a.net b.half (view_of B (world_of a b) (section_of_pair a b) a.net)) (outputs_b a b p fits is)
    ∙ ap (λ (net : Net). finished_of net b.half (view_of B (world_of a b) (section_of_pair a b) net) (put_out B (world_of a b) (section_of_pair a b) net)) (sym p.one_net)

pub shares_open : (a b : HalfState) → ArePair a b → Fits a.net a.half → IsCircuit a.net
    → xor_lists (put_out A (world_of a b) (section_of_pair a b) a.net) (put_out B (world_of a b) (section_of_pair a b) b.net) ≡ output_words (inputs_of a b) a.net
shares_open a b p fits is =
    let r = run_ends a b p fits is in
    let heard : Heard = heard_at_round a b (frame_count a.net) in
    ap (λ (net : Net). xor_lists (put_out A (world_of a b) (section_of_pair a b) a.net) (put_out B (world_of a b) (section_of_pair a b) net)) p.one_net
    ∙ ap (λ (ys : List ℕ). xor_lists (put_out A (world_of a b) (section_of_pair a b) a.net) ys) (sym r.outputs_b)
    ∙ ap (λ (xs : List ℕ). xor_lists xs (half_outputs (half_of B (world_of a b) (section_of_pair a b)) heard.b a.net)) (sym r.outputs_a)
    ∙ r.opens

-- ---- a frame's length fits its count
pick_few : (d : ℕ) (es : List ℕ) (fs : List Masked) → length (pick d es fs) ≤ length es
pick_few d [] fs = omega arith
pick_few d (e ∷ es) [] = omega arith
pick_few d (e ∷ es) (f ∷ fs) =
    let h = pick_few d es fs in
    ⊎_elim
    (λ t. subst (λ (xs : List Masked). length xs ≤ suc (length es)) (sym (cond-true (eqb e d) (f ∷ pick d es fs) (pick d es fs) t)) (omega arith))
    (λ t. subst (λ (xs : List Masked). length xs ≤ suc (length es)) (sym (cond-false (eqb e d) (f ∷ pick d es fs) (pick d es fs) t)) (omega arith))
    (cases_Bool (eqb e d))

two_words_each : (ms : List Masked) → length (flat_map masked_words ms) ≡ 2 * length ms
two_words_each [] = refl
two_words_each (m ∷ ms) = let h = two_words_each ms in omega arith

pub frame_few : (s : HalfState) → IsCircuit s.net → length (next_frame s) < 2 ^ 32
frame_few s is =
    let sent : List Masked = (half_walk s.half s.heard s.net.gates).sent in
    let few = is.few_gates in
    omega (
      arith,
      two_words_each (pick (s.taken + 1) (rounds_of s.net) sent),
      pick_few (s.taken + 1) (rounds_of s.net) sent,
      rounds_long (slice_index (depths_of s.net.gates)) 0 s.net.gates,
      length-ands s.net.gates,
      count_by-le-length is_and s.net.gates,
    )
