-- Two halves on one section: what they put out comes to the circuit's words, and each puts out as many.
use Rattle.std.proofs.Common.{◌≡◌, ℕ, zero, suc, ◌+◌, ◌<◌, Bool, true, false, cond, List, [], ◌∷◌, ◌++◌, length, take, get_or, refl, sym, ap, ap₂, ◌∙◌, arith, length-append}
use Rattle.std.proofs.lemmas.List.{length-map}
use Rattle.pdn_base.specs.declared.site.Site.{Site}
use Rattle.pdn_base.specs.declared.site.Site.TheVariants.{A, B}
use Rattle.pdn_base.specs.Words.{◌⊕◌, xor_lists}
use Rattle.pdn_base.proofs.WordLists.{length-xor_lists, xor_lists-append}
use Rattle.pdn_circuit.specs.Gates.{Net, output_words, input_count, given_count}
use Rattle.pdn_dealer.specs.Sections.{Layout, PartWords, part_of, Covers, layout_of, section_length}
use Rattle.pdn_dealer.specs.Tapes.{first_words}
use Rattle.pdn_dealer.proofs.SectionWords.{covers_of}
use Rattle.pdn_gmw.specs.Shares.{World, walk, share_at, output_shares, put_out}
use Rattle.pdn_gmw.specs.Steps.{HalfState, begun, half_words}
use Rattle.pdn_gmw.specs.Pairs.{joined, Run, run_of}
use Rattle.pdn_gmw.proofs.Outputs.{put_out_open}
use Rattle.pdn_gmw.proofs.Meeting.{joined_again, length-first_words}
use Rattle.pdn_broker.specs.declared.answered.Dealt.{Dealt}
pub use Rattle.pdn_broker.specs.Runs.{Shared}
use Rattle.pdn_broker.specs.Runs.{Both, world, Takes, Tape, section_at, half_on, run_on}

length_by : (released : Bool) (shares masks : List ℕ) → (released ≡ true → length masks ≡ length shares) → length (cond released (xor_lists shares masks) shares) ≡ length shares
length_by true shares masks h = length-xor_lists shares masks (h refl)
length_by false shares masks h = refl

length-put_out : (site : Site) (w : World) (t : Layout) (net : Net) → Covers net t → length (put_out site w t net) ≡ length net.outputs
length-put_out site w t net c =
    let shares : length (output_shares site w t net) ≡ length net.outputs = length-map net.outputs (share_at site (walk w t net.gates)) in
    length_by net.released (output_shares site w t net) t.masks (λ e. c.masks ∙ ap (λ b. cond b (length net.outputs) 0) e ∙ sym shares) ∙ shares

-- the run of two halves on a section that has the circuit's words
run_shared : (net : Net) (t : Layout) (own given : Both) → Covers net t → Shared (run_on net t own given).a.outputs (run_on net t own given).b.outputs (output_words (world own given).inputs net)
unfolding run_on
run_shared net t own given c =
    let section : joined (part_of A t) (part_of B t) ≡ t = joined_again t in
    let out : (site : Site) → put_out site (world own given) (joined (part_of A t) (part_of B t)) net ≡ put_out site (world own given) t net = λ site. ap (λ (s : Layout). put_out site (world own given) s net) section in
    record {
      same = ap length (out B) ∙ length-put_out B (world own given) t net c ∙ sym (ap length (out A) ∙ length-put_out A (world own given) t net c);
      opens = ap₂ (λ (xs ys : List ℕ). xor_lists xs ys) (out A) (out B) ∙ put_out_open (world own given) t net c;
    }

covers_at : (tape : Tape) (at : Dealt) (net : Net) → Covers net (section_at tape at net)
unfolding section_at
covers_at tape at net = covers_of net (first_words (tape at.ticket at.unit) (section_length net)) (length-first_words (tape at.ticket at.unit) (section_length net))

-- what two halves put out on the section that is dealt comes to the circuit's words, whatever was dealt
pub dealt_shared : (net : Net) (tape : Tape) (at : Dealt) (own given : Both)
    → Shared (run_on net (section_at tape at net) own given).a.outputs (run_on net (section_at tape at net) own given).b.outputs (output_words (world own given).inputs net)
dealt_shared net tape at own given = run_shared net (section_at tape at net) own given (covers_at tape at net)

pub shared_nothing : Shared [] [] []
shared_nothing = record { same = refl; opens = refl }

pub shared_append : {a b words c d more : List ℕ} → Shared a b words → Shared c d more → Shared (a ++ c) (b ++ d) (words ++ more)
shared_append {a} {b} {words} {c} {d} {more} s t = record {
  same = omega (arith, length-append a c, length-append b d, s.same, t.same);
  opens = xor_lists-append a c b d s.same ∙ ap₂ (λ (xs ys : List ℕ). xs ++ ys) s.opens t.opens;
}

-- one word more
pub xor_more : (xs ys : List ℕ) (k d e : ℕ) → k < length xs → k < length ys → xor_lists (take (suc k) xs) (take (suc k) ys) ≡ xor_lists (take k xs) (take k ys) ++ (get_or xs k d ⊕ get_or ys k e) ∷ []
xor_more [] ys k d e h i = absurd (omega arith)
xor_more (x ∷ xs) [] k d e h i = absurd (omega arith)
xor_more (x ∷ xs) (y ∷ ys) zero d e h i = refl
xor_more (x ∷ xs) (y ∷ ys) (suc k) d e h i = ap (λ (zs : List ℕ). (x ⊕ y) ∷ zs) (xor_more xs ys k d e (omega arith) (omega arith))

pub xor_step : (xs ys words new : List ℕ) (k x y : ℕ) → k < length xs → length ys ≡ length xs → words ≡ xor_lists (take k xs) (take k ys) → x ≡ get_or xs k x → y ≡ get_or ys k y → new ≡ words ++ (x ⊕ y) ∷ []
    → new ≡ xor_lists (take (k + 1) xs) (take (k + 1) ys)
xor_step xs ys words new k x y h l w d e n =
    let more : suc k ≡ k + 1 = omega arith in
    n ∙ ap₂ (λ (ws : List ℕ) z. ws ++ z ∷ []) w (ap₂ (λ p q. p ⊕ q) d e) ∙ sym (xor_more xs ys k x y h (omega (arith, h, l))) ∙ ap (λ m. xor_lists (take m xs) (take m ys)) more

-- two halves that were begun on the parts of a section
pub run_on_parts : (net : Net) (words : List ℕ) (own given : Both) (own_a own_b given_a given_b : List ℕ) (part_a part_b : PartWords) (a b : HalfState) (run : Run)
    → ◌≡◌ {A = Both} (record { a = own_a; b = own_b }) own → ◌≡◌ {A = Both} (record { a = given_a; b = given_b }) given
    → part_a ≡ part_of A (layout_of net words) → part_b ≡ part_of B (layout_of net words) → a ≡ begun net (half_words A own_a given_a part_a) → b ≡ begun net (half_words B own_b given_b part_b)
    → run ≡ run_of a b → run ≡ run_on net (layout_of net words) own given
unfolding run_on
run_on_parts net words own given own_a own_b given_a given_b part_a part_b a b run o g pa pb ea eb r =
    let t : Layout = layout_of net words in
    let half_a : a ≡ half_on A net t own.a given.a
    = ea ∙ ap (λ (p : PartWords). begun net (half_words A own_a given_a p)) pa ∙ ap₂ (λ (s u : Both). begun net (half_words A s.a u.a (part_of A t))) o g in
    let half_b : b ≡ half_on B net t own.b given.b
    = eb ∙ ap (λ (p : PartWords). begun net (half_words B own_b given_b p)) pb ∙ ap₂ (λ (s u : Both). begun net (half_words B s.b u.b (part_of B t))) o g in
    r ∙ ap₂ run_of half_a half_b

-- a section that was dealt has as many words as the circuit needs
pub dealt_length : (net : Net) (tape : Tape) (at : Dealt) (words : List ℕ) (len : ℕ) → words ≡ first_words (tape at.ticket at.unit) len → len ≡ section_length net → length words ≡ section_length net
dealt_length net tape at words len w l = ap length w ∙ length-first_words (tape at.ticket at.unit) len ∙ l

-- and a run on its words is one on the section that is dealt
pub run_where_dealt : (net : Net) (tape : Tape) (at : Dealt) (words : List ℕ) (len : ℕ) (own given : Both) (run : Run)
    → words ≡ first_words (tape at.ticket at.unit) len → len ≡ section_length net → run ≡ run_on net (layout_of net words) own given → run ≡ run_on net (section_at tape at net) own given
unfolding section_at
run_where_dealt net tape at words len own given run w l r =
    r ∙ ap (λ (ws : List ℕ). run_on net (layout_of net ws) own given) (w ∙ ap (first_words (tape at.ticket at.unit)) l)

-- ---- words that stood in a list for each site
pub given_same : (net : Net) (own given : Both) (given_a given_b : List ℕ) → ◌≡◌ {A = Both} (record { a = given_a; b = given_b }) given → Takes net own given → length given_b ≡ length given_a
given_same net own given given_a given_b e t = ap (λ (s : Both). length s.b) e ∙ t.given_b ∙ sym t.given_a ∙ sym (ap (λ (s : Both). length s.a) e)

pub own_fits_a : (net : Net) (own given : Both) (own_a own_b : List ℕ) → ◌≡◌ {A = Both} (record { a = own_a; b = own_b }) own → Takes net own given → length own_a ≡ input_count A net.gates
own_fits_a net own given own_a own_b e t = ap (λ (s : Both). length s.a) e ∙ t.own_a

pub own_fits_b : (net : Net) (own given : Both) (own_a own_b : List ℕ) → ◌≡◌ {A = Both} (record { a = own_a; b = own_b }) own → Takes net own given → length own_b ≡ input_count B net.gates
own_fits_b net own given own_a own_b e t = ap (λ (s : Both). length s.b) e ∙ t.own_b

pub given_fits_a : (net : Net) (own given : Both) (given_a given_b : List ℕ) → ◌≡◌ {A = Both} (record { a = given_a; b = given_b }) given → Takes net own given → length given_a ≡ given_count net.gates
given_fits_a net own given given_a given_b e t = ap (λ (s : Both). length s.a) e ∙ t.given_a

pub given_fits_b : (net : Net) (own given : Both) (given_a given_b : List ℕ) → ◌≡◌ {A = Both} (record { a = given_a; b = given_b }) given → Takes net own given → length given_b ≡ given_count net.gates
given_fits_b net own given given_a given_b e t = ap (λ (s : Both). length s.b) e ∙ t.given_b
