-- The lines of a view lead to the view.
use Rattle.std.proofs.Common.{◌≡◌, ◌<◌, ◌≤◌, ◌^◌, ℕ, ◌+◌, ◌-◌, Bool, true, false, cond, List, [], ◌∷◌, ◌++◌, map, length, Option, Some, None, Ordering, Less, Equal, Greater, refl, sym, ap, subst, ◌∙◌, append_assoc, arith, length-append}
use Rattle.std.specs.Prelude.{codes, decimal}
use Rattle.std.specs.Str.{bytes_eq}
use Rattle.std.specs.List.{AllByRecursion, list_all}
use Rattle.std.proofs.lemmas.Bool.{lt-ltb, le-ltb}
use Rattle.std.proofs.lemmas.List.{append-nil, map-append}
use Rattle.std.proofs.lemmas.List.Concat.{flat_map-cons}
use Rattle.pdn_base.specs.declared.value.Value.{Value}
use Rattle.pdn_base.specs.declared.site.Site.{Site}
use Rattle.pdn_base.specs.declared.site.Site.TheVariants.{A, B}
use Rattle.pdn_base.specs.Texts.{site_text}
use Rattle.pdn_base.specs.Values.{value_cmp}
use Rattle.pdn_gmw.specs.declared.views.GateView.{GateView}
use Rattle.pdn_gmw.specs.Shares.{UnitWords}
use Rattle.pdn_site.specs.Models.{Dirs}
use Rattle.pdn_view.specs.declared.view.Party.{Party}
use Rattle.pdn_view.specs.declared.view.Party.TheVariants as parties
use Rattle.pdn_view.specs.declared.due.Due.{Due}
use Rattle.pdn_view.specs.declared.due.Due.TheVariants.{Plain, Secure, Root, Outputs}
use Rattle.pdn_view.specs.declared.due.Counts.{Counts}
use Rattle.pdn_view.specs.declared.machine.Lack.{Lack}
use Rattle.pdn_view.specs.declared.machine.Lack.TheVariants.{Own, Other, Gates, Masks, Nothing}
use Rattle.pdn_view.specs.declared.machine.State.{State}
use Rattle.pdn_view.specs.declared.machine.State.TheVariants.{Begin, Segments, Half, Words, Closed}
use Rattle.pdn_view.specs.Views.{Part, ViewWords, counts_of, next_slice, slices_from, slices, all_slices, dues_of, first_number, AreDirs, IsDirectory, IsValue, IsWord, IsGate, AreWords, IsPart, IsView}
use Rattle.pdn_view.specs.Lines.{Line, value_text, counts_text, spaced, head_line, segment_line, segment_lines, unit_line, word_line, gate_line, end_line, own_mark, other_mark, words_lines, part_lines, parts_lines, view_lines}
use Rattle.pdn_view.specs.Parts.{Opening, Body, Begun}
use Rattle.pdn_view.specs.Guesses.{mapped, word, head_in, segment_in, counts_in, word_in, gate_in}
use Rattle.pdn_view.specs.Machine.{opening, with_dirs, body_of, view_of, kept, closed, begun, onto, opens, next_unit, word_of, gate_of, with_words, add_own, add_other, add_gate, add_mask, lack, lacking, half, next, onward, runs}
use Rattle.pdn_view.specs.Faults.{is_line}
use Rattle.pdn_view.proofs.Checks.{both_true, checked_same}
use Rattle.pdn_view.proofs.Solid.{solid}
use Rattle.pdn_view.proofs.Splits.{solids, line_spaced}
use Rattle.pdn_view.proofs.GuessLaws.{solid_head, solid_segment, HasValue, solid_unit, solid_word_line, solid_gate_line, word_of_line, head_again, segment_again, unit_again, word_line_again, gate_line_again}
use Rattle.pdn_view.proofs.Holding.{kept_same, all_more}

-- ---- one line after the other

runs_by : (o : Option State) (xs ys : List (List ℕ)) → ((t : State) → runs t (xs ++ ys) ≡ onward (runs t xs) (λ r. runs r ys))
    → onward o (λ t. runs t (xs ++ ys)) ≡ onward (onward o (λ t. runs t xs)) (λ r. runs r ys)
runs_by None xs ys ih = refl
runs_by (Some t) xs ys ih = ih t

pub runs_append : (s : State) (xs ys : List (List ℕ)) → runs s (xs ++ ys) ≡ onward (runs s xs) (λ t. runs t ys)
runs_append s [] ys = refl
runs_append s (x ∷ xs) ys = runs_by (next s x) xs ys (λ t. runs_append t xs ys)

pub runs_on : (s t u : State) (xs ys : List (List ℕ)) → runs s xs ≡ Some t → runs t ys ≡ Some u → runs s (xs ++ ys) ≡ Some u
runs_on s t u xs ys a b = runs_append s xs ys ∙ ap (λ (o : Option State). onward o (λ r. runs r ys)) a ∙ b

pub runs_first : (s t u : State) (x : List ℕ) (xs : List (List ℕ)) → next s x ≡ Some t → runs t xs ≡ Some u → runs s (x ∷ xs) ≡ Some u
runs_first s t u x xs a b = ap (λ (o : Option State). onward o (λ r. runs r xs)) a ∙ b

-- ---- the head and the segments

pub head_leads : (party : Party) (ticket : ℕ) → ticket < 2 ^ 64 → next Begin (spaced (head_line party ticket)) ≡ Some (Segments (opening (party, ticket)))
head_leads party ticket h =
    ap (mapped (λ (x : Party × ℕ). Segments (opening x)))
    (checked_same (λ (x : Party × ℕ). head_line x.0 x.1) (spaced (head_line party ticket)) (head_in (spaced (head_line party ticket))) (party, ticket) (head_again party ticket h) refl)

first_of_segment : (number : ℕ) (site : Site) (values : List Value) → AllByRecursion IsValue values → bytes_eq (word (spaced (segment_line number site values)) 0) (codes "segment") ≡ true
first_of_segment number site values h = ap (λ (w : List ℕ). bytes_eq w (codes "segment")) (word_of_line (codes "segment") (decimal number ∷ site_text site ∷ map value_text values) 0 (solid_segment number site values h))

half_leads : (o : Opening) (a : List Value) → IsDirectory a → next (Segments o) (spaced (segment_line (length o.dirs) A a)) ≡ Some (Half o a)
half_leads o a h =
    let line : List ℕ = spaced (segment_line (length o.dirs) A a) in
    ap (λ (b : Bool). cond b (half o line) (next_unit (body_of o) line)) (first_of_segment (length o.dirs) A a h.values)
    ∙ ap (mapped (Half o)) (checked_same (segment_line (length o.dirs) A) line (segment_in line) a (segment_again (length o.dirs) A a h) refl)

pub whole_leads : (o : Opening) (a b : List Value) → IsDirectory b → next (Half o a) (spaced (segment_line (length o.dirs) B b)) ≡ Some (Segments (with_dirs o a b))
whole_leads o a b h =
    let line : List ℕ = spaced (segment_line (length o.dirs) B b) in
    ap (mapped (λ (x : List Value). Segments (with_dirs o a x))) (checked_same (segment_line (length o.dirs) B) line (segment_in line) b (segment_again (length o.dirs) B b h) refl)

abbrev with_all : Opening → List Dirs → Opening
with_all o ds = record { party = o.party; ticket = o.ticket; dirs = o.dirs ++ ds }

segments_lead : (o : Opening) (ds : List Dirs) → AllByRecursion AreDirs ds → runs (Segments o) (map spaced (segment_lines (length o.dirs) ds)) ≡ Some (Segments (with_all o ds))
segments_lead o [] h = ap (λ (ds : List Dirs). Some (Segments (record { party = o.party; ticket = o.ticket; dirs = ds }))) (sym (append-nil o.dirs))
segments_lead o (d ∷ ds) h =
    let after : Opening = with_dirs o d.a d.b in
    let len : length o.dirs + 1 ≡ length after.dirs = sym (length-append o.dirs (record { a = d.a; b = d.b } ∷ [])) in
    let rest : runs (Segments after) (map spaced (segment_lines (length o.dirs + 1) ds)) ≡ Some (Segments (with_all after ds)) =
    ap (λ (n : ℕ). runs (Segments after) (map spaced (segment_lines n ds))) len ∙ segments_lead after ds h.1 in
    let all : with_all after ds ≡ with_all o (d ∷ ds) = ap (λ (xs : List Dirs). record { party = o.party; ticket = o.ticket; dirs = xs }) (append_assoc o.dirs (d ∷ []) ds) in
    let first : List ℕ = spaced (segment_line (length o.dirs) A d.a) in
    let second : List ℕ = spaced (segment_line (length o.dirs) B d.b) in
    let others : List (List ℕ) = map spaced (segment_lines (length o.dirs + 1) ds) in
    let end : State = Segments (with_all o (d ∷ ds)) in
    runs_first (Segments o) (Half o d.a) end first (second ∷ others) (half_leads o d.a h.0.a)
    (runs_first (Half o d.a) (Segments after) end second others (whole_leads o d.a d.b h.0.b) (rest ∙ ap (λ (x : Opening). Some (Segments x)) all))

-- ---- the words of a unit

solid_own : (due : Due) → solid (own_mark due) ≡ true
solid_own (Plain site v) = refl
solid_own (Secure v) = refl
solid_own Root = refl
solid_own Outputs = refl

solid_other : (due : Due) → solid (other_mark due) ≡ true
solid_other (Plain site v) = refl
solid_other (Secure v) = refl
solid_other Root = refl
solid_other Outputs = refl

word_leads : (mark : List ℕ) (w : ℕ) → solid mark ≡ true → IsWord w → word_of mark (spaced (word_line mark w)) ≡ Some w
word_leads mark w m h = checked_same (word_line mark) (spaced (word_line mark w)) (word_in (word (spaced (word_line mark w)) 1)) w (word_line_again mark w m h) refl

gate_leads : (g : GateView) → IsGate g → gate_of (spaced (gate_line g)) ≡ Some g
gate_leads g h = checked_same gate_line (spaced (gate_line g)) (gate_in (spaced (gate_line g))) g (gate_line_again g h) refl

lacks_own : (g : Begun) → length g.words.own < g.want.own → lack g ≡ Own
lacks_own g a = rw (lt-ltb _ _ a) refl

lacks_other : (g : Begun) → g.want.own ≤ length g.words.own → length g.words.other < g.want.other → lack g ≡ Other
lacks_other g a b = rw (le-ltb _ _ a, lt-ltb _ _ b) refl

lacks_gates : (g : Begun) → g.want.own ≤ length g.words.own → g.want.other ≤ length g.words.other → length g.words.gates < g.want.ands → lack g ≡ Gates
lacks_gates g a b c = rw (le-ltb _ _ a, le-ltb _ _ b, lt-ltb _ _ c) refl

lacks_masks : (g : Begun) → g.want.own ≤ length g.words.own → g.want.other ≤ length g.words.other → g.want.ands ≤ length g.words.gates → length g.words.masks < g.want.masks → lack g ≡ Masks
lacks_masks g a b c d = rw (le-ltb _ _ a, le-ltb _ _ b, le-ltb _ _ c, lt-ltb _ _ d) refl

pub lacks_nothing : (g : Begun) → g.want.own ≤ length g.words.own → g.want.other ≤ length g.words.other → g.want.ands ≤ length g.words.gates → g.want.masks ≤ length g.words.masks → lack g ≡ Nothing
lacks_nothing g a b c d = rw (le-ltb _ _ a, le-ltb _ _ b, le-ltb _ _ c, le-ltb _ _ d) refl

abbrev pub with_owns : Begun → List ℕ → Begun
with_owns g xs = with_words g (record { own = g.words.own ++ xs; other = g.words.other; gates = g.words.gates; masks = g.words.masks })

abbrev pub with_others : Begun → List ℕ → Begun
with_others g xs = with_words g (record { own = g.words.own; other = g.words.other ++ xs; gates = g.words.gates; masks = g.words.masks })

abbrev pub with_gates : Begun → List GateView → Begun
with_gates g xs = with_words g (record { own = g.words.own; other = g.words.other; gates = g.words.gates ++ xs; masks = g.words.masks })

abbrev pub with_masks : Begun → List ℕ → Begun
with_masks g xs = with_words g (record { own = g.words.own; other = g.words.other; gates = g.words.gates; masks = g.words.masks ++ xs })

pub owns_lead : (b : Body) (g : Begun) (xs : List ℕ) → length g.words.own + length xs ≤ g.want.own → AllByRecursion IsWord xs
    → runs (Words b g) (map spaced (map (word_line (own_mark g.due)) xs)) ≡ Some (Words b (with_owns g xs))
owns_lead b g [] fits h = ap (λ (ys : List ℕ). Some (Words b (with_words g (record { own = ys; other = g.words.other; gates = g.words.gates; masks = g.words.masks })))) (sym (append-nil g.words.own))
owns_lead b g (x ∷ xs) fits h =
    let len : length (g.words.own ++ x ∷ []) ≡ length g.words.own + 1 = length-append g.words.own (x ∷ []) in
    let line : List ℕ = spaced (word_line (own_mark g.due) x) in
    let one : next (Words b g) line ≡ Some (Words b (add_own g x)) =
    ap (λ (l : Lack). lacking l b g line) (lacks_own g (omega arith)) ∙ ap (λ (o : Option ℕ). mapped (Words b) (mapped (add_own g) o)) (word_leads (own_mark g.due) x (solid_own g.due) h.0) in
    runs_first (Words b g) (Words b (add_own g x)) _ _ _ one
    (owns_lead b (add_own g x) xs (omega (arith, len, fits)) h.1
    ∙ ap (λ (ys : List ℕ). Some (Words b (with_words g (record { own = ys; other = g.words.other; gates = g.words.gates; masks = g.words.masks })))) (append_assoc g.words.own (x ∷ []) xs))

pub others_lead : (b : Body) (g : Begun) (xs : List ℕ) → g.want.own ≤ length g.words.own → length g.words.other + length xs ≤ g.want.other → AllByRecursion IsWord xs
    → runs (Words b g) (map spaced (map (word_line (other_mark g.due)) xs)) ≡ Some (Words b (with_others g xs))
others_lead b g [] own fits h = ap (λ (ys : List ℕ). Some (Words b (with_words g (record { own = g.words.own; other = ys; gates = g.words.gates; masks = g.words.masks })))) (sym (append-nil g.words.other))
others_lead b g (x ∷ xs) own fits h =
    let len : length (g.words.other ++ x ∷ []) ≡ length g.words.other + 1 = length-append g.words.other (x ∷ []) in
    let line : List ℕ = spaced (word_line (other_mark g.due) x) in
    let one : next (Words b g) line ≡ Some (Words b (add_other g x)) =
    ap (λ (l : Lack). lacking l b g line) (lacks_other g own (omega arith)) ∙ ap (λ (o : Option ℕ). mapped (Words b) (mapped (add_other g) o)) (word_leads (other_mark g.due) x (solid_other g.due) h.0) in
    runs_first (Words b g) (Words b (add_other g x)) _ _ _ one
    (others_lead b (add_other g x) xs own (omega (arith, len, fits)) h.1
    ∙ ap (λ (ys : List ℕ). Some (Words b (with_words g (record { own = g.words.own; other = ys; gates = g.words.gates; masks = g.words.masks })))) (append_assoc g.words.other (x ∷ []) xs))

pub gates_lead : (b : Body) (g : Begun) (xs : List GateView) → g.want.own ≤ length g.words.own → g.want.other ≤ length g.words.other → length g.words.gates + length xs ≤ g.want.ands → AllByRecursion IsGate xs
    → runs (Words b g) (map spaced (map gate_line xs)) ≡ Some (Words b (with_gates g xs))
gates_lead b g [] own other fits h = ap (λ (ys : List GateView). Some (Words b (with_words g (record { own = g.words.own; other = g.words.other; gates = ys; masks = g.words.masks })))) (sym (append-nil g.words.gates))
gates_lead b g (x ∷ xs) own other fits h =
    let len : length (g.words.gates ++ x ∷ []) ≡ length g.words.gates + 1 = length-append g.words.gates (x ∷ []) in
    let line : List ℕ = spaced (gate_line x) in
    let one : next (Words b g) line ≡ Some (Words b (add_gate g x)) =
    ap (λ (l : Lack). lacking l b g line) (lacks_gates g own other (omega arith)) ∙ ap (λ (o : Option GateView). mapped (Words b) (mapped (add_gate g) o)) (gate_leads x h.0) in
    runs_first (Words b g) (Words b (add_gate g x)) _ _ _ one
    (gates_lead b (add_gate g x) xs own other (omega (arith, len, fits)) h.1
    ∙ ap (λ (ys : List GateView). Some (Words b (with_words g (record { own = g.words.own; other = g.words.other; gates = ys; masks = g.words.masks })))) (append_assoc g.words.gates (x ∷ []) xs))

pub masks_lead : (b : Body) (g : Begun) (xs : List ℕ) → g.want.own ≤ length g.words.own → g.want.other ≤ length g.words.other → g.want.ands ≤ length g.words.gates → length g.words.masks + length xs ≤ g.want.masks → AllByRecursion IsWord xs
    → runs (Words b g) (map spaced (map (word_line (codes "m")) xs)) ≡ Some (Words b (with_masks g xs))
masks_lead b g [] own other ands fits h = ap (λ (ys : List ℕ). Some (Words b (with_words g (record { own = g.words.own; other = g.words.other; gates = g.words.gates; masks = ys })))) (sym (append-nil g.words.masks))
masks_lead b g (x ∷ xs) own other ands fits h =
    let len : length (g.words.masks ++ x ∷ []) ≡ length g.words.masks + 1 = length-append g.words.masks (x ∷ []) in
    let line : List ℕ = spaced (word_line (codes "m") x) in
    let one : next (Words b g) line ≡ Some (Words b (add_mask g x)) =
    ap (λ (l : Lack). lacking l b g line) (lacks_masks g own other ands (omega arith)) ∙ ap (λ (o : Option ℕ). mapped (Words b) (mapped (add_mask g) o)) (word_leads (codes "m") x refl h.0) in
    runs_first (Words b g) (Words b (add_mask g x)) _ _ _ one
    (masks_lead b (add_mask g x) xs own other ands (omega (arith, len, fits)) h.1
    ∙ ap (λ (ys : List ℕ). Some (Words b (with_words g (record { own = g.words.own; other = g.words.other; gates = g.words.gates; masks = ys })))) (append_assoc g.words.masks (x ∷ []) xs))

abbrev pub read_part : Due → UnitWords → Begun
read_part due w = record { due = due; want = counts_of w; words = w }

words_lead : (b : Body) (due : Due) (w : UnitWords) → AreWords w → runs (Words b (begun due (counts_of w))) (map spaced (words_lines due w)) ≡ Some (Words b (read_part due w))
words_lead b due w h =
    let g0 : Begun = begun due (counts_of w) in
    let g1 : Begun = with_owns g0 w.own in
    let g2 : Begun = with_others g1 w.other in
    let g3 : Begun = with_gates g2 w.gates in
    let own : List Line = map (word_line (own_mark due)) w.own in
    let other : List Line = map (word_line (other_mark due)) w.other in
    let gates : List Line = map gate_line w.gates in
    let masks : List Line = map (word_line (codes "m")) w.masks in
    let all : map spaced (words_lines due w) ≡ map spaced own ++ (map spaced other ++ (map spaced gates ++ map spaced masks)) =
    simp (map-append, append_assoc) in
    ap (runs (Words b g0)) all
    ∙ runs_on (Words b g0) (Words b g1) _ (map spaced own) _ (owns_lead b g0 w.own (omega arith) h.own)
    (runs_on (Words b g1) (Words b g2) _ (map spaced other) _ (others_lead b g1 w.other (omega arith) (omega arith) h.other)
    (runs_on (Words b g2) (Words b g3) _ (map spaced gates) (map spaced masks) (gates_lead b g2 w.gates (omega arith) (omega arith) (omega arith) h.gates)
    (masks_lead b g3 w.masks (omega arith) (omega arith) (omega arith) (omega arith) h.masks)))

-- ---- units

-- where the next line is a unit's, or the end
pub record Between (s : State) (b : Body) : Type 0 where
  pub on : (line : List ℕ) → bytes_eq (word line 0) (codes "segment") ≡ false → next s line ≡ next_unit b line

pub between_segments : (o : Opening) → Between (Segments o) (body_of o)
between_segments o = record { on = λ line e. ap (λ (b : Bool). cond b (half o line) (next_unit (body_of o) line)) e }

pub between_units : (b : Body) (g : Begun) → lack g ≡ Nothing → Between (Words b g) (closed b g)
between_units b g is = record { on = λ line e. ap (λ (l : Lack). lacking l b g line) is }

no_segment : (number : ℕ) (due : Due) (c : Counts) → HasValue due → bytes_eq (word (spaced (unit_line number due c)) 0) (codes "segment") ≡ false
no_segment number (Plain site v) c h = ap (λ (w : List ℕ). bytes_eq w (codes "segment")) (word_of_line (codes "unit") (decimal number ∷ codes "plain" ∷ site_text site ∷ value_text v ∷ []) 0 (solid_unit number (Plain site v) c h))
no_segment number (Secure v) c h = ap (λ (w : List ℕ). bytes_eq w (codes "segment")) (word_of_line (codes "unit") (decimal number ∷ codes "secure" ∷ value_text v ∷ counts_text c) 0 (solid_unit number (Secure v) c h))
no_segment number Root c h = ap (λ (w : List ℕ). bytes_eq w (codes "segment")) (word_of_line (codes "unit") (decimal number ∷ codes "root" ∷ counts_text c) 0 (solid_unit number Root c h))
no_segment number Outputs c h = ap (λ (w : List ℕ). bytes_eq w (codes "segment")) (word_of_line (codes "root") (decimal number ∷ codes "words" ∷ decimal c.own ∷ []) 0 (solid_unit number Outputs c h))

unit_leads : (s : State) (b : Body) (p : Part) (todo : List Due) → Between s b → b.todo ≡ p.due ∷ todo → HasValue p.due → IsPart p
    → next s (spaced (unit_line b.number p.due (counts_of p.words))) ≡ Some (Words (onto b todo) (begun p.due (counts_of p.words)))
unit_leads s b p todo on is h part =
    let line : List ℕ = spaced (unit_line b.number p.due (counts_of p.words)) in
    on.on line (no_segment b.number p.due (counts_of p.words) h)
    ∙ ap (λ (ds : List Due). opens b ds line) is
    ∙ ap (mapped (λ (want : Counts). Words (onto b todo) (begun p.due want)))
    (checked_same (unit_line b.number p.due) line (counts_in p.due line) (counts_of p.words) (unit_again b.number p.due (counts_of p.words) h part.fits part.counts) refl)

part_leads : (s : State) (b : Body) (p : Part) (todo : List Due) → Between s b → b.todo ≡ p.due ∷ todo → HasValue p.due → IsPart p
    → runs s (map spaced (part_lines b.number p)) ≡ Some (Words (onto b todo) (read_part p.due p.words))
part_leads s b p todo on is h part = runs_first s _ _ _ _ (unit_leads s b p todo on is h part) (words_lead (onto b todo) p.due p.words part.words)

abbrev pub units_view : Body → List Part → ViewWords
units_view b ps = record { party = b.party; ticket = b.ticket; dirs = b.dirs; units = b.units ++ ps }

-- where lines of units lead: no unit is left
pub record Ended (s : State) (lines : List (List ℕ)) (v : ViewWords) : Type 0 where
  pub state : State
  pub body : Body
  pub leads : runs s lines ≡ Some state
  pub on : Between state body
  pub none : body.todo ≡ []
  pub is : view_of body ≡ v

pub parts_lead : (ps : List Part) (s : State) (b : Body) → Between s b → b.todo ≡ map (λ p. p.due) ps → AllByRecursion HasValue (map (λ p. p.due) ps) → AllByRecursion IsPart ps
    → Ended s (map spaced (parts_lines b.number ps)) (units_view b ps)
parts_lead [] s b on is h parts = record {
  state = s;
  body = b;
  leads = refl;
  on = on;
  none = is;
  is = ap (λ (us : List Part). record { party = b.party; ticket = b.ticket; dirs = b.dirs; units = us }) (sym (append-nil b.units));
}
parts_lead (p ∷ ps) s b on is h parts =
    let todo : List Due = map (λ (q : Part). q.due) ps in
    let g : Begun = read_part p.due p.words in
    let one : runs s (map spaced (part_lines b.number p)) ≡ Some (Words (onto b todo) g) = part_leads s b p todo on is h.0 parts.0 in
    let c : Body = closed (onto b todo) g in
    let full : lack g ≡ Nothing = lacks_nothing g (omega arith) (omega arith) (omega arith) (omega arith) in
    let rest : Ended (Words (onto b todo) g) (map spaced (parts_lines (b.number + 1) ps)) (units_view c ps) = parts_lead ps (Words (onto b todo) g) c (between_units (onto b todo) g full) refl h.1 parts.1 in
    let both : map spaced (parts_lines b.number (p ∷ ps)) ≡ map spaced (part_lines b.number p) ++ map spaced (parts_lines (b.number + 1) ps) =
    map-append spaced (part_lines b.number p) (parts_lines (b.number + 1) ps) in
    let kept_is : kept p.due p.words ≡ p.words = kept_same p.due p.words parts.0.fits in
    let units : (b.units ++ record { due = p.due; words = kept p.due p.words } ∷ []) ++ ps ≡ b.units ++ p ∷ ps =
    ap (λ (w : UnitWords). (b.units ++ record { due = p.due; words = w } ∷ []) ++ ps) kept_is ∙ append_assoc b.units (p ∷ []) ps in
    record {
      state = rest.state;
      body = rest.body;
      leads = ap (runs s) both ∙ runs_on s (Words (onto b todo) g) rest.state (map spaced (part_lines b.number p)) (map spaced (parts_lines (b.number + 1) ps)) one rest.leads;
      on = rest.on;
      none = rest.none;
      is = rest.is ∙ ap (λ (us : List Part). record { party = b.party; ticket = b.ticket; dirs = b.dirs; units = us }) units;
    }

pub ends_lead : (s : State) (b : Body) → Between s b → b.todo ≡ [] → next s (spaced end_line) ≡ Some (Closed (view_of b))
ends_lead s b on none = on.on (spaced end_line) refl ∙ ap (λ (ds : List Due). opens b ds (spaced end_line)) none

-- ---- the values of units

plain_valued : (site : Site) (vs : List Value) → AllByRecursion IsValue vs → AllByRecursion HasValue (map (Plain site) vs)
plain_valued site [] h = tt
plain_valued site (v ∷ vs) h = (h.0, plain_valued site vs h.1)

next_valued : (o : Ordering) (a b : Value) (first both second : List Due) → IsValue a → IsValue b → AllByRecursion HasValue first → AllByRecursion HasValue both → AllByRecursion HasValue second
    → AllByRecursion HasValue (next_slice o a b first both second)
next_valued Less a b first both second h k x y z = (h, x)
next_valued Equal a b first both second h k x y z = (h, y)
next_valued Greater a b first both second h k x y z = (k, z)

from_valued : (a : Value) (after : List Value → List Due) (bs : List Value) → IsValue a → ((cs : List Value) → AllByRecursion IsValue cs → AllByRecursion HasValue (after cs)) → AllByRecursion IsValue bs → AllByRecursion HasValue (slices_from a after bs)
from_valued a after [] h ih k = (h, ih [] tt)
from_valued a after (b ∷ bs) h ih k = next_valued (value_cmp a b) a b (after (b ∷ bs)) (after bs) (slices_from a after bs) h k.0 (ih (b ∷ bs) k) (ih bs k.1) (from_valued a after bs h ih k.1)

slices_valued : (xs bs : List Value) → AllByRecursion IsValue xs → AllByRecursion IsValue bs → AllByRecursion HasValue (slices xs bs)
slices_valued [] bs h k = plain_valued B bs k
slices_valued (a ∷ xs) bs h k = from_valued a (slices xs) bs h.0 (λ cs m. slices_valued xs cs h.1 m) k

pub all_append : {X : Type 0} (P : X → Type 0) (xs ys : List X) → AllByRecursion P xs → AllByRecursion P ys → AllByRecursion P (xs ++ ys)
all_append P [] ys h k = k
all_append P (x ∷ xs) ys h k = (h.0, all_append P xs ys h.1 k)

all_valued : (dirs : List Dirs) → AllByRecursion AreDirs dirs → AllByRecursion HasValue (all_slices dirs)
all_valued [] h = tt
all_valued (d ∷ ds) h =
    subst (AllByRecursion HasValue) (sym (flat_map-cons (λ (e : Dirs). slices e.a e.b) d ds))
    (all_append HasValue (slices d.a d.b) (all_slices ds) (slices_valued d.a d.b h.0.a.values h.0.b.values) (all_valued ds h.1))

pub dues_valued : (party : Party) (dirs : List Dirs) → AllByRecursion AreDirs dirs → AllByRecursion HasValue (dues_of party dirs)
dues_valued parties.A dirs h = all_more HasValue (all_slices dirs) Root (all_valued dirs h) tt
dues_valued parties.B dirs h = all_more HasValue (all_slices dirs) Root (all_valued dirs h) tt
dues_valued parties.Broker dirs h = (tt, tt)

-- ---- the whole view

-- from the segments on, units that are those due lead to the view of them
pub units_lead : (o : Opening) (ps : List Part) → AllByRecursion AreDirs o.dirs → AllByRecursion IsPart ps → map (λ p. p.due) ps ≡ dues_of o.party o.dirs
    → runs (Segments o) (map spaced (parts_lines (first_number o.party o.dirs) ps ++ end_line ∷ [])) ≡ Some (Closed (record { party = o.party; ticket = o.ticket; dirs = o.dirs; units = ps }))
units_lead o ps dirs parts dues =
    let valued : AllByRecursion HasValue (map (λ (p : Part). p.due) ps) = subst (AllByRecursion HasValue) (sym dues) (dues_valued o.party o.dirs dirs) in
    let e : Ended (Segments o) (map spaced (parts_lines (first_number o.party o.dirs) ps)) (units_view (body_of o) ps) = parts_lead ps (Segments o) (body_of o) (between_segments o) (sym dues) valued parts in
    ap (runs (Segments o)) (map-append spaced (parts_lines (first_number o.party o.dirs) ps) (end_line ∷ []))
    ∙ runs_on (Segments o) e.state (Closed (units_view (body_of o) ps)) (map spaced (parts_lines (first_number o.party o.dirs) ps)) (spaced end_line ∷ []) e.leads
    (runs_first e.state (Closed (view_of e.body)) (Closed (units_view (body_of o) ps)) (spaced end_line) [] (ends_lead e.state e.body e.on e.none) (ap (λ (v : ViewWords). Some (Closed v)) e.is))

pub view_leads : (v : ViewWords) → IsView v → runs Begin (map spaced (view_lines v)) ≡ Some (Closed v)
view_leads v h =
    let o : Opening = record { party = v.party; ticket = v.ticket; dirs = v.dirs } in
    let segments : List Line = segment_lines 0 v.dirs in
    let units : List Line = parts_lines (first_number v.party v.dirs) v.units ++ end_line ∷ [] in
    runs_first Begin (Segments (opening (v.party, v.ticket))) (Closed v) (spaced (head_line v.party v.ticket)) (map spaced ((segments ++ parts_lines (first_number v.party v.dirs) v.units) ++ end_line ∷ [])) (head_leads v.party v.ticket h.ticket)
    (ap (runs (Segments (opening (v.party, v.ticket)))) (ap (map spaced) (append_assoc segments (parts_lines (first_number v.party v.dirs) v.units) (end_line ∷ [])) ∙ map-append spaced segments units)
    ∙ runs_on (Segments (opening (v.party, v.ticket))) (Segments o) (Closed v) (map spaced segments) (map spaced units)
    (segments_lead (opening (v.party, v.ticket)) v.dirs h.dirs) (units_lead o v.units h.dirs h.units h.dues))

-- ---- no line of a view has a line feed

abbrev IsLined : Line → Type 0
IsLined line = solids line ≡ true

abbrev Lined : List Line → Type 0
Lined lines = AllByRecursion IsLined lines

all_map : {X Y : Type 0} (P : X → Type 0) (Q : Y → Type 0) (f : X → Y) (xs : List X) → AllByRecursion P xs → ((x : X) → P x → Q (f x)) → AllByRecursion Q (map f xs)
all_map P Q f [] h k = tt
all_map P Q f (x ∷ xs) h k = (k x h.0, all_map P Q f xs h.1 k)

lined_segments : (n : ℕ) (ds : List Dirs) → AllByRecursion AreDirs ds → Lined (segment_lines n ds)
lined_segments n [] h = tt
lined_segments n (d ∷ ds) h = (solid_segment n A d.a h.0.a.values, (solid_segment n B d.b h.0.b.values, lined_segments (n + 1) ds h.1))

lined_words : (due : Due) (w : UnitWords) → AreWords w → Lined (words_lines due w)
lined_words due w h =
    let own : List Line = map (word_line (own_mark due)) w.own in
    let other : List Line = map (word_line (other_mark due)) w.other in
    let gates : List Line = map gate_line w.gates in
    let masks : List Line = map (word_line (codes "m")) w.masks in
    all_append IsLined ((own ++ other) ++ gates) masks
    (all_append IsLined (own ++ other) gates
    (all_append IsLined own other
    (all_map IsWord IsLined (word_line (own_mark due)) w.own h.own (λ x k. solid_word_line (own_mark due) x (solid_own due)))
    (all_map IsWord IsLined (word_line (other_mark due)) w.other h.other (λ x k. solid_word_line (other_mark due) x (solid_other due))))
    (all_map IsGate IsLined gate_line w.gates h.gates (λ x k. solid_gate_line x)))
    (all_map IsWord IsLined (word_line (codes "m")) w.masks h.masks (λ x k. solid_word_line (codes "m") x refl))

lined_parts : (n : ℕ) (ps : List Part) → AllByRecursion HasValue (map (λ p. p.due) ps) → AllByRecursion IsPart ps → Lined (parts_lines n ps)
lined_parts n [] v h = tt
lined_parts n (p ∷ ps) v h =
    all_append IsLined (part_lines n p) (parts_lines (n + 1) ps) (solid_unit n p.due (counts_of p.words) v.0, lined_words p.due p.words h.0.words) (lined_parts (n + 1) ps v.1 h.1)

lines_unbroken : (lines : List Line) → Lined lines → list_all is_line (map spaced lines) ≡ true
lines_unbroken [] h = refl
lines_unbroken (l ∷ ls) h = both_true (is_line (spaced l)) _ (line_spaced l h.0) (lines_unbroken ls h.1)

pub view_unbroken : (v : ViewWords) → IsView v → list_all is_line (map spaced (view_lines v)) ≡ true
view_unbroken v h =
    let valued : AllByRecursion HasValue (map (λ (p : Part). p.due) v.units) = subst (AllByRecursion HasValue) (sym h.dues) (dues_valued v.party v.dirs h.dirs) in
    let segments : List Line = segment_lines 0 v.dirs in
    let parts : List Line = parts_lines (first_number v.party v.dirs) v.units in
    lines_unbroken (view_lines v) (
      solid_head v.party v.ticket,
      all_append IsLined (segments ++ parts) (end_line ∷ [])
          (all_append IsLined segments parts (lined_segments 0 v.dirs h.dirs) (lined_parts (first_number v.party v.dirs) v.units valued h.units)) (refl, tt),
    )
