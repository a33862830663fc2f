-- From every state that lines lead to, some lines lead to a view.
use Rattle.std.proofs.Common.{◌≡◌, ◌≤◌, ℕ, zero, suc, ◌+◌, ◌-◌, List, [], ◌∷◌, ◌++◌, map, length, replicate, Some, refl, sym, ap, subst, arith, length-append}
use Rattle.std.specs.List.{AllByRecursion}
use Rattle.std.proofs.lemmas.List.{length-replicate}
use Rattle.pdn_base.specs.declared.value.Value.{Value}
use Rattle.pdn_base.specs.declared.site.Site.TheVariants.{B}
use Rattle.pdn_gmw.specs.declared.views.GateView.{GateView}
use Rattle.pdn_view.specs.declared.view.Party.TheVariants as parties
use Rattle.pdn_view.specs.declared.due.Due.{Due}
use Rattle.pdn_view.specs.declared.due.Due.TheVariants.{Plain, Secure, Root, Outputs}
use Rattle.pdn_view.specs.declared.machine.Lack.TheVariants.{Nothing}
use Rattle.pdn_view.specs.declared.machine.State.{State}
use Rattle.pdn_view.specs.declared.machine.State.TheVariants.{Begin, Segments, Half, Words, Closed}
use Rattle.pdn_view.specs.Views.{Part, ViewWords, words_of, AreDirs, IsWord, IsGate, IsPart}
use Rattle.pdn_view.specs.Lines.{spaced, head_line, segment_line, word_line, gate_line, end_line, own_mark, other_mark, parts_lines}
use Rattle.pdn_view.specs.Parts.{Opening, Body, Begun}
use Rattle.pdn_view.specs.Machine.{opening, with_dirs, body_of, view_of, closed, lack, runs}
use Rattle.pdn_view.proofs.GuessLaws.{HasValue}
use Rattle.pdn_view.proofs.Holding.{all_more, Holds, IsReading}
use Rattle.pdn_view.proofs.Leading.{runs_on, runs_first, head_leads, whole_leads, owns_lead, others_lead, gates_lead, masks_lead, with_owns, with_others, with_gates, with_masks, lacks_nothing, Between, between_segments, between_units, Ended, parts_lead, units_view, ends_lead, dues_valued}
use Rattle.std.specs.Prelude.{codes}

pub record Way (s : State) : Type 0 where
  pub path : List (List ℕ)
  pub view : ViewWords
  pub leads : runs s path ≡ Some (Closed view)

-- ---- units without words

zero_part : Due → Part
zero_part due = record { due = due; words = words_of [] [] }

zero_dues : (dues : List Due) → map (λ p. p.due) (map zero_part dues) ≡ dues
unfolding zero_part
zero_dues [] = refl
zero_dues (d ∷ ds) = ap (λ (xs : List Due). d ∷ xs) (zero_dues ds)

zero_is : (due : Due) → IsPart (zero_part due)
unfolding zero_part
zero_is (Plain site v) = record { fits = refl; counts = record { own = omega arith; other = omega arith; ands = omega arith; masks = omega arith }; words = record { own = tt; other = tt; gates = tt; masks = tt } }
zero_is (Secure v) = record { fits = refl; counts = record { own = omega arith; other = omega arith; ands = omega arith; masks = omega arith }; words = record { own = tt; other = tt; gates = tt; masks = tt } }
zero_is Root = record { fits = tt; counts = record { own = omega arith; other = omega arith; ands = omega arith; masks = omega arith }; words = record { own = tt; other = tt; gates = tt; masks = tt } }
zero_is Outputs = record { fits = refl; counts = record { own = omega arith; other = omega arith; ands = omega arith; masks = omega arith }; words = record { own = tt; other = tt; gates = tt; masks = tt } }

zero_are : (dues : List Due) → AllByRecursion IsPart (map zero_part dues)
zero_are [] = tt
zero_are (d ∷ ds) = (zero_is d, zero_are ds)

units_way : (s : State) (b : Body) → Between s b → AllByRecursion HasValue b.todo → Way s
units_way s b on h =
    let ps : List Part = map zero_part b.todo in
    let e : Ended s (map spaced (parts_lines b.number ps)) (units_view b ps) =
    parts_lead ps s b on (sym (zero_dues b.todo)) (subst (AllByRecursion HasValue) (sym (zero_dues b.todo)) h) (zero_are b.todo) in
    record {
      path = map spaced (parts_lines b.number ps) ++ spaced end_line ∷ [];
      view = view_of e.body;
      leads = runs_on s e.state _ _ _ e.leads (runs_first e.state (Closed (view_of e.body)) _ (spaced end_line) [] (ends_lead e.state e.body e.on e.none) refl);
    }

opening_way : (o : Opening) → AllByRecursion AreDirs o.dirs → Way (Segments o)
opening_way o h = units_way (Segments o) (body_of o) (between_segments o) (dues_valued o.party o.dirs h)

-- ---- words that are lacking, all zero

zero_words : (n : ℕ) → AllByRecursion IsWord (replicate n 0)
zero_words zero = tt
zero_words (suc n) = (omega arith, zero_words n)

zero_gate : GateView
zero_gate = record { a = 0; b = 0; c = 0; d = 0; e = 0 }

zero_gate_is : IsGate zero_gate
unfolding zero_gate
zero_gate_is = record { a = omega arith; b = omega arith; c = omega arith; d = omega arith; e = omega arith }

zero_gates : (n : ℕ) → AllByRecursion IsGate (replicate n zero_gate)
zero_gates zero = tt
zero_gates (suc n) = (zero_gate_is, zero_gates n)

filled : {X : Type 0} (xs : List X) (x : X) (n : ℕ) → length xs ≤ n → length (xs ++ replicate (n - length xs) x) ≡ n
filled xs x n h = omega (arith, length-append xs (replicate (n - length xs) x), length-replicate (n - length xs) x)

room : {X : Type 0} (xs : List X) (x : X) (n : ℕ) → length xs ≤ n → length xs + length (replicate (n - length xs) x) ≤ n
room xs x n h = omega (arith, length-replicate (n - length xs) x)

all_behind : {X : Type 0} (P : X → Type 0) (xs : List X) (y : X) (ys : List X) → AllByRecursion P (xs ++ y ∷ ys) → AllByRecursion P ys
all_behind P [] y ys h = h.1
all_behind P (x ∷ xs) y ys h = all_behind P xs y ys h.1

words_way : (b : Body) (g : Begun) (lines : List (List ℕ)) → IsReading b g lines → Way (Words b g)
words_way b g lines h =
    let owns : List ℕ = replicate (g.want.own - length g.words.own) 0 in
    let others : List ℕ = replicate (g.want.other - length g.words.other) 0 in
    let gates : List GateView = replicate (g.want.ands - length g.words.gates) zero_gate in
    let masks : List ℕ = replicate (g.want.masks - length g.words.masks) 0 in
    let g1 : Begun = with_owns g owns in
    let g2 : Begun = with_others g1 others in
    let g3 : Begun = with_gates g2 gates in
    let g4 : Begun = with_masks g3 masks in
    let own_full : length (g.words.own ++ owns) ≡ g.want.own = filled g.words.own 0 g.want.own h.filling.own in
    let other_full : length (g.words.other ++ others) ≡ g.want.other = filled g.words.other 0 g.want.other h.filling.other in
    let gates_full : length (g.words.gates ++ gates) ≡ g.want.ands = filled g.words.gates zero_gate g.want.ands h.filling.gates in
    let masks_full : length (g.words.masks ++ masks) ≡ g.want.masks = filled g.words.masks 0 g.want.masks h.filling.masks in
    let a = owns_lead b g owns (room g.words.own 0 g.want.own h.filling.own) (zero_words _) in
    let c = others_lead b g1 others (omega (arith, own_full)) (room g.words.other 0 g.want.other h.filling.other) (zero_words _) in
    let d = gates_lead b g2 gates (omega (arith, own_full)) (omega (arith, other_full)) (room g.words.gates zero_gate g.want.ands h.filling.gates) (zero_gates _) in
    let e = masks_lead b g3 masks (omega (arith, own_full)) (omega (arith, other_full)) (omega (arith, gates_full)) (room g.words.masks 0 g.want.masks h.filling.masks) (zero_words _) in
    let full : lack g4 ≡ Nothing = lacks_nothing g4 (omega (arith, own_full)) (omega (arith, other_full)) (omega (arith, gates_full)) (omega (arith, masks_full)) in
    let valued : AllByRecursion HasValue b.todo = all_behind HasValue (map (λ (p : Part). p.due) b.units) g.due b.todo (subst (AllByRecursion HasValue) (sym h.dues) (dues_valued b.party b.dirs h.dirs)) in
    let w : Way (Words b g4) = units_way (Words b g4) (closed b g4) (between_units b g4 full) valued in
    let p1 : List (List ℕ) = map spaced (map (word_line (own_mark g.due)) owns) in
    let p2 : List (List ℕ) = map spaced (map (word_line (other_mark g.due)) others) in
    let p3 : List (List ℕ) = map spaced (map gate_line gates) in
    let p4 : List (List ℕ) = map spaced (map (word_line (codes "m")) masks) in
    let over : State = Closed w.view in
    record {
      path = p1 ++ (p2 ++ (p3 ++ (p4 ++ w.path)));
      view = w.view;
      leads = runs_on (Words b g) (Words b g1) over p1 (p2 ++ (p3 ++ (p4 ++ w.path))) a
          (runs_on (Words b g1) (Words b g2) over p2 (p3 ++ (p4 ++ w.path)) c
          (runs_on (Words b g2) (Words b g3) over p3 (p4 ++ w.path) d (runs_on (Words b g3) (Words b g4) over p4 w.path e w.leads)));
    }

-- ---- from every state

half_way : (o : Opening) (a : List Value) (lines : List (List ℕ)) → Holds (Half o a) lines → Way (Half o a)
half_way o a lines h =
    let after : Opening = with_dirs o a [] in
    let w : Way (Segments after) = opening_way after (all_more AreDirs o.dirs (record { a = a; b = [] }) h.0.dirs (record { a = h.1; b = record { order = refl; values = tt } })) in
    record {
      path = spaced (segment_line (length o.dirs) B []) ∷ w.path;
      view = w.view;
      leads = runs_first (Half o a) (Segments after) (Closed w.view) (spaced (segment_line (length o.dirs) B [])) w.path (whole_leads o a [] (record { order = refl; values = tt })) w.leads;
    }

begin_way : Way Begin
begin_way =
    let o : Opening = opening (parties.A, 0) in
    let w : Way (Segments o) = opening_way o tt in
    record {
      path = spaced (head_line parties.A 0) ∷ w.path;
      view = w.view;
      leads = runs_first Begin (Segments o) (Closed w.view) (spaced (head_line parties.A 0)) w.path (head_leads parties.A 0 (omega arith)) w.leads;
    }

pub way : (s : State) (lines : List (List ℕ)) → Holds s lines → Way s
way Begin lines h = begin_way
way (Segments o) lines h = opening_way o h.0.dirs
way (Half o a) lines h = half_way o a lines h
way (Words b g) lines h = words_way b g lines h
way (Closed v) lines h = record { path = []; view = v; leads = refl }
