-- What the lines so far are, at each state.
use Rattle.std.proofs.Common.{◌≡◌, ◌<◌, ◌≤◌, ◌^◌, ℕ, ◌+◌, Bool, true, false, cond, List, [], ◌∷◌, ◌++◌, map, length, Option, Some, None, refl, sym, ap, subst, ◌∙◌, append_assoc, arith, length-append}
use Rattle.std.specs.Prelude.{codes, nat_lt}
use Rattle.std.specs.Str.{bytes_eq}
use Rattle.std.specs.List.{AllByRecursion}
use Rattle.std.proofs.lemmas.Bool.{ltb-true, ltb-false}
use Rattle.std.proofs.lemmas.List.{append-nil, map-append}
use Rattle.pdn_base.specs.declared.value.Value.{Value}
use Rattle.pdn_base.specs.declared.site.Site.TheVariants.{A, B}
use Rattle.pdn_gmw.specs.declared.views.GateView.{GateView}
use Rattle.pdn_gmw.specs.Shares.{UnitWords}
use Rattle.pdn_site.specs.Models.{Dirs}
use Rattle.pdn_view.specs.declared.view.Party.{Party}
use Rattle.pdn_view.specs.declared.due.Due.{Due}
use Rattle.pdn_view.specs.declared.due.Due.TheVariants.{Plain, Secure, Root, Outputs}
use Rattle.pdn_view.specs.declared.due.Counts.{Counts}
use Rattle.pdn_view.specs.declared.machine.Lack.{Lack}
use Rattle.pdn_view.specs.declared.machine.Lack.TheVariants.{Own, Other, Gates, Masks, Nothing}
use Rattle.pdn_view.specs.declared.machine.State.{State}
use Rattle.pdn_view.specs.declared.machine.State.TheVariants.{Begin, Segments, Half, Words, Closed}
use Rattle.pdn_view.specs.Views.{Part, ViewWords, words_of, counts_of, dues_of, first_number, AreDirs, IsDirectory, IsWord, IsGate, AreWords, AreCounts, Fits, IsPart, IsView}
use Rattle.pdn_view.specs.Lines.{Line, spaced, head_line, segment_line, segment_lines, unit_line, word_line, gate_line, end_line, own_mark, other_mark, words_lines, part_lines, parts_lines, view_lines}
use Rattle.pdn_view.specs.Parts.{Opening, Body, Begun}
use Rattle.pdn_view.specs.Guesses.{word, head_in, segment_in, counts_in, word_in, gate_in}
use Rattle.pdn_view.specs.Machine.{opening, begins, with_dirs, body_of, view_of, kept, closed, begun, onto, opens, next_unit, word_of, gate_of, with_words, add_own, add_other, add_gate, add_mask, lack, lacking, half, whole, next, onward, runs}
use Rattle.pdn_view.proofs.Checks.{mapped_some, cond_some, checked_ok, same_bytes}
use Rattle.pdn_view.proofs.LineLaws.{segments_more, parts_more}
use Rattle.pdn_view.proofs.GuessLaws.{head_fits, segment_fits, unit_fits, gate_fits}
use Rattle.pdn_view.proofs.FieldLaws.{word_fits}

-- ---- lists of lines

pub one_more : (xs : List Line) (x : Line) (lines : List (List ℕ)) (line : List ℕ) → lines ≡ map spaced xs → spaced x ≡ line → lines ++ line ∷ [] ≡ map spaced (xs ++ x ∷ [])
one_more xs x lines line e is =
    ap (λ (ls : List (List ℕ)). ls ++ line ∷ []) e ∙ ap (λ (l : List ℕ). map spaced xs ++ l ∷ []) (sym is) ∙ sym (map-append spaced xs (x ∷ []))

-- ---- the words of a unit

pub own_more : (due : Due) (w : UnitWords) (x : ℕ) → w.other ≡ [] → w.gates ≡ [] → w.masks ≡ []
    → words_lines due (record { own = w.own ++ x ∷ []; other = w.other; gates = w.gates; masks = w.masks }) ≡ words_lines due w ++ word_line (own_mark due) x ∷ []
own_more due w x a b c = rw (a, b, c) (simp (map-append, append_assoc, append-nil))

pub other_more : (due : Due) (w : UnitWords) (x : ℕ) → w.gates ≡ [] → w.masks ≡ []
    → words_lines due (record { own = w.own; other = w.other ++ x ∷ []; gates = w.gates; masks = w.masks }) ≡ words_lines due w ++ word_line (other_mark due) x ∷ []
other_more due w x b c = rw (b, c) (simp (map-append, append_assoc, append-nil))

pub gate_more : (due : Due) (w : UnitWords) (x : GateView) → w.masks ≡ []
    → words_lines due (record { own = w.own; other = w.other; gates = w.gates ++ x ∷ []; masks = w.masks }) ≡ words_lines due w ++ gate_line x ∷ []
gate_more due w x c = rw c (simp (map-append, append_assoc, append-nil))

pub mask_more : (due : Due) (w : UnitWords) (x : ℕ)
    → words_lines due (record { own = w.own; other = w.other; gates = w.gates; masks = w.masks ++ x ∷ [] }) ≡ words_lines due w ++ word_line (codes "m") x ∷ []
mask_more due w x = simp (map-append, append_assoc)

-- as many as were said or fewer, and of a kind some only where those before it are all there
pub record Filling (c : Counts) (w : UnitWords) : Type 0 where
  pub own : length w.own ≤ c.own
  pub other : length w.other ≤ c.other
  pub gates : length w.gates ≤ c.ands
  pub masks : length w.masks ≤ c.masks
  pub first : length w.own < c.own → (w.other ≡ []) × (w.gates ≡ []) × (w.masks ≡ [])
  pub second : length w.other < c.other → (w.gates ≡ []) × (w.masks ≡ [])
  pub third : length w.gates < c.ands → w.masks ≡ []

abbrev pub LackIs : Lack → Bool → Bool → Bool → Bool → Type 0
LackIs Own a b c d = a ≡ true
LackIs Other a b c d = (a ≡ false) × (b ≡ true)
LackIs Gates a b c d = (a ≡ false) × (b ≡ false) × (c ≡ true)
LackIs Masks a b c d = (a ≡ false) × (b ≡ false) × (c ≡ false) × (d ≡ true)
LackIs Nothing a b c d = (a ≡ false) × (b ≡ false) × (c ≡ false) × (d ≡ false)

lack_cases : (a b c d : Bool) (l : Lack) → cond a Own (cond b Other (cond c Gates (cond d Masks Nothing))) ≡ l → LackIs l a b c d
lack_cases true b c d l e = subst (λ (x : Lack). LackIs x true b c d) e refl
lack_cases false true c d l e = subst (λ (x : Lack). LackIs x false true c d) e (refl, refl)
lack_cases false false true d l e = subst (λ (x : Lack). LackIs x false false true d) e (refl, refl, refl)
lack_cases false false false true l e = subst (λ (x : Lack). LackIs x false false false true) e (refl, refl, refl, refl)
lack_cases false false false false l e = subst (λ (x : Lack). LackIs x false false false false) e (refl, refl, refl, refl)

pub lack_is : (g : Begun) (l : Lack) → lack g ≡ l
    → LackIs l (nat_lt (length g.words.own) g.want.own) (nat_lt (length g.words.other) g.want.other) (nat_lt (length g.words.gates) g.want.ands) (nat_lt (length g.words.masks) g.want.masks)
lack_is g l e = lack_cases _ _ _ _ l e

-- ---- the states

abbrev pub opened_lines : Party → ℕ → List Dirs → List Line
opened_lines party ticket dirs = head_line party ticket ∷ segment_lines 0 dirs

pub record IsOpening (o : Opening) : Type 0 where
  pub ticket : o.ticket < 2 ^ 64
  pub dirs : AllByRecursion AreDirs o.dirs

abbrev pub units_lines : Body → List Line
units_lines b = opened_lines b.party b.ticket b.dirs ++ parts_lines (first_number b.party b.dirs) b.units

-- all units so far are whole
pub record IsBody (b : Body) (ls : List (List ℕ)) : Type 0 where
  pub ticket : b.ticket < 2 ^ 64
  pub dirs : AllByRecursion AreDirs b.dirs
  pub units : AllByRecursion IsPart b.units
  pub dues : map (λ p. p.due) b.units ++ b.todo ≡ dues_of b.party b.dirs
  pub number : b.number ≡ first_number b.party b.dirs + length b.units
  pub lines : ls ≡ map spaced (units_lines b)

-- a unit more is begun
pub record IsReading (b : Body) (g : Begun) (ls : List (List ℕ)) : Type 0 where
  pub ticket : b.ticket < 2 ^ 64
  pub dirs : AllByRecursion AreDirs b.dirs
  pub units : AllByRecursion IsPart b.units
  pub dues : map (λ p. p.due) b.units ++ g.due ∷ b.todo ≡ dues_of b.party b.dirs
  pub number : b.number ≡ first_number b.party b.dirs + length b.units + 1
  pub fits : Fits g.due g.want
  pub counts : AreCounts g.want
  pub filling : Filling g.want g.words
  pub words : AreWords g.words
  pub lines : ls ≡ map spaced (units_lines b ++ unit_line (first_number b.party b.dirs + length b.units) g.due g.want ∷ words_lines g.due g.words)

abbrev pub Holds : State → List (List ℕ) → Type 0
Holds Begin lines = lines ≡ []
Holds (Segments o) lines = IsOpening o × (lines ≡ map spaced (opened_lines o.party o.ticket o.dirs))
Holds (Half o a) lines = IsOpening o × IsDirectory a × (lines ≡ map spaced (opened_lines o.party o.ticket o.dirs ++ segment_line (length o.dirs) A a ∷ []))
Holds (Words b g) lines = IsReading b g lines
Holds (Closed v) lines = IsView v × (lines ≡ map spaced (view_lines v))

-- ---- the head and the segments

holds_begin : (line : List ℕ) (s : State) → begins line ≡ Some s → Holds s (line ∷ [])
holds_begin line s e =
    let m = mapped_some (λ (h : Party × ℕ). Segments (opening h)) _ s e in
    let c = checked_ok (λ (h : Party × ℕ). head_line h.0 h.1) line (head_in line) m.0 m.1 in
    subst (λ (t : State). Holds t (line ∷ [])) m.2
    (record { ticket = head_fits line m.0 c.0; dirs = tt }, ap (λ (l : List ℕ). l ∷ []) (sym c.1))

holds_half : (o : Opening) (lines : List (List ℕ)) (line : List ℕ) (s : State) → Holds (Segments o) lines → half o line ≡ Some s → Holds s (lines ++ line ∷ [])
holds_half o lines line s h e =
    let m = mapped_some (Half o) _ s e in
    let c = checked_ok (segment_line (length o.dirs) A) line (segment_in line) m.0 m.1 in
    subst (λ (t : State). Holds t (lines ++ line ∷ [])) m.2
    (h.0, segment_fits line m.0 c.0, one_more (opened_lines o.party o.ticket o.dirs) (segment_line (length o.dirs) A m.0) lines line h.1 c.1)

pub all_more : {X : Type 0} (P : X → Type 0) (xs : List X) (x : X) → AllByRecursion P xs → P x → AllByRecursion P (xs ++ x ∷ [])
all_more P [] x h k = (k, tt)
all_more P (y ∷ ys) x h k = (h.0, all_more P ys x h.1 k)

holds_whole : (o : Opening) (a : List Value) (lines : List (List ℕ)) (line : List ℕ) (s : State) → Holds (Half o a) lines → whole o a line ≡ Some s → Holds s (lines ++ line ∷ [])
holds_whole o a lines line s h e =
    let m = mapped_some (λ (b : List Value). Segments (with_dirs o a b)) _ s e in
    let c = checked_ok (segment_line (length o.dirs) B) line (segment_in line) m.0 m.1 in
    let opened : List Line = opened_lines o.party o.ticket o.dirs in
    let more : lines ++ line ∷ [] ≡ map spaced ((opened ++ segment_line (length o.dirs) A a ∷ []) ++ segment_line (length o.dirs) B m.0 ∷ []) =
    one_more (opened ++ segment_line (length o.dirs) A a ∷ []) (segment_line (length o.dirs) B m.0) lines line h.2 c.1 in
    let zero_more : length o.dirs ≡ 0 + length o.dirs = omega arith in
    let both : opened ++ segment_line (length o.dirs) A a ∷ segment_line (length o.dirs) B m.0 ∷ [] ≡ opened_lines o.party o.ticket (o.dirs ++ record { a = a; b = m.0 } ∷ []) =
    ap (λ (n : ℕ). opened ++ segment_line n A a ∷ segment_line n B m.0 ∷ []) zero_more
    ∙ ap (λ (ls : List Line). head_line o.party o.ticket ∷ ls) (sym (segments_more 0 o.dirs (record { a = a; b = m.0 }))) in
    subst (λ (t : State). Holds t (lines ++ line ∷ [])) m.2 (
      record { ticket = h.0.ticket; dirs = all_more AreDirs o.dirs (record { a = a; b = m.0 }) h.0.dirs (record { a = h.1; b = segment_fits line m.0 c.0 }) },
      more ∙ ap (map spaced) (append_assoc opened (segment_line (length o.dirs) A a ∷ []) (segment_line (length o.dirs) B m.0 ∷ []) ∙ both),
    )

-- ---- units

pub body_begins : (o : Opening) (lines : List (List ℕ)) → Holds (Segments o) lines → IsBody (body_of o) lines
body_begins o lines h =
    let zero_more : first_number o.party o.dirs ≡ first_number o.party o.dirs + 0 = omega arith in
    record {
      ticket = h.0.ticket;
      dirs = h.0.dirs;
      units = tt;
      dues = refl;
      number = zero_more;
      lines = h.1 ∙ ap (map spaced) (sym (append-nil (opened_lines o.party o.ticket o.dirs)));
    }

all_none : {X : Type 0} (xs : List X) → length xs ≤ 0 → xs ≡ []
all_none [] h = refl
all_none (x ∷ xs) h = absurd (omega arith)

nothing_filled : (c : Counts) → Filling c (words_of [] [])
nothing_filled c = record {
  own = omega arith;
  other = omega arith;
  gates = omega arith;
  masks = omega arith;
  first = λ _. (refl, refl, refl);
  second = λ _. (refl, refl);
  third = λ _. refl;
}

no_words : AreWords (words_of [] [])
no_words = record { own = tt; other = tt; gates = tt; masks = tt }

-- a view whose last line is read
holds_end : (b : Body) (lines : List (List ℕ)) (line : List ℕ) (s : State) → IsBody b lines → b.todo ≡ [] → opens b [] line ≡ Some s → Holds s (lines ++ line ∷ [])
holds_end b lines line s h none e =
    let c = cond_some (bytes_eq (spaced end_line) line) (Some (Closed (view_of b))) s e in
    let is : Closed (view_of b) ≡ s = cc (c.1) in
    let dues : map (λ (p : Part). p.due) b.units ≡ dues_of b.party b.dirs =
    sym (append-nil (map (λ (p : Part). p.due) b.units)) ∙ ap (λ (ds : List Due). map (λ (p : Part). p.due) b.units ++ ds) (sym none) ∙ h.dues in
    subst (λ (t : State). Holds t (lines ++ line ∷ [])) is (
      record { ticket = h.ticket; dirs = h.dirs; units = h.units; dues = dues },
      one_more (units_lines b) end_line lines line h.lines (same_bytes (spaced end_line) line c.0),
    )

holds_open : (b : Body) (due : Due) (todo : List Due) (lines : List (List ℕ)) (line : List ℕ) (s : State) → IsBody b lines → b.todo ≡ due ∷ todo → opens b (due ∷ todo) line ≡ Some s → Holds s (lines ++ line ∷ [])
holds_open b due todo lines line s h is e =
    let m = mapped_some (λ (want : Counts). Words (onto b todo) (begun due want)) _ s e in
    let c = checked_ok (unit_line b.number due) line (counts_in due line) m.0 m.1 in
    let f = unit_fits due line m.0 c.0 in
    let said : spaced (unit_line (first_number b.party b.dirs + length b.units) due m.0) ≡ line = ap (λ (n : ℕ). spaced (unit_line n due m.0)) (sym h.number) ∙ c.1 in
    subst (λ (t : State). Holds t (lines ++ line ∷ [])) m.2 (record {
      ticket = h.ticket;
      dirs = h.dirs;
      units = h.units;
      dues = ap (λ (ds : List Due). map (λ (p : Part). p.due) b.units ++ ds) (sym is) ∙ h.dues;
      number = ap (λ (n : ℕ). n + 1) h.number;
      fits = f.0;
      counts = f.1;
      filling = nothing_filled m.0;
      words = no_words;
      lines = one_more (units_lines b) (unit_line (first_number b.party b.dirs + length b.units) due m.0) lines line h.lines said;
    })

holds_unit_at : (b : Body) (todo : List Due) (lines : List (List ℕ)) (line : List ℕ) (s : State) → b.todo ≡ todo → IsBody b lines → opens b todo line ≡ Some s → Holds s (lines ++ line ∷ [])
holds_unit_at b [] lines line s is h e = holds_end b lines line s h is e
holds_unit_at b (due ∷ todo) lines line s is h e = holds_open b due todo lines line s h is e

holds_unit : (b : Body) (lines : List (List ℕ)) (line : List ℕ) (s : State) → IsBody b lines → next_unit b line ≡ Some s → Holds s (lines ++ line ∷ [])
holds_unit b lines line s h e = holds_unit_at b b.todo lines line s refl h e

-- ---- a unit whose words are all there

-- its counts are those that its line says
full : (c : Counts) (w : UnitWords) → Filling c w → c.own ≤ length w.own → c.other ≤ length w.other → c.ands ≤ length w.gates → c.masks ≤ length w.masks → counts_of w ≡ c
full c w f a b d e =
    let own : length w.own ≡ c.own = omega (arith, f.own) in
    let other : length w.other ≡ c.other = omega (arith, f.other) in
    let ands : length w.gates ≡ c.ands = omega (arith, f.gates) in
    let masks : length w.masks ≡ c.masks = omega (arith, f.masks) in
    rw (own, other, ands, masks) refl

pub kept_same : (due : Due) (w : UnitWords) → Fits due (counts_of w) → kept due w ≡ w
kept_same (Plain site v) w fits =
    let own = all_none w.own (omega (arith, ap (λ (c : Counts). c.own) fits)) in
    let other = all_none w.other (omega (arith, ap (λ (c : Counts). c.other) fits)) in
    let gates = all_none w.gates (omega (arith, ap (λ (c : Counts). c.ands) fits)) in
    let masks = all_none w.masks (omega (arith, ap (λ (c : Counts). c.masks) fits)) in
    sym (rw (own, other, gates, masks) refl)
kept_same (Secure v) w fits = refl
kept_same Root w fits = refl
kept_same Outputs w fits =
    let gates = all_none w.gates (omega (arith, ap (λ (c : Counts). c.ands) fits)) in
    let masks = all_none w.masks (omega (arith, ap (λ (c : Counts). c.masks) fits)) in
    sym (rw (gates, masks) refl)

pub unit_closes : (b : Body) (g : Begun) (lines : List (List ℕ)) → IsReading b g lines → counts_of g.words ≡ g.want → IsBody (closed b g) lines
unit_closes b g lines h all =
    let fits : Fits g.due (counts_of g.words) = subst (Fits g.due) (sym all) h.fits in
    let same : kept g.due g.words ≡ g.words = kept_same g.due g.words fits in
    let p : Part = record { due = g.due; words = kept g.due g.words } in
    let is : p ≡ record { due = g.due; words = g.words } = ap (λ (w : UnitWords). record { due = g.due; words = w }) same in
    let part : IsPart p = subst IsPart (sym is) (record { fits = fits; counts = subst AreCounts (sym all) h.counts; words = h.words }) in
    let first : ℕ = first_number b.party b.dirs in
    let opened : List Line = opened_lines b.party b.ticket b.dirs in
    let here : unit_line (first + length b.units) g.due g.want ∷ words_lines g.due g.words ≡ part_lines (first + length b.units) p =
    ap (λ (c : Counts). unit_line (first + length b.units) g.due c ∷ words_lines g.due g.words) (sym all) ∙ ap (part_lines (first + length b.units)) (sym is) in
    let len : length (b.units ++ p ∷ []) ≡ length b.units + 1 = length-append b.units (p ∷ []) in
    let dues : map (λ (q : Part). q.due) (b.units ++ p ∷ []) ++ b.todo ≡ dues_of b.party b.dirs =
    ap (λ (ds : List Due). ds ++ b.todo) (map-append (λ (q : Part). q.due) b.units (p ∷ []))
    ∙ append_assoc (map (λ (q : Part). q.due) b.units) (g.due ∷ []) b.todo ∙ h.dues in
    record {
      ticket = h.ticket;
      dirs = h.dirs;
      units = all_more IsPart b.units p h.units part;
      dues = dues;
      number = omega (arith, h.number, len);
      lines = h.lines ∙ ap (map spaced) (append_assoc opened (parts_lines first b.units) (unit_line (first + length b.units) g.due g.want ∷ words_lines g.due g.words)
          ∙ ap (λ (ls : List Line). opened ++ (parts_lines first b.units ++ ls)) here
          ∙ ap (λ (ls : List Line). opened ++ ls) (sym (parts_more first b.units p)));
    }

-- ---- one word more

-- what was read of a word's line
abbrev pub word_said : (mark line : List ℕ) (w : ℕ) → Type 0
word_said mark line w = IsWord w × (spaced (word_line mark w) ≡ line)

word_read : (mark line : List ℕ) (w : ℕ) → word_of mark line ≡ Some w → word_said mark line w
word_read mark line w e =
    let c = checked_ok (word_line mark) line (word_in (word line 1)) w e in
    (word_fits (word line 1) w c.0, c.1)

gate_read : (line : List ℕ) (x : GateView) → gate_of line ≡ Some x → IsGate x × (spaced (gate_line x) ≡ line)
gate_read line x e =
    let c = checked_ok gate_line line (gate_in line) x e in
    (gate_fits line x c.0, c.1)

abbrev pub unit_lines_so_far : Body → Begun → List Line
unit_lines_so_far b g = units_lines b ++ unit_line (first_number b.party b.dirs + length b.units) g.due g.want ∷ words_lines g.due g.words

-- the lines with one more, where it is the unit's next one
word_lines : (b : Body) (g : Begun) (words : UnitWords) (x : Line) (lines : List (List ℕ)) (line : List ℕ) → lines ≡ map spaced (unit_lines_so_far b g)
    → words_lines g.due words ≡ words_lines g.due g.words ++ x ∷ [] → spaced x ≡ line → lines ++ line ∷ [] ≡ map spaced (unit_lines_so_far b (with_words g words))
word_lines b g words x lines line e more is =
    one_more (unit_lines_so_far b g) x lines line e is
    ∙ ap (map spaced) (append_assoc (units_lines b) (unit_line (first_number b.party b.dirs + length b.units) g.due g.want ∷ words_lines g.due g.words) (x ∷ [])
    ∙ ap (λ (ls : List Line). units_lines b ++ unit_line (first_number b.party b.dirs + length b.units) g.due g.want ∷ ls) (sym more))

holds_own : (b : Body) (g : Begun) (w : ℕ) (lines : List (List ℕ)) (line : List ℕ) → IsReading b g lines → length g.words.own < g.want.own → word_said (own_mark g.due) line w → IsReading b (add_own g w) (lines ++ line ∷ [])
holds_own b g w lines line h short said =
    let rest = h.filling.first short in
    let long : length (g.words.own ++ w ∷ []) ≡ length g.words.own + 1 = length-append g.words.own (w ∷ []) in
    record {
      ticket = h.ticket;
      dirs = h.dirs;
      units = h.units;
      dues = h.dues;
      number = h.number;
      fits = h.fits;
      counts = h.counts;
      filling = record {
        own = omega (arith, long);
        other = h.filling.other;
        gates = h.filling.gates;
        masks = h.filling.masks;
        first = λ _. rest;
        second = λ _. (rest.1, rest.2);
        third = λ _. rest.2;
      };
      words = record { own = all_more IsWord g.words.own w h.words.own said.0; other = h.words.other; gates = h.words.gates; masks = h.words.masks };
      lines = word_lines b g _ (word_line (own_mark g.due) w) lines line h.lines (own_more g.due g.words w rest.0 rest.1 rest.2) said.1;
    }

holds_other : (b : Body) (g : Begun) (w : ℕ) (lines : List (List ℕ)) (line : List ℕ) → IsReading b g lines → g.want.own ≤ length g.words.own → length g.words.other < g.want.other → word_said (other_mark g.due) line w → IsReading b (add_other g w) (lines ++ line ∷ [])
holds_other b g w lines line h own short said =
    let rest = h.filling.second short in
    let long : length (g.words.other ++ w ∷ []) ≡ length g.words.other + 1 = length-append g.words.other (w ∷ []) in
    record {
      ticket = h.ticket;
      dirs = h.dirs;
      units = h.units;
      dues = h.dues;
      number = h.number;
      fits = h.fits;
      counts = h.counts;
      filling = record {
        own = h.filling.own;
        other = omega (arith, long);
        gates = h.filling.gates;
        masks = h.filling.masks;
        first = λ lt. absurd (omega (arith, own, lt));
        second = λ _. rest;
        third = λ _. rest.1;
      };
      words = record { own = h.words.own; other = all_more IsWord g.words.other w h.words.other said.0; gates = h.words.gates; masks = h.words.masks };
      lines = word_lines b g _ (word_line (other_mark g.due) w) lines line h.lines (other_more g.due g.words w rest.0 rest.1) said.1;
    }

holds_gate : (b : Body) (g : Begun) (x : GateView) (lines : List (List ℕ)) (line : List ℕ) → IsReading b g lines → g.want.own ≤ length g.words.own → g.want.other ≤ length g.words.other → length g.words.gates < g.want.ands
    → IsGate x → spaced (gate_line x) ≡ line → IsReading b (add_gate g x) (lines ++ line ∷ [])
holds_gate b g x lines line h own other short fits said =
    let none = h.filling.third short in
    let long : length (g.words.gates ++ x ∷ []) ≡ length g.words.gates + 1 = length-append g.words.gates (x ∷ []) in
    record {
      ticket = h.ticket;
      dirs = h.dirs;
      units = h.units;
      dues = h.dues;
      number = h.number;
      fits = h.fits;
      counts = h.counts;
      filling = record {
        own = h.filling.own;
        other = h.filling.other;
        gates = omega (arith, long);
        masks = h.filling.masks;
        first = λ lt. absurd (omega (arith, own, lt));
        second = λ lt. absurd (omega (arith, other, lt));
        third = λ _. none;
      };
      words = record { own = h.words.own; other = h.words.other; gates = all_more IsGate g.words.gates x h.words.gates fits; masks = h.words.masks };
      lines = word_lines b g _ (gate_line x) lines line h.lines (gate_more g.due g.words x none) said;
    }

holds_mask : (b : Body) (g : Begun) (w : ℕ) (lines : List (List ℕ)) (line : List ℕ) → IsReading b g lines → g.want.own ≤ length g.words.own → g.want.other ≤ length g.words.other → g.want.ands ≤ length g.words.gates → length g.words.masks < g.want.masks
    → word_said (codes "m") line w → IsReading b (add_mask g w) (lines ++ line ∷ [])
holds_mask b g w lines line h own other ands short said =
    let long : length (g.words.masks ++ w ∷ []) ≡ length g.words.masks + 1 = length-append g.words.masks (w ∷ []) in
    record {
      ticket = h.ticket;
      dirs = h.dirs;
      units = h.units;
      dues = h.dues;
      number = h.number;
      fits = h.fits;
      counts = h.counts;
      filling = record {
        own = h.filling.own;
        other = h.filling.other;
        gates = h.filling.gates;
        masks = omega (arith, long);
        first = λ lt. absurd (omega (arith, own, lt));
        second = λ lt. absurd (omega (arith, other, lt));
        third = λ lt. absurd (omega (arith, ands, lt));
      };
      words = record { own = h.words.own; other = h.words.other; gates = h.words.gates; masks = all_more IsWord g.words.masks w h.words.masks said.0 };
      lines = word_lines b g _ (word_line (codes "m") w) lines line h.lines (mask_more g.due g.words w) said.1;
    }

-- ---- a step

holds_word_at : (l : Lack) (b : Body) (g : Begun) (lines : List (List ℕ)) (line : List ℕ) (s : State) → lack g ≡ l → IsReading b g lines → lacking l b g line ≡ Some s → Holds s (lines ++ line ∷ [])
holds_word_at Own b g lines line s is h e =
    let l = lack_is g Own is in
    let m = mapped_some (Words b) _ s e in
    let n = mapped_some (add_own g) (word_of (own_mark g.due) line) m.0 m.1 in
    subst (λ (t : State). Holds t (lines ++ line ∷ [])) m.2 (subst (λ (x : Begun). IsReading b x (lines ++ line ∷ [])) n.2
    (holds_own b g n.0 lines line h (ltb-true _ _ l) (word_read (own_mark g.due) line n.0 n.1)))
holds_word_at Other b g lines line s is h e =
    let l = lack_is g Other is in
    let m = mapped_some (Words b) _ s e in
    let n = mapped_some (add_other g) (word_of (other_mark g.due) line) m.0 m.1 in
    subst (λ (t : State). Holds t (lines ++ line ∷ [])) m.2 (subst (λ (x : Begun). IsReading b x (lines ++ line ∷ [])) n.2
    (holds_other b g n.0 lines line h (ltb-false _ _ l.0) (ltb-true _ _ l.1) (word_read (other_mark g.due) line n.0 n.1)))
holds_word_at Gates b g lines line s is h e =
    let l = lack_is g Gates is in
    let m = mapped_some (Words b) _ s e in
    let n = mapped_some (add_gate g) (gate_of line) m.0 m.1 in
    let x = gate_read line n.0 n.1 in
    subst (λ (t : State). Holds t (lines ++ line ∷ [])) m.2 (subst (λ (y : Begun). IsReading b y (lines ++ line ∷ [])) n.2
    (holds_gate b g n.0 lines line h (ltb-false _ _ l.0) (ltb-false _ _ l.1) (ltb-true _ _ l.2) x.0 x.1))
holds_word_at Masks b g lines line s is h e =
    let l = lack_is g Masks is in
    let m = mapped_some (Words b) _ s e in
    let n = mapped_some (add_mask g) (word_of (codes "m") line) m.0 m.1 in
    subst (λ (t : State). Holds t (lines ++ line ∷ [])) m.2 (subst (λ (x : Begun). IsReading b x (lines ++ line ∷ [])) n.2
    (holds_mask b g n.0 lines line h (ltb-false _ _ l.0) (ltb-false _ _ l.1) (ltb-false _ _ l.2) (ltb-true _ _ l.3) (word_read (codes "m") line n.0 n.1)))
holds_word_at Nothing b g lines line s is h e =
    let l = lack_is g Nothing is in
    let all = full g.want g.words h.filling (ltb-false _ _ l.0) (ltb-false _ _ l.1) (ltb-false _ _ l.2) (ltb-false _ _ l.3) in
    holds_unit (closed b g) lines line s (unit_closes b g lines h all) e

holds_opening : (o : Opening) (lines : List (List ℕ)) (line : List ℕ) (s : State) (b : Bool) → Holds (Segments o) lines → cond b (half o line) (next_unit (body_of o) line) ≡ Some s → Holds s (lines ++ line ∷ [])
holds_opening o lines line s true h e = holds_half o lines line s h e
holds_opening o lines line s false h e = holds_unit (body_of o) lines line s (body_begins o lines h) e

pub holds_next : (s : State) (lines : List (List ℕ)) (line : List ℕ) (t : State) → Holds s lines → next s line ≡ Some t → Holds t (lines ++ line ∷ [])
holds_next Begin lines line t h e = subst (λ (ls : List (List ℕ)). Holds t (ls ++ line ∷ [])) (sym h) (holds_begin line t e)
holds_next (Segments o) lines line t h e = holds_opening o lines line t (bytes_eq (word line 0) (codes "segment")) h e
holds_next (Half o a) lines line t h e = holds_whole o a lines line t h e
holds_next (Words b g) lines line t h e = holds_word_at (lack g) b g lines line t refl h e
holds_next (Closed v) lines line t h e = absurd cc

-- ---- any lines

pub onward_some : (s : Option State) (f : State → Option State) (t : State) → onward s f ≡ Some t → (r : State) × (s ≡ Some r) × (f r ≡ Some t)
onward_some None f t e = absurd cc
onward_some (Some r) f t e = (r, refl, e)

pub holds_run : (s : State) (lines more : List (List ℕ)) (t : State) → Holds s lines → runs s more ≡ Some t → Holds t (lines ++ more)
holds_run s lines [] t h e =
    let is : s ≡ t = cc e in
    subst (Holds t) (sym (append-nil lines)) (subst (λ (r : State). Holds r lines) is h)
holds_run s lines (line ∷ more) t h e =
    let o = onward_some (next s line) (λ r. runs r more) t e in
    subst (Holds t) (append_assoc lines (line ∷ []) more) (holds_run o.0 (lines ++ line ∷ []) more t (holds_next s lines line o.0 h o.1) o.2)

-- what is read to its end is a view, and the lines are its lines
pub read_lines_say : (lines : List (List ℕ)) (v : ViewWords) → runs Begin lines ≡ Some (Closed v) → IsView v × (lines ≡ map spaced (view_lines v))
read_lines_say lines v e = holds_run Begin [] lines (Closed v) refl e
