-- What reading a text answers.
use Rattle.std.proofs.Common.{◌≡◌, ◌<◌, ◌≤◌, ℕ, ◌+◌, ◌-◌, true, false, eqb, List, [], ◌∷◌, ◌++◌, map, length, Some, None, Result, Ok, Err, refl, sym, ap, subst, ◌∙◌, append_assoc, arith, length-append}
use Rattle.std.specs.Prelude.{not, IfOk, IfErr}
use Rattle.std.specs.List.{list_all, slice_split}
use Rattle.std.proofs.lemmas.Bool.{false≢true}
use Rattle.std.proofs.lemmas.List.{append-nil}
use Rattle.std.proofs.lemmas.List.Concat.{flat_map-cons}
use Rattle.std.proofs.lemmas.List.Folds.{flat_map-map, list_all-append}
use Rattle.std.proofs.lemmas.List.Splits.{length-slice_split}
use Rattle.std.proofs.lemmas.Grind.{flat_map-append}
use Rattle.pdn_view.specs.declared.view_err.ViewErr.{ViewErr}
use Rattle.pdn_view.specs.declared.view_err.ViewErr.TheVariants.{At, Memory}
use Rattle.pdn_view.specs.declared.machine.State.{State}
use Rattle.pdn_view.specs.declared.machine.State.TheVariants.{Begin, Closed}
use Rattle.pdn_view.specs.Views.{ViewWords, IsView}
use Rattle.pdn_view.specs.Lines.{spaced, view_lines, view_text}
use Rattle.pdn_view.specs.Machine.{next, onward, runs}
use Rattle.pdn_view.specs.Cuts.{without, IsCut}
use Rattle.pdn_view.specs.Faults.{ended, ended_lines, is_line, IsFirstFault, IsFault, Gives, Finishes}
use Rattle.pdn_view.proofs.Checks.{and_true, both_true}
use Rattle.pdn_view.proofs.Splits.{split_at, split_none, split_lines}
use Rattle.pdn_view.proofs.Holding.{Holds, holds_run, onward_some, read_lines_say}
use Rattle.pdn_view.proofs.Leading.{runs_append, runs_on, runs_first, view_leads, view_unbroken}
use Rattle.pdn_view.proofs.Ways.{Way, way}

-- where the reading of a text stands: after whole lines
pub record Read (bytes : List ℕ) (state : State) (rest : List ℕ) (number : ℕ) : Type 0 where
  pub front : List (List ℕ)
  pub lines : list_all is_line front ≡ true
  pub parts : bytes ≡ ended_lines front ++ rest
  pub leads : runs Begin front ≡ Some state
  pub counted : number ≡ length front + 1

pub read_begin : (bytes : List ℕ) → Read bytes Begin bytes 1
read_begin bytes = record { front = []; lines = refl; parts = refl; leads = refl; counted = refl }

-- ---- texts and lines

ended_more : (xs ys : List (List ℕ)) → ended_lines (xs ++ ys) ≡ ended_lines xs ++ ended_lines ys
ended_more xs ys = flat_map-append ended xs ys

one_ended : (line : List ℕ) → ended_lines (line ∷ []) ≡ ended line
one_ended line = flat_map-cons ended line [] ∙ append-nil (ended line)

-- one line more
front_more : (front : List (List ℕ)) (line rest : List ℕ) → ended_lines front ++ (line ++ 10 ∷ rest) ≡ ended_lines (front ++ line ∷ []) ++ rest
front_more front line rest =
    sym (ap (λ (t : List ℕ). t ++ rest) (ended_more front (line ∷ []) ∙ ap (λ (t : List ℕ). ended_lines front ++ t) (one_ended line))
    ∙ append_assoc (ended_lines front) (ended line) rest ∙ ap (λ (t : List ℕ). ended_lines front ++ t) (append_assoc line (10 ∷ []) rest))

lines_push : (front : List (List ℕ)) (line : List ℕ) → list_all is_line front ≡ true → is_line line ≡ true → list_all is_line (front ++ line ∷ []) ≡ true
lines_push front line h k = list_all-append is_line front (line ∷ []) ∙ both_true (list_all is_line front) _ h (both_true (is_line line) true k refl)

-- a text has as many bytes as lines, or more
enough : (lines : List (List ℕ)) → length lines ≤ length (ended_lines lines)
enough [] = omega arith
enough (l ∷ ls) =
    let whole : ended_lines (l ∷ ls) ≡ ended l ++ ended_lines ls = flat_map-cons ended l ls in
    omega (arith, enough ls, ap length whole, length-append (ended l) (ended_lines ls), length-append l (10 ∷ []))

view_ended : (v : ViewWords) → view_text v ≡ ended_lines (map spaced (view_lines v))
view_ended v = sym (flat_map-map ended spaced (view_lines v))

-- ---- steps

pub read_next : (bytes : List ℕ) (s t : State) (rest line more : List ℕ) (n : ℕ) → Read bytes s rest n → IsCut 10 rest line more → next s line ≡ Some t → Read bytes t more (n + 1)
read_next bytes s t rest line more n r cut e = record {
  front = r.front ++ line ∷ [];
  lines = lines_push r.front line r.lines cut.without;
  parts = r.parts ∙ ap (λ (x : List ℕ). ended_lines r.front ++ x) cut.parts ∙ front_more r.front line more;
  leads = runs_on Begin s t r.front (line ∷ []) r.leads (runs_first s t t line [] e refl);
  counted = omega (arith, r.counted, length-append r.front (line ∷ []));
}

pub shorter : (rest line more : List ℕ) → IsCut 10 rest line more → length more < length rest
shorter rest line more cut = omega (arith, ap length cut.parts, length-append line (10 ∷ more))

-- the number of a line is below the bytes' number
pub few_lines : (bytes : List ℕ) (s : State) (rest : List ℕ) (n : ℕ) → Read bytes s rest n → n ≤ length bytes + 1
few_lines bytes s rest n r = omega (arith, r.counted, enough r.front, ap length r.parts, length-append (ended_lines r.front) rest)

-- ---- what a view's text begins with

tail_is : {X : Type 0} (x y : X) (xs ys : List X) → x ∷ xs ≡ y ∷ ys → (x ≡ y) × (xs ≡ ys)
tail_is x y xs ys e = (cc e, cc e)

-- a list that begins another, but for one element at that one's end
begins_with : {X : Type 0} (xs ys m : List X) (z : X) → xs ++ z ∷ [] ≡ ys ++ m → 0 < length m → (rest : List X) × (xs ≡ ys ++ rest)
begins_with xs [] m z e h = (xs, refl)
begins_with [] (y ∷ ys) m z e h = absurd (omega (arith, ap length e, length-append ys m))
begins_with (x ∷ xs) (y ∷ ys) m z e h =
    let both = tail_is x y (xs ++ z ∷ []) (ys ++ m) e in
    let more = begins_with xs ys m z both.1 h in
    (more.0, ap (λ (a : _). a ∷ xs) both.0 ∙ ap (λ (bs : List _). y ∷ bs) more.1)

-- lines that a view's text begins with are its first lines
view_front : (v : ViewWords) (front : List (List ℕ)) (more : List ℕ) → IsView v → list_all is_line front ≡ true → view_text v ≡ ended_lines front ++ more → (rest : List (List ℕ)) × (map spaced (view_lines v) ≡ front ++ rest)
view_front v front more h lines e =
    let own : List (List ℕ) = map spaced (view_lines v) in
    let cut_own : slice_split (λ b. eqb b 10) (view_text v) ≡ own ++ [] ∷ [] =
    ap (slice_split (λ b. eqb b 10)) (view_ended v ∙ sym (append-nil (ended_lines own))) ∙ split_lines own [] (view_unbroken v h) in
    let cut_front : slice_split (λ b. eqb b 10) (view_text v) ≡ front ++ slice_split (λ b. eqb b 10) more =
    ap (slice_split (λ b. eqb b 10)) e ∙ split_lines front more lines in
    begins_with own front (slice_split (λ b. eqb b 10) more) [] (sym cut_own ∙ cut_front) (omega (arith, length-slice_split (λ b. eqb b 10) more))

-- so they lead somewhere
view_goes : (v : ViewWords) (front : List (List ℕ)) (more : List ℕ) → IsView v → list_all is_line front ≡ true → view_text v ≡ ended_lines front ++ more → (s : State) × (runs Begin front ≡ Some s)
view_goes v front more h lines e =
    let f = view_front v front more h lines e in
    let all : onward (runs Begin front) (λ t. runs t f.0) ≡ Some (Closed v) = sym (runs_append Begin front f.0) ∙ ap (runs Begin) (sym f.1) ∙ view_leads v h in
    let o = onward_some (runs Begin front) (λ t. runs t f.0) (Closed v) all in
    (o.0, o.1)

-- lines that lead nowhere begin no view's text
no_view : (front : List (List ℕ)) (line : List ℕ) (s : State) (v : ViewWords) (more : List ℕ) → list_all is_line front ≡ true → is_line line ≡ true → runs Begin front ≡ Some s → next s line ≡ None
    → IsView v → view_text v ≡ ended_lines front ++ (line ++ 10 ∷ more) → ⊥
no_view front line s v more lines whole leads none h e =
    let g = view_goes v (front ++ line ∷ []) more h (lines_push front line lines whole) (e ∙ front_more front line more) in
    let two : onward (runs Begin front) (λ t. runs t (line ∷ [])) ≡ Some g.0 = sym (runs_append Begin front (line ∷ [])) ∙ g.1 in
    let o = onward_some (runs Begin front) (λ t. runs t (line ∷ [])) g.0 two in
    let same : s ≡ o.0 = cc (leads, o.1) in
    let one = onward_some (next o.0 line) (λ t. runs t []) g.0 o.2 in
    absurd (cc (none, one.1, same))

-- the whole lines that were read begin some view's text
pub record Begins (front : List (List ℕ)) : Type 0 where
  pub view : ViewWords
  pub more : List ℕ
  pub is : IsView view
  pub text : view_text view ≡ ended_lines front ++ more

front_begins : (front : List (List ℕ)) (s : State) → runs Begin front ≡ Some s → Begins front
front_begins front s e =
    let h : Holds s front = holds_run Begin [] front s refl e in
    let w : Way s = way s front h in
    let v = read_lines_say (front ++ w.path) w.view (runs_on Begin s (Closed w.view) front w.path e w.leads) in
    record {
      view = w.view;
      more = ended_lines w.path;
      is = v.0;
      text = view_ended w.view ∙ ap ended_lines (sym v.1) ∙ ended_more front w.path;
    }

-- the first line of a text, told in two ways
same_line : (rest line more other after : List ℕ) → IsCut 10 rest line more → is_line other ≡ true → rest ≡ other ++ 10 ∷ after → line ≡ other
same_line rest line more other after cut whole e =
    let one : slice_split (λ b. eqb b 10) rest ≡ line ∷ slice_split (λ b. eqb b 10) more = ap (slice_split (λ b. eqb b 10)) cut.parts ∙ split_at 10 line more cut.without in
    let two : slice_split (λ b. eqb b 10) rest ≡ other ∷ slice_split (λ b. eqb b 10) after = ap (slice_split (λ b. eqb b 10)) e ∙ split_at 10 other after whole in
    (tail_is line other (slice_split (λ b. eqb b 10) more) (slice_split (λ b. eqb b 10) after) (sym one ∙ two)).0

-- a line that leads nowhere
pub fault_here : (bytes : List ℕ) (s : State) (rest line more : List ℕ) (n : ℕ) → Read bytes s rest n → IsCut 10 rest line more → next s line ≡ None → IsFirstFault bytes n
fault_here bytes s rest line more n r cut none =
    let b = front_begins r.front s r.leads in
    record {
      front = r.front;
      rest = rest;
      lines = r.lines;
      parts = r.parts;
      counted = r.counted;
      goes_on = (b.view, b.more, b.is, b.text);
      ends = λ other after whole e v past h text.
          let same : line ≡ other = same_line rest line more other after cut whole e in
          no_view r.front other s v past r.lines whole r.leads (subst (λ (l : List ℕ). next s l ≡ None) same none) h text;
      none = λ v h text. no_view r.front line s v more r.lines cut.without r.leads none h (sym text ∙ r.parts ∙ ap (λ (t : List ℕ). ended_lines r.front ++ t) cut.parts);
    }

-- no byte of a text is one that stands in it
no_line : (rest line after : List ℕ) → without 10 rest ≡ true → rest ≡ line ++ 10 ∷ after → ⊥
no_line rest line after none e =
    let all : without 10 (line ++ 10 ∷ after) ≡ true = subst (λ (t : List ℕ). without 10 t ≡ true) e none in
    let parts = and_true (without 10 line) (without 10 (10 ∷ after)) (sym (list_all-append (λ other. not (eqb other 10)) line (10 ∷ after)) ∙ all) in
    absurd (false≢true parts.1)

last_same : {X : Type 0} (xs ys : List X) (x y : X) → xs ++ x ∷ [] ≡ ys ++ y ∷ [] → (xs ≡ ys) × (x ≡ y)
last_same [] [] x y e = (refl, (tail_is x y [] [] e).0)
last_same [] (b ∷ ys) x y e = absurd (omega (arith, ap length e, length-append ys (y ∷ [])))
last_same (a ∷ xs) [] x y e = absurd (omega (arith, ap length e, length-append xs (x ∷ [])))
last_same (a ∷ xs) (b ∷ ys) x y e =
    let both = tail_is a b (xs ++ x ∷ []) (ys ++ y ∷ []) e in
    let rest = last_same xs ys x y both.1 in
    (ap (λ (c : _). c ∷ xs) both.0 ∙ ap (λ (cs : List _). b ∷ cs) rest.0, rest.1)

-- the text of a view, read to its end
whole_is : (bytes : List ℕ) (s : State) (rest : List ℕ) (n : ℕ) (v : ViewWords) → Read bytes s rest n → without 10 rest ≡ true → IsView v → bytes ≡ view_text v → (s ≡ Closed v) × (rest ≡ [])
whole_is bytes s rest n v r none h e =
    let own : List (List ℕ) = map spaced (view_lines v) in
    let cut_own : slice_split (λ b. eqb b 10) bytes ≡ own ++ [] ∷ [] =
    ap (slice_split (λ b. eqb b 10)) (e ∙ view_ended v ∙ sym (append-nil (ended_lines own))) ∙ split_lines own [] (view_unbroken v h) in
    let cut_read : slice_split (λ b. eqb b 10) bytes ≡ r.front ++ rest ∷ [] =
    ap (slice_split (λ b. eqb b 10)) r.parts ∙ split_lines r.front rest r.lines ∙ ap (λ (ls : List (List ℕ)). r.front ++ ls) (split_none 10 rest none) in
    let same = last_same r.front own rest [] (sym cut_read ∙ cut_own) in
    let leads : runs Begin r.front ≡ Some (Closed v) = ap (runs Begin) same.0 ∙ view_leads v h in
    (cc (r.leads, leads), same.1)

-- the text ends before a view does, or inside a line
pub fault_end : (bytes : List ℕ) (s : State) (rest : List ℕ) (n : ℕ) → Read bytes s rest n → without 10 rest ≡ true → ((v : ViewWords) → s ≡ Closed v → rest ≡ [] → ⊥) → IsFirstFault bytes n
fault_end bytes s rest n r none unread =
    let b = front_begins r.front s r.leads in
    record {
      front = r.front;
      rest = rest;
      lines = r.lines;
      parts = r.parts;
      counted = r.counted;
      goes_on = (b.view, b.more, b.is, b.text);
      ends = λ other after whole e v past h text. no_line rest other after none e;
      none = λ v h text. let w = whole_is bytes s rest n v r none h text in unread v w.0 w.1;
    }

-- the text of a view
pub found : (bytes : List ℕ) (v : ViewWords) (rest : List ℕ) (n : ℕ) → Read bytes (Closed v) rest n → rest ≡ [] → IsView v × (bytes ≡ view_text v)
found bytes v rest n r empty =
    let said = read_lines_say r.front v r.leads in
    (said.0, r.parts ∙ ap (λ (t : List ℕ). ended_lines r.front ++ t) empty ∙ append-nil (ended_lines r.front) ∙ ap ended_lines said.1 ∙ sym (view_ended v))

-- no other view has it
pub only_one : (v w : ViewWords) → IsView v → IsView w → view_text v ≡ view_text w → v ≡ w
only_one v w h k e =
    let a : List (List ℕ) = map spaced (view_lines v) in
    let b : List (List ℕ) = map spaced (view_lines w) in
    let cut_a : slice_split (λ c. eqb c 10) (view_text v) ≡ a ++ [] ∷ [] =
    ap (slice_split (λ c. eqb c 10)) (view_ended v ∙ sym (append-nil (ended_lines a))) ∙ split_lines a [] (view_unbroken v h) in
    let cut_b : slice_split (λ c. eqb c 10) (view_text v) ≡ b ++ [] ∷ [] =
    ap (slice_split (λ c. eqb c 10)) (e ∙ view_ended w ∙ sym (append-nil (ended_lines b))) ∙ split_lines b [] (view_unbroken w k) in
    let same = last_same a b [] [] (sym cut_a ∙ cut_b) in
    let two : Some (Closed v) ≡ Some (Closed w) = sym (view_leads v h) ∙ ap (runs Begin) same.0 ∙ view_leads w k in
    cc two

-- ---- what is answered

pub gives_view : (bytes : List ℕ) (w : ViewWords) → IsView w × (bytes ≡ view_text w) → (v : ViewWords) → IsView v → bytes ≡ view_text v → w ≡ v
gives_view bytes w said v h e = only_one w v said.0 h (sym said.1 ∙ e)

pub found_at : (bytes : List ℕ) (s : State) (rest : List ℕ) (n : ℕ) (r : Result ViewWords ViewErr) → Read bytes s rest n → Finishes s rest n r → IfOk r (λ v. IsView v × (bytes ≡ view_text v))
found_at bytes s rest n (Ok v) h f = found bytes v rest n (subst (λ (t : State). Read bytes t rest n) f.0 h) f.1
found_at bytes s rest n (Err e) h f = tt

pub only_at : (bytes : List ℕ) (s : State) (rest : List ℕ) (n : ℕ) (r : Result ViewWords ViewErr) → Read bytes s rest n → without 10 rest ≡ true → Finishes s rest n r
    → (v : ViewWords) → IsView v → bytes ≡ view_text v → Gives v r
only_at bytes s rest n (Ok w) h none f v k e = gives_view bytes w (found_at bytes s rest n (Ok w) h f) v k e
only_at bytes s rest n (Err Memory) h none f v k e = tt
only_at bytes s rest n (Err (At m)) h none f v k e = (fault_end bytes s rest n h none f.1).none v k e

pub fault_at : (bytes : List ℕ) (s : State) (rest : List ℕ) (n : ℕ) (r : Result ViewWords ViewErr) → Read bytes s rest n → without 10 rest ≡ true → Finishes s rest n r → IfErr r (IsFault bytes)
fault_at bytes s rest n (Ok v) h none f = tt
fault_at bytes s rest n (Err e) h none f = subst (IsFault bytes) (sym f.0) (fault_end bytes s rest n h none f.1)
