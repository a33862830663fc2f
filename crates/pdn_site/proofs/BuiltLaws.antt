-- Layings as a builder makes them.
use Rattle.std.proofs.Common.{◌≡◌, ℕ, Bool, true, false, zero, suc, ◌+◌, ◌*◌, ◌-◌, ◌<◌, ◌≤◌, cond, List, [], ◌∷◌, ◌++◌, length, map, Result, Ok, Err, refl, sym, ap, ◌∙◌, subst, arith, append-nil, length-append, suc-mul, add-mul}
use Rattle.std.specs.List.{range_with_len, count_by, All}
use Rattle.std.specs.Result.{IsErrAnd}
use Rattle.std.proofs.lemmas.List.Sums.{sum_by-append, sum_by-cons}
use Rattle.pdn_base.specs.declared.marks.Kind.{Kind}
use Rattle.pdn_base.specs.declared.site.Site.{Site}
use Rattle.pdn_base.specs.declared.site.Site.TheVariants.{A, B}
use Rattle.pdn_circuit.specs.declared.gate.Gate.{Gate}
use Rattle.pdn_circuit.specs.declared.gate.Gate.TheVariants.{Input, Given}
use Rattle.pdn_circuit.specs.declared.tally.BuildErr.{BuildErr}
use Rattle.pdn_circuit.specs.Gates.{is_input_of, is_given, input_count, given_count}
use Rattle.pdn_circuit.specs.Blocks.{Making, gives, one, ◌>>=◌}
use Rattle.pdn_circuit.specs.Building.{Made, Makes, Refuses, Stops, Tries, Along, Extends}
use Rattle.pdn_circuit.specs.declared.tally.BuildErr.TheVariants.{Memory}
use Rattle.pdn_site.proofs.LayingLaws.{from_shaped}
use Rattle.pdn_circuit.proofs.Making.{stops, along_begin, along_as, along_next, along_stops, along_end, along_last, along_last_stops, extends_by, extends_extends, extends_self}
use Rattle.pdn_obl_rows.proofs.Walks.{first_stops, first_made}
use Rattle.pdn_obl_rows.specs.Encoding.{list_from, planes_from}
use Rattle.std.proofs.lemmas.List.Elements.{All-nil, All-cons}
use Rattle.std.proofs.lemmas.List.FromFn.{length-map-range_with_len}
use Rattle.pdn_obl_rows.specs.Operators.{IsThere, AllThere, list_at, length_of, append_gates}
use Rattle.pdn_obl_rows.specs.Lists.{PaddedList, widths, words_for}
use Rattle.pdn_site.specs.Laying.{Taken, Laying, making, next, with_words, with_given, came_from, list_words, input_list, given_list}
use Rattle.pdn_site.specs.Built.{words_gates, taken_by, Lays, IsListOf}
use Rattle.pdn_site.proofs.Quiet.{TakesNone, Quiet}

-- ---- gates of one kind, one after the other
words_split : (gate : ℕ → Gate) (from k m : ℕ) → map gate (range_with_len from (k + suc m)) ≡ map gate (range_with_len from k) ++ gate (from + k) ∷ (map gate (range_with_len (from + k + 1) m) ++ [])
words_split gate from zero m =
    let e : zero + suc m ≡ suc m = omega arith in
    let f : from ≡ from + zero = omega arith in
    ap (λ c. map gate (range_with_len from c)) e
    ∙ ap (λ i. gate i ∷ map gate (range_with_len (i + 1) m)) f
    ∙ ap (λ (gs : List Gate). gate (from + zero) ∷ gs) (sym (append-nil (map gate (range_with_len (from + zero + 1) m))))
words_split gate from (suc k) m =
    let e : suc k + suc m ≡ suc (k + suc m) = omega arith in
    let f : from + 1 + k ≡ from + suc k = omega arith in
    ap (λ c. map gate (range_with_len from c)) e
    ∙ ap (λ (gs : List Gate). gate from ∷ gs) (words_split gate (from + 1) k m)
    ∙ ap (λ i. gate from ∷ (map gate (range_with_len (from + 1) k) ++ gate i ∷ (map gate (range_with_len (i + 1) m) ++ []))) f

words_then : (ℕ → Gate) → ℕ → ℕ → ℕ → Making ℕ
words_then gate from k m = words_gates gate from k >>= λ first. one (gate (from + k)) >>= λ _. words_gates gate (from + k + 1) m >>= λ _. gives first

words_are : (gate : ℕ → Gate) (from k m n : ℕ) → words_gates gate from (k + suc m) n ≡ words_then gate from k m n
unfolding words_then gives one ◌>>=◌
words_are gate from k m n = ap (λ (gs : List Gate). record { gates = gs; result = n }) (words_split gate from k m)

module _ (gate : ℕ → Gate) (from k : ℕ) (old now : Made) (first : ℕ) (h : Makes old now (words_gates gate from k (length old.gates)) first) where
  words_along : (m : ℕ) → Along old (words_gates gate from (k + suc m)) now (one (gate (from + k)) >>= λ _. words_gates gate (from + k + 1) m >>= λ _. gives first)
  unfolding words_then
  words_along m =
      along_next old old now (words_gates gate from (k + suc m)) (words_gates gate from k) (λ first. one (gate (from + k)) >>= λ _. words_gates gate (from + k + 1) m >>= λ _. gives first) first
      (along_as old old (words_gates gate from (k + suc m)) (words_gates gate from (k + suc m)) (words_then gate from k m) (words_are gate from k m) (along_begin old (words_gates gate from (k + suc m))))
      h

  pub words_refused : (count : ℕ) → k < count → (new : Made) (err : BuildErr) → Refuses now new (one (gate (from + k)) (length now.gates)) err → Stops old new (words_gates gate from count (length old.gates)) err
  words_refused count l new err r =
      let e : k + suc (count - (k + 1)) ≡ count = omega (arith, l) in
      subst (λ c. Stops old new (words_gates gate from c (length old.gates)) err) e
      (along_stops old now new (words_gates gate from (k + suc (count - (k + 1)))) (one (gate (from + k))) (λ _. words_gates gate (from + k + 1) (count - (k + 1)) >>= λ _. gives first) err (words_along (count - (k + 1)))
      (stops now new (one (gate (from + k)) (length now.gates)) err r))

no_more : (gate : ℕ → Gate) (from : ℕ) (made : Made) → Makes made made (words_gates gate from 0 (length made.gates)) (length made.gates)
no_more gate from made = record { gates = sym (append-nil made.gates); gives = refl; fits = refl; bounds = record { ands = refl; gates = refl } }

pub words_begin : (gate : ℕ → Gate) (from : ℕ) (made : Made) (first : ℕ) → first ≡ length made.gates → Makes made made (words_gates gate from 0 (length made.gates)) first
words_begin gate from made first e = subst (λ n. Makes made made (words_gates gate from 0 (length made.gates)) n) (sym e) (no_more gate from made)

pub words_next : (gate : ℕ → Gate) (from k : ℕ) (old now new : Made) (first x : ℕ) → Makes old now (words_gates gate from k (length old.gates)) first → Makes now new (one (gate (from + k)) (length now.gates)) x
    → Makes old new (words_gates gate from (k + 1) (length old.gates)) first
words_next gate from k old now new first x h m =
    let e : k + suc 0 ≡ k + 1 = omega arith in
    subst (λ c. Makes old new (words_gates gate from c (length old.gates)) first) e
    (along_end old new (words_gates gate from (k + suc 0)) first
    (along_next old new new (words_gates gate from (k + suc 0)) (words_gates gate (from + k + 1) 0) (λ _. gives first) (length new.gates)
    (along_next old now new (words_gates gate from (k + suc 0)) (one (gate (from + k))) (λ _. words_gates gate (from + k + 1) 0 >>= λ _. gives first) x (words_along gate from k old now first h 0) m)
    (no_more gate (from + k + 1) new)))

-- ---- how many words they take
counted : (p : Gate → Bool) (xs ys : List Gate) → count_by p (xs ++ ys) ≡ count_by p xs + count_by p ys
counted p xs ys = sum_by-append (λ (g : Gate). cond (p g) 1 0) xs ys

abbrev one_if : Bool → ℕ
one_if b = cond b 1 0

all_count : (p : Gate → Bool) (gate : ℕ → Gate) → ((i : ℕ) → p (gate i) ≡ true) → (from k : ℕ) → count_by p (map gate (range_with_len from k)) ≡ k
all_count p gate h from zero = refl
all_count p gate h from (suc k) = omega (arith, sum_by-cons (λ (g : Gate). one_if (p g)) (gate from) (map gate (range_with_len (from + 1) k)), ap one_if (h from), all_count p gate h (from + 1) k)

no_count : (p : Gate → Bool) (gate : ℕ → Gate) → ((i : ℕ) → p (gate i) ≡ false) → (from k : ℕ) → count_by p (map gate (range_with_len from k)) ≡ 0
no_count p gate h from zero = refl
no_count p gate h from (suc k) = omega (arith, sum_by-cons (λ (g : Gate). one_if (p g)) (gate from) (map gate (range_with_len (from + 1) k)), ap one_if (h from), no_count p gate h (from + 1) k)

same_input : (site : Site) (i : ℕ) → is_input_of site (Input site i) ≡ true
same_input A i = refl
same_input B i = refl

pub inputs_counted : (site : Site) (old now : Made) (k first : ℕ) → Makes old now (words_gates (Input site) (input_count site old.gates) k (length old.gates)) first → input_count site now.gates ≡ input_count site old.gates + k
inputs_counted site old now k first m =
    ap (input_count site) m.gates ∙ counted (is_input_of site) old.gates (map (Input site) (range_with_len (input_count site old.gates) k))
    ∙ ap (λ n. input_count site old.gates + n) (all_count (is_input_of site) (Input site) (same_input site) (input_count site old.gates) k)

pub given_counted : (old now : Made) (k first : ℕ) → Makes old now (words_gates Given (given_count old.gates) k (length old.gates)) first → given_count now.gates ≡ given_count old.gates + k
given_counted old now k first m =
    ap given_count m.gates ∙ counted is_given old.gates (map Given (range_with_len (given_count old.gates) k))
    ∙ ap (λ n. given_count old.gates + n) (all_count is_given Given (λ i. refl) (given_count old.gates) k)

taken_is : (x y : Taken) → x.a ≡ y.a → x.b ≡ y.b → x.given ≡ y.given → x.segments ≡ y.segments → x ≡ y
taken_is x y e f g h =
    ap (λ n. record { a = n; b = x.b; given = x.given; segments = x.segments }) e
    ∙ ap (λ n. record { a = y.a; b = n; given = x.given; segments = x.segments }) f
    ∙ ap (λ n. record { a = y.a; b = y.b; given = n; segments = x.segments }) g
    ∙ ap (λ n. record { a = y.a; b = y.b; given = y.given; segments = n }) h

-- gates that take none of these words leave their count
stays : (p : Gate → Bool) (xs ys zs : List Gate) → zs ≡ xs ++ ys → count_by p ys ≡ 0 → count_by p xs ≡ count_by p zs
stays p xs ys zs e h = omega (arith, h, ap (count_by p) e, counted p xs ys)

pub taken_inputs : (site : Site) (s : ℕ) (old now : Made) (k first : ℕ) → Makes old now (words_gates (Input site) (input_count site old.gates) k (length old.gates)) first → with_words site k (taken_by old.gates s) ≡ taken_by now.gates s
taken_inputs A s old now k first m =
    let own : List Gate = map (Input A) (range_with_len (input_count A old.gates) k) in
    taken_is _ _ (sym (inputs_counted A old now k first m)) (stays (is_input_of B) old.gates own now.gates m.gates (no_count (is_input_of B) (Input A) (λ i. refl) _ k))
    (stays is_given old.gates own now.gates m.gates (no_count is_given (Input A) (λ i. refl) _ k)) refl
taken_inputs B s old now k first m =
    let own : List Gate = map (Input B) (range_with_len (input_count B old.gates) k) in
    taken_is _ _ (stays (is_input_of A) old.gates own now.gates m.gates (no_count (is_input_of A) (Input B) (λ i. refl) _ k)) (sym (inputs_counted B old now k first m))
    (stays is_given old.gates own now.gates m.gates (no_count is_given (Input B) (λ i. refl) _ k)) refl

pub taken_given : (s : ℕ) (old now : Made) (k first : ℕ) → Makes old now (words_gates Given (given_count old.gates) k (length old.gates)) first → with_given k (taken_by old.gates s) ≡ taken_by now.gates s
taken_given s old now k first m =
    let own : List Gate = map Given (range_with_len (given_count old.gates) k) in
    taken_is _ _ (stays (is_input_of A) old.gates own now.gates m.gates (no_count (is_input_of A) Given (λ i. refl) _ k)) (stays (is_input_of B) old.gates own now.gates m.gates (no_count (is_input_of B) Given (λ i. refl) _ k))
    (sym (given_counted old now k first m)) refl

-- an operator takes none
pub taken_quiet : {X : Type 0} (making : Making X) (q : Quiet making) (s : ℕ) (old now : Made) (x : X) → Makes old now (making (length old.gates)) x → taken_by old.gates s ≡ taken_by now.gates s
taken_quiet {X} making q s old now x m =
    let none : TakesNone (making (length old.gates)).gates = q.at (length old.gates) in
    let own : List Gate = (making (length old.gates)).gates in
    taken_is _ _ (stays (is_input_of A) old.gates own now.gates m.gates none.a) (stays (is_input_of B) old.gates own now.gates m.gates none.b) (stays is_given old.gates own now.gates m.gates none.given) refl

-- ---- layings, one after the other
abbrev pub Ends : Made → Made → Making (PaddedList × Taken) → Taken → Result PaddedList BuildErr → Type 0
Ends old now whole t (Ok list) = Makes old now (whole (length old.gates)) (list, t)
Ends old now whole t (Err e) = Stops old now (whole (length old.gates)) e

ends_exit : (old now : Made) (whole : Making (PaddedList × Taken)) (t : Taken) (result : Result PaddedList BuildErr) (err : BuildErr) → IsErrAnd result (λ e. e ≡ err) → Stops old now (whole (length old.gates)) err → Ends old now whole t result
ends_exit old now whole t (Err e) err is s = subst (λ (e : BuildErr). Stops old now (whole (length old.gates)) e) (sym is) s
ends_exit old now whole t (Ok x) err is s = absurd is

ends_after : (old mid new : Made) (whole last : Making (PaddedList × Taken)) (t : Taken) (result : Result PaddedList BuildErr) → Along old whole mid last → Ends mid new last t result → Ends old new whole t result
ends_after old mid new whole last t (Ok list) a e = along_last old mid new whole last (list, t) a e
ends_after old mid new whole last t (Err err) a e = along_last_stops old mid new whole last err a e

lays_ends : (old new : Made) (s s' : ℕ) (laying : Laying PaddedList) (result : Result PaddedList BuildErr) → Ends old new (laying (taken_by old.gates s)) (taken_by new.gates s') result → Lays old new s s' laying result
lays_ends old new s s' laying (Ok list) e = e
lays_ends old new s s' laying (Err err) e = e

ends_lays : (old new : Made) (s s' : ℕ) (laying : Laying PaddedList) (result : Result PaddedList BuildErr) → Lays old new s s' laying result → Ends old new (laying (taken_by old.gates s)) (taken_by new.gates s') result
ends_lays old new s s' laying (Ok list) e = e
ends_lays old new s s' laying (Err err) e = e

-- a call that fails where its part of the laying stops
pub lays_exit : (old new : Made) (s s' : ℕ) (laying : Laying PaddedList) (result : Result PaddedList BuildErr) (err : BuildErr) → IsErrAnd result (λ e. e ≡ err) → Stops old new (laying (taken_by old.gates s) (length old.gates)) err → Lays old new s s' laying result
lays_exit old new s s' laying result err is h = lays_ends old new s s' laying result (ends_exit old new (laying (taken_by old.gates s)) (taken_by new.gates s') result err is h)

-- nothing was made
pub lays_none : (made : Made) → Extends made made
lays_none made = extends_self made

pub not_laid : (made : Made) (s : ℕ) (laying : Laying PaddedList) (result : Result PaddedList BuildErr) (err : BuildErr) → IsErrAnd result (λ e. e ≡ err) → err ≡ Memory → Lays made made s s laying result
not_laid made s laying result err is e = lays_exit made made s s laying result err is (subst (λ (x : BuildErr). Stops made made (laying (taken_by made.gates s) (length made.gates)) x) (sym e) (extends_self made))

module _ {X Y : Type 0} (old : Made) (s : ℕ) (before : Laying X) (after : X → Laying Y) where
  pub next_stops : (new : Made) (err : BuildErr) → Stops old new (before (taken_by old.gates s) (length old.gates)) err → Stops old new (next before after (taken_by old.gates s) (length old.gates)) err
  next_stops new err h = first_stops old (next before after (taken_by old.gates s)) (before (taken_by old.gates s)) (λ x. after x.0 x.1) refl new err h

  pub next_along : (mid : Made) (x : X) (t : Taken) → Makes old mid (before (taken_by old.gates s) (length old.gates)) (x, t) → Along old (next before after (taken_by old.gates s)) mid (after x t)
  next_along mid x t m = first_made old (next before after (taken_by old.gates s)) (before (taken_by old.gates s)) (λ x. after x.0 x.1) refl mid (x, t) m

  -- the first was laid, and what comes after it stops
  pub then_stops : (mid new : Made) (x : X) (s' : ℕ) (err : BuildErr) → Makes old mid (before (taken_by old.gates s) (length old.gates)) (x, taken_by mid.gates s')
      → Stops mid new (after x (taken_by mid.gates s') (length mid.gates)) err → Stops old new (next before after (taken_by old.gates s) (length old.gates)) err
  then_stops mid new x s' err m h = along_last_stops old mid new (next before after (taken_by old.gates s)) (after x (taken_by mid.gates s')) err (next_along mid x (taken_by mid.gates s') m) h

pub lays_next : (old mid new : Made) (s s' s'' : ℕ) (before : Laying PaddedList) (after : PaddedList → Laying PaddedList) (list : PaddedList) (result : Result PaddedList BuildErr)
    → Makes old mid (before (taken_by old.gates s) (length old.gates)) (list, taken_by mid.gates s') → Lays mid new s' s'' (after list) result → Lays old new s s'' (next before after) result
lays_next old mid new s s' s'' before after list result m h =
    lays_ends old new s s'' (next before after) result
    (ends_after old mid new (next before after (taken_by old.gates s)) (after list (taken_by mid.gates s')) (taken_by new.gates s'') result
    (next_along old s before after mid list (taken_by mid.gates s') m) (ends_lays mid new s' s'' (after list) result h))

-- gates of an operator
pub lays_making : (old new : Made) (s : ℕ) (gates : Making PaddedList) (result : Result PaddedList BuildErr) → Quiet gates → Tries old new gates result → Lays old new s s (making gates) result
lays_making old new s gates (Ok list) q m =
    subst (λ (t : Taken). Makes old new (making gates (taken_by old.gates s) (length old.gates)) (list, t)) (taken_quiet gates q s old new list m)
    (along_end old new (making gates (taken_by old.gates s)) (list, taken_by old.gates s) (first_made old (making gates (taken_by old.gates s)) gates (λ x. gives (x, taken_by old.gates s)) refl new list m))
lays_making old new s gates (Err err) q h = first_stops old (making gates (taken_by old.gates s)) gates (λ x. gives (x, taken_by old.gates s)) refl new err h

-- ---- lists whose words come from outside
input_whole : (site : Site) (kinds : List Kind) (len : ℕ) (t : Taken) → input_list site kinds len t ≡ (words_gates (Input site) (came_from site t) (list_words kinds len) >>= λ first. gives (list_from first kinds len, with_words site (list_words kinds len) t))
unfolding ◌>>=◌ gives
input_whole site kinds len t = refl

given_whole : (kinds : List Kind) (len : ℕ) (t : Taken) → given_list kinds len t ≡ (words_gates Given t.given (list_words kinds len) >>= λ first. gives (list_from first kinds len, with_given (list_words kinds len) t))
unfolding ◌>>=◌ gives
given_whole kinds len t = refl

from_site : (site : Site) (gates : List Gate) (s : ℕ) → input_count site gates ≡ came_from site (taken_by gates s)
from_site A gates s = refl
from_site B gates s = refl

module _ (site : Site) (kinds : List Kind) (len : ℕ) (old new : Made) (s : ℕ) where
  pub input_stops : (err : BuildErr) → Stops old new (words_gates (Input site) (input_count site old.gates) (list_words kinds len) (length old.gates)) err → Stops old new (input_list site kinds len (taken_by old.gates s) (length old.gates)) err
  input_stops err h =
      first_stops old (input_list site kinds len (taken_by old.gates s)) (words_gates (Input site) (came_from site (taken_by old.gates s)) (list_words kinds len)) _ (input_whole site kinds len (taken_by old.gates s)) new err
      (subst (λ from. Stops old new (words_gates (Input site) from (list_words kinds len) (length old.gates)) err) (from_site site old.gates s) h)

  pub input_made : (first : ℕ) (list : PaddedList) → list ≡ list_from first kinds len → Makes old new (words_gates (Input site) (input_count site old.gates) (list_words kinds len) (length old.gates)) first
      → Makes old new (input_list site kinds len (taken_by old.gates s) (length old.gates)) (list, taken_by new.gates s)
  input_made first list e m =
      subst (λ (l : PaddedList). Makes old new (input_list site kinds len (taken_by old.gates s) (length old.gates)) (l, taken_by new.gates s)) (sym e)
      (subst (λ (t : Taken). Makes old new (input_list site kinds len (taken_by old.gates s) (length old.gates)) (list_from first kinds len, t)) (taken_inputs site s old new (list_words kinds len) first m)
      (along_end old new (input_list site kinds len (taken_by old.gates s)) (list_from first kinds len, with_words site (list_words kinds len) (taken_by old.gates s))
      (first_made old (input_list site kinds len (taken_by old.gates s)) (words_gates (Input site) (came_from site (taken_by old.gates s)) (list_words kinds len)) _ (input_whole site kinds len (taken_by old.gates s)) new first
      (subst (λ from. Makes old new (words_gates (Input site) from (list_words kinds len) (length old.gates)) first) (from_site site old.gates s) m))))

module _ (kinds : List Kind) (len : ℕ) (old new : Made) (s : ℕ) where
  pub given_stops : (err : BuildErr) → Stops old new (words_gates Given (given_count old.gates) (list_words kinds len) (length old.gates)) err → Stops old new (given_list kinds len (taken_by old.gates s) (length old.gates)) err
  given_stops err h = first_stops old (given_list kinds len (taken_by old.gates s)) (words_gates Given (given_count old.gates) (list_words kinds len)) _ (given_whole kinds len (taken_by old.gates s)) new err h

  pub given_made : (first : ℕ) (list : PaddedList) → list ≡ list_from first kinds len → Makes old new (words_gates Given (given_count old.gates) (list_words kinds len) (length old.gates)) first
      → Makes old new (given_list kinds len (taken_by old.gates s) (length old.gates)) (list, taken_by new.gates s)
  given_made first list e m =
      subst (λ (l : PaddedList). Makes old new (given_list kinds len (taken_by old.gates s) (length old.gates)) (l, taken_by new.gates s)) (sym e)
      (subst (λ (t : Taken). Makes old new (given_list kinds len (taken_by old.gates s) (length old.gates)) (list_from first kinds len, t)) (taken_given s old new (list_words kinds len) first m)
      (along_end old new (given_list kinds len (taken_by old.gates s)) (list_from first kinds len, with_given (list_words kinds len) (taken_by old.gates s))
      (first_made old (given_list kinds len (taken_by old.gates s)) (words_gates Given (given_count old.gates) (list_words kinds len)) _ (given_whole kinds len (taken_by old.gates s)) new first m)))

-- ---- they are gates of the builder
range_there : (n first k : ℕ) → first + k ≤ n → All (λ g. g < n) (range_with_len first k)
range_there n first zero h = All-nil (λ g. g < n)
range_there n first (suc k) h = All-cons (λ g. g < n) first (range_with_len (first + 1) k) (omega (arith, h)) (range_there n (first + 1) k (omega (arith, h)))

planes_there : (n first words count : ℕ) → first + count * words ≤ n → All (λ plane. All (λ g. g < n) plane) (planes_from first words count)
planes_there n first words zero h = All-nil (λ plane. All (λ g. g < n) plane)
planes_there n first words (suc count) h =
    let e : suc count * words ≡ words + count * words = simp suc-mul (omega arith) in
    All-cons (λ plane. All (λ g. g < n) plane) (range_with_len first words) (planes_from (first + words) words count) (range_there n first words (omega (arith, h, e)))
    (planes_there n (first + words) words count (omega (arith, h, e)))

pub words_long : (gate : ℕ → Gate) (from count : ℕ) (old new : Made) (first : ℕ) → Makes old new (words_gates gate from count (length old.gates)) first → first + count ≡ length new.gates
words_long gate from count old new first m =
    omega (arith, m.gives, ap length m.gates, length-append old.gates (map gate (range_with_len from count)), length-map-range_with_len gate from count)

pub from_there : (new : Made) (first : ℕ) (kinds : List Kind) (len : ℕ) (list : PaddedList) → list ≡ list_from first kinds len → first + list_words kinds len ≡ length new.gates → IsThere new list
from_there new first kinds len list e h =
    let w : ℕ = words_for len in
    let f : (widths kinds + 1) * w ≡ widths kinds * w + w = simp add-mul (omega arith) in
    subst (λ (l : PaddedList). IsThere new l) (sym e) (record { valid = range_there _ first w (omega (arith, h, f)); planes = planes_there _ (first + w) w (widths kinds) (omega (arith, h, f)) })

-- a plane of a list that stands in order
pub planes_step : (first words k : ℕ) → planes_from first words (k + 1) ≡ planes_from first words k ++ range_with_len (first + k * words) words ∷ []
planes_step first words zero =
    let e : first ≡ first + 0 * words = omega arith in
    ap (λ n. range_with_len n words ∷ []) e
planes_step first words (suc k) =
    let e : first + words + k * words ≡ first + suc k * words = simp suc-mul (omega arith) in
    let f : suc k + 1 ≡ suc (k + 1) = omega arith in
    ap (λ n. planes_from first words n) f ∙ ap (λ (ps : List (List ℕ)). range_with_len first words ∷ ps) (planes_step (first + words) words k ∙ ap (λ n. planes_from (first + words) words k ++ range_with_len n words ∷ []) e)

pub range_more : (first k : ℕ) → range_with_len first (k + 1) ≡ range_with_len first k ++ (first + k) ∷ []
range_more first zero =
    let e : first ≡ first + 0 = omega arith in
    ap (λ n. n ∷ []) e
range_more first (suc k) =
    let f : suc k + 1 ≡ suc (k + 1) = omega arith in
    let e : first + 1 + k ≡ first + suc k = omega arith in
    ap (λ n. range_with_len first n) f ∙ ap (λ (ns : List ℕ). first ∷ ns) (range_more (first + 1) k ∙ ap (λ n. range_with_len (first + 1) k ++ n ∷ []) e)

pub from_is : (first : ℕ) (kinds : List Kind) (len : ℕ) (list : PaddedList) → list ≡ list_from first kinds len → IsListOf kinds len list
from_is first kinds len list e = subst (λ (l : PaddedList). IsListOf kinds len l) (sym e) (record { kinds = refl; len = refl; shaped = from_shaped first kinds len })

pub made_extends : {X : Type 0} (old new : Made) (making : Making X) (x : X) → Makes old new (making (length old.gates)) x → Extends old new
made_extends old new making x m = extends_by old new (making (length old.gates)).gates m.bounds m.gates

pub lays_memory : (old mid new : Made) (s s' : ℕ) (laying : Laying PaddedList) (result : Result PaddedList BuildErr) → IsErrAnd result (λ e. e ≡ Memory) → Extends old mid → Extends mid new → Lays old new s s' laying result
lays_memory old mid new s s' laying result is e f = lays_exit old new s s' laying result Memory is (extends_extends old mid new e f)

pub two_listed : (new : Made) (l r : PaddedList) → IsThere new l → IsThere new r → AllThere new (l ∷ r ∷ [])
two_listed new l r a b = record { at = at }
  where
    at : (m : ℕ) → m < 2 → IsThere new (list_at (l ∷ r ∷ []) m)
    at zero h = a
    at (suc zero) h = b
    at (suc (suc m)) h = absurd (omega arith)

pub two_long : (l r : PaddedList) → length_of (l ∷ r ∷ []) ≡ l.len + r.len
two_long l r = omega (arith, sum_by-cons (λ (k : PaddedList). k.len) l (r ∷ []), sum_by-cons (λ (k : PaddedList). k.len) r [])

-- the same lists, by another name
pub append_same : (old new : Made) (xs ys : List PaddedList) (result : Result PaddedList BuildErr) → xs ≡ ys → Tries old new (append_gates xs) result → Tries old new (append_gates ys) result
append_same old new xs ys result e t = subst (λ (ls : List PaddedList). Tries old new (append_gates ls) result) e t

pub there_same : (made : Made) (xs ys : List PaddedList) → ys ≡ xs → AllThere made xs → AllThere made ys
there_same made xs ys e a = subst (λ (ls : List PaddedList). AllThere made ls) (sym e) a
