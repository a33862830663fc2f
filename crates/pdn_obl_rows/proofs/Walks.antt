-- How the gates of an operator are made, one part after the other.
use Rattle.std.proofs.Common.{◌≡◌, ℕ, suc, ◌+◌, ◌-◌, ◌<◌, ◌≤◌, Bool, false, eqb, List, [], ◌∷◌, ◌++◌, length, Result, Ok, Err, Vec, Global, refl, sym, ap, ◌∙◌, subst, arith}
use Rattle.std.specs.Prelude.{IfOk, IfErr}
use Rattle.std.specs.List.{All, range_with_len}
use Rattle.std.specs.Result.{IsErrAnd}
use Rattle.std.proofs.lemmas.List.Elements.{All-nil, All-cons, All-same}
use Rattle.pdn_circuit.specs.declared.lay.Pick.{Pick}
use Rattle.pdn_circuit.specs.Laying.{lay_gates, word_gates, words_of_rows, rows_of_word}
use Rattle.pdn_obl_rows.specs.Lists.{words_for}
use Rattle.pdn_obl_rows.specs.Operators.{TriesPlanes}
use Rattle.pdn_obl_rows.proofs.JoinLaws.{count_for}
use Rattle.std.proofs.lemmas.Bool.{false≢true}
use Rattle.std.proofs.lemmas.List.FromFn.{length-range_with_len}
use Rattle.pdn_circuit.specs.declared.tally.BuildErr.TheVariants.{Memory}
use Rattle.pdn_circuit.specs.declared.tally.BuildErr.{BuildErr}
use Rattle.pdn_circuit.specs.Blocks.{Block, Making, gives, one, ◌>>=◌, each}
use Rattle.pdn_circuit.specs.Building.{Made, Makes, Refuses, Stops, Builds, BuildsList, Tries, TriesList, Along}
use Rattle.pdn_circuit.proofs.Making.{stops, extends_self, along_begin, along_next, along_stops, along_refused, along_end, last_tries, makes_none, give_after, each_begin, each_next, each_stops, each_end}
use Rattle.pdn_circuit.proofs.Runs.{range_step, range_done}
use Rattle.pdn_obl_rows.specs.Conditions.{joined_after, joined_by}

-- ---- a call that makes all or nothing, as a step of one that may stop
pub builds_list_tries : (old now : Made) (making : Making (List ℕ)) (result : Result (Vec ℕ Global) BuildErr) → BuildsList old now making result → TriesList old now making result
builds_list_tries old now making (Ok x) b = b
builds_list_tries old now making (Err e) b = stops old now (making (length old.gates)) e b

pub some_there : {X : Type 0} (xs : List X) (empty : Bool) → empty ≡ eqb (length xs) 0 → empty ≡ false → 0 < length xs
some_there [] empty e h = absurd (false≢true (sym h ∙ e))
some_there (x ∷ xs) empty e h = omega arith

-- ---- no gates
-- a list that is known needs memory alone
pub known_tries : (made : Made) (whole : Making (List ℕ)) (planes : List ℕ) (result : Result (Vec ℕ Global) BuildErr) → whole ≡ gives planes → IfOk result (λ v. v.items ≡ planes) → IfErr result (λ err. err ≡ Memory) → TriesList made made whole result
known_tries made whole planes (Ok v) is o e =
    subst (λ (m : Making (List ℕ)). Makes made made (m (length made.gates)) v.items) (sym is) (subst (λ (ps : List ℕ). Makes made made (gives planes (length made.gates)) ps) (sym o) (makes_none made planes))
known_tries made whole planes (Err err) is o e = subst (λ (x : BuildErr). Stops made made (whole (length made.gates)) x) (sym e) (extends_self made)

-- what is left gives this
pub last_gives : {A : Type 0} (old now : Made) (whole : Making A) (x y : A) → Along old whole now (gives x) → y ≡ x → Makes old now (whole (length old.gates)) y
last_gives {A} old now whole x y a e = along_end old now whole y (subst (λ (z : A). Along old whole now (gives z)) (sym e) a)

-- ---- two parts
module _ {A B : Type 0} (old : Made) (whole : Making B) (first : Making A) (rest : A → Making B) (is : whole ≡ (first >>= rest)) where
  parts_begun : Along old whole old (first >>= rest)
  parts_begun = subst (λ (m : Making B). Along old whole old m) is (along_begin old whole)

  pub first_stops : (new : Made) (err : BuildErr) → Stops old new (first (length old.gates)) err → Stops old new (whole (length old.gates)) err
  first_stops new err s = along_stops old old new whole first rest err parts_begun s

  pub first_refused : (new : Made) (err : BuildErr) → Refuses old new (first (length old.gates)) err → Stops old new (whole (length old.gates)) err
  first_refused new err r = first_stops new err (stops old new (first (length old.gates)) err r)

  pub first_made : (mid : Made) (x : A) → Makes old mid (first (length old.gates)) x → Along old whole mid (rest x)
  first_made mid x m = along_next old old mid whole first rest x parts_begun m

  -- and the second
  pub second_tries : (mid new : Made) (x : A) (result : Result B BuildErr) → Makes old mid (first (length old.gates)) x → Tries mid new (rest x) result → Tries old new whole result
  second_tries mid new x result m t = last_tries old mid new whole (rest x) result (first_made mid x m) t

-- ---- three parts
module _ {A B C : Type 0} (old : Made) (whole : Making C) (first : Making A) (second : A → Making B) (third : A → B → Making C) (is : whole ≡ (first >>= λ x. second x >>= third x)) where
  pub second_stops : (mid new : Made) (x : A) (err : BuildErr) → Makes old mid (first (length old.gates)) x → Stops mid new (second x (length mid.gates)) err → Stops old new (whole (length old.gates)) err
  second_stops mid new x err m s = along_stops old mid new whole (second x) (third x) err (first_made old whole first (λ x. second x >>= third x) is mid x m) s

  pub second_made : (mid now : Made) (x : A) (y : B) → Makes old mid (first (length old.gates)) x → Makes mid now (second x (length mid.gates)) y → Along old whole now (third x y)
  second_made mid now x y m k = along_next old mid now whole (second x) (third x) y (first_made old whole first (λ x. second x >>= third x) is mid x m) k

  pub third_tries : (mid now new : Made) (x : A) (y : B) (result : Result C BuildErr) → Makes old mid (first (length old.gates)) x → Makes mid now (second x (length mid.gates)) y → Tries now new (third x y) result → Tries old new whole result
  third_tries mid now new x y result m k t = last_tries old now new whole (third x y) result (second_made mid now x y m k) t

-- ---- for each number from 0 on
module _ {A : Type 0} (f : ℕ → Making A) where
  pub range_begin : (made : Made) (count : ℕ) (front : List A) → front ≡ [] → Along made (each f (range_with_len 0 count)) made (each f (range_with_len 0 (count - 0)) >>= give_after front)
  range_begin made count front is =
      let e : count ≡ count - 0 = omega arith in
      subst (λ (xs : List A). Along made (each f (range_with_len 0 count)) made (each f (range_with_len 0 (count - 0)) >>= give_after xs)) (sym is)
      (subst (λ (n : ℕ). Along made (each f (range_with_len 0 count)) made (each f (range_with_len 0 n) >>= give_after [])) e (each_begin made f (range_with_len 0 count)))

  module _ (old now : Made) (whole : Making (List A)) (front : List A) (k count : ℕ) (h : k < count) (a : Along old whole now (each f (range_with_len k (count - k)) >>= give_after front)) where
    range_begun : Along old whole now (each f (k ∷ range_with_len (k + 1) (count - (k + 1))) >>= give_after front)
    range_begun = subst (λ (ks : List ℕ). Along old whole now (each f ks >>= give_after front)) (range_step k count h) a

    pub range_stops : (new : Made) (err : BuildErr) → Stops now new (f k (length now.gates)) err → Stops old new (whole (length old.gates)) err
    range_stops new err s = each_stops old now new whole f k (range_with_len (k + 1) (count - (k + 1))) front err range_begun s

    pub range_next : (new : Made) (x : A) (more : List A) → Makes now new (f k (length now.gates)) x → more ≡ front ++ x ∷ [] → Along old whole new (each f (range_with_len (k + 1) (count - (k + 1))) >>= give_after more)
    range_next new x more m e =
        subst (λ (xs : List A). Along old whole new (each f (range_with_len (k + 1) (count - (k + 1))) >>= give_after xs)) (sym e)
        (each_next old now new whole f k (range_with_len (k + 1) (count - (k + 1))) front x range_begun m)

  pub range_end : (old now : Made) (whole : Making (List A)) (front : List A) (k count : ℕ) → count ≤ k → Along old whole now (each f (range_with_len k (count - k)) >>= give_after front) → Makes old now (whole (length old.gates)) front
  range_end old now whole front k count h a =
      each_end old now whole f front (subst (λ (ks : List ℕ). Along old whole now (each f ks >>= give_after front)) (range_done k count h) a)

-- ---- for each element of a list
module _ {X A : Type 0} (f : X → Making A) where
  pub list_begin : (made : Made) (xs : List X) (front : List A) → front ≡ [] → Along made (each f xs) made (each f xs >>= give_after front)
  list_begin made xs front is = subst (λ (ys : List A). Along made (each f xs) made (each f xs >>= give_after ys)) (sym is) (each_begin made f xs)

  module _ (old now : Made) (whole : Making (List A)) (front : List A) (x : X) (us xs : List X) (e : us ≡ x ∷ xs) (a : Along old whole now (each f us >>= give_after front)) where
    list_begun : Along old whole now (each f (x ∷ xs) >>= give_after front)
    list_begun = subst (λ (ys : List X). Along old whole now (each f ys >>= give_after front)) e a

    pub list_stops : (new : Made) (err : BuildErr) → Stops now new (f x (length now.gates)) err → Stops old new (whole (length old.gates)) err
    list_stops new err s = each_stops old now new whole f x xs front err list_begun s

    pub list_next : (new : Made) (y : A) (more : List A) → Makes now new (f x (length now.gates)) y → more ≡ front ++ y ∷ [] → Along old whole new (each f xs >>= give_after more)
    list_next new y more m is = subst (λ (ys : List A). Along old whole new (each f xs >>= give_after ys)) (sym is) (each_next old now new whole f x xs front y list_begun m)

  pub list_end : (old now : Made) (whole : Making (List A)) (front : List A) (us : List X) → us ≡ [] → Along old whole now (each f us >>= give_after front) → Makes old now (whole (length old.gates)) front
  list_end old now whole front us e a = each_end old now whole f front (subst (λ (ys : List X). Along old whole now (each f ys >>= give_after front)) e a)

-- as many are made as there are numbers, and what holds of each that is made
each_count : {X A : Type 0} (f : X → Making A) (xs : List X) (n : ℕ) → length (each f xs n).result ≡ length xs
unfolding ◌>>=◌ gives
each_count f [] n = refl
each_count {X} {A} f (x ∷ xs) n = let a : Block A = f x n in ap (λ k. suc k) (each_count f xs (n + length a.gates))

each_all : {X A : Type 0} (f : X → Making A) (P : A → Type 0) → ((x : X) (n : ℕ) → P (f x n).result) → (xs : List X) (n : ℕ) → All P (each f xs n).result
unfolding ◌>>=◌ gives
each_all f P h [] n = All-nil P
each_all {X} {A} f P h (x ∷ xs) n = let a : Block A = f x n in All-cons P a.result (each f xs (n + length a.gates)).result (h x n) (each_all f P h xs (n + length a.gates))

pub range_count : {A : Type 0} (f : ℕ → Making A) (count : ℕ) (old now : Made) (made : List A) → Makes old now (each f (range_with_len 0 count) (length old.gates)) made → length made ≡ count
range_count f count old now made m = ap length m.gives ∙ each_count f (range_with_len 0 count) (length old.gates) ∙ length-range_with_len 0 count

pub list_count : {X A : Type 0} (f : X → Making A) (xs : List X) (old now : Made) (made : List A) → Makes old now (each f xs (length old.gates)) made → length made ≡ length xs
list_count f xs old now made m = ap length m.gives ∙ each_count f xs (length old.gates)

pub all_made : {X A : Type 0} (f : X → Making A) (P : A → Type 0) → ((x : X) (n : ℕ) → P (f x n).result) → (xs : List X) (old now : Made) (made : List A) → Makes old now (each f xs (length old.gates)) made → All P made
all_made f P h xs old now made m = All-same P made (each f xs (length old.gates)).result m.gives (each_all f P h xs (length old.gates))

-- as many words are laid out as hold the rows
laid_words : (picks : List Pick) (n : ℕ) → length (lay_gates picks n).result ≡ words_of_rows (length picks)
laid_words picks n = each_count (λ k. word_gates (rows_of_word picks k)) (range_with_len 0 (words_of_rows (length picks))) n ∙ length-range_with_len 0 (words_of_rows (length picks))

pub laid_long : (picks : List Pick) (len n : ℕ) → length picks ≡ len → length (lay_gates picks n).result ≡ words_for len
laid_long picks len n e = laid_words picks n ∙ count_for len (length picks) e

pub laid_count : (picks : List Pick) (len : ℕ) (old now : Made) (words : List ℕ) → length picks ≡ len → Makes old now (lay_gates picks (length old.gates)) words → length words ≡ words_for len
laid_count picks len old now words e m = ap length m.gives ∙ laid_long picks len (length old.gates) e

-- ---- planes
pub exit_tries_planes : (old now : Made) (making : Making (List (List ℕ))) (result : Result (Vec (List ℕ) Global) BuildErr) (err : BuildErr) → IsErrAnd result (λ e. e ≡ err) → Stops old now (making (length old.gates)) err → TriesPlanes old now making result
exit_tries_planes old now making (Err e) err is s = subst (λ (e : BuildErr). Stops old now (making (length old.gates)) e) (sym is) s
exit_tries_planes old now making (Ok x) err is s = absurd is

-- ---- all of a list, joined from the left
module _ {X : Type 0} (gates : X → Making ℕ) (both : ℕ → ℕ → Making ℕ) where
  pub joined_none : (made : Made) (none : ℕ) (xs : List X) → length xs ≡ 0 → Makes made made (joined_by gates both none xs (length made.gates)) none
  joined_none made none [] h = makes_none made none
  joined_none made none (x ∷ xs) h = absurd (omega arith)

  module _ (old : Made) (none : ℕ) (x : X) (us xs : List X) (e : us ≡ x ∷ xs) where
    pub joined_no_first : (new : Made) (err : BuildErr) → Stops old new (gates x (length old.gates)) err → Stops old new (joined_by gates both none us (length old.gates)) err
    joined_no_first new err s = subst (λ (ys : List X). Stops old new (joined_by gates both none ys (length old.gates)) err) (sym e) (first_stops old (joined_by gates both none (x ∷ xs)) (gates x) (λ acc. joined_after gates both acc xs) refl new err s)

    pub joined_begin : (mid : Made) (acc : ℕ) → Makes old mid (gates x (length old.gates)) acc → Along old (joined_by gates both none us) mid (joined_after gates both acc xs)
    joined_begin mid acc m = subst (λ (ys : List X). Along old (joined_by gates both none ys) mid (joined_after gates both acc xs)) (sym e) (first_made old (joined_by gates both none (x ∷ xs)) (gates x) (λ acc. joined_after gates both acc xs) refl mid acc m)

  module _ (old now : Made) (whole : Making ℕ) (acc : ℕ) (x : X) (us xs : List X) (e : us ≡ x ∷ xs) (a : Along old whole now (joined_after gates both acc us)) where
    joined_begun : Along old whole now (gates x >>= λ next. both acc next >>= λ new. joined_after gates both new xs)
    joined_begun = subst (λ (ys : List X). Along old whole now (joined_after gates both acc ys)) e a

    pub joined_stops : (new : Made) (err : BuildErr) → Stops now new (gates x (length now.gates)) err → Stops old new (whole (length old.gates)) err
    joined_stops new err s = along_stops old now new whole (gates x) _ err joined_begun s

    joined_half : (mid : Made) (next : ℕ) → Makes now mid (gates x (length now.gates)) next → Along old whole mid (both acc next >>= λ new. joined_after gates both new xs)
    joined_half mid next m = along_next old now mid whole (gates x) (λ next. both acc next >>= λ new. joined_after gates both new xs) next joined_begun m

    pub joined_refused : (mid new : Made) (next : ℕ) (err : BuildErr) → Makes now mid (gates x (length now.gates)) next → Refuses mid new (both acc next (length mid.gates)) err → Stops old new (whole (length old.gates)) err
    joined_refused mid new next err m r = along_refused old mid new whole (both acc next) _ err (joined_half mid next m) r

    pub joined_next : (mid new : Made) (next joined : ℕ) → Makes now mid (gates x (length now.gates)) next → Makes mid new (both acc next (length mid.gates)) joined → Along old whole new (joined_after gates both joined xs)
    joined_next mid new next joined m k = along_next old mid new whole (both acc next) (λ new. joined_after gates both new xs) joined (joined_half mid next m) k

  pub joined_end : (old now : Made) (whole : Making ℕ) (acc : ℕ) (us : List X) → us ≡ [] → Along old whole now (joined_after gates both acc us) → Makes old now (whole (length old.gates)) acc
  joined_end old now whole acc us e a = along_end old now whole acc (subst (λ (ys : List X). Along old whole now (joined_after gates both acc ys)) e a)
