-- Views: what a party to a query sees of it.
use Rattle.std.specs.Prelude.{◌≡◌, ◌<◌, ◌^◌, ℕ, Bool, true, ◌&&◌, nat_lt, eqb, List, [], ◌∷◌, ◌++◌, map, length}
use Rattle.std.specs.List.{AllByRecursion, flat_map}
use Rattle.std.proofs.Common.{Ordering, Less, Equal, Greater}
use Rattle.pdn_base.specs.declared.value.Value.{Value}
use Rattle.pdn_base.specs.declared.value.Value.TheVariants as value
use Rattle.pdn_base.specs.declared.site.Site.{Site}
use Rattle.pdn_base.specs.declared.site.Site.TheVariants.{A, B}
use Rattle.pdn_base.specs.Codes.{IsCodeNumber}
use Rattle.pdn_base.specs.Values.{kind_of, number_of, value_cmp}
use Rattle.pdn_gmw.specs.declared.views.GateView.{GateView}
use Rattle.pdn_gmw.specs.Shares.{UnitWords}
use Rattle.pdn_site.specs.Models.{Dirs}
use Rattle.pdn_view.specs.declared.view.Party.{Party}
use Rattle.pdn_view.specs.declared.view.Party.TheVariants as parties
use Rattle.pdn_view.specs.declared.view.UnitPart.{UnitPart}
use Rattle.pdn_view.specs.declared.view.UnitPart.TheVariants as parts
use Rattle.pdn_view.specs.declared.due.Due.{Due}
use Rattle.pdn_view.specs.declared.due.Due.TheVariants.{Plain, Secure, Root, Outputs}
use Rattle.pdn_view.specs.declared.due.Counts.{Counts}

-- What a view has of one unit: which unit it is, and the words that the party saw. Of the root's outputs, A's words stand as
-- `own` and B's as `other`.
pub record Part : Type 0 where
  pub due : Due
  pub words : UnitWords

pub record ViewWords : Type 0 where
  pub party : Party
  pub ticket : ℕ
  pub dirs : List Dirs
  pub units : List Part

abbrev pub words_of : List ℕ → List ℕ → UnitWords
words_of own other = record { own = own; other = other; gates = []; masks = [] }

abbrev pub part_of : UnitPart → Part
part_of (parts.Plain site value) = record { due = Plain site value; words = words_of [] [] }
part_of (parts.Secure value words) = record { due = Secure value; words = words }
part_of (parts.Root words) = record { due = Root; words = words }
part_of (parts.RootOut a b) = record { due = Outputs; words = words_of a.items b.items }

abbrev pub counts_of : UnitWords → Counts
counts_of w = record { own = length w.own; other = length w.other; ands = length w.gates; masks = length w.masks }

abbrev pub no_counts : Counts
no_counts = record { own = 0; other = 0; ands = 0; masks = 0 }

-- ---- the units that directories call for

-- The next unit, of the lesser of two values, and the units after it: where the first value is the lesser one, where they are
-- equal, and where the second is.
abbrev pub next_slice : Ordering → Value → Value → List Due → List Due → List Due → List Due
next_slice Less a b first both second = Plain A a ∷ first
next_slice Equal a b first both second = Secure a ∷ both
next_slice Greater a b first both second = Plain B b ∷ second

abbrev pub slices_from : Value → (List Value → List Due) → List Value → List Due
slices_from a after [] = Plain A a ∷ after []
slices_from a after (b ∷ bs) = next_slice (value_cmp a b) a b (after (b ∷ bs)) (after bs) (slices_from a after bs)

-- The values in either of two ascending directories, ascending: one in A's or B's alone is a plain unit of that site, one in
-- both a secure unit.
abbrev pub slices : List Value → List Value → List Due
slices [] bs = map (Plain B) bs
slices (a ∷ more) bs = slices_from a (slices more) bs

abbrev pub all_slices : List Dirs → List Due
all_slices dirs = flat_map (λ d. slices d.a d.b) dirs

-- A site's view has the units of the segments in order, and then the root. The broker's has the root's outputs alone.
abbrev pub dues_of : Party → List Dirs → List Due
dues_of parties.A dirs = all_slices dirs ++ Root ∷ []
dues_of parties.B dirs = all_slices dirs ++ Root ∷ []
dues_of parties.Broker dirs = Outputs ∷ []

-- the number of a view's first unit: the broker's is the root, which stands after all units of the segments
abbrev pub first_number : Party → List Dirs → ℕ
first_number parties.A dirs = 0
first_number parties.B dirs = 0
first_number parties.Broker dirs = length (all_slices dirs)

-- ---- which views have a text

-- strictly, and of one kind
abbrev pub ascends_from : Value → List Value → Bool
ascends_from v [] = true
ascends_from v (w ∷ ws) = (eqb (kind_of v) (kind_of w) && nat_lt (number_of v) (number_of w)) && ascends_from w ws

abbrev pub ascends : List Value → Bool
ascends [] = true
ascends (v ∷ vs) = ascends_from v vs

abbrev pub IsValue : Value → Type 0
IsValue (value.Int n) = n < 2 ^ 32
IsValue (value.Code c) = IsCodeNumber c

pub record IsDirectory (vs : List Value) : Type 0 where
  pub order : ascends vs ≡ true
  pub values : AllByRecursion IsValue vs

pub record AreDirs (d : Dirs) : Type 0 where
  pub a : IsDirectory d.a
  pub b : IsDirectory d.b

abbrev pub IsWord : ℕ → Type 0
IsWord w = w < 2 ^ 64

pub record IsGate (g : GateView) : Type 0 where
  pub a : IsWord g.a
  pub b : IsWord g.b
  pub c : IsWord g.c
  pub d : IsWord g.d
  pub e : IsWord g.e

pub record AreWords (w : UnitWords) : Type 0 where
  pub own : AllByRecursion IsWord w.own
  pub other : AllByRecursion IsWord w.other
  pub gates : AllByRecursion IsGate w.gates
  pub masks : AllByRecursion IsWord w.masks

-- a site's directory of a segment
abbrev pub dir_of : Site → Dirs → List Value
dir_of A d = d.a
dir_of B d = d.b

-- a unit that a site runs with the other
abbrev pub IsRun : Due → Type 0
IsRun (Plain site v) = ⊥
IsRun (Secure v) = Unit {0}
IsRun Root = Unit {0}
IsRun Outputs = ⊥

-- how many words a unit may have: a plain one none, a secure one no masks; of the root's outputs each site has one
abbrev pub Fits : Due → Counts → Type 0
Fits (Plain site v) c = c ≡ no_counts
Fits (Secure v) c = c.masks ≡ 0
Fits Root c = Unit {0}
Fits Outputs c = c ≡ record { own = c.own; other = c.own; ands = 0; masks = 0 }

pub record AreCounts (c : Counts) : Type 0 where
  pub own : c.own < 2 ^ 64
  pub other : c.other < 2 ^ 64
  pub ands : c.ands < 2 ^ 64
  pub masks : c.masks < 2 ^ 64

pub record IsPart (p : Part) : Type 0 where
  pub fits : Fits p.due (counts_of p.words)
  pub counts : AreCounts (counts_of p.words)
  pub words : AreWords p.words

pub record IsView (v : ViewWords) : Type 0 where
  pub ticket : v.ticket < 2 ^ 64
  pub dirs : AllByRecursion AreDirs v.dirs
  pub units : AllByRecursion IsPart v.units
  pub dues : map (λ p. p.due) v.units ≡ dues_of v.party v.dirs
