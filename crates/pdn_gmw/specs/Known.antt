-- What a half has at hand, and how the shares of one depth come of those below it.
use Rattle.std.specs.Prelude.{◌≡◌, ℕ, ◌<◌, ◌≤◌, true, List, [], ◌∷◌, length, take, map, slice_index, slice_index_or, slice_set}
use Rattle.std.specs.List.{fold, count_by, range_with_len}
use Rattle.pdn_base.specs.declared.site.Site.{Site}
use Rattle.pdn_base.specs.Words.{◌⊕◌, spread, moved}
use Rattle.pdn_circuit.specs.declared.gate.Gate.{Gate}
use Rattle.pdn_circuit.specs.declared.gate.Gate.TheVariants.{Input, Given, Const, Xor, And, Spread, Move}
use Rattle.pdn_circuit.specs.Gates.{Net, is_input, input_count, given_count}
use Rattle.pdn_circuit.specs.Depths.{depths_of}
use Rattle.pdn_dealer.specs.declared.parts.Triple.{Triple}
use Rattle.pdn_dealer.specs.Sections.{r_count}
use Rattle.pdn_gmw.specs.Shares.{Masked, GateView, r_here}
use Rattle.pdn_gmw.specs.Halves.{HalfWords, half_input, half_const, half_product, half_walk, IsOwn}
use Rattle.pdn_gmw.specs.Layers.{LayerAnd, Leaf, gate_at, layer_of}

-- a half's words, all but the triples, which stand in its views
pub record HeldWords : Type 0 where
  pub site : Site
  pub own : List ℕ
  pub given : List ℕ
  pub r : List ℕ
  pub masks : List ℕ

abbrev pub no_view : GateView
no_view = record { a = 0; b = 0; c = 0; d = 0; e = 0 }

abbrev pub view_at : List GateView → ℕ → GateView
view_at views k = slice_index_or views k no_view

abbrev pub own_triple : GateView → Triple
own_triple v = record { a = v.a; b = v.b; c = v.c }

abbrev pub received : GateView → Masked
received v = record { d = v.d; e = v.e }

abbrev pub held : HeldWords → List GateView → HalfWords
held h views = record { site = h.site; own = h.own; given = h.given; part = record { r = h.r; triples = map own_triple views; masks = h.masks } }

-- a view before anything was received
abbrev pub unheard : Triple → GateView
unheard t = record { a = t.a; b = t.b; c = t.c; d = 0; e = 0 }

-- ---- gates that read no other
abbrev pub leaf_share : HeldWords → ℕ → Gate → ℕ
leaf_share h inputs (Input site index) = half_input h.site site (slice_index h.own index) (slice_index h.r inputs)
leaf_share h inputs (Given index) = slice_index h.given index
leaf_share h inputs (Const word) = half_const h.site word
leaf_share h inputs (Xor x y) = 0
leaf_share h inputs (And x y) = 0
leaf_share h inputs (Spread x lane) = 0
leaf_share h inputs (Move x from count to) = 0

abbrev pub CanLeaf : HeldWords → ℕ → Gate → Type 0
CanLeaf h inputs (Input site index) = IsOwn h.site site index (length h.own) × (inputs < length h.r)
CanLeaf h inputs (Given index) = index < length h.given
CanLeaf h inputs (Const word) = Unit {0}
CanLeaf h inputs (Xor x y) = Unit {0}
CanLeaf h inputs (And x y) = Unit {0}
CanLeaf h inputs (Spread x lane) = Unit {0}
CanLeaf h inputs (Move x from count to) = Unit {0}

abbrev pub leaf_at : HeldWords → List Gate → ℕ → ℕ
leaf_at h gates k = leaf_share h (count_by is_input (take k gates)) (gate_at gates k)

-- a leaf's share goes to its place
abbrev pub leaf_settled : HeldWords → List ℕ → Leaf → List ℕ
leaf_settled h shares leaf = slice_set shares leaf.at (leaf_share h leaf.inputs leaf.gate)

-- what is read at these leaves is there
abbrev pub LeavesThere : HeldWords → ℕ → List Leaf → Type 0
LeavesThere h len leaves = (m : ℕ) (other : Leaf) → m < length leaves
    → ((slice_index_or leaves m other).at < len) × CanLeaf h (slice_index_or leaves m other).inputs (slice_index_or leaves m other).gate

-- the word r of a leaf that is an Input gate of this site
abbrev pub leaf_r : Site → List ℕ → Leaf → List ℕ
leaf_r site r leaf = r_here site leaf.gate (slice_index r leaf.inputs)

abbrev pub MasksThere : List ℕ → List Leaf → Type 0
MasksThere r leaves = (m : ℕ) (other : Leaf) → m < length leaves → is_input (slice_index_or leaves m other).gate ≡ true → (slice_index_or leaves m other).inputs < length r

pub record HasLeaves (net : Net) (h : HeldWords) : Type 0 where
  pub own : length h.own ≡ input_count h.site net.gates
  pub given : length h.given ≡ given_count net.gates
  pub r : length h.r ≡ r_count net

-- ---- And gates of one depth
abbrev pub AndThere : ℕ → ℕ → LayerAnd → Type 0
AndThere views shares s = (s.number < views) × (s.gate < shares) × (s.x < shares) × (s.y < shares)

abbrev pub AndsThere : List LayerAnd → ℕ → ℕ → Type 0
AndsThere ands views shares = (m : ℕ) (other : LayerAnd) → m < length ands → AndThere views shares (slice_index_or ands m other)

-- what goes out for an And gate
abbrev pub and_sends : List GateView → List ℕ → LayerAnd → Masked
and_sends views shares s = record { d = slice_index shares s.x ⊕ (view_at views s.number).a; e = slice_index shares s.y ⊕ (view_at views s.number).b }

-- what came in goes to the views of its And gates
abbrev pub heard_by : List LayerAnd → List ℕ → List GateView → List GateView
heard_by [] frame views = views
heard_by (s ∷ ss) [] views = views
heard_by (s ∷ ss) (d ∷ []) views = views
heard_by (s ∷ ss) (d ∷ e ∷ frame) views = heard_by ss frame (slice_set views s.number (record (view_at views s.number) { d = d; e = e }))

-- the share of an And gate, once the other side's words are there
abbrev pub and_share : Site → List GateView → List ℕ → LayerAnd → ℕ
and_share site views shares s =
    let v = view_at views s.number in
    let mine = and_sends views shares s in
    half_product site (own_triple v) (mine.d ⊕ v.d) (mine.e ⊕ v.e)

-- the same put in its place, where the operands' shares are these
abbrev pub and_put : Site → List GateView → List ℕ → List ℕ → LayerAnd → List ℕ
and_put site views before shares s = slice_set shares s.gate (and_share site views before s)

-- the shares of And gates, from both frames and the triples of the views
abbrev pub settled_by : Site → List GateView → List LayerAnd → List ℕ → List ℕ → List ℕ → List ℕ
settled_by site views [] sent heard shares = shares
settled_by site views (s ∷ ss) [] heard shares = shares
settled_by site views (s ∷ ss) (d ∷ []) heard shares = shares
settled_by site views (s ∷ ss) (d ∷ e ∷ sent) [] shares = shares
settled_by site views (s ∷ ss) (d ∷ e ∷ sent) (d' ∷ []) shares = shares
settled_by site views (s ∷ ss) (d ∷ e ∷ sent) (d' ∷ e' ∷ heard) shares =
    settled_by site views ss sent heard (slice_set shares s.gate (half_product site (own_triple (view_at views s.number)) (d ⊕ d') (e ⊕ e')))

-- ---- gates whose shares come of shares alone
abbrev pub linear_share : List ℕ → Gate → ℕ
linear_share shares (Xor x y) = slice_index shares x ⊕ slice_index shares y
linear_share shares (Spread x lane) = spread (slice_index shares x) lane
linear_share shares (Move x from count to) = moved (slice_index shares x) from count to
linear_share shares (Input site index) = 0
linear_share shares (Given index) = 0
linear_share shares (Const word) = 0
linear_share shares (And x y) = 0

abbrev pub linear_settled : List Gate → List ℕ → ℕ → List ℕ
linear_settled gates shares k = slice_set shares k (linear_share shares (gate_at gates k))

-- the shares of depth 0, and zero at the others
abbrev pub first_shares : HeldWords → List Gate → List ℕ
first_shares h gates = fold (linear_settled gates) (map (leaf_at h gates) (range_with_len 0 (length gates))) (layer_of gates 0).rest

-- ---- the shares of all gates up to a depth are there
abbrev pub KnownTo : HalfWords → List Masked → List Gate → ℕ → List ℕ → Type 0
KnownTo half heard gates n shares = (j : ℕ) → j < length gates → slice_index (depths_of gates) j ≤ n → slice_index shares j ≡ slice_index (half_walk half heard gates).shares j
