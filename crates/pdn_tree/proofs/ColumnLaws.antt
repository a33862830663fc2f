-- What renaming, cutting and joining do to a row's cells.
use Rattle.std.proofs.Common.{◌≡◌, ℕ, ◌+◌, ◌<◌, Bool, true, false, ◌&&◌, ◌||◌, ◌==◌, List, [], ◌∷◌, ◌++◌, map, length, sym, refl, ap, ap₂, ◌∙◌, subst, arith, eqb-true}
use Rattle.std.specs.List.{list_any, AllByRecursion}
use Rattle.std.proofs.lemmas.List.{get_or_append_left, get_or-append-add}
use Rattle.pdn_base.specs.declared.value.Value.{Value}
use Rattle.pdn_base.specs.declared.value.Value.TheVariants as value
use Rattle.pdn_base.specs.declared.cond.Operand.{Operand}
use Rattle.pdn_base.specs.declared.cond.Operand.TheVariants as operand
use Rattle.pdn_base.specs.declared.cond.Cmp.{Cmp}
use Rattle.pdn_base.specs.Values.{cell, cut}
use Rattle.pdn_base.specs.Conditions.{plus, operand_value, compares, cmp_true, clause_true, meets}
use Rattle.pdn_tree.specs.Columns.{Clauses, operand_at, cmp_at, clauses_at, OperandNames, CmpNames, Names, place_in, Has, shifted, Below}

-- a cell of one row is the cell of another at its new place
abbrev pub Moves : (ℕ → ℕ) → List Value → List Value → ℕ → Type 0
Moves f row row' column = cell row' (f column) ≡ cell row column

operand-at : (f : ℕ → ℕ) (row row' : List Value) (o : Operand) → OperandNames (Moves f row row') o → operand_value (operand_at f o) row' ≡ operand_value o row
operand-at f row row' (operand.Term t) h = ap (plus t.plus) h
operand-at f row row' (operand.Int n) h = refl
operand-at f row row' (operand.Code c) h = refl

cmp-at : (f : ℕ → ℕ) (row row' : List Value) (c : Cmp) → CmpNames (Moves f row row') c → cmp_true row' (cmp_at f c) ≡ cmp_true row c
cmp-at f row row' c h = ap₂ (compares c.op) (ap (plus c.left.plus) h.0) (operand-at f row row' c.right h.1)

any-at : (f : ℕ → ℕ) (row row' : List Value) (cs : List Cmp) → AllByRecursion (CmpNames (Moves f row row')) cs → list_any (cmp_true row') (map (cmp_at f) cs) ≡ list_any (cmp_true row) cs
any-at f row row' [] h = refl
any-at f row row' (c ∷ cs) h = ap₂ (λ a b. a || b) (cmp-at f row row' c h.0) (any-at f row row' cs h.1)

-- renamed clauses hold of a row where the old ones hold of the old row
pub meets-at : (f : ℕ → ℕ) (row row' : List Value) (cs : Clauses) → Names (Moves f row row') cs → meets (clauses_at f cs) row' ≡ meets cs row
meets-at f row row' [] h = refl
meets-at f row row' (c ∷ cs) h = ap₂ (λ a b. a && b) (any-at f row row' c h.0) (meets-at f row row' cs h.1)

-- what is known of each column that is named
pub names-weaker : (P Q : ℕ → Type 0) → ((c : ℕ) → P c → Q c) → (cs : Clauses) → Names P cs → Names Q cs
names-weaker P Q w cs h = clauses cs h
  where
    operand' : (o : Operand) → OperandNames P o → OperandNames Q o
    operand' (operand.Term t) h = w t.column h
    operand' (operand.Int n) h = tt
    operand' (operand.Code c) h = tt

    cmps : (cs : List Cmp) → AllByRecursion (CmpNames P) cs → AllByRecursion (CmpNames Q) cs
    cmps [] h = h
    cmps (c ∷ cs) h = ((w c.left.column h.0.0, operand' c.right h.0.1), cmps cs h.1)

    clauses : (cs : Clauses) → Names P cs → Names Q cs
    clauses [] h = h
    clauses (c ∷ cs) h = (cmps c h.0, clauses cs h.1)

pub meets-append : (cs ds : Clauses) (row : List Value) → meets (cs ++ ds) row ≡ (meets cs row && meets ds row)
meets-append [] ds row = refl
meets-append (c ∷ cs) ds row = and_first (clause_true row c) _ _ _ (meets-append cs ds row)
  where
    and_first : (a b c d : Bool) → b ≡ (c && d) → (a && b) ≡ ((a && c) && d)
    and_first true b c d e = e
    and_first false b c d e = refl

-- cells of joined rows
pub cell-left : (w : ℕ) (a b : List Value) → length a ≡ w → (c : ℕ) → c < w → cell (a ++ b) c ≡ cell a c
cell-left w a b e c h = get_or_append_left a b (value.Int 0) c (omega arith)

pub cell-right : (w : ℕ) (a b : List Value) → length a ≡ w → (c : ℕ) → cell (a ++ b) (w + c) ≡ cell b c
cell-right w a b e c = subst (λ (n : ℕ). cell (a ++ b) (n + c) ≡ cell b c) e (get_or-append-add a b c (value.Int 0))

pub cut-append : (ks ms : List ℕ) (row : List Value) → cut (ks ++ ms) row ≡ cut ks row ++ cut ms row
cut-append [] ms row = refl
cut-append (k ∷ ks) ms row = ap (λ zs. cell row k ∷ zs) (cut-append ks ms row)

cut-left : (w : ℕ) (a b : List Value) → length a ≡ w → (ks : List ℕ) → Below w ks → cut ks (a ++ b) ≡ cut ks a
cut-left w a b e [] h = refl
cut-left w a b e (k ∷ ks) h = ap₂ (λ z zs. z ∷ zs) (cell-left w a b e k h.0) (cut-left w a b e ks h.1)

cut-right : (w : ℕ) (a b : List Value) → length a ≡ w → (ms : List ℕ) → cut (shifted w ms) (a ++ b) ≡ cut ms b
cut-right w a b e [] = refl
cut-right w a b e (m ∷ ms) = ap₂ (λ z zs. z ∷ zs) (cell-right w a b e m) (cut-right w a b e ms)

-- what is kept of two rows side by side
pub cut-joined : (w : ℕ) (a b : List Value) → length a ≡ w → (ks ms : List ℕ) → Below w ks → cut (ks ++ shifted w ms) (a ++ b) ≡ cut ks a ++ cut ms b
cut-joined w a b e ks ms h = cut-append ks (shifted w ms) (a ++ b) ∙ ap₂ (λ x y. x ++ y) (cut-left w a b e ks h) (cut-right w a b e ms)

place_step : (k c : ℕ) (ks : List ℕ) (row : List Value) → (Has ks c → cell (cut ks row) (place_in ks c) ≡ cell row c) → Has (k ∷ ks) c → (b : Bool) → (k == c) ≡ b → cell (cut (k ∷ ks) row) (place_in (k ∷ ks) c) ≡ cell row c
place_step k c ks row next h true e = rw e (ap (cell row) (omega (arith, eqb-true k c e)))
place_step k c ks row next h false e = rw e (next (rw e at h))

-- a column that is kept stands at its place
pub cell-cut : (kept : List ℕ) (row : List Value) (c : ℕ) → Has kept c → cell (cut kept row) (place_in kept c) ≡ cell row c
cell-cut [] row c h = absurd cc
cell-cut (k ∷ ks) row c h = place_step k c ks row (cell-cut ks row c) h (k == c) refl

pub cut-cut : (kept columns : List ℕ) (row : List Value) → AllByRecursion (Has kept) columns → cut (map (place_in kept) columns) (cut kept row) ≡ cut columns row
cut-cut kept [] row h = refl
cut-cut kept (c ∷ cs) row h = ap₂ (λ z zs. z ∷ zs) (cell-cut kept row c h.0) (cut-cut kept cs row h.1)

-- what is known of every column
pub all_names : {P : ℕ → Type 0} → ((c : ℕ) → P c) → (cs : Clauses) → Names P cs
all_names {P} h cs = clauses cs
  where
    operand' : (o : Operand) → OperandNames P o
    operand' (operand.Term t) = h t.column
    operand' (operand.Int n) = tt
    operand' (operand.Code c) = tt

    cmps : (cs : List Cmp) → AllByRecursion (CmpNames P) cs
    cmps [] = tt
    cmps (c ∷ cs) = ((h c.left.column, operand' c.right), cmps cs)

    clauses : (cs : Clauses) → Names P cs
    clauses [] = tt
    clauses (c ∷ cs) = (cmps c, clauses cs)

-- a renaming that changes nothing
operand-same : (o : Operand) → operand_at (λ c. c) o ≡ o
operand-same (operand.Term t) = refl
operand-same (operand.Int n) = refl
operand-same (operand.Code c) = refl

cmps-same : (cs : List Cmp) → map (cmp_at (λ c. c)) cs ≡ cs
cmps-same [] = refl
cmps-same (c ∷ cs) = ap₂ (λ d ds. d ∷ ds) (ap (λ o. record c { right = o }) (operand-same c.right)) (cmps-same cs)

clauses-same : (cs : Clauses) → clauses_at (λ c. c) cs ≡ cs
clauses-same [] = refl
clauses-same (c ∷ cs) = ap₂ (λ d ds. d ∷ ds) (cmps-same c) (clauses-same cs)

-- clauses on the left row alone
pub meets-left : (w : ℕ) (a b : List Value) → length a ≡ w → (cs : Clauses) → Names (λ c. c < w) cs → meets cs (a ++ b) ≡ meets cs a
meets-left w a b e cs h = ap (λ ds. meets ds (a ++ b)) (sym (clauses-same cs)) ∙ meets-at (λ c. c) a (a ++ b) cs (names-weaker _ _ (λ c k. cell-left w a b e c k) cs h)

pub names-append : (P : ℕ → Type 0) (cs ds : Clauses) → Names P cs → Names P ds → Names P (cs ++ ds)
names-append P [] ds h k = k
names-append P (c ∷ cs) ds h k = (h.0, names-append P cs ds h.1 k)

operand_names-at : (P : ℕ → Type 0) (f : ℕ → ℕ) (o : Operand) → OperandNames (λ c. P (f c)) o → OperandNames P (operand_at f o)
operand_names-at P f (operand.Term t) h = h
operand_names-at P f (operand.Int n) h = tt
operand_names-at P f (operand.Code c) h = tt

cmp_names-at : (P : ℕ → Type 0) (f : ℕ → ℕ) (cs : List Cmp) → AllByRecursion (CmpNames (λ c. P (f c))) cs → AllByRecursion (CmpNames P) (map (cmp_at f) cs)
cmp_names-at P f [] h = tt
cmp_names-at P f (c ∷ cs) h = ((h.0.0, operand_names-at P f c.right h.0.1), cmp_names-at P f cs h.1)

pub names-at : (P : ℕ → Type 0) (f : ℕ → ℕ) (cs : Clauses) → Names (λ c. P (f c)) cs → Names P (clauses_at f cs)
names-at P f [] h = tt
names-at P f (c ∷ cs) h = (cmp_names-at P f c h.0, names-at P f cs h.1)
