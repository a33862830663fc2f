-- The tree of a block's sources is sound where its parts are, and gives the kinds of the columns that are kept.
use Rattle.std.proofs.Common.{◌≡◌, ℕ, ◌+◌, ◌<◌, ◌≤◌, Bool, true, false, nat_le, cond, List, [], ◌∷◌, ◌++◌, length, sym, refl, ap, ap₂, ◌∙◌, subst, arith, zero-add, length-append, le-leb, leb-true}
use Rattle.std.specs.Str.{bytes_eq}
use Rattle.std.proofs.lemmas.Slice.Eq.{bytes_eq-Decides}
use Rattle.std.specs.List.{range_with_len}
use Rattle.std.proofs.lemmas.List.{length-map}
use Rattle.pdn_base.specs.declared.marks.Kind.{Kind}
use Rattle.pdn_schema.specs.Models.{SchemaModel}
use Rattle.pdn_tree.specs.declared.node.Node.{Node}
use Rattle.pdn_tree.specs.declared.node.Node.TheVariants as node
use Rattle.pdn_tree.specs.Columns.{Clauses, clauses_at, place_in, shifted, Names, Has, Below}
use Rattle.pdn_plan.specs.Splitting.{Part}
use Rattle.pdn_plan.specs.Planning.{filtered, cut_to, part_node, joins_node, sources_node, distinct_if}
use Rattle.pdn_tree.specs.Shapes.{has_join, kind_at, cond_fits}
use Rattle.pdn_plan.proofs.Blocks.{kept_so_far}
use Rattle.pdn_tree.proofs.ColumnLaws.{names-weaker}
use Rattle.pdn_plan.proofs.Pushing.{below-both}
use Rattle.pdn_plan.proofs.Chosen.{shifted-zero}
use Rattle.pdn_tree.proofs.ShapeLaws.{Gives, gives-Filter, gives-Project, gives-Join, gives-Distinct, join-Filter, join-Project}
use Rattle.pdn_plan.proofs.KindLaws.{kinds_of, kinds-joined, kinds-all, all-within, kept-below, kept-kind, carries, cond-moved}

-- ---- a Filter and a Project that may be left out

pub gives-filtered : (schema : SchemaModel) (n : Node) (ks : List Kind) (cs : Clauses) → Gives schema n ks → cond_fits ks cs ≡ true → Gives schema (filtered cs n) ks
gives-filtered schema n ks [] h e = h
gives-filtered schema n ks (c ∷ cs) h e = gives-Filter schema n ks (c ∷ cs) h e

pub gives-cut : (schema : SchemaModel) (n : Node) (ks : List Kind) (width : ℕ) (columns : List ℕ) → Gives schema n ks → length ks ≡ width → Below width columns → nat_le (length columns) 16 ≡ true
    → Gives schema (cut_to width columns n) (kinds_of ks columns)
gives-cut schema n ks width columns h long below few = one (bytes_eq columns (range_with_len 0 width)) refl
  where
    one : (b : Bool) → bytes_eq columns (range_with_len 0 width) ≡ b → Gives schema (cond b n (node.Project n columns)) (kinds_of ks columns)
    one true e = subst (λ (ms : List Kind). Gives schema n ms)
        (sym (ap (kinds_of ks) ((bytes_eq-Decides columns (range_with_len 0 width)).0 e ∙ ap (range_with_len 0) (sym long)) ∙ kinds-all ks)) h
    one false e = gives-Project schema n ks columns h (all-within ks columns (subst (λ (w : ℕ). Below w columns) (sym long) below)) few

pub gives-distinct : (schema : SchemaModel) (b : Bool) (n : Node) (ks : List Kind) → Gives schema n ks → Gives schema (distinct_if b n) ks
gives-distinct schema true n ks h = gives-Distinct schema n ks h
gives-distinct schema false n ks h = h

pub join-filtered : (cs : Clauses) (n : Node) → has_join (filtered cs n) ≡ has_join n
join-filtered [] n = refl
join-filtered (c ∷ cs) n = join-Filter n (c ∷ cs)

pub join-cut : (width : ℕ) (columns : List ℕ) (n : Node) → has_join (cut_to width columns n) ≡ has_join n
join-cut width columns n = one (bytes_eq columns (range_with_len 0 width))
  where
    one : (b : Bool) → has_join (cond b n (node.Project n columns)) ≡ has_join n
    one true = refl
    one false = join-Project n columns

pub join-part : (p : Part) → has_join (part_node p) ≡ has_join p.plan
join-part p = join-cut p.width p.keep (filtered p.local p.plan) ∙ join-filtered p.local p.plan

-- ---- the parts

-- what a part of these kinds needs of the columns before it, of which there are w, and of those of them that are kept
pub record PartFits (schema : SchemaModel) (w : ℕ) (before : List Kind) (kept : List ℕ) (own : List Kind) (p : Part) : Type 0 where
  pub plan : Gives schema p.plan own
  pub long : length own ≡ p.width
  pub keeps : Below p.width p.keep
  pub local : cond_fits own p.local ≡ true
  pub on : cond_fits (before ++ own) p.on ≡ true
  pub on_kept : Names (λ c. Has (kept ++ shifted w p.keep) c × (c < w + p.width)) p.on

-- all parts, of these kinds together
abbrev pub PartsFit : SchemaModel → List Kind → ℕ → List Kind → List ℕ → List Part → Type 0
PartsFit schema all w before kept [] = before ≡ all
PartsFit schema all w before kept (p ∷ ps) = (own : List Kind) × PartFits schema w before kept own p × PartsFit schema all (w + p.width) (before ++ own) (kept ++ shifted w p.keep) ps

few-left : {X : Type 0} (xs ys : List X) → nat_le (length (xs ++ ys)) 16 ≡ true → nat_le (length xs) 16 ≡ true
few-left xs ys e = let long : length (xs ++ ys) ≤ 16 = leb-true (length (xs ++ ys)) 16 e in le-leb (length xs) 16 (omega (arith, long, length-append xs ys))

few-right : {X : Type 0} (xs ys : List X) → nat_le (length (xs ++ ys)) 16 ≡ true → nat_le (length ys) 16 ≡ true
few-right xs ys e = let long : length (xs ++ ys) ≤ 16 = leb-true (length (xs ++ ys)) 16 e in le-leb (length ys) 16 (omega (arith, long, length-append xs ys))

-- what is kept in the end is more than what is kept before
few-so-far : (ps : List Part) (w : ℕ) (kept : List ℕ) → nat_le (length (kept_so_far w kept ps)) 16 ≡ true → nat_le (length kept) 16 ≡ true
few-so-far [] w kept e = e
few-so-far (p ∷ ps) w kept e = few-left kept (shifted w p.keep) (few-so-far ps (w + p.width) (kept ++ shifted w p.keep) e)

few-shifted : (w : ℕ) (columns : List ℕ) → nat_le (length (shifted w columns)) 16 ≡ true → nat_le (length columns) 16 ≡ true
few-shifted w columns e = ap (λ n. nat_le n 16) (sym (length-map columns (λ c. w + c))) ∙ e

part-gives : (schema : SchemaModel) (w : ℕ) (before : List Kind) (kept : List ℕ) (own : List Kind) (p : Part) → PartFits schema w before kept own p → nat_le (length p.keep) 16 ≡ true
    → Gives schema (part_node p) (kinds_of own p.keep)
part-gives schema w before kept own p h few =
    gives-cut schema (filtered p.local p.plan) own p.width p.keep (gives-filtered schema p.plan own p.local h.plan h.local) h.long h.keeps few

-- conditions on columns that are kept, by their places among them
pub cond-kept : (ks : List Kind) (kept : List ℕ) (cs : Clauses) → Names (λ c. Has kept c × (c < length ks)) cs → cond_fits ks cs ≡ true → cond_fits (kinds_of ks kept) (clauses_at (place_in kept) cs) ≡ true
cond-kept ks kept cs names e =
    cond-moved (place_in kept) ks (kinds_of ks kept) cs
    (names-weaker _ _ (λ c h. carries (place_in kept) ks (kinds_of ks kept) c h.1
    (subst (λ (n : ℕ). place_in kept c < n) (sym (length-map kept (kind_at ks))) (kept-below kept c h.0)) (kept-kind ks kept c h.0)) cs names)
    ∙ e

-- one more part
join-gives : (schema : SchemaModel) (w : ℕ) (before : List Kind) (kept : List ℕ) (own : List Kind) (p : Part) (n : Node) → length before ≡ w → Below w kept
    → Gives schema n (kinds_of before kept) → PartFits schema w before kept own p → nat_le (length (kept ++ shifted w p.keep)) 16 ≡ true
    → Gives schema (node.Join n (part_node p) (clauses_at (place_in (kept ++ shifted w p.keep)) p.on)) (kinds_of (before ++ own) (kept ++ shifted w p.keep))
join-gives schema w before kept own p n long below h fit few =
    let all : List ℕ = kept ++ shifted w p.keep in
    let on : Clauses = clauses_at (place_in all) p.on in
    let right : Gives schema (part_node p) (kinds_of own p.keep) = part-gives schema w before kept own p fit (few-shifted w p.keep (few-right kept (shifted w p.keep) few)) in
    let sides : kinds_of before kept ++ kinds_of own p.keep ≡ kinds_of (before ++ own) all = kinds-joined before own w kept p.keep long below in
    let width : length (before ++ own) ≡ w + p.width = omega (arith, length-append before own, long, fit.long) in
    let fits : cond_fits (kinds_of (before ++ own) all) on ≡ true = cond-kept (before ++ own) all p.on (subst (λ (v : ℕ). Names (λ c. Has all c × (c < v)) p.on) (sym width) fit.on_kept) fit.on in
    subst (λ (ms : List Kind). Gives schema (node.Join n (part_node p) on) ms) sides
    (gives-Join schema n (part_node p) (kinds_of before kept) (kinds_of own p.keep) on h right
    (subst (λ (ms : List Kind). cond_fits ms on ≡ true) (sym sides) fits)
    (subst (λ (ms : List Kind). nat_le (length ms) 16 ≡ true) (sym sides) (ap (λ v. nat_le v 16) (length-map all (kind_at (before ++ own))) ∙ few)))

joins-give : (schema : SchemaModel) (all : List Kind) (ps : List Part) (w : ℕ) (before : List Kind) (kept : List ℕ) (n : Node) → length before ≡ w → Below w kept
    → Gives schema n (kinds_of before kept) → PartsFit schema all w before kept ps → nat_le (length (kept_so_far w kept ps)) 16 ≡ true
    → Gives schema (joins_node w kept n ps) (kinds_of all (kept_so_far w kept ps))
joins-give schema all [] w before kept n long below h fit few = subst (λ (ks : List Kind). Gives schema n (kinds_of ks kept)) fit h
joins-give schema all (p ∷ ps) w before kept n long below h fit few =
    let own : List Kind = fit.0 in
    joins-give schema all ps (w + p.width) (before ++ own) (kept ++ shifted w p.keep) _
    (omega (arith, length-append before own, long, fit.1.long))
    (below-both w p.width kept p.keep below fit.1.keeps)
    (join-gives schema w before kept own p n long below h fit.1 (few-so-far ps (w + p.width) (kept ++ shifted w p.keep) few))
    fit.2 few

-- the tree of all sources
pub sources-give : (schema : SchemaModel) (all : List Kind) (p : Part) (ps : List Part) → PartsFit schema all 0 [] [] (p ∷ ps) → nat_le (length (kept_so_far 0 [] (p ∷ ps))) 16 ≡ true
    → Gives schema (sources_node (p ∷ ps)) (kinds_of all (kept_so_far 0 [] (p ∷ ps)))
sources-give schema all p ps fit few =
    let own : List Kind = fit.0 in
    let zero_w : 0 + p.width ≡ p.width = zero-add p.width in
    let zero_k : shifted 0 p.keep ≡ p.keep = shifted-zero p.keep in
    let few' : nat_le (length (kept_so_far p.width p.keep ps)) 16 ≡ true = ap₂ (λ w ks. nat_le (length (kept_so_far w ks ps)) 16) (sym zero_w) (sym zero_k) ∙ few in
    let rest : PartsFit schema all p.width own p.keep ps = subst (λ (ks : List ℕ). PartsFit schema all p.width own ks ps) zero_k (subst (λ (w : ℕ). PartsFit schema all w own (shifted 0 p.keep) ps) zero_w fit.2) in
    subst (λ (ks : List ℕ). Gives schema (sources_node (p ∷ ps)) (kinds_of all ks)) (ap₂ (λ w ks. kept_so_far w ks ps) (sym zero_w) (sym zero_k))
    (joins-give schema all ps p.width own p.keep (part_node p) fit.1.long fit.1.keeps (part-gives schema 0 [] [] own p fit.1 (few-so-far ps p.width p.keep few')) rest few')
