-- The units of both sites' directories give their segment.
use Rattle.std.proofs.Common.{◌≡◌, ℕ, ◌≤◌, Bool, true, false, ◌||◌, cond, List, [], ◌∷◌, ◌++◌, get_or, map, refl, sym, ap, ap₂, ◌∙◌, subst, arith}
use Rattle.std.specs.List.{AllByRecursion, flat_map}
use Rattle.std.specs.Ordering.{is_eq}
use Rattle.std.proofs.lemmas.Cmp.{tied_itself}
use Rattle.pdn_base.specs.declared.site.Site.TheVariants.{A, B}
use Rattle.pdn_base.specs.declared.value.Value.{Value}
use Rattle.pdn_base.specs.Totals.{value_cmp-total}
use Rattle.pdn_base.specs.Values.{cell, same_row}
use Rattle.pdn_base.specs.Operators.{Rows, SameRows}
use Rattle.pdn_base.proofs.BagLaws.{SameBag-refl}
use Rattle.pdn_schema.specs.Models.{SchemaModel}
use Rattle.pdn_schema.specs.Rows.{union}
use Rattle.pdn_tree.specs.declared.node.Node.{Node}
use Rattle.pdn_tree.specs.Meaning.{mean}
use Rattle.pdn_tree.specs.Meaning.{table_of as rows_of}
use Rattle.pdn_tree.specs.Shapes.{kinds, shape}
use Rattle.pdn_level.specs.declared.staged.Leaf.{Leaf}
use Rattle.pdn_level.specs.Links.{slice_at}
use Rattle.pdn_level.specs.Slices.{Followed, slices}
use Rattle.pdn_level.specs.Levels.{leaves_of}
use Rattle.pdn_level.specs.Padding.{Padding}
use Rattle.pdn_level.specs.Cutting.{mean_at, slice_column, HasOne, HaveEach}
use Rattle.pdn_level.proofs.Tracks.{survey_track}
use Rattle.pdn_level.proofs.Sums.{slices_add}
use Rattle.pdn_level.proofs.TableBounds.{union_wide}
use Rattle.pdn_level.proofs.PaddingLaws.{within_one}
use Rattle.pdn_site.specs.declared.unit.UnitKind.{UnitKind}
use Rattle.pdn_site.specs.declared.unit.UnitKind.TheVariants.{Plain, Secure, Root}
use Rattle.pdn_site.specs.Models.{Dirs}
use Rattle.pdn_site.specs.Directories.{traced_by, traced, stands_in, unit_values, kind_of}
use Rattle.pdn_site.specs.Lists.{sized}
use Rattle.pdn_site.specs.SiteRows.{Slice, plain_rows}
use Rattle.pdn_site.specs.Meaning.{AreTables}
use Rattle.pdn_site.specs.RootMeaning.{PlainMeans, UnitGives, SegmentGives}
use Rattle.pdn_site.specs.DirectoryMeaning.{unit_len, unit_slices, both_dirs, UnitStands, DirectoriesMean}
use Rattle.pdn_site.proofs.RowLists.{all_append}
use Rattle.pdn_site.proofs.Ascending.{Asc, ascending_asc, stands_ascending, stands_left, stands_right, once}
use Rattle.pdn_site.proofs.PlainUnits.{alone_a, alone_b, same_meaning}
use Rattle.pdn_site.proofs.PlainKinds.{sized_padding, plain_kinds}

-- ---- each value of a traced column, once
stands_first : (x : Value) (xs : List Value) → stands_in (x ∷ xs) x ≡ true
stands_first x xs = ap (λ o. is_eq o || stands_in xs x) (tied_itself value_cmp-total x)

rows_once : (values : List Value) → Asc values → (c : ℕ) (rows : Rows) → ((x : Value) → stands_in (map (λ row. cell row c) rows) x ≡ true → stands_in values x ≡ true) → AllByRecursion (HasOne values c) rows
rows_once values asc c [] h = tt
rows_once values asc c (row ∷ rows) h = (
  once (cell row c) values asc (h (cell row c) (stands_first (cell row c) (map (λ r. cell r c) rows))),
  rows_once values asc c rows (λ x k. h x (stands_right x (cell row c ∷ []) (map (λ r. cell r c) rows) k)),
)

leaves_once : (values : List Value) → Asc values → (a b : List Rows) (leaves : List Leaf) → ((x : Value) → stands_in (traced a leaves) x ≡ true → stands_in values x ≡ true) → ((x : Value) → stands_in (traced b leaves) x ≡ true → stands_in values x ≡ true)
    → HaveEach (union a b) leaves values
leaves_once values asc a b [] ha hb = tt
leaves_once values asc a b (leaf ∷ leaves) ha hb = (
  all_append (HasOne values leaf.column) (get_or a leaf.table []) (get_or b leaf.table [])
      (rows_once values asc leaf.column (get_or a leaf.table []) (λ x k. ha x (stands_left x (traced_by a leaf) (traced a leaves) k)))
      (rows_once values asc leaf.column (get_or b leaf.table []) (λ x k. hb x (stands_left x (traced_by b leaf) (traced b leaves) k))),
  leaves_once values asc a b leaves (λ x k. ha x (stands_right x (traced_by a leaf) (traced a leaves) k)) (λ x k. hb x (stands_right x (traced_by b leaf) (traced b leaves) k)),
)

-- ---- kinds of units
plain_a : (p q : Bool) → cond p (cond q Secure (Plain A)) (Plain B) ≡ Plain A → q ≡ false
plain_a true true e = absurd cc
plain_a true false e = refl
plain_a false q e = absurd (differ e)
  where
    other : UnitKind → Bool
    other (Plain A) = true
    other (Plain B) = false
    other Secure = false
    other Root = false

    differ : Plain B ≡ Plain A → ⊥
    differ e = let d : false ≡ true = ap other e in cc

plain_b : (p q : Bool) → cond p (cond q Secure (Plain A)) (Plain B) ≡ Plain B → p ≡ false
plain_b true true e = absurd cc
plain_b true false e = absurd (differ e)
  where
    other : UnitKind → Bool
    other (Plain A) = true
    other (Plain B) = false
    other Secure = false
    other Root = false

    differ : Plain A ≡ Plain B → ⊥
    differ e = let d : true ≡ false = ap other e in cc
plain_b false q e = refl

no_root : (p q : Bool) → cond p (cond q Secure (Plain A)) (Plain B) ≡ Root → ⊥
no_root true true e = absurd cc
no_root true false e = absurd cc
no_root false q e = absurd cc

-- ---- lists of slices
all_slices : (P : Slice → Type 0) (Q : Value → Type 0) (f : Value → Slice) → ((v : Value) → Q v → P (f v)) → (values : List Value) → AllByRecursion Q values → AllByRecursion P (map f values)
all_slices P Q f h [] k = tt
all_slices P Q f h (v ∷ vs) k = (h v k.0, all_slices P Q f h vs k.1)

slices_sum : (f : Value → Slice) (g : Value → Rows) → ((v : Value) → (f v).value ≡ v) → (values : List Value) → flat_map g values ≡ flat_map (λ (s : Slice). g s.value) (map f values)
slices_sum f g h [] = refl
slices_sum f g h (v ∷ vs) = ap₂ (λ (xs ys : Rows). xs ++ ys) (ap g (sym (h v))) (slices_sum f g h vs)

module _ (schema : SchemaModel) (a b : List Rows) (tables_a : AreTables schema a) (tables_b : AreTables schema b) (top : Node) (sound : (shape schema top).sound ≡ true) (sliced : slice_at (slices schema top) (slice_column schema top) ≡ true) where
  abbrev column : ℕ
  column = slice_column schema top

  abbrev leaves : List Leaf
  leaves = leaves_of schema top column

  abbrev dirs : Dirs
  dirs = both_dirs schema a b top

  abbrev meant : Value → Rows
  meant v = mean_at schema (union a b) v top column

  in_units : (x : Value) → stands_in (dirs.a ++ dirs.b) x ≡ true → stands_in (unit_values dirs) x ≡ true
  in_units x h = stands_ascending x (dirs.a ++ dirs.b) ∙ h

  each_value : HaveEach (union a b) leaves (unit_values dirs)
  each_value = leaves_once (unit_values dirs) (ascending_asc (dirs.a ++ dirs.b)) a b leaves
      (λ x h. in_units x (stands_left x dirs.a dirs.b (stands_ascending x (traced a leaves) ∙ h)))
      (λ x h. in_units x (stands_right x dirs.a dirs.b (stands_ascending x (traced b leaves) ∙ h)))

  plain_means : (tables : List Rows) → AreTables schema tables → (v : Value) → (sized schema 1 top column).longest ≤ 4096 → meant v ≡ mean_at schema (rows_of tables) v top column
      → PlainMeans (plain_rows schema tables v top) (meant v) (kinds schema top) (sized schema 1 top column).padding.room
  plain_means tables are v few e = record {
    same = subst (λ (rows : Rows). SameRows (plain_rows schema tables v top) rows) (sym e) (SameBag-refl same_row (plain_rows schema tables v top));
    of = plain_kinds schema tables are v top column sound sliced few;
    few = omega (arith, within_one schema tables v top column are.valid sliced, ap (λ (p : Padding). p.room) (sized_padding schema 1 top column));
  }

  module _ (output : Value → List ℕ) where
    unit_gives : (v : Value) (k : UnitKind) → kind_of dirs v ≡ k → UnitStands schema a b top output v k → UnitGives schema a b top output v (unit_len schema top k) k
    unit_gives v (Plain A) e few =
        let none : stands_in (traced b leaves) v ≡ false = sym (stands_ascending v (traced b leaves)) ∙ plain_a (stands_in dirs.a v) (stands_in dirs.b v) e in
        plain_means a tables_a v few (same_meaning schema (union a b) (rows_of a) v top column (alone_a a b v leaves none))
    unit_gives v (Plain B) e few =
        let none : stands_in (traced a leaves) v ≡ false = sym (stands_ascending v (traced a leaves)) ∙ plain_b (stands_in dirs.a v) (stands_in dirs.b v) e in
        plain_means b tables_b v few (same_meaning schema (union a b) (rows_of b) v top column (alone_b a b v leaves none))
    unit_gives v Secure e gives = gives
    unit_gives v Root e h = absurd (no_root (stands_in dirs.a v) (stands_in dirs.b v) e)

    abbrev slice_of : Value → Slice
    slice_of v = record { kind = kind_of dirs v; value = v; len = unit_len schema top (kind_of dirs v) }

    pub segment_gives : AllByRecursion (λ v. UnitStands schema a b top output v (kind_of dirs v)) (unit_values dirs) → SegmentGives schema a b top (unit_slices schema top dirs) output
    segment_gives stands =
        let traced_to : leaves ≡ _ = ap (λ (f : Followed (List Leaf)). f.at column) (survey_track schema top) in
        let adds = slices_add schema (union a b) top (unit_values dirs) leaves sliced traced_to (union_wide schema a b tables_a.valid tables_b.valid) each_value in
        record {
          sum = subst (λ (rows : Rows). SameRows (mean (union a b) top) rows) (slices_sum slice_of meant (λ v. refl) (unit_values dirs)) adds.sum;
          units = all_slices (λ (s : Slice). UnitGives schema a b top output s.value s.len s.kind) (λ v. UnitStands schema a b top output v (kind_of dirs v)) slice_of (λ v h. unit_gives v (kind_of dirs v) refl h) (unit_values dirs) stands;
        }

pub directories_mean : DirectoriesMean
directories_mean schema a b are_a are_b top sound sliced output stands = segment_gives schema a b are_a are_b top sound sliced output stands
