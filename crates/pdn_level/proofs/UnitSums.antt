-- A segment has no more rows than its units have room for together.
use Rattle.std.proofs.Common.{◌≡◌, ℕ, ◌≤◌, true, List, [], ◌∷◌, length, flat_map, sum_by, ap, subst, arith, length-append}
use Rattle.std.specs.List.{AllByRecursion}
use Rattle.std.proofs.lemmas.List.Sums.{sum_by-cons}
use Rattle.pdn_base.specs.declared.value.Value.{Value}
use Rattle.pdn_base.proofs.BagLaws.{SameBag-length}
use Rattle.pdn_base.proofs.RowLaws.{same_row-tests}
use Rattle.pdn_schema.specs.Models.{SchemaModel}
use Rattle.pdn_tree.specs.declared.node.Node.{Node}
use Rattle.pdn_tree.specs.Meaning.{Rows, mean}
use Rattle.pdn_level.specs.declared.staged.Leaf.{Leaf}
use Rattle.pdn_level.specs.Links.{slice_at}
use Rattle.pdn_level.specs.Slices.{Followed, slices}
use Rattle.pdn_level.specs.Levels.{leaves_of}
use Rattle.pdn_level.specs.Cutting.{mean_at, slice_column, AreWide, HaveEach}
use Rattle.pdn_level.specs.Padding.{IsFew, padding}
use Rattle.pdn_level.proofs.Tracks.{survey_track}
use Rattle.pdn_level.proofs.Sums.{slices_add}
use Rattle.pdn_level.proofs.PaddingLaws.{within_padding}

sum_fits : (f : Value → Rows) (room : Value → ℕ) → ((v : Value) → length (f v) ≤ room v) → (values : List Value) → length (flat_map f values) ≤ sum_by room values
sum_fits f room h [] = omega arith
sum_fits f room h (v ∷ vs) = omega (arith, length-append (f v) (flat_map f vs), h v, sum_fits f room h vs, sum_by-cons room v vs)

pub within_units : (schema : SchemaModel) (tables : ℕ → Rows) (values : List Value) (sites : Value → ℕ) (n : Node) → AreWide schema tables → slice_at (slices schema n) (slice_column schema n) ≡ true
    → HaveEach tables (leaves_of schema n (slice_column schema n)) values → ((v : Value) → AllByRecursion (IsFew schema tables (sites v) v) (leaves_of schema n (slice_column schema n)))
    → length (mean tables n) ≤ sum_by (λ v. (padding schema (sites v) n (slice_column schema n)).room) values
within_units schema tables values sites n wide sliced each few =
    let c : ℕ = slice_column schema n in
    let traced : leaves_of schema n c ≡ _ = ap (λ (t : Followed (List Leaf)). t.at c) (survey_track schema n) in
    let adds = slices_add schema tables n values (leaves_of schema n c) sliced traced wide each in
    omega (
      arith,
      SameBag-length same_row-tests adds.sum,
      sum_fits (λ v. mean_at schema tables v n c) (λ v. (padding schema (sites v) n c).room)
          (λ v. within_padding schema tables (sites v) v n c wide sliced (subst (λ (ls : List Leaf). AllByRecursion (IsFew schema tables (sites v) v) ls) traced (few v))) values,
    )
