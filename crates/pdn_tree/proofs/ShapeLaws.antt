-- The shape of each node, by its children's; what a sound tree stays sound below.
use Rattle.std.proofs.Common.{◌≡◌, ℕ, Bool, true, false, not, ◌&&◌, nat_lt, nat_le, List, [], ◌∷◌, ◌++◌, map, length, Option, ap, ap₂, ◌∙◌, sym, refl}
use Rattle.std.proofs.lemmas.List.{length-map}
use Rattle.pdn_base.specs.declared.marks.Kind.{Kind}
use Rattle.pdn_base.specs.declared.marks.Kind.TheVariants as kind
use Rattle.pdn_base.specs.declared.order.Key.{Key}
use Rattle.pdn_schema.specs.Models.{SchemaModel}
use Rattle.pdn_tree.specs.declared.node.Node.{Node, Node-F, fold-roll-Node}
use Rattle.pdn_tree.specs.declared.node.Node.TheVariants.{rolls-Scan, rolls-Filter, rolls-Project, rolls-Join, rolls-Group, rolls-Count, rolls-Distinct, rolls-Number, rolls-Top}
use Rattle.pdn_tree.specs.declared.node.Node.TheVariants as node
use Rattle.pdn_tree.specs.Columns.{Clauses}
use Rattle.pdn_tree.specs.Shapes.{Shape, shaped, shape, shape_step, has_join, join_step, kind_at, all_within, cond_fits, key_columns, table_columns}

-- a shape that is sound
abbrev pub sound_shape : List Kind → Bool → Shape
sound_shape ks joins = record { kinds = ks; joins = joins; sound = true }

-- a tree that is sound, and the kinds of its columns
pub record Gives (schema : SchemaModel) (n : Node) (ks : List Kind) : Type 0 where
  pub shape_is : shape schema n ≡ sound_shape ks (has_join n)
  pub few : nat_le (length ks) 16 ≡ true

made : (ks : List Kind) (joins sound : Bool) → sound ≡ true → nat_le (length ks) 16 ≡ true → shaped ks joins sound ≡ sound_shape ks joins
made ks joins sound e f = ap₂ {C = Shape} (λ a b. record { kinds = ks; joins = joins; sound = a && b }) e f

pub gives-Scan : (schema : SchemaModel) (table : ℕ) (ks : List Kind) → map (λ c. c.kind) (table_columns schema table) ≡ ks → nat_lt table (length schema.tables) ≡ true → nat_le (length ks) 16 ≡ true → Gives schema (node.Scan table) ks
gives-Scan schema table ks e h few = record {
  shape_is = ap (shape schema) (sym (rolls-Scan table)) ∙ fold-roll-Node Shape (shape_step schema) (Node-F.Scan table)
      ∙ ap (λ ms. shaped ms false (nat_lt table (length schema.tables))) e ∙ made ks false _ h few
      ∙ ap (sound_shape ks) (sym (ap has_join (sym (rolls-Scan table)) ∙ fold-roll-Node Bool join_step (Node-F.Scan table)));
  few = few;
}

pub join-Filter : (n : Node) (cs : Clauses) → has_join (node.Filter n cs) ≡ has_join n
join-Filter n cs = ap has_join (sym (rolls-Filter n cs)) ∙ fold-roll-Node Bool join_step (Node-F.Filter n cs)

pub gives-Filter : (schema : SchemaModel) (n : Node) (ks : List Kind) (cs : Clauses) → Gives schema n ks → cond_fits ks cs ≡ true → Gives schema (node.Filter n cs) ks
gives-Filter schema n ks cs h e = record {
  shape_is = ap (shape schema) (sym (rolls-Filter n cs)) ∙ fold-roll-Node Shape (shape_step schema) (Node-F.Filter n cs)
      ∙ ap (λ s. shape_step schema (Node-F.Filter s cs)) h.shape_is ∙ made ks (has_join n) _ e h.few
      ∙ ap (sound_shape ks) (sym (join-Filter n cs));
  few = h.few;
}

pub join-Project : (n : Node) (columns : List ℕ) → has_join (node.Project n columns) ≡ has_join n
join-Project n columns = ap has_join (sym (rolls-Project n columns)) ∙ fold-roll-Node Bool join_step (Node-F.Project n columns)

pub gives-Project : (schema : SchemaModel) (n : Node) (ks : List Kind) (columns : List ℕ) → Gives schema n ks → all_within ks columns ≡ true → nat_le (length columns) 16 ≡ true
    → Gives schema (node.Project n columns) (map (kind_at ks) columns)
gives-Project schema n ks columns h e f =
    let few : nat_le (length (map (kind_at ks) columns)) 16 ≡ true = ap (λ w. nat_le w 16) (length-map columns (kind_at ks)) ∙ f in
    record {
      shape_is = ap (shape schema) (sym (rolls-Project n columns)) ∙ fold-roll-Node Shape (shape_step schema) (Node-F.Project n columns)
          ∙ ap (λ s. shape_step schema (Node-F.Project s columns)) h.shape_is ∙ made (map (kind_at ks) columns) (has_join n) _ e few
          ∙ ap (sound_shape (map (kind_at ks) columns)) (sym (join-Project n columns));
      few = few;
    }

pub gives-Join : (schema : SchemaModel) (l r : Node) (ks ms : List Kind) (on : Clauses) → Gives schema l ks → Gives schema r ms → cond_fits (ks ++ ms) on ≡ true → nat_le (length (ks ++ ms)) 16 ≡ true
    → Gives schema (node.Join l r on) (ks ++ ms)
gives-Join schema l r ks ms on h k e few = record {
  shape_is = ap (shape schema) (sym (rolls-Join l r on)) ∙ fold-roll-Node Shape (shape_step schema) (Node-F.Join l r on)
      ∙ ap₂ (λ s t. shape_step schema (Node-F.Join s t on)) h.shape_is k.shape_is ∙ made (ks ++ ms) true _ e few
      ∙ ap (sound_shape (ks ++ ms)) (sym (ap has_join (sym (rolls-Join l r on)) ∙ fold-roll-Node Bool join_step (Node-F.Join l r on)));
  few = few;
}

pub join-Group : (n : Node) (keys : List ℕ) (having : Option ℕ) → has_join (node.Group n keys having) ≡ has_join n
join-Group n keys having = ap has_join (sym (rolls-Group n keys having)) ∙ fold-roll-Node Bool join_step (Node-F.Group n keys having)

pub gives-Group : (schema : SchemaModel) (n : Node) (ks : List Kind) (keys : List ℕ) (having : Option ℕ) → Gives schema n ks → all_within ks keys ≡ true → has_join n ≡ false
    → nat_le (length (map (kind_at ks) keys ++ kind.Int ∷ [])) 16 ≡ true → Gives schema (node.Group n keys having) (map (kind_at ks) keys ++ kind.Int ∷ [])
gives-Group schema n ks keys having h e single few = record {
  shape_is = ap (shape schema) (sym (rolls-Group n keys having)) ∙ fold-roll-Node Shape (shape_step schema) (Node-F.Group n keys having)
      ∙ ap (λ s. shape_step schema (Node-F.Group s keys having)) h.shape_is
      ∙ made (map (kind_at ks) keys ++ kind.Int ∷ []) (has_join n) _ (ap₂ (λ a b. a && not b) e single) few
      ∙ ap (sound_shape (map (kind_at ks) keys ++ kind.Int ∷ [])) (sym (join-Group n keys having));
  few = few;
}

pub join-Count : (n : Node) → has_join (node.Count n) ≡ has_join n
join-Count n = ap has_join (sym (rolls-Count n)) ∙ fold-roll-Node Bool join_step (Node-F.Count n)

pub gives-Count : (schema : SchemaModel) (n : Node) (ks : List Kind) → Gives schema n ks → has_join n ≡ false → Gives schema (node.Count n) (kind.Int ∷ [])
gives-Count schema n ks h single = record {
  shape_is = ap (shape schema) (sym (rolls-Count n)) ∙ fold-roll-Node Shape (shape_step schema) (Node-F.Count n)
      ∙ ap (λ s. shape_step schema (Node-F.Count s)) h.shape_is ∙ made (kind.Int ∷ []) (has_join n) _ (ap not single) refl
      ∙ ap (sound_shape (kind.Int ∷ [])) (sym (join-Count n));
  few = refl;
}

pub join-Distinct : (n : Node) → has_join (node.Distinct n) ≡ has_join n
join-Distinct n = ap has_join (sym (rolls-Distinct n)) ∙ fold-roll-Node Bool join_step (Node-F.Distinct n)

pub gives-Distinct : (schema : SchemaModel) (n : Node) (ks : List Kind) → Gives schema n ks → Gives schema (node.Distinct n) ks
gives-Distinct schema n ks h = record {
  shape_is = ap (shape schema) (sym (rolls-Distinct n)) ∙ fold-roll-Node Shape (shape_step schema) (Node-F.Distinct n)
      ∙ ap (λ s. shape_step schema (Node-F.Distinct s)) h.shape_is ∙ made ks (has_join n) _ refl h.few
      ∙ ap (sound_shape ks) (sym (join-Distinct n));
  few = h.few;
}

pub join-Number : (n : Node) (partition : List ℕ) (order : List Key) → has_join (node.Number n partition order) ≡ has_join n
join-Number n partition order = ap has_join (sym (rolls-Number n partition order)) ∙ fold-roll-Node Bool join_step (Node-F.Number n partition order)

pub gives-Number : (schema : SchemaModel) (n : Node) (ks : List Kind) (partition : List ℕ) (order : List Key) → Gives schema n ks → all_within ks (partition ++ key_columns order) ≡ true → has_join n ≡ false
    → nat_le (length (ks ++ kind.Int ∷ [])) 16 ≡ true → Gives schema (node.Number n partition order) (ks ++ kind.Int ∷ [])
gives-Number schema n ks partition order h e single few = record {
  shape_is = ap (shape schema) (sym (rolls-Number n partition order)) ∙ fold-roll-Node Shape (shape_step schema) (Node-F.Number n partition order)
      ∙ ap (λ s. shape_step schema (Node-F.Number s partition order)) h.shape_is
      ∙ made (ks ++ kind.Int ∷ []) (has_join n) _ (ap₂ (λ a b. a && not b) e single) few
      ∙ ap (sound_shape (ks ++ kind.Int ∷ [])) (sym (join-Number n partition order));
  few = few;
}

pub gives-Top : (schema : SchemaModel) (n : Node) (ks : List Kind) (order : List Key) (limit : Option ℕ) → Gives schema n ks → all_within ks (key_columns order) ≡ true → Gives schema (node.Top n order limit) ks
gives-Top schema n ks order limit h e = record {
  shape_is = ap (shape schema) (sym (rolls-Top n order limit)) ∙ fold-roll-Node Shape (shape_step schema) (Node-F.Top n order limit)
      ∙ ap (λ s. shape_step schema (Node-F.Top s order limit)) h.shape_is ∙ made ks (has_join n) _ e h.few
      ∙ ap (sound_shape ks) (sym (ap has_join (sym (rolls-Top n order limit)) ∙ fold-roll-Node Bool join_step (Node-F.Top n order limit)));
  few = h.few;
}
