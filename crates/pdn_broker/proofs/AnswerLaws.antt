-- The root's opened words hold the answer.
use Rattle.std.proofs.Common.{◌≡◌, ℕ, ◌≤◌, true, List, sym, ap, subst}
use Rattle.pdn_base.specs.Operators.{Rows, listed}
use Rattle.pdn_schema.specs.Models.{SchemaModel}
use Rattle.pdn_schema.specs.Rows.{union}
use Rattle.pdn_tree.specs.declared.node.Node.{Node}
use Rattle.pdn_tree.specs.Meaning.{mean}
use Rattle.pdn_tree.specs.Shapes.{kinds, shape, is_top}
use Rattle.pdn_circuit.specs.Gates.{InOrder, output_words}
use Rattle.pdn_obl_rows.specs.Lists.{valid_rows}
use Rattle.pdn_obl_rows.specs.Encoding.{list_from}
use Rattle.pdn_site.specs.Compiling.{root_sizes}
use Rattle.pdn_site.specs.Meaning.{AreTables, numbers_fit}
use Rattle.pdn_site.specs.RootMeaning.{segment_tops, parts_of_slices}
use Rattle.pdn_site.specs.NetMeaning.{Reads, UnitsFit, slices_of, root_net, root_inputs}
use Rattle.pdn_site.proofs.NetLaws.{answer_means}
use Rattle.pdn_broker.specs.Runs.{Both, Shared, world}
use Rattle.pdn_broker.specs.Answering.{root_own, root_len, top_order}
use Rattle.pdn_broker.proofs.Ordered.{mean_listed}

-- the root's circuit takes what both sites' shares of its given words come to
pub opens_plain : (schema : SchemaModel) (a b : List Rows) (root : Node) (given : Both) → Shared given.a given.b (root_inputs schema a b root).given
    → output_words (world (root_own schema a b root) given).inputs (root_net schema a b root) ≡ output_words (root_inputs schema a b root) (root_net schema a b root)
opens_plain schema a b root given shared =
    ap (λ (words : List ℕ). output_words (record { a = (root_own schema a b root).a; b = (root_own schema a b root).b; given = words }) (root_net schema a b root)) shared.opens

-- what the opened words come to
pub record Answers (schema : SchemaModel) (a b : List Rows) (root : Node) (opened : List ℕ) : Type 0 where
  pub reads : Reads opened (kinds schema root) (root_len schema a b root) (mean (union a b) root)
  pub rows : listed (top_order root) (valid_rows opened (list_from 0 (kinds schema root) (root_len schema a b root))) ≡ mean (union a b) root

-- the root's opened words hold the answer, where they are those of its circuit in plain
pub answers_from : (schema : SchemaModel) (a b : List Rows) → AreTables schema a → AreTables schema b → (root : Node) → (shape schema root).sound ≡ true → numbers_fit root ≡ true → is_top root ≡ true
    → UnitsFit schema a b (segment_tops schema root) → (root_sizes schema (parts_of_slices (slices_of schema a b root)) root).longest ≤ 4096 → InOrder (root_net schema a b root).gates
    → (words : List ℕ) → words ≡ output_words (root_inputs schema a b root) (root_net schema a b root) → Answers schema a b root words
answers_from schema a b are_a are_b root sound numbers top units few order words opened =
    let reads : Reads words (kinds schema root) (root_len schema a b root) (mean (union a b) root)
    = subst (λ (ws : List ℕ). Reads ws (kinds schema root) (root_len schema a b root) (mean (union a b) root)) (sym opened) (answer_means schema a b are_a are_b root sound numbers units few order) in
    record {
      reads = reads;
      rows = mean_listed (union a b) root (valid_rows words (list_from 0 (kinds schema root) (root_len schema a b root))) top reads.rows;
    }
