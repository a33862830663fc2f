-- The circuits of a query, run in plain.
use Rattle.std.proofs.Common.{◌≡◌, ℕ, ◌+◌, true, false, List, [], ◌∷◌, ◌++◌, length, get_or, refl, sym, ap, ap₂, ◌∙◌, subst, arith, length-append, append_assoc}
use Rattle.std.specs.Prelude.{slice_index}
use Rattle.std.specs.List.{AllByRecursion}
use Rattle.std.proofs.lemmas.List.{get_or_at}
use Rattle.pdn_base.specs.declared.marks.Kind.{Kind}
use Rattle.pdn_base.specs.declared.value.Value.{Value}
use Rattle.pdn_base.specs.Operators.{Rows, SameRows}
use Rattle.pdn_schema.specs.Models.{SchemaModel}
use Rattle.pdn_schema.specs.Rows.{union}
use Rattle.pdn_tree.specs.declared.node.Node.{Node}
use Rattle.pdn_tree.specs.Meaning.{mean}
use Rattle.pdn_tree.specs.Shapes.{kinds}
use Rattle.pdn_circuit.specs.Gates.{InputWords, values, output_words}
use Rattle.pdn_circuit.specs.Building.{constants}
use Rattle.pdn_circuit.proofs.PlainLaws.{Satisfies-append, values_satisfy}
use Rattle.pdn_obl_rows.specs.Lists.{PaddedList, valid_rows}
use Rattle.pdn_obl_rows.specs.Encoding.{RowsAreOf, list_from, Stand}
use Rattle.pdn_level.specs.Cutting.{slice_column}
use Rattle.pdn_site.specs.declared.unit.UnitKind.{UnitKind}
use Rattle.pdn_site.specs.declared.unit.UnitKind.TheVariants.{Plain, Secure, Root}
use Rattle.pdn_site.specs.Laying.{Laying, nothing, list_words}
use Rattle.pdn_site.specs.Directories.{unit_values, kind_of}
use Rattle.pdn_site.specs.Circuits.{unit_list, root_list, net_of}
use Rattle.pdn_site.specs.Compiling.{root_sizes}
use Rattle.pdn_site.specs.Meaning.{Holds}
use Rattle.pdn_site.specs.RootMeaning.{segment_tops, parts_of_slices}
use Rattle.pdn_site.specs.DirectoryMeaning.{both_dirs, UnitRuns, UnitsRun}
use Rattle.pdn_site.specs.NetMeaning.{NetMeans, unit_inputs, unit_outputs, outputs_of, slices_of, root_inputs, UnitFits, UnitsFit, AnswerMeans}
use Rattle.pdn_site.proofs.OutputLaws.{output_means, length-words_out}
use Rattle.pdn_site.proofs.QueryLaws.{query_means}

-- the gates after the two constants
pub net_means : NetMeans
net_means released laying order inputs =
    let block = laying nothing 2 in
    let words : List ℕ = values inputs (net_of released laying).gates in
    let all = Satisfies-append inputs words 0 constants block.gates (values_satisfy inputs (net_of released laying).gates order) in
    record {
      ends = record { zeros = all.0.0; ones = all.0.1.0 };
      yields = record { at = 2; satisfied = all.1; gives = refl };
      outputs = refl;
    }

stands_there : (words : List ℕ) → Stand words 0 words
stands_there words = record { at = λ k h. let e : 0 + k ≡ k = omega arith in ap (slice_index words) e }

module _ (schema : SchemaModel) (a b : List Rows) (root : Node) where
  unit_runs : (top : Node) (output : Value → List ℕ) (v : Value) (k : UnitKind) → output v ≡ unit_outputs schema a b top v → UnitFits schema top v k → UnitRuns schema a b top output v k
  unit_runs top output v (Plain site) e h = h
  unit_runs top output v Secure e h =
      let inputs : InputWords = unit_inputs schema a b top v in
      let laying : Laying PaddedList = unit_list schema v top (slice_column schema top) in
      let run = net_means false laying h.1 inputs in (
        h.0,
        record {
          inputs = inputs;
          words = values inputs (net_of false laying).gates;
          ends = run.ends;
          stand_a = stands_there inputs.a;
          stand_b = stands_there inputs.b;
          list = (laying nothing 2).result.0;
          after = (laying nothing 2).result.1;
          yields = run.yields;
          outputs = e ∙ run.outputs;
        },
      )
  unit_runs top output v Root e h = tt

  each_runs : (top : Node) (output : Value → List ℕ) → ((v : Value) → output v ≡ unit_outputs schema a b top v) → (kind : Value → UnitKind) (vs : List Value) → AllByRecursion (λ v. UnitFits schema top v (kind v)) vs → AllByRecursion (λ v. UnitRuns schema a b top output v (kind v)) vs
  each_runs top output e kind [] h = tt
  each_runs top output e kind (v ∷ vs) h = (unit_runs top output v (kind v) (e v) h.0, each_runs top output e kind vs h.1)

  units_run : (before tops : List Node) (i : ℕ) → length before ≡ i → UnitsFit schema a b tops → UnitsRun schema a b (outputs_of schema a b root (before ++ tops)) i tops
  units_run before [] i e fits = tt
  units_run before (top ∷ tops) i e fits =
      let here : get_or (before ++ top ∷ tops) i root ≡ top = get_or_at before top tops root i e in (
        each_runs top (outputs_of schema a b root (before ++ top ∷ tops) i) (λ v. ap (λ (t : Node). unit_outputs schema a b t v) here) (kind_of (both_dirs schema a b top)) (unit_values (both_dirs schema a b top)) fits.0,
        subst (λ (all : List Node). UnitsRun schema a b (outputs_of schema a b root all) (i + 1) tops) (append_assoc before (top ∷ []) tops)
            (units_run (before ++ top ∷ []) tops (i + 1) (omega (arith, e, length-append before (top ∷ []))) fits.1),
      )

pub answer_means : AnswerMeans
answer_means schema a b are_a are_b root sound numbers units few order =
    let tops : List Node = segment_tops schema root in
    let laying : Laying PaddedList = root_list schema (parts_of_slices (slices_of schema a b root)) root in
    let inputs : InputWords = root_inputs schema a b root in
    let words : List ℕ = values inputs (net_of true laying).gates in
    let list : PaddedList = (laying nothing 2).result.0 in
    let run = net_means true laying order inputs in
    let held : Holds words list (kinds schema root) (root_sizes schema (parts_of_slices (slices_of schema a b root)) root).len (mean (union a b) root)
    = query_means schema a b are_a are_b root sound numbers (outputs_of schema a b root tops) (units_run schema a b root [] tops 0 refl units) few inputs words run.ends
    (stands_there inputs.a) (stands_there inputs.b) (stands_there inputs.given) list (laying nothing 2).result.1 run.yields in
    let outs : List ℕ = output_words inputs (net_of true laying) in
    let back : valid_rows outs (list_from 0 list.kinds list.len) ≡ valid_rows words list
    = output_means words list held.shaped outs 0 (subst (λ (ws : List ℕ). Stand outs 0 ws) run.outputs (stands_there outs)) in
    let read : valid_rows outs (list_from 0 (kinds schema root) (root_sizes schema (parts_of_slices (slices_of schema a b root)) root).len) ≡ valid_rows words list
    = ap₂ (λ (ks : List Kind) n. valid_rows outs (list_from 0 ks n)) (sym held.kinds) (sym held.len) ∙ back in
    record {
      count = ap length run.outputs ∙ length-words_out words list held.shaped ∙ ap₂ list_words held.kinds held.len;
      rows = subst (λ (rows : Rows). SameRows rows (mean (union a b) root)) (sym read) held.rows;
      are = subst (RowsAreOf (kinds schema root)) (sym read) held.are;
    }
